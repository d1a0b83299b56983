-- Constants by their names, one name more.
use Rattle.std.proofs.Common.{◌≡◌, ℕ, ◌+◌, ◌<◌, Bool, true, false, true≢false, List, [], ◌∷◌, ◌++◌, length, get_or, take, map, Option, Some, None, refl, sym, ap, ◌∙◌, cond}
use Rattle.std.specs.Prelude.{if◌then◌else◌}
use Rattle.std.specs.List.{fold}
use Rattle.std.specs.Global.{Vec}
use Rattle.std.specs.Map.{lookup}
use Rattle.std.specs.Str.{bytes_eq}
use Rattle.std.proofs.lemmas.Slice.Eq.{bytes_eq-Decides}
use Rattle.std.proofs.lemmas.List.Sums.{fold-append}
use Rattle.indexmap.specs.IndexMap.{IndexMap, insert_entry}
use Rattle.meaning.specs.declared.ending.Value.{Value}
use Rattle.meaning.specs.declared.syntax.NamedConstant.{NamedConstant}
use Rattle.meaning.specs.Syntax.{ItemTree, constant_tree, expr_tree}
use Rattle.meaning.specs.Types.{Types}
use Rattle.meaning.specs.Values.{Known}
use Rattle.meaning.specs.Scopes.{constant_value, known_behind, known_of, nothing_known, with_constant}
use Rattle.name_maps.specs.Keeping.{kept_at}
use Rattle.symbols.proofs.Passes.{map_more}
use Rattle.declarations.specs.KnownNames.{known_in, value_kept, with_name}

same_name : (own name other : List ℕ) → bytes_eq own other ≡ false → bytes_eq name other ≡ true → bytes_eq name own ≡ false
same_name own name other apart same = by_test (bytes_eq name own) refl
  where
    by_test : (b : Bool) → bytes_eq name own ≡ b → b ≡ false
    by_test false e = refl
    by_test true e =
        absurd (true≢false (sym ((bytes_eq-Decides own other).1 (sym ((bytes_eq-Decides name own).0 e) ∙ (bytes_eq-Decides name other).0 same)) ∙ apart))

-- a look-up behind an insertion
pub looked_inserted : {V : Type 0} (name : List ℕ) (es : List (Vec ℕ × V)) (own : Vec ℕ) (v : V) → lookup (λ k. bytes_eq name k.items) (insert_entry (λ a b. bytes_eq a.items b.items) es own v) ≡ (if bytes_eq name own.items then Some v else lookup (λ k. bytes_eq name k.items) es)
looked_inserted name [] own v = by_test (bytes_eq name own.items)
  where
    by_test : (b : Bool) → cond b (Some v) None ≡ (if b then Some v else None)
    by_test true = refl
    by_test false = refl
looked_inserted name (e ∷ es) own v = by_test (looked_inserted name es own v) (bytes_eq own.items e.0.items) refl
  where
    both : (b : Bool) → cond b (Some v) (lookup (λ k. bytes_eq name k.items) es) ≡ (if b then Some v else cond b (Some e.1) (lookup (λ k. bytes_eq name k.items) es))
    both true = refl
    both false = refl

    apart : (b c : Bool) → (b ≡ true → c ≡ false) → cond b (Some e.1) (if c then Some v else lookup (λ k. bytes_eq name k.items) es) ≡ (if c then Some v else cond b (Some e.1) (lookup (λ k. bytes_eq name k.items) es))
    apart true true h = absurd (true≢false (h refl))
    apart true false h = refl
    apart false true h = refl
    apart false false h = refl

    by_test : lookup (λ k. bytes_eq name k.items) (insert_entry (λ a b. bytes_eq a.items b.items) es own v) ≡ (if bytes_eq name own.items then Some v else lookup (λ k. bytes_eq name k.items) es) → (b : Bool) → bytes_eq own.items e.0.items ≡ b → lookup (λ k. bytes_eq name k.items) (if b then (e.0, v) ∷ es else e ∷ insert_entry (λ a b. bytes_eq a.items b.items) es own v) ≡ (if bytes_eq name own.items then Some v else lookup (λ k. bytes_eq name k.items) (e ∷ es))
    by_test rest true same =
        both (bytes_eq name e.0.items) ∙ ap (λ n. if bytes_eq name n then Some v else cond (bytes_eq name e.0.items) (Some e.1) (lookup (λ k. bytes_eq name k.items) es)) (sym ((bytes_eq-Decides own.items e.0.items).0 same))
    by_test rest false other =
        ap (λ r. cond (bytes_eq name e.0.items) (Some e.1) r) rest
        ∙ apart (bytes_eq name e.0.items) (bytes_eq name own.items) (λ same. same_name own.items name e.0.items other same)

kept_if : (b : Bool) (o : Option Value) (p : Option (Option Value)) → value_kept (if b then Some o else p) ≡ (if b then o else value_kept p)
kept_if true o p = refl
kept_if false o p = refl

pub known_put : {S : Type 0} (m new : IndexMap (Vec ℕ) (Option Value) S) (own : Vec ℕ) (name : List ℕ) (o : Option Value) → own.items ≡ name → new.entries ≡ insert_entry (λ a b. bytes_eq a.items b.items) m.entries own o → known_in new ≡ with_name name o (known_in m)
known_put m new own name o same added = λ j n. at n j
  where
    at : (n : List ℕ) → known_in new n ≡ with_name name o (known_in m) n
    at n =
        ap (λ es. value_kept (lookup (λ k. bytes_eq n k.items) es)) added ∙ ap value_kept (looked_inserted n m.entries own o)
        ∙ kept_if (bytes_eq n own.items) o (kept_at m n)
        ∙ ap (λ x. if bytes_eq n x then o else known_in m n) same

-- ---- the constants of a statement

pub constants_more : (types : Types) (first : Known) (cs : List NamedConstant) (i : ℕ) (c : NamedConstant) (now next : Known) (o : Option Value) → i < length cs → c ≡ get_or cs i c → now ≡ fold (with_constant types) first (map constant_tree (take i cs)) → o ≡ constant_value types now (expr_tree c.value) → next ≡ with_name c.name.items o now → next ≡ fold (with_constant types) first (map constant_tree (take (i + 1) cs))
constants_more types first cs i c now next o lt is so_far valued added =
    added ∙ ap (λ x. with_name c.name.items x now) valued ∙ ap (λ k. with_constant types k (constant_tree c)) so_far
    ∙ sym (fold-append (with_constant types) first (map constant_tree (take i cs)) (constant_tree c ∷ []))
    ∙ ap (fold (with_constant types) first) (sym (map_more constant_tree cs i c lt is))

-- ---- statements

pub known_push : (types : Types) (before : List ItemTree) (x : ItemTree) → known_of types (before ++ x ∷ []) ≡ known_behind types (known_of types before) x.shape
known_push types before x = fold-append (λ known y. known_behind types known y.shape) nothing_known before (x ∷ [])
