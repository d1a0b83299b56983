-- What is kept under a name, in place of what was kept there.
use Rattle.std.proofs.Common.{◌≡◌, ℕ, Bool, true, false, List, [], ◌∷◌, Some, None, cond, refl, sym, ap, ◌∙◌}
use Rattle.std.specs.Prelude.{if◌then◌else◌}
use Rattle.std.specs.Global.{Vec}
use Rattle.std.specs.Map.{lookup}
use Rattle.std.specs.Str.{bytes_eq}
use Rattle.std.proofs.lemmas.Slice.Eq.{bytes_eq-Decides}
use Rattle.indexmap.specs.IndexMap.{IndexMap, insert_entry}
use Rattle.name_maps.specs.Keeping.{kept_at}

module _ {V : Type 0} (n : List ℕ) (own : Vec ℕ) (v : V) where
  looked_put : (es : List (Vec ℕ × V)) → lookup (λ k. bytes_eq n k.items) (insert_entry (λ a b. bytes_eq a.items b.items) es own v) ≡ (if bytes_eq n own.items then Some v else lookup (λ k. bytes_eq n k.items) es)
  looked_put [] = by_test (bytes_eq n own.items)
    where
      by_test : (b : Bool) → cond b (Some v) None ≡ (if b then Some v else None)
      by_test true = refl
      by_test false = refl
  looked_put (e ∷ es) = by_tests (bytes_eq own.items e.0.items) (bytes_eq n e.0.items) (bytes_eq n own.items) refl refl refl (looked_put es)
    where
      by_tests : (b t u : Bool) → bytes_eq own.items e.0.items ≡ b → bytes_eq n e.0.items ≡ t → bytes_eq n own.items ≡ u → lookup (λ k. bytes_eq n k.items) (insert_entry (λ a b. bytes_eq a.items b.items) es own v) ≡ (if u then Some v else lookup (λ k. bytes_eq n k.items) es) → lookup (λ k. bytes_eq n k.items) (if b then (e.0, v) ∷ es else e ∷ insert_entry (λ a b. bytes_eq a.items b.items) es own v) ≡ (if u then Some v else cond t (Some e.1) (lookup (λ k. bytes_eq n k.items) es))
      by_tests true t u same here wanted rest =
          let equal : t ≡ u = sym here ∙ ap (bytes_eq n) (sym ((bytes_eq-Decides own.items e.0.items).0 same)) ∙ wanted in
          ap (λ x. cond x (Some v) (lookup (λ k. bytes_eq n k.items) es)) (here ∙ equal) ∙ settled u t equal
        where
          settled : (x y : Bool) → y ≡ x → cond x (Some v) (lookup (λ k. bytes_eq n k.items) es) ≡ (if x then Some v else cond y (Some e.1) (lookup (λ k. bytes_eq n k.items) es))
          settled true y h = refl
          settled false true h = absurd cc
          settled false false h = refl
      by_tests false true true other here wanted rest =
          absurd (differ (sym other ∙ (bytes_eq-Decides own.items e.0.items).1 (sym ((bytes_eq-Decides n own.items).0 wanted) ∙ (bytes_eq-Decides n e.0.items).0 here)))
        where
          differ : false ≡ true → ⊥
          differ h = cc
      by_tests false true false other here wanted rest =
          ap (λ x. cond x (Some e.1) (lookup (λ k. bytes_eq n k.items) (insert_entry (λ a b. bytes_eq a.items b.items) es own v))) here
      by_tests false false u other here wanted rest =
          ap (λ x. cond x (Some e.1) (lookup (λ k. bytes_eq n k.items) (insert_entry (λ a b. bytes_eq a.items b.items) es own v))) here ∙ rest

pub kept_put : {V S : Type 0} (m new : IndexMap (Vec ℕ) V S) (own : Vec ℕ) (name : List ℕ) (v : V) (n : List ℕ) → own.items ≡ name → new.entries ≡ insert_entry (λ a b. bytes_eq a.items b.items) m.entries own v → kept_at new n ≡ (if bytes_eq n name then Some v else kept_at m n)
kept_put m new own name v n same added =
    ap (lookup (λ k. bytes_eq n k.items)) added ∙ looked_put n own v m.entries
    ∙ ap (λ x. if bytes_eq n x then Some v else kept_at m n) same
