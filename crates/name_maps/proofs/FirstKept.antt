-- What is kept by names, a name more.
use Rattle.std.proofs.Common.{◌≡◌, ℕ, Bool, true, false, List, [], ◌∷◌, ◌++◌, Option, Some, None, refl, ap, ◌∙◌, cond}
use Rattle.std.specs.Prelude.{if◌then◌else◌, is_some}
use Rattle.std.specs.Option.{option_or}
use Rattle.std.specs.Global.{Vec}
use Rattle.std.specs.Map.{lookup}
use Rattle.std.specs.Str.{bytes_eq}
use Rattle.std.proofs.lemmas.Slice.Eq.{bytes_eq-Decides}
use Rattle.indexmap.specs.IndexMap.{IndexMap, insert_entry}
use Rattle.indexmap.proofs.CallerLemmas.{insert_entry-new}
use Rattle.name_maps.specs.Keeping.{kept_at}

pub or_none : {V : Type 0} (o : Option V) → o ≡ option_or o None
or_none None = refl
or_none (Some v) = refl

or_there : {V : Type 0} (o p : Option V) → is_some o ≡ true → o ≡ option_or o p
or_there (Some v) p h = refl
or_there None p h = absurd cc

none_there : {V : Type 0} (o : Option V) → is_some o ≡ false → o ≡ None
none_there None h = refl
none_there (Some k) h = absurd cc

-- a look-up in entries with one put last
looked_push : {V : Type 0} (test : Vec ℕ → Bool) (es : List (Vec ℕ × V)) (k : Vec ℕ) (v : V) → lookup test (es ++ (k, v) ∷ []) ≡ option_or (lookup test es) (if test k then Some v else None)
looked_push test [] k v = by_test (test k)
  where
    by_test : (b : Bool) → cond b (Some v) None ≡ (if b then Some v else None)
    by_test true = refl
    by_test false = refl
looked_push test (e ∷ es) k v = by_test (test e.0) (looked_push test es k v)
  where
    by_test : (b : Bool) → lookup test (es ++ (k, v) ∷ []) ≡ option_or (lookup test es) (if test k then Some v else None) → cond b (Some e.1) (lookup test (es ++ (k, v) ∷ [])) ≡ option_or (cond b (Some e.1) (lookup test es)) (if test k then Some v else None)
    by_test true h = refl
    by_test false h = h

-- a name that is there keeps what it has
pub kept_there : {V S : Type 0} (m : IndexMap (Vec ℕ) V S) (name : List ℕ) (v : V) (n : List ℕ) → is_some (kept_at m name) ≡ true → kept_at m n ≡ option_or (kept_at m n) (if bytes_eq n name then Some v else None)
kept_there m name v n there = by_test (bytes_eq n name) refl
  where
    by_test : (b : Bool) → bytes_eq n name ≡ b → kept_at m n ≡ option_or (kept_at m n) (if b then Some v else None)
    by_test true same = or_there (kept_at m n) (Some v) (ap (λ k. is_some (kept_at m k)) ((bytes_eq-Decides n name).0 same) ∙ there)
    by_test false other = or_none (kept_at m n)

-- a new name goes last
pub kept_new : {V S : Type 0} (m new : IndexMap (Vec ℕ) V S) (own : Vec ℕ) (name : List ℕ) (v : V) (n : List ℕ) → own.items ≡ name → is_some (kept_at m name) ≡ false → new.entries ≡ insert_entry (λ a b. bytes_eq a.items b.items) m.entries own v → kept_at new n ≡ option_or (kept_at m n) (if bytes_eq n name then Some v else None)
kept_new m new own name v n same unknown added =
    let none : kept_at m own.items ≡ None = ap (kept_at m) same ∙ none_there (kept_at m name) unknown in
    ap (lookup (λ k. bytes_eq n k.items)) (added ∙ insert_entry-new (λ a b. bytes_eq a.items b.items) m own v none)
    ∙ looked_push (λ k. bytes_eq n k.items) m.entries own v
    ∙ ap (λ x. option_or (kept_at m n) (if bytes_eq n x then Some v else None)) same
