-- What is told of names, one name more.
use Rattle.std.proofs.Common.{◌≡◌, ℕ, ◌+◌, ◌<◌, List, [], ◌∷◌, ◌++◌, length, get_or, drop, sym, ap, ◌∙◌, Option}
use Rattle.std.specs.Borrow.{Bor}
use Rattle.std.specs.Option.{option_or}
use Rattle.meaning.specs.Syntax.{ItemTree}
use Rattle.meaning.specs.Uses.{Symbols, is_one_of}
use Rattle.symbols.proofs.Passes.{map_left}
use Rattle.name_uses.specs.Held.{names_at}
use Rattle.name_culprits.specs.declared.culprit.Giving.{Giving}
use Rattle.name_culprits.specs.Names.{again_in, given_before, seen_told, shared_in}
use Rattle.name_culprits.specs.Told.{Told}

module _ (r : Symbols) (k : Giving) (before : List ItemTree) (xs : List (Bor (List ℕ))) (i : ℕ) (x : Bor (List ℕ)) (o : Option Told) where
  pub again_left : (line : ℕ) (seen : List (List ℕ)) → i < length xs → x ≡ get_or xs i x → o ≡ option_or (given_before r k before x.now) (seen_told k line (is_one_of seen x.now) x.now) → option_or o (again_in r k before line (seen ++ x.now ∷ []) (names_at (drop (i + 1) xs))) ≡ again_in r k before line seen (names_at (drop i xs))
  again_left line seen lt is here =
      ap (λ p. option_or p (again_in r k before line (seen ++ x.now ∷ []) (names_at (drop (i + 1) xs)))) here
      ∙ ap (again_in r k before line seen) (sym (map_left (λ (y : Bor (List ℕ)). y.now) xs i x lt is))

  pub shared_left : i < length xs → x ≡ get_or xs i x → o ≡ given_before r k before x.now → option_or o (shared_in r k before (names_at (drop (i + 1) xs))) ≡ shared_in r k before (names_at (drop i xs))
  shared_left lt is here =
      ap (λ p. option_or p (shared_in r k before (names_at (drop (i + 1) xs)))) here
      ∙ ap (shared_in r k before) (sym (map_left (λ (y : Bor (List ℕ)). y.now) xs i x lt is))
