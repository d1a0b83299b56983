-- The first statement that breaks a rule stands behind those that break none.
use Rattle.std.proofs.Common.{◌≡◌, List, [], ◌∷◌, ◌++◌, None, ap}
use Rattle.meaning.specs.Syntax.{ItemTree}
use Rattle.meaning.specs.Nesting.{Unfinished, past, breaks, told_first, first_broken}

pub goes_first : (before : List ItemTree) (z : Unfinished) (x : ItemTree) (xs : List ItemTree) → breaks before z x ≡ None
    → first_broken before z (x ∷ xs) ≡ first_broken (before ++ x ∷ []) (past z x) xs
goes_first before z x xs h = ap (λ o. told_first x o (first_broken (before ++ x ∷ []) (past z x) xs)) h
