-- DATA statements that were passed, and the least pair of broken rules.
use Rattle.std.specs.Prelude.{◌≡◌, ◌≤◌, ℕ, Bool, true, false, List, [], ◌∷◌, ◌++◌, is_some, Option}
use Rattle.std.specs.Prelude.{Some, None}
use Rattle.meaning.specs.declared.refusal.Broken.{Broken}
use Rattle.meaning.specs.declared.refusal.Rule.TheVariants.{K10}
use Rattle.meaning.specs.Initial.{has_bad_data}
use Rattle.meaning.specs.NameRules.{told}
use Rattle.meaning.specs.NumberRules.{sizeless_in}
use Rattle.meaning.specs.Refusals.{is_less, least, merge}
use Rattle.meaning.specs.Syntax.{ItemTree}
use Rattle.meaning.specs.Uses.{Symbols}
use Rattle.data_rules.specs.declared.filling.Filling.{Filling}
use Rattle.declarations.specs.declared.known.Table.{Table}
use Rattle.data_rules.specs.declared.starting.Passed.{Passed}
use Rattle.symbols.specs.SymbolsAt.{symbols_at}
use Rattle.data_rules.specs.DataSets.{IsFilledBy, stage_by}
use Rattle.declarations.specs.Tables.{IsBehind}

-- whether a DATA statement at a line would break its rule before others are broken
abbrev pub comes_first : ℕ → Option Broken → Bool
comes_first line None = true
comes_first line (Some b) = is_less (record { line = line; rule = K10 }) b

-- what was given, where no pair was told before
abbrev pub IsFilledOr : Symbols → List ItemTree → Bool → Option Filling → Type 0
IsFilledOr r before told_one None = told_one ≡ true
IsFilledOr r before told_one (Some f) = IsFilledBy r before (stage_by f)

pub record IsPassed (r : Symbols) (others : Option Broken) (before : List ItemTree) (p : Passed) :
    Type 0 where
  pub broken : p.broken ≡ merge others (least (told (has_bad_data r) K10 [] before))
  pub filling : IsFilledOr r before (is_some p.broken) p.filling

-- where statements aren't filled any more, none at this line would break its rule before others are
-- broken
abbrev pub IsSettled : ℕ → Passed → Type 0
IsSettled line p = p.filling ≡ None → comes_first line p.broken ≡ false

-- nor at one behind it
abbrev pub IsSettledBehind : ℕ → Passed → Type 0
IsSettledBehind line p = (n : ℕ) → line ≤ n → IsSettled n p

-- a statement is passed behind others, among which these arrays have no size
abbrev pub GoesOn : Table → List (List ℕ) → ItemTree → Passed → Passed → Type 0
GoesOn t sizeless x p q =
    (others : Option Broken) (before : List ItemTree) → IsBehind t before → sizeless
    ≡ sizeless_in (symbols_at t.symbols.now) [] before →
    IsPassed (symbols_at t.symbols.now) others before p →
    IsPassed (symbols_at t.symbols.now) others (before ++ x ∷ []) q
