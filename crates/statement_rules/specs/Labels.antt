-- Sets of the labels of statements.
use Rattle.std.specs.Prelude.{◌≡◌, ℕ, List}
use Rattle.std.specs.BTreeSet.{BTreeSet, contains}
use Rattle.std.specs.List.{list_any}
use Rattle.std.specs.Ordering.{nat_cmp}
use Rattle.meaning.specs.LabelRules.{has_label}
use Rattle.meaning.specs.Syntax.{ItemTree}

-- a set has exactly the labels of these statements
abbrev pub AreLabels : List ItemTree → BTreeSet ℕ → Type 0
AreLabels before labels = (s : ℕ) → contains nat_cmp labels s ≡ list_any (has_label s) before
