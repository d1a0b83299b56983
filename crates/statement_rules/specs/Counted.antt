-- How often labels stand among statements.
use Rattle.std.specs.Prelude.{◌≡◌, ◌+◌, ◌-◌, ◌≤◌, ◌^◌, ℕ, suc, Bool, true, false, List, length}
use Rattle.std.specs.Prelude.{Option, Some, None, count_by, map}
use Rattle.std.specs.Borrow.{Bor}
use Rattle.std.specs.Ordering.{nat_cmp}
use Rattle.std.specs.BTreeMap.{BTreeMap, get}
use Rattle.std.specs.Global.{Vec}
use Rattle.meaning.specs.declared.syntax.Arm.{Arm}
use Rattle.meaning.specs.declared.syntax.Item.{Item}
use Rattle.meaning.specs.declared.syntax.Member.{Member}
use Rattle.meaning.specs.LabelRules.{has_label, is_label_at}
use Rattle.meaning.specs.Surroundings.{head_of, own_items}
use Rattle.meaning.specs.Trees.{Members, arms_tree, members_tree}
use Rattle.rule_passes.specs.Listed.{tree_at}

-- by the lines that are kept of it
abbrev pub how_many : Option (Vec ℕ) → ℕ
how_many None = 0
how_many (Some lines) = length lines.items

abbrev pub count_in : BTreeMap ℕ (Vec ℕ) → ℕ → ℕ
count_in lines s = how_many (get nat_cmp lines s)

-- one more, or one less, where the label is this one
abbrev pub one_more : Bool → ℕ → ℕ
one_more true n = suc n
one_more false n = n

abbrev pub one_less : Bool → ℕ → ℕ
one_less true n = n - 1
one_less false n = n

-- a label, if there is one, is counted once more, or once less
abbrev pub AddsLabel : Option ℕ → BTreeMap ℕ (Vec ℕ) → BTreeMap ℕ (Vec ℕ) → Type 0
AddsLabel label old new = (s : ℕ) → count_in new s ≡ one_more (is_label_at label s) (count_in old s)

abbrev pub TakesLabel : Option ℕ → BTreeMap ℕ (Vec ℕ) → BTreeMap ℕ (Vec ℕ) → Type 0
TakesLabel label old new =
    (s : ℕ) → count_in new s ≡ one_less (is_label_at label s) (count_in old s)

-- how often a label stands in a list directly
abbrev pub times : ℕ → Members → ℕ
times s ms = count_by (has_label s) (own_items ms)

-- the labels there are counted once more, or once less; none of 2^32 or more stands there
abbrev pub AddsLabels : List Member → BTreeMap ℕ (Vec ℕ) → BTreeMap ℕ (Vec ℕ) → Type 0
AddsLabels ms old new = (s : ℕ) → count_in new s ≡ times s (members_tree ms) + count_in old s

abbrev pub TakesLabels : List Member → BTreeMap ℕ (Vec ℕ) → BTreeMap ℕ (Vec ℕ) → Type 0
TakesLabels ms old new = (s : ℕ) → count_in new s ≡ count_in old s - times s (members_tree ms)

abbrev pub HasSmallLabels : List Member → Type 0
HasSmallLabels ms = (s : ℕ) → 2 ^ 32 ≤ s → times s (members_tree ms) ≡ 0

-- the label of the statement with which arms begin
abbrev pub IsFirstLabel : List Arm → Option ℕ → Type 0
IsFirstLabel arms label =
    (s : ℕ) → count_by (has_label s) (head_of (arms_tree arms)) ≡ one_more (is_label_at label s) 0

-- the labels of statements are counted
abbrev pub AreCounts : List (Bor Item) → BTreeMap ℕ (Vec ℕ) → Type 0
AreCounts items counts = (s : ℕ) → count_in counts s ≡ count_by (has_label s) (map tree_at items)
