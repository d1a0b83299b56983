-- How a transfer of control to a label enters a list at its members (ANSI X3.9-1978, 11.1 to 11.4).
use Rattle.std.specs.Prelude.{◌==◌, ℕ, zero, suc, Bool, true, false, List, [], ◌∷◌, Option, Some}
use Rattle.std.specs.Prelude.{None}
use Rattle.meaning.specs.declared.syntax.Member.{Member, Plain, Loop', Block}
use Rattle.meaning.specs.declared.syntax.Block.{Block'}
use Rattle.meaning.specs.Execution.{heads}
use Rattle.meaning.specs.LabelRules.{has_label}
use Rattle.meaning.specs.Trees.{item_tree, row_arms}

abbrev pub at_if : Bool → ℕ → Option ℕ → Option ℕ
at_if true n o = Some n
at_if false n o = o

-- how far behind the beginning of a member a transfer to a label goes on
abbrev pub entry : ℕ → Member → Option ℕ
entry s (Plain x) = at_if (has_label s (item_tree x)) 0 None
entry s (Loop' head shape range) = at_if (has_label s (item_tree head)) 0 None
entry s (Block (Block' shape arms end)) =
    at_if (heads s (row_arms arms)) 0 (at_if (has_label s (item_tree end)) 1 None)

abbrev pub is_number : Option ℕ → ℕ → Bool
is_number None n = false
is_number (Some k) n = k == n

-- the member at a place of a list is one so far behind whose beginning a transfer to a label goes
-- on
abbrev pub is_entered_at : ℕ → List Member → ℕ → ℕ → Bool
is_entered_at s [] i n = false
is_entered_at s (x ∷ ms) zero n = is_number (entry s x) n
is_entered_at s (x ∷ ms) (suc i) n = is_entered_at s ms i n
