-- What the code's program unit as far as it was read stands for, and what it says of a statement.
use Rattle.meaning.specs.Trees.{item_tree, members_tree, arms_tree}
use Rattle.meaning.specs.Nesting.{Unfinished, ended, body, range, branch, Effect, opens_range}
use Rattle.meaning.specs.Nesting.{closes_range, opens_block, opens_arm, closes_block, closes_unit}
use Rattle.meaning.specs.Nesting.{stands}
use Rattle.nesting.specs.declared.effect.Effect.{Effect as Does}
use Rattle.nesting.specs.declared.effect.Effect.TheVariants.{OpensRange, ClosesRange, OpensBlock}
use Rattle.nesting.specs.declared.effect.Effect.TheVariants.{OpensArm, ClosesBlock, ClosesUnit}
use Rattle.nesting.specs.declared.effect.Effect.TheVariants.{Stands}
use Rattle.nesting.specs.declared.unfinished.Open.{Open}
use Rattle.nesting.specs.declared.unfinished.Open.TheVariants.{Ended, Body, Range', Branch'}

abbrev pub unfinished : Open → Unfinished
unfinished (Ended members) = ended (members_tree members.items)
unfinished (Body members) = body (members_tree members.items)
unfinished (Range' head label members p around) =
    range (item_tree head) label (members_tree members.items) (unfinished around)
unfinished (Branch' arms head members p around) =
    branch (arms_tree arms.items) (item_tree head) (members_tree members.items) (unfinished around)

abbrev pub effect : Does → Effect
effect (OpensRange s) = opens_range s
effect ClosesRange = closes_range
effect OpensBlock = opens_block
effect OpensArm = opens_arm
effect ClosesBlock = closes_block
effect ClosesUnit = closes_unit
effect (Stands may) = stands may
