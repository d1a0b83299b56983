-- How many workers run the blocks of a stage (own). It is never seen in the answer.
use Rattle.std.specs.Prelude.{ℕ, ◌+◌, ◌/◌, min, Option, Some, None}

-- of those that there may be, all where nothing is known, and else one and one more for each 2,048
-- turns of the blocks of a stage before
abbrev pub paid_by : Option ℕ → ℕ → ℕ
paid_by None most = most
paid_by (Some turns) most = min most (turns / 2048 + 1)
