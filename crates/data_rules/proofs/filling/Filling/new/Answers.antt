use Rattle.std.proofs.Common.{[], ap}
use Rattle.std.specs.Map.{lookup}
use Rattle.std.specs.Str.{bytes_eq}
use Rattle.data_rules.specs.Slots.{slot_if}
use Rattle.data_rules.proofs.DataPairing.{stage_in}
use Rattle.data_rules.proofs.filling.Filling.new.Goals as goal

pub returns : goal.returns
returns c =
    ap (λ es. stage_in c.args.way (λ n i. slot_if (lookup (λ k. bytes_eq n k.items) es) i) []) c.new.ensures.empty
