use Rattle.format_edit.proofs.Denoting.{read_denotes, denotes_read}
use Rattle.format_edit.proofs.laws.one_format.Goals as goal

pub returns : goal.returns
returns c = λ text ds. (read_denotes text ds, denotes_read text ds)
