use Rattle.form_laws.proofs.Marks.{shape_kind}
use Rattle.form_laws.proofs.one_kind.Goals as goal

pub returns : goal.returns
returns c = shape_kind
