use Rattle.form_laws.proofs.Sound.{shape_takes}
use Rattle.form_laws.proofs.Readings.{reads_again}
use Rattle.form_laws.proofs.one_spelling.Goals as goal

pub returns : goal.returns
returns c text s = (shape_takes text s, reads_again text s)
