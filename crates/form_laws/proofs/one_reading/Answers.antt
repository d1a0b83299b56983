use Rattle.form_laws.proofs.Readings.{spelled_once}
use Rattle.form_laws.proofs.one_reading.Goals as goal

pub returns : goal.returns
returns c = spelled_once
