use Rattle.engine.proofs.lines.tell_ending.Goals as goal

pub returns-in-WriteRefused-clause-line : goal.returns-in-WriteRefused-clause-line
returns-in-WriteRefused-clause-line g c = rw c.in-WriteRefused.is c.put-in-WriteRefused.ensures
