use Rattle.std.proofs.Common.{rules}
use Rattle.statement_rules.proofs.Found.{found_none, texts_empty}
use Rattle.statement_rules.proofs.reading.Formats.new.Goals as goal

pub returns : goal.returns
returns c = record {
  labelled = λ s. search (rules, found_none);
  small = λ s big. found_none s;
  constants = texts_empty c.new-2.result c.new-2.ensures.empty;
}
