use Rattle.meaning.proofs.Stores.{reads_so}
use Rattle.values.proofs.Running.{number_is}
use Rattle.values.proofs.codes.number_of.Goals as goal

pub returns-clause-reads : goal.returns-clause-reads
returns-clause-reads g c =
    let r = c.frame_of.result in
    let f = c.frame_of.ensures in
    reads_so _ _ _ _ c.word_of.ensures.reads (λ m h. number_is c.args.program.now r.cells r.callable r.arguments.now r.functions.now f.cells f.callable f.none f.functions c.args.code.now m c.word_of.result h)
