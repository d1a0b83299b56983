use Rattle.postfix.specs.declared.instruction.Source.TheVariants.{MatrixPlace}
use Rattle.values.proofs.Placing.{grown, placed_in}
use Rattle.values.proofs.codes.matrix_in.Goals as goal

pub returns-clause-reached : goal.returns-clause-reached
returns-clause-reached g c =
    let r = c.frame_of-frame.result in
    let f = c.frame_of-frame.ensures in
    placed_in c.args.program.now c.args.cells r.callable r.functions.now _ _ (MatrixPlace c.args.first c.args.left.now c.args.right.now) c.matrix_reached.result c.requires.counted f.callable f.functions c.matrix_reached.ensures.reached

pub returns-clause-later : goal.returns-clause-later
returns-clause-later g c = grown _ _ _ (MatrixPlace c.args.first c.args.left.now c.args.right.now) c.matrix_reached.result c.matrix_reached.ensures.reached
