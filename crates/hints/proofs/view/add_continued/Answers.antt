use Rattle.hints.specs.Views.{columns}
use Rattle.std.proofs.Common.{ap, ◌++◌, ◌∙◌}
use Rattle.hints.proofs.Texts.{one_more}
use Rattle.hints.proofs.view.add_continued.Goals as goal

pub loop-line-preserved : goal.loop-line-preserved
loop-line-preserved c =
    let added = c.in_ok-extend_from_slice.ensures.items ∙ ap (λ t. c.loop-line.text.items ++ t) c.columns.ensures in
    one_more (columns c.args.from c.args.to) c.loop-line.text.items _ _ _ _ _ c.in-Some.ensures.lines added c.loop-line.invariant
