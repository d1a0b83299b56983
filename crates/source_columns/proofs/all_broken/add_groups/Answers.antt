use Rattle.std.proofs.Common.{sym, ap, ◌∙◌}
use Rattle.source_columns.specs.Views.{line_of}
use Rattle.source_columns.proofs.AllBroken.{initial_next, other_next, groups_end}
use Rattle.source_columns.proofs.all_broken.add_groups.Goals as goal
use Rattle.source_columns.proofs.all_broken.add_groups.Goals.{then-is_initial_line+in_ok-add_group, else-is_initial_line}

pub loop-line-preserved : goal.loop-line-preserved
loop-line-preserved c =
    let line = line_of c.in-Some.line in
    let first = c.in-Some.ensures.first in
    record {
      told = elim c.if-is_initial_line.branch [
        | then-is_initial_line+in_ok-add_group w ↦ initial_next line _ _ first _ _ _ (sym c.is_initial_line.ensures ∙ w.if-is_initial_line.true) (ap (λ v. v.items) w.pairs-is ∙ w.in_ok-add_group.ensures) c.loop-line.invariant.told
        | else-is_initial_line w ↦ other_next line _ _ first _ _ _ (sym c.is_initial_line.ensures ∙ w.if-is_initial_line.false) (ap (λ v. v.items) w.pairs-is) c.loop-line.invariant.told
      ];
      counted = c.in-Some.ensures.counted;
    }

pub returns : goal.returns
returns c = groups_end _ c.loop-line.pairs.items _ c.in_default.ensures.first c.loop-line.invariant.told
