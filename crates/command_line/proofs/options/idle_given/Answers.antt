use Rattle.std.proofs.Common.{◌∙◌, sym}
use Rattle.std.proofs.lemmas.Bool.{and_from, and_left, and_right}
use Rattle.command_line.specs.CommandLine.{settings}
use Rattle.command_line.proofs.Asking.{idle_found, idle_next}
use Rattle.command_line.proofs.options.idle_given.Goals as goal
use Rattle.command_line.proofs.options.idle_given.Goals.{else-is_idle-via-then-is_idle+else-is_given, else-is_idle-via-else-is_idle}

pub returns-then-is_given : goal.returns-then-is_given
returns-then-is_given c given h =
    sym (idle_found c.args.mode given settings c.loop-setting.setting-index _ c.loop-setting-test.true
    (and_from _ _ (sym c.is_idle.ensures ∙ c.if-is_idle.true) (sym (c.is_given.ensures given h) ∙ c.if-is_given.true)))
    ∙ c.loop-setting.invariant given h

pub loop-setting-preserved : goal.loop-setting-preserved
loop-setting-preserved c given h =
    sym (idle_next c.args.mode given settings c.loop-setting.setting-index _ c.loop-setting-test.true (elim c.else-is_idle.branch [
      | else-is_idle-via-then-is_idle+else-is_given w ↦ and_right _ _ (sym (w.is_given.ensures given h) ∙ w.if-is_given.false)
      | else-is_idle-via-else-is_idle w ↦ and_left _ _ (sym c.is_idle.ensures ∙ w.if-is_idle.false)
    ]))
    ∙ c.loop-setting.invariant given h
