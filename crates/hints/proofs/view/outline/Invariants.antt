use Rattle.std.proofs.Common.{◌≡◌, ◌++◌, drop}
use Rattle.hints.specs.Views.{outline}
use Rattle.hints.proofs.view.outline.Given as goal

abbrev pub invariant-loop-c : goal.invariant-loop-c
invariant-loop-c l = l.outlined.items ++ outline l.ending (drop l.c-index l.text) ≡ outline 0 l.text
