use Rattle.std.proofs.Common.{◌≡◌, ◌++◌, drop, map}
use Rattle.meaning.specs.Characters.{raised}
use Rattle.hints.proofs.view.add_raised.Given as goal

abbrev pub invariant-loop-c : goal.invariant-loop-c
invariant-loop-c l = l.view.items ++ map raised (drop l.c-index l.text) ≡ l.initial.view.items ++ map raised l.text
