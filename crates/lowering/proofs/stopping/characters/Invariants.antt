use Rattle.std.proofs.Common.{◌≡◌, ◌++◌, drop}
use Rattle.meaning.specs.Formats.{single_behind, undoubled}
use Rattle.lowering.proofs.stopping.characters.Given as goal

abbrev pub invariant-loop-c : goal.invariant-loop-c
invariant-loop-c l = l.single.items ++ single_behind l.pending (drop l.c-index l.text) ≡ undoubled l.text
