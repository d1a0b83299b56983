use Rattle.std.proofs.Common.{◌≡◌, ◌++◌, map, take}
use Rattle.meaning.specs.Syntax.{constant_tree}
use Rattle.meaning.specs.Typing.{expected}
use Rattle.symbols.specs.SymbolsAt.{symbols_at}
use Rattle.expectations.specs.Expected.{expected_list}
use Rattle.expectations.proofs.expected.add_constants.Given as goal

abbrev pub invariant-loop-constant : goal.invariant-loop-constant
invariant-loop-constant l =
    expected_list l.found.items ≡ expected_list l.initial.found.items ++ map (λ c. expected ((symbols_at l.symbols).names.types c.name) c.value) (map constant_tree (take l.constant-index l.constants))
