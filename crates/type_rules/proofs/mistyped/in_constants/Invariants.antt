use Rattle.std.proofs.Common.{◌≡◌, map, drop}
use Rattle.std.specs.List.{list_any}
use Rattle.meaning.specs.Syntax.{constant_tree}
use Rattle.meaning.specs.Typing.{expected, is_mistyped}
use Rattle.symbols.specs.SymbolsAt.{symbols_at}
use Rattle.type_rules.specs.Wants.{names_in}
use Rattle.type_rules.proofs.mistyped.in_constants.Given as goal

abbrev pub invariant-loop-constant : goal.invariant-loop-constant
invariant-loop-constant l =
    list_any (is_mistyped (names_in l.naming)) (map (λ c. expected ((symbols_at l.naming.symbols.now).names.types c.name) c.value) (map constant_tree (drop l.constant-index l.constants))) ≡ list_any (is_mistyped (names_in l.naming)) (map (λ c. expected ((symbols_at l.naming.symbols.now).names.types c.name) c.value) (map constant_tree l.constants))
