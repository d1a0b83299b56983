use Rattle.std.proofs.Common.{sym, ◌∙◌}
use Rattle.meaning.specs.Syntax.{ConstantTree, constant_tree}
use Rattle.meaning.specs.Typing.{expected, is_mistyped}
use Rattle.symbols.specs.SymbolsAt.{symbols_at}
use Rattle.type_rules.specs.Wants.{names_in}
use Rattle.type_rules.proofs.Mistyping.{left_in, left_out}
use Rattle.type_rules.proofs.mistyped.in_constants.Goals as goal

pub returns-then-in_constant : goal.returns-then-in_constant
returns-then-in_constant c =
    left_in (is_mistyped (names_in c.args.naming.now)) (λ (x : ConstantTree). expected ((symbols_at c.args.naming.now.symbols.now).names.types x.name) x.value) constant_tree c.args.constants.now c.loop-constant.constant-index c.constant-item.result _ c.loop-constant-test.true c.constant-item.is c.loop-constant.invariant (sym c.in_constant.ensures ∙ c.if-in_constant.true)

pub loop-constant-preserved : goal.loop-constant-preserved
loop-constant-preserved c =
    left_out (is_mistyped (names_in c.args.naming.now)) (λ (x : ConstantTree). expected ((symbols_at c.args.naming.now.symbols.now).names.types x.name) x.value) constant_tree c.args.constants.now c.loop-constant.constant-index c.constant-item.result _ c.loop-constant-test.true c.constant-item.is c.loop-constant.invariant (sym c.in_constant.ensures ∙ c.if-in_constant.false)
