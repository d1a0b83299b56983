use Rattle.std.proofs.Common.{◌||◌, ◌+◌, map, drop, sym, ap, ◌∙◌}
use Rattle.meaning.specs.NumberRules.{is_bad_constant, is_no_constant}
use Rattle.meaning.specs.Scopes.{with_constant}
use Rattle.meaning.specs.Syntax.{constant_tree, expr_tree}
use Rattle.symbols.specs.SymbolsAt.{symbols_at}
use Rattle.symbols.proofs.Passes.{map_left}
use Rattle.declarations.specs.Tables.{scope_known, scope_types}
use Rattle.number_rules.proofs.numbers.are_bad.Goals as goal

pub returns-then-is_no_constant : goal.returns-then-is_no_constant
returns-then-is_no_constant c =
    let types = scope_types c.args.scope.now in
    let known = scope_known c.loop-constant.scope in
    let constant = c.constant-item.result in
    let cs = c.args.constants.now in
    let i = c.loop-constant.constant-index in
    let rest = is_bad_constant types (with_constant types known (constant_tree constant)) (map constant_tree (drop (i + 1) cs)) in
    let told = sym c.if-is_no_constant.true ∙ c.is_no_constant.ensures ∙ ap (λ t. is_no_constant (symbols_at t.now.symbols.now).names.types known (expr_tree constant.value)) c.loop-constant.invariant.table in
    ap (λ b. b || rest) told
    ∙ sym (ap (is_bad_constant types known) (map_left constant_tree cs i constant c.loop-constant-test.true c.constant-item.is))
    ∙ c.loop-constant.invariant.left
