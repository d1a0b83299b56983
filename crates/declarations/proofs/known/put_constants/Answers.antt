use Rattle.std.proofs.Common.{ap, ◌∙◌}
use Rattle.meaning.specs.Scopes.{constant_value}
use Rattle.meaning.specs.Syntax.{expr_tree}
use Rattle.symbols.specs.SymbolsAt.{symbols_at}
use Rattle.declarations.specs.KnownNames.{with_name}
use Rattle.declarations.specs.Tables.{known_at, types_in}
use Rattle.declarations.proofs.KnownBy.{constants_more}
use Rattle.declarations.proofs.known.put_constants.Goals as goal

pub loop-constant-preserved : goal.loop-constant-preserved
loop-constant-preserved c =
    let before = c.loop-constant.invariant in
    let constant = c.constant-item.result in
    let valued = c.value_of-value.ensures ∙ ap (λ r. constant_value (symbols_at r.now).names.types (known_at c.loop-constant.table) (expr_tree constant.value)) before.symbols in
    record {
      known = constants_more (types_in c.args.table.now) (known_at c.args.table.now) c.args.constants.now c.loop-constant.constant-index constant (known_at c.loop-constant.table) _ c.value_of-value.result c.loop-constant-test.true c.constant-item.is before.known valued (c.in_ok-put_name.ensures.known ∙ ap (λ n. with_name n c.value_of-value.result (known_at c.loop-constant.table)) c.deref.ensures.value);
      symbols = c.in_ok-put_name.ensures.symbols ∙ before.symbols;
    }
