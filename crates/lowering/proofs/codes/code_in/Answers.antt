use Rattle.std.proofs.Common.{◌≡◌, [], refl, rules}
use Rattle.meaning.specs.Syntax.{expr_tree}
use Rattle.compiler.specs.Ruly.{IsRuly}
use Rattle.storage.specs.Checked.{count_in}
use Rattle.program.specs.Codes.{IsCode}
use Rattle.lowering.proofs.Settings.{if_code, so_there, through}
use Rattle.lowering.proofs.codes.code_in.Goals as goal

pub made-requires : goal.made-requires
made-requires c =
    let e = expr_tree c.args.expression.now in
    c.code_of.ensures.ruly (so_there c.args.program.now _ _ (search rules) c.functions-callable.ensures (λ s. IsRuly s e) c.requires)

pub returns : goal.returns
returns c =
    let t = c.args.program.now in
    let e = expr_tree c.args.expression.now in
    through c.code_of.result c.made.result (IsCode t e) c.made.ensures (if_code t e _ _ c.is_logical-logical.result (search rules) c.functions-callable.ensures (λ m. c.is_logical-logical.ensures [] refl m) c.code_of.result c.code_of.ensures.code c.code_of.ensures.kind)
