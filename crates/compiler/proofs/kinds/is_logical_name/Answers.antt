use Rattle.std.proofs.Common.{sym, subst}
use Rattle.meaning.specs.Syntax.{name}
use Rattle.compiler.specs.Kinds.{IsKind}
use Rattle.compiler.proofs.Asked.{of_dummy, of_constant, of_variable}
use Rattle.compiler.proofs.kinds.is_logical_name.Goals as goal

pub returns-in-Some : goal.returns-in-Some
returns-in-Some g c =
    of_dummy (g.N.Numbering.names c.args.numbering.now) c.args.frame c.args.name.now c.in-Some.kind c.in-Some.ensures

pub returns-in-Constant : goal.returns-in-Constant
returns-in-Constant g c =
    subst (λ b. IsKind (g.N.Numbering.names c.args.numbering.now) c.args.frame (name c.args.name.now) b) (sym c.is_truth.ensures)
    (of_constant (g.N.Numbering.names c.args.numbering.now) c.args.frame c.args.name.now c.in-Constant.value c.in-None.ensures c.in-Constant.ensures)

pub returns-in-Variable : goal.returns-in-Variable
returns-in-Variable g c =
    subst (λ b. IsKind (g.N.Numbering.names c.args.numbering.now) c.args.frame (name c.args.name.now) b) (sym c.is_logical_type.ensures)
    (of_variable (g.N.Numbering.names c.args.numbering.now) c.args.frame c.args.name.now c.in-Variable.cells.data_type c.in-None.ensures c.in-Variable.ensures.0 c.in-Variable.ensures.1.typed)
