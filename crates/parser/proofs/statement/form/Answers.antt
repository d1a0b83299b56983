use Rattle.std.proofs.Common.{◌≤◌, length, arith}
use Rattle.meaning.specs.Syntax.{shape_tree}
use Rattle.form_laws.proofs.Readings.{no_longer}
use Rattle.parser.proofs.statement.form.Goals as goal

pub invariant_of-result : goal.invariant_of-result
invariant_of-result c =
    let short : length c.args.bare.now.text.items ≤ 1320 = omega (arith, c.args.bare.now.text.ok.0, c.args.bare.now.short) in
    record { short = no_longer c.args.bare.now.text.items (shape_tree c.in-Ok.shape.value) short c.in-Ok.ensures }
