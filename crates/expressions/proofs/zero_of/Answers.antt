use Rattle.std.proofs.Common.{rules, ◌≡◌, Some, None, pos, ap, ◌∙◌}
use Rattle.meaning.specs.declared.syntax.DataType.TheVariants.{Integer}
use Rattle.meaning.specs.Values.{typed}
use Rattle.expressions.proofs.Exact.{zero_is}
use Rattle.expressions.proofs.zero_of.Goals as goal

pub returns-in-Some-Integer : goal.returns-in-Some-Integer
returns-in-Some-Integer c =
    let is : c.args.data_type ≡ Some Integer = search rules in
    ap (λ o. typed o (pos 0)) is ∙ zero_is

pub returns-in-None : goal.returns-in-None
returns-in-None c =
    let is : c.args.data_type ≡ None = search rules in
    ap (λ o. typed o (pos 0)) is ∙ zero_is
