use Rattle.std.proofs.Common.{ap, ap₂, ◌∙◌}
use Rattle.std.specs.Option.{option_or}
use Rattle.checker.specs.Entries.{described, said_at}
use Rattle.checker.proofs.Entering.{bare, one_among}
use Rattle.checker.proofs.entries.add_described.Goals as goal

pub returns : goal.returns
returns c = λ n.
    c.in_ok-add_entry.ensures n ∙ ap (option_or (said_at c.args.entries.now n)) (one_among (described c.args.facts.now c.args.symbols.now) c.args.name.now n _ (ap₂ bare c.constant_named.ensures c.type_of_name.ensures))
