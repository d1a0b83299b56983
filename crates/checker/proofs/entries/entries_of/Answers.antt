use Rattle.std.proofs.Common.{ap, ◌∙◌}
use Rattle.std.specs.Prelude.{flat_map}
use Rattle.std.specs.Option.{option_or}
use Rattle.symbols.specs.Listed.{trees_at}
use Rattle.checker.specs.Entries.{described, if_among, names_given}
use Rattle.checker.proofs.entries.entries_of.Goals as goal

pub returns-clause-entries : goal.returns-clause-entries
returns-clause-entries c = λ n.
    c.in_ok-add_all_given.ensures n
    ∙ ap (λ o. option_or o (if_among (described c.args.facts.now c.args.symbols.now) (flat_map (λ x. names_given x.shape) (trees_at c.args.symbols.now.items.now)) n)) (c.in_ok-storing.ensures.entries n)
