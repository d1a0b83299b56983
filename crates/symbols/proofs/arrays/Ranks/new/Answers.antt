use Rattle.std.proofs.Common.{sym, ◌∙◌}
use Rattle.meaning.specs.Scopes.{nothing_known}
use Rattle.meaning.specs.Types.{types_of}
use Rattle.symbols.specs.Listed.{trees_at}
use Rattle.symbols.proofs.Ranking.{ranks_from}
use Rattle.symbols.proofs.arrays.Ranks.new.Goals as goal

pub invariant_of-result : goal.invariant_of-result
invariant_of-result c =
    let xs = trees_at c.args.items.now in
    record { given = λ n. c.in_ok-kept.ensures n ∙ sym (ranks_from (types_of xs) nothing_known xs n) }
