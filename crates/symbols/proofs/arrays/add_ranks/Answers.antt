use Rattle.std.proofs.Common.{map}
use Rattle.meaning.specs.Syntax.{declarator_tree}
use Rattle.name_maps.specs.Keeping.{kept_at}
use Rattle.symbols.specs.RankBy.{rank_by, rank_in}
use Rattle.symbols.proofs.Firsts.{first_more, or_nothing}
use Rattle.symbols.proofs.Ranking.{rank_law}
use Rattle.symbols.proofs.arrays.add_ranks.Goals as goal

pub loop-declarator-init : goal.loop-declarator-init
loop-declarator-init c = λ n. or_nothing (kept_at c.args.kept.now n)

pub loop-declarator-preserved : goal.loop-declarator-preserved
loop-declarator-preserved c =
    λ n. first_more (λ ds. rank_by (map declarator_tree ds) n) (λ d. rank_in (declarator_tree d) n) (rank_law n) c.args.declarators.now c.loop-declarator.declarator-index c.declarator-item.result _ _ _ c.loop-declarator-test.true c.declarator-item.is (c.loop-declarator.invariant n) (c.in_ok-add_rank.ensures n)
