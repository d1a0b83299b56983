use Rattle.meaning.specs.Syntax.{shape_tree}
use Rattle.std.proofs.Common.{None, ap, ◌∙◌}
use Rattle.std.specs.Option.{option_or}
use Rattle.meaning.specs.Scopes.{declarators_in}
use Rattle.name_maps.specs.Keeping.{kept_at}
use Rattle.symbols.specs.Listed.{tree_at, trees_at}
use Rattle.symbols.specs.RankBy.{declarators_of, rank_by}
use Rattle.symbols.proofs.Firsts.{first_more}
use Rattle.symbols.proofs.Ranking.{ranks_law}
use Rattle.symbols.proofs.arrays.ranks_of.Goals as goal

pub loop-item-preserved : goal.loop-item-preserved
loop-item-preserved c =
    λ n. first_more (λ ms. rank_by (declarators_of (trees_at ms)) n) (λ m. rank_by (declarators_in (tree_at m).shape) n) (ranks_law n) c.args.items.now c.loop-item.item-index c.item-item.result None _ _ c.loop-item-test.true c.item-item.is (c.loop-item.invariant n) (c.in_ok-add_ranks.ensures n ∙ ap (λ ds. option_or (kept_at c.loop-item.kept n) (rank_by ds n)) c.declarators_in.ensures ∙ ap (λ s. option_or (kept_at c.loop-item.kept n) (rank_by (declarators_in (shape_tree s)) n)) c.deref.ensures)
