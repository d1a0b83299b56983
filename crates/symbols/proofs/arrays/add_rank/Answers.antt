use Rattle.std.proofs.Common.{ap, ◌∙◌}
use Rattle.std.specs.Option.{option_or}
use Rattle.name_maps.specs.Keeping.{kept_at}
use Rattle.symbols.proofs.Firsts.{if_named}
use Rattle.symbols.proofs.Ranking.{rank_none, rank_some}
use Rattle.symbols.proofs.arrays.add_rank.Goals as goal

pub returns-in_ok-add_first : goal.returns-in_ok-add_first
returns-in_ok-add_first c =
    λ n. c.in_ok-add_first.ensures n
    ∙ ap (λ x. option_or (kept_at c.args.kept.now n) (if_named x c.len-rank.result n)) c.deref.ensures.value
    ∙ ap (option_or (kept_at c.args.kept.now n)) (rank_some c.args.declarator.now c.len-rank.result n c.len-rank.ensures c.if-rank-gt0.true)

pub returns-else-rank-gt0 : goal.returns-else-rank-gt0
returns-else-rank-gt0 c =
    λ n. rank_none c.args.declarator.now c.len-rank.result n (kept_at c.args.kept.now n) c.len-rank.ensures c.if-rank-gt0.false
