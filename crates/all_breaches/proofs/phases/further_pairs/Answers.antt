use Rattle.all_breaches.proofs.Composed.{further, pairs_apart}
use Rattle.all_breaches.proofs.phases.further_pairs.Goals as goal

pub in_order-requires : goal.in_order-requires
in_order-requires c = pairs_apart c.args.source.now c.in_ok-pairs.pairs.items c.in_ok-pairs.ensures

pub returns : goal.returns
returns c =
    further c.args.source.now _ _ _ c.in_ok-pairs.ensures c.in_ok-ordered.ensures.ascending c.in_ok-ordered.ensures.same c.without_first.ensures
