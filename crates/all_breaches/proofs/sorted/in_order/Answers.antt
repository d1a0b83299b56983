use Rattle.std.proofs.Common.{rules}
use Rattle.std.proofs.lemmas.Fn.{dedup_same}
use Rattle.std.proofs.lemmas.List.Sorted.{answers_always}
use Rattle.meaning.specs.Refusals.{is_less}
use Rattle.all_breaches.proofs.Sorting.{ascends, has_same, is_not_above, orders}
use Rattle.all_breaches.proofs.sorted.in_order.Goals as goal

pub returns-clause-ascending : goal.returns-clause-ascending
returns-clause-ascending c =
    ascends _ _ _ c.in_ok-sort_by.ensures.permutation (c.in_ok-sort_by.ensures.sorted is_less orders (answers_always _ _ _ (λ f a r g h. search rules))) (dedup_same _ is_not_above _ (λ x y b f' x' y' k. search rules) _ _ c.dedup_by.ensures.filtered)

pub returns-clause-same : goal.returns-clause-same
returns-clause-same c =
    has_same _ _ _ c.in_ok-sort_by.ensures.permutation (c.in_ok-sort_by.ensures.sorted is_less orders (answers_always _ _ _ (λ f a r g h. search rules))) (dedup_same _ is_not_above _ (λ x y b f' x' y' k. search rules) _ _ c.dedup_by.ensures.filtered) c.requires
