use Rattle.std.proofs.Common.{◌≡◌, ◌+◌, ◌-◌, ◌^◌, ◌<◌, ℕ, min, Some, None, sym, ap, ◌∙◌, arith}
use Rattle.std.specs.List.{range_with_len}
use Rattle.symbols.specs.SymbolsAt.{symbols_at}
use Rattle.data_rules.specs.DataGiving.{stage_of, symbols_in}
use Rattle.data_culprits.specs.Lists.{next_to, next_to_each}
use Rattle.data_culprits.specs.Outcomes.{outcome_of, then_go}
use Rattle.data_culprits.specs.Told.{tell}
use Rattle.data_culprits.proofs.Steps.{place_more}
use Rattle.data_culprits.proofs.items.bad_places.Goals as goal

pub returns-in-Some-clause-told : goal.returns-in-Some-clause-told
returns-in-Some-clause-told c = λ m counted.
    let g = c.args.giving.now in
    let types = (symbols_in g).names.types in
    let n = c.args.name.now in
    let i = c.loop-place.place in
    let s = stage_of c.loop-place.giving in
    let lt : i < m = omega (arith, counted, c.loop-place-test.true) in
    let fits : i ≡ min i (2 ^ 64 - 1) = omega (arith, counted, c.loop-place-test.true) in
    sym (c.loop-place.invariant.left m counted) ∙ place_more types n i m s lt
    ∙ ap (λ o. then_go o (next_to_each types n (range_with_len (i + 1) (m - (i + 1)))))
    (ap (λ t. next_to (symbols_at t.table.now.symbols.now).names.types n i s) (sym c.loop-place.invariant.same)
    ∙ c.in_ok-culprit.ensures.told i fits ∙ ap (λ o. outcome_of (stage_of c.bad_place.new.giving) (tell o)) c.in-Some.is)

pub loop-place-preserved : goal.loop-place-preserved
loop-place-preserved c =
    let g = c.args.giving.now in
    let types = (symbols_in g).names.types in
    let n = c.args.name.now in
    let i = c.loop-place.place in
    let s = stage_of c.loop-place.giving in
    record {
      left = λ m counted.
          let lt : i < m = omega (arith, counted, c.loop-place-test.true) in
          let fits : i ≡ min i (2 ^ 64 - 1) = omega (arith, counted, c.loop-place-test.true) in
          sym (place_more types n i m s lt
          ∙ ap (λ o. then_go o (next_to_each types n (range_with_len (i + 1) (m - (i + 1)))))
          (ap (λ t. next_to (symbols_at t.table.now.symbols.now).names.types n i s) (sym c.loop-place.invariant.same)
          ∙ c.in_ok-culprit.ensures.told i fits ∙ ap (λ o. outcome_of (stage_of c.bad_place.new.giving) (tell o)) c.in-None.is))
          ∙ c.loop-place.invariant.left m counted;
      same = c.in_ok-culprit.ensures.same ∙ c.loop-place.invariant.same;
    }
