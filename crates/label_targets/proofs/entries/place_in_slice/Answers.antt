use Rattle.std.proofs.Common.{◌≡◌, ◌+◌, ◌-◌, ℕ, ap, ◌∙◌, arith}
use Rattle.label_targets.specs.Entries.{is_entered_at}
use Rattle.label_targets.proofs.Labelled.{found_at, found_before, found_nowhere, not_found, entered_within}
use Rattle.label_targets.proofs.entries.place_in_slice.Goals as goal

pub returns-then-place-first-clause-at : goal.returns-then-place-first-clause-at
returns-then-place-first-clause-at c =
    found_before c.args.place c.args.label c.args.first c.args.members.now c.requires c.in-Some.place c.in-Some.is (let lt = c.if-place-first.true in omega arith)

pub returns-then-is_entered-clause-at : goal.returns-then-is_entered-clause-at
returns-then-is_entered-clause-at c =
    found_at c.args.place c.args.label c.args.first c.args.members.now c.requires c.in-Some.place (c.in-Some.place - c.args.first) 0 c.in-Some.is c.if-is_entered.ensures

pub returns-then-is_entered-clause-within : goal.returns-then-is_entered-clause-within
returns-then-is_entered-clause-within c =
    let lt = entered_within c.args.label c.args.members.now (c.in-Some.place - c.args.first) 0 c.if-is_entered.ensures in
    omega arith

pub returns-then-here-eq0-clause-at : goal.returns-then-here-eq0-clause-at
returns-then-here-eq0-clause-at c =
    not_found c.args.place c.args.label c.args.first c.args.members.now c.requires c.in-Some.place c.in-Some.is c.if-is_entered.ensures (λ i e. absurd (let first = c.if-here-eq0.true in omega arith))

pub returns-then-is_entered-2-clause-at : goal.returns-then-is_entered-2-clause-at
returns-then-is_entered-2-clause-at c =
    found_at c.args.place c.args.label c.args.first c.args.members.now c.requires c.in-Some.place (c.in-Some.place - c.args.first - 1) 1 c.in-Some.is c.if-is_entered-2.ensures

pub returns-then-is_entered-2-clause-within : goal.returns-then-is_entered-2-clause-within
returns-then-is_entered-2-clause-within c =
    let lt = entered_within c.args.label c.args.members.now (c.in-Some.place - c.args.first - 1) 1 c.if-is_entered-2.ensures in
    let later = c.if-here-eq0.false in
    omega arith

pub returns-else-is_entered-2-clause-at : goal.returns-else-is_entered-2-clause-at
returns-else-is_entered-2-clause-at c =
    not_found c.args.place c.args.label c.args.first c.args.members.now c.requires c.in-Some.place c.in-Some.is c.if-is_entered.ensures (λ i e. c.if-is_entered-2.ensures ∙ ap (λ k. is_entered_at c.args.label c.args.members.now k 1) (before (c.in-Some.place - c.args.first) i e))
  where
    before : (p i : ℕ) → p ≡ i + 1 → p - 1 ≡ i
    before p i e = omega arith

pub returns-in-None-clause-at : goal.returns-in-None-clause-at
returns-in-None-clause-at c =
    found_nowhere c.args.place c.args.label c.args.first c.args.members.now c.requires c.in-None.is
