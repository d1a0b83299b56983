use Rattle.std.proofs.Common.{◌≡◌, ◌<◌, ◌≤◌, ◌+◌, ◌-◌, ◌*◌, ℕ, Some, is_some, min, length, refl, sym, ap, ◌∙◌, arith}
use Rattle.std.proofs.lemmas.Bool.{true≢false}
use Rattle.std.specs.FinMap as map
use Rattle.meaning.specs.Stores.{World, known}
use Rattle.private_view.specs.Views.{Seen, world_seen}
use Rattle.private_view.proofs.Fronts.{beyond_shown, front_known, other_known, same_cells, world_now}
use Rattle.private_view.proofs.view.View.page.Goals as goal

pub returns-in-None-clause-some : goal.returns-in-None-clause-some
returns-in-None-clause-some c =
    let f = c.self.inside.front in
    let p = c.self.inside.paged in
    let now = world_now f.written f.values p c.args.self.now c.self.view_is in
    let same : (q : ℕ) → is_some (map.get c.args.self.now.written q) ≡ is_some (map.get p.written q) = λ q. ap (λ (u : World). is_some (u.written q)) now ∙ same_cells f.shown f.written f.values (world_seen p) c.self.invariant q in
    (λ t. absurd (true≢false (sym t)), λ w. c.in-None.ensures.some.1 (w.0, (w.1.0, sym (same (64 * c.args.page + w.0)) ∙ w.1.1)))

pub returns-in-Some-clause-some : goal.returns-in-Some-clause-some
returns-in-Some-clause-some c =
    let f = c.self.inside.front in
    let p = c.self.inside.paged in
    let now = world_now f.written f.values p c.args.self.now c.self.view_is in
    let same : (q : ℕ) → is_some (map.get c.args.self.now.written q) ≡ is_some (map.get p.written q) = λ q. ap (λ (u : World). is_some (u.written q)) now ∙ same_cells f.shown f.written f.values (world_seen p) c.self.invariant q in
    (λ t. (let w = c.in-Some.ensures.some.0 t in (w.0, (w.1.0, same (64 * c.args.page + w.0) ∙ w.1.1))), λ w. refl)

pub returns-in-Some-2-clause-some : goal.returns-in-Some-2-clause-some
returns-in-Some-2-clause-some c =
    let f = c.self.inside.front in
    let p = c.self.inside.paged in
    let now = world_now f.written f.values p c.args.self.now c.self.view_is in
    let same : (q : ℕ) → is_some (map.get c.args.self.now.written q) ≡ is_some (map.get p.written q) = λ q. ap (λ (u : World). is_some (u.written q)) now ∙ same_cells f.shown f.written f.values (world_seen p) c.self.invariant q in
    (λ t. (let w = c.in-Some.ensures.some.0 t in (w.0, (w.1.0, same (64 * c.args.page + w.0) ∙ w.1.1))), λ w. refl)

pub first-requires : goal.first-requires
first-requires c = let count = c.in-Some.ensures.values.0 in omega (arith, count)

pub returns-in-Some-clause-values : goal.returns-in-Some-clause-values
returns-in-Some-clause-values c =
    let f = c.self.inside.front in
    let p = c.self.inside.paged in
    let k = c.args.page in
    let n = length c.in-Some.part.now in
    let now = world_now f.written f.values p c.args.self.now c.self.view_is in
    let zero : k ≡ 0 = c.if-page-eq0.true in
    let count : n ≡ min 64 (length p.base - 64 * k) = c.in-Some.ensures.values.0 in
    let len = c.first.ensures.len in
    let bases : length p.base ≡ length c.args.self.now.base = ap (λ (t : Seen). length t.base) c.self.view_is in
    let within : (b : ℕ) → b < length c.first.result.now → (b < n) × ((b < 64) × (b < length p.base)) = λ b lt. (omega (arith, lt, len), (omega (arith, lt, len, count), omega (arith, lt, len, count, zero))) in
    let place : (b : ℕ) → b ≡ 64 * k + b = λ b. omega (arith, zero) in
    (len ∙ count ∙ ap (λ l. min 64 (l - 64 * k)) bases, λ b lt. c.first.ensures.values b (within b lt).0 ∙ ap Some (front_known f.shown f.written f.values (world_seen p) c.self.invariant b (within b lt).1.0 (within b lt).1.1 ∙ ap (λ u. known u b) (sym now) ∙ ap (known (world_seen c.args.self.now)) (place b)))

pub returns-in-Some-2-clause-values : goal.returns-in-Some-2-clause-values
returns-in-Some-2-clause-values c =
    let f = c.self.inside.front in
    let p = c.self.inside.paged in
    let k = c.args.page in
    let now = world_now f.written f.values p c.args.self.now c.self.view_is in
    let bases : length p.base ≡ length c.args.self.now.base = ap (λ (t : Seen). length t.base) c.self.view_is in
    let far : (b : ℕ) → 64 ≤ 64 * k + b = λ b. (let other = c.if-page-eq0.false in omega (arith, other)) in
    (c.in-Some.ensures.values.0 ∙ ap (λ l. min 64 (l - 64 * k)) bases, λ b lt. c.in-Some.ensures.values.1 b lt ∙ ap Some (sym (other_known f.shown f.written f.values (world_seen p) c.self.invariant (64 * k + b) (beyond_shown f.shown (64 * k + b) (far b))) ∙ ap (λ u. known u (64 * k + b)) (sym now)))
