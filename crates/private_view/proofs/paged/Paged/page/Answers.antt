use Rattle.std.proofs.Common.{◌≡◌, ◌+◌, ◌*◌, ◌<◌, ◌-◌, ℕ, Some, min, length, refl, sym, ap, subst, ◌∙◌, arith}
use Rattle.std.proofs.lemmas.Bool.{true≢false}
use Rattle.private_view.specs.Views.{IsCopied, Seen, value_at}
use Rattle.private_view.proofs.Looking.{marked_is}
use Rattle.private_view.proofs.Marked.{page_of_cell}
use Rattle.private_view.proofs.Putting.{value_known}
use Rattle.private_view.proofs.paged.Paged.page.Goals as goal

pub returns-then-not-has_some-clause-some : goal.returns-then-not-has_some-clause-some
returns-then-not-has_some-clause-some c =
    let i = c.self.inside in
    let s = c.args.self.now in
    let same = marked_is i.written (value_at i.slots.items i.values.items) s.written (ap (λ (t : Seen). t.written) c.self.view_is) in
    (λ t. absurd (true≢false (sym t)), λ w. sym c.if-not-has_some.true ∙ c.has_some.ensures.1 (w.0, (w.1.0, sym (c.words.ensures.told (64 * c.args.page + w.0)) ∙ same (64 * c.args.page + w.0) ∙ w.1.1)))

pub returns-clause-some : goal.returns-clause-some
returns-clause-some c =
    let i = c.self.inside in
    let s = c.args.self.now in
    let same = marked_is i.written (value_at i.slots.items i.values.items) s.written (ap (λ (t : Seen). t.written) c.self.view_is) in
    let h = c.has_some.ensures.0 c.if-not-has_some.false in
    (λ t. (h.0, (h.1.0, sym (same (64 * c.args.page + h.0)) ∙ c.words.ensures.told (64 * c.args.page + h.0) ∙ h.1.1)), λ w. refl)

pub returns-clause-values : goal.returns-clause-values
returns-clause-values c =
    let i = c.self.inside in
    let s = c.args.self.now in
    let k = c.args.page in
    let f = value_at i.slots.items i.values.items in
    let written = ap (λ (t : Seen). t.written) c.self.view_is in
    let base = ap (λ (t : Seen). t.base) c.self.view_is in
    let h = c.has_some.ensures.0 c.if-not-has_some.false in
    let here : IsCopied i.slots.items i.numbers.items k = subst (IsCopied i.slots.items i.numbers.items) (page_of_cell k h.0 h.1.0) (c.self.invariant.0.paged.copied (64 * k + h.0) (c.words.ensures.told (64 * k + h.0) ∙ h.1.1)) in
    let same_len : length s.base ≡ length i.base.now = sym (ap length base) in
    let cells : length c.cells.result.now ≡ length i.base.now = ap length c.cells.ensures in
    let count : c.page_len-count.result ≡ min 64 (length i.base.now - 64 * k) = c.page_len-count.ensures ∙ ap (λ n. min 64 (n - 64 * k)) cells in
    let many : length c.copied_page.result.now ≡ c.page_len-count.result = c.copied_page.ensures.len in
    let v : (b : ℕ) → value_at c.deref.result.now c.deref-3.result.now (64 * k + b) ≡ f (64 * k + b) = λ b j. value_at (c.deref.ensures.value j) (c.deref-3.ensures.value j) (64 * k + b) in
    let within : (b : ℕ) → b < length c.copied_page.result.now → (b < 64) × (64 * k + b < length i.base.now) = λ b lt. (omega (arith, lt, many, count), omega (arith, lt, many, count)) in
    (many ∙ count ∙ ap (λ n. min 64 (n - 64 * k)) (sym same_len), λ b lt. c.copied_page.ensures.is b (omega (arith, lt, many)) ∙ ap Some (v b ∙ value_known i.base.now i.written i.slots.items i.numbers.items i.values.items c.self.invariant.0 s base written (64 * k + b) (subst (IsCopied i.slots.items i.numbers.items) (sym (page_of_cell k b (within b lt).0)) here) (within b lt).1))
