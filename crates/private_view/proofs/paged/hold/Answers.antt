use Rattle.std.proofs.Common.{◌≡◌, ◌<◌, ◌+◌, ◌/◌, ◌%◌, ◌++◌, ◌∷◌, [], ℕ, pos, length, Some, sym, ap, ◌∙◌, subst, arith}
use Rattle.std.specs.Prelude.{◌⊎◌, slice_get, slice_index_or, slice_set}
use Rattle.std.proofs.lemmas.Bool.{true≢false}
use Rattle.private_view.specs.Views.{IsCopied, value_at}
use Rattle.private_view.proofs.Pages.{more, along, copied_here, copied_still, value_still, value_based}
use Rattle.private_view.proofs.paged.hold.Goals as goal

pub returns-clause-copied : goal.returns-clause-copied
returns-clause-copied c =
    let r = c.reserve.ensures.items in
    let S = c.args.slots.now.items in
    let G = c.grow_to.new.slots.items in
    let N = c.args.numbers.now.items in
    let p = c.args.page in
    let e = c.add_number.ensures.slots ∙ ap (λ ns. slice_set G p (length ns)) r in
    let f = c.add_number.ensures.numbers ∙ ap (λ ns. ns ++ p ∷ []) r in
    let w : p < length G = (let l = c.in_ok-grow_to.ensures.long in omega arith) in
    let same = c.grow_to.ensures.same in
    along S G N p w same (λ s n. IsCopied s n p) c.add_number.new.slots.items c.add_number.new.numbers.items e f (copied_here S G N p w same)

pub returns-clause-kept : goal.returns-clause-kept
returns-clause-kept c = λ k copied.
    let r = c.reserve.ensures.items in
    let S = c.args.slots.now.items in
    let G = c.grow_to.new.slots.items in
    let N = c.args.numbers.now.items in
    let p = c.args.page in
    let e = c.add_number.ensures.slots ∙ ap (λ ns. slice_set G p (length ns)) r in
    let f = c.add_number.ensures.numbers ∙ ap (λ ns. ns ++ p ∷ []) r in
    let w : p < length G = (let l = c.in_ok-grow_to.ensures.long in omega arith) in
    let same = c.grow_to.ensures.same in
    let fresh : IsCopied S N p → ⊥ = λ k. true≢false (sym (c.is_copied.ensures.1 (subst (λ s. IsCopied s c.deref-2.result.now p) (sym c.deref.ensures.value) (subst (λ n. IsCopied S n p) (sym c.deref-2.ensures.value) k))) ∙ c.if-is_copied.false) in
    along S G N p w same (λ s n. IsCopied s n k) c.add_number.new.slots.items c.add_number.new.numbers.items e f (copied_still S G N p w same fresh k copied)

pub returns-clause-same : goal.returns-clause-same
returns-clause-same c = λ k copied.
    let r = c.reserve.ensures.items in
    let S = c.args.slots.now.items in
    let G = c.grow_to.new.slots.items in
    let N = c.args.numbers.now.items in
    let p = c.args.page in
    let e = c.add_number.ensures.slots ∙ ap (λ ns. slice_set G p (length ns)) r in
    let f = c.add_number.ensures.numbers ∙ ap (λ ns. ns ++ p ∷ []) r in
    let w : p < length G = (let l = c.in_ok-grow_to.ensures.long in omega arith) in
    let same = c.grow_to.ensures.same in
    let fresh : IsCopied S N p → ⊥ = λ k. true≢false (sym (c.is_copied.ensures.1 (subst (λ s. IsCopied s c.deref-2.result.now p) (sym c.deref.ensures.value) (subst (λ n. IsCopied S n p) (sym c.deref-2.ensures.value) k))) ∙ c.if-is_copied.false) in
    let V = c.args.values.now.items in
    let W = c.add_page.new.values.items in
    along S G N p w same (λ s n. value_at s W k ≡ value_at S V k) c.add_number.new.slots.items c.add_number.new.numbers.items e f (value_still S G N p w same fresh V W c.page_of-part.result.now c.args.base.now c.requires.long c.add_page.ensures.before k copied)

pub returns-clause-based : goal.returns-clause-based
returns-clause-based c = λ k lt copied.
    let r = c.reserve.ensures.items in
    let S = c.args.slots.now.items in
    let G = c.grow_to.new.slots.items in
    let N = c.args.numbers.now.items in
    let p = c.args.page in
    let e = c.add_number.ensures.slots ∙ ap (λ ns. slice_set G p (length ns)) r in
    let f = c.add_number.ensures.numbers ∙ ap (λ ns. ns ++ p ∷ []) r in
    let w : p < length G = (let l = c.in_ok-grow_to.ensures.long in omega arith) in
    let same = c.grow_to.ensures.same in
    let fresh : IsCopied S N p → ⊥ = λ k. true≢false (sym (c.is_copied.ensures.1 (subst (λ s. IsCopied s c.deref-2.result.now p) (sym c.deref.ensures.value) (subst (λ n. IsCopied S n p) (sym c.deref-2.ensures.value) k))) ∙ c.if-is_copied.false) in
    let V = c.args.values.now.items in
    let W = c.add_page.new.values.items in
    let part = c.page_of-part.result.now in
    let base = c.args.base.now in
    let reaches : (i : ℕ) → i < length base → i / 64 ≡ p → i % 64 < length part = λ i less here. (let l = c.page_of-part.ensures.len in omega (arith, l, less, here)) in
    let there : (i : ℕ) → i < length part → slice_index_or W (length V + i) (pos 0) ≡ slice_index_or part i (pos 0) = c.in_ok-add_page.ensures.there in
    let back = subst (λ s. IsCopied s (more S G N p w same) (k / 64)) e (subst (λ n. IsCopied c.add_number.new.slots.items n (k / 64)) f copied) in
    along S G N p w same (λ s n. IsCopied S N (k / 64) ⊎ (Some (value_at s W k) ≡ slice_get base k)) c.add_number.new.slots.items c.add_number.new.numbers.items e f (value_based S G N p w same fresh V W part base c.requires.long c.add_page.ensures.before there reaches c.page_of-part.ensures.is k lt back)
