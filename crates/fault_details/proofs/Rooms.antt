-- What is left to evaluate: a statement function's expression is less than what a call of it had.
use Rattle.std.proofs.Common.{◌<◌, ◌≡◌, ◌≤◌, ◌+◌, ◌*◌, ◌⊎◌, ℕ, zero, suc, List, Some, slice_get, inl, inr, sym, subst, arith}
use Rattle.std.proofs.lemmas.Bool.{cases_eq}
use Rattle.meaning.specs.Scopes.{Definition}
use Rattle.meaning.specs.Syntax.{expr_tree}
use Rattle.expressions.specs.Calls.{IsCallable}
use Rattle.expressions.specs.Glossaries.{Glossary, heavy, room, weight}
use Rattle.expressions.specs.declared.numbering.Function.{Function}

one_more : (ds : List Definition) (at n : ℕ) → at < suc n → (at ≡ n) ⊎ (at ≡ n → ⊥) → (at < n → heavy (slice_get ds at) + room ds at ≤ room ds n) → heavy (slice_get ds at) + room ds at ≤ room ds (suc n)
one_more ds at n lt (inl same) before = subst (λ k. heavy (slice_get ds k) + room ds k ≤ room ds (suc n)) (sym same) (omega arith)
one_more ds at n lt (inr other) before = let h = before (omega (arith, other)) in omega (arith, h)

heavy_below : (ds : List Definition) (at most : ℕ) → at < most → heavy (slice_get ds at) + room ds at ≤ room ds most
heavy_below ds at zero lt = absurd (omega arith)
heavy_below ds at (suc n) lt = one_more ds at n lt (cases_eq at n) (heavy_below ds at n)

pub call_falls : (g : Glossary) (n : List ℕ) (f : Function) (most : ℕ) → IsCallable g most n (Some f) → 4 * weight (expr_tree f.body.now) + 4 * room g.definitions f.at < 4 * room g.definitions most
call_falls g n f most (defined, lt) =
    let h = heavy_below g.definitions f.at most lt in
    let k : 1 + weight (expr_tree f.body.now) + room g.definitions f.at ≤ room g.definitions most = subst (λ o. heavy o + room g.definitions f.at ≤ room g.definitions most) defined.found h in
    omega (arith, k)
