-- The rule that is told at the first statement up to which no program unit begins, by the statements before it.
use Rattle.std.proofs.Common.{◌≡◌, ℕ, zero, suc, ◌<◌, ◌≤◌, Bool, true, false, List, [], ◌∷◌, ◌++◌, length, Option, Some, None, Err, refl, sym, ap, subst, ◌∙◌, arith, inl, inr}
use Rattle.std.specs.Prelude.{◌&&◌, ◌||◌, not, nat_le, if◌then◌else◌}
use Rattle.std.proofs.lemmas.List.Folds.{list_any-append}
use Rattle.meaning.specs.declared.refusal.Broken.{Broken}
use Rattle.meaning.specs.declared.refusal.Rule.{Rule}
use Rattle.meaning.specs.declared.refusal.Rule.TheVariants.{N1, N2, N3, N4, N5}
use Rattle.meaning.specs.Ranks.{rank_of}
use Rattle.meaning.specs.Syntax.{ItemTree}
use Rattle.meaning.specs.Trees.{none, plain, flat}
use Rattle.meaning.specs.Nesting.{Unfinished, ended, body, range, branch, start, levels, effect_of, is_end, is_ended, is_misplaced, is_stray, is_crossing, is_too_deep, is_opening, behind, breaks, past, told_first, first_broken, nest, IsViable, GoesTooFar, IsBroken}
use Rattle.meaning.specs.RuleTold.{IsOutOfPlace, Crosses, IsBrokenBy, IsLeastBroken, IsFirstBroken, IsPair, IsTold}
use Rattle.nesting_laws.proofs.Joined.{flat_joined}
use Rattle.nesting_laws.proofs.Sound.{IsSound, text}
use Rattle.nesting_laws.proofs.Names.{not_false}
use Rattle.nesting_laws.proofs.Passed.{IsUnbroken, any_end, behind_sound, behind_text, behind_ended}
use Rattle.nesting_laws.proofs.Ordered.{unbroken_of, broken_append}
use Rattle.nesting_laws.proofs.Viable.{unbroken_viable, viable_unbroken}
use Rattle.nesting_laws.proofs.Refused.{refused_of, refused_is}
use Rattle.nesting_laws.proofs.Behind.{stray_of, stray_not, crossing_of, crossing_not}

-- ---- the least rule, by tests of each

abbrev told : Bool → Bool → Bool → Bool → Bool → Option Rule
told m a s b c = if m then Some N1 else (if a then Some N2 else (if s then Some N3 else (if b then Some N4 else (if c then Some N5 else None))))

-- what the tests say
record Tests (items : List ItemTree) (x : ItemTree) (m a s b c : Bool) : Type 0 where
  n1 : m ≡ true → IsBrokenBy N1 items x
  not_n1 : m ≡ false → IsBrokenBy N1 items x → ⊥
  n2 : a ≡ true → IsBrokenBy N2 items x
  not_n2 : a ≡ false → IsBrokenBy N2 items x → ⊥
  n3 : a ≡ false → s ≡ true → IsBrokenBy N3 items x
  not_n3 : a ≡ false → s ≡ false → IsBrokenBy N3 items x → ⊥
  n4 : a ≡ false → b ≡ true → IsBrokenBy N4 items x
  not_n4 : a ≡ false → b ≡ false → IsBrokenBy N4 items x → ⊥
  n5 : c ≡ true → IsBrokenBy N5 items x

-- none below a number is broken
none_below : (items : List ItemTree) (x : ItemTree) (n : ℕ) → n ≤ 5 → (1 < n → IsBrokenBy N1 items x → ⊥) → (2 < n → IsBrokenBy N2 items x → ⊥)
    → (3 < n → IsBrokenBy N3 items x → ⊥) → (4 < n → IsBrokenBy N4 items x → ⊥) → (lesser : Rule) → rank_of lesser < n → IsBrokenBy lesser items x → ⊥
none_below items x n most a b c d N1 lt h = a lt h
none_below items x n most a b c d N2 lt h = b lt h
none_below items x n most a b c d N3 lt h = c lt h
none_below items x n most a b c d N4 lt h = d lt h
none_below items x n most a b c d N5 lt h = absurd (omega arith)
none_below items x n most a b c d rule lt h = h

rule_is : (r s : Rule) → Some r ≡ Some s → r ≡ s
rule_is r s e = cc

never : (rule : Rule) → None ≡ Some rule → ⊥
never rule e = cc

least_by : (items : List ItemTree) (x : ItemTree) (m a s b c : Bool) (rule : Rule) → Tests items x m a s b c → told m a s b c ≡ Some rule → IsLeastBroken items x rule
least_by items x true a s b c rule t e = subst (IsLeastBroken items x) (rule_is N1 rule e) (record {
  broken = t.n1 refl;
  least = none_below items x 1 (omega arith) (λ lt. absurd (omega arith)) (λ lt. absurd (omega arith)) (λ lt. absurd (omega arith)) (λ lt. absurd (omega arith));
})
least_by items x false true s b c rule t e = subst (IsLeastBroken items x) (rule_is N2 rule e) (record {
  broken = t.n2 refl;
  least = none_below items x 2 (omega arith) (λ lt. t.not_n1 refl) (λ lt. absurd (omega arith)) (λ lt. absurd (omega arith)) (λ lt. absurd (omega arith));
})
least_by items x false false true b c rule t e = subst (IsLeastBroken items x) (rule_is N3 rule e) (record {
  broken = t.n3 refl refl;
  least = none_below items x 3 (omega arith) (λ lt. t.not_n1 refl) (λ lt. t.not_n2 refl) (λ lt. absurd (omega arith)) (λ lt. absurd (omega arith));
})
least_by items x false false false true c rule t e = subst (IsLeastBroken items x) (rule_is N4 rule e) (record {
  broken = t.n4 refl refl;
  least = none_below items x 4 (omega arith) (λ lt. t.not_n1 refl) (λ lt. t.not_n2 refl) (λ lt. t.not_n3 refl refl) (λ lt. absurd (omega arith));
})
least_by items x false false false false true rule t e = subst (IsLeastBroken items x) (rule_is N5 rule e) (record {
  broken = t.n5 refl;
  least = none_below items x 5 (omega arith) (λ lt. t.not_n1 refl) (λ lt. t.not_n2 refl) (λ lt. t.not_n3 refl refl) (λ lt. t.not_n4 refl refl);
})
least_by items x false false false false false rule t e = absurd (never rule e)

-- ---- one rule at most is the least

abbrev of_rank : ℕ → Rule
of_rank zero = N1
of_rank (suc zero) = N1
of_rank (suc (suc zero)) = N2
of_rank (suc (suc (suc zero))) = N3
of_rank (suc (suc (suc (suc zero)))) = N4
of_rank n = N5

by_rank : (items : List ItemTree) (x : ItemTree) (rule : Rule) → IsBrokenBy rule items x → of_rank (rank_of rule) ≡ rule
by_rank items x N1 h = refl
by_rank items x N2 h = refl
by_rank items x N3 h = refl
by_rank items x N4 h = refl
by_rank items x N5 h = refl
by_rank items x rule h = absurd h

same_rank : (items : List ItemTree) (x : ItemTree) (r s : Rule) → IsLeastBroken items x r → IsLeastBroken items x s → rank_of r ≡ rank_of s
same_rank items x r s h k =
    let below : rank_of r < rank_of s → ⊥ = λ lt. k.least r lt h.broken in
    let above : rank_of s < rank_of r → ⊥ = λ lt. h.least s lt k.broken in
    omega arith

one_least : (items : List ItemTree) (x : ItemTree) (r s : Rule) → IsLeastBroken items x r → IsLeastBroken items x s → r ≡ s
one_least items x r s h k = sym (by_rank items x r h.broken) ∙ ap of_rank (same_rank items x r s h k) ∙ by_rank items x s k.broken

-- ---- the tests behind statements where no rule is broken

clash : (b : Bool) → b ≡ true → b ≡ false → ⊥
clash b p q = cc

with_last : (xs : List ItemTree) (x : ItemTree) → is_end (effect_of x.shape) ≡ true → any_end (xs ++ x ∷ []) ≡ true
with_last xs x e = list_any-append (λ (y : ItemTree). is_end (effect_of y.shape)) xs (x ∷ []) ∙ at_last (any_end xs) (is_end (effect_of x.shape)) e
  where
    at_last : (a b : Bool) → b ≡ true → (a || (b || false)) ≡ true
    at_last true b e = refl
    at_last false true e = refl
    at_last false false e = absurd cc

ended_has : (z : Unfinished) → IsSound z → is_ended z ≡ true → any_end (text z) ≡ true
ended_has (ended ms) h e =
    ap any_end (ap flat h.parts ∙ flat_joined h.front (plain h.last none)) ∙ with_last (flat h.front) h.last (ap is_end h.closed)
ended_has (body ms) h e = absurd (clash false e refl)
ended_has (range head s ms around) h e = absurd (clash false e refl)
ended_has (branch arms head ms around) h e = absurd (clash false e refl)

and_left : (a b : Bool) → (a && b) ≡ true → a ≡ true
and_left true b h = refl
and_left false b h = absurd cc

tests_behind : (items : List ItemTree) (x : ItemTree) → IsUnbroken start items
    → Tests items x (is_misplaced items x) (is_ended (behind start items)) (is_stray (effect_of x.shape) (levels (behind start items)))
    (is_crossing (levels (behind start items)) x.label (effect_of x.shape)) (is_too_deep (levels (behind start items)) (effect_of x.shape))
tests_behind items x u =
    let z = behind start items in
    let e = effect_of x.shape in
    let sound : IsSound z = behind_sound start items tt u in
    let all : text z ≡ items = behind_text start items u in
    record {
      n1 = λ h. h;
      not_n1 = λ h k. clash (is_misplaced items x) k h;
      n2 = λ h. ap not (sym (ap any_end all) ∙ ended_has z sound h);
      not_n2 = λ h k. clash (is_ended z) (behind_ended start items tt u (not_false (any_end items) k)) h;
      n3 = λ o h. subst (IsOutOfPlace e) all (stray_of z e sound o h);
      not_n3 = λ o h k. stray_not z e sound o h (subst (IsOutOfPlace e) (sym all) k);
      n4 = λ o h. subst (λ (xs : List ItemTree). Crosses xs x) all (crossing_of z x sound o h);
      not_n4 = λ o h k. crossing_not z x sound o h (subst (λ (xs : List ItemTree). Crosses xs x) (sym all) k);
      n5 = λ h. and_left (is_opening e) (nat_le 32 (length (levels z))) h;
    }

least_of : (items : List ItemTree) (x : ItemTree) (rule : Rule) → IsUnbroken start items → breaks items (behind start items) x ≡ Some rule → IsLeastBroken items x rule
unfolding breaks
least_of items x rule u e =
    let z = behind start items in
    least_by items x (is_misplaced items x) (is_ended z) (is_stray (effect_of x.shape) (levels z)) (is_crossing (levels z) x.label (effect_of x.shape)) (is_too_deep (levels z) (effect_of x.shape))
    rule (tests_behind items x u) e

-- ---- the first statement up to which no program unit begins

first_of : (items : List ItemTree) (b : Broken) → GoesTooFar items b → IsFirstBroken items b
first_of items b g = record {
  front = g.front;
  member = g.member;
  back = g.back;
  parts = g.parts;
  viable = g.viable;
  over = g.over;
  at = g.at;
  rule_is = least_of g.front g.member b.rule (unbroken_of [] start g.front (viable_unbroken g.front g.viable)) g.rule_is;
}

-- a statement that breaks no rule leads to a program unit
goes_on : (front : List ItemTree) (x : ItemTree) → first_broken [] start front ≡ None → breaks front (behind start front) x ≡ None → IsViable (front ++ x ∷ [])
goes_on front x h e =
    unbroken_viable (front ++ x ∷ [])
    (broken_append [] start front (x ∷ []) h ∙ ap (λ o. told_first x o (first_broken (front ++ x ∷ []) (past (behind start front) x) [])) e)

far_of : (items : List ItemTree) (b : Broken) → IsFirstBroken items b → GoesTooFar items b
far_of items b f = record {
  front = f.front;
  member = f.member;
  back = f.back;
  parts = f.parts;
  viable = f.viable;
  over = f.over;
  at = f.at;
  rule_is = by_rule (breaks f.front (behind start f.front) f.member) refl;
}
  where
    clear : first_broken [] start f.front ≡ None
    clear = viable_unbroken f.front f.viable

    by_rule : (o : Option Rule) → breaks f.front (behind start f.front) f.member ≡ o → breaks f.front (behind start f.front) f.member ≡ Some b.rule
    by_rule None e = absurd (f.over (goes_on f.front f.member clear e))
    by_rule (Some r) e = e ∙ ap (λ (s : Rule). Some s) (one_least f.front f.member r b.rule (least_of f.front f.member r (unbroken_of [] start f.front clear) e) f.rule_is)

pair_of : (items : List ItemTree) (b : Broken) → IsBroken items b → IsPair items b
pair_of items b (inl h) = inl h
pair_of items b (inr h) = inr (first_of items b h)

broken_of : (items : List ItemTree) (b : Broken) → IsPair items b → IsBroken items b
broken_of items b (inl h) = inl h
broken_of items b (inr h) = inr (far_of items b h)

pub told_of : (items : List ItemTree) (b : Broken) → nest items ≡ Err b → IsTold items b
told_of items b h = let r = refused_of items b h in record { broken = pair_of items b r.broken; least = λ c k. r.least c (broken_of items c k) }

pub told_is : (items : List ItemTree) (b : Broken) → IsTold items b → nest items ≡ Err b
told_is items b t = refused_is items b (record { broken = broken_of items b t.broken; least = λ c k. t.least c (pair_of items c k) })
