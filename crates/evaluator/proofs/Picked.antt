-- Labels that a value picks (ANSI X3.9-1978, 11.2 and 11.4).
use Rattle.std.proofs.Common.{◌≡◌, ℕ, ℤ, pos, negsuc, zero, suc, ◌-◌, ◌<◌, ◌≤◌, List, [], ◌∷◌, length, get_or, map, Ok, Err, refl, sym, ap, ◌∙◌, subst, arith}
use Rattle.std.proofs.Math.IntN.{nat_abs}
use Rattle.std.specs.Int.{FitsUnsignedBits}
use Rattle.meaning.specs.declared.ending.FaultKind.{FaultKind}
use Rattle.meaning.specs.declared.ending.FaultKind.TheVariants.{F4}
use Rattle.meaning.specs.declared.ending.Value.{Value}
use Rattle.meaning.specs.Characters.{number_of}
use Rattle.meaning.specs.Maps.{Map}
use Rattle.meaning.specs.Syntax.{ExprTree}
use Rattle.meaning.specs.Values.{Scope, value}
use Rattle.meaning.specs.Execution.{Ran, Ways, Next, onward, at_label, more, picked_by, nth_label, by_count}
use Rattle.evaluator.specs.Statements.{Passes, Moves}
use Rattle.evaluator.proofs.Executed.{fault_at, one_less, turn_none, turn_goes, turn_fails}

module _ (scope : Scope) (e : ExprTree) (pick : Value → Next) (line : ℕ) (m : Map) (t u : ℕ) where
  abbrev does : Ways → Ran
  does go = picked_by scope e pick line m t go

  pub pick_unexecuted : t ≡ 0 → u ≡ 0 → Moves does t m u (fault_at F4 line)
  pick_unexecuted none left go = turn_none line m t u _ none left

  module _ (taken : t ≡ suc u) where
    pub pick_fails : (k : FaultKind) → value scope e m ≡ Err k → Moves does t m u (fault_at k line)
    pick_fails k h go = turn_fails line m t u (value scope e m) k (λ v n. go (pick v) m n) taken h

    pub pick_goes : (v : Value) (next : Next) → value scope e m ≡ Ok v → next ≡ pick v → Passes does t next m u
    pick_goes v next h same =
        record {
          used = 1;
          is = λ go. turn_goes line m t u (value scope e m) v (λ x n. go (pick x) m n) taken h ∙ ap (λ x. more [] 1 (go x m u)) (sym same);
          turns = one_less t u taken;
        }

-- ---- the labels of a computed GO TO

nth_there : (digits : List (List ℕ)) (k s : ℕ) → k < length (map number_of digits) → s ≡ get_or (map number_of digits) k s → nth_label digits k ≡ at_label s
nth_there [] k s lt is = absurd (omega arith)
nth_there (x ∷ xs) zero s lt is = ap at_label (sym is)
nth_there (x ∷ xs) (suc k) s lt is = nth_there xs k s (omega arith) is

nth_past : (digits : List (List ℕ)) (k : ℕ) → length (map number_of digits) ≤ k → nth_label digits k ≡ onward
nth_past [] k le = refl
nth_past (x ∷ xs) zero le = absurd (omega arith)
nth_past (x ∷ xs) (suc k) le = nth_past xs k (omega arith)

value_is : (z : ℤ) (count : ℕ) → FitsUnsignedBits 64 z → count ≡ nat_abs z → z ≡ pos count
value_is (pos n) count fits e = ap pos (sym e)
value_is (negsuc n) count fits e = absurd fits

module _ (labels : List ℕ) (digits : List (List ℕ)) (are : map number_of digits ≡ labels) (z value : ℤ) (same : z ≡ value) (fits : FitsUnsignedBits 64 z) where
  pub counted_some : (count s : ℕ) → count ≡ nat_abs z → (count ≡ 0 → ⊥) → count - 1 < length labels → s ≡ get_or labels (count - 1) s → at_label s ≡ by_count digits value
  counted_some zero s size some lt is = absurd (some refl)
  counted_some (suc k) s size some lt is =
      let here : suc k - 1 ≡ k = omega arith in
      let inside = subst (λ (ls : List ℕ). k < length ls) (sym are) (subst (λ n. n < length labels) here lt) in
      let there = subst (λ (ls : List ℕ). s ≡ get_or ls k s) (sym are) (is ∙ ap (λ n. get_or labels n s) here) in
      sym (nth_there digits k s inside there) ∙ ap (by_count digits) (sym (value_is z (suc k) fits size) ∙ same)

  pub counted_none : (count : ℕ) → count ≡ nat_abs z → (count ≡ 0 → ⊥) → length labels ≤ count - 1 → onward ≡ by_count digits value
  counted_none zero size some le = absurd (some refl)
  counted_none (suc k) size some le =
      let here : suc k - 1 ≡ k = omega arith in
      let past = subst (λ (ls : List ℕ). length ls ≤ k) (sym are) (subst (λ n. length labels ≤ n) here le) in
      sym (nth_past digits k past) ∙ ap (by_count digits) (sym (value_is z (suc k) fits size) ∙ same)
