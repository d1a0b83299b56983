-- Parts of a text, one put behind another, and the sum of turns.
use Rattle.std.proofs.Common.{◌≡◌, ℕ, ◌+◌, ◌<◌, ◌^◌, List, [], ◌++◌, append_assoc, Result, Ok, Err, sym, ap, ◌∙◌, arith}
use Rattle.std.specs.Prelude.{OnOk, sum_by}
use Rattle.loop_reports.specs.BlockTrips.{capped}
use Rattle.loop_reports.specs.declared.counts.Counts.{Counts}
use Rattle.loop_reports.specs.declared.row.Row.{Row}

-- what follows of a result that is good
pub then_ok : {A E P Q : Type 0} (r : Result A E) → (P → Q) → OnOk r P → OnOk r Q
then_ok (Ok a) f h = f h
then_ok (Err e) f h = tt

pub joined_two : (t a b p q : List ℕ) → p ≡ t ++ a → q ≡ p ++ b → q ≡ t ++ (a ++ b)
joined_two t a b p q first second =
    second ∙ ap (λ x. x ++ b) first ∙ append_assoc t a b

pub joined_three : (t a b c p q r : List ℕ) → p ≡ t ++ a → q ≡ p ++ b → r ≡ q ++ c → r ≡ t ++ (a ++ b ++ c)
joined_three t a b c p q r first second third =
    joined_two t (a ++ b) c q r (joined_two t a b p q first second) third

pub joined_four : (t a b c d p q r s : List ℕ) → p ≡ t ++ a → q ≡ p ++ b → r ≡ q ++ c → s ≡ r ++ d → s ≡ t ++ (a ++ b ++ c ++ d)
joined_four t a b c d p q r s first second third fourth =
    joined_two t (a ++ b ++ c) d r s (joined_three t a b c p q r first second third) fourth

pub joined_five : (t a b c d e p q r s u : List ℕ) → p ≡ t ++ a → q ≡ p ++ b → r ≡ q ++ c → s ≡ r ++ d → u ≡ s ++ e → u ≡ t ++ (a ++ b ++ c ++ d ++ e)
joined_five t a b c d e p q r s u first second third fourth fifth =
    joined_two t (a ++ b ++ c ++ d) e s u (joined_four t a b c d p q r s first second third fourth) fifth

pub joined_six : (t a b c d e f p q r s u v : List ℕ) → p ≡ t ++ a → q ≡ p ++ b → r ≡ q ++ c → s ≡ r ++ d → u ≡ s ++ e → v ≡ u ++ f → v ≡ t ++ (a ++ b ++ c ++ d ++ e ++ f)
joined_six t a b c d e f p q r s u v first second third fourth fifth sixth =
    joined_two t (a ++ b ++ c ++ d ++ e) f u v (joined_five t a b c d e p q r s u first second third fourth fifth) sixth

-- nothing is left to be added
pub all_added : (f : Counts → ℕ) (turns k : ℕ) (rows : List (ℕ × Row)) → rows ≡ [] → turns < 2 ^ 64 → capped (turns + sum_by (λ (r : ℕ × Row). f r.1.counts) rows) ≡ k → turns ≡ k
all_added f turns k rows none few is =
    whole turns few ∙ sym (ap (λ (rs : List (ℕ × Row)). capped (turns + sum_by (λ (r : ℕ × Row). f r.1.counts) rs)) none) ∙ is
  where
    whole : (t : ℕ) → t < 2 ^ 64 → t ≡ capped (t + 0)
    whole t lt = omega arith
