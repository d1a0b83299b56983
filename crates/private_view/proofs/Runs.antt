-- The run of a view: its cells are exposed, and none of them was written.
use Rattle.std.proofs.Common.{◌≡◌, ℕ, ℤ, ◌*◌, ◌<◌, ◌≤◌, ◌==◌, ◌||◌, Bool, true, false, Option, Some, None, is_some, refl, sym, ap, ◌∙◌, arith, inl, inr}
use Rattle.std.specs.Prelude.{◌⊎◌}
use Rattle.std.proofs.lemmas.Bool.{true≢false, eqb-true}
use Rattle.std.specs.Ordering.{nat_cmp}
use Rattle.std.specs.FinSet as set
use Rattle.marks.specs.Cells.{is_within}
use Rattle.marks.proofs.Runs.{in_run, off_run}
use Rattle.private_view.specs.Views.{ExposesRun, IsRun}

-- a run of no cells
pub no_run : (exposed marks : set.FinSet nat_cmp) → IsRun 64 0 exposed marks
no_run exposed marks =
    record { far = omega arith; shown = λ c low high. absurd (omega arith); unwritten = λ c low high. absurd (omega arith) }

or_more : (a b : Bool) → b ≡ true → (a || b) ≡ true
or_more true b h = refl
or_more false b h = h

module _ (from until : ℕ) (exposed marks : set.FinSet nat_cmp) (run : IsRun from until exposed marks) where
  -- when a cell more is exposed
  pub run_exposed : (k : ℕ) (next : set.FinSet nat_cmp) → ((q : ℕ) → set.contains next q ≡ (q == k || set.contains exposed q)) → IsRun from until next marks
  run_exposed k next more = record {
    far = run.far;
    shown = λ c low high. more c ∙ or_more (c == k) (set.contains exposed c) (run.shown c low high);
    unwritten = run.unwritten;
  }

  -- when a cell more is written, and the run ends before it
  pub run_written : (k to : ℕ) (next : set.FinSet nat_cmp) → ((q : ℕ) → set.contains next q ≡ (q == k || set.contains marks q)) → to ≤ until → (k < from) ⊎ (to ≤ k) → IsRun from to exposed next
  run_written k to next more less out = record {
    far = run.far;
    shown = λ c low high. run.shown c low (omega arith);
    unwritten = λ c low high. more c ∙ by c low high (c == k) refl out ∙ run.unwritten c low (omega arith);
  }
    where
      by : (c : ℕ) → from ≤ c → c < to → (b : Bool) → (c == k) ≡ b → (k < from) ⊎ (to ≤ k) → (c == k || set.contains marks c) ≡ set.contains marks c
      by c low high false e out = ap (λ b. b || set.contains marks c) e
      by c low high true e (inl before) = let same = eqb-true c k e in absurd (omega (arith, low, before, same))
      by c low high true e (inr behind) = let same = eqb-true c k e in absurd (omega (arith, high, behind, same))

-- no cell is exposed more
pub exposes_none : (from until : ℕ) (old new : set.FinSet nat_cmp) → new ≡ old → ExposesRun from until old new
exposes_none from until old new same =
    (from, (0, (omega arith, (omega arith, λ c. ap (λ s. set.contains s c) same ∙ sym (ap (λ b. b || set.contains old c) (off_run from 0 c (inr (omega arith))))))))

-- whole groups are exposed, in a view in which nothing was written
module _ (first behind : ℕ) (old new marks : set.FinSet nat_cmp) (more : (c : ℕ) → set.contains new c ≡ (is_within (512 * first) (512 * behind) c || set.contains old c)) where
  pub new_run : 1 ≤ first → ((c : ℕ) → set.contains marks c ≡ false) → IsRun (512 * first) (512 * behind) new marks
  new_run some none = record {
    far = omega arith;
    shown = λ c low high. more c ∙ ap (λ b. b || set.contains old c) (in_run (512 * first) (512 * behind) c low high);
    unwritten = λ c low high. none c;
  }

  pub exposes_groups : (from until : ℕ) → from ≤ 512 * first → 512 * behind ≤ until → ExposesRun from until old new
  exposes_groups from until low high = (512 * first, (512 * behind, (low, (high, more))))

pub is_none : (o : Option ℤ) → is_some o ≡ false → o ≡ None
is_none (Some v) some = absurd (true≢false some)
is_none None some = refl
