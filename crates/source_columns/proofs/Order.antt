-- Broken pairs in the order of their lines, and at one line in the order of their ranks.
use Rattle.std.proofs.Common.{◌≡◌, ℕ, ◌+◌, ◌≤◌, ◌<◌, Bool, true, false, cond, ltb, ◌++◌, Option, Some, None, refl, sym, ap, ◌∙◌, arith}
use Rattle.std.specs.Prelude.{MatchOption}
use Rattle.std.proofs.lemmas.Bool.Decides.{nat_tests}
use Rattle.meaning.specs.declared.refusal.Broken.{Broken}
use Rattle.meaning.specs.declared.refusal.Rule.{Rule}
use Rattle.meaning.specs.declared.refusal.Rule.TheVariants.{C1, C2, C3}
use Rattle.meaning.specs.Ranks.{rank_of}
use Rattle.meaning.specs.Refusals.{is_less, lesser, least, merge}
use Rattle.meaning.specs.Statements.{broken_if}
use Rattle.meaning.proofs.Least.{merge-merge}
use Rattle.source_columns.specs.Continuing.{or_else}

-- ---- pairs of one line, and those of later lines

abbrev pub AtLine : ℕ → Option Broken → Type 0
AtLine line o = MatchOption o (Unit {0}) (λ b. b.line ≡ line)

abbrev pub NotBefore : ℕ → Option Broken → Type 0
NotBefore line o = MatchOption o (Unit {0}) (λ b. line ≤ b.line)

pub at_not_before : (n line : ℕ) (o : Option Broken) → n ≤ line → AtLine line o → NotBefore n o
at_not_before n line None le h = tt
at_not_before n line (Some b) le h = omega arith

pub merge_not_before : (line : ℕ) (o p : Option Broken) → NotBefore line o → NotBefore line p → NotBefore line (merge o p)
merge_not_before line None p g h = h
merge_not_before line (Some a) None g h = g
merge_not_before line (Some a) (Some b) g h = by_test (is_less b a)
  where
    by_test : (t : Bool) → line ≤ (cond t b a).line
    by_test true = h
    by_test false = g

later_not_less : (line : ℕ) (a b : Broken) → a.line ≡ line → line + 1 ≤ b.line → is_less b a ≡ false
later_not_less line a b g h = grind (arith, nat_tests)

earlier_less : (line : ℕ) (a b : Broken) → a.line ≡ line → line + 1 ≤ b.line → is_less a b ≡ true
earlier_less line a b g h = grind (arith, nat_tests)

-- the pair of the earlier line is the least
pub merge_first : (line : ℕ) (o p : Option Broken) → AtLine line o → NotBefore (line + 1) p → merge o p ≡ or_else o p
merge_first line None p g h = refl
merge_first line (Some a) None g h = refl
merge_first line (Some a) (Some b) g h = rw (later_not_less line a b g h) refl

pub merge_last : (line : ℕ) (o p : Option Broken) → AtLine line o → NotBefore (line + 1) p → merge p o ≡ or_else o p
merge_last line None None g h = refl
merge_last line None (Some b) g h = refl
merge_last line (Some a) None g h = refl
merge_last line (Some a) (Some b) g h = rw (earlier_less line a b g h) refl

pub merge_merge_first : (line : ℕ) (o r p q : Option Broken) → AtLine line o → AtLine line r → NotBefore (line + 1) p → NotBefore (line + 1) q → merge (merge o p) (merge r q) ≡ or_else (merge o r) (merge p q)
merge_merge_first line None None p q g h i j = refl
merge_merge_first line (Some a) None p q g h i j =
    sym (merge-merge (Some a) p q) ∙ merge_first line (Some a) (merge p q) g (merge_not_before (line + 1) p q i j)
merge_merge_first line None (Some b) p q g h i j =
    ap (λ o. merge p o) (merge_first line (Some b) q h j) ∙ merge_last line (Some b) p h i
merge_merge_first line (Some a) (Some b) p q g h i j =
    ap (λ o. merge o (merge (Some b) q)) (merge_first line (Some a) p g i) ∙ ap (λ o. merge (Some a) o) (merge_first line (Some b) q h j)

-- ---- pairs of one line

abbrev pub broken : ℕ → Rule → Broken
broken line rule = record { line = line; rule = rule }

-- a rule of no greater rank stays the lesser at its line
stays : (line : ℕ) (a b : Rule) → ltb (rank_of b) (rank_of a) ≡ false → lesser (broken line a) (broken line b) ≡ broken line a
stays line a b e =
    let not_less : is_less (broken line b) (broken line a) ≡ false = grind (arith, nat_tests) in
    rw not_less refl

-- the first of the tests that say so
abbrev pub first_of : Bool → Bool → Bool → ℕ → Option Broken
first_of x y z line = cond x (Some (broken line C1)) (cond y (Some (broken line C2)) (cond z (Some (broken line C3)) None))

pub least_three : (x y z : Bool) (line : ℕ) → least (broken_if x line C1 ++ (broken_if y line C2 ++ broken_if z line C3)) ≡ first_of x y z line
least_three true true true line = rw (stays line C2 C3 refl, stays line C1 C2 refl) refl
least_three true true false line = rw (stays line C1 C2 refl) refl
least_three true false true line = rw (stays line C1 C3 refl) refl
least_three true false false line = refl
least_three false true true line = rw (stays line C2 C3 refl) refl
least_three false true false line = refl
least_three false false true line = refl
least_three false false false line = refl

pub first_at : (x y z : Bool) (line : ℕ) → AtLine line (first_of x y z line)
first_at true y z line = refl
first_at false true z line = refl
first_at false false true line = refl
first_at false false false line = tt

pub if_at : (t : Bool) (line : ℕ) (rule : Rule) → AtLine line (least (broken_if t line rule))
if_at true line rule = refl
if_at false line rule = tt

-- a further rule of greater rank is told where none of these is
pub merge_rank : (x y z : Bool) (line : ℕ) (rule : Rule) → 3 < rank_of rule → merge (first_of x y z line) (Some (broken line rule)) ≡ or_else (first_of x y z line) (Some (broken line rule))
merge_rank true y z line rule h = rw (stays line C1 rule (grind (arith, nat_tests))) refl
merge_rank false true z line rule h = rw (stays line C2 rule (grind (arith, nat_tests))) refl
merge_rank false false true line rule h = rw (stays line C3 rule (grind (arith, nat_tests))) refl
merge_rank false false false line rule h = refl

pub merge_rank_if : (x y z t : Bool) (line : ℕ) (rule : Rule) → 3 < rank_of rule → merge (first_of x y z line) (least (broken_if t line rule)) ≡ or_else (first_of x y z line) (least (broken_if t line rule))
merge_rank_if x y z true line rule h = merge_rank x y z line rule h
merge_rank_if true y z false line rule h = refl
merge_rank_if false true z false line rule h = refl
merge_rank_if false false true false line rule h = refl
merge_rank_if false false false false line rule h = refl
