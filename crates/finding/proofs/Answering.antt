-- Answers to questions that are put together.
use Rattle.std.proofs.Common.{◌≡◌, Bool, true, false, ◌||◌, List, refl, sym, ap, ap₂, ◌∙◌, subst, Option, Some, None, option_map}
use Rattle.std.specs.Prelude.{if◌then◌else◌}
use Rattle.std.specs.List.{find, list_any}
use Rattle.std.specs.Option.{option_or}
use Rattle.finding.specs.Answers.{IsAnswer}
use Rattle.finding.proofs.Found.{IsFound, any_found, found, none_found}

-- one question or another
pub or_answer : {K : Type 0} (by : K → Type 0) (a b : Bool) (o p : Option K) → IsAnswer by a o → IsAnswer by b p → IsAnswer by (a || b) (option_or o p)
or_answer by a b (Some k) p h g = (ap (λ c. c || b) h.0, h.1)
or_answer by a b None (Some k) h g = (ap (λ c. c || b) h ∙ g.0, g.1)
or_answer by a b None None h g = ap₂ ◌||◌ h g

-- the same question, and weaker witnesses
pub same_answer : {K : Type 0} (by : K → Type 0) (a b : Bool) (o : Option K) → a ≡ b → IsAnswer by a o → IsAnswer by b o
same_answer by a b (Some k) is h = (sym is ∙ h.0, h.1)
same_answer by a b None is h = sym is ∙ h

pub told_answer : {K L : Type 0} (by : K → Type 0) (other : L → Type 0) (f : K → L) (b : Bool) (o : Option K) → ((k : K) → by k → other (f k)) → IsAnswer by b o → IsAnswer other b (option_map f o)
told_answer by other f b (Some k) weaker h = (h.0, weaker k h.1)
told_answer by other f b None weaker h = h

-- a test, and a search
pub test_answer : {K : Type 0} (by : K → Type 0) (b : Bool) (k : K) → (b ≡ true → by k) → IsAnswer by b (if b then Some k else None)
test_answer by true k holds = (refl, holds refl)
test_answer by false k holds = refl

pub find_answer : {X K : Type 0} (by : K → Type 0) (f : X → K) (test : X → Bool) (xs : List X) → ((x : X) → IsFound test xs x → by (f x)) → IsAnswer by (list_any test xs) (option_map f (find test xs))
find_answer {X} {K} by f test xs holds = by_option (find test xs) refl
  where
    by_option : (o : Option X) → find test xs ≡ o → IsAnswer by (list_any test xs) (option_map f o)
    by_option (Some x) at = (any_found test xs x at, holds x (found test xs x at))
    by_option None at = none_found test xs at

pub weaker_answer : {K : Type 0} (by other : K → Type 0) (b : Bool) (o : Option K) → ((k : K) → by k → other k) → IsAnswer by b o → IsAnswer other b o
weaker_answer by other b (Some k) weaker h = (h.0, weaker k h.1)
weaker_answer by other b None weaker h = h
