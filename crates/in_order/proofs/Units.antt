-- From the program unit that a source spells to the program, if it keeps the rules.
use Rattle.std.proofs.Common.{◌≡◌, ℕ, List, map, Result, Ok, Err, refl, sym, ap, ◌∙◌}
use Rattle.meaning.specs.declared.refusal.Broken.{Broken}
use Rattle.meaning.specs.Answers.{members_of, program_of}
use Rattle.meaning.specs.Nesting.{nest}
use Rattle.meaning.specs.Refusals.{◌>>=◌}
use Rattle.meaning.specs.Rules.{checked}
use Rattle.meaning.specs.Statements.{statements_of}
use Rattle.meaning.specs.Trees.{Nested}
use Rattle.rule_laws.specs.Units.{unit_of}

in_turn : {A B C : Type 0} (r : Result A Broken) (f : A → Result B Broken) (g : B → Result C Broken) → ((r >>= f) >>= g) ≡ (r >>= λ x. (f x >>= g))
in_turn (Ok x) f g = refl
in_turn (Err b) f g = refl

within : {A B : Type 0} (r : Result A Broken) (f g : A → Result B Broken) → ((x : A) → f x ≡ g x) → (r >>= f) ≡ (r >>= g)
within (Ok x) f g same = same x
within (Err b) f g same = refl

-- the program is the unit, checked
by_unit : (source : List ℕ) → program_of source ≡ (unit_of source >>= checked)
unfolding program_of
by_unit source =
    sym (in_turn (statements_of source) (λ entries. members_of entries >>= nest) checked ∙ within (statements_of source) _ _ (λ entries. in_turn (members_of entries) nest checked))

pub passes : (source : List ℕ) (t : Nested) → unit_of source ≡ Ok t → program_of source ≡ checked t
passes source t is = by_unit source ∙ ap (λ r. r >>= checked) is

pub refuses : (source : List ℕ) (b : Broken) → unit_of source ≡ Err b → program_of source ≡ Err b
refuses source b is = by_unit source ∙ ap (λ r. r >>= checked) is
