-- In a program unit that breaks no rule no label stands twice.
use Rattle.std.proofs.Common.{◌≡◌, List, [], ◌∷◌, ◌++◌, Option, Some, None, Ok, refl}
use Rattle.meaning.specs.declared.refusal.Broken.{Broken}
use Rattle.meaning.specs.declared.refusal.Rule.TheVariants.{K1}
use Rattle.meaning.specs.LabelRules.{has_repeated_label}
use Rattle.meaning.specs.NameRules.{told}
use Rattle.meaning.specs.Refusals.{least, unless}
use Rattle.meaning.specs.Rules.{broken_items, broken_rules, checked}
use Rattle.meaning.specs.Trees.{Nested, flatten}
use Rattle.meaning.specs.Uses.{symbols_of}

no_least : (bs : List Broken) → least bs ≡ None → bs ≡ []
no_least [] none = refl
no_least (b ∷ bs) none = absurd cc

pub none_front : {A : Type 0} (xs ys : List A) → (xs ++ ys) ≡ [] → xs ≡ []
none_front [] ys none = refl
none_front (x ∷ xs) ys none = absurd cc

no_rule_told : (t : Nested) (o : Option Broken) → unless o t ≡ Ok t → o ≡ None
no_rule_told t None accepted = refl
no_rule_told t (Some b) accepted = absurd cc

pub nothing_broken : (t : Nested) → checked t ≡ Ok t → broken_rules t ≡ []
unfolding checked
nothing_broken t accepted = no_least (broken_rules t) (no_rule_told t (least (broken_rules t)) accepted)

-- no label stands twice
pub labels_once : (t : Nested) → checked t ≡ Ok t → told has_repeated_label K1 [] (flatten t) ≡ []
labels_once t accepted =
    let r = symbols_of (flatten t) in
    none_front (told has_repeated_label K1 [] (flatten t)) _ (none_front (broken_items r (flatten t)) _ (nothing_broken t accepted))
