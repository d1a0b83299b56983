-- Each rule and each fault stands in its table.
use Rattle.std.proofs.Common.{◌≡◌, ◌<◌, ℕ, List, length, arith, get_or, refl, sym, subst}
use Rattle.meaning.specs.declared.ending.FaultKind.{FaultKind}
use Rattle.meaning.specs.declared.ending.FaultKind.TheVariants.{F1, F2, F3, F4, F5, F6, F7, F8}
use Rattle.meaning.specs.declared.refusal.Rule.{Rule}
use Rattle.meaning.specs.declared.refusal.Rule.TheVariants.{C1, C2, C3, C4, C5, C6, C7, G1, G2, G3, N1, N2, N3, N4, N5, K1, K2, K3, K4, K5, K6, K7, K8, K9, K10, K11, K12, K13}
use Rattle.rule_help.specs.Named.{Spells}
use Rattle.rule_help.specs.declared.TheConstants.{FAULTS, RULES}

-- something stands in a list
abbrev pub Stands : {X : Type 0} → List X → X → Type 0
Stands xs x = (k : ℕ) × ((k < length xs) × (get_or xs k x ≡ x))

pub each_rule : (rule : Rule) → Stands RULES.now rule
each_rule C1 = (0, (omega arith, refl))
each_rule C2 = (1, (omega arith, refl))
each_rule C3 = (2, (omega arith, refl))
each_rule C4 = (3, (omega arith, refl))
each_rule C5 = (4, (omega arith, refl))
each_rule C6 = (5, (omega arith, refl))
each_rule C7 = (6, (omega arith, refl))
each_rule G1 = (7, (omega arith, refl))
each_rule G2 = (8, (omega arith, refl))
each_rule G3 = (9, (omega arith, refl))
each_rule N1 = (10, (omega arith, refl))
each_rule N2 = (11, (omega arith, refl))
each_rule N3 = (12, (omega arith, refl))
each_rule N4 = (13, (omega arith, refl))
each_rule N5 = (14, (omega arith, refl))
each_rule K1 = (15, (omega arith, refl))
each_rule K2 = (16, (omega arith, refl))
each_rule K3 = (17, (omega arith, refl))
each_rule K4 = (18, (omega arith, refl))
each_rule K5 = (19, (omega arith, refl))
each_rule K6 = (20, (omega arith, refl))
each_rule K7 = (21, (omega arith, refl))
each_rule K8 = (22, (omega arith, refl))
each_rule K9 = (23, (omega arith, refl))
each_rule K10 = (24, (omega arith, refl))
each_rule K11 = (25, (omega arith, refl))
each_rule K12 = (26, (omega arith, refl))
each_rule K13 = (27, (omega arith, refl))

pub each_fault : (kind : FaultKind) → Stands FAULTS.now kind
each_fault F1 = (0, (omega arith, refl))
each_fault F2 = (1, (omega arith, refl))
each_fault F3 = (2, (omega arith, refl))
each_fault F4 = (3, (omega arith, refl))
each_fault F5 = (4, (omega arith, refl))
each_fault F6 = (5, (omega arith, refl))
each_fault F7 = (6, (omega arith, refl))
each_fault F8 = (7, (omega arith, refl))

-- what is spelled otherwise in each place of the list, and stands in it, is spelled otherwise
pub no_name : {X : Type 0} (name_of : X → List ℕ) (xs : List X) (text : List ℕ) (x : X) → Stands xs x
    → ((k : ℕ) → k < length xs → (d : X) → Spells text (name_of (get_or xs k d)) → ⊥) → Spells text (name_of x) → ⊥
no_name name_of xs text x s none e = none s.0 s.1.0 x (subst (λ y. Spells text (name_of y)) (sym s.1.1) e)
