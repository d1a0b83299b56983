-- Names that stand twice.
use Rattle.std.proofs.Common.{◌≡◌, ℕ, Bool, true, false, ◌||◌, List, [], ◌∷◌, refl, sym, ap, ◌∙◌}
use Rattle.std.specs.List.{list_any}
use Rattle.meaning.specs.NameRules.{repeats}
use Rattle.meaning.specs.Uses.{is_one_of}
use Rattle.function_rules.specs.Earlier.{stands_twice}
use Rattle.rule_passes.proofs.Membership.{none_of, one_of_more}

regroup : (a b c d : Bool) → (a || ((b || c) || d)) ≡ ((a || c) || (b || d))
regroup true b c d = refl
regroup false true true d = refl
regroup false true false d = refl
regroup false false c d = refl

repeats_is : (around ns : List (List ℕ)) → repeats around ns ≡ (list_any (is_one_of around) ns || stands_twice ns)
repeats_is around [] = refl
repeats_is around (n ∷ ns) =
    ap (λ b. is_one_of around n || b) (repeats_is (n ∷ around) ns ∙ ap (λ b. b || stands_twice ns) (one_of_more n around ns))
    ∙ regroup (is_one_of around n) (is_one_of ns n) (list_any (is_one_of around) ns) (stands_twice ns)

pub twice_is : (ns : List (List ℕ)) → stands_twice ns ≡ repeats [] ns
twice_is ns = sym (repeats_is [] ns ∙ ap (λ b. b || stands_twice ns) (none_of ns))
