-- What is told of a type is a witness.
use Rattle.std.proofs.Common.{◌≡◌, ℕ, Bool, ◌||◌, List, [], ◌∷◌, refl, Option, Some, None, option_map}
use Rattle.std.specs.Prelude.{◌⊎◌}
use Rattle.std.specs.List.{list_any}
use Rattle.std.specs.Option.{option_or}
use Rattle.finding.specs.Answers.{IsAnswer}
use Rattle.number_culprits.proofs.Telling.{either_answer}
use Rattle.meaning.specs.declared.syntax.DataType.TheVariants as types
use Rattle.meaning.specs.NameRules.{is_wrongly_typed}
use Rattle.meaning.specs.Syntax.{ExprTree, number, truth, name, signed, negated, binary, paren, element, call, ExprsTree, no_exprs, exprs, ItemTree}
use Rattle.meaning.specs.Typing.{Expected, Names, SomeType, Wanted, are_ill, clash, dummies_if, expected_in, further_wanted, integer_type, is_ill, is_mistyped, logical_type, next_wanted, operand_type, type_of, wanted_by, within}
use Rattle.meaning.specs.Uses.{Symbols, is_defining}
use Rattle.type_culprits.specs.Clashes.{asked_in, asker_of, clash_in, first_in, further_asker, ill_in, ills_in, mistyped_at, mistyped_in, misfit, told_as}
use Rattle.type_culprits.specs.Told.{Asker, Told, between, before, named, negation}
use Rattle.type_culprits.specs.Witness.{AreIllBy, IsAmong, IsAsked, IsBy, IsClash, IsIllBy, IsMistypedBy}

module _ (ns : Names) where
  clash_answer : (wanted : SomeType) (asker : Asker) (e : ExprTree) → IsAnswer (IsClash ns wanted asker e) (clash wanted (type_of ns e)) (clash_in ns wanted asker e)
  clash_answer wanted asker e = by_types wanted (type_of ns e) refl refl
    where
      by_types : (j f : SomeType) → wanted ≡ j → type_of ns e ≡ f → IsAnswer (IsClash ns wanted asker e) (clash j f) (option_map (told_as e asker) (misfit j f))
      by_types (Some types.Integer) (Some types.Logical) w t =
          (refl, record { expr_is = refl; asker_is = refl; is_wanted = w; is_found = t })
      by_types (Some types.Logical) (Some types.Integer) w t =
          (refl, record { expr_is = refl; asker_is = refl; is_wanted = w; is_found = t })
      by_types (Some types.Integer) (Some types.Integer) w t = refl
      by_types (Some types.Logical) (Some types.Logical) w t = refl
      by_types (Some types.Integer) None w t = refl
      by_types (Some types.Logical) None w t = refl
      by_types None f w t = refl

  -- an expression of another type, or a part of it
  part_answer : (wanted : SomeType) (asker : Asker) (e : ExprTree) → IsAnswer (IsIllBy ns e) (is_ill ns e) (ill_in ns e) → IsAnswer (λ k. IsClash ns wanted asker e k ⊎ IsIllBy ns e k) (clash wanted (type_of ns e) || is_ill ns e) (option_or (clash_in ns wanted asker e) (ill_in ns e))
  part_answer wanted asker e inside =
      either_answer (IsClash ns wanted asker e) (IsIllBy ns e) (clash wanted (type_of ns e)) (is_ill ns e) (clash_in ns wanted asker e) (ill_in ns e) (clash_answer wanted asker e) inside

  mutual
    ill_answer : (e : ExprTree) → IsAnswer (IsIllBy ns e) (is_ill ns e) (ill_in ns e)
    ill_answer (number digits) = refl
    ill_answer (truth value) = refl
    ill_answer (name letters) = refl
    ill_answer (signed sign e) = part_answer integer_type (before sign) e (ill_answer e)
    ill_answer (negated e) = part_answer logical_type negation e (ill_answer e)
    ill_answer (binary operator a b) =
        let wanted = operand_type operator in
        let by : ExprTree → Told → Type 0 = λ e k. IsClash ns wanted (between operator) e k ⊎ IsIllBy ns e k in
        let test : ExprTree → Bool = λ e. clash wanted (type_of ns e) || is_ill ns e in
        let ask : ExprTree → Option Told = λ e. option_or (clash_in ns wanted (between operator) e) (ill_in ns e) in
        either_answer (by a) (by b) (test a) (test b) (ask a) (ask b) (part_answer wanted (between operator) a (ill_answer a)) (part_answer wanted (between operator) b (ill_answer b))
    ill_answer (paren e) = ill_answer e
    ill_answer (element letters es) = ills_answer letters (wanted_by ns letters) es
    ill_answer (call letters) = refl

    ills_answer : (n : List ℕ) (w : Wanted) (es : ExprsTree) → IsAnswer (AreIllBy ns n w es) (are_ill ns w es) (ills_in ns n w es)
    ills_answer n w no_exprs = refl
    ills_answer n w (exprs e es) =
        either_answer (λ k. IsClash ns (next_wanted w) (named n) e k ⊎ IsIllBy ns e k) (AreIllBy ns n (further_wanted w) es) (clash (next_wanted w) (type_of ns e) || is_ill ns e) (are_ill ns (further_wanted w) es) (option_or (clash_in ns (next_wanted w) (named n) e) (ill_in ns e)) (ills_in ns n (further_wanted w) es) (part_answer (next_wanted w) (named n) e (ill_answer e)) (ills_answer n (further_wanted w) es)

  among_answer : (asker : Asker) (xs : List Expected) → IsAnswer (IsAmong ns asker xs) (list_any (is_mistyped ns) xs) (first_in ns asker xs)
  among_answer asker [] = refl
  among_answer asker (x ∷ xs) =
      either_answer (IsMistypedBy ns asker x) (IsAmong ns asker xs) (is_mistyped ns x) (list_any (is_mistyped ns) xs) (mistyped_in ns asker x) (first_in ns asker xs) (part_answer x.data_type asker x.expr (ill_answer x.expr)) (among_answer asker xs)

  asked_answer : (asker further : Asker) (xs : List Expected) → IsAnswer (IsAsked ns asker further xs) (list_any (is_mistyped ns) xs) (asked_in ns asker further xs)
  asked_answer asker further [] = refl
  asked_answer asker further (x ∷ xs) =
      either_answer (IsMistypedBy ns asker x) (IsAmong ns further xs) (is_mistyped ns x) (list_any (is_mistyped ns) xs) (mistyped_in ns asker x) (first_in ns further xs) (part_answer x.data_type asker x.expr (ill_answer x.expr)) (among_answer further xs)

pub types_told : (r : Symbols) (front : List ItemTree) (x : ItemTree) → IsAnswer (IsBy r front x) (is_wrongly_typed r front x) (mistyped_at r front x)
types_told r front x =
    asked_answer (within (dummies_if (is_defining r front x) x.shape) r.names) (asker_of x.shape) (further_asker x.shape) (expected_in r.names x.shape)
