-- Values of DATA statements that are told of have none.
use Rattle.std.proofs.Common.{◌≡◌, ℕ, List, [], ◌∷◌, Option, Some, None, refl, ap, ◌∙◌}
use Rattle.std.specs.Prelude.{if◌then◌else◌, is_none, replicate}
use Rattle.std.specs.Option.{option_or}
use Rattle.meaning.specs.declared.ending.Value.{Value}
use Rattle.meaning.specs.Initial.{and_also, both_lists, data_value, data_values, repeat_value, repeated}
use Rattle.meaning.specs.Syntax.{DataConstantTree, data_number, data_truth, data_name, DataValueTree, RepeatTree}
use Rattle.meaning.specs.Values.{Known}
use Rattle.data_culprits.specs.Told.{Told}
use Rattle.data_culprits.specs.Values.{constant_fault, count_fault, value_fault, values_fault}

module _ (known : Known) where
  count_none : (c : Option RepeatTree) (k : Told) → count_fault known c ≡ Some k → repeat_value known c ≡ None
  count_none None k is = absurd cc
  count_none (Some c) k is = by_value _ (repeat_value known (Some c)) is
    where
      by_value : (t : Told) (o : Option ℕ) → (if is_none o then Some t else None) ≡ Some k → o ≡ None
      by_value t None is = refl
      by_value t (Some n) is = absurd cc

  constant_none : (c : DataConstantTree) (k : Told) → constant_fault known c ≡ Some k → data_value known c ≡ None
  constant_none (data_number sign digits) k is = absurd cc
  constant_none (data_truth b) k is = absurd cc
  constant_none (data_name n) k is = by_value _ (known n) is
    where
      by_value : (t : Told) (o : Option Value) → (if is_none o then Some t else None) ≡ Some k → o ≡ None
      by_value t None is = refl
      by_value t (Some v) is = absurd cc

  pub value_none : (v : DataValueTree) (k : Told) → value_fault known v ≡ Some k → repeated known v ≡ None
  value_none v k is = by_count (count_fault known v.repeat_count) refl is
    where
      repeats : Option ℕ → Option Value → Option (List Value)
      repeats o p = and_also o (λ n. and_also p (λ x. Some (replicate n x)))

      no_constant : (o : Option ℕ) → repeats o None ≡ None
      no_constant None = refl
      no_constant (Some n) = refl

      by_count : (o : Option Told) → count_fault known v.repeat_count ≡ o → option_or o (constant_fault known v.constant) ≡ Some k → repeated known v ≡ None
      by_count (Some j) at is = ap (λ o. repeats o (data_value known v.constant)) (count_none v.repeat_count j at)
      by_count None at is =
          ap (λ p. repeats (repeat_value known v.repeat_count) p) (constant_none v.constant k is)
          ∙ no_constant (repeat_value known v.repeat_count)

  rest_none : (o : Option (List Value)) → both_lists o None ≡ None
  rest_none None = refl
  rest_none (Some ws) = refl

  first_none : (v : DataValueTree) (vs : List DataValueTree) (k : Told) (o : Option Told) → ((j : Told) → values_fault known vs ≡ Some j → data_values known vs ≡ None) → value_fault known v ≡ o → option_or o (values_fault known vs) ≡ Some k → both_lists (repeated known v) (data_values known vs) ≡ None
  first_none v vs k (Some j) more at is = ap (λ o. both_lists o (data_values known vs)) (value_none v j at)
  first_none v vs k None more at is = ap (both_lists (repeated known v)) (more k is) ∙ rest_none (repeated known v)

  pub values_none : (vs : List DataValueTree) (k : Told) → values_fault known vs ≡ Some k → data_values known vs ≡ None
  values_none [] k is = absurd cc
  values_none (v ∷ vs) k is = first_none v vs k (value_fault known v) (λ j at. values_none vs j at) refl is
