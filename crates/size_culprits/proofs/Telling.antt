-- What is told of an array is a witness.
use Rattle.std.proofs.Common.{◌≡◌, ℕ, ◌+◌, Bool, true, false, ◌||◌, ◌&&◌, List, [], ◌∷◌, refl, Option, Some, None, inl, inr}
use Rattle.std.specs.Prelude.{nat_lt, not, length, if◌then◌else◌}
use Rattle.std.specs.List.{list_any}
use Rattle.std.specs.Option.{option_or}
use Rattle.meaning.specs.Arrays.{Dimension}
use Rattle.meaning.specs.NumberRules.{dimensions_by, elements_in, elements_of, has_large_array, have_too_large, is_reversed, is_too_large, known_behind_all, lacks_bound}
use Rattle.meaning.specs.Scopes.{declarators_in}
use Rattle.meaning.specs.Syntax.{DeclaratorTree, ItemTree}
use Rattle.meaning.specs.Types.{Types}
use Rattle.meaning.specs.Uses.{Symbols}
use Rattle.meaning.specs.Values.{Known}
use Rattle.expressions.specs.Places.{capped}
use Rattle.finding.specs.Answers.{IsAnswer}
use Rattle.finding.proofs.Answering.{find_answer, or_answer, test_answer, weaker_answer}
use Rattle.size_culprits.specs.Sizes.{crowded_in, first_large, large_in, large_of, reversed_in, sized_in}
use Rattle.size_culprits.specs.Told.{Told, dimensioned, reversed, crowded}
use Rattle.size_culprits.specs.Witness.{IsBy, IsLargeAmong, IsLargeBy}

second : (a b : Bool) → (a && b) ≡ true → b ≡ true
second true b is = is
second false b is = absurd cc

module _ (types : Types) (known : Known) where
  module _ (n : ℕ) (d : DeclaratorTree) where
    abbrev by : Told → Type 0
    by = IsLargeBy types known n d

    abbrev reverses : Bool
    reverses = list_any is_reversed (dimensions_by types known d)

    abbrev crowds : Bool
    crowds = nat_lt 0 (length d.bounds) && nat_lt 16777216 (n + elements_of types known d)

    sized_answer : lacks_bound types known d ≡ false → IsAnswer by (reverses || crowds) (sized_in types known n d)
    sized_answer whole =
        or_answer by reverses crowds (reversed_in d.name (dimensions_by types known d)) (crowded_in types known n d) (find_answer by (λ (x : Dimension). reversed d.name x.lower x.upper) is_reversed (dimensions_by types known d) (λ x at. (refl, whole, record { dimension = x; stands = at.stands; lower_is = refl; upper_is = refl; is_reversed = at.passes }))) (test_answer by crowds (crowded d.name (capped (elements_of types known d)) (capped n)) (λ h. (refl, whole, record { own_is = refl; before_is = refl; are_too_many = second (nat_lt 0 (length d.bounds)) (nat_lt 16777216 (n + elements_of types known d)) h })))

    large_answer : IsAnswer by (is_too_large types known n d) (large_of types known n d)
    large_answer = by_tests (nat_lt 7 (length d.bounds)) refl (lacks_bound types known d) refl
      where
        by_tests : (many : Bool) → nat_lt 7 (length d.bounds) ≡ many → (lacks : Bool) → lacks_bound types known d ≡ lacks → IsAnswer by (many || (not lacks && (reverses || crowds))) (if many then Some (dimensioned d.name (length d.bounds)) else (if lacks then None else sized_in types known n d))
        by_tests true is lacks lacking = (refl, (refl, refl, is))
        by_tests false is true lacking = refl
        by_tests false is false lacking = sized_answer lacking

  first_answer : (n : ℕ) (ds : List DeclaratorTree) → IsAnswer (IsLargeAmong types known n ds) (have_too_large types known n ds) (first_large types known n ds)
  first_answer n [] = refl
  first_answer n (d ∷ ds) =
      let all = IsLargeAmong types known n (d ∷ ds) in
      let m = n + elements_of types known d in
      or_answer all (is_too_large types known n d) (have_too_large types known m ds) (large_of types known n d) (first_large types known m ds) (weaker_answer (IsLargeBy types known n d) all (is_too_large types known n d) (large_of types known n d) (λ k h. inl h) (large_answer n d)) (weaker_answer (IsLargeAmong types known m ds) all (have_too_large types known m ds) (first_large types known m ds) (λ k h. inr h) (first_answer m ds))

pub sizes_told : (r : Symbols) (before : List ItemTree) (x : ItemTree) → IsAnswer (IsBy r before x) (has_large_array r before x) (large_in r before x)
sizes_told r before x = first_answer r.names.types (known_behind_all r before) (elements_in r [] before) (declarators_in x.shape)
