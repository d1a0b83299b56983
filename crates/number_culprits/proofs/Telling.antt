-- What is told of a number is a witness.
use Rattle.std.proofs.Common.{◌≡◌, ℕ, Bool, ◌||◌, List, [], ◌∷◌, refl, sym, Option, inl, inr}
use Rattle.std.specs.Prelude.{is_none, flat_map, ◌⊎◌}
use Rattle.std.specs.List.{list_any}
use Rattle.std.specs.Option.{option_or}
use Rattle.meaning.specs.NumberRules.{has_bad_bound, has_bad_number, has_too_great, is_bad_constant, is_no_constant, is_too_great, is_unknown, known_behind_all}
use Rattle.meaning.specs.Scopes.{constant_value, constants_in, declarators_in, with_constant}
use Rattle.meaning.specs.Syntax.{ConstantTree, DeclaratorTree, ExprTree, ItemTree}
use Rattle.meaning.specs.Types.{Types}
use Rattle.meaning.specs.Uses.{Symbols, uses_in}
use Rattle.meaning.specs.Values.{Known}
use Rattle.rule_passes.proofs.Missing.{any_both}
use Rattle.finding.specs.Answers.{IsAnswer}
use Rattle.finding.proofs.Answering.{find_answer, or_answer, same_answer, test_answer, weaker_answer}
use Rattle.number_culprits.specs.Numbers.{bad_bound, bad_constant, bad_in, bounds_of, first_none, great_in, none_in, numbers_of, unknown_in, unknown_told, valueless_in}
use Rattle.number_culprits.specs.Told.{Told, great, faulty, unbounded}
use Rattle.number_culprits.specs.Witness.{IsBoundBy, IsBy, IsConstantBy, IsGreatBy, IsNoneAmong, IsNoneBy}

great_answer : (r : Symbols) (x : ItemTree) → IsAnswer (IsGreatBy r x) (has_too_great r x.shape) (great_in r x.shape)
great_answer r x = find_answer (IsGreatBy r x) great is_too_great (numbers_of r x.shape) (λ n at. (n, at.stands, at.passes, refl))

-- either of two, whose witnesses are apart
pub either_answer : {K : Type 0} (p q : K → Type 0) (a b : Bool) (o u : Option K) → IsAnswer p a o → IsAnswer q b u → IsAnswer (λ k. p k ⊎ q k) (a || b) (option_or o u)
either_answer {K} p q a b o u h g =
    let all : K → Type 0 = λ k. p k ⊎ q k in
    or_answer all a b o u (weaker_answer p all a o (λ k w. inl w) h) (weaker_answer q all b u (λ k w. inr w) g)

module _ (types : Types) where
  pub none_answer : (known : Known) (fault : Told) (e : ExprTree) → IsAnswer (IsNoneBy types known fault e) (is_no_constant types known e) (none_in types known fault e)
  none_answer known fault e =
      let by = IsNoneBy types known fault e in
      or_answer by (list_any (is_unknown known) (uses_in e)) (is_none (constant_value types known e)) (unknown_in known e) (valueless_in types known fault e) (find_answer by unknown_told (is_unknown known) (uses_in e) (λ u at. inl (u, at.stands, at.passes, refl))) (test_answer by (is_none (constant_value types known e)) fault (λ h. inr (refl, h)))

  among_answer : (known : Known) (fault : Told) (es : List ExprTree) → IsAnswer (IsNoneAmong types known fault es) (list_any (is_no_constant types known) es) (first_none types known fault es)
  among_answer known fault [] = refl
  among_answer known fault (e ∷ es) =
      either_answer (IsNoneBy types known fault e) (IsNoneAmong types known fault es) (is_no_constant types known e) (list_any (is_no_constant types known) es) (none_in types known fault e) (first_none types known fault es) (none_answer known fault e) (among_answer known fault es)

  constant_answer : (known : Known) (cs : List ConstantTree) → IsAnswer (IsConstantBy types known cs) (is_bad_constant types known cs) (bad_constant types known cs)
  constant_answer known [] = refl
  constant_answer known (c ∷ cs) =
      let next = with_constant types known c in
      either_answer (IsNoneBy types known (faulty c.name) c.value) (IsConstantBy types next cs) (is_no_constant types known c.value) (is_bad_constant types next cs) (none_in types known (faulty c.name) c.value) (bad_constant types next cs) (none_answer known (faulty c.name) c.value) (constant_answer next cs)

  bound_answer : (known : Known) (ds : List DeclaratorTree) → IsAnswer (IsBoundBy types known ds) (has_bad_bound types known ds) (bad_bound types known ds)
  bound_answer known [] = refl
  bound_answer known (d ∷ ds) =
      let test = is_no_constant types known in
      same_answer (IsBoundBy types known (d ∷ ds)) (list_any test (bounds_of d) || has_bad_bound types known ds) (has_bad_bound types known (d ∷ ds)) (bad_bound types known (d ∷ ds)) (sym (any_both test (bounds_of d) (flat_map bounds_of ds))) (either_answer (IsNoneAmong types known (unbounded d.name) (bounds_of d)) (IsBoundBy types known ds) (list_any test (bounds_of d)) (has_bad_bound types known ds) (first_none types known (unbounded d.name) (bounds_of d)) (bad_bound types known ds) (among_answer known (unbounded d.name) (bounds_of d)) (bound_answer known ds))

pub numbers_told : (r : Symbols) (before : List ItemTree) (x : ItemTree) → IsAnswer (IsBy r before x) (has_bad_number r before x) (bad_in r before x)
numbers_told r before x =
    let types = r.names.types in
    let known = known_behind_all r before in
    let cs = constants_in x.shape in
    let ds = declarators_in x.shape in
    either_answer (IsGreatBy r x) (λ k. IsConstantBy types known cs k ⊎ IsBoundBy types known ds k) (has_too_great r x.shape) (is_bad_constant types known cs || has_bad_bound types known ds) (great_in r x.shape) (option_or (bad_constant types known cs) (bad_bound types known ds)) (great_answer r x) (either_answer (IsConstantBy types known cs) (IsBoundBy types known ds) (is_bad_constant types known cs) (has_bad_bound types known ds) (bad_constant types known cs) (bad_bound types known ds) (constant_answer types known cs) (bound_answer types known ds))
