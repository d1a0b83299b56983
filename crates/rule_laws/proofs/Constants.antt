-- The value of an expression of constants has its type.
use Rattle.std.proofs.Common.{◌≡◌, ℕ, suc, ℤ, pos, negsuc, Bool, true, false, ◌&&◌, List, [], ◌∷◌, ◌++◌, Result, Ok, Err, Option, Some, None, refl, sym, ap, subst, ◌∙◌}
use Rattle.std.specs.Prelude.{◌==◌, if◌then◌else◌, is_none, map}
use Rattle.std.specs.Int.{int_pow}
use Rattle.std.specs.List.{AllByRecursion, fold, list_any}
use Rattle.std.specs.Ordering.{int_eq}
use Rattle.std.specs.Prelude.{int_div}
use Rattle.std.specs.Str.{bytes_eq}
use Rattle.std.proofs.lemmas.Bool.{true≢false}
use Rattle.std.proofs.lemmas.List.Sums.{fold-append}
use Rattle.std.proofs.lemmas.Slice.Eq.{bytes_eq-Decides}
use Rattle.meaning.specs.declared.ending.FaultKind.{FaultKind}
use Rattle.meaning.specs.declared.ending.FaultKind.TheVariants.{F1, F2, F6}
use Rattle.meaning.specs.declared.ending.Value.{Value}
use Rattle.meaning.specs.declared.ending.Value.TheVariants as values
use Rattle.meaning.specs.declared.syntax.DataType.TheVariants as types
use Rattle.meaning.specs.declared.syntax.Operator.{Operator}
use Rattle.meaning.specs.declared.syntax.Operator.TheVariants as operators
use Rattle.meaning.specs.Initial.{value_type}
use Rattle.meaning.specs.Maps.{Map, start}
use Rattle.meaning.specs.NameRules.{is_real, names_defined}
use Rattle.meaning.specs.NumberRules.{has_too_great, is_bad_constant, is_no_constant, is_unknown, known_behind_all}
use Rattle.meaning.specs.Scopes.{constant_value, constants_alone, constants_in, known_behind, nothing_known, value_if, with_constant}
use Rattle.meaning.specs.Syntax.{ConstantTree, ExprTree, ItemTree, ShapeTree, parameter, number, truth, name, signed, negated, binary, paren, element, call}
use Rattle.meaning.specs.Types.{Types}
use Rattle.meaning.specs.Typing.{Names, SomeType, clash, dummies_if, expected, expected_in, integer_type, is_ill, is_mistyped, logical_type, result_type, type_of, within}
use Rattle.meaning.specs.Uses.{Symbols, Use, is_defining, uses_in}
use Rattle.meaning.specs.Values.{Known, Valued, and_then, as_integer, as_logical, decided, integer, is_integer, logical, operated, or_known, raised, typed as typed_value, unless_decided, value}
use Rattle.rule_laws.specs.Lawful.{IsLawful}
use Rattle.rule_laws.proofs.Tests.{all_mapped, all_parts, none_any, or_parts}

-- a value, if there is one, has this type
abbrev HasType : Valued → SomeType → Type 0
HasType r k = (v : Value) → r ≡ Ok v → k ≡ value_type v

ok_type : (w : Value) → HasType (Ok w) (value_type w)
ok_type w v h = let same : w ≡ v = cc in ap value_type same

no_type : (f : FaultKind) (k : SomeType) → HasType (Err f) k
no_type f k v h = absurd cc

integer_typed : (z : ℤ) → HasType (integer z) integer_type
unfolding integer
integer_typed z = by (is_integer z)
  where
    by : (b : Bool) → HasType (if b then Ok (values.Int z) else Err F2) integer_type
    by true = ok_type (values.Int z)
    by false = no_type F2 integer_type

logical_typed : (b : Bool) → HasType (logical b) logical_type
logical_typed b = ok_type (values.Bool b)

if_typed : (c : Bool) (f : FaultKind) (z : ℤ) → HasType (if c then Err f else integer z) integer_type
if_typed true f z = no_type f integer_type
if_typed false f z = integer_typed z

then_typed : {A : Type 0} (r : Result A FaultKind) (f : A → Valued) (k : SomeType) → ((x : A) → HasType (f x) k) → HasType (and_then r f) k
unfolding and_then
then_typed (Ok x) f k h = h x
then_typed (Err e) f k h = no_type e k

raised_typed : (x y : ℤ) → HasType (raised x y) integer_type
raised_typed x (pos n) = if_typed (int_eq x (pos 0) && (n == 0)) F6 (int_pow x n)
raised_typed x (negsuc n) = if_typed (int_eq x (pos 0)) F6 (int_div (pos 1) (int_pow x (suc n)))

operated_typed : (o : Operator) (v w : Value) → HasType (operated o v w) (result_type o)
operated_typed operators.Power v w = raised_typed (as_integer v) (as_integer w)
operated_typed operators.Multiply v w = integer_typed _
operated_typed operators.Divide v w = if_typed (int_eq (as_integer w) (pos 0)) F1 (int_div (as_integer v) (as_integer w))
operated_typed operators.Add v w = integer_typed _
operated_typed operators.Subtract v w = integer_typed _
operated_typed operators.Less v w = logical_typed _
operated_typed operators.LessOrEqual v w = logical_typed _
operated_typed operators.Equal v w = logical_typed _
operated_typed operators.NotEqual v w = logical_typed _
operated_typed operators.GreaterOrEqual v w = logical_typed _
operated_typed operators.Greater v w = logical_typed _
operated_typed operators.And v w = logical_typed _
operated_typed operators.Or v w = logical_typed _
operated_typed operators.Equivalent v w = logical_typed _
operated_typed operators.NotEquivalent v w = logical_typed _

unless_typed : (o : Operator) (v : Value) (r : Valued) → HasType r (result_type o) → HasType (unless_decided (decided o v) r) (result_type o)
unless_typed operators.And v r h = by (as_logical v)
  where
    by : (t : Bool) → HasType (unless_decided (if t then None else Some false) r) logical_type
    by true = h
    by false = logical_typed false
unless_typed operators.Or v r h = by (as_logical v)
  where
    by : (t : Bool) → HasType (unless_decided (if t then Some true else None) r) logical_type
    by true = logical_typed true
    by false = h
unless_typed operators.Power v r h = h
unless_typed operators.Multiply v r h = h
unless_typed operators.Divide v r h = h
unless_typed operators.Add v r h = h
unless_typed operators.Subtract v r h = h
unless_typed operators.Less v r h = h
unless_typed operators.LessOrEqual v r h = h
unless_typed operators.Equal v r h = h
unless_typed operators.NotEqual v r h = h
unless_typed operators.GreaterOrEqual v r h = h
unless_typed operators.Greater v r h = h
unless_typed operators.Equivalent v r h = h
unless_typed operators.NotEquivalent v r h = h

-- ---- constants

-- a name that is known has the type of its value
abbrev pub AreTyped : Types → Known → Type 0
AreTyped types known = (n : List ℕ) (v : Value) → known n ≡ Some v → types n ≡ value_type v

abbrev AreKnown : Known → List Use → Type 0
AreKnown known us = AllByRecursion (λ u. is_unknown known u ≡ false) us

module _ (ns : Names) (known : Known) (typed : AreTyped ns.types known) (m : Map) where
  abbrev value_at : ExprTree → Valued
  value_at e = value (constants_alone ns.types known) e m

  name_typed : (n : List ℕ) (o : Option Value) → known n ≡ o → is_none o ≡ false → HasType (value_at (name n)) (ns.types n)
  unfolding value
  name_typed n None is some = absurd (true≢false some)
  name_typed n (Some w) is some = λ v h.
      let same : w ≡ v = told (known n) w v is h in
      typed n w is ∙ ap value_type same
    where
      told : (o : Option Value) (w v : Value) → o ≡ Some w → or_known o (typed_value (ns.types n) (m n [])) ≡ Ok v → w ≡ v
      told None w v is h = absurd cc
      told (Some x) w v is h = cc

  value_typed : (e : ExprTree) → AreKnown known (uses_in e) → HasType (value_at e) (type_of ns e)
  unfolding value
  value_typed (number digits) k = integer_typed _
  value_typed (truth b) k = logical_typed b
  value_typed (name letters) k = name_typed letters (known letters) refl k.0
  value_typed (signed sign e) k = then_typed (value_at e) _ integer_type (λ x. integer_typed _)
  value_typed (negated e) k = then_typed (value_at e) _ logical_type (λ x. logical_typed _)
  value_typed (binary operator a b) k =
      then_typed (value_at a) _ (result_type operator) (λ x. unless_typed operator x _ (then_typed (value_at b) _ (result_type operator) (λ y. operated_typed operator x y)))
  value_typed (paren e) k = value_typed e k
  value_typed (element letters es) k = absurd (true≢false k.0)
  value_typed (call letters) k = absurd (true≢false k.0)

-- ---- PARAMETER statements

value_is : (r : Valued) (v : Value) → value_if r ≡ Some v → r ≡ Ok v
value_is (Ok w) v h = let same : w ≡ v = cc in ap Ok same
value_is (Err k) v h = absurd cc

-- a known type that doesn't clash with a value's is that type
same_type : (k : SomeType) (v : Value) → is_none k ≡ false → clash k (value_type v) ≡ false → k ≡ value_type v
same_type (Some types.Integer) (values.Int z) some agrees = refl
same_type (Some types.Integer) (values.Bool b) some agrees = absurd (true≢false agrees)
same_type (Some types.Logical) (values.Int z) some agrees = absurd (true≢false agrees)
same_type (Some types.Logical) (values.Bool b) some agrees = refl
same_type None v some agrees = absurd (true≢false some)

module _ (ns : Names) where
  pub constant_typed : (known : Known) → AreTyped ns.types known → (e : ExprTree) → is_no_constant ns.types known e ≡ false → (v : Value) → constant_value ns.types known e ≡ Some v → type_of ns e ≡ value_type v
  constant_typed known typed e is v h =
      value_typed ns known typed start e (none_any (is_unknown known) (uses_in e) (or_parts (list_any (is_unknown known) (uses_in e)) _ is).0) v (value_is (value (constants_alone ns.types known) e start) v h)

  one_typed : (known : Known) → AreTyped ns.types known → (c : ConstantTree) → is_none (ns.types c.name) ≡ false → is_mistyped ns (expected (ns.types c.name) c.value) ≡ false → is_no_constant ns.types known c.value ≡ false → AreTyped ns.types (with_constant ns.types known c)
  one_typed known typed c real agrees is n v h = by (bytes_eq n c.name) refl h
    where
      by : (b : Bool) → bytes_eq n c.name ≡ b → (if b then constant_value ns.types known c.value else known n) ≡ Some v → ns.types n ≡ value_type v
      by true same k =
          let its : type_of ns c.value ≡ value_type v = constant_typed known typed c.value is v k in
          let no_clash = (or_parts (clash (ns.types c.name) (type_of ns c.value)) (is_ill ns c.value) agrees).0 in
          ap ns.types ((bytes_eq-Decides n c.name).0 same)
          ∙ same_type (ns.types c.name) v real (subst (λ j. clash (ns.types c.name) j ≡ false) its no_clash)
      by false other k = typed n v k

  pub parameter_typed : (known : Known) (cs : List ConstantTree) → AreTyped ns.types known → AllByRecursion (λ c. is_none (ns.types c.name) ≡ false) cs → AllByRecursion (λ c. is_mistyped ns (expected (ns.types c.name) c.value) ≡ false) cs → is_bad_constant ns.types known cs ≡ false → AreTyped ns.types (fold (with_constant ns.types) known cs)
  parameter_typed known [] typed real agrees good = typed
  parameter_typed known (c ∷ cs) typed real agrees good =
      let p = or_parts (is_no_constant ns.types known c.value) (is_bad_constant ns.types (with_constant ns.types known c) cs) good in
      parameter_typed (with_constant ns.types known c) cs (one_typed known typed c real.0 agrees.0 p.0) real.1 agrees.1 p.1

statement_typed : (ns : Names) (dummies : List ExprTree) (known : Known) (s : ShapeTree) → AreTyped ns.types known → AllByRecursion (λ c. is_none (ns.types c.name) ≡ false) (constants_in s) → AllByRecursion (λ x. is_mistyped (within dummies ns) x ≡ false) (expected_in ns s) → is_bad_constant ns.types known (constants_in s) ≡ false → AreTyped ns.types (known_behind ns.types known s)
statement_typed ns dummies known (parameter cs) typed real agrees good =
    parameter_typed (within dummies ns) known cs typed real (all_mapped (λ x. is_mistyped (within dummies ns) x ≡ false) (λ c. expected (ns.types c.name) c.value) cs agrees) good
statement_typed ns dummies known s typed real agrees good = typed

-- the names that are known behind statements have types, behind one more too
pub more_typed : (r : Symbols) (all before : List ItemTree) (x : ItemTree) → IsLawful r all before x → AreTyped r.names.types (known_behind_all r before) → AreTyped r.names.types (known_behind_all r (before ++ x ∷ []))
more_typed r all before x lawful typed =
    let defines = is_defining r before x in
    let ns = within (dummies_if defines x.shape) r.names in
    let known = known_behind_all r before in
    let reals = (or_parts (list_any (is_real r) (names_defined r defines x.shape)) _ lawful.typed).0 in
    let named = none_any (is_real r) (names_defined r defines x.shape) reals in
    let real = all_mapped (λ n. is_none (r.names.types n) ≡ false) (λ (c : ConstantTree). c.name) (constants_in x.shape) (all_parts (λ n. is_none (r.names.types n) ≡ false) (map (λ (c : ConstantTree). c.name) (constants_in x.shape)) _ named).0 in
    let agrees = none_any (is_mistyped ns) (expected_in r.names x.shape) lawful.agreeing in
    let good = (or_parts (is_bad_constant r.names.types known (constants_in x.shape)) _ (or_parts (has_too_great r x.shape) _ lawful.constant).1).0 in
    subst (AreTyped r.names.types) (sym (fold-append (λ k y. known_behind r.names.types k y.shape) nothing_known before (x ∷ [])))
    (statement_typed r.names (dummies_if defines x.shape) known x.shape typed real agrees good)
