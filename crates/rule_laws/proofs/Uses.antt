-- What names with parentheses refer to in a program unit that keeps the rules.
use Rattle.std.proofs.Common.{◌≡◌, ◌<◌, ◌≤◌, ℕ, Bool, true, false, ◌&&◌, ◌||◌, List, [], ◌∷◌, length, take, Option, Some, None, refl, sym, ap, subst, ◌∙◌}
use Rattle.std.specs.Prelude.{◌==◌, is_none, is_some, slice_get}
use Rattle.std.specs.List.{AllByRecursion, list_any}
use Rattle.std.proofs.lemmas.Bool.{eqb-true, true≢false}
use Rattle.meaning.specs.Arrays.{Dimension, cell_of}
use Rattle.meaning.specs.Intrinsics.{Intrinsic, intrinsic_named, takes}
use Rattle.meaning.specs.NameRules.{does_not_take, is_against_role, is_function_use, is_misused_array, is_misused_function, is_other_number, is_unknown_function, length_if}
use Rattle.meaning.specs.Scopes.{Definition, arrays_of, definitions_of}
use Rattle.meaning.specs.Syntax.{ItemTree}
use Rattle.meaning.specs.Uses.{Symbols, Use, dummies_named, is_array, is_constant, is_function, is_other, parts_at, symbols_of, uses_at}
use Rattle.expressions.specs.Calls.{AreOthers}
use Rattle.storage.specs.Checked.{glossary_of}
use Rattle.storage.specs.Numbered.{named_of}
use Rattle.rule_laws.specs.Lawful.{EachBehind, IsLawful}
use Rattle.rule_laws.specs.References.{HasElement, IsCalled, IsIntrinsic, IsReference, IsReferenceAs}
use Rattle.rule_laws.proofs.Cells.{array_cell}
use Rattle.rule_laws.proofs.Definitions.{none_named, one_named, own_name, stands_at}
use Rattle.rule_laws.proofs.Sizes.{arrays_sized}
use Rattle.rule_laws.proofs.Tests.{all_other, all_parts, all_turned, none_any, not_true, or_parts}

-- ---- uses that break no rule

pub record IsSound (r : Symbols) (u : Use) : Type 0 where
  pub role : is_against_role r u ≡ false
  pub array : is_misused_array r u ≡ false
  pub function : is_misused_function r u ≡ false
  pub known : is_unknown_function r u ≡ false

all_sound : (r : Symbols) (us : List Use) → AllByRecursion (λ u. is_against_role r u ≡ false) us → AllByRecursion (λ u. is_misused_array r u ≡ false) us → AllByRecursion (λ u. is_misused_function r u ≡ false) us → AllByRecursion (λ u. is_unknown_function r u ≡ false) us → AllByRecursion (IsSound r) us
all_sound r [] a b c d = tt
all_sound r (u ∷ us) a b c d =
    (record { role = a.0; array = b.0; function = c.0; known = d.0 }, all_sound r us a.1 b.1 c.1 d.1)

module _ (r : Symbols) (all before : List ItemTree) (x : ItemTree) (lawful : IsLawful r all before x) where
  pub uses_fit_roles : AllByRecursion (λ u. is_against_role r u ≡ false) (uses_at r before x)
  uses_fit_roles =
      none_any (is_against_role r) (uses_at r before x) (or_parts (list_any (is_against_role r) (uses_at r before x)) _ (or_parts (list_any (is_against_role r) (uses_at r before x) || _) _ (or_parts _ _ lawful.undisputed).1).0).0

  pub uses_fit_arrays : AllByRecursion (λ u. is_misused_array r u ≡ false) (uses_at r before x)
  uses_fit_arrays =
      none_any (is_misused_array r) (uses_at r before x) (or_parts (list_any (is_misused_array r) (uses_at r before x)) _ lawful.used).0

  pub reads_sound : AllByRecursion (IsSound r) (parts_at r before x).reads
  reads_sound =
      let p = parts_at r before x in
      all_sound r p.reads (all_parts (λ u. is_against_role r u ≡ false) p.sets p.reads uses_fit_roles).1
      (all_parts (λ u. is_misused_array r u ≡ false) p.sets p.reads uses_fit_arrays).1
      (none_any (is_misused_function r) p.reads (or_parts (list_any (is_misused_array r) (uses_at r before x)) _ lawful.used).1)
      (none_any (is_unknown_function r) p.reads lawful.known)

-- ---- tests

same_number : (n k : ℕ) → is_other_number (Some n) (Some k) ≡ false → n ≡ k
same_number n k h = eqb-true n k (not_true (n == k) h)

none_beside : (a : Bool) → (a && true) ≡ false → a ≡ false
none_beside true h = h
none_beside false h = refl

behind_true : (a b : Bool) → a ≡ true → (a && b) ≡ false → b ≡ false
behind_true true b f h = h
behind_true false b f h = absurd (true≢false (sym f))

-- ---- references

module _ (all : List ItemTree) (lawful : EachBehind (IsLawful (symbols_of all) all) [] all) where
  abbrev r : Symbols
  r = symbols_of all

  abbrev defined : List Definition
  defined = definitions_of (arrays_of all) all

  -- an array's element has as many subscripts as there are dimensions
  pub array_reference : (n : List ℕ) (k : ℕ) (dims : List Dimension) → arrays_of all n ≡ Some dims → is_misused_array r (record { name = n; arguments = Some k }) ≡ false → (1 ≤ k) × (k ≡ length dims) × HasElement (cell_of (named_of all)) n
  array_reference n k dims is fits =
      let many : length dims ≡ k = same_number (length dims) k (sym (ap (λ o. is_other_number (length_if o) (Some k)) is) ∙ fits) in
      (subst (λ m. 1 ≤ m) many (arrays_sized all lawful n dims is).dimensions.some, sym many, array_cell all lawful n dims is)

  module _ (callable : ℕ) (n : List ℕ) (k : ℕ) (later : AreOthers defined callable n → dummies_named defined n ≡ None) (sound : IsSound r (record { name = n; arguments = Some k })) (no_array : arrays_of all n ≡ None) where
    as_many : (at : ℕ) (d : Definition) → at < callable → slice_get defined at ≡ Some d → d.name ≡ n → length d.dummies ≡ k
    as_many at d lt is same =
        let its : dummies_named defined d.name ≡ Some d.dummies = one_named defined at d is (own_name r all (take at defined) d (stands_at r all lawful at d is)) in
        let found : dummies_named defined n ≡ Some d.dummies = sym (ap (dummies_named defined) same) ∙ its in
        let counted = (or_parts (is_other_number (length_if (dummies_named defined n)) (Some k)) _ sound.function).0 in
        same_number (length d.dummies) k (sym (ap (λ o. is_other_number (length_if o) (Some k)) found) ∙ counted)

    other : AreOthers defined callable n → is_other r n ≡ true
    other others =
        all_other (is_constant r n) (is_array r n) (is_function r n) (none_beside (is_constant r n) (or_parts (is_constant r n && true) _ sound.role).0) (ap is_some no_array) (ap is_some (later others))

    is_known : AreOthers defined callable n → is_none (intrinsic_named n) ≡ false
    is_known others =
        behind_true (is_function_use r (record { name = n; arguments = Some k })) (is_none (intrinsic_named n)) (ap (λ b. b && true) (other others)) sound.known

    taken : AreOthers defined callable n → does_not_take (intrinsic_named n) (Some k) ≡ false
    taken others =
        behind_true (is_other r n) (does_not_take (intrinsic_named n) (Some k)) (other others) (or_parts (is_other_number (length_if (dummies_named defined n)) (Some k)) _ sound.function).1

    by_name : (o : Option Intrinsic) → intrinsic_named n ≡ o → is_none o ≡ false → does_not_take o (Some k) ≡ false → IsIntrinsic n k
    by_name None is some fits = absurd (true≢false some)
    by_name (Some f) is some fits = record { function = f; named = is; taken = not_true (takes f k) fits }

    pub called : IsCalled defined callable n k
    called =
        record {
          defined = as_many;
          intrinsic = λ others. by_name (intrinsic_named n) refl (is_known others) (taken others);
        }

  -- a use with parentheses among the first so many statement functions
  pub reference : (callable : ℕ) (n : List ℕ) (k : ℕ) → (AreOthers defined callable n → dummies_named defined n ≡ None) → IsSound r (record { name = n; arguments = Some k }) → IsReference (glossary_of all) (cell_of (named_of all)) callable (record { name = n; arguments = Some k })
  reference callable n k later sound = by (arrays_of all n) refl
    where
      by : (o : Option (List Dimension)) → arrays_of all n ≡ o → IsReferenceAs (glossary_of all) (cell_of (named_of all)) callable n k o
      by (Some dims) is = array_reference n k dims is sound.array
      by None none = called callable n k later sound none

  -- a use with parentheses or without
  pub any_reference : (callable : ℕ) (n : List ℕ) (o : Option ℕ) → ((k : ℕ) → o ≡ Some k → AreOthers defined callable n → dummies_named defined n ≡ None) → IsSound r (record { name = n; arguments = o }) → IsReference (glossary_of all) (cell_of (named_of all)) callable (record { name = n; arguments = o })
  any_reference callable n None later sound = tt
  any_reference callable n (Some k) later sound = reference callable n k (later k refl) sound

  -- where all may be called
  in_statement : (u : Use) → IsSound r u → IsReference (glossary_of all) (cell_of (named_of all)) (length defined) u
  in_statement u sound = any_reference (length defined) u.name u.arguments (λ k is others. none_named defined u.name others) sound

  pub reads_refer : (before : List ItemTree) (x : ItemTree) → IsLawful r all before x → AllByRecursion (IsReference (glossary_of all) (cell_of (named_of all)) (length defined)) (parts_at r before x).reads
  reads_refer before x one =
      all_turned (IsSound r) (IsReference (glossary_of all) (cell_of (named_of all)) (length defined)) in_statement (parts_at r before x).reads (reads_sound r all before x one)
