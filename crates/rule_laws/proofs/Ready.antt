-- The statements and the statement functions of a program unit that keeps the rules are as their execution wants them.
use Rattle.std.proofs.Common.{◌≡◌, ℕ, suc, Bool, true, false, ◌&&◌, ◌||◌, List, [], ◌∷◌, ◌++◌, length, map, take, reverse, Option, Some, None, Ok, refl, sym, ap, ap₂, subst, ◌∙◌}
use Rattle.std.specs.Prelude.{if◌then◌else◌, is_some, nat_lt, not, slice_get}
use Rattle.std.specs.List.{AllByRecursion, list_any}
use Rattle.std.specs.Str.{bytes_eq}
use Rattle.std.proofs.lemmas.Bool.{ltb-false, true≢false}
use Rattle.std.proofs.lemmas.List.{map-append, reverse-append}
use Rattle.std.proofs.lemmas.List.Folds.{list_any-append}
use Rattle.meaning.specs.Arrays.{Dimension, cell_of}
use Rattle.meaning.specs.LoopRules.{breaks_loops}
use Rattle.meaning.specs.Maps.{CellNumbers}
use Rattle.meaning.specs.NameRules.{defined_here, dummy_names, has_bad_dummies, is_against_role, is_bad_definition, is_late, is_misused_array, is_other_number, is_too_deep, length_if, sets_constant, uses_dummy_as_function, uses_later}
use Rattle.meaning.specs.NumberRules.{has_too_great, numbers_in}
use Rattle.meaning.specs.Rules.{checked}
use Rattle.meaning.specs.Scopes.{Definition, arrays_of, declarators_in, defined_by, definition_if, definitions_of, is_dummy, listed}
use Rattle.meaning.specs.Surroundings.{controlled_by}
use Rattle.meaning.specs.Syntax.{ExprTree, no_exprs, exprs, ItemTree, ShapeTree, assignment, definition, logical_if}
use Rattle.meaning.specs.Trees.{Nested, flatten}
use Rattle.meaning.specs.Typing.{option_list}
use Rattle.meaning.specs.Uses.{Parts, Symbols, Use, count, dummies_named, is_array, is_constant, is_defining, is_function, is_one_of, is_other, parts_at, parts_of, symbols_of, uses_at, uses_in}
use Rattle.meaning.specs.Values.{Arrays}
use Rattle.expressions.specs.Calls.{AreOthers}
use Rattle.expressions.specs.Glossaries.{Glossary}
use Rattle.storage.specs.Checked.{glossary_of}
use Rattle.storage.specs.Numbered.{named_of, names_at, names_from}
use Rattle.rule_laws.specs.Evaluated.{IsFit, IsReady, IsReadyFunction, IsTarget, IsTargetAs, evaluated, targets_of}
use Rattle.rule_laws.specs.Lawful.{EachBehind, IsLawful}
use Rattle.rule_laws.specs.References.{HasCell, IsReference}
use Rattle.rule_laws.proofs.Cells.{variable_cell}
use Rattle.rule_laws.proofs.Definitions.{StandsAt, none_before, stands_at}
use Rattle.rule_laws.proofs.Loops.{IsAmong, IsUnbroken, counters_among, counters_are_others, in_front, is_first, loops_unbroken, used}
use Rattle.rule_laws.proofs.Parts.{IsInRange, body_holds, constants_in_range, expected_body, expected_hold, reads_hold}
use Rattle.rule_laws.proofs.Tests.{all_other, all_parts, and_true, none_any, or_parts, or_true}
use Rattle.rule_laws.proofs.Unbroken.{all_lawful}
use Rattle.rule_laws.proofs.Uses.{IsSound, array_reference, reads_refer, reads_sound, reference, uses_fit_arrays, uses_fit_roles}

-- ---- the names of a statement are among those of the program unit

abbrev pub AreNamed : (List ℕ → Type 0) → Symbols → List ItemTree → ItemTree → Type 0
AreNamed holds r before x = (n : List ℕ) → list_any (bytes_eq n) (names_at r before x) ≡ true → holds n

pub each_named : (holds : List ℕ → Type 0) (r : Symbols) (before xs : List ItemTree) → ((n : List ℕ) → list_any (bytes_eq n) (names_from r before xs) ≡ true → holds n) → EachBehind (AreNamed holds r) before xs
unfolding names_from
each_named holds r before [] h = tt
each_named holds r before (x ∷ xs) h =
    let here = names_at r before x in
    let rest = names_from r (before ++ x ∷ []) xs in (
      (λ n k. h n (list_any-append (bytes_eq n) here rest ∙ ap (λ b. b || list_any (bytes_eq n) rest) k)),
      each_named holds r (before ++ x ∷ []) xs (λ n k. h n (list_any-append (bytes_eq n) here rest ∙ ap (λ b. list_any (bytes_eq n) here || b) k ∙ or_true (list_any (bytes_eq n) here))),
    )

-- a name that a statement uses
pub used_named : (holds : List ℕ → Type 0) (r : Symbols) (before : List ItemTree) (x : ItemTree) → AreNamed holds r before x → (n : List ℕ) → IsAmong (uses_at r before x) n → holds n
used_named holds r before x named n among =
    let front = map (λ d. d.name) (declarators_in x.shape) in
    named n (list_any-append (bytes_eq n) front (map (λ u. u.name) (uses_at r before x)) ∙ ap (λ b. list_any (bytes_eq n) front || b) among ∙ or_true (list_any (bytes_eq n) front))

-- ---- along the statements

join : (P : List ItemTree → ItemTree → Type 0) (Q R : ItemTree → Type 0) → ((before : List ItemTree) (x : ItemTree) → P before x → Q x → R x) → (before xs : List ItemTree) → EachBehind P before xs → AllByRecursion Q xs → AllByRecursion R xs
join P Q R f before [] h k = tt
join P Q R f before (x ∷ xs) h k = (f before x h.0 k.0, join P Q R f (before ++ x ∷ []) xs h.1 k.1)

both : (P Q : List ItemTree → ItemTree → Type 0) (before xs : List ItemTree) → EachBehind P before xs → EachBehind Q before xs → EachBehind (λ b x. P b x × Q b x) before xs
both P Q before [] h k = tt
both P Q before (x ∷ xs) h k = ((h.0, k.0), both P Q (before ++ x ∷ []) xs h.1 k.1)

-- ---- statements that define functions

module _ (arrays : Arrays) where
  passed_over : (P : ExprTree → Type 0) (s : ShapeTree) (d : Definition) → defined_by arrays s ≡ Some d → AllByRecursion P (evaluated arrays s)
  passed_over P (assignment n no_exprs e) d is = absurd cc
  passed_over P (assignment n (exprs e es) body) d is = by (is_some (arrays n)) is
    where
      by : (b : Bool) → definition_if b n (e ∷ listed es) body ≡ Some d → AllByRecursion P (if b then e ∷ (listed es ++ body ∷ []) else [])
      by true k = absurd cc
      by false k = tt
  passed_over P (definition n body) d is = tt
  passed_over P s d is = absurd cc

  no_target : (numbers : CellNumbers) (s : ShapeTree) (d : Definition) → defined_by arrays s ≡ Some d → AllByRecursion (IsTarget arrays numbers) (targets_of s)
  no_target numbers (assignment n no_exprs e) d is = absurd cc
  no_target numbers (assignment n (exprs e es) body) d is = (by (arrays n) is, tt)
    where
      by : (o : Option (List Dimension)) → definition_if (is_some o) n (e ∷ listed es) body ≡ Some d → IsTargetAs numbers n (suc (count es)) o
      by (Some ds) k = absurd cc
      by None k = tt
  no_target numbers (definition n body) d is = tt
  no_target numbers s d is = absurd cc

-- ---- targets

no_array : (o : Option (List Dimension)) → is_other_number (length_if o) None ≡ false → is_some o ≡ false
no_array None h = refl
no_array (Some ds) h = absurd (true≢false h)

beside_true : (b : Bool) → (b && true) ≡ false → b ≡ false
beside_true true h = h
beside_true false h = refl

beside_none : (a b : Bool) → ((a && false) || (b && true)) ≡ false → b ≡ false
beside_none true b h = beside_true b h
beside_none false b h = beside_true b h

module _ (all : List ItemTree) (lawful : EachBehind (IsLawful (symbols_of all) all) [] all) where
  abbrev r : Symbols
  r = symbols_of all

  abbrev g : Glossary
  g = glossary_of all

  abbrev numbers : CellNumbers
  numbers = cell_of (named_of all)

  -- a variable that a statement of the program unit uses
  abbrev HasItsCell : List ℕ → Type 0
  HasItsCell n = is_other r n ≡ true → HasCell numbers n []

  targets_fit : (s : ShapeTree) → AllByRecursion (λ u. is_against_role r u ≡ false) (parts_of r false s).sets → AllByRecursion (λ u. is_misused_array r u ≡ false) (parts_of r false s).sets → sets_constant r s ≡ false
      → ((n : List ℕ) → IsAmong (parts_of r false s).sets n → HasItsCell n) → AllByRecursion (IsTarget g.arrays numbers) (targets_of s)
  targets_fit (assignment n no_exprs e) symbols arrays variable cells =
      (cells n (is_first n []) (all_other (is_constant r n) (is_array r n) (is_function r n) variable (no_array (arrays_of all n) arrays.0) (beside_none (is_constant r n) (is_function r n) symbols.0)), tt)
  targets_fit (assignment n (exprs e es) body) symbols arrays variable cells = (by (arrays_of all n) refl, tt)
    where
      by : (o : Option (List Dimension)) → arrays_of all n ≡ o → IsTargetAs numbers n (suc (count es)) o
      by (Some dims) is =
          let found = array_reference all lawful n (suc (count es)) dims is arrays.0 in (found.1, found.2)
      by None is = tt
  targets_fit (logical_if e s) symbols arrays variable cells = targets_fit s symbols arrays variable cells
  targets_fit s symbols arrays variable cells = tt

  -- ---- statements

  fit_each : (P Q : ExprTree → Type 0) → (callable : ℕ) → ((e : ExprTree) → P e → Q e → IsFit g numbers callable e) → (es : List ExprTree) → AllByRecursion P es → AllByRecursion Q es → AllByRecursion (IsFit g numbers callable) es
  fit_each P Q callable f [] h k = tt
  fit_each P Q callable f (e ∷ es) h k = (f e h.0 k.0, fit_each P Q callable f es h.1 k.1)

  abbrev Refers : ℕ → ExprTree → Type 0
  Refers callable e = AllByRecursion (IsReference g numbers callable) (uses_in e)

  abbrev Counts : ExprTree → Type 0
  Counts e = AllByRecursion IsInRange (numbers_in e)

  module _ (before : List ItemTree) (x : ItemTree) (lawful_here : IsLawful r all before x) (named : AreNamed HasItsCell r before x) where
    abbrev callable : ℕ
    callable = length g.definitions

    range_here : AllByRecursion Counts (evaluated g.arrays x.shape)
    range_here =
        expected_hold Counts r.names x.shape (constants_in_range r x.shape (or_parts (has_too_great r x.shape) _ lawful_here.constant).0)

    constants_safe : sets_constant r x.shape ≡ false
    constants_safe =
        (or_parts (list_any (is_against_role r) (uses_at r before x)) (sets_constant r x.shape) (or_parts (list_any (is_against_role r) (uses_at r before x) || sets_constant r x.shape) _ (or_parts _ _ lawful_here.undisputed).1).0).1

    plain_ready : is_defining r before x ≡ false → AllByRecursion (IsFit g numbers callable) (evaluated g.arrays x.shape) × AllByRecursion (IsTarget g.arrays numbers) (targets_of x.shape)
    plain_ready other =
        let p = parts_of r false x.shape in
        let at : parts_at r before x ≡ p = ap (λ b. parts_of r b x.shape) other in
        let reads = subst (λ (q : Parts). AllByRecursion (IsReference g numbers callable) q.reads) at (reads_refer all lawful before x lawful_here) in
        let symbols = subst (λ (q : Parts). AllByRecursion (λ u. is_against_role r u ≡ false) (used r q)) at (uses_fit_roles r all before x lawful_here) in
        let arrays = subst (λ (q : Parts). AllByRecursion (λ u. is_misused_array r u ≡ false) (used r q)) at (uses_fit_arrays r all before x lawful_here) in
        let cells = subst (λ (q : Parts). (n : List ℕ) → IsAmong (used r q) n → HasItsCell n) at (used_named HasItsCell r before x named) in (
          fit_each Counts (Refers callable) callable (λ e h k. record { constants = h; references = k }) (evaluated g.arrays x.shape) range_here (reads_hold (IsReference g numbers callable) r x.shape reads),
          targets_fit x.shape (all_parts (λ u. is_against_role r u ≡ false) p.sets p.reads symbols).0 (all_parts (λ u. is_misused_array r u ≡ false) p.sets p.reads arrays).0 constants_safe (λ n h. cells n (in_front p.sets p.reads n h)),
        )

    defining_ready : (o : Option Definition) → defined_by g.arrays x.shape ≡ o → is_some o ≡ true → AllByRecursion (IsFit g numbers callable) (evaluated g.arrays x.shape) × AllByRecursion (IsTarget g.arrays numbers) (targets_of x.shape)
    defining_ready (Some d) is some =
        (passed_over g.arrays (IsFit g numbers callable) x.shape d is, no_target g.arrays numbers x.shape d is)
    defining_ready None is some = absurd (true≢false (sym some))

    either_ready : (b : Bool) → is_defining r before x ≡ b → AllByRecursion (IsFit g numbers callable) (evaluated g.arrays x.shape) × AllByRecursion (IsTarget g.arrays numbers) (targets_of x.shape)
    either_ready true is = defining_ready (defined_by g.arrays x.shape) refl (and_true _ (is_some (defined_by g.arrays x.shape)) is).1
    either_ready false is = plain_ready is

    statement_ready : IsUnbroken (breaks_loops r) x → IsReady g numbers x.shape
    statement_ready unbroken =
        let ready = either_ready (is_defining r before x) refl in
        record {
          expressions = ready.0;
          targets = ready.1;
          counters = counted (controlled_by x.shape) (counters_are_others r x unbroken) (counters_among r (is_defining r before x) x.shape);
        }
      where
        counted : (ns : List (List ℕ)) → AllByRecursion (λ n. is_other r n ≡ true) ns → AllByRecursion (IsAmong (uses_at r before x)) ns → AllByRecursion (λ n. HasCell numbers n []) ns
        counted [] h k = tt
        counted (n ∷ ns) h k = (used_named HasItsCell r before x named n k.0 h.0, counted ns h.1 k.1)

  -- ---- statement functions

  abbrev defined : List Definition
  defined = definitions_of (arrays_of all) all

  reversed : (ds : List Definition) (n : List ℕ) → is_one_of (map (λ d. d.name) ds) n ≡ false → is_one_of (map (λ d. d.name) (reverse ds)) n ≡ false
  reversed [] n h = refl
  reversed (d ∷ ds) n h =
      let p = or_parts (bytes_eq n d.name) (is_one_of (map (λ e. e.name) ds) n) h in
      ap (λ es. is_one_of (map (λ (e : Definition). e.name) es) n) (reverse-append (d ∷ []) ds)
      ∙ ap (list_any (bytes_eq n)) (map-append (λ (e : Definition). e.name) (reverse ds) (d ∷ []))
      ∙ list_any-append (bytes_eq n) (map (λ (e : Definition). e.name) (reverse ds)) (d.name ∷ [])
      ∙ ap₂ ◌||◌ (reversed ds n p.1) (ap (λ b. b || false) p.0)

  module _ (at : ℕ) (d : Definition) (found : slice_get defined at ≡ Some d) where
    stands : StandsAt r all (take at defined) d
    stands = stands_at r all lawful at d found

    good : is_bad_definition r (reverse (take at defined)) d ≡ false
    good =
        let before = stands.before in
        let defs = reverse (definitions_of r.names.arrays before) in
        let rule = (or_parts (is_late r before stands.item) (list_any (is_bad_definition r defs) (defined_here r before stands.item)) stands.lawful.defined).1 in
        let here : defined_here r before stands.item ≡ d ∷ [] = ap₂ (λ b o. if b then option_list o else []) stands.front stands.defines in
        let one = (or_parts (is_bad_definition r defs d) false (sym (ap (list_any (is_bad_definition r defs)) here) ∙ rule)).0 in
        subst (λ ds. is_bad_definition r (reverse ds) d ≡ false) stands.behind one

    -- a use in its expression
    body_use : (n : List ℕ) (o : Option ℕ) → (is_dummy d.dummies n ≡ false → IsSound r (record { name = n; arguments = o })) → (is_some o && is_one_of (dummy_names d) n) ≡ false → (is_some o && (is_function r n && not (is_one_of (map (λ e. e.name) (reverse (take at defined))) n))) ≡ false
        → IsReference g numbers at (record { name = n; arguments = o })
    body_use n None sound own later = tt
    body_use n (Some k) sound own later =
        reference all lawful at n k (λ others. by (dummies_named defined n) refl others) (sound own)
      where
        by : (o : Option (List ExprTree)) → dummies_named defined n ≡ o → AreOthers defined at n → dummies_named defined n ≡ None
        by None is others = is
        by (Some es) is others =
            absurd (true≢false (sym (ap₂ (λ b c. b && not c) (ap is_some is) (reversed (take at defined) n (none_before defined at n others))) ∙ later))

    body_uses : (us : List Use) → AllByRecursion (λ u. is_dummy d.dummies u.name ≡ false → IsSound r u) us → AllByRecursion (λ u. (is_some u.arguments && is_one_of (dummy_names d) u.name) ≡ false) us
        → AllByRecursion (λ u. (is_some u.arguments && (is_function r u.name && not (is_one_of (map (λ e. e.name) (reverse (take at defined))) u.name))) ≡ false) us → AllByRecursion (IsReference g numbers at) us
    body_uses [] a b c = tt
    body_uses (u ∷ us) a b c = (body_use u.name u.arguments a.0 b.0 c.0, body_uses us a.1 b.1 c.1)

    pub function_ready : IsReadyFunction g numbers at d
    function_ready =
        let x = stands.item in
        let before = stands.before in
        let earlier = reverse (take at defined) in
        let defining : is_defining r before x ≡ true = ap₂ ◌&&◌ stands.front (ap is_some stands.defines) in
        let reads = subst (λ (q : Parts). AllByRecursion (IsSound r) q.reads) (ap (λ b. parts_of r b x.shape) defining) (reads_sound r all before x stands.lawful) in
        let dummies = or_parts (has_bad_dummies d) (uses_dummy_as_function d || (uses_later r earlier d || is_too_deep earlier d)) good in
        let own = or_parts (uses_dummy_as_function d) (uses_later r earlier d || is_too_deep earlier d) dummies.1 in
        let later = or_parts (uses_later r earlier d) (is_too_deep earlier d) own.1 in
        record {
          body = record {
            constants = expected_body Counts r.names x.shape d stands.defines (constants_in_range r x.shape (or_parts (has_too_great r x.shape) _ stands.lawful.constant).0);
            references = body_uses (uses_in d.body) (body_holds (IsSound r) r x.shape d stands.defines reads)
                (none_any (λ u. is_some u.arguments && is_one_of (dummy_names d) u.name) (uses_in d.body) own.0)
                (none_any (λ u. is_some u.arguments && (is_function r u.name && not (is_one_of (map (λ e. e.name) earlier) u.name))) (uses_in d.body) later.0);
          };
          dummies = ltb-false 16 (length d.dummies) (or_parts (nat_lt 16 (length d.dummies)) _ dummies.0).0;
        }

-- ---- whole program units

pub statements_ready : (t : Nested) → checked t ≡ Ok t → AllByRecursion (λ x. IsReady (glossary_of (flatten t)) (cell_of (named_of (flatten t))) x.shape) (flatten t)
statements_ready t accepted =
    let all = flatten t in
    let r = symbols_of all in
    let lawful = all_lawful t accepted in
    let holds : List ℕ → Type 0 = λ n. is_other r n ≡ true → HasCell (cell_of (named_of all)) n [] in
    let named = each_named holds r [] all (λ n there other. variable_cell all n other there) in
    join (λ before x. IsLawful r all before x × AreNamed holds r before x) (IsUnbroken (breaks_loops r)) (λ x. IsReady (glossary_of all) (cell_of (named_of all)) x.shape)
    (λ before x p unbroken. statement_ready all lawful before x p.0 p.1 unbroken) [] all (both (IsLawful r all) (AreNamed holds r) [] all lawful named) (loops_unbroken t accepted)

pub functions_ready : (t : Nested) → checked t ≡ Ok t → (at : ℕ) (d : Definition) → slice_get (glossary_of (flatten t)).definitions at ≡ Some d → IsReadyFunction (glossary_of (flatten t)) (cell_of (named_of (flatten t))) at d
functions_ready t accepted at d found = function_ready (flatten t) (all_lawful t accepted) at d found
