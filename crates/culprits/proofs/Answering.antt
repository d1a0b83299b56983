-- What is told is a witness, and nothing is told only where the rule is kept.
use Rattle.std.proofs.Common.{◌≡◌, ℕ, Bool, true, false, ◌||◌, ◌&&◌, List, [], ◌∷◌, map, cond, refl, sym, ap, ◌∙◌, subst, eqb-true, Option, Some, None, option_map, inl, inr, ap₂}
use Rattle.std.specs.Prelude.{is_none, is_some, not}
use Rattle.std.specs.List.{filter, find, list_any}
use Rattle.std.proofs.lemmas.List.Folds.{list_any-append}
use Rattle.meaning.specs.declared.refusal.Rule.{Rule}
use Rattle.meaning.specs.declared.refusal.Rule.TheVariants.{K1, K2, K3, K4, K5, K6, K7, K8, K9, K10, K11, K12, K13}
use Rattle.meaning.specs.Initial.{has_bad_data}
use Rattle.meaning.specs.LabelRules.{has_bad_output, has_label, is_label_at, is_repeated}
use Rattle.meaning.specs.NameRules.{does_not_take, has_misuse, has_real_name, is_disputed, is_misused_array, is_misused_function, is_other_number, is_real, is_real_use, is_unknown_function, is_wrongly_typed, length_if, names_defined, names_used}
use Rattle.meaning.specs.NumberRules.{has_bad_number, has_large_array}
use Rattle.meaning.specs.Syntax.{ItemTree}
use Rattle.meaning.specs.Trees.{Nested, flatten}
use Rattle.meaning.specs.Types.{has_implicit_none}
use Rattle.meaning.specs.Uses.{Symbols, Use, is_defining, is_other, parts_at, symbols_of, uses_at}
use Rattle.name_uses.specs.UsesIn.{uses_in}
use Rattle.std.specs.Option.{option_or}
use Rattle.meaning.specs.Intrinsics.{Intrinsic, intrinsic_named}
use Rattle.culprits.specs.declared.culprit.Wanted.{Wanted}
use Rattle.culprits.specs.declared.culprit.Wanted.TheVariants.{Subscripts, Arguments}
use Rattle.culprits.specs.Counts.{arguments_of, capped, miscounting, subscripts_of, wanted_by}
use Rattle.culprits.specs.Culprits.{culprit_at, culprit_in, item_culprit_in, items_in, listed_in, names_in, repeated_in}
use Rattle.culprits.specs.Placing.{at_line, seat_line}
use Rattle.culprits.specs.Told.{Told, repeated, real, miscounted, mistyped, numbered, sized, disputed, misgiven, misformed, defined, unknown, listed}
use Rattle.function_culprits.specs.Functions.{misdefined_at}
use Rattle.name_culprits.specs.Told.{Told as NameTold}
use Rattle.function_culprits.specs.Told.{Told as FunctionTold}
use Rattle.function_culprits.specs.Witness.{IsTold as IsFunctionTold, breaks_but_deep}
use Rattle.number_culprits.specs.Numbers.{bad_in as numbered_part}
use Rattle.number_culprits.specs.Witness.{IsBy as IsNumberBy}
use Rattle.number_culprits.proofs.Telling.{numbers_told}
use Rattle.data_culprits.specs.Sets.{bad_in as misgiven_part}
use Rattle.data_culprits.specs.Witness.{IsBy as IsDataBy}
use Rattle.data_culprits.proofs.Telling.{data_told}
use Rattle.output_culprits.specs.Outputs.{bad_in as misformed_part}
use Rattle.output_culprits.specs.Witness.{IsBy as IsOutputBy}
use Rattle.output_culprits.proofs.Telling.{outputs_told}
use Rattle.type_culprits.specs.Clashes.{mistyped_at as mistyped_part}
use Rattle.type_culprits.specs.Witness.{IsBy as IsTypeBy}
use Rattle.type_culprits.proofs.Telling.{types_told}
use Rattle.size_culprits.specs.Sizes.{large_in as sized_part}
use Rattle.size_culprits.specs.Witness.{IsBy as IsSizeBy}
use Rattle.size_culprits.proofs.Telling.{sizes_told}
use Rattle.name_culprits.specs.Names.{disputed_in as disputed_part}
use Rattle.name_culprits.specs.Witness.{IsBy as IsNameBy, IsTold as IsNameTold, breaks_in_part}
use Rattle.name_culprits.proofs.Telling.{names_told}
use Rattle.function_culprits.proofs.Defining.{functions_told as definitions_told}
use Rattle.finding.specs.Answers.{IsAnswer as IsPartAnswer}
use Rattle.culprits.specs.Witness.{IsAnswer, IsBy, IsItemBy, IsMisused, breaks, breaks_covered, item_breaks}
use Rattle.finding.proofs.Found.{any_found, found, none_found}
use Rattle.list_culprits.specs.Seats.{Seat, seats_of}
use Rattle.list_culprits.specs.Told.{Told as ListTold}
use Rattle.list_culprits.specs.Loops.{looped_in}
use Rattle.list_culprits.specs.Transfers.{missed_in}
use Rattle.list_culprits.specs.Witness.{IsLoopedBy, IsMissedBy, is_loop_broken, is_transfer_broken, unit_of}
use Rattle.list_culprits.proofs.Telling.{list_witnesses}
use Rattle.culprits.proofs.Placed.{asked_none, asked_of}

-- a statement breaks the rule, by what is told
record IsBroken (rule : Rule) (all before : List ItemTree) (x : ItemTree) (k : Told) : Type 0 where
  broken : item_breaks rule all before x ≡ true
  by : IsItemBy rule all before x k

-- ---- K1

labelled : (s : ℕ) (o : Option ℕ) → is_label_at o s ≡ true → o ≡ Some s
labelled s None is = absurd cc
labelled s (Some t) is = ap Some (eqb-true t s is)

module _ (all before : List ItemTree) (x : ItemTree) where
  repeat_found : (s : ℕ) (p : Option ItemTree) (k : Told) → x.label ≡ Some s → find (has_label s) before ≡ p → option_map (λ (y : ItemTree). repeated s y.line) p ≡ Some k → IsBroken K1 all before x k
  repeat_found s None k has at is = absurd cc
  repeat_found s (Some y) k has at is =
      let f = found (has_label s) before y at in
      let e : repeated s y.line ≡ k = cc in
      let P : Told → Type 0 = λ t. IsItemBy K1 all before x t in
      record {
        broken = ap (is_repeated before) has ∙ any_found (has_label s) before y at;
        by = subst P e (record { earlier = y; stands = f.stands; line_is = refl; earlier_has = labelled s y.label f.passes; has = has });
      }

  repeat_told : (o : Option ℕ) (k : Told) → x.label ≡ o → repeated_in before o ≡ Some k → IsBroken K1 all before x k
  repeat_told None k has is = absurd cc
  repeat_told (Some s) k has is = repeat_found s (find (has_label s) before) k has refl is

  repeat_missing : (s : ℕ) (p : Option ItemTree) → find (has_label s) before ≡ p → option_map (λ (y : ItemTree). repeated s y.line) p ≡ None → list_any (has_label s) before ≡ false
  repeat_missing s None at is = none_found (has_label s) before at
  repeat_missing s (Some y) at is = absurd cc

  repeat_kept : (o : Option ℕ) → x.label ≡ o → repeated_in before o ≡ None → is_repeated before x.label ≡ false
  repeat_kept None has is = ap (is_repeated before) has
  repeat_kept (Some s) has is = ap (is_repeated before) has ∙ repeat_missing s (find (has_label s) before) refl is

-- ---- K3: of the names in uses that are REAL

real_names : (r : Symbols) (us : List Use) → list_any (is_real r) (names_used (is_real_use r) us) ≡ list_any (is_real_use r) us
real_names r [] = refl
real_names r (u ∷ us) = by_test (is_real r u.name) (is_none u.arguments || not (is_other r u.name)) refl (real_names r us)
  where
    by_test : (b q : Bool) → is_real r u.name ≡ b → list_any (is_real r) (names_used (is_real_use r) us) ≡ list_any (is_real_use r) us → list_any (is_real r) (map (λ (v : Use). v.name) (cond (b && q) (u ∷ filter (is_real_use r) us) (filter (is_real_use r) us))) ≡ ((b && q) || list_any (is_real_use r) us)
    by_test true true is more = ap (λ c. c || list_any (is_real r) (names_used (is_real_use r) us)) is
    by_test true false is more = more
    by_test false q is more = more

module _ (all before : List ItemTree) (x : ItemTree) where
  any_real : list_any (is_real (symbols_of all)) (names_in (symbols_of all) (is_defining (symbols_of all) before x) x.shape) ≡ has_real_name (symbols_of all) before x
  any_real =
      let r = symbols_of all in
      let d = is_defining r before x in
      list_any-append (is_real r) (names_defined r d x.shape) (names_used (is_real_use r) (uses_in r d x.shape))
      ∙ ap (λ b. list_any (is_real r) (names_defined r d x.shape) || b) (real_names r (uses_in r d x.shape))

  real_found : (p : Option (List ℕ)) (k : Told) → find (is_real (symbols_of all)) (names_in (symbols_of all) (is_defining (symbols_of all) before x) x.shape) ≡ p → option_map (λ n. real n (has_implicit_none all)) p ≡ Some k → IsBroken K3 all before x k
  real_found None k at is = absurd cc
  real_found (Some n) k at is =
      let r = symbols_of all in
      let ns = names_in r (is_defining r before x) x.shape in
      let f = found (is_real r) ns n at in
      let e : real n (has_implicit_none all) ≡ k = cc in
      let P : Told → Type 0 = λ t. IsItemBy K3 all before x t in
      record {
        broken = sym any_real ∙ any_found (is_real r) ns n at;
        by = subst P e (record { stands = f.stands; is_real_name = f.passes }, refl);
      }

  real_missing : (p : Option (List ℕ)) → find (is_real (symbols_of all)) (names_in (symbols_of all) (is_defining (symbols_of all) before x) x.shape) ≡ p → option_map (λ n. real n (has_implicit_none all)) p ≡ None → has_real_name (symbols_of all) before x ≡ false
  real_missing None at is =
      sym any_real ∙ none_found (is_real (symbols_of all)) (names_in (symbols_of all) (is_defining (symbols_of all) before x) x.shape) at
  real_missing (Some n) at is = absurd cc

-- ---- K8

-- a name that wants a number of subscripts or arguments, where a test says that it is misused
record IsWanted (wants : List ℕ → Option Wanted) (name : List ℕ) : Type 0 where
  wanted : Wanted
  wants_it : wants name ≡ Some wanted

wanted_array : (r : Symbols) (u : Use) → is_misused_array r u ≡ true → IsWanted (subscripts_of r) u.name
wanted_array r u is = by_rank (length_if (r.names.arrays u.name)) refl is
  where
    by_rank : (o : Option ℕ) → length_if (r.names.arrays u.name) ≡ o → is_other_number o u.arguments ≡ true → IsWanted (subscripts_of r) u.name
    by_rank None e other = absurd cc
    by_rank (Some n) e other = record { wanted = Subscripts n; wants_it = ap (option_map Subscripts) e }

no_true : (p q : Bool) → ((p && false) || (q && false)) ≡ true → ⊥
no_true true true is = cc
no_true true false is = cc
no_true false true is = cc
no_true false false is = cc

wanted_function : (r : Symbols) (u : Use) → is_misused_function r u ≡ true → IsWanted (arguments_of r) u.name
wanted_function r u is = by_parts (length_if (r.names.functions u.name)) (intrinsic_named u.name) refl refl is
  where
    by_parts : (o : Option ℕ) (i : Option Intrinsic) → length_if (r.names.functions u.name) ≡ o → intrinsic_named u.name ≡ i → ((is_some u.arguments && is_other_number o u.arguments) || (is_other r u.name && does_not_take i u.arguments)) ≡ true → IsWanted (arguments_of r) u.name
    by_parts (Some n) i e f other = record {
      wanted = Arguments (capped n);
      wants_it = ap (λ p. option_or (option_map (λ k. Arguments (capped k)) p) (option_map wanted_by (intrinsic_named u.name))) e;
    }
    by_parts None (Some g) e f other = record {
      wanted = wanted_by g;
      wants_it = ap₂ (λ p q. option_or (option_map (λ k. Arguments (capped k)) p) (option_map wanted_by q)) e f;
    }
    by_parts None None e f other = absurd (no_true (is_some u.arguments) (is_other r u.name) other)

-- what is told of the first use that is misused
record IsTold (wants : List ℕ → Option Wanted) (test : Use → Bool) (us : List Use) (k : Told) : Type 0 where
  name : List ℕ
  wanted : Wanted
  given : Option ℕ
  told : miscounted name wanted given ≡ k
  by : IsMisused wants test us name wanted given

misuse_told : (wants : List ℕ → Option Wanted) (test : Use → Bool) (us : List Use) (u : Use) (o : Option Wanted) (k : Told) → find test us ≡ Some u → wants u.name ≡ o → option_map (λ w. miscounted u.name w (option_map capped u.arguments)) o ≡ Some k → IsTold wants test us k
misuse_told wants test us u None k at wanted is = absurd cc
misuse_told wants test us u (Some w) k at wanted is =
    let f = found test us u at in
    record {
      name = u.name;
      wanted = w;
      given = option_map capped u.arguments;
      told = cc;
      by = record { one = u; stands = f.stands; is_misused = f.passes; name_is = refl; wanted_is = wanted; given_is = refl };
    }

misuse_found : (wants : List ℕ → Option Wanted) (test : Use → Bool) (us : List Use) (p : Option Use) (k : Told) → find test us ≡ p → miscounting wants p ≡ Some k → IsTold wants test us k × (list_any test us ≡ true)
misuse_found wants test us None k at is = absurd cc
misuse_found wants test us (Some u) k at is =
    (misuse_told wants test us u (wants u.name) k at refl is, any_found test us u at)

some_none : {X : Type 0} (x : X) → Some x ≡ None → ⊥
some_none x is = cc

misuse_missing : (wants : List ℕ → Option Wanted) (test : Use → Bool) → ((u : Use) → test u ≡ true → IsWanted wants u.name) → (us : List Use) (p : Option Use) → find test us ≡ p → miscounting wants p ≡ None → list_any test us ≡ false
misuse_missing wants test all_wanted us None at is = none_found test us at
misuse_missing wants test all_wanted us (Some u) at is =
    let w = all_wanted u (found test us u at).passes in
    absurd (some_none _ (sym (ap (option_map (λ v. miscounted u.name v (option_map capped u.arguments))) w.wants_it) ∙ is))

or_true : (b : Bool) → (b || true) ≡ true
or_true true = refl
or_true false = refl

module _ (all before : List ItemTree) (x : ItemTree) where
  abbrev arrays_told : Option Told
  arrays_told = miscounting (subscripts_of (symbols_of all)) (find (is_misused_array (symbols_of all)) (uses_at (symbols_of all) before x))

  abbrev functions_told : Option Told
  functions_told =
      miscounting (arguments_of (symbols_of all)) (find (is_misused_function (symbols_of all)) (parts_at (symbols_of all) before x).reads)

  misuse_breaks : (o : Option Told) (k : Told) → arrays_told ≡ o → option_or o functions_told ≡ Some k → IsBroken K8 all before x k
  misuse_breaks (Some j) k first is =
      let r = symbols_of all in
      let e : Some j ≡ Some k = is in
      let m = misuse_found (subscripts_of r) (is_misused_array r) (uses_at r before x) _ k refl (first ∙ e) in
      let P : Told → Type 0 = λ t. IsItemBy K8 all before x t in
      record {
        broken = ap (λ b. b || list_any (is_misused_function r) (parts_at r before x).reads) m.1;
        by = subst P m.0.told (inl m.0.by);
      }
  misuse_breaks None k first is =
      let r = symbols_of all in
      let m = misuse_found (arguments_of r) (is_misused_function r) (parts_at r before x).reads _ k refl is in
      let P : Told → Type 0 = λ t. IsItemBy K8 all before x t in
      record {
        broken = ap (λ b. list_any (is_misused_array r) (uses_at r before x) || b) m.1 ∙ or_true (list_any (is_misused_array r) (uses_at r before x));
        by = subst P m.0.told (inr m.0.by);
      }

  misuse_kept : (o : Option Told) → arrays_told ≡ o → option_or o functions_told ≡ None → has_misuse (symbols_of all) before x ≡ false
  misuse_kept (Some j) first is = absurd cc
  misuse_kept None first is =
      let r = symbols_of all in
      ap₂ ◌||◌ (misuse_missing (subscripts_of r) (is_misused_array r) (wanted_array r) (uses_at r before x) _ refl first) (misuse_missing (arguments_of r) (is_misused_function r) (wanted_function r) (parts_at r before x).reads _ refl is)

-- ---- K12, all but how deep statement functions go and how large they become

module _ (all before : List ItemTree) (x : ItemTree) where
  function_found : (o : Option FunctionTold) (k : Told) → IsFunctionTold (symbols_of all) before x o → option_map defined o ≡ Some k → IsBroken K12 all before x k
  function_found None k answers is = absurd cc
  function_found (Some j) k answers is =
      let e : defined j ≡ k = cc in
      let P : Told → Type 0 = λ t. IsItemBy K12 all before x t in
      record { broken = answers.0; by = subst P e answers.1 }

  function_missing : (o : Option FunctionTold) → IsFunctionTold (symbols_of all) before x o → option_map defined o ≡ None → breaks_but_deep (symbols_of all) before x ≡ false
  function_missing None answers is = answers
  function_missing (Some j) answers is = absurd cc

-- ---- K4, all but letters, variables that are functions too, and LOGICAL intrinsic functions

module _ (all before : List ItemTree) (x : ItemTree) where
  name_found : (o : Option NameTold) (k : Told) → IsNameTold (symbols_of all) before x o → option_map disputed o ≡ Some k → IsBroken K4 all before x k
  name_found None k answers is = absurd cc
  name_found (Some j) k answers is =
      let e : disputed j ≡ k = cc in
      let P : Told → Type 0 = λ t. IsItemBy K4 all before x t in
      record { broken = answers.0; by = subst P e answers.1 }

  name_missing : (o : Option NameTold) → IsNameTold (symbols_of all) before x o → option_map disputed o ≡ None → breaks_in_part (symbols_of all) before x ≡ false
  name_missing None answers is = answers
  name_missing (Some j) answers is = absurd cc

-- ---- K13

module _ (all before : List ItemTree) (x : ItemTree) where
  unknown_found : (p : Option Use) (k : Told) → find (is_unknown_function (symbols_of all)) (parts_at (symbols_of all) before x).reads ≡ p → option_map (λ (u : Use). unknown u.name) p ≡ Some k → IsBroken K13 all before x k
  unknown_found None k at is = absurd cc
  unknown_found (Some u) k at is =
      let test = is_unknown_function (symbols_of all) in
      let us = (parts_at (symbols_of all) before x).reads in
      let f = found test us u at in
      let e : unknown u.name ≡ k = cc in
      let P : Told → Type 0 = λ t. IsItemBy K13 all before x t in
      record {
        broken = any_found test us u at;
        by = subst P e (record { reference = u; stands = f.stands; name_is = refl; is_unknown = f.passes });
      }

  unknown_missing : (p : Option Use) → find (is_unknown_function (symbols_of all)) (parts_at (symbols_of all) before x).reads ≡ p → option_map (λ (u : Use). unknown u.name) p ≡ None → list_any (is_unknown_function (symbols_of all)) (parts_at (symbols_of all) before x).reads ≡ false
  unknown_missing None at is =
      none_found (is_unknown_function (symbols_of all)) (parts_at (symbols_of all) before x).reads at
  unknown_missing (Some u) at is = absurd cc

-- ---- all of them

-- of a rule that a crate below tells of
part_told : {K : Type 0} (f : K → Told) (by : K → Type 0) (b : Bool) (o : Option K) (k : Told) → IsPartAnswer by b o → option_map f o ≡ Some k → (b ≡ true) × ((j : K) × (f j ≡ k) × by j)
part_told f by b None k answers is = absurd cc
part_told f by b (Some j) k answers is = let e : f j ≡ k = cc in (answers.0, (j, e, answers.1))

part_silent : {K : Type 0} (f : K → Told) (by : K → Type 0) (b : Bool) (o : Option K) → IsPartAnswer by b o → option_map f o ≡ None → b ≡ false
part_silent f by b None answers is = answers
part_silent f by b (Some j) answers is = absurd cc

item_told_breaks : (rule : Rule) (all before : List ItemTree) (x : ItemTree) (k : Told) → item_culprit_in rule all before x ≡ Some k → IsBroken rule all before x k
item_told_breaks K1 all before x k is = repeat_told all before x x.label k refl is
item_told_breaks K3 all before x k is = real_found all before x _ k refl is
item_told_breaks K5 all before x k is =
    let w = part_told mistyped (IsTypeBy (symbols_of all) before x) (is_wrongly_typed (symbols_of all) before x) (mistyped_part (symbols_of all) before x) k (types_told (symbols_of all) before x) is in
    record { broken = w.0; by = subst (IsItemBy K5 all before x) w.1.1 w.1.2 }
item_told_breaks K6 all before x k is =
    let w = part_told numbered (IsNumberBy (symbols_of all) before x) (has_bad_number (symbols_of all) before x) (numbered_part (symbols_of all) before x) k (numbers_told (symbols_of all) before x) is in
    record { broken = w.0; by = subst (IsItemBy K6 all before x) w.1.1 w.1.2 }
item_told_breaks K7 all before x k is =
    let w = part_told sized (IsSizeBy (symbols_of all) before x) (has_large_array (symbols_of all) before x) (sized_part (symbols_of all) before x) k (sizes_told (symbols_of all) before x) is in
    record { broken = w.0; by = subst (IsItemBy K7 all before x) w.1.1 w.1.2 }
item_told_breaks K4 all before x k is = name_found all before x (disputed_part (symbols_of all) before x) k (names_told (symbols_of all) before x) is
item_told_breaks K8 all before x k is = misuse_breaks all before x (arrays_told all before x) k refl is
item_told_breaks K10 all before x k is =
    let w = part_told misgiven (IsDataBy (symbols_of all) before x) (has_bad_data (symbols_of all) before x) (misgiven_part (symbols_of all) before x) k (data_told (symbols_of all) before x) is in
    record { broken = w.0; by = subst (IsItemBy K10 all before x) w.1.1 w.1.2 }
item_told_breaks K11 all before x k is =
    let w = part_told misformed (IsOutputBy (symbols_of all) all before x) (has_bad_output (symbols_of all) all before x) (misformed_part (symbols_of all) all before x) k (outputs_told (symbols_of all) all before x) is in
    record { broken = w.0; by = subst (IsItemBy K11 all before x) w.1.1 w.1.2 }
item_told_breaks K12 all before x k is =
    function_found all before x (misdefined_at (symbols_of all) before x) k (definitions_told (symbols_of all) before x) is
item_told_breaks K13 all before x k is = unknown_found all before x _ k refl is
item_told_breaks rule all before x k is = absurd cc

-- of a rule of which all is covered
abbrev whole_rule : Rule → Type 0
whole_rule K4 = ⊥
whole_rule K12 = ⊥
whole_rule rule = Unit {0}

item_silent_keeps : (rule : Rule) → whole_rule rule → (all before : List ItemTree) (x : ItemTree) → item_culprit_in rule all before x ≡ None → item_breaks rule all before x ≡ false
item_silent_keeps K1 whole all before x is = repeat_kept all before x x.label refl is
item_silent_keeps K3 whole all before x is = real_missing all before x _ refl is
item_silent_keeps K5 whole all before x is =
    part_silent mistyped (IsTypeBy (symbols_of all) before x) (is_wrongly_typed (symbols_of all) before x) (mistyped_part (symbols_of all) before x) (types_told (symbols_of all) before x) is
item_silent_keeps K6 whole all before x is =
    part_silent numbered (IsNumberBy (symbols_of all) before x) (has_bad_number (symbols_of all) before x) (numbered_part (symbols_of all) before x) (numbers_told (symbols_of all) before x) is
item_silent_keeps K7 whole all before x is =
    part_silent sized (IsSizeBy (symbols_of all) before x) (has_large_array (symbols_of all) before x) (sized_part (symbols_of all) before x) (sizes_told (symbols_of all) before x) is
item_silent_keeps K4 whole all before x is = absurd whole
item_silent_keeps K8 whole all before x is = misuse_kept all before x (arrays_told all before x) refl is
item_silent_keeps K10 whole all before x is =
    part_silent misgiven (IsDataBy (symbols_of all) before x) (has_bad_data (symbols_of all) before x) (misgiven_part (symbols_of all) before x) (data_told (symbols_of all) before x) is
item_silent_keeps K11 whole all before x is =
    part_silent misformed (IsOutputBy (symbols_of all) all before x) (has_bad_output (symbols_of all) all before x) (misformed_part (symbols_of all) all before x) (outputs_told (symbols_of all) all before x) is
item_silent_keeps K12 whole all before x is = absurd whole
item_silent_keeps K13 whole all before x is = unknown_missing all before x _ refl is
item_silent_keeps rule whole all before x is = refl

-- a statement in its seat breaks the rule, by what is told
record IsBrokenHere (rule : Rule) (t : Nested) (front : List Seat) (z : Seat) (k : Told) : Type 0 where
  broken : breaks rule t (items_in front) z ≡ true
  by : IsBy rule t (items_in front) z k

module _ (t : Nested) (front : List Seat) (z : Seat) where
  or_none : {A : Type 0} (o : Option A) → option_or o None ≡ o
  or_none None = refl
  or_none (Some a) = refl

  told_breaks : (rule : Rule) (k : Told) → culprit_in rule t front z ≡ Some k → IsBrokenHere rule t front z k
  told_breaks K2 k is =
      let w = part_told listed (IsMissedBy (unit_of t) z) (is_transfer_broken t z) (missed_in (unit_of t) z) k (list_witnesses t z).missed is in
      record { broken = w.0; by = subst (IsBy K2 t (items_in front) z) w.1.1 w.1.2 }
  told_breaks K9 k is =
      let w = part_told listed (IsLoopedBy (symbols_of (flatten t)) z) (is_loop_broken t z) (looped_in (symbols_of (flatten t)) z) k (list_witnesses t z).looped is in
      record { broken = w.0; by = subst (IsBy K9 t (items_in front) z) w.1.1 w.1.2 }
  told_breaks rule k is =
      let b = item_told_breaks rule (flatten t) (items_in front) z.item k (sym (or_none (item_culprit_in rule (flatten t) (items_in front) z.item)) ∙ is) in
      record { broken = b.broken; by = b.by }

  silent_keeps : (rule : Rule) → culprit_in rule t front z ≡ None → breaks_covered rule t (items_in front) z ≡ false
  silent_keeps K2 is =
      part_silent listed (IsMissedBy (unit_of t) z) (is_transfer_broken t z) (missed_in (unit_of t) z) (list_witnesses t z).missed is
  silent_keeps K9 is =
      part_silent listed (IsLoopedBy (symbols_of (flatten t)) z) (is_loop_broken t z) (looped_in (symbols_of (flatten t)) z) (list_witnesses t z).looped is
  silent_keeps K4 is =
      let r = symbols_of (flatten t) in
      name_missing (flatten t) (items_in front) z.item (disputed_part r (items_in front) z.item) (names_told r (items_in front) z.item) (sym (or_none (item_culprit_in K4 (flatten t) (items_in front) z.item)) ∙ is)
  silent_keeps K12 is =
      let r = symbols_of (flatten t) in
      function_missing (flatten t) (items_in front) z.item (misdefined_at r (items_in front) z.item) (definitions_told r (items_in front) z.item) (sym (or_none (item_culprit_in K12 (flatten t) (items_in front) z.item)) ∙ is)
  silent_keeps rule is =
      item_silent_keeps rule _ (flatten t) (items_in front) z.item (sym (or_none (item_culprit_in rule (flatten t) (items_in front) z.item)) ∙ is)

answer : (t : Nested) (rule : Rule) (line : ℕ) (c : Option Told) → culprit_at rule line t ≡ c → IsAnswer t rule line c
answer t rule line (Some k) is =
    let a = asked_of seat_line (culprit_in rule t) line [] (seats_of t) k is in
    let b = told_breaks t a.front a.one rule k a.answer in
    record {
      front = a.front;
      statement = a.one;
      placed = record { after = a.back; parts = a.parts; line_is = a.line_is; first = a.first };
      broken = b.broken;
      by = b.by;
    }
answer t rule line None is = λ front z p covered.
    silent_keeps t front z rule (asked_none seat_line (culprit_in rule t) line [] front z p.after p.line_is p.first (ap (at_line seat_line (culprit_in rule t) line []) (sym p.parts) ∙ is))

pub answered : (t : Nested) (rule : Rule) (line : ℕ) → IsAnswer t rule line (culprit_at rule line t)
answered t rule line = answer t rule line (culprit_at rule line t) refl
