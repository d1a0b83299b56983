-- Statement functions that stand before a statement, and what is known of them.
use Rattle.std.proofs.Common.{◌≡◌, ℕ, suc, Bool, true, false, ◌&&◌, ◌||◌, List, [], ◌∷◌, ◌++◌, map, refl, sym, ap, ap₂, ◌∙◌, arith, Option, Some, None, option_map}
use Rattle.std.specs.Prelude.{if◌then◌else◌, is_some, nat_lt, not, reverse}
use Rattle.std.specs.List.{list_any}
use Rattle.std.specs.Str.{bytes_eq}
use Rattle.std.specs.Global.{Vec}
use Rattle.std.proofs.lemmas.List.{reverse-append}
use Rattle.indexmap.specs.IndexMap.{IndexMap}
use Rattle.name_maps.specs.Keeping.{kept_at}
use Rattle.function_rules.specs.declared.measures.Measure.{Measure}
use Rattle.meaning.specs.NameRules.{breaks_function_rules, defined_here, greatest, has_bad_dummies, is_bad_definition, level_by, nodes_by, nodes_in, sets_no_array, uses_dummy_as_function}
use Rattle.meaning.specs.Scopes.{Definition, defined_before, defined_by, definitions_of, is_specification}
use Rattle.meaning.specs.Syntax.{ItemTree, ShapeTree, logical_if}
use Rattle.meaning.specs.Typing.{option_list}
use Rattle.meaning.specs.Uses.{Symbols, is_before_executables, is_one_of, uses_in}
use Rattle.function_rules.specs.Earlier.{Describes, earlier, is_bad_by, is_later_use, level_behind, nodes_behind}
use Rattle.function_rules.specs.Measured.{capped, is_kept, level_at, nodes_at}
use Rattle.function_rules.proofs.Measuring.{below_capped, greatest_capped, more_same, nodes_capped}
use Rattle.rule_passes.proofs.Membership.{or_false}

-- ---- the definitions before a statement, one statement more

or_true : (b : Bool) → (b || true) ≡ true
or_true true = refl
or_true false = refl

module _ (r : Symbols) where
  abbrev pub here_if : Bool → ItemTree → List Definition
  here_if b x = if b then option_list (defined_by r.names.arrays x.shape) else []

  definitions_last : (before : List ItemTree) (x : ItemTree) → definitions_of r.names.arrays (before ++ x ∷ []) ≡ definitions_of r.names.arrays before ++ here_if (is_before_executables r before) x
  unfolding definitions_of
  definitions_last [] x = by_option (defined_by r.names.arrays x.shape) (is_specification x.shape)
    where
      by_option : (o : Option Definition) (b : Bool) → defined_before o b [] ≡ option_list o
      by_option (Some d) b = refl
      by_option None true = refl
      by_option None false = refl
  definitions_last (y ∷ ys) x =
      ap (defined_before (defined_by r.names.arrays y.shape) (is_specification y.shape)) (definitions_last ys x)
      ∙ by_option (defined_by r.names.arrays y.shape) (is_specification y.shape) (is_before_executables r ys) (definitions_of r.names.arrays ys)
    where
      by_option : (o : Option Definition) (b all : Bool) (ds : List Definition) → defined_before o b (ds ++ here_if all x) ≡ defined_before o b ds ++ here_if ((b || is_some o) && all) x
      by_option (Some d) b all ds = ap (λ t. d ∷ (ds ++ here_if (t && all) x)) (sym (or_true b))
      by_option None true all ds = refl
      by_option None false all ds = refl

  earlier_more : (before : List ItemTree) (x : ItemTree) (o : Option Definition) → option_list o ≡ defined_here r before x → earlier r (before ++ x ∷ []) ≡ option_list o ++ earlier r before
  earlier_more before x o is =
      ap reverse (definitions_last before x ∙ ap (λ ds. definitions_of r.names.arrays before ++ ds) (sym is))
      ∙ reverse-append (definitions_of r.names.arrays before) (option_list o) ∙ ap (λ ds. ds ++ earlier r before) (by_option o)
    where
      by_option : (p : Option Definition) → reverse (option_list p) ≡ option_list p
      by_option None = refl
      by_option (Some d) = refl

  -- ---- what is known, one statement more

  levels_more : (ds : List Definition) (o : Option Definition) (level : List ℕ → ℕ) → ((n : List ℕ) → level n ≡ capped (level_by ds n)) → (n : List ℕ) → level_behind level o n ≡ capped (level_by (option_list o ++ ds) n)
  unfolding level_by
  levels_more ds None level same n = same n
  levels_more ds (Some d) level same n =
      let all : level ≡ (λ m. capped (level_by ds m)) = λ i m. same m i in
      let one = uses_in d.body in
      ap₂ (λ a b. if bytes_eq n d.name then a else b) (ap (λ l. capped (suc (greatest l one))) all ∙ ap (λ k. capped (suc k)) (greatest_capped (level_by ds) one) ∙ more_same (capped (greatest (level_by ds) one)) (greatest (level_by ds) one) (again (greatest (level_by ds) one))) (same n)
      ∙ by_test (bytes_eq n d.name) (suc (greatest (level_by ds) one)) (level_by ds n)
    where
      again : (a : ℕ) → capped (capped a) ≡ capped a
      again a = omega arith

      by_test : (b : Bool) (j k : ℕ) → (if b then capped j else capped k) ≡ capped (if b then j else k)
      by_test true j k = refl
      by_test false j k = refl

  nodes_more : (ds : List Definition) (o : Option Definition) (known : List ℕ → Option ℕ) → ((n : List ℕ) → known n ≡ option_map capped (nodes_by ds n)) → (n : List ℕ) → nodes_behind known o n ≡ option_map capped (nodes_by (option_list o ++ ds) n)
  unfolding nodes_by
  nodes_more ds None known same n = same n
  nodes_more ds (Some d) known same n =
      ap₂ (λ a b. if bytes_eq n d.name then Some a else b) (nodes_capped known (nodes_by ds) same d.body) (same n)
      ∙ by_test (bytes_eq n d.name) (nodes_in (nodes_by ds) d.body) (nodes_by ds n)
    where
      by_test : (b : Bool) (j : ℕ) (o : Option ℕ) → (if b then Some (capped j) else option_map capped o) ≡ option_map capped (if b then Some j else o)
      by_test true j o = refl
      by_test false j o = refl

  pub described : (Stage : Type 0) (before : List ItemTree) (x : ItemTree) (o : Option Definition) (level next_level : List ℕ → ℕ) (known next_known : List ℕ → Option ℕ) → Stage → option_list o ≡ defined_here r before x → ((n : List ℕ) → level n ≡ capped (level_by (earlier r before) n)) → ((n : List ℕ) → known n ≡ option_map capped (nodes_by (earlier r before) n)) → ((n : List ℕ) → next_level n ≡ level_behind level o n) → ((n : List ℕ) → next_known n ≡ nodes_behind known o n) → Describes Stage r (before ++ x ∷ []) next_level next_known
  described Stage before x o level next_level known next_known stage is levels nodes then_levels then_nodes = record {
    stage = stage;
    levels = λ n. then_levels n ∙ levels_more (earlier r before) o level levels n ∙ ap (λ ds. capped (level_by ds n)) (sym (earlier_more before x o is));
    nodes = λ n. then_nodes n ∙ nodes_more (earlier r before) o known nodes n ∙ ap (λ ds. option_map capped (nodes_by ds n)) (sym (earlier_more before x o is));
  }

  -- nothing is known at first
  pub described_none : (Stage : Type 0) (level : List ℕ → ℕ) (known : List ℕ → Option ℕ) → Stage → ((n : List ℕ) → level n ≡ 0) → ((n : List ℕ) → known n ≡ None) → Describes Stage r [] level known
  unfolding level_by nodes_by definitions_of
  described_none Stage level known stage levels nodes = record { stage = stage; levels = levels; nodes = nodes }

  -- ---- a statement function by what is known

  known_names : (ds : List Definition) (n : List ℕ) → is_some (nodes_by ds n) ≡ is_one_of (map (λ d. d.name) ds) n
  unfolding nodes_by
  known_names [] n = refl
  known_names (d ∷ ds) n = by_test (bytes_eq n d.name) (known_names ds n)
    where
      by_test : (b : Bool) → is_some (nodes_by ds n) ≡ is_one_of (map (λ e. e.name) ds) n → is_some (if b then Some (nodes_in (nodes_by ds) d.body) else nodes_by ds n) ≡ (b || is_one_of (map (λ e. e.name) ds) n)
      by_test true h = refl
      by_test false h = h

  map_some : {A B : Type 0} (f : A → B) (o : Option A) → is_some (option_map f o) ≡ is_some o
  map_some f None = refl
  map_some f (Some a) = refl

  bad_is : (before : List ItemTree) (d : Definition) (known : List ℕ → Bool) (level : List ℕ → ℕ) (nodes : List ℕ → Option ℕ) → ((n : List ℕ) → known n ≡ is_some (nodes n)) → ((n : List ℕ) → level n ≡ capped (level_by (earlier r before) n)) → ((n : List ℕ) → nodes n ≡ option_map capped (nodes_by (earlier r before) n)) → is_bad_by r known level nodes d ≡ is_bad_definition r (earlier r before) d
  bad_is before d known level nodes named levels sizes =
      let ds = earlier r before in
      let us = uses_in d.body in
      let all_known : known ≡ (λ n. is_one_of (map (λ (e : Definition). e.name) ds) n) = λ i n. (named n ∙ ap is_some (sizes n) ∙ map_some capped (nodes_by ds n) ∙ known_names ds n) i in
      let all_levels : level ≡ (λ n. capped (level_by ds n)) = λ i n. levels n i in
      let deep : nat_lt 32 (capped (suc (greatest level us))) ≡ nat_lt 32 (suc (greatest (level_by ds) us)) =
      ap (λ l. nat_lt 32 (capped (suc (greatest l us)))) all_levels ∙ ap (λ k. nat_lt 32 (capped (suc k))) (greatest_capped (level_by ds) us)
      ∙ ap (λ k. nat_lt 32 k) (more_same (capped (greatest (level_by ds) us)) (greatest (level_by ds) us) (again (greatest (level_by ds) us)))
      ∙ below_capped 32 (suc (greatest (level_by ds) us)) (omega arith) in
      let large : nat_lt 65536 (capped (nodes_in nodes d.body)) ≡ nat_lt 65536 (nodes_in (nodes_by ds) d.body) =
      ap (λ k. nat_lt 65536 k) (nodes_capped nodes (nodes_by ds) sizes d.body) ∙ below_capped 65536 (nodes_in (nodes_by ds) d.body) (omega arith) in
      ap₂ (λ (k : List ℕ → Bool) e. has_bad_dummies d || (uses_dummy_as_function d || (list_any (is_later_use r k) us || e))) all_known (ap₂ ◌||◌ deep large)
    where
      again : (a : ℕ) → capped (capped a) ≡ capped a
      again a = omega arith

  -- ---- a statement

  no_logical : (s : ShapeTree) (d : Definition) → defined_by r.names.arrays s ≡ Some d → sets_no_array r s ≡ false
  no_logical (logical_if e s) d h = absurd cc
  no_logical s d h = refl

  pub bad_here : (before : List ItemTree) (x : ItemTree) (d : Definition) (known : List ℕ → Bool) (level : List ℕ → ℕ) (nodes : List ℕ → Option ℕ) (told : Bool) → Some d ≡ defined_by r.names.arrays x.shape → is_before_executables r before ≡ true → ((n : List ℕ) → known n ≡ is_some (nodes n)) → ((n : List ℕ) → level n ≡ capped (level_by (earlier r before) n)) → ((n : List ℕ) → nodes n ≡ option_map capped (nodes_by (earlier r before) n)) → told ≡ is_bad_by r known level nodes d → told ≡ breaks_function_rules r before x
  bad_here before x d known level nodes told is first named levels sizes h =
      h ∙ bad_is before d known level nodes named levels sizes ∙ sym (or_false (is_bad_definition r (earlier r before) d))
      ∙ ap (λ t. ((true && not true) || t) || list_any (is_bad_definition r (earlier r before)) (d ∷ [])) (sym (no_logical x.shape d (sym is)))
      ∙ ap₂ (λ o b. ((is_some o && not b) || sets_no_array r x.shape) || list_any (is_bad_definition r (earlier r before)) (if b then option_list o else [])) is (sym first)

  pub late_here : (before : List ItemTree) (x : ItemTree) (d : Definition) → Some d ≡ defined_by r.names.arrays x.shape → is_before_executables r before ≡ false → true ≡ breaks_function_rules r before x
  late_here before x d is later =
      ap₂ (λ (o : Option Definition) b. ((is_some o && not b) || sets_no_array r x.shape) || list_any (is_bad_definition r (earlier r before)) (if b then option_list o else [])) is (sym later)

  pub none_here : (before : List ItemTree) (x : ItemTree) (told : Bool) → None ≡ defined_by r.names.arrays x.shape → told ≡ sets_no_array r x.shape → told ≡ breaks_function_rules r before x
  none_here before x told is h =
      h ∙ by_test (is_before_executables r before)
      ∙ ap (λ (o : Option Definition). ((is_some o && not (is_before_executables r before)) || sets_no_array r x.shape) || list_any (is_bad_definition r (earlier r before)) (if is_before_executables r before then option_list o else [])) is
    where
      by_test : (b : Bool) → sets_no_array r x.shape ≡ (((false && not b) || sets_no_array r x.shape) || list_any (is_bad_definition r (earlier r before)) (if b then [] else []))
      by_test true = sym (or_false (sets_no_array r x.shape))
      by_test false = sym (or_false (sets_no_array r x.shape))

-- ---- what is kept

pub kept_named : {S : Type 0} (m : IndexMap (Vec ℕ) Measure S) (n : List ℕ) → is_kept m n ≡ is_some (nodes_at m n)
kept_named m n = by_option (kept_at m n)
  where
    by_option : (o : Option Measure) → is_some o ≡ is_some (option_map (λ (x : Measure). x.nodes) o)
    by_option None = refl
    by_option (Some x) = refl

pub no_level : {S : Type 0} (m : IndexMap (Vec ℕ) Measure S) → m.entries ≡ [] → (n : List ℕ) → level_at m n ≡ 0
no_level m empty n = simp empty

pub no_nodes : {S : Type 0} (m : IndexMap (Vec ℕ) Measure S) → m.entries ≡ [] → (n : List ℕ) → nodes_at m n ≡ None
no_nodes m empty n = simp empty
