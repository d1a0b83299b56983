-- DATA statements break their rule exactly where the sets aren't filled.
use Rattle.std.proofs.Common.{◌≡◌, Bool, true, false, ◌&&◌, ◌||◌, List, [], ◌∷◌, ◌++◌, append_assoc, true≢false, map, Option, Some, None, refl, sym, ap, ap₂, subst, ◌∙◌}
use Rattle.std.specs.Prelude.{◌==◌, if◌then◌else◌, is_none, is_some, unwrap_or}
use Rattle.std.specs.List.{list_any}
use Rattle.std.specs.Cmp.Lexicographic.{pointwise}
use Rattle.std.specs.Ordering.{int_eq}
use Rattle.std.specs.Str.{bytes_eq}
use Rattle.std.proofs.lemmas.Bool.Decides.{Decides-eqb, Decides-int_eq}
use Rattle.std.proofs.lemmas.List.{append-nil}
use Rattle.std.proofs.lemmas.List.Folds.{list_any-append}
use Rattle.std.proofs.lemmas.Slice.Eq.{bytes_eq-Decides, slice_eq-Decides}
use Rattle.meaning.specs.declared.ending.Value.{Value}
use Rattle.meaning.specs.Arrays.{AreOneToOne, place}
use Rattle.meaning.specs.Syntax.{DataSetTree, ItemTree}
use Rattle.meaning.specs.Typing.{Names}
use Rattle.meaning.specs.Uses.{Symbols}
use Rattle.meaning.specs.Values.{Known, dimensions_in}
use Rattle.meaning.specs.NumberRules.{known_behind_all}
use Rattle.meaning.specs.Initial.{Start, all_lists, and_also, given_twice, has_bad_data, same_target, set_starts, sets_at, starts_at, starts_from, starts_or_none}
use Rattle.meaning.proofs.Elements.{one_to_one}
use Rattle.data_rules.specs.DataFurther.{gave_twice}
use Rattle.data_rules.specs.DataSets.{Agrees, HasPlace, IsFilledBy, fill_sets, given_behind, given_by, nothing, place_at, place_of}
use Rattle.data_rules.specs.declared.filling.Way.TheVariants as ways
use Rattle.data_rules.specs.DataStages.{Found, Stage, with_found}
use Rattle.data_rules.proofs.DataPairing.{Each, IfEach, accept, each_append, sets_filled, sets_placed, stage, stage_in}
use Rattle.rule_passes.proofs.Membership.{or_false, or_swap}

and_parts : (a b : Bool) → (a && b) ≡ true → (a ≡ true) × (b ≡ true)
and_parts true true h = (refl, refl)
and_parts true false h = absurd cc
and_parts false b h = absurd cc

both_true : (a b : Bool) → a ≡ true → b ≡ true → (a && b) ≡ true
both_true true true h k = refl
both_true true false h k = absurd cc
both_true false b h k = absurd cc

same_test : (a b : Bool) → (a ≡ true → b ≡ true) → (b ≡ true → a ≡ true) → a ≡ b
same_test true b f g = sym (f refl)
same_test false true f g = g refl
same_test false false f g = refl

is_given : (b : Bool) (v : Value) (o : Option Value) → is_some (if b then Some v else o) ≡ (b || is_some o)
is_given true v o = refl
is_given false v o = refl

module _ (ns : Names) where
  -- a place of a name is that of one target
  pub same_place : (s t : Start) → HasPlace ns s.target → HasPlace ns t.target → (bytes_eq t.target.name s.target.name && (place_of ns s == place_of ns t)) ≡ same_target s.target t.target
  same_place s t at_s at_t =
      same_test (bytes_eq t.target.name s.target.name && (place_of ns s == place_of ns t)) (same_target s.target t.target) forth back
    where
      known : (u : Start) → HasPlace ns u.target → place_at ns u.target ≡ Some (place_of ns u)
      known u at = at.1 ∙ ap Some (sym (ap (λ o. unwrap_or o 0) at.1))

      forth : (bytes_eq t.target.name s.target.name && (place_of ns s == place_of ns t)) ≡ true → same_target s.target t.target ≡ true
      forth h =
          let both = and_parts (bytes_eq t.target.name s.target.name) (place_of ns s == place_of ns t) h in
          let names : s.target.name ≡ t.target.name = sym ((bytes_eq-Decides t.target.name s.target.name).0 both.0) in
          let places = (Decides-eqb (place_of ns s) (place_of ns t)).0 both.1 in
          let law : AreOneToOne (dimensions_in (ns.arrays s.target.name)) = one_to_one (dimensions_in (ns.arrays s.target.name)) in
          let subscripts = law.own s.target.subscripts t.target.subscripts (place_of ns s) (known s at_s) (ap (λ n. place (dimensions_in (ns.arrays n)) t.target.subscripts) names ∙ known t at_t ∙ ap Some (sym places)) in
          both_true (bytes_eq s.target.name t.target.name) (pointwise int_eq s.target.subscripts t.target.subscripts) ((bytes_eq-Decides s.target.name t.target.name).1 names) ((slice_eq-Decides {E = int_eq} Decides-int_eq s.target.subscripts t.target.subscripts (pointwise int_eq s.target.subscripts t.target.subscripts) refl).1 subscripts)

      back : same_target s.target t.target ≡ true → (bytes_eq t.target.name s.target.name && (place_of ns s == place_of ns t)) ≡ true
      back h =
          let both = and_parts (bytes_eq s.target.name t.target.name) (pointwise int_eq s.target.subscripts t.target.subscripts) h in
          let names = (bytes_eq-Decides s.target.name t.target.name).0 both.0 in
          let subscripts = (slice_eq-Decides {E = int_eq} Decides-int_eq s.target.subscripts t.target.subscripts (pointwise int_eq s.target.subscripts t.target.subscripts) refl).0 both.1 in
          both_true (bytes_eq t.target.name s.target.name) (place_of ns s == place_of ns t) ((bytes_eq-Decides t.target.name s.target.name).1 (sym names)) ((Decides-eqb (place_of ns s) (place_of ns t)).1 (ap₂ (λ n ss. unwrap_or (place (dimensions_in (ns.arrays n)) ss) 0) names subscripts))

  abbrev found_more : Found → Start → Found
  found_more g s = with_found s.target.name (place_of ns s) s.value g

  one_more : (g : Found) (s t : Start) → is_some (found_more g s t.target.name (place_of ns t)) ≡ ((bytes_eq t.target.name s.target.name && (place_of ns s == place_of ns t)) || is_some (g t.target.name (place_of ns t)))
  one_more g s t =
      is_given (bytes_eq t.target.name s.target.name && (place_of ns s == place_of ns t)) s.value (g t.target.name (place_of ns t))

  agrees_first : (g : Found) (earlier : List Start) (s : Start) → Agrees ns g earlier → HasPlace ns s.target → Agrees ns (found_more g s) (s ∷ earlier)
  agrees_first g earlier s h at = λ t there. one_more g s t ∙ ap₂ ◌||◌ (same_place s t at there) (h t there)

  agrees_last : (g : Found) (earlier : List Start) (s : Start) → Agrees ns g earlier → HasPlace ns s.target → Agrees ns (found_more g s) (earlier ++ s ∷ [])
  agrees_last g earlier s h at = λ t there.
      let test : Start → Bool = λ e. same_target e.target t.target in
      one_more g s t
      ∙ ap₂ ◌||◌ (same_place s t at there ∙ sym (or_false (same_target s.target t.target))) (h t there)
      ∙ or_swap (same_target s.target t.target || false) (list_any test earlier)
      ∙ sym (list_any-append test earlier (s ∷ []))

  pub agrees_behind : (ss earlier : List Start) (g : Found) → Agrees ns g earlier → Each (λ s. HasPlace ns s.target) ss → Agrees ns (given_behind ns ss g) (earlier ++ ss)
  agrees_behind [] earlier g h placed = subst (Agrees ns g) (sym (append-nil earlier)) h
  agrees_behind (s ∷ ss) earlier g h placed =
      subst (Agrees ns (given_behind ns ss (found_more g s))) (append_assoc earlier (s ∷ []) ss)
      (agrees_behind ss (earlier ++ s ∷ []) (found_more g s) (agrees_last g earlier s h placed.0) placed.1)

  given_append : (ss ts : List Start) (g : Found) → given_behind ns (ss ++ ts) g ≡ given_behind ns ts (given_behind ns ss g)
  given_append [] ts g = refl
  given_append (s ∷ ss) ts g = given_append ss ts (found_more g s)

  abbrev pub stage_behind : List Start → Found → Stage
  stage_behind ss g = stage (given_behind ns ss g) []

  accepted : (ss earlier : List Start) (g : Found) → Agrees ns g earlier → Each (λ s. HasPlace ns s.target) ss → accept ns ss ways.Once g ≡ (if given_twice earlier ss then None else Some (stage_behind ss g))
  accepted [] earlier g h placed = refl
  accepted (s ∷ ss) earlier g h placed =
      let rest = accepted ss (s ∷ earlier) (found_more g s) (agrees_first g earlier s h placed.0) placed.1 in
      ap (λ b. if b then None else accept ns ss ways.Once (found_more g s)) (h s placed.0)
      ∙ ap (λ o. if list_any (λ e. same_target e.target s.target) earlier then None else o) rest
      ∙ by_test (list_any (λ e. same_target e.target s.target) earlier) (given_twice (s ∷ earlier) ss) (Some (stage_behind ss (found_more g s)))
    where
      by_test : (a b : Bool) (o : Option Stage) → (if a then None else (if b then None else o)) ≡ (if a || b then None else o)
      by_test true b o = refl
      by_test false b o = refl

  -- where nothing is kept
  accepted_dry : (ss : List Start) (g : Found) → accept ns ss ways.Dry g ≡ Some (stage_in ways.Dry g [])
  accepted_dry [] g = refl
  accepted_dry (s ∷ ss) g = accepted_dry ss g

  -- where places may be given values again
  accepted_again : (ss earlier : List Start) (twice : Bool) (g : Found) → Agrees ns g earlier → Each (λ s. HasPlace ns s.target) ss → accept ns ss (ways.Again twice) g ≡ Some (stage_in (ways.Again (twice || given_twice earlier ss)) (given_behind ns ss g) [])
  accepted_again [] earlier twice g h placed =
      ap (λ b. Some (stage_in (ways.Again b) g [])) (sym (or_false twice))
  accepted_again (s ∷ ss) earlier twice g h placed =
      let here = list_any (λ e. same_target e.target s.target) earlier in
      ap (λ b. accept ns ss (ways.Again (twice || b)) (found_more g s)) (h s placed.0)
      ∙ accepted_again ss (s ∷ earlier) (twice || here) (found_more g s) (agrees_first g earlier s h placed.0) placed.1
      ∙ ap (λ b. Some (stage_in (ways.Again b) (given_behind ns ss (found_more g s)) [])) (both twice here (given_twice (s ∷ earlier) ss))
    where
      both : (a b c : Bool) → ((a || b) || c) ≡ (a || (b || c))
      both true b c = refl
      both false b c = refl

again_some : (ns : Names) (ss : List Start) (twice : Bool) (g : Found) → is_some (accept ns ss (ways.Again twice) g) ≡ true
again_some ns [] twice g = refl
again_some ns (s ∷ ss) twice g = again_some ns ss (twice || is_some (g s.target.name (place_of ns s))) (found_more ns g s)

same_stage : (s t : Stage) → Some s ≡ Some t → s ≡ t
same_stage s t is = cc

-- ---- statements

module _ (r : Symbols) where
  pub starts_none : (before : List ItemTree) → starts_from r before [] ≡ []
  unfolding starts_from
  starts_none before = refl

  starts_append : (before xs : List ItemTree) (x : ItemTree) → starts_from r before (xs ++ x ∷ []) ≡ starts_from r before xs ++ starts_or_none (starts_at r (before ++ xs) x)
  unfolding starts_from
  starts_append before [] x =
      append-nil (starts_or_none (starts_at r before x)) ∙ ap (λ b. starts_or_none (starts_at r b x)) (sym (append-nil before))
  starts_append before (y ∷ ys) x =
      ap (λ ss. starts_or_none (starts_at r before y) ++ ss) (starts_append (before ++ y ∷ []) ys x)
      ∙ sym (append_assoc (starts_or_none (starts_at r before y)) (starts_from r (before ++ y ∷ []) ys) (starts_or_none (starts_at r ((before ++ y ∷ []) ++ ys) x)))
      ∙ ap (λ b. (starts_or_none (starts_at r before y) ++ starts_from r (before ++ y ∷ []) ys) ++ starts_or_none (starts_at r b x)) (append_assoc before (y ∷ []) ys)

  starts_push : (before : List ItemTree) (x : ItemTree) → starts_from r [] (before ++ x ∷ []) ≡ starts_from r [] before ++ starts_or_none (starts_at r before x)
  starts_push before x = starts_append [] before x

  pub filled_none : IsFilledBy r [] (stage nothing [])
  filled_none = record {
    marked = λ t at. sym (ap (list_any (λ e. same_target e.target t.target)) (starts_none []));
    given = sym (ap (given_by r.names) (starts_none []));
    values = refl;
    way = refl;
  }

  starts_placed : (o : Option (List Start)) → IfEach (λ u. HasPlace r.names u.target) o → Each (λ u. HasPlace r.names u.target) (starts_or_none o)
  starts_placed None placed = tt
  starts_placed (Some ss) placed = placed

  module _ (before : List ItemTree) (x : ItemTree) (s : Stage) where
    abbrev here : List Start
    here = starts_or_none (starts_at r before x)

    abbrev behind : Stage
    behind = stage_behind r.names here s.given

    statement_filled : IsFilledBy r before s → fill_sets r (known_behind_all r before) (sets_at r before x) s ≡ (if has_bad_data r before x then None else Some behind)
    statement_filled h =
        ap₂ (λ w os. fill_sets r (known_behind_all r before) (sets_at r before x) (stage_in w s.given os)) h.way h.values
        ∙ sets_filled r (known_behind_all r before) (sets_at r before x) ways.Once s.given
        ∙ by_starts (starts_at r before x) (sets_placed r (known_behind_all r before) (sets_at r before x))
      where
        by_starts : (o : Option (List Start)) → IfEach (λ u. HasPlace r.names u.target) o → and_also o (λ ss. accept r.names ss ways.Once s.given) ≡ (if is_none o || given_twice (starts_from r [] before) (starts_or_none o) then None else Some (stage_behind r.names (starts_or_none o) s.given))
        by_starts None placed = refl
        by_starts (Some ss) placed = accepted r.names ss (starts_from r [] before) s.given h.marked placed

    behind_filled : IsFilledBy r before s → IsFilledBy r (before ++ x ∷ []) behind
    behind_filled h = record {
      marked =
          subst (Agrees r.names behind.given) (sym (starts_push before x))
          (agrees_behind r.names here (starts_from r [] before) s.given h.marked
          (starts_placed (starts_at r before x) (sets_placed r (known_behind_all r before) (sets_at r before x))));
      given =
          ap (given_behind r.names here) h.given ∙ sym (given_append r.names (starts_from r [] before) here nothing)
          ∙ ap (given_by r.names) (sym (starts_push before x));
      values = refl;
      way = refl;
    }

    -- what the sets of a statement come to
    pub bad_data : IsFilledBy r before s → None ≡ fill_sets r (known_behind_all r before) (sets_at r before x) s → has_bad_data r before x ≡ true
    bad_data h none = by_test (has_bad_data r before x) (none ∙ statement_filled h)
      where
        by_test : (b : Bool) → None ≡ (if b then None else Some behind) → b ≡ true
        by_test true e = refl
        by_test false e = absurd cc

    pub good_data : IsFilledBy r before s → (next : Stage) → Some next ≡ fill_sets r (known_behind_all r before) (sets_at r before x) s → (has_bad_data r before x ≡ false) × IsFilledBy r (before ++ x ∷ []) next
    good_data h next some = by_test (has_bad_data r before x) (some ∙ statement_filled h)
      where
        by_test : (b : Bool) → Some next ≡ (if b then None else Some behind) → (b ≡ false) × IsFilledBy r (before ++ x ∷ []) next
        by_test true e = absurd cc
        by_test false e = let same : next ≡ behind = cc in (refl, subst (IsFilledBy r (before ++ x ∷ [])) (sym same) (behind_filled h))

    -- ---- whether or not they break their rule

    -- the sets fit where nothing is kept
    pub fits_dry : (g : Found) → is_some (fill_sets r (known_behind_all r before) (sets_at r before x) (stage_in ways.Dry g [])) ≡ is_some (starts_at r before x)
    fits_dry g =
        ap is_some (sets_filled r (known_behind_all r before) (sets_at r before x) ways.Dry g)
        ∙ by_starts (starts_at r before x)
      where
        by_starts : (o : Option (List Start)) → is_some (and_also o (λ ss. accept r.names ss ways.Dry g)) ≡ is_some o
        by_starts None = refl
        by_starts (Some ss) = ap is_some (accepted_dry r.names ss g)

    -- a statement that doesn't fit gives nothing
    pub misfit : IsFilledBy r before s → is_some (starts_at r before x) ≡ false → (has_bad_data r before x ≡ true) × IsFilledBy r (before ++ x ∷ []) s
    misfit h is = by_starts (starts_at r before x) refl is
      where
        by_starts : (o : Option (List Start)) → starts_at r before x ≡ o → is_some o ≡ false → (has_bad_data r before x ≡ true) × IsFilledBy r (before ++ x ∷ []) s
        by_starts None at is =
            let bad = ap (λ p. is_none p || given_twice (starts_from r [] before) (starts_or_none p)) at in
            let nothing_more = ap (λ p. stage_behind r.names (starts_or_none p) s.given) at in
            let same : stage s.given [] ≡ s = ap₂ (λ w os. stage_in w s.given os) (sym h.way) (sym h.values) in
            (bad, subst (IsFilledBy r (before ++ x ∷ [])) (nothing_more ∙ same) (behind_filled h))
        by_starts (Some ss) at is = absurd cc

    -- one that fits gives all that it gives, and is bad where it gives something twice
    pub fit_again : IsFilledBy r before s → is_some (starts_at r before x) ≡ true → fill_sets r (known_behind_all r before) (sets_at r before x) (stage_in (ways.Again false) s.given []) ≡ Some (stage_in (ways.Again (has_bad_data r before x)) behind.given [])
    fit_again h is =
        sets_filled r (known_behind_all r before) (sets_at r before x) (ways.Again false) s.given
        ∙ by_starts (starts_at r before x) (sets_placed r (known_behind_all r before) (sets_at r before x)) is
      where
        by_starts : (o : Option (List Start)) → IfEach (λ u. HasPlace r.names u.target) o → is_some o ≡ true → and_also o (λ ss. accept r.names ss (ways.Again false) s.given) ≡ Some (stage_in (ways.Again (is_none o || given_twice (starts_from r [] before) (starts_or_none o))) (given_behind r.names (starts_or_none o) s.given) [])
        by_starts None placed is = absurd cc
        by_starts (Some ss) placed is = accepted_again r.names ss (starts_from r [] before) false s.given h.marked placed

    pub given_again : IsFilledBy r before s → is_some (starts_at r before x) ≡ true → (t : Stage) → Some t ≡ fill_sets r (known_behind_all r before) (sets_at r before x) (stage_in (ways.Again false) s.given []) → (gave_twice t.way ≡ has_bad_data r before x) × IsFilledBy r (before ++ x ∷ []) (stage t.given [])
    given_again h is t some =
        let same = same_stage t (stage_in (ways.Again (has_bad_data r before x)) behind.given []) (some ∙ fit_again h is) in
        (ap (λ u. gave_twice u.way) same, subst (λ u. IsFilledBy r (before ++ x ∷ []) (stage u.given [])) (sym same) (behind_filled h))

  -- sets that fit where nothing is kept fit where places may be given values again
  pub never_misfit : (known : Known) (xs : List DataSetTree) (g : Found) → is_some (fill_sets r known xs (stage_in ways.Dry nothing [])) ≡ true → None ≡ fill_sets r known xs (stage_in (ways.Again false) g []) → ⊥
  never_misfit known xs g fits none =
      by_starts (all_lists (map (set_starts r known) xs)) (sym (ap is_some (sets_filled r known xs ways.Dry nothing)) ∙ fits) (none ∙ sets_filled r known xs (ways.Again false) g)
    where
      by_starts : (o : Option (List Start)) → is_some (and_also o (λ ss. accept r.names ss ways.Dry nothing)) ≡ true → None ≡ and_also o (λ ss. accept r.names ss (ways.Again false) g) → ⊥
      by_starts None fits none = absurd cc
      by_starts (Some ss) fits none = true≢false (sym (ap is_some none ∙ again_some r.names ss false g))

  -- what statements gave is there

  starts_each : (before xs : List ItemTree) → Each (λ u. HasPlace r.names u.target) (starts_from r before xs)
  unfolding starts_from
  starts_each before [] = tt
  starts_each before (x ∷ xs) =
      each_append (λ u. HasPlace r.names u.target) (starts_or_none (starts_at r before x)) (starts_from r (before ++ x ∷ []) xs)
      (starts_placed (starts_at r before x) (sets_placed r (known_behind_all r before) (sets_at r before x)))
      (starts_each (before ++ x ∷ []) xs)

  pub filled_behind : (before : List ItemTree) → IsFilledBy r before (stage (given_by r.names (starts_from r [] before)) [])
  filled_behind before = record {
    marked = agrees_behind r.names (starts_from r [] before) [] nothing (λ t at. refl) (starts_each [] before);
    given = refl;
    values = refl;
    way = refl;
  }
