-- The uses in statements, one statement more, and the names that are used in two ways.
use Rattle.std.proofs.Common.{◌≡◌, ℕ, Bool, true, false, ◌||◌, List, [], ◌∷◌, ◌++◌, map, filter, append_assoc, refl, sym, ap, ap₂, ◌∙◌}
use Rattle.std.specs.Prelude.{flat_map}
use Rattle.std.specs.Global.{Vec}
use Rattle.std.specs.Str.{bytes_eq}
use Rattle.std.specs.List.{list_any}
use Rattle.std.proofs.lemmas.List.{append-nil, map-append}
use Rattle.std.proofs.lemmas.List.Elements.{filter-append}
use Rattle.std.proofs.lemmas.List.Folds.{list_any-append}
use Rattle.meaning.specs.Syntax.{ItemTree}
use Rattle.meaning.specs.NameRules.{is_both, is_function_use, is_intrinsic_use, is_logical_function, is_variable_use, logical_names, names_used}
use Rattle.meaning.specs.Uses.{Parts, Symbols, Use, is_one_of, joined, parts_at, parts_from}
use Rattle.name_maps.specs.NameSets.{texts, with_names}
use Rattle.name_maps.proofs.NameSets.{any_with_names}
use Rattle.symbols.proofs.Passes.{flat_map_last}
use Rattle.name_uses.specs.Held.{Holds}
use Rattle.name_rules.specs.HeldNames.{HoldsLogical, HoldsUsed}
use Rattle.name_uses.proofs.Seeing.{holds_more, holds_none, sought_both, sought_same}

pub parts_none : (r : Symbols) → parts_from r [] [] ≡ record { sets = []; reads = [] }
unfolding parts_from
parts_none r = refl

parts_last : (r : Symbols) (before xs : List ItemTree) (x : ItemTree) → parts_from r before (xs ++ x ∷ []) ≡ joined (parts_from r before xs) (parts_at r (before ++ xs) x)
unfolding parts_from
parts_last r before [] x =
    let here = parts_at r before x in
    ap₂ (λ a b. record { sets = a; reads = b }) (append-nil here.sets) (append-nil here.reads)
    ∙ ap (λ b. parts_at r b x) (sym (append-nil before))
parts_last r before (y ∷ ys) x =
    let here = parts_at r before y in
    let rest = parts_from r (before ++ y ∷ []) ys in
    let last = parts_at r ((before ++ y ∷ []) ++ ys) x in
    ap (joined here) (parts_last r (before ++ y ∷ []) ys x)
    ∙ ap₂ (λ a b. record { sets = a; reads = b }) (sym (append_assoc here.sets rest.sets last.sets)) (sym (append_assoc here.reads rest.reads last.reads))
    ∙ ap (λ b. joined (joined here rest) (parts_at r b x)) (append_assoc before (y ∷ []) ys)

-- ---- names of uses

used_append : (test : Use → Bool) (us vs : List Use) → names_used test (us ++ vs) ≡ names_used test us ++ names_used test vs
used_append test us vs =
    ap (map (λ u. u.name)) (filter-append test us vs) ∙ map-append (λ u. u.name) (filter test us) (filter test vs)

-- names of uses among those of others in two parts
sought_used : (test : Use → Bool) (us vs : List Use) (a b : List (List ℕ)) (ns : List (List ℕ)) → ((n : List ℕ) → is_one_of a n ≡ is_one_of (names_used test us) n) → ((n : List ℕ) → is_one_of b n ≡ is_one_of (names_used test vs) n) → (list_any (is_one_of a) ns || list_any (is_one_of b) ns) ≡ list_any (is_one_of (names_used test (us ++ vs))) ns
sought_used test us vs a b ns first second =
    ap₂ ◌||◌ (sought_same a (names_used test us) first ns) (sought_same b (names_used test vs) second ns)
    ∙ sym (sought_both (names_used test us) (names_used test vs) ns)
    ∙ ap (λ ms. list_any (is_one_of ms) ns) (sym (used_append test us vs))

-- ---- variables and functions

-- whether names are among those of a set, where these are named
pub held_same : (own : List (Vec ℕ)) (fs vs : List (List ℕ)) → Holds own fs → list_any (is_one_of (texts own)) vs ≡ list_any (is_one_of fs) vs
held_same own fs vs held = sought_same (texts own) fs held vs

pub both_is : (r : Symbols) (before here : Parts) (variables functions : List (Vec ℕ)) (vs fs : List (List ℕ)) → Holds variables (names_used (is_variable_use r) (before.sets ++ before.reads)) → Holds functions (names_used (is_function_use r) before.reads) → vs ≡ names_used (is_variable_use r) (here.sets ++ here.reads) → fs ≡ names_used (is_function_use r) here.reads → ((list_any (is_one_of (texts functions)) vs || list_any (is_one_of fs) vs) || list_any (is_one_of (texts variables)) fs) ≡ is_both r before here
both_is r before here variables functions vs fs held_v held_f ev ef =
    ap₂ ◌||◌
    (sought_used (is_function_use r) before.reads here.reads (texts functions) fs vs held_f (λ n. ap (λ ns. is_one_of ns n) ef)
    ∙ ap (list_any (is_one_of (names_used (is_function_use r) (before.reads ++ here.reads)))) ev)
    (sought_same (texts variables) (names_used (is_variable_use r) (before.sets ++ before.reads)) held_v fs
    ∙ ap (list_any (is_one_of (names_used (is_variable_use r) (before.sets ++ before.reads)))) ef)

-- the names of uses in two statements, those that are set and those that are read
used_joined : (test : Use → Bool) (p q : Parts) (n : List ℕ) → (is_one_of (names_used test (p.sets ++ p.reads)) n || is_one_of (names_used test (q.sets ++ q.reads)) n) ≡ is_one_of (names_used test ((joined p q).sets ++ (joined p q).reads)) n
used_joined test p q n =
    let has = λ (us : List Use). is_one_of (names_used test us) n in
    ap₂ ◌||◌ (parted p.sets p.reads) (parted q.sets q.reads)
    ∙ regroup (has p.sets) (has p.reads) (has q.sets) (has q.reads)
    ∙ sym (parted (p.sets ++ q.sets) (p.reads ++ q.reads) ∙ ap₂ ◌||◌ (parted p.sets q.sets) (parted p.reads q.reads))
  where
    parted : (us vs : List Use) → is_one_of (names_used test (us ++ vs)) n ≡ (is_one_of (names_used test us) n || is_one_of (names_used test vs) n)
    parted us vs =
        ap (λ ns. is_one_of ns n) (used_append test us vs) ∙ list_any-append (bytes_eq n) (names_used test us) (names_used test vs)

    regroup : (a b c d : Bool) → ((a || b) || (c || d)) ≡ ((a || c) || (b || d))
    regroup true b c d = refl
    regroup false true true d = refl
    regroup false true false d = refl
    regroup false false c d = refl

pub used_more : (Before Behind : Type 0) (r : Symbols) (before : List ItemTree) (x : ItemTree) (v f nv nf : List (Vec ℕ)) (vs fs : List (List ℕ)) → HoldsUsed Before r before v f → Behind → vs ≡ names_used (is_variable_use r) ((parts_at r before x).sets ++ (parts_at r before x).reads) → fs ≡ names_used (is_function_use r) (parts_at r before x).reads → texts nv ≡ with_names (texts v) vs → texts nf ≡ with_names (texts f) fs → HoldsUsed Behind r (before ++ x ∷ []) nv nf
used_more Before Behind r before x v f nv nf vs fs held stage ev ef av af =
    let here = parts_at r before x in
    let old = parts_from r [] before in
    let whole = sym (parts_last r [] before x) in
    record {
      stage = stage;
      variables_held = λ n.
          ap (λ ns. is_one_of ns n) (av ∙ ap (with_names (texts v)) ev) ∙ any_with_names (texts v) (names_used (is_variable_use r) (here.sets ++ here.reads)) n
          ∙ ap (λ b. b || is_one_of (names_used (is_variable_use r) (here.sets ++ here.reads)) n) (held.variables_held n)
          ∙ used_joined (is_variable_use r) old here n
          ∙ ap (λ p. is_one_of (names_used (is_variable_use r) (p.sets ++ p.reads)) n) whole;
      functions_held = λ n.
          holds_more f nf (names_used (is_function_use r) old.reads) (names_used (is_function_use r) here.reads) held.functions_held (af ∙ ap (with_names (texts f)) ef) n
          ∙ ap (λ ns. is_one_of ns n) (sym (used_append (is_function_use r) old.reads here.reads))
          ∙ ap (λ p. is_one_of (names_used (is_function_use r) p.reads) n) whole;
    }

pub used_none : (Stage : Type 0) (r : Symbols) (v f : List (Vec ℕ)) → Stage → v ≡ [] → f ≡ [] → HoldsUsed Stage r [] v f
unfolding parts_from
used_none Stage r v f stage ev ef = record { stage = stage; variables_held = holds_none v ev; functions_held = holds_none f ef }

-- ---- intrinsic functions and LOGICAL statements

pub logical_is : (r : Symbols) (before : List ItemTree) (x : ItemTree) (used here : List Use) (intrinsics logicals : List (Vec ℕ)) (ns fs : List (List ℕ)) → Holds intrinsics (names_used (is_intrinsic_use r) used) → Holds logicals (flat_map logical_names before) → ns ≡ logical_names x → fs ≡ names_used (is_intrinsic_use r) here → ((list_any (is_one_of (texts intrinsics)) ns || list_any (is_one_of fs) ns) || list_any (is_one_of (texts logicals)) fs) ≡ is_logical_function r before used x here
logical_is r before x used here intrinsics logicals ns fs held_i held_l en ef =
    ap₂ ◌||◌
    (sought_used (is_intrinsic_use r) used here (texts intrinsics) fs ns held_i (λ n. ap (λ ms. is_one_of ms n) ef)
    ∙ ap (list_any (is_one_of (names_used (is_intrinsic_use r) (used ++ here)))) en)
    (sought_same (texts logicals) (flat_map logical_names before) held_l fs
    ∙ ap (list_any (is_one_of (flat_map logical_names before))) ef)

pub logical_more : (Before Behind : Type 0) (r : Symbols) (before : List ItemTree) (x : ItemTree) (i l ni nl : List (Vec ℕ)) (ns fs : List (List ℕ)) → HoldsLogical Before r before i l → Behind → ns ≡ logical_names x → fs ≡ names_used (is_intrinsic_use r) (parts_at r before x).reads → texts nl ≡ with_names (texts l) ns → texts ni ≡ with_names (texts i) fs → HoldsLogical Behind r (before ++ x ∷ []) ni nl
logical_more Before Behind r before x i l ni nl ns fs held stage en ef al ai =
    let here = parts_at r before x in
    let old = parts_from r [] before in
    record {
      stage = stage;
      intrinsics_held = λ n.
          holds_more i ni (names_used (is_intrinsic_use r) old.reads) (names_used (is_intrinsic_use r) here.reads) held.intrinsics_held (ai ∙ ap (with_names (texts i)) ef) n
          ∙ ap (λ ms. is_one_of ms n) (sym (used_append (is_intrinsic_use r) old.reads here.reads))
          ∙ ap (λ p. is_one_of (names_used (is_intrinsic_use r) p.reads) n) (sym (parts_last r [] before x));
      logicals_held = λ n.
          holds_more l nl (flat_map logical_names before) (logical_names x) held.logicals_held (al ∙ ap (with_names (texts l)) en) n
          ∙ ap (λ ms. is_one_of ms n) (sym (flat_map_last logical_names before x));
    }

pub logical_none : (Stage : Type 0) (r : Symbols) (i l : List (Vec ℕ)) → Stage → i ≡ [] → l ≡ [] → HoldsLogical Stage r [] i l
unfolding parts_from
logical_none Stage r i l stage ei el = record { stage = stage; intrinsics_held = holds_none i ei; logicals_held = holds_none l el }
