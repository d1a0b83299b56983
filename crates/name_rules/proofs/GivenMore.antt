-- What statements give names.
use Rattle.std.proofs.Common.{◌≡◌, ℕ, Bool, true, false, ◌||◌, List, [], ◌∷◌, ◌++◌, map, filter, append_assoc, refl, sym, ap, ap₂, subst, ◌∙◌}
use Rattle.std.specs.Prelude.{flat_map}
use Rattle.std.specs.Global.{Vec}
use Rattle.std.specs.Str.{bytes_eq}
use Rattle.std.proofs.lemmas.List.{append-nil}
use Rattle.std.proofs.lemmas.List.Folds.{list_any-append}
use Rattle.meaning.specs.declared.syntax.DataType.{DataType}
use Rattle.meaning.specs.declared.syntax.DataType.TheVariants as types
use Rattle.meaning.specs.Syntax.{DeclaratorTree, ItemTree}
use Rattle.meaning.specs.Types.{typed_as}
use Rattle.meaning.specs.NameRules.{Given, given_by, given_from, given_twice, has_two_roles, is_logical_type}
use Rattle.meaning.specs.Uses.{Symbols, is_defining, is_one_of}
use Rattle.name_maps.specs.NameSets.{texts, with_names}
use Rattle.symbols.proofs.Passes.{flat_map_last}
use Rattle.name_uses.specs.Held.{Holds}
use Rattle.name_rules.specs.HeldNames.{HoldsGiven, is_given_twice, is_two_things}
use Rattle.name_uses.proofs.Seeing.{holds_more, holds_none, repeats_same, sought_both, sought_same}

pub typed_names : (k : DataType) (ds : List DeclaratorTree) → map (λ t. t.name) (typed_as k ds) ≡ map (λ d. d.name) ds
typed_names k [] = refl
typed_names k (d ∷ ds) = ap (λ ns. d.name ∷ ns) (typed_names k ds)

pub logical_names : (ds : List DeclaratorTree) → map (λ t. t.name) (filter (λ t. is_logical_type t.data_type) (typed_as types.Logical ds)) ≡ map (λ d. d.name) ds
logical_names [] = refl
logical_names (d ∷ ds) = ap (λ ns. d.name ∷ ns) (logical_names ds)

pub integer_names : (ds : List DeclaratorTree) → filter (λ t. is_logical_type t.data_type) (typed_as types.Integer ds) ≡ []
integer_names [] = refl
integer_names (d ∷ ds) = integer_names ds

-- ---- what statements give, one statement more

pub given_none : (r : Symbols) → given_from r [] [] ≡ []
unfolding given_from
given_none r = refl

given_last : (r : Symbols) (before xs : List ItemTree) (x : ItemTree) → given_from r before (xs ++ x ∷ []) ≡ given_from r before xs ++ given_by r (is_defining r (before ++ xs) x) x.shape ∷ []
unfolding given_from
given_last r before [] x = ap (λ b. given_by r (is_defining r b x) x.shape ∷ []) (sym (append-nil before))
given_last r before (y ∷ ys) x =
    ap (λ gs. given_by r (is_defining r before y) y.shape ∷ gs) (given_last r (before ++ y ∷ []) ys x)
    ∙ ap (λ b. given_by r (is_defining r before y) y.shape ∷ (given_from r (before ++ y ∷ []) ys ++ given_by r (is_defining r b x) x.shape ∷ [])) (append_assoc before (y ∷ []) ys)

-- ---- the rule by sets

module _ (typed bounded valued defined : List (Vec ℕ)) (gs : List Given) (g : Given)
    (typed_held : Holds typed (flat_map (λ h. h.typed) gs)) (bounded_held : Holds bounded (flat_map (λ h. h.bounded) gs))
    (valued_held : Holds valued (flat_map (λ h. h.valued) gs)) (defined_held : Holds defined (flat_map (λ h. h.defined) gs)) where
  twice_is : is_given_twice (texts typed) (texts bounded) (texts valued) (texts defined) g ≡ given_twice gs g
  twice_is =
      ap₂ ◌||◌ (repeats_same (texts typed) (flat_map (λ h. h.typed) gs) typed_held g.typed)
      (ap₂ ◌||◌ (repeats_same (texts bounded) (flat_map (λ h. h.bounded) gs) bounded_held g.bounded)
      (ap₂ ◌||◌ (repeats_same (texts valued) (flat_map (λ h. h.valued) gs) valued_held g.valued)
      (repeats_same (texts defined) (flat_map (λ h. h.defined) gs) defined_held g.defined)))

  -- the arrays and statement functions together
  either_given : (hs : List Given) (n : List ℕ) → is_one_of (flat_map (λ h. h.bounded ++ h.defined) hs) n ≡ (is_one_of (flat_map (λ h. h.bounded) hs) n || is_one_of (flat_map (λ h. h.defined) hs) n)
  either_given [] n = refl
  either_given (h ∷ hs) n =
      list_any-append (bytes_eq n) (h.bounded ++ h.defined) (flat_map (λ k. k.bounded ++ k.defined) hs)
      ∙ ap₂ ◌||◌ (list_any-append (bytes_eq n) h.bounded h.defined) (either_given hs n)
      ∙ regroup (is_one_of h.bounded n) (is_one_of h.defined n) (is_one_of (flat_map (λ k. k.bounded) hs) n) (is_one_of (flat_map (λ k. k.defined) hs) n)
      ∙ sym (ap₂ ◌||◌ (list_any-append (bytes_eq n) h.bounded (flat_map (λ k. k.bounded) hs)) (list_any-append (bytes_eq n) h.defined (flat_map (λ k. k.defined) hs)))
    where
      regroup : (p q s t : Bool) → ((p || q) || (s || t)) ≡ ((p || s) || (q || t))
      regroup true q s t = refl
      regroup false true true t = refl
      regroup false true false t = refl
      regroup false false s t = refl

  two_is : is_two_things (texts bounded) (texts valued) (texts defined) g ≡ has_two_roles gs g
  two_is =
      ap₂ ◌||◌
      (sym (sought_both (texts bounded) (texts defined) g.valued)
      ∙ sought_same (texts bounded ++ texts defined) (flat_map (λ h. h.bounded ++ h.defined) gs) (λ n. list_any-append (bytes_eq n) (texts bounded) (texts defined) ∙ ap₂ ◌||◌ (bounded_held n) (defined_held n) ∙ sym (either_given gs n)) g.valued)
      (ap₂ ◌||◌ (sought_same (texts valued) (flat_map (λ h. h.valued) gs) valued_held g.bounded) (sought_same (texts valued) (flat_map (λ h. h.valued) gs) valued_held g.defined)
      ∙ sym (list_any-append (is_one_of (flat_map (λ h. h.valued) gs)) g.bounded g.defined))

  pub too_much : (is_given_twice (texts typed) (texts bounded) (texts valued) (texts defined) g || is_two_things (texts bounded) (texts valued) (texts defined) g) ≡ (given_twice gs g || has_two_roles gs g)
  too_much = ap₂ ◌||◌ twice_is two_is

-- one statement more
pub gives_more : (Before Behind : Type 0) (r : Symbols) (before : List ItemTree) (x : ItemTree) (g : Given) (t b v d nt nb nv nd : List (Vec ℕ)) → HoldsGiven Before t b v d (given_from r [] before) → Behind → g ≡ given_by r (is_defining r before x) x.shape → texts nt ≡ with_names (texts t) g.typed → texts nb ≡ with_names (texts b) g.bounded → texts nv ≡ with_names (texts v) g.valued → texts nd ≡ with_names (texts d) g.defined → HoldsGiven Behind nt nb nv nd (given_from r [] (before ++ x ∷ []))
gives_more Before Behind r before x g t b v d nt nb nv nd held stage is et eb ev ed =
    let gs = given_from r [] before in
    let whole : gs ++ g ∷ [] ≡ given_from r [] (before ++ x ∷ []) = ap (λ h. gs ++ h ∷ []) is ∙ sym (given_last r [] before x) in
    subst (HoldsGiven Behind nt nb nv nd) whole (record {
      stage = stage;
      typed_held = held_more (λ h. h.typed) gs g t nt held.typed_held et;
      bounded_held = held_more (λ h. h.bounded) gs g b nb held.bounded_held eb;
      valued_held = held_more (λ h. h.valued) gs g v nv held.valued_held ev;
      defined_held = held_more (λ h. h.defined) gs g d nd held.defined_held ed;
    })
  where
    held_more : (f : Given → List (List ℕ)) (gs : List Given) (h : Given) (old new : List (Vec ℕ)) → Holds old (flat_map f gs) → texts new ≡ with_names (texts old) (f h) → Holds new (flat_map f (gs ++ h ∷ []))
    held_more f gs h old new has added n =
        holds_more old new (flat_map f gs) (f h) has added n ∙ ap (λ ns. is_one_of ns n) (sym (flat_map_last f gs h))

pub gives_none : (Stage : Type 0) (r : Symbols) (t b v d : List (Vec ℕ)) → Stage → t ≡ [] → b ≡ [] → v ≡ [] → d ≡ [] → HoldsGiven Stage t b v d (given_from r [] [])
gives_none Stage r t b v d stage et eb ev ed =
    subst (HoldsGiven Stage t b v d) (sym (given_none r)) (record {
      stage = stage;
      typed_held = holds_none t et;
      bounded_held = holds_none b eb;
      valued_held = holds_none v ev;
      defined_held = holds_none d ed;
    })
