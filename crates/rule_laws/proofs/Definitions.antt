-- The statement functions of a program unit that keeps the rules: where each stands, and that no other has its name.
use Rattle.std.proofs.Common.{◌≡◌, ℕ, zero, suc, Bool, true, false, ◌&&◌, ◌||◌, List, [], ◌∷◌, ◌++◌, append_assoc, append-nil, length, map, take, Option, Some, None, refl, sym, ap, ap₂, subst, ◌∙◌, arith}
use Rattle.std.specs.Prelude.{flat_map, if◌then◌else◌, is_some, slice_get}
use Rattle.std.specs.Str.{bytes_eq}
use Rattle.std.proofs.lemmas.Bool.{true≢false}
use Rattle.std.proofs.lemmas.Slice.Eq.{bytes_eq-Decides}
use Rattle.meaning.specs.NameRules.{given_by, given_from, given_twice, has_two_roles, repeats}
use Rattle.meaning.specs.Scopes.{Definition, defined_before, defined_by, definitions_of, is_specification}
use Rattle.meaning.specs.Syntax.{ItemTree}
use Rattle.meaning.specs.Typing.{option_list}
use Rattle.meaning.specs.Uses.{Symbols, dummies_named, is_before_executables, is_defining, is_one_of}
use Rattle.meaning.specs.Values.{Arrays}
use Rattle.expressions.specs.Calls.{AreOthers}
use Rattle.symbols.proofs.Staging.{behind_one, stands_before}
use Rattle.rule_laws.specs.Lawful.{EachBehind, IsLawful}
use Rattle.rule_laws.proofs.Tests.{and_true, or_parts, or_true}

-- ---- by their names

-- the first one with the name is the one with the name
pub one_named : (ds : List Definition) (at : ℕ) (d : Definition) → slice_get ds at ≡ Some d → is_one_of (map (λ e. e.name) (take at ds)) d.name ≡ false → dummies_named ds d.name ≡ Some d.dummies
one_named [] at d is own = absurd cc
one_named (e ∷ ds) zero d is own =
    let same : e ≡ d = cc in
    ap (λ b. if b then Some e.dummies else dummies_named ds d.name) ((bytes_eq-Decides d.name e.name).1 (sym (ap (λ (x : Definition). x.name) same)))
    ∙ ap (λ (x : Definition). Some x.dummies) same
one_named (e ∷ ds) (suc at) d is own =
    let p = or_parts (bytes_eq d.name e.name) (is_one_of (map (λ x. x.name) (take at ds)) d.name) own in
    ap (λ b. if b then Some e.dummies else dummies_named ds d.name) p.0 ∙ one_named ds at d is p.1

-- a name that none has
pub none_named : (ds : List Definition) (n : List ℕ) → AreOthers ds (length ds) n → dummies_named ds n ≡ None
none_named [] n others = refl
none_named (d ∷ ds) n others = by (bytes_eq n d.name) refl (none_named ds n (λ at e lt is. others (suc at) e (omega (arith, lt)) is))
  where
    by : (b : Bool) → bytes_eq n d.name ≡ b → dummies_named ds n ≡ None → dummies_named (d ∷ ds) n ≡ None
    by true same rest = absurd (true≢false (sym same ∙ others 0 d (omega arith) refl))
    by false other rest = ap (λ b. if b then Some d.dummies else dummies_named ds n) other ∙ rest

-- a name that none of the first so many has
pub none_before : (ds : List Definition) (at : ℕ) (n : List ℕ) → AreOthers ds at n → is_one_of (map (λ d. d.name) (take at ds)) n ≡ false
none_before ds zero n others = refl
none_before [] (suc at) n others = refl
none_before (d ∷ ds) (suc at) n others = by (bytes_eq n d.name) refl (none_before ds at n (λ k e lt is. others (suc k) e (omega (arith, lt)) is))
  where
    by : (b : Bool) → bytes_eq n d.name ≡ b → is_one_of (map (λ e. e.name) (take at ds)) n ≡ false → (bytes_eq n d.name || is_one_of (map (λ e. e.name) (take at ds)) n) ≡ false
    by true same rest = absurd (true≢false (sym same ∙ others 0 d (omega arith) refl))
    by false other rest = ap (λ b. b || is_one_of (map (λ e. e.name) (take at ds)) n) other ∙ rest

-- ---- by the statements that define them

no_definitions : (arrays : Arrays) → definitions_of arrays [] ≡ []
unfolding definitions_of
no_definitions arrays = refl

first_is : (arrays : Arrays) (x : ItemTree) (xs : List ItemTree) → definitions_of arrays (x ∷ xs) ≡ defined_before (defined_by arrays x.shape) (is_specification x.shape) (definitions_of arrays xs)
unfolding definitions_of
first_is arrays x xs = refl

module _ (r : Symbols) where
  abbrev definitions : List ItemTree → List Definition
  definitions xs = definitions_of r.names.arrays xs

  -- a statement that stands before all executable ones, by what it defines
  stands_so : (x : ItemTree) → defined_by r.names.arrays x.shape ≡ None → stands_before r x ≡ true → is_specification x.shape ≡ true
  stands_so x none stands = front (is_specification x.shape) (is_some (defined_by r.names.arrays x.shape)) (ap is_some none) stands
    where
      front : (a b : Bool) → b ≡ false → (a || b) ≡ true → a ≡ true
      front true b f h = refl
      front false b f h = absurd (true≢false (sym h ∙ f))

  defining_stands : (x : ItemTree) (d : Definition) → defined_by r.names.arrays x.shape ≡ Some d → stands_before r x ≡ true
  defining_stands x d is = ap (λ o. is_specification x.shape || is_some o) is ∙ or_true (is_specification x.shape)

  one_more : (before : List ItemTree) (x : ItemTree) → is_before_executables r before ≡ true → definitions (before ++ x ∷ []) ≡ definitions before ++ option_list (defined_by r.names.arrays x.shape)
  one_more [] x front =
      first_is r.names.arrays x [] ∙ ap (defined_before (defined_by r.names.arrays x.shape) (is_specification x.shape)) (no_definitions r.names.arrays)
      ∙ alone (defined_by r.names.arrays x.shape) (is_specification x.shape) ∙ ap (λ ds. ds ++ option_list (defined_by r.names.arrays x.shape)) (sym (no_definitions r.names.arrays))
    where
      alone : (o : Option Definition) (b : Bool) → defined_before o b [] ≡ option_list o
      alone (Some d) b = refl
      alone None true = refl
      alone None false = refl
  one_more (y ∷ ys) x front =
      let p = and_true (stands_before r y) (is_before_executables r ys) front in
      first_is r.names.arrays y (ys ++ x ∷ []) ∙ ap (defined_before (defined_by r.names.arrays y.shape) (is_specification y.shape)) (one_more ys x p.1)
      ∙ by (defined_by r.names.arrays y.shape) refl (is_specification y.shape) refl p.0
      ∙ ap (λ ds. ds ++ option_list (defined_by r.names.arrays x.shape)) (sym (first_is r.names.arrays y ys))
    where
      by : (o : Option Definition) → defined_by r.names.arrays y.shape ≡ o → (b : Bool) → is_specification y.shape ≡ b → stands_before r y ≡ true
          → defined_before o b (definitions ys ++ option_list (defined_by r.names.arrays x.shape)) ≡ defined_before o b (definitions ys) ++ option_list (defined_by r.names.arrays x.shape)
      by (Some d) is b passes stands = refl
      by None is true passes stands = refl
      by None is false passes stands = absurd (true≢false (sym (stands_so y is stands) ∙ passes))

  -- the statement of one, and those that define the ones before it
  pub record StandsAt (all : List ItemTree) (earlier : List Definition) (d : Definition) : Type 0 where
    pub before : List ItemTree
    pub item : ItemTree
    pub lawful : IsLawful r all before item
    pub front : is_before_executables r before ≡ true
    pub defines : defined_by r.names.arrays item.shape ≡ Some d
    pub behind : definitions before ≡ earlier

  found : (all before xs : List ItemTree) → EachBehind (IsLawful r all) before xs → is_before_executables r before ≡ true → (at : ℕ) (d : Definition) → slice_get (definitions xs) at ≡ Some d → StandsAt all (definitions before ++ take at (definitions xs)) d
  found all before [] lawful front at d is = absurd (nothing (definitions []) (no_definitions r.names.arrays) is)
    where
      nothing : (ds : List Definition) → ds ≡ [] → slice_get ds at ≡ Some d → ⊥
      nothing [] e h = cc
      nothing (x ∷ ds) e h = cc
  found all before (x ∷ xs) lawful front at d is =
      subst (λ ds. StandsAt all (definitions before ++ take at ds) d) (sym (first_is r.names.arrays x xs))
      (by (defined_by r.names.arrays x.shape) refl (is_specification x.shape) refl at (sym (ap (λ ds. slice_get ds at) (first_is r.names.arrays x xs)) ∙ is)
      (λ stands k h. found all (before ++ x ∷ []) xs lawful.1 (behind_one r before x ∙ ap₂ ◌&&◌ front stands) k d h))
    where
      by : (o : Option Definition) → defined_by r.names.arrays x.shape ≡ o → (b : Bool) → is_specification x.shape ≡ b → (k : ℕ) → slice_get (defined_before o b (definitions xs)) k ≡ Some d
          → (stands_before r x ≡ true → (j : ℕ) → slice_get (definitions xs) j ≡ Some d → StandsAt all (definitions (before ++ x ∷ []) ++ take j (definitions xs)) d)
          → StandsAt all (definitions before ++ take k (defined_before o b (definitions xs))) d
      by (Some e) here b passes zero h rest =
          let same : e ≡ d = cc in
          record { before = before; item = x; lawful = lawful.0; front = front; defines = here ∙ ap Some same; behind = sym (append-nil (definitions before)) }
      by (Some e) here b passes (suc k) h rest =
          subst (λ ds. StandsAt all ds d) (ap (λ ds. ds ++ take k (definitions xs)) (one_more before x front ∙ ap (λ o. definitions before ++ option_list o) here) ∙ append_assoc (definitions before) (e ∷ []) (take k (definitions xs)))
          (rest (defining_stands x e here) k h)
      by None here true passes k h rest =
          subst (λ ds. StandsAt all ds d) (ap (λ ds. ds ++ take k (definitions xs)) (one_more before x front ∙ ap (λ o. definitions before ++ option_list o) here ∙ append-nil (definitions before)))
          (rest (ap (λ b. b || is_some (defined_by r.names.arrays x.shape)) passes) k h)
      by None here false passes k h rest = absurd cc

  pub stands_at : (all : List ItemTree) → EachBehind (IsLawful r all) [] all → (at : ℕ) (d : Definition) → slice_get (definitions all) at ≡ Some d → StandsAt all (take at (definitions all)) d
  stands_at all lawful at d is =
      subst (λ ds. StandsAt all ds d) (ap (λ ds. ds ++ take at (definitions all)) (no_definitions r.names.arrays)) (found all [] all lawful refl at d is)

  -- ---- names of their own

  names_given : (before xs : List ItemTree) → is_before_executables r before ≡ true → is_before_executables r xs ≡ true → flat_map (λ g. g.defined) (given_from r before xs) ≡ map (λ d. d.name) (definitions xs)
  unfolding given_from
  names_given before [] front stand = ap (map (λ (d : Definition). d.name)) (sym (no_definitions r.names.arrays))
  names_given before (x ∷ xs) front stand =
      let p = and_true (stands_before r x) (is_before_executables r xs) stand in
      ap (λ ns. (given_by r (is_defining r before x) x.shape).defined ++ ns) (names_given (before ++ x ∷ []) xs (behind_one r before x ∙ ap₂ ◌&&◌ front p.0) p.1)
      ∙ ap (λ b. (given_by r b x.shape).defined ++ map (λ (d : Definition). d.name) (definitions xs)) (ap (λ b. b && is_some (defined_by r.names.arrays x.shape)) front)
      ∙ by (defined_by r.names.arrays x.shape) refl (is_specification x.shape) refl p.0
      ∙ ap (map (λ (d : Definition). d.name)) (sym (first_is r.names.arrays x xs))
    where
      by : (o : Option Definition) → defined_by r.names.arrays x.shape ≡ o → (b : Bool) → is_specification x.shape ≡ b → stands_before r x ≡ true
          → (if is_some o then map (λ (d : Definition). d.name) (option_list o) else []) ++ map (λ (d : Definition). d.name) (definitions xs) ≡ map (λ (d : Definition). d.name) (defined_before o b (definitions xs))
      by (Some d) is b passes stands = refl
      by None is true passes stands = refl
      by None is false passes stands = absurd (true≢false (sym (stands_so x is stands) ∙ passes))

  pub own_name : (all : List ItemTree) (earlier : List Definition) (d : Definition) → StandsAt all earlier d → is_one_of (map (λ e. e.name) earlier) d.name ≡ false
  own_name all earlier d s =
      let before = s.before in
      let x = s.item in
      let gs = given_from r [] before in
      let g = given_by r (is_defining r before x) x.shape in
      let twice = (or_parts (given_twice gs g) (has_two_roles gs g) (or_parts (given_twice gs g || has_two_roles gs g) _ s.lawful.undisputed).0).0 in
      let first = (or_parts (repeats (flat_map (λ h. h.typed) gs) g.typed) _ twice).1 in
      let second = (or_parts (repeats (flat_map (λ h. h.bounded) gs) g.bounded) _ first).1 in
      let third = (or_parts (repeats (flat_map (λ h. h.valued) gs) g.valued) _ second).1 in
      let here : g.defined ≡ d.name ∷ [] = ap₂ (λ b o. if b then map (λ (e : Definition). e.name) (option_list o) else []) (ap₂ ◌&&◌ s.front (ap is_some s.defines)) s.defines in
      let names = names_given [] before refl s.front ∙ ap (map (λ (e : Definition). e.name)) s.behind in
      (or_parts (is_one_of (map (λ e. e.name) earlier) d.name) false (sym (ap₂ repeats names here) ∙ third)).0
