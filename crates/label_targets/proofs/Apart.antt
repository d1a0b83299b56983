-- Where no label stands twice, each label of a list leads to its place in it, whatever lists are around it and in it.
use Rattle.std.proofs.Common.{◌≡◌, ℕ, ◌+◌, inl, inr, Bool, true, false, ◌||◌, List, [], ◌∷◌, ◌++◌, append_assoc, Option, Some, None, refl, sym, ap, subst, ◌∙◌}
use Rattle.std.specs.Prelude.{if◌then◌else◌, ◌==◌, ◌&&◌, not}
use Rattle.std.specs.List.{list_any}
use Rattle.std.specs.Option.{option_or}
use Rattle.std.proofs.lemmas.Bool.{true≢false, eqb-true, eq-eqb}
use Rattle.std.proofs.lemmas.List.Folds.{list_any-append}
use Rattle.meaning.specs.declared.refusal.Broken.{Broken}
use Rattle.meaning.specs.declared.refusal.Rule.TheVariants.{K1}
use Rattle.meaning.specs.declared.syntax.Tree.{Tree}
use Rattle.meaning.specs.Execution.{heads}
use Rattle.meaning.specs.LabelRules.{has_label, has_repeated_label, is_label_at, is_repeated}
use Rattle.meaning.specs.NameRules.{told}
use Rattle.meaning.specs.Statements.{broken_if}
use Rattle.meaning.specs.Syntax.{ItemTree}
use Rattle.meaning.specs.Trees.{Members, none, plain, loop, block, Arms, no_arms, arm, flat, flat_arms, members_tree}
use Rattle.label_targets.specs.Quiet.{is_quiet}
use Rattle.label_targets.specs.Places.{own_place, place_from, place_in, place_in_arms}
use Rattle.label_targets.specs.Lists.{HasList, HasListInArms, IsListIn}
use Rattle.label_targets.specs.Output.{has_output, has_output_in, has_output_in_arms}
use Rattle.label_targets.specs.Kept.{AreKept, AreKeptInArms, IsKept}

-- ---- tests

or_left : (a b : Bool) → (a || b) ≡ false → a ≡ false
or_left true b h = absurd (true≢false h)
or_left false b h = refl

or_right : (a b : Bool) → (a || b) ≡ false → b ≡ false
or_right true b h = absurd (true≢false h)
or_right false b h = h

or_behind : (a b : Bool) → b ≡ true → (a || b) ≡ true
or_behind true b h = refl
or_behind false b h = h

or_front : (a b : Bool) → a ≡ true → (a || b) ≡ true
or_front true b h = refl
or_front false b h = absurd (true≢false (sym h))

-- ---- labels that statements have

abbrev has : ℕ → List ItemTree → Bool
has s xs = list_any (has_label s) xs

abbrev Apart : List ItemTree → List ItemTree → Type 0
Apart before [] = Unit {0}
Apart before (x ∷ xs) = (has_repeated_label before x ≡ false) × Apart (before ++ x ∷ []) xs

apart_front : (before xs ys : List ItemTree) → Apart before (xs ++ ys) → Apart before xs
apart_front before [] ys h = tt
apart_front before (x ∷ xs) ys h = (h.0, apart_front (before ++ x ∷ []) xs ys h.1)

apart_behind : (before xs ys : List ItemTree) → Apart before (xs ++ ys) → Apart (before ++ xs) ys
apart_behind before [] ys h = subst (λ b. Apart b ys) (sym (append-nil-here before)) h
  where
    append-nil-here : (b : List ItemTree) → b ++ [] ≡ b
    append-nil-here [] = refl
    append-nil-here (x ∷ xs) = ap (λ r. x ∷ r) (append-nil-here xs)
apart_behind before (x ∷ xs) ys h =
    subst (λ b. Apart b ys) (append_assoc before (x ∷ []) xs) (apart_behind (before ++ x ∷ []) xs ys h.1)

-- a label that a statement has is none of those before it
label_new : (s : ℕ) (before : List ItemTree) (label : Option ℕ) → is_repeated before label ≡ false → is_label_at label s ≡ true → has s before ≡ false
label_new s before None h e = absurd (true≢false (sym e))
label_new s before (Some n) h e = subst (λ k. has k before ≡ false) (eqb-true n s e) h

not_before : (s : ℕ) (before xs : List ItemTree) → Apart before xs → has s xs ≡ true → has s before ≡ false
not_before s before [] h e = absurd (true≢false (sym e))
not_before s before (x ∷ xs) h e = by (has_label s x) refl (λ k. not_before s (before ++ x ∷ []) xs h.1 k)
  where
    by : (b : Bool) → has_label s x ≡ b → (has s xs ≡ true → has s (before ++ x ∷ []) ≡ false) → has s before ≡ false
    by true is f = label_new s before x.label h.0 is
    by false is f =
        or_left (has s before) (has s (x ∷ [])) (sym (list_any-append (has_label s) before (x ∷ [])) ∙ f (ap (λ b. b || has s xs) (sym is) ∙ e))

none_told : (before xs : List ItemTree) → told has_repeated_label K1 before xs ≡ [] → Apart before xs
unfolding told
none_told before [] h = tt
none_told before (x ∷ xs) h = (
  not_told (has_repeated_label before x) (front (broken_if (has_repeated_label before x) x.line K1) (told has_repeated_label K1 (before ++ x ∷ []) xs) h),
  none_told (before ++ x ∷ []) xs (behind (broken_if (has_repeated_label before x) x.line K1) (told has_repeated_label K1 (before ++ x ∷ []) xs) h),
)
  where
    not_told : (b : Bool) → broken_if b x.line K1 ≡ [] → b ≡ false
    not_told false e = refl
    not_told true e = absurd cc

    front : (bs cs : List Broken) → bs ++ cs ≡ [] → bs ≡ []
    front [] cs e = refl
    front (b ∷ bs) cs e = absurd cc

    behind : (bs cs : List Broken) → bs ++ cs ≡ [] → cs ≡ []
    behind [] cs e = e
    behind (b ∷ bs) cs e = absurd cc

-- ---- a label that no statement has, leads nowhere

nowhere_if : {A : Type 0} (b : Bool) (x : A) (o : Option A) → b ≡ false → o ≡ None → (if b then Some x else o) ≡ None
nowhere_if true x o h e = absurd (true≢false h)
nowhere_if false x o h e = e

nowhere_or : {A : Type 0} (o p : Option A) → o ≡ None → p ≡ None → option_or o p ≡ None
nowhere_or o p h e = ap (λ z. option_or z p) h ∙ e

-- the statements of a list by its parts
none_in : (s : ℕ) (xs ys : List ItemTree) → has s (xs ++ ys) ≡ false → (has s xs ≡ false) × (has s ys ≡ false)
none_in s xs ys h =
    let e = sym (list_any-append (has_label s) xs ys) ∙ h in
    (or_left (has s xs) (has s ys) e, or_right (has s xs) (has s ys) e)

no_head : (s : ℕ) (arms : Arms) → has s (flat_arms arms) ≡ false → heads s arms ≡ false
no_head s no_arms h = refl
no_head s (arm x body arms) h = or_left (has_label s x) _ h

own_nowhere : (s i : ℕ) (ms : Members) → has s (flat ms) ≡ false → own_place s i ms ≡ None
own_nowhere s i none h = refl
own_nowhere s i (plain x ms) h =
    nowhere_if (has_label s x) i _ (or_left (has_label s x) _ h) (own_nowhere s (i + 1) ms (or_right (has_label s x) _ h))
own_nowhere s i (loop x range ms) h =
    nowhere_if (has_label s x) i _ (or_left (has_label s x) _ h) (own_nowhere s (i + 1) ms (none_in s (flat range) (flat ms) (or_right (has_label s x) _ h)).1)
own_nowhere s i (block arms x ms) h =
    let parts = none_in s (flat_arms arms) (x ∷ flat ms) h in
    nowhere_if (heads s arms) i _ (no_head s arms parts.0)
    (nowhere_if (has_label s x) (i + 1) _ (or_left (has_label s x) _ parts.1) (own_nowhere s (i + 1) ms (or_right (has_label s x) _ parts.1)))

mutual
  nowhere : (s i : ℕ) (ms : Members) → has s (flat ms) ≡ false → place_from s i ms ≡ None
  nowhere s i none h = refl
  nowhere s i (plain x ms) h =
      nowhere_if (has_label s x) i _ (or_left (has_label s x) _ h) (nowhere s (i + 1) ms (or_right (has_label s x) _ h))
  nowhere s i (loop x range ms) h =
      let parts = none_in s (flat range) (flat ms) (or_right (has_label s x) _ h) in
      nowhere_if (has_label s x) i _ (or_left (has_label s x) _ h) (nowhere_or _ _ (nowhere s 0 range parts.0) (nowhere s (i + 1) ms parts.1))
  nowhere s i (block arms x ms) h =
      let parts = none_in s (flat_arms arms) (x ∷ flat ms) h in
      nowhere_if (heads s arms) i _ (no_head s arms parts.0)
      (nowhere_or _ _ (nowhere_arms s arms parts.0) (nowhere_if (has_label s x) (i + 1) _ (or_left (has_label s x) _ parts.1) (nowhere s (i + 1) ms (or_right (has_label s x) _ parts.1))))

  nowhere_arms : (s : ℕ) (arms : Arms) → has s (flat_arms arms) ≡ false → place_in_arms s arms ≡ None
  nowhere_arms s no_arms h = refl
  nowhere_arms s (arm x body arms) h =
      let parts = none_in s (flat body) (flat_arms arms) (or_right (has_label s x) _ h) in
      nowhere_or _ _ (nowhere s 0 body parts.0) (nowhere_arms s arms parts.1)

-- so what leads somewhere is had
must_have : (s n : ℕ) (o : Option ℕ) (b : Bool) → (b ≡ false → o ≡ None) → o ≡ Some n → b ≡ true
must_have s n o true f e = refl
must_have s n o false f e = absurd (let x = sym (f refl) ∙ e in cc)

-- ---- labels further on lead where they led

here_not : {A : Type 0} (b : Bool) (x : A) (o : Option A) (n : A) → b ≡ false → o ≡ Some n → (if b then Some x else o) ≡ Some n
here_not true x o n h e = absurd (true≢false h)
here_not false x o n h e = e

or_second : {A : Type 0} (o p : Option A) (n : A) → o ≡ None → p ≡ Some n → option_or o p ≡ Some n
or_second o p n h e = ap (λ z. option_or z p) h ∙ e

or_first : {A : Type 0} (o p : Option A) (n : A) → o ≡ Some n → option_or o p ≡ Some n
or_first o p n e = ap (λ z. option_or z p) e

-- no statement before has a label of these
none_before : (s : ℕ) (before xs ys : List ItemTree) → Apart before (xs ++ ys) → has s ys ≡ true → has s xs ≡ false
none_before s before xs ys h e =
    or_right (has s before) (has s xs) (sym (list_any-append (has_label s) before xs) ∙ not_before s (before ++ xs) ys (apart_behind before xs ys h) e)

-- nor has the first statement one of the others
not_first : (s : ℕ) (before xs : List ItemTree) (x : ItemTree) → Apart before (x ∷ xs) → has s xs ≡ true → has_label s x ≡ false
not_first s before xs x h e = or_left (has_label s x) false (none_before s before (x ∷ []) xs h e)

if_same : {A : Type 0} (b : Bool) (x : A) (o p : Option A) (n : A) → (if b then Some x else o) ≡ Some n → (o ≡ Some n → p ≡ Some n) → (if b then Some x else p) ≡ Some n
if_same true x o p n e f = e
if_same false x o p n e f = f e

own_leads : (s i n : ℕ) (before : List ItemTree) (ms : Members) → Apart before (flat ms) → own_place s i ms ≡ Some n → place_from s i ms ≡ Some n
own_leads s i n before none h e = e
own_leads s i n before (plain x ms) h e =
    if_same (has_label s x) i _ _ n e (λ k. own_leads s (i + 1) n (before ++ x ∷ []) ms h.1 k)
own_leads s i n before (loop x range ms) h e =
    if_same (has_label s x) i _ _ n e (λ k.
    let had = must_have s n (own_place s (i + 1) ms) (has s (flat ms)) (own_nowhere s (i + 1) ms) k in
    or_second _ _ n (nowhere s 0 range (none_before s (before ++ x ∷ []) (flat range) (flat ms) h.1 had))
    (own_leads s (i + 1) n ((before ++ x ∷ []) ++ flat range) ms (apart_behind (before ++ x ∷ []) (flat range) (flat ms) h.1) k))
own_leads s i n before (block arms x ms) h e =
    if_same (heads s arms) i _ _ n e (λ k.
    let had = must_have s n (if has_label s x then Some (i + 1) else own_place s (i + 1) ms) (has s (x ∷ flat ms)) (λ z. nowhere_if (has_label s x) (i + 1) _ (or_left (has_label s x) _ z) (own_nowhere s (i + 1) ms (or_right (has_label s x) _ z))) k in
    or_second _ _ n (nowhere_arms s arms (none_before s before (flat_arms arms) (x ∷ flat ms) h had))
    (if_same (has_label s x) (i + 1) _ _ n k (λ z. own_leads s (i + 1) n ((before ++ flat_arms arms) ++ x ∷ []) ms (apart_behind before (flat_arms arms) (x ∷ flat ms) h).1 z)))

-- ---- all lists

abbrev Leads : (ℕ → Option ℕ) → ℕ → Members → Type 0
Leads places i ms = (s n : ℕ) → place_from s i ms ≡ Some n → places s ≡ Some n

abbrev LeadsInArms : (ℕ → Option ℕ) → Arms → Type 0
LeadsInArms places arms = (s n : ℕ) → place_in_arms s arms ≡ Some n → places s ≡ Some n

abbrev Hears : (ℕ → Bool) → Members → Type 0
Hears output ms = (line : ℕ) → output line ≡ false → has_output line ms ≡ false

abbrev HearsInArms : (ℕ → Bool) → Arms → Type 0
HearsInArms output arms = (line : ℕ) → output line ≡ false → has_output_in_arms line arms ≡ false

abbrev Lists : (Members → Type 0) → Members → Type 0
Lists listed ms = (r : Members) → HasList ms r → listed r

abbrev ListsInArms : (Members → Type 0) → Arms → Type 0
ListsInArms listed arms = (r : Members) → HasListInArms arms r → listed r

not_heard : (line : ℕ) (b : Bool) → ((line == line) && not b) ≡ false → b ≡ true
not_heard line true h = refl
not_heard line false h = absurd (true≢false (sym (ap (λ z. z && true) (eq-eqb line line refl)) ∙ h))

head_not : (s n : ℕ) (before : List ItemTree) (arms : Arms) → Apart before (flat_arms arms) → place_in_arms s arms ≡ Some n → heads s arms ≡ false
head_not s n before no_arms h e = refl
head_not s n before (arm x body arms) h e =
    not_first s before (flat body ++ flat_arms arms) x h
    (must_have s n _ _ (λ k. let parts = none_in s (flat body) (flat_arms arms) k in nowhere_or _ _ (nowhere s 0 body parts.0) (nowhere_arms s arms parts.1)) e)

module _ (places : ℕ → Option ℕ) (output : ℕ → Bool) (listed : Members → Type 0) where
  mutual
    kept : (before : List ItemTree) (i : ℕ) (ms : Members) → Apart before (flat ms) → Leads places i ms → Hears output ms → Lists listed ms → AreKept places output listed ms
    kept before i none h lead hear lists = tt
    kept before i (plain x ms) h lead hear lists =
        kept (before ++ x ∷ []) (i + 1) ms h.1
        (λ s n e. lead s n (here_not (has_label s x) i _ n (not_first s before (flat ms) x h (must_have s n _ _ (nowhere s (i + 1) ms) e)) e))
        hear
        lists
    kept before i (loop x range ms) h lead hear lists =
        let first = before ++ x ∷ [] in
        let own = apart_front first (flat range) (flat ms) h.1 in
        let there : (s : ℕ) → has s (flat range) ≡ true → has_label s x ≡ false = λ s k. not_first s before (flat range ++ flat ms) x h (list_any-append (has_label s) (flat range) (flat ms) ∙ or_front (has s (flat range)) (has s (flat ms)) k) in
        let inside : Leads places 0 range = λ s n e. lead s n (here_not (has_label s x) i _ n (there s (must_have s n _ _ (nowhere s 0 range) e)) (or_first _ _ n e)) in (
          (λ q. not_heard x.line (is_quiet range) (or_left _ _ (hear x.line q))),
          (
            (
              (λ s n e. inside s n (own_leads s 0 n first range own e)),
              lists range (inl refl),
              kept first 0 range own inside (λ line q. or_left _ _ (or_right _ _ (hear line q))) (λ r q. lists r (inr (inl q))),
            ),
            kept (first ++ flat range) (i + 1) ms (apart_behind first (flat range) (flat ms) h.1)
                (λ s n e.
                let had = must_have s n _ _ (nowhere s (i + 1) ms) e in
                lead s n (here_not (has_label s x) i _ n (not_first s before (flat range ++ flat ms) x h (list_any-append (has_label s) (flat range) (flat ms) ∙ or_behind (has s (flat range)) (has s (flat ms)) had))
                (or_second _ _ n (nowhere s 0 range (none_before s first (flat range) (flat ms) h.1 had)) e)))
                (λ line q. or_right _ _ (or_right _ _ (hear line q)))
                (λ r q. lists r (inr (inr q))),
          ),
        )
    kept before i (block arms x ms) h lead hear lists =
        let behind = apart_behind before (flat_arms arms) (x ∷ flat ms) h in
        let own = apart_front before (flat_arms arms) (x ∷ flat ms) h in (
          kept_arms before arms own
              (λ s n e. lead s n (here_not (heads s arms) i _ n (head_not s n before arms own e) (or_first _ _ n e)))
              (λ line q. or_left _ _ (hear line q))
              (λ r q. lists r (inl q)),
          kept ((before ++ flat_arms arms) ++ x ∷ []) (i + 1) ms behind.1
              (λ s n e.
              let had = must_have s n _ _ (nowhere s (i + 1) ms) e in
              let none_there = none_before s before (flat_arms arms) (x ∷ flat ms) h (or_behind (has_label s x) _ had) in
              lead s n (here_not (heads s arms) i _ n (no_head s arms none_there)
              (or_second _ _ n (nowhere_arms s arms none_there)
              (here_not (has_label s x) (i + 1) _ n (not_first s (before ++ flat_arms arms) (flat ms) x behind had) e))))
              (λ line q. or_right _ _ (hear line q))
              (λ r q. lists r (inr q)),
        )

    kept_arms : (before : List ItemTree) (arms : Arms) → Apart before (flat_arms arms) → LeadsInArms places arms → HearsInArms output arms → ListsInArms listed arms → AreKeptInArms places output listed arms
    kept_arms before no_arms h lead hear lists = tt
    kept_arms before (arm x body arms) h lead hear lists =
        let first = before ++ x ∷ [] in
        let own = apart_front first (flat body) (flat_arms arms) h.1 in (
          (
            (λ s n e. lead s n (or_first _ _ n (own_leads s 0 n first body own e))),
            lists body (inl refl),
            kept first 0 body own (λ s n e. lead s n (or_first _ _ n e)) (λ line q. or_left _ _ (hear line q)) (λ r q. lists r (inr (inl q))),
          ),
          kept_arms (first ++ flat body) arms (apart_behind first (flat body) (flat_arms arms) h.1)
              (λ s n e. lead s n (or_second _ _ n (nowhere s 0 body (none_before s first (flat body) (flat_arms arms) h.1 (must_have s n _ _ (nowhere_arms s arms) e))) e))
              (λ line q. or_right _ _ (hear line q))
              (λ r q. lists r (inr (inr q))),
        )

-- where no label stands twice, all lists of a program unit are kept
pub all_kept : (t : Tree) → told has_repeated_label K1 [] (flat (members_tree t.body.items)) ≡ [] → IsKept t (members_tree t.body.items)
all_kept t h =
    let ms = members_tree t.body.items in
    let apart = none_told [] (flat ms) h in
    record {
      list = inl refl;
      own = λ s n e. own_leads s 0 n [] ms apart e;
      inner = kept (place_in t) (has_output_in t) (IsListIn t) [] 0 ms apart (λ s n e. e) (λ line q. q) (λ r q. inr q);
    }
