-- Consecutive members of a list of a program in which no label stands twice are a slice.
use Rattle.std.proofs.Common.{◌≡◌, ℕ, zero, suc, ◌+◌, Bool, true, false, ◌||◌, List, [], ◌∷◌, ◌++◌, append_assoc, length, take, drop, Option, Some, None, Ok, refl, sym, ap, subst, ◌∙◌, arith}
use Rattle.std.specs.List.{AllByRecursion, list_any}
use Rattle.std.specs.Prelude.{slice_get}
use Rattle.std.proofs.lemmas.Bool.{true≢false, eqb-true}
use Rattle.std.proofs.lemmas.List.{append-nil, take-append-drop}
use Rattle.std.proofs.lemmas.List.Folds.{list_any-append}
use Rattle.meaning.specs.declared.refusal.Broken.{Broken}
use Rattle.meaning.specs.declared.refusal.Rule.TheVariants.{K1}
use Rattle.meaning.specs.declared.syntax.Block.{Block'}
use Rattle.meaning.specs.declared.syntax.Member.{Member, Plain, Loop', Block}
use Rattle.meaning.specs.declared.syntax.Tree.{Tree}
use Rattle.meaning.proofs.Keeping.{any-parts}
use Rattle.meaning.specs.Execution.{heads}
use Rattle.meaning.specs.LabelRules.{has_label, has_repeated_label, is_label_at, is_repeated}
use Rattle.meaning.specs.NameRules.{told}
use Rattle.meaning.specs.Rules.{checked}
use Rattle.meaning.specs.Statements.{broken_if}
use Rattle.meaning.specs.Syntax.{ItemTree}
use Rattle.meaning.specs.Trees.{Members, none, Arms, no_arms, arm, flat, flat_arms, item_tree, member_before, members_tree, nested, row_arms}
use Rattle.label_targets.proofs.Labelled.{placed, placed-before}
use Rattle.label_targets.specs.Entries.{at_if, entry}
use Rattle.label_targets.specs.Kept.{IsKept}
use Rattle.label_targets.specs.Places.{own_place, place_in}
use Rattle.storage.proofs.Unbroken.{labels_once}
use Rattle.storage.specs.Checked.{items_in}
use Rattle.program.specs.Programs.{IsStatement}
use Rattle.evaluator.specs.Known.{AreStatements}
use Rattle.evaluator.specs.Slices.{IsSlice}
use Rattle.evaluator.proofs.Looped.{flat-before, split-all}
use Rattle.evaluator.proofs.Sliced.{Inner, split, join}

-- ---- the statements of a program

in_the_middle : (before xs : List ItemTree) (x : ItemTree) → slice_get (before ++ x ∷ xs) (length before) ≡ Some x
in_the_middle [] xs x = refl
in_the_middle (b ∷ before) xs x = in_the_middle before xs x

behind_one : (before xs : List ItemTree) (x : ItemTree) → (before ++ x ∷ []) ++ xs ≡ before ++ x ∷ xs
behind_one [] xs x = refl
behind_one (b ∷ before) xs x = ap (λ ys. b ∷ ys) (behind_one before xs x)

-- each of them is a statement
statements_behind : (t : Tree) (before xs : List ItemTree) → items_in t ≡ before ++ xs → AllByRecursion (IsStatement t) xs
statements_behind t before [] is = tt
statements_behind t before (x ∷ xs) is = (
  record { at = length before; is = ap (λ ys. slice_get ys (length before)) is ∙ in_the_middle before xs x },
  statements_behind t (before ++ x ∷ []) xs (is ∙ sym (behind_one before xs x)),
)

pub all_statements : (t : Tree) → AreStatements t (items_in t)
all_statements t = statements_behind t [] (items_in t) refl

-- ---- where no label stands twice

or_left : (a b : Bool) → (a || b) ≡ false → a ≡ false
or_left true b h = absurd (true≢false h)
or_left false b h = refl

or_right : (a b : Bool) → (a || b) ≡ false → b ≡ false
or_right true b h = absurd (true≢false h)
or_right false b h = h

abbrev has : ℕ → List ItemTree → Bool
has s xs = list_any (has_label s) xs

nothing_front : (bs cs : List Broken) → bs ++ cs ≡ [] → bs ≡ []
nothing_front [] cs e = refl
nothing_front (b ∷ bs) cs e = absurd cc

nothing_behind : (bs cs : List Broken) → bs ++ cs ≡ [] → cs ≡ []
nothing_behind [] cs e = e
nothing_behind (b ∷ bs) cs e = absurd cc

not_told : (b : Bool) (line : ℕ) → broken_if b line K1 ≡ [] → b ≡ false
not_told false line e = refl
not_told true line e = absurd cc

-- a label that a statement has is none of those before it
label_new : (s : ℕ) (before : List ItemTree) (label : Option ℕ) → is_repeated before label ≡ false → is_label_at label s ≡ true → has s before ≡ false
label_new s before None h e = absurd (true≢false (sym e))
label_new s before (Some n) h e = subst (λ k. has k before ≡ false) (eqb-true n s e) h

module _ (s : ℕ) where
  not_before : (before xs : List ItemTree) → told has_repeated_label K1 before xs ≡ [] → has s xs ≡ true → has s before ≡ false
  unfolding told
  not_before before [] h e = absurd (true≢false (sym e))
  not_before before (x ∷ xs) h e = by (has_label s x) refl (λ k. not_before (before ++ x ∷ []) xs (nothing_behind (broken_if (has_repeated_label before x) x.line K1) (told has_repeated_label K1 (before ++ x ∷ []) xs) h) k)
    where
      by : (b : Bool) → has_label s x ≡ b → (has s xs ≡ true → has s (before ++ x ∷ []) ≡ false) → has s before ≡ false
      by true is f = label_new s before x.label (not_told (has_repeated_label before x) x.line (nothing_front (broken_if (has_repeated_label before x) x.line K1) (told has_repeated_label K1 (before ++ x ∷ []) xs) h)) is
      by false is f =
          or_left (has s before) (has s (x ∷ [])) (sym (list_any-append (has_label s) before (x ∷ [])) ∙ f (ap (λ b. b || has s xs) (sym is) ∙ e))

  -- nor does it stand in what comes between
  apart : (before xs ys : List ItemTree) → told has_repeated_label K1 before (xs ++ ys) ≡ [] → has s ys ≡ true → has s (before ++ xs) ≡ false
  unfolding told
  apart before [] ys h e = subst (λ zs. has s zs ≡ false) (sym (append-nil before)) (not_before before ys h e)
  apart before (x ∷ xs) ys h e =
      subst (λ zs. has s zs ≡ false) (append_assoc before (x ∷ []) xs) (apart (before ++ x ∷ []) xs ys (nothing_behind (broken_if (has_repeated_label before x) x.line K1) (told has_repeated_label K1 (before ++ x ∷ []) (xs ++ ys)) h) e)

-- ---- lists by their parts

flat-append : (xs ys : List Member) → flat (members_tree (xs ++ ys)) ≡ flat (members_tree xs) ++ flat (members_tree ys)
flat-append [] ys = refl
flat-append (x ∷ xs) ys =
    flat-before x (members_tree (xs ++ ys)) ∙ ap (λ zs. flat (member_before x none) ++ zs) (flat-append xs ys) ∙ sym (append_assoc (flat (member_before x none)) (flat (members_tree xs)) (flat (members_tree ys))) ∙ ap (λ zs. zs ++ flat (members_tree ys)) (sym (flat-before x (members_tree xs)))

no_head : (s : ℕ) (arms : Arms) → has s (flat_arms arms) ≡ false → heads s arms ≡ false
no_head s no_arms h = refl
no_head s (arm x body arms) h = or_left (has_label s x) _ h

not_one : (b : Bool) → b ≡ false → at_if b 0 None ≡ None
not_one b h = ap (λ a. at_if a 0 None) h

not_two : (a b : Bool) → a ≡ false → b ≡ false → at_if a 0 (at_if b 1 None) ≡ None
not_two a b h k = ap (λ c. at_if c 0 (at_if b 1 None)) h ∙ ap (λ c. at_if c 1 None) k

-- a transfer to a label that none of its statements has doesn't lead to a member
not_entered : (s : ℕ) (x : Member) → has s (flat (member_before x none)) ≡ false → entry s x ≡ None
not_entered s (Plain x) h = not_one (has_label s (item_tree x)) (or_left (has_label s (item_tree x)) _ h)
not_entered s (Loop' head shape range) h = not_one (has_label s (item_tree head)) (or_left (has_label s (item_tree head)) _ h)
not_entered s (Block (Block' shape arms end)) h =
    let parts = any-parts (has_label s) (flat_arms (row_arms arms)) (item_tree end ∷ []) h in
    not_two (heads s (row_arms arms)) (has_label s (item_tree end)) (no_head s (row_arms arms) parts.0) (or_left (has_label s (item_tree end)) false parts.1)

no_more : (s : ℕ) (x : Member) (xs : List Member) → has s (flat (members_tree (x ∷ xs))) ≡ false → (has s (flat (member_before x none)) ≡ false) × (has s (flat (members_tree xs)) ≡ false)
no_more s x xs h =
    any-parts (has_label s) (flat (member_before x none)) (flat (members_tree xs)) (ap (has s) (sym (flat-before x (members_tree xs))) ∙ h)

-- members without the label are passed over
passed_over : (s k : ℕ) (xs ys : List Member) → has s (flat (members_tree xs)) ≡ false → own_place s k (members_tree (xs ++ ys)) ≡ own_place s (k + length xs) (members_tree ys)
passed_over s k [] ys h = ap (λ j. own_place s j (members_tree ys)) (and_none k)
  where
    and_none : (k : ℕ) → k ≡ k + 0
    and_none k = omega arith
passed_over s k (x ∷ xs) ys h =
    let parts = no_more s x xs h in
    placed-before s k x (members_tree (xs ++ ys)) ∙ ap (λ e. placed k (own_place s (k + 1) (members_tree (xs ++ ys))) e) (not_entered s x parts.0) ∙ passed_over s (k + 1) xs ys parts.1 ∙ ap (λ j. own_place s j (members_tree ys)) (one_on k (length xs))
  where
    one_on : (k n : ℕ) → k + 1 + n ≡ k + suc n
    one_on k n = omega arith

-- a label that leads into a list is one of its statements'
must_have : (s k n : ℕ) (xs : List Member) → own_place s k (members_tree xs) ≡ Some n → has s (flat (members_tree xs)) ≡ true
must_have s k n xs is = by (has s (flat (members_tree xs))) refl
  where
    by : (b : Bool) → has s (flat (members_tree xs)) ≡ b → has s (flat (members_tree xs)) ≡ true
    by true e = e
    by false e =
        absurd (let nowhere = ap (λ zs. own_place s k (members_tree zs)) (sym (append-nil xs)) ∙ passed_over s k xs [] e in let no : Some n ≡ None = sym is ∙ nowhere in cc)

-- it leads to the same place where more members follow
placed_more : (i n : ℕ) (o p : Option ℕ) (e : Option ℕ) → (o ≡ Some n → p ≡ Some n) → placed i o e ≡ Some n → placed i p e ≡ Some n
placed_more i n o p None f is = f is
placed_more i n o p (Some zero) f is = is
placed_more i n o p (Some (suc k)) f is = is

same_place : (s k n : ℕ) (xs ys : List Member) → own_place s k (members_tree xs) ≡ Some n → own_place s k (members_tree (xs ++ ys)) ≡ Some n
same_place s k n [] ys is = absurd cc
same_place s k n (x ∷ xs) ys is =
    placed-before s k x (members_tree (xs ++ ys)) ∙ placed_more k n _ _ (entry s x) (same_place s (k + 1) n xs ys) (sym (placed-before s k x (members_tree xs)) ∙ is)

-- what is kept of the lists further in
inner_behind : (t : Tree) (xs ys : List Member) → Inner t (members_tree (xs ++ ys)) → Inner t (members_tree ys)
inner_behind t [] ys h = h
inner_behind t (x ∷ xs) ys h = inner_behind t xs ys (split t x (members_tree (xs ++ ys)) h).1

inner_front : (t : Tree) (xs ys : List Member) → Inner t (members_tree (xs ++ ys)) → Inner t (members_tree xs)
inner_front t [] ys h = tt
inner_front t (x ∷ xs) ys h =
    let parts = split t x (members_tree (xs ++ ys)) h in
    join t x (members_tree xs) parts.0 (inner_front t xs ys parts.1)

-- ---- consecutive members

module _ (t : Tree) (before ms after : List Member) where
  abbrev All : Members
  All = members_tree (before ++ (ms ++ after))

  pub are_a_slice : IsKept t All → told has_repeated_label K1 [] (flat All) ≡ [] → IsSlice t (members_tree ms)
  are_a_slice kept once =
      record { first = length before; is = record { own = leads; inner = inner_front t ms after (inner_behind t before (ms ++ after) kept.inner) } }
    where
      from_none : (k : ℕ) → 0 + k ≡ k
      from_none k = omega arith

      leads : (s n : ℕ) → own_place s (length before) (members_tree ms) ≡ Some n → place_in t s ≡ Some n
      leads s n is =
          let there = same_place s (length before) n ms after is in
          let had = must_have s (length before) n (ms ++ after) there in
          let none_there = apart s [] (flat (members_tree before)) (flat (members_tree (ms ++ after))) (subst (λ xs. told has_repeated_label K1 [] xs ≡ []) (flat-append before (ms ++ after)) once) had in
          kept.own s n (passed_over s 0 before (ms ++ after) none_there ∙ ap (λ j. own_place s j (members_tree (ms ++ after))) (from_none (length before)) ∙ there)

  pub are_statements : AreStatements t (flat All) → AreStatements t (flat (members_tree ms))
  are_statements named =
      let behind = (split-all (IsStatement t) (flat (members_tree before)) (flat (members_tree (ms ++ after))) (subst (AreStatements t) (flat-append before (ms ++ after)) named)).1 in
      (split-all (IsStatement t) (flat (members_tree ms)) (flat (members_tree after)) (subst (AreStatements t) (flat-append ms after) behind)).0

-- ---- those of a program's body from one place up to another

module _ (t : Tree) (from many : ℕ) where
  abbrev Body : List Member
  Body = t.body.items

  abbrev pub Between : List Member
  Between = take many (drop from Body)

  abbrev Behind : List Member
  Behind = drop many (drop from Body)

  in_the_body : take from Body ++ (Between ++ Behind) ≡ Body
  in_the_body = ap (λ ys. take from Body ++ ys) (take-append-drop many (drop from Body)) ∙ take-append-drop from Body

  pub body_statements : AreStatements t (flat (members_tree Between))
  body_statements =
      are_statements t (take from Body) Between Behind (subst (λ ms. AreStatements t (flat (members_tree ms))) (sym in_the_body) (all_statements t))

  pub body_slice : checked (nested t) ≡ Ok (nested t) → IsKept t (members_tree Body) → IsSlice t (members_tree Between)
  body_slice allowed kept =
      are_a_slice t (take from Body) Between Behind (subst (λ ms. IsKept t (members_tree ms)) (sym in_the_body) kept) (subst (λ ms. told has_repeated_label K1 [] (flat (members_tree ms)) ≡ []) (sym in_the_body) (labels_once (nested t) allowed))
