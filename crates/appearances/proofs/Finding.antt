-- Statement functions found in a body, one member more.
use Rattle.std.proofs.Common.{◌≡◌, ℕ, zero, suc, ◌+◌, ◌<◌, ◌≤◌, Bool, true, false, List, [], ◌∷◌, ◌++◌, length, get_or, drop, append_assoc, append-nil, Option, Some, None, unwrap_or, Result, Ok, Err, refl, sym, ap, ap₂, subst, ◌∙◌, arith, length-append, inl, inr}
use Rattle.std.specs.Prelude.{if◌then◌else◌, ◌⊎◌, IfOk, is_some, slice_get}
use Rattle.std.specs.Map.{lookup}
use Rattle.std.proofs.Math.Logic.{⊎_elim}
use Rattle.std.specs.Global.{Vec}
use Rattle.std.specs.Option.{option_or}
use Rattle.std.specs.Str.{bytes_eq}
use Rattle.std.proofs.lemmas.List.{drop_more}
use Rattle.std.proofs.lemmas.Slice.Eq.{bytes_eq-Decides}
use Rattle.indexmap.specs.IndexMap.{IndexMap}
use Rattle.meaning.specs.declared.syntax.Item.{Item}
use Rattle.meaning.specs.declared.syntax.Block.{Block'}
use Rattle.meaning.specs.declared.syntax.Member.{Member, Plain, Loop', Block}
use Rattle.meaning.specs.Scopes.{Definition, defined_before, defined_by, definition_if, definitions_of, is_specification, listed}
use Rattle.meaning.specs.Syntax.{ItemTree, ShapeTree, assignment, definition, exprs, shape_tree}
use Rattle.meaning.specs.Trees.{Members, flat, item_tree, member_before, members_tree}
use Rattle.meaning.proofs.Ranges.{left_more}
use Rattle.rule_laws.specs.Read.{HeadsExecute}
use Rattle.meaning.specs.Values.{Arrays}
use Rattle.name_maps.specs.Keeping.{kept_at}
use Rattle.storage.specs.declared.parts.FunctionAt.{FunctionAt}
use Rattle.appearances.specs.FunctionsFound.{AreFound, Finding, IsExecutable, IsFoundAt, IsNone, IsOne, PassesItem, PassesMember, defined_in}
use Rattle.storage.specs.Kept.{shown_at, shown_by}

first_is : (arrays : Arrays) (x : ItemTree) (xs : List ItemTree) → definitions_of arrays (x ∷ xs) ≡ defined_before (defined_by arrays x.shape) (is_specification x.shape) (definitions_of arrays xs)
unfolding definitions_of
first_is arrays x xs = refl

-- what a statement that may define one shows
shown_is : (arrays : Arrays) (s : ShapeTree) (d : Definition) → defined_by arrays s ≡ Some d → shown_by d.name s ≡ Some d
shown_is arrays (assignment n (exprs e es) body) d is = by (is_some (arrays n)) is
  where
    by : (b : Bool) → definition_if b n (e ∷ listed es) body ≡ Some d → shown_by d.name (assignment n (exprs e es) body) ≡ Some d
    by true h = absurd cc
    by false h =
        let same : record { name = n; dummies = e ∷ listed es; body = body } ≡ d = ap (λ o. unwrap_or o d) h in
        ap (λ (x : Definition). Some (record { name = x.name; dummies = e ∷ listed es; body = body })) (sym same) ∙ h
shown_is arrays (definition n body) d is = by (is_some (arrays n)) is
  where
    by : (b : Bool) → definition_if b n [] body ≡ Some d → shown_by d.name (definition n body) ≡ Some d
    by true h = absurd cc
    by false h =
        let same : record { name = n; dummies = []; body = body } ≡ d = ap (λ o. unwrap_or o d) h in
        ap (λ (x : Definition). Some (record { name = x.name; dummies = []; body = body })) (sym same) ∙ h
shown_is arrays s d is = absurd cc

-- ---- places in lists

get_front : {A : Type 0} (xs ys : List A) (k : ℕ) (a : A) → slice_get xs k ≡ Some a → slice_get (xs ++ ys) k ≡ Some a
get_front [] ys k a at = absurd cc
get_front (x ∷ xs) ys zero a at = at
get_front (x ∷ xs) ys (suc k) a at = get_front xs ys k a at

get_last : {A : Type 0} (xs : List A) (x : A) → slice_get (xs ++ x ∷ []) (length xs) ≡ Some x
get_last [] x = refl
get_last (y ∷ ys) x = get_last ys x

get_cases : {A : Type 0} (xs : List A) (x a : A) (k : ℕ) → slice_get (xs ++ x ∷ []) k ≡ Some a → (slice_get xs k ≡ Some a) ⊎ (x ≡ a)
get_cases [] x a zero at = inr (ap (λ o. unwrap_or o a) at)
get_cases [] x a (suc k) at = absurd cc
get_cases (y ∷ ys) x a zero at = inl at
get_cases (y ∷ ys) x a (suc k) at = get_cases ys x a k at

get_read : {A : Type 0} (xs : List A) (i : ℕ) (x : A) → i < length xs → x ≡ get_or xs i x → slice_get xs i ≡ Some x
get_read [] i x lt is = absurd (omega arith)
get_read (y ∷ ys) zero x lt is = ap Some (sym is)
get_read (y ∷ ys) (suc i) x lt is = get_read ys i x (omega arith) is

-- ---- one member more

module _ (arrays : Arrays) (members : List Member) (i : ℕ) (one : Member) (x : Item) (lt : i < length members) (is : one ≡ get_or members i one) (plain : one ≡ Plain x) where
  abbrev rest : List Definition
  rest = defined_in arrays (drop (i + 1) members)

  left_is : defined_in arrays (drop i members) ≡ defined_before (defined_by arrays (shape_tree x.form.shape.value)) (is_specification (shape_tree x.form.shape.value)) rest
  left_is =
      ap (λ ms. defined_in arrays ms) (dropped members i one lt is)
      ∙ ap (λ m. defined_in arrays (m ∷ drop (i + 1) members)) plain
      ∙ first_is arrays (item_tree x) (flat (members_tree (drop (i + 1) members)))
    where
      dropped : (ms : List Member) (j : ℕ) (m : Member) → j < length ms → m ≡ get_or ms j m → drop j ms ≡ m ∷ drop (j + 1) ms
      dropped ms j m less same = drop_more ms j m less ∙ ap (λ y. y ∷ drop (j + 1) ms) (sym same)

  -- a statement that is no executable one
  pub passed : {S : Type 0} (m : IndexMap (Vec ℕ) FunctionAt S) (at : ℕ) (all : List Definition) → None ≡ defined_by arrays (shape_tree x.form.shape.value) → is_specification (shape_tree x.form.shape.value) ≡ true → Finding all (defined_in arrays (drop i members)) members m at → Finding all rest members m at
  passed m at all none passes f =
      subst (λ ds. Finding all ds members m at) (left_is ∙ ap₂ (λ o b. defined_before o b rest) (sym none) passes) f

  -- a statement function's
  pub found_one : {S : Type 0} (m new : IndexMap (Vec ℕ) FunctionAt S) (at next : ℕ) (all : List Definition) (d : Definition) → Some d ≡ defined_by arrays (shape_tree x.form.shape.value) → next ≡ at + 1 → ((n : List ℕ) → kept_at new n ≡ option_or (kept_at m n) (if bytes_eq n d.name then Some (record { at = at; member = i }) else None)) → Finding all (defined_in arrays (drop i members)) members m at → Finding all rest members new next
  found_one m new at next all d some more added f =
      let left : defined_in arrays (drop i members) ≡ d ∷ rest = left_is ∙ ap (λ o. defined_before o (is_specification (shape_tree x.form.shape.value)) rest) (sym some) in
      let there : shown_at d.name (slice_get members i) ≡ Some d = ap (shown_at d.name) (get_read members i one lt is ∙ ap Some plain) ∙ shown_is arrays (shape_tree x.form.shape.value) d (sym some) in
      record {
        found = f.found ++ d ∷ [];
        are = append_assoc f.found (d ∷ []) rest ∙ ap (λ ds. f.found ++ ds) (sym left) ∙ f.are;
        many = length-append f.found (d ∷ []) ∙ ap (λ k. k + 1) f.many ∙ sym more;
        kept = λ n. subst (IsFoundAt (f.found ++ d ∷ []) n members) (sym (added n)) (by_kept n (kept_at m n) (f.kept n) (bytes_eq n d.name) refl there);
      }
    where
      by_kept : (n : List ℕ) (o : Option FunctionAt) → IsFoundAt f.found n members o → (b : Bool) → bytes_eq n d.name ≡ b → shown_at d.name (slice_get members i) ≡ Some d → IsFoundAt (f.found ++ d ∷ []) n members (option_or o (if b then Some (record { at = at; member = i }) else None))
      by_kept n (Some a) h b same there =
          record { definition = h.definition; shown = h.shown; found = get_front f.found (d ∷ []) a.at h.definition h.found }
      by_kept n None h true same there =
          record {
            definition = d;
            shown = ap (λ y. shown_at y (slice_get members i)) ((bytes_eq-Decides n d.name).0 same) ∙ there;
            found = ap (slice_get (f.found ++ d ∷ [])) (sym f.many) ∙ get_last f.found d;
          }
      by_kept n None h false other there = λ k e at_k.
          ⊎_elim (λ there. h k e there) (λ (same : d ≡ e). ap (λ (y : Definition). bytes_eq n y.name) (sym same) ∙ other) (get_cases f.found d e k at_k)

-- a statement that is a member
pub plain_passes : {S E : Type 0} (arrays : Arrays) (m new : IndexMap (Vec ℕ) FunctionAt S) (at member : ℕ) (one : Member) (x : Item) → one ≡ Plain x → (r : Result (Option ℕ) E) → IfOk r (PassesItem arrays m new at member x) → IfOk r (PassesMember arrays m new at member one)
plain_passes arrays m new at member one x is (Ok None) h =
    (h.0, λ y there. let same : x ≡ y = cc in subst (IsExecutable arrays m new at member) same h.1)
plain_passes arrays m new at member one x is (Ok (Some next)) h = (x, is, h)
plain_passes arrays m new at member one x is (Err e) h = h

-- what passing it tells
pub passed_member : {S : Type 0} (arrays : Arrays) (members : List Member) (i : ℕ) (one : Member) (m new : IndexMap (Vec ℕ) FunctionAt S) (at next : ℕ) (all : List Definition) → i < length members → one ≡ get_or members i one → PassesMember arrays m new at i one (Some next) → Finding all (defined_in arrays (drop i members)) members m at → Finding all (defined_in arrays (drop (i + 1) members)) members new next
passed_member arrays members i one m new at next all lt is told f =
    ⊎_elim
    (λ (none : IsNone arrays m new at i told.0 next). subst (λ k. Finding all (defined_in arrays (drop (i + 1) members)) members new k) (sym none.stays) (subst (λ k. Finding all (defined_in arrays (drop (i + 1) members)) members k at) (sym none.same) (passed arrays members i one told.0 lt is told.1 m at all none.none none.passes f)))
    (λ (one_more : IsOne arrays m new at i told.0 next). found_one arrays members i one told.0 lt is told.1 m new at next all one_more.definition one_more.some one_more.more one_more.added f)
    told.2

-- the count stays below the members passed
pub few_more : {S : Type 0} (arrays : Arrays) (i : ℕ) (one : Member) (m new : IndexMap (Vec ℕ) FunctionAt S) (at next : ℕ) → at ≤ i → PassesMember arrays m new at i one (Some next) → next ≤ i + 1
few_more arrays i one m new at next le told =
    ⊎_elim (λ (none : IsNone arrays m new at i told.0 next). same at next i none.stays le) (λ (one_more : IsOne arrays m new at i told.0 next). more at next i one_more.more le) told.2
  where
    same : (at next i : ℕ) → next ≡ at → at ≤ i → next ≤ i + 1
    same at next i is le = omega arith

    more : (at next i : ℕ) → next ≡ at + 1 → at ≤ i → next ≤ i + 1
    more at next i is le = omega arith

-- ---- all of them

pub all_found : {S : Type 0} (all later : List Definition) (members : List Member) (m : IndexMap (Vec ℕ) FunctionAt S) (at : ℕ) → later ≡ [] → Finding all later members m at → AreFound all members m
all_found all later members m at none f =
    subst (λ ds. AreFound ds members m) (sym (append-nil f.found) ∙ ap (λ ds. f.found ++ ds) (sym none) ∙ f.are) f.kept

no_definitions : (arrays : Arrays) → definitions_of arrays [] ≡ []
unfolding definitions_of
no_definitions arrays = refl

pub none_left : (arrays : Arrays) (members : List Member) → members ≡ [] → defined_in arrays members ≡ []
none_left arrays members none = ap (defined_in arrays) none ∙ no_definitions arrays

pub none_found : {S : Type 0} (arrays : Arrays) (members : List Member) (m : IndexMap (Vec ℕ) FunctionAt S) → m.entries ≡ [] → Finding (defined_in arrays members) (defined_in arrays members) members m 0
none_found arrays members m empty =
    record { found = []; are = refl; many = refl; kept = λ n. subst (IsFoundAt [] n members) (sym (nothing_kept n)) (λ k d at. absurd cc) }
  where
    nothing_kept : (n : List ℕ) → kept_at m n ≡ None
    nothing_kept n = ap (lookup (λ (k : Vec ℕ). bytes_eq n k.items)) empty

-- ---- behind the first executable statement

module _ (arrays : Arrays) where
  behind_one : (m : Member) (ms : Members) → HeadsExecute arrays (member_before m ms) → HeadsExecute arrays ms
  behind_one (Plain x) ms h = h
  behind_one (Loop' head shape range) ms h = h.1
  behind_one (Block (Block' shape arms end)) ms h = h.1

  heads_behind : (members : List Member) (i : ℕ) → HeadsExecute arrays (members_tree members) → HeadsExecute arrays (members_tree (drop i members))
  heads_behind [] zero h = h
  heads_behind [] (suc i) h = h
  heads_behind (m ∷ members) zero h = h
  heads_behind (m ∷ members) (suc i) h = heads_behind members i (behind_one m (members_tree members) h)

  module _ {S : Type 0} (m new : IndexMap (Vec ℕ) FunctionAt S) (at member : ℕ) where
    ended_by : (one : Member) (ms : Members) → PassesMember arrays m new at member one None → HeadsExecute arrays (member_before one ms) → definitions_of arrays (flat (member_before one ms)) ≡ []
    ended_by (Plain x) ms told h =
        let e = told.1 x refl in
        first_is arrays (item_tree x) (flat ms) ∙ ap₂ (λ o b. defined_before o b (definitions_of arrays (flat ms))) (sym e.none) e.executed
    ended_by (Loop' head shape range) ms told h = h.0
    ended_by (Block (Block' shape arms end)) ms told h = h.0

    -- none stands there
    pub ended : (members : List Member) (i : ℕ) (one : Member) → i < length members → one ≡ get_or members i one → PassesMember arrays m new at member one None → HeadsExecute arrays (members_tree members) → defined_in arrays (drop i members) ≡ []
    ended members i one lt is told h =
        let rest = members_tree (drop (i + 1) members) in
        let here = left_more (λ x. x) members i one lt is in
        ap (λ x. definitions_of arrays (flat x)) here ∙ ended_by one rest told (subst (HeadsExecute arrays) here (heads_behind members i h))
