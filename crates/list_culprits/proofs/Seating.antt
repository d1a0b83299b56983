-- The seats of a list, one member more.
use Rattle.std.proofs.Common.{◌≡◌, ℕ, ◌+◌, ◌<◌, Bool, true, false, cond, List, [], ◌∷◌, ◌++◌, length, get_or, drop, map, append_assoc, refl, sym, ap, ap₂, ◌∙◌, Option, Some, None, option_map}
use Rattle.std.specs.Prelude.{flat_map}
use Rattle.std.specs.List.{find}
use Rattle.std.specs.Option.{option_or}
use Rattle.std.proofs.lemmas.List.{append-nil, map-append}
use Rattle.std.proofs.lemmas.List.Folds.{find-append}
use Rattle.std.proofs.lemmas.Grind.{flat_map-append}
use Rattle.meaning.specs.declared.refusal.Broken.{Broken}
use Rattle.meaning.specs.declared.refusal.Rule.{Rule}
use Rattle.meaning.specs.declared.syntax.Arm.{Arm}
use Rattle.meaning.specs.declared.syntax.Item.{Item}
use Rattle.meaning.specs.declared.syntax.Member.{Member, Plain, Loop, Loop', Block}
use Rattle.meaning.specs.declared.syntax.Block.{out-Block, Block'}
use Rattle.meaning.specs.Statements.{broken_if}
use Rattle.meaning.specs.Surroundings.{Around, head_of, own_items, told_in, told_in_arms}
use Rattle.meaning.specs.Syntax.{ItemTree}
use Rattle.meaning.specs.Trees.{Members, none, plain, loop, block, Arms, no_arms, arm, Nested, arms_tree, flat, flat_arms, item_tree, member_before, members_tree}
use Rattle.meaning.proofs.Ranges.{left_arms, left_more, member_before-block, member_before-loop}
use Rattle.list_culprits.specs.Seats.{Opener, Seat, SeatsTell, around_at, around_by, arm_alone, range_of, block_of, seat, seat_if, seat_passing, seats_in, seats_in_arms}

-- ---- of the first member, and of those behind it

before_others : (os : List Opener) (reach : List ItemTree) (m : Member) (ms : Members) → seats_in os reach (member_before m ms) ≡ seats_in os reach (member_before m none) ++ seats_in os reach ms
before_others os reach (Plain x) ms = refl
before_others os reach (Loop' head shape range) ms =
    ap (λ zs. seat os reach (item_tree head) ∷ (zs ++ seats_in os reach ms)) (sym (append-nil _))
before_others os reach (Block (Block' shape arms end)) ms =
    sym (append_assoc _ (seat os reach (item_tree end) ∷ []) (seats_in os reach ms))

abbrev pub passing : (ItemTree → Bool) → List Opener → List ItemTree → Members → Option Seat
passing test os reach ms = seat_passing test (seats_in os reach ms)

abbrev pub passing_arms : (ItemTree → Bool) → List Opener → List ItemTree → Arms → Option Seat
passing_arms test os reach arms = seat_passing test (seats_in_arms os reach arms)

module _ (test : ItemTree → Bool) (os : List Opener) (reach : List ItemTree) where
  abbrev passes : Seat → Bool
  passes z = test z.item

  pub member_first : (ms : List Member) (i : ℕ) (m : Member) (o : Option Seat) → i < length ms → m ≡ get_or ms i m → o ≡ passing test os reach (member_before m none) → passing test os reach (members_tree (drop i ms)) ≡ option_or o (passing test os reach (members_tree (drop (i + 1) ms)))
  member_first ms i m o lt is here =
      let rest = members_tree (drop (i + 1) ms) in
      left_more (passing test os reach) ms i m lt is ∙ ap (find passes) (before_others os reach m rest)
      ∙ find-append passes (seats_in os reach (member_before m none)) (seats_in os reach rest)
      ∙ ap (λ p. option_or p (passing test os reach rest)) (sym here)

  pub arm_first : (xs : List Arm) (i : ℕ) (a : Arm) (o : Option Seat) → i < length xs → a ≡ get_or xs i a → o ≡ passing_arms test os reach (arm_alone a) → passing_arms test os reach (arms_tree (drop i xs)) ≡ option_or o (passing_arms test os reach (arms_tree (drop (i + 1) xs)))
  arm_first xs i a o lt is here =
      let rest = arms_tree (drop (i + 1) xs) in
      left_arms (passing_arms test os reach) xs i a lt is ∙ ap (find passes) (arm_before rest)
      ∙ find-append passes (seats_in_arms os reach (arm_alone a)) (seats_in_arms os reach rest)
      ∙ ap (λ p. option_or p (passing_arms test os reach rest)) (sym here)
    where
      arm_before : (rest : Arms) → seats_in_arms os reach (arm (item_tree a.head) (members_tree a.body.items) rest) ≡ seats_in_arms os reach (arm_alone a) ++ seats_in_arms os reach rest
      arm_before rest =
          ap (λ zs. seat os reach (item_tree a.head) ∷ (zs ++ seats_in_arms os reach rest)) (sym (append-nil _))

  -- a statement, and what stands behind it
  statement_first : (x : ItemTree) (zs : List Seat) → seat_passing test (seat os reach x ∷ zs) ≡ option_or (seat_if (test x) (seat os reach x)) (seat_passing test zs)
  statement_first x zs = by_test (test x)
    where
      by_test : (b : Bool) → cond b (Some (seat os reach x)) (seat_passing test zs) ≡ option_or (seat_if b (seat os reach x)) (seat_passing test zs)
      by_test true = refl
      by_test false = refl

  or_none : (o : Option Seat) → option_or o None ≡ o
  or_none None = refl
  or_none (Some z) = refl

  pub plain_seat : (m : Member) (x : Item) → m ≡ Plain x → seat_if (test (item_tree x)) (seat os reach (item_tree x)) ≡ passing test os reach (member_before m none)
  plain_seat m x is =
      sym (ap (λ n. passing test os reach (member_before n none)) is ∙ statement_first (item_tree x) [] ∙ or_none (seat_if (test (item_tree x)) (seat os reach (item_tree x))))

  pub loop_seat : (m : Member) (outer : _) → m ≡ Loop outer → option_or (seat_if (test (item_tree outer.head)) (seat os reach (item_tree outer.head))) (passing test (range_of (item_tree outer.head) ∷ os) (own_items (members_tree outer.range.items) ++ reach) (members_tree outer.range.items)) ≡ passing test os reach (member_before m none)
  loop_seat m outer is =
      let head = item_tree outer.head in
      let range = members_tree outer.range.items in
      let inner = seats_in (range_of head ∷ os) (own_items range ++ reach) range in
      sym (ap (λ n. passing test os reach (member_before n none)) is ∙ ap (passing test os reach) (member_before-loop outer none) ∙ ap (λ zs. seat_passing test (seat os reach head ∷ zs)) (append-nil inner) ∙ statement_first head inner)

  pub block_seat : (m : Member) (b : _) → m ≡ Block b → option_or (passing_arms test os reach (arms_tree (out-Block b).arms.items)) (seat_if (test (item_tree (out-Block b).end)) (seat os reach (item_tree (out-Block b).end))) ≡ passing test os reach (member_before m none)
  block_seat m b is =
      let arms = arms_tree (out-Block b).arms.items in
      let end = item_tree (out-Block b).end in
      sym (ap (λ n. passing test os reach (member_before n none)) is ∙ ap (passing test os reach) (member_before-block b none) ∙ find-append passes (seats_in_arms os reach arms) (seat os reach end ∷ []) ∙ ap (option_or (passing_arms test os reach arms)) (statement_first end [] ∙ or_none (seat_if (test end) (seat os reach end))))

  pub arm_seat : (a : Arm) → option_or (seat_if (test (item_tree a.head)) (seat os reach (item_tree a.head))) (passing test (block_of (item_tree a.head) ∷ os) (own_items (members_tree a.body.items) ++ reach) (members_tree a.body.items)) ≡ passing_arms test os reach (arm_alone a)
  arm_seat a =
      let head = item_tree a.head in
      let body = members_tree a.body.items in
      let inner = seats_in (block_of head ∷ os) (own_items body ++ reach) body in
      sym (ap (λ zs. seat_passing test (seat os reach head ∷ zs)) (append-nil inner) ∙ statement_first head inner)

-- ---- the statements of a list

pub own_more : (ms : List Member) (i : ℕ) (m : Member) (piece now next all : List ItemTree) → i < length ms → m ≡ get_or ms i m → ((rest : Members) → own_items (member_before m rest) ≡ piece ++ own_items rest) → next ≡ now ++ piece → now ++ own_items (members_tree (drop i ms)) ≡ all → next ++ own_items (members_tree (drop (i + 1) ms)) ≡ all
own_more ms i m piece now next all lt is here added so_far =
    let rest = members_tree (drop (i + 1) ms) in
    ap (λ xs. xs ++ own_items rest) added ∙ append_assoc now piece (own_items rest)
    ∙ ap (λ xs. now ++ xs) (sym (here rest) ∙ sym (left_more own_items ms i m lt is)) ∙ so_far

pub own_plain : (m : Member) (x : Item) → m ≡ Plain x → (rest : Members) → own_items (member_before m rest) ≡ (item_tree x ∷ []) ++ own_items rest
own_plain m x is rest = ap (λ n. own_items (member_before n rest)) is

pub own_loop : (m : Member) (outer : _) → m ≡ Loop outer → (rest : Members) → own_items (member_before m rest) ≡ (item_tree outer.head ∷ []) ++ own_items rest
own_loop m outer is rest =
    ap (λ n. own_items (member_before n rest)) is ∙ ap own_items (member_before-loop outer rest)

pub own_block : (m : Member) (b : _) → m ≡ Block b → (rest : Members) → own_items (member_before m rest) ≡ (head_of (arms_tree (out-Block b).arms.items) ++ item_tree (out-Block b).end ∷ []) ++ own_items rest
own_block m b is rest =
    ap (λ n. own_items (member_before n rest)) is ∙ ap own_items (member_before-block b rest)
    ∙ sym (append_assoc (head_of (arms_tree (out-Block b).arms.items)) (item_tree (out-Block b).end ∷ []) (own_items rest))

-- ---- they are the statements of the unit, and the rules are told of them

mutual
  pub items_are : (os : List Opener) (reach : List ItemTree) (ms : Members) → map (λ (z : Seat). z.item) (seats_in os reach ms) ≡ flat ms
  items_are os reach none = refl
  items_are os reach (plain x ms) = ap (λ xs. x ∷ xs) (items_are os reach ms)
  items_are os reach (loop x range ms) =
      let inner = seats_in (range_of x ∷ os) (own_items range ++ reach) range in
      ap (λ xs. x ∷ xs) (map-append (λ (z : Seat). z.item) inner (seats_in os reach ms) ∙ ap₂ ◌++◌ (items_are _ _ range) (items_are os reach ms))
  items_are os reach (block arms x ms) =
      map-append (λ (z : Seat). z.item) (seats_in_arms os reach arms) (seat os reach x ∷ seats_in os reach ms)
      ∙ ap₂ (λ xs ys. xs ++ (x ∷ ys)) (arm_items_are os reach arms) (items_are os reach ms)

  arm_items_are : (os : List Opener) (reach : List ItemTree) (arms : Arms) → map (λ (z : Seat). z.item) (seats_in_arms os reach arms) ≡ flat_arms arms
  arm_items_are os reach no_arms = refl
  arm_items_are os reach (arm x ms arms) =
      let inner = seats_in (block_of x ∷ os) (own_items ms ++ reach) ms in
      ap (λ xs. x ∷ xs) (map-append (λ (z : Seat). z.item) inner (seats_in_arms os reach arms) ∙ ap₂ ◌++◌ (items_are _ _ ms) (arm_items_are os reach arms))

module _ (breaks : Around → ItemTree → Bool) (rule : Rule) where
  abbrev told_here : Seat → List Broken
  told_here z = broken_if (breaks (around_at z) z.item) z.item.line rule

  mutual
    unfolding told_in told_in_arms

    pub told_are : (os : List Opener) (reach : List ItemTree) (ms : Members) → told_in breaks rule (around_by os reach) ms ≡ flat_map told_here (seats_in os reach ms)
    told_are os reach none = refl
    told_are os reach (plain x ms) = ap (λ bs. told_here (seat os reach x) ++ bs) (told_are os reach ms)
    told_are os reach (loop x range ms) =
        let inner = seats_in (range_of x ∷ os) (own_items range ++ reach) range in
        ap (λ bs. told_here (seat os reach x) ++ bs) (ap₂ ◌++◌ (told_are (range_of x ∷ os) (own_items range ++ reach) range) (told_are os reach ms) ∙ sym (flat_map-append told_here inner (seats_in os reach ms)))
    told_are os reach (block arms x ms) =
        ap₂ (λ bs cs. bs ++ (told_here (seat os reach x) ++ cs)) (arms_told_are os reach arms) (told_are os reach ms)
        ∙ sym (flat_map-append told_here (seats_in_arms os reach arms) (seat os reach x ∷ seats_in os reach ms))

    arms_told_are : (os : List Opener) (reach : List ItemTree) (arms : Arms) → told_in_arms breaks rule (around_by os reach) arms ≡ flat_map told_here (seats_in_arms os reach arms)
    arms_told_are os reach no_arms = refl
    arms_told_are os reach (arm x ms arms) =
        let inner = seats_in (block_of x ∷ os) (own_items ms ++ reach) ms in
        ap (λ bs. told_here (seat os reach x) ++ bs) (ap₂ ◌++◌ (told_are (block_of x ∷ os) (own_items ms ++ reach) ms) (arms_told_are os reach arms) ∙ sym (flat_map-append told_here inner (seats_in_arms os reach arms)))

pub seats_told : (t : Nested) → SeatsTell t
seats_told t = record {
  items = items_are [] (own_items t.body) t.body;
  told = λ breaks rule. told_are breaks rule [] (own_items t.body) t.body;
}
