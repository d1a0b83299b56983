-- Initial lines that ascend along the lists in a list, and what is kept by them.
use Rattle.std.proofs.Common.{◌≡◌, ◌<◌, ◌≤◌, ◌^◌, ℕ, zero, suc, ◌+◌, List, [], ◌∷◌, ◌++◌, append-nil, length, map, get_or, drop, Option, Some, None, Result, Ok, Err, refl, sym, ap, subst, ◌∙◌, arith}
use Rattle.std.specs.Prelude.{IfOk}
use Rattle.std.specs.Borrow.{Bor}
use Rattle.std.specs.List.{AllByRecursion}
use Rattle.std.proofs.lemmas.List.{drop_more}
use Rattle.meaning.specs.declared.syntax.Arm.{Arm}
use Rattle.meaning.specs.declared.syntax.Block.{Block', out-Block}
use Rattle.meaning.specs.declared.syntax.Item.{Item}
use Rattle.meaning.specs.declared.syntax.Loop.{Loop as LoopOf, out-Loop}
use Rattle.meaning.specs.declared.syntax.Member.{Member, Plain, Loop, Loop', Block}
use Rattle.meaning.specs.Syntax.{ItemTree}
use Rattle.meaning.specs.Trees.{Members, none, plain, loop, block, Arms, no_arms, arm, arms_tree, flat, flat_arms, member_before, members_tree}
use Rattle.meaning.proofs.Ranges.{left_arms, left_more, member_before-block, member_before-loop}
use Rattle.symbols.specs.Listed.{tree_at, trees_at}
use Rattle.program.specs.declared.lists.Lists.{Lists}
use Rattle.program.specs.Prepared.{first_line}
use Rattle.rule_laws.specs.Units.{Ascend}
use Rattle.lowering.specs.Lines.{BeginsFilled, Climb, HasFilled, IsFilled, lines_of, within, within_arms}

abbrev pub Climbs : ℕ → ℕ → List ItemTree → Type 0
Climbs p q xs = Climb p q (lines_of xs)

-- ---- lines that ascend

pub climbs_most : (p q : ℕ) (xs : List ItemTree) → Climbs p q xs → p ≤ q
climbs_most p q [] h = h
climbs_most p q (x ∷ xs) h =
    let low = h.0 in let rest = climbs_most (suc x.line) q xs h.1 in omega (arith, low, rest)

pub climbs_from : (p r q : ℕ) (xs : List ItemTree) → p ≤ r → Climbs r q xs → Climbs p q xs
climbs_from p r q [] le h = omega (arith, le, h)
climbs_from p r q (x ∷ xs) le h = (let low = h.0 in omega (arith, le, low), h.1)

behind_one : (p q : ℕ) (x : ItemTree) (xs : List ItemTree) → Climbs p q (x ∷ xs) → Climbs p q xs
behind_one p q x xs h = climbs_from p (suc x.line) q xs (let low = h.0 in omega (arith, low)) h.1

pub record Parts (p q : ℕ) (xs ys : List ItemTree) : Type 0 where
  pub middle : ℕ
  pub front : Climbs p middle xs
  pub back : Climbs middle q ys

pub parts : (p q : ℕ) (xs ys : List ItemTree) → Climbs p q (xs ++ ys) → Parts p q xs ys
parts p q [] ys h = record { middle = p; front = omega arith; back = h }
parts p q (x ∷ xs) ys h =
    let r = parts (suc x.line) q xs ys h.1 in record { middle = r.middle; front = (h.0, r.front); back = r.back }

both : (p m q : ℕ) (xs ys : List ItemTree) → Climbs p m xs → Climbs m q ys → Climbs p q (xs ++ ys)
both p m q [] ys h k = climbs_from p m q ys h k
both p m q (x ∷ xs) ys h k = (h.0, both (suc x.line) m q xs ys h.1 k)

-- behind the same statements there may be others
exchanged : (p q : ℕ) (xs ys zs : List ItemTree) → ((m : ℕ) → Climbs m q ys → Climbs m q zs) → Climbs p q (xs ++ ys) → Climbs p q (xs ++ zs)
exchanged p q xs ys zs turn h = let r = parts p q xs ys h in both p r.middle q xs zs r.front (turn r.middle r.back)

-- ---- statements behind references

pub all_at : {A B : Type 0} (P : B → Type 0) (f : A → B) (xs : List A) (i : ℕ) (x : A) → i < length xs → x ≡ get_or xs i x → AllByRecursion P (map f xs) → P (f x)
all_at P f [] i x lt is h = absurd (omega (arith, lt))
all_at P f (y ∷ xs) zero x lt is h = subst (λ z. P (f z)) (sym is) h.0
all_at P f (y ∷ xs) (suc i) x lt is h = all_at P f xs i x (omega (arith, lt)) is h.1

-- at one of them, and behind it
pub line_behind : (ms : List (Bor Item)) (i : ℕ) (m : Bor Item) (p : ℕ) → i < length ms → m ≡ get_or ms i m → Climbs p (2 ^ 16) (trees_at (drop i ms)) → (p ≤ (tree_at m).line) × ((tree_at m).line < 2 ^ 16) × Climbs ((tree_at m).line + 1) (2 ^ 16) (trees_at (drop (i + 1) ms))
line_behind ms i m p lt is h =
    let rest = trees_at (drop (i + 1) ms) in
    let here = subst (Climbs p (2 ^ 16)) (ap trees_at (drop_more ms i m lt) ∙ ap (λ x. trees_at (x ∷ drop (i + 1) ms)) (sym is)) h in
    let most = climbs_most (suc (tree_at m).line) (2 ^ 16) rest here.1 in
    (here.0, omega (arith, most), subst (λ n. Climbs n (2 ^ 16) rest) (suc_is (tree_at m).line) here.1)
  where
    suc_is : (n : ℕ) → suc n ≡ n + 1
    suc_is n = omega arith

-- ---- initial lines of a source

pub climb_by : (least : ℕ) (ns : List ℕ) → least ≤ 65536 → Ascend least 65535 ns → Climb least (2 ^ 16) ns
climb_by least [] le h = omega (arith, le)
climb_by least (n ∷ ns) le h = let high = h.1 in (h.0, climb_by (suc n) ns (omega (arith, high)) h.2)

-- ---- those of the lists in a list

arms_climb : (arms : Arms) (p q : ℕ) → Climbs p q (flat_arms arms) → Climbs p q (within_arms arms)
arms_climb no_arms p q h = h
arms_climb (arm x ms arms) p q h =
    exchanged p q (flat ms) (flat_arms arms) (within_arms arms) (λ m k. arms_climb arms m q k) (behind_one p q x (flat ms ++ flat_arms arms) h)

inner_climb : (ms : Members) (p q : ℕ) → Climbs p q (flat ms) → Climbs p q (within ms)
inner_climb none p q h = h
inner_climb (plain x ms) p q h = inner_climb ms p q (behind_one p q x (flat ms) h)
inner_climb (loop x range ms) p q h =
    exchanged p q (flat range) (flat ms) (within ms) (λ m k. inner_climb ms m q k) (behind_one p q x (flat range ++ flat ms) h)
inner_climb (block arms x ms) p q h =
    let r = parts p q (flat_arms arms) (x ∷ flat ms) h in
    both p r.middle q (within_arms arms) (within ms) (arms_climb arms p r.middle r.front) (inner_climb ms r.middle q (behind_one r.middle q x (flat ms) r.back))

-- behind its first statement
record Begins (p q line : ℕ) (ms : Members) : Type 0 where
  pub low : p ≤ line
  pub high : line < q
  pub inner : Climbs (suc line) q (within ms)

begins_by : (p q : ℕ) (x : ItemTree) (rest : List ItemTree) (ms : Members) → Climbs p q (x ∷ rest) → (Climbs (suc x.line) q rest → Climbs (suc x.line) q (within ms)) → Begins p q x.line ms
begins_by p q x rest ms h turn =
    record { low = h.0; high = (let most = climbs_most (suc x.line) q rest h.1 in omega (arith, most)); inner = turn h.1 }

begins : (ms : Members) (p q line : ℕ) → first_line ms ≡ Some line → Climbs p q (flat ms) → Begins p q line ms
begins none p q line is h = absurd cc
begins (plain x ms) p q line is h =
    let same : x.line ≡ line = cc in
    subst (λ n. Begins p q n (plain x ms)) same (begins_by p q x (flat ms) (plain x ms) h (λ k. inner_climb ms (suc x.line) q k))
begins (loop x range ms) p q line is h =
    let same : x.line ≡ line = cc in
    subst (λ n. Begins p q n (loop x range ms)) same (begins_by p q x (flat range ++ flat ms) (loop x range ms) h (λ k. exchanged (suc x.line) q (flat range) (flat ms) (within ms) (λ m l. inner_climb ms m q l) k))
begins (block no_arms x ms) p q line is h = absurd cc
begins (block (arm y body arms) x ms) p q line is h =
    let same : y.line ≡ line = cc in
    subst (λ n. Begins p q n (block (arm y body arms) x ms)) same (begins_by p q y ((flat body ++ flat_arms arms) ++ (x ∷ flat ms)) (block (arm y body arms) x ms) h turn)
  where
    turn : Climbs (suc y.line) q ((flat body ++ flat_arms arms) ++ (x ∷ flat ms)) → Climbs (suc y.line) q ((flat body ++ within_arms arms) ++ within ms)
    turn k =
        let r = parts (suc y.line) q (flat body ++ flat_arms arms) (x ∷ flat ms) k in
        both (suc y.line) r.middle q (flat body ++ within_arms arms) (within ms)
        (exchanged (suc y.line) r.middle (flat body) (flat_arms arms) (within_arms arms) (λ m l. arms_climb arms m r.middle l) r.front)
        (inner_climb ms r.middle q (behind_one r.middle q x (flat ms) r.back))

-- ---- a list's own orders

few_lines : (many lines line q : ℕ) → many ≤ lines → lines ≤ line → line < q → q ≤ 2 ^ 16 → many < 2 ^ 31
few_lines many lines line q few low high le = omega (arith, few, low, high, le)

module _ (old : Lists) (ms : Members) (line : ℕ) (first : Some line ≡ first_line ms) (filled : IsFilled old (2 ^ 16) (flat ms)) where
  begin : Begins (length old.places.items) (2 ^ 16) line ms
  begin = begins ms (length old.places.items) (2 ^ 16) line (sym first) filled.lines

  pub is_behind : length old.places.items ≤ line
  is_behind = begin.low

  pub are_few : length old.lists.items < 2 ^ 31
  are_few = few_lines (length old.lists.items) (length old.places.items) line (2 ^ 16) filled.few begin.low begin.high (omega arith)

  pub own_filled : {X E : Type 0} (r : Result X E) (new : Lists) → IfOk r (λ _. length new.places.items ≡ line + 1) → IfOk r (λ _. length new.lists.items ≡ length old.lists.items + 1) → IfOk r (λ _. BeginsFilled old new ms)
  own_filled (Ok x) new long many =
      record {
        lines = λ q h. subst (λ n. Climbs n q (within ms)) (suc_is line ∙ sym long) (begins ms (length old.places.items) q line (sym first) h).inner;
        few = let few = filled.few in let low = begin.low in omega (arith, few, low, long, many);
      }
    where
      suc_is : (n : ℕ) → suc n ≡ n + 1
      suc_is n = omega arith
  own_filled (Err e) new long many = tt

pub none_filled : (old : Lists) (ms : Members) → IsFilled old (2 ^ 16) (flat ms) → BeginsFilled old old ms
none_filled old ms filled =
    record { lines = λ q h. inner_climb ms (length old.places.items) q h; few = filled.few }

pub begun : (old middle : Lists) (ms : Members) → IsFilled old (2 ^ 16) (flat ms) → BeginsFilled old middle ms → IsFilled middle (2 ^ 16) (within ms)
begun old middle ms filled b = record { lines = b.lines (2 ^ 16) filled.lines; few = b.few }

pub filled_own : {X E : Type 0} (r : Result X E) (old middle new : Lists) (ms : Members) → BeginsFilled old middle ms → IfOk r (λ _. HasFilled middle new (within ms)) → IfOk r (λ _. HasFilled old new (flat ms))
filled_own (Ok x) old middle new ms b h = record { below = λ q k. h.below q (b.lines q k); few = h.few }
filled_own (Err e) old middle new ms b h = tt

-- ---- one behind another

-- so far; there is room for what is left
pub record FillsBut (old now : Lists) (these left : List ItemTree) : Type 0 where
  pub lines : (q : ℕ) → Climbs (length old.places.items) q these → Climbs (length now.places.items) q left
  pub few : length now.lists.items ≤ length now.places.items

pub none_yet : (old : Lists) (xs : List ItemTree) → IsFilled old (2 ^ 16) xs → FillsBut old old xs xs
none_yet old xs filled = record { lines = λ q h. h; few = filled.few }

pub all_filled : (old now : Lists) (these left : List ItemTree) → left ≡ [] → FillsBut old now these left → HasFilled old now these
all_filled old now these left is h =
    record { below = λ q k. subst (Climbs (length now.places.items) q) is (h.lines q k); few = h.few }

module _ (old now : Lists) (these left front back : List ItemTree) (is : left ≡ front ++ back) (h : FillsBut old now these left) where
  room : IsFilled old (2 ^ 16) these → Parts (length now.places.items) (2 ^ 16) front back
  room filled =
      parts (length now.places.items) (2 ^ 16) front back (subst (Climbs (length now.places.items) (2 ^ 16)) is (h.lines (2 ^ 16) filled.lines))

  pub room_left : IsFilled old (2 ^ 16) these → IsFilled now (2 ^ 16) front
  room_left filled =
      let r = room filled in
      let le = climbs_most r.middle (2 ^ 16) back r.back in
      record { lines = climbs_to (length now.places.items) r.middle (2 ^ 16) front le r.front; few = h.few }
    where
      climbs_to : (p r q : ℕ) (xs : List ItemTree) → r ≤ q → Climbs p r xs → Climbs p q xs
      climbs_to p r q [] le k = omega (arith, le, k)
      climbs_to p r q (x ∷ xs) le k = (k.0, climbs_to (suc x.line) r q xs le k.1)

  pub one_filled : (new : Lists) → HasFilled now new front → FillsBut old new these back
  one_filled new more =
      record {
        lines = λ q k.
            let r = parts (length now.places.items) q front back (subst (Climbs (length now.places.items) q) is (h.lines q k)) in
            climbs_from (length new.places.items) r.middle q back (more.below r.middle r.front) r.back;
        few = more.few;
      }

-- ---- members and arms

within_member : (m : Member) (ms : Members) → within (member_before m ms) ≡ within (member_before m none) ++ within ms
within_member (Plain x) ms = refl
within_member (Loop' head shape range) ms = ap (λ xs. xs ++ within ms) (sym (append-nil _))
within_member (Block (Block' shape arms end)) ms = ap (λ xs. xs ++ within ms) (sym (append-nil _))

pub member_left : (ms : List Member) (i : ℕ) (m : Member) → i < length ms → m ≡ get_or ms i m → within (members_tree (drop i ms)) ≡ within (member_before m none) ++ within (members_tree (drop (i + 1) ms))
member_left ms i m lt is =
    ap within (left_more (λ l. l) ms i m lt is) ∙ within_member m (members_tree (drop (i + 1) ms))

pub arm_left : (arms : List Arm) (i : ℕ) (x : Arm) (ms : List Member) → i < length arms → x ≡ get_or arms i x → ms ≡ x.body.items → within_arms (arms_tree (drop i arms)) ≡ flat (members_tree ms) ++ within_arms (arms_tree (drop (i + 1) arms))
arm_left arms i x ms lt is same =
    ap within_arms (left_arms (λ l. l) arms i x lt is) ∙ ap (λ xs. flat (members_tree xs) ++ within_arms (arms_tree (drop (i + 1) arms))) (sym same)

pub in_loop : (m : Member) (l : LoopOf) (ms : List Member) → m ≡ Loop l → ms ≡ (out-Loop l).range.items → within (member_before m none) ≡ flat (members_tree ms)
in_loop m l ms is same =
    ap (λ y. within (member_before y none)) is ∙ ap within (member_before-loop l none) ∙ append-nil (flat (members_tree (out-Loop l).range.items)) ∙ ap (λ xs. flat (members_tree xs)) (sym same)

pub in_block : (m : Member) (b : _) (arms : List Arm) → m ≡ Block b → arms ≡ (out-Block b).arms.items → within (member_before m none) ≡ within_arms (arms_tree arms)
in_block m b arms is same =
    ap (λ y. within (member_before y none)) is ∙ ap within (member_before-block b none) ∙ append-nil (within_arms (arms_tree (out-Block b).arms.items)) ∙ ap (λ xs. within_arms (arms_tree xs)) (sym same)
