-- A front where no rule is broken can go on to a whole program unit.
use Rattle.std.proofs.Common.{◌≡◌, ℕ, zero, suc, ◌≤◌, Bool, true, false, List, [], ◌∷◌, ◌++◌, length, Option, Some, None, refl, ap, subst, ◌∙◌, arith}
use Rattle.std.specs.Prelude.{◌&&◌}
use Rattle.std.specs.List.{AllByRecursion}
use Rattle.meaning.specs.Syntax.{ItemTree, continuing, ending, end_if, end_do}
use Rattle.meaning.specs.Trees.{Members, none, plain, loop, block, Arms, flatten}
use Rattle.meaning.specs.Nesting.{Unfinished, ended, body, range, branch, in_range, is_label_named, closes_range, closes_block, closes_unit, stands, start, levels, is_ended, is_named, is_hidden, joined, with_arm, IsOrdered, NestsAs, IsViable, add, past, behind, innermost, first_broken}
use Rattle.nesting_laws.proofs.Names.{none_named, none_hidden, same_label, hidden_behind_same}
use Rattle.nesting_laws.proofs.Clear.{IsClearOf}
use Rattle.nesting_laws.proofs.Sound.{IsSound, add_closing, add_longer}
use Rattle.nesting_laws.proofs.Passed.{IsUnbroken, past_is, past_sound, behind_sound, behind_text}
use Rattle.nesting_laws.proofs.Ordered.{IsInOrder, IsLate, unbroken_of, unbroken_is, in_order_of, in_order_left, in_order_more, ordered_of, in_order_is}
use Rattle.nesting_laws.proofs.Goes.{Goes, goes_one, goes_both, front_unbroken}
use Rattle.nesting_laws.proofs.Read.{ended_nests}
use Rattle.nesting_laws.proofs.Complete.{goes_unit}

abbrev an_end : ItemTree
an_end = record { line = 1; label = None; shape = ending }

abbrev an_end_do : ItemTree
an_end_do = record { line = 1; label = None; shape = end_do }

abbrev an_end_if : ItemTree
an_end_if = record { line = 1; label = None; shape = end_if }

abbrev a_continue : ℕ → ItemTree
a_continue s = record { line = 1; label = Some s; shape = continuing }

-- statements with which what is open ends
record CanEnd (z : Unfinished) : Type 0 where
  more : List ItemTree
  last : Unfinished
  goes : Goes z more last
  ends : is_ended last ≡ true
  late : AllByRecursion IsLate more

add_fewer : (z : Unfinished) (l : Option ℕ) (more : Members) → length (levels (add l more z)) ≤ length (levels z)
add_fewer (ended ms) l more = omega arith
add_fewer (body ms) l more = omega arith
add_fewer (range head s ms around) l more = by_test (is_label_named l s) refl (add_fewer around l (loop head (joined ms more) none))
  where
    by_test : (b : Bool) → is_label_named l s ≡ b → length (levels (add l (loop head (joined ms more) none) around)) ≤ length (levels around)
        → length (levels (add l more (range head s ms around))) ≤ suc (length (levels around))
    by_test true b rec = rw (add_closing l more head s ms around b) (omega arith)
    by_test false b rec = rw (add_longer l more head s ms around b) (omega arith)
add_fewer (branch arms head ms around) l more = omega arith

not_both : (b : Bool) → (b && false) ≡ false
not_both true = refl
not_both false = refl

clear_continue : (head : ItemTree) (s : ℕ) (ms : Members) (around : Unfinished) → is_hidden (Some s) (levels around) ≡ false → IsClearOf (range head (Some s) ms around) (a_continue s)
clear_continue head s ms around h = record {
  goes_on = refl;
  placed = refl;
  closes = record { unhidden = hidden_behind_same (Some s) (Some s) (levels around) (same_label s) ∙ h; terminal = not_both (is_named (Some s) (in_range (Some s) ∷ levels around)) };
  uncrossed = none_hidden (in_range (Some s) ∷ levels around);
  outside = refl;
  ended_do = refl;
  shallow = refl;
}

clear_an_end_do : (head : ItemTree) (ms : Members) (around : Unfinished) → IsClearOf (range head None ms around) an_end_do
clear_an_end_do head ms around = record {
  goes_on = refl;
  placed = refl;
  closes = record { unhidden = none_named (levels around); terminal = not_both (is_named None (in_range None ∷ levels around)) };
  uncrossed = none_named (levels around);
  outside = refl;
  ended_do = none_named (levels around);
  shallow = refl;
}

clear_end_if : (arms : Arms) (head : ItemTree) (ms : Members) (around : Unfinished) → IsClearOf (branch arms head ms around) an_end_if
clear_end_if arms head ms around = record {
  goes_on = refl;
  placed = refl;
  closes = record { unhidden = none_named (levels around); terminal = rw (none_named (levels around)) refl };
  uncrossed = none_named (levels around);
  outside = refl;
  ended_do = refl;
  shallow = refl;
}

clear_last : (ms : Members) → IsClearOf (body ms) an_end
clear_last ms = record { goes_on = refl; placed = refl; closes = record { unhidden = refl; terminal = refl }; uncrossed = refl; outside = refl; ended_do = refl; shallow = refl }

one_more : (z : Unfinished) (x : ItemTree) (y : Unfinished) → IsLate x → Goes z (x ∷ []) y → CanEnd y → CanEnd z
one_more z x y t g c = record { more = x ∷ c.more; last = c.last; goes = goes_both z (x ∷ []) c.more y c.last g c.goes; ends = c.ends; late = (t, c.late) }

can_end : (n : ℕ) (z : Unfinished) → length (levels z) ≤ n → IsSound z → CanEnd z
can_end n (ended ms) fits h = record { more = []; last = ended ms; goes = record { unbroken = tt; reached = refl }; ends = refl; late = tt }
can_end n (body ms) fits h =
    let closed = ended (joined ms (plain an_end none)) in
    record { more = an_end ∷ []; last = closed; goes = goes_one (body ms) an_end closed (clear_last ms) (past_is (body ms) an_end closes_unit refl); ends = refl; late = (refl, tt) }
can_end zero (range head s ms around) fits h = absurd (omega arith)
can_end zero (branch arms head ms around) fits h = absurd (omega arith)
can_end (suc n) (range head None ms around) fits h =
    let z = range head None ms around in
    let k = clear_an_end_do head ms around in
    let z1 = add None (loop head (joined ms (plain an_end_do none)) none) around in
    let on : past z an_end_do ≡ z1 = past_is z an_end_do closes_range refl in
    let fewer : length (levels z1) ≤ n = let g = add_fewer around None (loop head (joined ms (plain an_end_do none)) none) in omega arith in
    one_more z an_end_do z1 refl (goes_one z an_end_do z1 k on) (can_end n z1 fewer (subst IsSound on (past_sound z an_end_do h k)))
can_end (suc n) (range head (Some s) ms around) fits h =
    let z = range head (Some s) ms around in
    let x = a_continue s in
    let k = clear_continue head s ms around h.0.unhidden in
    let z1 = add (Some s) (loop head (joined ms (plain x none)) none) around in
    let on : past z x ≡ z1 = past_is z x (stands true) refl ∙ add_closing (Some s) (plain x none) head (Some s) ms around (same_label s) in
    let fewer : length (levels z1) ≤ n = let g = add_fewer around (Some s) (loop head (joined ms (plain x none)) none) in omega arith in
    one_more z x z1 refl (goes_one z x z1 k on) (can_end n z1 fewer (subst IsSound on (past_sound z x h k)))
can_end (suc n) (branch arms head ms around) fits h =
    let z = branch arms head ms around in
    let k = clear_end_if arms head ms around in
    let z1 = add None (block (with_arm arms head ms) an_end_if none) around in
    let on : past z an_end_if ≡ z1 = past_is z an_end_if closes_block refl in
    let fewer : length (levels z1) ≤ n = let g = add_fewer around None (block (with_arm arms head ms) an_end_if none) in omega arith in
    one_more z an_end_if z1 refl (goes_one z an_end_if z1 k on) (can_end n z1 fewer (subst IsSound on (past_sound z an_end_if h k)))

pub unbroken_viable : (xs : List ItemTree) → first_broken [] start xs ≡ None → IsViable xs
unbroken_viable xs h =
    let z = behind start xs in
    let u = unbroken_of [] start xs h in
    let c = can_end (length (levels z)) z (omega arith) (behind_sound start xs tt u) in
    let all = xs ++ c.more in
    let g = goes_both start xs c.more z c.last (record { unbroken = u; reached = refl }) c.goes in
    let ordered : IsOrdered all = ordered_of all (in_order_more [] xs c.more (in_order_of [] start xs h) c.late) in
    let nests : NestsAs all (record { body = innermost (behind start all) }) =
    ended_nests (behind start all) all (ap is_ended g.reached ∙ c.ends) (behind_sound start all tt g.unbroken) (behind_text start all g.unbroken) ordered in
    record { more = c.more; whole = record { body = innermost (behind start all) }; nests = nests }

pub viable_unbroken : (xs : List ItemTree) → IsViable xs → first_broken [] start xs ≡ None
viable_unbroken xs v =
    let all : IsUnbroken start (xs ++ v.more) = subst (IsUnbroken start) v.nests.order (goes_unit v.whole v.nests.well).unbroken in
    let order : IsInOrder [] (xs ++ v.more) = subst (IsInOrder []) v.nests.order (in_order_is (flatten v.whole) v.nests.well.ordered) in
    unbroken_is [] start xs (in_order_left [] xs v.more order) (front_unbroken start xs v.more all)
