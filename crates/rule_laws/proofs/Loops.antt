-- The variables that a program unit that keeps the rules counts with are variables.
use Rattle.std.proofs.Common.{◌≡◌, ℕ, Bool, true, false, ◌||◌, List, [], ◌∷◌, ◌++◌, map, Ok, refl, sym, ap, ◌∙◌}
use Rattle.std.specs.List.{AllByRecursion, list_any}
use Rattle.std.specs.Str.{bytes_eq}
use Rattle.std.proofs.lemmas.List.{map-append}
use Rattle.std.proofs.lemmas.List.Folds.{list_any-append}
use Rattle.std.proofs.lemmas.Slice.Eq.{bytes_eq-Decides}
use Rattle.meaning.specs.declared.refusal.Rule.{Rule}
use Rattle.meaning.specs.declared.refusal.Rule.TheVariants.{K2, K9}
use Rattle.meaning.specs.LabelRules.{breaks_transfers}
use Rattle.meaning.specs.LoopRules.{breaks_loops, is_no_counter}
use Rattle.meaning.specs.Rules.{broken_items, broken_lists, checked}
use Rattle.meaning.specs.Statements.{broken_if}
use Rattle.meaning.specs.Surroundings.{Around, controlled_by, in_arm, in_body, in_range, loop_variables, told_in, told_in_arms}
use Rattle.meaning.specs.Syntax.{ItemTree, ListItemsTree, no_items, more_items, value_item, loop_item, ShapeTree, doing, logical_if, printing, writing}
use Rattle.meaning.specs.Trees.{Arms, Members, Nested, arm, block, flat, flat_arms, flatten, loop, no_arms, none, plain}
use Rattle.meaning.specs.Typing.{clash, logical_type}
use Rattle.meaning.specs.Uses.{Parts, Symbols, Use, bare_use, is_other, item_uses, limit_uses, parts_of, symbols_of, unit_uses, uses_in, value_uses}
use Rattle.storage.proofs.Unbroken.{none_front, nothing_broken}
use Rattle.rule_laws.proofs.Tests.{all_both, all_turned, and_true, none_any, not_true, or_parts, or_true}
use Rattle.rule_laws.proofs.Unbroken.{none_behind, not_told}

-- ---- rules on statements in their lists

-- it breaks none in what it stands in
pub record IsUnbroken (breaks : Around → ItemTree → Bool) (x : ItemTree) : Type 0 where
  pub around : Around
  pub holds : breaks around x ≡ false

module _ (breaks : Around → ItemTree → Bool) (rule : Rule) where
  abbrev AreUnbroken : List ItemTree → Type 0
  AreUnbroken xs = AllByRecursion (IsUnbroken breaks) xs

  here : (a : Around) (x : ItemTree) → broken_if (breaks a x) x.line rule ≡ [] → IsUnbroken breaks x
  here a x h = record { around = a; holds = not_told (breaks a x) x.line rule h }

  mutual
    unfolding told_in

    pub lists_unbroken : (a : Around) (ms : Members) → told_in breaks rule a ms ≡ [] → AreUnbroken (flat ms)
    lists_unbroken a none h = tt
    lists_unbroken a (plain x ms) h =
        (here a x (none_front (broken_if (breaks a x) x.line rule) (told_in breaks rule a ms) h), lists_unbroken a ms (none_behind (broken_if (breaks a x) x.line rule) (told_in breaks rule a ms) h))
    lists_unbroken a (loop x range ms) h =
        let rest = none_behind (broken_if (breaks a x) x.line rule) (told_in breaks rule (in_range a x range) range ++ told_in breaks rule a ms) h in (
          here a x (none_front (broken_if (breaks a x) x.line rule) _ h),
          all_both (IsUnbroken breaks) (flat range) (flat ms) (lists_unbroken (in_range a x range) range (none_front (told_in breaks rule (in_range a x range) range) (told_in breaks rule a ms) rest))
              (lists_unbroken a ms (none_behind (told_in breaks rule (in_range a x range) range) (told_in breaks rule a ms) rest)),
        )
    lists_unbroken a (block arms x ms) h =
        let rest = none_behind (told_in_arms breaks rule a arms) (broken_if (breaks a x) x.line rule ++ told_in breaks rule a ms) h in
        all_both (IsUnbroken breaks) (flat_arms arms) (x ∷ flat ms) (arms_unbroken a arms (none_front (told_in_arms breaks rule a arms) _ h))
        (here a x (none_front (broken_if (breaks a x) x.line rule) (told_in breaks rule a ms) rest), lists_unbroken a ms (none_behind (broken_if (breaks a x) x.line rule) (told_in breaks rule a ms) rest))

    arms_unbroken : (a : Around) (arms : Arms) → told_in_arms breaks rule a arms ≡ [] → AreUnbroken (flat_arms arms)
    arms_unbroken a no_arms h = tt
    arms_unbroken a (arm x ms arms) h =
        let rest = none_behind (broken_if (breaks a x) x.line rule) (told_in breaks rule (in_arm a ms) ms ++ told_in_arms breaks rule a arms) h in (
          here a x (none_front (broken_if (breaks a x) x.line rule) _ h),
          all_both (IsUnbroken breaks) (flat ms) (flat_arms arms) (lists_unbroken (in_arm a ms) ms (none_front (told_in breaks rule (in_arm a ms) ms) (told_in_arms breaks rule a arms) rest))
              (arms_unbroken a arms (none_behind (told_in breaks rule (in_arm a ms) ms) (told_in_arms breaks rule a arms) rest)),
        )

pub loops_unbroken : (t : Nested) → checked t ≡ Ok t → AllByRecursion (IsUnbroken (breaks_loops (symbols_of (flatten t)))) (flatten t)
loops_unbroken t accepted =
    let r = symbols_of (flatten t) in
    let lists = none_behind (broken_items r (flatten t)) (broken_lists r t) (nothing_broken t accepted) in
    lists_unbroken (breaks_loops r) K9 (in_body t.body) t.body (none_behind (told_in (breaks_transfers r (flatten t)) K2 (in_body t.body) t.body) _ lists)

-- a variable
counter_other : (r : Symbols) (n : List ℕ) → is_no_counter r n ≡ false → is_other r n ≡ true
counter_other r n h = (and_true (is_other r n) (clash logical_type (r.names.types n)) (not_true _ h)).0

pub counters_are_others : (r : Symbols) (x : ItemTree) → IsUnbroken (breaks_loops r) x → AllByRecursion (λ n. is_other r n ≡ true) (controlled_by x.shape)
counters_are_others r x u =
    all_turned (λ n. is_no_counter r n ≡ false) (λ n. is_other r n ≡ true) (counter_other r) (controlled_by x.shape)
    (none_any (is_no_counter r) (controlled_by x.shape) (or_parts (list_any (is_no_counter r) (controlled_by x.shape)) _ u.holds).0)

-- ---- they are among the names that the statement uses

abbrev pub IsAmong : List Use → List ℕ → Type 0
IsAmong us n = list_any (bytes_eq n) (map (λ u. u.name) us) ≡ true

in_both : (a b : List Use) (n : List ℕ) → list_any (bytes_eq n) (map (λ u. u.name) (a ++ b)) ≡ (list_any (bytes_eq n) (map (λ u. u.name) a) || list_any (bytes_eq n) (map (λ u. u.name) b))
in_both a b n =
    ap (list_any (bytes_eq n)) (map-append (λ (u : Use). u.name) a b) ∙ list_any-append (bytes_eq n) (map (λ u. u.name) a) (map (λ u. u.name) b)

pub in_front : (a b : List Use) (n : List ℕ) → IsAmong a n → IsAmong (a ++ b) n
in_front a b n h = in_both a b n ∙ ap (λ c. c || list_any (bytes_eq n) (map (λ u. u.name) b)) h

pub in_back : (a b : List Use) (n : List ℕ) → IsAmong b n → IsAmong (a ++ b) n
in_back a b n h = in_both a b n ∙ ap (λ c. list_any (bytes_eq n) (map (λ u. u.name) a) || c) h ∙ or_true (list_any (bytes_eq n) (map (λ u. u.name) a))

pub is_first : (n : List ℕ) (us : List Use) → IsAmong (bare_use n ∷ us) n
is_first n us = ap (λ b. b || list_any (bytes_eq n) (map (λ u. u.name) us)) ((bytes_eq-Decides n n).1 refl)

module _ (r : Symbols) where
  items_among : (list : ListItemsTree) → AllByRecursion (IsAmong (item_uses r list)) (loop_variables list)
  items_among no_items = tt
  items_among (more_items (value_item e) xs) =
      all_turned (IsAmong (item_uses r xs)) (IsAmong (value_uses r e ++ item_uses r xs)) (in_back (value_uses r e) (item_uses r xs)) (loop_variables xs) (items_among xs)
  items_among (more_items (loop_item ys variable limits) xs) =
      let behind = bare_use variable ∷ (limit_uses limits ++ item_uses r xs) in (
        in_back (item_uses r ys) behind variable (is_first variable (limit_uses limits ++ item_uses r xs)),
        all_both (IsAmong (item_uses r ys ++ behind)) (loop_variables ys) (loop_variables xs)
            (all_turned (IsAmong (item_uses r ys)) (IsAmong (item_uses r ys ++ behind)) (in_front (item_uses r ys) behind) (loop_variables ys) (items_among ys))
            (all_turned (IsAmong (item_uses r xs)) (IsAmong (item_uses r ys ++ behind)) (λ n h. in_back (item_uses r ys) behind n (in_back (bare_use variable ∷ limit_uses limits) (item_uses r xs) n h)) (loop_variables xs) (items_among xs)),
      )

  abbrev pub used : Parts → List Use
  used p = p.sets ++ p.reads

  pub counters_among : (defines : Bool) (s : ShapeTree) → AllByRecursion (IsAmong (used (parts_of r defines s))) (controlled_by s)
  counters_among defines (doing label comma variable limits) = (is_first variable (limit_uses limits), tt)
  counters_among defines (writing control list) =
      all_turned (IsAmong (item_uses r list)) (IsAmong (unit_uses control.unit ++ item_uses r list)) (in_back (unit_uses control.unit) (item_uses r list)) (loop_variables list) (items_among list)
  counters_among defines (printing source list) = items_among list
  counters_among defines (logical_if e s) =
      let p = parts_of r false s in
      all_turned (IsAmong (used p)) (IsAmong (p.sets ++ (uses_in e ++ p.reads))) (between p.sets (uses_in e) p.reads) (controlled_by s) (counters_among false s)
    where
      between : (a b c : List Use) (n : List ℕ) → IsAmong (a ++ c) n → IsAmong (a ++ (b ++ c)) n
      between a b c n h = by (list_any (bytes_eq n) (map (λ u. u.name) a)) refl (sym (in_both a c n) ∙ h)
        where
          by : (t : Bool) → list_any (bytes_eq n) (map (λ u. u.name) a) ≡ t → (list_any (bytes_eq n) (map (λ u. u.name) a) || list_any (bytes_eq n) (map (λ u. u.name) c)) ≡ true → IsAmong (a ++ (b ++ c)) n
          by true is k = in_front a (b ++ c) n is
          by false is k = in_back a (b ++ c) n (in_back b c n (sym (ap (λ t. t || list_any (bytes_eq n) (map (λ u. u.name) c)) is) ∙ k))
  counters_among defines s = tt
