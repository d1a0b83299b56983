-- Labels of the statements of a list, one member more.
use Rattle.std.proofs.Common.{◌≡◌, ℕ, ◌+◌, ◌-◌, ◌^◌, ◌<◌, ◌≤◌, Bool, true, false, List, ◌∷◌, ◌++◌, length, get_or, drop, refl, sym, ap, ap₂, ◌∙◌, arith}
use Rattle.std.specs.Prelude.{count_by, cond}
use Rattle.std.proofs.lemmas.List.Sums.{sum_by-append, sum_by-cons}
use Rattle.meaning.specs.declared.syntax.Item.{Item}
use Rattle.meaning.specs.declared.syntax.Member.{Member, Plain, Loop, Block}
use Rattle.meaning.specs.declared.syntax.Block.{out-Block}
use Rattle.meaning.specs.LabelRules.{has_label, is_label_at}
use Rattle.meaning.specs.Surroundings.{head_of, own_items}
use Rattle.meaning.specs.Syntax.{ItemTree}
use Rattle.meaning.specs.Trees.{Members, arms_tree, item_tree, member_before, members_tree}
use Rattle.meaning.proofs.Ranges.{member_before-block, member_before-loop, left_more}
use Rattle.statement_rules.specs.Counted.{one_more, one_less, times}
use Rattle.statement_rules.specs.Reached.{Counts}

pub count_step : (f : ItemTree → Bool) (x : ItemTree) (xs : List ItemTree) → count_by f (x ∷ xs) ≡ one_more (f x) (count_by f xs)
count_step f x xs = sum_by-cons (λ y. cond (f y) 1 0) x xs ∙ ones (f x) (count_by f xs)
  where
    ones : (b : Bool) (n : ℕ) → cond b 1 0 + n ≡ one_more b n
    ones true n = omega arith
    ones false n = omega arith

pub count_append : (f : ItemTree → Bool) (xs ys : List ItemTree) → count_by f (xs ++ ys) ≡ count_by f xs + count_by f ys
count_append f xs ys = sum_by-append (λ y. cond (f y) 1 0) xs ys

pub plain_times : (s : ℕ) (m : Member) (x : Item) (rest : Members) → m ≡ Plain x → times s (member_before m rest) ≡ one_more (is_label_at (item_tree x).label s) (times s rest)
plain_times s m x rest is = ap (λ n. times s (member_before n rest)) is ∙ count_step (has_label s) (item_tree x) (own_items rest)

pub loop_times : (s : ℕ) (m : Member) (outer : _) (rest : Members) → m ≡ Loop outer → times s (member_before m rest) ≡ one_more (is_label_at (item_tree outer.head).label s) (times s rest)
loop_times s m outer rest is =
    ap (λ n. times s (member_before n rest)) is ∙ ap (times s) (member_before-loop outer rest) ∙ count_step (has_label s) (item_tree outer.head) (own_items rest)

pub block_times : (s : ℕ) (m : Member) (b : _) (rest : Members) → m ≡ Block b → times s (member_before m rest) ≡ count_by (has_label s) (head_of (arms_tree (out-Block b).arms.items)) + one_more (is_label_at (item_tree (out-Block b).end).label s) (times s rest)
block_times s m b rest is =
    let end = item_tree (out-Block b).end in
    let arms = arms_tree (out-Block b).arms.items in
    ap (λ n. times s (member_before n rest)) is ∙ ap (times s) (member_before-block b rest)
    ∙ count_append (has_label s) (head_of arms) (end ∷ own_items rest) ∙ ap (λ n. count_by (has_label s) (head_of arms) + n) (count_step (has_label s) end (own_items rest))

-- a label that is counted moves from what is left to what was counted
pub moved_on : (b : Bool) (n k : ℕ) → n + one_more b k ≡ one_more b n + k
moved_on true n k = omega arith
moved_on false n k = refl

pub moved_both : (b c : Bool) (n k : ℕ) → n + one_more c (one_more b k) ≡ (one_more b 0 + one_more c n) + k
moved_both true true n k = omega arith
moved_both true false n k = omega arith
moved_both false true n k = omega arith
moved_both false false n k = omega arith

pub taken_on : (b : Bool) (n k : ℕ) → one_less b k - n ≡ k - one_more b n
taken_on true n k = omega arith
taken_on false n k = refl

pub taken_both : (b c : Bool) (n k : ℕ) → one_less c (one_less b k) - n ≡ k - (one_more b 0 + one_more c n)
taken_both true true n k = omega arith
taken_both true false n k = omega arith
taken_both false true n k = omega arith
taken_both false false n k = omega arith

-- what is left of a list
pub left_times : (s : ℕ) (ms : List Member) (i : ℕ) (m : Member) → i < length ms → m ≡ get_or ms i m → times s (members_tree (drop i ms)) ≡ times s (member_before m (members_tree (drop (i + 1) ms)))
left_times s ms i m lt is = left_more (times s) ms i m lt is

pub zero_sum : (n : ℕ) → 0 + n ≡ n
zero_sum n = omega arith

-- ---- lists that are entered and left

pub counts_more : (old new : ℕ → ℕ) (own items : List ItemTree) → ((s : ℕ) → new s ≡ count_by (has_label s) own + old s) → ((s : ℕ) → 2 ^ 32 ≤ s → count_by (has_label s) own ≡ 0) → Counts old items → Counts new (own ++ items)
counts_more old new own items counted few c = record {
  exact = λ s. counted s ∙ ap (λ n. count_by (has_label s) own + n) (c.exact s) ∙ sym (count_append (has_label s) own items);
  small = λ s le. count_append (has_label s) own items ∙ ap₂ (λ n k. n + k) (few s le) (c.small s le);
}

pub counts_less : (old new : ℕ → ℕ) (own items : List ItemTree) → ((s : ℕ) → new s ≡ old s - count_by (has_label s) own) → Counts old (own ++ items) → Counts new items
counts_less old new own items counted c = record {
  exact = λ s.
      let sum = c.exact s ∙ count_append (has_label s) own items in
      let less = counted s in
      omega arith;
  small = λ s le.
      let sum = sym (count_append (has_label s) own items) ∙ c.small s le in
      omega arith;
}
