-- The pairs of a rule behind others, one statement or one member more.
use Rattle.std.proofs.Common.{◌≡◌, ℕ, ◌+◌, ◌<◌, ◌≤◌, Bool, List, [], ◌∷◌, ◌++◌, length, get_or, take, drop, map, append_assoc, refl, sym, ap, ◌∙◌}
use Rattle.std.proofs.lemmas.List.{append-nil, drop_all}
use Rattle.std.specs.Borrow.{Bor}
use Rattle.meaning.specs.declared.refusal.Broken.{Broken}
use Rattle.meaning.specs.declared.refusal.Rule.{Rule}
use Rattle.meaning.specs.declared.syntax.Item.{Item}
use Rattle.meaning.specs.declared.syntax.Member.{Member, Plain, Loop, Loop', Block}
use Rattle.meaning.specs.declared.syntax.Arm.{Arm}
use Rattle.meaning.specs.declared.syntax.Block.{out-Block, Block'}
use Rattle.meaning.specs.NameRules.{told}
use Rattle.meaning.specs.Statements.{broken_if}
use Rattle.meaning.specs.Surroundings.{Around, in_range, in_arm, told_in, told_in_arms}
use Rattle.meaning.specs.Syntax.{ItemTree}
use Rattle.meaning.specs.Trees.{Members, none, plain, loop, block, Arms, no_arms, arm, arms_tree, item_tree, member_before, members_tree, row_arms, row_members}
use Rattle.meaning.proofs.Ranges.{member_before-block, member_before-loop, left_arms, left_more}
use Rattle.rule_passes.specs.Listed.{tree_at}
use Rattle.rule_passes.proofs.Passes.{told_none, told-push, trees_more}

module _ (breaks : List ItemTree → ItemTree → Bool) (rule : Rule) where
  pub pairs_none : (old : List Broken) → old ≡ old ++ told breaks rule [] []
  pairs_none old = sym (ap (λ bs. old ++ bs) (told_none breaks rule) ∙ append-nil old)

  pub pairs_more : (ms : List (Bor Item)) (i : ℕ) (m : Bor Item) (here : Bool) (old now new : List Broken) → i < length ms → m ≡ get_or ms i m → now ≡ old ++ told breaks rule [] (map tree_at (take i ms)) → here ≡ breaks (map tree_at (take i ms)) (tree_at m) → new ≡ now ++ broken_if here m.now.line rule → new ≡ old ++ told breaks rule [] (map tree_at (take (i + 1) ms))
  pairs_more ms i m here old now new lt is so_far test added =
      let front = map tree_at (take i ms) in
      let before = told breaks rule [] front in
      added ∙ ap (λ bs. bs ++ broken_if here m.now.line rule) so_far ∙ ap (λ t. (old ++ before) ++ broken_if t m.now.line rule) test
      ∙ append_assoc old before (broken_if (breaks front (tree_at m)) m.now.line rule)
      ∙ ap (λ bs. old ++ bs) (sym (told-push breaks rule [] front (tree_at m)))
      ∙ ap (λ xs. old ++ told breaks rule [] xs) (sym (trees_more ms i m lt is))

module _ (breaks : Around → ItemTree → Bool) (rule : Rule) (a : Around) where
  abbrev here_at : ItemTree → List Broken
  here_at x = broken_if (breaks a x) x.line rule

  abbrev inside_loop : ItemTree → Members → List Broken
  inside_loop x range = told_in breaks rule (in_range a x range) range

  list_none : told_in breaks rule a none ≡ []
  unfolding told_in
  list_none = refl

  arms_none : told_in_arms breaks rule a no_arms ≡ []
  unfolding told_in
  arms_none = refl

  -- one member in front of others
  plain_front : (x : ItemTree) (rest : Members) → told_in breaks rule a (plain x rest) ≡ told_in breaks rule a (plain x none) ++ told_in breaks rule a rest
  unfolding told_in
  plain_front x rest = ap (λ bs. bs ++ told_in breaks rule a rest) (sym (append-nil (here_at x)))

  loop_front : (x : ItemTree) (range rest : Members) → told_in breaks rule a (loop x range rest) ≡ told_in breaks rule a (loop x range none) ++ told_in breaks rule a rest
  unfolding told_in
  loop_front x range rest =
      let behind = told_in breaks rule a rest in
      sym (append_assoc (here_at x) (inside_loop x range) behind) ∙ ap (λ bs. (here_at x ++ bs) ++ behind) (sym (append-nil (inside_loop x range)))

  block_front : (arms : Arms) (x : ItemTree) (rest : Members) → told_in breaks rule a (block arms x rest) ≡ told_in breaks rule a (block arms x none) ++ told_in breaks rule a rest
  unfolding told_in
  block_front arms x rest =
      let behind = told_in breaks rule a rest in
      let inside = told_in_arms breaks rule a arms in
      sym (append_assoc inside (here_at x) behind) ∙ ap (λ bs. (inside ++ bs) ++ behind) (sym (append-nil (here_at x)))

  in_front : (m : Member) (rest : Members) → told_in breaks rule a (member_before m rest) ≡ told_in breaks rule a (members_tree (m ∷ [])) ++ told_in breaks rule a rest
  in_front (Plain x) rest = plain_front (item_tree x) rest
  in_front (Loop' head shape range) rest = loop_front (item_tree head) (row_members range) rest
  in_front (Block (Block' shape arms end)) rest = block_front (row_arms arms) (item_tree end) rest

  -- a member alone
  pub plain_alone : (m : Member) (x : Item) → m ≡ Plain x → told_in breaks rule a (members_tree (m ∷ [])) ≡ here_at (item_tree x)
  unfolding told_in
  plain_alone m x is = ap (λ n. told_in breaks rule a (member_before n none)) is ∙ append-nil (here_at (item_tree x))

  loop_is : (x : ItemTree) (range : Members) → told_in breaks rule a (loop x range none) ≡ here_at x ++ inside_loop x range
  unfolding told_in
  loop_is x range = ap (λ bs. here_at x ++ bs) (append-nil (inside_loop x range))

  pub loop_alone : (m : Member) (outer : _) → m ≡ Loop outer → told_in breaks rule a (members_tree (m ∷ [])) ≡ here_at (item_tree outer.head) ++ inside_loop (item_tree outer.head) (members_tree outer.range.items)
  loop_alone m outer is =
      ap (λ n. told_in breaks rule a (member_before n none)) is ∙ ap (told_in breaks rule a) (member_before-loop outer none)
      ∙ loop_is (item_tree outer.head) (members_tree outer.range.items)

  block_is : (arms : Arms) (x : ItemTree) → told_in breaks rule a (block arms x none) ≡ told_in_arms breaks rule a arms ++ here_at x
  unfolding told_in
  block_is arms x = ap (λ bs. told_in_arms breaks rule a arms ++ bs) (append-nil (here_at x))

  pub block_alone : (m : Member) (b : _) → m ≡ Block b → told_in breaks rule a (members_tree (m ∷ [])) ≡ told_in_arms breaks rule a (arms_tree (out-Block b).arms.items) ++ here_at (item_tree (out-Block b).end)
  block_alone m b is =
      ap (λ n. told_in breaks rule a (member_before n none)) is ∙ ap (told_in breaks rule a) (member_before-block b none)
      ∙ block_is (arms_tree (out-Block b).arms.items) (item_tree (out-Block b).end)

  pub members_more : (ms : List Member) (i : ℕ) (m : Member) (now new all : List Broken) → i < length ms → m ≡ get_or ms i m → new ≡ now ++ told_in breaks rule a (members_tree (m ∷ [])) → now ++ told_in breaks rule a (members_tree (drop i ms)) ≡ all → new ++ told_in breaks rule a (members_tree (drop (i + 1) ms)) ≡ all
  members_more ms i m now new all lt is added so_far =
      let rest = members_tree (drop (i + 1) ms) in
      let behind = told_in breaks rule a rest in
      ap (λ bs. bs ++ behind) added ∙ append_assoc now (told_in breaks rule a (members_tree (m ∷ []))) behind
      ∙ ap (λ bs. now ++ bs) (sym (in_front m rest) ∙ sym (left_more (told_in breaks rule a) ms i m lt is)) ∙ so_far

  pub members_end : (ms : List Member) (i : ℕ) (now all : List Broken) → length ms ≤ i → now ++ told_in breaks rule a (members_tree (drop i ms)) ≡ all → now ≡ all
  members_end ms i now all le so_far =
      sym (ap (λ xs. now ++ told_in breaks rule a (members_tree xs)) (drop_all i ms le) ∙ ap (λ bs. now ++ bs) list_none ∙ append-nil now) ∙ so_far

  arm_is : (x : ItemTree) (ms : Members) (arms : Arms) → told_in_arms breaks rule a (arm x ms arms) ≡ here_at x ++ (told_in breaks rule (in_arm a ms) ms ++ told_in_arms breaks rule a arms)
  unfolding told_in
  arm_is x ms arms = refl

  pub arms_more : (xs : List Arm) (i : ℕ) (x : Arm) (now mid new all : List Broken) → i < length xs → x ≡ get_or xs i x → mid ≡ now ++ here_at (item_tree x.head) → new ≡ mid ++ told_in breaks rule (in_arm a (members_tree x.body.items)) (members_tree x.body.items) → now ++ told_in_arms breaks rule a (arms_tree (drop i xs)) ≡ all → new ++ told_in_arms breaks rule a (arms_tree (drop (i + 1) xs)) ≡ all
  arms_more xs i x now mid new all lt is first second so_far =
      let head = item_tree x.head in
      let ms = members_tree x.body.items in
      let arms = arms_tree (drop (i + 1) xs) in
      let inside = told_in breaks rule (in_arm a ms) ms in
      let behind = told_in_arms breaks rule a arms in
      ap (λ bs. bs ++ behind) (second ∙ ap (λ bs. bs ++ inside) first) ∙ append_assoc (now ++ here_at head) inside behind
      ∙ append_assoc now (here_at head) (inside ++ behind)
      ∙ ap (λ bs. now ++ bs) (sym (arm_is head ms arms) ∙ sym (left_arms (told_in_arms breaks rule a) xs i x lt is)) ∙ so_far

  pub arms_end : (xs : List Arm) (i : ℕ) (now all : List Broken) → length xs ≤ i → now ++ told_in_arms breaks rule a (arms_tree (drop i xs)) ≡ all → now ≡ all
  arms_end xs i now all le so_far =
      sym (ap (λ ys. now ++ told_in_arms breaks rule a (arms_tree ys)) (drop_all i xs le) ∙ ap (λ bs. now ++ bs) arms_none ∙ append-nil now) ∙ so_far
