-- The statements of a list of members, one member more.
use Rattle.std.proofs.Common.{◌≡◌, ℕ, ◌+◌, ◌<◌, List, [], ◌∷◌, ◌++◌, length, get_or, drop, append_assoc, sym, ap, ◌∙◌}
use Rattle.meaning.specs.declared.syntax.Item.{Item}
use Rattle.meaning.specs.declared.syntax.Member.{Member, Plain, Loop, Block}
use Rattle.meaning.specs.declared.syntax.Arm.{Arm}
use Rattle.meaning.specs.declared.syntax.Block.{out-Block}
use Rattle.meaning.specs.Syntax.{ItemTree}
use Rattle.meaning.specs.Trees.{Members, arms_tree, flat, flat_arms, item_tree, member_before, members_tree}
use Rattle.meaning.proofs.Ranges.{member_before-block, member_before-loop, left_arms, left_more}

-- the statements of one member
abbrev pub IsPiece : Member → List ItemTree → Type 0
IsPiece m piece = (rest : Members) → flat (member_before m rest) ≡ piece ++ flat rest

pub plain_piece : (m : Member) (x : Item) → m ≡ Plain x → IsPiece m (item_tree x ∷ [])
plain_piece m x is rest = ap (λ n. flat (member_before n rest)) is

pub loop_piece : (m : Member) (outer : _) → m ≡ Loop outer → IsPiece m (item_tree outer.head ∷ flat (members_tree outer.range.items))
loop_piece m outer is rest = ap (λ n. flat (member_before n rest)) is ∙ ap flat (member_before-loop outer rest)

pub flat_more : (ms : List Member) (i : ℕ) (m : Member) (piece now next all : List ItemTree) → i < length ms → m ≡ get_or ms i m → IsPiece m piece → next ≡ now ++ piece → now ++ flat (members_tree (drop i ms)) ≡ all → next ++ flat (members_tree (drop (i + 1) ms)) ≡ all
flat_more ms i m piece now next all lt is here added so_far =
    let rest = members_tree (drop (i + 1) ms) in
    ap (λ xs. xs ++ flat rest) added ∙ append_assoc now piece (flat rest) ∙ ap (λ xs. now ++ xs) (sym (here rest) ∙ sym (left_more flat ms i m lt is)) ∙ so_far

-- a statement and then those of its range
pub two_pieces : (now between next range : List ItemTree) (x : ItemTree) → between ≡ now ++ x ∷ [] → next ≡ between ++ range → next ≡ now ++ x ∷ range
two_pieces now between next range x first then_range =
    then_range ∙ ap (λ xs. xs ++ range) first ∙ append_assoc now (x ∷ []) range

-- the arms of a block IF and then its END IF statement
pub block_piece : (m : Member) (b : _) → m ≡ Block b → IsPiece m (flat_arms (arms_tree (out-Block b).arms.items) ++ item_tree (out-Block b).end ∷ [])
block_piece m b is rest =
    ap (λ n. flat (member_before n rest)) is ∙ ap flat (member_before-block b rest)
    ∙ sym (append_assoc (flat_arms (arms_tree (out-Block b).arms.items)) (item_tree (out-Block b).end ∷ []) (flat rest))

-- statements and then one more
pub then_one : (now between next front : List ItemTree) (x : ItemTree) → between ≡ now ++ front → next ≡ between ++ x ∷ [] → next ≡ now ++ (front ++ x ∷ [])
then_one now between next front x first last =
    last ∙ ap (λ xs. xs ++ x ∷ []) first ∙ append_assoc now front (x ∷ [])

-- the statements of arms, one arm more
pub arms_more : (xs : List Arm) (i : ℕ) (a : Arm) (now next all : List ItemTree) → i < length xs → a ≡ get_or xs i a → next ≡ now ++ item_tree a.head ∷ flat (members_tree a.body.items) → now ++ flat_arms (arms_tree (drop i xs)) ≡ all → next ++ flat_arms (arms_tree (drop (i + 1) xs)) ≡ all
arms_more xs i a now next all lt is added so_far =
    let here = item_tree a.head ∷ flat (members_tree a.body.items) in
    ap (λ ys. ys ++ flat_arms (arms_tree (drop (i + 1) xs))) added ∙ append_assoc now here (flat_arms (arms_tree (drop (i + 1) xs)))
    ∙ ap (λ ys. now ++ ys) (sym (left_arms flat_arms xs i a lt is)) ∙ so_far
