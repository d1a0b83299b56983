-- The DO statements of one member of a list.
use Rattle.std.proofs.Common.{◌≡◌, ℕ, List, [], ◌∷◌, ◌++◌, Option, refl, sym, ap, ◌∙◌}
use Rattle.std.proofs.lemmas.List.{append-nil}
use Rattle.meaning.specs.declared.syntax.Arm.{Arm}
use Rattle.meaning.specs.declared.syntax.Block.{out-Block}
use Rattle.meaning.specs.declared.syntax.Loop.{Loop as LoopOf, out-Loop}
use Rattle.meaning.specs.declared.syntax.Member.{Member, Loop, Block}
use Rattle.meaning.specs.Syntax.{shape_tree}
use Rattle.meaning.specs.Trees.{none, arms_tree, item_tree, member_before, members_tree}
use Rattle.meaning.proofs.Ranges.{member_before-loop, member_before-block}
use Rattle.do_statements.specs.declared.listing.DoStatement.{DoStatement}
use Rattle.do_statements.specs.Listing.{listed_in, listed_in_arms, listed_of}

pub of_loop : (around : Option ℕ) (found : List DoStatement) (new : List DoStatement) (x : Member) (l : LoopOf) → x ≡ Loop l → new ≡ found ++ listed_of around (out-Loop l).head.line (shape_tree (out-Loop l).head.form.shape.value) (members_tree (out-Loop l).range.items) → new ≡ found ++ listed_in around (member_before x none)
of_loop around found new x l is h =
    let alone = listed_of around (out-Loop l).head.line (shape_tree (out-Loop l).head.form.shape.value) (members_tree (out-Loop l).range.items) in
    h ∙ ap (λ xs. found ++ xs) (sym (append-nil alone) ∙ ap (listed_in around) (sym (member_before-loop l none)) ∙ ap (λ y. listed_in around (member_before y none)) (sym is))

pub of_block : (around : Option ℕ) (found : List DoStatement) (new : List DoStatement) (x : Member) (b : _) (arms : List Arm) → x ≡ Block b → arms ≡ (out-Block b).arms.items → new ≡ found ++ listed_in_arms around (arms_tree arms) → new ≡ found ++ listed_in around (member_before x none)
of_block around found new x b arms is same h =
    let alone = listed_in_arms around (arms_tree (out-Block b).arms.items) in
    h ∙ ap (λ ys. found ++ listed_in_arms around (arms_tree ys)) same
    ∙ ap (λ xs. found ++ xs) (sym (append-nil alone) ∙ ap (listed_in around) (sym (member_before-block b none)) ∙ ap (λ y. listed_in around (member_before y none)) (sym is))
