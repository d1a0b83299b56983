-- Worked examples of what is open behind some statements, and of the rules that a further one breaks.
use Rattle.std.proofs.Common.{◌≡◌, ℕ, true, false, List, [], ◌∷◌, ◌++◌, Some, None, refl, arith, inl}
use Rattle.std.specs.Prelude.{codes}
use Rattle.meaning.specs.Syntax.{ItemTree, ShapeTree, number, doing, end_do, continuing, ending, block_if, otherwise, end_if}
use Rattle.meaning.specs.Trees.{none, plain, block, no_arms, arm, flat}
use Rattle.meaning.specs.Nesting.{closes_unit, opens_arm}
use Rattle.meaning.specs.RuleTold.{IsInnermost, InnermostIs, IsDoTo, IsEarlierArm, IsOutOfPlace, Crosses, may_not_end, ends_in_range, ends_none, ends_two}

abbrev at : ShapeTree → ItemTree
at s = record { line = 1; label = None; shape = s }

abbrev labelled : ℕ → ShapeTree → ItemTree
labelled s shape = record { line = 1; label = Some s; shape = shape }

abbrev do_to : List ℕ → ItemTree
do_to label = at (doing (Some label) false (codes "I") (record { first = number (codes "1"); last = number (codes "2"); step = None }))

abbrev if_then : ItemTree
if_then = at (block_if (number (codes "1")))

-- behind a block IF in a range the DO statement is the innermost thing
innermost_do : IsInnermost (do_to (codes "10") ∷ if_then ∷ at end_if ∷ []) (do_to (codes "10"))
innermost_do = record { front = []; inside = block (arm if_then none no_arms) (at end_if) none; depth = 0; parts = refl; well = (omega arith, (refl, tt, tt), refl, tt); unended = (refl, (refl, tt)) }

-- it names 10, so a statement with that label isn't barred from ending its range
named_do : InnermostIs (IsDoTo 10) (do_to (codes "10") ∷ if_then ∷ at end_if ∷ [])
named_do = record { head = do_to (codes "10"); innermost = innermost_do; such = refl }

-- END there stands in a range, and behind IF THEN it is out of place
end_in_range : Crosses (do_to (codes "10") ∷ if_then ∷ at end_if ∷ []) (at ending)
end_in_range = ends_in_range refl (record { head = do_to (codes "10"); innermost = innermost_do; such = record { label = Some 10; names = refl } })

end_in_block : IsOutOfPlace closes_unit (do_to (codes "10") ∷ if_then ∷ at continuing ∷ [])
end_in_block = record {
  head = if_then;
  innermost = record { front = do_to (codes "10") ∷ []; inside = plain (at continuing) none; depth = 1; parts = refl; well = (inl (record { may = true; alone = refl }), tt); unended = refl };
  such = refl;
}

-- nothing is open behind no statement, so ELSE is out of place
nothing_open : (P : ItemTree → Type 0) → InnermostIs P [] → ⊥
nothing_open P i = by_front i.head (flat i.innermost.inside) i.innermost.front i.innermost.parts
  where
    by_front : (head : ItemTree) (rest front : List ItemTree) → [] ≡ front ++ (head ∷ rest) → ⊥
    by_front head rest [] e = cc
    by_front head rest (x ∷ front) e = cc

else_alone : IsOutOfPlace opens_arm []
else_alone = nothing_open IsEarlierArm

-- ELSE may not end the range that has its label
not_terminal : Crosses (do_to (codes "10") ∷ []) (labelled 10 otherwise)
not_terminal = may_not_end (record { front = []; head = do_to (codes "10"); rest = []; parts = refl; names = refl; unended = tt }) refl

-- END DO where nothing is open; and with the label of two ranges, which it can't both end
end_do_alone : Crosses [] (at end_do)
end_do_alone = ends_none refl (nothing_open _)

end_do_of_two : Crosses (do_to (codes "10") ∷ do_to (codes "10") ∷ []) (labelled 10 end_do)
end_do_of_two = ends_two refl (record {
  range = record { front = []; head = do_to (codes "10"); rest = do_to (codes "10") ∷ []; parts = refl; names = refl; unended = (refl, tt) };
  within = record { front = []; head = do_to (codes "10"); rest = []; parts = refl; names = refl; unended = tt };
})
