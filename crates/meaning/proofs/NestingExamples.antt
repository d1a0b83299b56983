-- Worked examples of nesting: the definitions compute what the rules say.
use Rattle.std.proofs.Common.{◌≡◌, ℕ, zero, suc, List, [], ◌∷◌, Some, None, Ok, Err, false, refl}
use Rattle.std.specs.Prelude.{codes}
use Rattle.meaning.specs.declared.refusal.Rule.TheVariants.{N1, N2, N3, N4, N5}
use Rattle.meaning.specs.Syntax.{ItemTree, ShapeTree, number, format, doing, continuing, typing, ending, naming, implying, block_if, else_if, otherwise, end_if}
use Rattle.meaning.specs.Trees.{none, plain, loop, block, no_arms, arm}
use Rattle.meaning.specs.Nesting.{nest, past, breaks, missing_end, start, first_broken}

abbrev at : ℕ → ShapeTree → ItemTree
at line s = record { line = line; label = None; shape = s }

abbrev labelled : ℕ → ℕ → ShapeTree → ItemTree
labelled line s shape = record { line = line; label = Some s; shape = shape }

abbrev do_to : List ℕ → ShapeTree
do_to label = doing (Some label) false (codes "I") (record { first = number (codes "1"); last = number (codes "2"); step = None })

-- one terminal statement of two ranges
shared : nest (at 1 (do_to (codes "10")) ∷ at 2 (do_to (codes "010")) ∷ labelled 3 10 continuing ∷ at 4 ending ∷ [])
    ≡ Ok (record { body = loop (at 1 (do_to (codes "10"))) (loop (at 2 (do_to (codes "010"))) (plain (labelled 3 10 continuing) none) none) (plain (at 4 ending) none) })
unfolding nest past breaks missing_end
shared = refl

-- ranges that cross
crossing : nest (at 1 (do_to (codes "10")) ∷ at 2 (do_to (codes "20")) ∷ labelled 3 10 continuing ∷ labelled 4 20 continuing ∷ at 5 ending ∷ []) ≡ Err (record { line = 3; rule = N4 })
unfolding nest past breaks missing_end
crossing = refl

-- no statement could end both ranges
reopened : nest (at 1 (do_to (codes "10")) ∷ at 2 (do_to (codes "20")) ∷ at 3 (do_to (codes "10")) ∷ at 4 ending ∷ []) ≡ Err (record { line = 3; rule = N4 })
unfolding nest past breaks missing_end
reopened = refl

-- END is missing, and FORMAT may end no range: the lesser rule of one line
missing_both : nest (at 1 (do_to (codes "10")) ∷ labelled 2 10 (format []) ∷ []) ≡ Err (record { line = 2; rule = N2 })
unfolding nest past breaks missing_end
missing_both = refl

-- a DO statement's own label isn't in its range
own_label : nest (labelled 1 10 (do_to (codes "10")) ∷ at 2 ending ∷ []) ≡ Err (record { line = 2; rule = N4 })
unfolding nest past breaks missing_end
own_label = refl

-- a type statement behind FORMAT, and one behind an executable statement
typed : nest (at 1 (format []) ∷ at 2 (typing []) ∷ at 3 ending ∷ []) ≡ Ok (record { body = plain (at 1 (format [])) (plain (at 2 (typing [])) (plain (at 3 ending) none)) })
unfolding nest past breaks missing_end
typed = refl

typed_late : nest (at 1 (do_to (codes "10")) ∷ labelled 2 10 (typing []) ∷ at 3 ending ∷ []) ≡ Err (record { line = 2; rule = N1 })
unfolding nest past breaks missing_end
typed_late = refl

-- behind END, the lesser rule
typed_behind_end : nest (at 1 ending ∷ at 2 (typing []) ∷ []) ≡ Err (record { line = 2; rule = N1 })
unfolding nest past breaks missing_end
typed_behind_end = refl

-- one statement behind END
behind_end : nest (at 1 ending ∷ at 2 continuing ∷ at 3 ending ∷ []) ≡ Err (record { line = 2; rule = N2 })
unfolding nest past breaks missing_end
behind_end = refl

abbrev opened : ℕ → List ItemTree → List ItemTree
opened zero xs = xs
opened (suc n) xs = at 1 (do_to (codes "10")) ∷ opened n xs

-- 32 open DO statements, and one more
thirty_two : first_broken [] start (opened 32 (labelled 2 10 continuing ∷ at 3 ending ∷ [])) ≡ None
unfolding nest past breaks missing_end
thirty_two = refl

thirty_three : nest (opened 33 (labelled 2 10 continuing ∷ at 3 ending ∷ [])) ≡ Err (record { line = 1; rule = N5 })
unfolding nest past breaks missing_end
thirty_three = refl

-- the one more crosses too
thirty_three_crossing : nest (opened 31 (at 2 (do_to (codes "20")) ∷ at 3 (do_to (codes "10")) ∷ at 4 ending ∷ [])) ≡ Err (record { line = 3; rule = N4 })
unfolding nest past breaks missing_end
thirty_three_crossing = refl

no_statement : nest [] ≡ Err (record { line = 1; rule = N2 })
unfolding nest past breaks missing_end
no_statement = refl

-- ---- block IFs

abbrev if_then : ShapeTree
if_then = block_if (number (codes "1"))

abbrev else_if_then : ShapeTree
else_if_then = else_if (number (codes "1"))

-- three arms; END IF stands in the list that holds the block IF
three_arms : nest (at 1 if_then ∷ at 2 continuing ∷ at 3 else_if_then ∷ at 4 otherwise ∷ labelled 5 10 end_if ∷ at 6 ending ∷ [])
    ≡ Ok (record { body = block (arm (at 1 if_then) (plain (at 2 continuing) none) (arm (at 3 else_if_then) none (arm (at 4 otherwise) none no_arms))) (labelled 5 10 end_if) (plain (at 6 ending) none) })
unfolding nest past breaks missing_end
three_arms = refl

-- a range in an arm, and a block IF in a range
range_in_arm : nest (at 1 if_then ∷ at 2 (do_to (codes "10")) ∷ labelled 3 10 continuing ∷ at 4 end_if ∷ at 5 ending ∷ [])
    ≡ Ok (record { body = block (arm (at 1 if_then) (loop (at 2 (do_to (codes "10"))) (plain (labelled 3 10 continuing) none) none) no_arms) (at 4 end_if) (plain (at 5 ending) none) })
unfolding nest past breaks missing_end
range_in_arm = refl

block_in_range : nest (at 1 (do_to (codes "10")) ∷ at 2 if_then ∷ at 3 end_if ∷ labelled 4 10 continuing ∷ at 5 ending ∷ [])
    ≡ Ok (record { body = loop (at 1 (do_to (codes "10"))) (block (arm (at 2 if_then) none no_arms) (at 3 end_if) (plain (labelled 4 10 continuing) none)) (plain (at 5 ending) none) })
unfolding nest past breaks missing_end
block_in_range = refl

-- a range that would end in an arm around which it is open, and one that no statement could end
ends_in_arm : nest (at 1 (do_to (codes "10")) ∷ at 2 if_then ∷ labelled 3 10 continuing ∷ at 4 end_if ∷ at 5 ending ∷ []) ≡ Err (record { line = 3; rule = N4 })
unfolding nest past breaks missing_end
ends_in_arm = refl

reopened_in_arm : nest (at 1 (do_to (codes "10")) ∷ at 2 if_then ∷ at 3 (do_to (codes "10")) ∷ at 4 ending ∷ []) ≡ Err (record { line = 3; rule = N4 })
unfolding nest past breaks missing_end
reopened_in_arm = refl

-- END IF with the label of a range around the block IF, and ELSE with that of the innermost range
end_if_labelled : nest (at 1 (do_to (codes "10")) ∷ at 2 if_then ∷ labelled 3 10 end_if ∷ at 4 ending ∷ []) ≡ Err (record { line = 3; rule = N4 })
unfolding nest past breaks missing_end
end_if_labelled = refl

else_labelled : nest (at 1 (do_to (codes "10")) ∷ labelled 2 10 otherwise ∷ at 3 ending ∷ []) ≡ Err (record { line = 2; rule = N3 })
unfolding nest past breaks missing_end
else_labelled = refl

-- ELSE where nothing is open, with END and without, and ELSE IF behind ELSE
stray_else : nest (at 1 otherwise ∷ at 2 ending ∷ []) ≡ Err (record { line = 1; rule = N3 })
unfolding nest past breaks missing_end
stray_else = refl

else_alone : nest (at 1 otherwise ∷ []) ≡ Err (record { line = 1; rule = N2 })
unfolding nest past breaks missing_end
else_alone = refl

else_if_behind_else : nest (at 1 if_then ∷ at 2 otherwise ∷ at 3 else_if_then ∷ at 4 end_if ∷ at 5 ending ∷ []) ≡ Err (record { line = 3; rule = N3 })
unfolding nest past breaks missing_end
else_if_behind_else = refl

-- END in a block IF, and in a range
end_in_arm : nest (at 1 (do_to (codes "10")) ∷ at 2 if_then ∷ at 3 ending ∷ []) ≡ Err (record { line = 3; rule = N3 })
unfolding nest past breaks missing_end
end_in_arm = refl

end_in_range : nest (at 1 if_then ∷ at 2 (do_to (codes "10")) ∷ at 3 ending ∷ []) ≡ Err (record { line = 3; rule = N4 })
unfolding nest past breaks missing_end
end_in_range = refl

-- ---- the order of statements

program_behind : nest (at 1 continuing ∷ at 2 (naming (codes "P")) ∷ at 3 ending ∷ []) ≡ Err (record { line = 2; rule = N1 })
unfolding nest past breaks missing_end
program_behind = refl

implicit_behind : nest (at 1 (typing []) ∷ at 2 (implying []) ∷ at 3 ending ∷ []) ≡ Err (record { line = 2; rule = N1 })
unfolding nest past breaks missing_end
implicit_behind = refl
