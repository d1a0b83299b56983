-- Spellings with commas between.
use Rattle.std.proofs.Common.{◌≡◌, List, [], ◌∷◌, ◌++◌, true, length, refl, sym, ap, ◌∙◌, append_assoc, arith}
use Rattle.std.proofs.lemmas.Bool.{lt-ltb}
use Rattle.std.specs.Prelude.{IsTrue, nat_lt}
use Rattle.meaning.specs.Syntax.{BoundsTree, DeclaratorTree}
use Rattle.meaning.specs.Spelling.{spell_bounds, spell_more_bounds, spell_dimensions, spell_declarator, spell_more_declarators, spell_declarators, joined_more, joined}
use Rattle.meaning.specs.Reading.{Text}

pub has_some : {A : Type 0} → (x : A) (xs : List A) → nat_lt 0 (length (x ∷ xs)) ≡ true
has_some x xs = lt-ltb 0 (length (x ∷ xs)) (omega arith)

joined_more_bounds : (bs : List BoundsTree) → spell_more_bounds bs ≡ joined_more spell_bounds bs
joined_more_bounds [] = refl
joined_more_bounds (b ∷ bs) = ap (λ t. 44 ∷ (spell_bounds b ++ t)) (joined_more_bounds bs)

pub joined_bounds : (bs : List BoundsTree) → IsTrue (nat_lt 0 (length bs)) → spell_dimensions bs ≡ 40 ∷ (joined spell_bounds bs ++ 41 ∷ [])
joined_bounds [] some = absurd cc
joined_bounds (b ∷ bs) some =
    ap (λ t. 40 ∷ (spell_bounds b ++ (t ++ 41 ∷ []))) (joined_more_bounds bs) ∙ ap (λ t. 40 ∷ t) (sym (append_assoc (spell_bounds b) (joined_more spell_bounds bs) (41 ∷ [])))

joined_more_declarators : (ds : List DeclaratorTree) → spell_more_declarators ds ≡ joined_more spell_declarator ds
joined_more_declarators [] = refl
joined_more_declarators (d ∷ ds) = ap (λ t. 44 ∷ (spell_declarator d ++ t)) (joined_more_declarators ds)

pub joined_declarators : (ds : List DeclaratorTree) → spell_declarators ds ≡ joined spell_declarator ds
joined_declarators [] = refl
joined_declarators (d ∷ ds) = ap (λ t. spell_declarator d ++ t) (joined_more_declarators ds)

-- an implied DO with its parts regrouped
pub loop_regrouped : (xs v limits rest : Text) → ((xs ++ (44 ∷ (v ++ (61 ∷ limits)))) ++ 41 ∷ []) ++ rest ≡ xs ++ (44 ∷ (v ++ (61 ∷ (limits ++ (41 ∷ rest)))))
loop_regrouped xs v limits rest =
    append_assoc (xs ++ (44 ∷ (v ++ (61 ∷ limits)))) (41 ∷ []) rest ∙ append_assoc xs (44 ∷ (v ++ (61 ∷ limits))) (41 ∷ rest) ∙ ap (λ u. xs ++ (44 ∷ u)) (append_assoc v (61 ∷ limits) (41 ∷ rest))

-- a list with its constants, with its parts regrouped
pub set_regrouped : (comma xs vs rest : Text) → (comma ++ (xs ++ (47 ∷ (vs ++ 47 ∷ [])))) ++ rest ≡ comma ++ (xs ++ (47 ∷ (vs ++ (47 ∷ rest))))
set_regrouped comma xs vs rest =
    append_assoc comma (xs ++ (47 ∷ (vs ++ 47 ∷ []))) rest ∙ ap (λ u. comma ++ u) (append_assoc xs (47 ∷ (vs ++ 47 ∷ [])) rest ∙ ap (λ u. xs ++ (47 ∷ u)) (append_assoc vs (47 ∷ []) rest))
