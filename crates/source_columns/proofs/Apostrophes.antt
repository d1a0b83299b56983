-- Apostrophes in pairs over joined texts.
use Rattle.std.proofs.Common.{◌≡◌, ℕ, ◌+◌, ◌%◌, Bool, true, false, cond, eqb, List, [], ◌∷◌, ◌++◌, refl, sym, ap, ◌∙◌, arith}
use Rattle.std.specs.Prelude.{not}
use Rattle.std.specs.List.{count_by}
use Rattle.std.proofs.lemmas.Bool.Decides.{nat_tests}
use Rattle.std.proofs.lemmas.List.Sums.{sum_by-append}
use Rattle.meaning.specs.Characters.{apostrophe}
use Rattle.meaning.specs.Lines.{is_initial, statement_field, StatementLine}
use Rattle.meaning.specs.Statements.{is_unpaired, continuations}
use Rattle.source_columns.proofs.Texts.{fields, fields_next}

abbrev pub paired : List ℕ → Bool
paired text = not (is_unpaired text)

-- the same of a text that goes on with another
abbrev pub both : Bool → Bool → Bool
both p true = p
both p false = not p

abbrev odd : ℕ → Bool
odd n = eqb (n % 2) 1

odd_sum : (a b : ℕ) → not (odd (a + b)) ≡ both (not (odd a)) (not (odd b))
odd_sum a b = grind (arith, nat_tests)

pub paired-append : (xs ys : List ℕ) → paired (xs ++ ys) ≡ both (paired xs) (paired ys)
paired-append xs ys =
    rw (counted xs ys) (odd_sum (count_by (λ c. eqb c apostrophe) xs) (count_by (λ c. eqb c apostrophe) ys))
  where
    counted : (xs ys : List ℕ) → count_by (λ c. eqb c apostrophe) (xs ++ ys) ≡ count_by (λ c. eqb c apostrophe) xs + count_by (λ c. eqb c apostrophe) ys
    counted xs ys = sum_by-append (λ c. cond (eqb c apostrophe) 1 0) xs ys

both_both : (p q r : Bool) → both p (both q r) ≡ both (both p q) r
both_both p q true = refl
both_both p true false = refl
both_both true false false = refl
both_both false false false = refl

-- a continuation line more
pub paired_next : (p q : Bool) (line : StatementLine) (lines ls : List StatementLine) (total : Bool) → lines ≡ line ∷ ls → is_initial line.columns ≡ false → q ≡ both p (paired (statement_field line.columns)) → both p (paired (fields (continuations lines))) ≡ total
    → both q (paired (fields (continuations ls))) ≡ total
paired_next p q line lines ls total parts e now so_far =
    rw now (sym (both_both p (paired (statement_field line.columns)) (paired (fields (continuations ls)))) ∙ ap (λ r. both p r) (sym (paired-append (statement_field line.columns) (fields (continuations ls)))) ∙ ap (λ xs. both p (paired xs)) (sym (fields_next line ls e)) ∙ ap (λ xs. both p (paired (fields (continuations xs)))) (sym parts) ∙ so_far)

pub paired_end : (p : Bool) (lines : List StatementLine) (total : Bool) → continuations lines ≡ [] → both p (paired (fields (continuations lines))) ≡ total → p ≡ total
paired_end p lines total none so_far = rw none at so_far
