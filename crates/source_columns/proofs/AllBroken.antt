-- The pairs of lines, of continuation lines with no initial line before them and of statements, one line more.
use Rattle.std.proofs.Common.{◌≡◌, ℕ, zero, suc, ◌-◌, true, false, List, [], ◌∷◌, ◌++◌, map, drop, refl, sym, ap, ◌∙◌, append_assoc, arith}
use Rattle.std.specs.List.{flat_map}
use Rattle.std.proofs.lemmas.List.{append-nil}
use Rattle.meaning.specs.declared.refusal.Broken.{Broken}
use Rattle.meaning.specs.declared.refusal.Rule.TheVariants.{C5}
use Rattle.meaning.specs.Lines.{is_initial, StatementLine}
use Rattle.meaning.specs.Statements.{broken_alone, broken_in_group, broken_past, continuations, groups}
use Rattle.source_columns.proofs.Laws.{continues, groups_initial, groups_other}

-- what was added, and what follows it
joined : (made pairs here behind : List Broken) → made ≡ pairs ++ here → made ++ behind ≡ pairs ++ (here ++ behind)
joined made pairs here behind is = ap (λ xs. xs ++ behind) is ∙ append_assoc pairs here behind

module _ (line : StatementLine) (lines ls : List StatementLine) (parts : lines ≡ line ∷ ls) where
  pub alone_next : (made pairs total : List Broken) → is_initial line.columns ≡ false → made ≡ pairs ++ broken_alone line ∷ [] → pairs ++ map broken_alone (continuations lines) ≡ total → made ++ map broken_alone (continuations ls) ≡ total
  alone_next made pairs total e is so_far =
      joined made pairs (broken_alone line ∷ []) (map broken_alone (continuations ls)) is
      ∙ ap (λ xs. pairs ++ map broken_alone xs) (sym (continues line ls e))
      ∙ ap (λ xs. pairs ++ map broken_alone (continuations xs)) (sym parts) ∙ so_far

  here : is_initial line.columns ≡ false → continuations lines ≡ line ∷ continuations ls
  here e = ap continuations parts ∙ continues line ls e

  pub past_found : (left : ℕ) (total : List StatementLine) → left ≡ 0 → is_initial line.columns ≡ false → drop left (continuations lines) ≡ total → record { line = line.line; rule = C5 } ∷ [] ≡ broken_past total
  past_found left total none e so_far =
      sym (ap broken_past (sym so_far ∙ ap (λ n. drop n (continuations lines)) none ∙ here e))

  pub past_next : (left : ℕ) (total : List StatementLine) → (left ≡ 0 → ⊥) → is_initial line.columns ≡ false → drop left (continuations lines) ≡ total → drop (left - 1) (continuations ls) ≡ total
  past_next zero total some e so_far = absurd (some refl)
  past_next (suc n) total some e so_far =
      let one_less : suc n - 1 ≡ n = omega arith in
      ap (λ k. drop k (continuations ls)) one_less ∙ ap (drop (suc n)) (sym (here e)) ∙ so_far

  pub initial_next : (made pairs total : List Broken) → is_initial line.columns ≡ true → made ≡ pairs ++ broken_in_group (record { initial = line; continued = continuations ls }) → pairs ++ flat_map broken_in_group (groups lines) ≡ total → made ++ flat_map broken_in_group (groups ls) ≡ total
  initial_next made pairs total e is so_far =
      joined made pairs (broken_in_group (record { initial = line; continued = continuations ls })) (flat_map broken_in_group (groups ls)) is
      ∙ ap (λ xs. pairs ++ flat_map broken_in_group xs) (sym (groups_initial line ls e))
      ∙ ap (λ xs. pairs ++ flat_map broken_in_group (groups xs)) (sym parts) ∙ so_far

  pub other_next : (made pairs total : List Broken) → is_initial line.columns ≡ false → made ≡ pairs → pairs ++ flat_map broken_in_group (groups lines) ≡ total → made ++ flat_map broken_in_group (groups ls) ≡ total
  other_next made pairs total e is so_far =
      ap (λ xs. xs ++ flat_map broken_in_group (groups ls)) is
      ∙ ap (λ xs. pairs ++ flat_map broken_in_group xs) (sym (groups_other line ls e))
      ∙ ap (λ xs. pairs ++ flat_map broken_in_group (groups xs)) (sym parts) ∙ so_far

abbrev nothing : List StatementLine
nothing = []

nothing_dropped : (left : ℕ) → drop left nothing ≡ nothing
nothing_dropped zero = refl
nothing_dropped (suc n) = refl

-- behind the last line
pub past_end : (left : ℕ) (lines total : List StatementLine) (made pairs : List Broken) → continuations lines ≡ [] → drop left (continuations lines) ≡ total → made ≡ pairs → made ≡ pairs ++ broken_past total
past_end left lines total made pairs over so_far is =
    is ∙ sym (append-nil pairs) ∙ ap (λ xs. pairs ++ broken_past xs) (sym (nothing_dropped left) ∙ ap (drop left) (sym over) ∙ so_far)

pub groups_end : (lines : List StatementLine) (pairs total : List Broken) → lines ≡ [] → pairs ++ flat_map broken_in_group (groups lines) ≡ total → pairs ≡ total
unfolding groups
groups_end lines pairs total over so_far =
    sym (append-nil pairs) ∙ ap (λ xs. pairs ++ flat_map broken_in_group (groups xs)) (sym over) ∙ so_far
