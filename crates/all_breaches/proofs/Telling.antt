-- Which pairs are told of a source, phase by phase, and that the least of them is the one that refuses it.
use Rattle.std.proofs.Common.{◌≡◌, ℕ, Bool, true, false, cond, List, [], ◌∷◌, ◌++◌, map, Option, Some, None, Result, Ok, Err, refl, sym, ap, ◌∙◌}
use Rattle.std.specs.List.{filter_map}
use Rattle.std.specs.Option.{option_to_list}
use Rattle.meaning.specs.declared.refusal.Broken.{Broken}
use Rattle.meaning.specs.declared.refusal.Rule.TheVariants.{C7}
use Rattle.meaning.specs.Answers.{member_of, members_of, program_of}
use Rattle.meaning.specs.Lines.{lines_of, statement_lines}
use Rattle.meaning.specs.Nesting.{behind, first_broken, innermost, missing_end, nest, start}
use Rattle.meaning.specs.Refusals.{◌>>=◌, all_of, least, lesser_of, merge, unless, with_first}
use Rattle.meaning.specs.Rules.{broken_rules, checked}
use Rattle.meaning.specs.Statements.{Entry, broken_in, entry_in, groups, is_too_long, statements_in, statements_of}
use Rattle.meaning.specs.Syntax.{ItemTree}
use Rattle.meaning.specs.Trees.{Nested}
use Rattle.nesting.specs.Pairs.{pairs_of_order}
use Rattle.source_columns.specs.AllBroken.{pairs_of_lines}
use Rattle.all_breaches.specs.Phases.{broken_pairs, pairs_from_order, pairs_from_texts, pairs_of_texts, refused_by, told_or}
use Rattle.all_breaches.specs.Texts.{members_read, read_by}

-- ---- G

module _ {A : Type 0} where
  put : (x : A) (o : Option Broken) (xs : List A) → with_first (Ok x) (unless o xs) ≡ unless o (x ∷ xs)
  put x None xs = refl
  put x (Some b) xs = refl

  pick : (b : Broken) (o : Option Broken) (xs ys : List A) → with_first (Err b) (unless o xs) ≡ unless (Some (lesser_of b o)) ys
  pick b None xs ys = refl
  pick b (Some c) xs ys = refl

  all_said : (rs : List (Result A Broken)) → all_of rs ≡ unless (least (filter_map refused_by rs)) (filter_map read_by rs)
  all_said [] = refl
  all_said (Ok x ∷ rs) = ap (with_first (Ok x)) (all_said rs) ∙ put x (least (filter_map refused_by rs)) (filter_map read_by rs)
  all_said (Err b ∷ rs) = ap (with_first (Err b)) (all_said rs) ∙ pick b (least (filter_map refused_by rs)) (filter_map read_by rs) (filter_map read_by rs)

members_told : (entries : List Entry) → members_of entries ≡ unless (least (pairs_of_texts entries)) (members_read entries)
unfolding members_of
members_told entries = all_said (map member_of entries)

pub texts_refuse : (entries : List Entry) (pairs : List Broken) → pairs ≡ pairs_of_texts entries → (pairs ≡ [] → ⊥) → pairs_from_texts entries ≡ pairs
texts_refuse entries [] is some = absurd (some refl)
texts_refuse entries (b ∷ bs) is some =
    ap (λ r. told_or r (pairs_of_texts entries) pairs_from_order) (members_told entries ∙ ap (λ xs. unless (least xs) (members_read entries)) (sym is)) ∙ sym is

pub texts_pass : (entries : List Entry) (pairs : List Broken) (members : List ItemTree) → pairs ≡ pairs_of_texts entries → pairs ≡ [] → members ≡ members_read entries → pairs_from_texts entries ≡ pairs_from_order members
texts_pass entries pairs members is none read =
    ap (λ r. told_or r (pairs_of_texts entries) pairs_from_order) (members_told entries ∙ ap (λ xs. unless (least xs) (members_read entries)) (sym is ∙ none)) ∙ ap pairs_from_order (sym read)

-- ---- N

both_told : (o p : Option Broken) → least (option_to_list o ++ option_to_list p) ≡ merge o p
both_told None None = refl
both_told None (Some b) = refl
both_told (Some a) None = refl
both_told (Some a) (Some b) = refl

module _ (items : List ItemTree) where
  abbrev unit : Nested
  unit = record { body = innermost (behind start items) }

  nest_told : nest items ≡ unless (least (pairs_of_order items)) unit
  unfolding nest
  nest_told = ap (λ o. unless o unit) (sym (both_told (missing_end items) (first_broken [] start items)))

  pub order_refuses : (pairs : List Broken) → pairs ≡ pairs_of_order items → (pairs ≡ [] → ⊥) → pairs_from_order items ≡ pairs
  order_refuses [] is some = absurd (some refl)
  order_refuses (b ∷ bs) is some =
      ap (λ r. told_or r (pairs_of_order items) broken_rules) (nest_told ∙ ap (λ xs. unless (least xs) unit) (sym is)) ∙ sym is

  pub order_passes : (t : Nested) → nest items ≡ Ok t → pairs_from_order items ≡ broken_rules t
  order_passes t e = ap (λ r. told_or r (pairs_of_order items) broken_rules) e

-- ---- C

module _ (source : List ℕ) where
  pub lines_refuse : (b : Broken) → statements_of source ≡ Err b → broken_pairs source ≡ pairs_of_lines source
  unfolding broken_pairs
  lines_refuse b e = ap (λ r. told_or r (pairs_of_lines source) pairs_from_texts) e

  pub lines_pass : (entries : List Entry) → statements_of source ≡ Ok entries → broken_pairs source ≡ pairs_from_texts entries
  unfolding broken_pairs
  lines_pass entries e = ap (λ r. told_or r (pairs_of_lines source) pairs_from_texts) e

  lines_told : (h : Broken) → least (pairs_of_lines source) ≡ Some h → statements_of source ≡ Err h
  unfolding statements_of statements_in
  lines_told h = by_test (is_too_long source) (statement_lines 1 (lines_of source)) h
    where
      by_test : (t : Bool) (ls : _) (h : Broken) → least (cond t (record { line = 1; rule = C7 } ∷ []) (broken_in ls)) ≡ Some h → cond t (Err (record { line = 1; rule = C7 })) (unless (least (broken_in ls)) (map entry_in (groups ls))) ≡ Err h
      by_test true ls h e = cc
      by_test false ls h e = ap (λ o. unless o (map entry_in (groups ls))) e

-- ---- the pair that is told

unless_told : {A : Type 0} (o : Option Broken) (x : A) (h : Broken) (r : Result A Broken) → r ≡ unless o x → o ≡ Some h → r ≡ Err h
unless_told o x h r is e = is ∙ ap (λ p. unless p x) e

module _ (unit_told : (t : Nested) (h : Broken) → least (broken_rules t) ≡ Some h → checked t ≡ Err h) where
  order_told : (items : List ItemTree) (h : Broken) → least (pairs_from_order items) ≡ Some h → (nest items >>= λ t. checked t) ≡ Err h
  order_told items h e = by_result (nest items) refl
    where
      by_result : (r : Result Nested Broken) → nest items ≡ r → (nest items >>= λ t. checked t) ≡ Err h
      by_result (Err b) is =
          ap (λ r. r >>= λ t. checked t) (unless_told (least (pairs_of_order items)) (unit items) h (nest items) (nest_told items) (ap (λ r. least (told_or r (pairs_of_order items) broken_rules)) (sym is) ∙ e))
      by_result (Ok t) is = ap (λ r. r >>= λ u. checked u) is ∙ unit_told t h (ap least (sym (order_passes items t is)) ∙ e)

  texts_told : (entries : List Entry) (h : Broken) → least (pairs_from_texts entries) ≡ Some h → (members_of entries >>= λ members. nest members >>= λ t. checked t) ≡ Err h
  texts_told entries h e = by_result (members_of entries) refl
    where
      by_result : (r : Result (List ItemTree) Broken) → members_of entries ≡ r → (members_of entries >>= λ members. nest members >>= λ t. checked t) ≡ Err h
      by_result (Err b) is =
          ap (λ r. r >>= λ members. nest members >>= λ t. checked t) (unless_told (least (pairs_of_texts entries)) (members_read entries) h (members_of entries) (members_told entries) (ap (λ r. least (told_or r (pairs_of_texts entries) pairs_from_order)) (sym is) ∙ e))
      by_result (Ok members) is =
          ap (λ r. r >>= λ ms. nest ms >>= λ t. checked t) is ∙ order_told members h (ap (λ r. least (told_or r (pairs_of_texts entries) pairs_from_order)) (sym is) ∙ e)

  pub source_told : (source : List ℕ) (h : Broken) → least (broken_pairs source) ≡ Some h → program_of source ≡ Err h
  unfolding program_of
  source_told source h e = by_result (statements_of source) refl
    where
      by_result : (r : Result (List Entry) Broken) → statements_of source ≡ r → (statements_of source >>= λ entries. members_of entries >>= λ members. nest members >>= λ t. checked t) ≡ Err h
      by_result (Err b) is =
          ap (λ r. r >>= λ entries. members_of entries >>= λ members. nest members >>= λ t. checked t) (lines_told source h (ap least (sym (lines_refuse source b is)) ∙ e))
      by_result (Ok entries) is =
          ap (λ r. r >>= λ entries. members_of entries >>= λ members. nest members >>= λ t. checked t) is ∙ texts_told entries h (ap least (sym (lines_pass source entries is)) ∙ e)
