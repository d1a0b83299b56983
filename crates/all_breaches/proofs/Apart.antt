-- Two pairs of a phase at one line and of one rank are the same.
use Rattle.std.proofs.Common.{◌≡◌, ℕ, ◌+◌, ◌≤◌, Bool, true, false, cond, List, [], ◌∷◌, ◌++◌, map, drop, get_or, Option, Some, None, Result, Ok, Err, refl, sym, ap, ap₂, subst, ◌∙◌, arith, inl, inr}
use Rattle.std.specs.Prelude.{not, ◌&&◌}
use Rattle.std.specs.List.{AllByRecursion, cons_option, flat_map, list_all}
use Rattle.std.specs.Option.{option_to_list}
use Rattle.meaning.specs.declared.refusal.Broken.{Broken}
use Rattle.meaning.specs.declared.refusal.Rule.{Rule}
use Rattle.meaning.specs.declared.refusal.Rule.TheVariants.{C1, C2, C3, C4, C5, C6, C7, G1, G2, G3, N1, N2, N3, N4, N5, K1, K2, K3, K4, K5, K6, K7, K8, K9, K10, K11, K12, K13}
use Rattle.meaning.specs.Answers.{at_line}
use Rattle.meaning.specs.BareText.{bare}
use Rattle.meaning.specs.Lines.{is_initial, label_field, lines_of, StatementLine, statement_lines}
use Rattle.meaning.specs.Nesting.{Unfinished, breaks, effect_of, first_broken, is_crossing, is_ended, is_misplaced, is_stray, is_too_deep, lacks_end, last_line, levels, missing_end, past, start, told_first}
use Rattle.meaning.specs.Ranks.{rank_of}
use Rattle.meaning.specs.Reading.{read_shape}
use Rattle.meaning.specs.Refusals.{◌>>=◌, least, unless}
use Rattle.meaning.specs.Statements.{Entry, Group, broken_alone, broken_if, broken_in, broken_in_group, broken_in_line, broken_past, continuations, entry_in, groups, is_blank_field, is_label_field, is_printable, is_too_long, is_unpaired, statements_in, statements_of, text_of}
use Rattle.meaning.specs.Syntax.{ItemTree, ShapeTree}
use Rattle.nesting.specs.Pairs.{pairs_of_order}
use Rattle.source_columns.specs.AllBroken.{pairs_of_lines}
use Rattle.source_columns.proofs.Ascending.{Ascends, ascends_all}
use Rattle.all_breaches.specs.Phases.{pairs_of_texts, refused_by}
use Rattle.all_breaches.proofs.Members.{In, of_all}
use Rattle.all_breaches.proofs.Sorting.{Apart}

-- ---- phases

abbrev pub phase_of : Rule → ℕ
phase_of C1 = 0
phase_of C2 = 0
phase_of C3 = 0
phase_of C4 = 0
phase_of C5 = 0
phase_of C6 = 0
phase_of C7 = 0
phase_of G1 = 1
phase_of G2 = 1
phase_of G3 = 1
phase_of N1 = 2
phase_of N2 = 2
phase_of N3 = 2
phase_of N4 = 2
phase_of N5 = 2
phase_of K1 = 3
phase_of K2 = 3
phase_of K3 = 3
phase_of K4 = 3
phase_of K5 = 3
phase_of K6 = 3
phase_of K7 = 3
phase_of K8 = 3
phase_of K9 = 3
phase_of K10 = 3
phase_of K11 = 3
phase_of K12 = 3
phase_of K13 = 3

abbrev table : List (List Rule)
table =
    (C1 ∷ C1 ∷ C2 ∷ C3 ∷ C4 ∷ C5 ∷ C6 ∷ C7 ∷ []) ∷ (G1 ∷ G1 ∷ G2 ∷ G3 ∷ []) ∷ (N1 ∷ N1 ∷ N2 ∷ N3 ∷ N4 ∷ N5 ∷ []) ∷ (K1 ∷ K1 ∷ K2 ∷ K3 ∷ K4 ∷ K5 ∷ K6 ∷ K7 ∷ K8 ∷ K9 ∷ K10 ∷ K11 ∷ K12 ∷ K13 ∷ []) ∷ []

abbrev rule_at : ℕ → ℕ → Rule
rule_at phase rank = get_or (get_or table phase []) rank C1

rule_again : (r : Rule) → rule_at (phase_of r) (rank_of r) ≡ r
rule_again C1 = refl
rule_again C2 = refl
rule_again C3 = refl
rule_again C4 = refl
rule_again C5 = refl
rule_again C6 = refl
rule_again C7 = refl
rule_again G1 = refl
rule_again G2 = refl
rule_again G3 = refl
rule_again N1 = refl
rule_again N2 = refl
rule_again N3 = refl
rule_again N4 = refl
rule_again N5 = refl
rule_again K1 = refl
rule_again K2 = refl
rule_again K3 = refl
rule_again K4 = refl
rule_again K5 = refl
rule_again K6 = refl
rule_again K7 = refl
rule_again K8 = refl
rule_again K9 = refl
rule_again K10 = refl
rule_again K11 = refl
rule_again K12 = refl
rule_again K13 = refl

same_rule : (a b : Rule) → phase_of a ≡ phase_of b → rank_of a ≡ rank_of b → a ≡ b
same_rule a b p q = sym (rule_again a) ∙ ap₂ rule_at p q ∙ rule_again b

pub same_pair : (a b : Broken) → a.line ≡ b.line → a.rule ≡ b.rule → a ≡ b
same_pair a b p q = ap₂ (λ l r. record { line = l; rule = r }) p q

abbrev pub InPhase : ℕ → List Broken → Type 0
InPhase p xs = AllByRecursion (λ b. phase_of b.rule ≡ p) xs

pub apart_in_phase : (p : ℕ) (xs : List Broken) → InPhase p xs → Apart xs
apart_in_phase p xs all a b i j line rank =
    same_pair a b line (same_rule a.rule b.rule (of_all (λ c. phase_of c.rule ≡ p) xs a all i ∙ sym (of_all (λ c. phase_of c.rule ≡ p) xs b all j)) rank)

phase-append : (p : ℕ) (xs ys : List Broken) → InPhase p xs → InPhase p ys → InPhase p (xs ++ ys)
phase-append p [] ys h k = k
phase-append p (x ∷ xs) ys h k = (h.0, phase-append p xs ys h.1 k)

phase-flat_map : {A : Type 0} (p : ℕ) (f : A → List Broken) (xs : List A) → ((x : A) → InPhase p (f x)) → InPhase p (flat_map f xs)
phase-flat_map p f [] h = tt
phase-flat_map p f (x ∷ xs) h = phase-append p (f x) (flat_map f xs) (h x) (phase-flat_map p f xs h)

phase_if : (p : ℕ) (t : Bool) (line : ℕ) (rule : Rule) → phase_of rule ≡ p → InPhase p (broken_if t line rule)
phase_if p true line rule e = (e, tt)
phase_if p false line rule e = tt

-- ---- C

line_phase : (l : StatementLine) → InPhase 0 (broken_in_line l)
line_phase l =
    phase-append 0 (broken_if (not (list_all is_printable l.columns)) l.line C1) _ (phase_if 0 (not (list_all is_printable l.columns)) l.line C1 refl)
    (phase-append 0 (broken_if (is_initial l.columns && not (is_label_field (label_field l.columns))) l.line C2) _ (phase_if 0 (is_initial l.columns && not (is_label_field (label_field l.columns))) l.line C2 refl)
    (phase_if 0 (not (is_initial l.columns) && not (is_blank_field (label_field l.columns))) l.line C3 refl))

alone_phase : (ls : List StatementLine) → InPhase 0 (map broken_alone ls)
alone_phase [] = tt
alone_phase (l ∷ ls) = (refl, alone_phase ls)

past_phase : (ls : List StatementLine) → InPhase 0 (broken_past ls)
past_phase [] = tt
past_phase (l ∷ ls) = (refl, tt)

group_phase : (g : Group) → InPhase 0 (broken_in_group g)
group_phase g =
    phase-append 0 (broken_past (drop 19 g.continued)) _ (past_phase (drop 19 g.continued)) (phase_if 0 (is_unpaired (text_of g)) g.initial.line C6 refl)

lines_phase : (source : List ℕ) → InPhase 0 (pairs_of_lines source)
lines_phase source = by_test (is_too_long source) (statement_lines 1 (lines_of source))
  where
    by_test : (t : Bool) (ls : List StatementLine) → InPhase 0 (cond t (record { line = 1; rule = C7 } ∷ []) (broken_in ls))
    by_test true ls = (refl, tt)
    by_test false ls =
        phase-append 0 (flat_map broken_in_line ls) _ (phase-flat_map 0 broken_in_line ls line_phase)
        (phase-append 0 (map broken_alone (continuations ls)) _ (alone_phase (continuations ls)) (phase-flat_map 0 broken_in_group (groups ls) group_phase))

pub lines_apart : (source : List ℕ) → Apart (pairs_of_lines source)
lines_apart source = apart_in_phase 0 (pairs_of_lines source) (lines_phase source)

-- ---- N

abbrev IsOrderRule : Option Rule → Type 0
IsOrderRule None = Unit {0}
IsOrderRule (Some r) = phase_of r ≡ 2

breaks_phase : (before : List ItemTree) (z : Unfinished) (x : ItemTree) → IsOrderRule (breaks before z x)
unfolding breaks
breaks_phase before z x =
    by_tests (is_misplaced before x) (is_ended z) (is_stray (effect_of x.shape) (levels z)) (is_crossing (levels z) x.label (effect_of x.shape)) (is_too_deep (levels z) (effect_of x.shape))
  where
    by_tests : (a b c d e : Bool) → IsOrderRule (cond a (Some N1) (cond b (Some N2) (cond c (Some N3) (cond d (Some N4) (cond e (Some N5) None)))))
    by_tests true b c d e = refl
    by_tests false true c d e = refl
    by_tests false false true d e = refl
    by_tests false false false true e = refl
    by_tests false false false false true = refl
    by_tests false false false false false = tt

first_phase : (before : List ItemTree) (z : Unfinished) (xs : List ItemTree) → InPhase 2 (option_to_list (first_broken before z xs))
first_phase before z [] = tt
first_phase before z (x ∷ xs) = by_rule (breaks before z x) (first_broken (before ++ x ∷ []) (past z x) xs) (breaks_phase before z x) (first_phase (before ++ x ∷ []) (past z x) xs)
  where
    by_rule : (o : Option Rule) (later : Option Broken) → IsOrderRule o → InPhase 2 (option_to_list later) → InPhase 2 (option_to_list (told_first x o later))
    by_rule None later h k = k
    by_rule (Some r) later h k = (h, tt)

missing_phase : (items : List ItemTree) → InPhase 2 (option_to_list (missing_end items))
unfolding missing_end
missing_phase items = by_test (lacks_end items)
  where
    by_test : (t : Bool) → InPhase 2 (option_to_list (cond t (Some (record { line = last_line items; rule = N2 })) None))
    by_test true = (refl, tt)
    by_test false = tt

pub order_apart : (items : List ItemTree) → Apart (pairs_of_order items)
order_apart items =
    apart_in_phase 2 (pairs_of_order items) (phase-append 2 (option_to_list (missing_end items)) (option_to_list (first_broken [] start items)) (missing_phase items) (first_phase [] start items))

-- ---- G: no two statements begin at one line

abbrev From : ℕ → List Entry → Type 0
From n [] = Unit {0}
From n (e ∷ es) = (n ≤ e.line) × From (e.line + 1) es

from_less : (n m : ℕ) (es : List Entry) → n ≤ m → From m es → From n es
from_less n m [] le h = tt
from_less n m (e ∷ es) le h = (omega (arith, h.0), h.1)

entries_from : (n : ℕ) (ls : List StatementLine) → Ascends n ls → From n (map entry_in (groups ls))
unfolding groups
entries_from n [] h = tt
entries_from n (l ∷ ls) h = by_test (is_initial l.columns) h.0 (entries_from (l.line + 1) ls h.1)
  where
    by_test : (t : Bool) → n ≤ l.line → From (l.line + 1) (map entry_in (groups ls)) → From n (map entry_in (cond t (record { initial = l; continued = continuations ls } ∷ groups ls) (groups ls)))
    by_test true le k = (le, k)
    by_test false le k = from_less n (l.line + 1) (map entry_in (groups ls)) (omega arith) k

abbrev Onward : ℕ → List Broken → Type 0
Onward n [] = Unit {0}
Onward n (b ∷ bs) = (n ≤ b.line) × Onward (b.line + 1) bs

onward_less : (n m : ℕ) (bs : List Broken) → n ≤ m → Onward m bs → Onward n bs
onward_less n m [] le h = tt
onward_less n m (b ∷ bs) le h = (omega (arith, h.0), h.1)

texts_onward : (n : ℕ) (es : List Entry) → From n es → Onward n (pairs_of_texts es)
texts_onward n [] h = tt
texts_onward n (e ∷ es) h = by_result (read_shape (bare e.text)) (pairs_of_texts es) h.0 (texts_onward (e.line + 1) es h.1)
  where
    by_result : (r : Result ShapeTree Rule) (rest : List Broken) → n ≤ e.line → Onward (e.line + 1) rest
        → Onward n (cons_option (refused_by {A = ItemTree} (at_line e.line r >>= λ s. Ok (record { line = e.line; label = e.label; shape = s }))) rest)
    by_result (Ok s) rest le k = onward_less n (e.line + 1) rest (omega arith) k
    by_result (Err rule) rest le k = (le, k)

onward_from : (n : ℕ) (bs : List Broken) (a : Broken) → Onward n bs → In a bs → n ≤ a.line
onward_from n [] a h i = absurd i
onward_from n (b ∷ bs) a h (inl e) = let at : a.line ≡ b.line = ap (λ (x : Broken). x.line) e in omega (arith, h.0, at)
onward_from n (b ∷ bs) a h (inr i) = omega (arith, h.0, onward_from (b.line + 1) bs a h.1 i)

onward_apart : (n : ℕ) (bs : List Broken) (a c : Broken) → Onward n bs → In a bs → In c bs → a.line ≡ c.line → a ≡ c
onward_apart n [] a c h i j line = absurd i
onward_apart n (b ∷ bs) a c h (inl e) (inl f) line = e ∙ sym f
onward_apart n (b ∷ bs) a c h (inl e) (inr j) line =
    let at : a.line ≡ b.line = ap (λ (x : Broken). x.line) e in
    absurd (omega (arith, onward_from (b.line + 1) bs c h.1 j, at, line))
onward_apart n (b ∷ bs) a c h (inr i) (inl f) line =
    let at : c.line ≡ b.line = ap (λ (x : Broken). x.line) f in
    absurd (omega (arith, onward_from (b.line + 1) bs a h.1 i, at, line))
onward_apart n (b ∷ bs) a c h (inr i) (inr j) line = onward_apart (b.line + 1) bs a c h.1 i j line

entries_are : (source : List ℕ) (entries : List Entry) → statements_of source ≡ Ok entries → map entry_in (groups (statement_lines 1 (lines_of source))) ≡ entries
unfolding statements_of statements_in
entries_are source entries e = by_test (is_too_long source) (least (broken_in (statement_lines 1 (lines_of source)))) (map entry_in (groups (statement_lines 1 (lines_of source)))) e
  where
    by_test : (t : Bool) (o : Option Broken) (xs : List Entry) → cond t (Err (record { line = 1; rule = C7 })) (unless o xs) ≡ Ok entries → xs ≡ entries
    by_test true o xs k = absurd cc
    by_test false None xs k = cc
    by_test false (Some b) xs k = absurd cc

pub texts_apart : (source : List ℕ) (entries : List Entry) → statements_of source ≡ Ok entries → Apart (pairs_of_texts entries)
texts_apart source entries e a b i j line rank =
    onward_apart 1 (pairs_of_texts entries) a b (subst (λ es. Onward 1 (pairs_of_texts es)) (entries_are source entries e) (texts_onward 1 (map entry_in (groups (statement_lines 1 (lines_of source)))) (entries_from 1 (statement_lines 1 (lines_of source)) (ascends_all 1 (lines_of source))))) i j line
