-- The characters of a line, one after another, and those of the lines behind it.
use Rattle.std.proofs.Common.{◌≡◌, ℕ, suc, ◌+◌, ◌<◌, Bool, true, false, not, ◌||◌, ◌&&◌, List, [], ◌∷◌, ◌++◌, length, get_or, take, drop, append_assoc, refl, sym, ap, ◌∙◌, add-one, arith, le-ltb, lt-ltb, ◌≤◌}
use Rattle.std.specs.Prelude.{◌==◌, nat_lt, if◌then◌else◌, Option, Some, None}
use Rattle.std.proofs.lemmas.List.{append-nil, drop_all, drop_more, length-take-le, take_more}
use Rattle.meaning.specs.Characters.{blank, raised}
use Rattle.meaning.specs.Lines.{card, is_comment}
use Rattle.source_columns.specs.Excerpts.{is_start}
use Rattle.word_places.specs.declared.marks.Mark.{Mark}
use Rattle.word_places.specs.declared.scan.Scan.{Scan}
use Rattle.word_places.specs.Columns.{first_word, marks_behind, marks_from, marks_in, may_begin, scan_behind, stands_here}

-- what is put behind others if a test says so
joined : (b : Bool) (now : List Mark) (m : Mark) (ms : List Mark) → (now ++ (if b then [] else m ∷ [])) ++ ms ≡ now ++ (if b then ms else m ∷ ms)
joined true now m ms = ap (λ xs. xs ++ ms) (append-nil now)
joined false now m ms = append_assoc now (m ∷ []) ms

abbrev pub mark_of : ℕ → ℕ → ℕ → Mark
mark_of line column c = record { line = line; column = column; code = raised c }

-- what is known with the columns from one on, with those behind it
pub mark_more : (line i : ℕ) (columns : List ℕ) (now : List Mark) → i < length columns → (now ++ (if get_or columns i 0 == blank then [] else mark_of line (i + 1) (get_or columns i 0) ∷ [])) ++ marks_from line (suc (i + 1)) (drop (i + 1) columns) ≡ now ++ marks_from line (suc i) (drop i columns)
unfolding marks_from
mark_more line i columns now lt =
    let c = get_or columns i 0 in
    let rest = drop (i + 1) columns in
    joined (c == blank) now (mark_of line (i + 1) c) (marks_from line (suc (i + 1)) rest)
    ∙ ap (λ n. now ++ (if c == blank then marks_from line (suc n) rest else mark_of line n c ∷ marks_from line (suc n) rest)) (add-one i)
    ∙ ap (λ cs. now ++ marks_from line (suc i) cs) (sym (drop_more columns i 0 lt))

-- none are left behind the last column
pub marks_end : (line i : ℕ) (columns : List ℕ) (now : List Mark) → length columns ≤ i → now ++ marks_from line (suc i) (drop i columns) ≡ now
unfolding marks_from
marks_end line i columns now le =
    ap (λ cs. now ++ marks_from line (suc i) cs) (drop_all i columns le) ∙ append-nil now

-- ---- lines

abbrev pub marks_if : Bool → ℕ → List ℕ → List (List ℕ) → List Mark
marks_if ends line l ls =
    if ends then [] else (if is_comment (card l) then [] else marks_in (suc line) l) ++ marks_behind (suc line) ls

or_true : (b : Bool) → (b || true) ≡ true
or_true true = refl
or_true false = refl

pub lines_start : (line : ℕ) (l : List ℕ) (ls : List (List ℕ)) (now : List Mark) → is_start l ≡ true → now ++ marks_behind line (l ∷ ls) ≡ now
unfolding marks_behind
lines_start line l ls now starts =
    ap (λ b. now ++ marks_if (b || not (nat_lt line 4294967295)) line l ls) starts ∙ append-nil now

pub lines_last : (line : ℕ) (l : List ℕ) (ls : List (List ℕ)) (now : List Mark) → line ≡ 4294967295 → now ++ marks_behind line (l ∷ ls) ≡ now
unfolding marks_behind
lines_last line l ls now last =
    ap (λ b. now ++ marks_if (is_start l || not b) line l ls) (le-ltb line 4294967295 (omega arith))
    ∙ ap (λ b. now ++ marks_if b line l ls) (or_true (is_start l)) ∙ append-nil now

pub lines_none : (line : ℕ) (now : List Mark) → now ++ marks_behind line [] ≡ now
unfolding marks_behind
lines_none line now = append-nil now

pub line_more : (line : ℕ) (l : List ℕ) (ls : List (List ℕ)) (now : List Mark) → is_start l ≡ false → line < 4294967295 → (now ++ (if is_comment (card l) then [] else marks_in (line + 1) l)) ++ marks_behind (line + 1) ls ≡ now ++ marks_behind line (l ∷ ls)
unfolding marks_behind
line_more line l ls now goes lt =
    append_assoc now (if is_comment (card l) then [] else marks_in (line + 1) l) (marks_behind (line + 1) ls)
    ∙ ap (λ n. now ++ ((if is_comment (card l) then [] else marks_in n l) ++ marks_behind n ls)) (add-one line)
    ∙ sym (ap (λ b. now ++ marks_if (b || not (nat_lt line 4294967295)) line l ls) goes ∙ ap (λ b. now ++ marks_if (not b) line l ls) (lt-ltb line 4294967295 lt))

-- ---- words

module _ (word : List ℕ) (s : Scan) (marks : List Mark) (i : ℕ) (d : Mark) where
  abbrev m : Mark
  m = get_or marks i d

  -- what comes of the place, by whether the word begins there
  abbrev step : Bool → Option Mark
  step b = if b then Some m else first_word word (scan_behind (length (take i marks)) m.code s) (take i marks ++ m ∷ []) (drop (i + 1) marks)

  first_step : i < length marks → first_word word s (take i marks) (drop i marks) ≡ step (may_begin s (take i marks) && stands_here word (drop i marks))
  unfolding first_word
  first_step lt =
      ap (first_word word s (take i marks)) (drop_more marks i d lt) ∙ ap (λ ms. step (may_begin s (take i marks) && stands_here word ms)) (sym (drop_more marks i d lt))

  pub word_hit : i < length marks → (may_begin s (take i marks) && stands_here word (drop i marks)) ≡ true → first_word word s (take i marks) (drop i marks) ≡ Some m
  word_hit lt hits = first_step lt ∙ ap step hits

  pub word_miss : i < length marks → (may_begin s (take i marks) && stands_here word (drop i marks)) ≡ false → first_word word (scan_behind i m.code s) (take (i + 1) marks) (drop (i + 1) marks) ≡ first_word word s (take i marks) (drop i marks)
  word_miss lt misses =
      ap (λ n. first_word word (scan_behind n m.code s) (take (i + 1) marks) (drop (i + 1) marks)) (sym (length-take-le i marks (omega arith)))
      ∙ ap (λ front. first_word word (scan_behind (length (take i marks)) m.code s) front (drop (i + 1) marks)) (take_more marks i d lt)
      ∙ sym (first_step lt ∙ ap step misses)

-- no word begins behind all of them
pub word_end : (word : List ℕ) (s : Scan) (marks : List Mark) (i : ℕ) → length marks ≤ i → first_word word s (take i marks) (drop i marks) ≡ None
unfolding first_word
word_end word s marks i le = ap (first_word word s (take i marks)) (drop_all i marks le)
