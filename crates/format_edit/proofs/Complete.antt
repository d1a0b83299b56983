-- What is denoted is read.
use Rattle.std.proofs.Common.{◌≡◌, ℕ, zero, suc, ◌<◌, ◌≤◌, Bool, true, false, ◌||◌, eqb, List, [], ◌∷◌, ◌++◌, length, Option, Some, None, refl, nat_lt, sym, ap, subst, ◌∙◌, append_assoc, arith}
use Rattle.std.specs.Prelude.{option_map}
use Rattle.std.specs.List.{list_all}
use Rattle.std.proofs.lemmas.Bool.{eqb-true, ne_eqb, leb-true, and_parts}
use Rattle.std.proofs.lemmas.List.{length-append}
use Rattle.meaning.specs.Characters.{is_digit, number_of}
use Rattle.meaning.specs.Reading.{Text, Reader, ◌>>=◌, when, either, after, with_char, run}
use Rattle.meaning.specs.Formats.{Descriptor, integer_field, logical_field, characters, Part, single, group, Parts, is_count, is_least, count_in, Word, integers, logicals, quoted, blanks, slash_word, colon_word, grouped, Words, last, before, point_with, doubled, comma_if, spell_word, spell, is_mark, first_word, IsLeast, IsRepeat, IsWidth, IsWellWord, AreWell, depth_of, depth, least_in, meant, all_meant, least_at, integer_at, logical_at, quoted_at, times_read, characters_at, group_at, behind_count, counted_at, part_at, is_separator, next_at, parts_at, parts_in}
use Rattle.format_edit.proofs.Front.{run_again, when_yes, behind_yes}
use Rattle.format_edit.proofs.Quoted.{at_other}
use Rattle.format_edit.proofs.Joined.{group_read}
use Rattle.format_edit.proofs.Sound.{starts_mark, same_mark}

-- where a word ends: at the end, a closing parenthesis, a comma, a slash or a colon
abbrev pub stops : Text → Bool
stops [] = true
stops (c ∷ t) = eqb c 41 || (eqb c 44 || (eqb c 47 || eqb c 58))

at_stop : (P : ℕ → Type 0) → P 41 → P 44 → P 47 → P 58 → (c : ℕ) (t : Text) → stops (c ∷ t) ≡ true → P c
at_stop P p q r s c t h = by_letter (eqb c 41) (eqb c 44) (eqb c 47) (eqb c 58) refl refl refl refl
  where
    by_letter : (a b d e : Bool) → eqb c 41 ≡ a → eqb c 44 ≡ b → eqb c 47 ≡ d → eqb c 58 ≡ e → P c
    by_letter true b d e ea eb ed ee = subst P (sym (eqb-true c 41 ea)) p
    by_letter false true d e ea eb ed ee = subst P (sym (eqb-true c 44 eb)) q
    by_letter false false true e ea eb ed ee = subst P (sym (eqb-true c 47 ed)) r
    by_letter false false false true ea eb ed ee = subst P (sym (eqb-true c 58 ee)) s
    by_letter false false false false ea eb ed ee = let k = rw (ea, eb, ed, ee) at h in absurd cc

abbrev nothing_run : Text → Text × Text
nothing_run t = ([], t)

no_digit : (t : Text) → stops t ≡ true → run is_digit t ≡ nothing_run t
unfolding run
no_digit [] h = refl
no_digit (c ∷ t) h = at_stop (λ x. run is_digit (x ∷ t) ≡ nothing_run (x ∷ t)) refl refl refl refl c t h

no_point : (t : Text) → stops t ≡ true → after (46 ∷ []) t ≡ None
unfolding after when
no_point [] h = refl
no_point (c ∷ t) h = at_stop (λ x. after (46 ∷ []) (x ∷ t) ≡ None) refl refl refl refl c t h

-- ---- the words

abbrev some_quoted : List ℕ → Text → Option (List ℕ × Text)
some_quoted text rest = Some (text, rest)

quoted_end : (rest : Text) → stops rest ≡ true → quoted_at (39 ∷ rest) ≡ some_quoted [] rest
unfolding quoted_at
quoted_end [] h = refl
quoted_end (c ∷ t) h = at_stop (λ x. quoted_at (39 ∷ (x ∷ t)) ≡ some_quoted [] (x ∷ t)) refl refl refl refl c t h

quoted_two : (t : Text) → quoted_at (39 ∷ (39 ∷ t)) ≡ option_map (with_char 39) (quoted_at t)
unfolding quoted_at
quoted_two t = refl

quoted_again : (text rest : Text) → stops rest ≡ true → quoted_at (doubled text ++ (39 ∷ rest)) ≡ some_quoted text rest
quoted_again [] rest h = quoted_end rest h
quoted_again (c ∷ cs) rest h = by_test (eqb c 39) refl (quoted_again cs rest h)
  where
    by_test : (b : Bool) → eqb c 39 ≡ b → quoted_at (doubled cs ++ (39 ∷ rest)) ≡ some_quoted cs rest → quoted_at (doubled (c ∷ cs) ++ (39 ∷ rest)) ≡ some_quoted (c ∷ cs) rest
    by_test true e rec =
        rw e (quoted_two (doubled cs ++ (39 ∷ rest)) ∙ ap (option_map (with_char 39)) rec ∙ ap (λ x. some_quoted (x ∷ cs) rest) (sym (eqb-true c 39 e)))
    by_test false e rec =
        rw e ((at_other c (doubled cs ++ (39 ∷ rest)) e).0 ∙ ap (option_map (with_char c)) rec)

abbrev some_least : ℕ → Text → Option (ℕ × Text)
some_least m rest = Some (m, rest)

least_again : (least : Option (List ℕ)) (rest : Text) → IsLeast least → stops rest ≡ true → least_at (point_with least ++ rest) ≡ some_least (least_in least) rest
unfolding least_at either
least_again None rest well h = let k = no_point rest h in rw k refl
least_again (Some digits) rest well h =
    let k = behind_yes 46 (digits ++ rest) in
    let r = run_again digits rest well.0 (no_digit rest h) in
    rw (k, r) (when_yes (is_least digits) (some_least (number_of digits) rest) well.1)

-- what follows a width
point_stops : (least : Option (List ℕ)) (rest : Text) → stops rest ≡ true → run is_digit (point_with least ++ rest) ≡ nothing_run (point_with least ++ rest)
unfolding run
point_stops None rest h = no_digit rest h
point_stops (Some digits) rest h = refl

abbrev some_descriptor : Descriptor → Text → Option (Descriptor × Text)
some_descriptor d rest = Some (d, rest)

integer_again : (width : List ℕ) (least : Option (List ℕ)) (rest : Text) → IsWidth width → IsLeast least → stops rest ≡ true → integer_at (width ++ (point_with least ++ rest)) ≡ some_descriptor (integer_field (number_of width) (least_in least)) rest
unfolding integer_at ◌>>=◌
integer_again width least rest wide well h =
    let digits = (and_parts (nat_lt 0 (length width)) (list_all is_digit width) wide.0).1 in
    let r = run_again width (point_with least ++ rest) digits (point_stops least rest h) in
    let l = least_again least rest well h in
    rw (r, l) (when_yes (is_count (number_of width)) (some_descriptor (integer_field (number_of width) (least_in least)) rest) wide.1)

logical_again : (width : List ℕ) (rest : Text) → IsWidth width → stops rest ≡ true → logical_at (width ++ rest) ≡ some_descriptor (logical_field (number_of width)) rest
unfolding logical_at
logical_again width rest wide h =
    let digits = (and_parts (nat_lt 0 (length width)) (list_all is_digit width) wide.0).1 in
    let r = run_again width rest digits (no_digit rest h) in
    rw r (when_yes (is_count (number_of width)) (some_descriptor (logical_field (number_of width)) rest) wide.1)

-- ---- counts

abbrev IsPlain : ℕ → Type 0
IsPlain c = (eqb c 39 ≡ false) × ((eqb c 47 ≡ false) × (eqb c 58 ≡ false))

digit_plain : (c : ℕ) → is_digit c ≡ true → IsPlain c
digit_plain c h =
    let low : 48 ≤ c = leb-true 48 c (and_parts _ _ h).0 in
    let high : c ≤ 57 = leb-true c 57 (and_parts _ _ h).1 in
    (ne_eqb _ _ (λ e. omega arith), (ne_eqb _ _ (λ e. omega arith), ne_eqb _ _ (λ e. omega arith)))

plain_part : (inner : Reader Parts) (c : ℕ) (t : Text) → IsPlain c → part_at inner (c ∷ t) ≡ counted_at inner (c ∷ t)
unfolding part_at
plain_part inner c t (a, (s, d)) = rw (a, s, d) refl

counted_again : (inner : Reader Parts) (digits u : Text) → IsRepeat digits → run is_digit u ≡ nothing_run u → counted_at inner (digits ++ u) ≡ behind_count inner (count_in digits) u
unfolding counted_at
counted_again inner digits u well stop =
    let r = run_again digits u well.0 stop in
    rw r (when_yes (is_count (count_in digits)) (behind_count inner (count_in digits) u) well.1)

-- digits and a letter
part_again : (inner : Reader Parts) (digits : Text) (c : ℕ) (u : Text) → IsRepeat digits → IsPlain c → run is_digit (c ∷ u) ≡ nothing_run (c ∷ u) → part_at inner (digits ++ (c ∷ u)) ≡ behind_count inner (count_in digits) (c ∷ u)
part_again inner [] c u well plain stop =
    plain_part inner c u plain ∙ counted_again inner [] (c ∷ u) well stop
part_again inner (d ∷ ds) c u well plain stop =
    plain_part inner d (ds ++ (c ∷ u)) (digit_plain d (and_parts (is_digit d) (list_all is_digit ds) well.0).0) ∙ counted_again inner (d ∷ ds) (c ∷ u) well stop

-- ---- one word

abbrev some_part : Part → Text → Option (Part × Text)
some_part p rest = Some (p, rest)

abbrev some_parts : Parts → Text → Option (Parts × Text)
some_parts ps rest = Some (ps, rest)

stops_behind : (b : Bool) (t : Text) → b ≡ false → (b || stops t) ≡ true → stops t ≡ true
stops_behind true t e h = absurd cc
stops_behind false t e h = h

module _ (levels : ℕ) (inner : Reader Parts) (reads : (ws : Words) → AreWell ws → depth ws < levels → (rest : Text) → inner (spell ws ++ (41 ∷ rest)) ≡ some_parts (all_meant ws) (41 ∷ rest)) where
  word_again : (w : Word) (rest : Text) → IsWellWord w → depth_of w ≤ levels → (is_mark w || stops rest) ≡ true → part_at inner (spell_word w ++ rest) ≡ some_part (meant w) rest
  unfolding run behind_count part_at characters_at ◌>>=◌
  word_again (integers repeats width least) rest well deep h =
      ap (part_at inner) (append_assoc repeats (73 ∷ (width ++ point_with least)) rest)
      ∙ part_again inner repeats 73 ((width ++ point_with least) ++ rest) well.0 (refl, (refl, refl)) refl
      ∙ ap (λ x. times_read (count_in repeats) (integer_at x)) (append_assoc width (point_with least) rest)
      ∙ ap (times_read (count_in repeats)) (integer_again width least rest well.1.0 well.1.1 h)
  word_again (logicals repeats width) rest well deep h =
      ap (part_at inner) (append_assoc repeats (76 ∷ width) rest) ∙ part_again inner repeats 76 (width ++ rest) well.0 (refl, (refl, refl)) refl
      ∙ ap (times_read (count_in repeats)) (logical_again width rest well.1 h)
  word_again (quoted text) rest well deep h =
      ap (λ x. characters_at x) (append_assoc (doubled text) (39 ∷ []) rest) ∙ ap (λ o. o >>= λ t. some_part (single 1 (characters t.0)) t.1) (quoted_again text rest h)
  word_again (blanks count) rest well deep h =
      ap (part_at inner) (append_assoc count (88 ∷ []) rest) ∙ part_again inner count 88 rest well (refl, (refl, refl)) refl
  word_again slash_word rest well deep h = refl
  word_again colon_word rest well deep h = refl
  word_again (grouped repeats ws) rest well deep h =
      ap (part_at inner) (append_assoc repeats (40 ∷ (spell ws ++ (41 ∷ []))) rest)
      ∙ part_again inner repeats 40 ((spell ws ++ (41 ∷ [])) ++ rest) well.0 (refl, (refl, refl)) refl
      ∙ ap (group_at inner (count_in repeats)) (append_assoc (spell ws) (41 ∷ []) rest)
      ∙ group_read inner (count_in repeats) (spell ws ++ (41 ∷ rest)) (all_meant ws) (41 ∷ rest) rest (group (count_in repeats) (all_meant ws)) (reads ws well.1 (omega arith) rest) (behind_yes 41 rest) refl

-- ---- words

abbrev some_next : Text → Option Text
some_next t = Some t

-- what a word begins with is no comma and closes nothing
abbrev IsBegun : ℕ → Type 0
IsBegun c = (eqb c 44 ≡ false) × (eqb c 41 ≡ false)

digit_begun : (c : ℕ) → is_digit c ≡ true → IsBegun c
digit_begun c h =
    let low : 48 ≤ c = leb-true 48 c (and_parts _ _ h).0 in
    (ne_eqb _ _ (λ e. omega arith), ne_eqb _ _ (λ e. omega arith))

record Begins (w : Word) (t : Text) : Type 0 where
  letter : ℕ
  behind : Text
  is : t ≡ letter ∷ behind
  begun : IsBegun letter
  marks : starts_mark t ≡ is_mark w

digits_begin : (w : Word) (digits : List ℕ) (c : ℕ) (u : Text) → list_all is_digit digits ≡ true → IsBegun c → is_mark w ≡ false → starts_mark (c ∷ u) ≡ false → Begins w (digits ++ (c ∷ u))
digits_begin w [] c u all begun e f = record { letter = c; behind = u; is = refl; begun = begun; marks = f ∙ sym e }
digits_begin w (d ∷ ds) c u all begun e f =
    let h = (and_parts (is_digit d) (list_all is_digit ds) all).0 in
    let p = digit_plain d h in
    let s = p.1.0 in
    let k = p.1.1 in
    let g : starts_mark (d ∷ (ds ++ (c ∷ u))) ≡ false = rw (s, k) refl in
    record { letter = d; behind = ds ++ (c ∷ u); is = refl; begun = digit_begun d h; marks = g ∙ sym e }

begins : (w : Word) (u : Text) → IsWellWord w → Begins w (spell_word w ++ u)
begins (integers repeats width least) u well =
    subst (Begins (integers repeats width least)) (sym (append_assoc repeats (73 ∷ (width ++ point_with least)) u)) (digits_begin (integers repeats width least) repeats 73 ((width ++ point_with least) ++ u) well.0.0 (refl, refl) refl refl)
begins (logicals repeats width) u well =
    subst (Begins (logicals repeats width)) (sym (append_assoc repeats (76 ∷ width) u)) (digits_begin (logicals repeats width) repeats 76 (width ++ u) well.0.0 (refl, refl) refl refl)
begins (quoted text) u well = record { letter = 39; behind = (doubled text ++ (39 ∷ [])) ++ u; is = refl; begun = (refl, refl); marks = refl }
begins (blanks count) u well =
    subst (Begins (blanks count)) (sym (append_assoc count (88 ∷ []) u)) (digits_begin (blanks count) count 88 u well.0 (refl, refl) refl refl)
begins slash_word u well = record { letter = 47; behind = u; is = refl; begun = (refl, refl); marks = refl }
begins colon_word u well = record { letter = 58; behind = u; is = refl; begun = (refl, refl); marks = refl }
begins (grouped repeats ws) u well =
    subst (Begins (grouped repeats ws)) (sym (append_assoc repeats (40 ∷ (spell ws ++ (41 ∷ []))) u)) (digits_begin (grouped repeats ws) repeats 40 ((spell ws ++ (41 ∷ [])) ++ u) well.0.0 (refl, refl) refl refl)

words_begin : (ws : Words) (u : Text) → AreWell ws → Begins (first_word ws) (spell ws ++ u)
words_begin (last w) u well = begins w u well
words_begin (before w comma ws) u well =
    subst (Begins w) (sym (append_assoc (spell_word w) (comma_if comma ++ spell ws) u)) (begins w ((comma_if comma ++ spell ws) ++ u) well.0)

next_at_letter : (behind : Bool) (c : ℕ) (t : Text) → eqb c 44 ≡ false → eqb c 41 ≡ false → (behind || starts_mark (c ∷ t)) ≡ true → next_at behind (c ∷ t) ≡ some_next (c ∷ t)
unfolding next_at
next_at_letter behind c t e f may = by_mark behind (starts_mark (c ∷ t)) refl refl
  where
    by_mark : (b m : Bool) → behind ≡ b → starts_mark (c ∷ t) ≡ m → next_at behind (c ∷ t) ≡ some_next (c ∷ t)
    by_mark b true eb em = rw (e, em) refl
    by_mark true false eb em = rw (e, em, eb, f) refl
    by_mark false false eb em = let k = rw (eb, em) at may in absurd cc

-- the next word behind a comma, or behind none where it may be left out
next_again : (w : Word) (comma : Bool) (ws : Words) (u : Text) → AreWell ws → (comma || (is_mark w || is_mark (first_word ws))) ≡ true → next_at (is_mark w) (comma_if comma ++ (spell ws ++ u)) ≡ some_next (spell ws ++ u)
unfolding next_at
next_again w true ws u well may = refl
next_again w false ws u well may =
    let b = words_begin ws u well in
    let m : (is_mark w || starts_mark (b.letter ∷ b.behind)) ≡ true = ap (λ t. is_mark w || starts_mark t) (sym b.is) ∙ ap (λ y. is_mark w || y) b.marks ∙ may in
    ap (next_at (is_mark w)) b.is ∙ next_at_letter (is_mark w) b.letter b.behind b.begun.0 b.begun.1 m ∙ ap some_next (sym b.is)

-- a word stops before the next one
marked_stops : (c : ℕ) (t : Text) → starts_mark (c ∷ t) ≡ true → stops (c ∷ t) ≡ true
marked_stops c t h = by_letter (eqb c 41) (eqb c 44) refl refl
  where
    by_letter : (a b : Bool) → eqb c 41 ≡ a → eqb c 44 ≡ b → stops (c ∷ t) ≡ true
    by_letter true b ea eb = rw ea refl
    by_letter false true ea eb = rw (ea, eb) refl
    by_letter false false ea eb = rw (ea, eb) h

stops_next : (w : Word) (comma : Bool) (ws : Words) (u : Text) → AreWell ws → (comma || (is_mark w || is_mark (first_word ws))) ≡ true → (is_mark w || stops (comma_if comma ++ (spell ws ++ u))) ≡ true
stops_next w true ws u well may = or_stops (is_mark w)
  where
    or_stops : (b : Bool) → (b || true) ≡ true
    or_stops true = refl
    or_stops false = refl
stops_next w false ws u well may = by_mark (is_mark w) refl
  where
    by_mark : (b : Bool) → is_mark w ≡ b → (is_mark w || stops (spell ws ++ u)) ≡ true
    by_mark true e = rw e refl
    by_mark false e =
        let b = words_begin ws u well in
        let first : is_mark (first_word ws) ≡ true = rw e at may in
        let m : starts_mark (b.letter ∷ b.behind) ≡ true = ap starts_mark (sym b.is) ∙ b.marks ∙ first in
        rw e (ap stops b.is ∙ marked_stops b.letter b.behind m)

-- how many words
abbrev pub count_words : Words → ℕ
count_words (last w) = 1
count_words (before w comma ws) = suc (count_words ws)

-- where a list of words ends
abbrev pub ends : Text → Bool
ends [] = true
ends (c ∷ t) = eqb c 41

ends_stops : (t : Text) → ends t ≡ true → stops t ≡ true
ends_stops [] h = refl
ends_stops (c ∷ t) h = rw h refl

no_next : (behind : Bool) (t : Text) → ends t ≡ true → next_at behind t ≡ None
unfolding next_at
no_next behind [] h = refl
no_next behind (c ∷ t) h =
    subst (λ x. next_at behind (x ∷ t) ≡ None) (sym (eqb-true c 41 h)) (closes behind)
  where
    closes : (b : Bool) → next_at b (41 ∷ t) ≡ None
    closes true = refl
    closes false = refl

or_whole : (b c : Bool) → c ≡ true → (b || c) ≡ true
or_whole true c e = refl
or_whole false c e = e

module _ (levels : ℕ) (inner : Reader Parts) (reads : (ws : Words) → AreWell ws → depth ws < levels → (rest : Text) → inner (spell ws ++ (41 ∷ rest)) ≡ some_parts (all_meant ws) (41 ∷ rest)) where
  words_again : (ws : Words) (n : ℕ) (rest : Text) → AreWell ws → depth ws ≤ levels → count_words ws ≤ n → ends rest ≡ true → parts_at inner n (spell ws ++ rest) ≡ some_parts (all_meant ws) rest
  unfolding parts_at ◌>>=◌ either
  words_again (last w) zero rest well deep long h = absurd (omega arith)
  words_again (last w) (suc n) rest well deep long h =
      let e = word_again levels inner reads w rest well deep (or_whole (is_mark w) (stops rest) (ends_stops rest h)) in
      let a = no_next (is_separator (meant w)) rest h in
      rw (e, a) refl
  words_again (before w comma ws) zero rest well deep long h = absurd (omega arith)
  words_again (before w comma ws) (suc n) rest well deep long h =
      let tail = comma_if comma ++ (spell ws ++ rest) in
      let whole : spell (before w comma ws) ++ rest ≡ spell_word w ++ tail = append_assoc (spell_word w) (comma_if comma ++ spell ws) rest ∙ ap (λ x. spell_word w ++ x) (append_assoc (comma_if comma) (spell ws) rest) in
      let e = word_again levels inner reads w tail well.0 (omega arith) (stops_next w comma ws rest well.1.1 well.1.0) in
      let a : next_at (is_separator (meant w)) tail ≡ some_next (spell ws ++ rest) = ap (λ b. next_at b tail) (same_mark w) ∙ next_again w comma ws rest well.1.1 well.1.0 in
      let r = words_again ws n rest well.1.1 (omega arith) (omega arith) h in
      ap (parts_at inner (suc n)) whole ∙ rw (e, a, r) refl

word_some : (w : Word) (u : Text) → IsWellWord w → length u < length (spell_word w ++ u)
word_some (integers repeats width least) u well = omega (arith, length-append (repeats ++ (73 ∷ (width ++ point_with least))) u, length-append repeats (73 ∷ (width ++ point_with least)))
word_some (logicals repeats width) u well = omega (arith, length-append (repeats ++ (76 ∷ width)) u, length-append repeats (76 ∷ width))
word_some (quoted text) u well = omega (arith, length-append (39 ∷ (doubled text ++ (39 ∷ []))) u)
word_some (blanks count) u well = omega (arith, length-append (count ++ (88 ∷ [])) u, length-append count (88 ∷ []))
word_some slash_word u well = omega arith
word_some colon_word u well = omega arith
word_some (grouped repeats ws) u well = omega (arith, length-append (repeats ++ (40 ∷ (spell ws ++ (41 ∷ [])))) u, length-append repeats (40 ∷ (spell ws ++ (41 ∷ []))))

pub words_some : (ws : Words) (u : Text) → AreWell ws → count_words ws ≤ length (spell ws ++ u)
words_some (last w) u well = omega (arith, word_some w u well)
words_some (before w comma ws) u well =
    let rest = (comma_if comma ++ spell ws) ++ u in
    let long = word_some w rest well.0 in
    let e = ap length (append_assoc (spell_word w) (comma_if comma ++ spell ws) u) in
    let f = ap length (append_assoc (comma_if comma) (spell ws) u) in
    let g = length-append (comma_if comma) (spell ws ++ u) in
    omega (arith, words_some ws u well.1.1)

pub all_again : (levels : ℕ) (ws : Words) (rest : Text) → AreWell ws → depth ws < levels → ends rest ≡ true → parts_in levels (spell ws ++ rest) ≡ some_parts (all_meant ws) rest
unfolding parts_in
all_again zero ws rest well deep h = absurd (omega arith)
all_again (suc levels) ws rest well deep h =
    words_again levels (parts_in levels) (λ vs ok low u. all_again levels vs (41 ∷ u) ok low refl) ws (suc (length (spell ws ++ rest))) rest well (omega arith) (omega (arith, words_some ws rest well)) h
