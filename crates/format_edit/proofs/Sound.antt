-- What is read is denoted.
use Rattle.std.proofs.Common.{◌≡◌, ℕ, zero, suc, ◌<◌, ◌≤◌, Bool, true, false, ◌||◌, eqb, List, [], ◌∷◌, ◌++◌, length, Option, Some, None, refl, nat_lt, sym, ap, ◌∙◌, append_assoc, arith}
use Rattle.std.specs.Prelude.{option_map}
use Rattle.std.specs.List.{list_all}
use Rattle.std.proofs.lemmas.Bool.{eqb-true, lt-ltb, and_from}
use Rattle.meaning.specs.Characters.{is_digit, number_of}
use Rattle.meaning.specs.Reading.{Text, Reader, ◌>>=◌, when, either, after, with_char, run}
use Rattle.meaning.specs.Formats.{Descriptor, integer_field, logical_field, characters, skip, slash, colon, Part, single, group, Parts, no_parts, parts, is_count, is_least, count_in, Word, integers, logicals, quoted, blanks, slash_word, colon_word, grouped, Words, last, before, point_with, doubled, comma_if, spell_word, spell, is_mark, first_word, IsLeast, IsWellWord, AreWell, depth_of, depth, least_in, meant, all_meant, least_at, integer_at, logical_at, quoted_at, times_read, characters_at, group_at, behind_count, counted_at, part_at, is_separator, next_at, parts_at, parts_in}
use Rattle.format_edit.proofs.Front.{run_parts, run_digits, bind_some, when_some, pair_is, behind_is}

pub some_is : {A : Type 0} (x y : A) → Some x ≡ Some y → x ≡ y
some_is x y e = cc

map_some : {A B : Type 0} (f : A → B) (o : Option A) (y : B) → option_map f o ≡ Some y → (x : A) × (o ≡ Some x) × (f x ≡ y)
map_some f (Some x) y e = (x, refl, cc)
map_some f None y e = absurd cc

abbrev pub starts_mark : Text → Bool
starts_mark [] = false
starts_mark (c ∷ t) = eqb c 47 || eqb c 58

-- ---- words of one kind

-- the digits behind a point
record TakesLeast (t : Text) (m : ℕ) (rest : Text) : Type 0 where
  least : Option (List ℕ)
  well : IsLeast least
  means : least_in least ≡ m
  parts : t ≡ point_with least ++ rest

abbrev one_least : ℕ → Text → Option (ℕ × Text)
one_least m rest = Some (m, rest)

least_takes : (t : Text) (m : ℕ) (rest : Text) (o : Option Text) → after (46 ∷ []) t ≡ o → least_at t ≡ one_least m rest → TakesLeast t m rest
unfolding least_at either
least_takes t m rest None a h =
    let k : one_least 1 t ≡ one_least m rest = ap (λ o. either o (one_least 1 t) (λ r. when (is_least (run is_digit r).0) (one_least (number_of (run is_digit r).0) (run is_digit r).1))) (sym a) ∙ h in
    let p : ℕ × Text = (1, t) in
    let q : ℕ × Text = (m, rest) in
    let same = pair_is p q k in
    record { least = None; well = tt; means = same.0; parts = same.1 }
least_takes t m rest (Some u) a h =
    let digits = (run is_digit u).0 in
    let k : when (is_least digits) (one_least (number_of digits) (run is_digit u).1) ≡ one_least m rest = ap (λ o. either o (one_least 1 t) (λ r. when (is_least (run is_digit r).0) (one_least (number_of (run is_digit r).0) (run is_digit r).1))) (sym a) ∙ h in
    let w = when_some (is_least digits) (one_least (number_of digits) (run is_digit u).1) (m, rest) k in
    let p : ℕ × Text = (number_of digits, (run is_digit u).1) in
    let q : ℕ × Text = (m, rest) in
    let same = pair_is p q w.1 in
    record {
      least = Some digits;
      well = (run_digits u, w.0);
      means = same.0;
      parts = behind_is 46 t u a ∙ ap (λ x. 46 ∷ x) (sym (run_parts u) ∙ ap (λ x. digits ++ x) same.1);
    }

-- characters and the apostrophe behind them
abbrev one_text : List ℕ → Text → Option (List ℕ × Text)
one_text text rest = Some (text, rest)

text_is : (a b : List ℕ) (t u : Text) → one_text a t ≡ one_text b u → (a ≡ b) × (t ≡ u)
text_is a b t u e = let p : List ℕ × Text = (a, t) in let q : List ℕ × Text = (b, u) in pair_is p q e

abbrev IsQuoted : Text → List ℕ → Text → Type 0
IsQuoted t text rest = t ≡ doubled text ++ (39 ∷ rest)

nothing_quoted : (c : ℕ) (t : Text) (text : List ℕ) (rest : Text) → eqb c 39 ≡ true → one_text [] t ≡ one_text text rest → IsQuoted (c ∷ t) text rest
nothing_quoted c t text rest e h =
    let same = text_is [] text t rest h in
    ap (λ x. x ∷ t) (eqb-true c 39 e) ∙ ap (λ x. 39 ∷ x) same.1 ∙ ap (λ x. doubled x ++ (39 ∷ rest)) same.0

more_quoted : (all : Text) (c : ℕ) (o : Option (List ℕ × Text)) (text : List ℕ) (rest : Text) → option_map (with_char c) o ≡ one_text text rest
    → ((x : List ℕ) (u : Text) → o ≡ one_text x u → IsQuoted all (c ∷ x) u) → IsQuoted all text rest
more_quoted all c None text rest h then_is = absurd cc
more_quoted all c (Some x) text rest h then_is =
    let same = text_is (c ∷ x.0) text x.1 rest h in
    then_is x.0 x.1 refl ∙ ap (λ y. doubled y ++ (39 ∷ x.1)) same.0 ∙ ap (λ y. doubled text ++ (39 ∷ y)) same.1

doubled_more : (c d : ℕ) (t : Text) (x : List ℕ) (u : Text) → eqb c 39 ≡ true → eqb d 39 ≡ true → IsQuoted t x u → IsQuoted (c ∷ (d ∷ t)) (c ∷ x) u
doubled_more c d t x u e f h =
    let a : c ≡ 39 = eqb-true c 39 e in
    let b : d ≡ 39 = eqb-true d 39 f in
    ap (λ y. y ∷ (d ∷ t)) a ∙ ap (λ y. 39 ∷ (y ∷ t)) b ∙ ap (λ y. 39 ∷ (39 ∷ y)) h ∙ ap (λ y. doubled (y ∷ x) ++ (39 ∷ u)) (sym a)

plain_more : (c : ℕ) (t : Text) (x : List ℕ) (u : Text) → eqb c 39 ≡ false → IsQuoted t x u → IsQuoted (c ∷ t) (c ∷ x) u
plain_more c t x u e h = rw e (ap (λ y. c ∷ y) h)

quoted_takes : (t : Text) (text : List ℕ) (rest : Text) → quoted_at t ≡ one_text text rest → IsQuoted t text rest
unfolding quoted_at
quoted_takes [] text rest h = absurd cc
quoted_takes (c ∷ []) text rest h = by_test (eqb c 39) refl
  where
    by_test : (b : Bool) → eqb c 39 ≡ b → IsQuoted (c ∷ []) text rest
    by_test true e = nothing_quoted c [] text rest e (rw e at h)
    by_test false e = let k = rw e at h in absurd cc
quoted_takes (c ∷ d ∷ t) text rest h = by_test (eqb c 39) (eqb d 39) refl refl (quoted_takes t) (quoted_takes (d ∷ t))
  where
    by_test : (a b : Bool) → eqb c 39 ≡ a → eqb d 39 ≡ b → ((x : List ℕ) (u : Text) → quoted_at t ≡ one_text x u → IsQuoted t x u) → ((x : List ℕ) (u : Text) → quoted_at (d ∷ t) ≡ one_text x u → IsQuoted (d ∷ t) x u) → IsQuoted (c ∷ (d ∷ t)) text rest
    by_test true true e f two one =
        more_quoted (c ∷ (d ∷ t)) c (quoted_at t) text rest (rw (e, f) at h) (λ x u q. doubled_more c d t x u e f (two x u q))
    by_test true false e f two one = nothing_quoted c (d ∷ t) text rest e (rw (e, f) at h)
    by_test false b e f two one =
        more_quoted (c ∷ (d ∷ t)) c (quoted_at (d ∷ t)) text rest (rw e at h) (λ x u q. plain_more c (d ∷ t) x u e (one x u q))

-- ---- one part

-- what a text spells at its front, with so many levels of parentheses inside, and what stands behind it
pub record Takes (levels : ℕ) (t : Text) (p : Part) (rest : Text) : Type 0 where
  pub word : Word
  pub well : IsWellWord word
  pub nests : depth_of word ≤ levels
  pub means : meant word ≡ p
  pub starts : starts_mark t ≡ is_mark word
  pub spelled : t ≡ spell_word word ++ rest

-- the same of words
pub record TakesAll (levels : ℕ) (t : Text) (ps : Parts) (rest : Text) : Type 0 where
  pub words : Words
  pub well : AreWell words
  pub nests : depth words < levels
  pub means : all_meant words ≡ ps
  pub starts : starts_mark t ≡ is_mark (first_word words)
  pub spelled : t ≡ spell words ++ rest

abbrev one_part : Part → Text → Option (Part × Text)
one_part p rest = Some (p, rest)

abbrev no_part : Option (Part × Text)
no_part = None

part_is : (a b : Part) (t u : Text) → one_part a t ≡ one_part b u → (a ≡ b) × (t ≡ u)
part_is a b t u e = let p : Part × Text = (a, t) in let q : Part × Text = (b, u) in pair_is p q e

-- what stands behind a count
record Behind (levels : ℕ) (digits u : Text) (p : Part) (rest : Text) : Type 0 where
  word : Word
  well : IsWellWord word
  nests : depth_of word ≤ levels
  means : meant word ≡ p
  unmarked : is_mark word ≡ false
  spelled : digits ++ u ≡ spell_word word ++ rest

nonempty : (digits : Text) → is_count (number_of digits) ≡ true → nat_lt 0 (length digits) ≡ true
nonempty [] h = absurd cc
nonempty (c ∷ cs) h = lt-ltb _ _ (omega arith)

times_some : (n : ℕ) (o : Option (Descriptor × Text)) (p : Part) (rest : Text) → times_read n o ≡ one_part p rest → (d : Descriptor) × (o ≡ Some (d, rest)) × (single n d ≡ p)
times_some n None p rest h = absurd cc
times_some n (Some x) p rest h =
    let same = part_is (single n x.0) p x.1 rest h in
    (x.0, ap (λ (u : Text). let q : Descriptor × Text = (x.0, u) in Some q) same.1, same.0)

module _ (levels : ℕ) (digits : Text) (all : list_all is_digit digits ≡ true) (counts : is_count (count_in digits) ≡ true) where
  x_behind : (c : ℕ) (u : Text) (p : Part) (rest : Text) → eqb c 88 ≡ true → one_part (single 1 (skip (count_in digits))) u ≡ one_part p rest → Behind levels digits (c ∷ u) p rest
  x_behind c u p rest e h =
      let same = part_is (single 1 (skip (count_in digits))) p u rest h in
      record {
        word = blanks digits;
        well = (all, counts);
        nests = omega arith;
        means = same.0;
        unmarked = refl;
        spelled = ap (λ x. digits ++ (x ∷ u)) (eqb-true c 88 e) ∙ ap (λ x. digits ++ (88 ∷ x)) same.1 ∙ sym (append_assoc digits (88 ∷ []) rest);
      }

  logical_behind : (c : ℕ) (u : Text) (p : Part) (rest : Text) → eqb c 76 ≡ true → times_read (count_in digits) (logical_at u) ≡ one_part p rest → Behind levels digits (c ∷ u) p rest
  unfolding logical_at
  logical_behind c u p rest e h =
      let w = (run is_digit u).0 in
      let a = times_some (count_in digits) (logical_at u) p rest h in
      let b = when_some (is_count (number_of w)) (Some (logical_field (number_of w), (run is_digit u).1)) (a.0, rest) a.1 in
      let x : Descriptor × Text = (logical_field (number_of w), (run is_digit u).1) in
      let y : Descriptor × Text = (a.0, rest) in
      let same = pair_is x y b.1 in
      record {
        word = logicals digits w;
        well = ((all, counts), (and_from (nat_lt 0 (length w)) (list_all is_digit w) (nonempty w b.0) (run_digits u), b.0));
        nests = omega arith;
        means = ap (single (count_in digits)) same.0 ∙ a.2;
        unmarked = refl;
        spelled = ap (λ x. digits ++ (x ∷ u)) (eqb-true c 76 e) ∙ ap (λ x. digits ++ (76 ∷ x)) (sym (run_parts u) ∙ ap (λ x. w ++ x) same.1) ∙ sym (append_assoc digits (76 ∷ w) rest);
      }

  integer_behind : (c : ℕ) (u : Text) (p : Part) (rest : Text) → eqb c 73 ≡ true → times_read (count_in digits) (integer_at u) ≡ one_part p rest → Behind levels digits (c ∷ u) p rest
  unfolding integer_at
  integer_behind c u p rest e h =
      let w = (run is_digit u).0 in
      let v = (run is_digit u).1 in
      let a = times_some (count_in digits) (integer_at u) p rest h in
      let b = when_some (is_count (number_of w)) (least_at v >>= λ m. Some (integer_field (number_of w) m.0, m.1)) (a.0, rest) a.1 in
      let m = bind_some (least_at v) (λ m. Some (integer_field (number_of w) m.0, m.1)) (a.0, rest) b.1 in
      let l = least_takes v m.0.0 m.0.1 (after (46 ∷ []) v) refl m.1 in
      let x : Descriptor × Text = (integer_field (number_of w) m.0.0, m.0.1) in
      let y : Descriptor × Text = (a.0, rest) in
      let same = pair_is x y m.2 in
      let behind_width : u ≡ (w ++ point_with l.least) ++ rest = sym (run_parts u) ∙ ap (λ x. w ++ x) (l.parts ∙ ap (λ x. point_with l.least ++ x) same.1) ∙ sym (append_assoc w (point_with l.least) rest) in
      record {
        word = integers digits w l.least;
        well = ((all, counts), ((and_from (nat_lt 0 (length w)) (list_all is_digit w) (nonempty w b.0) (run_digits u), b.0), l.well));
        nests = omega arith;
        means = ap (λ k. single (count_in digits) (integer_field (number_of w) k)) l.means ∙ ap (single (count_in digits)) same.0 ∙ a.2;
        unmarked = refl;
        spelled = ap (λ x. digits ++ (x ∷ u)) (eqb-true c 73 e) ∙ ap (λ x. digits ++ (73 ∷ x)) behind_width ∙ sym (append_assoc digits (73 ∷ (w ++ point_with l.least)) rest);
      }

  module _ (inner : Reader Parts) (sound : (t : Text) (ps : Parts) (rest : Text) → inner t ≡ Some (ps, rest) → TakesAll levels t ps rest) where
    group_behind : (c : ℕ) (u : Text) (p : Part) (rest : Text) → eqb c 40 ≡ true → group_at inner (count_in digits) u ≡ one_part p rest → Behind levels digits (c ∷ u) p rest
    unfolding group_at
    group_behind c u p rest e h =
        let a = bind_some (inner u) (λ ps. after (41 ∷ []) ps.1 >>= λ r. one_part (group (count_in digits) ps.0) r) (p, rest) h in
        let b = bind_some (after (41 ∷ []) a.0.1) (λ r. one_part (group (count_in digits) a.0.0) r) (p, rest) a.2 in
        let ws = sound u a.0.0 a.0.1 a.1 in
        let same = part_is (group (count_in digits) a.0.0) p b.0 rest b.2 in
        let closed : a.0.1 ≡ 41 ∷ rest = behind_is 41 a.0.1 b.0 b.1 ∙ ap (λ x. 41 ∷ x) same.1 in
        let inside : u ≡ (spell ws.words ++ (41 ∷ [])) ++ rest = ws.spelled ∙ ap (λ x. spell ws.words ++ x) closed ∙ sym (append_assoc (spell ws.words) (41 ∷ []) rest) in
        record {
          word = grouped digits ws.words;
          well = ((all, counts), ws.well);
          nests = omega (arith, ws.nests);
          means = ap (group (count_in digits)) ws.means ∙ same.0;
          unmarked = refl;
          spelled = ap (λ x. digits ++ (x ∷ u)) (eqb-true c 40 e) ∙ ap (λ x. digits ++ (40 ∷ x)) inside ∙ sym (append_assoc digits (40 ∷ (spell ws.words ++ (41 ∷ []))) rest);
        }

    letter_behind : (u : Text) (p : Part) (rest : Text) → behind_count inner (count_in digits) u ≡ one_part p rest → Behind levels digits u p rest
    unfolding behind_count
    letter_behind [] p rest h = absurd cc
    letter_behind (c ∷ u) p rest h = by_letter (eqb c 88) (eqb c 73) (eqb c 76) (eqb c 40) refl refl refl refl
      where
        by_letter : (x i l g : Bool) → eqb c 88 ≡ x → eqb c 73 ≡ i → eqb c 76 ≡ l → eqb c 40 ≡ g → Behind levels digits (c ∷ u) p rest
        by_letter true i l g ex ei el eg = x_behind c u p rest ex (rw ex at h)
        by_letter false true l g ex ei el eg = integer_behind c u p rest ei (rw (ex, ei) at h)
        by_letter false false true g ex ei el eg = logical_behind c u p rest el (rw (ex, ei, el) at h)
        by_letter false false false true ex ei el eg =
            group_behind c u p rest eg (rw (ex, ei, el, eg) at h)
        by_letter false false false false ex ei el eg =
            let k : no_part ≡ one_part p rest = rw (ex, ei, el, eg) at h in
            absurd cc

module _ (levels : ℕ) (inner : Reader Parts) (sound : (t : Text) (ps : Parts) (rest : Text) → inner t ≡ Some (ps, rest) → TakesAll levels t ps rest) where
  counted_takes : (c : ℕ) (t : Text) (p : Part) (rest : Text) → starts_mark (c ∷ t) ≡ false → counted_at inner (c ∷ t) ≡ one_part p rest → Takes levels (c ∷ t) p rest
  unfolding counted_at
  counted_takes c t p rest e h =
      let digits = (run is_digit (c ∷ t)).0 in
      let u = (run is_digit (c ∷ t)).1 in
      let a = when_some (is_count (count_in digits)) (behind_count inner (count_in digits) u) (p, rest) h in
      let b = letter_behind levels digits (run_digits (c ∷ t)) a.0 inner sound u p rest a.1 in
      record { word = b.word; well = b.well; nests = b.nests; means = b.means; starts = e ∙ sym b.unmarked; spelled = sym (run_parts (c ∷ t)) ∙ b.spelled }

  characters_takes : (c : ℕ) (t : Text) (p : Part) (rest : Text) → eqb c 39 ≡ true → characters_at t ≡ one_part p rest → Takes levels (c ∷ t) p rest
  unfolding characters_at
  characters_takes c t p rest e h =
      let a = bind_some (quoted_at t) (λ text. one_part (single 1 (characters text.0)) text.1) (p, rest) h in
      let same = part_is (single 1 (characters a.0.0)) p a.0.1 rest a.2 in
      let letter = eqb-true c 39 e in
      record {
        word = quoted a.0.0;
        well = tt;
        nests = omega arith;
        means = same.0;
        starts = ap (λ x. eqb x 47 || eqb x 58) letter;
        spelled = ap (λ x. x ∷ t) letter ∙ ap (λ x. 39 ∷ x) (quoted_takes t a.0.0 a.0.1 a.1) ∙ ap (λ x. 39 ∷ (doubled a.0.0 ++ (39 ∷ x))) same.1 ∙ ap (λ x. 39 ∷ x) (sym (append_assoc (doubled a.0.0) (39 ∷ []) rest));
      }

  slash_takes : (c : ℕ) (t : Text) (p : Part) (rest : Text) → eqb c 47 ≡ true → one_part (single 1 slash) t ≡ one_part p rest → Takes levels (c ∷ t) p rest
  slash_takes c t p rest e h =
      let same = part_is (single 1 slash) p t rest h in
      let letter = eqb-true c 47 e in
      record { word = slash_word; well = tt; nests = omega arith; means = same.0; starts = ap (λ x. eqb x 47 || eqb x 58) letter; spelled = ap (λ x. x ∷ t) letter ∙ ap (λ x. 47 ∷ x) same.1 }

  colon_takes : (c : ℕ) (t : Text) (p : Part) (rest : Text) → eqb c 58 ≡ true → one_part (single 1 colon) t ≡ one_part p rest → Takes levels (c ∷ t) p rest
  colon_takes c t p rest e h =
      let same = part_is (single 1 colon) p t rest h in
      let letter = eqb-true c 58 e in
      record { word = colon_word; well = tt; nests = omega arith; means = same.0; starts = ap (λ x. eqb x 47 || eqb x 58) letter; spelled = ap (λ x. x ∷ t) letter ∙ ap (λ x. 58 ∷ x) same.1 }

  pub part_takes : (t : Text) (p : Part) (rest : Text) → part_at inner t ≡ one_part p rest → Takes levels t p rest
  unfolding part_at
  part_takes [] p rest h = absurd cc
  part_takes (c ∷ t) p rest h = by_letter (eqb c 39) (eqb c 47) (eqb c 58) refl refl refl
    where
      by_letter : (a s d : Bool) → eqb c 39 ≡ a → eqb c 47 ≡ s → eqb c 58 ≡ d → Takes levels (c ∷ t) p rest
      by_letter true s d ea es ed = characters_takes c t p rest ea (rw ea at h)
      by_letter false true d ea es ed = slash_takes c t p rest es (rw (ea, es) at h)
      by_letter false false true ea es ed = colon_takes c t p rest ed (rw (ea, es, ed) at h)
      by_letter false false false ea es ed = counted_takes c t p rest (rw (es, ed) refl) (rw (ea, es, ed) at h)

-- ---- parts

abbrev all_parts : Parts → Text → Option (Parts × Text)
all_parts ps rest = Some (ps, rest)

parts_are : (a b : Parts) (t u : Text) → all_parts a t ≡ all_parts b u → (a ≡ b) × (t ≡ u)
parts_are a b t u e = let p : Parts × Text = (a, t) in let q : Parts × Text = (b, u) in pair_is p q e

-- where the next part begins: a comma or none, which may be left out
record Next (behind : Bool) (u v : Text) : Type 0 where
  comma : Bool
  may : (comma || (behind || starts_mark v)) ≡ true
  spelled : u ≡ comma_if comma ++ v

or_true : (b : Bool) → (b || true) ≡ true
or_true true = refl
or_true false = refl

abbrev some_next : Text → Option Text
some_next v = Some v

abbrev no_next : Option Text
no_next = None

next_takes : (behind : Bool) (u v : Text) → next_at behind u ≡ some_next v → Next behind u v
unfolding next_at
next_takes behind [] v h = absurd cc
next_takes behind (c ∷ t) v h = by_letter (eqb c 44) (starts_mark (c ∷ t)) behind (eqb c 41) refl refl refl refl
  where
    by_letter : (x m b p : Bool) → eqb c 44 ≡ x → starts_mark (c ∷ t) ≡ m → behind ≡ b → eqb c 41 ≡ p → Next behind (c ∷ t) v
    by_letter true m b p ex em eb ep =
        let k : some_next t ≡ some_next v = rw ex at h in
        let same = some_is t v k in
        record { comma = true; may = refl; spelled = ap (λ y. y ∷ t) (eqb-true c 44 ex) ∙ ap (λ y. 44 ∷ y) same }
    by_letter false true b p ex em eb ep =
        let k : some_next (c ∷ t) ≡ some_next v = rw (ex, em) at h in
        let same = some_is (c ∷ t) v k in
        record { comma = false; may = ap (λ y. behind || starts_mark y) (sym same) ∙ ap (λ y. behind || y) em ∙ or_true behind; spelled = same }
    by_letter false false true false ex em eb ep =
        let k : some_next (c ∷ t) ≡ some_next v = rw (ex, em, eb, ep) at h in
        let same = some_is (c ∷ t) v k in
        record { comma = false; may = ap (λ y. y || starts_mark v) eb; spelled = same }
    by_letter false false true true ex em eb ep = let k : no_next ≡ some_next v = rw (ex, em, eb, ep) at h in absurd cc
    by_letter false false false p ex em eb ep = let k : no_next ≡ some_next v = rw (ex, em, eb) at h in absurd cc

pub same_mark : (w : Word) → is_separator (meant w) ≡ is_mark w
same_mark (integers repeats width least) = refl
same_mark (logicals repeats width) = refl
same_mark (quoted text) = refl
same_mark (blanks count) = refl
same_mark slash_word = refl
same_mark colon_word = refl
same_mark (grouped repeats ws) = refl

module _ (levels : ℕ) (inner : Reader Parts) (sound : (t : Text) (ps : Parts) (rest : Text) → inner t ≡ Some (ps, rest) → TakesAll levels t ps rest) where
  then_takes : (n : ℕ) (p : Part) (t u : Text) (next : Option Text) (ps : Parts) (rest : Text) → part_at inner t ≡ one_part p u → next_at (is_separator p) u ≡ next
      → ((v : Text) (qs : Parts) (end : Text) → parts_at inner n v ≡ all_parts qs end → TakesAll (suc levels) v qs end)
      → either next (all_parts (parts p no_parts) u) (λ v. parts_at inner n v >>= λ qs. all_parts (parts p qs.0) qs.1) ≡ all_parts ps rest → TakesAll (suc levels) t ps rest
  unfolding either
  then_takes n p t u None ps rest e a rec h =
      let w = part_takes levels inner sound t p u e in
      let same = parts_are (parts p no_parts) ps u rest h in
      record {
        words = last w.word;
        well = w.well;
        nests = omega (arith, w.nests);
        means = ap (λ q. parts q no_parts) w.means ∙ same.0;
        starts = w.starts;
        spelled = w.spelled ∙ ap (λ x. spell_word w.word ++ x) same.1;
      }
  then_takes n p t u (Some v) ps rest e a rec h =
      let w = part_takes levels inner sound t p u e in
      let b = bind_some (parts_at inner n v) (λ qs. all_parts (parts p qs.0) qs.1) (ps, rest) h in
      let m = rec v b.0.0 b.0.1 b.1 in
      let same = parts_are (parts p b.0.0) ps b.0.1 rest b.2 in
      let x = next_takes (is_separator p) u v a in
      let mark : is_separator p ≡ is_mark w.word = ap is_separator (sym w.means) ∙ same_mark w.word in
      record {
        words = before w.word x.comma m.words;
        well = (w.well, (sym (ap (λ y. x.comma || (y || starts_mark v)) mark ∙ ap (λ y. x.comma || (is_mark w.word || y)) m.starts) ∙ x.may, m.well));
        nests = omega (arith, w.nests, m.nests);
        means = ap (λ q. parts q (all_meant m.words)) w.means ∙ ap (parts p) m.means ∙ same.0;
        starts = w.starts;
        spelled = w.spelled ∙ ap (λ y. spell_word w.word ++ y) (x.spelled ∙ ap (λ y. comma_if x.comma ++ y) (m.spelled ∙ ap (λ y. spell m.words ++ y) same.1) ∙ sym (append_assoc (comma_if x.comma) (spell m.words) rest))
            ∙ sym (append_assoc (spell_word w.word) (comma_if x.comma ++ spell m.words) rest);
      }

  parts_take : (n : ℕ) (t : Text) (ps : Parts) (rest : Text) → parts_at inner n t ≡ all_parts ps rest → TakesAll (suc levels) t ps rest
  unfolding parts_at
  parts_take zero t ps rest h = absurd cc
  parts_take (suc n) t ps rest h =
      let b = bind_some (part_at inner t) (λ p. either (next_at (is_separator p.0) p.1) (all_parts (parts p.0 no_parts) p.1) (λ v. parts_at inner n v >>= λ qs. all_parts (parts p.0 qs.0) qs.1)) (ps, rest) h in
      then_takes n b.0.0 t b.0.1 (next_at (is_separator b.0.0) b.0.1) ps rest b.1 refl (λ v qs end k. parts_take n v qs end k) b.2

pub all_take : (levels : ℕ) (t : Text) (ps : Parts) (rest : Text) → parts_in levels t ≡ Some (ps, rest) → TakesAll levels t ps rest
unfolding parts_in
all_take zero t ps rest h = absurd cc
all_take (suc levels) t ps rest h = parts_take levels (parts_in levels) (λ u qs end k. all_take levels u qs end k) (suc (length t)) t ps rest h
