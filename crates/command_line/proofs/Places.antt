-- The word with which something is wrong, by the beginnings of the words.
use Rattle.std.proofs.Common.{◌≡◌, ◌∙◌, ◌<◌, ◌≤◌, ℕ, Bool, true, false, zero, suc, cond, refl, sym, ap, subst, arith, List, [], ◌∷◌, take, length, Option, Some, None, Result, Ok, Err, true≢false}
use Rattle.std.specs.Prelude.{is_some, nat_lt}
use Rattle.std.specs.Borrow.{Bor}
use Rattle.std.proofs.lemmas.Bool.{ltb-false, ltb-true}
use Rattle.std.proofs.lemmas.List.{take-map, take_all}
use Rattle.command_line.specs.CommandLine.{Given, Line, Part, Text, Word, asks, behind, closed, closed_line, ends, errs, file, fits_under, first, flag, give, given_by, gives, greatest, holding, is_repeated, loose, meet, moved, nothing_read, part, put, put_if, putting, put_flag, read, sets, with_text, word_of}
use Rattle.command_line.specs.CommandLine as line
use Rattle.command_line.specs.Culprits.{IsPlace, IsWrong}
use Rattle.command_line.specs.Matches.{texts_in}
use Rattle.command_line.specs.declared.asked.Wrong.{Wrong}
use Rattle.command_line.specs.declared.asked.Wrong.TheVariants as wrong

abbrev Read : Type 0
Read = Result Given Wrong

-- a text that is put in is never lacking
lacks : Read → Bool
lacks (Ok given) = false
lacks (Err wrong.NoValue) = true
lacks (Err other) = false

put_if_lacks : (again fits : Bool) (p : Part) (v : Text) (given : Given) → lacks (put_if again fits (part p) v given) ≡ false
unfolding lacks
put_if_lacks true fits p v given = refl
put_if_lacks false true p v given = refl
put_if_lacks false false p v given = refl

put_lacks : (p : Part) (v : Text) (given : Given) → lacks (put p v given) ≡ false
unfolding lacks
put_lacks p v given = go (is_repeated p)
  where
    go : (b : Bool) → lacks (cond b (Ok (with_text (part p) v given)) (put_if (is_some (first (part p) given)) (fits_under (greatest p) v) (part p) v given)) ≡ false
    go true = refl
    go false = put_if_lacks (is_some (first (part p) given)) (fits_under (greatest p) v) p v given

put_not : (p : Part) (v : Text) (given : Given) → put p v given ≡ Err wrong.NoValue → ⊥
unfolding lacks
put_not p v given e = true≢false (sym (ap lacks e) ∙ put_lacks p v given)

abbrev good : {X E : Type 0} → Result X E → Bool
good (Ok x) = true
good (Err e) = false

not_ok : {Y : Type 0} (given : Given) (held : Option (Part × Option Text)) (w : Wrong) (next : Given → Result Y Wrong) (y : Y)
    → closed given held ≡ Err w → behind (closed given held) next ≡ Ok y → ⊥
not_ok given held w next y e h = true≢false (sym (ap good (sym (ap (λ (r : Read). behind r next) e) ∙ h)))

-- what is held ends with that, and so it does behind a word: then that word is `--`
only_ends : (x : Text) (l next : Line) (w : Wrong) → closed_line l ≡ Err w → moved x l ≡ Ok next → closed_line next ≡ Err w → next.only_files ≡ true
only_ends x l next w e = go l.only_files
  where
    by_files : Result Line Wrong → Type 0
    by_files r = r ≡ Ok next → closed_line next ≡ Err w → next.only_files ≡ true

    keeping : Option (Part × Option Text) → Option (Part × Option Text) → Given → Result Line Wrong
    keeping held then_held given = Ok (record l { given = given; held = then_held })

    putting_in : (Given → Read) → Given → Result Line Wrong
    putting_in put_next given = behind (put_next given) (λ more. Ok (record l { given = more; held = None }))

    taken : (held : Option (Part × Option Text)) → closed l.given held ≡ Err w → by_files (line.take x held (record l { held = held }))
    taken None h t c = absurd (not_ok l.given None w (keeping None (Some (file, Some x))) next h t)
    taken (Some (p, Some v)) h t c = absurd (not_ok l.given (Some (p, Some v)) w (keeping (Some (p, Some v)) (Some (file, Some x))) next h t)
    taken (Some (p, None)) h t c =
        absurd (put_not p x l.given (ap (λ (r : Result Line Wrong). closed_of r) t ∙ c ∙ sym h))
      where
        closed_of : Result Line Wrong → Read
        closed_of (Ok m) = closed_line m
        closed_of (Err v) = Err v

    met : (word : Word) → by_files (meet word x l)
    met ends t c = sym (ap (λ (r : Result Line Wrong). files_in r) t)
      where
        files_in : Result Line Wrong → Bool
        files_in (Ok m) = m.only_files
        files_in (Err v) = true
    met (gives p None) t c = absurd (not_ok l.given l.held w (keeping l.held (Some (p, None))) next e t)
    met (gives p (Some v)) t c = absurd (not_ok l.given l.held w (putting_in (put p v)) next e t)
    met (sets f) t c = absurd (not_ok l.given l.held w (putting_in (put_flag f)) next e t)
    met (asks r) t c = absurd (not_ok l.given l.held w (λ given. Err r) next e t)
    met (errs v) t c = absurd (true≢false (sym (ap good t)))
    met loose t c = taken l.held e t c

    go : (b : Bool) → by_files (cond b (holding l (Some (file, Some x))) (meet (word_of x) x l))
    go true t c = absurd (not_ok l.given l.held w (keeping l.held (Some (file, Some x))) next e t)
    go false t c = met (word_of x) t c

-- behind `--` each word ends what is held
files_end : (ws : List Text) (l : Line) (w : Wrong) → l.only_files ≡ true → closed_line l ≡ Err w → read ws l ≡ Err w
unfolding read
files_end [] l w o e = e
files_end (x ∷ xs) l w o e =
    ap (λ b. behind (cond b (holding l (Some (file, Some x))) (meet (word_of x) x l)) (read xs)) o
    ∙ ap (λ (r : Read). behind (behind r (λ given. Ok (record l { given = given; held = Some (file, Some x) }))) (read xs)) e

-- what is wrong with a beginning, with the next one and with all is wrong with each between
later : (ws : List Text) (l : Line) (w : Wrong) (m : ℕ) → read (take m ws) l ≡ Err w → read (take (suc m) ws) l ≡ Err w → read ws l ≡ Err w
    → (n : ℕ) → m ≤ n → read (take n ws) l ≡ Err w
unfolding read
later [] l w m e f g n le = ap (λ v. read v l) (take_all n [] (omega arith)) ∙ g
later (x ∷ xs) l w zero e f g zero le = e
later (x ∷ xs) l w zero e f g (suc n) le = go (moved x l) refl f
  where
    go : (r : Result Line Wrong) → moved x l ≡ r → behind r (read []) ≡ Err w → behind r (read (take n xs)) ≡ Err w
    go (Err v) is h = h
    go (Ok next) is h = files_end (take n xs) next w (only_ends x l next w e is h) h
later (x ∷ xs) l w (suc m) e f g zero le = absurd (omega arith)
later (x ∷ xs) l w (suc m) e f g (suc n) le = go (λ next a b c. later xs next w m a b c n (omega arith)) (moved x l) e f g
  where
    go : ((next : Line) → read (take m xs) next ≡ Err w → read (take (suc m) xs) next ≡ Err w → read xs next ≡ Err w → read (take n xs) next ≡ Err w)
        → (r : Result Line Wrong) → behind r (read (take m xs)) ≡ Err w → behind r (read (take (suc m) xs)) ≡ Err w → behind r (read xs) ≡ Err w
        → behind r (read (take n xs)) ≡ Err w
    go more (Err v) a b c = a
    go more (Ok next) a b c = more next a b c

-- ---- the words, the first of which is the program's name

-- where there is no word nothing is wrong
pub none_wrong : (w : Wrong) → IsWrong w [] → ⊥
unfolding read
none_wrong w e = true≢false (ap good e)

pub some_words : (w : Wrong) (words : List Text) → IsWrong w words → 0 < length words
some_words w [] e = absurd (none_wrong w e)
some_words w (x ∷ xs) e = omega arith

pub later_words : (words : List Text) (w : Wrong) (m : ℕ) → IsWrong w (take m words) → IsWrong w (take (suc m) words) → IsWrong w words
    → (n : ℕ) → m ≤ n → IsWrong w (take n words)
later_words [] w m e f g n le = subst (IsWrong w) (sym (take_all n [] (omega arith))) g
later_words (x ∷ xs) w zero e f g n le = absurd (none_wrong w e)
later_words (x ∷ xs) w (suc m) e f g zero le = absurd (omega arith)
later_words (x ∷ xs) w (suc m) e f g (suc n) le = later xs nothing_read w m e f g n (omega arith)

pub whole : (words : List Text) (w : Wrong) (n : ℕ) → length words ≤ n → IsWrong w words → IsWrong w (take n words)
whole words w n le e = subst (IsWrong w) (sym (take_all n words le)) e

-- that is wrong with all of them
pub wrong_of : (words : List Text) (w : Wrong) (place : ℕ) → IsPlace w words place → IsWrong w words
wrong_of words w place p = subst (IsWrong w) (take_all (length words) words (omega arith)) (p.behind (length words) p.there (omega arith))

-- the words up to a place
pub front_wrong : (w : Wrong) (words : List (Bor Text)) (n : ℕ) → IsWrong w (texts_in (take n words)) → IsWrong w (take n (texts_in words))
front_wrong w words n e = subst (IsWrong w) (sym (take-map (λ word. word.now) n words)) e

pub front_right : (w : Wrong) (words : List (Bor Text)) (n : ℕ) → (IsWrong w (texts_in (take n words)) → ⊥) → IsWrong w (take n (texts_in words)) → ⊥
front_right w words n h e = h (subst (IsWrong w) (take-map (λ word. word.now) n words) e)

-- what is at most another and not that is less
pub strictly : (a b : ℕ) → a ≤ b → (a ≡ b → ⊥) → a < b
strictly a b le other = go (nat_lt a b) refl
  where
    go : (t : Bool) → nat_lt a b ≡ t → a < b
    go true e = ltb-true a b e
    go false e = let more : b ≤ a = ltb-false a b e in absurd (other (omega (arith, le, more)))
