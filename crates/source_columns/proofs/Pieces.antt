-- The pieces of a source from the first one on.
use Rattle.std.proofs.Common.{◌≡◌, ℕ, zero, suc, ◌+◌, ◌<◌, Bool, true, false, cond, eqb, List, [], ◌∷◌, ◌++◌, length, take, drop, get_or, refl, arith, Some, None, ltb, add-one, ◌-◌, ◌≢◌, eq-eqb}
use Rattle.std.specs.List.{position, position_or_len}
use Rattle.std.proofs.lemmas.List.Quantifiers.{position-Some}
use Rattle.std.proofs.lemmas.List.{take_all, length-drop}
use Rattle.std.proofs.lemmas.List.Sums.{fails_before_first}
use Rattle.std.proofs.lemmas.Bool.{ltb-false, ne_eqb}
use Rattle.meaning.specs.Lines.{pieces, without_return}

abbrev is_feed : ℕ → Bool
is_feed b = eqb b 10

-- the first line feed ends the first piece
pieces_at : (source : List ℕ) (i : ℕ) → i < length source → is_feed (get_or source i 0) ≡ true → ((k : ℕ) → k < i → is_feed (get_or source k 0) ≡ false) → pieces source ≡ take i source ∷ pieces (drop (suc i) source)
unfolding pieces
pieces_at [] i lt here before = absurd (omega arith)
pieces_at (b ∷ bs) zero lt here before = rw here refl
pieces_at (b ∷ bs) (suc i) lt here before =
    let first : is_feed b ≡ false = before 0 (omega arith) in
    let rest : pieces bs ≡ take i bs ∷ pieces (drop (suc i) bs) = pieces_at bs i (omega arith) here (λ k h. before (suc k) (omega arith)) in
    rw (first, rest) refl

-- with no line feed there is one piece
pieces_whole : (b : ℕ) (bs : List ℕ) → ((k : ℕ) → k < length (b ∷ bs) → is_feed (get_or (b ∷ bs) k 0) ≡ false) → pieces (b ∷ bs) ≡ (b ∷ bs) ∷ []
unfolding pieces
pieces_whole b [] none = let first : is_feed b ≡ false = none 0 (omega arith) in rw first refl
pieces_whole b (c ∷ bs) none =
    let first : is_feed b ≡ false = none 0 (omega arith) in
    rw (first, pieces_whole c bs (λ k h. none (suc k) (omega arith))) refl

without_return_more : (c : ℕ) (front : List ℕ) (last : ℕ) → without_return (c ∷ (front ++ last ∷ [])) ≡ c ∷ without_return (front ++ last ∷ [])
unfolding without_return
without_return_more c [] last = refl
without_return_more c (d ∷ front) last = refl

-- the last byte alone decides
pub without_return_last : (front : List ℕ) (last : ℕ) → without_return (front ++ last ∷ []) ≡ cond (eqb last 13) front (front ++ last ∷ [])
unfolding without_return
without_return_last [] last = refl
without_return_last (c ∷ front) last = rw (without_return_more c front last, without_return_last front last) (cons_cond (eqb last 13) c front (front ++ last ∷ []))
  where
    cons_cond : (b : Bool) (c : ℕ) (xs ys : List ℕ) → c ∷ cond b xs ys ≡ cond b (c ∷ xs) (c ∷ ys)
    cons_cond true c xs ys = refl
    cons_cond false c xs ys = refl

-- what stands behind a place, as the code slices it
behind : (source : List ℕ) (i : ℕ) → take (length source - i) (drop i source) ≡ drop i source
behind source i = take_all (length source - i) (drop i source) (omega (arith, length-drop i source))

pub cut_at : (source : List ℕ) (i : ℕ) → position (λ b. eqb b 10) source ≡ Some i → pieces source ≡ take i source ∷ pieces (take (length source - (i + 1)) (drop (i + 1) source))
cut_at source i found =
    let at = position-Some is_feed source i 0 found in
    rw (behind, add-one) (pieces_at source i at.0 at.1 at.2)

nowhere : (source : List ℕ) → position is_feed source ≡ None → (k : ℕ) → k < length source → is_feed (get_or source k 0) ≡ false
nowhere source found k lt =
    let past : ltb (position_or_len is_feed source) (length source) ≡ false = cond_none (ltb (position_or_len is_feed source) (length source)) (position_or_len is_feed source) found in
    let le = ltb-false (position_or_len is_feed source) (length source) past in
    fails_before_first is_feed source k 0 (omega arith)
  where
    cond_none : (b : Bool) (n : ℕ) → cond b (Some n) None ≡ None → b ≡ false
    cond_none true n e = absurd cc
    cond_none false n e = refl

pub not_cut : (source : List ℕ) → eqb (length source) 0 ≡ false → position (λ b. eqb b 10) source ≡ None → pieces source ≡ source ∷ pieces (take (length source - length source) (drop (length source) source))
unfolding pieces
not_cut [] some found = absurd cc
not_cut (b ∷ bs) some found =
    let none : length (b ∷ bs) - length (b ∷ bs) ≡ 0 = omega arith in
    rw none (pieces_whole b bs (nowhere (b ∷ bs) found))

-- a carriage return at the end is dropped, and any other byte stays
pub return_dropped : (piece front : List ℕ) (last : ℕ) → piece ≡ front ++ last ∷ [] → last ≡ 13 → front ≡ without_return piece
return_dropped piece front last parts is = let test : eqb last 13 ≡ true = eq-eqb last 13 is in rw (parts, without_return_last, test) refl

pub return_absent : (piece front : List ℕ) (last : ℕ) → piece ≡ front ++ last ∷ [] → last ≢ 13 → piece ≡ without_return piece
return_absent piece front last parts is = let test : eqb last 13 ≡ false = ne_eqb last 13 is in rw (parts, without_return_last, test) refl

pub nothing_to_return : (piece : List ℕ) → length piece ≡ 0 → piece ≡ without_return piece
unfolding without_return
nothing_to_return [] none = refl
nothing_to_return (b ∷ bs) none = absurd (omega arith)
