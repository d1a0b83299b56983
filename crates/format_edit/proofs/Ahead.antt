-- What is made from a point on.
use Rattle.std.proofs.Common.{◌≡◌, ℕ, ◌+◌, ◌-◌, ◌<◌, ◌≤◌, Bool, true, false, List, [], ◌∷◌, ◌++◌, length, replicate, Ok, Err, refl, sym, ap, ◌∙◌, append_assoc, arith, min, ◌^◌, inl, inr}
use Rattle.std.specs.Prelude.{nat_lt}
use Rattle.std.proofs.lemmas.Bool.{lt-ltb, le-ltb, cases_lt}
use Rattle.std.proofs.lemmas.List.{length-append, length-replicate, append-nil}
use Rattle.meaning.specs.declared.ending.FaultKind.TheVariants.{F7, F8}
use Rattle.meaning.specs.Characters.{blank}
use Rattle.meaning.specs.Records.{Course, stops, clashes, puts, moves, ends, is_clash, outcome_of, byte_limit, justified}
use Rattle.format_edit.specs.Ahead.{bytes_of, ahead_of}
use Rattle.format_edit.proofs.Justified.{justified_fits, text_length}

-- too many bytes, also without a last line feed
pub too_many : (b : Bool) (bytes : List ℕ) → 1048577 < length bytes → outcome_of b bytes ≡ Err F8
unfolding outcome_of
too_many true bytes h = let e : nat_lt byte_limit (length bytes - 1) ≡ true = lt-ltb _ _ (omega arith) in rw e refl
too_many false bytes h = let e : nat_lt byte_limit (length bytes) ≡ true = lt-ltb _ _ (omega arith) in rw e refl

-- a record ends with a line feed
pub bytes_some : (gap : ℕ) (c : Course) → 0 < length (bytes_of gap c)
unfolding bytes_of
bytes_some gap stops = omega arith
bytes_some gap clashes = omega arith
bytes_some gap (puts [] c) = bytes_some gap c
bytes_some gap (puts (b ∷ bs) c) =
    simp (length-append, length-replicate) (omega arith)
bytes_some gap (moves n c) = bytes_some (gap + n) c
bytes_some gap (ends c) = omega arith

-- an empty text is none
pub puts_nothing : (bytes : List ℕ) (gap : ℕ) (text : List ℕ) (c : Course) → length text ≡ 0 → ahead_of bytes gap (puts text c) ≡ ahead_of bytes gap c
unfolding ahead_of bytes_of
puts_nothing bytes gap [] c h = refl
puts_nothing bytes gap (b ∷ bs) c h = absurd (omega arith)

pub puts_too_many : (bytes : List ℕ) (gap : ℕ) (text : List ℕ) (c : Course) → 0 < length text → 1048576 < length bytes + gap + length text → ahead_of bytes gap (puts text c) ≡ Err F8
unfolding ahead_of bytes_of
puts_too_many bytes gap [] c some h = absurd (omega arith)
puts_too_many bytes gap (b ∷ bs) c some h =
    too_many (is_clash c) (bytes ++ (replicate gap blank ++ ((b ∷ bs) ++ bytes_of 0 c))) (simp (length-append, length-replicate) (omega (arith, bytes_some 0 c)))

pub puts_some : (bytes : List ℕ) (gap : ℕ) (text : List ℕ) (c : Course) → 0 < length text → ahead_of bytes gap (puts text c) ≡ ahead_of ((bytes ++ replicate gap blank) ++ text) 0 c
unfolding ahead_of bytes_of
puts_some bytes gap [] c some = absurd (omega arith)
puts_some bytes gap (b ∷ bs) c some = ap (outcome_of (is_clash c)) (simp append_assoc)

-- two texts one behind the other
pub puts_both : (bytes : List ℕ) (gap : ℕ) (x y : List ℕ) (c : Course) → ahead_of bytes gap (puts (x ++ y) c) ≡ ahead_of bytes gap (puts x (puts y c))
unfolding ahead_of bytes_of
puts_both bytes gap [] y c = refl
puts_both bytes gap (b ∷ bs) [] c = ap (λ t. ahead_of bytes gap (puts t c)) (append-nil (b ∷ bs))
puts_both bytes gap (b ∷ bs) (d ∷ ds) c =
    ap (λ t. outcome_of (is_clash c) (bytes ++ (replicate gap blank ++ (b ∷ t)))) (append_assoc bs (d ∷ ds) (bytes_of 0 c))

-- no difference between gaps that pass the limit by themselves
pub far : (bytes : List ℕ) (g h : ℕ) (c : Course) → 1048576 < g → 1048576 < h → ahead_of bytes g c ≡ ahead_of bytes h c
unfolding ahead_of bytes_of
far bytes g h stops p q = refl
far bytes g h clashes p q = refl
far bytes g h (puts [] c) p q = far bytes g h c p q
far bytes g h (puts (b ∷ bs) c) p q =
    puts_too_many bytes g (b ∷ bs) c (omega arith) (omega arith) ∙ sym (puts_too_many bytes h (b ∷ bs) c (omega arith) (omega arith))
far bytes g h (moves n c) p q = far bytes (g + n) (h + n) c (omega arith) (omega arith)
far bytes g h (ends c) p q = refl

pub moves_on : (bytes : List ℕ) (gap n after : ℕ) (c : Course) → after ≡ min (gap + n) (2 ^ 64 - 1) → ahead_of bytes gap (moves n c) ≡ ahead_of bytes after c
unfolding ahead_of bytes_of
moves_on bytes gap n after c e =
    elim (cases_lt (gap + n) (2 ^ 64)) [
      | inl lt ↦ let same : after ≡ gap + n = omega arith in rw same refl
      | inr le ↦ far bytes (gap + n) after c (omega arith) (omega arith)
    ]

pub ends_too_many : (bytes : List ℕ) (gap : ℕ) (c : Course) → 1048576 ≤ length bytes → ahead_of bytes gap (ends c) ≡ Err F8
unfolding ahead_of bytes_of
ends_too_many bytes gap c h = too_many (is_clash c) (bytes ++ (10 ∷ bytes_of 0 c)) (simp length-append (omega (arith, bytes_some 0 c)))

pub ends_one : (bytes : List ℕ) (gap : ℕ) (c : Course) → ahead_of bytes gap (ends c) ≡ ahead_of (bytes ++ 10 ∷ []) 0 c
unfolding ahead_of bytes_of
ends_one bytes gap c = ap (outcome_of (is_clash c)) (simp append_assoc)

-- the last line feed
pub stops_too_many : (bytes : List ℕ) (gap : ℕ) → 1048576 ≤ length bytes → ahead_of bytes gap stops ≡ Err F8
unfolding ahead_of bytes_of outcome_of
stops_too_many bytes gap h = let e : nat_lt byte_limit (length (bytes ++ 10 ∷ [])) ≡ true = lt-ltb _ _ (simp length-append (omega arith)) in rw e refl

pub stops_within : (bytes : List ℕ) (gap : ℕ) → length bytes < 1048576 → ahead_of bytes gap stops ≡ Ok (bytes ++ 10 ∷ [])
unfolding ahead_of bytes_of outcome_of
stops_within bytes gap h = let e : nat_lt byte_limit (length (bytes ++ 10 ∷ [])) ≡ false = le-ltb _ _ (simp length-append (omega arith)) in rw e refl

-- a clash before too many bytes are met
pub clashes_within : (bytes : List ℕ) (gap : ℕ) → length bytes ≤ 1048576 → ahead_of bytes gap clashes ≡ Err F7
unfolding ahead_of bytes_of outcome_of
clashes_within bytes gap h = let e : nat_lt byte_limit (length (bytes ++ 10 ∷ []) - 1) ≡ false = le-ltb _ _ (simp length-append (omega arith)) in rw e refl

-- blanks and a sign, and then zeros and digits, are what is right justified
pub puts_signed : (bytes : List ℕ) (gap w fill n : ℕ) (sign digits : List ℕ) (c : Course) → w ≡ fill + (length sign + (n + length digits))
    → ahead_of bytes gap (puts (justified w (sign ++ (replicate n 48 ++ digits))) c) ≡ ahead_of bytes gap (puts (replicate fill 32 ++ sign) (puts (replicate n 48 ++ digits) c))
puts_signed bytes gap w fill n sign digits c e =
    let rest = replicate n 48 ++ digits in
    let long = text_length sign digits n in
    let left : w - length (sign ++ rest) ≡ fill = omega arith in
    ap (λ t. ahead_of bytes gap (puts t c)) (justified_fits w (sign ++ rest) (omega arith) ∙ ap (λ k. replicate k 32 ++ (sign ++ rest)) left ∙ sym (append_assoc (replicate fill 32) sign rest))
    ∙ puts_both bytes gap (replicate fill 32 ++ sign) rest c
