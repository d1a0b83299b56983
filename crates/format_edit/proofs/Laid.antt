-- Records as sets of positions and bytes, and the bytes that they are written as.
use Rattle.std.proofs.Common.{◌≡◌, ℕ, zero, suc, ◌+◌, ◌-◌, ◌<◌, ◌≤◌, max, true, false, List, [], ◌∷◌, ◌++◌, length, map, replicate, refl, sym, ap, ◌∙◌, append_assoc, arith, cond, eqb, add-zero, zero-add}
use Rattle.std.specs.List.{range_with_len}
use Rattle.std.proofs.lemmas.Bool.{ne_eqb, eq-eqb}
use Rattle.std.proofs.lemmas.List.{append-nil, map-append}
use Rattle.meaning.specs.Characters.{blank}
use Rattle.meaning.specs.declared.ending.Value.{Value}
use Rattle.meaning.specs.Formats.{Parts}
use Rattle.meaning.specs.Records.{Course, stops, clashes, puts, moves, ends, Record, placed, laid, byte_at, extent, text_of, written, is_clash, outcome_of, course, sequence, edited}
use Rattle.format_edit.specs.Ahead.{bytes_of, ahead_of}

-- ---- bytes at positions

-- behind a record's extent the bytes are those of what follows
byte_behind : (r s : Record) (q : ℕ) → extent r ≤ q → byte_at (r ++ s) q ≡ byte_at s q
byte_behind [] s q h = refl
byte_behind (x ∷ xs) s q h =
    let e : eqb x.0 q ≡ false = ne_eqb _ _ (λ same. omega arith) in
    rw e (byte_behind xs s q (omega arith))

-- before the characters that are placed the bytes are the record's
byte_before : (r : Record) (p q : ℕ) (text : List ℕ) → q < p → byte_at (r ++ placed p text) q ≡ byte_at r q
byte_before [] p q [] h = refl
byte_before [] p q (c ∷ cs) h =
    let e : eqb p q ≡ false = ne_eqb _ _ (λ same. omega arith) in
    rw e (byte_before [] (p + 1) q cs (omega arith))
byte_before (x ∷ xs) p q text h = ap (cond (eqb x.0 q) x.1) (byte_before xs p q text h)

byte_past : (r : Record) (q : ℕ) → extent r ≤ q → byte_at r q ≡ blank
byte_past [] q h = refl
byte_past (x ∷ xs) q h =
    let e : eqb x.0 q ≡ false = ne_eqb _ _ (λ same. omega arith) in
    rw e (byte_past xs q (omega arith))

-- ---- extents

extent-append : (r s : Record) → extent (r ++ s) ≡ max (extent r) (extent s)
extent-append [] s = omega arith
extent-append (x ∷ xs) s = omega (arith, extent-append xs s)

extent_placed : (p : ℕ) (c : ℕ) (cs : List ℕ) → extent (placed p (c ∷ cs)) ≡ p + length (c ∷ cs)
extent_placed p c [] = omega arith
extent_placed p c (d ∷ ds) = omega (arith, extent_placed (p + 1) d ds)

-- ---- texts

-- functions that agree on a range
same_on : (f g : ℕ → ℕ) (a n : ℕ) → ((q : ℕ) → a ≤ q → q < a + n → f q ≡ g q) → map f (range_with_len a n) ≡ map g (range_with_len a n)
same_on f g a zero h = refl
same_on f g a (suc n) h =
    ap (λ x. x ∷ map f (range_with_len (a + 1) n)) (h a (omega arith) (omega arith))
    ∙ ap (λ xs. g a ∷ xs) (same_on f g (a + 1) n (λ q low high. h q (omega arith) (omega arith)))

constant_on : (f : ℕ → ℕ) (x a n : ℕ) → ((q : ℕ) → a ≤ q → q < a + n → f q ≡ x) → map f (range_with_len a n) ≡ replicate n x
constant_on f x a zero h = refl
constant_on f x a (suc n) h =
    ap (λ y. y ∷ map f (range_with_len (a + 1) n)) (h a (omega arith) (omega arith))
    ∙ ap (λ ys. x ∷ ys) (constant_on f x (a + 1) n (λ q low high. h q (omega arith) (omega arith)))

-- the characters that are placed, read one after another
read_placed : (p : ℕ) (text : List ℕ) → map (byte_at (placed p text)) (range_with_len p (length text)) ≡ text
read_placed p [] = refl
read_placed p (c ∷ cs) =
    let here : eqb p p ≡ true = eq-eqb p p refl in
    let there : (q : ℕ) → p + 1 ≤ q → q < (p + 1) + length cs → byte_at (placed p (c ∷ cs)) q ≡ byte_at (placed (p + 1) cs) q = λ q low high. (let e : eqb p q ≡ false = ne_eqb _ _ (λ same. omega arith) in rw e refl) in
    ap (λ b. cond b c (byte_at (placed (p + 1) cs) p) ∷ map (byte_at (placed p (c ∷ cs))) (range_with_len (p + 1) (length cs))) here
    ∙ ap (λ xs. c ∷ xs) (same_on (byte_at (placed p (c ∷ cs))) (byte_at (placed (p + 1) cs)) (p + 1) (length cs) there ∙ read_placed (p + 1) cs)

range-append : (a m n : ℕ) → range_with_len a (m + n) ≡ range_with_len a m ++ range_with_len (a + m) n
range-append a zero n = ap (λ k. range_with_len a k) (zero-add n) ∙ ap (λ b. range_with_len b n) (sym (add-zero a))
range-append a (suc m) n =
    let e : suc m + n ≡ suc (m + n) = omega arith in
    let b : (a + 1) + m ≡ a + suc m = omega arith in
    ap (λ k. range_with_len a k) e ∙ ap (λ xs. a ∷ xs) (range-append (a + 1) m n) ∙ ap (λ k. (a ∷ range_with_len (a + 1) m) ++ range_with_len k n) b

text_more : (r : Record) (p c : ℕ) (cs : List ℕ) → extent r ≤ p → text_of (r ++ placed p (c ∷ cs)) ≡ text_of r ++ (replicate (p - extent r) blank ++ (c ∷ cs))
unfolding text_of
text_more r p c cs h =
    let all = byte_at (r ++ placed p (c ∷ cs)) in
    let n = length (c ∷ cs) in
    let g = p - extent r in
    let long : extent (r ++ placed p (c ∷ cs)) ≡ extent r + (g + n) = omega (arith, extent-append r (placed p (c ∷ cs)), extent_placed p c cs) in
    let meet : extent r + g ≡ p = omega arith in
    let first : map all (range_with_len 0 (extent r)) ≡ map (byte_at r) (range_with_len 0 (extent r)) = same_on all (byte_at r) 0 (extent r) (λ q low high. byte_before r p q (c ∷ cs) (omega arith)) in
    let second : map all (range_with_len (extent r) g) ≡ replicate g blank = constant_on all blank (extent r) g (λ q low high. byte_before r p q (c ∷ cs) (omega arith) ∙ byte_past r q low) in
    let third : map all (range_with_len (extent r + g) n) ≡ c ∷ cs = ap (λ a. map all (range_with_len a n)) meet ∙ same_on all (byte_at (placed p (c ∷ cs))) p n (λ q low high. byte_behind r (placed p (c ∷ cs)) q (omega arith)) ∙ read_placed p (c ∷ cs) in
    let split : range_with_len 0 (extent r + (g + n)) ≡ range_with_len 0 (extent r) ++ (range_with_len (extent r) g ++ range_with_len (extent r + g) n) =
    range-append 0 (extent r) (g + n) ∙ ap (λ a. range_with_len 0 (extent r) ++ range_with_len a (g + n)) (zero-add (extent r)) ∙ ap (λ xs. range_with_len 0 (extent r) ++ xs) (range-append (extent r) g n)
    in
    ap (λ k. map all (range_with_len 0 k)) long ∙ ap (map all) split
    ∙ map-append all (range_with_len 0 (extent r)) (range_with_len (extent r) g ++ range_with_len (extent r + g) n)
    ∙ ap (λ xs. map all (range_with_len 0 (extent r)) ++ xs) (map-append all (range_with_len (extent r) g) (range_with_len (extent r + g) n))
    ∙ rw (first, second, third) refl

-- ---- records

written_is : (p : ℕ) (r : Record) (c : Course) → extent r ≤ p → written (laid p r c) ≡ text_of r ++ bytes_of (p - extent r) c
unfolding written laid bytes_of text_of
written_is p r stops h = refl
written_is p r clashes h = refl
written_is p r (puts [] c) h =
    ap (λ q. written (laid q (r ++ []) c)) (add-zero p) ∙ ap (λ s. written (laid p s c)) (append-nil r) ∙ written_is p r c h
written_is p r (puts (b ∷ bs) c) h =
    let q = p + length (b ∷ bs) in
    let s = r ++ placed p (b ∷ bs) in
    let long : extent s ≡ q = omega (arith, extent-append r (placed p (b ∷ bs)), extent_placed p b bs) in
    let none : q - extent s ≡ 0 = omega arith in
    written_is q s c (omega arith) ∙ ap (λ k. text_of s ++ bytes_of k c) none ∙ ap (λ t. t ++ bytes_of 0 c) (text_more r p b bs h)
    ∙ append_assoc (text_of r) (replicate (p - extent r) blank ++ (b ∷ bs)) (bytes_of 0 c)
    ∙ ap (λ t. text_of r ++ t) (append_assoc (replicate (p - extent r) blank) (b ∷ bs) (bytes_of 0 c))
written_is p r (moves n c) h =
    let e : (p + n) - extent r ≡ (p - extent r) + n = omega arith in
    written_is (p + n) r c (omega arith) ∙ ap (λ k. text_of r ++ bytes_of k c) e
written_is p r (ends c) h = ap (λ t. text_of r ++ (10 ∷ t)) (written_is 0 [] c (omega arith))

pub edited_is : (ps : Parts) (vs : List Value) → edited ps vs ≡ ahead_of [] 0 (course (sequence ps (length vs)) vs)
unfolding edited ahead_of text_of
edited_is ps vs = ap (outcome_of (is_clash (course (sequence ps (length vs)) vs))) (written_is 0 [] (course (sequence ps (length vs)) vs) (omega arith))
