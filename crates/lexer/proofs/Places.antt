-- The laws of texts by their places: a scan that keeps whether it stands inside a character constant goes through the places.
use Rattle.std.proofs.Common.{◌≡◌, ℕ, zero, suc, ◌+◌, ◌-◌, ◌%◌, ◌<◌, ◌≤◌, ◌⊎◌, inl, inr, length, get_or, take, Bool, true, false, not, ◌&&◌, eqb, List, [], ◌∷◌, ◌++◌, arith, refl, ap, sym, subst, ◌∙◌, append_assoc, length-append}
use Rattle.std.specs.Prelude.{◌↔◌, ◌==◌, if◌then◌else◌, cond}
use Rattle.std.proofs.Math.Seq.{take-append_seam, get_or-append_seam}
use Rattle.std.specs.List.{flat_map, range_with_len}
use Rattle.std.proofs.lemmas.Bool.{eqb-true, eq-eqb, lt-ltb, ltb-true}
use Rattle.std.proofs.lemmas.List.{append-nil}
use Rattle.std.proofs.lemmas.List.Sums.{sum_by-append, sum_by-cons}
use Rattle.std.proofs.lemmas.Bool.Decides.{nat_tests}
use Rattle.meaning.specs.BareText.{bare, bare_behind, kept}
use Rattle.meaning.specs.Statements.{is_unpaired}
use Rattle.meaning.specs.Spelling.{balanced}
use Rattle.lexer.specs.Places.{by_places, count_of, kept_outside, IsBalanced}

-- ---- scans

-- an apostrophe leads in or out
abbrev turned : Bool → ℕ → Bool
turned inside c = if c == 39 then not inside else inside

abbrev scanned : (Bool → ℕ → List ℕ) → Bool → List ℕ → List ℕ
scanned rule inside [] = []
scanned rule inside (c ∷ cs) = rule inside c ++ scanned rule (turned inside c) cs

-- where a scan ends
abbrev ended : Bool → List ℕ → Bool
ended inside [] = inside
ended inside (c ∷ cs) = ended (turned inside c) cs

one_more : (n : ℕ) → eqb ((n + 1) % 2) 1 ≡ not (eqb (n % 2) 1)
one_more n = grind (arith, nat_tests)

count_turns : (n : ℕ) (b : Bool) → eqb ((n + (0 + cond b 1 0)) % 2) 1 ≡ cond b (not (eqb (n % 2) 1)) (eqb (n % 2) 1)
count_turns n true = one_more n
count_turns n false = let e : n + 0 ≡ n = omega arith in ap (λ m. eqb (m % 2) 1) e

front_turns : (front : List ℕ) (c : ℕ) → is_unpaired (front ++ c ∷ []) ≡ turned (is_unpaired front) c
front_turns front c =
    rw (sum_by-append (λ d. cond (d == 39) 1 0) front (c ∷ [])) (count_turns (count_of 39 front) (c == 39))

inside_next : (inside : Bool) (front : List ℕ) (c : ℕ) → is_unpaired front ≡ inside → is_unpaired (front ++ c ∷ []) ≡ turned inside c
inside_next inside front c h = front_turns front c ∙ ap (λ b. turned b c) h

seam : (front : List ℕ) (c : ℕ) (cs whole : List ℕ) → whole ≡ front ++ c ∷ cs → whole ≡ (front ++ c ∷ []) ++ cs
seam front c cs whole e = e ∙ sym (append_assoc front (c ∷ []) cs)

scanned_from : (rule : Bool → ℕ → List ℕ) (inside : Bool) (front text whole : List ℕ) → whole ≡ front ++ text → is_unpaired front ≡ inside →
    flat_map (λ k. rule (is_unpaired (take k whole)) (get_or whole k 0)) (range_with_len (length front) (length text)) ≡ scanned rule inside text
scanned_from rule inside front [] whole e h = refl
scanned_from rule inside front (c ∷ cs) whole e h =
    let here : rule (is_unpaired (take (length front) whole)) (get_or whole (length front) 0) ≡ rule inside c =
    rw (e, take-append_seam front (c ∷ cs), get_or-append_seam front c cs 0, h) refl in
    let next : flat_map (λ k. rule (is_unpaired (take k whole)) (get_or whole k 0)) (range_with_len (length front + 1) (length cs)) ≡ scanned rule (turned inside c) cs =
    rw length-append at (scanned_from rule (turned inside c) (front ++ c ∷ []) cs whole (seam front c cs whole e) (inside_next inside front c h)) in
    rw (here, next) refl

pub places_scanned : (rule : Bool → ℕ → List ℕ) (text : List ℕ) → by_places rule text ≡ scanned rule false text
places_scanned rule text = scanned_from rule false [] text text refl refl

-- ---- the bare text

bare_scanned : (inside : Bool) (text : List ℕ) → bare_behind inside text ≡ scanned kept inside text
unfolding bare_behind
bare_scanned inside [] = refl
bare_scanned inside (c ∷ cs) = ap (λ r. kept inside c ++ r) (bare_scanned (turned inside c) cs)

pub bare_places : (text : List ℕ) → bare text ≡ by_places kept text
unfolding bare
bare_places text = bare_scanned false text ∙ sym (places_scanned kept text)

-- ---- balanced texts

-- how often a character stands outside character constants
abbrev counted : ℕ → Bool → List ℕ → ℕ
counted x inside [] = 0
counted x true (c ∷ cs) = counted x (turned true c) cs
counted x false (c ∷ cs) = cond (c == x) 1 0 + counted x (turned false c) cs

counted_is : (x : ℕ) (inside : Bool) (text : List ℕ) → count_of x (scanned kept_outside inside text) ≡ counted x inside text
counted_is x true [] = refl
counted_is x false [] = refl
counted_is x true (c ∷ cs) = counted_is x (turned true c) cs
counted_is x false (c ∷ cs) =
    sum_by-cons (λ d. cond (d == x) 1 0) c (scanned kept_outside (turned false c) cs) ∙ ap (λ n. cond (c == x) 1 0 + n) (counted_is x (turned false c) cs)

pub outside_counted : (x : ℕ) (text : List ℕ) → count_of x (by_places kept_outside text) ≡ counted x false text
outside_counted x text = ap (count_of x) (places_scanned kept_outside text) ∙ counted_is x false text

ended_from : (inside : Bool) (front text : List ℕ) → is_unpaired front ≡ inside → is_unpaired (front ++ text) ≡ ended inside text
ended_from inside front [] h = rw (append-nil front) h
ended_from inside front (c ∷ cs) h =
    rw (seam front c cs (front ++ c ∷ cs) refl) (ended_from (turned inside c) (front ++ c ∷ []) cs (inside_next inside front c h))

two : (b : Bool) → (b ≡ true) ⊎ (b ≡ false)
two true = inl refl
two false = inr refl

-- an apostrophe, an opening or a closing parenthesis, or something else
sorts : (P : ℕ → Type 0) → P 39 → P 40 → P 41 → ((c : ℕ) → eqb c 39 ≡ false → eqb c 40 ≡ false → eqb c 41 ≡ false → P c) → (c : ℕ) → P c
sorts P quote opens closes other c =
    elim (two (eqb c 39)) [
      | inl a ↦ subst P (sym (eqb-true c 39 a)) quote
      | inr a ↦ elim (two (eqb c 40)) [
        | inl b ↦ subst P (sym (eqb-true c 40 b)) opens
        | inr b ↦ elim (two (eqb c 41)) [
          | inl d ↦ subst P (sym (eqb-true c 41 d)) closes
          | inr d ↦ other c a b d
        ]
      ]
    ]

both : (a b : Bool) → (a && b) ≡ true → (a ≡ true) × (b ≡ true)
both true true h = (refl, refl)
both true false h = absurd cc
both false b h = absurd cc

turned_inside : (c : ℕ) → turned true c ≡ not (eqb c 39)
turned_inside c = elim (two (eqb c 39)) [ inl a ↦ rw a refl | inr a ↦ rw a refl ]

-- what a balanced text is, behind a front that leaves so many open
record Closes (depth : ℕ) (inside : Bool) (text : List ℕ) : Type 0 where
  ends : ended inside text ≡ false
  same : counted 41 inside text ≡ counted 40 inside text + depth
  below : (n : ℕ) → counted 41 inside (take n text) ≤ counted 40 inside (take n text) + depth

-- the fronts of a text behind a character
inside_below : (depth c : ℕ) (cs : List ℕ) → ((n : ℕ) → counted 41 (turned true c) (take n cs) ≤ counted 40 (turned true c) (take n cs) + depth) → (n : ℕ) → counted 41 true (take n (c ∷ cs)) ≤ counted 40 true (take n (c ∷ cs)) + depth
inside_below depth c cs below zero = omega arith
inside_below depth c cs below (suc n) = below n

outside_below : (depth c : ℕ) (cs : List ℕ) → ((n : ℕ) → counted 41 false (c ∷ take n cs) ≤ counted 40 false (c ∷ take n cs) + depth) → (n : ℕ) → counted 41 false (take n (c ∷ cs)) ≤ counted 40 false (take n (c ∷ cs)) + depth
outside_below depth c cs below zero = omega arith
outside_below depth c cs below (suc n) = below n

closes_inside : (depth c : ℕ) (cs : List ℕ) → Closes depth (turned true c) cs → Closes depth true (c ∷ cs)
closes_inside depth c cs k = record { ends = k.ends; same = k.same; below = inside_below depth c cs k.below }

closes_quote : (depth : ℕ) (cs : List ℕ) → Closes depth true cs → Closes depth false (39 ∷ cs)
closes_quote depth cs k =
    record { ends = k.ends; same = omega (arith, k.same); below = outside_below depth 39 cs (λ n. omega (arith, k.below n)) }

closes_open : (depth : ℕ) (cs : List ℕ) → Closes (depth + 1) false cs → Closes depth false (40 ∷ cs)
closes_open depth cs k =
    record { ends = k.ends; same = omega (arith, k.same); below = outside_below depth 40 cs (λ n. omega (arith, k.below n)) }

closes_closing : (depth : ℕ) (cs : List ℕ) → 0 < depth → Closes (depth - 1) false cs → Closes depth false (41 ∷ cs)
closes_closing depth cs some k =
    record { ends = k.ends; same = omega (arith, k.same); below = outside_below depth 41 cs (λ n. omega (arith, k.below n)) }

closes_other : (depth c : ℕ) (cs : List ℕ) → eqb c 39 ≡ false → eqb c 40 ≡ false → eqb c 41 ≡ false → Closes depth false cs → Closes depth false (c ∷ cs)
closes_other depth c cs p q r k = record {
  ends = rw p k.ends;
  same = rw (p, q, r) (omega (arith, k.same));
  below = outside_below depth c cs (λ n. rw (p, q, r) (omega (arith, k.below n)));
}

nothing_below : (depth n : ℕ) → counted 41 false (take n []) ≤ counted 40 false (take n []) + depth
nothing_below depth zero = omega arith
nothing_below depth (suc n) = omega arith

closes : (depth : ℕ) (inside : Bool) (text : List ℕ) → balanced depth inside text ≡ true → Closes depth inside text
unfolding balanced
closes depth true [] h = absurd cc
closes depth false [] h =
    record { ends = refl; same = omega (arith, eqb-true depth 0 h); below = nothing_below depth }
closes depth true (c ∷ cs) h =
    let P : Bool → Type 0 = λ i. Closes depth i cs in
    closes_inside depth c cs (subst P (sym (turned_inside c)) (closes depth (not (eqb c 39)) cs h))
closes depth false (c ∷ cs) h =
    sorts (λ d. balanced depth false (d ∷ cs) ≡ true → Closes depth false (d ∷ cs))
    (λ k. closes_quote depth cs (closes depth true cs k))
    (λ k. closes_open depth cs (closes (depth + 1) false cs k))
    (λ k. closes_closing depth cs (ltb-true 0 depth (both _ _ k).0) (closes (depth - 1) false cs (both _ _ k).1))
    (λ d p q r k. closes_other depth d cs p q r (closes depth false cs (rw (p, q, r) at k)))
    c h

some_open : (depth : ℕ) (cs : List ℕ) → Closes depth false (41 ∷ cs) → 0 < depth
some_open depth cs k = omega (arith, k.below 1)

opens_other : (depth c : ℕ) (cs : List ℕ) → eqb c 39 ≡ false → eqb c 40 ≡ false → eqb c 41 ≡ false → Closes depth false (c ∷ cs) → Closes depth false cs
opens_other depth c cs p q r k = record {
  ends = rw p at k.ends;
  same = omega (arith, rw (p, q, r) at k.same);
  below = λ n. omega (arith, rw (p, q, r) at (k.below (suc n)));
}

opens : (depth : ℕ) (inside : Bool) (text : List ℕ) → Closes depth inside text → balanced depth inside text ≡ true
unfolding balanced
opens depth true [] k = let e : true ≡ false = k.ends in absurd cc
opens depth false [] k = eq-eqb depth 0 (omega (arith, k.same))
opens depth true (c ∷ cs) k =
    let P : Bool → Type 0 = λ i. balanced depth i cs ≡ true in
    subst P (turned_inside c) (opens depth (turned true c) cs (record { ends = k.ends; same = k.same; below = λ n. k.below (suc n) }))
opens depth false (c ∷ cs) k =
    sorts (λ d. Closes depth false (d ∷ cs) → balanced depth false (d ∷ cs) ≡ true)
    (λ m. opens depth true cs (record { ends = m.ends; same = omega (arith, m.same); below = λ n. omega (arith, m.below (suc n)) }))
    (λ m. opens (depth + 1) false cs (record { ends = m.ends; same = omega (arith, m.same); below = λ n. omega (arith, m.below (suc n)) }))
    (λ m. rw (lt-ltb 0 depth (some_open depth cs m)) (opens (depth - 1) false cs (record { ends = m.ends; same = omega (arith, m.same, some_open depth cs m); below = λ n. omega (arith, m.below (suc n), some_open depth cs m) })))
    (λ d p q r m. rw (p, q, r) (opens depth false cs (opens_other depth d cs p q r m)))
    c k

-- ---- by counts

even : (text : List ℕ) → Closes 0 false text → IsBalanced text
even text k = record {
  apostrophes = ended_from false [] text refl ∙ k.ends;
  parentheses = omega (arith, outside_counted 41 text, outside_counted 40 text, k.same);
  fronts = λ n. omega (arith, outside_counted 41 (take n text), outside_counted 40 (take n text), k.below n);
}

closes_even : (text : List ℕ) → IsBalanced text → Closes 0 false text
closes_even text k = record {
  ends = sym (ended_from false [] text refl) ∙ k.apostrophes;
  same = omega (arith, outside_counted 41 text, outside_counted 40 text, k.parentheses);
  below = λ n. omega (arith, outside_counted 41 (take n text), outside_counted 40 (take n text), k.fronts n);
}

pub balanced_counts : (text : List ℕ) → (balanced 0 false text ≡ true) ↔ IsBalanced text
balanced_counts text = (λ h. even text (closes 0 false text h), λ k. opens 0 false text (closes_even text k))
