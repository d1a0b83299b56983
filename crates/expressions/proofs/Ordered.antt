-- The elements of an array in their order: each stands at its place.
use Rattle.std.proofs.Common.{◌≡◌, ℕ, zero, suc, ◌+◌, ◌*◌, ℤ, pos, ◌+ℤ◌, List, [], ◌∷◌, ◌++◌, length, map, flat_map, Option, Some, refl, ap, ◌∙◌, subst, arith}
use Rattle.std.specs.List.{range_with_len}
use Rattle.meaning.specs.Arrays.{Dimension, extent, size, combined, place, values_between, elements}
use Rattle.meaning.proofs.Elements.{above-at}

-- their places are this number and those behind it
abbrev pub AreNumbered : (List ℤ → Option ℕ) → ℕ → List (List ℤ) → Type 0
AreNumbered p i [] = Unit {0}
AreNumbered p i (ss ∷ sss) = (p ss ≡ Some i) × AreNumbered p (suc i) sss

numbered-from : (p : List ℤ → Option ℕ) (i j : ℕ) (xs : List (List ℤ)) → i ≡ j → AreNumbered p i xs → AreNumbered p j xs
numbered-from p i j xs same h = subst (λ n. AreNumbered p n xs) same h

numbered-append : (p : List ℤ → Option ℕ) (i : ℕ) (xs ys : List (List ℤ)) → AreNumbered p i xs → AreNumbered p (i + length xs) ys → AreNumbered p i (xs ++ ys)
numbered-append p i [] ys h k = numbered-from p (i + 0) i ys (omega arith) k
numbered-append p i (x ∷ xs) ys h k =
    (h.0, numbered-append p (suc i) xs ys h.1 (numbered-from p (i + suc (length xs)) (suc i + length xs) ys (omega arith) k))

pub length-both : {A : Type 0} (xs ys : List A) → length (xs ++ ys) ≡ length xs + length ys
length-both [] ys = omega arith
length-both (x ∷ xs) ys = let rest = length-both xs ys in omega (arith, rest)

module _ (d : Dimension) (ds : List Dimension) where
  abbrev part : List ℤ → ℕ → ℕ → List (List ℤ)
  part rest a n = map (λ s. s ∷ rest) (map (λ k. d.lower +ℤ pos k) (range_with_len a n))

  abbrev row : List ℤ → List (List ℤ)
  row rest = map (λ s. s ∷ rest) (values_between d)

  part-length : (rest : List ℤ) (a n : ℕ) → length (part rest a n) ≡ n
  part-length rest a zero = refl
  part-length rest a (suc n) = ap suc (part-length rest (a + 1) n)

  part-numbered : (rest : List ℤ) (j a n : ℕ) → place ds rest ≡ Some j → a + n ≡ extent d → AreNumbered (place (d ∷ ds)) (a + extent d * j) (part rest a n)
  part-numbered rest j a zero is all = tt
  part-numbered rest j a (suc n) is all = (
    ap (λ o. combined (extent d) o (place ds rest)) (above-at d a (omega (arith, all))) ∙ ap (combined (extent d) (Some a)) is,
    numbered-from (place (d ∷ ds)) (a + 1 + extent d * j) (suc (a + extent d * j)) (part rest (a + 1) n) (one_more a (extent d * j)) (part-numbered rest j (a + 1) n is (omega (arith, all))),
  )
    where
      one_more : (a b : ℕ) → a + 1 + b ≡ suc (a + b)
      one_more a b = omega arith

  rows-numbered : (rests : List (List ℤ)) (j : ℕ) → AreNumbered (place ds) j rests → AreNumbered (place (d ∷ ds)) (extent d * j) (flat_map row rests)
  rows-numbered [] j h = tt
  rows-numbered (rest ∷ rests) j h =
      numbered-append (place (d ∷ ds)) (extent d * j) (row rest) (flat_map row rests)
      (numbered-from (place (d ∷ ds)) (0 + extent d * j) (extent d * j) (row rest) (from_zero (extent d * j)) (part-numbered rest j 0 (extent d) h.0 (from_zero (extent d))))
      (numbered-from (place (d ∷ ds)) (extent d * suc j) (extent d * j + length (row rest)) (flat_map row rests) (next_row (extent d) j (length (row rest)) (part-length rest 0 (extent d))) (rows-numbered rests (suc j) h.1))
    where
      from_zero : (n : ℕ) → 0 + n ≡ n
      from_zero n = omega arith

      next_row : (e j n : ℕ) → n ≡ e → e * suc j ≡ e * j + n
      next_row e j n is = omega (arith, is)

  rows-length : (rests : List (List ℤ)) → length (flat_map row rests) ≡ extent d * length rests
  rows-length [] = no_rows (extent d)
    where
      no_rows : (e : ℕ) → 0 ≡ e * 0
      no_rows e = omega arith
  rows-length (rest ∷ rests) =
      length-both (row rest) (flat_map row rests) ∙ together (extent d) (length rests) (length (row rest)) (length (flat_map row rests)) (part-length rest 0 (extent d)) (rows-length rests)
    where
      together : (e n a b : ℕ) → a ≡ e → b ≡ e * n → a + b ≡ e * suc n
      together e n a b p q = omega (arith, p, q)

pub elements-numbered : (ds : List Dimension) → AreNumbered (place ds) 0 (elements ds)
unfolding elements
elements-numbered [] = (refl, tt)
elements-numbered (d ∷ ds) =
    numbered-from (place (d ∷ ds)) (extent d * 0) 0 (elements (d ∷ ds)) (none (extent d)) (rows-numbered d ds (elements ds) 0 (elements-numbered ds))
  where
    none : (e : ℕ) → e * 0 ≡ 0
    none e = omega arith

pub elements-length : (ds : List Dimension) → length (elements ds) ≡ size ds
unfolding elements
elements-length [] = refl
elements-length (d ∷ ds) = rows-length d ds (elements ds) ∙ ap (λ n. extent d * n) (elements-length ds)
