-- What a sink took in several calls.
use Rattle.std.proofs.Common.{◌≡◌, ℕ, ◌+◌, ◌-◌, ◌<◌, ◌≤◌, List, [], ◌++◌, length, take, drop, Option, Some, None, refl, sym, ap, ◌∙◌, arith, append_assoc, subst}
use Rattle.std.specs.Io.KnownBytes.{Appends}
use Rattle.std.proofs.lemmas.List.{append-nil, take-append-drop, take_all, take-take, length-take, length-drop}
use Rattle.std.proofs.Math.Seq.{take-add}
use Rattle.meaning.specs.Promise.{Told, Took, TookAndRefused, IsBroken}
use Rattle.record_sinks.specs.Puts.{TakesFront}

Appends-none : (o : Option (List ℕ)) → Appends o o []
Appends-none None = tt
Appends-none (Some xs) = sym (append-nil xs)

Appends-then : (a b c : Option (List ℕ)) (xs ys : List ℕ) → Appends a b xs → Appends b c ys → Appends a c (xs ++ ys)
Appends-then None b c xs ys p q = tt
Appends-then (Some us) None c xs ys p q = absurd p
Appends-then (Some us) (Some bs) None xs ys p q = absurd q
Appends-then (Some us) (Some bs) (Some cs) xs ys p q = q ∙ ap (λ l. l ++ ys) p ∙ append_assoc us xs ys

pub Took-none : (a : Told) → Took a a []
Took-none a = record { bytes_grew = Appends-none a.bytes; stays = refl }

pub Took-then : (a b c : Told) (xs ys : List ℕ) → Took a b xs → Took b c ys → Took a c (xs ++ ys)
Took-then a b c xs ys p q =
    record { bytes_grew = Appends-then a.bytes b.bytes c.bytes xs ys p.bytes_grew q.bytes_grew; stays = q.stays ∙ p.stays }

pub Took-refused : (a b c : Told) (xs ys : List ℕ) → Took a b xs → TookAndRefused b c ys → TookAndRefused a c (xs ++ ys)
Took-refused a b c xs ys p q =
    record { bytes_grew = Appends-then a.bytes b.bytes c.bytes xs ys p.bytes_grew q.bytes_grew; refuses = q.refuses }

-- what is left of a piece from a place on
abbrev pub rest_of : List ℕ → ℕ → List ℕ
rest_of piece done = take (length piece - done) (drop done piece)

-- one more front of what is left of a piece
pub record PutsMore (piece : List ℕ) (done n : ℕ) (old new : Told) : Type 0 where
  pub within : done + n ≤ length piece
  pub some : 0 < n
  pub after : Took old new (take (done + n) piece)

pub puts_more : (piece : List ℕ) (done n : ℕ) (old mid new : Told) → done < length piece → Took old mid (take done piece) → TakesFront (rest_of piece done) n mid new → PutsMore piece done n old new
puts_more piece done n old mid new lt so_far front =
    let len : length (rest_of piece done) ≡ length piece - done = omega (arith, length-take (length piece - done) (drop done piece), length-drop done piece) in
    let n-le : n ≤ length piece - done = omega (arith, front.within, len) in
    let piece-is : take n (rest_of piece done) ≡ take n (drop done piece) = take-take n (length piece - done) (drop done piece) n-le in
    record {
      within = omega arith;
      some = front.some (omega arith);
      after = subst (λ l. Took old new l) (ap (λ l. take done piece ++ l) piece-is ∙ sym (take-add done n piece)) (Took-then old mid new (take done piece) (take n (rest_of piece done)) so_far front.after);
    }

-- a refusal after a front
pub breaks_at : (piece : List ℕ) (done : ℕ) (old mid new : Told) → Took old mid (take done piece) → TookAndRefused mid new [] → IsBroken piece old new
breaks_at piece done old mid new so_far refused =
    record {
      taken = take done piece;
      lost = drop done piece;
      parts = sym (take-append-drop done piece);
      after = subst (λ l. TookAndRefused old new l) (append-nil (take done piece)) (Took-refused old mid new (take done piece) [] so_far refused);
    }

pub took_all : (piece : List ℕ) (done : ℕ) (old new : Told) → length piece ≤ done → Took old new (take done piece) → Took old new piece
took_all piece done old new le so_far = subst (λ l. Took old new l) (take_all done piece le) so_far
