-- What a sink does with bytes in several calls.
use Rattle.std.proofs.Common.{◌≡◌, ◌⊎◌, ℕ, false, List, [], ◌++◌, refl, sym, ap, ◌∙◌, subst, append_assoc, inl, inr}
use Rattle.std.proofs.lemmas.List.{append-nil}
use Rattle.meaning.specs.Promise.{Told, Took, IsBroken}
use Rattle.record_sinks.proofs.Taken.{Took-none, Took-then, Took-refused}
use Rattle.messages.specs.Shown.{IsTold}

broken_before : (xs ys : List ℕ) (a b : Told) → IsBroken xs a b → IsBroken (xs ++ ys) a b
broken_before xs ys a b x =
    record { taken = x.taken; lost = x.lost ++ ys; parts = ap (λ l. l ++ ys) x.parts ∙ append_assoc x.taken x.lost ys; after = x.after }

broken_behind : (xs ys : List ℕ) (a b c : Told) → Took a b xs → IsBroken ys b c → IsBroken (xs ++ ys) a c
broken_behind xs ys a b c p x =
    record { taken = xs ++ x.taken; lost = x.lost; parts = ap (λ l. xs ++ l) x.parts ∙ sym (append_assoc xs x.taken x.lost); after = Took-refused a b c xs x.taken p x.after }

-- a sink that refused takes no more
broken_over : (xs : List ℕ) (a b c : Told) → IsBroken xs a b → Took b c [] → IsBroken xs a c
broken_over xs a b c x q =
    let from : Told = record { bytes = a.bytes; refused = b.refused } in
    let before : Took from b x.taken = record { bytes_grew = x.after.bytes_grew; stays = refl } in
    let both : Took from c x.taken = subst (λ l. Took from c l) (append-nil x.taken) (Took-then from b c x.taken [] before q) in
    record { taken = x.taken; lost = x.lost; parts = x.parts; after = record { bytes_grew = both.bytes_grew; refuses = q.stays ∙ x.after.refuses } }

-- nothing to write
pub told_none : (a : Told) → IsTold [] a a
told_none a = record { tried = λ _. inl (Took-none a); over = λ _. Took-none a }

-- some bytes, and then more
pub told_then : (xs ys : List ℕ) (a b c : Told) → IsTold xs a b → IsTold ys b c → IsTold (xs ++ ys) a c
told_then xs ys a b c p q =
    record {
      tried = λ calm. by calm (p.tried calm);
      over = λ shut. Took-then a b c [] [] (p.over shut) (q.over ((p.over shut).stays ∙ shut));
    }
  where
    more : Took a b xs → Took b c ys ⊎ IsBroken ys b c → Took a c (xs ++ ys) ⊎ IsBroken (xs ++ ys) a c
    more p (inl q) = inl (Took-then a b c xs ys p q)
    more p (inr q) = inr (broken_behind xs ys a b c p q)

    by : a.refused ≡ false → Took a b xs ⊎ IsBroken xs a b → Took a c (xs ++ ys) ⊎ IsBroken (xs ++ ys) a c
    by calm (inl p) = more p (q.tried (p.stays ∙ calm))
    by calm (inr p) = inr (broken_before xs ys a c (broken_over xs a b c p (q.over p.after.refuses)))
