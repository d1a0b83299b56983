-- The front of a source that is too long spells what the whole does.
use Rattle.std.proofs.Common.{◌≡◌, ◌<◌, ℕ, Bool, true, false, List, [], ◌++◌, length, take, option_map, Option, Some, None, Err, refl, sym, ap, ◌∙◌, subst, arith}
use Rattle.std.specs.Prelude.{nat_lt, IfSome}
use Rattle.std.specs.Io.Take.{take_limit, take_inner, take_remaining}
use Rattle.std.specs.declared.io.traits.Take.{Take}
use Rattle.std.proofs.lemmas.Bool.{lt-ltb, ltb-true, ltb-false}
use Rattle.std.proofs.lemmas.List.{length-take-le, take_all}
use Rattle.meaning.specs.declared.refusal.Rule.TheVariants.{C7}
use Rattle.meaning.specs.Statements.{statements_of}
use Rattle.meaning.specs.Answers.{program_of}
use Rattle.engine.specs.Source.{SpellsAs}

-- a source of so many bytes is refused
too_long : (xs : List ℕ) → 1048576 < length xs → program_of xs ≡ Err (record { line = 1; rule = C7 })
unfolding program_of statements_of
too_long xs h = rw (lt-ltb 1048576 (length xs) h) refl

pub front_spells : (xs : List ℕ) → program_of (take 1048577 xs) ≡ program_of xs
front_spells xs = by (nat_lt 1048577 (length xs)) refl
  where
    by : (b : Bool) → nat_lt 1048577 (length xs) ≡ b → program_of (take 1048577 xs) ≡ program_of xs
    by true e =
        let more : 1048577 < length xs = ltb-true 1048577 (length xs) e in
        let front : 1048576 < length (take 1048577 xs) = rw (length-take-le 1048577 xs (omega arith)) (omega arith) in
        too_long (take 1048577 xs) front ∙ sym (too_long xs (omega arith))
    by false e = ap program_of (take_all 1048577 xs (ltb-false 1048577 (length xs) e))

known : (o : Option (List ℕ)) (limit : ℕ) (before after : List ℕ) → limit ≡ 1048577 → before ≡ [] → IfSome (option_map (take limit) o) (λ xs. after ≡ before ++ xs) → IfSome o (SpellsAs after)
known None limit before after l none h = h
known (Some xs) limit before after l none h =
    ap program_of (h ∙ ap (λ p. p ++ take limit xs) none ∙ ap (λ n. take n xs) l) ∙ front_spells xs

-- what is read through a limit of so many bytes
pub front_known : {R : Type 0} → (remaining : R → Option (List ℕ)) (t : Take R) (reader : R) (before after : List ℕ) → take_limit t ≡ 1048577 → take_inner t ≡ reader → before ≡ [] → IfSome (take_remaining remaining t) (λ xs. after ≡ before ++ xs) → IfSome (remaining reader) (SpellsAs after)
front_known remaining t reader before after limit inner none h =
    subst (λ r. IfSome (remaining r) (SpellsAs after)) inner (known (remaining t.inner) t.limit before after limit none h)
