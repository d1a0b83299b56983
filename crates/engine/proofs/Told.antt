-- Lines in several parts.
use Rattle.std.proofs.Common.{◌≡◌, ◌⊎◌, ℕ, true, false, List, [], ◌∷◌, ◌++◌, subst, inl, inr, arith}
use Rattle.std.specs.Prelude.{codes, decimal, length, map, Some, ◌==◌}
use Rattle.std.proofs.lemmas.Bool.{eqb-true}
use Rattle.meaning.specs.Promise.{Told}
use Rattle.meaning.specs.declared.ending.Ending.{Ending}
use Rattle.meaning.specs.declared.ending.Ending.TheVariants as endings
use Rattle.messages.specs.Shown.{IsTold, shown}
use Rattle.messages.proofs.Told.{told_then}
use Rattle.engine.specs.Lines.{no_rule_line, line_at, line_of, line_of_text, turns_line, behind_stop}
use Rattle.engine.specs.Status.{status_of}

-- the parts of a line that ends in a line's number
pub told_at : (word name digits : List ℕ) (line : ℕ) (a b c d e f : Told) → digits ≡ decimal line → IsTold word a b → IsTold name b c → IsTold (codes " LINE ") c d → IsTold digits d e → IsTold (codes "\n") e f → IsTold (line_at word name line) a f
told_at word name digits line a b c d e f is p q r s t =
    let numbered : IsTold (decimal line) d e = subst (λ l. IsTold l d e) is s in
    let named : IsTold (word ++ name) a c = told_then word name a b c p q in
    let placed : IsTold (word ++ name ++ codes " LINE ") a d = told_then (word ++ name) (codes " LINE ") a c d named r in
    told_then (word ++ name ++ codes " LINE " ++ decimal line) (codes "\n") a e f (told_then (word ++ name ++ codes " LINE ") (decimal line) a d e placed numbered) t

-- the parts of the line of turns
pub told_turns : (digits : List ℕ) (turns : ℕ) (a b c d : Told) → digits ≡ decimal turns → IsTold (codes "TURNS ") a b → IsTold digits b c → IsTold (codes "\n") c d → IsTold (turns_line true (Some turns)) a d
told_turns digits turns a b c d is p q r =
    told_then (codes "TURNS ") (decimal turns ++ codes "\n") a b d p
    (told_then (decimal turns) (codes "\n") b c d (subst (λ l. IsTold l b c) is q) r)

-- the parts of the line of a STOP statement, where it tells something
pub told_stop : (text : List ℕ) (a b c d e : Told) → length text == 0 ≡ false → IsTold (codes "STOP") a b → IsTold (codes " ") b c → IsTold text c d → IsTold (codes "\n") d e → IsTold (codes "STOP" ++ behind_stop text ++ codes "\n") a e
told_stop [] a b c d e some p q r s = absurd cc
told_stop (x ∷ xs) a b c d e some p q r s =
    told_then (codes "STOP") (codes " " ++ (x ∷ xs) ++ codes "\n") a b e p
    (told_then (codes " ") ((x ∷ xs) ++ codes "\n") b c e q
    (told_then (x ∷ xs) (codes "\n") c d e r s))

-- where it tells nothing
pub told_silent_stop : (text : List ℕ) (a b c : Told) → length text == 0 ≡ true → IsTold (codes "STOP") a b → IsTold (codes "\n") b c → IsTold (codes "STOP" ++ behind_stop text ++ codes "\n") a c
told_silent_stop [] a b c none p q = told_then (codes "STOP") (codes "\n") a b c p q
told_silent_stop (x ∷ xs) a b c none p q =
    let empty : length (x ∷ xs) ≡ 0 = eqb-true (length (x ∷ xs)) 0 none in
    absurd (omega arith)

-- the line of a text that was asked for
pub told_text : (ending : Ending) (a b : Told) → (ending ≡ endings.Ended) ⊎ (ending ≡ endings.WriteRefused) → IsTold (line_of ending) a b → IsTold (line_of_text (status_of ending)) a b
told_text ending a b (inl is) p = rw is (subst (λ e. IsTold (line_of e) a b) is p)
told_text ending a b (inr is) p = rw is (subst (λ e. IsTold (line_of e) a b) is p)

-- the parts of the line of a name that no rule and no fault has
pub told_no_rule : (name : List ℕ) (a b c d : Told) → IsTold (codes "f77run: there is no rule or fault '") a b → IsTold (map shown name) b c
    → IsTold (codes "'; f77run --rule lists them\n") c d → IsTold (no_rule_line name) a d
told_no_rule name a b c d p q r =
    told_then (codes "f77run: there is no rule or fault '") (map shown name ++ codes "'; f77run --rule lists them\n") a b d p
    (told_then (map shown name) (codes "'; f77run --rule lists them\n") b c d q r)
