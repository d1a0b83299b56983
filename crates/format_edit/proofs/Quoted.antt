-- Reading characters between apostrophes, one after another.
use Rattle.std.proofs.Common.{◌≡◌, ℕ, ◌<◌, Bool, true, false, eqb, List, [], ◌∷◌, ◌++◌, length, Option, Some, None, refl, sym, ap, subst, ◌∙◌, append_assoc, arith}
use Rattle.std.specs.Prelude.{option_map}
use Rattle.std.proofs.lemmas.Bool.{eqb-true}
use Rattle.std.proofs.lemmas.List.{append-nil}
use Rattle.meaning.specs.Reading.{Text, ◌>>=◌, when, after, with_char}
use Rattle.meaning.specs.Formats.{quoted_at}
use Rattle.format_edit.specs.Formatted.{character_at}
use Rattle.format_edit.proofs.Front.{pair_is}

abbrev pub Quoted : Type 0
Quoted = Option (List ℕ × Text)

-- what was read before, and what is still read
abbrev pub with_text : List ℕ → Quoted → Quoted
with_text front None = None
with_text front (Some x) = Some (front ++ x.0, x.1)

regroup : (front : List ℕ) (c : ℕ) (o : Quoted) → with_text front (option_map (with_char c) o) ≡ with_text (front ++ c ∷ []) o
regroup front c None = refl
regroup front c (Some x) = ap (λ cs. Some (cs, x.1)) (sym (append_assoc front (c ∷ []) x.0))

pub no_text : (o : Quoted) → with_text [] o ≡ o
no_text None = refl
no_text (Some x) = refl

-- a character and what stands behind it
abbrev one_at : ℕ → Text → Option (ℕ × Text)
one_at c u = Some (c, u)

abbrev none_at : Option (ℕ × Text)
none_at = None

-- what is read is one character and others
abbrev pub Continues : Text → ℕ → Text → Type 0
Continues t c u = (quoted_at t ≡ option_map (with_char c) (quoted_at u)) × (length u < length t)

same_one : (a c : ℕ) (t u : Text) → one_at a t ≡ one_at c u → (a ≡ c) × (t ≡ u)
same_one a c t u e = let p : ℕ × Text = (a, t) in let q : ℕ × Text = (c, u) in pair_is p q e

moved : (all t u : Text) (a c : ℕ) → one_at a t ≡ one_at c u → Continues all a t → Continues all c u
moved all t u a c e h =
    let p = same_one a c t u e in
    subst (λ x. Continues all x u) p.0 (subst (λ x. Continues all a x) p.1 h)

pub doubled_one : (t : Text) (d : ℕ) → eqb 39 d ≡ true → Continues (39 ∷ (d ∷ t)) 39 t
unfolding quoted_at
doubled_one t d e =
    subst (λ x. Continues (39 ∷ (x ∷ t)) 39 t) (eqb-true 39 d e) (refl, omega arith)

apostrophe_then : (t : Text) (d c : ℕ) (u : Text) (b : Bool) → eqb 39 d ≡ b → (when b (Some t) >>= λ rest. one_at 39 rest) ≡ one_at c u → Continues (39 ∷ (d ∷ t)) c u
unfolding when ◌>>=◌
apostrophe_then t d c u true e h = moved (39 ∷ (d ∷ t)) t u 39 c h (doubled_one t d e)
apostrophe_then t d c u false e h = absurd cc

at_apostrophe : (t : Text) (c : ℕ) (u : Text) → character_at (39 ∷ t) ≡ one_at c u → Continues (39 ∷ t) c u
unfolding character_at after
at_apostrophe [] c u h = let k : none_at ≡ one_at c u = h in absurd cc
at_apostrophe (d ∷ t) c u h = apostrophe_then t d c u (eqb 39 d) refl h

pub at_other : (a : ℕ) (t : Text) → eqb a 39 ≡ false → Continues (a ∷ t) a t
unfolding quoted_at
at_other a [] e = (rw e refl, omega arith)
at_other a (d ∷ t) e = (rw e refl, omega arith)

other_is : (a : ℕ) (t : Text) → eqb a 39 ≡ false → character_at (a ∷ t) ≡ one_at a t
unfolding character_at
other_is a t e = rw e refl

continues : (t : Text) (c : ℕ) (u : Text) → character_at t ≡ one_at c u → Continues t c u
unfolding character_at
continues [] c u h = absurd cc
continues (a ∷ t) c u h = by_test (eqb a 39) refl
  where
    by_test : (b : Bool) → eqb a 39 ≡ b → Continues (a ∷ t) c u
    by_test true e =
        let same : 39 ≡ a = sym (eqb-true a 39 e) in
        subst (λ x. Continues (x ∷ t) c u) same (at_apostrophe t c u (ap (λ x. character_at (x ∷ t)) same ∙ h))
    by_test false e = moved (a ∷ t) t u a c (sym (other_is a t e) ∙ h) (at_other a t e)

-- where no character is, an apostrophe ends the text
ends_then : (t : Text) (d : ℕ) (b : Bool) → eqb d 39 ≡ b → character_at (39 ∷ (d ∷ t)) ≡ none_at → quoted_at (39 ∷ (d ∷ t)) ≡ Some ([], d ∷ t)
unfolding character_at quoted_at after when ◌>>=◌
ends_then t d true e h =
    let k : character_at (39 ∷ (39 ∷ t)) ≡ none_at = ap (λ x. character_at (39 ∷ (x ∷ t))) (sym (eqb-true d 39 e)) ∙ h in
    let l : one_at 39 t ≡ none_at = k in
    absurd cc
ends_then t d false e h = rw e refl

ends_at : (t : Text) → character_at (39 ∷ t) ≡ none_at → quoted_at (39 ∷ t) ≡ Some ([], t)
unfolding quoted_at
ends_at [] h = refl
ends_at (d ∷ t) h = ends_then t d (eqb d 39) refl h

unclosed : (t rest : Text) → character_at t ≡ none_at → after (39 ∷ []) t ≡ None → quoted_at t ≡ None
unfolding quoted_at after when
unclosed [] rest h e = refl
unclosed (a ∷ t) rest h e = by_test (eqb a 39) refl
  where
    by_test : (b : Bool) → eqb a 39 ≡ b → quoted_at (a ∷ t) ≡ None
    by_test true f =
        let k : after (39 ∷ []) (39 ∷ t) ≡ None = ap (λ x. after (39 ∷ []) (x ∷ t)) (sym (eqb-true a 39 f)) ∙ e in
        absurd cc
    by_test false f = let k : one_at a t ≡ none_at = sym (other_is a t f) ∙ h in absurd cc

module _ (front : List ℕ) (rest : Text) (total : Quoted) (so_far : with_text front (quoted_at rest) ≡ total) where
  pub one_more : (c : ℕ) (u : Text) → character_at rest ≡ Some (c, u) → with_text (front ++ c ∷ []) (quoted_at u) ≡ total
  one_more c u e = sym (regroup front c (quoted_at u)) ∙ ap (with_text front) (sym (continues rest c u e).0) ∙ so_far

  pub no_end : character_at rest ≡ None → after (39 ∷ []) rest ≡ None → total ≡ None
  no_end e a = sym so_far ∙ ap (with_text front) (unclosed rest [] e a)

  pub ended : (behind : Text) → character_at rest ≡ None → rest ≡ 39 ∷ behind → total ≡ Some (front, behind)
  ended behind e is =
      let k : quoted_at rest ≡ Some ([], behind) = ap quoted_at is ∙ ends_at behind (ap character_at (sym is) ∙ e) in
      sym so_far ∙ ap (with_text front) k ∙ ap (λ cs. Some (cs, behind)) (append-nil front)

pub character_shorter : (t : Text) (c : ℕ) (u : Text) → character_at t ≡ Some (c, u) → length u < length t
character_shorter t c u e = (continues t c u e).1
