-- A name that the rules take for a function's stands for one.
use Rattle.std.proofs.Common.{◌≡◌, ◌<◌, ◌==◌, ℕ, zero, suc, Bool, true, false, List, [], ◌∷◌, Option, Some, None, refl, sym, ap, subst, ◌∙◌, arith}
use Rattle.std.specs.Prelude.{IsTrue, is_some, slice_get, if◌then◌else◌}
use Rattle.std.specs.Str.{bytes_eq}
use Rattle.std.proofs.lemmas.Bool.{eq-eqb, eqb-true, true≢false}
use Rattle.meaning.specs.declared.ending.Value.{Value}
use Rattle.meaning.specs.Intrinsics.{intrinsic_named}
use Rattle.meaning.specs.Maps.{Map}
use Rattle.meaning.specs.Scopes.{Definition, calls_by, intrinsic_call}
use Rattle.meaning.specs.Values.{Valued}
use Rattle.expressions.specs.Calls.{AreOthers}
use Rattle.expressions.specs.Glossaries.{Glossary, before, in_front}

some_if : {A : Type 0} (b : Bool) (x : A) (o : Option A) → (b ≡ false → IsTrue (is_some o)) → IsTrue (is_some (if b then Some x else o))
some_if true x o rest = refl
some_if false x o rest = rest refl

module _ (g : Glossary) (n : List ℕ) where
  abbrev calls : List Definition → Option (List Value → Map → Valued)
  calls ds = calls_by g.types g.arrays g.known ds n

  none_left : calls [] ≡ intrinsic_call (intrinsic_named n)
  unfolding calls_by
  none_left = refl

  in_front_some : (d : Definition) (ds : List Definition) → (bytes_eq n d.name ≡ false → IsTrue (is_some (calls ds))) → IsTrue (is_some (calls (d ∷ ds)))
  unfolding calls_by
  in_front_some d ds rest = some_if (bytes_eq n d.name) _ (calls ds) rest

  -- one of the first so many definitions has it, or it is an intrinsic function's
  pub some_call : (callable : ℕ) → (AreOthers g.definitions callable n → IsTrue (is_some (intrinsic_call (intrinsic_named n)))) → IsTrue (is_some (calls (before g.definitions callable)))
  some_call zero other = ap is_some none_left ∙ other (λ at d lt is. absurd (omega (arith, lt)))
  some_call (suc k) other = by (slice_get g.definitions k) refl (some_call k)
    where
      beyond : (at : ℕ) → at < suc k → (at ≡ k → ⊥) → at < k
      beyond at lt apart = omega (arith, lt, apart)

      more : ((d : Definition) → slice_get g.definitions k ≡ Some d → bytes_eq n d.name ≡ false) → AreOthers g.definitions k n → AreOthers g.definitions (suc k) n
      more here others at d lt is = at_place (at == k) refl
        where
          at_place : (b : Bool) → (at == k) ≡ b → bytes_eq n d.name ≡ false
          at_place true same = here d (sym (ap (slice_get g.definitions) (eqb-true at k same)) ∙ is)
          at_place false apart = others at d (beyond at lt (λ same. true≢false (sym (eq-eqb at k same) ∙ apart))) is

      by : (o : Option Definition) → slice_get g.definitions k ≡ o → ((AreOthers g.definitions k n → IsTrue (is_some (intrinsic_call (intrinsic_named n)))) → IsTrue (is_some (calls (before g.definitions k)))) → IsTrue (is_some (calls (in_front o (before g.definitions k))))
      by None is rest = rest (λ others. other (more (λ d found. absurd cc) others))
      by (Some d) is rest =
          in_front_some d (before g.definitions k) (λ apart. rest (λ others. other (more (λ e found. let same : d ≡ e = cc in subst (λ (x : Definition). bytes_eq n x.name ≡ false) same apart) others)))
