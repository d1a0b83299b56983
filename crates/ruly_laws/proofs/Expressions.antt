-- Expressions that are fit and short have codes.
use Rattle.std.proofs.Common.{◌≡◌, ◌<◌, ◌≤◌, ◌^◌, ℕ, suc, ◌+◌, List, [], ◌∷◌, length, Option, Some, None, refl, sym, ap, subst, ◌∙◌, arith}
use Rattle.std.specs.Prelude.{IsTrue, is_some}
use Rattle.std.specs.List.{AllByRecursion}
use Rattle.meaning.specs.Arrays.{Dimension}
use Rattle.meaning.specs.Characters.{number_of}
use Rattle.meaning.specs.Intrinsics.{Intrinsic, intrinsic_named, takes}
use Rattle.meaning.specs.NumberRules.{numbers_in, numbers_in_all}
use Rattle.meaning.specs.Scopes.{intrinsic_call, listed}
use Rattle.meaning.specs.Syntax.{ExprTree, number, truth, name, signed, negated, binary, paren, element, call, ExprsTree, no_exprs, exprs}
use Rattle.meaning.specs.Uses.{Use, count, uses_in, uses_in_all}
use Rattle.expressions.specs.Calls.{AreOthers}
use Rattle.expressions.specs.Glossaries.{weight}
use Rattle.code_laws.specs.Meant.{Setting}
use Rattle.compiler.specs.Ruly.{AllKeep, IsCall, IsElement, IsReference as IsRulyReference, IsRuly, IsSmall, Keeps}
use Rattle.compiler.proofs.Small.{fewer_parts}
use Rattle.rule_laws.specs.Evaluated.{IsFit}
use Rattle.rule_laws.specs.Read.{IsShort}
use Rattle.rule_laws.specs.References.{HasElement, IsCalled, IsIntrinsic, IsReference, IsReferenceAs}
use Rattle.rule_laws.proofs.Tests.{all_parts}
use Rattle.ruly_laws.proofs.Calls.{some_call}

-- ---- numbers of subscripts and of arguments

pub counted : (es : ExprsTree) → count es ≡ length (listed es)
counted no_exprs = refl
counted (exprs e es) = ap suc (counted es)

-- ---- references

pub element_is : (s : Setting) (n : List ℕ) (es : ExprsTree) (ds : List Dimension) → count es ≡ length ds → HasElement s.numbers n → IsElement s n es ds
element_is s n es ds many stored =
    record { many = sym (counted es) ∙ many; subscripts = stored.subscripts; cell = stored.kept.cell; found = stored.kept.found }

call_is : (s : Setting) (n : List ℕ) (k : ℕ) → IsCalled s.names.definitions s.callable n k → IsCall s n k
call_is s n k called =
    record {
      some = some_call s.names n s.callable (λ others. let i = called.intrinsic others in ap (λ o. is_some (intrinsic_call o)) i.named);
      defined = called.defined;
      intrinsic = λ others f is. let i = called.intrinsic others in same i f is;
    }
  where
    same : (i : IsIntrinsic n k) (f : Intrinsic) → intrinsic_named n ≡ Some f → IsTrue (takes f k)
    same i f is = let one : i.function ≡ f = option_same (sym i.named ∙ is) in subst (λ g. IsTrue (takes g k)) one i.taken
      where
        option_same : {A : Type 0} {x y : A} → Some x ≡ Some y → x ≡ y
        option_same h = cc

module _ (s : Setting) where
  abbrev Refers : List Use → Type 0
  Refers us = AllByRecursion (IsReference s.names s.numbers s.callable) us

  abbrev AreSmall : List (List ℕ) → Type 0
  AreSmall ds = AllByRecursion (λ digits. number_of digits < 2 ^ 31) ds

  by_array : (n : List ℕ) (es : ExprsTree) (o : Option (List Dimension)) → IsReferenceAs s.names s.numbers s.callable n (count es) o → IsRulyReference s n es o
  by_array n es (Some ds) h = element_is s n es ds h.1 h.2
  by_array n es None h = call_is s n (length (listed es)) (subst (IsCalled s.names.definitions s.callable n) (counted es) h)

  no_subscripts : (n : List ℕ) (o : Option (List Dimension)) → IsReferenceAs s.names s.numbers s.callable n 0 o → IsCall s n 0
  no_subscripts n (Some ds) h = absurd (let some = h.0 in omega (arith, some))
  no_subscripts n None h = call_is s n 0 h

  -- ---- expressions

  mutual
    keeps : (e : ExprTree) → AreSmall (numbers_in e) → Refers (uses_in e) → Keeps s e
    keeps (number digits) small refers = small.0
    keeps (truth b) small refers = tt
    keeps (name letters) small refers = tt
    keeps (signed sign e) small refers = keeps e small refers
    keeps (negated e) small refers = keeps e small refers
    keeps (binary operator a b) small refers =
        let p = all_parts (λ digits. number_of digits < 2 ^ 31) (numbers_in a) (numbers_in b) small in
        let q = all_parts (IsReference s.names s.numbers s.callable) (uses_in a) (uses_in b) refers in
        (keeps a p.0 q.0, keeps b p.1 q.1)
    keeps (paren e) small refers = keeps e small refers
    keeps (element letters es) small refers =
        (by_array letters es (s.names.arrays letters) refers.0, all_keep es small refers.1)
    keeps (call letters) small refers = no_subscripts letters (s.names.arrays letters) refers.0

    all_keep : (es : ExprsTree) → AreSmall (numbers_in_all es) → Refers (uses_in_all es) → AllKeep s es
    all_keep no_exprs small refers = tt
    all_keep (exprs e es) small refers =
        let p = all_parts (λ digits. number_of digits < 2 ^ 31) (numbers_in e) (numbers_in_all es) small in
        let q = all_parts (IsReference s.names s.numbers s.callable) (uses_in e) (uses_in_all es) refers in
        (keeps e p.0 q.0, all_keep es p.1 q.1)

  -- each of a list
  pub listed_keep : (es : ExprsTree) → AllByRecursion (IsRuly s) (listed es) → AllKeep s es
  listed_keep no_exprs h = tt
  listed_keep (exprs e es) h = (h.0.keeps, listed_keep es h.1)

  module _ (dummies : length s.dummies < 2 ^ 32) (cells : s.cells < 2 ^ 31) where
    pub small_parts : (e : ExprTree) → IsShort e → IsSmall s (weight e)
    small_parts e short =
        record {
          light = let few = fewer_parts e short.well in let most = short.short in omega (arith, few, most);
          dummies = dummies;
          cells = cells;
        }

    pub ruly : (e : ExprTree) → IsFit s.names s.numbers s.callable e → IsShort e → IsRuly s e
    ruly e fit short = record { keeps = keeps e fit.constants fit.references; small = small_parts e short }

    pub all_ruly : (es : List ExprTree) → AllByRecursion (IsFit s.names s.numbers s.callable) es → AllByRecursion IsShort es → AllByRecursion (IsRuly s) es
    all_ruly [] fit short = tt
    all_ruly (e ∷ es) fit short = (ruly e fit.0 short.0, all_ruly es fit.1 short.1)
