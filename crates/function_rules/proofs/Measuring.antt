-- Sums, levels and numbers of nodes up to the greatest number.
use Rattle.std.proofs.Common.{◌≡◌, ℕ, suc, ◌+◌, ◌<◌, Bool, true, false, List, [], ◌∷◌, ◌++◌, length, get_or, take, max, fold, refl, sym, ap, ap₂, ◌∙◌, arith, Option, Some, None, option_map}
use Rattle.std.specs.Prelude.{if◌then◌else◌, is_some, nat_lt, unwrap_or}
use Rattle.std.proofs.lemmas.Bool.{ltb-true, ltb-false}
use Rattle.std.proofs.lemmas.List.Sums.{fold-append}
use Rattle.std.proofs.lemmas.List.{take_more, map-append}
use Rattle.meaning.specs.NameRules.{greatest, nodes_in, nodes_in_all}
use Rattle.meaning.specs.Syntax.{ExprTree, number, truth, name, signed, negated, binary, paren, element, call, ExprsTree, no_exprs, exprs}
use Rattle.meaning.specs.Uses.{Use}
use Rattle.name_uses.specs.declared.uses.NameUse.{NameUse}
use Rattle.name_uses.specs.UsesAt.{use_at, uses_at}
use Rattle.function_rules.specs.Measured.{capped, level_used}

pub more_same : (a b : ℕ) → capped a ≡ capped b → capped (suc a) ≡ capped (suc b)
more_same a b h = omega arith

pub sum_same : (a b c d : ℕ) → capped a ≡ capped b → capped c ≡ capped d → capped (a + c) ≡ capped (b + d)
sum_same a b c d h k = omega arith

twice_capped : (a : ℕ) → capped (capped a) ≡ capped a
twice_capped a = omega arith

-- ---- nodes

module _ (f g : List ℕ → Option ℕ) (same : (n : List ℕ) → f n ≡ option_map capped (g n)) where
  replaced : (n : List ℕ) (a b : ℕ) → capped a ≡ capped b → capped (unwrap_or (f n) a) ≡ capped (unwrap_or (g n) b)
  replaced n a b h = ap (λ o. capped (unwrap_or o a)) (same n) ∙ by_option (g n)
    where
      by_option : (o : Option ℕ) → capped (unwrap_or (option_map capped o) a) ≡ capped (unwrap_or o b)
      by_option None = h
      by_option (Some k) = twice_capped k

  mutual
    pub nodes_capped : (e : ExprTree) → capped (nodes_in f e) ≡ capped (nodes_in g e)
    nodes_capped (number digits) = refl
    nodes_capped (truth value) = refl
    nodes_capped (name letters) = refl
    nodes_capped (signed sign e) = more_same (nodes_in f e) (nodes_in g e) (nodes_capped e)
    nodes_capped (negated e) = more_same (nodes_in f e) (nodes_in g e) (nodes_capped e)
    nodes_capped (binary operator a b) =
        more_same (nodes_in f a + nodes_in f b) (nodes_in g a + nodes_in g b) (sum_same (nodes_in f a) (nodes_in g a) (nodes_in f b) (nodes_in g b) (nodes_capped a) (nodes_capped b))
    nodes_capped (paren e) = more_same (nodes_in f e) (nodes_in g e) (nodes_capped e)
    nodes_capped (element letters es) =
        replaced letters (2 + nodes_in_all f es) (2 + nodes_in_all g es) (sum_same 2 2 (nodes_in_all f es) (nodes_in_all g es) refl (all_capped es))
    nodes_capped (call letters) = replaced letters 2 2 refl

    pub all_capped : (es : ExprsTree) → capped (nodes_in_all f es) ≡ capped (nodes_in_all g es)
    all_capped no_exprs = refl
    all_capped (exprs e es) =
        sum_same (nodes_in f e) (nodes_in g e) (nodes_in_all f es) (nodes_in_all g es) (nodes_capped e) (all_capped es)

-- ---- levels

-- the deepest so far, one use more
pub deeper : (level : List ℕ → ℕ) (us : List NameUse) (i : ℕ) (u : NameUse) (now next here : ℕ) → i < length us → u ≡ get_or us i u → now ≡ greatest level (uses_at (take i us)) → here ≡ level_used level (use_at u) → next ≡ max now here → next ≡ greatest level (uses_at (take (i + 1) us))
deeper level us i u now next here lt is so_far told added =
    added ∙ ap₂ max so_far told
    ∙ sym (fold-append (λ k v. max k (level_used level v)) 0 (uses_at (take i us)) (use_at u ∷ []))
    ∙ ap (greatest level) (sym (map-append use_at (take i us) (u ∷ [])))
    ∙ ap (λ vs. greatest level (uses_at vs)) (sym (take_more us i u lt ∙ ap (λ v. take i us ++ v ∷ []) (sym is)))

module _ (l : List ℕ → ℕ) where
  here_capped : (u : Use) → level_used (λ n. capped (l n)) u ≡ capped (level_used l u)
  here_capped u = by_test (is_some u.arguments)
    where
      by_test : (b : Bool) → (if b then capped (l u.name) else 0) ≡ capped (if b then l u.name else 0)
      by_test true = refl
      by_test false = refl

  max_capped : (a b : ℕ) → max (capped a) (capped b) ≡ capped (max a b)
  max_capped a b = omega arith

  from_capped : (k : ℕ) (us : List Use) → fold (λ j u. max j (level_used (λ n. capped (l n)) u)) (capped k) us ≡ capped (fold (λ j u. max j (level_used l u)) k us)
  from_capped k [] = refl
  from_capped k (u ∷ us) =
      ap (λ j. fold (λ i v. max i (level_used (λ n. capped (l n)) v)) j us) (ap (λ x. max (capped k) x) (here_capped u) ∙ max_capped k (level_used l u))
      ∙ from_capped (max k (level_used l u)) us

  pub greatest_capped : (us : List Use) → greatest (λ n. capped (l n)) us ≡ capped (greatest l us)
  greatest_capped us = from_capped 0 us

-- ---- limits

pub below_capped : (k n : ℕ) → k < 4294967295 → nat_lt k (capped n) ≡ nat_lt k n
below_capped k n lt = by_tests (nat_lt k (capped n)) (nat_lt k n) refl refl
  where
    by_tests : (a b : Bool) → nat_lt k (capped n) ≡ a → nat_lt k n ≡ b → a ≡ b
    by_tests true true s t = refl
    by_tests false false s t = refl
    by_tests true false s t = absurd (omega (arith, ltb-true k (capped n) s, ltb-false k n t))
    by_tests false true s t = absurd (omega (arith, ltb-false k (capped n) s, ltb-true k n t))
