-- What is told where a rule is broken, and behind the last statement.
use Rattle.std.proofs.Common.{◌≡◌, List, [], ◌∷◌, ◌++◌, Option, Some, None, Result, Ok, refl, sym, ap, ap₂, subst, ◌∙◌}
use Rattle.meaning.specs.declared.refusal.Broken.{Broken}
use Rattle.meaning.specs.declared.refusal.Rule.{Rule}
use Rattle.meaning.specs.declared.refusal.Refusal.{Refusal}
use Rattle.meaning.specs.declared.syntax.Tree.{Tree}
use Rattle.meaning.specs.Refusals.{merge, unless}
use Rattle.meaning.specs.Reports.{Gives}
use Rattle.meaning.specs.Syntax.{ItemTree}
use Rattle.meaning.specs.Trees.{Members, Nested, nested}
use Rattle.meaning.specs.Nesting.{Unfinished, start, innermost, breaks, behind, past, first_broken, told_first, missing_end, nest}

same_refusal : (missing : Option Broken) (b : Broken) (t u : Nested) → unless (merge missing (Some b)) t ≡ unless (merge missing (Some b)) u
same_refusal None b t u = refl
same_refusal (Some a) b t u = refl

-- the rule at the first statement that breaks one
pub first_is : (before : List ItemTree) (z : Unfinished) (x : ItemTree) (xs : List ItemTree) (rule : Rule) (total : Option Broken)
    → first_broken before z (x ∷ xs) ≡ total → Some rule ≡ breaks before z x → Some (record { line = x.line; rule = rule }) ≡ total
first_is before z x xs rule total tells broken =
    ap (λ o. told_first x o (first_broken (before ++ x ∷ []) (past z x) xs)) broken ∙ tells

-- what was read tells what the definition does
module _ (all : List ItemTree) (missing first : Option Broken) (z : Unfinished) (lacks : missing ≡ missing_end all) (is : first ≡ first_broken [] start all) (reads : first ≡ None → z ≡ behind start all) where
  abbrev end : Nested
  end = record { body = innermost (behind start all) }

  same_front : (o : Option Broken) → (o ≡ None → z ≡ behind start all) → unless (merge missing o) (record { body = innermost z }) ≡ unless (merge missing o) end
  same_front None h = ap (λ y. unless (merge missing None) (record { body = innermost y })) (h refl)
  same_front (Some b) h = same_refusal missing b (record { body = innermost z }) end

  same_nest : unless (merge missing first) (record { body = innermost z }) ≡ nest all
  unfolding nest
  same_nest = same_front first reads ∙ ap₂ (λ o p. unless (merge o p) end) lacks is

  pub tells : (r : Result Tree Refusal) → Gives nested r (unless (merge missing first) (record { body = innermost z })) → Gives nested r (nest all)
  tells r given = subst (λ (n : Result Nested Broken). Gives nested r n) same_nest given

  -- where neither is told, the statements make a program unit
  pub nests : (body : Members) → body ≡ innermost z → None ≡ merge missing first → nest all ≡ Ok (record { body = body })
  nests body is_read neither =
      sym same_nest ∙ ap (λ o. unless o (record { body = innermost z })) (sym neither) ∙ ap (λ b. Ok (record { body = b })) (sym is_read)
