-- What is known of the statements that were read, before each further one.
use Rattle.std.proofs.Common.{◌≡◌, List, [], ◌∷◌, ◌++◌, None, sym, ap, ◌∙◌}
use Rattle.meaning.specs.Syntax.{ItemTree}
use Rattle.meaning.specs.Nesting.{Unfinished, start, behind, past, breaks, first_broken}
use Rattle.nesting.specs.declared.order.Order.{Order}
use Rattle.nesting.specs.Places.{IsOrderOf}
use Rattle.meaning.proofs.FirstBroken.{goes_first}

-- the same is read and told as of all
pub record IsSoFar (all : List ItemTree) (o : Order) (z : Unfinished) (rest : List ItemTree) : Type 0 where
  pub before : List ItemTree
  pub order : IsOrderOf o before
  pub reads : behind z rest ≡ behind start all
  pub tells : first_broken before z rest ≡ first_broken [] start all

pub at_start : (all : List ItemTree) (o : Order) (z : Unfinished) → IsOrderOf o [] → z ≡ start → IsSoFar all o z all
at_start all o z h e = record { before = []; order = h; reads = ap (λ (y : Unfinished). behind y all) e; tells = ap (λ (y : Unfinished). first_broken [] y all) e }

-- one statement more
pub one_on : (all : List ItemTree) (o p : Order) (z y : Unfinished) (x : ItemTree) (rest : List ItemTree) → (s : IsSoFar all o z (x ∷ rest)) → None ≡ breaks s.before z x
    → IsOrderOf p (s.before ++ x ∷ []) → y ≡ past z x → IsSoFar all p y rest
one_on all o p z y x rest s unbroken order e = record {
  before = s.before ++ x ∷ [];
  order = order;
  reads = ap (λ (w : Unfinished). behind w rest) e ∙ s.reads;
  tells = ap (λ (w : Unfinished). first_broken (s.before ++ x ∷ []) w rest) e ∙ sym (goes_first s.before z x rest (sym unbroken)) ∙ s.tells;
}
