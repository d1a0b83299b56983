-- IMPLICIT statements that were passed (ANSI X3.9-1978, 8.5).
use Rattle.std.specs.Prelude.{◌≡◌, Bool, List}
use Rattle.std.specs.List.{list_any}
use Rattle.meaning.specs.NameRules.{is_implicit}
use Rattle.meaning.specs.Syntax.{ItemTree}
use Rattle.meaning.specs.Types.{has_implicit_none}

-- whether one of either kind is among them, and whether IMPLICIT NONE is
pub record KnowsImplicit (any none : Bool) (before : List ItemTree) : Type 0 where
  pub any_is : any ≡ list_any (λ (y : ItemTree). is_implicit y.shape) before
  pub none_is : none ≡ has_implicit_none before
