-- The codes of an output list's items, one behind the other.
use Rattle.std.specs.Prelude.{List, [], ◌∷◌}
use Rattle.meaning.specs.declared.syntax.Tree.{Tree}
use Rattle.meaning.specs.Syntax.{ListItemsTree, no_items, more_items}
use Rattle.program.specs.declared.action.ListCode.{ListCode}
use Rattle.program.specs.declared.action.ListCodes.{ListCodes}
use Rattle.program.specs.declared.action.ListCodes.TheVariants.{Empty, More'}
use Rattle.program.specs.Items.{IsItem}

-- the codes in a list, first to last
abbrev pub codes_in : ListCodes → List ListCode
codes_in Empty = []
codes_in (More' c p cs) = c ∷ codes_in cs

-- each item has its code, and there is no other one
abbrev pub AreEach : Tree → ListItemsTree → List ListCode → Type 0
AreEach t no_items [] = Unit {0}
AreEach t no_items (c ∷ cs) = ⊥
AreEach t (more_items x xs) [] = ⊥
AreEach t (more_items x xs) (c ∷ cs) = IsItem t x c × AreEach t xs cs
