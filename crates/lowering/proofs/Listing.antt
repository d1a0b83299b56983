-- The codes of an output list's items, one after the other.
use Rattle.std.proofs.Common.{◌≡◌, List, [], ◌∷◌, ◌++◌, append_assoc, append-nil, sym, subst}
use Rattle.meaning.specs.declared.syntax.Tree.{Tree}
use Rattle.meaning.specs.Syntax.{ListItemTree, ListItemsTree, no_items, more_items}
use Rattle.program.specs.declared.action.ListCode.{ListCode}
use Rattle.program.specs.declared.action.ListCodes.{ListCodes}
use Rattle.program.specs.declared.action.ListCodes.TheVariants.{Empty, More'}
use Rattle.program.specs.Items.{AreItems, IsItem}
use Rattle.lowering.specs.Lists.{AreEach, codes_in}

module _ (t : Tree) where
  -- with the codes of the items that are left behind them, these are the codes of all
  abbrev pub AreLeading : ListItemsTree → ListItemsTree → List ListCode → Type 0
  AreLeading xs left codes =
      (cs : List ListCode) → AreEach t left cs → AreEach t xs (codes ++ cs)

  pub none_leads : (xs : ListItemsTree) (codes : List ListCode) → codes ≡ [] → AreLeading xs xs codes
  none_leads xs codes none cs each =
      subst (λ l. AreEach t xs (l ++ cs)) (sym none) each

  -- the code of one item more
  pub one_more : (xs left others : ListItemsTree) (x : ListItemTree) (codes longer : List ListCode) (c : ListCode) → left ≡ more_items x others → longer ≡ codes ++ c ∷ [] → IsItem t x c → AreLeading xs left codes → AreLeading xs others longer
  one_more xs left others x codes longer c is grown item leading cs each =
      subst (λ l. AreEach t xs (l ++ cs)) (sym grown) (subst (AreEach t xs) (sym (append_assoc codes (c ∷ []) cs)) (leading (c ∷ cs) (subst (λ r. AreEach t r (c ∷ cs)) (sym is) (item, each))))

  pub all_lead : (xs left : ListItemsTree) (codes : List ListCode) → left ≡ no_items → AreLeading xs left codes → AreEach t xs codes
  all_lead xs left codes is leading =
      subst (AreEach t xs) (append-nil codes) (leading [] (subst (λ r. AreEach t r []) (sym is) tt))

  -- a list with the codes of these items
  pub each_in : (xs : ListItemsTree) (list : ListCodes) → AreEach t xs (codes_in list) → AreItems t xs list
  each_in no_items Empty each = tt
  each_in no_items (More' c p cs) each = absurd each
  each_in (more_items x xs) Empty each = absurd each
  each_in (more_items x xs) (More' c p cs) each = (each.0, each_in xs cs each.1)
