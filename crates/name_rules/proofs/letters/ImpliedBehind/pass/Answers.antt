use Rattle.meaning.specs.Types.{implied_in}
use Rattle.std.proofs.Common.{◌≡◌, ℕ, ◌||◌, List, [], ◌∷◌, ◌++◌, map, sym, ap, ◌∙◌}
use Rattle.std.specs.Prelude.{flat_map}
use Rattle.std.specs.List.{list_any}
use Rattle.std.specs.Ordering.{nat_cmp}
use Rattle.std.specs.BTreeSet.{contains}
use Rattle.std.proofs.lemmas.List.Folds.{list_any-append}
use Rattle.meaning.specs.NameRules.{letters_in}
use Rattle.meaning.specs.Syntax.{ItemTree, shape_tree}
use Rattle.meaning.specs.Trees.{item_tree}
use Rattle.meaning.specs.Types.{is_among}
use Rattle.symbols.proofs.Passes.{flat_map_last}
use Rattle.name_rules.specs.Lettered.{letters_of, letters_at}
use Rattle.rule_passes.proofs.Answering.{on_ok_then}
use Rattle.name_rules.proofs.letters.ImpliedBehind.pass.Goals as goal

pub returns-clause-knows : goal.returns-clause-knows
returns-clause-knows c =
    let x = item_tree c.args.item.now in
    let old = c.args.self.now.taken in
    let new = c.take_all.new.taken in
    on_ok_then
    ((k : ℕ) → contains nat_cmp new k ≡ (contains nat_cmp old k || list_any (is_among k) (map letters_at c.deref-2.result.now)))
    ((before : List ItemTree) → ((k : ℕ) → contains nat_cmp old k ≡ list_any (is_among k) (flat_map letters_in before)) → (k : ℕ) → contains nat_cmp new k ≡ list_any (is_among k) (flat_map letters_in (before ++ x ∷ [])))
    c.take_all.result c.take_all.ensures
    (λ taken before known k.
    taken k ∙ ap (λ b. b || list_any (is_among k) (map letters_at c.deref-2.result.now)) (known k)
    ∙ ap (λ ls. list_any (is_among k) (flat_map letters_in before) || list_any (is_among k) ls) (ap (map letters_at) c.deref-2.ensures.value ∙ c.in_ok-letters.ensures ∙ ap (λ s. letters_of (implied_in (shape_tree s))) c.deref.ensures)
    ∙ sym (list_any-append (is_among k) (flat_map letters_in before) (letters_in x))
    ∙ ap (list_any (is_among k)) (sym (flat_map_last letters_in before x)))
