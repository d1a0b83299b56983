use Rattle.std.proofs.Common.{length, refl, sym, ap, subst, ◌∙◌}
use Rattle.std.proofs.lemmas.List.{length-map}
use Rattle.meaning.specs.Scopes.{arrays_of, definitions_of}
use Rattle.symbols.specs.Listed.{trees_at}
use Rattle.meaning.specs.Trees.{flat, members_tree}
use Rattle.label_targets.specs.Landmarked.{AreLabelTargets}
use Rattle.symbols.specs.Functions.{definition_at}
use Rattle.storage.specs.Checked.{items_in, tree_of}
use Rattle.meaning.specs.Uses.{symbols_of}
use Rattle.rule_laws.proofs.Data.{starts_are_named as names_given}
use Rattle.rule_laws.proofs.Heads.{heads_execute}
use Rattle.rule_laws.proofs.Unbroken.{all_lawful}
use Rattle.rule_laws.specs.Read.{HeadsExecute}
use Rattle.checker.proofs.Room.{has_room}
use Rattle.appearances.specs.FunctionsFound.{AreFound}
use Rattle.checker.proofs.Agreeing.{numbered}
use Rattle.checker.proofs.Building.{naming}
use Rattle.checker.proofs.rules.kept_in.Goals as goal

pub names_of-requires : goal.names_of-requires
names_of-requires c =
    let judged = c.requires.judged in
    has_room c.args.tree.now c.args.facts.now c.args.symbols.now c.requires.listed judged.arrays judged.accepted c.requires.spelled.source c.requires.spelled.spells

pub functions_in-requires : goal.functions_in-requires
functions_in-requires c =
    let t = c.args.tree.now in
    let heads = heads_execute (arrays_of (items_in t)) c.requires.spelled.source (tree_of t) c.requires.spelled.spells in
    subst (λ ms. HeadsExecute (arrays_of (trees_at c.args.symbols.now.items.now)) (members_tree ms)) (sym c.deref-2.ensures.value) (subst (λ xs. HeadsExecute (arrays_of xs) (members_tree t.body.items)) (sym c.requires.listed) heads)

pub returns-in-Ok : goal.returns-in-Ok
returns-in-Ok c =
    let t = c.args.tree.now in
    let r = c.args.symbols.now in
    let judged = c.requires.judged in
    let items = c.requires.listed in
    let functions = c.in-Ok.functions in
    let names = naming t c.args.facts.now r c.in_ok-names.names items judged.constants judged.arrays judged.starts (names_given (items_in t) (all_lawful (tree_of t) judged.accepted)) c.in_ok-names.ensures in
    let found = subst (λ ms. AreFound (definitions_of (arrays_of (items_in t)) (flat (members_tree ms))) ms functions) c.deref-2.ensures.value (subst (λ xs. AreFound (definitions_of (arrays_of xs) (flat (members_tree c.deref-2.result.now))) c.deref-2.result.now functions) items c.in-Ok.ensures) in
    let marked = subst (λ ms. AreLabelTargets (members_tree ms) c.in_ok-label_targets.label_targets) c.deref.ensures.value c.in_ok-label_targets.ensures in
    let counted = c.len.ensures ∙ r.functions.ok.0 ∙ sym (length-map r.functions.items definition_at) ∙ ap length r.listed ∙ ap (λ xs. length (definitions_of (arrays_of xs) xs)) items in
    numbered t c.args.facts.now.formats _ judged.accepted names found counted refl judged.formats marked
