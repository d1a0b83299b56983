use Rattle.std.proofs.Common.{◌≡◌, ◌+◌, ◌∷◌, Option, Some, None, ap, arith, drop, length, refl, sym, subst, ◌∙◌}
use Rattle.std.specs.Prelude.{option_map}
use Rattle.std.proofs.lemmas.List.{drop_all, drop_more}
use Rattle.meaning.specs.Syntax.{shape_tree}
use Rattle.symbols.specs.Listed.{tree_at, trees_at}
use Rattle.lowering.specs.Functions.{AreFirst, name_shown}
use Rattle.lowering.proofs.Places.{AreAwaited, Steps, all_awaited, none_awaited, one_awaited}
use Rattle.lowering.proofs.functions.add_functions.Goals.{in-Some+in_ok-add_function-in-Some, in-None}
use Rattle.lowering.proofs.functions.add_functions.Goals as goal

pub loop-item-init : goal.loop-item-init
loop-item-init c =
    record {
      first = subst (λ xs. AreFirst c.args.program.now xs) (sym c.requires.none) (λ at d lt. absurd (omega (arith, lt)));
      left = subst (λ xs. AreAwaited c.args.program.now (length xs) (trees_at c.args.items.now)) (sym c.requires.none) (all_awaited c.args.program.now (trees_at c.args.items.now) c.requires.all);
    }

pub loop-item-preserved : goal.loop-item-preserved
loop-item-preserved c =
    let t = c.args.program.now in
    let ms = c.args.items.now in
    let i = c.loop-item.item-index in
    let m = c.item-item.result in
    let before = length c.loop-item.codes.items in
    let is = ap trees_at (drop_more ms i m c.loop-item-test.true) ∙ ap (λ x. trees_at (x ∷ drop (i + 1) ms)) (sym c.item-item.is) in
    let awaited = subst (AreAwaited t before) is c.loop-item.invariant.left in
    let shown = c.name_in.ensures ∙ ap (λ s. name_shown (shape_tree s)) c.deref.ensures in
    let rest = trees_at (drop (i + 1) ms) in
    elim c.match-name_in.branch [
      | in-Some+in_ok-add_function-in-Some w ↦
          let after = length w.add_function.new.codes.items in
          let named = ap (option_map (λ n. n.now)) (sym w.in-Some.is) ∙ shown in
          let steps = subst (λ o. Steps t o before after) named w.in_ok-add_function-in-Some.ensures.own in
          record {
            first = subst (λ v. AreFirst t v.items) (sym w.codes-is) w.in_ok-add_function-in-Some.ensures.first;
            left = subst (λ v. AreAwaited t (length v.items) rest) (sym w.codes-is) (one_awaited t (tree_at m) rest before after awaited steps);
          }
      | in-None w ↦
          let named = ap (option_map (λ n. n.now)) (sym w.in-None.is) ∙ shown in
          let steps = subst (λ o. Steps t o before before) named refl in
          record {
            first = subst (λ v. AreFirst t v.items) (sym w.codes-is) c.loop-item.invariant.first;
            left = subst (λ v. AreAwaited t (length v.items) rest) (sym w.codes-is) (one_awaited t (tree_at m) rest before before awaited steps);
          }
    ]

pub returns-clause-all : goal.returns-clause-all
returns-clause-all c =
    let ms = c.args.items.now in
    let i = c.loop-item.item-index in
    none_awaited c.args.program.now (length c.loop-item.codes.items) (trees_at (drop i ms)) (ap trees_at (drop_all i ms (omega (arith, c.loop-item-test.false)))) c.loop-item.invariant.left
