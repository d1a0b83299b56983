use Rattle.std.proofs.Common.{◌≡◌, ◌+◌, ◌++◌, refl, sym, ap, subst, ◌∙◌, arith, take, drop, Some, None}
use Rattle.std.specs.Prelude.{if◌then◌else◌}
use Rattle.std.specs.List.{find}
use Rattle.std.proofs.lemmas.List.{drop_all}
use Rattle.meaning.specs.Characters.{number_of}
use Rattle.meaning.specs.LabelRules.{has_label, not_executable}
use Rattle.symbols.specs.Listed.{tree_at, trees_at}
use Rattle.symbols.specs.SymbolsAt.{symbols_at}
use Rattle.symbols.specs.Stages.{IsBehind}
use Rattle.symbols.proofs.Passes.{map_more}
use Rattle.list_culprits.proofs.Stepping.{closed_first, closed_last}
use Rattle.list_culprits.proofs.transfers.first_closed.Goals as goal

pub loop-item-init : goal.loop-item-init
loop-item-init c = record {
  stage = c.new-stage.ensures c.args.symbols.now;
  so_far = refl;
}

pub returns-then-closes : goal.returns-then-closes
returns-then-closes c =
    let r = symbols_at c.args.symbols.now in
    let i = c.loop-item.item-index in
    let ms = c.args.items.now in
    let front = trees_at (take i ms) in
    let rest = find (has_label (number_of c.args.label.now)) (not_executable r (trees_at (take (i + 1) ms)) (trees_at (drop (i + 1) ms))) in
    let first = closed_first r (number_of c.args.label.now) ms i c.item-item.result c.closes.result c.loop-item-test.true c.item-item.is (c.closes.ensures front c.loop-item.invariant.stage) in
    sym (ap (λ b. if b then Some (tree_at c.item-item.result) else rest) c.if-closes.true) ∙ sym first ∙ c.loop-item.invariant.so_far

pub loop-item-preserved : goal.loop-item-preserved
loop-item-preserved c =
    let r = symbols_at c.args.symbols.now in
    let i = c.loop-item.item-index in
    let ms = c.args.items.now in
    let front = trees_at (take i ms) in
    let rest = find (has_label (number_of c.args.label.now)) (not_executable r (trees_at (take (i + 1) ms)) (trees_at (drop (i + 1) ms))) in
    let first = closed_first r (number_of c.args.label.now) ms i c.item-item.result c.closes.result c.loop-item-test.true c.item-item.is (c.closes.ensures front c.loop-item.invariant.stage) in
    record {
      stage = subst (IsBehind c.args.symbols.now c.pass.new.self) (sym (map_more tree_at ms i c.item-item.result c.loop-item-test.true c.item-item.is)) (c.pass.ensures front c.loop-item.invariant.stage);
      so_far = sym (ap (λ b. if b then Some (tree_at c.item-item.result) else rest) c.if-closes.false) ∙ sym first ∙ c.loop-item.invariant.so_far;
    }

pub returns : goal.returns
returns c =
    sym (closed_last (symbols_at c.args.symbols.now) (number_of c.args.label.now) (trees_at (take c.loop-item.item-index c.args.items.now)) c.args.items.now c.loop-item.item-index (omega arith))
    ∙ c.loop-item.invariant.so_far
