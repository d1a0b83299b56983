use Rattle.std.proofs.Common.{◌<◌, ◌≤◌, [], ◌∷◌, ◌++◌, map, take, sym, ap, subst, ◌∙◌, arith}
use Rattle.std.proofs.lemmas.List.{length-map}
use Rattle.symbols.specs.SymbolsAt.{symbols_at}
use Rattle.data_rules.specs.DataPassed.{IsPassed, IsSettled}
use Rattle.rule_passes.specs.InOrder.{line_at}
use Rattle.rule_passes.specs.Listed.{tree_at}
use Rattle.data_rules.specs.Lacking.{AreKnown, names_kept}
use Rattle.data_rules.proofs.DataPassing.{line_is, none_passed}
use Rattle.data_rules.proofs.Sizeless.{sizeless_none}
use Rattle.rule_passes.proofs.Passes.{trees_more}
use Rattle.data_rules.proofs.starting.given_by_data.Goals as goal

pub pass_data-requires-clause-arrays : goal.pass_data-requires-clause-arrays
pass_data-requires-clause-arrays c =
    λ n. c.requires.arrays n ∙ ap (λ q. (symbols_at q).names.arrays n) (sym c.loop-item.invariant.symbols)

pub pass_data-requires-clause-settled : goal.pass_data-requires-clause-settled
pass_data-requires-clause-settled c =
    let items = c.args.items.now in
    let i = c.loop-item.item-index in
    subst (λ n. IsSettled n c.loop-item.passed) (line_is items i c.item-item.result c.loop-item-test.true c.item-item.is)
    (c.loop-item.invariant.settled i (omega arith) c.loop-item-test.true)

pub loop-item-init : goal.loop-item-init
loop-item-init c = record {
  symbols = c.table_of-table.ensures.symbols;
  known = (
    c.table_of-table.ensures.behind,
    ap names_kept c.new-sizeless.ensures.items ∙ sizeless_none (symbols_at c.table_of-table.result.symbols.now),
  );
  settled = λ j from lt none. absurd cc;
  passed = none_passed (symbols_at c.args.symbols.now) c.args.others c.new.result c.new.ensures;
}

pub loop-item-preserved : goal.loop-item-preserved
loop-item-preserved c =
    let before = c.loop-item.invariant in
    let items = c.args.items.now in
    let i = c.loop-item.item-index in
    let front = map tree_at (take i items) in
    let more = sym (trees_more items i c.item-item.result c.loop-item-test.true c.item-item.is) in
    let p = c.in_ok-passed.passed in
    record {
      symbols = ap (λ r. r.now) c.in_ok-pass_names.ensures.symbols ∙ before.symbols;
      known =
          subst (AreKnown c.pass_names.new.table (names_kept c.pass_names.new.sizeless.items)) more
          (c.in_ok-pass_names.ensures.known front before.known);
      settled = λ j from lt.
          let le = c.requires.ordered i j (omega (arith, from)) (subst (λ n. j < n) (sym (length-map items tree_at)) lt) in
          c.in_ok-passed.ensures.settled (line_at (map tree_at items) j)
          (subst (λ n. n ≤ line_at (map tree_at items) j) (line_is items i c.item-item.result c.loop-item-test.true c.item-item.is) le);
      passed =
          subst (λ xs. IsPassed (symbols_at c.args.symbols.now) c.args.others xs p) more
          (subst (λ q. IsPassed (symbols_at q) c.args.others (front ++ tree_at c.item-item.result ∷ []) p) before.symbols
          (c.in_ok-passed.ensures.passed c.args.others front before.known.0 (ap names_kept c.deref.ensures.value ∙ before.known.1)
          (subst (λ q. IsPassed (symbols_at q) c.args.others front c.loop-item.passed) (sym before.symbols) before.passed)));
    }
