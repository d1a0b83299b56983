use Rattle.meaning.specs.Initial.{sets_by, sets_of}
use Rattle.meaning.specs.Syntax.{shape_tree}
use Rattle.std.proofs.Common.{option_map, sym, ap, ap₂, ◌∙◌}
use Rattle.meaning.specs.Trees.{item_tree}
use Rattle.symbols.specs.SymbolsAt.{symbols_at}
use Rattle.declarations.specs.Tables.{known_at}
use Rattle.data_rules.specs.DataSets.{fill_sets, stage_by}
use Rattle.data_rules.specs.Lacking.{names_kept}
use Rattle.data_rules.proofs.DataPassing.{fitting, not_first_behind, not_first_behind_told, skipped, unfitting}
use Rattle.data_rules.proofs.starting.pass_data.Goals as goal

pub returns-then-not-is_first-clause-passed : goal.returns-then-not-is_first-clause-passed
returns-then-not-is_first-clause-passed c =
    λ others before behind sizeless h. skipped (symbols_at c.args.table.now.symbols.now) others before (item_tree c.args.item.now) c.args.passed h (sym c.is_first.ensures ∙ c.if-not-is_first.true)

pub returns-in-Some-2-clause-passed : goal.returns-in-Some-2-clause-passed
returns-in-Some-2-clause-passed c =
    λ others before behind sizeless h.
    let r = symbols_at c.args.table.now.symbols.now in
    fitting r others before (item_tree c.args.item.now) c.args.passed h c.in-Some.so_far c.in-Some.is c.in-Some-2.more
    (sym (ap (option_map stage_by) c.in-Some-2.is) ∙ c.in_ok-more-in-Some.ensures ∙ ap₂ (λ k xs. fill_sets r k xs (stage_by c.in-Some.so_far)) behind
    (c.counted_sets-sets.ensures ∙ ap (λ s. sets_by r (known_at c.args.table.now) (names_kept c.args.sizeless.now) (sets_of (shape_tree s))) c.deref.ensures
    ∙ ap₂ (λ k n. sets_by r k n (sets_of (item_tree c.args.item.now).shape)) behind sizeless))

pub returns-in-None-2-clause-passed : goal.returns-in-None-2-clause-passed
returns-in-None-2-clause-passed c =
    λ others before behind sizeless h.
    let r = symbols_at c.args.table.now.symbols.now in
    unfitting r others before (item_tree c.args.item.now) c.args.passed h c.in-Some.so_far c.in-Some.is (sym c.is_first.ensures ∙ c.if-not-is_first.false)
    (sym (ap (option_map stage_by) c.in-None-2.is) ∙ c.in_ok-more-in-Some.ensures ∙ ap₂ (λ k xs. fill_sets r k xs (stage_by c.in-Some.so_far)) behind
    (c.counted_sets-sets.ensures ∙ ap (λ s. sets_by r (known_at c.args.table.now) (names_kept c.args.sizeless.now) (sets_of (shape_tree s))) c.deref.ensures
    ∙ ap₂ (λ k n. sets_by r k n (sets_of (item_tree c.args.item.now).shape)) behind sizeless))

pub returns-in-None-clause-passed : goal.returns-in-None-clause-passed
returns-in-None-clause-passed c =
    λ others before behind sizeless h. skipped (symbols_at c.args.table.now.symbols.now) others before (item_tree c.args.item.now) c.args.passed h (c.requires.settled c.in-None.is)

pub returns-in-None-clause-settled : goal.returns-in-None-clause-settled
returns-in-None-clause-settled c =
    λ n le none. not_first_behind c.args.item.now.line n c.args.passed.broken le (c.requires.settled c.in-None.is)

pub returns-then-not-is_first-clause-settled : goal.returns-then-not-is_first-clause-settled
returns-then-not-is_first-clause-settled c =
    λ n le none. not_first_behind c.args.item.now.line n c.args.passed.broken le (sym c.is_first.ensures ∙ c.if-not-is_first.true)

pub returns-in-Some-2-clause-settled : goal.returns-in-Some-2-clause-settled
returns-in-Some-2-clause-settled c = λ n le none. absurd cc

pub returns-in-None-2-clause-settled : goal.returns-in-None-2-clause-settled
returns-in-None-2-clause-settled c = λ n le none. not_first_behind_told c.args.item.now.line n le
