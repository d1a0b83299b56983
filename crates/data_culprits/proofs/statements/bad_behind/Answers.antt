use Rattle.std.proofs.Common.{◌≡◌, ℕ, List, [], ◌∷◌, ◌++◌, take, Option, sym, ap, subst, ◌∙◌}
use Rattle.std.specs.Result.{IfOk}
use Rattle.std.proofs.lemmas.List.{take_all}
use Rattle.meaning.specs.Initial.{sets_by, sets_of}
use Rattle.meaning.specs.NumberRules.{known_behind_all, sizeless_in}
use Rattle.meaning.specs.Trees.{item_tree}
use Rattle.meaning.specs.Values.{Known}
use Rattle.symbols.specs.declared.names.Symbols.{Symbols as Kept}
use Rattle.symbols.specs.Listed.{tree_at, trees_at}
use Rattle.symbols.specs.SymbolsAt.{symbols_at}
use Rattle.symbols.proofs.Passes.{map_more}
use Rattle.declarations.specs.Tables.{known_at}
use Rattle.data_rules.specs.DataSets.{IsFilledBy, stage_by}
use Rattle.data_rules.specs.DataStages.{Stage}
use Rattle.data_rules.specs.Lacking.{AreKnown, names_kept}
use Rattle.data_rules.proofs.DataStarting.{filled_none}
use Rattle.data_rules.proofs.Sizeless.{sizeless_none}
use Rattle.data_culprits.specs.Outcomes.{told_in}
use Rattle.data_culprits.specs.Sets.{bad_in, to_sets}
use Rattle.data_culprits.specs.Told.{Told, tell}
use Rattle.data_culprits.proofs.Telling.{behind_filled}
use Rattle.data_culprits.proofs.statements.bad_behind.Goals as goal

pub pass_one_more-requires : goal.pass_one_more-requires
pass_one_more-requires c =
    λ n. c.requires n ∙ ap (λ q. (symbols_at q).names.arrays n) (sym c.loop-earlier.invariant.symbols)

pub loop-earlier-init : goal.loop-earlier-init
loop-earlier-init c =
    let r = symbols_at c.args.symbols.now in
    record {
      symbols = c.table_of-table.ensures.symbols;
      known = (
        c.table_of-table.ensures.behind,
        ap names_kept c.new-sizeless.ensures.items ∙ sizeless_none (symbols_at c.table_of-table.result.symbols.now),
      );
      filled = subst (IsFilledBy r []) (sym c.new-filling.ensures) (filled_none r);
    }

pub loop-earlier-preserved : goal.loop-earlier-preserved
loop-earlier-preserved c =
    let before = c.loop-earlier.invariant in
    let items = c.args.before.now in
    let i = c.loop-earlier.earlier-index in
    let r = symbols_at c.args.symbols.now in
    let front = trees_at (take i items) in
    let more = sym (map_more tree_at items i c.earlier-item.result c.loop-earlier-test.true c.earlier-item.is) in
    let x = item_tree c.earlier-item.result.now in
    let made = c.in_ok-one_more.one_more in
    let one =
    c.in_ok-one_more.ensures front before.known.0 (ap names_kept c.deref.ensures.value ∙ before.known.1)
    (subst (λ p. IsFilledBy (symbols_at p) front (stage_by c.loop-earlier.filling)) (sym before.symbols) before.filled)
    in
    record {
      symbols = ap (λ p. p.now) c.in_ok-pass_names.ensures.symbols ∙ before.symbols;
      known =
          subst (AreKnown c.pass_names.new.table (names_kept c.pass_names.new.sizeless.items)) more
          (c.in_ok-pass_names.ensures.known front before.known);
      filled =
          subst (λ xs. IsFilledBy r xs (stage_by made.filling)) more
          (subst (λ p. IsFilledBy (symbols_at p) (front ++ x ∷ []) (stage_by made.filling)) before.symbols one.filled);
    }

pub bad_statement-requires : goal.bad_statement-requires
bad_statement-requires c =
    λ n. c.requires n ∙ ap (λ q. (symbols_at q).names.arrays n) (sym c.loop-earlier.invariant.symbols)

pub returns : goal.returns
returns c =
    let last = c.loop-earlier.invariant in
    let items = c.args.before.now in
    let i = c.loop-earlier.earlier-index in
    let r = symbols_at c.args.symbols.now in
    let front = trees_at (take i items) in
    let x = item_tree c.args.item.now in
    let t = c.loop-earlier.table in
    let s = stage_by c.loop-earlier.filling in
    let told : Kept → Known → List (List ℕ) → Stage → Option Told = λ p k n u. told_in (to_sets (symbols_at p) k (sets_by (symbols_at p) k n (sets_of x.shape)) u) in
    subst (λ o. IfOk c.bad_statement.result (λ d. tell d ≡ o))
    (ap (λ n. told t.symbols.now (known_at t) n s) (ap names_kept c.deref-2.ensures.value ∙ last.known.1)
    ∙ ap (λ k. told t.symbols.now k (sizeless_in (symbols_at t.symbols.now) [] front) s) last.known.0
    ∙ ap (λ p. told p (known_behind_all (symbols_at p) front) (sizeless_in (symbols_at p) [] front) s) last.symbols
    ∙ ap (told c.args.symbols.now (known_behind_all r front) (sizeless_in r [] front)) (behind_filled r front s last.filled)
    ∙ ap (λ xs. bad_in r (trees_at xs) x) (take_all i items c.loop-earlier-test.false))
    c.bad_statement.ensures
