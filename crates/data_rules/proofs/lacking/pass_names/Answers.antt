use Rattle.std.proofs.Common.{ℕ, List, [], ◌∷◌, ◌++◌, map, filter, sym, ap, ◌∙◌}
use Rattle.meaning.specs.NumberRules.{lacks_bound, sizeless_in}
use Rattle.meaning.specs.Scopes.{declarators_in}
use Rattle.meaning.specs.Syntax.{DeclaratorTree, declarator_tree, shape_tree}
use Rattle.meaning.specs.Trees.{item_tree}
use Rattle.meaning.specs.Values.{Known}
use Rattle.symbols.specs.SymbolsAt.{symbols_at}
use Rattle.declarations.specs.Tables.{known_at}
use Rattle.data_rules.proofs.Sizeless.{sizeless_push}
use Rattle.data_rules.proofs.lacking.pass_names.Goals as goal

pub returns-clause-known : goal.returns-clause-known
returns-clause-known c = λ before known.
    let t = c.args.table.now in
    let r = symbols_at t.symbols.now in
    let x = item_tree c.args.item.now in
    let at : Known → List DeclaratorTree → List (List ℕ) = λ k ds. map (λ d. d.name) (filter (lacks_bound r.names.types k) ds) in (
      c.in_ok-pass_constants.ensures.behind before known.0,
      c.in_ok-add_sizeless.ensures
          ∙ ap (λ ns. ns ++ at (known_at t) (map declarator_tree c.declarators_in.result.now)) known.1
          ∙ ap (λ ds. sizeless_in r [] before ++ at (known_at t) ds) (c.declarators_in.ensures ∙ ap (λ s. declarators_in (shape_tree s)) c.deref.ensures)
          ∙ ap (λ k. sizeless_in r [] before ++ at k (declarators_in x.shape)) known.0
          ∙ sym (sizeless_push r before x)
          ∙ ap (λ q. sizeless_in (symbols_at q.now) [] (before ++ x ∷ [])) (sym c.in_ok-pass_constants.ensures.symbols),
    )
