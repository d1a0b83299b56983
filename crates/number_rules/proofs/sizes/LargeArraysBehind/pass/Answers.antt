use Rattle.meaning.specs.Syntax.{shape_tree}
use Rattle.std.proofs.Common.{◌+◌, ◌++◌, ◌∷◌, [], sum_by, sym, ap, ◌∙◌}
use Rattle.meaning.specs.NumberRules.{elements_in, elements_of, has_large_array}
use Rattle.meaning.specs.Scopes.{declarators_in}
use Rattle.meaning.specs.Trees.{item_tree}
use Rattle.symbols.specs.SymbolsAt.{symbols_at}
use Rattle.expressions.specs.Places.{capped}
use Rattle.declarations.specs.Tables.{known_at, types_in}
use Rattle.rule_passes.proofs.Answering.{on_ok_then}
use Rattle.rule_passes.proofs.Both.{both_ok}
use Rattle.number_rules.proofs.Sizing.{elements_push}
use Rattle.number_rules.proofs.sizes.LargeArraysBehind.pass.Goals as goal

pub returns-clause-same : goal.returns-clause-same
returns-clause-same c =
    on_ok_then _ _ c.pass_constants.result c.pass_constants.ensures.symbols (λ same. ap (λ r. λ before x. has_large_array (symbols_at r.now) before x) same)

pub returns-clause-knows : goal.returns-clause-knows
returns-clause-knows c =
    let table = c.args.self.now.table in
    let r = symbols_at table.symbols.now in
    let types = types_in table in
    let x = item_tree c.args.item.now in
    both_ok c.pass_constants.result c.pass_constants.ensures.symbols c.pass_constants.ensures.behind (λ same behind before known. record {
      table = behind before known.table;
      elements =
          c.with_elements-self.ensures (elements_in r [] before) known.elements
          ∙ ap (λ ds. capped (elements_in r [] before + sum_by (elements_of types (known_at table)) ds)) c.declarators_in-declarators.ensures
          ∙ ap (λ s. capped (elements_in r [] before + sum_by (elements_of types (known_at table)) (declarators_in (shape_tree s)))) c.deref.ensures
          ∙ ap (λ k. capped (elements_in r [] before + sum_by (elements_of types k) (declarators_in x.shape))) known.table
          ∙ ap capped (sym (elements_push r before x))
          ∙ ap (λ q. capped (elements_in (symbols_at q.now) [] (before ++ x ∷ []))) (sym same);
    })
