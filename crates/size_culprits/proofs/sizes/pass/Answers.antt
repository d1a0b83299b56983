use Rattle.std.proofs.Common.{◌+◌, ◌++◌, ◌∷◌, [], sum_by, sym, ap, ◌∙◌}
use Rattle.meaning.specs.NumberRules.{elements_in, elements_of}
use Rattle.meaning.specs.Scopes.{declarators_in}
use Rattle.meaning.specs.Syntax.{shape_tree}
use Rattle.meaning.specs.Trees.{item_tree}
use Rattle.symbols.specs.SymbolsAt.{symbols_at}
use Rattle.expressions.specs.Places.{capped}
use Rattle.declarations.specs.Tables.{known_at, types_in}
use Rattle.rule_passes.proofs.Both.{both_ok}
use Rattle.number_rules.proofs.Sizing.{elements_push}
use Rattle.size_culprits.proofs.sizes.pass.Goals as goal

pub returns-clause-behind : goal.returns-clause-behind
returns-clause-behind c =
    let table = c.args.passed.now.table in
    let r = symbols_at table.symbols.now in
    let types = types_in table in
    let x = item_tree c.args.item.now in
    both_ok c.pass_constants.result c.pass_constants.ensures.symbols c.pass_constants.ensures.behind (λ same behind before known. record {
      table = behind before known.table;
      elements =
          c.with_elements-passed.ensures (elements_in r [] before) known.elements
          ∙ ap (λ ds. capped (elements_in r [] before + sum_by (elements_of types (known_at table)) ds)) c.declarators_in-declarators.ensures
          ∙ ap (λ s. capped (elements_in r [] before + sum_by (elements_of types (known_at table)) (declarators_in (shape_tree s)))) c.deref.ensures
          ∙ ap (λ k. capped (elements_in r [] before + sum_by (elements_of types k) (declarators_in x.shape))) known.table
          ∙ ap capped (sym (elements_push r before x))
          ∙ ap (λ q. capped (elements_in (symbols_at q.now) [] (before ++ x ∷ []))) (sym same);
    })
