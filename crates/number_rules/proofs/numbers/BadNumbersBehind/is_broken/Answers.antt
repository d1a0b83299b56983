use Rattle.std.proofs.Common.{◌||◌, sym, ap, ap₂, ◌∙◌}
use Rattle.meaning.specs.NumberRules.{has_bad_bound, has_too_great, is_bad_constant, known_behind_all}
use Rattle.meaning.specs.Scopes.{constants_in, declarators_in}
use Rattle.meaning.specs.Syntax.{shape_tree}
use Rattle.symbols.specs.SymbolsAt.{symbols_at}
use Rattle.declarations.specs.Tables.{known_at}
use Rattle.number_rules.proofs.numbers.BadNumbersBehind.is_broken.Goals as goal

pub returns-then-has_too_great : goal.returns-then-has_too_great
returns-then-has_too_great c = λ before known.
    let table = c.args.self.now.table in
    let r = symbols_at table.symbols.now in
    let s = shape_tree c.deref-shape.result.now in
    let k = known_behind_all r before in
    c.if-has_too_great.true
    ∙ ap (λ b. b || (is_bad_constant r.names.types k (constants_in s) || has_bad_bound r.names.types k (declarators_in s))) (sym c.if-has_too_great.true ∙ c.has_too_great.ensures r)
    ∙ ap (λ s. has_too_great r (shape_tree s) || (is_bad_constant r.names.types k (constants_in (shape_tree s)) || has_bad_bound r.names.types k (declarators_in (shape_tree s)))) c.deref-shape.ensures

pub returns-else-is_bad : goal.returns-else-is_bad
returns-else-is_bad c = λ before known.
    let table = c.args.self.now.table in
    let r = symbols_at table.symbols.now in
    let s = shape_tree c.deref-shape.result.now in
    let k = known_behind_all r before in
    let bounds = has_bad_bound r.names.types (known_at table) (declarators_in s) in
    c.has_bad_bound.ensures ∙ ap (has_bad_bound r.names.types (known_at table)) c.declarators_in.ensures
    ∙ ap₂ (λ a b. a || (b || bounds)) (sym c.if-has_too_great.false ∙ c.has_too_great.ensures r) (sym c.if-is_bad.false ∙ c.in_ok-is_bad.ensures)
    ∙ ap (λ k. has_too_great r s || (is_bad_constant r.names.types k (constants_in s) || has_bad_bound r.names.types k (declarators_in s))) known
    ∙ ap (λ s. has_too_great r (shape_tree s) || (is_bad_constant r.names.types k (constants_in (shape_tree s)) || has_bad_bound r.names.types k (declarators_in (shape_tree s)))) c.deref-shape.ensures
