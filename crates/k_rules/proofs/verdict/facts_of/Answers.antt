use Rattle.std.proofs.Common.{[], map, sym, ap, ◌∙◌}
use Rattle.meaning.specs.Initial.{starts_from}
use Rattle.meaning.specs.Scopes.{arrays_of, known_of}
use Rattle.meaning.specs.Types.{types_of}
use Rattle.meaning.specs.Uses.{symbols_of}
use Rattle.symbols.specs.SymbolsAt.{symbols_at}
use Rattle.data_rules.specs.DataSets.{given_by}
use Rattle.rule_passes.specs.Listed.{tree_at}
use Rattle.data_rules.proofs.DataPassing.{has_filled}
use Rattle.k_rules.proofs.Judging.{allowed, refused, with_data_at}
use Rattle.k_rules.proofs.verdict.facts_of.Goals as goal

pub given_by_data-requires-clause-arrays : goal.given_by_data-requires-clause-arrays
given_by_data-requires-clause-arrays c = c.in-Ok.ensures.arrays

pub returns-in-Some-clause-exact : goal.returns-in-Some-clause-exact
returns-in-Some-clause-exact c =
    refused c.in-Some.least _ (sym c.in-Some.is ∙ c.in-Ok-given_by_data.ensures.broken ∙ with_data_at (map tree_at c.args.items.now) c.args.others (ap symbols_of c.requires.same))

pub returns-in-Some-filling-clause-exact : goal.returns-in-Some-filling-clause-exact
returns-in-Some-filling-clause-exact c =
    allowed _ (sym c.in-None.is ∙ c.in-Ok-given_by_data.ensures.broken ∙ with_data_at (map tree_at c.args.items.now) c.args.others (ap symbols_of c.requires.same))

pub returns-in-Some-filling-clause-constants : goal.returns-in-Some-filling-clause-constants
returns-in-Some-filling-clause-constants c =
    λ n. ap (λ k. k n) c.in-Ok.ensures.constants ∙ ap (λ xs. known_of (types_of xs) xs n) c.requires.same

pub returns-in-Some-filling-clause-arrays : goal.returns-in-Some-filling-clause-arrays
returns-in-Some-filling-clause-arrays c = λ n. c.in-Ok.ensures.arrays n ∙ ap (λ xs. arrays_of xs n) c.requires.same

pub returns-in-Some-filling-clause-starts : goal.returns-in-Some-filling-clause-starts
returns-in-Some-filling-clause-starts c =
    let r = symbols_at c.args.symbols.now in
    let here = map tree_at c.args.items.now in
    (has_filled r c.args.others here c.in-Ok-given_by_data.passed c.in-Ok-given_by_data.ensures c.in-Some-filling.filling c.in-Some-filling.is).given
    ∙ ap (λ q. given_by q.names (starts_from q [] here)) (ap symbols_of c.requires.same)
