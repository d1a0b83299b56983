use Rattle.std.proofs.Common.{◌≡◌, ◌++◌, ap}
use Rattle.std.specs.Prelude.{reverse}
use Rattle.meaning.specs.declared.refusal.Rule.TheVariants.{K9}
use Rattle.meaning.specs.LoopRules.{breaks_loops}
use Rattle.meaning.specs.Surroundings.{Around, in_body, told_in}
use Rattle.meaning.specs.Trees.{members_tree}
use Rattle.symbols.specs.SymbolsAt.{symbols_at}
use Rattle.statement_rules.specs.Counters.{counters}
use Rattle.statement_rules.specs.Reached.{AddsInBody}
use Rattle.rule_passes.proofs.Answering.{on_ok_then}
use Rattle.statement_rules.proofs.control.add_bad_loop_variables.Goals as goal

pub returns : goal.returns
returns c =
    let body = members_tree c.args.members.now in
    let breaks = breaks_loops (symbols_at c.args.symbols.now) in
    let old = c.args.pairs.now.items in
    let new = c.add_in.new.pairs.items in
    on_ok_then
    ((a : Around) → counters c.new.result.items ≡ reverse a.variables → new ≡ old ++ told_in breaks K9 a body)
    (AddsInBody breaks K9 c.args.members.now old new)
    c.add_in.result c.add_in.ensures.told (λ told. told (in_body body) (ap counters c.new.ensures.items))
