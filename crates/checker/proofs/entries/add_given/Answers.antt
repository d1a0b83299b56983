use Rattle.std.proofs.Common.{map, ap₂, ◌++◌}
use Rattle.checker.specs.Entries.{described}
use Rattle.checker.proofs.Entering.{adds_both, adds_same}
use Rattle.checker.proofs.entries.add_given.Goals as goal

pub returns : goal.returns
returns c =
    let f = described c.args.facts.now c.args.symbols.now in
    adds_same c.args.entries.now c.add_constants.new.entries f _ _ (ap₂ (λ ds cs. map (λ d. d.name) ds ++ map (λ c. c.name) cs) c.declarators_in.ensures c.constants_of.ensures)
    (adds_both c.args.entries.now c.add_declared.new.entries c.add_constants.new.entries f _ _ c.in_ok-add_declared.ensures c.in_ok-add_constants.ensures)
