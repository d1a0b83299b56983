use Rattle.std.proofs.Common.{sym, get_or, ◌∙◌}
use Rattle.name_maps.specs.NameSets.{texts}
use Rattle.name_uses.proofs.Seeing.{goes_on, nameless, read_is}
use Rattle.name_uses.proofs.seen.repeats.Goals as goal

pub loop-name-preserved : goal.loop-name-preserved
loop-name-preserved c =
    let names = c.args.names.now in
    let i = c.loop-name.name-index in
    goes_on (texts c.args.seen.now.keys) names i (get_or names i nameless) c.loop-name-test.true (read_is names i nameless c.loop-name-test.true) _ (texts c.loop-name.here.keys) (texts c.add_name.new.names.keys) (sym c.has_name.ensures ∙ c.if-has_name.false) (sym c.has_name-in-loop-name.ensures ∙ c.if-has_name-2.false) c.in_ok-add_name.ensures c.loop-name.invariant
