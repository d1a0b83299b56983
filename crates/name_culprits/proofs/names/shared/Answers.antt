use Rattle.std.proofs.Common.{get_or, sym, ap, ◌∙◌, Some, None}
use Rattle.name_uses.proofs.Seeing.{nameless, read_is}
use Rattle.name_culprits.specs.Searched.{before_at, symbols_in}
use Rattle.name_culprits.specs.Told.{tell, told_at}
use Rattle.name_culprits.proofs.Naming.{shared_left}
use Rattle.name_culprits.proofs.names.shared.Goals as goal

pub returns-in-Some : goal.returns-in-Some
returns-in-Some c =
    let s = c.args.search.now in
    shared_left (symbols_in s) c.args.giving (before_at s) c.args.names.now c.loop-name.name-index (get_or c.args.names.now c.loop-name.name-index nameless) (Some (told_at c.in-Some.culprit)) c.loop-name-test.true (read_is c.args.names.now c.loop-name.name-index nameless c.loop-name-test.true) (ap tell (sym c.in-Some.is) ∙ c.in_ok-culprit.ensures)
    ∙ c.loop-name.invariant

pub loop-name-preserved : goal.loop-name-preserved
loop-name-preserved c =
    let s = c.args.search.now in
    shared_left (symbols_in s) c.args.giving (before_at s) c.args.names.now c.loop-name.name-index (get_or c.args.names.now c.loop-name.name-index nameless) None c.loop-name-test.true (read_is c.args.names.now c.loop-name.name-index nameless c.loop-name-test.true) (ap tell (sym c.in-None.is) ∙ c.in_ok-culprit.ensures)
    ∙ c.loop-name.invariant
