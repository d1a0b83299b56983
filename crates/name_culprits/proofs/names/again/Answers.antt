use Rattle.std.proofs.Common.{◌+◌, drop, get_or, sym, ap, ◌∙◌, Some, None}
use Rattle.name_uses.specs.Held.{names_at}
use Rattle.name_uses.proofs.Seeing.{nameless, read_is}
use Rattle.name_culprits.specs.Names.{again_in}
use Rattle.name_culprits.specs.Searched.{again_one, before_at, symbols_in}
use Rattle.name_culprits.specs.Told.{tell, told_at}
use Rattle.name_culprits.proofs.Naming.{again_left}
use Rattle.name_culprits.proofs.names.again.Goals as goal

pub returns-in-Some : goal.returns-in-Some
returns-in-Some c =
    let s = c.args.search.now in
    again_left (symbols_in s) c.args.giving (before_at s) c.args.names.now c.loop-name.name-index (get_or c.args.names.now c.loop-name.name-index nameless) (Some (told_at c.in-Some.culprit)) s.line (names_at c.loop-name.earlier.items) c.loop-name-test.true (read_is c.args.names.now c.loop-name.name-index nameless c.loop-name-test.true) (ap tell (sym c.in-Some.is) ∙ c.in_ok-culprit.ensures ∙ ap (λ es. again_one s c.args.giving (names_at es) (get_or c.args.names.now c.loop-name.name-index nameless).now) c.deref.ensures.value)
    ∙ c.loop-name.invariant

pub loop-name-preserved : goal.loop-name-preserved
loop-name-preserved c =
    let s = c.args.search.now in
    let i = c.loop-name.name-index in
    ap (λ es. again_in (symbols_in s) c.args.giving (before_at s) s.line es (names_at (drop (i + 1) c.args.names.now))) c.in_ok-add_name.ensures
    ∙ again_left (symbols_in s) c.args.giving (before_at s) c.args.names.now i (get_or c.args.names.now c.loop-name.name-index nameless) None s.line (names_at c.loop-name.earlier.items) c.loop-name-test.true (read_is c.args.names.now c.loop-name.name-index nameless c.loop-name-test.true) (ap tell (sym c.in-None.is) ∙ c.in_ok-culprit.ensures ∙ ap (λ es. again_one s c.args.giving (names_at es) (get_or c.args.names.now c.loop-name.name-index nameless).now) c.deref.ensures.value)
    ∙ c.loop-name.invariant
