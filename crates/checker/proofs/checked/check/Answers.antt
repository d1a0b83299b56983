use Rattle.checker.proofs.checked.check.Goals as goal

pub new-requires : goal.new-requires
new-requires c = c.in-Ok.ensures.numbered
