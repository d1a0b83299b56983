use Rattle.function_rules.proofs.Putting.{kept_put}
use Rattle.function_rules.proofs.measures.keep_measure.Goals as goal

pub returns : goal.returns
returns c = λ n.
    kept_put c.args.kept.now c.insert.new.self c.in_ok-own.own c.args.name.now c.args.measure n c.in_ok-own.ensures.items c.in_ok-insert.ensures.entries
