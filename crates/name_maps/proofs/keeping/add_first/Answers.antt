use Rattle.std.proofs.Common.{sym, ◌∙◌}
use Rattle.name_maps.proofs.FirstKept.{kept_new, kept_there}
use Rattle.name_maps.proofs.keeping.add_first.Goals as goal

pub returns-in_ok-insert : goal.returns-in_ok-insert
returns-in_ok-insert g c =
    λ n. kept_new c.args.kept.now c.insert.new.self c.in_ok-own.own c.args.name.now c.args.value n c.in_ok-own.ensures.items (sym c.contains_key.ensures ∙ c.if-not-contains_key.true) c.in_ok-insert.ensures.entries

pub returns-else-not-contains_key : goal.returns-else-not-contains_key
returns-else-not-contains_key g c =
    λ n. kept_there c.args.kept.now c.args.name.now c.args.value n (sym c.contains_key.ensures ∙ c.if-not-contains_key.false)
