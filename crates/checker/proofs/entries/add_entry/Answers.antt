use Rattle.std.proofs.Common.{sym, ◌∙◌}
use Rattle.checker.proofs.Entering.{entered_new, entered_there}
use Rattle.checker.proofs.entries.add_entry.Goals as goal

pub returns-then-contains_key : goal.returns-then-contains_key
returns-then-contains_key c =
    entered_there c.args.entries.now c.args.name.now c.args.entry (sym c.contains_key.ensures ∙ c.if-contains_key.true)

pub returns : goal.returns
returns c =
    entered_new c.args.entries.now c.insert.new.self c.in_ok-own.own c.args.name.now c.args.entry c.in_ok-own.ensures.items (sym c.contains_key.ensures ∙ c.if-contains_key.false) c.in_ok-insert.ensures.entries
