use Rattle.std.proofs.Common.{sym, ◌∙◌}
use Rattle.hints.proofs.Rows.{by_front, by_inner}
use Rattle.hints.proofs.tables.Row.fits.Goals as goal

pub returns-then-holds_any : goal.returns-then-holds_any
returns-then-holds_any c =
    c.holds_any-then-holds_any.ensures ∙ by_inner c.args.text.now c.args.self.now (sym c.holds_any.ensures ∙ c.if-holds_any.true)

pub returns-else-holds_any : goal.returns-else-holds_any
returns-else-holds_any c = c.if-holds_any.false ∙ by_front c.args.text.now c.args.self.now (sym c.holds_any.ensures ∙ c.if-holds_any.false)
