use Rattle.std.proofs.Common.{◌≡◌, ℕ, sym, subst, Option, Some, None}
use Rattle.std.specs.Borrow.{Bor}
use Rattle.std.specs.Option.{option_copied}
use Rattle.meaning.specs.declared.syntax.Tree.{Tree}
use Rattle.meaning.specs.Trees.{Members}
use Rattle.label_targets.specs.Lists.{IsListIn}
use Rattle.postfix.specs.declared.orders.Orders.{Orders}
use Rattle.program.specs.declared.lists.Lists.{Lists}
use Rattle.program.specs.Listed.{HasOrders, LowersAt, orders_at}
use Rattle.program.specs.Prepared.{AreOrdersAt, LowersIf}
use Rattle.program.proofs.program.Program.orders.Goals as goal

shown : (t : Tree) (ms : Members) (o : Option (Bor Orders)) → LowersAt t ms (option_copied o) → LowersIf t ms o
shown t ms None h = h
shown t ms (Some o) h = h

at_line : (t : Tree) (l : Lists) (line : ℕ) (o : Option (Bor Orders)) → option_copied o ≡ orders_at l line → ((ms : Members) → IsListIn t ms → HasOrders t l ms) → AreOrdersAt t line o
at_line t l line o is kept ms listed first =
    shown t ms o (subst (λ p. LowersAt t ms p) (sym is) (kept ms listed line first))

pub returns : goal.returns
returns c =
    let parts = c.self.inside.parts in
    subst (λ t. AreOrdersAt t c.args.line c.at.result) c.self.view_is (at_line parts.unit parts.lists c.args.line c.at.result c.at.ensures c.self.invariant.lists)
