use Rattle.std.proofs.Common.{ap, sym, ◌∙◌}
use Rattle.meaning.specs.Answers.{message_at}
use Rattle.storage.specs.Checked.{items_in}
use Rattle.program.proofs.Told.{message_told}
use Rattle.program.proofs.program.Program.into_message.Goals as goal

pub returns : goal.returns
returns c =
    let parts = c.self.inside.parts in
    let told = message_told parts.unit parts.actions (items_in parts.unit) c.args.line c.self.invariant.kept c.self.invariant.others in
    c.take_message-message.ensures ∙ sym told ∙ ap (λ t. message_at (items_in t) c.args.line) c.self.view_is
