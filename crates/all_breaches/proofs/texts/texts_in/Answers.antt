use Rattle.all_breaches.specs.Phases.{refused_by}
use Rattle.all_breaches.specs.Texts.{read_by}
use Rattle.meaning.specs.Answers.{member_of}
use Rattle.meaning.specs.Statements.{entry_of}
use Rattle.all_breaches.proofs.Said.{one_more}
use Rattle.all_breaches.proofs.texts.texts_in.Goals as goal

pub loop-statement-preserved : goal.loop-statement-preserved
loop-statement-preserved c =
    let s = c.statement-item.result in
    let i = c.loop-statement.statement-index in
    record {
      members = one_more c.args.found.now i s c.loop-statement-test.true c.statement-item.is read_by _ _ (c.in-Ok.ensures.members (member_of (entry_of s)) c.member_in-said.ensures) c.loop-statement.invariant.members;
      broken = one_more c.args.found.now i s c.loop-statement-test.true c.statement-item.is refused_by _ _ (c.in-Ok.ensures.broken (member_of (entry_of s)) c.member_in-said.ensures) c.loop-statement.invariant.broken;
    }
