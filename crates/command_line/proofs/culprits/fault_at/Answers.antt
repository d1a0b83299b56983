use Rattle.std.proofs.Common.{inr, subst}
use Rattle.command_line.specs.Culprits.{IsWrong}
use Rattle.command_line.specs.Matches.{texts_in}
use Rattle.command_line.proofs.Places.{wrong_of}
use Rattle.command_line.proofs.culprits.fault_at.Goals as goal

pub returns-in-Help : goal.returns-in-Help
returns-in-Help c =
    inr (subst (λ w. IsWrong w (texts_in c.args.words.now)) c.in-Help.is (wrong_of (texts_in c.args.words.now) c.args.wrong c.args.place c.requires))

pub returns-in-Version : goal.returns-in-Version
returns-in-Version c =
    inr (subst (λ w. IsWrong w (texts_in c.args.words.now)) c.in-Version.is (wrong_of (texts_in c.args.words.now) c.args.wrong c.args.place c.requires))
