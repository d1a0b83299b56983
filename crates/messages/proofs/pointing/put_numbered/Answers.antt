use Rattle.std.specs.Prelude.{decimal, length, ◌++◌, ◌-◌}
use Rattle.std.proofs.Common.{subst, ap, ◌∙◌}
use Rattle.std.proofs.Math.ListN.{replicate}
use Rattle.messages.specs.Pointed.{body}
use Rattle.messages.specs.Shown.{IsTold}
use Rattle.messages.proofs.Told.{told_then}
use Rattle.messages.proofs.pointing.put_numbered.Goals as goal

pub returns : goal.returns
returns g c =
    let told = g.S.Sink.told in
    let digits = decimal c.args.number in
    let blanks = replicate (5 - length digits) 32 in
    let before = subst (λ n. IsTold (replicate n 32) (told c.args.err.now) (told c.put_blanks.new.err)) (c.saturating_sub.ensures ∙ ap (λ ds. 5 - length ds) c.format-digits.ensures.text) c.put_blanks.ensures in
    let number = subst (λ ds. IsTold ds (told c.put_blanks.new.err) (told c.put.new.err)) c.format-digits.ensures.text c.put.ensures in
    told_then (blanks ++ digits) (body c.args.line.now) _ _ _ (told_then blanks digits _ _ _ before number) c.put_body.ensures
