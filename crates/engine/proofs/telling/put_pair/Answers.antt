use Rattle.std.proofs.Common.{◌++◌, refl, subst, Some}
use Rattle.std.specs.Prelude.{codes}
use Rattle.meaning.specs.Names.{rule_name}
use Rattle.messages.specs.declared.hinting.Cause.TheVariants as causes
use Rattle.messages.specs.Hinted.{IsHinted}
use Rattle.messages.specs.Shown.{Adds, IsTold}
use Rattle.messages.proofs.Told.{told_then}
use Rattle.engine.specs.Lines.{line_at}
use Rattle.engine.proofs.telling.put_pair.Goals as goal

pub returns : goal.returns
returns g c =
    let told = g.S.Sink.told in
    let more = c.put_explained.ensures in
    let cause = Some (causes.Rule c.args.pair.rule c.args.pair.line) in
    let hint = subst (λ b. Adds b (IsHinted c.args.source.now cause) (told c.put_explained.new.err) (told c.tell_hint.new.err)) c.is_some.ensures c.tell_hint.ensures in
    let line = line_at (codes "  ALSO ") (rule_name c.args.pair.rule) c.args.pair.line in
    let named = subst (λ n. IsTold (line_at (codes "  ALSO ") n c.args.pair.line) (told c.args.err.now) (told c.put_at.new.err)) c.name.ensures c.put_at.ensures in (
      line ++ more.0 ++ hint.0,
      (more.0, hint.0, more.1, hint.1, refl),
      told_then (line ++ more.0) hint.0 _ _ _ (told_then line more.0 _ _ _ named more.2) hint.2,
    )
