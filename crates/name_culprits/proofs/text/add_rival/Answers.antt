use Rattle.std.specs.Prelude.{codes}
use Rattle.std.specs.Fmt.{decimal}
use Rattle.rule_passes.proofs.Answering.{on_ok_then}
use Rattle.name_culprits.proofs.Joining.{three_joined}
use Rattle.name_culprits.proofs.text.add_rival.Goals as goal

pub returns : goal.returns
returns c =
    on_ok_then _ _ c.add-2.result c.add-2.ensures (λ last. three_joined c.args.bytes.now.items (codes "line ") (decimal c.args.line) (codes " has IMPLICIT too") c.add.new.bytes.items c.add_line.new.bytes.items c.add-2.new.bytes.items c.in_ok-add.ensures c.in_ok-add_line.ensures last)
