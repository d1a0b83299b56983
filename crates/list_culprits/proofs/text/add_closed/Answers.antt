use Rattle.list_culprits.proofs.Stepping.{ok_appended}
use Rattle.list_culprits.proofs.text.add_closed.Goals as goal

pub returns : goal.returns
returns c =
    ok_appended c.add.result _ _ _ _ _ _ c.add.ensures c.in_ok-add_label.ensures c.text_of.ensures
