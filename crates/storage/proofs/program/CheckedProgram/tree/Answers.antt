use Rattle.std.proofs.Common.{◌≡◌, Ok, subst}
use Rattle.meaning.specs.Rules.{checked}
use Rattle.meaning.specs.Trees.{nested}
use Rattle.label_targets.proofs.Apart.{all_kept}
use Rattle.storage.proofs.Unbroken.{labels_once}
use Rattle.storage.proofs.program.CheckedProgram.tree.Goals as goal

pub returns-clause-kept : goal.returns-clause-kept
returns-clause-kept c =
    let t = c.args.self.now in
    all_kept t (labels_once (nested t) (subst (λ u. checked (nested u) ≡ Ok (nested u)) c.self.view_is c.self.invariant.accepted))
