use Rattle.std.proofs.Common.{map, sym, ap, ◌∙◌}
use Rattle.meaning.specs.Statements.{entry_of}
use Rattle.all_breaches.specs.Phases.{pairs_from_texts}
use Rattle.all_breaches.proofs.Composed.{same_as, same_by}
use Rattle.all_breaches.proofs.Telling.{lines_pass, lines_refuse}
use Rattle.all_breaches.proofs.phases.phase_pairs.Goals as goal

pub returns-in_ok-pairs-in-Ok : goal.returns-in_ok-pairs-in-Ok
returns-in_ok-pairs-in-Ok c =
    same_by _ _ _ c.in_ok-pairs-in-Ok.ensures (ap (λ xs. pairs_from_texts (map entry_of xs)) c.deref.ensures.value ∙ sym (lines_pass c.args.source.now (map entry_of c.in-Ok.found.items) c.in-Ok.ensures.exact))

pub returns-in_ok-pairs-in-Err-Rule : goal.returns-in_ok-pairs-in-Err-Rule
returns-in_ok-pairs-in-Err-Rule c =
    let refused = rw c.in-Err-Rule.field-0-is at c.in-Err-Rule.ensures.exact in
    same_as _ _ (c.in_ok-pairs-in-Err-Rule.ensures ∙ sym (lines_refuse c.args.source.now _ refused))
