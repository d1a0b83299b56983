use Rattle.std.proofs.Common.{◌≡◌, ◌∙◌, sym, ap, map, subst, []}
use Rattle.std.specs.Prelude.{◌⊎◌, Err}
use Rattle.clap.specs.Faults.{fault_of, is_simple_and_free}
use Rattle.clap.specs.Kinds.{HasKind}
use Rattle.clap.specs.Simple.{is_simple, matches_of}
use Rattle.clap.specs.Walk.{rows_of}
use Rattle.clap.specs.Matches.{found_of}
use Rattle.command_line.specs.declared.asked.Wrong.TheVariants as wrong
use Rattle.command_line.specs.Command.{wrong_for}
use Rattle.command_line.specs.CommandLine.{given_by}
use Rattle.command_line.proofs.Words.{refused, taken}
use Rattle.command_line.proofs.reading.read.Goals as goal

pub returns-in-Ok-clause-ok : goal.returns-in-Ok-clause-ok
returns-in-Ok-clause-ok c =
    let words = map (λ w. w.now) c.args.words.now in
    let app = c.in_ok-command.ensures in
    let none = subst (λ a. fault_of a words ≡ []) app (c.in-Ok.ensures.kinds (ap is_simple_and_free app)) in
    let same = subst (λ a. rows_of (found_of c.in-Ok.matches) ≡ matches_of a words) app (c.in-Ok.ensures.matches (ap is_simple app)).0 in
    taken words c.in-Ok.matches none same

pub returns-in-Err-clause-err : goal.returns-in-Err-clause-err
returns-in-Err-clause-err c =
    let words = map (λ w. w.now) c.args.words.now in
    let app = c.in_ok-command.ensures in
    let kinds = subst (λ a. HasKind (fault_of a words) c.in-Err.error) app (c.in-Err.ensures.kinds (ap is_simple_and_free app)) in
    subst (λ w. (w ≡ wrong.Memory) ⊎ (given_by words ≡ Err w)) (sym (c.wrong_for.ensures ∙ ap wrong_for c.kind.ensures)) (refused words c.in-Err.error kinds)
