use Rattle.std.proofs.Common.{◌≡◌, [], ◌∙◌, Some, ap, arith}
use Rattle.std.proofs.lemmas.Grind.{common_steps}
use Rattle.c_library.specs.Runs.{IsBeginning, full}
use Rattle.c_library.proofs.Begun.{begins, begins-cut, unrefused}
use Rattle.c_library.proofs.exports.run_kept.Goals as goal

pub returns-then-len-room : goal.returns-then-len-room
returns-then-len-room c =
    let none : Some c.new-output.result.bytes.items ≡ Some [] = ap (λ v. Some v.items) c.new-output.ensures.bytes ∙ ap (λ xs. Some xs) c.new.ensures.items in
    let has : Some c.run_by-report.new.sink.bytes.items ≡ Some c.into_bytes-bytes.result.items = grind (arith, common_steps, c.into_bytes-bytes.ensures) in
    let b : IsBeginning c.args.source.now c.args.turns c.into_bytes-bytes.result.items = begins _ _ _ _ _ _ c.run_by-report.ensures.promise none has in
    full (rw c.truncate.ensures.items (begins-cut _ _ _ _ b)) (grind (arith, common_steps)) c.broken_off.ensures

pub returns-in_default : goal.returns-in_default
returns-in_default c =
    let none : Some c.new-output.result.bytes.items ≡ Some [] = ap (λ v. Some v.items) c.new-output.ensures.bytes ∙ ap (λ xs. Some xs) c.new.ensures.items in
    let has : Some c.run_by-report.new.sink.bytes.items ≡ Some c.into_bytes-bytes.result.items = grind (arith, common_steps, c.into_bytes-bytes.ensures) in
    unrefused _ _ _ _ _ _ _ c.run_by-report.ensures.promise none has c.in_default.not-WriteRefused (grind (arith, common_steps))
