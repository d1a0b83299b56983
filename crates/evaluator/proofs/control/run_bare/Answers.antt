use Rattle.std.proofs.Common.{◌≡◌, sym, subst}
use Rattle.std.specs.Prelude.{◌⊎◌}
use Rattle.meaning.specs.Syntax.{continuing, end_do, stopping}
use Rattle.meaning.proofs.Stores.{reads_nothing}
use Rattle.storage.specs.Checked.{items_in}
use Rattle.program.specs.Acts.{Acts, GoesByCount}
use Rattle.values.specs.Programs.{map_at}
use Rattle.evaluator.specs.Parts.{IsBare}
use Rattle.evaluator.proofs.Executed.{simple_as, continuing_as, pass_passes, output_passes, if_passes, test_passes, repeat_passes, while_passes_over}
use Rattle.evaluator.proofs.control.run_bare.Goals as goal

pub returns-in-Assign-clause-reads : goal.returns-in-Assign-clause-reads
returns-in-Assign-clause-reads g c = absurd (subst IsBare c.in-Assign.is c.requires.bare)

pub returns-in-Continue-clause-reads : goal.returns-in-Continue-clause-reads
returns-in-Continue-clause-reads g c = λ s acts quiet.
    let p = c.args.program.now in
    let all = items_in p in
    let is : (s ≡ continuing) ⊎ (s ≡ end_do) = subst (λ a. Acts p a s) c.in-Continue.is acts in
    let y = c.run_continue in
    reads_nothing _ _ (λ m. continuing_as all c.args.line (map_at p m) c.args.turns.now y.new.turns y.result s is (y.ensures.moves all (map_at p m)))

pub returns-in-GoTo-clause-reads : goal.returns-in-GoTo-clause-reads
returns-in-GoTo-clause-reads g c = λ s acts quiet.
    let p = c.args.program.now in
    let x = subst (λ a. Acts p a s) c.in-GoTo.is acts in
    reads_nothing _ _ (λ m. c.run_go_to.ensures.moves (items_in p) s (map_at p m) x)

pub returns-in-ComputedGoTo-clause-reads : goal.returns-in-ComputedGoTo-clause-reads
returns-in-ComputedGoTo-clause-reads g c = λ s acts quiet.
    let p = c.args.program.now in
    let x = subst (λ a. Acts p a s) c.in-ComputedGoTo.is acts in
    c.run_computed_go_to.ensures.reads s (subst (λ labels. GoesByCount p labels c.in-ComputedGoTo.code s) (sym c.deref.ensures.value) x)

pub returns-in-ArithmeticIf-clause-reads : goal.returns-in-ArithmeticIf-clause-reads
returns-in-ArithmeticIf-clause-reads g c = λ s acts quiet.
    c.run_arithmetic_if.ensures.reads s (subst (λ a. Acts c.args.program.now a s) c.in-ArithmeticIf.is acts)

pub returns-in-Stop-clause-reads : goal.returns-in-Stop-clause-reads
returns-in-Stop-clause-reads g c = λ s acts quiet.
    let p = c.args.program.now in
    let all = items_in p in
    let x = subst (λ a. Acts p a s) c.in-Stop.is acts in
    let y = c.run_stop in
    reads_nothing _ _ (λ m. simple_as all c.args.line (map_at p m) (map_at p m) c.args.turns.now y.new.turns y.result (stopping x.text) s x.is (y.ensures.moves all x.text (map_at p m)))

pub returns-in-Pass-clause-reads : goal.returns-in-Pass-clause-reads
returns-in-Pass-clause-reads g c = λ s acts quiet.
    let p = c.args.program.now in
    let x = subst (λ a. Acts p a s) c.in-Pass.is acts in
    reads_nothing _ _ (λ m. pass_passes p c.args.line s (map_at p m) c.args.turns.now x)

pub returns-in-Output-clause-reads : goal.returns-in-Output-clause-reads
returns-in-Output-clause-reads g c = λ s acts quiet.
    let p = c.args.program.now in
    let x = subst (λ a. Acts p a s) c.in-Output.is acts in
    reads_nothing _ _ (λ m. output_passes p c.args.line s (map_at p m) c.args.turns.now _ x quiet)

pub returns-in-If-clause-reads : goal.returns-in-If-clause-reads
returns-in-If-clause-reads g c = λ s acts quiet.
    let p = c.args.program.now in
    let x = subst (λ a. Acts p a s) c.in-If.is acts in
    reads_nothing _ _ (λ m. if_passes p c.args.line s (map_at p m) c.args.turns.now _ _ x)

pub returns-in-Test-clause-reads : goal.returns-in-Test-clause-reads
returns-in-Test-clause-reads g c = λ s acts quiet.
    let p = c.args.program.now in
    let x = subst (λ a. Acts p a s) c.in-Test.is acts in
    reads_nothing _ _ (λ m. test_passes p c.args.line s (map_at p m) c.args.turns.now _ x)

pub returns-in-Repeat-clause-reads : goal.returns-in-Repeat-clause-reads
returns-in-Repeat-clause-reads g c = λ s acts quiet.
    let p = c.args.program.now in
    let x = subst (λ a. Acts p a s) c.in-Repeat.is acts in
    reads_nothing _ _ (λ m. repeat_passes p c.args.line s (map_at p m) c.args.turns.now _ x)

pub returns-in-While-clause-reads : goal.returns-in-While-clause-reads
returns-in-While-clause-reads g c = λ s acts quiet.
    let p = c.args.program.now in
    let x = subst (λ a. Acts p a s) c.in-While.is acts in
    reads_nothing _ _ (λ m. while_passes_over p c.args.line s (map_at p m) c.args.turns.now _ x)
