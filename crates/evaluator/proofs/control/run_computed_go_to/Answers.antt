use Rattle.std.proofs.Common.{ap, ◌∙◌}
use Rattle.std.specs.Int.{w32}
use Rattle.std.proofs.lemmas.Int.{to_z-of_z}
use Rattle.meaning.specs.declared.ending.FaultKind.TheVariants.{F4}
use Rattle.meaning.specs.declared.ending.Outcome.TheVariants as outcomes
use Rattle.meaning.specs.declared.ending.Value.{Value}
use Rattle.meaning.specs.Execution.{Next, by_count}
use Rattle.meaning.specs.Syntax.{computed_going}
use Rattle.meaning.specs.Values.{as_integer}
use Rattle.meaning.proofs.Stores.{reads_nothing, reads_so}
use Rattle.storage.specs.Checked.{items_in}
use Rattle.values.specs.Programs.{map_at, scope_in}
use Rattle.evaluator.proofs.Executed.{fault_at, simple_as}
use Rattle.evaluator.proofs.Picked.{pick_unexecuted, pick_fails, pick_goes}
use Rattle.evaluator.proofs.control.run_computed_go_to.Goals as goal

pub returns-then-not-take_turn-clause-reads : goal.returns-then-not-take_turn-clause-reads
returns-then-not-take_turn-clause-reads g c = λ s x.
    let p = c.args.program.now in
    let line = c.args.line in
    let t = c.args.turns.now in
    let u = c.take_turn.new.turns in
    let pick : Value → Next = λ v. by_count x.digits (as_integer v) in
    reads_nothing _ _ (λ m. simple_as (items_in p) line (map_at p m) (map_at p m) t u (fault_at F4 line) (computed_going x.digits x.comma x.value) s x.is (pick_unexecuted (scope_in p) x.value pick line (map_at p m) t u c.if-not-take_turn.ensures.0 c.if-not-take_turn.ensures.1))

pub returns-in-Some-clause-reads : goal.returns-in-Some-clause-reads
returns-in-Some-clause-reads g c = λ s x.
    let p = c.args.program.now in
    let line = c.args.line in
    let t = c.args.turns.now in
    let u = c.take_turn.new.turns in
    let pick : Value → Next = λ v. by_count x.digits (as_integer v) in
    let same = c.in-Some.ensures x.digits x.targets ∙ ap (by_count x.digits) (to_z-of_z w32 c.as_integer.result (record { sfits = c.as_integer.type_inv }) ∙ c.as_integer.ensures) in
    reads_so _ _ _ _ (c.in-Ok.ensures.reads x.value x.code) (λ m h. simple_as (items_in p) line (map_at p m) (map_at p m) t u (outcomes.Left c.in-Some.label) (computed_going x.digits x.comma x.value) s x.is (pick_goes (scope_in p) x.value pick line (map_at p m) t u c.if-not-take_turn.ensures c.in-Ok.x _ h same))

pub returns-in-None-clause-reads : goal.returns-in-None-clause-reads
returns-in-None-clause-reads g c = λ s x.
    let p = c.args.program.now in
    let line = c.args.line in
    let t = c.args.turns.now in
    let u = c.take_turn.new.turns in
    let pick : Value → Next = λ v. by_count x.digits (as_integer v) in
    let same = c.in-None.ensures x.digits x.targets ∙ ap (by_count x.digits) (to_z-of_z w32 c.as_integer.result (record { sfits = c.as_integer.type_inv }) ∙ c.as_integer.ensures) in
    reads_so _ _ _ _ (c.in-Ok.ensures.reads x.value x.code) (λ m h. simple_as (items_in p) line (map_at p m) (map_at p m) t u outcomes.Normal (computed_going x.digits x.comma x.value) s x.is (pick_goes (scope_in p) x.value pick line (map_at p m) t u c.if-not-take_turn.ensures c.in-Ok.x _ h same))

pub returns-in-Err-clause-reads : goal.returns-in-Err-clause-reads
returns-in-Err-clause-reads g c = λ s x.
    let p = c.args.program.now in
    let line = c.args.line in
    let t = c.args.turns.now in
    let u = c.take_turn.new.turns in
    let pick : Value → Next = λ v. by_count x.digits (as_integer v) in
    reads_so _ _ _ _ (c.in-Err.ensures.reads x.value x.code) (λ m h. simple_as (items_in p) line (map_at p m) (map_at p m) t u (fault_at c.in-Err.kind line) (computed_going x.digits x.comma x.value) s x.is (pick_fails (scope_in p) x.value pick line (map_at p m) t u c.if-not-take_turn.ensures c.in-Err.kind h))
