use Rattle.std.proofs.Common.{rules, ◌≡◌, ◌≢◌, pos, Err, to_z, of_z, sym, ◌∙◌}
use Rattle.std.specs.Int.{w32}
use Rattle.std.proofs.lemmas.Int.{to_z-of_z}
use Rattle.meaning.specs.Values.{as_integer}
use Rattle.evaluator.specs.declared.limits.Span.{Span}
use Rattle.values.specs.Programs.{map_at, scope_in}
use Rattle.evaluator.proofs.Limiting.{first_faults, last_faults, step_faults, step_is_zero, spans_so}
use Rattle.evaluator.proofs.limits.values_of_codes.Goals as goal

pub returns-in_err-value-clause-reads : goal.returns-in_err-value-clause-reads
returns-in_err-value-clause-reads g c =
    let p = c.args.program.now in
    let u = g.S.Store.world c.args.store.now in
    let v = g.S.Store.world c.value.new.store in
    let k : c.from_residual.result ≡ Err c.in_err-value.field-0.0 = search rules in
    rw k (λ l are. first_faults (map_at p) (scope_in p) l u v c.in_err-value.field-0.0 (c.in_err-value.ensures.reads l.first are.first))

pub returns-in_err-value-2-clause-reads : goal.returns-in_err-value-2-clause-reads
returns-in_err-value-2-clause-reads g c =
    let p = c.args.program.now in
    let u = g.S.Store.world c.args.store.now in
    let v = g.S.Store.world c.value.new.store in
    let w = g.S.Store.world c.value-2.new.store in
    let k : c.from_residual-in_err-value-2.result ≡ Err c.in_err-value-2.field-0.0 = search rules in
    rw k (λ l are. last_faults (map_at p) (scope_in p) l u v w c.in_ok-value.field-0 (c.in_ok-value.ensures.reads l.first are.first) c.in_err-value-2.field-0.0 (c.in_err-value-2.ensures.reads l.last are.last))

pub returns-in_err-step_by-clause-reads : goal.returns-in_err-step_by-clause-reads
returns-in_err-step_by-clause-reads g c =
    let p = c.args.program.now in
    let u = g.S.Store.world c.args.store.now in
    let v = g.S.Store.world c.value.new.store in
    let w = g.S.Store.world c.value-2.new.store in
    let x = g.S.Store.world c.step_by.new.store in
    let k : c.from_residual-in_err-step_by.result ≡ Err c.in_err-step_by.field-0.0 = search rules in
    rw k (λ l are. step_faults (map_at p) (scope_in p) l u v w c.in_ok-value.field-0 (c.in_ok-value.ensures.reads l.first are.first) x c.in_ok-value-2.field-0 (c.in_ok-value-2.ensures.reads l.last are.last) c.in_err-step_by.field-0.0 (c.in_err-step_by.ensures.reads l.step are.step))

pub returns-then-step-eq0-clause-reads : goal.returns-then-step-eq0-clause-reads
returns-then-step-eq0-clause-reads g c =
    let p = c.args.program.now in
    let u = g.S.Store.world c.args.store.now in
    let v = g.S.Store.world c.value.new.store in
    let w = g.S.Store.world c.value-2.new.store in
    let x = g.S.Store.world c.step_by.new.store in
    let zero : as_integer c.in_ok-step_by.field-0 ≡ pos 0 = sym c.as_integer-step.ensures ∙ search rules in
    λ l are. step_is_zero (map_at p) (scope_in p) l u v w c.in_ok-value.field-0 (c.in_ok-value.ensures.reads l.first are.first) x c.in_ok-value-2.field-0 (c.in_ok-value-2.ensures.reads l.last are.last) c.in_ok-step_by.field-0 (c.in_ok-step_by.ensures.reads l.step are.step) zero

pub returns-clause-reads : goal.returns-clause-reads
returns-clause-reads g c =
    let p = c.args.program.now in
    let u = g.S.Store.world c.args.store.now in
    let v = g.S.Store.world c.value.new.store in
    let w = g.S.Store.world c.value-2.new.store in
    let x = g.S.Store.world c.step_by.new.store in
    let is-first : to_z w32 (of_z w32 c.as_integer-first.result) ≡ as_integer c.in_ok-value.field-0 = to_z-of_z w32 c.as_integer-first.result (record { sfits = c.as_integer-first.type_inv }) ∙ c.as_integer-first.ensures in
    let is-last : to_z w32 (of_z w32 c.as_integer-last.result) ≡ as_integer c.in_ok-value-2.field-0 = to_z-of_z w32 c.as_integer-last.result (record { sfits = c.as_integer-last.type_inv }) ∙ c.as_integer-last.ensures in
    let same-step = to_z-of_z w32 c.as_integer-step.result (record { sfits = c.as_integer-step.type_inv }) in
    let is-step : to_z w32 (of_z w32 c.as_integer-step.result) ≡ as_integer c.in_ok-step_by.field-0 = same-step ∙ c.as_integer-step.ensures in
    let not_zero : c.as_integer-step.result ≢ pos 0 = search rules in
    let some : to_z w32 (of_z w32 c.as_integer-step.result) ≢ pos 0 = λ e. not_zero (sym same-step ∙ e) in
    let span : Span = record { first = to_z w32 (of_z w32 c.as_integer-first.result); last = to_z w32 (of_z w32 c.as_integer-last.result); step = to_z w32 (of_z w32 c.as_integer-step.result) } in
    λ l are. spans_so (map_at p) (scope_in p) l u v w c.in_ok-value.field-0 (c.in_ok-value.ensures.reads l.first are.first) x c.in_ok-value-2.field-0 (c.in_ok-value-2.ensures.reads l.last are.last) c.in_ok-step_by.field-0 (c.in_ok-step_by.ensures.reads l.step are.step) span is-first is-last is-step some
