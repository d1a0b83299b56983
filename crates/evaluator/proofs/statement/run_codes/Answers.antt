use Rattle.std.proofs.Common.{rules, Ok, Err, refl, ap, ◌∙◌, subst, arith, to_z, of_z}
use Rattle.std.specs.Prelude.{FitsSigned}
use Rattle.std.specs.Int.{w32}
use Rattle.std.proofs.lemmas.Int.{to_z-of_z}
use Rattle.meaning.specs.Values.{as_logical}
use Rattle.meaning.proofs.Stores.{later-later, later-same}
use Rattle.postfix.specs.Codes.{leaves_logical}
use Rattle.values.specs.Stacked.{IsCellBy, value_at}
use Rattle.storage.specs.Checked.{count_in}
use Rattle.evaluator.specs.Parts.{codes_behind, IsSafe}
use Rattle.evaluator.proofs.Assigned.{later_written}
use Rattle.evaluator.proofs.Composed.{comes_none, does_nothing}
use Rattle.evaluator.proofs.Parted.{code_fails, code_sets, code_misses, code_finds, code_passes, code_decides, code_unexecuted, code_begins}
use Rattle.evaluator.proofs.statement.run_codes.Goals as goal

pub loop-x-init : goal.loop-x-init
loop-x-init g c =
    record {
      so_far = λ rest is. does_nothing _ _ (λ m. record { left = rest; is = is; comes = comes_none _ c.args.turns.now });
      safe = c.requires.safe;
      sized = c.requires.sized;
      later = later-same _;
      fewer = omega arith;
    }

pub returns-in-Err-clause-does : goal.returns-in-Err-clause-does
returns-in-Err-clause-does g c = λ rest is.
    let world = g.S.Store.world in
    code_fails c.args.program.now c.args.line c.args.first c.loop-x.part (world c.args.store.now) (world c.loop-x.store) (world c.number_of.new.store) c.args.turns.now c.loop-x.turns c.loop-x.invariant rest is (Err c.in-Err.kind) c.in-Err.ensures.reads c.in-Err.kind refl

pub returns-in-Set-clause-does : goal.returns-in-Set-clause-does
returns-in-Set-clause-does g c = λ rest is.
    let world = g.S.Store.world in
    let code = c.loop-x.part.code.now in
    let fits : FitsSigned w32 c.in-Ok.x = search rules in
    code_sets c.args.program.now c.args.line c.args.first c.loop-x.part (world c.args.store.now) (world c.loop-x.store) (world c.number_of.new.store) c.args.turns.now c.loop-x.turns c.loop-x.invariant rest is (Ok c.in-Ok.x) c.in-Ok.ensures.reads c.in-Ok.x refl c.in-Set.cell _ (world c.write.new.self) c.in-Set.is c.in_ok-write-in-Set.ensures.ok (to_z-of_z w32 c.in-Ok.x fits)

pub returns-in-Set-clause-later : goal.returns-in-Set-clause-later
returns-in-Set-clause-later g c =
    let world = g.S.Store.world in
    later-later _ (world c.loop-x.store) _ c.loop-x.invariant.later (later-later _ (world c.number_of.new.store) _ c.number_of.ensures.later (later_written c.in-Set.cell _ (world c.number_of.new.store) (world c.write.new.self) c.in_ok-write-in-Set.ensures.ok))

pub loop-x-preserved-in-Ok-cell_by : goal.loop-x-preserved-in-Ok-cell_by
loop-x-preserved-in-Ok-cell_by g c =
    let world = g.S.Store.world in
    let inv = c.loop-x.invariant in
    let fits : FitsSigned w32 c.in-Ok.x = search rules in
    let by = subst (λ x. IsCellBy x (count_in c.args.program.now) (Ok c.in-Ok-cell_by.cell)) (to_z-of_z w32 c.in-Ok.x fits) (subst (λ k. IsCellBy (to_z w32 (of_z w32 c.in-Ok.x)) k (Ok c.in-Ok-cell_by.cell)) c.cells.ensures c.in-Ok-cell_by.ensures) in
    record {
      so_far = λ rest is. code_finds c.args.program.now c.args.line c.args.first c.loop-x.part (world c.args.store.now) (world c.loop-x.store) (world c.number_of.new.store) c.args.turns.now c.loop-x.turns inv rest is (Ok c.in-Ok.x) c.in-Ok.ensures.reads c.in-Ok.x refl c.in-Find.code c.in-Ok-cell_by.cell c.in-Find.is by;
      safe = by.1;
      sized = c.in-Ok.ensures.cells ∙ inv.sized;
      later = later-later _ (world c.loop-x.store) _ inv.later c.in-Ok.ensures.later;
      fewer = inv.fewer;
    }

pub returns-in-Err-cell_by-clause-does : goal.returns-in-Err-cell_by-clause-does
returns-in-Err-cell_by-clause-does g c = λ rest is.
    let world = g.S.Store.world in
    let fits : FitsSigned w32 c.in-Ok.x = search rules in
    let by = subst (λ x. IsCellBy x (count_in c.args.program.now) (Err c.in-Err-cell_by.kind)) (to_z-of_z w32 c.in-Ok.x fits) (subst (λ k. IsCellBy (to_z w32 (of_z w32 c.in-Ok.x)) k (Err c.in-Err-cell_by.kind)) c.cells.ensures c.in-Err-cell_by.ensures) in
    code_misses c.args.program.now c.args.line c.args.first c.loop-x.part (world c.args.store.now) (world c.loop-x.store) (world c.number_of.new.store) c.args.turns.now c.loop-x.turns c.loop-x.invariant rest is (Ok c.in-Ok.x) c.in-Ok.ensures.reads c.in-Ok.x refl c.in-Find.code c.in-Err-cell_by.kind c.in-Find.is by

pub returns-then-not-as_logical-clause-does : goal.returns-then-not-as_logical-clause-does
returns-then-not-as_logical-clause-does g c = λ rest is.
    let world = g.S.Store.world in
    let code = c.loop-x.part.code.now in
    let fits : FitsSigned w32 c.in-Ok.x = search rules in
    let value = c.value_by.ensures ∙ ap (λ b. value_at b (to_z w32 (of_z w32 c.in-Ok.x))) c.is_logical.ensures ∙ ap (value_at (leaves_logical code)) (to_z-of_z w32 c.in-Ok.x fits) in
    code_passes c.args.program.now c.args.line c.args.first c.loop-x.part (world c.args.store.now) (world c.loop-x.store) (world c.number_of.new.store) c.args.turns.now c.loop-x.turns c.loop-x.invariant rest is (Ok c.in-Ok.x) c.in-Ok.ensures.reads c.in-Ok.x refl c.in-Decide.under c.in-Decide.is (c.if-not-as_logical.ensures ∙ ap as_logical value)

pub returns-then-not-take_turn-clause-does : goal.returns-then-not-take_turn-clause-does
returns-then-not-take_turn-clause-does g c = λ rest is.
    let world = g.S.Store.world in
    let p = c.args.program.now in
    let code = c.loop-x.part.code.now in
    let fits : FitsSigned w32 c.in-Ok.x = search rules in
    let value = c.value_by.ensures ∙ ap (λ b. value_at b (to_z w32 (of_z w32 c.in-Ok.x))) c.is_logical.ensures ∙ ap (value_at (leaves_logical code)) (to_z-of_z w32 c.in-Ok.x fits) in
    code_unexecuted p c.args.line c.args.first c.loop-x.part (world c.args.store.now) (world c.loop-x.store) (world c.number_of.new.store) c.args.turns.now c.loop-x.turns c.loop-x.invariant rest is (Ok c.in-Ok.x) c.in-Ok.ensures.reads c.in-Ok.x refl c.in-Decide.under c.in-Decide.is (c.if-not-as_logical.ensures ∙ ap as_logical value) c.in-Some.next.code.now c.in-Some.next.purpose (λ s acts. c.in-Some.ensures.begins p s c.args.line acts) c.take_turn.new.turns c.if-not-take_turn.ensures.0 c.if-not-take_turn.ensures.1

pub loop-x-smaller : goal.loop-x-smaller
loop-x-smaller g c =
    let two = ap codes_behind c.in-Decide.is in
    let short = c.in-Some.ensures.short in
    omega (arith, two, short)

pub loop-x-preserved : goal.loop-x-preserved
loop-x-preserved g c =
    let world = g.S.Store.world in
    let p = c.args.program.now in
    let inv = c.loop-x.invariant in
    let code = c.loop-x.part.code.now in
    let fits : FitsSigned w32 c.in-Ok.x = search rules in
    let value = c.value_by.ensures ∙ ap (λ b. value_at b (to_z w32 (of_z w32 c.in-Ok.x))) c.is_logical.ensures ∙ ap (value_at (leaves_logical code)) (to_z-of_z w32 c.in-Ok.x fits) in
    let taken = c.if-not-take_turn.ensures in
    let fewer = inv.fewer in
    record {
      so_far = λ rest is. code_begins p c.args.line c.args.first c.loop-x.part (world c.args.store.now) (world c.loop-x.store) (world c.number_of.new.store) c.args.turns.now c.loop-x.turns inv rest is (Ok c.in-Ok.x) c.in-Ok.ensures.reads c.in-Ok.x refl c.in-Decide.under c.in-Decide.is (c.if-not-as_logical.ensures ∙ ap as_logical value) c.in-Some.next.code.now c.in-Some.next.purpose (λ s acts. c.in-Some.ensures.begins p s c.args.line acts) c.take_turn.new.turns taken;
      safe = (let known = subst (IsSafe p) c.in-Decide.is inv.safe in c.in-Some.ensures.safe p known.statement known.acts);
      sized = c.in-Ok.ensures.cells ∙ inv.sized;
      later = later-later _ (world c.loop-x.store) _ inv.later c.in-Ok.ensures.later;
      fewer = omega (arith, taken, fewer);
    }

pub returns-in-None-clause-does : goal.returns-in-None-clause-does
returns-in-None-clause-does g c = λ rest is.
    let world = g.S.Store.world in
    let code = c.loop-x.part.code.now in
    let fits : FitsSigned w32 c.in-Ok.x = search rules in
    let value = c.value_by.ensures ∙ ap (λ b. value_at b (to_z w32 (of_z w32 c.in-Ok.x))) c.is_logical.ensures ∙ ap (value_at (leaves_logical code)) (to_z-of_z w32 c.in-Ok.x fits) in
    code_decides c.args.program.now c.args.line c.args.first c.loop-x.part (world c.args.store.now) (world c.loop-x.store) (world c.number_of.new.store) c.args.turns.now c.loop-x.turns c.loop-x.invariant rest is (Ok c.in-Ok.x) c.in-Ok.ensures.reads c.in-Ok.x refl c.in-Decide.under c.in-Decide.is (c.if-not-as_logical.ensures ∙ ap as_logical value) (world c.run_bare.new.store) c.run_bare.new.turns c.run_bare.result c.run_bare.ensures.later c.run_bare.ensures.reads
