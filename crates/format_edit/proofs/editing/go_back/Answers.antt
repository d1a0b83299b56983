use Rattle.std.proofs.Common.{◌∷◌, sym, ◌+◌, ◌-◌, ap, ◌∙◌, arith}
use Rattle.std.proofs.lemmas.Bool.{eqb-true, eqb-false}
use Rattle.std.proofs.lemmas.Result.{err_from_is_err_and}
use Rattle.meaning.specs.Formats.{colon, slash}
use Rattle.meaning.specs.Records.{pass, times}
use Rattle.format_edit.specs.Formatted.{parts_of}
use Rattle.format_edit.specs.Ahead.{ahead, onward}
use Rattle.format_edit.proofs.Walk.{fails_along, again_stops, again_ends}
use Rattle.format_edit.proofs.editing.go_back.Goals as goal

pub returns-then-is_empty : goal.returns-then-is_empty
returns-then-is_empty c =
    c.loop.invariant ∙ ap (ahead c.loop.sheet) (again_stops (c.args.most - c.loop.counter) (pass (parts_of c.args.parts.now)) c.loop.left.now (eqb-true _ _ (sym c.if-is_empty.ensures)))

pub returns-in_err-end_record : goal.returns-in_err-end_record
returns-in_err-end_record c =
    let steps = pass (parts_of c.args.parts.now) in
    let j = c.args.most - (c.loop.counter + 1) in
    let p = err_from_is_err_and c.from_residual.result c.from_residual.ensures.1 in
    let next = c.loop.invariant ∙ ap (ahead c.loop.sheet) (again_ends (c.args.most - c.loop.counter) j steps c.loop.left.now (omega arith) (omega (arith, eqb-false _ _ (sym c.if-is_empty.ensures)))) in
    rw (p.1, p.2) (fails_along c.in_err-end_record.field-0.0 _ _ next (c.in_err-end_record.ensures.leads _))

pub returns-in_err-rest : goal.returns-in_err-rest
returns-in_err-rest c =
    let steps = pass (parts_of c.args.parts.now) in
    let j = c.args.most - (c.loop.counter + 1) in
    let p = err_from_is_err_and c.from_residual-in_err-rest.result c.from_residual-in_err-rest.ensures.1 in
    let next = c.loop.invariant ∙ ap (ahead c.loop.sheet) (again_ends (c.args.most - c.loop.counter) j steps c.loop.left.now (omega arith) (omega (arith, eqb-false _ _ (sym c.if-is_empty.ensures)))) ∙ c.in_ok-end_record.ensures.leads _ in
    rw (p.1, p.2) (fails_along c.in_err-rest.field-0.0 _ _ next (c.in_err-rest.ensures (times j (colon ∷ (slash ∷ steps)))))

pub returns-in_default : goal.returns-in_default
returns-in_default c =
    let steps = pass (parts_of c.args.parts.now) in
    let j = c.args.most - (c.loop.counter + 1) in
    let next = c.loop.invariant ∙ ap (ahead c.loop.sheet) (again_ends (c.args.most - c.loop.counter) j steps c.loop.left.now (omega arith) (omega (arith, eqb-false _ _ (sym c.if-is_empty.ensures)))) ∙ c.in_ok-end_record.ensures.leads _ in
    next ∙ c.in_ok-rest.ensures (times j (colon ∷ (slash ∷ steps))) ∙ ap (λ r. ahead c.edit_parts.new.sheet (onward r (times j (colon ∷ (slash ∷ steps))))) c.in_default.is

pub loop-preserved : goal.loop-preserved
loop-preserved c =
    let steps = pass (parts_of c.args.parts.now) in
    let j = c.args.most - (c.loop.counter + 1) in
    let next = c.loop.invariant ∙ ap (ahead c.loop.sheet) (again_ends (c.args.most - c.loop.counter) j steps c.loop.left.now (omega arith) (omega (arith, eqb-false _ _ (sym c.if-is_empty.ensures)))) ∙ c.in_ok-end_record.ensures.leads _ in
    next ∙ c.in_ok-rest.ensures (times j (colon ∷ (slash ∷ steps))) ∙ ap (λ r. ahead c.edit_parts.new.sheet (onward r (times j (colon ∷ (slash ∷ steps))))) c.in-Some.is
