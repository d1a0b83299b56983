use Rattle.std.proofs.Common.{◌≡◌, ◌+◌, ◌-◌, length, sym, ap, ◌∙◌, arith}
use Rattle.std.proofs.lemmas.Result.{err_from_is_err_and}
use Rattle.meaning.specs.Formats.{parts, no_parts, parts_at, parts_in}
use Rattle.format_edit.specs.Formatted.{part_of, parts_of}
use Rattle.format_edit.proofs.Parts.{group_is}
use Rattle.format_edit.proofs.Joined.{one_more, no_level, starts, breaks_along, goes_on, is_done, runs_out, group_read, joined, with_front}
use Rattle.format_edit.proofs.reading.+reading.Goals as goal

pub parts_in-returns-then-levels-eq0 : goal.parts_in-returns-then-levels-eq0
parts_in-returns-then-levels-eq0 t c = no_level c.args.levels c.args.text.now (omega arith)

pub parts_in-loop-init : goal.parts_in-loop-init
parts_in-loop-init t c =
    let n = (length c.args.text.now + 1) - 0 in
    ap (λ xs. with_front (parts_of xs) (parts_at (parts_in (c.args.levels - 1)) n c.args.text.now)) c.new-parts.ensures.items
    ∙ starts c.args.levels (c.args.levels - 1) n c.args.text.now (omega arith) (omega arith)

pub parts_in-returns-in_err-part : goal.parts_in-returns-in_err-part
parts_in-returns-in_err-part t c =
    let p = err_from_is_err_and c.from_residual.result c.from_residual.ensures.1 in
    rw (p.1, p.2) (breaks_along (parts_in (c.args.levels - 1)) (parts_of c.loop.parts.items) ((length c.args.text.now + 1) - c.loop.counter) c.loop.rest.now _ c.loop.invariant ((length c.args.text.now + 1) - (c.loop.counter + 1)) (omega arith) c.in_err-part.field-0.0 c.in_err-part.ensures)

pub parts_in-returns-in_default : goal.parts_in-returns-in_default
parts_in-returns-in_default t c =
    let e : parts_of c.push.new.self.items ≡ joined (parts_of c.loop.parts.items) (parts (part_of c.in_ok-part.part) no_parts) = rw c.in_ok-push.ensures.items (one_more c.loop.parts.items c.in_ok-part.part) in
    rw e (is_done (parts_in (c.args.levels - 1)) (parts_of c.loop.parts.items) ((length c.args.text.now + 1) - c.loop.counter) c.loop.rest.now _ c.loop.invariant ((length c.args.text.now + 1) - (c.loop.counter + 1)) (omega arith) (part_of c.in_ok-part.part) c.in_ok-part.behind.now c.in_ok-part.ensures (rw c.is_separator-is_separator.ensures at (sym c.in_default.ensures)))

pub parts_in-loop-preserved : goal.parts_in-loop-preserved
parts_in-loop-preserved t c =
    let e : parts_of c.push.new.self.items ≡ joined (parts_of c.loop.parts.items) (parts (part_of c.in_ok-part.part) no_parts) = rw c.in_ok-push.ensures.items (one_more c.loop.parts.items c.in_ok-part.part) in
    rw e (goes_on (parts_in (c.args.levels - 1)) (parts_of c.loop.parts.items) ((length c.args.text.now + 1) - c.loop.counter) c.loop.rest.now _ c.loop.invariant ((length c.args.text.now + 1) - (c.loop.counter + 1)) (omega arith) (part_of c.in_ok-part.part) c.in_ok-part.behind.now c.in-Some.next.now c.in_ok-part.ensures (rw c.is_separator-is_separator.ensures at (sym c.in-Some.ensures)))

pub parts_in-returns : goal.parts_in-returns
parts_in-returns t c =
    runs_out (parts_in (c.args.levels - 1)) (parts_of c.loop.parts.items) ((length c.args.text.now + 1) - c.loop.counter) c.loop.rest.now _ c.loop.invariant (omega arith)

pub group_at-returns-in-Some : goal.group_at-returns-in-Some
group_at-returns-in-Some t c =
    group_read (parts_in c.args.levels) c.args.repeat c.args.text.now (parts_of c.in_ok-parts.parts.items) c.in_ok-parts.rest.now c.in-Some.rest.now _ c.in_ok-parts.ensures (sym c.in-Some.ensures) (group_is c.args.repeat c.in_ok-parts.parts)
