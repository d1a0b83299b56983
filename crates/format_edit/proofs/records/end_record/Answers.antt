use Rattle.std.proofs.Common.{ap, ◌∙◌, arith, ◌≤◌, ◌<◌, length, sym}
use Rattle.format_edit.specs.Ahead.{ahead_of}
use Rattle.format_edit.proofs.Ahead.{ends_too_many, ends_one, stops_too_many, stops_within}
use Rattle.format_edit.proofs.records.end_record.Goals as goal

pub returns-then-not-has_room-clause-leads : goal.returns-then-not-has_room-clause-leads
returns-then-not-has_room-clause-leads c = λ course.
    let h = c.if-not-has_room.ensures in
    let full : 1048576 ≤ length c.args.sheet.now.bytes.items = grind arith in
    ends_too_many c.args.sheet.now.bytes.items c.args.sheet.now.gap course full

pub returns-then-not-has_room-clause-closes : goal.returns-then-not-has_room-clause-closes
returns-then-not-has_room-clause-closes c =
    let h = c.if-not-has_room.ensures in
    let full : 1048576 ≤ length c.args.sheet.now.bytes.items = grind arith in
    stops_too_many c.args.sheet.now.bytes.items c.args.sheet.now.gap full

pub returns-clause-leads : goal.returns-clause-leads
returns-clause-leads c = λ course.
    ends_one c.args.sheet.now.bytes.items c.args.sheet.now.gap course ∙ ap (λ bytes. ahead_of bytes 0 course) (sym c.in_ok-push.ensures.items)

pub returns-clause-closes : goal.returns-clause-closes
returns-clause-closes c =
    let h = c.if-not-has_room.ensures in
    let within : length c.args.sheet.now.bytes.items < 1048576 = grind arith in
    rw c.in_ok-push.ensures.items (stops_within c.args.sheet.now.bytes.items c.args.sheet.now.gap within)
