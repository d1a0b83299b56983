use Rattle.std.proofs.Common.{ℕ, ap, ◌∙◌, arith, ◌≡◌, ◌+◌, ◌++◌, ◌<◌, length, List, replicate, append_assoc}
use Rattle.std.proofs.lemmas.List.{length-append, length-replicate}
use Rattle.format_edit.specs.Ahead.{ahead_of}
use Rattle.format_edit.proofs.Ahead.{puts_nothing, puts_too_many, puts_some}
use Rattle.format_edit.proofs.records.put.Goals as goal

-- how long a filled text is
filled : (count fill : ℕ) (text : List ℕ) → length (replicate count fill ++ text) ≡ count + length text
filled count fill text = simp (length-append, length-replicate)

pub returns-then-len-eq0 : goal.returns-then-len-eq0
returns-then-len-eq0 c = λ course.
    puts_nothing c.args.sheet.now.bytes.items c.args.sheet.now.gap (replicate c.args.count c.args.fill ++ c.args.text.now) course
    (omega (arith, filled c.args.count c.args.fill c.args.text.now))

pub returns-then-not-has_room : goal.returns-then-not-has_room
returns-then-not-has_room c = λ course.
    let k = filled c.args.count c.args.fill c.args.text.now in
    let some : 0 < length (replicate c.args.count c.args.fill ++ c.args.text.now) = omega (arith, c.else-count-eq0.either) in
    let h = c.if-not-has_room.ensures in
    let many : 1048576 < length c.args.sheet.now.bytes.items + c.args.sheet.now.gap + length (replicate c.args.count c.args.fill ++ c.args.text.now) = grind arith in
    puts_too_many c.args.sheet.now.bytes.items c.args.sheet.now.gap (replicate c.args.count c.args.fill ++ c.args.text.now) course some many

pub returns : goal.returns
returns c = λ course.
    let k = filled c.args.count c.args.fill c.args.text.now in
    let some : 0 < length (replicate c.args.count c.args.fill ++ c.args.text.now) = omega (arith, c.else-count-eq0.either) in
    let after : (c.args.sheet.now.bytes.items ++ replicate c.args.sheet.now.gap 32) ++ (replicate c.args.count c.args.fill ++ c.args.text.now) ≡ c.extend_from_slice.new.self.items = rw (c.in_ok-extend_from_slice.ensures.items, c.in_ok-put_run-2.ensures.items, c.in_ok-put_run.ensures.items) (simp append_assoc) in
    puts_some c.args.sheet.now.bytes.items c.args.sheet.now.gap (replicate c.args.count c.args.fill ++ c.args.text.now) course some ∙ ap (λ bytes. ahead_of bytes 0 course) after
