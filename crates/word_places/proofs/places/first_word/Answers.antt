use Rattle.std.proofs.Common.{◌≡◌, ◌+◌, [], take, drop, sym, subst, ◌∙◌}
use Rattle.word_places.specs.Columns.{first_word, scan_start}
use Rattle.word_places.proofs.Marking.{word_hit, word_miss}
use Rattle.word_places.proofs.places.first_word.Goals as goal

pub returns-then-begins_at : goal.returns-then-begins_at
returns-then-begins_at c =
    sym (word_hit c.args.word.now c.loop-place.scan c.args.marks.now c.loop-place.place (record { line = 0; column = 0; code = 0 }) c.loop-place-test.true (sym c.begins_at.ensures ∙ c.if-begins_at.true))
    ∙ c.loop-place.invariant

pub loop-place-preserved : goal.loop-place-preserved
loop-place-preserved c =
    let word = c.args.word.now in
    let marks = c.args.marks.now in
    let place = c.loop-place.place in
    let misses = word_miss word c.loop-place.scan marks place (record { line = 0; column = 0; code = 0 }) c.loop-place-test.true (sym c.begins_at.ensures ∙ c.if-begins_at.false) in
    subst (λ s. first_word word s (take (place + 1) marks) (drop (place + 1) marks) ≡ first_word word scan_start [] marks) (sym c.behind-scan.ensures) (misses ∙ c.loop-place.invariant)
