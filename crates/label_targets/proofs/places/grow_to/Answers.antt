use Rattle.std.proofs.Common.{◌≤◌, ◌+◌, ◌-◌, ◌++◌, length, ap, ◌∙◌, arith}
use Rattle.std.specs.Prelude.{replicate, vec_len}
use Rattle.std.proofs.lemmas.List.{take_all}
use Rattle.label_targets.specs.Puts.{place_at, nowhere}
use Rattle.label_targets.proofs.Putting.{grown}
use Rattle.label_targets.proofs.places.grow_to.Goals as goal

pub returns-in_ok-resize-clause-same : goal.returns-in_ok-resize-clause-same
returns-in_ok-resize-clause-same c = λ s.
    let fits : length c.args.places.now.items ≤ c.args.label + 1 = omega arith in
    ap (λ xs. place_at xs s) c.in_ok-resize.ensures.items
    ∙ ap (λ xs. place_at (xs ++ replicate (c.args.label + 1 - vec_len c.args.places.now) nowhere) s) (take_all (c.args.label + 1) c.args.places.now.items fits)
    ∙ grown c.args.places.now.items (c.args.label + 1 - vec_len c.args.places.now) s
