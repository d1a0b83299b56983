use Rattle.std.proofs.Common.{rules, ◌≡◌, ◌<◌, length, refl}
use Rattle.std.specs.Prelude.{slice_index_or, slice_set}
use Rattle.std.proofs.lemmas.List.{get_or-set_same, get_or-set_other}
use Rattle.private_view.proofs.Fronts.{front_shown, not_less}
use Rattle.private_view.proofs.front.FirstCells.show.Goals as goal

pub returns-then-cell-lt64-clause-front : goal.returns-then-cell-lt64-clause-front
returns-then-cell-lt64-clause-front c before after leaves front =
    let f = c.args.self.now in
    let k = c.args.cell in
    let lt : k < length f.shown = search rules in
    let same : slice_index_or (slice_set f.shown k k) k 0 ≡ k = get_or-set_same f.shown k k 0 lt in
    front_shown f.shown f.written f.values before front k (slice_set f.shown k k) after (λ d lt other. get_or-set_other f.shown k d k 0 other) (λ lt. same) leaves

pub returns-else-cell-lt64-clause-front : goal.returns-else-cell-lt64-clause-front
returns-else-cell-lt64-clause-front c before after leaves front =
    let f = c.args.self.now in
    front_shown f.shown f.written f.values before front c.args.cell f.shown after (λ d lt other. refl) (λ lt. absurd (not_less c.args.cell c.if-cell-lt64.false lt)) leaves
