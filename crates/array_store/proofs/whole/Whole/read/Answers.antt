use Rattle.std.proofs.Common.{rules, ◌<◌, length, Some, slice_get, FitsSigned, refl, sym, ap, subst, ◌∙◌}
use Rattle.std.specs.Int.{w32}
use Rattle.std.proofs.lemmas.Int.{to_z-of_z}
use Rattle.std.proofs.lemmas.Option.{slice_get_read}
use Rattle.array_store.proofs.whole.Whole.read.Goals as goal

pub returns : goal.returns
returns c =
    let items = c.self.inside.cells.items in
    let k = c.args.cell.0 in
    let x = c.index.result.now in
    let lt : k < length items = subst (λ s. k < length s) (sym c.self.view_is) c.requires in
    let fits : FitsSigned w32 x = search rules in
    ap (λ s. slice_get s k) (sym c.self.view_is) ∙ slice_get_read items (length items) k x refl lt c.index.ensures ∙ ap Some (sym (to_z-of_z w32 x fits))
