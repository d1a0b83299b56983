use Rattle.std.proofs.Common.{Some, None, cond, sym, ap, subst, ◌∙◌}
use Rattle.std.specs.FinMap as map
use Rattle.private_view.specs.Views.{Wrote, TakesAll, value_at}
use Rattle.private_view.proofs.Looking.{written_is}
use Rattle.private_view.proofs.Marked.{known_taken}
use Rattle.private_view.proofs.paged.WriteSet.apply_to.Goals as goal

pub returns-clause-values : goal.returns-clause-values
returns-clause-values c =
    let i = c.self.inside in
    let f = value_at i.slots.items i.values.items in
    let words = c.words.result.now in
    let takes = subst (λ ss. TakesAll c.args.target.now c.put_all.new.target words (value_at ss i.values.items)) c.deref.ensures.value (subst (λ vs. TakesAll c.args.target.now c.put_all.new.target words (value_at c.deref.result.now vs)) c.deref-3.ensures.value c.put_all.ensures.takes) in
    known_taken c.args.target.now c.put_all.new.target words f c.args.self.now.written takes (λ q. ap (λ (t : Wrote). map.get t.written q) (sym c.self.view_is) ∙ written_is i.written f q ∙ ap (λ b. cond b (Some (f q)) None) (c.words.ensures.told q))
