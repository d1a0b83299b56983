use Rattle.std.proofs.Common.{◌≡◌, Some, None, sym, ap, subst, ◌∙◌}
use Rattle.std.specs.Option.{option_copied}
use Rattle.name_maps.specs.Keeping.{kept_at}
use Rattle.storage.specs.Kept.{IsStored, storage_kept}
use Rattle.storage.specs.Whereabouts.{where_in}
use Rattle.storage.proofs.Placing.{no_place}
use Rattle.storage.proofs.queries.find_in.Goals as goal

pub returns-in-Some : goal.returns-in-Some
returns-in-Some c =
    let p = c.args.parts.now in
    let n = c.args.name.now in
    let kept : kept_at p.entries n ≡ Some c.in-Some.entry.now = sym c.get.ensures.value ∙ ap option_copied c.in-Some.is in
    c.place_of.ensures (where_in p.tree n) c.requires.few (subst (λ o. IsStored (where_in p.tree n) (storage_kept o)) kept (c.requires.stored n))

pub returns-in-None : goal.returns-in-None
returns-in-None c =
    let p = c.args.parts.now in
    let n = c.args.name.now in
    let kept : kept_at p.entries n ≡ None = sym c.get.ensures.value ∙ ap option_copied c.in-None.is in
    no_place (where_in p.tree n) c.requires.few c.nowhere.result (subst (λ o. IsStored (where_in p.tree n) (storage_kept o)) kept (c.requires.stored n)) c.nowhere.ensures.left c.nowhere.ensures.behind c.nowhere.ensures.limited
