use Rattle.std.proofs.Common.{◌≡◌, Some, None, sym, ap, subst, ◌∙◌}
use Rattle.std.specs.Option.{option_copied}
use Rattle.name_maps.specs.Keeping.{kept_at}
use Rattle.storage.specs.Kept.{IsStored, by_first, storage_kept, value_kept}
use Rattle.storage.specs.Whereabouts.{where_in}
use Rattle.storage.proofs.Placing.{cells_at, no_place, says}
use Rattle.storage.proofs.queries.named_in.Goals as goal

pub returns-in-Some : goal.returns-in-Some
returns-in-Some c =
    let p = c.args.parts.now in
    let n = c.args.name.now in
    let kept : kept_at p.entries n ≡ Some c.in-Some.entry.now = sym c.get.ensures.value ∙ ap option_copied c.in-Some.is in
    c.named_by.ensures p.tree n (says p n c.in-Some.entry.now c.requires kept)

pub returns-in-None : goal.returns-in-None
returns-in-None c =
    let p = c.args.parts.now in
    let n = c.args.name.now in
    let numbered = c.requires in
    let kept : kept_at p.entries n ≡ None = sym c.get.ensures.value ∙ ap option_copied c.in-None.is in
    let none = subst (λ o. IsStored (where_in p.tree n) (storage_kept o)) kept (numbered.stored n) in
    let typed = c.type_by_letter.ensures.kept ∙ ap (λ ls. by_first ls n) c.deref.ensures.value ∙ numbered.lettered n c.type_by_letter.ensures.byte kept in (
      sym (numbered.valued n) ∙ ap value_kept kept,
      cells_at p.tree n (record { place = c.nowhere.result; data_type = c.type_by_letter.result }) (no_place (where_in p.tree n) numbered.few c.nowhere.result none c.nowhere.ensures.left c.nowhere.ensures.behind c.nowhere.ensures.limited) typed,
    )
