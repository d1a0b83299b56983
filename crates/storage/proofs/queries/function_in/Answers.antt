use Rattle.std.proofs.Common.{◌≡◌, Some, None, sym, ap, subst, ◌∙◌}
use Rattle.std.specs.Option.{option_copied}
use Rattle.std.specs.Prelude.{slice_get}
use Rattle.name_maps.specs.Keeping.{kept_at}
use Rattle.storage.specs.Checked.{names_in}
use Rattle.storage.specs.Kept.{IsFunctionAt, IsThere, shown_at}
use Rattle.storage.proofs.Calling.{is_function}
use Rattle.storage.proofs.queries.function_in.Goals as goal

pub returns-in-Some : goal.returns-in-Some
returns-in-Some c =
    let p = c.args.parts.now in
    let n = c.args.name.now in
    let ds = (names_in p.tree).definitions in
    let a = c.in-Some.found.now in
    let kept : kept_at p.functions n ≡ Some a = sym c.get.ensures.value ∙ ap option_copied c.in-Some.is in
    let there : IsThere ds n p.tree.body.items a = subst (IsFunctionAt ds n p.tree.body.items) kept (c.requires.defined n) in
    let item : option_copied c.member_at.result ≡ slice_get p.tree.body.items a.member =
    c.member_at.ensures ∙ ap (λ xs. slice_get xs a.member) c.deref.ensures.value in
    let shown = c.function_by_member.ensures.shown n ∙ ap (shown_at n) item in
    is_function ds n p.tree.body.items a c.function_by_member.result there shown c.function_by_member.ensures.at

pub returns-in-None : goal.returns-in-None
returns-in-None c =
    let p = c.args.parts.now in
    let n = c.args.name.now in
    let kept : kept_at p.functions n ≡ None = sym c.get.ensures.value ∙ ap option_copied c.in-None.is in
    subst (IsFunctionAt (names_in p.tree).definitions n p.tree.body.items) kept (c.requires.defined n)
