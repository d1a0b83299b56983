use Rattle.std.proofs.Common.{[], ◌∷◌, get_or}
use Rattle.std.proofs.lemmas.List.{map-append}
use Rattle.symbols.proofs.Passes.{names_more}
use Rattle.name_uses.specs.Held.{names_at}
use Rattle.name_uses.proofs.Seeing.{nameless, read_is}
use Rattle.name_uses.proofs.seen.add_names.Goals as goal

pub loop-name-preserved : goal.loop-name-preserved
loop-name-preserved c =
    let names = c.args.names.now in
    let i = c.loop-name.name-index in
    names_more names_at (λ n. n.now ∷ []) (λ xs x. map-append (λ n. n.now) xs (x ∷ [])) names i (get_or names i nameless) _ _ _ c.loop-name-test.true (read_is names i nameless c.loop-name-test.true) c.loop-name.invariant c.in_ok-add_name.ensures
