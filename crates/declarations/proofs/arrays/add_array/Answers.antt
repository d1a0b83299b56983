use Rattle.std.proofs.Common.{map, sym, ap, ◌∙◌}
use Rattle.std.specs.Prelude.{is_some}
use Rattle.meaning.specs.Scopes.{dimension_of}
use Rattle.meaning.specs.Syntax.{bounds_tree, declarator_tree}
use Rattle.name_maps.specs.Keeping.{kept_at}
use Rattle.declarations.specs.Tables.{known_at, types_in}
use Rattle.declarations.proofs.ArraysBy.{kept_first, kept_there, kept_without}
use Rattle.declarations.proofs.arrays.add_array.Goals as goal
use Rattle.declarations.proofs.arrays.add_array.Goals.{else-len-gt0-via-then-len-gt0+else-not-contains_key, else-len-gt0-via-else-len-gt0}

pub returns-in_ok-insert : goal.returns-in_ok-insert
returns-in_ok-insert c =
    let types = types_in c.args.table.now in
    let known = known_at c.args.table.now in
    let m = c.args.arrays.now in
    let d = c.args.declarator.now in
    let unknown = ap (λ x. is_some (kept_at m x)) (sym c.as_slice-name.ensures.value) ∙ sym c.contains_key.ensures ∙ c.if-not-contains_key.true in
    let valued = c.in_ok-dimensions.ensures.are ∙ ap (λ bs. map (dimension_of types known) (map bounds_tree bs)) c.deref.ensures.value in
    λ n. kept_first types known m d c.len.result n (c.len.ensures ∙ d.bounds.ok.0) c.insert.new.self c.in_ok-own.own c.in_ok-dimensions.dimensions (c.in_ok-own.ensures.items ∙ c.as_slice-name.ensures.value) unknown c.if-len-gt0.true valued c.in_ok-insert.ensures.entries

pub returns-else-len-gt0 : goal.returns-else-len-gt0
returns-else-len-gt0 c =
    let types = types_in c.args.table.now in
    let known = known_at c.args.table.now in
    let m = c.args.arrays.now in
    let d = c.args.declarator.now in
    elim c.else-len-gt0.branch [
      | else-len-gt0-via-then-len-gt0+else-not-contains_key w ↦ λ n. kept_there types known m (declarator_tree d) n (ap (λ x. is_some (kept_at m x)) (sym c.as_slice-name.ensures.value) ∙ sym w.contains_key.ensures ∙ w.if-not-contains_key.false)
      | else-len-gt0-via-else-len-gt0 w ↦ λ n. kept_without types known m d c.len.result n (c.len.ensures ∙ d.bounds.ok.0) w.if-len-gt0.false
    ]
