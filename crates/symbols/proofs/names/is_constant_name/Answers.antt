use Rattle.std.proofs.Common.{[], ap, ◌∙◌}
use Rattle.std.specs.List.{list_any}
use Rattle.std.specs.Str.{bytes_eq}
use Rattle.meaning.specs.Uses.{defined_constants}
use Rattle.symbols.specs.Listed.{trees_at}
use Rattle.name_maps.proofs.NameSets.{any_with_names}
use Rattle.symbols.proofs.names.is_constant_name.Goals as goal

pub returns : goal.returns
returns c =
    let symbols = c.args.symbols.now in
    c.has_name.ensures ∙ ap (list_any (bytes_eq c.args.name.now)) symbols.valued
    ∙ any_with_names [] (defined_constants (trees_at symbols.items.now)) c.args.name.now
