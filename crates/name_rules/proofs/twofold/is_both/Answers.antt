use Rattle.std.proofs.Common.{◌||◌, ap, ◌∙◌}
use Rattle.std.specs.List.{list_any}
use Rattle.meaning.specs.Uses.{is_one_of}
use Rattle.name_maps.specs.NameSets.{texts}
use Rattle.name_uses.specs.Held.{names_at}
use Rattle.name_rules.proofs.Parting.{held_same}
use Rattle.name_rules.proofs.twofold.is_both.Goals as goal

pub returns : goal.returns
returns c =
    let s = c.args.known.now in
    let vs = names_at c.args.variables.now in
    let fs = names_at c.args.functions.now in
    c.is_either.ensures ∙ ap (λ b. (list_any (is_one_of (texts s.functions.keys)) vs || b) || list_any (is_one_of (texts s.variables.keys)) fs) (held_same c.in_ok-here.here.keys fs vs c.in_ok-here.ensures)
