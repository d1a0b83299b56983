use Rattle.std.proofs.Common.{ℕ, Bool, ap₂, ◌∙◌}
use Rattle.std.specs.Ordering.{nat_cmp}
use Rattle.std.specs.BTreeSet.{contains}
use Rattle.name_rules.specs.Lettered.{any_from}
use Rattle.name_rules.proofs.letters.has_taken.Goals as goal

pub returns : goal.returns
returns c =
    let taken : ℕ → Bool = contains nat_cmp c.args.taken.now in
    c.has_code.ensures ∙ ap₂ (any_from taken) c.first_of.ensures.exact c.count_of.ensures.exact
