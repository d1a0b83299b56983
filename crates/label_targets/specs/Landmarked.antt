-- What is kept of a list agrees with it.
use Rattle.std.specs.Prelude.{◌≡◌, ℕ}
use Rattle.std.specs.BTreeSet.{contains}
use Rattle.std.specs.Ordering.{nat_cmp}
use Rattle.meaning.specs.Trees.{Members}
use Rattle.label_targets.specs.declared.label_targets.LabelTargets.{LabelTargets}
use Rattle.label_targets.specs.Output.{has_output}
use Rattle.label_targets.specs.Places.{place_from}
use Rattle.label_targets.specs.Puts.{place_at}

pub record AreLabelTargets (ms : Members) (m : LabelTargets) : Type 0 where
  pub places : (s : ℕ) → place_at m.places.items s ≡ place_from s 0 ms
  pub output : (line : ℕ) → contains nat_cmp m.output line ≡ has_output line ms
