use Rattle.std.proofs.Common.{◌≡◌, ℕ, drop}
use Rattle.std.specs.Option.{option_or}
use Rattle.meaning.specs.Trees.{arms_tree, members_tree}
use Rattle.label_targets.specs.Places.{place_from, place_in_arms}
use Rattle.label_targets.specs.Puts.{place_at}
use Rattle.label_targets.proofs.places.+places.Given as goal

abbrev pub invariant-put_arms-loop-arm : goal.invariant-put_arms-loop-arm
invariant-put_arms-loop-arm l =
    (s : ℕ) → option_or (place_at l.places.items s) (place_in_arms s (arms_tree (drop l.arm-index l.arms))) ≡ option_or (place_at l.fn.places.items s) (place_in_arms s (arms_tree l.arms))

abbrev pub invariant-put_list-loop-place : goal.invariant-put_list-loop-place
invariant-put_list-loop-place l =
    (s : ℕ) → option_or (place_at l.places.items s) (place_from s l.place (members_tree (drop l.place l.members))) ≡ option_or (place_at l.fn.places.items s) (place_from s 0 (members_tree l.members))
