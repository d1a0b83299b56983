use Rattle.std.proofs.Common.{◌≡◌, ℕ, ◌||◌, map, take}
use Rattle.std.specs.List.{list_any}
use Rattle.std.specs.Ordering.{nat_cmp}
use Rattle.std.specs.BTreeSet.{contains}
use Rattle.meaning.specs.Types.{is_among}
use Rattle.name_rules.specs.Lettered.{letters_at}
use Rattle.name_rules.proofs.letters.take_all.Given as goal

abbrev pub invariant-loop-one : goal.invariant-loop-one
invariant-loop-one l =
    (c : ℕ) → contains nat_cmp l.taken c ≡ (contains nat_cmp l.initial.taken c || list_any (is_among c) (map letters_at (take l.one-index l.letters)))
