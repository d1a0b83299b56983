-- The parts of the rule on names that are given too much.
use Rattle.std.specs.Prelude.{Bool, ◌||◌, List, [], flat_map}
use Rattle.std.specs.List.{list_any}
use Rattle.meaning.specs.NameRules.{given_by, given_from, given_twice, has_two_roles}
use Rattle.meaning.specs.NameRules.{is_against_role, is_both, is_logical_function, letters_clash}
use Rattle.meaning.specs.NameRules.{letters_in, sets_constant}
use Rattle.meaning.specs.Syntax.{ItemTree, ShapeTree}
use Rattle.meaning.specs.Uses.{Symbols, Use, is_defining, parts_at, parts_from, uses_at}

abbrev pub is_given_too_much : Symbols → List ItemTree → ItemTree → Bool
is_given_too_much r before x =
    given_twice (given_from r [] before) (given_by r (is_defining r before x) x.shape)
    || has_two_roles (given_from r [] before) (given_by r (is_defining r before x) x.shape)

abbrev pub goes_against : Symbols → List Use → ShapeTree → Bool
goes_against r us s = list_any (is_against_role r) us || sets_constant r s

abbrev pub is_used_against : Symbols → List ItemTree → ItemTree → Bool
is_used_against r before x = goes_against r (uses_at r before x) x.shape

abbrev pub is_used_twofold : Symbols → List ItemTree → ItemTree → Bool
is_used_twofold r before x = is_both r (parts_from r [] before) (parts_at r before x)

abbrev pub is_logical_intrinsic : Symbols → List ItemTree → ItemTree → Bool
is_logical_intrinsic r before x =
    is_logical_function r before (parts_from r [] before).reads x (parts_at r before x).reads

abbrev pub has_clashing_letters : List ItemTree → ItemTree → Bool
has_clashing_letters before x = letters_clash (flat_map letters_in before) (letters_in x)
