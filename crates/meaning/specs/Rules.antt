-- The rules K on a whole program unit (ANSI X3.9-1978, chapters 2 to 15), and the least pair that
-- it breaks.
use Rattle.std.specs.Prelude.{List, [], ◌++◌, Result}
use Rattle.meaning.specs.declared.refusal.Broken.{Broken}
use Rattle.meaning.specs.declared.refusal.Rule.TheVariants.{K1, K2, K6, K7, K9, K10, K11}
use Rattle.meaning.specs.Refusals.{least, unless}
use Rattle.meaning.specs.Syntax.{ItemTree}
use Rattle.meaning.specs.Trees.{Nested, flatten}
use Rattle.meaning.specs.Uses.{Symbols, symbols_of}
use Rattle.meaning.specs.NameRules.{told, broken_names}
use Rattle.meaning.specs.NumberRules.{has_bad_number, has_large_array}
use Rattle.meaning.specs.LabelRules.{has_repeated_label, breaks_transfers, has_bad_output}
use Rattle.meaning.specs.LoopRules.{breaks_loops}
use Rattle.meaning.specs.Surroundings.{in_body, told_in}
use Rattle.meaning.specs.Initial.{has_bad_data}

-- those on the statements in their order
abbrev pub broken_items : Symbols → List ItemTree → List Broken
broken_items r all =
    told has_repeated_label K1 [] all
    ++ (broken_names r all
    ++ (told (has_bad_number r) K6 [] all
    ++ (told (has_large_array r) K7 [] all
    ++ (told (has_bad_data r) K10 [] all ++ told (has_bad_output r all) K11 [] all))))

-- those on the tree
abbrev pub broken_lists : Symbols → Nested → List Broken
broken_lists r t =
    told_in (breaks_transfers r (flatten t)) K2 (in_body t.body) t.body
    ++ told_in (breaks_loops r) K9 (in_body t.body) t.body

abbrev pub broken_rules : Nested → List Broken
broken_rules t =
    broken_items (symbols_of (flatten t)) (flatten t) ++ broken_lists (symbols_of (flatten t)) t

-- the program unit, or the least broken pair
unfoldable pub checked : Nested → Result Nested Broken
checked t = unless (least (broken_rules t)) t
