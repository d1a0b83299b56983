-- The pairs of a program unit as they are found: those of the rule on DATA statements (ANSI
-- X3.9-1978, chapter 9), and then those of the others.
use Rattle.std.specs.Prelude.{List, [], ◌++◌}
use Rattle.meaning.specs.declared.refusal.Broken.{Broken}
use Rattle.meaning.specs.declared.refusal.Rule.TheVariants.{K10}
use Rattle.meaning.specs.Initial.{has_bad_data}
use Rattle.meaning.specs.NameRules.{told}
use Rattle.meaning.specs.Syntax.{ItemTree}
use Rattle.meaning.specs.Trees.{Members}
use Rattle.meaning.specs.Uses.{Symbols, symbols_of}
use Rattle.k_rules.specs.Judged.{rules_but_data}

-- each DATA statement that breaks its rule behind those before it
abbrev pub bad_data_pairs : Symbols → List ItemTree → List Broken
bad_data_pairs r all = told (has_bad_data r) K10 [] all

abbrev pub pairs_found : Symbols → List ItemTree → Members → List Broken
pairs_found r all ms = bad_data_pairs r all ++ rules_but_data r all ms

-- those of a program unit with these statements in these lists
abbrev pub pairs_of_members : List ItemTree → Members → List Broken
pairs_of_members all ms = pairs_found (symbols_of all) all ms
