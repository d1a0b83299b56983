-- Each pair of the rules N that statements break (ANSI X3.9-1978, 3.5 and 11.6 to 11.10).
use Rattle.std.specs.Prelude.{◌≡◌, List, [], ◌++◌, Ok}
use Rattle.std.specs.Option.{option_to_list}
use Rattle.meaning.specs.declared.refusal.Broken.{Broken}
use Rattle.meaning.specs.Nesting.{first_broken, missing_end, nest, start}
use Rattle.meaning.specs.Syntax.{ItemTree}
use Rattle.meaning.specs.Trees.{nested}
use Rattle.nesting.specs.declared.nesting.Arranged.{Arranged}
use Rattle.nesting.specs.declared.nesting.Arranged.TheVariants.{Nests, Breaks}

-- END is missing; the first statement that breaks a rule behind those before it
abbrev pub pairs_of_order : List ItemTree → List Broken
pairs_of_order items =
    option_to_list (missing_end items) ++ option_to_list (first_broken [] start items)

-- a program unit that breaks none, or the pairs, one at least
abbrev pub IsArranged : List ItemTree → Arranged → Type 0
IsArranged items (Nests unit) = nest items ≡ Ok (nested unit)
IsArranged items (Breaks pairs) = (pairs.items ≡ pairs_of_order items) × (pairs.items ≡ [] → ⊥)
