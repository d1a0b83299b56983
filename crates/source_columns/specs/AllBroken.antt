-- Every pair of the rules on lines that a source breaks (ANSI X3.9-1978, 3.2 to 3.4).
use Rattle.std.specs.Prelude.{ℕ, List, [], ◌∷◌, if◌then◌else◌}
use Rattle.meaning.specs.declared.refusal.Broken.{Broken}
use Rattle.meaning.specs.declared.refusal.Rule.TheVariants.{C7}
use Rattle.meaning.specs.Lines.{lines_of, statement_lines}
use Rattle.meaning.specs.Statements.{broken_in, is_too_long}

-- of a source that is too long that alone
abbrev pub pairs_of_lines : List ℕ → List Broken
pairs_of_lines source =
    if is_too_long source then record { line = 1; rule = C7 } ∷ []
    else broken_in (statement_lines 1 (lines_of source))
