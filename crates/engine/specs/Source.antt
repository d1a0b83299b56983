-- What is read of a source.
use Rattle.std.specs.Prelude.{◌≡◌, ℕ, List}
use Rattle.meaning.specs.Answers.{program_of}

-- bytes that spell the program unit of a source, or are refused as it is; so they have its answer
abbrev pub SpellsAs : List ℕ → List ℕ → Type 0
SpellsAs read source = program_of read ≡ program_of source
