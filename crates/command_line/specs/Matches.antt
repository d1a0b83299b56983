-- How the matches of clap hold what the words give.
use Rattle.std.specs.Prelude.{◌≡◌, ℕ, Bool, true, is_some, List, [], ◌∷◌, Option, Some, None}
use Rattle.std.specs.Prelude.{if◌then◌else◌, codes}
use Rattle.std.specs.List.{list_all}
use Rattle.std.specs.Str.{bytes_eq}
use Rattle.clap.specs.Walk.{Row, rows_of}
use Rattle.clap.specs.Matches.{found_of}
use Rattle.clap.specs.declared.builder.value_parser.Reading.{Reading}
use Rattle.clap.specs.declared.builder.value_parser.Reading.TheVariants.{AsWritten}
use Rattle.clap.specs.declared.parser.matches.ArgMatches.{ArgMatches}
use Rattle.command_line.specs.CommandLine.{Asked, Given, Name, Part, Text, default_of, fits_under}
use Rattle.command_line.specs.CommandLine.{flag, greatest, name_of, part, values}
use Rattle.command_line.specs.declared.asked.Options.{Options}
use Rattle.std.specs.Borrow.{Bor}
use Rattle.std.specs.Prelude.{map, option_map}

-- the values of an id, and how they are read
abbrev pub seen : Text → List Row → Option (List Text × Reading)
seen id [] = None
seen id (r ∷ rs) = if bytes_eq r.id id then Some (r.values, r.reading) else seen id rs

abbrev pub as_seen : List Text → Option (List Text × Reading)
as_seen [] = None
as_seen (v ∷ vs) = Some (v ∷ vs, AsWritten)

-- a flag that isn't given has the value `false`
abbrev pub as_found : Name → List Text → Option (List Text × Reading)
as_found (flag f) [] = Some (codes "false" ∷ [], AsWritten)
as_found name vs = as_seen vs

-- the rows hold the texts that were given
abbrev pub HoldTexts : Given → List Row → Type 0
HoldTexts given rows = (name : Name) → seen (name_of name) rows ≡ as_found name (values name given)

-- the numbers that were given are in their ranges, and flags have their text
abbrev pub fits : Name × Text → Bool
fits (part p, value) = fits_under (greatest p) value
fits (flag f, value) = bytes_eq value (codes "true")

abbrev pub AreGiven : Given → List Row → Type 0
AreGiven given rows = HoldTexts given rows × (list_all fits given ≡ true)

abbrev pub IsGiven : Given → ArgMatches → Type 0
IsGiven given matches = AreGiven given (rows_of (found_of matches))

-- the name of an option that takes a number, and its default
abbrev pub IsNumber : Part → Text → ℕ → Type 0
IsNumber p name default =
    (name ≡ name_of (part p)) × (default ≡ default_of p) × (is_some (greatest p) ≡ true)

abbrev pub texts_in : List (Bor Text) → List Text
texts_in = map (λ word. word.now)

-- the numbers of the plan, what is tried in parallel, the file, the name and the flags
abbrev pub shown : Options → Asked
shown o = record {
  plan = o.plan;
  speculate = o.speculate;
  file = option_map (λ name. name.now) o.file;
  rule = option_map (λ name. name.now) o.rule;
  check = o.check;
  count = o.count;
  explain = o.explain;
  stages = o.stages;
}
