-- The word of a command line with which something is wrong, and what is told of it.
use Rattle.std.specs.Prelude.{◌≡◌, ◌<◌, ◌≤◌, ◌-◌, ◌==◌, ◌&&◌, ◌||◌, ℕ, Bool, true, false, List, []}
use Rattle.std.specs.Prelude.{◌∷◌, ◌++◌, take, codes, decimal, length, nat_eq, nat_le, nat_lt}
use Rattle.std.specs.Prelude.{slice_index, slice_index_or, if◌then◌else◌, unwrap_or, Option, Some}
use Rattle.std.specs.Prelude.{None, Result, Ok, Err, MatchResult}
use Rattle.std.specs.List.{starts_with}
use Rattle.std.specs.Str.{bytes_eq, chars}
use Rattle.clap.specs.Lexer.{name_and_value}
use Rattle.strsim.specs.Edits.{levenshtein_row}
use Rattle.meaning.specs.Plans.{most_workers, most_trips, most_blocks, most_turns}
use Rattle.command_line.specs.declared.asked.Mode.{Mode}
use Rattle.command_line.specs.declared.asked.Mode.TheVariants as mode
use Rattle.command_line.specs.declared.asked.Options.{Options}
use Rattle.command_line.specs.declared.asked.OptionsFault.{OptionsFault}
use Rattle.command_line.specs.declared.asked.OptionsFault.TheVariants as fault
use Rattle.command_line.specs.declared.asked.Setting.{Setting}
use Rattle.command_line.specs.declared.asked.Setting.TheVariants as setting
use Rattle.command_line.specs.declared.asked.Wrong.{Wrong}
use Rattle.command_line.specs.declared.asked.Wrong.TheVariants as wrong
use Rattle.command_line.specs.CommandLine.{Clash, Given, Text, asked_by, given_by, no_effect}
use Rattle.command_line.specs.CommandLine.{no_such_speculation, too_many_files}
use Rattle.command_line.specs.Matches.{shown}

-- ---- the word

-- that is wrong with the words
abbrev pub IsWrong : Wrong → List Text → Type 0
IsWrong w words = given_by words ≡ Err w

-- the place of the word with which it comes: it isn't wrong with the words before that one, and
-- with each beginning that has it it is
pub record IsPlace (w : Wrong) (words : List Text) (place : ℕ) : Type 0 where
  pub there : place < length words
  pub before : IsWrong w (take place words) → ⊥
  pub behind : (n : ℕ) → place < n → n ≤ length words → IsWrong w (take n words)

-- an option begins with a minus sign (45), and has more behind it
abbrev pub is_option : Text → Bool
is_option word = nat_lt 1 (length word) && (slice_index word 0 == 45)

-- it is what stands before the first equal sign of its word; its value stands behind that sign
abbrev pub option_in : Text → Text
option_in word = (name_and_value word).0

abbrev pub value_in : Text → Text
value_in word = unwrap_or (name_and_value word).1 []

abbrev pub word_at : List Text → ℕ → Text
word_at words place = slice_index_or words place []

-- or its value is a word of its own, the next one
abbrev pub option_at : List Text → ℕ → Text
option_at words place =
    if is_option (word_at words place) then option_in (word_at words place)
    else word_at words (place - 1)

abbrev pub value_at : List Text → ℕ → Text
value_at words place =
    if is_option (word_at words place) then value_in (word_at words place) else word_at words place

-- ---- options that are near to a text

-- so many characters are put in, left out or changed
abbrev pub edits : Text → Text → ℕ
edits from to = levenshtein_row nat_eq (chars from) (chars to) (length (chars to))

-- the options as they are written in words, in the order of the help
abbrev pub option_names : List Text
option_names =
    codes "--workers" ∷ codes "--block" ∷ codes "--window" ∷ codes "--turns" ∷ codes "--speculate" ∷
    codes "--check" ∷ codes "--count" ∷ codes "--explain" ∷ codes "--stages" ∷ codes "--rule" ∷
    codes "--help" ∷ codes "--version" ∷ []

abbrev pub name_at : ℕ → Text
name_at k = slice_index_or option_names k []

-- two edits or fewer make the text into the option, or the text is its beginning, with more than
-- the minus signs
abbrev pub is_near : Text → Text → Bool
is_near text option =
    nat_le (edits text option) 2 || (nat_lt 2 (length text) && starts_with nat_eq option text)

abbrev pub IsNear : Text → ℕ → Type 0
IsNear text k = is_near text (name_at k) ≡ true

-- of the options that are near none is nearer, and none before this one as near
pub record IsNearestAt (text : Text) (k : ℕ) : Type 0 where
  pub there : k < length option_names
  pub near : IsNear text k
  pub least : (j : ℕ) → j < length option_names → IsNear text j →
      edits text (name_at k) ≤ edits text (name_at j)
  pub first : (j : ℕ) → j < k → IsNear text j → edits text (name_at k) < edits text (name_at j)

abbrev pub IsNearest : Text → Option Text → Type 0
IsNearest text None = (k : ℕ) → k < length option_names → IsNear text k → ⊥
IsNearest text (Some name) = (k : ℕ) × (name ≡ name_at k) × IsNearestAt text k

-- ---- what is told

abbrev pub numbers_to : ℕ → Text
numbers_to most = codes "a number from 1 to " ++ decimal most

-- what stands behind an option that takes a number, or behind `--speculate`
abbrev pub wanted_by : Text → Text
wanted_by option =
    if bytes_eq option (codes "--workers") then numbers_to most_workers
    else (if bytes_eq option (codes "--block") then numbers_to most_trips
    else (if bytes_eq option (codes "--window") then numbers_to most_blocks
    else (if bytes_eq option (codes "--turns") then numbers_to most_turns else codes "adaptive, always or never")))

abbrev pub setting_text : Setting → Text
setting_text setting.Workers = codes "--workers"
setting_text setting.Block = codes "--block"
setting_text setting.Window = codes "--window"
setting_text setting.Turns = codes "--turns"
setting_text setting.Speculate = codes "--speculate"
setting_text setting.Check = codes "--check"
setting_text setting.Count = codes "--count"
setting_text setting.Explain = codes "--explain"
setting_text setting.Stages = codes "--stages"
setting_text setting.Rule = codes "--rule"
setting_text setting.File = codes "a file"

abbrev pub mode_text : Mode → Text
mode_text mode.Rule = codes "--rule"
mode_text mode.Check = codes "--check"
mode_text mode.Never = codes "--speculate never"

-- ---- what options answers

-- what the words ask for
abbrev pub IsAsked : List Text → Options → Type 0
IsAsked words o = (given : Given) × (given_by words ≡ Ok given) × (asked_by given ≡ Ok (shown o))

-- that is wrong with the option
abbrev pub IsAbout : Wrong → List Text → Text → Type 0
IsAbout w words option = (place : ℕ) × IsPlace w words place × (option ≡ option_at words place)

-- the fault says why these words, that are read, name no run
abbrev pub IsClash : {X : Type 0} → OptionsFault → Result X Clash → Type 0
IsClash (fault.TooManyFiles first second) asked = asked ≡ Err (too_many_files first.now second.now)
IsClash (fault.NoSuchSpeculation value) asked = asked ≡ Err (no_such_speculation value.now)
IsClash (fault.NoEffect idle m) asked = asked ≡ Err (no_effect idle m)
IsClash other asked = ⊥

abbrev pub AsksFor : Given → Result Options OptionsFault → Type 0
AsksFor given result =
    MatchResult result (λ o. asked_by given ≡ Ok (shown o)) (λ e. IsClash e (asked_by given))

-- and so of words that are read
abbrev pub Clashes : List Text → OptionsFault → Type 0
Clashes words e = (given : Given) × (given_by words ≡ Ok given) × IsClash e (asked_by given)

-- when each fault comes, and what it tells
abbrev pub IsFault : List Text → OptionsFault → Type 0
IsFault words fault.Help = IsWrong wrong.Help words
IsFault words fault.Version = IsWrong wrong.Version words
IsFault words fault.RuleNames = IsAbout wrong.NoValue words (codes "--rule")
IsFault words (fault.NoSuchOption option) =
    IsAbout wrong.NoSuchOption words option.now × IsNearest option.now None
IsFault words (fault.Misspelt option near) =
    IsAbout wrong.NoSuchOption words option.now × IsNearest option.now (Some near.now)
IsFault words (fault.NoValue option wanted) =
    IsAbout wrong.NoValue words option.now × (bytes_eq option.now (codes "--rule") ≡ false)
    × (wanted.now ≡ wanted_by option.now)
IsFault words (fault.NeedlessValue option) = IsAbout wrong.NeedlessValue words option.now
IsFault words (fault.GivenTwice option) = IsAbout wrong.GivenTwice words option.now
IsFault words (fault.BadNumber option value wanted) =
    (place : ℕ) × IsPlace wrong.BadNumber words place × (option.now ≡ option_at words place)
    × (value.now ≡ value_at words place) × (wanted.now ≡ wanted_by option.now)
IsFault words (fault.TooManyFiles first second) = Clashes words (fault.TooManyFiles first second)
IsFault words (fault.NoSuchSpeculation value) = Clashes words (fault.NoSuchSpeculation value)
IsFault words (fault.NoEffect idle m) = Clashes words (fault.NoEffect idle m)
IsFault words fault.NotUtf8 = ⊥
IsFault words fault.Memory = ⊥

-- an option or a file that has no effect
abbrev pub IsIdle : OptionsFault → Option (Setting × Mode) → Type 0
IsIdle (fault.NoEffect idle m) pair = pair ≡ Some (idle, m)
IsIdle other pair = ⊥
