-- What the words of a command line ask for. They are read from the left; what an option or a file
-- comes to is decided when the word behind it is known.
use Rattle.std.specs.Prelude.{ℕ, Bool, true, false, ◌==◌, ◌&&◌, List, [], ◌∷◌, ◌++◌, drop, length}
use Rattle.std.specs.Prelude.{Option, Some, None, is_some}
use Rattle.std.specs.Prelude.{Result, Ok, Err, if◌then◌else◌, nat_lt, nat_le, codes, slice_get}
use Rattle.std.specs.Prelude.{option_and_then, option_map}
use Rattle.std.specs.List.{list_all}
use Rattle.std.specs.Option.{option_map_or}
use Rattle.std.specs.Char.{digit_value}
use Rattle.std.specs.Str.{bytes_eq, chars}
use Rattle.std.specs.Str.Parse.{digits_value, without_leading_plus}
use Rattle.clap.specs.Lexer.{long_of, short_of}
use Rattle.meaning.specs.Plans.{PlanNumbers, most_workers, most_trips, most_blocks, most_turns}
use Rattle.command_line.specs.declared.asked.Speculation.{Speculation}
use Rattle.command_line.specs.declared.asked.Speculation.TheVariants as speculation
use Rattle.command_line.specs.declared.asked.Mode.{Mode}
use Rattle.command_line.specs.declared.asked.Mode.TheVariants as mode
use Rattle.command_line.specs.declared.asked.Setting.{Setting}
use Rattle.command_line.specs.declared.asked.Setting.TheVariants as setting
use Rattle.command_line.specs.declared.asked.Wrong.{Wrong}
use Rattle.command_line.specs.declared.asked.Wrong.TheVariants as wrong

abbrev pub Text : Type 0
Text = List ℕ

-- ---- what a word can give

-- one of the four options that take a number, the two that take a word, or a file
pub data Part : Type 0 where
  workers : Part
  block : Part
  window : Part
  turns : Part
  rule : Part
  speculating : Part
  file : Part

-- an option that takes nothing
pub data Flag : Type 0 where
  checks : Flag
  counts : Flag
  explains : Flag
  stages : Flag

pub data Name : Type 0 where
  part : Part → Name
  flag : Flag → Name

abbrev pub name_of : Name → Text
name_of (part workers) = codes "workers"
name_of (part block) = codes "block"
name_of (part window) = codes "window"
name_of (part turns) = codes "turns"
name_of (part rule) = codes "rule"
name_of (part speculating) = codes "speculate"
name_of (part file) = codes "FILE"
name_of (flag checks) = codes "check"
name_of (flag counts) = codes "count"
name_of (flag explains) = codes "explain"
name_of (flag stages) = codes "stages"

-- the greatest number that an option takes; the least is 1
abbrev pub greatest : Part → Option ℕ
greatest workers = Some most_workers
greatest block = Some most_trips
greatest window = Some most_blocks
greatest turns = Some most_turns
greatest rule = None
greatest speculating = None
greatest file = None

-- files alone may be more than one, which is told behind all words
abbrev pub is_repeated : Part → Bool
is_repeated file = true
is_repeated other = false

-- the number of an option that isn't given
abbrev pub default_of : Part → ℕ
default_of workers = 4
default_of block = 64
default_of window = 8
default_of turns = 1000000000
default_of rule = 0
default_of speculating = 0
default_of file = 0

-- ---- a word by itself

pub data Word : Type 0 where
  -- `--`, behind which each word is a file
  ends : Word
  -- `--name` or `--name=value` of an option
  gives : Part → Option Text → Word
  -- `--name` of a flag
  sets : Flag → Word
  -- `--help`, `-h`, `--version`, `-V`
  asks : Wrong → Word
  -- any other word that begins with a minus sign, but for the sign alone
  errs : Wrong → Word
  -- a number or a file
  loose : Word

-- a flag takes no value, and a request takes none
abbrev pub alone : Word → Option Text → Word
alone word None = word
alone word (Some value) = errs wrong.NeedlessValue

abbrev pub long_word : Text → Option Text → Word
long_word name value =
    if bytes_eq (codes "workers") name then gives workers value
    else (if bytes_eq (codes "block") name then gives block value
    else (if bytes_eq (codes "window") name then gives window value
    else (if bytes_eq (codes "turns") name then gives turns value
    else (if bytes_eq (codes "rule") name then gives rule value
    else (if bytes_eq (codes "speculate") name then gives speculating value
    else (if bytes_eq (codes "check") name then alone (sets checks) value
    else (if bytes_eq (codes "count") name then alone (sets counts) value
    else (if bytes_eq (codes "explain") name then alone (sets explains) value
    else (if bytes_eq (codes "stages") name then alone (sets stages) value
    else (if bytes_eq (codes "help") name then alone (asks wrong.Help) value
    else (if bytes_eq (codes "version") name then alone (asks wrong.Version) value
    else errs wrong.NoSuchOption)))))))))))

-- by the character behind the minus sign: h (104) or V (86)
abbrev pub letter_word : Option ℕ → Word
letter_word None = loose
letter_word (Some letter) =
    if 104 == letter then asks wrong.Help
    else (if 86 == letter then asks wrong.Version else errs wrong.NoSuchOption)

abbrev pub short_word : Option Text → Word
short_word None = loose
short_word (Some letters) = letter_word (slice_get (chars letters) 0)

abbrev pub long_or_short : Option (Text × Option Text) → Text → Word
long_or_short (Some p) word = long_word p.0 p.1
long_or_short None word = short_word (short_of word)

abbrev pub word_of : Text → Word
word_of word = if bytes_eq word (45 ∷ 45 ∷ []) then ends else long_or_short (long_of word) word

-- ---- the words one after another

-- the texts of options and files, in their order; that of a flag is `true`
abbrev pub Given : Type 0
Given = List (Name × Text)

-- what was given so far, the option or file named last, which is still held, and whether all that
-- follows are files
pub record Line : Type 0 where
  pub given : Given
  pub held : Option (Part × Option Text)
  pub only_files : Bool

abbrev pub values : Name → Given → List Text
values name [] = []
values name (g ∷ gs) =
    if bytes_eq (name_of g.0) (name_of name) then g.1 ∷ values name gs else values name gs

abbrev pub first : Name → Given → Option Text
first name given = slice_get (values name given) 0

abbrev pub is_on : Flag → Given → Bool
is_on f given = is_some (first (flag f) given)

-- digits, behind a plus sign or not
abbrev pub is_number : Text → Bool
is_number text =
    let digits = without_leading_plus text in
    nat_lt 0 (length digits) && list_all (λ d. nat_lt (digit_value d) 10) digits

abbrev pub number_of : Text → ℕ
number_of text = digits_value 10 (without_leading_plus text)

abbrev pub is_in : ℕ → Text → Bool
is_in most text = is_number text && (nat_le 1 (number_of text) && nat_le (number_of text) most)

abbrev pub behind : {X Y E : Type 0} → Result X E → (X → Result Y E) → Result Y E
behind (Ok x) next = next x
behind (Err f) next = Err f

abbrev pub with_text : Name → Text → Given → Given
with_text name value given = given ++ (name, value) ∷ []

abbrev pub put_if : Bool → Bool → Name → Text → Given → Result Given Wrong
put_if true fits name value given = Err wrong.GivenTwice
put_if false true name value given = Ok (with_text name value given)
put_if false false name value given = Err wrong.BadNumber

-- a number is in its range; names are any texts
abbrev pub fits_under : Option ℕ → Text → Bool
fits_under None value = true
fits_under (Some most) value = is_in most value

-- an option is given once
abbrev pub put : Part → Text → Given → Result Given Wrong
put p value given =
    if is_repeated p then Ok (with_text (part p) value given)
    else put_if (is_some (first (part p) given)) (fits_under (greatest p) value) (part p) value
    given

-- and so a flag
abbrev pub put_flag : Flag → Given → Result Given Wrong
put_flag f given = put_if (is_on f given) true (flag f) (codes "true") given

-- what is held comes to an end
abbrev pub closed : Given → Option (Part × Option Text) → Result Given Wrong
closed given None = Ok given
closed given (Some (p, None)) = Err wrong.NoValue
closed given (Some (p, Some value)) = put p value given

abbrev pub closed_line : Line → Result Given Wrong
closed_line line = closed line.given line.held

abbrev pub holding : Line → Option (Part × Option Text) → Result Line Wrong
holding line next =
    behind (closed_line line) (λ given. Ok (record line { given = given; held = next }))

-- the word is complete by itself, and nothing is held behind it
abbrev pub putting : Line → (Given → Result Given Wrong) → Result Line Wrong
putting line next =
    behind (closed_line line) (λ given. behind
    (next given) (λ more. Ok (record line { given = more; held = None })))

abbrev pub give : Part → Option Text → Line → Result Line Wrong
give p None line = holding line (Some (p, None))
give p (Some value) line = putting line (put p value)

-- the value of an option that has none yet, or a file
abbrev pub take : Text → Option (Part × Option Text) → Line → Result Line Wrong
take word (Some (p, None)) line = Ok (record line { held = Some (p, Some word) })
take word other line = holding line (Some (file, Some word))

abbrev pub meet : Word → Text → Line → Result Line Wrong
meet ends word line = Ok (record line { only_files = true })
meet (gives p value) word line = give p value line
meet (sets f) word line = putting line (put_flag f)
meet (asks wanted) word line = behind (closed_line line) (λ given. Err wanted)
meet (errs wrong) word line = Err wrong
meet loose word line = take word line.held line

abbrev pub moved : Text → Line → Result Line Wrong
moved word line =
    if line.only_files then holding line (Some (file, Some word)) else meet (word_of word) word line

unfoldable pub read : List Text → Line → Result Given Wrong
read [] line = closed_line line
read (word ∷ words) line = behind (moved word line) (read words)

-- what is given by the words, the first of which is the program's name
abbrev pub nothing_read : Line
nothing_read = record { given = []; held = None; only_files = false }

abbrev pub given_by : List Text → Result Given Wrong
given_by words = read (drop 1 words) nothing_read

-- ---- what has no effect with what is given

abbrev pub stands : Setting → Given → Bool
stands setting.Workers given = is_some (first (part workers) given)
stands setting.Block given = is_some (first (part block) given)
stands setting.Window given = is_some (first (part window) given)
stands setting.Turns given = is_some (first (part turns) given)
stands setting.Speculate given = is_some (first (part speculating) given)
stands setting.Check given = is_on checks given
stands setting.Count given = is_on counts given
stands setting.Explain given = is_on explains given
stands setting.Stages given = is_on stages given
stands setting.Rule given = is_some (first (part rule) given)
stands setting.File given = is_some (first (part file) given)

-- what leaves others without an effect
abbrev pub mode_by : Bool → Bool → Speculation → Option Mode
mode_by true checked chosen = Some mode.Rule
mode_by false true chosen = Some mode.Check
mode_by false false speculation.Never = Some mode.Never
mode_by false false speculation.Adaptive = None
mode_by false false speculation.Always = None

abbrev pub mode_of : Given → Speculation → Option Mode
mode_of given chosen = mode_by (stands setting.Rule given) (stands setting.Check given) chosen

-- a rule is shown, and nothing else is looked at
abbrev pub is_idle_by_rule : Setting → Bool
is_idle_by_rule setting.Rule = false
is_idle_by_rule other = true

-- a source is checked, and not run
abbrev pub is_idle_by_check : Setting → Bool
is_idle_by_check setting.Check = false
is_idle_by_check setting.Explain = false
is_idle_by_check setting.Rule = false
is_idle_by_check setting.File = false
is_idle_by_check other = true

-- a source is run by one worker
abbrev pub is_idle_by_never : Setting → Bool
is_idle_by_never setting.Workers = true
is_idle_by_never setting.Block = true
is_idle_by_never setting.Window = true
is_idle_by_never other = false

abbrev pub is_idle : Mode → Setting → Bool
is_idle mode.Rule s = is_idle_by_rule s
is_idle mode.Check s = is_idle_by_check s
is_idle mode.Never s = is_idle_by_never s

-- the settings, in the order of the help
abbrev pub settings : List Setting
settings =
    setting.Workers ∷ setting.Block ∷ setting.Window ∷ setting.Turns ∷ setting.Speculate ∷
    setting.Check ∷ setting.Count ∷ setting.Explain ∷ setting.Stages ∷ setting.Rule ∷
    setting.File ∷ []

-- the first of these that is given and has no effect
abbrev pub first_idle : Mode → Given → List Setting → Option Setting
first_idle m given [] = None
first_idle m given (s ∷ ss) =
    if is_idle m s && stands s given then Some s else first_idle m given ss

abbrev pub idle_with : Given → Mode → Option (Setting × Mode)
idle_with given m = option_map (λ s. (s, m)) (first_idle m given settings)

abbrev pub idle_pair : Given → Speculation → Option (Setting × Mode)
idle_pair given chosen = option_and_then (idle_with given) (mode_of given chosen)

-- ---- what they ask for

-- why words that are read name no run
pub data Clash : Type 0 where
  -- the first two files
  too_many_files : Text → Text → Clash
  -- what is given for `--speculate`
  no_such_speculation : Text → Clash
  -- what has no effect, and with what
  no_effect : Setting → Mode → Clash

abbrev pub number_in : Part → Given → ℕ
number_in p given = option_map_or number_of (first (part p) given) (default_of p)

abbrev pub plan_in : Given → PlanNumbers
plan_in given =
    record {
      workers = number_in workers given;
      block = number_in block given;
      window = number_in
          window given;
      turns = number_in turns given;
    }

-- one file at most
abbrev pub files_of : List Text → Result (Option Text) Clash
files_of [] = Ok None
files_of (f ∷ []) = Ok (Some f)
files_of (f ∷ g ∷ more) = Err (too_many_files f g)

-- which of its words is given for `--speculate`, or none is
abbrev pub speculation_of : Option Text → Result Speculation Clash
speculation_of None = Ok speculation.Adaptive
speculation_of (Some word) =
    if bytes_eq word (codes "adaptive") then Ok speculation.Adaptive
    else (if bytes_eq word (codes "always") then Ok speculation.Always
    else (if bytes_eq word (codes "never") then Ok speculation.Never
    else Err (no_such_speculation word)))

-- the plan, what is tried in parallel, the file, the name of a rule or a fault, and which flags are
-- given
pub record Asked : Type 0 where
  pub plan : PlanNumbers
  pub speculate : Speculation
  pub file : Option Text
  pub rule : Option Text
  pub check : Bool
  pub count : Bool
  pub explain : Bool
  pub stages : Bool

abbrev pub with_effect : Given → Option Text → Speculation → Option (Setting × Mode) →
    Result Asked Clash
with_effect given named chosen (Some idle) = Err (no_effect idle.0 idle.1)
with_effect given named chosen None = Ok (record {
  plan = plan_in given;
  speculate = chosen;
  file = named;
  rule = first (part rule) given;
  check = is_on checks given;
  count = is_on counts given;
  explain = is_on explains given;
  stages = is_on stages given;
})

-- the number of files is looked at first, then the word of `--speculate`, and then what has no
-- effect
abbrev pub asked_by : Given → Result Asked Clash
asked_by given =
    behind (files_of (values (part file) given)) (λ named.
    behind (speculation_of (first (part speculating) given)) (λ chosen. with_effect given named
    chosen (idle_pair given chosen)))
