-- What clap's definitions say of f77run's command is what the words ask for.
use Rattle.std.proofs.Common.{◌≡◌, ◌∙◌, ◌<◌, ◌≤◌, ◌^◌, ◌==◌, ◌&&◌, ◌||◌, ℕ, Bool, cond, true, false, zero, suc, refl, sym, ap, ap₂, subst, arith, List, [], ◌∷◌, ◌++◌, length, inl, inr, Option, Some, None, Result, Ok, Err, true≢false, nat_lt, nat_le, append-nil, codes}
use Rattle.std.proofs.lemmas.Bool.{le-ltb, leb-true, lt-ltb}
use Rattle.std.proofs.lemmas.Bool.Decides.{Decides-eqb}
use Rattle.std.specs.Option.{option_map_or}
use Rattle.std.specs.Prelude.{◌⊎◌, drop, encode_utf8, option_map, option_and_then, slice_get, find, is_some, fold, map, unwrap_or, slice_index_or}
use Rattle.std.specs.Borrow.{Bor}
use Rattle.std.proofs.lemmas.List.{length-map}
use Rattle.std.specs.List.{list_all}
use Rattle.std.specs.Str.{bytes_eq, chars}
use Rattle.std.proofs.lemmas.Slice.Eq.{bytes_eq-Decides}
use Rattle.clap.specs.Values.{kind_of, read_as}
use Rattle.clap.specs.Matches.{found_of, matched_of, ReadsOne, one_text, raw_values}
use Rattle.clap.proofs.WalkLemmas.{one_text-rows, raw_values-rows}
use Rattle.clap.proofs.ValueTestLemmas.{accepts-Accepts}
use Rattle.std.specs.Str.Parse.{ParsesUnsigned}
use Rattle.clap.specs.declared.builder.value_parser.ValueParser.TheVariants as vp
use Rattle.clap.specs.declared.error.Error.{Error}
use Rattle.clap.specs.declared.parser.matches.ArgMatches.{ArgMatches}
use Rattle.clap.specs.ValueTests.{is_unsigned_in}
use Rattle.clap.specs.Kinds.{HasKind, IsAmong, Kinds, or_else}
use Rattle.clap.specs.Lexer.{long_of, short_of}
use Rattle.clap.specs.Faults.{bundle_fault, bundle_step_fault, check_fault, default_fault, defaults_fault, entered_fault, given_default_fault, flag_word_fault, flags_fault, long_fault, other_fault, settle_fault, short_fault, step_fault, fault_of, turn_fault, use_fault, walk_fault}
use Rattle.clap.specs.Simple.{Shape, built, entered, filled, help_rule, matches_of, version_rule, with_index}
use Rattle.clap.specs.Walk.{Held, Row, Rule, Step, Waiting, Walk, after_flag, after_step, all_of, arg_by_long, bundle_met, bundle_step, default_rows, done, finished, has_row, is_empty, idle, is_pending, long_met, long_or_other, option, plain, plain_word, positional, pushed, reading_by, short_met, short_or_plain, subcommand_met, subcommand_or_other, trailing, walked, with_default, one_of, row_text, rows_of, settled, used, with_values, without}
use Rattle.clap.specs.declared.error.kind.ErrorKind.{ErrorKind}
use Rattle.clap.specs.declared.error.kind.ErrorKind.TheVariants as kind
use Rattle.clap.specs.declared.parser.matches.ValueSource.{ValueSource}
use Rattle.clap.specs.declared.parser.matches.ValueSource.TheVariants.{CommandLine, DefaultValue}
use Rattle.clap.specs.declared.builder.value_parser.Reading.{Reading}
use Rattle.clap.specs.declared.builder.value_parser.Reading.TheVariants.{AsWritten}
use Rattle.command_line.specs.Command.{f77run, wrong_for, file_rule, flag_rule, number_rule, word_rule}
use Rattle.command_line.specs.CommandLine.{Flag, Given, Line, Name, Part, Text, Word, alone, asks, behind, block, checks, closed, counts, default_of, ends, errs, explains, file, files_of, first, fits_under, flag, give, given_by, gives, greatest, holding, is_in, is_number, is_on, letter_word, long_or_short, long_word, meet, moved, name_of, nothing_read, number_in, number_of, part, put, put_flag, put_if, read, rule, sets, short_word, speculating, stages, take, too_many_files, turns, values, window, with_text, word_of, workers}
use Rattle.command_line.specs.Matches.{AreGiven, HoldTexts, IsGiven, IsNumber, as_found, as_seen, fits, seen}
use Rattle.command_line.specs.declared.asked.Wrong.{Wrong}
use Rattle.command_line.specs.declared.asked.Wrong.TheVariants as wrong

-- ---- rows

pub has_row-seen : (id : Text) (rows : List Row) → has_row id rows ≡ is_some (seen id rows)
has_row-seen id [] = refl
has_row-seen id (r ∷ rs) = go (bytes_eq r.id id) (has_row-seen id rs)
  where
    go : (b : Bool) → has_row id rs ≡ is_some (seen id rs) → (b || has_row id rs) ≡ is_some (cond b (Some (r.values, r.reading)) (seen id rs))
    go true e = refl
    go false e = e

pub one_of-seen : (id : Text) (rows : List Row) → one_of id rows ≡ option_and_then (λ (s : List Text × Reading). option_map (read_as s.1) (slice_get s.0 0)) (seen id rows)
one_of-seen id [] = refl
one_of-seen id (r ∷ rs) = go (bytes_eq r.id id) (one_of-seen id rs)
  where
    go : (b : Bool) → one_of id rs ≡ option_and_then (λ (s : List Text × Reading). option_map (read_as s.1) (slice_get s.0 0)) (seen id rs)
        → option_and_then row_text (cond b (Some r) (find (λ (x : Row). bytes_eq x.id id) rs))
        ≡ option_and_then (λ (s : List Text × Reading). option_map (read_as s.1) (slice_get s.0 0)) (cond b (Some (r.values, r.reading)) (seen id rs))
    go true e = refl
    go false e = e

pub all_of-seen : (id : Text) (rows : List Row) → all_of id rows ≡ option_map (λ (s : List Text × Reading). s.0) (seen id rows)
all_of-seen id [] = refl
all_of-seen id (r ∷ rs) = go (bytes_eq r.id id) (all_of-seen id rs)
  where
    go : (b : Bool) → all_of id rs ≡ option_map (λ (s : List Text × Reading). s.0) (seen id rs)
        → option_map (λ (x : Row). x.values) (cond b (Some r) (find (λ (x : Row). bytes_eq x.id id) rs))
        ≡ option_map (λ (s : List Text × Reading). s.0) (cond b (Some (r.values, r.reading)) (seen id rs))
    go true e = refl
    go false e = e

-- one more value of an id
abbrev pub put_row : ValueSource → Text → Text → List Row → List Row
put_row s id v rows = with_values id AsWritten s (v ∷ []) rows

abbrev added : Option (List Text × Reading) → Text → Option (List Text × Reading)
added None v = Some (v ∷ [], AsWritten)
added (Some s) v = Some (s.0 ++ v ∷ [], s.1)

seen_put : (s : ValueSource) (id other v : Text) (rows : List Row) → seen other (put_row s id v rows) ≡ cond (bytes_eq id other) (added (seen other rows) v) (seen other rows)
seen_put s id other v [] = refl
seen_put s id other v (r ∷ rs) = go (bytes_eq r.id id) refl (bytes_eq r.id other) refl (bytes_eq id other) refl (seen_put s id other v rs)
  where
    same : bytes_eq r.id id ≡ true → bytes_eq r.id other ≡ bytes_eq id other
    same e = ap (λ (t : Text). bytes_eq t other) ((bytes_eq-Decides r.id id).0 e)

    never : bytes_eq r.id id ≡ false → bytes_eq r.id other ≡ true → bytes_eq id other ≡ true → ⊥
    never b d c =
        let joined : r.id ≡ id = (bytes_eq-Decides r.id other).0 d ∙ sym ((bytes_eq-Decides id other).0 c) in
        true≢false (sym ((bytes_eq-Decides r.id id).1 joined) ∙ b)

    go : (b : Bool) → bytes_eq r.id id ≡ b → (d : Bool) → bytes_eq r.id other ≡ d → (c : Bool) → bytes_eq id other ≡ c
        → seen other (put_row s id v rs) ≡ cond (bytes_eq id other) (added (seen other rs) v) (seen other rs)
        → seen other (cond b (record r { values = r.values ++ v ∷ []; source = Some (Rattle.clap.specs.Walk.stronger r.source s) } ∷ rs) (r ∷ put_row s id v rs))
        ≡ cond c (added (cond d (Some (r.values, r.reading)) (seen other rs)) v) (cond d (Some (r.values, r.reading)) (seen other rs))
    go true b true d true c ih = ap (λ t. cond t (Some (r.values ++ v ∷ [], r.reading)) (seen other rs)) d
    go true b true d false c ih = absurd (true≢false (sym d ∙ same b ∙ c))
    go true b false d true c ih = absurd (true≢false (sym c ∙ sym (same b) ∙ d))
    go true b false d false c ih = ap (λ t. cond t (Some (r.values ++ v ∷ [], r.reading)) (seen other rs)) d
    go false b true d true c ih = absurd (never b d c)
    go false b true d false c ih = ap (λ t. cond t (Some (r.values, r.reading)) (seen other (put_row s id v rs))) d
    go false b false d f c ih =
        ap (λ t. cond t (Some (r.values, r.reading)) (seen other (put_row s id v rs))) d ∙ ih ∙ ap (λ t. cond t (added (seen other rs) v) (seen other rs)) c

without_none : (id : Text) (rows : List Row) → has_row id rows ≡ false → without id rows ≡ rows
without_none id [] none = refl
without_none id (r ∷ rs) none = go (bytes_eq r.id id) none (without_none id rs)
  where
    go : (b : Bool) → (b || has_row id rs) ≡ false → (has_row id rs ≡ false → without id rs ≡ rs) → cond b rs (r ∷ without id rs) ≡ r ∷ rs
    go true e ih = absurd (true≢false e)
    go false e ih = ap (λ l. r ∷ l) (ih e)

-- ---- what was given, and rows

values_put : (name other : Name) (v : Text) (given : Given)
    → values other (given ++ (name, v) ∷ []) ≡ values other given ++ cond (bytes_eq (name_of name) (name_of other)) (v ∷ []) []
values_put name other v [] = go (bytes_eq (name_of name) (name_of other))
  where
    go : (b : Bool) → cond b (v ∷ []) [] ≡ [] ++ cond b (v ∷ []) []
    go true = refl
    go false = refl
values_put name other v (g ∷ gs) = go (bytes_eq (name_of g.0) (name_of other)) (values_put name other v gs)
  where
    go : (b : Bool) → values other (gs ++ (name, v) ∷ []) ≡ values other gs ++ cond (bytes_eq (name_of name) (name_of other)) (v ∷ []) []
        → cond b (g.1 ∷ values other (gs ++ (name, v) ∷ [])) (values other (gs ++ (name, v) ∷ []))
        ≡ cond b (g.1 ∷ values other gs) (values other gs) ++ cond (bytes_eq (name_of name) (name_of other)) (v ∷ []) []
    go true e = ap (λ l. g.1 ∷ l) e
    go false e = e

added_seen : (vs : List Text) (v : Text) → added (as_seen vs) v ≡ as_seen (vs ++ v ∷ [])
added_seen [] v = refl
added_seen (x ∷ xs) v = refl

-- the rows hold what was given; flags have none until the defaults are put in
abbrev pub Rows : Given → List Row → Type 0
Rows given rows = (name : Name) → seen (name_of name) rows ≡ as_seen (values name given)

rows_put : (name : Name) (v : Text) (given : Given) (rows : List Row)
    → Rows given rows → Rows (with_text name v given) (put_row CommandLine (name_of name) v rows)
rows_put name v given rows h other =
    seen_put CommandLine (name_of name) (name_of other) v rows ∙ go (bytes_eq (name_of name) (name_of other)) ∙ sym (ap as_seen (values_put name other v given))
  where
    go : (b : Bool) → cond b (added (seen (name_of other) rows) v) (seen (name_of other) rows) ≡ as_seen (values other given ++ cond b (v ∷ []) [])
    go true = ap (λ s. added s v) (h other) ∙ added_seen (values other given) v
    go false = h other ∙ ap as_seen (sym (append-nil (values other given)))

abbrev pub Fits_all : Given → Type 0
Fits_all given = list_all fits given ≡ true

all_put : {X : Type 0} (test : X → Bool) (xs : List X) (x : X) → list_all test xs ≡ true → test x ≡ true → list_all test (xs ++ x ∷ []) ≡ true
all_put test [] x h e = ap (λ b. b && true) e
all_put test (y ∷ ys) x h e = go (test y) h (λ t. all_put test ys x t e)
  where
    go : (b : Bool) → (b && list_all test ys) ≡ true → (list_all test ys ≡ true → list_all test (ys ++ x ∷ []) ≡ true)
        → (b && list_all test (ys ++ x ∷ [])) ≡ true
    go true t f = f t
    go false t f = absurd (true≢false (sym t))

-- ---- what a step comes to

-- what is given, by clap's kinds and rows
abbrev pub Comes : Result Given Wrong → Kinds → List Row → Type 0
Comes (Ok given) kinds rows = (kinds ≡ []) × Rows given rows × Fits_all given
Comes (Err f) kinds rows = (k : ErrorKind) × (kinds ≡ k ∷ []) × (wrong_for k ≡ f)

abbrev pub rules : List Rule
rules = (built f77run).top.rules

abbrev number_at : Text → ℕ → Rule
number_at id most = with_index 1 (filled (number_rule id most))

abbrev file_at : Rule
file_at = with_index 1 (filled file_rule)

and_false : (b : Bool) → (b && false) ≡ false
and_false true = refl
and_false false = refl

or-true : (b : Bool) → (b || true) ≡ true
or-true true = refl
or-true false = refl

in_range : (most : ℕ) (v : Text) → most < 2 ^ 64 → is_unsigned_in 1 most v ≡ is_in most v
in_range most v small = ap (λ b. is_number v && b) (go (nat_le 1 (number_of v)) (nat_le (number_of v) most) refl)
  where
    go : (low high : Bool) → nat_le (number_of v) most ≡ high → (nat_lt (number_of v) (2 ^ 64) && (low && high)) ≡ (low && high)
    go true true e =
        let below : number_of v ≤ most = leb-true (number_of v) most e in
        ap (λ b. b && true) (lt-ltb (number_of v) (2 ^ 64) (omega arith))
    go true false e = and_false (nat_lt (number_of v) (2 ^ 64))
    go false high e = and_false (nat_lt (number_of v) (2 ^ 64))

first_seen : (vs : List Text) → is_some (as_seen vs) ≡ is_some (slice_get vs 0)
first_seen [] = refl
first_seen (v ∷ vs) = refl

-- a name has a row where something was given by it
has_given : (name : Name) (given : Given) (rows : List Row) → Rows given rows → has_row (name_of name) rows ≡ is_some (first name given)
has_given name given rows h = has_row-seen (name_of name) rows ∙ ap is_some (h name) ∙ first_seen (values name given)

numbered_put : (p : Part) (most : ℕ) (v : Text) (given : Given) (rows : List Row) → greatest p ≡ Some most → most < 2 ^ 64 → Rows given rows → Fits_all given
    → Comes (put_if (is_some (first (part p) given)) (is_in most v) (part p) v given) (use_fault false (number_at (name_of (part p)) most) (v ∷ []) rows)
    (used (number_at (name_of (part p)) most) (v ∷ []) rows)
numbered_put p most v given rows known small h all =
    go (is_some (first (part p) given)) (is_in most v) (has_given (part p) given rows h) (in_range most v small) refl
  where
    kinds : Bool → Bool → Kinds
    kinds again good = or_else (cond (again && true) (kind.ArgumentConflict ∷ []) []) (or_else (cond good [] (kind.ValueValidation ∷ [])) [])

    go : (again good : Bool) → has_row (name_of (part p)) rows ≡ again → is_unsigned_in 1 most v ≡ good → is_in most v ≡ good
        → Comes (put_if again good (part p) v given) (use_fault false (number_at (name_of (part p)) most) (v ∷ []) rows)
        (used (number_at (name_of (part p)) most) (v ∷ []) rows)
    go true good a g i = (kind.ArgumentConflict, ap₂ kinds a g, refl)
    go false true a g i = (
      ap₂ kinds a g,
      subst (λ l. Rows (with_text (part p) v given) (put_row CommandLine (name_of (part p)) v l)) (sym (without_none (name_of (part p)) rows a)) (rows_put (part p) v given rows h),
      all_put fits given (part p, v) all (ap (λ o. fits_under o v) known ∙ i),
    )
    go false false a g i = (kind.ValueValidation, ap₂ kinds a g, refl)

-- what has a text in any case is given once: its rule's faults are those of a second use
once_put : (name : Name) (v : Text) (given : Given) (rows : List Row) (faults : Kinds) (after : List Row) → Rows given rows → Fits_all given → fits (name, v) ≡ true
    → faults ≡ or_else (cond (has_row (name_of name) rows && true) (kind.ArgumentConflict ∷ []) []) []
    → after ≡ put_row CommandLine (name_of name) v (without (name_of name) rows)
    → Comes (put_if (is_some (first name given)) true name v given) faults after
once_put name v given rows faults after h all fit known left = go (is_some (first name given)) (has_given name given rows h)
  where
    kinds : Bool → Kinds
    kinds again = or_else (cond (again && true) (kind.ArgumentConflict ∷ []) []) []

    go : (again : Bool) → has_row (name_of name) rows ≡ again → Comes (put_if again true name v given) faults after
    go true a = (kind.ArgumentConflict, known ∙ ap kinds a, refl)
    go false a = (
      known ∙ ap kinds a,
      subst (Rows (with_text name v given)) (sym (left ∙ ap (put_row CommandLine (name_of name) v) (without_none (name_of name) rows a))) (rows_put name v given rows h),
      all_put fits given (name, v) all fit,
    )

abbrev name_at : Text → Rule
name_at id = with_index 1 (filled (word_rule id))

abbrev flag_at : Flag → Rule
flag_at f = with_index 1 (filled (flag_rule (name_of (flag f))))

abbrev rule_at : Part → Rule
rule_at workers = number_at (codes "workers") 64
rule_at block = number_at (codes "block") 1000000
rule_at window = number_at (codes "window") 256
rule_at turns = number_at (codes "turns") 1000000000000
rule_at rule = name_at (codes "rule")
rule_at speculating = name_at (codes "speculate")
rule_at file = file_at

put_told : (p : Part) (v : Text) (given : Given) (rows : List Row) → Rows given rows → Fits_all given
    → Comes (put p v given) (use_fault false (rule_at p) (v ∷ []) rows) (used (rule_at p) (v ∷ []) rows)
put_told workers v given rows h all = numbered_put workers 64 v given rows refl (omega arith) h all
put_told block v given rows h all = numbered_put block 1000000 v given rows refl (omega arith) h all
put_told window v given rows h all = numbered_put window 256 v given rows refl (omega arith) h all
put_told turns v given rows h all = numbered_put turns 1000000000000 v given rows refl (omega arith) h all
put_told rule v given rows h all = once_put (part rule) v given rows _ _ h all refl refl refl
put_told speculating v given rows h all = once_put (part speculating) v given rows _ _ h all refl refl refl
put_told file v given rows h all = (refl, rows_put (part file) v given rows h, all_put fits given (part file, v) all refl)

flag_put : (f : Flag) (given : Given) (rows : List Row) → Rows given rows → Fits_all given
    → Comes (put_flag f given) (use_fault false (flag_at f) [] rows) (used (flag_at f) [] rows)
flag_put f given rows h all = once_put (flag f) (codes "true") given rows _ _ h all refl refl refl

-- what clap holds for what is held here
abbrev pub pending_of : Option (Part × Option Text) → Option (Text × List Text)
pending_of None = None
pending_of (Some (p, None)) = Some (name_of (part p), [])
pending_of (Some (p, Some v)) = Some (name_of (part p), v ∷ [])

abbrev pub holds : List Row → Option (Part × Option Text) → Held
holds rows held = record { rows = rows; pending = pending_of held; skip = 0 }

closed_told : (given : Given) (held : Option (Part × Option Text)) (rows : List Row) → Rows given rows → Fits_all given
    → Comes (closed given held) (settle_fault rules false (holds rows held)) (settled rules (holds rows held)).rows
closed_told given None rows h all = (refl, h, all)
closed_told given (Some (workers, None)) rows h all = (kind.InvalidValue, refl, refl)
closed_told given (Some (block, None)) rows h all = (kind.InvalidValue, refl, refl)
closed_told given (Some (window, None)) rows h all = (kind.InvalidValue, refl, refl)
closed_told given (Some (turns, None)) rows h all = (kind.InvalidValue, refl, refl)
closed_told given (Some (rule, None)) rows h all = (kind.InvalidValue, refl, refl)
closed_told given (Some (speculating, None)) rows h all = (kind.InvalidValue, refl, refl)
closed_told given (Some (file, None)) rows h all = (kind.InvalidValue, refl, refl)
closed_told given (Some (workers, Some v)) rows h all = put_told workers v given rows h all
closed_told given (Some (block, Some v)) rows h all = put_told block v given rows h all
closed_told given (Some (window, Some v)) rows h all = put_told window v given rows h all
closed_told given (Some (turns, Some v)) rows h all = put_told turns v given rows h all
closed_told given (Some (rule, Some v)) rows h all = put_told rule v given rows h all
closed_told given (Some (speculating, Some v)) rows h all = put_told speculating v given rows h all
closed_told given (Some (file, Some v)) rows h all = put_told file v given rows h all

-- ---- a word

abbrev pub standing : Option (Part × Option Text) → Bool → List Row → Waiting → Walk
standing held only rows waiting =
    record { held = holds rows held; waiting = waiting; position = 1; is_trailing = only; stopped = None }

-- what takes the next word in clap's walk
abbrev pub Waits : Option (Part × Option Text) → Waiting → Type 0
Waits None waiting = (waiting ≡ idle) ⊎ (waiting ≡ positional)
Waits (Some (p, None)) waiting = waiting ≡ option (name_of (part p))
Waits (Some (p, Some v)) waiting = (waiting ≡ idle) ⊎ (waiting ≡ positional)

abbrev pub Stands : Line → Walk → Type 0
Stands line w = (rows : List Row) × (waiting : Waiting) × (w ≡ standing line.held line.only_files rows waiting) × Rows line.given rows
    × Fits_all line.given × Waits line.held waiting

abbrev pub Steps : Result Line Wrong → Kinds → Walk → Type 0
Steps (Ok line) kinds w = (kinds ≡ []) × Stands line w
Steps (Err f) kinds w = (k : ErrorKind) × (kinds ≡ k ∷ []) × (wrong_for k ≡ f)

nil_behind : (kinds : Kinds) → or_else kinds [] ≡ kinds
nil_behind [] = refl
nil_behind (k ∷ ks) = refl

-- what was held is done with, and this is held
held_told : (r : Result Given Wrong) (kinds : Kinds) (rows : List Row) (only : Bool) (next : Option (Part × Option Text)) (waiting : Waiting)
    → Comes r kinds rows → Waits next waiting
    → Steps (behind r (λ given. Ok (record { given = given; held = next; only_files = only }))) kinds (standing next only rows waiting)
held_told (Ok given) kinds rows only next waiting c w = (c.0, (rows, waiting, refl, c.1, c.2, w))
held_told (Err f) kinds rows only next waiting c w = c

first_told : (kinds more after : Kinds) (k : ErrorKind) → kinds ≡ k ∷ [] → or_else (or_else kinds more) after ≡ k ∷ []
first_told kinds more after k e = ap (λ l. or_else (or_else l more) after) e

-- a request, whatever stands behind it
request_told : (r : Result Given Wrong) (wanted : Wrong) (asked : ErrorKind) (kinds all_kinds : Kinds) (rows : List Row) (w : Walk)
    → Comes r kinds rows → wrong_for asked ≡ wanted
    → ((k : ErrorKind) → or_else kinds (asked ∷ []) ≡ k ∷ [] → all_kinds ≡ k ∷ [])
    → Steps (behind r (λ given. Err wanted)) all_kinds w
request_told (Ok given) wanted asked kinds all_kinds rows w c is law = (asked, law asked (ap (λ k. or_else k (asked ∷ [])) c.0), is)
request_told (Err f) wanted asked kinds all_kinds rows w c is law = (c.0, law c.0 (ap (λ k. or_else k (asked ∷ [])) c.1), c.2)

-- what is given by a word alone: an option with its value, or the flag
given_told : (r : Result Given Wrong) (next : Given → Result Given Wrong) (kinds after : Kinds) (rows more : List Row) (only : Bool) → Comes r kinds rows
    → ((given : Given) → Rows given rows → Fits_all given → Comes (next given) after more)
    → Steps (behind r (λ given. behind (next given) (λ put_in. Ok (record { given = put_in; held = None; only_files = only }))))
    (or_else (or_else kinds after) []) (standing None only more idle)
given_told (Ok given) next kinds after rows more only c law = go (next given) (law given c.1 c.2)
  where
    same : or_else (or_else kinds after) [] ≡ after
    same = nil_behind (or_else kinds after) ∙ ap (λ k. or_else k after) c.0

    go : (r : Result Given Wrong) → Comes r after more
        → Steps (behind r (λ put_in. Ok (record { given = put_in; held = None; only_files = only }))) (or_else (or_else kinds after) []) (standing None only more idle)
    go (Ok put_in) d = (same ∙ d.0, (more, idle, refl, d.1, d.2, inl refl))
    go (Err f) d = (d.0, same ∙ d.1, d.2)
given_told (Err f) next kinds after rows more only c law = (c.0, ap (λ k. or_else (or_else k after) []) c.1, c.2)

abbrev top : Shape
top = (built f77run).top

abbrev Held_part : Type 0
Held_part = Option (Part × Option Text)

abbrev plain_line : Given → Held_part → Line
plain_line given held = record { given = given; held = held; only_files = false }

-- what clap makes of a word is what the words say
abbrev Meets : Result Line Wrong → Kinds → Held × Step → Text → Held_part → List Row → Waiting → Type 0
Meets r kinds met word held rows waiting =
    Steps r (or_else kinds (step_fault top 1 met.0 met.1)) (after_step rules word (standing held false rows waiting) met.0 met.1)

abbrev Named : Word → Option Rule → Option Text → Text → Given → Held_part → List Row → Waiting → Type 0
Named met found value word given held rows waiting =
    Meets (meet met word (plain_line given held)) (long_fault rules false found value (holds rows held))
    (after_flag rules waiting word (long_met rules found value (holds rows held)).0 (long_met rules found value (holds rows held)).1) word held rows waiting

started_told : (p : Part) (given : Given) (held : Held_part) (rows : List Row) → Rows given rows → Fits_all given
    → Steps (give p None (plain_line given held)) (or_else (settle_fault rules false (holds rows held)) [])
    (standing (Some (p, None)) false (settled rules (holds rows held)).rows (option (name_of (part p))))
started_told p given held rows h all =
    subst (λ k. Steps (give p None (plain_line given held)) k (standing (Some (p, None)) false (settled rules (holds rows held)).rows (option (name_of (part p)))))
    (sym (nil_behind (settle_fault rules false (holds rows held))))
    (held_told (closed given held) _ _ false (Some (p, None)) (option (name_of (part p))) (closed_told given held rows h all) refl)

valued_told : (p : Part) (v : Text) (given : Given) (held : Held_part) (rows : List Row) → Rows given rows → Fits_all given
    → Steps (give p (Some v) (plain_line given held))
    (or_else (or_else (settle_fault rules false (holds rows held)) (use_fault false (rule_at p) (v ∷ []) (settled rules (holds rows held)).rows)) [])
    (standing None false (used (rule_at p) (v ∷ []) (settled rules (holds rows held)).rows) idle)
valued_told p v given held rows h all =
    given_told (closed given held) (put p v) _ _ (settled rules (holds rows held)).rows _ false (closed_told given held rows h all)
    (λ g r f. put_told p v g (settled rules (holds rows held)).rows r f)

-- the word of an option
part_told : (p : Part) (value : Option Text) (word : Text) (given : Given) (held : Held_part) (rows : List Row) (waiting : Waiting)
    → Rows given rows → Fits_all given → Named (gives p value) (Some (rule_at p)) value word given held rows waiting
part_told workers None word given held rows waiting h all = started_told workers given held rows h all
part_told block None word given held rows waiting h all = started_told block given held rows h all
part_told window None word given held rows waiting h all = started_told window given held rows h all
part_told turns None word given held rows waiting h all = started_told turns given held rows h all
part_told rule None word given held rows waiting h all = started_told rule given held rows h all
part_told speculating None word given held rows waiting h all = started_told speculating given held rows h all
part_told file None word given held rows waiting h all = started_told file given held rows h all
part_told workers (Some v) word given held rows waiting h all = valued_told workers v given held rows h all
part_told block (Some v) word given held rows waiting h all = valued_told block v given held rows h all
part_told window (Some v) word given held rows waiting h all = valued_told window v given held rows h all
part_told turns (Some v) word given held rows waiting h all = valued_told turns v given held rows h all
part_told rule (Some v) word given held rows waiting h all = valued_told rule v given held rows h all
part_told speculating (Some v) word given held rows waiting h all = valued_told speculating v given held rows h all
part_told file (Some v) word given held rows waiting h all = valued_told file v given held rows h all

flag_told : (f : Flag) (value : Option Text) (word : Text) (given : Given) (held : Held_part) (rows : List Row) (waiting : Waiting)
    → Rows given rows → Fits_all given → Named (alone (sets f) value) (Some (flag_at f)) value word given held rows waiting
flag_told f None word given held rows waiting h all =
    given_told (closed given held) (put_flag f) _ _ (settled rules (holds rows held)).rows _ false (closed_told given held rows h all)
    (λ g r t. flag_put f g (settled rules (holds rows held)).rows r t)
flag_told f (Some v) word given held rows waiting h all = (kind.TooManyValues, refl, refl)

abbrev help_at : Rule
help_at = with_index 2 (filled help_rule)

abbrev version_at : Rule
version_at = with_index 2 (filled version_rule)

once : (kinds after : Kinds) (k : ErrorKind) → kinds ≡ k ∷ [] → or_else kinds after ≡ k ∷ []
once kinds after k e = ap (λ l. or_else l after) e

help_told : (value : Option Text) (word : Text) (given : Given) (held : Held_part) (rows : List Row) (waiting : Waiting)
    → Rows given rows → Fits_all given → Named (alone (asks wrong.Help) value) (Some help_at) value word given held rows waiting
help_told None word given held rows waiting h all =
    request_told (closed given held) wrong.Help kind.DisplayHelp _ _ _ _ (closed_told given held rows h all) refl (λ k e. once _ _ k e)
help_told (Some v) word given held rows waiting h all = (kind.TooManyValues, refl, refl)

version_told : (value : Option Text) (word : Text) (given : Given) (held : Held_part) (rows : List Row) (waiting : Waiting)
    → Rows given rows → Fits_all given → Named (alone (asks wrong.Version) value) (Some version_at) value word given held rows waiting
version_told None word given held rows waiting h all =
    request_told (closed given held) wrong.Version kind.DisplayVersion _ _ _ _ (closed_told given held rows h all) refl (λ k e. once _ _ k e)
version_told (Some v) word given held rows waiting h all = (kind.TooManyValues, refl, refl)

named_told : (name : Text) (value : Option Text) (word : Text) (given : Given) (held : Held_part) (rows : List Row) (waiting : Waiting)
    → Rows given rows → Fits_all given → Named (long_word name value) (arg_by_long rules name) value word given held rows waiting
named_told name value word given held rows waiting h all =
    pick (bytes_eq (codes "workers") name) (bytes_eq (codes "block") name) (bytes_eq (codes "window") name) (bytes_eq (codes "turns") name)
    (bytes_eq (codes "rule") name) (bytes_eq (codes "speculate") name) (bytes_eq (codes "check") name) (bytes_eq (codes "count") name) (bytes_eq (codes "explain") name)
    (bytes_eq (codes "stages") name) (bytes_eq (codes "help") name) (bytes_eq (codes "version") name)
  where
    pick : (a b c d r q i j k l f g : Bool) → Named
        (cond a (gives workers value) (cond b (gives block value) (cond c (gives window value) (cond d (gives turns value) (cond r (gives rule value) (cond q (gives speculating value)
        (cond i (alone (sets checks) value) (cond j (alone (sets counts) value) (cond k (alone (sets explains) value) (cond l (alone (sets stages) value)
        (cond f (alone (asks wrong.Help) value) (cond g (alone (asks wrong.Version) value) (errs wrong.NoSuchOption)))))))))))))
        (cond (a || false) (Some (rule_at workers)) (cond (b || false) (Some (rule_at block)) (cond (c || false) (Some (rule_at window)) (cond (d || false) (Some (rule_at turns))
        (cond (r || false) (Some (rule_at rule)) (cond (q || false) (Some (rule_at speculating)) (cond (i || false) (Some (flag_at checks)) (cond (j || false) (Some (flag_at counts)) (cond (k || false) (Some (flag_at explains)) (cond (l || false) (Some (flag_at stages))
        (cond (f || false) (Some help_at) (cond (g || false) (Some version_at) None))))))))))))
        value word given held rows waiting
    pick true b c d r q i j k l f g = part_told workers value word given held rows waiting h all
    pick false true c d r q i j k l f g = part_told block value word given held rows waiting h all
    pick false false true d r q i j k l f g = part_told window value word given held rows waiting h all
    pick false false false true r q i j k l f g = part_told turns value word given held rows waiting h all
    pick false false false false true q i j k l f g = part_told rule value word given held rows waiting h all
    pick false false false false false true i j k l f g = part_told speculating value word given held rows waiting h all
    pick false false false false false false true j k l f g = flag_told checks value word given held rows waiting h all
    pick false false false false false false false true k l f g = flag_told counts value word given held rows waiting h all
    pick false false false false false false false false true l f g = flag_told explains value word given held rows waiting h all
    pick false false false false false false false false false true f g = flag_told stages value word given held rows waiting h all
    pick false false false false false false false false false false true g = help_told value word given held rows waiting h all
    pick false false false false false false false false false false false true = version_told value word given held rows waiting h all
    pick false false false false false false false false false false false false = (kind.UnknownArgument, refl, refl)

-- ---- a file, or a value

file_told : (pending only : Bool) (word : Text) (given : Given) (held : Held_part) (rows : List Row) → Rows given rows → Fits_all given
    → Steps (holding (record { given = given; held = held; only_files = only }) (Some (file, Some word)))
    (cond (pending && false) [] (settle_fault rules false (holds rows held)))
    (record {
      held = pushed (codes "FILE") word (cond (pending && false) (holds rows held) (settled rules (holds rows held)));
      waiting = positional;
      position = 1;
      is_trailing = only || false;
      stopped = None;
    })
file_told true true word given held rows h all =
    held_told (closed given held) _ _ true (Some (file, Some word)) positional (closed_told given held rows h all) (inr refl)
file_told true false word given held rows h all =
    held_told (closed given held) _ _ false (Some (file, Some word)) positional (closed_told given held rows h all) (inr refl)
file_told false true word given held rows h all =
    held_told (closed given held) _ _ true (Some (file, Some word)) positional (closed_told given held rows h all) (inr refl)
file_told false false word given held rows h all =
    held_told (closed given held) _ _ false (Some (file, Some word)) positional (closed_told given held rows h all) (inr refl)

abbrev Loose : Text → Given → Held_part → List Row → Waiting → Type 0
Loose word given held rows waiting =
    Meets (take word held (plain_line given held)) [] (plain_word rules waiting word (holds rows held)) word held rows waiting

value_told : (p : Part) (word : Text) (given : Given) (rows : List Row) → Rows given rows → Fits_all given
    → Loose word given (Some (p, None)) rows (option (name_of (part p)))
value_told workers word given rows h all = (refl, (rows, idle, refl, h, all, inl refl))
value_told block word given rows h all = (refl, (rows, idle, refl, h, all, inl refl))
value_told window word given rows h all = (refl, (rows, idle, refl, h, all, inl refl))
value_told turns word given rows h all = (refl, (rows, idle, refl, h, all, inl refl))
value_told rule word given rows h all = (refl, (rows, idle, refl, h, all, inl refl))
value_told speculating word given rows h all = (refl, (rows, idle, refl, h, all, inl refl))
value_told file word given rows h all = (refl, (rows, idle, refl, h, all, inl refl))

loose_told : (held : Held_part) (waiting : Waiting) (word : Text) (given : Given) (rows : List Row) → Waits held waiting → Rows given rows → Fits_all given
    → Loose word given held rows waiting
loose_told (Some (p, None)) waiting word given rows w h all =
    subst (Loose word given (Some (p, None)) rows) (sym w) (value_told p word given rows h all)
loose_told None waiting word given rows (inl w) h all =
    subst (Loose word given None rows) (sym w) (file_told (is_pending file_at None) false word given None rows h all)
loose_told None waiting word given rows (inr w) h all =
    subst (Loose word given None rows) (sym w) (file_told (is_pending file_at None) false word given None rows h all)
loose_told (Some (p, Some v)) waiting word given rows (inl w) h all =
    subst (Loose word given (Some (p, Some v)) rows) (sym w)
    (file_told (is_pending file_at (pending_of (Some (p, Some v)))) false word given (Some (p, Some v)) rows h all)
loose_told (Some (p, Some v)) waiting word given rows (inr w) h all =
    subst (Loose word given (Some (p, Some v)) rows) (sym w)
    (file_told (is_pending file_at (pending_of (Some (p, Some v)))) false word given (Some (p, Some v)) rows h all)

-- ---- a word that begins with one minus sign

abbrev Lettered : Word → Option ℕ → Text → ℕ → Text → Given → Held_part → List Row → Waiting → Type 0
Lettered met letter letters count word given held rows waiting =
    Meets (meet met word (plain_line given held)) (bundle_step_fault rules false letter letters 0 (holds rows held) (flags_fault rules false count))
    (after_flag rules waiting word (bundle_step rules letter letters 0 plain (holds rows held) (bundle_met rules count)).0
    (bundle_step rules letter letters 0 plain (holds rows held) (bundle_met rules count)).1) word held rows waiting

abbrev Short_found : Word → Option Rule → Text → Text → ℕ → Text → Given → Held_part → List Row → Waiting → Type 0
Short_found met found rest letters count word given held rows waiting =
    Meets (meet met word (plain_line given held)) (short_fault rules false found rest (holds rows held) (flags_fault rules false count rest 0))
    (after_flag rules waiting word (short_met rules found rest (holds rows held) (bundle_met rules count rest 0 done)).0
    (short_met rules found rest (holds rows held) (bundle_met rules count rest 0 done)).1) word held rows waiting

letter_told : (letter : ℕ) (letters : Text) (count : ℕ) (word : Text) (given : Given) (held : Held_part) (rows : List Row) (waiting : Waiting)
    → Rows given rows → Fits_all given → Lettered (letter_word (Some letter)) (Some letter) letters count word given held rows waiting
letter_told letter letters count word given held rows waiting h all = pick (104 == letter) (86 == letter)
  where
    pick : (a b : Bool) → Short_found (cond a (asks wrong.Help) (cond b (asks wrong.Version) (errs wrong.NoSuchOption)))
        (cond (a || false) (Some help_at) (cond (b || false) (Some version_at) None)) (drop (length (encode_utf8 letter)) letters) letters count
        word given held rows waiting
    pick true b =
        request_told (closed given held) wrong.Help kind.DisplayHelp _ _ _ _ (closed_told given held rows h all) refl (λ k e. first_told _ _ _ k e)
    pick false true =
        request_told (closed given held) wrong.Version kind.DisplayVersion _ _ _ _ (closed_told given held rows h all) refl (λ k e. first_told _ _ _ k e)
    pick false false = (kind.UnknownArgument, refl, refl)

abbrev Short : Option Text → Text → Given → Held_part → List Row → Waiting → Type 0
Short letters word given held rows waiting =
    Meets (meet (short_word letters) word (plain_line given held)) (option_map_or (λ flags. bundle_fault rules false flags (holds rows held)) letters [])
    (short_or_plain rules waiting word letters (holds rows held)) word held rows waiting

short_told : (letters : Option Text) (word : Text) (given : Given) (held : Held_part) (rows : List Row) (waiting : Waiting)
    → Waits held waiting → Rows given rows → Fits_all given → Short letters word given held rows waiting
unfolding flags_fault bundle_met chars
short_told None word given held rows waiting w h all = loose_told held waiting word given rows w h all
short_told (Some []) word given held rows waiting w h all = loose_told held waiting word given rows w h all
short_told (Some (x ∷ xs)) word given held rows waiting w h all = go (slice_get (chars (x ∷ xs)) 0)
  where
    go : (letter : Option ℕ) → Lettered (letter_word letter) letter (x ∷ xs) (length xs) word given held rows waiting
    go None = loose_told held waiting word given rows w h all
    go (Some letter) = letter_told letter (x ∷ xs) (length xs) word given held rows waiting h all

-- ---- a word

abbrev Long : Option (Text × Option Text) → Text → Given → Held_part → List Row → Waiting → Type 0
Long found word given held rows waiting =
    Meets (meet (long_or_short found word) word (plain_line given held)) (flag_word_fault rules false found word (holds rows held))
    (long_or_other rules waiting word found (holds rows held)) word held rows waiting

long_told : (found : Option (Text × Option Text)) (word : Text) (given : Given) (held : Held_part) (rows : List Row) (waiting : Waiting)
    → Waits held waiting → Rows given rows → Fits_all given → Long found word given held rows waiting
long_told (Some p) word given held rows waiting w h all = named_told p.0 p.1 word given held rows waiting h all
long_told None word given held rows waiting w h all = short_told (short_of word) word given held rows waiting w h all

abbrev Other : Option Text → Text → Given → Held_part → List Row → Waiting → Type 0
Other named word given held rows waiting =
    Meets (meet (word_of word) word (plain_line given held)) (other_fault top named word (holds rows held))
    (subcommand_or_other rules named waiting 1 word (holds rows held)) word held rows waiting

other_told : (word : Text) (given : Given) (held : Held_part) (rows : List Row) (waiting : Waiting)
    → Waits held waiting → Rows given rows → Fits_all given → Other None word given held rows waiting
other_told word given held rows waiting w h all = go (bytes_eq word (45 ∷ 45 ∷ []))
  where
    go : (b : Bool) → Meets (meet (cond b ends (long_or_short (long_of word) word)) word (plain_line given held))
        (cond b [] (flag_word_fault rules false (long_of word) word (holds rows held)))
        (cond b (holds rows held, trailing 1) (long_or_other rules waiting word (long_of word) (holds rows held))) word held rows waiting
    go true = (refl, (rows, waiting, refl, h, all, w))
    go false = long_told (long_of word) word given held rows waiting w h all

no_subcommand : (waiting : Waiting) (word : Text) → subcommand_met [] waiting word ≡ None
no_subcommand idle word = refl
no_subcommand (option id) word = refl
no_subcommand positional word = refl

step_told : (word : Text) (line : Line) (rows : List Row) (waiting : Waiting) → Waits line.held waiting → Rows line.given rows → Fits_all line.given
    → Steps (moved word line) (turn_fault top [] (standing line.held line.only_files rows waiting) word) (walked rules [] (standing line.held line.only_files rows waiting) word)
unfolding walked
step_told word line rows waiting w h all = go line.only_files
  where
    go : (only : Bool) → Steps (moved word (record line { only_files = only })) (turn_fault top [] (standing line.held only rows waiting) word)
        (walked rules [] (standing line.held only rows waiting) word)
    go true = file_told (is_pending file_at (pending_of line.held)) true word line.given line.held rows h all
    go false =
        subst (λ named. Other named word line.given line.held rows waiting) (sym (no_subcommand waiting word))
        (other_told word line.given line.held rows waiting w h all)

-- ---- all the words

abbrev Ends : Result Given Wrong → Kinds → Kinds → Walk → Type 0
Ends r before kinds end =
    Comes r (or_else (or_else before kinds) (settle_fault rules false end.held)) (settled rules end.held).rows

abbrev Reads : Result Given Wrong → List Text → Walk → Type 0
Reads r words w =
    Comes r (or_else (walk_fault top [] w words) (settle_fault rules false (fold (walked rules []) w words).held))
    (settled rules (fold (walked rules []) w words).held).rows

behind_told : (r : Result Line Wrong) (words : List Text) (kinds : Kinds) (w : Walk) → Steps r kinds w
    → ((line : Line) (next : Walk) → Stands line next → Reads (read words line) words next)
    → Ends (behind r (read words)) kinds (walk_fault top [] w words) (fold (walked rules []) w words)
behind_told (Ok line) words kinds w s next =
    subst (λ k. Ends (read words line) k (walk_fault top [] w words) (fold (walked rules []) w words)) (sym s.0) (next line w s.1)
behind_told (Err f) words kinds w s next = (
  s.0,
  ap (λ k. or_else (or_else k (walk_fault top [] w words)) (settle_fault rules false (fold (walked rules []) w words).held)) s.1,
  s.2,
)

read_told : (words : List Text) (line : Line) (w : Walk) → Stands line w → Reads (read words line) words w
unfolding read walk_fault
read_told [] line w s = subst (Reads (read [] line) []) (sym s.2) (closed_told line.given line.held s.0 s.3 s.4)
read_told (word ∷ words) line w s =
    subst (Reads (read (word ∷ words) line) (word ∷ words)) (sym s.2)
    (behind_told (moved word line) words _ (walked rules [] (standing line.held line.only_files s.0 s.1) word)
    (step_told word line s.0 s.1 s.5 s.3 s.4) (λ next after t. read_told words next after t))

-- ---- what clap looks at behind the words

abbrev has_no_default : Rule → Bool
has_no_default a = is_empty a.defaults

kept : (a : Rule) (rows : List Row) → has_no_default a ≡ true → with_default rows a ≡ rows
kept a rows e = go a.defaults e (has_row a.id rows)
  where
    go : (xs : List Text) → is_empty xs ≡ true → (b : Bool) → cond b rows (default_rows a.id (reading_by a) xs rows) ≡ rows
    go [] n true = refl
    go [] n false = refl
    go (x ∷ xs) n b =
        let bad : suc (length xs) ≡ 0 = (Decides-eqb (suc (length xs)) 0).0 n in
        absurd (omega arith)

abbrev defaulted : List Rule → List Rule
defaulted [] = []
defaulted (a ∷ rs) = cond (has_no_default a) (defaulted rs) (a ∷ defaulted rs)

-- the others leave the rows
kept_rows : (rs : List Rule) (rows : List Row) → fold with_default rows rs ≡ fold with_default rows (defaulted rs)
kept_rows [] rows = refl
kept_rows (a ∷ rs) rows = go (has_no_default a) refl (λ l. kept_rows rs l)
  where
    go : (b : Bool) → has_no_default a ≡ b → ((l : List Row) → fold with_default l rs ≡ fold with_default l (defaulted rs))
        → fold with_default (with_default rows a) rs ≡ fold with_default rows (cond b (defaulted rs) (a ∷ defaulted rs))
    go true none ih = ap (λ l. fold with_default l rs) (kept a rows none) ∙ ih rows
    go false some ih = ih (with_default rows a)

-- the default is right, where there is one
abbrev is_right : Rule → Bool
is_right a = is_empty a.defaults || is_empty (given_default_fault a a.defaults)

right_default : (a : Rule) (rows : List Row) → is_right a ≡ true → default_fault rows a ≡ []
right_default a rows e = go (has_row a.id rows) (is_empty a.defaults) (given_default_fault a a.defaults) e
  where
    go : (b none : Bool) (kinds : Kinds) → (none || is_empty kinds) ≡ true → cond (b || none) [] kinds ≡ []
    go b true kinds t = ap (λ c. cond c [] kinds) (or-true b)
    go true false kinds t = refl
    go false false [] t = refl
    go false false (k ∷ ks) t =
        let bad : suc (length ks) ≡ 0 = (Decides-eqb (suc (length ks)) 0).0 t in
        absurd (omega arith)

right_defaults : (rs : List Rule) (rows : List Row) → list_all is_right rs ≡ true → defaults_fault rows rs ≡ []
unfolding defaults_fault
right_defaults [] rows e = refl
right_defaults (a ∷ rs) rows e = go (is_right a) refl e (λ t. right_defaults rs (with_default rows a) t)
  where
    go : (b : Bool) → is_right a ≡ b → (b && list_all is_right rs) ≡ true
        → (list_all is_right rs ≡ true → defaults_fault (with_default rows a) rs ≡ [])
        → or_else (default_fault rows a) (defaults_fault (with_default rows a) rs) ≡ []
    go true n t ih = ap (λ k. or_else k (defaults_fault (with_default rows a) rs)) (right_default a rows n) ∙ ih t
    go false n t ih = absurd (true≢false (sym t))

-- what is given, by clap's kinds and by its rows behind the defaults
abbrev pub Leaves : Result Given Wrong → Kinds → List Row → Type 0
Leaves (Ok given) kinds rows = (kinds ≡ []) × AreGiven given rows
Leaves (Err f) kinds rows = (k : ErrorKind) × (kinds ≡ k ∷ []) × (wrong_for k ≡ f)

-- ---- the defaults of flags

abbrev is_among : Text → List Text → Bool
is_among name [] = false
is_among name (f ∷ fs) = bytes_eq f name || is_among name fs

-- with its default put in, or without
abbrev as_far : Bool → List Text → Option (List Text × Reading)
as_far true [] = Some (codes "false" ∷ [], AsWritten)
as_far false [] = None
as_far b (v ∷ vs) = Some (v ∷ vs, AsWritten)

-- the rows hold what was given, and the defaults of these flags
abbrev Defaulted : List Text → Given → List Row → Type 0
Defaulted flags given rows = (name : Name) → seen (name_of name) rows ≡ as_far (is_among (name_of name) flags) (values name given)

without_default : (vs : List Text) → as_seen vs ≡ as_far false vs
without_default [] = refl
without_default (v ∷ vs) = refl

still_there : (b : Bool) (vs : List Text) (s : List Text × Reading) → as_far b vs ≡ Some s → as_far true vs ≡ Some s
still_there true vs s e = e
still_there false [] s e = absurd (true≢false (sym (ap is_some e)))
still_there false (v ∷ vs) s e = e

not_there : (b : Bool) (vs : List Text) → as_far b vs ≡ None → as_far true vs ≡ Some (codes "false" ∷ [], AsWritten)
not_there true [] e = refl
not_there false [] e = refl
not_there b (v ∷ vs) e = absurd (true≢false (ap is_some e))

default_told : (f : Flag) (flags : List Text) (given : Given) (rows : List Row) → Defaulted flags given rows
    → Defaulted (name_of (flag f) ∷ flags) given (with_default rows (flag_at f))
default_told f flags given rows h name = by (seen id rows) refl (bytes_eq id other) refl
  where
    id : Text
    id = name_of (flag f)

    other : Text
    other = name_of name

    state : Option (List Text × Reading)
    state = as_far (is_among other flags) (values name given)

    same : bytes_eq id other ≡ true → seen other rows ≡ seen id rows
    same c = ap (λ t. seen t rows) (sym ((bytes_eq-Decides id other).0 c))

    put_in : (b : Bool) → List Row
    put_in b = cond b rows (put_row DefaultValue id (codes "false") rows)

    by : (o : Option (List Text × Reading)) → seen id rows ≡ o → (c : Bool) → bytes_eq id other ≡ c
        → seen other (put_in (has_row id rows)) ≡ as_far (c || is_among other flags) (values name given)
    by (Some s) is false c = ap (λ b. seen other (put_in b)) (has_row-seen id rows ∙ ap is_some is) ∙ h name
    by (Some s) is true c =
        let there : seen other rows ≡ Some s = same c ∙ is in
        ap (λ b. seen other (put_in b)) (has_row-seen id rows ∙ ap is_some is)
        ∙ (there ∙ sym (still_there (is_among other flags) (values name given) s (sym (h name) ∙ there)))
    by None is false c =
        ap (λ b. seen other (put_in b)) (has_row-seen id rows ∙ ap is_some is)
        ∙ (seen_put DefaultValue id other (codes "false") rows ∙ ap (λ b. cond b (added (seen other rows) (codes "false")) (seen other rows)) c ∙ h name)
    by None is true c =
        let lacks : seen other rows ≡ None = same c ∙ is in
        ap (λ b. seen other (put_in b)) (has_row-seen id rows ∙ ap is_some is)
        ∙ (seen_put DefaultValue id other (codes "false") rows ∙ ap (λ b. cond b (added (seen other rows) (codes "false")) (seen other rows)) c
        ∙ ap (λ o. added o (codes "false")) lacks ∙ sym (not_there (is_among other flags) (values name given) (sym (h name) ∙ lacks)))

abbrev flags_at : List Rule
flags_at = flag_at checks ∷ flag_at counts ∷ flag_at explains ∷ flag_at stages ∷ []

abbrev all_flags : List Text
all_flags = name_of (flag stages) ∷ name_of (flag explains) ∷ name_of (flag counts) ∷ name_of (flag checks) ∷ []

with_flags : (given : Given) (rows : List Row) → Rows given rows → Defaulted all_flags given (fold with_default rows flags_at)
with_flags given rows h =
    default_told stages (name_of (flag explains) ∷ name_of (flag counts) ∷ name_of (flag checks) ∷ []) given _
    (default_told explains (name_of (flag counts) ∷ name_of (flag checks) ∷ []) given _
    (default_told counts (name_of (flag checks) ∷ []) given _
    (default_told checks [] given rows (λ name. h name ∙ without_default (values name given)))))

found_of_flag : (f : Flag) (vs : List Text) → as_far true vs ≡ as_found (flag f) vs
found_of_flag f [] = refl
found_of_flag f (v ∷ vs) = refl

no_flag : (p : Part) → is_among (name_of (part p)) all_flags ≡ false
no_flag workers = refl
no_flag block = refl
no_flag window = refl
no_flag turns = refl
no_flag rule = refl
no_flag speculating = refl
no_flag file = refl

some_flag : (f : Flag) → is_among (name_of (flag f)) all_flags ≡ true
some_flag checks = refl
some_flag counts = refl
some_flag explains = refl
some_flag stages = refl

all_found : (given : Given) (rows : List Row) → Defaulted all_flags given rows → HoldTexts given rows
all_found given rows h (part p) = h (part p) ∙ ap (λ b. as_far b (values (part p) given)) (no_flag p) ∙ sym (without_default (values (part p) given))
all_found given rows h (flag f) = h (flag f) ∙ ap (λ b. as_far b (values (flag f) given)) (some_flag f) ∙ found_of_flag f (values (flag f) given)

left_told : (r : Result Given Wrong) (kinds : Kinds) (rows : List Row) → Comes r kinds rows → Leaves r kinds (fold with_default rows flags_at)
left_told (Ok given) kinds rows c = (c.0, (all_found given (fold with_default rows flags_at) (with_flags given rows c.1), c.2))
left_told (Err f) kinds rows c = c

no_level : (stop : Option (Text × List Text)) → entered_fault (built f77run) stop ≡ []
no_level None = refl
no_level (Some p) = refl

none_entered : (stop : Option (Text × List Text)) → is_some (entered (built f77run) stop) ≡ false
none_entered None = refl
none_entered (Some p) = refl

four : (a b c d e : Kinds) → b ≡ [] → d ≡ [] → e ≡ [] → or_else a (or_else b (or_else c (or_else d e))) ≡ or_else a c
four a b c d e is_b is_d is_e =
    ap (λ l. or_else a (or_else l (or_else c (or_else d e)))) is_b ∙ ap (λ l. or_else a (or_else c (or_else l e))) is_d
    ∙ ap (λ l. or_else a (or_else c l)) is_e ∙ ap (or_else a) (nil_behind c)

pub told : (words : List Text) → Leaves (read (drop 1 words) nothing_read) (fault_of f77run words) (matches_of f77run words)
told words =
    subst (λ k. Leaves (read (drop 1 words) nothing_read) k (matches_of f77run words)) (sym kinds)
    (subst (Leaves (read (drop 1 words) nothing_read) (or_else (walk_fault top [] start (drop 1 words)) (settle_fault rules false end.held)))
    (sym (kept_rows rules (settled rules end.held).rows))
    (left_told (read (drop 1 words) nothing_read) (or_else (walk_fault top [] start (drop 1 words)) (settle_fault rules false end.held)) (settled rules end.held).rows
    (read_told (drop 1 words) nothing_read start ([], idle, refl, (λ name. refl), refl, inl refl))))
  where
    start : Walk
    start = standing None false [] idle

    end : Walk
    end = fold (walked rules []) start (drop 1 words)

    kinds : fault_of f77run words ≡ or_else (walk_fault top [] start (drop 1 words)) (settle_fault rules false end.held)
    kinds =
        four _ _ _ _ _ (no_level end.stopped) (right_defaults rules (settled rules end.held).rows refl)
        (ap (check_fault top (finished rules end.held)) (none_entered end.stopped))

-- ---- for the callers

-- the line is refused by clap, or memory was
pub refused : (words : List Text) (e : Error) → HasKind (fault_of f77run words) e
    → (wrong_for (kind_of e) ≡ wrong.Memory) ⊎ (given_by words ≡ Err (wrong_for (kind_of e)))
refused words e (inl memory) = inl (ap wrong_for memory)
refused words e (inr among) = go (read (drop 1 words) nothing_read) refl (told words)
  where
    only : (k : ErrorKind) → fault_of f77run words ≡ k ∷ [] → kind_of e ≡ k
    only k one = elim (subst (IsAmong (kind_of e)) one among) [ inl is ↦ is | inr never ↦ absurd never ]

    go : (r : Result Given Wrong) → read (drop 1 words) nothing_read ≡ r → Leaves r (fault_of f77run words) (matches_of f77run words)
        → (wrong_for (kind_of e) ≡ wrong.Memory) ⊎ (given_by words ≡ Err (wrong_for (kind_of e)))
    go (Ok given) is c = absurd (subst (IsAmong (kind_of e)) c.0 among)
    go (Err f) is c = inr (is ∙ ap Err (sym (ap wrong_for (only c.0 c.1) ∙ c.2)))

-- clap takes the line, and its matches hold what is given
pub taken : (words : List Text) (m : ArgMatches) → fault_of f77run words ≡ [] → rows_of (found_of m) ≡ matches_of f77run words
    → (given : Given) × IsGiven given m × (given_by words ≡ Ok given)
taken words m none same = go (read (drop 1 words) nothing_read) refl (told words)
  where
    go : (r : Result Given Wrong) → read (drop 1 words) nothing_read ≡ r → Leaves r (fault_of f77run words) (matches_of f77run words)
        → (given : Given) × IsGiven given m × (given_by words ≡ Ok given)
    go (Ok given) is c = (given, subst (AreGiven given) (sym same) c.1, is)
    go (Err f) is c = absurd (true≢false (sym (ap (λ (kinds : Kinds). is_empty kinds) (sym c.1 ∙ none))))

first_text : (vs : List Text) → option_and_then (λ (s : List Text × Reading). option_map (read_as s.1) (slice_get s.0 0)) (as_seen vs) ≡ slice_get vs 0
first_text [] = refl
first_text (v ∷ vs) = refl

-- the text that is read of an option is the one that is given
pub one_given : (given : Given) (m : ArgMatches) (p : Part) → IsGiven given m → one_text (found_of m) (name_of (part p)) ≡ first (part p) given
one_given given m p h =
    one_text-rows (found_of m) (name_of (part p)) ∙ one_of-seen (name_of (part p)) (rows_of (found_of m))
    ∙ ap (option_and_then (λ (s : List Text × Reading). option_map (read_as s.1) (slice_get s.0 0))) (h.0 (part p)) ∙ first_text (values (part p) given)

same_part : (a b : Part) → bytes_eq (name_of (part a)) (name_of (part b)) ≡ true → a ≡ b
same_part workers workers e = refl
same_part block block e = refl
same_part window window e = refl
same_part turns turns e = refl
same_part rule rule e = refl
same_part speculating speculating e = refl
same_part file file e = refl
same_part a b e = absurd (true≢false (sym e))

same_flag : (a b : Flag) → bytes_eq (name_of (flag a)) (name_of (flag b)) ≡ true → a ≡ b
same_flag checks checks e = refl
same_flag counts counts e = refl
same_flag explains explains e = refl
same_flag stages stages e = refl
same_flag a b e = absurd (true≢false (sym e))

apart : (p : Part) (f : Flag) → name_of (part p) ≡ name_of (flag f) → ⊥
apart p f e = true≢false (sym (some_flag f) ∙ sym (ap (λ t. is_among t all_flags) e) ∙ no_flag p)

same_name : (a b : Name) → bytes_eq (name_of a) (name_of b) ≡ true → a ≡ b
same_name (part p) (part q) e = ap part (same_part p q e)
same_name (flag f) (flag g) e = ap flag (same_flag f g e)
same_name (part p) (flag f) e = absurd (apart p f ((bytes_eq-Decides (name_of (part p)) (name_of (flag f))).0 e))
same_name (flag f) (part p) e = absurd (apart p f (sym ((bytes_eq-Decides (name_of (flag f)) (name_of (part p))).0 e)))

-- the first text of a name is one that fits it
pub first_fits : (name : Name) (given : Given) (v : Text) → list_all fits given ≡ true → slice_get (values name given) 0 ≡ Some v → fits (name, v) ≡ true
first_fits name [] v h is = absurd (true≢false (sym (ap is_some is)))
first_fits name (g ∷ gs) v h is =
    go (bytes_eq (name_of g.0) (name_of name)) refl (fits g) refl h is (λ t i. first_fits name gs v t i)
  where
    go : (b : Bool) → bytes_eq (name_of g.0) (name_of name) ≡ b → (f : Bool) → fits g ≡ f → (f && list_all fits gs) ≡ true
        → slice_get (cond b (g.1 ∷ values name gs) (values name gs)) 0 ≡ Some v
        → (list_all fits gs ≡ true → slice_get (values name gs) 0 ≡ Some v → fits (name, v) ≡ true) → fits (name, v) ≡ true
    go b e false f t i ih = absurd (true≢false (sym t))
    go false e true f t i ih = ih t i
    go true e true f t i ih =
        let value : g.1 ≡ v = ap (λ o. unwrap_or o v) i in
        sym (ap₂ (λ a t. fits (a, t)) (same_name g.0 name e) value) ∙ f

-- and so a flag
pub flag_is : (given : Given) (m : ArgMatches) (name : Text) (result : Bool) (f : Flag) → IsGiven given m → name ≡ name_of (flag f)
    → (one_text (found_of m) name ≡ Some (codes "true") → result ≡ true)
    → (one_text (found_of m) name ≡ Some (codes "false") → result ≡ false) → result ≡ is_on f given
flag_is given m name result f h named on off = go (values (flag f) given) refl
  where
    text : Option (List Text × Reading) → Option Text
    text = option_and_then (λ (s : List Text × Reading). option_map (read_as s.1) (slice_get s.0 0))

    read_text : (vs : List Text) → values (flag f) given ≡ vs → one_text (found_of m) name ≡ text (as_found (flag f) vs)
    read_text vs is =
        ap (one_text (found_of m)) named ∙ one_text-rows (found_of m) (name_of (flag f)) ∙ one_of-seen (name_of (flag f)) (rows_of (found_of m))
        ∙ ap text (h.0 (flag f) ∙ ap (as_found (flag f)) is)

    go : (vs : List Text) → values (flag f) given ≡ vs → result ≡ is_on f given
    go [] is = off (read_text [] is) ∙ sym (ap (λ (l : List Text). is_some (slice_get l 0)) is)
    go (v ∷ vs) is =
        let fit = first_fits (flag f) given v h.1 (ap (λ (l : List Text). slice_get l 0) is) in
        let set : v ≡ codes "true" = (bytes_eq-Decides v (codes "true")).0 fit in
        on (read_text (v ∷ vs) is ∙ ap Some set) ∙ sym (ap (λ (l : List Text). is_some (slice_get l 0)) is)

abbrev pub texts_of : List Text → Option (List Text)
texts_of vs = option_map (λ (s : List Text × Reading). s.0) (as_seen vs)

-- and so the texts
pub texts_given : (given : Given) (m : ArgMatches) (p : Part) → IsGiven given m
    → option_map raw_values (matched_of (found_of m) (name_of (part p))) ≡ texts_of (values (part p) given)
texts_given given m p h =
    raw_values-rows (found_of m) (name_of (part p)) ∙ all_of-seen (name_of (part p)) (rows_of (found_of m)) ∙ ap (option_map (λ (s : List Text × Reading). s.0)) (h.0 (part p))

pub no_file : (vs : List Text) → None ≡ texts_of vs → (files_of vs ≡ Ok None) × (None ≡ slice_get vs 0)
no_file [] e = (refl, refl)
no_file (v ∷ vs) e = absurd (true≢false (sym (ap is_some e)))

same_files : (files : List (Bor Text)) (vs : List Text) → Some (map (λ s. s.now) files) ≡ texts_of vs → map (λ s. s.now) files ≡ vs
same_files files [] e = absurd (true≢false (ap is_some e))
same_files files (v ∷ vs) e = ap (λ o. unwrap_or o []) e

first_now : (files : List (Bor Text)) → option_map (λ s. s.now) (slice_get files 0) ≡ slice_get (map (λ s. s.now) files) 0
first_now [] = refl
first_now (f ∷ fs) = refl

-- the first of them
pub first_of_files : (files : List (Bor Text)) (vs : List Text) → Some (map (λ s. s.now) files) ≡ texts_of vs → option_map (λ s. s.now) (slice_get files 0) ≡ slice_get vs 0
first_of_files files vs e = first_now files ∙ ap (λ l. slice_get l 0) (same_files files vs e)

files_told : (vs : List Text) → nat_lt 1 (length vs) ≡ false → files_of vs ≡ Ok (slice_get vs 0)
files_told [] e = refl
files_told (v ∷ []) e = refl
files_told (v ∷ w ∷ vs) e = absurd (true≢false (sym (lt-ltb 1 (length (v ∷ w ∷ vs)) (omega arith)) ∙ e))

more_told : (vs : List Text) (d : Text) → nat_lt 1 (length vs) ≡ true → files_of vs ≡ Err (too_many_files (slice_index_or vs 0 d) (slice_index_or vs 1 d))
more_told [] d e = absurd (true≢false (sym e))
more_told (v ∷ []) d e = absurd (true≢false (sym e))
more_told (v ∷ w ∷ vs) d e = refl

pub lone_file : (files : List (Bor Text)) (vs : List Text) → Some (map (λ s. s.now) files) ≡ texts_of vs → length files ≤ 1
    → files_of vs ≡ Ok (option_map (λ s. s.now) (slice_get files 0))
lone_file files vs e le =
    files_told vs (ap (λ l. nat_lt 1 (length l)) (sym (same_files files vs e)) ∙ ap (nat_lt 1) (length-map files (λ s. s.now)) ∙ le-ltb 1 (length files) le)
    ∙ ap Ok (sym (first_of_files files vs e))

pub now_at : (files : List (Bor Text)) (k : ℕ) (d : Bor Text) → (slice_index_or files k d).now ≡ slice_index_or (map (λ s. s.now) files) k d.now
now_at [] k d = refl
now_at (f ∷ fs) zero d = refl
now_at (f ∷ fs) (suc k) d = now_at fs k d

pub many_files : (files : List (Bor Text)) (vs : List Text) (d : Bor Text) → Some (map (λ s. s.now) files) ≡ texts_of vs → 1 < length files
    → files_of vs ≡ Err (too_many_files (slice_index_or files 0 d).now (slice_index_or files 1 d).now)
many_files files vs d e lt =
    let same : map (λ s. s.now) files ≡ vs = same_files files vs e in
    let at : (k : ℕ) → slice_index_or vs k d.now ≡ (slice_index_or files k d).now = λ k. sym (now_at files k d ∙ ap (λ l. slice_index_or l k d.now) same) in
    more_told vs d.now (ap (λ l. nat_lt 1 (length l)) (sym same) ∙ ap (nat_lt 1) (length-map files (λ s. s.now)) ∙ lt-ltb 1 (length files) lt)
    ∙ ap₂ (λ a b. Err (too_many_files a b)) (at 0) (at 1)

reads_u64 : {E : Type 0} (G : Text → Result ℕ E → Type 0) (t : Text) (r : Option ℕ) → ReadsOne G t r
    → ((u : Text) (x : Result ℕ E) → G u x → ParsesUnsigned 64 10 u x) → (most : ℕ) → most < 2 ^ 64 → is_in most t ≡ true → r ≡ Some (number_of t)
reads_u64 G t (Some n) read only most small fit = ap Some (only t (Ok n) read).1
reads_u64 G t None read only most small fit =
    let accepted = accepts-Accepts false (vp.Unsigned 1 most) t (in_range most t small ∙ fit) in
    absurd (only t (Err read.0) read.1 (accepted.0, accepted.1))

small_enough : (p : Part) (most : ℕ) → greatest p ≡ Some most → most < 2 ^ 64
small_enough workers most e = rw (← ap (λ o. unwrap_or o 0) e) (omega arith)
small_enough block most e = rw (← ap (λ o. unwrap_or o 0) e) (omega arith)
small_enough window most e = rw (← ap (λ o. unwrap_or o 0) e) (omega arith)
small_enough turns most e = rw (← ap (λ o. unwrap_or o 0) e) (omega arith)
small_enough rule most e = absurd (true≢false (sym (ap is_some e)))
small_enough speculating most e = absurd (true≢false (sym (ap is_some e)))
small_enough file most e = absurd (true≢false (sym (ap is_some e)))

-- the number that is read of an option, or its default
pub number_is : {E : Type 0} (G : Text → Result ℕ E → Type 0) (given : Given) (m : ArgMatches) (p : Part) (name : Text) (default result : ℕ) (r : Option ℕ)
    → ((u : Text) (x : Result ℕ E) → G u x → ParsesUnsigned 64 10 u x) → IsGiven given m → IsNumber p name default
    → (one_text (found_of m) name ≡ None → r ≡ None) → ((t : Text) → one_text (found_of m) name ≡ Some t → ReadsOne G t r)
    → result ≡ unwrap_or r default → result ≡ number_in p given
number_is G given m p name default result r only h known none some is = go (first (part p) given) refl
  where
    text : one_text (found_of m) name ≡ first (part p) given
    text = ap (one_text (found_of m)) known.0 ∙ one_given given m p h

    most : (o : Option ℕ) → greatest p ≡ o → is_some o ≡ true → (v : Text) → first (part p) given ≡ Some v → r ≡ Some (number_of v)
    most None e s v f = absurd (true≢false (sym s))
    most (Some n) e s v f = reads_u64 G v r (some v (text ∙ f)) only n (small_enough p n e) (sym (ap (λ o. fits_under o v) e) ∙ first_fits (part p) given v h.1 f)

    go : (o : Option Text) → first (part p) given ≡ o → result ≡ option_map_or number_of o (default_of p)
    go None f = is ∙ ap (λ x. unwrap_or x default) (none (text ∙ f)) ∙ known.1
    go (Some v) f = is ∙ ap (λ x. unwrap_or x default) (most (greatest p) refl known.2 v f)
