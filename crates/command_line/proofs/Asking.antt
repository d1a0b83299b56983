-- What matches ask for, and what is told of a word.
use Rattle.std.proofs.Common.{◌≡◌, ◌∙◌, ◌<◌, ◌+◌, ◌&&◌, ◌-◌, ℕ, cond, true, false, refl, sym, ap, List, [], drop, length, Option, Some, None, Result, slice_index_or, codes}
use Rattle.std.specs.Borrow.{Bor}
use Rattle.std.specs.Fmt.{digits}
use Rattle.std.specs.List.{list_all}
use Rattle.std.specs.Option.{option_map_or}
use Rattle.std.specs.Str.{bytes_eq}
use Rattle.std.proofs.lemmas.Bool.{and_from, and_parts}
use Rattle.std.proofs.lemmas.List.{drop_more}
use Rattle.meaning.specs.Plans.{in_range, most_blocks, most_trips, most_turns, most_workers, plan_of}
use Rattle.command_line.specs.CommandLine.{Asked, Clash, Given, Part, Text, behind, block, default_of, first, first_idle, greatest, idle_pair, is_idle, is_in, is_number, number_in, number_of, part, plan_in, stands, turns, window, with_effect, workers}
use Rattle.command_line.specs.Culprits.{IsClash, IsIdle, is_option, option_at, option_in, value_at, value_in, wanted_by, word_at}
use Rattle.command_line.specs.Matches.{fits, texts_in}
use Rattle.command_line.specs.declared.asked.Mode.{Mode}
use Rattle.command_line.specs.declared.asked.OptionsFault.{OptionsFault}
use Rattle.command_line.specs.declared.asked.OptionsFault.TheVariants as fault
use Rattle.command_line.specs.declared.asked.Setting.{Setting}
use Rattle.command_line.specs.declared.asked.Speculation.{Speculation}
use Rattle.command_line.proofs.Words.{first_fits, now_at}

-- ---- the numbers are those of a plan

number_fits : (p : Part) (most : ℕ) (given : Given) → greatest p ≡ Some most → in_range most (default_of p) ≡ true → list_all fits given ≡ true
    → in_range most (number_in p given) ≡ true
number_fits p most given known default all = go (first (part p) given) refl
  where
    go : (o : Option Text) → first (part p) given ≡ o → in_range most (option_map_or number_of o (default_of p)) ≡ true
    go None e = default
    go (Some v) e = (and_parts (is_number v) (in_range most (number_of v)) (sym (ap (λ o. Rattle.command_line.specs.CommandLine.fits_under o v) known) ∙ first_fits (part p) given v all e)).1

pub planned : (given : Given) → list_all fits given ≡ true
    → plan_of (number_in workers given) (number_in block given) (number_in window given) (number_in turns given) ≡ Some (plan_in given)
planned given all =
    ap (λ b. cond b (Some (plan_in given)) None)
    (and_from _ _ (number_fits workers most_workers given refl refl all) (and_from _ _ (number_fits block most_trips given refl refl all)
    (and_from _ _ (number_fits window most_blocks given refl refl all) (number_fits turns most_turns given refl refl all))))

-- ---- what has no effect

pub idle_next : (m : Mode) (given : Given) (xs : List Setting) (i : ℕ) (d : Setting) → i < length xs
    → (is_idle m (slice_index_or xs i d) && stands (slice_index_or xs i d) given) ≡ false → first_idle m given (drop i xs) ≡ first_idle m given (drop (i + 1) xs)
idle_next m given xs i d lt e =
    ap (first_idle m given) (drop_more xs i d lt) ∙ ap (λ b. cond b (Some (slice_index_or xs i d)) (first_idle m given (drop (i + 1) xs))) e

pub idle_found : (m : Mode) (given : Given) (xs : List Setting) (i : ℕ) (d : Setting) → i < length xs
    → (is_idle m (slice_index_or xs i d) && stands (slice_index_or xs i d) given) ≡ true → first_idle m given (drop i xs) ≡ Some (slice_index_or xs i d)
idle_found m given xs i d lt e =
    ap (first_idle m given) (drop_more xs i d lt) ∙ ap (λ b. cond b (Some (slice_index_or xs i d)) (first_idle m given (drop (i + 1) xs))) e

pub idle_clash : (given : Given) (named : Option Text) (chosen : Speculation) (e : OptionsFault) (pair : Option (Setting × Mode)) → IsIdle e pair
    → IsClash e (with_effect given named chosen pair)
idle_clash given named chosen (fault.NoEffect idle m) pair is = ap (with_effect given named chosen) is
idle_clash given named chosen fault.Help pair is = absurd is
idle_clash given named chosen fault.Version pair is = absurd is
idle_clash given named chosen fault.RuleNames pair is = absurd is
idle_clash given named chosen (fault.NoSuchOption option) pair is = absurd is
idle_clash given named chosen (fault.Misspelt option near) pair is = absurd is
idle_clash given named chosen (fault.NoValue option wanted) pair is = absurd is
idle_clash given named chosen (fault.NeedlessValue option) pair is = absurd is
idle_clash given named chosen (fault.GivenTwice option) pair is = absurd is
idle_clash given named chosen (fault.BadNumber option value wanted) pair is = absurd is
idle_clash given named chosen (fault.NoSuchSpeculation value) pair is = absurd is
idle_clash given named chosen (fault.TooManyFiles one more) pair is = absurd is
idle_clash given named chosen fault.NotUtf8 pair is = absurd is
idle_clash given named chosen fault.Memory pair is = absurd is

-- ---- one thing after another

pub clash_behind : {X Y : Type 0} (e : OptionsFault) (r : Result X Clash) (next : X → Result Y Clash) → IsClash e r → IsClash e (behind r next)
clash_behind (fault.TooManyFiles one more) r next is = ap (λ s. behind s next) is
clash_behind (fault.NoSuchSpeculation value) r next is = ap (λ s. behind s next) is
clash_behind (fault.NoEffect idle m) r next is = ap (λ s. behind s next) is
clash_behind fault.Help r next is = absurd is
clash_behind fault.Version r next is = absurd is
clash_behind fault.RuleNames r next is = absurd is
clash_behind (fault.NoSuchOption option) r next is = absurd is
clash_behind (fault.Misspelt option near) r next is = absurd is
clash_behind (fault.NoValue option wanted) r next is = absurd is
clash_behind (fault.NeedlessValue option) r next is = absurd is
clash_behind (fault.GivenTwice option) r next is = absurd is
clash_behind (fault.BadNumber option value wanted) r next is = absurd is
clash_behind fault.NotUtf8 r next is = absurd is
clash_behind fault.Memory r next is = absurd is

-- ---- the word at a place

abbrev pub word_there : List (Bor Text) → ℕ → Text
word_there words place = (slice_index_or words place (record { ref_ptr = (0, 0); now = [] })).now

pub word_is : (words : List (Bor Text)) (place : ℕ) → word_at (texts_in words) place ≡ word_there words place
word_is words place = sym (now_at words place (record { ref_ptr = (0, 0); now = [] }))

pub option_in_word : (words : List (Bor Text)) (place : ℕ) → is_option (word_there words place) ≡ true → option_at (texts_in words) place ≡ option_in (word_there words place)
option_in_word words place e =
    ap (λ w. cond (is_option w) (option_in w) (word_at (texts_in words) (place - 1))) (word_is words place)
    ∙ ap (λ b. cond b (option_in (word_there words place)) (word_at (texts_in words) (place - 1))) e

pub option_before : (words : List (Bor Text)) (place : ℕ) → is_option (word_there words place) ≡ false → option_at (texts_in words) place ≡ word_there words (place - 1)
option_before words place e =
    ap (λ w. cond (is_option w) (option_in w) (word_at (texts_in words) (place - 1))) (word_is words place)
    ∙ ap (λ b. cond b (option_in (word_there words place)) (word_at (texts_in words) (place - 1))) e ∙ word_is words (place - 1)

pub value_in_word : (words : List (Bor Text)) (place : ℕ) → is_option (word_there words place) ≡ true → value_at (texts_in words) place ≡ value_in (word_there words place)
value_in_word words place e =
    ap (λ w. cond (is_option w) (value_in w) w) (word_is words place)
    ∙ ap (λ b. cond b (value_in (word_there words place)) (word_there words place)) e

pub value_alone : (words : List (Bor Text)) (place : ℕ) → is_option (word_there words place) ≡ false → value_at (texts_in words) place ≡ word_there words place
value_alone words place e =
    ap (λ w. cond (is_option w) (value_in w) w) (word_is words place)
    ∙ ap (λ b. cond b (value_in (word_there words place)) (word_there words place)) e

-- ---- what an option takes

pub wanted_workers : (o : Text) → bytes_eq o (codes "--workers") ≡ true → wanted_by o ≡ codes "a number from 1 to 64"
unfolding digits
wanted_workers o a = rw a refl

pub wanted_block : (o : Text) → bytes_eq o (codes "--workers") ≡ false → bytes_eq o (codes "--block") ≡ true → wanted_by o ≡ codes "a number from 1 to 1000000"
unfolding digits
wanted_block o a b = rw a (rw b refl)

pub wanted_window : (o : Text) → bytes_eq o (codes "--workers") ≡ false → bytes_eq o (codes "--block") ≡ false → bytes_eq o (codes "--window") ≡ true
    → wanted_by o ≡ codes "a number from 1 to 256"
unfolding digits
wanted_window o a b d = rw a (rw b (rw d refl))

pub wanted_turns : (o : Text) → bytes_eq o (codes "--workers") ≡ false → bytes_eq o (codes "--block") ≡ false → bytes_eq o (codes "--window") ≡ false
    → bytes_eq o (codes "--turns") ≡ true → wanted_by o ≡ codes "a number from 1 to 1000000000000"
unfolding digits
wanted_turns o a b d t = rw a (rw b (rw d (rw t refl)))

pub planned_by : (given : Given) (a b d e : ℕ) → a ≡ number_in workers given → b ≡ number_in block given → d ≡ number_in window given → e ≡ number_in turns given
    → list_all fits given ≡ true → plan_of a b d e ≡ Some (plan_in given)
planned_by given a b d e w x y z all = rw w (rw x (rw y (rw z (planned given all))))
