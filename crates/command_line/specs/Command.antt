-- The command as clap sees it.
use Rattle.std.specs.Prelude.{ℕ, Some, codes, true}
use Rattle.clap.specs.Walk.{Rule, Text}
use Rattle.clap.specs.Simple.{App, new_app, new_rule, with_rule}
use Rattle.clap.specs.declared.builder.action.ArgAction.TheVariants.{Set, SetTrue, Append}
use Rattle.clap.specs.declared.builder.value_parser.ValueParser.TheVariants as vp
use Rattle.clap.specs.declared.error.kind.ErrorKind.{ErrorKind}
use Rattle.clap.specs.declared.error.kind.ErrorKind.TheVariants as kind
use Rattle.command_line.specs.declared.asked.Wrong.{Wrong}
use Rattle.command_line.specs.declared.asked.Wrong.TheVariants as wrong

-- an option that takes a number from 1 to the greatest
abbrev pub number_rule : Text → ℕ → Rule
number_rule name most = record (new_rule name) {
  long = Some name;
  action = Some Set;
  parser = Some (vp.Unsigned 1 most);
}

-- a flag, which clap gives the value `true`, and `false` where it doesn't stand among the words
abbrev pub flag_rule : Text → Rule
flag_rule name = record (new_rule name) {
  long = Some name;
  action = Some SetTrue;
}

-- an option that takes a word
abbrev pub word_rule : Text → Rule
word_rule name = record (new_rule name) {
  long = Some name;
  action = Some Set;
}

abbrev pub file_rule : Rule
file_rule = record (new_rule (codes "FILE")) { action = Some Append }

abbrev pub bare_app : App
bare_app = new_app (codes "f77run")

abbrev pub versioned : App
versioned = record bare_app { top = record bare_app.top { has_version = true } }

abbrev pub with_options : App → App
with_options app =
    with_rule (with_rule (with_rule (with_rule (with_rule (with_rule app (number_rule (codes "workers") 64)) (number_rule (codes "block") 1000000)) (number_rule (codes "window") 256)) (number_rule (codes "turns") 1000000000000)) (word_rule (codes "rule"))) (word_rule (codes "speculate"))

abbrev pub f77run : App
f77run =
    with_rule (with_rule (with_rule (with_rule (with_rule (with_options versioned) (flag_rule (codes "check"))) (flag_rule (codes "count"))) (flag_rule (codes "explain"))) (flag_rule (codes "stages"))) file_rule

abbrev pub wrong_for : ErrorKind → Wrong
wrong_for kind.DisplayHelp = wrong.Help
wrong_for kind.DisplayVersion = wrong.Version
wrong_for kind.OutOfMemory = wrong.Memory
wrong_for kind.InvalidValue = wrong.NoValue
wrong_for kind.TooManyValues = wrong.NeedlessValue
wrong_for kind.ArgumentConflict = wrong.GivenTwice
wrong_for kind.ValueValidation = wrong.BadNumber
wrong_for _ = wrong.NoSuchOption
