use Rattle.std.proofs.Common.{◌∙◌, ap, option_map}
use Rattle.clap.specs.Matches.{found_of, matched_of, raw_values}
use Rattle.command_line.specs.CommandLine.{part, values}
use Rattle.command_line.proofs.Words.{first_of_files, no_file, texts_given}
use Rattle.command_line.proofs.options.word_given.Goals as goal

pub returns-in-None : goal.returns-in-None
returns-in-None c given p h named =
    let m = c.args.matches.now in
    (no_file (values (part p) given) (c.in-None.ensures ∙ ap (λ n. option_map raw_values (matched_of (found_of m) n)) named ∙ texts_given given m p h)).1

pub returns-in-Some : goal.returns-in-Some
returns-in-Some c given p h named =
    let m = c.args.matches.now in
    let words = c.in-Some.words.now in
    ap (option_map (λ s. s.now)) (c.copied.ensures ∙ c.first.ensures.value)
    ∙ first_of_files words (values (part p) given) (c.in-Some.ensures ∙ ap (λ n. option_map raw_values (matched_of (found_of m) n)) named ∙ texts_given given m p h)
