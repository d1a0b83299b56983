use Rattle.std.proofs.Common.{◌∙◌, sym, ap, option_map}
use Rattle.std.specs.Prelude.{Ok}
use Rattle.command_line.specs.CommandLine.{file, part, values}
use Rattle.command_line.proofs.Words.{lone_file, many_files, no_file, texts_given}
use Rattle.command_line.proofs.options.file_given.Goals as goal

pub returns-in-None : goal.returns-in-None
returns-in-None c given h = (no_file (values (part file) given) (c.in-None.ensures ∙ texts_given given c.args.matches.now file h)).0

pub returns-then-files-gt1 : goal.returns-then-files-gt1
returns-then-files-gt1 c given h =
    many_files c.in-Some.files.now (values (part file) given) _ (c.in-Some.ensures ∙ texts_given given c.args.matches.now file h) c.if-files-gt1.true

pub returns-else-files-gt1 : goal.returns-else-files-gt1
returns-else-files-gt1 c given h =
    lone_file c.in-Some.files.now (values (part file) given) (c.in-Some.ensures ∙ texts_given given c.args.matches.now file h) c.if-files-gt1.false
    ∙ ap (λ o. Ok (option_map (λ s. s.now) o)) (sym (c.copied.ensures ∙ c.first.ensures.value))
