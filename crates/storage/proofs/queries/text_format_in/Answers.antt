use Rattle.std.proofs.Common.{ap, option_map, ◌∙◌}
use Rattle.meaning.specs.Formats.{format_in, undoubled}
use Rattle.format_edit.specs.Constants.{stands_in}
use Rattle.format_edit.specs.Formatted.{descriptors}
use Rattle.storage.specs.Checked.{items_in}
use Rattle.storage.proofs.Texts.{copied, read_from}
use Rattle.storage.proofs.queries.text_format_in.Goals as goal

pub returns-clause-kept : goal.returns-clause-kept
returns-clause-kept c =
    copied c.get.result ∙ ap (option_map descriptors) c.get.ensures.value ∙ c.requires.read c.args.text.now

pub returns-clause-read : goal.returns-clause-read
returns-clause-read c =
    read_from c.get.result (stands_in (items_in c.args.parts.now.tree) c.args.text.now) (format_in (undoubled c.args.text.now)) (copied c.get.result ∙ ap (option_map descriptors) c.get.ensures.value ∙ c.requires.read c.args.text.now)
