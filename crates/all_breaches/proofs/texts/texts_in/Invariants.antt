use Rattle.std.proofs.Common.{◌≡◌, map, take}
use Rattle.meaning.specs.Statements.{entry_of}
use Rattle.meaning.specs.Trees.{item_tree}
use Rattle.all_breaches.specs.Phases.{pairs_of_texts}
use Rattle.all_breaches.specs.Texts.{members_read}
use Rattle.all_breaches.proofs.texts.texts_in.Given as goal

abbrev pub invariant-loop-statement : goal.invariant-loop-statement
invariant-loop-statement l = record {
  members : map item_tree l.members.items ≡ members_read (map entry_of (take l.statement-index l.found));
  broken : l.broken.items ≡ pairs_of_texts (map entry_of (take l.statement-index l.found));
}
