use Rattle.std.proofs.Common.{◌≤◌}
use Rattle.meaning.specs.Syntax.{list_items_tree}
use Rattle.meaning.proofs.syntax.ListItems.TheLaws.{the_size}
use Rattle.program.specs.Codes.{setting_in}
use Rattle.ruly_laws.specs.Statements.{AreItemsCodable}
use Rattle.lowering.proofs.Listing.{AreLeading}
use Rattle.lowering.proofs.items.+listed.Given as goal

abbrev pub invariant-add_codes-loop-rest : goal.invariant-add_codes-loop-rest
invariant-add_codes-loop-rest l = record {
  leading : AreLeading l.program (list_items_tree l.items) (list_items_tree l.rest) l.codes.items;
  within : the_size l.rest ≤ the_size l.items;
  codable : AreItemsCodable (setting_in l.program) (list_items_tree l.rest);
}
