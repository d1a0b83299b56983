use Rattle.std.proofs.Common.{◌^◌, arith}
use Rattle.storage.specs.Checked.{items_in, tree_of}
use Rattle.rule_laws.proofs.Lines.{unit_ascends}
use Rattle.ruly_laws.proofs.Statements.{functions_codable, statements_codable}
use Rattle.lowering.proofs.Filled.{climb_by, climbs_from}
use Rattle.lowering.proofs.lower.lowered.Goals as goal

pub kept_of-requires : goal.kept_of-requires
kept_of-requires c =
    let t = tree_of c.args.unit in
    let source = c.requires.spelled.source in
    let spells = c.requires.spelled.spells in
    record {
      statements = statements_codable source t spells c.requires.accepted;
      functions = functions_codable source t spells c.requires.accepted;
      lines = climbs_from 0 1 (2 ^ 16) (items_in c.args.unit) (omega arith) (climb_by 1 _ (omega arith) (unit_ascends source t spells));
    }
