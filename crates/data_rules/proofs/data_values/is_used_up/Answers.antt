use Rattle.std.proofs.Common.{map, ap, ◌∙◌}
use Rattle.meaning.specs.Syntax.{data_value_tree}
use Rattle.data_rules.specs.DataRuns.{values_of}
use Rattle.data_rules.specs.DataStages.{is_empty_list}
use Rattle.declarations.specs.Tables.{known_at}
use Rattle.data_rules.proofs.DataRunning.{used_up}
use Rattle.data_rules.proofs.data_values.is_used_up.Goals as goal

pub returns : goal.returns
returns c =
    let v = c.fill_run.new.values in
    used_up v.run.count v.run.value (values_of (known_at v.table.now) (map data_value_tree v.rest.now)) c.fill_run.ensures.empty
    ∙ ap is_empty_list c.fill_run.ensures.left
