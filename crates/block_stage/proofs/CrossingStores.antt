-- Stores, sets of cells and views may cross threads; formats and landmarks may be read by several.
use denote.Ref.{NamedLft}
use denote.Param.Send.{IsSend, IsSync, sendable}
use Rattle.std.proofs.Crossing.{crosses}
use Rattle.std.proofs.MapsCrossing as maps
use Rattle.array_store.specs.contracts.whole.Whole as Whole
use Rattle.marks.specs.contracts.marks.Marks as Marks
use Rattle.private_view.specs.contracts.view.View as View
use Rattle.format_edit.specs.contracts.format.Format as Format
use Rattle.format_edit.proofs.format.Part.TheLaws.TheKnot as part
use Rattle.label_targets.specs.contracts.label_targets.LabelTargets as LabelTargets

pub Whole_field : IsSync Whole.the_field.row
Whole_field = search (crosses, sendable) depth 60 fits 20000

pub Marks_send : IsSend Marks.the_field.row
Marks_send = search (crosses, maps.crosses, sendable) depth 60 fits 20000

pub View_send : (κ : NamedLft) → IsSend (View.the_field κ).row
View_send κ = search (crosses, maps.crosses, Marks_send, Whole_field, sendable) depth 60 fits 20000

pub Format_field : IsSync Format.the_field.row
Format_field = search (crosses, part.crosses, sendable) depth 60 fits 20000

pub LabelTargets_field : IsSync LabelTargets.the_field.row
LabelTargets_field = search (crosses, maps.crosses, sendable) depth 60 fits 20000
