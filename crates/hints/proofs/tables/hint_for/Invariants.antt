use Rattle.std.proofs.Common.{◌≡◌, drop, map}
use Rattle.hints.specs.Forms.{first_hint}
use Rattle.hints.specs.Rows.{form_of}
use Rattle.hints.proofs.tables.hint_for.Given as goal

abbrev pub invariant-loop-row : goal.invariant-loop-row
invariant-loop-row l = first_hint (map form_of (drop l.row-index l.rows)) l.text ≡ first_hint (map form_of l.rows) l.text
