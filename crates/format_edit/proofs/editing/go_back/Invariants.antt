use Rattle.std.proofs.Common.{◌≡◌, ◌-◌, ◌∷◌}
use Rattle.meaning.specs.Formats.{colon, slash}
use Rattle.meaning.specs.Records.{pass, times, course}
use Rattle.format_edit.specs.Formatted.{parts_of}
use Rattle.format_edit.specs.Ahead.{ahead}
use Rattle.format_edit.proofs.editing.go_back.Given as goal

abbrev pub invariant-loop : goal.invariant-loop
invariant-loop l =
    ahead l.fn.sheet (course (times l.most (colon ∷ (slash ∷ pass (parts_of l.parts)))) l.values)
    ≡ ahead l.sheet (course (times (l.most - l.counter) (colon ∷ (slash ∷ pass (parts_of l.parts)))) l.left)
