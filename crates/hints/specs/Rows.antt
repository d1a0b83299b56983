-- The forms that rows of the tables stand for.
use Rattle.std.specs.Prelude.{map}
use Rattle.hints.specs.declared.tables.Row.{Row}
use Rattle.hints.specs.Forms.{Form}

abbrev pub form_of : Row → Form
form_of r =
    record { front = map (λ w. w.now) r.0.now; inner = map (λ w. w.now) r.1.now; hint = r.2 }
