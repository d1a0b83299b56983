-- Where in a list a transfer of control goes on (ANSI X3.9-1978, 11.1 to 11.4).
use Rattle.std.specs.Prelude.{◌≡◌, ℕ, Option, Some, None}
use Rattle.meaning.specs.declared.syntax.Member.{Member}
use Rattle.meaning.specs.Execution.{Next, onward, at_label}
use Rattle.label_targets.specs.Entries.{entry}

-- the label by which a transfer leads to a member, and how far behind its beginning it goes on;
-- none where no label does
abbrev pub IsLedTo : Member → Option (ℕ × ℕ) → Type 0
IsLedTo x (Some h) = entry h.0 x ≡ Some h.1
IsLedTo x None = (s : ℕ) → entry s x ≡ None

-- to a label, or onward where there is none
abbrev pub next_of : Option ℕ → Next
next_of None = onward
next_of (Some s) = at_label s
