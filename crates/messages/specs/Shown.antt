-- Bytes for people, and what a sink has of them.
use Rattle.std.specs.Prelude.{◌≡◌, ◌⊎◌, ℕ, Bool, false, true, List, [], ◌++◌, map, codes}
use Rattle.std.specs.Prelude.{if◌then◌else◌}
use Rattle.meaning.specs.Promise.{Told, Took, IsBroken}
use Rattle.meaning.specs.Statements.{is_printable}

-- a byte, or a question mark (63) in place of what isn't printable
abbrev pub shown : ℕ → ℕ
shown b = if is_printable b then b else 63

-- a line behind two blanks
abbrev pub told_line : List ℕ → List ℕ
told_line line = codes "  " ++ map shown line ++ codes "\n"

-- a hint
abbrev pub hint_line : List ℕ → List ℕ
hint_line text = codes "  HINT: " ++ map shown text ++ codes "\n"

-- a sink took all of the bytes, or a beginning of them and then refused; one that had refused took
-- none
pub record IsTold (bytes : List ℕ) (old new : Told) : Type 0 where
  pub tried : old.refused ≡ false → Took old new bytes ⊎ IsBroken bytes old new
  pub over : old.refused ≡ true → Took old new []

-- ---- what is asked for

-- lines of which that holds, where they are wanted, and else none
abbrev pub Given : Bool → (List ℕ → Type 0) → List ℕ → Type 0
Given true P lines = P lines
Given false P lines = lines ≡ []

-- such lines are told
abbrev pub Adds : Bool → (List ℕ → Type 0) → Told → Told → Type 0
Adds wanted P old new = (lines : List ℕ) × Given wanted P lines × IsTold lines old new
