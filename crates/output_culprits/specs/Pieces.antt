-- What stands between the commas of a format's text (ANSI X3.9-1978, 13.1 and 13.2), those in
-- groups and in texts between apostrophes left out.
use Rattle.std.specs.Prelude.{◌≡◌, ℕ, suc, ◌-◌, Bool, false, not, ◌&&◌, ◌||◌, ◌==◌, [], ◌∷◌}
use Rattle.std.specs.Prelude.{◌++◌, drop, length, is_none, if◌then◌else◌, IsTrue}
use Rattle.meaning.specs.Characters.{apostrophe}
use Rattle.meaning.specs.Formats.{descriptors_of}
use Rattle.meaning.specs.Reading.{Text}
use Rattle.output_culprits.specs.declared.pieces.Scan.{Scan}

-- how far one has come: in a text or not, in how many groups, and where what is looked at begins
abbrev pub scan_start : Scan
scan_start = record { quoted = false; depth = 0; start = 0 }

abbrev pub depth_behind : ℕ → ℕ → ℕ
depth_behind code depth =
    if code == 40 then suc depth else (if code == 41 then depth - 1 else depth)

-- a comma outside of groups and texts
abbrev pub ends_piece : Scan → ℕ → Bool
ends_piece s code = (code == 44) && (not s.quoted && (s.depth == 0))

-- behind a character of this code at this place
abbrev pub scan_behind : ℕ → ℕ → Scan → Scan
scan_behind place code s =
    if s.quoted
    then record { quoted = not (code == apostrophe); depth = s.depth; start = s.start }
    else record {
      quoted = code == apostrophe;
      depth = depth_behind code s.depth;
      start = if ends_piece s code then suc place else s.start;
    }

-- what stands before a comma is nothing, or no format
abbrev pub is_bad : Text → Bool
is_bad front = (length front == 0) || is_none (descriptors_of front)

-- what stands before the first comma up to which the text is bad, behind the comma before that one;
-- or behind the last comma
unfoldable pub piece_from : Scan → Text → Text → Text
piece_from s front [] = drop s.start front
piece_from s front (c ∷ t) =
    if ends_piece s c && is_bad front then drop s.start front
    else piece_from (scan_behind (length front) c s) (front ++ c ∷ []) t

abbrev pub piece_of : Text → Text
piece_of text = piece_from scan_start [] text

-- the text is bad up to the end of what is told
pub record IsBadPiece (text told : Text) : Type 0 where
  pub front : Text
  pub behind : Text
  pub parts : text ≡ (front ++ told) ++ behind
  pub bad : IsTrue (is_bad (front ++ told))
