-- The bare text of a statement (ANSI X3.9-1978, 3.1.5, 3.1.6 and 4.8): blanks have no meaning
-- outside character constants, where lower case letters stand for upper case ones (own).
use Rattle.std.specs.Prelude.{ℕ, Bool, true, false, not, List, [], ◌∷◌, ◌++◌, ◌==◌, if◌then◌else◌}
use Rattle.meaning.specs.Characters.{blank, apostrophe, raised}

-- what is left of a character, inside a character constant or outside
abbrev pub kept : Bool → ℕ → List ℕ
kept true c = c ∷ []
kept false c = if c == blank then [] else raised c ∷ []

-- each apostrophe leads into a constant or out of it
unfoldable pub bare_behind : Bool → List ℕ → List ℕ
bare_behind inside [] = []
bare_behind inside (c ∷ cs) =
    kept inside c ++ bare_behind (if c == apostrophe then not inside else inside) cs

unfoldable pub bare : List ℕ → List ℕ
unfolding bare_behind
bare text = bare_behind false text
