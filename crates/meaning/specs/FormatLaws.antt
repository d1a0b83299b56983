-- Laws of character constants and formats (ANSI X3.9-1978, 4.8, 13.2.2 and 13.3) that their users
-- stand on.
use Rattle.std.specs.Prelude.{◌≡◌, ◌≤◌, ℕ, List, [], ◌∷◌, ◌++◌, length, Some, None, IsTrue}
use Rattle.meaning.specs.declared.ending.Value.{Value}
use Rattle.meaning.specs.Characters.{apostrophe}
use Rattle.meaning.specs.Spelling.{is_paired}
use Rattle.meaning.specs.Reading.{after}
use Rattle.meaning.specs.Formats.{Parts, Denotes, doubled, quoted_at, undoubled}
use Rattle.meaning.specs.Records.{edited_within, edited}

-- a text whose apostrophes are doubled is read back: from a character constant, which has any text
-- in which they come in pairs, and from a format, up to an apostrophe that no other follows
pub record IsReadBack (text : List ℕ) : Type 0 where
  pub single : undoubled (doubled text) ≡ text
  pub pairs : IsTrue (is_paired (doubled text))
  pub again : IsTrue (is_paired text) → doubled (undoubled text) ≡ text
  pub quoted : (rest : List ℕ) → after (apostrophe ∷ []) rest ≡ None →
      quoted_at (doubled text ++ (apostrophe ∷ rest)) ≡ Some (text, rest)

-- control goes back as often as there are values at most: the answer is the same where it may do so
-- more often
abbrev pub MoreRepeatsChangeNothing : Type 0
MoreRepeatsChangeNothing =
    (text : List ℕ) (ps : Parts) (vs : List Value) (n : ℕ) → Denotes text ps → length vs ≤ n →
    edited_within n ps vs ≡ edited ps vs
