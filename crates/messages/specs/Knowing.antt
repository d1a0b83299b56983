-- What is known of what breaks a rule.
use Rattle.std.specs.Prelude.{◌≡◌, ℕ, List, [], Option, Some, None}
use Rattle.meaning.specs.declared.refusal.Rule.{Rule}
use Rattle.meaning.specs.declared.refusal.Rule.TheVariants.{G1}
use Rattle.meaning.specs.Trees.{Nested}
use Rattle.culprits.specs.Culprits.{culprit_at}
use Rattle.culprits.specs.Texts.{told_text, word_of}
use Rattle.culprits.specs.Told.{Told}
use Rattle.readings.specs.declared.kinds.Reading.{Reading}
use Rattle.readings.specs.Readings.{reading_at, reading_text}
use Rattle.word_places.specs.Columns.{place_at}
use Rattle.messages.specs.declared.explaining.Known.{Known}

-- no more than the sentence
pub record IsNothing (k : Known) : Type 0 where
  pub nowhere : k.place ≡ None
  pub silent : k.text.items ≡ []

-- what breaks a rule in words, and where its name stands in the statement of a line
pub record IsKnownBy (source : List ℕ) (line : ℕ) (told : Told) (k : Known) : Type 0 where
  pub placed : k.place ≡ place_at line (word_of told) source
  pub is_text : k.text.items ≡ told_text told

abbrev pub IsKnownAs : List ℕ → ℕ → Option Told → Known → Type 0
IsKnownAs source line None k = IsNothing k
IsKnownAs source line (Some told) k = IsKnownBy source line told k

-- what breaks a rule at a line of a program unit
abbrev pub IsKnownOf : List ℕ → Nested → Rule → ℕ → Known → Type 0
IsKnownOf source t rule line k = IsKnownAs source line (culprit_at rule line t) k

-- ---- where a source spells no program unit

-- as what a statement is read
pub record IsKnownReading (reading : Reading) (k : Known) : Type 0 where
  pub nowhere : k.place ≡ None
  pub is_text : k.text.items ≡ reading_text reading

abbrev pub IsKnownAsRead : Option Reading → Known → Type 0
IsKnownAsRead None k = IsNothing k
IsKnownAsRead (Some reading) k = IsKnownReading reading k

-- of a text that has no reading, as what the statement is read whose initial line is that line
abbrev pub IsKnownUnread : List ℕ → Rule → ℕ → Known → Type 0
IsKnownUnread source G1 line k = IsKnownAsRead (reading_at line source) k
IsKnownUnread source rule line k = IsNothing k
