-- What is told of an ending behind its line.
use Rattle.std.specs.Prelude.{◌≡◌, ◌⊎◌, ℕ, Bool, true, false, List, [], ◌∷◌, ◌++◌, map, Option}
use Rattle.std.specs.Prelude.{Some, None, codes, decimal, if◌then◌else◌, take}
use Rattle.meaning.specs.declared.ending.Ending.{Ending}
use Rattle.meaning.specs.declared.ending.Ending.TheVariants as endings
use Rattle.meaning.specs.declared.ending.Fault.{Fault}
use Rattle.meaning.specs.declared.refusal.Rule.{Rule}
use Rattle.meaning.specs.declared.refusal.Rule.TheVariants.{C1, C7}
use Rattle.meaning.specs.Names.{fault_name, rule_name}
use Rattle.rule_help.specs.declared.FaultText.{FaultText}
use Rattle.rule_help.specs.declared.RuleText.{RuleText}
use Rattle.source_columns.specs.Excerpts.{excerpt}
use Rattle.messages.specs.declared.explaining.Known.{Known}
use Rattle.messages.specs.declared.explaining.Matter.{Matter}
use Rattle.word_places.specs.declared.places.Place.{Place}
use Rattle.messages.specs.Pointed.{IsFirst, IsUnprintable, line_in, pointed}
use Rattle.messages.specs.Shown.{shown, told_line}

-- ---- what there is to explain of an ending

pub record IsFaultMatter (fault : Fault) (matter : Matter) : Type 0 where
  pub row : FaultText
  pub is_row : row.kind ≡ fault.kind
  pub line : matter.line ≡ fault.line
  pub name : matter.name.now ≡ fault_name fault.kind
  pub sentence : matter.sentence ≡ row.sentence
  pub no_rule : matter.rule ≡ None
  pub is_first : matter.is_told ≡ false

-- of a rule, whose sentence may be told before
pub record IsRuleMatter (rule : Rule) (at : ℕ) (is_told : Bool) (matter : Matter) : Type 0 where
  pub row : RuleText
  pub is_row : row.rule ≡ rule
  pub line : matter.line ≡ at
  pub name : matter.name.now ≡ rule_name rule
  pub sentence : matter.sentence ≡ row.sentence
  pub has_rule : matter.rule ≡ Some rule
  pub told_before : matter.is_told ≡ is_told

abbrev pub IsMatter : Ending → Option Matter → Type 0
IsMatter (endings.Fault fault) (Some matter) = IsFaultMatter fault matter
IsMatter (endings.Refused rule line) (Some matter) = IsRuleMatter rule line false matter
IsMatter (endings.Fault fault) None = ⊥
IsMatter (endings.Refused rule line) None = ⊥
IsMatter ending None = Unit {0}
IsMatter ending (Some matter) = ⊥

-- ---- what is told of it

-- what is wrong, or the sentence where nothing more is known
abbrev pub said : Matter → List ℕ → List ℕ
said matter [] = matter.sentence.now
said matter (c ∷ cs) = c ∷ cs

-- a place as editors read it (GNU Coding Standards, "Formatting Error Messages")
abbrev pub place_text : Place → List ℕ
place_text place = codes ":" ++ decimal place.line ++ codes ":" ++ decimal place.column ++ codes ": "

abbrev pub headline : List ℕ → Matter → Place → List ℕ → List ℕ
headline file matter place text =
    map shown file ++ place_text place ++ matter.name.now ++ codes ": " ++ map shown (said matter text) ++ codes "\n"

-- lines are shown of each source but one that is too long
abbrev pub is_shown : Option Rule → Bool
is_shown (Some C7) = false
is_shown rule = true

abbrev pub lines_at : Bool → List ℕ → Place → List ℕ
lines_at true source place = pointed place (excerpt place.line source)
lines_at false source place = []

-- the sentence, where it isn't told yet
abbrev pub sentence_behind : Matter → List ℕ → List ℕ
sentence_behind matter [] = []
sentence_behind matter (c ∷ cs) = if matter.is_told then [] else told_line matter.sentence.now

-- where it is, what is wrong there, the lines of the statement, and the sentence
abbrev pub explained : List ℕ → List ℕ → Matter → Place → List ℕ → List ℕ
explained file source matter place text =
    headline file matter place text ++ lines_at (is_shown matter.rule) source place
    ++ sentence_behind matter text

-- ---- where a message points, and what is wrong there

-- of characters the first that isn't printable, if there is one
abbrev pub AreCharacters : List ℕ → ℕ → Place → List ℕ → Type 0
AreCharacters source line place text =
    ((place.line ≡ line) × IsUnprintable (take 72 (line_in line source)) place.column text)
    ⊎ (IsFirst source line place × (text ≡ []))

-- the place that is known, or where the statement begins
abbrev pub IsPlaced : List ℕ → ℕ → Option Place → Place → Type 0
IsPlaced source line (Some known) place = place ≡ known
IsPlaced source line None place = IsFirst source line place

abbrev pub IsAbout : List ℕ → Option Rule → ℕ → Known → Place → List ℕ → Type 0
IsAbout source (Some C1) line known place text = AreCharacters source line place text
IsAbout source rule line known place text =
    IsPlaced source line known.place place × (text ≡ known.text.items)
