-- What --explain tells behind the line of an ending.
use Rattle.std.specs.Prelude.{◌≡◌, ◌⊎◌, ℕ, List, [], ◌++◌, Option, Some, None, Result, Err, codes}
use Rattle.meaning.specs.declared.refusal.Broken.{Broken}
use Rattle.meaning.specs.declared.refusal.Refusal.{Refusal}
use Rattle.meaning.specs.declared.refusal.Rule.{Rule}
use Rattle.meaning.specs.declared.syntax.Tree.{Tree}
use Rattle.meaning.specs.Reports.{Gives}
use Rattle.meaning.specs.Trees.{Nested, nested}
use Rattle.rule_laws.specs.Units.{Spells, unit_of}
use Rattle.word_places.specs.declared.places.Place.{Place}
use Rattle.messages.specs.declared.explaining.Known.{Known}
use Rattle.messages.specs.declared.explaining.Matter.{Matter}
use Rattle.messages.specs.Explained.{IsAbout, explained}
use Rattle.messages.specs.Knowing.{IsKnownOf, IsKnownUnread, IsNothing}
use Rattle.messages.specs.Shown.{told_line}

-- ---- what is known of a matter: what breaks the rule at its line, where the source spells a
-- program unit, and else as what the statement is read that has no reading; of a fault it may be
-- any

abbrev pub IsUnit : List ℕ → Option Nested → Type 0
IsUnit source (Some t) = Spells source t
IsUnit source None = (b : Broken) × (unit_of source ≡ Err b)

-- it was read, or why there is none, or a growth was refused
abbrev pub IsUnitRead : List ℕ → Result Tree Refusal → Type 0
IsUnitRead source unit = Gives nested unit (unit_of source)

abbrev pub IsKnownIf : List ℕ → Rule → ℕ → Option Nested → Known → Type 0
IsKnownIf source rule line None known = IsKnownUnread source rule line known
IsKnownIf source rule line (Some t) known = IsKnownOf source t rule line known

abbrev pub IsKnownIn : List ℕ → Rule → ℕ → Known → Type 0
IsKnownIn source rule line known =
    (t : Option Nested) × IsUnit source t × IsKnownIf source rule line t known

abbrev pub IsKnownFor : List ℕ → Option Rule → ℕ → Known → Type 0
IsKnownFor source (Some rule) line known = IsKnownIn source rule line known
IsKnownFor source None line known = Unit {0}

-- ---- what is told by it; where a growth was refused for it no more than the sentence, and that

abbrev pub IsExplainedBy : List ℕ → List ℕ → Matter → Known → List ℕ → Type 0
IsExplainedBy file source matter known lines =
    (place : Place) × (text : List ℕ) × IsAbout source matter.rule matter.line known place text
    × (lines ≡ explained file source matter place text)

abbrev pub IsUntold : List ℕ → List ℕ → Matter → List ℕ → Type 0
IsUntold file source matter lines =
    (known : Known) × IsNothing known
    × ((first : List ℕ) × IsExplainedBy file source matter known first
    × (lines ≡ first ++ told_line (codes "NOT TOLD")))

abbrev pub IsExplained : List ℕ → List ℕ → Matter → List ℕ → Type 0
IsExplained file source matter lines =
    ((known : Known) × IsKnownFor source matter.rule matter.line known
    × IsExplainedBy file source matter known lines)
    ⊎ IsUntold file source matter lines

abbrev pub Explains : List ℕ → List ℕ → Option Matter → List ℕ → Type 0
Explains file source (Some matter) lines = IsExplained file source matter lines
Explains file source None lines = lines ≡ []
