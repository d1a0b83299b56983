-- The forms that have hints (own).
use Rattle.std.specs.Prelude.{ℕ, Bool, ◌&&◌, List, [], ◌∷◌, map, Option, codes}
use Prim.Native.String.{String}
use Rattle.std.specs.List.{find, list_any}
use Rattle.std.specs.Option.{option_map}
use Rattle.meaning.specs.declared.refusal.Rule.{Rule}
use Rattle.meaning.specs.declared.refusal.Rule.TheVariants as rules
use Rattle.hints.specs.declared.hint.Hint.{Hint}
use Rattle.hints.specs.declared.hint.Hint.TheVariants.{Tab, CommentMark, Preprocessor, DebugLine}
use Rattle.hints.specs.declared.hint.Hint.TheVariants.{Columns, Comment, Quotes, Behind72, Format}
use Rattle.hints.specs.declared.hint.Hint.TheVariants.{Hollerith, Ampersand, Semicolon, Colons}
use Rattle.hints.specs.declared.hint.Hint.TheVariants.{Relation, NameCharacter, Function}
use Rattle.hints.specs.declared.hint.Hint.TheVariants.{Subroutine, Return, Length, InitialValue}
use Rattle.hints.specs.declared.hint.Hint.TheVariants.{Parameter, ListDirected, Control, Read}
use Rattle.hints.specs.declared.hint.Hint.TheVariants.{Files, Unit, Leave, Assigned, Forever, End}
use Rattle.hints.specs.declared.hint.Hint.TheVariants.{Program, Include, Characters, RealConstant}
use Rattle.hints.specs.declared.hint.Hint.TheVariants.{Real, Common, Equivalence, Needless, Pause}
use Rattle.hints.specs.declared.hint.Hint.TheVariants.{Exit, Then, Limits, Declare, RealEdit}
use Rattle.hints.specs.declared.hint.Hint.TheVariants.{TabEdit, EditComma, Conversion, Root}
use Rattle.hints.specs.Patterns.{holds}

-- a text has the form if it has one of the first patterns and one of the second
pub record Form : Type 0 where
  pub front : List (List ℕ)
  pub inner : List (List ℕ)
  pub hint : Hint

abbrev pub holds_any : List ℕ → List (List ℕ) → Bool
holds_any text patterns = list_any (holds text) patterns

abbrev pub has : List ℕ → Form → Bool
has text f = holds_any text f.front && holds_any text f.inner

-- the hint of the first form that a text has
abbrev pub first_hint : List Form → List ℕ → Option Hint
first_hint forms text = option_map (λ f. f.hint) (find (has text) forms)

-- patterns are written as texts
abbrev pub form : List String → List String → Hint → Form
form front inner hint = record { front = map codes front; inner = map codes inner; hint = hint }

-- every text has it
abbrev pub any : List String
any = "" ∷ []

abbrev pub hollerith : List String
hollerith = "ndH" ∷ "nddH" ∷ []

abbrev pub function : List String
function = "bINTEGERFUNCTION" ∷ "bLOGICALFUNCTION" ∷ []

-- C1: characters that aren't FORTRAN's
abbrev pub characters : List Form
characters =
    form ("b!" ∷ []) any CommentMark ∷
    form any ("t" ∷ []) Tab ∷
    []

-- C2 and C3: columns 1 to 5
abbrev pub labels : List Form
labels =
    form ("b!" ∷ []) any CommentMark ∷
    form ("b#" ∷ []) any Preprocessor ∷
    form ("bDeeee" ∷ []) any DebugLine ∷
    form ("bl" ∷ "bel" ∷ "beel" ∷ "beeel" ∷ "beeeel" ∷ []) any Columns ∷
    []

-- C4: column 6
abbrev pub marks : List Form
marks =
    form ("beeeeel" ∷ []) any Columns ∷
    []

-- C6: apostrophes that don't pair
abbrev pub apostrophes : List Form
apostrophes =
    form any hollerith Hollerith ∷
    form any ("!" ∷ []) Comment ∷
    form any ("q" ∷ []) Quotes ∷
    form any ("zt" ∷ []) Behind72 ∷
    []

-- G1: texts without a reading
abbrev pub unread : List Form
unread =
    form any hollerith Hollerith ∷
    form ("bFORMAT(" ∷ []) ("dH" ∷ []) Hollerith ∷
    form any ("!" ∷ []) Comment ∷
    form any ("q" ∷ []) Quotes ∷
    form any ("zt" ∷ []) Behind72 ∷
    form ("bFORMAT(" ∷ []) any Format ∷
    form any ("&" ∷ []) Ampersand ∷
    form any (";" ∷ []) Semicolon ∷
    form any ("::" ∷ []) Colons ∷
    form any ("==" ∷ "/=" ∷ "<" ∷ "d>" ∷ "l>" ∷ ")>" ∷ []) Relation ∷
    form any ("_" ∷ "$" ∷ []) NameCharacter ∷
    form ("bINTEGERFUNCTION" ∷ "bLOGICALFUNCTION" ∷ "bINTEGER*dFUNCTION" ∷ "bLOGICAL*dFUNCTION" ∷
    []) any Function ∷
    form ("bINTEGER*" ∷ "bLOGICAL*" ∷ "bIMPLICITINTEGER*" ∷ "bIMPLICITLOGICAL*" ∷ []) any Length ∷
    form ("bINTEGER" ∷ "bLOGICAL" ∷ []) ("/z" ∷ []) InitialValue ∷
    form ("aPARAMETERl" ∷ []) any Parameter ∷
    form ("bWRITE(" ∷ []) (",*)" ∷ "FMT=*" ∷ "bWRITE(d)" ∷ "bWRITE(*)" ∷ []) ListDirected ∷
    form ("bWRITE(" ∷ []) (",ERR=" ∷ ",IOSTAT=" ∷ ",REC=" ∷ ",ADVANCE=" ∷ []) Control ∷
    form ("bIF(" ∷ []) (")PRINT*" ∷ ")WRITE(*,*)" ∷ ")WRITE(6,*)" ∷ []) ListDirected ∷
    form ("bIF(" ∷ []) (")CALL" ∷ []) Subroutine ∷
    form ("bIF(" ∷ []) (")RETURNz" ∷ []) Return ∷
    form ("bIF(" ∷ []) (")READ(" ∷ []) Read ∷
    form ("bIF(" ∷ []) (")EXITz" ∷ ")CYCLEz" ∷ []) Leave ∷
    form ("bIF(" ∷ []) (")GOTOl" ∷ []) Assigned ∷
    form ("bEXITz" ∷ "bCYCLEz" ∷ []) any Leave ∷
    form ("bGOTOl" ∷ []) any Assigned ∷
    form ("bDOz" ∷ "bDOFOREVERz" ∷ []) any Forever ∷
    form ("bENDPROGRAM" ∷ []) any End ∷
    form ("bPROGRAM" ∷ []) (")z" ∷ []) Program ∷
    form ("bTYPE*" ∷ []) any ListDirected ∷
    form ("bACCEPT" ∷ []) any Read ∷
    form ("bINCLUDE" ∷ []) any Include ∷
    form any (")''" ∷ ",''z" ∷ ",''," ∷ "=''z" ∷ ".''" ∷ "/''" ∷ []) Characters ∷
    form any ("m.d" ∷ "nd.n" ∷ "ndd.n" ∷ "nddd.n" ∷ "ndddd.n" ∷ "d.xd" ∷ "d.xsd" ∷ "ndxd" ∷ "nddxd"
    ∷ "ndxsd" ∷ "nddxsd" ∷ []) RealConstant ∷
    []

-- G2: statements that are left out
abbrev pub left_out : List Form
left_out =
    form ("bREALFUNCTION" ∷ "bREAL*dFUNCTION" ∷ "bDOUBLEPRECISIONFUNCTION" ∷ "bFUNCTION" ∷ []) any Function ∷
    form ("bREAL" ∷ "bDOUBLEPRECISION" ∷ "bCOMPLEX" ∷ "bIMPLICITREAL" ∷ "bIMPLICITDOUBLEPRECISION" ∷ "bIMPLICITCOMPLEX" ∷ []) any Real ∷
    form ("bPRINT*" ∷ "bWRITE(" ∷ []) any ListDirected ∷
    form ("bREAD" ∷ []) any Read ∷
    form ("bOPEN" ∷ "bCLOSE" ∷ "bINQUIRE" ∷ "bBACKSPACE" ∷ "bREWIND" ∷ "bENDFILE" ∷ []) any Files ∷
    form ("bCALLEXITz" ∷ []) any Exit ∷
    form ("bSUBROUTINE" ∷ "bCALL" ∷ "bENTRY" ∷ []) any Subroutine ∷
    form ("bRETURN" ∷ []) any Return ∷
    form ("bCOMMON" ∷ []) any Common ∷
    form ("bEQUIVALENCE" ∷ []) any Equivalence ∷
    form ("bSAVE" ∷ "bEXTERNAL" ∷ "bINTRINSIC" ∷ "bBLOCKDATA" ∷ []) any Needless ∷
    form ("bCHARACTER" ∷ "bIMPLICITCHARACTER" ∷ []) any Characters ∷
    form ("bASSIGN" ∷ []) any Assigned ∷
    form ("bPAUSE" ∷ []) any Pause ∷
    []

-- N1 and K6: a FUNCTION statement reads as a type statement
abbrev pub units : List Form
units =
    form function any Function ∷
    []

-- K3: names that are REAL
abbrev pub names : List Form
names =
    form function any Function ∷
    form ("aPARAMETERl" ∷ []) any Parameter ∷
    form ("aIF(" ∷ []) (")THENl" ∷ []) Then ∷
    form ("aDOd" ∷ []) ("," ∷ []) Declare ∷
    form ("aDOd" ∷ []) any Limits ∷
    form any any Declare ∷
    []

-- K11: units and formats
abbrev pub formats : List Form
formats =
    form ("bFORMAT(" ∷ []) ("dH" ∷ []) Hollerith ∷
    form ("bFORMAT(" ∷ []) ("q" ∷ []) Quotes ∷
    form ("bFORMAT(" ∷ []) ("Fd" ∷ "Ed" ∷ "Dd" ∷ "Gd" ∷ []) RealEdit ∷
    form ("bFORMAT(" ∷ []) ("Ad" ∷ "An" ∷ []) Characters ∷
    form ("bFORMAT(" ∷ []) ("Td" ∷ []) TabEdit ∷
    form ("bFORMAT(" ∷ []) ("Xd" ∷ "Xl" ∷ []) EditComma ∷
    form ("bWRITE(u" ∷ []) any Unit ∷
    []

-- K13: functions that aren't there
abbrev pub functions : List Form
functions =
    form any ("nFLOAT(" ∷ "nREAL(" ∷ "nDBLE(" ∷ "nSNGL(" ∷ "nINT(" ∷ "nIFIX(" ∷ []) Conversion ∷
    form any ("nSQRT(" ∷ []) Root ∷
    []

-- none of the other rules
abbrev pub forms_of : Rule → List Form
forms_of rules.C1 = characters
forms_of rules.C2 = labels
forms_of rules.C3 = labels
forms_of rules.C4 = marks
forms_of rules.C6 = apostrophes
forms_of rules.G1 = unread
forms_of rules.G2 = left_out
forms_of rules.N1 = units
forms_of rules.K6 = units
forms_of rules.K3 = names
forms_of rules.K11 = formats
forms_of rules.K13 = functions
forms_of rule = []
