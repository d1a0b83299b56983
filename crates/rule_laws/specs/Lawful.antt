-- Statements that break none of the rules K (ANSI X3.9-1978, chapters 2 to 15).
use Rattle.std.specs.Prelude.{◌≡◌, false, List, [], ◌∷◌, ◌++◌, Ok}
use Rattle.meaning.specs.Initial.{has_bad_data}
use Rattle.meaning.specs.LabelRules.{has_bad_output, has_repeated_label}
use Rattle.meaning.specs.NameRules.{breaks_function_rules, has_misuse, has_real_name}
use Rattle.meaning.specs.NameRules.{has_unknown_function, is_disputed, is_wrongly_typed}
use Rattle.meaning.specs.NumberRules.{has_bad_number, has_large_array}
use Rattle.meaning.specs.Rules.{checked}
use Rattle.meaning.specs.Syntax.{ItemTree}
use Rattle.meaning.specs.Trees.{Nested, flatten}
use Rattle.meaning.specs.Uses.{Symbols, symbols_of}

-- it holds of each of these statements, behind others and those before it
abbrev pub EachBehind : (List ItemTree → ItemTree → Type 0) → List ItemTree → List ItemTree → Type 0
EachBehind holds before [] = Unit {0}
EachBehind holds before (x ∷ xs) = holds before x × EachBehind holds (before ++ x ∷ []) xs

-- a statement behind others breaks none of the rules on statements in their order: K1, K3 to K8 and
-- K10 to K13
pub record IsLawful (r : Symbols) (all before : List ItemTree) (x : ItemTree) : Type 0 where
  pub labelled : has_repeated_label before x ≡ false
  pub typed : has_real_name r before x ≡ false
  pub undisputed : is_disputed r before x ≡ false
  pub agreeing : is_wrongly_typed r before x ≡ false
  pub used : has_misuse r before x ≡ false
  pub defined : breaks_function_rules r before x ≡ false
  pub known : has_unknown_function r before x ≡ false
  pub constant : has_bad_number r before x ≡ false
  pub sized : has_large_array r before x ≡ false
  pub given : has_bad_data r before x ≡ false
  pub written : has_bad_output r all before x ≡ false

-- ---- whole program units

abbrev pub IsAccepted : Nested → Type 0
IsAccepted t = checked t ≡ Ok t

-- each statement keeps the rules
abbrev pub AreLawful : Nested → Type 0
AreLawful t = EachBehind (IsLawful (symbols_of (flatten t)) (flatten t)) [] (flatten t)
