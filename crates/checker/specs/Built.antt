-- What is made of a program unit that keeps the rules.
use Rattle.std.specs.Prelude.{◌≡◌, ◌<◌, ◌^◌, ℕ, ℤ, List, [], Ok, Some, slice_get}
use Rattle.meaning.specs.declared.syntax.Tree.{Tree}
use Rattle.meaning.specs.Arrays.{cells_of}
use Rattle.symbols.specs.declared.names.Symbols.{Symbols}
use Rattle.symbols.specs.Listed.{trees_at}
use Rattle.symbols.specs.TypedNames.{implicit_parts, letter_type}
use Rattle.k_rules.specs.declared.verdict.Facts.{Facts}
use Rattle.k_rules.specs.Judged.{arrays_in, constant_in, starts_in}
use Rattle.data_rules.specs.DataSets.{given_by}
use Rattle.statement_rules.specs.declared.reading.Formats.{Formats}
use Rattle.statement_rules.specs.FormatsFound.{HoldsFormats}
use Rattle.meaning.specs.Initial.{starts_from}
use Rattle.meaning.specs.Types.{has_implicit_none}
use Rattle.meaning.specs.Rules.{checked}
use Rattle.meaning.specs.Trees.{nested}
use Rattle.meaning.specs.Uses.{symbols_of}
use Rattle.storage.specs.Checked.{items_in, names_in}
use Rattle.storage.specs.declared.parts.Parts.{Parts}
use Rattle.checker.specs.declared.rules.Names.{Names}
use Rattle.checker.specs.declared.rules.Kept.{Kept}
use Rattle.std.specs.Global.{Vec}
use Rattle.indexmap.specs.IndexMap.{IndexMap}
use Rattle.storage.specs.declared.parts.Entry.{Entry}
use Rattle.checker.specs.Entries.{AreSaid}
use Rattle.checker.specs.Given.{starts_by}
use Rattle.appearances.specs.Appearing.{variables_at}
use Rattle.storage.specs.Numbered.{named}

abbrev pub count_at : Facts → Symbols → ℕ
count_at f r = cells_of (named (arrays_in f) (variables_at r))

-- what is kept of names, of which these are variables and arrays, and the values that their cells
-- start with
pub record AreStarted {S : Type 0} (f : Facts) (r : Symbols) (names : List (List ℕ))
    (m : IndexMap (Vec ℕ) Entry S) (starts : Vec ℤ) : Type 0 where
  pub said : AreSaid f r names m
  pub given : starts.items ≡ starts_by f names
  pub few : cells_of (named (arrays_in f) names) < 2 ^ 64

-- what is kept of names
pub record AreNames (f : Facts) (r : Symbols) (k : Names) : Type 0 where
  pub started : AreStarted f r (variables_at r) k.entries k.starts
  pub letters : (c : ℕ) → c < 256 → slice_get k.letters.items c
      ≡ Some (letter_type (has_implicit_none (trees_at r.items.now))
      (implicit_parts (trees_at r.items.now)) c)

-- a tree with its formats and what is kept beside it
abbrev pub parts_by : Tree → Formats → Kept → Parts
parts_by t f k = record {
  tree = t;
  entries = k.names.entries;
  letters = k.names.letters;
  functions = k.functions;
  function_count = k.function_count;
  no_dummies = k.no_dummies;
  starts = k.names.starts;
  formats = f.by_label;
  texts = f.texts;
  label_targets = k.label_targets;
}

-- what is known of a program unit that breaks no rule
pub record IsJudged (t : Tree) (f : Facts) : Type 0 where
  pub accepted : checked (nested t) ≡ Ok (nested t)
  pub constants : (n : List ℕ) → constant_in f n ≡ (names_in t).known n
  pub arrays : (n : List ℕ) → arrays_in f n ≡ (names_in t).arrays n
  pub starts : starts_in f
      ≡ given_by (symbols_of (items_in t)).names
      (starts_from (symbols_of (items_in t)) [] (items_in t))
  pub formats : HoldsFormats (items_in t) f.formats
