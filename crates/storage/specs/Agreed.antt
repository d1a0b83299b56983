-- What is kept beside a tree agrees with what its statements say.
use Rattle.std.specs.Prelude.{◌≡◌, ◌<◌, ◌≤◌, ◌^◌, ℕ, ℤ, List, length, None, Some, Option, Ok}
use Rattle.std.specs.Prelude.{option_map}
use Rattle.std.specs.Global.{Vec}
use Rattle.std.specs.Ordering.{nat_cmp}
use Rattle.indexmap.specs.IndexMap.{IndexMap}
use Rattle.std.specs.BTreeMap.{BTreeMap, get}
use Rattle.meaning.specs.Execution.{format_found}
use Rattle.meaning.specs.Rules.{checked}
use Rattle.meaning.specs.Trees.{members_tree, nested}
use Rattle.meaning.specs.Syntax.{exprs_tree, no_exprs}
use Rattle.meaning.specs.Formats.{Parts as FormatParts, format_in, undoubled}
use Rattle.format_edit.specs.declared.format.Format.{Format}
use Rattle.format_edit.specs.Constants.{constant_format}
use Rattle.format_edit.specs.Formatted.{descriptors}
use Rattle.label_targets.specs.Landmarked.{AreLabelTargets}
use Rattle.name_maps.specs.Keeping.{kept_at}
use Rattle.storage.specs.declared.parts.Parts.{Parts}
use Rattle.storage.specs.Checked.{items_in, names_in, count_in}
use Rattle.storage.specs.Starts.{map_of, start_in}
use Rattle.storage.specs.Kept.{IsStored, IsFunctionAt, value_kept, storage_kept, IsTyped}
use Rattle.storage.specs.Kept.{StartsWithByte, by_first}
use Rattle.storage.specs.Whereabouts.{where_in}

-- the format behind a label
abbrev pub found_in : BTreeMap ℕ Format → ℕ → Option FormatParts
found_in formats s = option_map descriptors (get nat_cmp formats s)

-- a format that stands in a character constant
abbrev pub IsReadFrom : List ℕ → Option Format → Type 0
IsReadFrom text None = Unit {0}
IsReadFrom text (Some f) = format_in (undoubled text) ≡ Some (descriptors f)

-- the format that is kept of a character constant
abbrev pub text_in : {S : Type 0} → IndexMap (Vec ℕ) Format S → List ℕ → Option FormatParts
text_in m text = option_map descriptors (kept_at m text)

pub record IsNumbered (p : Parts) : Type 0 where
  pub accepted : checked (nested p.tree) ≡ Ok (nested p.tree)
  pub valued : (n : List ℕ) → value_kept (kept_at p.entries n) ≡ (names_in p.tree).known n
  pub typed : (n : List ℕ) → IsTyped ((names_in p.tree).types n) (kept_at p.entries n)
  pub lettered : (n : List ℕ) → StartsWithByte n → kept_at p.entries n ≡ None →
      by_first p.letters.items n ≡ (names_in p.tree).types n
  pub stored : (n : List ℕ) → IsStored (where_in p.tree n) (storage_kept (kept_at p.entries n))
  pub few : count_in p.tree < 2 ^ 64
  pub defined : (n : List ℕ) →
      IsFunctionAt (names_in p.tree).definitions n p.tree.body.items (kept_at p.functions n)
  pub counted : p.function_count ≡ length (names_in p.tree).definitions
  pub undummied : exprs_tree p.no_dummies ≡ no_exprs
  pub many : length p.starts.items ≡ count_in p.tree
  pub started : (n : List ℕ) (ss : List ℤ) → map_of p.tree p.starts.items n ss
      ≡ start_in p.tree n ss
  pub small : (s : ℕ) → 2 ^ 32 ≤ s → format_found (items_in p.tree) s ≡ None
  pub formatted : (s : ℕ) → found_in p.formats s ≡ format_found (items_in p.tree) s
  pub read : (text : List ℕ) → text_in p.texts text ≡ constant_format (items_in p.tree) text
  pub marked : AreLabelTargets (members_tree p.tree.body.items) p.label_targets
