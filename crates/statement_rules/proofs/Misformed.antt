-- What breaks the rule on units and formats, in two parts.
use Rattle.std.proofs.Common.{◌≡◌, ℕ, Bool, true, false, ◌||◌, not, List, map, Option, Some, None, refl}
use Rattle.std.specs.Prelude.{is_none, is_some}
use Rattle.meaning.specs.Formats.{Parts, format_in, undoubled}
use Rattle.meaning.specs.LabelRules.{is_allowed, is_misformed, is_unit}
use Rattle.meaning.specs.NumberRules.{known_behind_all}
use Rattle.meaning.specs.Syntax.{FormatTree, format_constant, format_label, ItemTree, ShapeTree, format, logical_if, printing, writing}
use Rattle.meaning.specs.Uses.{Symbols as Uses}
use Rattle.meaning.specs.Values.{Known}
use Rattle.symbols.specs.declared.names.Symbols.{Symbols}
use Rattle.symbols.specs.SymbolsAt.{symbols_at}
use Rattle.rule_passes.proofs.Membership.{or_false}
use Rattle.rule_passes.specs.Listed.{tree_at}
use Rattle.statement_rules.specs.FormatLabels.{breaks_output, breaks_places, breaks_reading, is_found, is_misplaced, is_unread, is_unread_source}

not_some : (o : Option Parts) → is_none o ≡ not (is_some o)
not_some None = refl
not_some (Some ps) = refl

source_split : (all : List ItemTree) (source : FormatTree) → (not (is_found all source) || is_unread_source source) ≡ not (is_allowed all source)
source_split all (format_label label) = or_false (not (is_allowed all (format_label label)))
source_split all (format_constant text) = not_some (format_in (undoubled text))

unit_split : (u f b c : Bool) → (f || b) ≡ c → ((u || f) || b) ≡ (u || c)
unit_split true f b c is = refl
unit_split false f b c is = is

misformed_split : (r : Uses) (all : List ItemTree) (known : Known) (at : Option ℕ) (s : ShapeTree) → (is_misplaced r all known at s || is_unread s) ≡ is_misformed r all known at s
misformed_split r all known at (writing control es) =
    unit_split (not (is_unit r.names.types known control.unit)) (not (is_found all control.source)) (is_unread_source control.source) (not (is_allowed all control.source)) (source_split all control.source)
misformed_split r all known at (printing source es) = source_split all source
misformed_split r all known at (format text) = refl
misformed_split r all known at (logical_if e s) = misformed_split r all known at s
misformed_split r all known at s = refl

pub both_break : (r : Symbols) → (λ before x. breaks_places r before x || breaks_reading before x) ≡ breaks_output r
both_break r = λ i before x.
    misformed_split (symbols_at r) (map tree_at r.items.now) (known_behind_all (symbols_at r) before) x.label x.shape i
