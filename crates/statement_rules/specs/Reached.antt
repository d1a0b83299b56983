-- Transfers by the labels that stand in the lists around them.
use Rattle.std.specs.Prelude.{◌≡◌, ◌≤◌, ◌^◌, ◌==◌, ℕ, Bool, not, ◌||◌, if◌then◌else◌, List, []}
use Rattle.std.specs.Prelude.{◌++◌, Option, count_by, map}
use Rattle.std.specs.Borrow.{Bor}
use Rattle.std.specs.BTreeSet.{BTreeSet, contains}
use Rattle.std.specs.Global.{Vec}
use Rattle.std.specs.List.{list_any}
use Rattle.std.specs.Ordering.{nat_cmp}
use Rattle.meaning.specs.declared.refusal.Broken.{Broken}
use Rattle.meaning.specs.declared.refusal.Rule.{Rule}
use Rattle.meaning.specs.declared.refusal.Rule.TheVariants.{K2}
use Rattle.meaning.specs.declared.syntax.Item.{Item}
use Rattle.meaning.specs.declared.syntax.Member.{Member}
use Rattle.meaning.specs.declared.syntax.Shape.{Shape}
use Rattle.meaning.specs.Characters.{number_of}
use Rattle.meaning.specs.LabelRules.{breaks_transfers, has_label, is_label_at, not_executable}
use Rattle.meaning.specs.LabelRules.{transfers_of}
use Rattle.meaning.specs.Scopes.{is_specification}
use Rattle.meaning.specs.Surroundings.{Around, in_body, told_in}
use Rattle.meaning.specs.Syntax.{ItemTree, ShapeTree, shape_tree}
use Rattle.meaning.specs.Trees.{item_tree, members_tree}
use Rattle.meaning.specs.Uses.{is_defining}
use Rattle.symbols.specs.declared.names.Symbols.{Symbols}
use Rattle.symbols.specs.SymbolsAt.{symbols_at}
use Rattle.rule_passes.specs.Listed.{tree_at}
use Rattle.statement_rules.specs.declared.transfers.Transfers.{Transfers}
use Rattle.statement_rules.specs.Counted.{count_in}

-- how often labels stand in lists, and none of 2^32 or more does
pub record Counts (counts : ℕ → ℕ) (items : List ItemTree) : Type 0 where
  pub exact : (s : ℕ) → counts s ≡ count_by (has_label s) items
  pub small : (s : ℕ) → 2 ^ 32 ≤ s → count_by (has_label s) items ≡ 0

-- a label that can't be reached: it stands nowhere around, or elsewhere too, or at a statement that
-- isn't executable
abbrev pub is_missed : (ℕ → ℕ) → (ℕ → Bool) → List ItemTree → ℕ → Bool
is_missed all closed reach s =
    ((count_by (has_label s) reach == 0) || not (count_by (has_label s) reach == all s)) || closed s

-- what is known of labels is so of a statement's surroundings
abbrev pub IsAround : Transfers → Around → Type 0
IsAround t a = Counts (count_in t.reach) a.items

-- a transfer misses the label that digits spell, one of several does, or one of a statement
abbrev pub misses_there : Transfers → Around → ℕ → Bool
misses_there t a s = is_missed (count_in t.all.now) (contains nat_cmp t.closed.now) a.items s

abbrev pub misses_label : Transfers → List ℕ → Around → Bool
misses_label t digits a = misses_there t a (number_of digits)

abbrev pub misses_one_of : Transfers → List (Vec ℕ) → Around → Bool
misses_one_of t labels a = list_any (λ l. misses_there t a (number_of l.items)) labels

abbrev pub misses_by : Transfers → ShapeTree → Around → Bool
misses_by t s a =
    list_any (is_missed (count_in t.all.now) (contains nat_cmp t.closed.now) a.items)
    (transfers_of s)

abbrev pub shape_misses : Transfers → Shape → Around → Bool
shape_misses t s a = misses_by t (shape_tree s) a

-- a statement behind others isn't executable
abbrev pub is_not_executable : Symbols → Item → List ItemTree → Bool
is_not_executable r x before =
    is_specification (shape_tree x.form.shape.value)
    || is_defining (symbols_at r) before (item_tree x)

-- a label is put to others, if it is to be
abbrev pub Closes : Bool → Option ℕ → BTreeSet ℕ → BTreeSet ℕ → Type 0
Closes closes label old new =
    (s : ℕ) → contains nat_cmp new s
    ≡ (if closes then (contains nat_cmp old s || is_label_at label s)
    else contains nat_cmp old s)

-- the labels of the statements that aren't executable
abbrev pub AreClosed : Symbols → List (Bor Item) → BTreeSet ℕ → Type 0
AreClosed r items closed =
    (s : ℕ) → contains nat_cmp closed s
    ≡ list_any (has_label s) (not_executable (symbols_at r) [] (map tree_at items))

-- the pair of each line at which a statement of a body breaks a rule, behind the pairs that were
-- there
abbrev pub AddsInBody : (Around → ItemTree → Bool) → Rule → List Member → List Broken →
    List Broken → Type 0
AddsInBody breaks rule members old new =
    new ≡ old ++ told_in breaks rule (in_body (members_tree members)) (members_tree members)

-- those of the transfers that miss a label, in a body of a unit with these statements
abbrev pub AddsMissed : Symbols → List (Bor Item) → List Member → List Broken → List Broken → Type 0
AddsMissed r items members old new =
    AddsInBody (breaks_transfers (symbols_at r) (map tree_at items)) K2 members old new
