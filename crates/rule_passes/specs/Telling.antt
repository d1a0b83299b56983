-- What one pass for a rule tells, and what is known on the way.
use Rattle.std.specs.Prelude.{◌≡◌, Bool, List, [], ◌∷◌, ◌++◌, map}
use Rattle.std.specs.Borrow.{Bor}
use Rattle.meaning.specs.declared.refusal.Broken.{Broken}
use Rattle.meaning.specs.declared.refusal.Rule.{Rule}
use Rattle.meaning.specs.declared.syntax.Arm.{Arm}
use Rattle.meaning.specs.declared.syntax.Item.{Item}
use Rattle.meaning.specs.declared.syntax.Loop.{Loop}
use Rattle.meaning.specs.declared.syntax.Member.{Member}
use Rattle.meaning.specs.NameRules.{told}
use Rattle.meaning.specs.Statements.{broken_if}
use Rattle.meaning.specs.Surroundings.{Around, in_arm, in_range, told_in, told_in_arms}
use Rattle.meaning.specs.Syntax.{ItemTree}
use Rattle.meaning.specs.Trees.{arms_tree, item_tree, members_tree}
use Rattle.rule_passes.specs.Listed.{tree_at}

-- the value that a function has of each thing that is what is known
abbrev pub Finds : {A B : Type 0} → (A → Type 0) → (A → B) → B → Type 0
Finds {A} knows f b = (a : A) → knows a → b ≡ f a

-- ---- behind other statements

abbrev pub breaks_behind : (List ItemTree → ItemTree → Bool) → Item → List ItemTree → Bool
breaks_behind breaks x before = breaks before (item_tree x)

-- what is known of statements leads to what is known of one statement more
abbrev pub Passes : (List ItemTree → Type 0) → (List ItemTree → Type 0) → Item → Type 0
Passes old new x = (before : List ItemTree) → old before → new (before ++ item_tree x ∷ [])

-- the pair of each line at which a statement breaks a rule behind those before it, behind the pairs
-- that were there
abbrev pub AddsTold : (List ItemTree → ItemTree → Bool) → Rule → List (Bor Item) → List Broken →
    List Broken → Type 0
AddsTold breaks rule items old new = new ≡ old ++ told breaks rule [] (map tree_at items)

-- ---- within lists

abbrev pub breaks_within : (Around → ItemTree → Bool) → Item → Around → Bool
breaks_within breaks x a = breaks a (item_tree x)

-- what is known around a DO statement's range leads to what is known in it, and the other way round
abbrev pub Enters : (Around → Type 0) → (Around → Type 0) → Item → List Member → Type 0
Enters old new head range =
    (a : Around) → old a → new (in_range a (item_tree head) (members_tree range))

abbrev pub Leaves : (Around → Type 0) → (Around → Type 0) → Item → List Member → Type 0
Leaves old new head range =
    (a : Around) → old (in_range a (item_tree head) (members_tree range)) → new a

-- the same of an arm
abbrev pub EntersArm : (Around → Type 0) → (Around → Type 0) → List Member → Type 0
EntersArm old new body = (a : Around) → old a → new (in_arm a (members_tree body))

abbrev pub LeavesArm : (Around → Type 0) → (Around → Type 0) → List Member → Type 0
LeavesArm old new body = (a : Around) → old (in_arm a (members_tree body)) → new a

-- the pairs of all lines at which statements break a rule in what they stand in, behind those that
-- were there: of one, of a list, of a DO statement and its range, of arms
abbrev pub AddsOne : (Around → Type 0) → (Around → ItemTree → Bool) → Rule → Item → List Broken →
    List Broken → Type 0
AddsOne knows breaks rule x old new =
    (a : Around) → knows a → new ≡ old ++ broken_if (breaks a (item_tree x)) x.line rule

abbrev pub AddsIn : (Around → Type 0) → (Around → ItemTree → Bool) → Rule → List Member →
    List Broken → List Broken → Type 0
AddsIn knows breaks rule members old new =
    (a : Around) → knows a → new ≡ old ++ told_in breaks rule a (members_tree members)

abbrev pub AddsLoop : (Around → Type 0) → (Around → ItemTree → Bool) → Rule → Loop → List Broken →
    List Broken → Type 0
AddsLoop knows breaks rule outer old new =
    (a : Around) → knows a → new ≡ old
    ++ (broken_if (breaks a (item_tree outer.head)) outer.head.line rule
    ++ told_in breaks rule (in_range a (item_tree outer.head) (members_tree outer.range.items))
    (members_tree outer.range.items))

abbrev pub AddsArms : (Around → Type 0) → (Around → ItemTree → Bool) → Rule → List Arm →
    List Broken → List Broken → Type 0
AddsArms knows breaks rule arms old new =
    (a : Around) → knows a → new ≡ old ++ told_in_arms breaks rule a (arms_tree arms)
