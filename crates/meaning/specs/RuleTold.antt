-- Which rule the first statement breaks up to which no program unit begins, said of the statements
-- before it as they stand one behind the other (ANSI X3.9-1978, 3.5 and 11.6 to 11.10).
use Rattle.std.specs.Prelude.{◌≡◌, ℕ, suc, ◌<◌, Bool, true, false, List, [], ◌∷◌, ◌++◌, Option}
use Rattle.std.specs.Prelude.{Some, None, IsTrue, IsFalse, ◌⊎◌}
use Rattle.std.specs.List.{AllByRecursion}
use Rattle.meaning.specs.declared.refusal.Broken.{Broken}
use Rattle.meaning.specs.declared.refusal.Rule.{Rule}
use Rattle.meaning.specs.declared.refusal.Rule.TheVariants.{N1, N2, N3, N4, N5}
use Rattle.meaning.specs.Ranks.{rank_of}
use Rattle.meaning.specs.Refusals.{is_less}
use Rattle.meaning.specs.Trees.{Members, flat}
use Rattle.meaning.specs.Syntax.{ItemTree}
use Rattle.meaning.specs.LabelRules.{has_label}
use Rattle.meaning.specs.Nesting.{Effect, opens_range, closes_range, opens_block, opens_arm}
use Rattle.meaning.specs.Nesting.{closes_block, closes_unit, effect_of, is_else, is_opening, named}
use Rattle.meaning.specs.Nesting.{may_end, is_misplaced, lacks_end, IsWell, IsViable, LacksEnd}

-- ---- the innermost open thing

-- IF THEN, ELSE IF and ELSE begin an arm of a block IF (11.6 to 11.8)
abbrev pub begins_arm : Effect → Bool
begins_arm opens_block = true
begins_arm opens_arm = true
begins_arm e = false

-- none of the statements has the label
abbrev pub LackLabel : ℕ → List ItemTree → Type 0
LackLabel label items = AllByRecursion (λ x. IsFalse (has_label label x)) items

-- what a statement opens is still open behind well nested ones: it is an arm, or a range whose
-- label none of them has (11.10.1), or one whose DO statement names none, since END DO stands in no
-- other list
abbrev pub IsOpenBehind : Effect → List ItemTree → Type 0
IsOpenBehind (opens_range (Some label)) inside = LackLabel label inside
IsOpenBehind (opens_range None) inside = Unit {0}
IsOpenBehind e inside = IsTrue (begins_arm e)

-- what the statement opens is the innermost thing that is open behind all of them
pub record IsInnermost (items : List ItemTree) (head : ItemTree) : Type 0 where
  pub front : List ItemTree
  pub inside : Members
  pub depth : ℕ
  pub parts : items ≡ front ++ (head ∷ flat inside)
  pub well : IsWell false (suc depth) inside
  pub unended : IsOpenBehind (effect_of head.shape) (flat inside)

-- something is open, and the innermost is such a thing
pub record InnermostIs (P : ItemTree → Type 0) (items : List ItemTree) : Type 0 where
  pub head : ItemTree
  pub innermost : IsInnermost items head
  pub such : P head

abbrev pub IsArm : ItemTree → Type 0
IsArm head = IsTrue (begins_arm (effect_of head.shape))

-- the arm of IF THEN or ELSE IF, behind which another may follow (11.7, 11.8)
abbrev pub IsEarlierArm : ItemTree → Type 0
IsEarlierArm head = IsArm head × IsFalse (is_else head.shape)

pub record IsDo (head : ItemTree) : Type 0 where
  pub label : Option ℕ
  pub names : effect_of head.shape ≡ opens_range label

-- a DO statement whose range END DO with a label or none may end: it names no label, or this one
-- (own)
abbrev pub IsEndedBy : Option ℕ → Option ℕ → Type 0
IsEndedBy label None = Unit {0}
IsEndedBy label (Some s) = label ≡ Some s

pub record IsDoOf (label : Option ℕ) (head : ItemTree) : Type 0 where
  pub own : Option ℕ
  pub names : effect_of head.shape ≡ opens_range own
  pub ended : IsEndedBy label own

-- ---- ranges that cross

-- the range of a DO statement that names the label is open: none behind it has the label (11.10.1)
pub record HasRange (label : ℕ) (items : List ItemTree) : Type 0 where
  pub front : List ItemTree
  pub head : ItemTree
  pub rest : List ItemTree
  pub parts : items ≡ front ++ (head ∷ rest)
  pub names : effect_of head.shape ≡ opens_range (Some label)
  pub unended : LackLabel label rest

-- the innermost open thing is the range of a DO statement that names the label
abbrev pub IsDoTo : ℕ → ItemTree → Type 0
IsDoTo label head = effect_of head.shape ≡ opens_range (Some label)

-- an open range that can't end yet, since something else is open within
pub record HasBlockedRange (label : ℕ) (items : List ItemTree) : Type 0 where
  pub range : HasRange label items
  pub within : ¬ InnermostIs (IsDoTo label) items

-- two open ranges with the label, one in the other, that end with the same statement
pub record HasTwoRanges (label : ℕ) (items : List ItemTree) : Type 0 where
  pub range : HasRange label items
  pub within : HasRange label range.rest

abbrev pub AtLabel : (ℕ → List ItemTree → Type 0) → Option ℕ → List ItemTree → Type 0
AtLabel P (Some label) items = P label items
AtLabel P None items = ⊥

-- ---- the rules that a statement breaks behind others

-- N3: ELSE IF or ELSE where the innermost open thing is no arm of IF THEN or ELSE IF, END IF where
-- it is no arm, END where it is one (11.6 to 11.9)
abbrev pub IsOutOfPlace : Effect → List ItemTree → Type 0
IsOutOfPlace opens_arm items = ¬ InnermostIs IsEarlierArm items
IsOutOfPlace closes_block items = ¬ InnermostIs IsArm items
IsOutOfPlace closes_unit items = InnermostIs IsArm items
IsOutOfPlace e items = ⊥

-- N4 (11.10, 11.10.1): the statement has the label of a range that can't end yet, or may not end
-- the range that has its label; or it is a DO statement that names the label of a range that can't
-- end yet; or it is END in a range; or it is END DO where the innermost open thing isn't a range
-- that it may end, or with the label of two ranges (own)
pub data Crosses (items : List ItemTree) (x : ItemTree) : Type 0 where
  ends_too_early : AtLabel HasBlockedRange x.label items → Crosses items x
  may_not_end : AtLabel HasRange x.label items → IsFalse (may_end (effect_of x.shape)) →
      Crosses items x
  names_too_late : AtLabel HasBlockedRange (named (effect_of x.shape)) items → Crosses items x
  ends_in_range : effect_of x.shape ≡ closes_unit → InnermostIs IsDo items → Crosses items x
  ends_none : effect_of x.shape ≡ closes_range → ¬ InnermostIs (IsDoOf x.label) items →
      Crosses items x
  ends_two : effect_of x.shape ≡ closes_range → AtLabel HasTwoRanges x.label items → Crosses items x

-- N1: it may not stand behind one of them. N2: END is among them. N5, where it breaks none of the
-- others and no program unit goes on so: it opens one thing more
abbrev pub IsBrokenBy : Rule → List ItemTree → ItemTree → Type 0
IsBrokenBy N1 items x = IsTrue (is_misplaced items x)
IsBrokenBy N2 items x = IsFalse (lacks_end items)
IsBrokenBy N3 items x = IsOutOfPlace (effect_of x.shape) items
IsBrokenBy N4 items x = Crosses items x
IsBrokenBy N5 items x = IsTrue (is_opening (effect_of x.shape))
IsBrokenBy rule items x = ⊥

-- the least of them
pub record IsLeastBroken (items : List ItemTree) (x : ItemTree) (rule : Rule) : Type 0 where
  pub broken : IsBrokenBy rule items x
  pub least : (lesser : Rule) → rank_of lesser < rank_of rule → ¬ IsBrokenBy lesser items x

-- ---- what is told

-- at the first statement up to which no program unit begins
pub record IsFirstBroken (items : List ItemTree) (b : Broken) : Type 0 where
  pub front : List ItemTree
  pub member : ItemTree
  pub back : List ItemTree
  pub parts : items ≡ front ++ member ∷ back
  pub viable : IsViable front
  pub over : ¬ IsViable (front ++ member ∷ [])
  pub at : b.line ≡ member.line
  pub rule_is : IsLeastBroken front member b.rule

abbrev pub IsPair : List ItemTree → Broken → Type 0
IsPair items b = LacksEnd items b ⊎ IsFirstBroken items b

-- the least pair
pub record IsTold (items : List ItemTree) (b : Broken) : Type 0 where
  pub broken : IsPair items b
  pub least : (c : Broken) → IsPair items c → IsFalse (is_less c b)
