-- What STOP statements tell is what is kept of them.
use Rattle.std.proofs.Common.{◌≡◌, ◌≢◌, ◌<◌, ℕ, Bool, true, false, List, [], ◌∷◌, length, Option, Some, None, refl, sym, ap, ◌∙◌, inl, inr, arith}
use Rattle.std.proofs.lemmas.Bool.{eq-eqb, eqb-true, false≢true, true≢false}
use Rattle.std.proofs.lemmas.Option.{slice_get_past}
use Rattle.std.specs.Prelude.{◌⊎◌, ◌==◌, if◌then◌else◌, IsTrue, slice_get}
use Rattle.meaning.specs.declared.syntax.Tree.{Tree}
use Rattle.meaning.specs.Answers.{message_at, message_of}
use Rattle.meaning.specs.Syntax.{ExprTree, ItemTree, ShapeTree, block_if, else_if, logical_if, stopping}
use Rattle.label_targets.specs.Quiet.{output_in}
use Rattle.program.specs.declared.action.Action.{Action}
use Rattle.program.specs.declared.action.Action.TheVariants.{Pass, Assign, Continue, GoTo, ComputedGoTo, ArithmeticIf, Stop, Output, If', Test, Repeat, While}
use Rattle.program.specs.declared.action.ListCodes.{ListCodes}
use Rattle.program.specs.declared.actions.Actions.{Actions}
use Rattle.program.specs.Acts.{Acts, is_idle}
use Rattle.program.specs.Items.{AreItemsOf}
use Rattle.program.specs.Kept.{ActsIf, AreKept, HasNoOther, IsFree, IsNowhere, action_at, in_place, message_in, nowhere, told_in}

idle_tells : (s : ShapeTree) → IsTrue (is_idle s) → message_of s ≡ []
idle_tells (stopping x) h = absurd (false≢true h)
idle_tells (logical_if e s) h = absurd (false≢true h)
idle_tells s h = refl

output_tells : (t : Tree) (s : ShapeTree) (list : ListCodes) → AreItemsOf t (output_in s) list → message_of s ≡ []
output_tells t (stopping x) list h = absurd h
output_tells t (logical_if e s) list h = absurd h
output_tells t s list h = refl

test_tells : (s : ShapeTree) (e : ExprTree) → (s ≡ block_if e) ⊎ (s ≡ else_if e) → message_of s ≡ []
test_tells s e (inl is) = ap message_of is
test_tells s e (inr is) = ap message_of is

-- a statement that acts so tells what its action has
tells : (t : Tree) (a : Action) (s : ShapeTree) → Acts t a s → message_of s ≡ message_in a
tells t Pass s (inl idle) = idle_tells s idle
tells t Pass s (inr d) = ap message_of d.is
tells t (Assign target c) s d = ap message_of d.is
tells t Continue s (inl is) = ap message_of is
tells t Continue s (inr is) = ap message_of is
tells t (GoTo label) s d = ap message_of d.is
tells t (ComputedGoTo labels c) s d = ap message_of d.is
tells t (ArithmeticIf c negative zero positive) s d = ap message_of d.is
tells t (Stop message) s d = ap message_of d.is ∙ d.tells
tells t (Output list) s d = output_tells t s list d
tells t (If' c p a) s d = ap message_of d.is ∙ tells t a d.statement d.under
tells t (Test c) s d = test_tells s d.condition d.is
tells t (Repeat r) s d = ap message_of d.is
tells t (While c) s d = ap message_of d.is

tells_if : (t : Tree) (o : Option Action) (s : ShapeTree) → ActsIf t o s → message_of s ≡ told_in o
tells_if t None s acts = absurd acts
tells_if t (Some a) s acts = tells t a s acts

-- no action stands nowhere
nothing_nowhere : (actions : List Action) (o : Option ℕ) → length actions < nowhere → IsNowhere o → told_in (in_place actions o) ≡ []
nothing_nowhere actions None few is = refl
nothing_nowhere actions (Some place) few is = ap told_in (slice_get_past actions place (omega arith))

module _ (t : Tree) (a : Actions) (line : ℕ) where
  abbrev told : List ℕ
  told = told_in (action_at a line)

  by_line : (x : ItemTree) (xs : List ItemTree) (b : Bool) → (x.line == line) ≡ b → ActsIf t (action_at a x.line) x.shape → (x.line ≢ line → message_at xs line ≡ told) → (if b then message_of x.shape else message_at xs line) ≡ told
  by_line x xs true is acts rest = tells_if t (action_at a x.line) x.shape acts ∙ ap (λ l. told_in (action_at a l)) (eqb-true x.line line is)
  by_line x xs false is acts rest = rest (λ same. true≢false (sym (eq-eqb x.line line same) ∙ is))

  told_from : (xs : List ItemTree) → AreKept t a xs → (IsFree line xs → told ≡ []) → message_at xs line ≡ told
  unfolding message_at
  told_from [] kept nothing = sym (nothing tt)
  told_from (x ∷ xs) kept nothing =
      by_line x xs (x.line == line) refl kept.0 (λ apart. told_from xs kept.1 (λ free. nothing (apart, free)))

-- what the STOP statement at a line tells
pub message_told : (t : Tree) (a : Actions) (items : List ItemTree) (line : ℕ) → AreKept t a items → HasNoOther a items → message_at items line ≡ told_in (action_at a line)
message_told t a items line kept other =
    told_from t a line items kept (λ free. nothing_nowhere a.actions.items (slice_get a.places.items line) other.few (other.others line free))
