-- Whether the values of expressions are LOGICAL ones (ANSI X3.9-1978, 6.1, 6.3, 6.4, 15.2 and
-- 15.4).
use Rattle.std.specs.Prelude.{◌≡◌, ℕ, Bool, true, false, List, take, map, ◌++◌, Option, Some, None}
use Rattle.std.specs.Prelude.{Ok}
use Rattle.meaning.specs.declared.ending.Value.{Value}
use Rattle.meaning.specs.declared.syntax.DataType.{DataType}
use Rattle.meaning.specs.declared.syntax.DataType.TheVariants as types
use Rattle.meaning.specs.declared.syntax.Operator.{Operator}
use Rattle.meaning.specs.declared.syntax.Operator.TheVariants.{Power, Multiply, Divide, Add}
use Rattle.meaning.specs.declared.syntax.Operator.TheVariants.{Subtract}
use Rattle.meaning.specs.Maps.{Map}
use Rattle.meaning.specs.Scopes.{listed, with_dummies}
use Rattle.meaning.specs.Syntax.{ExprTree, ExprsTree, exprs_tree}
use Rattle.meaning.specs.Values.{Known, Scope, value, arguments}
use Rattle.expressions.specs.Calls.{call_value, most}
use Rattle.expressions.specs.Glossaries.{Glossary, scope_in}
use Rattle.code_laws.specs.Kinds.{is_truth, HasKind}
use Rattle.compiler.specs.declared.kinds.Frame.{Frame}
use Rattle.compiler.specs.declared.kinds.Kept.{Kept}

-- an operator's value is a number
abbrev pub is_arithmetic : Operator → Bool
is_arithmetic Power = true
is_arithmetic Multiply = true
is_arithmetic Divide = true
is_arithmetic Add = true
is_arithmetic Subtract = true
is_arithmetic o = false

abbrev pub is_logical_type : Option DataType → Bool
is_logical_type (Some types.Logical) = true
is_logical_type o = false

-- this is so whatever values of these kinds the dummies have
abbrev pub Always : Glossary → Frame → (Scope → Map → Type 0) → Type 0
Always g f holds =
    (vs : List Value) → map is_truth vs ≡ f.kinds.now → (m : Map) →
    holds (scope_in g (listed (exprs_tree f.dummies.now)) vs f.callable) m

abbrev pub IsKind : Glossary → Frame → ExprTree → Bool → Type 0
IsKind g f e b = Always g f (λ s m. HasKind (value s e m) b)

abbrev pub IsCallKind : Glossary → Frame → List ℕ → ExprsTree → Bool → Type 0
IsCallKind g f n es b = Always g f (λ s m. HasKind (call_value s n es m) b)

-- the kind of the value of the dummy with a name; none where it is no dummy's
abbrev pub IsDummyKind : List ExprTree → List Bool → List ℕ → Option Bool → Type 0
IsDummyKind ds kinds n None =
    (vs : List Value) → map is_truth vs ≡ kinds → (known : Known) → with_dummies ds vs known n
    ≡ known n
IsDummyKind ds kinds n (Some b) =
    (vs : List Value) → map is_truth vs ≡ kinds → (known : Known) → (v : Value)
    × (with_dummies ds vs known n ≡ Some v) × (is_truth v ≡ b)

abbrev pub kept_kinds : Kept → List Bool
kept_kinds k = take most (take k.count k.kinds)

-- the kinds of arguments are kept behind those before, the first sixteen
abbrev pub KeepsKinds : Glossary → Frame → ExprsTree → Kept → Kept → Type 0
KeepsKinds g f es old new =
    Always g f (λ s m. (xs : List Value) → arguments s es m ≡ Ok xs → kept_kinds new
    ≡ take most (kept_kinds old ++ map is_truth xs))
