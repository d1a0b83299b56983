-- The first thing by which a statement breaks the rule on types (ANSI X3.9-1978, 6.1 to 6.4).
use Rattle.std.specs.Prelude.{ℕ, Bool, List, [], ◌∷◌, Option, Some, None, option_map}
use Rattle.std.specs.Option.{option_or}
use Rattle.meaning.specs.declared.syntax.DataType.{DataType}
use Rattle.meaning.specs.declared.syntax.DataType.TheVariants as types
use Rattle.meaning.specs.Syntax.{ExprTree, number, truth, name, signed, negated, binary, paren}
use Rattle.meaning.specs.Syntax.{element, call, ExprsTree, no_exprs, exprs, ItemTree, ShapeTree}
use Rattle.meaning.specs.Syntax.{assignment, definition, writing, printing, doing, doing_while}
use Rattle.meaning.specs.Syntax.{parameter, initializing, computed_going, arithmetic_if}
use Rattle.meaning.specs.Syntax.{logical_if, block_if, else_if}
use Rattle.meaning.specs.Typing.{Expected, Names, SomeType, Wanted, dummies_if, expected_in}
use Rattle.meaning.specs.Typing.{further_wanted, integer_type, logical_type, next_wanted}
use Rattle.meaning.specs.Typing.{operand_type, type_of, wanted_by, within}
use Rattle.meaning.specs.Uses.{Symbols, is_defining}
use Rattle.type_culprits.specs.declared.culprit.Place.TheVariants as places
use Rattle.type_culprits.specs.Told.{Asker, Told, between, before, named, negation, at_place}

-- the type that is wanted, where the other one is found
abbrev pub misfit : SomeType → SomeType → Option DataType
misfit (Some types.Integer) (Some types.Logical) = Some types.Integer
misfit (Some types.Logical) (Some types.Integer) = Some types.Logical
misfit j k = None

-- an expression that has another type than is wanted
abbrev pub told_as : ExprTree → Asker → DataType → Told
told_as e asker wanted = record { expr = e; wanted = wanted; asker = asker }

abbrev pub clash_in : Names → SomeType → Asker → ExprTree → Option Told
clash_in ns wanted asker e = option_map (told_as e asker) (misfit wanted (type_of ns e))

abbrev mutual
  -- an operand, argument or subscript in an expression that is of the wrong type
  pub ill_in : Names → ExprTree → Option Told
  ill_in ns (number digits) = None
  ill_in ns (truth value) = None
  ill_in ns (name letters) = None
  ill_in ns (signed sign e) =
      option_or (clash_in ns integer_type (before sign) e) (ill_in ns e)
  ill_in ns (negated e) = option_or (clash_in ns logical_type negation e) (ill_in ns e)
  ill_in ns (binary operator a b) =
      option_or
      (option_or (clash_in ns (operand_type operator) (between operator) a) (ill_in ns a))
      (option_or (clash_in ns (operand_type operator) (between operator) b) (ill_in ns b))
  ill_in ns (paren e) = ill_in ns e
  ill_in ns (element letters es) = ills_in ns letters (wanted_by ns letters) es
  ill_in ns (call letters) = None

  -- of the arguments or subscripts of a name
  pub ills_in : Names → List ℕ → Wanted → ExprsTree → Option Told
  ills_in ns n w no_exprs = None
  ills_in ns n w (exprs e es) =
      option_or (option_or (clash_in ns (next_wanted w) (named n) e) (ill_in ns e))
      (ills_in ns n (further_wanted w) es)

-- an expression in a statement, or a part of it
abbrev pub mistyped_in : Names → Asker → Expected → Option Told
mistyped_in ns asker x = option_or (clash_in ns x.data_type asker x.expr) (ill_in ns x.expr)

abbrev pub first_in : Names → Asker → List Expected → Option Told
first_in ns asker [] = None
first_in ns asker (x ∷ xs) = option_or (mistyped_in ns asker x) (first_in ns asker xs)

-- what asks for the type of a statement's expressions; of an output list only limits have one
abbrev pub asker_of : ShapeTree → Asker
asker_of (assignment n es e) = named n
asker_of (definition n e) = named n
asker_of (writing control list) = at_place places.Limit
asker_of (printing source list) = at_place places.Limit
asker_of (doing label comma variable limits) = at_place places.Limit
asker_of (doing_while label comma e) = at_place places.Condition
asker_of (logical_if e statement) = at_place places.Condition
asker_of (block_if e) = at_place places.Condition
asker_of (else_if e) = at_place places.Condition
asker_of (parameter cs) = at_place places.Constant
asker_of (initializing sets) = at_place places.Data
asker_of (computed_going labels comma e) = at_place places.ComputedGoTo
asker_of (arithmetic_if e negative zero positive) = at_place places.ArithmeticIf
asker_of s = at_place places.Bound

-- behind the first expression: of a logical IF the statement that it has
abbrev pub further_asker : ShapeTree → Asker
further_asker (logical_if e statement) = asker_of statement
further_asker s = asker_of s

abbrev pub asked_in : Names → Asker → Asker → List Expected → Option Told
asked_in ns asker further [] = None
asked_in ns asker further (x ∷ xs) =
    option_or (mistyped_in ns asker x) (first_in ns further xs)

-- of a statement that defines a statement function or doesn't
abbrev pub wrong_in : Names → Bool → ShapeTree → Option Told
wrong_in ns defines s =
    asked_in (within (dummies_if defines s) ns) (asker_of s) (further_asker s) (expected_in ns s)

-- K5, at a statement behind others
abbrev pub mistyped_at : Symbols → List ItemTree → ItemTree → Option Told
mistyped_at r front x = wrong_in r.names (is_defining r front x) x.shape
