-- What the names of a program unit stand for, and the scope of an expression in it.
use Rattle.std.specs.Prelude.{ℕ, zero, suc, ◌+◌, List, [], ◌∷◌, Option, Some, None, slice_get}
use Rattle.std.specs.Prelude.{reverse}
use Rattle.meaning.specs.declared.ending.Value.{Value}
use Rattle.meaning.specs.Syntax.{ExprTree, number, truth, name, signed, negated, binary, paren}
use Rattle.meaning.specs.Syntax.{element, call, ExprsTree, no_exprs, exprs}
use Rattle.meaning.specs.Types.{Types}
use Rattle.meaning.specs.Values.{Arrays, Known, Scope}
use Rattle.meaning.specs.Scopes.{Definition, nothing_known, with_dummies, calls_by}

-- types, arrays, constants, and statement functions first to last
pub record Glossary : Type 0 where
  pub types : Types
  pub arrays : Arrays
  pub known : Known
  pub definitions : List Definition

-- the scope of a statement
abbrev pub scope_by : Glossary → Scope
scope_by g =
    record {
      types = g.types;
      arrays = g.arrays;
      known = g.known;
      calls = calls_by g.types g.arrays
          g.known (reverse g.definitions);
    }

abbrev pub in_front : Option Definition → List Definition → List Definition
in_front None ds = ds
in_front (Some d) ds = d ∷ ds

-- the first so many definitions, last to first
abbrev pub before : List Definition → ℕ → List Definition
before ds zero = []
before ds (suc n) = in_front (slice_get ds n) (before ds n)

-- the scope of an expression with these dummies and their values, which may call so many functions
abbrev pub scope_in : Glossary → List ExprTree → List Value → ℕ → Scope
scope_in g dummies vs n =
    record {
      types = g.types;
      arrays = g.arrays;
      known = with_dummies dummies vs g.known;
      calls =
          calls_by g.types g.arrays g.known (before g.definitions n);
    }

-- no name stands for anything
abbrev pub nothing_named : Glossary
nothing_named =
    record { types = λ n. None; arrays = λ n. None; known = nothing_known; definitions = [] }

-- ---- how long an evaluation can take

abbrev mutual
  pub weight : ExprTree → ℕ
  weight (number digits) = 1
  weight (truth b) = 1
  weight (name letters) = 1
  weight (signed sign e) = 1 + weight e
  weight (negated e) = 1 + weight e
  weight (binary operator a b) = 1 + weight a + weight b
  weight (paren e) = 1 + weight e
  weight (element letters es) = 1 + weights es
  weight (call letters) = 1

  pub weights : ExprsTree → ℕ
  weights no_exprs = 0
  weights (exprs e es) = 1 + weight e + weights es

abbrev pub heavy : Option Definition → ℕ
heavy None = 0
heavy (Some d) = 1 + weight d.body

-- the expressions of the first so many definitions
abbrev pub room : List Definition → ℕ → ℕ
room ds zero = 0
room ds (suc n) = heavy (slice_get ds n) + room ds n
