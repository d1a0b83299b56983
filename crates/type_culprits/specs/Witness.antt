-- What is told is a witness: by it a statement breaks the rule on types behind others.
use Rattle.std.specs.Prelude.{◌≡◌, ℕ, List, [], ◌∷◌, Some, ◌⊎◌}
use Rattle.finding.specs.Answers.{IsAnswer}
use Rattle.meaning.specs.declared.syntax.DataType.{DataType}
use Rattle.meaning.specs.declared.syntax.DataType.TheVariants as types
use Rattle.meaning.specs.NameRules.{is_wrongly_typed}
use Rattle.meaning.specs.Syntax.{ExprTree, number, truth, name, signed, negated, binary, paren}
use Rattle.meaning.specs.Syntax.{element, call, ExprsTree, no_exprs, exprs, ItemTree}
use Rattle.meaning.specs.Typing.{Expected, Names, SomeType, Wanted, dummies_if, expected_in}
use Rattle.meaning.specs.Typing.{further_wanted, integer_type, logical_type, next_wanted}
use Rattle.meaning.specs.Typing.{operand_type, type_of, wanted_by, within}
use Rattle.meaning.specs.Uses.{Symbols, is_defining}
use Rattle.type_culprits.specs.Clashes.{asker_of, further_asker, mistyped_at}
use Rattle.type_culprits.specs.Told.{Asker, Told, between, before, named, negation}

abbrev pub other_type : DataType → DataType
other_type types.Integer = types.Logical
other_type types.Logical = types.Integer

-- the expression that is told is this one, it has the other type than is wanted, and this wants it
pub record IsClash (ns : Names) (wanted : SomeType) (asker : Asker) (e : ExprTree) (k : Told) : Type
    0
  where
    pub expr_is : k.expr ≡ e
    pub asker_is : k.asker ≡ asker
    pub is_wanted : wanted ≡ Some k.wanted
    pub is_found : type_of ns e ≡ Some (other_type k.wanted)

-- it is an operand, argument or subscript in an expression
abbrev mutual
  pub IsIllBy : Names → ExprTree → Told → Type 0
  IsIllBy ns (number digits) k = ⊥
  IsIllBy ns (truth value) k = ⊥
  IsIllBy ns (name letters) k = ⊥
  IsIllBy ns (signed sign e) k = IsClash ns integer_type (before sign) e k ⊎ IsIllBy ns e k
  IsIllBy ns (negated e) k = IsClash ns logical_type negation e k ⊎ IsIllBy ns e k
  IsIllBy ns (binary operator a b) k =
      (IsClash ns (operand_type operator) (between operator) a k ⊎ IsIllBy ns a k)
      ⊎ (IsClash ns (operand_type operator) (between operator) b k ⊎ IsIllBy ns b k)
  IsIllBy ns (paren e) k = IsIllBy ns e k
  IsIllBy ns (element letters es) k = AreIllBy ns letters (wanted_by ns letters) es k
  IsIllBy ns (call letters) k = ⊥

  pub AreIllBy : Names → List ℕ → Wanted → ExprsTree → Told → Type 0
  AreIllBy ns n w no_exprs k = ⊥
  AreIllBy ns n w (exprs e es) k =
      (IsClash ns (next_wanted w) (named n) e k ⊎ IsIllBy ns e k)
      ⊎ AreIllBy ns n (further_wanted w) es k

-- or it is an expression of the statement, whose place wants another type
abbrev pub IsMistypedBy : Names → Asker → Expected → Told → Type 0
IsMistypedBy ns asker x k = IsClash ns x.data_type asker x.expr k ⊎ IsIllBy ns x.expr k

abbrev pub IsAmong : Names → Asker → List Expected → Told → Type 0
IsAmong ns asker [] k = ⊥
IsAmong ns asker (x ∷ xs) k = IsMistypedBy ns asker x k ⊎ IsAmong ns asker xs k

abbrev pub IsAsked : Names → Asker → Asker → List Expected → Told → Type 0
IsAsked ns asker further [] k = ⊥
IsAsked ns asker further (x ∷ xs) k = IsMistypedBy ns asker x k ⊎ IsAmong ns further xs k

abbrev pub IsBy : Symbols → List ItemTree → ItemTree → Told → Type 0
IsBy r front x k =
    IsAsked (within (dummies_if (is_defining r front x) x.shape) r.names) (asker_of x.shape)
    (further_asker x.shape) (expected_in r.names x.shape) k

abbrev pub TellsWitnesses : Type 0
TellsWitnesses =
    (r : Symbols) (front : List ItemTree) (x : ItemTree) →
    IsAnswer (IsBy r front x) (is_wrongly_typed r front x) (mistyped_at r front x)
