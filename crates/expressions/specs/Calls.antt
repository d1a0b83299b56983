-- Functions in expressions: the names of their dummies, what they make of their arguments, and
-- which may be called.
use Rattle.std.specs.Prelude.{◌≡◌, ◌<◌, ℕ, pos, false, List, [], map, slice_get, Option, Some, None}
use Rattle.std.specs.Prelude.{Ok}
use Rattle.std.specs.Str.{bytes_eq}
use Rattle.std.specs.Borrow.{Bor}
use Rattle.meaning.specs.declared.ending.Value.TheVariants as values
use Rattle.meaning.specs.Syntax.{ExprTree, ExprsTree, name}
use Rattle.meaning.specs.Maps.{Map}
use Rattle.meaning.specs.Values.{Scope, Valued, arguments, called, as_integer, ◌>>=◌}
use Rattle.meaning.specs.Intrinsics.{Intrinsic, intrinsic_named}
use Rattle.meaning.specs.Scopes.{Definition, intrinsic_call}
use Rattle.expressions.specs.declared.numbering.Function.{Function}
use Rattle.expressions.specs.declared.intrinsics.Arguments.{Arguments}
use Rattle.expressions.specs.Functions.{value_from}
use Rattle.expressions.specs.Glossaries.{Glossary, scope_in}
use Rattle.expressions.specs.Names.{IsDefined}

-- how many dummies a statement function has at most
abbrev pub most : ℕ
most = 16

-- an expression is a name, or it is none
abbrev pub IsName : ExprTree → Option (List ℕ) → Type 0
IsName (name letters) o = o ≡ Some letters
IsName e o = o ≡ None

abbrev pub text_of : Option (Bor (List ℕ)) → Option (List ℕ)
text_of None = None
text_of (Some b) = Some b.now

abbrev pub IsNameIn : ExprTree → Option (Bor (List ℕ)) → Type 0
IsNameIn e o = IsName e (text_of o)

-- what a function makes of its arguments
abbrev pub call_value : Scope → List ℕ → ExprsTree → Map → Valued
call_value s letters es m = arguments s es m >>= λ vs. called (s.calls letters) vs m

-- what an intrinsic function makes of them behind those so far
abbrev pub value_behind : Scope → Intrinsic → Arguments → ExprsTree → Map → Valued
value_behind s f so_far es m = arguments s es m >>= λ vs. value_from f so_far (map as_integer vs)

-- 0, where the arguments have values
abbrev pub nothing_behind : Scope → ExprsTree → Map → Valued
nothing_behind s es m = arguments s es m >>= λ vs. Ok (values.Int (pos 0))

-- none of the first so many statement functions has the name
abbrev pub AreOthers : List Definition → ℕ → List ℕ → Type 0
AreOthers ds n letters =
    (at : ℕ) (d : Definition) → at < n → slice_get ds at ≡ Some d → bytes_eq letters d.name ≡ false

-- the first so many statement functions have this one, whose expression may call those before it;
-- or none of them has the name, which is that of an intrinsic function at most
abbrev pub IsCallable : Glossary → ℕ → List ℕ → Option Function → Type 0
IsCallable g n letters (Some f) = IsDefined g.definitions letters f × (f.at < n)
IsCallable g n letters None =
    ((scope_in g [] [] n).calls letters ≡ intrinsic_call (intrinsic_named letters))
    × AreOthers g.definitions n letters
