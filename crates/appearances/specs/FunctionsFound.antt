-- Where statement functions are found in a body.
use Rattle.std.specs.Prelude.{◌≡◌, ◌⊎◌, ◌+◌, ℕ, true, false, List, ◌++◌, length, Option, Some, None}
use Rattle.std.specs.Prelude.{if◌then◌else◌, slice_get}
use Rattle.std.specs.Option.{option_or}
use Rattle.std.specs.Global.{Vec}
use Rattle.std.specs.Str.{bytes_eq}
use Rattle.indexmap.specs.IndexMap.{IndexMap}
use Rattle.meaning.specs.declared.syntax.Item.{Item}
use Rattle.meaning.specs.declared.syntax.Member.{Member, Plain}
use Rattle.meaning.specs.Syntax.{shape_tree}
use Rattle.meaning.specs.Scopes.{Definition, defined_by, definitions_of, is_specification}
use Rattle.meaning.specs.Trees.{flat, members_tree}
use Rattle.meaning.specs.Values.{Arrays}
use Rattle.symbols.specs.declared.names.Symbols.{Symbols}
use Rattle.name_maps.specs.Keeping.{kept_at}
use Rattle.symbols.specs.SymbolsAt.{symbols_at}
use Rattle.storage.specs.declared.parts.FunctionAt.{FunctionAt}
use Rattle.storage.specs.Kept.{shown_at}

-- the member at this place defines one of them
pub record IsShown (ds : List Definition) (n : List ℕ) (members : List Member) (a : FunctionAt) :
    Type 0 where
  pub definition : Definition
  pub shown : shown_at n (slice_get members a.member) ≡ Some definition
  pub found : slice_get ds a.at ≡ Some definition

abbrev pub IsFoundAt : List Definition → List ℕ → List Member → Option FunctionAt → Type 0
IsFoundAt ds n members None =
    (k : ℕ) (d : Definition) → slice_get ds k ≡ Some d → bytes_eq n d.name ≡ false
IsFoundAt ds n members (Some a) = IsShown ds n members a

abbrev pub AreFound : {S : Type 0} → List Definition → List Member → IndexMap (Vec ℕ) FunctionAt S →
    Type 0
AreFound ds members m = (n : List ℕ) → IsFoundAt ds n members (kept_at m n)

-- the first so many were found, and these are left
pub record Finding {S : Type 0} (all rest : List Definition) (members : List Member)
    (m : IndexMap (Vec ℕ) FunctionAt S) (at : ℕ) : Type 0 where
  pub found : List Definition
  pub are : found ++ rest ≡ all
  pub many : length found ≡ at
  pub kept : AreFound found members m

abbrev pub defined_in : Arrays → List Member → List Definition
defined_in arrays members = definitions_of arrays (flat (members_tree members))

-- ---- one member

module _ {S : Type 0} (arrays : Arrays) (m new : IndexMap (Vec ℕ) FunctionAt S) (at member : ℕ)
  where
    -- a statement that is neither executable nor a statement function's
    pub record IsNone (x : Item) (next : ℕ) : Type 0 where
      pub none : None ≡ defined_by arrays (shape_tree x.form.shape.value)
      pub passes : is_specification (shape_tree x.form.shape.value) ≡ true
      pub same : new ≡ m
      pub stays : next ≡ at

    -- a statement function's, kept unless its name is there
    pub record IsOne (x : Item) (next : ℕ) : Type 0 where
      pub definition : Definition
      pub some : Some definition ≡ defined_by arrays (shape_tree x.form.shape.value)
      pub more : next ≡ at + 1
      pub added : (n : List ℕ) → kept_at new n
          ≡ option_or (kept_at m n)
          (if bytes_eq n definition.name then Some (record { at = at; member = member }) else None)

    -- an executable statement
    pub record IsExecutable (x : Item) : Type 0 where
      pub none : None ≡ defined_by arrays (shape_tree x.form.shape.value)
      pub executed : is_specification (shape_tree x.form.shape.value) ≡ false

    abbrev pub PassesItem : Item → Option ℕ → Type 0
    PassesItem x None = (new ≡ m) × IsExecutable x
    PassesItem x (Some next) = IsNone x next ⊎ IsOne x next

    abbrev pub PassesMember : Member → Option ℕ → Type 0
    PassesMember one None = (new ≡ m) × ((x : Item) → one ≡ Plain x → IsExecutable x)
    PassesMember one (Some next) = (x : Item) × (one ≡ Plain x) × (IsNone x next ⊎ IsOne x next)

-- ---- in a program unit of which this is known

abbrev pub Passes : {S : Type 0} → Symbols → IndexMap (Vec ℕ) FunctionAt S →
    IndexMap (Vec ℕ) FunctionAt S → ℕ → ℕ → Item → Option ℕ → Type 0
Passes r m new at member x = PassesItem (symbols_at r).names.arrays m new at member x

abbrev pub PassesOne : {S : Type 0} → Symbols → IndexMap (Vec ℕ) FunctionAt S →
    IndexMap (Vec ℕ) FunctionAt S → ℕ → ℕ → Member → Option ℕ → Type 0
PassesOne r m new at member one = PassesMember (symbols_at r).names.arrays m new at member one

abbrev pub AreFoundIn : {S : Type 0} → Symbols → List Member → IndexMap (Vec ℕ) FunctionAt S →
    Type 0
AreFoundIn r members m = AreFound (defined_in (symbols_at r).names.arrays members) members m
