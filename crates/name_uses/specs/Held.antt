-- Names behind references, and sets of names.
use Rattle.std.specs.Prelude.{◌≡◌, ℕ, List, map}
use Rattle.std.specs.Borrow.{Bor}
use Rattle.std.specs.Global.{Vec}
use Rattle.indexmap.specs.IndexSet.{IndexSet}
use Rattle.meaning.specs.Uses.{Use, is_one_of}
use Rattle.name_uses.specs.declared.uses.NameUse.{NameUse}
use Rattle.name_maps.specs.NameSets.{texts, with_names}
use Rattle.name_uses.specs.UsesAt.{uses_at}

-- names behind references
abbrev pub names_at : List (Bor (List ℕ)) → List (List ℕ)
names_at ns = map (λ n. n.now) ns

-- a set holds these names and no others
abbrev pub Holds : List (Vec ℕ) → List (List ℕ) → Type 0
Holds keys names = (n : List ℕ) → is_one_of (texts keys) n ≡ is_one_of names n

-- a set's names with others behind them
abbrev pub Joins : {S T : Type 0} → IndexSet (Vec ℕ) S → IndexSet (Vec ℕ) T → List (List ℕ) → Type 0
Joins old new names = texts new.keys ≡ with_names (texts old.keys) names

abbrev pub Adds : {S T : Type 0} → IndexSet (Vec ℕ) S → IndexSet (Vec ℕ) T → List (Bor (List ℕ)) →
    Type 0
Adds old new names = Joins old new (names_at names)

-- references to these names, and to these uses
abbrev pub AreNames : List (List ℕ) → Vec (Bor (List ℕ)) → Type 0
AreNames names ns = names_at ns.items ≡ names

abbrev pub AreUses : List Use → Vec NameUse → Type 0
AreUses uses us = uses_at us.items ≡ uses
