-- Ranges of letters.
use Rattle.std.specs.Prelude.{◌≡◌, ℕ, zero, suc, ◌-◌, Bool, false, ◌||◌, List, [], ◌∷◌, ◌++◌}
use Rattle.std.specs.Prelude.{flat_map, map}
use Rattle.std.specs.BTreeSet.{BTreeSet, contains}
use Rattle.std.specs.Borrow.{Bor}
use Rattle.std.specs.Global.{Vec}
use Rattle.std.specs.List.{list_any}
use Rattle.std.specs.Ordering.{nat_cmp}
use Rattle.meaning.specs.declared.syntax.Letters.{Letters}
use Rattle.meaning.specs.NameRules.{is_reversed, last_letter, letters_in}
use Rattle.meaning.specs.Syntax.{ImplicitTree, ItemTree, LettersTree, letters_tree}
use Rattle.meaning.specs.Types.{is_among}

abbrev pub letters_at : Bor Letters → LettersTree
letters_at l = letters_tree l.now

-- whether one of so many numbers from a first one passes
unfoldable pub any_from : (ℕ → Bool) → ℕ → ℕ → Bool
any_from test first zero = false
any_from test first (suc n) = test first || any_from test (suc first) n

abbrev pub count_in_range : LettersTree → ℕ
count_in_range l = suc (last_letter l) - l.first_letter

-- letters that are out of order, or one of which is among others
abbrev pub clash_by : (ℕ → Bool) → (ℕ → Bool) → LettersTree → Bool
clash_by taken here l =
    is_reversed l
    || (any_from taken l.first_letter (count_in_range l)
    || any_from here l.first_letter (count_in_range l))

abbrev pub clash_from : (ℕ → Bool) → List LettersTree → Bool
clash_from taken [] = false
clash_from taken (l ∷ ls) =
    (is_reversed l || any_from taken l.first_letter (count_in_range l))
    || clash_from (λ c. taken c || is_among c l) ls

-- a set has a code
abbrev pub has : BTreeSet ℕ → ℕ → Bool
has codes c = contains nat_cmp codes c

-- a code is among letters
abbrev pub are_among : List LettersTree → ℕ → Bool
are_among ls c = list_any (is_among c) ls

-- the letters of parts of a statement
abbrev pub letters_of : List ImplicitTree → List LettersTree
letters_of ps = flat_map (λ p. p.letters) ps

-- one of some letters passes
abbrev pub any_among : (ℕ → Bool) → LettersTree → Bool
any_among test l = any_from test l.first_letter (count_in_range l)

-- a set has its codes and those that pass besides, and no others
abbrev pub Takes : BTreeSet ℕ → BTreeSet ℕ → (ℕ → Bool) → Type 0
Takes old new passes = (c : ℕ) → contains nat_cmp new c ≡ (contains nat_cmp old c || passes c)

-- letters behind those that are there
abbrev pub AddsLetters : Vec (Bor Letters) → Vec (Bor Letters) → List LettersTree → Type 0
AddsLetters old new ls = map letters_at new.items ≡ map letters_at old.items ++ ls

-- references to these letters
abbrev pub AreLetters : List LettersTree → Vec (Bor Letters) → Type 0
AreLetters ls found = map letters_at found.items ≡ ls

-- the codes of the letters in statements
abbrev pub KnowsLetters : BTreeSet ℕ → List ItemTree → Type 0
KnowsLetters taken before =
    (c : ℕ) → contains nat_cmp taken c ≡ list_any (is_among c) (flat_map letters_in before)
