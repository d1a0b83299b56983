-- Texts by their places: whether a character stands inside a character constant is told by the
-- number of apostrophes before it alone (ANSI X3.9-1978, 4.8).
use Rattle.std.specs.Prelude.{ℕ, ◌==◌, ◌≡◌, ◌≤◌, ◌↔◌, Bool, true, false, List, [], ◌∷◌, length}
use Rattle.std.specs.Prelude.{take, get_or}
use Rattle.std.specs.List.{count_by, flat_map, range_with_len}
use Rattle.meaning.specs.BareText.{bare, kept}
use Rattle.meaning.specs.Spelling.{balanced}
use Rattle.meaning.specs.Statements.{is_unpaired}

-- how often a character stands in a text
abbrev pub count_of : ℕ → List ℕ → ℕ
count_of c text = count_by (λ d. d == c) text

-- what a rule makes of the characters of a text, first to last, each told whether it stands inside
-- a character constant, behind an odd number of apostrophes
abbrev pub by_places : (Bool → ℕ → List ℕ) → List ℕ → List ℕ
by_places rule text =
    flat_map (λ k. rule (is_unpaired (take k text)) (get_or text k 0))
    (range_with_len 0 (length text))

-- the bare text: inside character constants each character stays, and outside a blank goes and a
-- letter is raised (3.1.5 and 3.1.6)
abbrev pub IsBareByPlaces : Type 0
IsBareByPlaces = (text : List ℕ) → bare text ≡ by_places kept text

-- a character outside character constants
abbrev pub kept_outside : Bool → ℕ → List ℕ
kept_outside true c = []
kept_outside false c = c ∷ []

abbrev pub opening : List ℕ → ℕ
opening text = count_of 40 (by_places kept_outside text)

abbrev pub closing : List ℕ → ℕ
closing text = count_of 41 (by_places kept_outside text)

-- an even number of apostrophes, and outside character constants as many closing as opening
-- parentheses, and in no front more closing ones (13.1)
pub record IsBalanced (text : List ℕ) : Type 0 where
  pub apostrophes : is_unpaired text ≡ false
  pub parentheses : closing text ≡ opening text
  pub fronts : (n : ℕ) → closing (take n text) ≤ opening (take n text)

abbrev pub IsBalancedByCounts : Type 0
IsBalancedByCounts = (text : List ℕ) → (balanced 0 false text ≡ true) ↔ IsBalanced text
