-- Broken rules and the least pair. In each phase the refusal is the pair with the least line, and
-- of those the one with the least rule number; a phase with no broken pair passes what it read on
-- to the next.
use Rattle.std.specs.Prelude.{Bool, ◌&&◌, ◌||◌, List, [], ◌∷◌, nat_lt, ◌==◌, if◌then◌else◌, Result}
use Rattle.std.specs.Prelude.{Ok, Err, Option, Some, None}
use Rattle.meaning.specs.declared.refusal.Broken.{Broken}
use Rattle.meaning.specs.Ranks.{rank_of}

abbrev pub is_less : Broken → Broken → Bool
is_less a b = nat_lt a.line b.line || (a.line == b.line && nat_lt (rank_of a.rule) (rank_of b.rule))

-- the lesser of two pairs, the first where neither is less
abbrev pub lesser : Broken → Broken → Broken
lesser a b = if is_less b a then b else a

-- the lesser of a pair and the least of others, if there are others
abbrev pub lesser_of : Broken → Option Broken → Broken
lesser_of a None = a
lesser_of a (Some b) = lesser a b

-- the least pair
abbrev pub least : List Broken → Option Broken
least [] = None
least (b ∷ bs) = Some (lesser_of b (least bs))

-- the lesser of two, where there are two
abbrev pub merge : Option Broken → Option Broken → Option Broken
merge None o = o
merge (Some a) o = Some (lesser_of a o)

-- what was read, unless a rule is broken
abbrev pub unless : {A : Type 0} → Option Broken → A → Result A Broken
unless None x = Ok x
unless (Some b) x = Err b

infixl 10 ◌>>=◌
abbrev pub ◌>>=◌ : {A B : Type 0} → Result A Broken → (A → Result B Broken) → Result B Broken
(Ok x) >>= f = f x
(Err b) >>= f = Err b

-- one more in front, where both have a value; else the least pair
abbrev pub with_first : {A : Type 0} → Result A Broken → Result (List A) Broken →
    Result (List A) Broken
with_first (Ok x) (Ok xs) = Ok (x ∷ xs)
with_first (Ok x) (Err c) = Err c
with_first (Err b) (Ok xs) = Err b
with_first (Err b) (Err c) = Err (lesser b c)

-- the values of all, or the least pair
abbrev pub all_of : {A : Type 0} → List (Result A Broken) → Result (List A) Broken
all_of [] = Ok []
all_of (r ∷ rs) = with_first r (all_of rs)
