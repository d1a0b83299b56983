-- The intrinsic functions (ANSI X3.9-1978, 15.3 and table 5, those of INTEGER): their names, how
-- many arguments they take, and their values. A value outside INTEGER is a fault.
use Rattle.std.specs.Prelude.{ℕ, ℤ, pos, neg_ℤ, ◌-ℤ◌, ◌*ℤ◌, int_div, int_lt, Bool, ◌==◌, nat_le}
use Rattle.std.specs.Prelude.{List, [], ◌∷◌, codes, if◌then◌else◌, Option, Some, None, Err}
use Rattle.std.specs.List.{fold, list_any}
use Rattle.std.specs.Ordering.{int_eq}
use Rattle.std.specs.Str.{bytes_eq}
use Rattle.meaning.specs.declared.ending.FaultKind.TheVariants.{F1}
use Rattle.meaning.specs.Values.{Valued, integer}

pub data Intrinsic : Type 0 where
  absolute : Intrinsic
  remainder : Intrinsic
  greatest : Intrinsic
  least : Intrinsic
  sign_transfer : Intrinsic
  positive_difference : Intrinsic

-- a name and the function that it is the name of
pub record Naming : Type 0 where
  pub names : List (List ℕ)
  pub function : Intrinsic

abbrev pub intrinsics : List Naming
intrinsics =
    record { names = codes "ABS" ∷ (codes "IABS" ∷ []); function = absolute }
    ∷ (record { names = codes "MOD" ∷ []; function = remainder }
    ∷ (record { names = codes "MAX" ∷ (codes "MAX0" ∷ []); function = greatest }
    ∷ (record { names = codes "MIN" ∷ (codes "MIN0" ∷ []); function = least }
    ∷ (record { names = codes "SIGN" ∷ (codes "ISIGN" ∷ []); function = sign_transfer }
    ∷ (record { names = codes "DIM" ∷ (codes "IDIM" ∷ []); function = positive_difference } ∷
    [])))))

abbrev pub named_among : List Naming → List ℕ → Option Intrinsic
named_among [] n = None
named_among (x ∷ xs) n = if list_any (bytes_eq n) x.names then Some x.function else named_among xs n

-- the intrinsic function that a name is the name of
abbrev pub intrinsic_named : List ℕ → Option Intrinsic
intrinsic_named n = named_among intrinsics n

-- whether it takes so many arguments
abbrev pub takes : Intrinsic → ℕ → Bool
takes absolute n = n == 1
takes remainder n = n == 2
takes greatest n = nat_le 2 n
takes least n = nat_le 2 n
takes sign_transfer n = n == 2
takes positive_difference n = n == 2

abbrev pub magnitude : ℤ → ℤ
magnitude a = if int_lt a (pos 0) then neg_ℤ a else a

abbrev pub greater : ℤ → ℤ → ℤ
greater a b = if int_lt a b then b else a

abbrev pub lesser : ℤ → ℤ → ℤ
lesser a b = if int_lt b a then b else a

abbrev pub with_sign_of : ℤ → ℤ → ℤ
with_sign_of a b = if int_lt b (pos 0) then neg_ℤ (magnitude a) else magnitude a

-- the value of two arguments, or of more one after another
abbrev pub of_two : Intrinsic → ℤ → ℤ → Valued
of_two absolute a b = integer (magnitude a)
of_two remainder a b = if int_eq b (pos 0) then Err F1 else integer (a -ℤ int_div a b *ℤ b)
of_two greatest a b = integer (greater a b)
of_two least a b = integer (lesser a b)
of_two sign_transfer a b = integer (with_sign_of a b)
of_two positive_difference a b = integer (if int_lt b a then a -ℤ b else pos 0)

abbrev pub of_more : Intrinsic → ℤ → List ℤ → Valued
of_more greatest a bs = integer (fold greater a bs)
of_more least a bs = integer (fold lesser a bs)
of_more f a [] = of_two f a a
of_more f a (b ∷ bs) = of_two f a b

-- the value of the arguments; the rules leave as many as the function takes
abbrev pub intrinsic_value : Intrinsic → List ℤ → Valued
intrinsic_value f [] = integer (pos 0)
intrinsic_value f (a ∷ bs) = of_more f a bs
