-- The characters of FORTRAN by their codes (ANSI X3.9-1978, 3.1): letters, digits, the blank and
-- the apostrophe.
use Rattle.std.specs.Prelude.{ℕ, ℤ, pos, negsuc, ◌+◌, ◌-◌, ◌*◌, Bool, ◌&&◌, ◌||◌, List, [], ◌∷◌}
use Rattle.std.specs.Prelude.{nat_le, nat_lt, length, if◌then◌else◌}
use Rattle.std.specs.List.{fold, list_all}

abbrev pub blank : ℕ
blank = 32

abbrev pub apostrophe : ℕ
apostrophe = 39

-- a digit
abbrev pub is_digit : ℕ → Bool
is_digit c = nat_le 48 c && nat_le c 57

-- a letter
abbrev pub is_letter : ℕ → Bool
is_letter c = nat_le 65 c && nat_le c 90

abbrev pub is_alphanumeric : ℕ → Bool
is_alphanumeric c = is_letter c || is_digit c

-- a lower case letter stands for the upper case one (own)
abbrev pub raised : ℕ → ℕ
raised c = if nat_le 97 c && nat_le c 122 then c - 32 else c

-- the number that digits spell (4.3)
abbrev pub number_of : List ℕ → ℕ
number_of digits = fold (λ n c. 10 * n + (c - 48)) 0 digits

-- digits, one at least
abbrev pub is_number : List ℕ → Bool
is_number digits = nat_lt 0 (length digits) && list_all is_digit digits

-- a symbolic name: a letter and up to thirty letters or digits (2.2; the number is own)
abbrev pub is_name : List ℕ → Bool
is_name [] = nat_lt 0 0
is_name (c ∷ cs) = is_letter c && list_all is_alphanumeric cs && nat_le (length cs) 30

-- the digits of a statement label: one to five, not all zero (3.4)
abbrev pub is_label : List ℕ → Bool
is_label digits = is_number digits && nat_le (length digits) 5 && nat_lt 0 (number_of digits)

-- a number, or 0 where it is less
abbrev pub at_least_zero : ℤ → ℕ
at_least_zero (pos n) = n
at_least_zero (negsuc n) = 0
