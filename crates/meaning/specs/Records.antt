-- What a format makes of a list of values (ANSI X3.9-1978, chapter 13): the format unrolled, cut
-- where the list is used up, and each record as a set of positions and bytes.
use Rattle.std.specs.Prelude.{ℕ, zero, suc, ◌+◌, ◌-◌, ℤ, pos, negsuc, unsigned_abs, Bool, true}
use Rattle.std.specs.Prelude.{false, ◌&&◌, ◌||◌, List, [], ◌∷◌, ◌++◌, map, length, max, replicate}
use Rattle.std.specs.Prelude.{nat_lt, ◌==◌, if◌then◌else◌, Option, Some, None, Result, Ok, Err}
use Rattle.std.specs.Fmt.{decimal}
use Rattle.std.specs.List.{range_with_len}
use Rattle.meaning.specs.declared.ending.FaultKind.{FaultKind}
use Rattle.meaning.specs.declared.ending.FaultKind.TheVariants.{F7, F8}
use Rattle.meaning.specs.declared.ending.Value.{Value}
use Rattle.meaning.specs.declared.ending.Value.TheVariants as values
use Rattle.meaning.specs.Characters.{blank}
use Rattle.meaning.specs.Formats.{Descriptor, integer_field, logical_field, characters, skip, slash}
use Rattle.meaning.specs.Formats.{colon, Part, single, group, Parts, no_parts, parts}

-- ---- the format unrolled (13.2, 13.3)

-- descriptors so many times
abbrev pub times : ℕ → List Descriptor → List Descriptor
times zero ds = []
times (suc n) ds = ds ++ times n ds

-- one pass, with repeats written out
abbrev mutual
  pub unrolled : Part → List Descriptor
  unrolled (single n d) = times n (d ∷ [])
  unrolled (group n ps) = times n (pass ps)

  pub pass : Parts → List Descriptor
  pass no_parts = []
  pass (parts p ps) = unrolled p ++ pass ps

abbrev pub is_field : Descriptor → Bool
is_field (integer_field w m) = true
is_field (logical_field w) = true
is_field (characters text) = false
is_field (skip n) = false
is_field slash = false
is_field colon = false

-- whether there is an I or an L
abbrev mutual
  pub has_field : Part → Bool
  has_field (single n d) = is_field d
  has_field (group n ps) = have_field ps

  pub have_field : Parts → Bool
  have_field no_parts = false
  have_field (parts p ps) = has_field p || have_field ps

abbrev pub is_group : Part → Bool
is_group (single n d) = false
is_group (group n ps) = true

abbrev pub unless_found : Parts → Option Parts → Parts
unless_found ps None = ps
unless_found ps (Some found) = found

-- from the last group that stands directly in the outer parentheses on
abbrev pub from_last_group : Parts → Option Parts
from_last_group no_parts = None
from_last_group (parts p ps) =
    if is_group p then Some (unless_found (parts p ps) (from_last_group ps)) else from_last_group ps

-- what control goes back to: that, or the whole where there is no such group
abbrev pub reverted : Parts → Parts
reverted ps = unless_found ps (from_last_group ps)

-- enough of the format for n values. To go back is to stop where the list is used up, and to end
-- the record otherwise; where the part that control goes back to takes no value, nothing comes of
-- going back
abbrev pub sequence : Parts → ℕ → List Descriptor
sequence ps n =
    pass ps ++ (if have_field (reverted ps) then times n (colon ∷ (slash ∷ pass (reverted ps)))
    else [])

-- ---- editing

-- digits of a number, at least so many, and none of 0 where none are asked for (13.5.9.1)
abbrev pub least_digits : ℕ → ℕ → List ℕ
least_digits m n =
    if m == 0 && n == 0 then [] else replicate (m - length (decimal n)) 48 ++ decimal n

-- a plus sign is never written
abbrev pub sign_of : ℤ → List ℕ
sign_of (pos n) = []
sign_of (negsuc n) = 45 ∷ []

abbrev pub integer_text : ℕ → ℤ → List ℕ
integer_text m z = sign_of z ++ least_digits m (unsigned_abs z)

abbrev pub logical_text : Bool → List ℕ
logical_text true = 84 ∷ []
logical_text false = 70 ∷ []

-- a text in w positions, right justified; asterisks where it doesn't fit (13.5.9)
abbrev pub justified : ℕ → List ℕ → List ℕ
justified w text =
    if nat_lt w (length text) then replicate w 42 else replicate (w - length text) blank ++ text

-- what becomes of descriptors: fields and characters put their bytes, moves and ends of records
-- pass, and it stops where the list is used up, or clashes where a value meets a descriptor of
-- another type or none
pub data Course : Type 0 where
  stops : Course
  clashes : Course
  puts : List ℕ → Course → Course
  moves : ℕ → Course → Course
  ends : Course → Course

unfoldable pub course : List Descriptor → List Value → Course
course [] [] = stops
course [] (v ∷ vs) = clashes
course (integer_field w m ∷ ds) [] = stops
course (integer_field w m ∷ ds) (values.Int z ∷ vs) =
    puts (justified w (integer_text m z)) (course ds vs)
course (integer_field w m ∷ ds) (values.Bool b ∷ vs) = clashes
course (logical_field w ∷ ds) [] = stops
course (logical_field w ∷ ds) (values.Int z ∷ vs) = clashes
course (logical_field w ∷ ds) (values.Bool b ∷ vs) =
    puts (justified w (logical_text b)) (course ds vs)
course (characters text ∷ ds) vs = puts text (course ds vs)
course (skip n ∷ ds) vs = moves n (course ds vs)
course (slash ∷ ds) vs = ends (course ds vs)
course (colon ∷ ds) [] = stops
course (colon ∷ ds) (v ∷ vs) = course ds (v ∷ vs)

abbrev pub is_clash : Course → Bool
is_clash stops = false
is_clash clashes = true
is_clash (puts text c) = is_clash c
is_clash (moves n c) = is_clash c
is_clash (ends c) = is_clash c

-- ---- records

-- a set of positions and the bytes at them
abbrev pub Record : Type 0
Record = List (ℕ × ℕ)

-- characters from a position on
abbrev pub placed : ℕ → List ℕ → Record
placed p [] = []
placed p (c ∷ cs) = (p, c) ∷ placed (p + 1) cs

-- the records of a course, the open one last
unfoldable pub laid : ℕ → Record → Course → List Record
laid p r stops = r ∷ []
laid p r clashes = r ∷ []
laid p r (puts text c) = laid (p + length text) (r ++ placed p text) c
laid p r (moves n c) = laid (p + n) r c
laid p r (ends c) = r ∷ laid 0 [] c

-- the byte at a position, a blank where there is none
abbrev pub byte_at : Record → ℕ → ℕ
byte_at [] q = blank
byte_at (x ∷ xs) q = if x.0 == q then x.1 else byte_at xs q

-- the position behind the greatest one
abbrev pub extent : Record → ℕ
extent [] = 0
extent (x ∷ xs) = max (x.0 + 1) (extent xs)

unfoldable pub text_of : Record → List ℕ
text_of r = map (byte_at r) (range_with_len 0 (extent r))

-- records as they are written, each with a line feed behind
unfoldable pub written : List Record → List ℕ
written [] = []
written (r ∷ rs) = text_of r ++ (10 ∷ written rs)

-- a WRITE statement writes at most 1,048,576 bytes (own)
abbrev pub byte_limit : ℕ
byte_limit = 1048576

-- the bytes of a course, or its fault. Bytes only grow along a course, so it met the limit first
-- where the bytes up to a clash pass it; the record that is open at a clash has no line feed yet
unfoldable pub outcome_of : Bool → List ℕ → Result (List ℕ) FaultKind
outcome_of true bytes = if nat_lt byte_limit (length bytes - 1) then Err F8 else Err F7
outcome_of false bytes = if nat_lt byte_limit (length bytes) then Err F8 else Ok bytes

-- what a format makes of values where control goes back so many times at most
abbrev pub edited_within : ℕ → Parts → List Value → Result (List ℕ) FaultKind
edited_within n ps vs =
    outcome_of (is_clash (course (sequence ps n) vs))
    (written (laid 0 [] (course (sequence ps n) vs)))

-- what a format makes of values: each time that control goes back a value is used up
unfoldable pub edited : Parts → List Value → Result (List ℕ) FaultKind
edited ps vs = edited_within (length vs) ps vs
