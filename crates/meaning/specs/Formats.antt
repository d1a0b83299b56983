-- The text of a format (ANSI X3.9-1978, 13.1 and 13.2), as it stands between the outer parentheses.
-- A text reads as the parts of a format exactly when it denotes them.
use Rattle.std.specs.Prelude.{◌≡◌, ℕ, zero, suc, ◌+◌, ◌*◌, max, Bool, true, false, ◌&&◌, ◌||◌, not}
use Rattle.std.specs.Prelude.{List, [], ◌∷◌, ◌++◌, length, nat_le, nat_lt, ◌==◌, if◌then◌else◌}
use Rattle.std.specs.Prelude.{Option, Some, None, option_map, IsTrue}
use Rattle.std.specs.List.{list_all}
use Rattle.meaning.specs.Characters.{apostrophe, is_digit, is_number, number_of}
use Rattle.meaning.specs.BareText.{bare}
use Rattle.meaning.specs.Reading.{Text, Reader, ◌>>=◌, when, either, after, with_char, run, at_end}
use Rattle.meaning.specs.Reading.{before_last_parenthesis}

-- an edit descriptor: an integer in w positions with at least m digits, where Iw is Iw.1
-- (13.5.9.1); a logical value in w positions (13.5.10); characters (13.5.1); a move of n positions
-- (13.5.3); the end of a record (13.5.4); a place where editing ends when the list is used up
-- (13.5.5)
pub data Descriptor : Type 0 where
  integer_field : ℕ → ℕ → Descriptor
  logical_field : ℕ → Descriptor
  characters : List ℕ → Descriptor
  skip : ℕ → Descriptor
  slash : Descriptor
  colon : Descriptor

mutual
  -- an edit descriptor or a group, so many times (13.1.1 and 13.2.1)
  pub data Part : Type 0 where
    single : ℕ → Descriptor → Part
    group : ℕ → Parts → Part

  -- the parts of a format or of a group, first to last
  pub data Parts : Type 0 where
    no_parts : Parts
    parts : Part → Parts → Parts

-- ---- limits

-- a repeat count, a width or a number of positions: 1 to 9999 (own)
abbrev pub is_count : ℕ → Bool
is_count n = nat_le 1 n && nat_le n 9999

-- digits that say how many digits are written at least: 0 to 9999 (own)
abbrev pub is_least : List ℕ → Bool
is_least digits = nat_lt 0 (length digits) && nat_le (number_of digits) 9999

-- digits, which stand for 1 where there are none
abbrev pub count_in : List ℕ → ℕ
count_in [] = 1
count_in (c ∷ cs) = number_of (c ∷ cs)

-- how many items one pass has when repeats are written out
abbrev mutual
  pub items_of : Part → ℕ
  items_of (single n d) = n
  items_of (group n ps) = n * items ps

  pub items : Parts → ℕ
  items no_parts = 0
  items (parts p ps) = items_of p + items ps

-- a pass has at most 65,536 items (own)
abbrev pub is_short_pass : Parts → Bool
is_short_pass ps = nat_le (items ps) 65536

-- groups nest at most 16 deep inside the outer parentheses (own)
abbrev pub deepest : ℕ
deepest = 16

-- ---- what is written (13.1.1, 13.2.1 and 13.5)

mutual
  -- the digits before and behind an I, and those behind a point, if there is one; those before and
  -- behind an L; the text between apostrophes; the digits before an X; a slash; a colon; the digits
  -- before a group, and what stands in it
  pub data Word : Type 0 where
    integers : List ℕ → List ℕ → Option (List ℕ) → Word
    logicals : List ℕ → List ℕ → Word
    quoted : List ℕ → Word
    blanks : List ℕ → Word
    slash_word : Word
    colon_word : Word
    grouped : List ℕ → Words → Word

  -- one word, or a word, a comma or none, and others
  pub data Words : Type 0 where
    last : Word → Words
    before : Word → Bool → Words → Words

abbrev pub point_with : Option (List ℕ) → List ℕ
point_with None = []
point_with (Some digits) = 46 ∷ digits

-- a text with its apostrophes doubled
abbrev pub doubled : List ℕ → List ℕ
doubled [] = []
doubled (c ∷ cs) =
    if c == apostrophe then apostrophe ∷ (apostrophe ∷ doubled cs) else c ∷ doubled cs

abbrev pub comma_if : Bool → List ℕ
comma_if true = 44 ∷ []
comma_if false = []

abbrev mutual
  pub spell_word : Word → List ℕ
  spell_word (integers repeats width least) = repeats ++ (73 ∷ (width ++ point_with least))
  spell_word (logicals repeats width) = repeats ++ (76 ∷ width)
  spell_word (quoted text) = apostrophe ∷ (doubled text ++ (apostrophe ∷ []))
  spell_word (blanks count) = count ++ (88 ∷ [])
  spell_word slash_word = 47 ∷ []
  spell_word colon_word = 58 ∷ []
  spell_word (grouped repeats ws) = repeats ++ (40 ∷ (spell ws ++ (41 ∷ [])))

  pub spell : Words → List ℕ
  spell (last w) = spell_word w
  spell (before w comma ws) = spell_word w ++ (comma_if comma ++ spell ws)

-- a slash or a colon
abbrev pub is_mark : Word → Bool
is_mark (integers repeats width least) = false
is_mark (logicals repeats width) = false
is_mark (quoted text) = false
is_mark (blanks count) = false
is_mark slash_word = true
is_mark colon_word = true
is_mark (grouped repeats ws) = false

abbrev pub first_word : Words → Word
first_word (last w) = w
first_word (before w comma ws) = w

-- digits before a letter may be missing
abbrev pub IsRepeat : List ℕ → Type 0
IsRepeat digits = IsTrue (list_all is_digit digits) × IsTrue (is_count (count_in digits))

abbrev pub IsWidth : List ℕ → Type 0
IsWidth digits = IsTrue (is_number digits) × IsTrue (is_count (number_of digits))

abbrev pub IsLeast : Option (List ℕ) → Type 0
IsLeast None = Unit {0}
IsLeast (Some digits) = IsTrue (list_all is_digit digits) × IsTrue (is_least digits)

-- a comma may be left out beside a slash or a colon
abbrev mutual
  pub IsWellWord : Word → Type 0
  IsWellWord (integers repeats width least) = IsRepeat repeats × (IsWidth width × IsLeast least)
  IsWellWord (logicals repeats width) = IsRepeat repeats × IsWidth width
  IsWellWord (quoted text) = Unit {0}
  IsWellWord (blanks count) = IsRepeat count
  IsWellWord slash_word = Unit {0}
  IsWellWord colon_word = Unit {0}
  IsWellWord (grouped repeats ws) = IsRepeat repeats × AreWell ws

  pub AreWell : Words → Type 0
  AreWell (last w) = IsWellWord w
  AreWell (before w comma ws) =
      IsWellWord w × (IsTrue (comma || (is_mark w || is_mark (first_word ws))) × AreWell ws)

-- how deep groups nest
abbrev mutual
  pub depth_of : Word → ℕ
  depth_of (integers repeats width least) = 0
  depth_of (logicals repeats width) = 0
  depth_of (quoted text) = 0
  depth_of (blanks count) = 0
  depth_of slash_word = 0
  depth_of colon_word = 0
  depth_of (grouped repeats ws) = suc (depth ws)

  pub depth : Words → ℕ
  depth (last w) = depth_of w
  depth (before w comma ws) = max (depth_of w) (depth ws)

abbrev pub least_in : Option (List ℕ) → ℕ
least_in None = 1
least_in (Some digits) = number_of digits

abbrev mutual
  pub meant : Word → Part
  meant (integers repeats width least) =
      single (count_in repeats) (integer_field (number_of width) (least_in least))
  meant (logicals repeats width) = single (count_in repeats) (logical_field (number_of width))
  meant (quoted text) = single 1 (characters text)
  meant (blanks count) = single 1 (skip (count_in count))
  meant slash_word = single 1 slash
  meant colon_word = single 1 colon
  meant (grouped repeats ws) = group (count_in repeats) (all_meant ws)

  pub all_meant : Words → Parts
  all_meant (last w) = parts (meant w) no_parts
  all_meant (before w comma ws) = parts (meant w) (all_meant ws)

-- the text between the parentheses of a format, or nothing
abbrev pub spell_format : Option Words → List ℕ
spell_format None = []
spell_format (Some ws) = spell ws

abbrev pub IsWellFormat : Option Words → Type 0
IsWellFormat None = Unit {0}
IsWellFormat (Some ws) = AreWell ws × IsTrue (nat_le (depth ws) deepest)

abbrev pub format_meant : Option Words → Parts
format_meant None = no_parts
format_meant (Some ws) = all_meant ws

-- the text between the parentheses of a format denotes the parts
pub record Denotes (text : List ℕ) (ps : Parts) : Type 0 where
  pub words : Option Words
  pub well : IsWellFormat words
  pub spelled : spell_format words ≡ text
  pub means : format_meant words ≡ ps
  pub short : IsTrue (is_short_pass ps)

-- ---- reading

-- how many digits are written at least: those behind a point, or 1 where there is none
unfoldable pub least_at : Reader ℕ
unfolding either when
least_at t =
    either (after (46 ∷ []) t)
    (Some (1, t)) (λ rest. when (is_least (run is_digit rest).0)
    (Some (number_of (run is_digit rest).0, (run is_digit rest).1)))

-- the width behind an I, and what follows a point
unfoldable pub integer_at : Reader Descriptor
unfolding ◌>>=◌ when
integer_at t =
    when (is_count (number_of (run is_digit t).0))
    (least_at (run is_digit t).1 >>=
    λ m. Some (integer_field (number_of (run is_digit t).0) m.0, m.1))

-- the width behind an L
unfoldable pub logical_at : Reader Descriptor
unfolding when
logical_at t =
    when (is_count (number_of (run is_digit t).0))
    (Some (logical_field (number_of (run is_digit t).0), (run is_digit t).1))

-- the characters up to the apostrophe that ends them, which isn't doubled
unfoldable pub quoted_at : Reader (List ℕ)
quoted_at [] = None
quoted_at (c ∷ []) = if c == apostrophe then Some ([], []) else None
quoted_at (c ∷ d ∷ t) =
    if c == apostrophe
    then (if d == apostrophe then option_map (with_char c) (quoted_at t) else Some ([], d ∷ t))
    else option_map (with_char c) (quoted_at (d ∷ t))

-- a descriptor so many times
abbrev pub times_read : ℕ → Option (Descriptor × Text) → Option (Part × Text)
times_read n None = None
times_read n (Some d) = Some (single n d.0, d.1)

-- a text between apostrophes, behind the first
unfoldable pub characters_at : Reader Part
unfolding ◌>>=◌
characters_at t = quoted_at t >>= λ text. Some (single 1 (characters text.0), text.1)

-- the parts of a group behind its opening parenthesis, and the closing one
unfoldable pub group_at : Reader Parts → ℕ → Reader Part
unfolding ◌>>=◌
group_at inner n t = inner t >>= λ ps. after (41 ∷ []) ps.1 >>= λ rest. Some (group n ps.0, rest)

-- the letter of a descriptor or the parenthesis of a group behind its count
unfoldable pub behind_count : Reader Parts → ℕ → Reader Part
behind_count inner n [] = None
behind_count inner n (c ∷ t) =
    if c == 88 then Some (single 1 (skip n), t)
    else (if c == 73 then times_read n (integer_at t)
    else (if c == 76 then times_read n (logical_at t)
    else (if c == 40 then group_at inner n t
    else None)))

-- what a count stands before
unfoldable pub counted_at : Reader Parts → Reader Part
unfolding when
counted_at inner t =
    when (is_count (count_in (run is_digit t).0))
    (behind_count inner (count_in (run is_digit t).0) (run is_digit t).1)

unfoldable pub part_at : Reader Parts → Reader Part
part_at inner [] = None
part_at inner (c ∷ t) =
    if c == apostrophe then characters_at t
    else (if c == 47 then Some (single 1 slash, t)
    else (if c == 58 then Some (single 1 colon, t)
    else counted_at inner (c ∷ t)))

abbrev pub marks : Descriptor → Bool
marks (integer_field w m) = false
marks (logical_field w) = false
marks (characters text) = false
marks (skip n) = false
marks slash = true
marks colon = true

-- a slash or a colon
abbrev pub is_separator : Part → Bool
is_separator (single n d) = marks d
is_separator (group n ps) = false

-- where the next part begins, if there is one: behind a comma, at a slash or a colon, or behind one
unfoldable pub next_at : Bool → Text → Option Text
next_at behind [] = None
next_at behind (c ∷ t) =
    if c == 44 then Some t
    else (if (c == 47 || c == 58) || (behind && not (c == 41)) then Some (c ∷ t)
    else None)

-- parts, one at least and so many at most
unfoldable pub parts_at : Reader Parts → ℕ → Reader Parts
unfolding ◌>>=◌ either
parts_at inner zero t = None
parts_at inner (suc n) t =
    part_at inner t >>=
    λ p. either (next_at (is_separator p.0) p.1)
    (Some (parts p.0 no_parts, p.1)) (λ rest. parts_at inner n rest >>=
    λ ps. Some (parts p.0 ps.0, ps.1))

-- parts in so many levels of parentheses
unfoldable pub parts_in : ℕ → Reader Parts
parts_in zero t = None
parts_in (suc levels) t = parts_at (parts_in levels) (suc (length t)) t

-- the parts of the format whose text between the parentheses this is
unfoldable pub descriptors_of : Text → Option Parts
unfolding ◌>>=◌ when
descriptors_of [] = Some no_parts
descriptors_of (c ∷ t) =
    parts_in (suc deepest) (c ∷ t) >>= λ ps. at_end ps >>=
    λ all. when (is_short_pass all) (Some all)

-- what stands between parentheses that are the first and the last of a text
unfoldable pub between_parentheses : Text → Option Text
unfolding ◌>>=◌
between_parentheses t = after (40 ∷ []) t >>= λ rest. before_last_parenthesis rest

-- the parts of a format with its outer parentheses, blanks having no meaning outside its
-- apostrophes
unfoldable pub format_in : Text → Option Parts
unfolding ◌>>=◌
format_in t = between_parentheses (bare t) >>= λ inner. descriptors_of inner

-- behind an apostrophe that may be the first of two, or elsewhere: the second of two is left out
unfoldable pub single_behind : Bool → Text → Text
single_behind pending [] = []
single_behind pending (c ∷ t) =
    if pending && c == apostrophe then single_behind false t
    else c ∷ single_behind (c == apostrophe) t

-- the text that a character constant stands for: two apostrophes in it are one (4.8)
unfoldable pub undoubled : Text → Text
unfolding single_behind
undoubled t = single_behind false t
