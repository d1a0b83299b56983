-- The formats in character constants of WRITE and PRINT statements (ANSI X3.9-1978, 12.4 and
-- 13.1.2).
use Rattle.std.specs.Prelude.{ℕ, Bool, false, List, if◌then◌else◌, Option, None}
use Rattle.std.specs.List.{list_any}
use Rattle.std.specs.Str.{bytes_eq}
use Rattle.meaning.specs.Formats.{Parts, format_in, undoubled}
use Rattle.meaning.specs.Syntax.{FormatTree, format_label, format_constant, ShapeTree, writing}
use Rattle.meaning.specs.Syntax.{printing, logical_if, ItemTree}

-- a format is that in the constant of this text
abbrev pub is_constant : List ℕ → FormatTree → Bool
is_constant text (format_label label) = false
is_constant text (format_constant own) = bytes_eq text own

-- a statement has that constant as its format
abbrev pub has_constant : List ℕ → ShapeTree → Bool
has_constant text (writing control es) = is_constant text control.source
has_constant text (printing source es) = is_constant text source
has_constant text (logical_if e statement) = has_constant text statement
has_constant text s = false

abbrev pub stands_in : List ItemTree → List ℕ → Bool
stands_in all text = list_any (λ x. has_constant text x.shape) all

-- the format in a constant, if it stands so in statements
abbrev pub constant_format : List ItemTree → List ℕ → Option Parts
constant_format all text = if stands_in all text then format_in (undoubled text) else None
