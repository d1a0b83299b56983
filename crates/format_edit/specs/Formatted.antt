-- What a value of `Format` stands for, and what reading one answers.
use Rattle.std.specs.Prelude.{◌≡◌, ℕ, List, [], ◌∷◌, Option, Some, None, Result, Ok, Err, ◌==◌}
use Rattle.std.specs.Prelude.{if◌then◌else◌}
use Rattle.meaning.specs.Formats.{Descriptor, integer_field, logical_field, characters, skip, slash}
use Rattle.meaning.specs.Formats.{colon, Part, single, group, Parts, no_parts, parts, is_count}
use Rattle.meaning.specs.Characters.{apostrophe}
use Rattle.meaning.specs.Reading.{Reader, ◌>>=◌, after}
use Rattle.format_edit.specs.declared.format.Descriptor.{Descriptor as DescriptorOf}
use Rattle.format_edit.specs.declared.format.Descriptor.TheVariants.{Integer, Logical, Characters}
use Rattle.format_edit.specs.declared.format.Descriptor.TheVariants.{Skip, Slash, Colon}
use Rattle.format_edit.specs.declared.format.Part.{Part as PartOf, Single, Group', Row_of-Part}
use Rattle.format_edit.specs.declared.format.Part.{end_of-Part, more_of-Part}
use Rattle.format_edit.specs.declared.format.Format.{Format}
use Rattle.format_edit.specs.declared.fault.FormatFault.{FormatFault}
use Rattle.format_edit.specs.declared.fault.FormatFault.TheVariants as faults

-- what a descriptor, a part and a format stand for
abbrev pub descriptor_of : DescriptorOf → Descriptor
descriptor_of (Integer width least) = integer_field width least
descriptor_of (Logical width) = logical_field width
descriptor_of (Characters text) = characters text.items
descriptor_of (Skip n) = skip n
descriptor_of Slash = slash
descriptor_of Colon = colon

abbrev mutual
  pub part_of : PartOf → Part
  part_of (Single n d) = single n (descriptor_of d)
  part_of (Group' n shape row) = group n (row_parts row)

  pub row_parts : {m : _} → Row_of-Part m → Parts
  row_parts end_of-Part = no_parts
  row_parts (more_of-Part p ps) = parts (part_of p) (row_parts ps)

abbrev pub parts_of : List PartOf → Parts
parts_of [] = no_parts
parts_of (p ∷ ps) = parts (part_of p) (parts_of ps)

abbrev pub descriptors : Format → Parts
descriptors f = parts_of f.parts.items

-- a number, where it is a count
unfoldable pub counted : ℕ → Option ℕ
counted n = if is_count n then Some n else None

-- the next character inside apostrophes: any other one, or two apostrophes, which stand for one
unfoldable pub character_at : Reader ℕ
unfolding ◌>>=◌
character_at [] = None
character_at (c ∷ t) =
    if c == apostrophe then (after (apostrophe ∷ []) t >>= λ u. Some (apostrophe, u))
    else Some (c, t)

-- what a fault says of what was read: nothing where memory was refused
abbrev pub Breaks : {A : Type 0} → FormatFault → Option A → Type 0
Breaks faults.Broken read = read ≡ None
Breaks faults.Memory read = Unit {0}

-- what the code answers, seen by view, is what was read
abbrev pub Gives : {X A : Type 0} → (X → A) → Result X FormatFault → Option A → Type 0
Gives view (Ok x) read = read ≡ Some (view x)
Gives view (Err e) read = Breaks e read

-- the format is the one that was read
abbrev pub Formatted : Result Format FormatFault → Option Parts → Type 0
Formatted result read = Gives descriptors result read
