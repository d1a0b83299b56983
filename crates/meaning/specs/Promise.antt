-- The main theorem: what a run gives, in three cases.
use Rattle.std.specs.Prelude.{◌≡◌, ℕ, Bool, true, List, ◌++◌, Option}
use Rattle.std.specs.List.{concat}
use Rattle.std.specs.Io.KnownBytes.{Appends}
use Rattle.meaning.specs.declared.ending.Report.{Report as Ending}
use Rattle.meaning.specs.Endings as endings
use Rattle.meaning.specs.Answers.{Answer}

-- what a sink tells: its bytes, where they are known, and whether it has refused
pub record Told : Type 0 where
  pub bytes : Option (List ℕ)
  pub refused : Bool

-- the sink took these bytes
pub record Took (old new : Told) (bytes : List ℕ) : Type 0 where
  pub bytes_grew : Appends old.bytes new.bytes bytes
  pub stays : new.refused ≡ old.refused

-- the sink took these bytes and then refused
pub record TookAndRefused (old new : Told) (bytes : List ℕ) : Type 0 where
  pub bytes_grew : Appends old.bytes new.bytes bytes
  pub refuses : new.refused ≡ true

-- the sink took some first pieces, each whole
pub record IsFront (pieces : List (List ℕ)) (old new : Told) : Type 0 where
  pub taken : List (List ℕ)
  pub left : List (List ℕ)
  pub parts : pieces ≡ taken ++ left
  pub after : Took old new (concat taken)

-- the sink took a beginning of the bytes and then refused
pub record IsBroken (bytes : List ℕ) (old new : Told) : Type 0 where
  pub taken : List ℕ
  pub lost : List ℕ
  pub parts : bytes ≡ taken ++ lost
  pub after : TookAndRefused old new taken

-- the bytes and the ending are the answer's
pub record IsWhole (a : Answer) (old new : Told) (ending : Ending) : Type 0 where
  pub bytes : Took old new (concat a.pieces)
  pub same_ending : ending ≡ a.ending

-- the ending says that memory was refused, and the bytes are some first pieces of the answer's,
-- each whole
pub record IsPrefixByMemory (a : Answer) (old new : Told) (ending : Ending) : Type 0 where
  pub bytes : IsFront a.pieces old new
  pub says_so : ending ≡ endings.Memory

-- the ending says that a write was refused, and the bytes are a beginning of the answer's
pub record IsPrefixByRefusal (a : Answer) (old new : Told) (ending : Ending) : Type 0 where
  pub bytes : IsBroken (concat a.pieces) old new
  pub says_so : ending ≡ endings.WriteRefused

pub data Keeps (a : Answer) (old new : Told) (ending : Ending) : Type 0 where
  whole : IsWhole a old new ending → Keeps a old new ending
  cut_short : IsPrefixByMemory a old new ending → Keeps a old new ending
  broken_off : IsPrefixByRefusal a old new ending → Keeps a old new ending
