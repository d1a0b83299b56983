-- What statements say by their texts.
use Rattle.std.specs.Prelude.{List, map, Option, Some, None, Result, Ok, Err}
use Rattle.std.specs.List.{filter_map}
use Rattle.meaning.specs.declared.refusal.Broken.{Broken}
use Rattle.meaning.specs.Answers.{member_of}
use Rattle.meaning.specs.Statements.{Entry}
use Rattle.meaning.specs.Syntax.{ItemTree}

abbrev pub read_by : {A : Type 0} → Result A Broken → Option A
read_by (Ok x) = Some x
read_by (Err b) = None

-- those that can be read
abbrev pub members_read : List Entry → List ItemTree
members_read entries = filter_map read_by (map member_of entries)
