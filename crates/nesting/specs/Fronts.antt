-- Statements as far as they were read.
use Rattle.std.specs.Prelude.{◌≡◌, List, [], None}
use Rattle.meaning.specs.Nesting.{behind, first_broken, missing_end, start}
use Rattle.meaning.specs.Syntax.{ItemTree}
use Rattle.nesting.specs.Open.{unfinished}
use Rattle.nesting.specs.declared.nesting.Front.{Front}

-- both pairs, and the program unit behind all statements where none breaks a rule
pub record IsFront (items : List ItemTree) (r : Front) : Type 0 where
  pub missing : r.missing ≡ missing_end items
  pub first : r.first ≡ first_broken [] start items
  pub reads : r.first ≡ None → unfinished r.so_far ≡ behind start items
