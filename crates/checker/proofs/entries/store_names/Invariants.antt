use Rattle.std.proofs.Common.{◌≡◌, ℕ, List, take}
use Rattle.meaning.specs.Arrays.{cells_of}
use Rattle.name_maps.specs.NameSets.{texts}
use Rattle.k_rules.specs.Judged.{arrays_in}
use Rattle.checker.specs.Entries.{said_at, stored_in}
use Rattle.storage.specs.Numbered.{named}
use Rattle.checker.proofs.entries.store_names.Given as goal

abbrev pub invariant-loop-name : goal.invariant-loop-name
invariant-loop-name l = record {
  next : l.storing.next ≡ cells_of (named (arrays_in l.facts) (texts (take l.name-index l.names)));
  entries : (n : List ℕ) → said_at l.storing.entries n ≡ stored_in l.facts l.symbols (named (arrays_in l.facts) (texts (take l.name-index l.names))) n;
}
