use Rattle.std.proofs.Common.{◌≡◌, ◌<◌, ◌^◌, take}
use Rattle.std.specs.List.{filter}
use Rattle.meaning.specs.Characters.{is_digit, number_of}
use Rattle.source_columns.proofs.labels.number_in.Given as goal

abbrev pub invariant-loop-c : goal.invariant-loop-c
invariant-loop-c l = record {
  spelled : l.number ≡ number_of (filter is_digit (take l.c-index l.field));
  small : l.number < 10 ^ l.c-index;
}
