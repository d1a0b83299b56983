-- What C is shown of a run and of a check, field by field.
use Rattle.std.specs.Prelude.{◌≡◌, ℕ, List, [], ◌++◌, length, take, drop, slice_index, Option, Some}
use Rattle.std.specs.Prelude.{None}
use Rattle.meaning.specs.declared.ending.Ending.{Ending}
use Rattle.meaning.specs.declared.ending.Ending.TheVariants as endings
use Rattle.meaning.specs.declared.ending.FaultKind.{FaultKind}
use Rattle.meaning.specs.declared.ending.FaultKind.TheVariants as faults
use Rattle.meaning.specs.declared.ending.Report.{Report}
use Rattle.meaning.specs.Names.{fault_name, rule_name}
use Rattle.meaning.specs.Ranks.{rank_of}
use Rattle.c_library.specs.declared.shown.Place.{Place}
use Rattle.c_library.specs.declared.shown.RunReport.{RunReport}

-- bytes at the front of a room, as many as it has room for, and behind them what stood there before
abbrev pub put_front : List ℕ → List ℕ → List ℕ
put_front bytes room = take (length room) bytes ++ drop (length bytes) room

-- the number of an ending
abbrev pub ending_number : Ending → ℕ
ending_number endings.Ended = 0
ending_number (endings.Stopped message) = 1
ending_number (endings.Fault fault) = 2
ending_number (endings.Refused rule line) = 3
ending_number endings.Memory = 4
ending_number endings.WriteRefused = 5

-- the number behind the letter of a fault
abbrev pub fault_number : FaultKind → ℕ
fault_number faults.F1 = 1
fault_number faults.F2 = 2
fault_number faults.F3 = 3
fault_number faults.F4 = 4
fault_number faults.F5 = 5
fault_number faults.F6 = 6
fault_number faults.F7 = 7
fault_number faults.F8 = 8

abbrev pub nowhere : Place
nowhere = record { letter = 0; number = 0; line = 0 }

-- the fault or the rule by its letter and its number, and its line
abbrev pub place_of : Ending → Place
place_of (endings.Fault fault) =
    record {
      letter = slice_index (fault_name fault.kind) 0;
      number =
          fault_number fault.kind;
      line = fault.line;
    }
place_of (endings.Refused rule line) =
    record { letter = slice_index (rule_name rule) 0; number = rank_of rule; line = line }
place_of ending = nowhere

-- what a STOP statement tells
abbrev pub message_of : Ending → List ℕ
message_of (endings.Stopped message) = message
message_of ending = []

abbrev pub turns_of : Option ℕ → ℕ
turns_of None = 0
turns_of (Some turns) = turns

-- the fields tell a report
pub record Tells (report : Report) (before after : RunReport) : Type 0 where
  pub ending : after.ending ≡ ending_number report.ending
  pub place : after.place ≡ place_of report.ending
  pub turns : after.turns ≡ turns_of report.turns
  pub message_size : after.message_size ≡ length (message_of report.ending)
  pub message : after.message ≡ put_front (message_of report.ending) before.message
