-- What editing answers: bytes, a fault of the program, or nothing where memory was refused.
use Rattle.std.specs.Prelude.{◌≡◌, ℕ, List, Result, Ok, Err}
use Rattle.std.specs.Global.{Vec}
use Rattle.meaning.specs.declared.ending.FaultKind.{FaultKind}
use Rattle.meaning.specs.declared.ending.FaultKind.TheVariants as kinds
use Rattle.format_edit.specs.declared.fault.EditFault.{EditFault}
use Rattle.format_edit.specs.declared.fault.EditFault.TheVariants as faults

-- what a format makes of values: the bytes of its records, or the fault
abbrev pub Made : Type 0
Made = Result (List ℕ) FaultKind

-- what a fault says of what is made: nothing where memory was refused
abbrev pub Fails : EditFault → Made → Type 0
Fails faults.F7 made = made ≡ Err kinds.F7
Fails faults.F8 made = made ≡ Err kinds.F8
Fails faults.Memory made = Unit {0}

-- what the code answers leads to what is made
abbrev pub Follows : {X : Type 0} → Result X EditFault → Made → (X → Made) → Type 0
Follows (Ok x) made after = made ≡ after x
Follows (Err e) made after = Fails e made

-- the bytes are those that are made
abbrev pub Edits : Result (Vec ℕ) EditFault → Made → Type 0
Edits result made = Follows result made (λ v. Ok v.items)
