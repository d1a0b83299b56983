-- The values of an element's first subscripts.
use Rattle.std.specs.Prelude.{ℤ, List, take}
use Rattle.fault_details.specs.declared.detail.Subscripts.{Subscripts}

abbrev pub subscripts_of : Subscripts → List ℤ
subscripts_of s = take s.count s.values
