-- Formats in character constants.
use Rattle.std.proofs.Common.{◌≡◌, Bool, true, false, Option, Some, None, option_map, refl, sym}
use Rattle.std.specs.Borrow.{Bor}
use Rattle.std.specs.Prelude.{IfSome, if◌then◌else◌}
use Rattle.std.specs.Option.{option_copied}
use Rattle.meaning.specs.Formats.{Parts}
use Rattle.format_edit.specs.declared.format.Format.{Format}
use Rattle.format_edit.specs.Formatted.{descriptors}

pub copied : (o : Option (Bor Format)) → option_map (λ f. descriptors f.now) o ≡ option_map descriptors (option_copied o)
copied None = refl
copied (Some f) = refl

pub read_from : (o : Option (Bor Format)) (stands : Bool) (read : Option Parts) → option_map (λ f. descriptors f.now) o ≡ (if stands then read else None) → IfSome o (λ f. read ≡ Some (descriptors f.now))
read_from None stands read h = tt
read_from (Some f) true read h = sym h
read_from (Some f) false read h = absurd cc
