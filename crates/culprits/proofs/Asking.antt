-- What is asked of the statements in their seats is asked of the statements, and then of the first seat at the line.
use Rattle.std.proofs.Common.{◌≡◌, ℕ, List, [], map, refl, sym, ap, ap₂, ◌∙◌, Option, Some, None}
use Rattle.std.specs.Option.{option_or}
use Rattle.meaning.specs.declared.refusal.Rule.{Rule}
use Rattle.meaning.specs.Syntax.{ItemTree}
use Rattle.meaning.specs.Trees.{Nested, flatten}
use Rattle.list_culprits.specs.Seats.{Seat, seat_passing, seats_of}
use Rattle.list_culprits.proofs.Seating.{seats_told}
use Rattle.culprits.specs.Culprits.{culprit_at, culprit_in, item_culprit_in, items_in, listed_in}
use Rattle.culprits.specs.Placing.{at_line, item_line, seat_line}
use Rattle.culprits.specs.Told.{Told}
use Rattle.culprits.proofs.Placed.{asked_alone, asked_both, asked_mapped, then_ask}
use Rattle.std.specs.Prelude.{◌==◌}

module _ (rule : Rule) (line : ℕ) (t : Nested) where
  abbrev seats : List Seat
  seats = seats_of t

  -- of the rules on lists
  abbrev pub listed_told : Option Told
  listed_told = at_line seat_line (λ front z. listed_in rule t z) line [] seats

  pub listed_at : (o : Option Seat) → o ≡ seat_passing (λ x. x.line == line) seats → then_ask (listed_in rule t) o ≡ listed_told
  listed_at o is = ap (then_ask (listed_in rule t)) is ∙ sym (asked_alone seat_line (listed_in rule t) line [] seats)

  -- of the others
  abbrev pub item_told : List ItemTree → Option Told
  item_told all = at_line item_line (item_culprit_in rule all) line [] all

  pub whole : (all : List ItemTree) (o : Option Told) → all ≡ flatten t → o ≡ item_told all → option_or o listed_told ≡ culprit_at rule line t
  whole all o same is =
      ap (λ p. option_or p listed_told) (is ∙ ap item_told same ∙ ap (at_line item_line (item_culprit_in rule (flatten t)) line []) (sym (seats_told t).items) ∙ sym (asked_mapped (λ (z : Seat). z.item) item_line (item_culprit_in rule (flatten t)) line [] seats))
      ∙ sym (asked_both seat_line (λ front z. item_culprit_in rule (flatten t) (items_in front) z.item) (λ front z. listed_in rule t z) line [] seats)
