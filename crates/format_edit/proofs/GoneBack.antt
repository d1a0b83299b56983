-- What control goes back to, one part more.
use Rattle.std.proofs.Common.{◌≡◌, List, [], ◌∷◌, length, sym, ap, ◌∙◌, if◌then◌else◌, arith}
use Rattle.meaning.specs.Formats.{Part, single, group, Parts, parts}
use Rattle.meaning.specs.Records.{is_group, unless_found, from_last_group}
use Rattle.format_edit.specs.declared.format.Part.{Part as PartOf}
use Rattle.format_edit.specs.Formatted.{part_of, parts_of}

found_more : (p : Part) (found next rest behind all : Parts) → rest ≡ parts p behind → next ≡ (if is_group p then rest else found) → unless_found found (from_last_group rest) ≡ all → unless_found next (from_last_group behind) ≡ all
found_more (single n d) found next rest behind all e f so_far =
    ap (λ x. unless_found x (from_last_group behind)) f ∙ sym (ap (λ r. unless_found found (from_last_group r)) e) ∙ so_far
found_more (group n ps) found next rest behind all e f so_far =
    ap (λ x. unless_found x (from_last_group behind)) (f ∙ e) ∙ sym (ap (λ r. unless_found found (from_last_group r)) e) ∙ so_far

chosen : (p : Part) (found next rest : List PartOf) → next ≡ (if is_group p then rest else found) → parts_of next ≡ (if is_group p then parts_of rest else parts_of found)
chosen (single n d) found next rest e = ap parts_of e
chosen (group n ps) found next rest e = ap parts_of e

pub reverted_more : (p : PartOf) (found next rest behind : List PartOf) (all : Parts) → rest ≡ p ∷ behind → next ≡ (if is_group (part_of p) then rest else found)
    → unless_found (parts_of found) (from_last_group (parts_of rest)) ≡ all → unless_found (parts_of next) (from_last_group (parts_of behind)) ≡ all
reverted_more p found next rest behind all e f so_far =
    found_more (part_of p) (parts_of found) (parts_of next) (parts_of rest) (parts_of behind) all (ap parts_of e) (chosen (part_of p) found next rest f) so_far

pub reverted_end : (found rest : List PartOf) (all : Parts) → length rest ≡ 0 → unless_found (parts_of found) (from_last_group (parts_of rest)) ≡ all → parts_of found ≡ all
reverted_end found [] all e so_far = so_far
reverted_end found (p ∷ ps) all e so_far = absurd (omega arith)
