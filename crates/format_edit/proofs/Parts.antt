-- The parts of a group as a list, and the parts that a loop over a list has left.
use Rattle.std.proofs.Common.{◌≡◌, ℕ, ◌+◌, ◌<◌, ◌≤◌, List, length, get_or, drop, refl, sym, ap, ◌∙◌}
use Rattle.std.proofs.lemmas.List.{drop_more, drop_all}
use mathlib.Core.Former.{Count}
use Rattle.meaning.specs.Formats.{Parts, no_parts, parts, group}
use Rattle.format_edit.specs.declared.format.Part.{Part as PartOf, Single, Group, Group', Row_of-Part, end_of-Part, more_of-Part, items-the_row-Part, items_hidden-the_row-Part-0}
use Rattle.format_edit.specs.Formatted.{part_of, row_parts, parts_of}

row_parts-items : (n : _) (row : Row_of-Part n) → row_parts row ≡ parts_of (items-the_row-Part n row)
row_parts-items n end_of-Part = refl
row_parts-items n (more_of-Part p ps) = ap (parts (part_of p)) (row_parts-items _ ps)

abbrev pub row_of : PartOf → (n : Count) × Row_of-Part n
row_of (Single n d) = (_, end_of-Part)
row_of (Group' n shape row) = (_, row)

-- a group as it holds its parts, and as the list
pub group_is : (n : ℕ) (v : _) → part_of (Group n v) ≡ group n (parts_of v.items)
group_is n v =
    let row = row_of (Group n v) in
    ap (group n) (row_parts-items row.0 row.1 ∙ ap parts_of (items_hidden-the_row-Part-0 v))

-- a function of the parts that are left, one step on
pub left_more : {X : Type 0} (f : Parts → X) (ps : List PartOf) (i : ℕ) (p : PartOf) → i < length ps → p ≡ get_or ps i p → f (parts_of (drop i ps)) ≡ f (parts (part_of p) (parts_of (drop (i + 1) ps)))
left_more f ps i p lt is =
    ap (λ xs. f (parts_of xs)) (drop_more ps i p lt) ∙ ap (λ x. f (parts (part_of x) (parts_of (drop (i + 1) ps)))) (sym is)

pub left_none : {X : Type 0} (f : Parts → X) (ps : List PartOf) (i : ℕ) → length ps ≤ i → f (parts_of (drop i ps)) ≡ f no_parts
left_none f ps i le = ap (λ xs. f (parts_of xs)) (drop_all i ps le)
