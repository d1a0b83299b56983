-- The laws of reading.
use Rattle.std.proofs.Common.{◌≡◌, ◌≤◌, length, Some, sym, ap, ◌∙◌}
use Rattle.meaning.specs.Syntax.{ShapeTree}
use Rattle.meaning.specs.Spelling.{spell, IsWell, Reads}
use Rattle.meaning.specs.Reading.{Text, shape_of}
use Rattle.std.proofs.lemmas.Option.{same_Some}
use Rattle.form_laws.proofs.Sound.{shape_takes}
use Rattle.form_laws.proofs.Complete.{shape_again}

-- a form is no longer than the text that reads as it
pub no_longer : (t : Text) (s : ShapeTree) → length t ≤ 1320 → shape_of t ≡ Some s → length (spell s) ≤ 1320
no_longer t s short e = rw (shape_takes t s e).spelled short

-- a form that spells the text is what the text reads as
pub reads_again : (t : Text) (s : ShapeTree) → Reads t s → shape_of t ≡ Some s
reads_again t s r = ap shape_of (sym r.spelled) ∙ shape_again s r.well

pub spelled_once : (a b : ShapeTree) → IsWell a → IsWell b → spell a ≡ spell b → a ≡ b
spelled_once a b well_a well_b same = same_Some a b (sym (shape_again a well_a) ∙ ap shape_of same ∙ shape_again b well_b)
