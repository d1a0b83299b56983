-- What is read as a program unit nests as it.
use Rattle.std.proofs.Common.{◌≡◌, Bool, true, false, List, [], Option, Some, None, Ok, refl, sym, ap, subst}
use Rattle.std.specs.Prelude.{if◌then◌else◌}
use Rattle.std.specs.List.{list_any}
use Rattle.meaning.specs.declared.refusal.Broken.{Broken}
use Rattle.meaning.specs.declared.refusal.Rule.TheVariants.{N2}
use Rattle.meaning.specs.Refusals.{merge, unless}
use Rattle.meaning.specs.Syntax.{ItemTree}
use Rattle.meaning.specs.Trees.{Nested}
use Rattle.meaning.specs.Nesting.{Unfinished, ended, body, range, branch, start, innermost, is_ended, is_end, effect_of, IsOrdered, NestsAs, behind, first_broken, lacks_end, last_line, missing_end, nest}
use Rattle.nesting_laws.proofs.Names.{not_false}
use Rattle.nesting_laws.proofs.Sound.{IsSound, text}
use Rattle.nesting_laws.proofs.Passed.{behind_sound, behind_text, behind_ended}
use Rattle.nesting_laws.proofs.Ordered.{unbroken_of, in_order_of, ordered_of}

merge_none : (m f : Option Broken) → merge m f ≡ None → (m ≡ None) × (f ≡ None)
merge_none None f h = (refl, h)
merge_none (Some a) f h = absurd cc

unless_ok : (o : Option Broken) (t u : Nested) → unless o t ≡ Ok u → (o ≡ None) × (t ≡ u)
unless_ok None t u h = (refl, cc)
unless_ok (Some b) t u h = absurd cc

-- what read statements give
pub record IsRead (items : List ItemTree) (t : Nested) : Type 0 where
  pub has_end : missing_end items ≡ None
  pub unbroken : first_broken [] start items ≡ None
  pub unit_is : record { body = innermost (behind start items) } ≡ t

pub read_of : (items : List ItemTree) (t : Nested) → nest items ≡ Ok t → IsRead items t
unfolding nest
read_of items t e =
    let u = unless_ok (merge (missing_end items) (first_broken [] start items)) (record { body = innermost (behind start items) }) t e in
    let m = merge_none (missing_end items) (first_broken [] start items) u.0 in
    record { has_end = m.0; unbroken = m.1; unit_is = u.1 }

pub read_is : (items : List ItemTree) (t : Nested) → IsRead items t → nest items ≡ Ok t
unfolding nest
read_is items t r = rw (r.has_end, r.unbroken) (ap (λ (u : Nested). Ok u) r.unit_is)

abbrev pub if_missing : Bool → Broken → Option Broken
if_missing b pair = if b then Some pair else None

if_missing_none : (b : Bool) (pair : Broken) → if_missing b pair ≡ None → b ≡ false
if_missing_none true pair h = absurd cc
if_missing_none false pair h = refl

pub has_end : (items : List ItemTree) → missing_end items ≡ None → list_any (λ (x : ItemTree). is_end (effect_of x.shape)) items ≡ true
unfolding missing_end
has_end items h = not_false (list_any (λ (x : ItemTree). is_end (effect_of x.shape)) items) (if_missing_none (lacks_end items) (record { line = last_line items; rule = N2 }) h)

pub ended_nests : (z : Unfinished) (items : List ItemTree) → is_ended z ≡ true → IsSound z → text z ≡ items → IsOrdered items → NestsAs items (record { body = innermost z })
ended_nests (ended ms) items e h f t = record { well = record { front = h.front; last = h.last; parts = h.parts; well = h.well; closed = h.closed; ordered = subst IsOrdered (sym f) t }; order = f }
ended_nests (body ms) items e h f t = absurd cc
ended_nests (range head s ms around) items e h f t = absurd cc
ended_nests (branch arms head ms around) items e h f t = absurd cc

pub read_nests : (items : List ItemTree) (t : Nested) → nest items ≡ Ok t → NestsAs items t
read_nests items t e =
    let r = read_of items t e in
    let z = behind start items in
    let u = unbroken_of [] start items r.unbroken in
    subst (NestsAs items) r.unit_is
    (ended_nests z items (behind_ended start items tt u (has_end items r.has_end)) (behind_sound start items tt u) (behind_text start items u) (ordered_of items (in_order_of [] start items r.unbroken)))
