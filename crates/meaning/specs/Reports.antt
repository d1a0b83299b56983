-- What a refusal of the code says of a definition: a broken pair is the definition's, and want of
-- memory says nothing.
use Rattle.std.specs.Prelude.{◌≡◌, Result, Ok, Err}
use Rattle.meaning.specs.declared.refusal.Broken.{Broken}
use Rattle.meaning.specs.declared.refusal.Refusal.{Refusal}
use Rattle.meaning.specs.declared.refusal.Refusal.TheVariants as refusals

abbrev pub Tells : {A : Type 0} → Result A Broken → Refusal → Type 0
Tells read refusals.Memory = Unit {0}
Tells read (refusals.Rule rule line) = read ≡ Err (record { line = line; rule = rule })

-- what the code answers, seen by view, is what the definition says, unless memory was refused
abbrev pub Gives : {X A : Type 0} → (X → A) → Result X Refusal → Result A Broken → Type 0
Gives view (Ok x) read = read ≡ Ok (view x)
Gives view (Err e) read = Tells read e
