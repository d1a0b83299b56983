-- What is told of a refused source behind the least pair.
use Rattle.std.specs.Prelude.{◌≢◌, ◌↔◌, ℕ, List, Err}
use Rattle.std.specs.List.{Contains}
use Rattle.meaning.specs.declared.refusal.Broken.{Broken}
use Rattle.meaning.specs.Answers.{program_of}
use Rattle.all_breaches.specs.Ordered.{Ascends}
use Rattle.all_breaches.specs.Phases.{broken_pairs}

-- in ascending order the pairs of the phase that refuses it, without the one that is told of it
pub record AreFurther (source : List ℕ) (pairs : List Broken) : Type 0 where
  pub ascending : Ascends pairs
  pub exact : (b : Broken) → Contains pairs b ↔ Contains (broken_pairs source) b
      × (program_of source ≢ Err b)
