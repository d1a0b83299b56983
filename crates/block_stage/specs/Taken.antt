-- What the blocks of a stage wrote, without the values that they stood on (own; after Rauchwerger
-- and Padua).
use Rattle.std.specs.Prelude.{◌≡◌, ℕ, List, [], ◌∷◌, length, slice_get, Some, None, refl}
use Rattle.std.specs.Coded.{Coded, code_by, coded×, coded_list, coded_ℕ}
use Rattle.std.specs.FinMap as map
use Rattle.meaning.specs.declared.ending.Outcome.{Outcome}
use Rattle.meaning.specs.contracts.ending.Outcome as outcomes
use Rattle.meaning.specs.Stores.{Cells, overlay}
use Rattle.private_view.specs.Views.{Wrote, coded_wrote}
use Rattle.block_stage.specs.Faithful.{RunData}
use Rattle.block_stage.specs.Cuts.{Places}

abbrev pub wrote_by : RunData → Wrote
wrote_by r = record { cells = length r.seen.base; written = r.seen.written }

-- what the blocks that have a run wrote, in their order
abbrev pub wrote_in : Places → List Wrote
wrote_in [] = []
wrote_in (None ∷ ps) = wrote_in ps
wrote_in (Some r ∷ ps) = wrote_by r ∷ wrote_in ps

-- what was written put in, one behind the other
abbrev pub overlay_each : Cells → List Wrote → Cells
overlay_each m [] = m
overlay_each m (w ∷ ws) = overlay_each (overlay m (map.get w.written)) ws

-- each was written over so many cells
abbrev pub AreSized : ℕ → List Wrote → Type 0
AreSized n ws = (i : ℕ) (w : Wrote) → slice_get ws i ≡ Some w → w.cells ≡ n

-- what is taken of a stage: over how many cells, how the blocks before the cut ended and the turns
-- that they used, and what each wrote
pub record TakenParts : Type 0 where
  pub cells : ℕ
  pub outcome : Outcome
  pub used : ℕ
  pub written : List Wrote

abbrev pub coded_taken : Coded TakenParts
coded_taken =
    code_by (ℕ × (Outcome × (ℕ × List Wrote)))
    (coded× coded_ℕ
    (coded× outcomes.the_row.coded (coded× coded_ℕ (coded_list coded_wrote)))) (λ t.
    (t.cells, (t.outcome, (t.used, t.written)))) (λ p. record {
      cells = p.0;
      outcome =
          p.1.0;
      used = p.1.1.0;
      written = p.1.1.1;
    }) (λ _. refl)
