-- The run of a block on a view of its own is faithful.
use Rattle.std.proofs.Common.{◌≡◌, ℕ, ◌<◌, ◌≤◌, ℤ, false, unwrap_or, sym, ap, ◌∙◌, subst}
use Rattle.std.proofs.Math.Path.{fun_ext}
use Rattle.std.specs.Ordering.{nat_cmp}
use Rattle.std.specs.FinMap as map
use Rattle.meaning.specs.declared.ending.Run.{Run}
use Rattle.meaning.specs.Execution.{Ran}
use Rattle.meaning.specs.Maps.{Map}
use Rattle.meaning.specs.Stores.{Cells, overlay}
use Rattle.meaning.proofs.Stores.{does_then}
use Rattle.storage.specs.Checked.{items_in}
use Rattle.values.specs.Programs.{map_at}
use Rattle.private_view.specs.Views.{Seen, new_view, world_seen}
use Rattle.evaluator.specs.Over.{RunsOver, SetsOver, repeated_as, trips_as}
use Rattle.evaluator.specs.Statements.{ran_by}
use Rattle.block_stage.specs.Jobs.{JobParts, data_of, variable_in, start_of, count_of}
use Rattle.block_stage.specs.Faithful.{IsFaithful, IsUnwritten}

-- nothing was written
overlay-empty : (m : Cells) → overlay m (map.get {X = ℤ} {R = nat_cmp} map.empty) ≡ m
unfolding overlay
overlay-empty m = fun_ext (λ c. ap (λ o. unwrap_or o (m c)) (map.get-empty nat_cmp c))

module _ (j : JobParts) (s : Seen) (r : Run) (first step : ℤ) (trips : ℕ) where
  -- the trips of a block, whose variable has its first value
  abbrev rest : Map → ℕ → Ran
  rest m t = repeated_as (items_in j.program) j.repeated first step trips m t

  abbrev pub Done : Seen → Seen → Type 0
  Done before after = RunsOver j.program (world_seen before) (world_seen after) rest j.turns_left r

  abbrev pub Runs : Seen → Seen → Type 0
  Runs before after = RunsOver j.program (world_seen before) (world_seen after) (trips_as (items_in j.program) j.repeated (variable_in j.repeated) first step trips) j.turns_left r

  abbrev pub Set : Seen → Seen → Type 0
  Set before after = SetsOver j.program (world_seen before) (world_seen after) (variable_in j.repeated) first

  -- the variable is set, and then the trips are run
  both : (before between : Seen) → Set before between → Runs between s → Done before s
  both before between sets does =
      does_then (world_seen before) (world_seen between) (world_seen s) _ _ _ sets does (λ m k n e x. ap (λ q. trips_as (items_in j.program) j.repeated (variable_in j.repeated) first step trips q j.turns_left) (sym e) ∙ x)

  module _ (before between : Seen) (fresh : IsUnwritten j.base before) (sets : Set before between) (does : Runs between s) (kept : s.lost ≡ false) where
    done : Done (record (new_view j.base) { exposed = before.exposed }) s
    done = subst (λ t. Done t s) fresh (both before between sets does)

    pub faithful : (i : ℕ) → i < j.blocks → first ≡ start_of (data_of j) i → step ≡ j.step → trips ≡ count_of (data_of j) i → r.turns_used ≤ j.turns_left → IsFaithful (data_of j) (record { index = i; outcome = r.outcome; used = r.turns_used; seen = s })
    faithful i below first_is step_is trips_are within =
        record {
          below = below;
          cells = done.grows.cells;
          kept = kept;
          within = within;
          gives = λ m same. sym (λ k. repeated_as (items_in j.program) j.repeated (first_is k) (step_is k) (trips_are k) (map_at j.program m) j.turns_left) ∙ subst (λ q. rest (map_at j.program q) j.turns_left ≡ ran_by r (map_at j.program (overlay m (map.get s.written)))) (overlay-empty m) (done.means kept m (λ c shown. same c shown ∙ sym (ap (λ f. f c) done.grows.base)));
        }
