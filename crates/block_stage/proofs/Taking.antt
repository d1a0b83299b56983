-- What blocks wrote, taken in their order.
use Rattle.std.proofs.Common.{◌≡◌, ℕ, zero, suc, ◌+◌, ◌<◌, ◌≤◌, false, List, [], ◌∷◌, ◌++◌, length, take, Option, Some, None, slice_get, get_or, refl, sym, ap, ◌∙◌, arith}
use Rattle.std.specs.FinMap as map
use Rattle.std.proofs.lemmas.List.{take_more}
use Rattle.std.proofs.lemmas.Option.{get_or_from_slice_get, slice_get_within}
use Rattle.meaning.specs.Stores.{Cells, overlay}
use Rattle.private_view.specs.Views.{Wrote}
use Rattle.block_stage.specs.Jobs.{JobData}
use Rattle.block_stage.specs.Faithful.{RunData}
use Rattle.block_stage.specs.Cuts.{Places, overlay_all, stops}
use Rattle.block_stage.specs.Stages.{AreRunsOf}
use Rattle.block_stage.specs.Taken.{AreSized, overlay_each, wrote_by, wrote_in}
use Rattle.block_stage.proofs.Commits.{run_here}

-- a missing block writes nothing
pub each_is_all : (m : Cells) (ps : Places) → overlay_each m (wrote_in ps) ≡ overlay_all m ps
each_is_all m [] = refl
each_is_all m (None ∷ ps) = each_is_all m ps
each_is_all m (Some r ∷ ps) = each_is_all (overlay m (map.get r.seen.written)) ps

one_wrote_more : (ps : Places) (p : Option RunData) → wrote_in (ps ++ p ∷ []) ≡ wrote_in ps ++ wrote_in (p ∷ [])
one_wrote_more [] p = refl
one_wrote_more (None ∷ ps) p = one_wrote_more ps p
one_wrote_more (Some r ∷ ps) p = ap (λ ws. wrote_by r ∷ ws) (one_wrote_more ps p)

-- the first so many blocks have a run
abbrev pub HaveRuns : Places → ℕ → Type 0
HaveRuns ps c = (j : ℕ) → j < c → (r : RunData) × (slice_get ps j ≡ Some (Some r))

pub have_runs : (t : ℕ) (ps : Places) (c : ℕ) → ((p : ℕ) → p < c → stops t ps p ≡ false) → HaveRuns ps c
have_runs t ps c least j lt = run_here t ps j (least j lt)

behind : (p : Option RunData) (ps : Places) (c : ℕ) → HaveRuns (p ∷ ps) (suc c) → HaveRuns ps c
behind p ps c h j lt = h (suc j) (omega arith)

pub first_wrote : (c : ℕ) (ps : Places) → HaveRuns ps c → take c (wrote_in ps) ≡ wrote_in (take c ps)
first_wrote zero ps h = refl
first_wrote (suc c) [] h = refl
first_wrote (suc c) (None ∷ ps) h = let e = (h 0 (omega arith)).1 in absurd cc
first_wrote (suc c) (Some r ∷ ps) h = ap (λ ws. wrote_by r ∷ ws) (first_wrote c ps (behind (Some r) ps c h))

pub as_many : (c : ℕ) (ps : Places) → HaveRuns ps c → c ≤ length (wrote_in ps)
as_many zero ps h = omega arith
as_many (suc c) [] h = let e = (h 0 (omega arith)).1 in absurd cc
as_many (suc c) (None ∷ ps) h = let e = (h 0 (omega arith)).1 in absurd cc
as_many (suc c) (Some r ∷ ps) h = let e = as_many c ps (behind (Some r) ps c h) in omega arith

same_wrote : (w v : Wrote) → Some w ≡ Some v → w ≡ v
same_wrote w v e = cc

-- each stands on as many cells as the base has
pub all_sized : (n : ℕ) (ps : Places) → ((i : ℕ) (r : RunData) → slice_get ps i ≡ Some (Some r) → length r.seen.base ≡ n) → AreSized n (wrote_in ps)
all_sized n [] h i w at = absurd cc
all_sized n (None ∷ ps) h i w at = all_sized n ps (λ j r here. h (suc j) r here) i w at
all_sized n (Some r ∷ ps) h zero w at = ap (λ (v : Wrote). v.cells) (sym (same_wrote (wrote_by r) w at)) ∙ h 0 r refl
all_sized n (Some r ∷ ps) h (suc i) w at = all_sized n ps (λ j s here. h (suc j) s here) i w at

pub runs_sized : (d : JobData) (ps : Places) → AreRunsOf d ps → AreSized (length d.base) (wrote_in ps)
runs_sized d ps runs = all_sized (length d.base) ps (λ i r at. (runs i r at).1.cells)

-- ---- one behind the other

each_append : (m : Cells) (ws vs : List Wrote) → overlay_each m (ws ++ vs) ≡ overlay_each (overlay_each m ws) vs
each_append m [] vs = refl
each_append m (w ∷ ws) vs = each_append (overlay m (map.get w.written)) ws vs

each_more : (m : Cells) (ws : List Wrote) (w : Wrote) → overlay_each m (ws ++ w ∷ []) ≡ overlay (overlay_each m ws) (map.get w.written)
each_more m ws w = each_append m ws (w ∷ [])

-- what one block more wrote, as a loop reads it
pub one_put_more : (m : Cells) (ws : List Wrote) (i : ℕ) (w : Wrote) → i < length ws → w ≡ get_or ws i w → overlay_each m (take (i + 1) ws) ≡ overlay (overlay_each m (take i ws)) (map.get w.written)
one_put_more m ws i w lt is =
    ap (λ (xs : List Wrote). overlay_each m xs) (take_more ws i w lt ∙ ap (λ (x : Wrote). take i ws ++ x ∷ []) (sym is)) ∙ each_more m (take i ws) w

-- a place more, as a loop reads it
pub wrote_more : (ps : Places) (i : ℕ) (p : Option RunData) → slice_get ps i ≡ Some p → wrote_in (take (i + 1) ps) ≡ wrote_in (take i ps) ++ wrote_in (p ∷ [])
wrote_more ps i p at =
    ap wrote_in (take_more ps i p (slice_get_within ps i p at) ∙ ap (λ (x : Option RunData). take i ps ++ x ∷ []) (get_or_from_slice_get ps i p p at)) ∙ one_wrote_more (take i ps) p
