-- What a board hands on.
use Rattle.std.proofs.Common.{◌≡◌, ◌↔◌, ℕ, zero, suc, ◌+◌, ◌<◌, ◌≤◌, IfSome, List, [], ◌∷◌, ◌++◌, length, map, take, length-take, Option, Some, None, slice_get, refl, sym, ap, ◌∙◌, subst, arith}
use Rattle.std.proofs.lemmas.List.{take_more, length-map}
use Rattle.std.proofs.lemmas.Option.{slice_get_within, get_or_from_slice_get}
use Rattle.schedules.specs.declared.place.BlockSlot.{BlockSlot}
use Rattle.schedules.specs.declared.place.BlockSlot.TheVariants.{Open, Posted, Lost}
use Rattle.schedules.specs.declared.event.Event.{Event}
use Rattle.schedules.specs.Schedules.{posted, first_world, Replays}
use Rattle.schedules.specs.Boards.{Stage, end_of, world_of, IsScheduled, AreNumbered}
use Rattle.block_stage.specs.Jobs.{JobData}
use Rattle.block_stage.specs.Faithful.{RunData, IsFaithful}
use Rattle.block_stage.specs.Cuts.{Places}
use Rattle.block_stage.specs.Stages.{HasRun, LeadTo, run_in, block_in}

map_push : {A B : Type 0} (f : A → B) (xs : List A) (x : A) → map f (xs ++ x ∷ []) ≡ map f xs ++ f x ∷ []
map_push f [] x = refl
map_push f (y ∷ ys) x = ap (λ zs. f y ∷ zs) (map_push f ys x)

take_get : {A : Type 0} (xs : List A) (i : ℕ) (x : A) → slice_get xs i ≡ Some x → take (i + 1) xs ≡ take i xs ++ x ∷ []
take_get xs i x at =
    take_more xs i x (slice_get_within xs i x at) ∙ ap (λ y. take i xs ++ y ∷ []) (get_or_from_slice_get xs i x x at)

-- one run more
pub one_run_more : (places : List (BlockSlot RunData)) (i : ℕ) (p : BlockSlot RunData) (runs : List (Option RunData)) (r : Option RunData) → slice_get places i ≡ Some p → r ≡ run_in p → runs ≡ map run_in (take i places) → runs ++ r ∷ [] ≡ map run_in (take (i + 1) places)
one_run_more places i p runs r at is so_far =
    (λ k. so_far k ++ is k ∷ []) ∙ sym (map_push run_in (take i places) p) ∙ sym (ap (map run_in) (take_get places i p at))

some_place : {A : Type 0} (xs : List A) (i : ℕ) → i < length xs → (x : A) × (slice_get xs i ≡ Some x)
some_place [] i lt = absurd (omega arith)
some_place (x ∷ xs) zero lt = (x, refl)
some_place (x ∷ xs) (suc i) lt = some_place xs i (omega arith)

pub place_there : (places : List (BlockSlot RunData)) (i : ℕ) → i < length places → (p : BlockSlot RunData) × (slice_get places i ≡ Some p)
place_there places i lt = some_place places i lt

-- the run of a block is of that block
pub numbered_run : (places : List (BlockSlot RunData)) → AreNumbered block_in places → (i : ℕ) (p : BlockSlot RunData) (s : RunData) → slice_get places i ≡ Some p → run_in p ≡ Some s → s.index ≡ i
numbered_run places numbered i Open s at is = absurd cc
numbered_run places numbered i (Posted r) s at is = ap block_in (let e : s ≡ r = cc in e) ∙ numbered i r at
numbered_run places numbered i Lost s at is = absurd cc

pub both : (o : Option RunData) (d : JobData) (n : ℕ) → IfSome o (IsFaithful d) → ((s : RunData) → o ≡ Some s → s.index ≡ n) → IfSome o (λ r. (r.index ≡ n) × IsFaithful d r)
both None d n f h = tt
both (Some r) d n f h = (h r refl, f)

pub length_runs : (places : List (BlockSlot RunData)) (i : ℕ) (runs : List (Option RunData)) → i ≤ length places → runs ≡ map run_in (take i places) → length runs ≡ i
length_runs places i runs le is =
    ap length is ∙ length-map (take i places) run_in ∙ (let e = length-take i places in omega arith)

-- there is a run of the blocks that stand as posted
run_of_posted : (places : List (BlockSlot RunData)) (block : ℕ) → HasRun (map run_in places) block ↔ (slice_get (map end_of places) block ≡ Some posted)
run_of_posted [] block = (λ h. absurd cc, λ h. absurd cc)
run_of_posted (Open ∷ ps) zero = (λ h. absurd cc, λ h. absurd cc)
run_of_posted (Posted r ∷ ps) zero = (λ h. refl, λ h. refl)
run_of_posted (Lost ∷ ps) zero = (λ h. absurd cc, λ h. absurd cc)
run_of_posted (p ∷ ps) (suc block) = run_of_posted ps block

leads : (s : Stage RunData) → IsScheduled s → LeadTo s.events (map run_in s.places)
leads s scheduled = record {
  workers = length s.outs;
  last = world_of s;
  replayed = subst (λ n. Replays s.events (first_world n (length s.outs)) (world_of s)) (sym (length-map s.places run_in)) scheduled;
  runs = run_of_posted s.places;
}

-- what happened on a board leads to the runs that it hands on
pub leads_on : (s : Stage RunData) (events : List Event) (places : List (BlockSlot RunData)) (runs : Places) → IsScheduled s → events ≡ s.events → places ≡ s.places → runs ≡ map run_in places → LeadTo events runs
leads_on s events places runs scheduled happened has are =
    subst (λ es. LeadTo es runs) (sym happened) (subst (LeadTo s.events) (sym (are ∙ ap (map run_in) has)) (leads s scheduled))
