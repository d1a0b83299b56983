-- What a board keeps, from call to call.
use Rattle.std.proofs.Common.{◌≡◌, ℕ, zero, suc, ◌+◌, ◌*◌, ◌^◌, ◌<◌, ◌≤◌, ◌↔◌, Bool, true, if◌then◌else◌, inl, inr, List, [], ◌∷◌, ◌++◌, map, length, Option, Some, None, option_map, slice_get, slice_set, replicate, refl, sym, ap, ap₂, ◌∙◌, subst, arith}
use Rattle.std.proofs.lemmas.Bool.{cases_eq}
use Rattle.std.proofs.lemmas.List.{length-set, length-map, length-replicate, map-set}
use Rattle.std.proofs.lemmas.Option.{slice_get_within, slice_get-map}
use Rattle.schedules.specs.declared.event.Ticket.{Ticket}
use Rattle.schedules.specs.declared.event.Event.{Event}
use Rattle.schedules.specs.declared.event.Event.TheVariants.{Claim, Post, Lose}
use Rattle.schedules.specs.declared.place.BlockSlot.{BlockSlot}
use Rattle.schedules.specs.declared.place.BlockSlot.TheVariants.{Open, Posted, Lost}
use Rattle.schedules.specs.Schedules.{unended, first_world, IsIdle, IsOut, ended, Happens, Replays, SettledOnce}
use Rattle.schedules.specs.Boards.{Stage, end_of, world_of, IsScheduled, AreNumbered, first_stage, claimed, with_run, without_run, IsBoard, AreIdle, AreEnded, Claims, LetsGo, LosesNext, given_up}
use Rattle.schedules.proofs.Setting.{get_same, get_other, is_replicated}
use Rattle.schedules.proofs.Histories.{History, history, one_less, replays_more, settled}

ends_first : (T : Type 0) (n : ℕ) → map (end_of {T = T}) (replicate n Open) ≡ replicate n unended
ends_first T zero = refl
ends_first T (suc n) = ap (λ es. unended ∷ es) (ends_first T n)

pub idle_worker : (os : List (Option ℕ)) (k : ℕ) → k < length os → AreIdle os → slice_get os k ≡ Some None
idle_worker [] k lt idle = absurd (omega arith)
idle_worker (None ∷ os) zero lt idle = refl
idle_worker (Some b ∷ os) zero lt idle = absurd (idle zero b refl)
idle_worker (o ∷ os) (suc k) lt idle = idle_worker os k (omega arith) (λ j b. idle (suc j) b)

module _ {T : Type 0} where
  pub board_history : (number : T → ℕ) (many room : ℕ) (s : Stage T) → IsBoard number many room s → History s.events (world_of s)
  board_history number many room s b = history (length s.places) (length s.outs) s.events (world_of s) b.scheduled

  -- there is room for one event more before a block is given out
  pub room_to_claim : (number : T → ℕ) (many room : ℕ) (s : Stage T) → IsBoard number many room s → s.next < length s.places → length s.events < room
  room_to_claim number many room s b left =
      let h = board_history number many room s b in let c = h.count in let r = b.roomy in omega (arith, c, r, left)

  -- and while one is out
  pub room_to_end : (number : T → ℕ) (many room : ℕ) (s : Stage T) (t : Ticket) → IsBoard number many room s → IsOut s.outs t → length s.events < room
  room_to_end number many room s t b out =
      let h = board_history number many room s b in let c = h.count in let r = b.roomy in let u = h.upto in
      let m = length-map s.places end_of in let o = one_less s.outs t.worker t.block out in
      omega (arith, c, r, u, m, o)

  -- a block that is out has a place
  pub place_of_out : (number : T → ℕ) (many room : ℕ) (s : Stage T) (t : Ticket) → IsBoard number many room s → IsOut s.outs t → t.block < length s.places
  place_of_out number many room s t b out =
      let h = board_history number many room s b in let x = (h.held t.worker t.block out).before in let u = h.upto in let m = length-map s.places end_of in
      omega (arith, x, u, m)

  number_set : (number : T → ℕ) (ps : List (BlockSlot T)) (i : ℕ) (r : T) → AreNumbered number ps → number r ≡ i → AreNumbered number (slice_set ps i (Posted r))
  number_set number ps i r are is b q got = elim (cases_eq b i) [
    | inl same ↦
        let w = subst (λ n. b < n) (length-set ps i (Posted r)) (slice_get_within (slice_set ps i (Posted r)) b (Posted q) got) in
        let e : Some (Posted r) ≡ Some (Posted q) = sym (get_same ps i (Posted r) (subst (λ j. j < length ps) same w)) ∙ subst (λ j. slice_get (slice_set ps i (Posted r)) j ≡ Some (Posted q)) same got in
        let f : r ≡ q = cc in
        ap number (sym f) ∙ is ∙ sym same
    | inr not ↦ are b q (sym (get_other ps i (Posted r) b not) ∙ got)
  ]

  number_lost : (number : T → ℕ) (ps : List (BlockSlot T)) (i : ℕ) → AreNumbered number ps → AreNumbered number (slice_set ps i Lost)
  number_lost number ps i are b q got = elim (cases_eq b i) [
    | inl same ↦
        let w = subst (λ n. b < n) (length-set ps i Lost) (slice_get_within (slice_set ps i Lost) b (Posted q) got) in
        let e : Some Lost ≡ Some (Posted q) = sym (get_same ps i Lost (subst (λ j. j < length ps) same w)) ∙ subst (λ j. slice_get (slice_set ps i Lost) j ≡ Some (Posted q)) same got in
        absurd cc
    | inr not ↦ are b q (sym (get_other ps i Lost b not) ∙ got)
  ]

  -- the schedule goes on by an event
  goes_on : (s : Stage T) (e : Event) (n : ℕ) (os : List (Option ℕ)) (ps : List (BlockSlot T)) → IsScheduled s → length ps ≡ length s.places → length os ≡ length s.outs → Happens e (world_of s) (record { next = n; outs = os; ends = map end_of ps }) → IsScheduled (record { next = n; outs = os; places = ps; events = s.events ++ e ∷ [] })
  goes_on s e n os ps scheduled places outs step =
      subst (λ b. Replays (s.events ++ e ∷ []) (first_world b (length os)) (record { next = n; outs = os; ends = map end_of ps })) (sym places)
      (subst (λ k. Replays (s.events ++ e ∷ []) (first_world (length s.places) k) (record { next = n; outs = os; ends = map end_of ps })) (sym outs)
      (replays_more s.events e (first_world (length s.places) (length s.outs)) (world_of s) (record { next = n; outs = os; ends = map end_of ps }) scheduled step))

  none_posted : (number : T → ℕ) (n : ℕ) → AreNumbered number (replicate n Open)
  none_posted number n b r got = absurd (let e = is_replicated n Open b (Posted r) got in cc)

  pub first_board : (number : T → ℕ) (blocks workers room : ℕ) → 0 < workers → blocks < 2 ^ 32 → workers < 2 ^ 32 → 2 * blocks ≤ room → IsBoard number blocks room (first_stage blocks workers)
  first_board number blocks workers room some small few roomy =
      let open_place : BlockSlot T = Open in let nothing : Option ℕ = None in let p = length-replicate blocks open_place in let o = length-replicate workers nothing in record {
        scheduled = ap₂ (λ b k. first_world b k) p o ∙ ap (λ es. record { next = 0; outs = replicate workers None; ends = es }) (sym (ends_first T blocks));
        numbered = none_posted number blocks;
        blocks = p;
        workers = omega (arith, some, o);
        small = omega (arith, small, p);
        few = omega (arith, few, o);
        roomy = omega (arith, roomy, p);
      }

  pub claimed_board : (number : T → ℕ) (many room : ℕ) (s : Stage T) (k : ℕ) → IsBoard number many room s → s.next < length s.places → IsIdle s.outs k → IsBoard number many room (claimed (record { worker = k; block = s.next }) s)
  claimed_board number many room s k b left idle =
      let o = length-set s.outs k (Some s.next) in let m = length-map s.places end_of in record {
        scheduled = goes_on s (Claim (record { worker = k; block = s.next })) (s.next + 1) (slice_set s.outs k (Some s.next)) s.places b.scheduled refl o (refl, omega (arith, left, m), idle, refl);
        numbered = b.numbered;
        blocks = b.blocks;
        workers = let w = b.workers in omega (arith, w, o);
        small = b.small;
        few = let f = b.few in omega (arith, f, o);
        roomy = b.roomy;
      }

  pub posted_board : (number : T → ℕ) (many room : ℕ) (s : Stage T) (t : Ticket) (r : T) → IsBoard number many room s → IsOut s.outs t → number r ≡ t.block → IsBoard number many room (with_run t r s)
  posted_board number many room s t r b out is =
      let o = length-set s.outs t.worker None in let p = length-set s.places t.block (Posted r) in record {
        scheduled = goes_on s (Post t) s.next (slice_set s.outs t.worker None) (slice_set s.places t.block (Posted r)) b.scheduled p o (out, ap (λ es. record { next = s.next; outs = slice_set s.outs t.worker None; ends = es }) (map-set end_of s.places t.block (Posted r)));
        numbered = number_set number s.places t.block r b.numbered is;
        blocks = p ∙ b.blocks;
        workers = let w = b.workers in omega (arith, w, o);
        small = let q = b.small in omega (arith, q, p);
        few = let f = b.few in omega (arith, f, o);
        roomy = let q = b.roomy in omega (arith, q, p);
      }

  pub lost_board : (number : T → ℕ) (many room : ℕ) (s : Stage T) (t : Ticket) → IsBoard number many room s → IsOut s.outs t → IsBoard number many room (without_run t s)
  lost_board number many room s t b out =
      let o = length-set s.outs t.worker None in let p = length-set s.places t.block Lost in record {
        scheduled = goes_on s (Lose t) s.next (slice_set s.outs t.worker None) (slice_set s.places t.block Lost) b.scheduled p o (out, ap (λ es. record { next = s.next; outs = slice_set s.outs t.worker None; ends = es }) (map-set end_of s.places t.block Lost));
        numbered = number_lost number s.places t.block b.numbered;
        blocks = p ∙ b.blocks;
        workers = let w = b.workers in omega (arith, w, o);
        small = let q = b.small in omega (arith, q, p);
        few = let f = b.few in omega (arith, f, o);
        roomy = let q = b.roomy in omega (arith, q, p);
      }

  -- more room is room enough
  pub roomier : (number : T → ℕ) (many room more : ℕ) (s : Stage T) → room ≤ more → IsBoard number many room s → IsBoard number many more s
  roomier number many room more s le b = record {
    scheduled = b.scheduled;
    numbered = b.numbered;
    blocks = b.blocks;
    workers = b.workers;
    small = b.small;
    few = b.few;
    roomy = let r = b.roomy in omega (arith, r, le);
  }

  -- ---- giving up what is left

  given_up_set : (ps : List (BlockSlot T)) (b : ℕ) → slice_get ps b ≡ Some Open → map given_up (slice_set ps b Lost) ≡ map given_up ps
  given_up_set [] b h = refl
  given_up_set (p ∷ ps) zero h = let same : p ≡ Open = cc in sym (ap (λ q. given_up q ∷ map given_up ps) same)
  given_up_set (p ∷ ps) (suc b) h = ap (λ qs. given_up p ∷ qs) (given_up_set ps b h)

  open_is : (p : BlockSlot T) → end_of p ≡ unended → p ≡ Open
  open_is Open h = refl
  open_is (Posted r) h = absurd cc
  open_is Lost h = absurd cc

  unended_open : (ps : List (BlockSlot T)) (b : ℕ) → slice_get (map end_of ps) b ≡ Some unended → slice_get ps b ≡ Some Open
  unended_open [] b h = absurd cc
  unended_open (p ∷ ps) zero h = ap Some (open_is p cc)
  unended_open (p ∷ ps) (suc b) h = unended_open ps b h

  ended_same : (ps : List (BlockSlot T)) → AreEnded ps → map given_up ps ≡ ps
  ended_same [] h = refl
  ended_same (Open ∷ ps) h = absurd (h zero refl)
  ended_same (Posted r ∷ ps) h = ap (λ qs. Posted r ∷ qs) (ended_same ps (λ b. h (suc b)))
  ended_same (Lost ∷ ps) h = ap (λ qs. Lost ∷ qs) (ended_same ps (λ b. h (suc b)))

  -- the worker has nothing out
  pub lets_nothing : (s : Stage T) (k : ℕ) → ((b : ℕ) → slice_get s.outs k ≡ Some (Some b) → ⊥) → LetsGo s k s
  lets_nothing s k none = record { idle = none; others = λ j h. refl; workers = refl; places = refl }

  pub lets_go : (number : T → ℕ) (many room : ℕ) (s : Stage T) (k b : ℕ) → IsBoard number many room s → slice_get s.outs k ≡ Some (Some b) → LetsGo s k (without_run (record { worker = k; block = b }) s)
  lets_go number many room s k b is out =
      let h = board_history number many room s is in
      let freed = get_same s.outs k None (slice_get_within s.outs k (Some b) out) in
      record {
        idle = λ c got. absurd (let e : Some None ≡ Some (Some c) = sym freed ∙ got in cc);
        others = λ j apart. get_other s.outs k None j apart;
        workers = length-set s.outs k None;
        places = given_up_set s.places b (unended_open s.places b (h.held k b out).open_yet);
      }

  -- all were given out
  pub loses_none : (s : Stage T) → length s.places ≤ s.next → AreIdle s.outs → LosesNext s s
  loses_none s all idle = record { idle = idle; next = λ lt. absurd (omega (arith, lt, all)); all = λ le. refl; places = refl }

  pub loses_next : (number : T → ℕ) (many room : ℕ) (s : Stage T) → IsBoard number many room s → s.next < length s.places → AreIdle s.outs → LosesNext s (without_run (record { worker = 0; block = s.next }) (claimed (record { worker = 0; block = s.next }) s))
  loses_next number many room s is left idle =
      let h = board_history number many room s is in let m = length-map s.places end_of in
      let some = is.workers in
      let l = length-set s.outs 0 (Some s.next) in
      let freed = get_same (slice_set s.outs 0 (Some s.next)) 0 None (omega (arith, some, l)) in
      record {
        idle = λ k b got. elim (cases_eq k 0) [
          | inl same ↦ absurd (let e : Some None ≡ Some (Some b) = sym freed ∙ subst (λ i. slice_get (slice_set (slice_set s.outs 0 (Some s.next)) 0 None) i ≡ Some (Some b)) same got in cc)
          | inr not ↦ idle k b (sym (get_other s.outs 0 (Some s.next) k not) ∙ sym (get_other (slice_set s.outs 0 (Some s.next)) 0 None k not) ∙ got)
        ];
        next = λ lt. refl;
        all = λ le. absurd (omega (arith, le, left));
        places = given_up_set s.places s.next (unended_open s.places s.next (h.waits s.next (omega arith) (omega (arith, left, m))));
      }

  -- ---- a settled board

  open_unended : (ps : List (BlockSlot T)) (b : ℕ) → slice_get ps b ≡ Some Open → slice_get (map end_of ps) b ≡ Some unended
  open_unended ps b h = slice_get-map end_of ps b ∙ ap (option_map end_of) h

  pub settled_once : (number : T → ℕ) (many room : ℕ) (s : Stage T) → IsBoard number many room s → length s.places ≤ s.next → AreIdle s.outs → SettledOnce many s.events
  settled_once number many room s is all idle =
      let m = length-map s.places end_of in
      subst (λ n. SettledOnce n s.events) (m ∙ is.blocks) (settled s.events (world_of s) (board_history number many room s is) (omega (arith, m, all)) idle)

  pub all_ended : (number : T → ℕ) (many room : ℕ) (s : Stage T) → IsBoard number many room s → length s.places ≤ s.next → AreIdle s.outs → AreEnded s.places
  all_ended number many room s is all idle b got =
      let h = board_history number many room s is in let w = slice_get_within s.places b Open got in
      elim (h.given b (omega (arith, w, all))) [
        | inl out ↦ idle out.0 b out.1
        | inr back ↦ back.over (open_unended s.places b got)
      ]

  -- nothing was left open
  pub all_given_up : (ps old : List (BlockSlot T)) → AreEnded ps → map given_up ps ≡ map given_up old → ps ≡ map given_up old
  all_given_up ps old ended same = sym (ended_same ps ended) ∙ same

  pub loses_claimed : (number : T → ℕ) (many room : ℕ) (s mid new : Stage T) (t : Ticket) (r : Bool) → IsBoard number many room s → AreIdle s.outs → Claims s 0 (Some t) mid → ((r ≡ true) ↔ IsOut mid.outs t) → new ≡ (if r then without_run t mid else mid) → LosesNext s new
  loses_claimed number many room s mid new t r is idle claim told gone =
      let same : t ≡ record { worker = 0; block = s.next } = claim.1 in
      let some = is.workers in
      let first = ap (λ u. u.worker) same in
      let out : IsOut (claimed t s).outs t = get_same s.outs t.worker (Some t.block) (omega (arith, some, first)) in
      let yes : r ≡ true = told.1 (subst (λ m. IsOut m.outs t) (sym claim.2) out) in
      subst (λ n. LosesNext s n) (sym (gone ∙ ap (λ b. if b then without_run t mid else mid) yes ∙ ap (λ m. without_run t m) claim.2 ∙ ap (λ u. without_run u (claimed u s)) same)) (loses_next number many room s is claim.0 idle)
