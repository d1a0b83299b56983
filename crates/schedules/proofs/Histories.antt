-- What a schedule tells of each block, and of how many events there are.
use Rattle.std.proofs.Common.{◌≡◌, ℕ, zero, suc, ◌+◌, ◌*◌, ◌<◌, ◌≤◌, ◌⊎◌, inl, inr, cond, eqb, List, [], ◌∷◌, ◌++◌, length, Option, Some, None, slice_get, slice_set, replicate, refl, sym, ap, ◌∙◌, subst, arith}
use Rattle.std.proofs.lemmas.Bool.{cases_eq, eq-eqb, ne_eqb}
use Rattle.std.proofs.lemmas.List.{length-set, append-nil, append_assoc, length-append, length-replicate}
use Rattle.std.proofs.lemmas.List.Elements.{filter-append}
use Rattle.std.proofs.lemmas.Option.{slice_get_within}
use Rattle.schedules.specs.declared.event.Ticket.{Ticket}
use Rattle.schedules.specs.declared.event.Event.{Event}
use Rattle.schedules.specs.declared.event.Event.TheVariants.{Claim, Post, Lose}
use Rattle.schedules.specs.Schedules.{End, unended, posted, lost, World, first_world, ended, Happens, Replays, block_of, events_of, IsOnce, SettledOnce, ticket}
use Rattle.schedules.proofs.Setting.{get_same, get_other, get_replicated, is_replicated}

-- ---- how many workers have something out

abbrev pub is_one : {X : Type 0} → Option X → ℕ
is_one None = 0
is_one (Some x) = 1

abbrev pub count_out : List (Option ℕ) → ℕ
count_out [] = 0
count_out (o ∷ os) = is_one o + count_out os

none_out : (n : ℕ) → count_out (replicate n None) ≡ 0
none_out zero = refl
none_out (suc n) = let r = none_out n in omega (arith, r)

one_more : (os : List (Option ℕ)) (k b : ℕ) → slice_get os k ≡ Some None → count_out (slice_set os k (Some b)) ≡ count_out os + 1
one_more [] k b h = absurd cc
one_more (None ∷ os) zero b h = omega arith
one_more (Some a ∷ os) zero b h = absurd cc
one_more (o ∷ os) (suc k) b h = let r = one_more os k b h in omega (arith, r)

pub one_less : (os : List (Option ℕ)) (k b : ℕ) → slice_get os k ≡ Some (Some b) → count_out os ≡ count_out (slice_set os k None) + 1
one_less [] k b h = absurd cc
one_less (None ∷ os) zero b h = absurd cc
one_less (Some a ∷ os) zero b h = omega arith
one_less (o ∷ os) (suc k) b h = let r = one_less os k b h in omega (arith, r)

-- ---- what happened to a block, with one more event

pub with_other : (b : ℕ) (done : List Event) (e : Event) → (block_of e ≡ b → ⊥) → events_of b (done ++ e ∷ []) ≡ events_of b done
with_other b done e h =
    filter-append (λ e. eqb (block_of e) b) done (e ∷ []) ∙ ap (λ t. events_of b done ++ cond t (e ∷ []) []) (ne_eqb (block_of e) b h) ∙ append-nil (events_of b done)

pub with_own : (b : ℕ) (done : List Event) (e : Event) → block_of e ≡ b → events_of b (done ++ e ∷ []) ≡ events_of b done ++ e ∷ []
with_own b done e h =
    filter-append (λ e. eqb (block_of e) b) done (e ∷ []) ∙ ap (λ t. events_of b done ++ cond t (e ∷ []) []) (eq-eqb (block_of e) b h)

-- ---- what a history tells

pub record Held (done : List Event) (w : World) (k b : ℕ) : Type 0 where
  pub before : b < w.next
  pub open_yet : slice_get w.ends b ≡ Some unended
  pub only : events_of b done ≡ Claim (ticket k b) ∷ []

-- it came back
pub record IsBack (done : List Event) (w : World) (b : ℕ) : Type 0 where
  pub once : IsOnce b done
  pub over : slice_get w.ends b ≡ Some unended → ⊥

pub record History (done : List Event) (w : World) : Type 0 where
  pub upto : w.next ≤ length w.ends
  pub count : length done + count_out w.outs ≡ 2 * w.next
  pub later : (b : ℕ) → w.next ≤ b → events_of b done ≡ []
  pub waits : (b : ℕ) → w.next ≤ b → b < length w.ends → slice_get w.ends b ≡ Some unended
  pub held : (k b : ℕ) → slice_get w.outs k ≡ Some (Some b) → Held done w k b
  pub given : (b : ℕ) → b < w.next → ((k : ℕ) × (slice_get w.outs k ≡ Some (Some b))) ⊎ IsBack done w b

pub first_history : (blocks workers : ℕ) → History [] (first_world blocks workers)
first_history blocks workers = record {
  upto = omega arith;
  count = let r = none_out workers in omega (arith, r);
  later = λ b h. refl;
  waits = λ b h lt. get_replicated blocks unended b (subst (λ n. b < n) (length-replicate blocks unended) lt);
  held = λ k b h. absurd (let e = is_replicated workers None k (Some b) h in cc);
  given = λ b h. absurd (omega arith);
}

-- an event of another block changes nothing for a block that came back
back_other : (done : List Event) (w v : World) (e : Event) (b : ℕ) → (block_of e ≡ b → ⊥) → slice_get v.ends b ≡ slice_get w.ends b → IsBack done w b → IsBack (done ++ e ∷ []) v b
back_other done w v e b h same back = record {
  once = let (k, way) = back.once in (k, subst (λ es. (es ≡ Claim (ticket k b) ∷ Post (ticket k b) ∷ []) ⊎ (es ≡ Claim (ticket k b) ∷ Lose (ticket k b) ∷ [])) (sym (with_other b done e h)) way);
  over = λ o. back.over (sym same ∙ o);
}

some_is : {X : Type 0} {x y : X} → Some x ≡ Some y → x ≡ y
some_is h = cc

none_isnt : {X : Type 0} {x : X} → (Some None ≡ Some (Some x)) → ⊥
none_isnt h = absurd cc

-- ---- with one more claim

abbrev pub given_out : ℕ → World → World
given_out k w = record { next = w.next + 1; outs = slice_set w.outs k (Some w.next); ends = w.ends }

module _ (done : List Event) (w : World) (k : ℕ) (h : History done w) (left : w.next < length w.ends) (idle : slice_get w.outs k ≡ Some None) where
  abbrev pub now : List Event
  now = done ++ Claim (ticket k w.next) ∷ []

  own : slice_get (slice_set w.outs k (Some w.next)) k ≡ Some (Some w.next)
  own = get_same w.outs k (Some w.next) (slice_get_within w.outs k None idle)

  claim_held : (j b : ℕ) → slice_get (slice_set w.outs k (Some w.next)) j ≡ Some (Some b) → Held now (given_out k w) j b
  claim_held j b out = elim (cases_eq j k) [
    | inl same ↦
        let is : w.next ≡ b = some_is (some_is (sym own ∙ subst (λ i. slice_get (slice_set w.outs k (Some w.next)) i ≡ Some (Some b)) same out)) in
        subst (λ i. Held now (given_out k w) i b) (sym same) (subst (λ c. Held now (given_out k w) k c) is (record {
          before = omega arith;
          open_yet = h.waits w.next (omega arith) left;
          only = with_own w.next done (Claim (ticket k w.next)) refl ∙ ap (λ es. es ++ Claim (ticket k w.next) ∷ []) (h.later w.next (omega arith));
        }))
    | inr not ↦
        let old = h.held j b (sym (get_other w.outs k (Some w.next) j not) ∙ out) in
        let less = old.before in
        record {
          before = omega (arith, less);
          open_yet = old.open_yet;
          only = with_other b done (Claim (ticket k w.next)) (λ e. omega (arith, e, less)) ∙ old.only;
        }
  ]

  claim_given : (b : ℕ) → b < w.next + 1 → ((j : ℕ) × (slice_get (slice_set w.outs k (Some w.next)) j ≡ Some (Some b))) ⊎ IsBack now (given_out k w) b
  claim_given b lt = elim (cases_eq b w.next) [
    | inl same ↦ inl (k, subst (λ c. slice_get (slice_set w.outs k (Some w.next)) k ≡ Some (Some c)) (sym same) own)
    | inr not ↦ elim (h.given b (omega (arith, not, lt))) [
      | inl out ↦ inl (out.0, get_other w.outs k (Some w.next) out.0 (λ e. none_isnt (sym idle ∙ subst (λ i. slice_get w.outs i ≡ Some (Some b)) e out.1)) ∙ out.1)
      | inr back ↦ inr (back_other done w (given_out k w) (Claim (ticket k w.next)) b (λ e. not (sym e)) refl back)
    ]
  ]

  pub claim_history : History now (given_out k w)
  claim_history = record {
    upto = omega (arith, left);
    count = let c = h.count in let m = one_more w.outs k w.next idle in let l = length-append done (Claim (ticket k w.next) ∷ []) in omega (arith, c, m, l);
    later = λ b lt. with_other b done (Claim (ticket k w.next)) (λ e. omega (arith, e, lt)) ∙ h.later b (omega (arith, lt));
    waits = λ b lt inside. h.waits b (omega (arith, lt)) inside;
    held = claim_held;
    given = claim_given;
  }

-- ---- with one more block that came back

-- an event that ends a block
abbrev pub IsEnd : Event → Ticket → End → Type 0
IsEnd e t how = ((e ≡ Post t) × (how ≡ posted)) ⊎ ((e ≡ Lose t) × (how ≡ lost))

end_block : (e : Event) (t : Ticket) (how : End) → IsEnd e t how → block_of e ≡ t.block
end_block e t how (inl p) = ap block_of p.0
end_block e t how (inr l) = ap block_of l.0

end_over : (e : Event) (t : Ticket) (how : End) → IsEnd e t how → Some how ≡ Some unended → ⊥
end_over e t how (inl p) o = absurd (let x = p.1 in cc)
end_over e t how (inr l) o = absurd (let x = l.1 in cc)

end_once : (done : List Event) (e : Event) (k b : ℕ) (how : End) → IsEnd e (ticket k b) how → events_of b done ≡ Claim (ticket k b) ∷ [] → IsOnce b (done ++ e ∷ [])
end_once done e k b how (inl p) only =
    (k, inl (with_own b done e (ap block_of p.0) ∙ ap (λ es. es ++ e ∷ []) only ∙ ap (λ e. Claim (ticket k b) ∷ e ∷ []) p.0))
end_once done e k b how (inr l) only =
    (k, inr (with_own b done e (ap block_of l.0) ∙ ap (λ es. es ++ e ∷ []) only ∙ ap (λ e. Claim (ticket k b) ∷ e ∷ []) l.0))

first_same : {e f : Event} → (e ∷ []) ≡ (f ∷ []) → e ≡ f
first_same h = cc

worker_of : Event → ℕ
worker_of (Claim t) = t.worker
worker_of (Post t) = t.worker
worker_of (Lose t) = t.worker

worker_same : {j k b : ℕ} → Claim (ticket j b) ≡ Claim (ticket k b) → j ≡ k
unfolding worker_of
worker_same h = ap worker_of h

module _ (done : List Event) (w : World) (e : Event) (k b : ℕ) (how : End) (h : History done w) (out : slice_get w.outs k ≡ Some (Some b)) (is : IsEnd e (ticket k b) how) where
  abbrev pub after : World
  after = ended (ticket k b) how w

  mine : Held done w k b
  mine = h.held k b out

  freed : slice_get (slice_set w.outs k None) k ≡ Some None
  freed = get_same w.outs k None (slice_get_within w.outs k (Some b) out)

  end_held : (j c : ℕ) → slice_get (slice_set w.outs k None) j ≡ Some (Some c) → Held (done ++ e ∷ []) after j c
  end_held j c got = elim (cases_eq j k) [
    | inl same ↦ absurd (none_isnt (sym freed ∙ subst (λ i. slice_get (slice_set w.outs k None) i ≡ Some (Some c)) same got))
    | inr not ↦
        let old = h.held j c (sym (get_other w.outs k None j not) ∙ got) in
        let apart : c ≡ b → ⊥ = λ same. not (worker_same (first_same (sym (subst (λ i. events_of i done ≡ Claim (ticket j i) ∷ []) same old.only) ∙ mine.only))) in
        record {
          before = old.before;
          open_yet = get_other w.ends b how c apart ∙ old.open_yet;
          only = with_other c done e (λ x. apart (sym x ∙ end_block e (ticket k b) how is)) ∙ old.only;
        }
  ]

  end_given : (c : ℕ) → c < w.next → ((j : ℕ) × (slice_get (slice_set w.outs k None) j ≡ Some (Some c))) ⊎ IsBack (done ++ e ∷ []) after c
  end_given c lt = elim (cases_eq c b) [
    | inl same ↦ inr (subst (λ i. IsBack (done ++ e ∷ []) after i) (sym same) (record {
      once = end_once done e k b how is mine.only;
      over = λ o. end_over e (ticket k b) how is (sym (get_same w.ends b how (slice_get_within w.ends b unended mine.open_yet)) ∙ o);
    }))
    | inr not ↦ elim (h.given c lt) [
      | inl other ↦ inl (other.0, get_other w.outs k None other.0 (λ same. not (some_is (some_is (sym other.1 ∙ subst (λ i. slice_get w.outs i ≡ Some (Some b)) (sym same) out)))) ∙ other.1)
      | inr back ↦ inr (back_other done w after e c (λ x. not (sym x ∙ end_block e (ticket k b) how is)) (get_other w.ends b how c not) back)
    ]
  ]

  pub end_history : History (done ++ e ∷ []) after
  end_history =
      let less = mine.before in record {
        upto = let u = h.upto in let l = length-set w.ends b how in omega (arith, u, l);
        count = let c = h.count in let m = one_less w.outs k b out in let l = length-append done (e ∷ []) in omega (arith, c, m, l);
        later = λ c lt. with_other c done e (λ x. let y = end_block e (ticket k b) how is in omega (arith, x, y, lt, less)) ∙ h.later c lt;
        waits = λ c lt inside. get_other w.ends b how c (λ x. omega (arith, x, lt, less)) ∙ h.waits c lt (subst (λ n. c < n) (length-set w.ends b how) inside);
        held = end_held;
        given = end_given;
      }

-- ---- whole schedules

happens_history : (done : List Event) (e : Event) (w v : World) → History done w → Happens e w v → History (done ++ e ∷ []) v
happens_history done (Claim t) w v h (same, left, idle, is) =
    subst (λ u. History (done ++ Claim t ∷ []) u) (sym is) (subst (λ b. History (done ++ Claim (ticket t.worker b) ∷ []) (record { next = w.next + 1; outs = slice_set w.outs t.worker (Some b); ends = w.ends })) (sym same) (claim_history done w t.worker h left idle))
happens_history done (Post t) w v h (out, is) =
    subst (λ u. History (done ++ Post t ∷ []) u) (sym is) (end_history done w (Post t) t.worker t.block posted h out (inl (refl, refl)))
happens_history done (Lose t) w v h (out, is) =
    subst (λ u. History (done ++ Lose t ∷ []) u) (sym is) (end_history done w (Lose t) t.worker t.block lost h out (inr (refl, refl)))

replays_history : (es done : List Event) (w v : World) → History done w → Replays es w v → History (done ++ es) v
replays_history [] done w v h same =
    subst (λ u. History (done ++ []) u) same (subst (λ d. History d w) (sym (append-nil done)) h)
replays_history (e ∷ es) done w v h (u, (first, rest)) =
    subst (λ d. History d v) (append_assoc done (e ∷ []) es) (replays_history es (done ++ e ∷ []) u v (happens_history done e w u h first) rest)

-- a schedule from the beginning
pub history : (blocks workers : ℕ) (es : List Event) (v : World) → Replays es (first_world blocks workers) v → History es v
history blocks workers es v r =
    replays_history es [] (first_world blocks workers) v (first_history blocks workers) r

-- a schedule goes on
pub replays_more : (es : List Event) (e : Event) (w u v : World) → Replays es w u → Happens e u v → Replays (es ++ e ∷ []) w v
replays_more [] e w u v same step = (v, (subst (λ x. Happens e x v) (sym same) step, refl))
replays_more (f ∷ es) e w u v (x, (first, rest)) step = (x, (first, replays_more es e x u v rest step))

-- nobody has anything out, and everything was given out
pub settled : (es : List Event) (w : World) → History es w → length w.ends ≤ w.next → ((k b : ℕ) → slice_get w.outs k ≡ Some (Some b) → ⊥) → SettledOnce (length w.ends) es
settled es w h all none = record {
  each = λ b lt. elim (h.given b (omega (arith, lt, all))) [ inl out ↦ absurd (none out.0 b out.1) | inr back ↦ back.once ];
  none_else = λ b le. h.later b (let u = h.upto in omega (arith, le, u));
}
