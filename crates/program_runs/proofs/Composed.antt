-- Runs of statements, one after another.
use Rattle.std.proofs.Common.{◌≡◌, ℕ, ℤ, suc, ◌+◌, ◌-◌, ◌<◌, ◌≤◌, Bool, true, List, [], ◌∷◌, ◌++◌, length, get_or, drop, Option, Some, None, Result, Ok, Err, refl, sym, ap, ◌∙◌, arith, append_assoc, subst}
use Rattle.std.specs.List.{concat}
use Rattle.meaning.specs.declared.syntax.Arm.{Arm}
use Rattle.meaning.specs.declared.syntax.Member.{Member}
use Rattle.meaning.specs.declared.ending.FaultKind.{FaultKind}
use Rattle.meaning.specs.declared.ending.Outcome.{Outcome}
use Rattle.meaning.specs.declared.ending.Outcome.TheVariants as outcomes
use Rattle.meaning.specs.Syntax.{ExprTree, ItemTree, LimitsTree, doing}
use Rattle.meaning.specs.Trees.{Members, members_tree, item_tree}
use Rattle.meaning.specs.Trips.{Span, span_of, trips}
use Rattle.meaning.specs.Values.{Scope}
use Rattle.meaning.specs.Maps.{Map, put}
use Rattle.meaning.specs.Execution.{Outcome as Ended, normal, jump, stopped, fault, Ran, more, ended_by, Meaning, Follow, Ways, onward, at_label, goes_on, goes_on_by, leads_on, leads_on_by, fold_trips, trips_from, looped, ways_again, repeated, tested, labelled, goes_at, exec}
use Rattle.meaning.specs.Promise.{Told, Took, IsFront, IsBroken}
use Rattle.meaning.proofs.Running.{more-more, more-none}
use Rattle.evaluator.specs.declared.passed.Passed.{Passed}
use Rattle.evaluator.specs.declared.passed.Passed.TheVariants as passings
use Rattle.evaluator.specs.Member.{member_does}
use Rattle.evaluator.specs.Over.{condition_tested}
use Rattle.evaluator.specs.Passed.{ended_by as ended_so, passed_behind}
use Rattle.evaluator.specs.Statements.{outcome_of, IsEnd, Leaves, Moves, Comes, Picks, Adds}
use Rattle.evaluator.proofs.Composed.{add_turns}
use Rattle.evaluator.proofs.Executed.{fault_at, one_less, added_goes, added_fails}
use Rattle.evaluator.proofs.Looped.{from_place, behind_place, at_place, at_end_of, trips_left, behind_range, at_trip, at_last_trip, arms_left, after_test, do_is, while_comes}
use Rattle.whole_runs.proofs.Advancing.{several, several_split}
use Rattle.program_runs.specs.declared.halt.Halt.{Halt}
use Rattle.program_runs.specs.declared.halt.Halt.TheVariants as halts
use Rattle.program_runs.specs.Walk.{IsOver, Halts, Runs, GoesOn, Steps, GoesAgain, Passes, SoFar, Ends}
use Rattle.record_sinks.proofs.Taken.{Took-none, Took-then, Took-refused}

pub concat-append : (xs ys : List (List ℕ)) → concat (xs ++ ys) ≡ concat xs ++ concat ys
concat-append [] ys = refl
concat-append (x ∷ xs) ys = ap (λ r. x ++ r) (concat-append xs ys) ∙ sym (append_assoc x (concat xs) (concat ys))

pub pieces-more : (p : List (List ℕ)) (n : ℕ) (r : Ran) → (more p n r).pieces ≡ p ++ r.pieces
unfolding more
pieces-more p n r = refl

pub outcome-more : (p : List (List ℕ)) (n : ℕ) (r : Ran) → (more p n r).outcome ≡ r.outcome
unfolding more
outcome-more p n r = refl

pub map-more : (p : List (List ℕ)) (n : ℕ) (r : Ran) → (more p n r).map ≡ r.map
unfolding more
map-more p n r = refl

pub used-more : (p : List (List ℕ)) (n : ℕ) (r : Ran) → (more p n r).used ≡ n + r.used
unfolding more
used-more p n r = refl

-- ---- pieces in front

-- what is cut short behind pieces that were taken
pub front_behind : (ps qs : List (List ℕ)) (old mid new : Told) → Took old mid (concat ps) → IsFront qs mid new → IsFront (ps ++ qs) old new
front_behind ps qs old mid new took x =
    record {
      taken = ps ++ x.taken;
      left = x.left;
      parts = ap (λ rs. ps ++ rs) x.parts ∙ sym (append_assoc ps x.taken x.left);
      after = subst (λ bs. Took old new bs) (sym (concat-append ps x.taken)) (Took-then old mid new (concat ps) (concat x.taken) took x.after);
    }

broken_behind : (ps qs : List (List ℕ)) (old mid new : Told) → Took old mid (concat ps) → IsBroken (concat qs) mid new → IsBroken (concat (ps ++ qs)) old new
broken_behind ps qs old mid new took x =
    record {
      taken = concat ps ++ x.taken;
      lost = x.lost;
      parts = concat-append ps qs ∙ ap (λ bs. concat ps ++ bs) x.parts ∙ sym (append_assoc (concat ps) x.taken x.lost);
      after = Took-refused old mid new (concat ps) x.taken took x.after;
    }

pub halts_behind : (ps qs : List (List ℕ)) (h : Halt) (old mid new : Told) → Took old mid (concat ps) → Halts qs h mid new → Halts (ps ++ qs) h old new
halts_behind ps qs halts.Memory old mid new took x = front_behind ps qs old mid new took x
halts_behind ps qs halts.WriteRefused old mid new took x = broken_behind ps qs old mid new took x

-- what is cut short before pieces that would follow
front_before : (ps qs : List (List ℕ)) (old new : Told) → IsFront ps old new → IsFront (ps ++ qs) old new
front_before ps qs old new x =
    record { taken = x.taken; left = x.left ++ qs; parts = ap (λ rs. rs ++ qs) x.parts ∙ append_assoc x.taken x.left qs; after = x.after }

broken_before : (ps qs : List (List ℕ)) (old new : Told) → IsBroken (concat ps) old new → IsBroken (concat (ps ++ qs)) old new
broken_before ps qs old new x =
    record {
      taken = x.taken;
      lost = x.lost ++ concat qs;
      parts = concat-append ps qs ∙ ap (λ bs. bs ++ concat qs) x.parts ∙ append_assoc x.taken x.lost (concat qs);
      after = x.after;
    }

halts_before : (ps qs : List (List ℕ)) (h : Halt) (old new : Told) → Halts ps h old new → Halts (ps ++ qs) h old new
halts_before ps qs halts.Memory old new x = front_before ps qs old new x
halts_before ps qs halts.WriteRefused old new x = broken_before ps qs old new x

-- ---- what was run so far

pub over_more : (ps : List (List ℕ)) (n : ℕ) (r : Ran) (given t : ℕ) (m : Map) (left : ℕ) (o : Outcome) (old mid new : Told) → n + t ≡ given → Took old mid (concat ps) → IsOver r t m left o mid new → IsOver (more ps n r) given m left o old new
unfolding more
over_more ps n r given t m left o old mid new e took x =
    record {
      outcome = x.outcome;
      after = x.after;
      turns = add_turns n r.used left t given e x.turns;
      bytes = subst (λ bs. Took old new bs) (sym (concat-append ps r.pieces)) (Took-then old mid new (concat ps) (concat r.pieces) took x.bytes);
    }

pub so_far_none : (r : Ran) (t : ℕ) (a : Told) → SoFar r r t t a a
so_far_none r t a = record { pieces = []; used = 0; is = more-none r; turns = omega arith; bytes = Took-none a }

module _ (whole rest : Ran) (given t : ℕ) (old mid new : Told) (s : SoFar whole rest given t old mid) where
  pub so_far_more : (ps : List (List ℕ)) (n : ℕ) (next : Ran) (left : ℕ) → rest ≡ more ps n next → n + left ≡ t → Took mid new (concat ps) → SoFar whole next given left old new
  so_far_more ps n next left e turns took =
      record {
        pieces = s.pieces ++ ps;
        used = s.used + n;
        is = s.is ∙ ap (λ r. more s.pieces s.used r) e ∙ more-more s.pieces ps s.used n next;
        turns = add_turns s.used n left t given s.turns turns;
        bytes = subst (λ bs. Took old new bs) (sym (concat-append s.pieces ps)) (Took-then old mid new (concat s.pieces) (concat ps) s.bytes took);
      }

  pub over_along : (m : Map) (left : ℕ) (o : Outcome) → IsOver rest t m left o mid new → IsOver whole given m left o old new
  over_along m left o x = subst (λ r. IsOver r given m left o old new) (sym s.is) (over_more s.pieces s.used rest given t m left o old mid new s.turns s.bytes x)

  pub halts_along : (h : Halt) → Halts rest.pieces h mid new → Halts whole.pieces h old new
  halts_along h x =
      subst (λ ps. Halts ps h old new) (sym (ap (λ (r : Ran). r.pieces) s.is ∙ pieces-more s.pieces s.used rest)) (halts_behind s.pieces rest.pieces h old mid new s.bytes x)

nothing_over : (o : Outcome) (m : Map) (t : ℕ) (a : Told) → IsOver (ended_by (outcome_of o) m) t m t o a a
nothing_over o m t a = record { outcome = refl; after = refl; turns = omega arith; bytes = Took-none a }

pub over_at_end : (whole rest : Ran) (given t : ℕ) (m : Map) (o : Outcome) (old new : Told) → rest ≡ ended_by (outcome_of o) m → SoFar whole rest given t old new → IsOver whole given m t o old new
over_at_end whole rest given t m o old new e s =
    over_along whole rest given t old new new s m t o (subst (λ r. IsOver r t m t o new new) (sym e) (nothing_over o m t new))

-- ---- what faulted or went on without output, over a sink that stays

pub quiet_over : (r : Ran) (given : ℕ) (m : Map) (left : ℕ) (o : Outcome) (a : Told) → Leaves r given m left o → IsOver r given m left o a a
quiet_over r given m left o a x =
    record { outcome = x.outcome; after = x.after; turns = x.turns; bytes = subst (λ ps. Took a a (concat ps)) (sym x.nothing) (Took-none a) }

pub steps_quietly : (does : Ways → Ran) (given : ℕ) (m : Map) (left : ℕ) (o : Outcome) (a : Told) → Moves does given m left o → Steps does given m left (Ok o) a a
steps_quietly does given m left outcomes.Normal a h = record { pieces = []; used = h.used; is = h.is; turns = h.turns; bytes = Took-none a }
steps_quietly does given m left (outcomes.Left s) a h = record { pieces = []; used = h.used; is = h.is; turns = h.turns; bytes = Took-none a }
steps_quietly does given m left (outcomes.Stopped line) a h = λ go. quiet_over (does go) given m left (outcomes.Stopped line) a (h go)
steps_quietly does given m left (outcomes.Fault f) a h = λ go. quiet_over (does go) given m left (outcomes.Fault f) a (h go)

-- ---- a run as a step

what_is_left : (a b c : ℕ) → a + b ≡ c → c - a ≡ b
what_is_left a b c e = omega arith

halts_lead_by : (o : Ended) (r : Ran) (given : ℕ) (h : Halt) (old new : Told) (go : Ways) → Halts r.pieces h old new → Halts (leads_on_by o r given go).pieces h old new
halts_lead_by normal r given h old new go x =
    subst (λ ps. Halts ps h old new) (sym (pieces-more r.pieces r.used (go onward r.map (given - r.used)))) (halts_before r.pieces (go onward r.map (given - r.used)).pieces h old new x)
halts_lead_by (jump s) r given h old new go x =
    subst (λ ps. Halts ps h old new) (sym (pieces-more r.pieces r.used (go (at_label s) r.map (given - r.used)))) (halts_before r.pieces (go (at_label s) r.map (given - r.used)).pieces h old new x)
halts_lead_by (stopped line) r given h old new go x = x
halts_lead_by (fault k line) r given h old new go x = x

pub steps_on : (r : Ran) (given : ℕ) (m : Map) (left : ℕ) (o : Result Outcome Halt) (old new : Told) → Runs r given m left o old new → Steps (λ go. leads_on r given go) given m left o old new
unfolding leads_on
steps_on r given m left (Ok outcomes.Normal) old new x =
    record { pieces = r.pieces; used = r.used; is = λ go. ap (λ o. leads_on_by o r given go) x.outcome ∙ (λ i. more r.pieces r.used (go onward (x.after i) (what_is_left r.used left given x.turns i))); turns = x.turns; bytes = x.bytes }
steps_on r given m left (Ok (outcomes.Left s)) old new x =
    record { pieces = r.pieces; used = r.used; is = λ go. ap (λ o. leads_on_by o r given go) x.outcome ∙ (λ i. more r.pieces r.used (go (at_label s) (x.after i) (what_is_left r.used left given x.turns i))); turns = x.turns; bytes = x.bytes }
steps_on r given m left (Ok (outcomes.Stopped line)) old new x =
    λ go. subst (λ s. IsOver s given m left (outcomes.Stopped line) old new) (sym (ap (λ o. leads_on_by o r given go) x.outcome)) x
steps_on r given m left (Ok (outcomes.Fault f)) old new x =
    λ go. subst (λ s. IsOver s given m left (outcomes.Fault f) old new) (sym (ap (λ o. leads_on_by o r given go) x.outcome)) x
steps_on r given m left (Err h) old new x = λ go. halts_lead_by r.outcome r given h old new go x

pub steps_behind : (whole does : Ways → Ran) (given t : ℕ) (m : Map) (left : ℕ) (o : Result Outcome Halt) (old new : Told) → Comes whole does given t → Steps does t m left o old new → Steps whole given m left o old new
steps_behind whole does given t m left (Ok outcomes.Normal) old new c x =
    record { pieces = x.pieces; used = c.used + x.used; is = λ go. c.is go ∙ ap (λ r. more [] c.used r) (x.is go) ∙ more-more [] x.pieces c.used x.used (go onward m left); turns = add_turns c.used x.used left t given c.turns x.turns; bytes = x.bytes }
steps_behind whole does given t m left (Ok (outcomes.Left s)) old new c x =
    record { pieces = x.pieces; used = c.used + x.used; is = λ go. c.is go ∙ ap (λ r. more [] c.used r) (x.is go) ∙ more-more [] x.pieces c.used x.used (go (at_label s) m left); turns = add_turns c.used x.used left t given c.turns x.turns; bytes = x.bytes }
steps_behind whole does given t m left (Ok (outcomes.Stopped line)) old new c x =
    λ go. subst (λ r. IsOver r given m left (outcomes.Stopped line) old new) (sym (c.is go)) (over_more [] c.used (does go) given t m left (outcomes.Stopped line) old old new c.turns (Took-none old) (x go))
steps_behind whole does given t m left (Ok (outcomes.Fault f)) old new c x =
    λ go. subst (λ r. IsOver r given m left (outcomes.Fault f) old new) (sym (c.is go)) (over_more [] c.used (does go) given t m left (outcomes.Fault f) old old new c.turns (Took-none old) (x go))
steps_behind whole does given t m left (Err h) old new c x =
    λ go. subst (λ ps. Halts ps h old new) (sym (ap (λ (r : Ran). r.pieces) (c.is go) ∙ pieces-more [] c.used (does go))) (x go)

pub steps_same : (does whole : Ways → Ran) (given : ℕ) (m : Map) (left : ℕ) (o : Result Outcome Halt) (old new : Told) → ((go : Ways) → whole go ≡ does go) → Steps does given m left o old new → Steps whole given m left o old new
steps_same does whole given m left o old new is x =
    steps_behind whole does given given m left o old new (record { used = 0; is = λ go. is go ∙ more-none (does go); turns = omega arith }) x

-- ---- members

-- one that isn't executed again
pub passes_ended : (does : Ways → Ran) (given : ℕ) (again : Follow) (m : Map) (left : ℕ) (o : Result Outcome Halt) (old new : Told) → Steps does given m left o old new → Passes does given again m left (ended_so o) old new
passes_ended does given again m left (Ok o) old new x = x
passes_ended does given again m left (Err h) old new x = x

pub passes_same : (does whole : Ways → Ran) (given : ℕ) (again : Follow) (m : Map) (left : ℕ) (p : Result Passed Halt) (old new : Told) → ((go : Ways) → whole go ≡ does go) → Passes does given again m left p old new → Passes whole given again m left p old new
passes_same does whole given again m left (Ok (passings.Ended o)) old new is x = steps_same does whole given m left (Ok o) old new is x
passes_same does whole given again m left (Ok passings.Again) old new is x =
    record { pieces = x.pieces; used = x.used; is = λ go. is go ∙ x.is go; turns = x.turns; bytes = x.bytes }
passes_same does whole given again m left (Err h) old new is x = steps_same does whole given m left (Err h) old new is x

-- a DO WHILE whose condition is true
module _ (scope : Scope) (rec : Meaning) (e : ExprTree) (line : ℕ) (range : Members) (again : Follow) (m : Map) (t u : ℕ) (x : Picks (λ go. condition_tested scope e line m t go) t true u) (n : Map) (left : ℕ) (old new : Told) where
  abbrev whiles : Ways → Ran
  whiles go = repeated scope rec e line range again m t go

  abbrev behind : Ways → Ran
  behind go = leads_on (rec range range m u) u (ways_again again go)

  comes : Comes whiles behind t u
  comes = record { used = x.used; is = while_comes scope rec e line range again m t u x n left; turns = x.turns }

  again-by : GoesOn (λ go. leads_on (rec range range m u) u go) u onward n left old new → GoesAgain whiles t again n left old new
  again-by g =
      record {
        pieces = g.pieces;
        used = x.used + g.used;
        is = λ go. while_comes scope rec e line range again m t u x n left go ∙ ap (λ r. more [] x.used r) (g.is (ways_again again go)) ∙ more-more [] g.pieces x.used g.used (again n left);
        turns = add_turns x.used g.used left u t x.turns g.turns;
        bytes = g.bytes;
      }

  passes-by : (o : Outcome) → Steps (λ go. leads_on (rec range range m u) u go) u n left (Ok o) old new → Passes whiles t again n left (Ok (passed_behind o)) old new
  passes-by outcomes.Normal g = again-by g
  passes-by (outcomes.Left s) g =
      steps_behind whiles behind t u n left (Ok (outcomes.Left s)) old new comes (record { pieces = g.pieces; used = g.used; is = λ go. g.is (ways_again again go); turns = g.turns; bytes = g.bytes })
  passes-by (outcomes.Stopped l) g =
      steps_behind whiles behind t u n left (Ok (outcomes.Stopped l)) old new comes (λ go. g (ways_again again go))
  passes-by (outcomes.Fault f) g =
      steps_behind whiles behind t u n left (Ok (outcomes.Fault f)) old new comes (λ go. g (ways_again again go))

  pub while_walks : (o : Outcome) → Runs (rec range range m u) u n left (Ok o) old new → Passes whiles t again n left (Ok (passed_behind o)) old new
  while_walks o y = passes-by o (steps_on (rec range range m u) u n left (Ok o) old new y)

  pub while_halts : (h : Halt) → Halts (rec range range m u).pieces h old new → Passes whiles t again n left (Err h) old new
  while_halts h y =
      let g : Steps (λ go. leads_on (rec range range m u) u go) u n left (Err h) old new = steps_on (rec range range m u) u n left (Err h) old new y in
      steps_behind whiles behind t u n left (Err h) old new comes (λ go. g (ways_again again go))

-- ---- lists

module _ (program : List ItemTree) (ms : List Member) (whole : Ran) (given i t : ℕ) (m : Map) (old mid new : Told) (s : SoFar whole (from_place program ms i m t) given t old mid) (x : Member) (n : Map) (left : ℕ) (lt : i < length ms) (is : x ≡ get_or ms i x) where
  abbrev member : Ways → Ran
  member go = member_does program (exec program) x (from_place program ms i) m t go

  at_it : from_place program ms i m t ≡ member (behind_place program ms i)
  at_it = at_place program ms i x m t lt is

  pub member_goes : Steps member t n left (Ok outcomes.Normal) mid new → SoFar whole (from_place program ms (i + 1) n left) given left old new
  member_goes g = so_far_more whole _ given t old mid new s g.pieces g.used (from_place program ms (i + 1) n left) left (at_it ∙ g.is (behind_place program ms i)) g.turns g.bytes

  -- it is executed again
  pub member_again : GoesAgain member t (from_place program ms i) n left mid new → SoFar whole (from_place program ms i n left) given left old new
  member_again g =
      so_far_more whole _ given t old mid new s g.pieces g.used (from_place program ms i n left) left (at_it ∙ g.is (behind_place program ms i)) g.turns g.bytes

  pub member_jumps : (label j : ℕ) → Some (members_tree (drop j ms)) ≡ labelled label (members_tree ms) → Steps member t n left (Ok (outcomes.Left label)) mid new → SoFar whole (from_place program ms j n left) given left old new
  member_jumps label j found g =
      so_far_more whole _ given t old mid new s g.pieces g.used (from_place program ms j n left) left (at_it ∙ g.is (behind_place program ms i) ∙ ap (λ o. more g.pieces g.used (goes_at (exec program) (members_tree ms) o label n left)) (sym found)) g.turns g.bytes

  pub member_leaves : (label : ℕ) → None ≡ labelled label (members_tree ms) → Steps member t n left (Ok (outcomes.Left label)) mid new → IsOver whole given n left (outcomes.Left label) old new
  member_leaves label found g =
      over_at_end whole (ended_by (jump label) n) given left n (outcomes.Left label) old new refl (so_far_more whole _ given t old mid new s g.pieces g.used (ended_by (jump label) n) left (at_it ∙ g.is (behind_place program ms i) ∙ ap (λ o. more g.pieces g.used (goes_at (exec program) (members_tree ms) o label n left)) (sym found)) g.turns g.bytes)

  pub member_ends : (o : Outcome) → ((go : Ways) → IsOver (member go) t n left o mid new) → IsOver whole given n left o old new
  member_ends o h = over_along whole _ given t old mid new s n left o (subst (λ r. IsOver r t n left o mid new) (sym at_it) (h (behind_place program ms i)))

  pub member_halts : (h : Halt) → ((go : Ways) → Halts (member go).pieces h mid new) → Halts whole.pieces h old new
  member_halts h x = halts_along whole _ given t old mid new s h (subst (λ (r : Ran). Halts r.pieces h mid new) (sym at_it) (x (behind_place program ms i)))

pub last_member : (program : List ItemTree) (ms : List Member) (whole : Ran) (given i t : ℕ) (m : Map) (old new : Told) → SoFar whole (from_place program ms i m t) given t old new → length ms ≤ i → IsOver whole given m t outcomes.Normal old new
last_member program ms whole given i t m old new s le = over_at_end whole _ given t m outcomes.Normal old new (at_end_of program ms i m t le) s

-- ---- trips

halts_then_by : (o : Ended) (r : Ran) (given : ℕ) (h : Halt) (old new : Told) (go : Follow) → Halts r.pieces h old new → Halts (goes_on_by o r given go).pieces h old new
halts_then_by normal r given h old new go x =
    subst (λ ps. Halts ps h old new) (sym (pieces-more r.pieces r.used (go r.map (given - r.used)))) (halts_before r.pieces (go r.map (given - r.used)).pieces h old new x)
halts_then_by (jump s) r given h old new go x = x
halts_then_by (stopped line) r given h old new go x = x
halts_then_by (fault k line) r given h old new go x = x

over_goes : (r : Ran) (given : ℕ) (m : Map) (left : ℕ) (old new : Told) → IsOver r given m left outcomes.Normal old new → (go : Follow) → goes_on r given go ≡ more r.pieces r.used (go m left)
unfolding goes_on
over_goes r given m left old new x go =
    ap (λ o. goes_on_by o r given go) x.outcome ∙ (λ i. more r.pieces r.used (go (x.after i) (what_is_left r.used left given x.turns i)))

over_stays : (r : Ran) (given : ℕ) (m : Map) (left : ℕ) (o : Outcome) (old new : Told) → IsEnd o → IsOver r given m left o old new → (go : Follow) → goes_on r given go ≡ r
unfolding goes_on
over_stays r given m left outcomes.Normal old new end x go = absurd end
over_stays r given m left (outcomes.Left s) old new end x go = ap (λ o. goes_on_by o r given go) x.outcome
over_stays r given m left (outcomes.Stopped line) old new end x go = ap (λ o. goes_on_by o r given go) x.outcome
over_stays r given m left (outcomes.Fault f) old new end x go = ap (λ o. goes_on_by o r given go) x.outcome

halts_then : (r : Ran) (given : ℕ) (h : Halt) (old new : Told) (go : Follow) → Halts r.pieces h old new → Halts (goes_on r given go).pieces h old new
unfolding goes_on
halts_then r given h old new go x = halts_then_by r.outcome r given h old new go x

module _ (rec : Meaning) (line : ℕ) (variable : List ℕ) (first by : ℤ) (count : ℕ) (range : Members) (whole : Ran) (given i t : ℕ) (m : Map) (old mid : Told) (s : SoFar whole (trips_left rec line variable first by count range i m t) given t old mid) where
  pub last_trip : count ≤ i → IsOver whole given m t outcomes.Normal old mid
  last_trip le = over_at_end whole _ given t m outcomes.Normal old mid (at_last_trip rec line variable first by count range i m t le) s

  module _ (new : Told) (lt : i < count) where
    at_range : trips_left rec line variable first by count range i m t ≡ goes_on (rec range range m t) t (behind_range rec line variable first by count range i)
    at_range = at_trip rec line variable first by count range i m t lt

    pub range_halts : (h : Halt) → Halts (rec range range m t).pieces h mid new → Halts whole.pieces h old new
    range_halts h x = halts_along whole _ given t old mid new s h (subst (λ (r : Ran). Halts r.pieces h mid new) (sym at_range) (halts_then (rec range range m t) t h mid new (behind_range rec line variable first by count range i) x))

    module _ (n : Map) (left : ℕ) where
      pub range_ends : (o : Outcome) → IsEnd o → IsOver (rec range range m t) t n left o mid new → IsOver whole given n left o old new
      range_ends o end x = over_along whole _ given t old mid new s n left o (subst (λ r. IsOver r t n left o mid new) (sym (at_range ∙ over_stays (rec range range m t) t n left o mid new end x (behind_range rec line variable first by count range i))) x)

      range_goes : IsOver (rec range range m t) t n left outcomes.Normal mid new → SoFar whole (behind_range rec line variable first by count range i n left) given left old new
      range_goes x =
          so_far_more whole _ given t old mid new s (rec range range m t).pieces (rec range range m t).used (behind_range rec line variable first by count range i n left) left (at_range ∙ over_goes (rec range range m t) t n left mid new x (behind_range rec line variable first by count range i)) x.turns x.bytes

      pub trip_goes : (k : Map) → IsOver (rec range range m t) t n left outcomes.Normal mid new → Adds variable by n k (Ok tt) → SoFar whole (trips_left rec line variable first by count range (i + 1) k left) given left old new
      trip_goes k x adds = subst (λ r. SoFar whole r given left old new) (added_goes line variable by n k adds (λ z. trips_left rec line variable first by count range (i + 1) z left)) (range_goes x)

      pub sum_faults : (k : Map) (kind : FaultKind) → IsOver (rec range range m t) t n left outcomes.Normal mid new → Adds variable by n k (Err kind) → IsOver whole given k left (fault_at kind line) old new
      sum_faults k kind x adds =
          subst (λ z. IsOver whole given z left (fault_at kind line) old new) (sym adds.1) (over_at_end whole _ given left n (fault_at kind line) old new (added_fails line variable by n kind adds.0 (λ z. trips_left rec line variable first by count range (i + 1) z left)) (range_goes x))

-- ---- some trips at once

module _ (rec : Meaning) (line : ℕ) (variable : List ℕ) (by first : ℤ) (range : Members) (whole : Ran) (given t total : ℕ) (m : Map) (old mid : Told) (s : SoFar whole (several rec line variable by range first total m t) given t old mid) where
  abbrev some : ℕ → Map → ℕ → Ran
  some n k u = several rec line variable by range first n k u

  pub none_left : total ≡ 0 → IsOver whole given m t outcomes.Normal old mid
  unfolding fold_trips
  none_left none = over_at_end whole _ given t m outcomes.Normal old mid (ap (λ n. some n m t) none) s

  there : (n : ℕ) → n ≤ total → total ≡ n + (total - n)
  there n le = omega arith

  module _ (new : Told) (n : ℕ) (le : n ≤ total) where
    parts : some total m t ≡ goes_on (some n m t) t (λ a u. some (total - n) a u)
    parts = ap (λ j. some j m t) (there n le) ∙ several_split rec line variable by range first first n (total - n) m t

    pub some_go : (k : Map) (left : ℕ) → IsOver (some n m t) t k left outcomes.Normal mid new → SoFar whole (some (total - n) k left) given left old new
    some_go k left x =
        so_far_more whole _ given t old mid new s (some n m t).pieces (some n m t).used (some (total - n) k left) left (parts ∙ over_goes (some n m t) t k left mid new x (λ a u. some (total - n) a u)) x.turns x.bytes

    pub some_end : (k : Map) (left : ℕ) (o : Outcome) → IsEnd o → IsOver (some n m t) t k left o mid new → IsOver whole given k left o old new
    some_end k left o end x =
        over_along whole _ given t old mid new s k left o (subst (λ r. IsOver r t k left o mid new) (sym (parts ∙ over_stays (some n m t) t k left o mid new end x (λ a u. some (total - n) a u))) x)

    pub some_halt : (h : Halt) → Halts (some n m t).pieces h mid new → Halts whole.pieces h old new
    some_halt h x =
        halts_along whole _ given t old mid new s h (subst (λ (r : Ran). Halts r.pieces h mid new) (sym parts) (halts_then (some n m t) t h mid new (λ a u. some (total - n) a u) x))

-- ---- DO statements

module _ (scope : Scope) (rec : Meaning) (label : Option (List ℕ)) (comma : Bool) (variable : List ℕ) (limits : LimitsTree) (line : ℕ) (range : Members) (m : Map) (t u : ℕ) (taken : t ≡ suc u) where
  pub do_runs : (s : Span) (first n : Map) (left : ℕ) (o : Result Outcome Halt) (old new : Told) → span_of scope limits m ≡ Ok s → first ≡ put m variable [] s.first → Runs (fold_trips rec line variable s.step range (trips s.first s.last s.step) first u) u n left o old new → Steps (λ go. looped scope rec (doing label comma variable limits) line range m t go) t n left o old new
  do_runs s first n left o old new h e x =
      steps_behind (λ go. looped scope rec (doing label comma variable limits) line range m t go) (λ go. leads_on (trips_from rec line variable range m u s) u go) t u n left o old new (record { used = 1; is = do_is scope rec label comma variable limits line range m t u taken s h; turns = one_less t u taken }) (steps_on (trips_from rec line variable range m u s) u n left o old new (subst (λ z. Runs (fold_trips rec line variable s.step range (trips s.first s.last s.step) z u) u n left o old new) e x))

-- ---- arms

module _ (scope : Scope) (rec : Meaning) (arms : List Arm) (whole : Ways → Ran) (given : ℕ) (first : Bool) (i t : ℕ) (m : Map) (s : Comes whole (λ go. arms_left scope rec arms first i m t go) given t) (a : Arm) (u : ℕ) (lt : i < length arms) (is : a ≡ get_or arms i a) where
  pub arm_steps : Picks (λ go. tested scope first (item_tree a.head) m t go) t true u → (n : Map) (left : ℕ) (o : Result Outcome Halt) (old new : Told) → Runs (rec (members_tree a.body.items) (members_tree a.body.items) m u) u n left o old new → Steps whole given n left o old new
  arm_steps x n left o old new y =
      steps_behind whole (λ go. arms_left scope rec arms first i m t go) given t n left o old new s (steps_behind (λ go. arms_left scope rec arms first i m t go) (λ go. leads_on (rec (members_tree a.body.items) (members_tree a.body.items) m u) u go) t u n left o old new (after_test scope rec arms whole given first i t m s a u lt is true x) (steps_on (rec (members_tree a.body.items) (members_tree a.body.items) m u) u n left o old new y))

pub ends_as : (r : Ran) (given : ℕ) (m : Map) (left : ℕ) (o : Outcome) (used : ℕ) (old new : Told) → used ≡ given - left → Runs r given m left (Ok o) old new → Ends r (Ok (record { outcome = o; turns_used = used })) old new
ends_as r given m left o used old new same x =
    record { outcome = x.outcome; turns = what_was_used r.used left given x.turns ∙ sym same; bytes = x.bytes }
  where
    what_was_used : (a b c : ℕ) → a + b ≡ c → a ≡ c - b
    what_was_used a b c e = omega arith
