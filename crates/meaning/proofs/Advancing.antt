-- The variable of a DO behind its trips, and trips of which only the number counts.
use Rattle.std.proofs.Common.{◌≡◌, ℕ, suc, ℤ, pos, ◌-◌, ◌+ℤ◌, ◌*ℤ◌, ◌&&◌, Bool, true, false, if◌then◌else◌, List, [], ◌∷◌, length, Result, Ok, Err, refl, sym, ap, ◌∙◌, arith, rules}
use Rattle.std.proofs.Math.Path.{fun_ext}
use Rattle.std.proofs.lemmas.Slice.Eq.{bytes_eq-Decides}
use Rattle.std.specs.Cmp.Rules.{signed_items}
use Rattle.std.specs.Cmp.Lexicographic.{pointwise}
use Rattle.std.specs.Ordering.{int_eq}
use Rattle.std.specs.Str.{bytes_eq}
use Rattle.meaning.specs.declared.ending.FaultKind.{FaultKind}
use Rattle.meaning.specs.declared.ending.FaultKind.TheVariants.{F2}
use Rattle.meaning.specs.declared.ending.Value.{Value}
use Rattle.meaning.specs.declared.ending.Value.TheVariants as values
use Rattle.meaning.specs.Syntax.{ItemTree}
use Rattle.meaning.specs.Trees.{Members}
use Rattle.meaning.specs.Maps.{Map, put}
use Rattle.meaning.specs.Values.{as_integer, integer, is_integer}
use Rattle.meaning.specs.LoopLaws.{NeverSets}
use Rattle.meaning.specs.Execution.{Outcome, normal, jump, stopped, fault, Ran, more, with_ok, Meaning, Follow, goes_on, goes_on_by, added, fold_trips, exec}
use Rattle.meaning.proofs.Keeping.{exec-keeps}

-- ---- what was put in

put_here : (m : Map) (v : List ℕ) (x : ℤ) → put m v [] x v [] ≡ x
unfolding put
put_here m v x = ap (λ b. if b && true then x else m v []) ((bytes_eq-Decides v v).1 refl)

-- the value that is there put in
pub put_again : (m : Map) (n : List ℕ) (ss : List ℤ) (x : ℤ) → m n ss ≡ x → put m n ss x ≡ m
unfolding put
put_again m n ss x h = fun_ext (λ p. fun_ext (λ ts. by p ts (bytes_eq n p) (pointwise int_eq ss ts) refl refl))
  where
    by : (p : List ℕ) (ts : List ℤ) (a b : Bool) → bytes_eq n p ≡ a → pointwise int_eq ss ts ≡ b → (if a && b then x else m p ts) ≡ m p ts
    by p ts true true e f = sym h ∙ ap (λ k. m k ss) ((bytes_eq-Decides n p).0 e) ∙ ap (m p) ((signed_items ss ts).0 f)
    by p ts true false e f = refl
    by p ts false b e f = refl

-- ---- only their number counts

pub fold_trips-number : (f : Meaning) (line : ℕ) (v : List ℕ) (by : ℤ) (range : Members) (is js : List ℤ) → length is ≡ length js → (m : Map) (t : ℕ) → fold_trips f line v by range is m t ≡ fold_trips f line v by range js m t
unfolding fold_trips
fold_trips-number f line v by range [] [] e m t = refl
fold_trips-number f line v by range [] (j ∷ js) e m t = absurd (omega arith)
fold_trips-number f line v by range (i ∷ is) [] e m t = absurd (omega arith)
fold_trips-number f line v by range (i ∷ is) (j ∷ js) e m t =
    ap (λ go. goes_on (f range range m t) t go) (fun_ext (λ n. fun_ext (λ u. ap (λ go. added line v by n go) (fun_ext (λ k. fold_trips-number f line v by range is js (omega arith) k u)))))

-- ---- the variable behind trips

one_further : (a by : ℤ) (n : ℕ) → (a +ℤ by) +ℤ pos n *ℤ by ≡ a +ℤ pos (suc n) *ℤ by
one_further a by n = search rules

not_far : (a by : ℤ) → a ≡ a +ℤ pos 0 *ℤ by
not_far a by = search rules

integer_ok : (z : ℤ) (y : Value) → integer z ≡ Ok y → as_integer y ≡ z
unfolding integer
integer_ok z y h = by (is_integer z) h
  where
    by : (b : Bool) → (if b then Ok (values.Int z) else Err F2) ≡ Ok y → as_integer y ≡ z
    by true h = ap as_integer (let e : y ≡ values.Int z = cc in e)
    by false h = absurd cc

more-outcome : (ps : List (List ℕ)) (n : ℕ) (r : Ran) → (more ps n r).outcome ≡ r.outcome
unfolding more
more-outcome ps n r = refl

more-map : (ps : List (List ℕ)) (n : ℕ) (r : Ran) → (more ps n r).map ≡ r.map
unfolding more
more-map ps n r = refl

-- the value of a variable behind a run that ended normally
abbrev Leaving : List ℕ → ℤ → Ran → Type 0
Leaving v x r = r.outcome ≡ normal → r.map v [] ≡ x

goes_on_by-leaves : (v : List ℕ) (x : ℤ) (o : Outcome) (r : Ran) (t : ℕ) (go : Follow) → r.outcome ≡ o → Leaving v x (go r.map (t - r.used)) → Leaving v x (goes_on_by o r t go)
goes_on_by-leaves v x normal r t go e leaves h =
    let next = go r.map (t - r.used) in
    ap (λ (m : Map). m v []) (more-map r.pieces r.used next) ∙ leaves (sym (more-outcome r.pieces r.used next) ∙ h)
goes_on_by-leaves v x (jump s) r t go e leaves h = let k : jump s ≡ normal = sym e ∙ h in absurd cc
goes_on_by-leaves v x (stopped line) r t go e leaves h = let k : stopped line ≡ normal = sym e ∙ h in absurd cc
goes_on_by-leaves v x (fault kind line) r t go e leaves h = let k : fault kind line ≡ normal = sym e ∙ h in absurd cc

goes_on-leaves : (v : List ℕ) (x : ℤ) (r : Ran) (t : ℕ) (go : Follow) → Leaving v x (go r.map (t - r.used)) → Leaving v x (goes_on r t go)
unfolding goes_on
goes_on-leaves v x r t go leaves h = goes_on_by-leaves v x r.outcome r t go refl leaves h

added-leaves : (v : List ℕ) (x : ℤ) (line : ℕ) (by : ℤ) (m : Map) (go : Map → Ran) → ((y : ℤ) → y ≡ m v [] +ℤ by → Leaving v x (go (put m v [] y))) → Leaving v x (added line v by m go)
unfolding with_ok
added-leaves v x line by m go leaves h = step_by (integer (m v [] +ℤ by)) refl h
  where
    step_by : (q : Result Value FaultKind) → integer (m v [] +ℤ by) ≡ q → Leaving v x (with_ok q line m (λ y. go (put m v [] (as_integer y))))
    step_by (Ok y) e h = leaves (as_integer y) (integer_ok (m v [] +ℤ by) y e) h
    step_by (Err kind) e h = let k : fault kind line ≡ normal = h in absurd cc

module _ (program : List ItemTree) (line : ℕ) (v : List ℕ) (by : ℤ) (range : Members) (never : NeverSets v range) where
  goes_on_from : (is : List ℤ) (m : Map) (t : ℕ) (a : ℤ) → m v [] ≡ a → Leaving v (a +ℤ pos (length is) *ℤ by) (fold_trips (exec program) line v by range is m t)
  unfolding fold_trips
  goes_on_from [] m t a has h = has ∙ not_far a by
  goes_on_from (i ∷ is) m t a has h =
      let r = exec program range range m t in
      let kept : r.map v [] ≡ a = exec-keeps v a program range range never.unset never.unset m t has in
      goes_on-leaves v (a +ℤ pos (suc (length is)) *ℤ by) r t (λ n u. added line v by n (λ k. fold_trips (exec program) line v by range is k u)) (added-leaves v (a +ℤ pos (suc (length is)) *ℤ by) line by r.map (λ k. fold_trips (exec program) line v by range is k (t - r.used)) (λ y y_is ended. goes_on_from is (put r.map v [] y) (t - r.used) (a +ℤ by) (put_here r.map v y ∙ y_is ∙ ap (λ z. z +ℤ by) kept) ended ∙ one_further a by (length is))) h

  -- behind trips that end normally the variable has the value of the next one
  pub fold_trips-goes_on : (is : List ℤ) (m : Map) (t : ℕ) → Leaving v (m v [] +ℤ pos (length is) *ℤ by) (fold_trips (exec program) line v by range is m t)
  fold_trips-goes_on is m t h = goes_on_from is m t (m v []) refl h
