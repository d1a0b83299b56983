-- WRITE and PRINT statements.
use Rattle.std.proofs.Common.{◌≡◌, ℕ, suc, true, List, [], ◌∷◌, ◌++◌, if◌then◌else◌, Some, None, Result, Ok, Err, refl, sym, ap, ◌∙◌, subst, append_assoc, arith}
use Rattle.std.specs.Prelude.{not, IsTrue, is_some}
use Rattle.std.proofs.lemmas.Bool.{false≢true}
use Rattle.std.specs.Global.{Vec}
use Rattle.std.specs.List.{concat}
use Rattle.std.proofs.lemmas.List.{append-nil}
use Rattle.std.proofs.lemmas.Option.{same_Some}
use Rattle.meaning.specs.declared.ending.FaultKind.{FaultKind}
use Rattle.meaning.specs.declared.ending.FaultKind.TheVariants.{F4}
use Rattle.meaning.specs.declared.ending.Value.{Value}
use Rattle.meaning.specs.Scopes.{scope_of}
use Rattle.meaning.specs.Lists.{Listed, faulted, listed, list_limit}
use Rattle.meaning.specs.Maps.{Map}
use Rattle.meaning.specs.Syntax.{ExprTree, FormatTree, ListItemsTree, ShapeTree, writing, printing, logical_if, ItemTree}
use Rattle.meaning.specs.Values.{value, as_logical}
use Rattle.meaning.specs.Records.{edited}
use Rattle.meaning.specs.Execution.{Ran, more, failed, Ways, onward, turn, with_ok, with_list, output, parts_for, simple, step}
use Rattle.meaning.specs.Promise.{Told, Took, IsBroken}
use Rattle.meaning.proofs.Running.{more-more}
use Rattle.evaluator.specs.Listing.{Gives}
use Rattle.label_targets.specs.Quiet.{output_in, is_writing}
use Rattle.program.specs.Asked.{is_logical_if}
use Rattle.evaluator.specs.Statements.{Leaves, Moves, Comes}
use Rattle.evaluator.proofs.Executed.{fault_at, one_less, turn_none, turn_some, turn_goes}
use Rattle.program_runs.specs.Recorded.{AreEdited, AreRecorded, recorded_by, recorded}
use Rattle.program_runs.specs.Walk.{GoesOn, IsOver, output_as}
use Rattle.program_runs.proofs.Composed.{pieces-more}
use Rattle.record_sinks.proofs.Taken.{Took-none}

-- ---- the records

with_list-recorded : (r : Listed) (f : List Value → Result (List ℕ) FaultKind) (line : ℕ) (go : List ℕ → Map → Ran) → with_list r line (λ vs n. with_ok (f vs) line n (λ records. go records n)) ≡ with_ok (recorded_by f r).0 line (recorded_by f r).1 (λ records. go records (recorded_by f r).1)
unfolding with_list with_ok
with_list-recorded (Ok l) f line go = refl
with_list-recorded (Err k) f line go = refl

module _ (all : List ItemTree) (source : FormatTree) (list : ListItemsTree) (m : Map) where
  pub list_fails : (k : FaultKind) (n : Map) → listed (scope_of all) list m list_limit ≡ faulted k n → AreRecorded (Err k) n (recorded all source list m)
  list_fails k n h = rw h (refl, refl)

  pub list_recorded : (vs : List Value) (n : Map) (r : Result (Vec ℕ) FaultKind) → Gives (listed (scope_of all) list m list_limit) vs n → AreEdited r (edited (parts_for all source) vs) → AreRecorded r n (recorded all source list m)
  list_recorded vs n r h made = rw h.is (made, refl)

-- ---- the statement

module _ (all : List ItemTree) (source : FormatTree) (list : ListItemsTree) (line : ℕ) (m : Map) (t : ℕ) where
  abbrev made : Result (List ℕ) FaultKind × Map
  made = recorded all source list m

  abbrev whole : Ways → Ran
  whole go = output_as all source list line m t go

  abbrev puts_it : Ways → List ℕ → ℕ → Ran
  puts_it go records u = more (records ∷ []) 0 (go onward made.1 u)

  writes_it : (go : Ways) → whole go ≡ turn line m t (λ u. with_ok made.0 line made.1 (λ records. puts_it go records u))
  writes_it go = λ i. turn line m t (λ u. with_list-recorded (listed (scope_of all) list m list_limit) (λ vs. edited (parts_for all source) vs) line (λ records n. more (records ∷ []) 0 (go onward n u)) i)

  -- no turn is left
  pub unwritten : (u : ℕ) → t ≡ 0 → u ≡ 0 → Moves whole t m u (fault_at F4 line)
  unwritten u zero-left left go =
      subst (λ r. Leaves r t m u (fault_at F4 line)) (sym (writes_it go)) (turn_none line m t u (λ k. with_ok made.0 line made.1 (λ records. puts_it go records k)) zero-left left)

  module _ (u : ℕ) (taken : t ≡ suc u) where
    turned : (go : Ways) (r : Result (List ℕ) FaultKind) → made.0 ≡ r → whole go ≡ more [] 1 (with_ok r line made.1 (λ records. puts_it go records u))
    turned go r h =
        writes_it go ∙ turn_some line m t u (λ k. with_ok made.0 line made.1 (λ records. puts_it go records k)) taken ∙ ap (λ q. more [] 1 (with_ok q line made.1 (λ records. puts_it go records u))) h

    fault_over : (k : FaultKind) (n p : Map) (a : Told) → p ≡ n → IsOver (more [] 1 (failed k line p)) t n u (fault_at k line) a a
    unfolding more
    fault_over k n p a e = record { outcome = refl; after = e; turns = omega arith; bytes = Took-none a }

    -- a fault of the list or of its records
    pub write_fails : (k : FaultKind) (n : Map) (a : Told) → (made.0 ≡ Err k) × (made.1 ≡ n) → (go : Ways) → IsOver (whole go) t n u (fault_at k line) a a
    unfolding with_ok
    write_fails k n a h go =
        subst (λ r. IsOver r t n u (fault_at k line) a a) (sym (turned go (Err k) h.0)) (fault_over k n made.1 a h.1)

    module _ (n : Map) (records : List ℕ) (h : (made.0 ≡ Ok records) × (made.1 ≡ n)) where
      one_piece : (go : Ways) → whole go ≡ more (records ∷ []) 1 (go onward n u)
      unfolding with_ok
      one_piece go =
          turned go (Ok records) h.0 ∙ more-more [] (records ∷ []) 1 0 (go onward made.1 u) ∙ ap (λ x. more (records ∷ []) 1 (go onward x u)) h.1

      pub written_whole : (old new : Told) → Took old new records → GoesOn whole t onward n u old new
      written_whole old new took =
          record { pieces = records ∷ []; used = 1; is = one_piece; turns = one_less t u taken; bytes = subst (λ bs. Took old new bs) (sym (append-nil records)) took }

      pub written_in_part : (old new : Told) → IsBroken records old new → (go : Ways) → IsBroken (concat (whole go).pieces) old new
      written_in_part old new broken go =
          subst (λ (r : Ran). IsBroken (concat r.pieces) old new) (sym (one_piece go)) (subst (λ ps. IsBroken (concat ps) old new) (sym (pieces-more (records ∷ []) 1 (go onward n u))) (record {
            taken = broken.taken;
            lost = broken.lost ++ concat (go onward n u).pieces;
            parts = ap (λ bs. bs ++ concat (go onward n u).pieces) broken.parts ∙ append_assoc broken.taken broken.lost (concat (go onward n u).pieces);
            after = broken.after;
          }))

-- ---- statements that write

-- by itself
writes_simply : (all : List ItemTree) (s : ShapeTree) (source : FormatTree) (list : ListItemsTree) → Some (source, list) ≡ output_in s → (line : ℕ) (m : Map) (t : ℕ) (go : Ways) → simple all s line m t go ≡ output_as all source list line m t go
writes_simply all (writing control items) source list is line m t go =
    ap (λ o. output all o.0 o.1 line m t (go onward)) (sym (same_Some (source, list) (control.source, items) is))
writes_simply all (printing f items) source list is line m t go =
    ap (λ o. output all o.0 o.1 line m t (go onward)) (sym (same_Some (source, list) (f, items) is))
writes_simply all s source list is line m t go = absurd cc

pub outputs : (all : List ItemTree) (s : ShapeTree) (source : FormatTree) (list : ListItemsTree) → Some (source, list) ≡ output_in s → (line : ℕ) (m : Map) (t : ℕ) (go : Ways) → step all s line m t go ≡ output_as all source list line m t go
outputs all (writing control items) source list is line m t go =
    writes_simply all (writing control items) source list is line m t go
outputs all (printing f items) source list is line m t go =
    writes_simply all (printing f items) source list is line m t go
outputs all s source list is line m t go = absurd cc

-- under a logical IF whose condition is true
pub if_writes : (all : List ItemTree) (e : ExprTree) (s : ShapeTree) (source : FormatTree) (list : ListItemsTree) → Some (source, list) ≡ output_in s → (line : ℕ) (m : Map) (t u : ℕ) → t ≡ suc u → (v : Value) → value (scope_of all) e m ≡ Ok v → true ≡ as_logical v → Comes (λ go. step all (logical_if e s) line m t go) (λ go. output_as all source list line m u go) t u
if_writes all e s source list is line m t u taken v told holds =
    record {
      used = 1;
      is = λ go. turn_goes line m t u (value (scope_of all) e m) v (λ x n. if as_logical x then simple all s line m n go else go onward m n) taken told ∙ ap (λ b. more [] 1 (if b then simple all s line m u go else go onward m u)) (sym holds) ∙ ap (λ r. more [] 1 r) (writes_simply all s source list is line m u go);
      turns = one_less t u taken;
    }

-- ---- statements that write nothing

quiet_by : (s : ShapeTree) → None ≡ output_in s → IsTrue (not (is_some (output_in s)))
quiet_by s is = subst (λ o. IsTrue (not (is_some o))) is refl

-- by themselves, and under a logical IF
pub quiet_alone : (s : ShapeTree) → IsTrue (not (is_logical_if s)) → None ≡ output_in s → IsTrue (not (is_writing s))
quiet_alone (logical_if e s) alone is = absurd (false≢true alone)
quiet_alone s alone is = quiet_by s is

pub quiet_under : (x : ShapeTree) (e : ExprTree) (s : ShapeTree) → x ≡ logical_if e s → None ≡ output_in s → IsTrue (not (is_writing x))
quiet_under x e s is none = subst (λ y. IsTrue (not (is_writing y))) (sym is) (quiet_by s none)
