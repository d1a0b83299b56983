-- A view among stores, when a cell is read or written.
use Rattle.std.proofs.Common.{◌≡◌, ℕ, ℤ, pos, ◌==◌, ◌||◌, Bool, true, false, cond, List, [], ◌∷◌, Option, Some, None, is_some, unwrap_or, slice_get, refl, sym, ap, ◌∙◌, inl, inr}
use Rattle.std.proofs.Math.Path.{fun_ext}
use Rattle.std.proofs.lemmas.Bool.{eqb-true}
use Rattle.std.specs.Ordering.{nat_cmp, is_eq}
use Rattle.std.specs.Cmp.{nat_cmp_total, unsigned_tied}
use Rattle.std.specs.Map.{lookup}
use Rattle.std.specs.FinSet as set
use Rattle.std.specs.FinMap as map
use Rattle.meaning.specs.Stores.{World, known, overlay, with_exposed, after_read, lose, LeavesRead}
use Rattle.std.specs.Prelude.{map as list_map}
use Rattle.std.specs.List.{list_any}
use Rattle.std.specs.Cmp.{Equal-is}
use Rattle.std.specs.FinSet.{nat_cmp-IsAntisymmetric}
use Rattle.private_view.specs.Views.{Seen, Written, world_seen, written_by}

-- ---- entries as a map

find_is : (es : List (ℕ × ℤ)) (q : ℕ) → map.find nat_cmp q es ≡ lookup (λ k. is_eq (nat_cmp q k)) es
find_is [] q = refl
find_is (e ∷ es) q = ap (λ o. cond (is_eq (nat_cmp q e.0)) (Some e.1) o) (find_is es q)

abbrev pub got : List (ℕ × ℤ) → ℕ → Option ℤ
got es q = map.get (map.from_entries {R = nat_cmp} es) q

abbrev pub at : List (ℕ × ℤ) → ℕ → Option ℤ
at es q = lookup (λ k. is_eq (nat_cmp q k)) es

pub got_is : (es : List (ℕ × ℤ)) (q : ℕ) → got es q ≡ at es q
got_is es q = map.get-from_entries nat_cmp_total es q ∙ find_is es q

-- ---- cells with their values, as a map

abbrev pairs : (ℕ → ℤ) → List ℕ → List (ℕ × ℤ)
pairs f ks = list_map (λ c. (c, f c)) ks

found : (f : ℕ → ℤ) (ks : List ℕ) (q : ℕ) → at (pairs f ks) q ≡ cond (list_any (λ k. is_eq (nat_cmp q k)) ks) (Some (f q)) None
found f [] q = refl
found f (k ∷ ks) q = by (is_eq (nat_cmp q k)) refl (found f ks q)
  where
    by : (b : Bool) → is_eq (nat_cmp q k) ≡ b → at (pairs f ks) q ≡ cond (list_any (λ k. is_eq (nat_cmp q k)) ks) (Some (f q)) None → cond b (Some (f k)) (at (pairs f ks) q) ≡ cond (b || list_any (λ k. is_eq (nat_cmp q k)) ks) (Some (f q)) None
    by true e rest = ap (λ j. Some (f j)) (sym (nat_cmp-IsAntisymmetric q k ((Equal-is (nat_cmp q k)).0 e)))
    by false e rest = rest

-- what was written of a cell is its value, where it is marked
pub written_is : (s : set.FinSet nat_cmp) (f : ℕ → ℤ) (q : ℕ) → map.get (written_by s f) q ≡ cond (set.contains s q) (Some (f q)) None
written_is s f q =
    got_is (pairs f (set.items s)) q ∙ found f (set.items s) q ∙ ap (λ b. cond b (Some (f q)) None) (sym (set.contains-items s q))

is_some_cond : (b : Bool) (v : ℤ) → is_some (cond b (Some v) None) ≡ b
is_some_cond true v = refl
is_some_cond false v = refl

pub marked_is : (s : set.FinSet nat_cmp) (f : ℕ → ℤ) (w : Written) → written_by s f ≡ w → (q : ℕ) → set.contains s q ≡ is_some (map.get w q)
marked_is s f w is q =
    sym (is_some_cond (set.contains s q) (f q)) ∙ ap is_some (sym (written_is s f q)) ∙ ap (λ m. is_some (map.get m q)) is

-- a cell that is marked, or isn't
pub has_value : (s : set.FinSet nat_cmp) (f : ℕ → ℤ) (w : Written) → written_by s f ≡ w → (q : ℕ) → set.contains s q ≡ true → map.get w q ≡ Some (f q)
has_value s f w is q marked =
    ap (λ m. map.get m q) (sym is) ∙ written_is s f q ∙ ap (λ b. cond b (Some (f q)) None) marked

pub has_none : (s : set.FinSet nat_cmp) (f : ℕ → ℤ) (w : Written) → written_by s f ≡ w → (q : ℕ) → set.contains s q ≡ false → map.get w q ≡ None
has_none s f w is q unmarked =
    ap (λ m. map.get m q) (sym is) ∙ written_is s f q ∙ ap (λ b. cond b (Some (f q)) None) unmarked

-- ---- reading

pub known_written : (w : World) (c : ℕ) (v : ℤ) → w.written c ≡ Some v → v ≡ known w c
unfolding known overlay
known_written w c v e = sym (ap (λ o. unwrap_or o (w.base c)) e)

pub leaves_written : (w : World) (c : ℕ) (v : ℤ) → w.written c ≡ Some v → LeavesRead c w w
unfolding after_read
leaves_written w c v e = inl (sym (ap (λ o. record w { exposed = with_exposed c o w.exposed }) e))

-- a cell of the whole store
pub known_base : (s : Seen) (c : ℕ) (v : ℤ) → map.get s.written c ≡ None → slice_get s.base c ≡ Some v → v ≡ known (world_seen s) c
unfolding known overlay
known_base s c v none e =
    sym (ap (λ o. unwrap_or o (unwrap_or (slice_get s.base c) (pos 0))) none ∙ ap (λ o. unwrap_or o (pos 0)) e)

-- the same of one that is kept so
pub known_kept : (s t : Seen) (c : ℕ) (v : ℤ) → t ≡ s → map.get s.written c ≡ None → slice_get t.base c ≡ Some v → v ≡ known (world_seen s) c
known_kept s t c v same none e = known_base s c v none (ap (λ (u : Seen). slice_get u.base c) (sym same) ∙ e)

contains_marked : (s : set.FinSet nat_cmp) (c q : ℕ) → set.contains (set.insert s c) q ≡ ((q == c) || set.contains s q)
contains_marked s c q = set.contains-insert nat_cmp_total s c q ∙ ap (λ b. b || set.contains s q) (unsigned_tied q c)

-- a mark that is there is set again
pub marks_same : (s : set.FinSet nat_cmp) (k : ℕ) → set.contains s k ≡ true → (q : ℕ) → set.contains s q ≡ (q == k || set.contains s q)
marks_same s k there q = by (q == k) refl
  where
    by : (b : Bool) → (q == k) ≡ b → set.contains s q ≡ (b || set.contains s q)
    by true e = ap (set.contains s) (eqb-true q k e) ∙ there
    by false e = refl

pub leaves_shown : (s : Seen) (c : ℕ) → map.get s.written c ≡ None → set.contains s.exposed c ≡ true → LeavesRead c (world_seen s) (world_seen s)
unfolding after_read
leaves_shown s c none there =
    inl (ap (λ f. record (world_seen s) { exposed = f }) (fun_ext (marks_same s.exposed c there)) ∙ sym (ap (λ o. record (world_seen s) { exposed = with_exposed c o (set.contains s.exposed) }) none))

pub leaves_marked : (s : Seen) (c : ℕ) (e : set.FinSet nat_cmp) → map.get s.written c ≡ None → e ≡ set.insert s.exposed c → LeavesRead c (world_seen s) (world_seen (record s { exposed = e }))
unfolding after_read
leaves_marked s c e none is =
    inl (ap (λ f. record (world_seen s) { exposed = set.contains f }) is ∙ ap (λ f. record (world_seen s) { exposed = f }) (fun_ext (contains_marked s.exposed c)) ∙ sym (ap (λ o. record (world_seen s) { exposed = with_exposed c o (set.contains s.exposed) }) none))

pub leaves_lost : (s : Seen) (c : ℕ) (e : set.FinSet nat_cmp) → map.get s.written c ≡ None → e ≡ s.exposed → LeavesRead c (world_seen s) (world_seen (record s { exposed = e; lost = true }))
unfolding lose
leaves_lost s c e none is = inr (none, ap (λ f. record (lose (world_seen s)) { exposed = set.contains f }) is)
