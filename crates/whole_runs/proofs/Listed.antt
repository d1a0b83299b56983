-- The values of output lists, one item behind another, over any store.
use Rattle.std.proofs.Common.{◌≡◌, ℕ, suc, ◌+◌, ◌<◌, ◌≤◌, ℤ, pos, ◌+ℤ◌, List, [], ◌++◌, length, drop, append_assoc, append-nil, Result, Ok, Err, refl, sym, ap, ◌∙◌, arith}
use Rattle.std.proofs.lemmas.List.{drop_more, drop_all, length-map}
use Rattle.std.proofs.lemmas.List.FromFn.{length-range_with_len}
use Rattle.meaning.specs.declared.ending.FaultKind.{FaultKind}
use Rattle.meaning.specs.declared.ending.FaultKind.TheVariants.{F8}
use Rattle.meaning.specs.declared.ending.Value.{Value}
use Rattle.meaning.specs.declared.syntax.Tree.{Tree}
use Rattle.meaning.specs.Lists.{Listed, faulted, with_value, behind, followed, item_value, stepped, trips_listed, listed}
use Rattle.meaning.specs.Maps.{Map, put}
use Rattle.meaning.specs.Stores.{World, Reads, Does}
use Rattle.meaning.specs.Syntax.{ExprTree, LimitsTree, ListItemTree, value_item, loop_item, ListItemsTree, no_items, more_items}
use Rattle.meaning.specs.Trips.{Span, span_of, trips, trip_count}
use Rattle.meaning.specs.Values.{Scope, integer}
use Rattle.meaning.proofs.Stores.{does_read, does_then}
use Rattle.expressions.specs.Listed.{AddsItem}
use Rattle.values.specs.Programs.{map_at}
use Rattle.evaluator.specs.Listing.{Items, item_listed, Finds, FindsOver, Gives}
use Rattle.evaluator.specs.Statements.{Sums, Adds}
use Rattle.evaluator.proofs.Composed.{does_so, does_nothing, reads_and_does}

-- ---- values in front of others

behind-none : (r : Listed) → r ≡ behind [] r
unfolding behind
behind-none (Ok l) = refl
behind-none (Err f) = refl

behind-behind : (vs ws : List Value) (r : Listed) → behind vs (behind ws r) ≡ behind (vs ++ ws) r
unfolding behind
behind-behind vs ws (Ok l) = ap (λ xs. Ok (record { values = xs; map = l.map; left = l.left })) (sym (append_assoc vs ws l.values))
behind-behind vs ws (Err f) = refl

-- a fault is the same behind values
behind-fault : (vs : List Value) (r : Listed) (k : FaultKind) (m : Map) → r ≡ faulted k m → behind vs r ≡ faulted k m
unfolding behind
behind-fault vs r k m h = rw h refl

followed-ok : (r : Listed) (vs : List Value) (m : Map) (left : ℕ) (go : Map → ℕ → Listed) → r ≡ Ok (record { values = vs; map = m; left = left }) → followed r go ≡ behind vs (go m left)
unfolding followed
followed-ok r vs m left go h = rw h refl

followed-err : (r : Listed) (k : FaultKind) (m : Map) (go : Map → ℕ → Listed) → r ≡ faulted k m → followed r go ≡ faulted k m
unfolding followed
followed-err r k m go h = rw h refl

-- ---- over any store

module _ (t : Tree) where
  finds_as : (u v : World) (f g : Items) (before after : List Value) (given left : ℕ) → ((m : Map) → g m given ≡ f m given) → Finds t u v f before after given left → Finds t u v g before after given left
  finds_as u v f g before after given left same x =
      record {
        values = x.values;
        behind = x.behind;
        does = does_so u v (λ m n. f (map_at t m) given ≡ Ok (record { values = x.values; map = map_at t n; left = left })) (λ m n. g (map_at t m) given ≡ Ok (record { values = x.values; map = map_at t n; left = left })) x.does (λ m n h. same (map_at t m) ∙ h);
      }

  -- what finds the same
  pub finds_same : (u v : World) (f g : Items) (before after : List Value) (given left : ℕ) (r : Result (Unit {0}) FaultKind) → ((m : Map) → g m given ≡ f m given) → FindsOver t u v f before after given left r → FindsOver t u v g before after given left r
  finds_same u v f g before after given left (Ok x) same h = finds_as u v f g before after given left same h
  finds_same u v f g before after given left (Err k) same h =
      does_so u v (λ m n. f (map_at t m) given ≡ faulted k (map_at t n)) (λ m n. g (map_at t m) given ≡ faulted k (map_at t n)) h (λ m n e. same (map_at t m) ∙ e)

  finds_then : (u v w : World) (f g : Items) (before mid after : List Value) (given room left : ℕ) → Finds t u v f before mid given room → Finds t v w g mid after room left → Finds t u w (λ m n. followed (f m n) g) before after given left
  unfolding behind
  finds_then u v w f g before mid after given room left x y =
      record {
        values = x.values ++ y.values;
        behind = y.behind ∙ ap (λ vs. vs ++ y.values) x.behind ∙ append_assoc before x.values y.values;
        does = does_then u v w (λ m n. f (map_at t m) given ≡ Ok (record { values = x.values; map = map_at t n; left = room })) (λ m n. g (map_at t m) room ≡ Ok (record { values = y.values; map = map_at t n; left = left })) (λ m n. followed (f (map_at t m) given) g ≡ Ok (record { values = x.values ++ y.values; map = map_at t n; left = left })) x.does y.does (λ m n k h q. followed-ok (f (map_at t m) given) x.values (map_at t n) room g h ∙ ap (behind x.values) q);
      }

  -- one item, and then the others
  pub finds_behind : (u v w : World) (f g : Items) (before mid after : List Value) (given room left : ℕ) (r : Result (Unit {0}) FaultKind) → Finds t u v f before mid given room → FindsOver t v w g mid after room left r → FindsOver t u w (λ m n. followed (f m n) g) before after given left r
  finds_behind u v w f g before mid after given room left (Ok y) x h = finds_then u v w f g before mid after given room left x h
  finds_behind u v w f g before mid after given room left (Err k) x h =
      does_then u v w (λ m n. f (map_at t m) given ≡ Ok (record { values = x.values; map = map_at t n; left = room })) (λ m n. g (map_at t m) room ≡ faulted k (map_at t n)) (λ m n. followed (f (map_at t m) given) g ≡ faulted k (map_at t n)) x.does h (λ m n j e q. followed-ok (f (map_at t m) given) x.values (map_at t n) room g e ∙ behind-fault x.values (g (map_at t n) room) k (map_at t j) q)

  pub first_fails : (u v : World) (f g : Items) (given : ℕ) (k : FaultKind) → Does u v (λ m n. f (map_at t m) given ≡ faulted k (map_at t n)) → Does u v (λ m n. followed (f (map_at t m) given) g ≡ faulted k (map_at t n))
  first_fails u v f g given k h =
      does_so u v (λ m n. f (map_at t m) given ≡ faulted k (map_at t n)) (λ m n. followed (f (map_at t m) given) g ≡ faulted k (map_at t n)) h (λ m n e. followed-err (f (map_at t m) given) k (map_at t n) g e)

  pub finds_nothing : (w : World) (s : Scope) (before after : List Value) (given left : ℕ) → after ≡ before → left ≡ given → Finds t w w (listed s no_items) before after given left
  unfolding listed
  finds_nothing w s before after given left same all =
      record {
        values = [];
        behind = same ∙ sym (append-nil before);
        does = does_nothing w (λ m n. listed s no_items (map_at t m) given ≡ Ok (record { values = []; map = map_at t n; left = left })) (λ m. ap (λ n. Ok (record { values = []; map = map_at t m; left = n })) (sym all));
      }

-- ---- items

pub listed-more : (s : Scope) (x : ListItemTree) (xs : ListItemsTree) (m : Map) (left : ℕ) → listed s (more_items x xs) m left ≡ followed (item_listed s x m left) (listed s xs)
unfolding listed item_listed
listed-more s (value_item e) xs m left = refl
listed-more s (loop_item ys variable limits) xs m left = refl

module _ (t : Tree) (s : Scope) where
  pub value_found : (u v : World) (e : ExprTree) (before after : List Value) (given left : ℕ) (r : Result (Unit {0}) FaultKind) → AddsItem u v (λ m. item_value s e (map_at t m) given) (map_at t) before after left r → FindsOver t u v (item_listed s (value_item e)) before after given left r
  unfolding item_listed
  value_found u v e before after given left (Ok x) h =
      record {
        values = h.values;
        behind = h.behind;
        does = does_read u v (λ m. item_value s e (map_at t m) given ≡ Ok (record { values = h.values; map = map_at t m; left = left })) (λ m n. item_listed s (value_item e) (map_at t m) given ≡ Ok (record { values = h.values; map = map_at t n; left = left })) h.reads (λ m q. q);
      }
  value_found u v e before after given left (Err k) h =
      does_read u v (λ m. item_value s e (map_at t m) given ≡ faulted k (map_at t m)) (λ m n. item_listed s (value_item e) (map_at t m) given ≡ faulted k (map_at t n)) h (λ m q. q)

  -- ---- implied DOs

  module _ (ys : ListItemsTree) (variable : List ℕ) (limits : LimitsTree) where
    pub no_room : (m : Map) (given : ℕ) → given ≡ 0 → item_listed s (loop_item ys variable limits) m given ≡ faulted F8 m
    unfolding item_listed
    no_room m given none = rw none refl

    pub limits_fail : (m : Map) (given room : ℕ) (k : FaultKind) → given ≡ suc room → span_of s limits m ≡ Err k → item_listed s (loop_item ys variable limits) m given ≡ faulted k m
    unfolding item_listed with_value
    limits_fail m given room k one h = rw one (rw h refl)

    loop_is : (m : Map) (given room : ℕ) (x : Span) → given ≡ suc room → span_of s limits m ≡ Ok x → item_listed s (loop_item ys variable limits) m given ≡ trips_listed (listed s ys) variable x.step (trips x.first x.last x.step) (put m variable [] x.first) room
    unfolding item_listed with_value
    loop_is m given room x one h = rw one (rw h refl)

    module _ (w0 w1 w2 w3 : World) (given room : ℕ) (one : given ≡ suc room) (x : Span) (first : ℤ) (same : first ≡ x.first) (reads : Reads w0 w1 (λ m. span_of s limits (map_at t m) ≡ Ok x)) (set : Does w1 w2 (λ m n. map_at t n ≡ put (map_at t m) variable [] first)) where
      abbrev all_trips : Items
      all_trips = trips_listed (listed s ys) variable x.step (trips x.first x.last x.step)

      -- the limits, and the first value of the variable
      entered : Does w0 w2 (λ m n. item_listed s (loop_item ys variable limits) (map_at t m) given ≡ all_trips (map_at t n) room)
      entered =
          reads_and_does w0 w1 w2 (λ m. span_of s limits (map_at t m) ≡ Ok x) (λ m n. map_at t n ≡ put (map_at t m) variable [] first) (λ m n. item_listed s (loop_item ys variable limits) (map_at t m) given ≡ all_trips (map_at t n) room) reads set (λ m n h e. loop_is (map_at t m) given room x one h ∙ ap (λ k. all_trips k room) (sym (e ∙ ap (put (map_at t m) variable []) same)))

      pub loop_found : (before after : List Value) (left : ℕ) (r : Result (Unit {0}) FaultKind) → FindsOver t w2 w3 all_trips before after room left r → FindsOver t w0 w3 (item_listed s (loop_item ys variable limits)) before after given left r
      loop_found before after left (Ok y) h =
          record {
            values = h.values;
            behind = h.behind;
            does = does_then w0 w2 w3 (λ m n. item_listed s (loop_item ys variable limits) (map_at t m) given ≡ all_trips (map_at t n) room) (λ m n. all_trips (map_at t m) room ≡ Ok (record { values = h.values; map = map_at t n; left = left })) (λ m n. item_listed s (loop_item ys variable limits) (map_at t m) given ≡ Ok (record { values = h.values; map = map_at t n; left = left })) entered h.does (λ m n k e q. e ∙ q);
          }
      loop_found before after left (Err k) h =
          does_then w0 w2 w3 (λ m n. item_listed s (loop_item ys variable limits) (map_at t m) given ≡ all_trips (map_at t n) room) (λ m n. all_trips (map_at t m) room ≡ faulted k (map_at t n)) (λ m n. item_listed s (loop_item ys variable limits) (map_at t m) given ≡ faulted k (map_at t n)) entered h (λ m n j e q. e ∙ q)

-- ---- trips

stepped-goes : (n : List ℕ) (by : ℤ) (m new : Map) (go : Map → Listed) → Sums n by m new → stepped n by m go ≡ go new
unfolding with_value
stepped-goes n by m new go h = rw h.is (ap go (sym h.after))

stepped-fails : (n : List ℕ) (by : ℤ) (m : Map) (k : FaultKind) (go : Map → Listed) → integer (m n [] +ℤ by) ≡ Err k → stepped n by m go ≡ faulted k m
unfolding with_value
stepped-fails n by m k go h = rw h refl

-- the values of the trips so far, before those of what is left, are those of all
pub record Listing_so_far (t : Tree) (items : Items) (n : List ℕ) (first last by : ℤ) (u v : World) (before now : List Value) (given room : ℕ) (i : ℕ) : Type 0 where
  pub values : List Value
  pub follow : now ≡ before ++ values
  pub does : Does u v (λ m k. trips_listed items n by (trips first last by) (map_at t m) given ≡ behind values (trips_listed items n by (drop i (trips first last by)) (map_at t k) room))

module _ (t : Tree) (items : Items) (n : List ℕ) (first last by : ℤ) where
  abbrev left_at : ℕ → Items
  left_at i = trips_listed items n by (drop i (trips first last by))

  length-trips : length (trips first last by) ≡ trip_count first last by
  length-trips = length-map _ _ ∙ length-range_with_len 0 (trip_count first last by)

  abbrev behind_items : ℕ → Map → ℕ → Listed
  behind_items i k rest = stepped n by k (λ j. left_at (i + 1) j rest)

  one_trip : (i : ℕ) (m : Map) (room : ℕ) → i < trip_count first last by → left_at i m room ≡ followed (items m room) (behind_items i)
  unfolding trips_listed
  one_trip i m room lt = ap (λ xs. trips_listed items n by xs m room) (drop_more (trips first last by) i (pos 0) (let e = length-trips in omega arith))

  no_trip : (i : ℕ) (m : Map) (room : ℕ) → trip_count first last by ≤ i → left_at i m room ≡ Ok (record { values = []; map = m; left = room })
  unfolding trips_listed
  no_trip i m room le = ap (λ xs. trips_listed items n by xs m room) (drop_all i (trips first last by) (let e = length-trips in omega arith))

  pub trips_start : (w : World) (before : List Value) (given : ℕ) → Listing_so_far t items n first last by w w before before given given 0
  trips_start w before given =
      record {
        values = [];
        follow = sym (append-nil before);
        does = does_nothing w (λ m k. trips_listed items n by (trips first last by) (map_at t m) given ≡ behind [] (left_at 0 (map_at t k) given)) (λ m. behind-none (left_at 0 (map_at t m) given));
      }

  module _ (u v : World) (before now : List Value) (given room i : ℕ) (s : Listing_so_far t items n first last by u v before now given room i) where
    abbrev Whole : Map → Listed
    Whole m = trips_listed items n by (trips first last by) m given

    pub trips_end : trip_count first last by ≤ i → Finds t u v (trips_listed items n by (trips first last by)) before now given room
    unfolding behind
    trips_end le =
        record {
          values = s.values;
          behind = s.follow;
          does = does_so u v (λ m k. Whole (map_at t m) ≡ behind s.values (left_at i (map_at t k) room)) (λ m k. Whole (map_at t m) ≡ Ok (record { values = s.values; map = map_at t k; left = room })) s.does (λ m k h. h ∙ ap (behind s.values) (no_trip i (map_at t k) room le) ∙ ap (λ vs. Ok (record { values = vs; map = map_at t k; left = room })) (append-nil s.values));
        }

    module _ (w : World) (lt : i < trip_count first last by) where
      -- the items fault
      pub items_fail : (k : FaultKind) → Does v w (λ m j. items (map_at t m) room ≡ faulted k (map_at t j)) → Does u w (λ m j. Whole (map_at t m) ≡ faulted k (map_at t j))
      items_fail k h =
          does_then u v w (λ m j. Whole (map_at t m) ≡ behind s.values (left_at i (map_at t j) room)) (λ m j. items (map_at t m) room ≡ faulted k (map_at t j)) (λ m j. Whole (map_at t m) ≡ faulted k (map_at t j)) s.does h (λ m j x e q. e ∙ behind-fault s.values (left_at i (map_at t j) room) k (map_at t x) (one_trip i (map_at t j) room lt ∙ followed-err (items (map_at t j) room) k (map_at t x) (behind_items i) q))

      module _ (mid : List Value) (rest : ℕ) (found : Finds t v w items now mid room rest) where
        -- the items of a trip, and then the addition and the others
        through : Does u w (λ m j. Whole (map_at t m) ≡ behind (s.values ++ found.values) (behind_items i (map_at t j) rest))
        through =
            does_then u v w (λ m j. Whole (map_at t m) ≡ behind s.values (left_at i (map_at t j) room)) (λ m j. items (map_at t m) room ≡ Ok (record { values = found.values; map = map_at t j; left = rest })) (λ m j. Whole (map_at t m) ≡ behind (s.values ++ found.values) (behind_items i (map_at t j) rest)) s.does found.does (λ m j x e q. e ∙ ap (behind s.values) (one_trip i (map_at t j) room lt ∙ followed-ok (items (map_at t j) room) found.values (map_at t x) rest (behind_items i) q) ∙ behind-behind s.values found.values (behind_items i (map_at t x) rest))

        together : mid ≡ before ++ (s.values ++ found.values)
        together = found.behind ∙ ap (λ vs. vs ++ found.values) s.follow ∙ append_assoc before s.values found.values

        module _ (x : World) where
          pub addition_fails : (k : FaultKind) → Does w x (λ m j. Adds n by (map_at t m) (map_at t j) (Err k)) → Does u x (λ m j. Whole (map_at t m) ≡ faulted k (map_at t j))
          addition_fails k h =
              does_then u w x (λ m j. Whole (map_at t m) ≡ behind (s.values ++ found.values) (behind_items i (map_at t j) rest)) (λ m j. Adds n by (map_at t m) (map_at t j) (Err k)) (λ m j. Whole (map_at t m) ≡ faulted k (map_at t j)) through h (λ m j y e q. e ∙ behind-fault (s.values ++ found.values) (behind_items i (map_at t j) rest) k (map_at t y) (stepped-fails n by (map_at t j) k (λ z. left_at (i + 1) z rest) q.0 ∙ ap (faulted k) (sym q.1)))

          pub trip_found : Does w x (λ m j. Adds n by (map_at t m) (map_at t j) (Ok tt)) → Listing_so_far t items n first last by u x before mid given rest (i + 1)
          trip_found h =
              record {
                values = s.values ++ found.values;
                follow = together;
                does = does_then u w x (λ m j. Whole (map_at t m) ≡ behind (s.values ++ found.values) (behind_items i (map_at t j) rest)) (λ m j. Adds n by (map_at t m) (map_at t j) (Ok tt)) (λ m j. Whole (map_at t m) ≡ behind (s.values ++ found.values) (left_at (i + 1) (map_at t j) rest)) through h (λ m j y e q. e ∙ ap (behind (s.values ++ found.values)) (stepped-goes n by (map_at t j) (map_at t y) (λ z. left_at (i + 1) z rest) q));
              }

-- ---- a whole list

-- behind no values
pub list_found : (t : Tree) (u v : World) (items : Items) (before after : List Value) (given left : ℕ) → before ≡ [] → Finds t u v items before after given left → Does u v (λ m n. Gives (items (map_at t m) given) after (map_at t n))
list_found t u v items before after given left none x =
    does_so u v (λ m n. items (map_at t m) given ≡ Ok (record { values = x.values; map = map_at t n; left = left })) (λ m n. Gives (items (map_at t m) given) after (map_at t n)) x.does (λ m n h. record { left = left; is = h ∙ ap (λ vs. Ok (record { values = vs; map = map_at t n; left = left })) (sym (x.behind ∙ ap (λ vs. vs ++ x.values) none)) })
