-- What the places of one name are given, within what all names are given.
use Rattle.std.proofs.Common.{◌≡◌, ℕ, suc, ◌+◌, ◌-◌, ◌<◌, ◌≤◌, inl, inr, Bool, true, false, true≢false, ◌||◌, ◌&&◌, ◌==◌, List, [], ◌∷◌, Option, Some, None, option_map, Result, Ok, Err, refl, sym, ap, ◌∙◌, arith, cond}
use Rattle.std.specs.Prelude.{if◌then◌else◌, is_some}
use Rattle.std.specs.Global.{Vec}
use Rattle.std.specs.List.{range_with_len}
use Rattle.std.specs.Map.{lookup, set_value}
use Rattle.std.specs.Result.{IfOk}
use Rattle.std.specs.Str.{bytes_eq}
use Rattle.std.proofs.Math.Path.{fun_ext}
use Rattle.std.proofs.lemmas.Slice.Eq.{bytes_eq-Decides}
use Rattle.indexmap.specs.IndexMap.{IndexMap, insert_entry}
use Rattle.meaning.specs.declared.ending.Value.{Value}
use Rattle.meaning.specs.Types.{Types}
use Rattle.meaning.specs.Typing.{SomeType, clash}
use Rattle.meaning.specs.Initial.{and_also, value_type}
use Rattle.name_maps.specs.Keeping.{kept_at}
use Rattle.expressions.specs.Places.{capped}
use Rattle.data_rules.specs.declared.filling.Way.{Way}
use Rattle.data_rules.specs.DataSlots.{Slots, StandsFor, give_next, give_slot, give_slots, slot_by, with_next, with_slot}
use Rattle.data_rules.specs.DataStages.{Found, Stage, first_of, found_by, give, give_places, give_value, keeps, stops, with_found, with_given}
use Rattle.data_rules.specs.Filled.{Comes}
use Rattle.data_rules.specs.Slots.{given_in, slot_at, slot_if}
use Rattle.declarations.proofs.KnownBy.{looked_inserted}

-- a look-up behind a write to what a name has
looked_set : {V : Type 0} (n name : List ℕ) (es : List (Vec ℕ × V)) (w : V) → is_some (lookup (λ k. bytes_eq name k.items) es) ≡ true → lookup (λ k. bytes_eq n k.items) (set_value (λ k. bytes_eq name k.items) es w) ≡ (if bytes_eq n name then Some w else lookup (λ k. bytes_eq n k.items) es)
looked_set n name [] w there = absurd (true≢false (sym there))
looked_set n name (e ∷ es) w there = by_test (looked_set n name es w) (bytes_eq name e.0.items) refl there
  where
    both : (b : Bool) → cond b (Some w) (lookup (λ k. bytes_eq n k.items) es) ≡ (if b then Some w else cond b (Some e.1) (lookup (λ k. bytes_eq n k.items) es))
    both true = refl
    both false = refl

    apart : (b c : Bool) → (c ≡ true → b ≡ false) → cond b (Some e.1) (if c then Some w else lookup (λ k. bytes_eq n k.items) es) ≡ (if c then Some w else cond b (Some e.1) (lookup (λ k. bytes_eq n k.items) es))
    apart true true h = absurd (true≢false (h refl))
    apart true false h = refl
    apart false true h = refl
    apart false false h = refl

    by_test : (is_some (lookup (λ k. bytes_eq name k.items) es) ≡ true → lookup (λ k. bytes_eq n k.items) (set_value (λ k. bytes_eq name k.items) es w) ≡ (if bytes_eq n name then Some w else lookup (λ k. bytes_eq n k.items) es)) → (b : Bool) → bytes_eq name e.0.items ≡ b → is_some (cond b (Some e.1) (lookup (λ k. bytes_eq name k.items) es)) ≡ true → lookup (λ k. bytes_eq n k.items) (cond b ((e.0, w) ∷ es) (e ∷ set_value (λ k. bytes_eq name k.items) es w)) ≡ (if bytes_eq n name then Some w else lookup (λ k. bytes_eq n k.items) (e ∷ es))
    by_test rest true same there =
        both (bytes_eq n e.0.items) ∙ ap (λ x. if bytes_eq n x then Some w else cond (bytes_eq n e.0.items) (Some e.1) (lookup (λ k. bytes_eq n k.items) es)) (sym ((bytes_eq-Decides name e.0.items).0 same))
    by_test rest false other there =
        ap (λ r. cond (bytes_eq n e.0.items) (Some e.1) r) (rest there)
        ∙ apart (bytes_eq n e.0.items) (bytes_eq n name) (λ same. ap (λ x. bytes_eq x e.0.items) ((bytes_eq-Decides n name).0 same) ∙ other)

-- ---- one name among all

abbrev pub with_slots : List ℕ → (ℕ → Option Value) → Found → Found
with_slots name slots found = λ n. if bytes_eq n name then slots else found n

-- the places of a name at a stage, and a stage with these
abbrev pub within : List ℕ → Stage → Slots
within n s = record { given = s.given n; values = s.values; way = s.way }

abbrev pub back : List ℕ → Stage → Slots → Stage
back n s l = record { given = with_slots n l.given s.given; values = l.values; way = l.way }

own_slots : (n : List ℕ) (found : Found) → with_slots n (found n) found ≡ found
own_slots n found = fun_ext (λ m. by m (bytes_eq m n) refl)
  where
    by : (m : List ℕ) (b : Bool) → bytes_eq m n ≡ b → (if b then found n else found m) ≡ found m
    by m true same = ap found (sym ((bytes_eq-Decides m n).0 same))
    by m false other = refl

twice : (n : List ℕ) (found : Found) (f g : ℕ → Option Value) → with_slots n g (with_slots n f found) ≡ with_slots n g found
twice n found f g = fun_ext (λ m. by m (bytes_eq m n))
  where
    by : (m : List ℕ) (b : Bool) → (if b then g else (if b then f else found m)) ≡ (if b then g else found m)
    by m true = refl
    by m false = refl

same_name : (n : List ℕ) → bytes_eq n n ≡ true
same_name n = (bytes_eq-Decides n n).1 refl

one_found : (n : List ℕ) (i : ℕ) (v : Value) (found : Found) → with_found n i v found ≡ with_slots n (with_slot i v (found n)) found
one_found n i v found = fun_ext (λ m. fun_ext (λ k. by m k (bytes_eq m n) refl))
  where
    by : (m : List ℕ) (k : ℕ) (b : Bool) → bytes_eq m n ≡ b → (if b && (i == k) then Some v else found m k) ≡ (if b then with_slot i v (found n) else found m) k
    by m k true same = ap (λ x. if i == k then Some v else found x k) ((bytes_eq-Decides m n).0 same)
    by m k false other = refl

-- and in some way
found_within : (w : Way) (n : List ℕ) (i : ℕ) (v : Value) (found : Found) → found_by w n i v found ≡ with_slots n (slot_by w i v (found n)) found
found_within w n i v found = by (keeps w)
  where
    by : (b : Bool) → (if b then with_found n i v found else found) ≡ with_slots n (if b then with_slot i v (found n) else found n) found
    by true = one_found n i v found
    by false = sym (own_slots n found)

module _ (types : Types) (n : List ℕ) where
  give_within : (i : ℕ) (s : Stage) → give types n i s ≡ option_map (back n s) (give_slot (types n) i (within n s))
  give_within i s = by_value (first_of s.values)
    where
      by_test : (v : Value) (b : Bool) → (if b then None else Some (with_given n i v s)) ≡ option_map (back n s) (if b then None else Some (with_next i v (within n s)))
      by_test v true = refl
      by_test v false =
          ap (λ g. Some (record { given = g; values = (with_given n i v s).values; way = (with_given n i v s).way })) (found_within s.way n i v s.given)

      by_value : (o : Option Value) → give_value types n i s o ≡ option_map (back n s) (give_next (types n) i (within n s) o)
      by_value None = refl
      by_value (Some v) = by_test v (clash (types n) (value_type v) || stops s.way (is_some (s.given n i)))

  pub places_within : (is : List ℕ) (s : Stage) → give_places types n is s ≡ option_map (back n s) (give_slots (types n) is (within n s))
  places_within [] s =
      ap (λ g. Some (record { given = g; values = s.values; way = s.way })) (sym (own_slots n s.given))
  places_within (i ∷ is) s =
      ap (λ o. and_also o (give_places types n is)) (give_within i s) ∙ by_rest (λ r. places_within is r) (give_slot (types n) i (within n s))
    where
      here : (l : Slots) → within n (back n s l) ≡ l
      here l =
          ap (λ b. record { given = if b then l.given else s.given n; values = l.values; way = l.way }) (same_name n)

      again : (l m : Slots) → back n (back n s l) m ≡ back n s m
      again l m = ap (λ g. record { given = g; values = m.values; way = m.way }) (twice n s.given l.given m.given)

      by_rest : ((r : Stage) → give_places types n is r ≡ option_map (back n r) (give_slots (types n) is (within n r))) → (o : Option Slots) → and_also (option_map (back n s) o) (give_places types n is) ≡ option_map (back n s) (and_also o (give_slots (types n) is))
      by_rest rest None = refl
      by_rest rest (Some l) =
          rest (back n s l) ∙ ap (λ x. option_map (back n (back n s l)) (give_slots (types n) is x)) (here l)
          ∙ ap (λ f. option_map f (give_slots (types n) is l)) (fun_ext (again l))

  module _ (is : List ℕ) (s : Stage) (l : Slots) (new : Stage) (same : back n s l ≡ new) where
    pub comes_back : (b : Bool) → Comes (give_slots (types n) is (within n s)) l b → Comes (give_places types n is s) new b
    comes_back b comes = places_within is s ∙ ap (option_map (back n s)) comes ∙ by b
      where
        by : (b : Bool) → option_map (back n s) (if b then Some l else None) ≡ (if b then Some new else None)
        by true = ap Some same
        by false = refl

    pub ok_comes : {E : Type 0} (r : Result Bool E) → IfOk r (λ b. Comes (give_slots (types n) is (within n s)) l b) → IfOk r (λ b. Comes (give_places types n is s) new b)
    ok_comes (Ok b) h = comes_back b h
    ok_comes (Err e) h = tt

-- ---- as they are kept

module _ {S : Type 0} (m new : IndexMap (Vec ℕ) (Vec (Option Value)) S) (name : List ℕ) (w : Vec (Option Value)) where
  by_name : (n : List ℕ) (b : Bool) → (λ (i : ℕ). slot_if (if b then Some w else kept_at m n) i) ≡ (if b then slot_at w.items else given_in m n)
  by_name n true = refl
  by_name n false = refl

  -- the name has slots
  pub slots_there : is_some (kept_at m name) ≡ true → new.entries ≡ set_value (λ k. bytes_eq name k.items) m.entries w → given_in new ≡ with_slots name (slot_at w.items) (given_in m)
  slots_there there written = fun_ext (λ n.
      ap (λ es. λ (i : ℕ). slot_if (lookup (λ x. bytes_eq n x.items) es) i) written
      ∙ ap (λ o. λ (i : ℕ). slot_if o i) (looked_set n name m.entries w there) ∙ by_name n (bytes_eq n name))

  -- a new name
  pub slots_new : (own : Vec ℕ) → own.items ≡ name → new.entries ≡ insert_entry (λ a b. bytes_eq a.items b.items) m.entries own w → given_in new ≡ with_slots name (slot_at w.items) (given_in m)
  slots_new own same added = fun_ext (λ n.
      ap (λ es. λ (i : ℕ). slot_if (lookup (λ x. bytes_eq n x.items) es) i) added
      ∙ ap (λ o. λ (i : ℕ). slot_if o i) (looked_inserted n m.entries own w ∙ ap (λ x. if bytes_eq n x then Some w else kept_at m n) same) ∙ by_name n (bytes_eq n name))

-- ---- one place after another

pub slot_step : (type : SomeType) (first i m : ℕ) (s : Slots) → i < m → give_slots type (range_with_len (first + i) (m - i)) s ≡ and_also (give_slot type (first + i) s) (give_slots type (range_with_len (first + (i + 1)) (m - (i + 1))))
slot_step type first i m s lt =
    let more : m - i ≡ suc (m - (i + 1)) = omega (arith, lt) in
    let next : (first + i) + 1 ≡ first + (i + 1) = omega arith in
    ap (λ k. give_slots type (range_with_len (first + i) k) s) more
    ∙ ap (λ j. and_also (give_slot type (first + i) s) (give_slots type (range_with_len j (m - (i + 1))))) next

pub slots_done : (type : SomeType) (first i m : ℕ) (s : Slots) → m ≤ i → give_slots type (range_with_len (first + i) (m - i)) s ≡ Some s
slots_done type first i m s le =
    let none : m - i ≡ 0 = omega (arith, le) in
    ap (λ k. give_slots type (range_with_len (first + i) k) s) none

-- a place that is counted to 2^64-1 stands for the first of so many, and so do those behind it
pub stands_behind : (first count i behind : ℕ) → StandsFor first count i → behind < count → first + behind ≡ capped (i + behind)
stands_behind first count i behind (is, inl few) lt = omega (arith, is, few, lt)
stands_behind first count i behind (is, inr one) lt = omega (arith, is, one, lt)
