-- What is read as a DATA statement is spelled so, and well formed.
use Rattle.std.proofs.Common.{◌≡◌, ℕ, zero, suc, true, eqb, List, [], ◌∷◌, ◌++◌, length, Option, Some, None, inl, inr, refl, sym, ap, subst, ◌∙◌, append_assoc, arith}
use Rattle.std.specs.Prelude.{IsTrue, codes}
use Rattle.std.specs.List.{AllByRecursion}
use Rattle.std.proofs.lemmas.Bool.{cases_Bool}
use Rattle.meaning.specs.declared.syntax.Sign.{Sign}
use Rattle.meaning.specs.Characters.{is_digit, is_alphanumeric, is_name, is_number}
use Rattle.meaning.specs.Syntax.{ListItemsTree, DataConstantTree, data_number, data_truth, data_name, RepeatTree, repeat_number, repeat_name, DataValueTree, DataSetTree, ShapeTree, initializing}
use Rattle.meaning.specs.Spelling.{spell_comma, Reads}
use Rattle.meaning.specs.Reading.{Text, run, truth_at, name_at, comma_at, number_behind_sign, unsigned_at, data_constant_at, begins_repeat, repeat_of, repeated_value_at, data_value_at, data_list_at, data_set_at, data_sets_of, initializing_of}
use Rattle.meaning.specs.Spelling.{joined, spell_items, are_data_items, spell_sign, spell_data_constant, IsWellDataConstant, spell_repeat, IsWellRepeat, spell_data_value, IsWellDataValue, spell_data_set, IsWellDataSet, spell_data_sets}
use Rattle.form_laws.proofs.Joined.{set_regrouped}
use Rattle.form_laws.proofs.Words.{after_takes, bind_some, when_some, either_some, made_is, run_takes}
use Rattle.form_laws.proofs.SoundExpressions.{truth_takes, name_takes, sign_takes}
use Rattle.form_laws.proofs.SoundLists.{BeginsItems, items_take, comma_takes}
use Rattle.form_laws.proofs.SoundStatements.{separated_take}

-- ---- DATA statements

abbrev pub TakesConstant : Text → DataConstantTree × Text → Type 0
TakesConstant t x = (t ≡ spell_data_constant x.0 ++ x.1) × IsWellDataConstant x.0

number_takes : (o : Option Sign) (t : Text) (x : DataConstantTree × Text) → number_behind_sign o t ≡ Some x → TakesConstant (spell_sign o ++ t) x
unfolding number_behind_sign
number_takes o t x e =
    let r = run is_digit t in
    when_some _ _ x e (λ digits e. made_is (TakesConstant (spell_sign o ++ t)) (data_number o r.0, r.1) x e (ap (λ u. spell_sign o ++ u) (run_takes is_digit t) ∙ sym (append_assoc (spell_sign o) r.0 r.1), digits))

unsigned_takes : (t : Text) (x : DataConstantTree × Text) → unsigned_at t ≡ Some x → TakesConstant t x
unfolding unsigned_at
unsigned_takes [] x e = absurd cc
unsigned_takes (c ∷ t) x e =
    elim (cases_Bool (is_digit c)) [
      | inl digit ↦ number_takes None (c ∷ t) x (rw digit at e)
      | inr other ↦ elim (cases_Bool (eqb c 46)) [
        | inl dot ↦ bind_some (truth_at (c ∷ t)) (λ b. Some (data_truth b.0, b.1)) x (rw (other, dot) at e) (λ b e1 e2. made_is (TakesConstant (c ∷ t)) (data_truth b.0, b.1) x e2 (truth_takes (c ∷ t) b e1, tt))
        | inr named ↦ bind_some (name_at (c ∷ t)) (λ n. Some (data_name n.0, n.1)) x (rw (other, named) at e) (λ n e1 e2.
            let a = name_takes (c ∷ t) n e1 in made_is (TakesConstant (c ∷ t)) (data_name n.0, n.1) x e2 (a.0, a.1))
      ]
    ]

data_constant_takes : (t : Text) (x : DataConstantTree × Text) → data_constant_at t ≡ Some x → TakesConstant t x
unfolding data_constant_at
data_constant_takes t x e =
    either_some _ _ _ x e (λ none e. unsigned_takes t x e) (λ s is e. subst (λ (u : Text). TakesConstant u x) (sym (sign_takes t s is)) (number_takes (Some s.0) s.1 x e))

repeat_takes : (word : Text) (r : RepeatTree) → repeat_of word ≡ Some r → (word ++ codes "*" ≡ spell_repeat (Some r)) × IsWellRepeat (Some r)
unfolding repeat_of
repeat_takes word r e =
    let P : RepeatTree → Type 0 = λ r. (word ++ codes "*" ≡ spell_repeat (Some r)) × IsWellRepeat (Some r) in
    elim (cases_Bool (is_number word)) [
      | inl digits ↦ made_is P (repeat_number word) r (rw digits at e) (refl, digits)
      | inr other ↦ when_some (is_name word) (Some (repeat_name word)) r (rw other at e) (λ named e. made_is P (repeat_name word) r e (refl, named))
    ]

abbrev pub TakesValue : Text → DataValueTree × Text → Type 0
TakesValue t x = (t ≡ spell_data_value x.0 ++ x.1) × IsWellDataValue x.0

repeated_value_takes : (t : Text) (x : DataValueTree × Text) → repeated_value_at t ≡ Some x → TakesValue t x
unfolding repeated_value_at
repeated_value_takes t x e =
    let w = run is_alphanumeric t in
    bind_some _ _ x e (λ r e1 e. bind_some _ _ x e (λ rest e2 e. bind_some _ _ x e (λ c e3 e.
    let a = repeat_takes w.0 r e1 in
    let b = after_takes (codes "*") w.1 rest e2 in
    let d = data_constant_takes rest c e3 in
    made_is (TakesValue t) (record { repeat_count = Some r; constant = c.0 }, c.1) x e
    (repeated_whole t w.0 w.1 rest (spell_repeat (Some r)) (spell_data_constant c.0) c.1 (run_takes is_alphanumeric t) b a.0 d.0, (a.1, d.1)))))
  where
    repeated_whole : (t w w1 rest r c c1 : Text) → t ≡ w ++ w1 → w1 ≡ codes "*" ++ rest → w ++ codes "*" ≡ r → rest ≡ c ++ c1 → t ≡ (r ++ c) ++ c1
    repeated_whole t w w1 rest r c c1 a b same d = rw (a, b, d, ← same, append_assoc (w ++ codes "*") c c1, append_assoc w (codes "*") (c ++ c1)) refl

data_value_takes : (t : Text) (x : DataValueTree × Text) → data_value_at t ≡ Some x → TakesValue t x
unfolding data_value_at
data_value_takes t x e =
    elim (cases_Bool (begins_repeat t)) [
      | inl repeated ↦ repeated_value_takes t x (rw repeated at e)
      | inr other ↦ bind_some (data_constant_at t) (λ c. Some (record { repeat_count = None; constant = c.0 }, c.1)) x (rw other at e) (λ c e1 e2.
          let a = data_constant_takes t c e1 in made_is (TakesValue t) (record { repeat_count = None; constant = c.0 }, c.1) x e2 (a.0, (tt, a.1)))
    ]

abbrev pub TakesList : Text → ListItemsTree × Text → Type 0
TakesList t x = BeginsItems 8 t x × IsTrue (are_data_items true x.0)

data_list_takes : (t : Text) (x : ListItemsTree × Text) → data_list_at t ≡ Some x → TakesList t x
unfolding data_list_at
data_list_takes t x e =
    bind_some _ _ x e (λ xs e1 e. when_some _ _ x e (λ all e. made_is (TakesList t) xs x e (items_take 8 (suc (length t)) t xs (omega arith) e1, all)))

abbrev pub TakesSet : Text → DataSetTree × Text → Type 0
TakesSet t x = (t ≡ spell_data_set x.0 ++ x.1) × IsWellDataSet x.0

data_set_takes : (t : Text) (x : DataSetTree × Text) → data_set_at t ≡ Some x → TakesSet t x
unfolding data_set_at
data_set_takes t x e =
    bind_some _ _ x e (λ xs e1 e. bind_some _ _ x e (λ rest e2 e. bind_some _ _ x e (λ vs e3 e. bind_some _ _ x e (λ behind e4 e.
    let a = data_list_takes (comma_at t).1 xs e1 in
    let b = after_takes (codes "/") xs.1 rest e2 in
    let c = separated_take DataValueTree data_value_at spell_data_value IsWellDataValue data_value_takes (suc (length rest)) rest vs e3 in
    let d = after_takes (codes "/") vs.1 behind e4 in
    made_is (TakesSet t) (record { comma = (comma_at t).0; list = xs.0; values = vs.0 }, behind) x e
    (set_whole t (spell_comma (comma_at t).0) (comma_at t).1 (spell_items xs.0) xs.1 rest (joined spell_data_value vs.0) vs.1 behind (comma_takes t) a.0.whole b c.whole d, (a.0.some, (a.0.well, (a.1, (c.some, c.well)))))))))
  where
    set_whole : (t comma c1 xs xs1 rest vs vs1 behind : Text) → t ≡ comma ++ c1 → c1 ≡ xs ++ xs1 → xs1 ≡ 47 ∷ rest → rest ≡ vs ++ vs1 → vs1 ≡ 47 ∷ behind → t ≡ (comma ++ (xs ++ (47 ∷ (vs ++ 47 ∷ [])))) ++ behind
    set_whole t comma c1 xs xs1 rest vs vs1 behind a b c d f = rw (a, b, c, d, f) (sym (set_regrouped comma xs vs behind))

data_sets_take : (n : ℕ) (t : Text) (ss : List DataSetTree) → data_sets_of n t ≡ Some ss → (t ≡ spell_data_sets ss) × AllByRecursion IsWellDataSet ss
unfolding data_sets_of
data_sets_take zero t ss e = absurd cc
data_sets_take (suc n) [] ss e = made_is (λ ss. ([] ≡ spell_data_sets ss) × AllByRecursion IsWellDataSet ss) [] ss e (refl, tt)
data_sets_take (suc n) (c ∷ t) ss e =
    bind_some _ _ ss e (λ s e1 e. bind_some _ _ ss e (λ more e2 e.
    let a = data_set_takes (c ∷ t) s e1 in
    let b = data_sets_take n s.1 more e2 in
    made_is (λ ss. (c ∷ t ≡ spell_data_sets ss) × AllByRecursion IsWellDataSet ss) (s.0 ∷ more) ss e (a.0 ∙ ap (λ u. spell_data_set s.0 ++ u) b.0, (a.1, b.1))))

pub initializing_takes : (t : Text) (s : ShapeTree) → initializing_of t ≡ Some s → Reads t s
unfolding initializing_of
initializing_takes t s e =
    bind_some _ _ s e (λ rest e1 e. bind_some _ _ s e (λ ss e2 e. when_some _ _ s e (λ front e.
    let a = after_takes (codes "DATA") t rest e1 in
    let b = data_sets_take (suc (length rest)) rest ss e2 in
    made_is (Reads t) (initializing ss) s e (record { well = (front, b.1); spelled = rw (a, b.0) refl }))))
