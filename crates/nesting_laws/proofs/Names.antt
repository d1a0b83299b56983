-- Labels among those that open DO statements name.
use Rattle.std.proofs.Common.{◌≡◌, ℕ, Bool, true, false, List, [], ◌∷◌, ◌++◌, Option, Some, None, refl, ap, eq-eqb}
use Rattle.std.specs.Prelude.{◌&&◌, ◌||◌, not}
use Rattle.std.specs.List.{AllByRecursion}
use Rattle.std.proofs.lemmas.Bool.{eqb-true}
use Rattle.meaning.specs.LabelRules.{is_label_at}
use Rattle.meaning.specs.Syntax.{ItemTree}
use Rattle.meaning.specs.Nesting.{Level, in_range, in_block, is_label_named, is_named_at, is_named, is_hidden}

-- no open DO statement names the label of the statement
abbrev pub IsFresh : List Level → ItemTree → Type 0
IsFresh opened x = is_named x.label opened ≡ false

pub true_false : true ≡ false → ⊥
true_false e = cc

pub or_left : (a b : Bool) → (a || b) ≡ false → a ≡ false
or_left true b h = cc
or_left false b h = refl

pub or_right : (a b : Bool) → (a || b) ≡ false → b ≡ false
or_right true b h = absurd cc
or_right false b h = h

pub and_right : (a b : Bool) → (a && b) ≡ false → a ≡ true → b ≡ false
and_right true b h e = h
and_right false b h e = absurd cc

pub and_not : (a b : Bool) → b ≡ false → (a && not b) ≡ false → a ≡ false
and_not true true e h = absurd cc
and_not true false e h = absurd cc
and_not false b e h = refl

pub not_false : (a : Bool) → not a ≡ false → a ≡ true
not_false true h = refl
not_false false h = absurd cc

pub none_named : (opened : List Level) → is_named None opened ≡ false
none_named [] = refl
none_named (in_range None ∷ opened) = none_named opened
none_named (in_range (Some s) ∷ opened) = none_named opened
none_named (in_block over ∷ opened) = none_named opened

pub none_hidden : (opened : List Level) → is_hidden None opened ≡ false
none_hidden [] = refl
none_hidden (in_range None ∷ opened) = none_named opened
none_hidden (in_range (Some s) ∷ opened) = none_named opened
none_hidden (in_block over ∷ opened) = none_named opened

pub same_label : (s : ℕ) → is_label_at (Some s) s ≡ true
same_label s = eq-eqb s s refl

pub label_is : (l : Option ℕ) (s : ℕ) → is_label_at l s ≡ true → l ≡ Some s
label_is None s h = absurd cc
label_is (Some n) s h = ap (λ (k : ℕ). Some k) (eqb-true n s h)

-- the label that a DO statement names
pub named_is : (l s : Option ℕ) → is_label_named l s ≡ true → l ≡ s
named_is l None h = absurd cc
named_is l (Some n) h = label_is l n h

pub hidden_behind_same : (l s : Option ℕ) (opened : List Level) → is_label_named l s ≡ true → is_hidden l (in_range s ∷ opened) ≡ is_hidden l opened
hidden_behind_same l s opened e = rw e refl

pub hidden_behind_other : (l s : Option ℕ) (opened : List Level) → is_label_named l s ≡ false → is_hidden l (in_range s ∷ opened) ≡ is_named l opened
hidden_behind_other l s opened e = rw e refl

pub named_behind_other : (l s : Option ℕ) (opened : List Level) → is_label_named l s ≡ false → is_named l (in_range s ∷ opened) ≡ is_named l opened
named_behind_other l s opened e = rw e refl

pub fresh_unhidden : (l : Option ℕ) (opened : List Level) → is_named l opened ≡ false → is_hidden l opened ≡ false
fresh_unhidden l [] h = refl
fresh_unhidden l (m ∷ opened) h = rw (or_left (is_named_at l m) (is_named l opened) h) (or_right (is_named_at l m) (is_named l opened) h)

pub all_append : {A : Type 0} (P : A → Type 0) (xs ys : List A) → AllByRecursion P xs → AllByRecursion P ys → AllByRecursion P (xs ++ ys)
all_append P [] ys h k = k
all_append P (x ∷ xs) ys h k = (h.0, all_append P xs ys h.1 k)

pub all_left : {A : Type 0} (P : A → Type 0) (xs ys : List A) → AllByRecursion P (xs ++ ys) → AllByRecursion P xs
all_left P [] ys h = tt
all_left P (x ∷ xs) ys h = (h.0, all_left P xs ys h.1)

pub all_right : {A : Type 0} (P : A → Type 0) (xs ys : List A) → AllByRecursion P (xs ++ ys) → AllByRecursion P ys
all_right P [] ys h = h
all_right P (x ∷ xs) ys h = all_right P xs ys h.1

pub all_follow : {A : Type 0} (P Q : A → Type 0) → ((x : A) → P x → Q x) → (xs : List A) → AllByRecursion P xs → AllByRecursion Q xs
all_follow P Q f [] h = tt
all_follow P Q f (x ∷ xs) h = (f x h.0, all_follow P Q f xs h.1)

-- what is fresh in a range is fresh around it, and hasn't the label of the range
pub fresh_around : (s : Option ℕ) (opened : List Level) (x : ItemTree) → IsFresh (in_range s ∷ opened) x → IsFresh opened x
fresh_around s opened x h = or_right (is_label_named x.label s) (is_named x.label opened) h

pub fresh_other : (s : Option ℕ) (opened : List Level) (x : ItemTree) → IsFresh (in_range s ∷ opened) x → is_label_named x.label s ≡ false
fresh_other s opened x h = or_left (is_label_named x.label s) (is_named x.label opened) h
