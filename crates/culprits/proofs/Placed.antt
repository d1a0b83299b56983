-- What is asked at a line is asked of the first thing there.
use Rattle.std.proofs.Common.{◌≡◌, ℕ, Bool, true, false, ◌||◌, List, [], ◌∷◌, ◌++◌, map, append_assoc, refl, sym, ap, ap₂, ◌∙◌, eq-eqb, eqb-true, Option, Some, None}
use Rattle.std.specs.Prelude.{◌==◌, if◌then◌else◌}
use Rattle.std.specs.List.{find, list_any}
use Rattle.std.specs.Option.{option_or}
use Rattle.std.proofs.lemmas.List.{append-nil, map-append}
use Rattle.culprits.specs.Placing.{at_line}

module _ {A X : Type 0} (line_of : X → ℕ) (ask : List X → X → Option A) (line : ℕ) where
  abbrev pub none_there : List X → Bool
  none_there ys = list_any (λ y. line_of y == line) ys

  -- the first thing there, between those before it and behind it
  pub record IsAsked (before xs : List X) (a : A) : Type 0 where
    pub front : List X
    pub one : X
    pub back : List X
    pub parts : xs ≡ front ++ (one ∷ back)
    pub line_is : line_of one ≡ line
    pub first : none_there front ≡ false
    pub answer : ask (before ++ front) one ≡ Some a

  pub asked_of : (before xs : List X) (a : A) → at_line line_of ask line before xs ≡ Some a → IsAsked before xs a
  unfolding at_line
  asked_of before [] a is = absurd cc
  asked_of before (x ∷ xs) a is = by_test (line_of x == line) refl (asked_of (before ++ x ∷ []) xs a) is
    where
      by_test : (b : Bool) → (line_of x == line) ≡ b → (at_line line_of ask line (before ++ x ∷ []) xs ≡ Some a → IsAsked (before ++ x ∷ []) xs a) → (if b then ask before x else at_line line_of ask line (before ++ x ∷ []) xs) ≡ Some a → IsAsked before (x ∷ xs) a
      by_test true here further is = record {
        front = [];
        one = x;
        back = xs;
        parts = refl;
        line_is = eqb-true (line_of x) line here;
        first = refl;
        answer = ap (λ ys. ask ys x) (append-nil before) ∙ is;
      }
      by_test false there further is =
          let r = further is in
          record {
            front = x ∷ r.front;
            one = r.one;
            back = r.back;
            parts = ap (λ ys. x ∷ ys) r.parts;
            line_is = r.line_is;
            first = ap (λ b. b || none_there r.front) there ∙ r.first;
            answer = ap (λ ys. ask ys r.one) (sym (append_assoc before (x ∷ []) r.front)) ∙ r.answer;
          }

  pub asked_none : (before front : List X) (x : X) (back : List X) → line_of x ≡ line → none_there front ≡ false → at_line line_of ask line before (front ++ (x ∷ back)) ≡ None → ask (before ++ front) x ≡ None
  unfolding at_line
  asked_none before [] x back here first is =
      ap (λ ys. ask ys x) (append-nil before)
      ∙ sym (ap (λ b. if b then ask before x else at_line line_of ask line (before ++ x ∷ []) back) (eq-eqb (line_of x) line here)) ∙ is
  asked_none before (y ∷ ys) x back here first is =
      by_test (line_of y == line) (asked_none (before ++ y ∷ []) ys x back here) first is
    where
      by_test : (b : Bool) → (none_there ys ≡ false → at_line line_of ask line (before ++ y ∷ []) (ys ++ (x ∷ back)) ≡ None → ask ((before ++ y ∷ []) ++ ys) x ≡ None) → (b || none_there ys) ≡ false → (if b then ask before y else at_line line_of ask line (before ++ y ∷ []) (ys ++ (x ∷ back))) ≡ None → ask (before ++ (y ∷ ys)) x ≡ None
      by_test true further lacks is = absurd cc
      by_test false further lacks is =
          ap (λ zs. ask zs x) (sym (append_assoc before (y ∷ []) ys)) ∙ further lacks is

-- two questions in one
pub asked_both : {A X : Type 0} (line_of : X → ℕ) (ask other : List X → X → Option A) (line : ℕ) (before xs : List X) → at_line line_of (λ ys x. option_or (ask ys x) (other ys x)) line before xs ≡ option_or (at_line line_of ask line before xs) (at_line line_of other line before xs)
unfolding at_line
asked_both line_of ask other line before [] = refl
asked_both line_of ask other line before (x ∷ xs) =
    by_test (line_of x == line) (asked_both line_of ask other line (before ++ x ∷ []) xs)
  where
    by_test : (b : Bool) → at_line line_of (λ ys y. option_or (ask ys y) (other ys y)) line (before ++ x ∷ []) xs ≡ option_or (at_line line_of ask line (before ++ x ∷ []) xs) (at_line line_of other line (before ++ x ∷ []) xs) → (if b then option_or (ask before x) (other before x) else at_line line_of (λ ys y. option_or (ask ys y) (other ys y)) line (before ++ x ∷ []) xs) ≡ option_or (if b then ask before x else at_line line_of ask line (before ++ x ∷ []) xs) (if b then other before x else at_line line_of other line (before ++ x ∷ []) xs)
    by_test true more = refl
    by_test false more = more

-- a question of what things stand for
pub asked_mapped : {A X Y : Type 0} (f : X → Y) (line_of : Y → ℕ) (ask : List Y → Y → Option A) (line : ℕ) (before xs : List X) → at_line (λ x. line_of (f x)) (λ ys x. ask (map f ys) (f x)) line before xs ≡ at_line line_of ask line (map f before) (map f xs)
unfolding at_line
asked_mapped f line_of ask line before [] = refl
asked_mapped f line_of ask line before (x ∷ xs) =
    ap (λ o. if line_of (f x) == line then ask (map f before) (f x) else o) (asked_mapped f line_of ask line (before ++ x ∷ []) xs ∙ ap (λ ys. at_line line_of ask line ys (map f xs)) (map-append f before (x ∷ [])))

-- a question that asks nothing of what stands before
abbrev pub then_ask : {A X : Type 0} → (X → Option A) → Option X → Option A
then_ask ask None = None
then_ask ask (Some x) = ask x

pub asked_alone : {A X : Type 0} (line_of : X → ℕ) (ask : X → Option A) (line : ℕ) (before xs : List X) → at_line line_of (λ ys x. ask x) line before xs ≡ then_ask ask (find (λ x. line_of x == line) xs)
unfolding at_line
asked_alone line_of ask line before [] = refl
asked_alone line_of ask line before (x ∷ xs) =
    by_test (line_of x == line) (asked_alone line_of ask line (before ++ x ∷ []) xs)
  where
    by_test : (b : Bool) → at_line line_of (λ ys y. ask y) line (before ++ x ∷ []) xs ≡ then_ask ask (find (λ y. line_of y == line) xs) → (if b then ask x else at_line line_of (λ ys y. ask y) line (before ++ x ∷ []) xs) ≡ then_ask ask (if b then Some x else find (λ y. line_of y == line) xs)
    by_test true more = refl
    by_test false more = more
