-- What the code keeps of the statements that were read tells which may stand behind them.
use Rattle.std.proofs.Common.{◌≡◌, Bool, true, false, List, [], ◌∷◌, ◌++◌, refl, sym, ap, ◌∙◌}
use Rattle.std.specs.Prelude.{◌||◌, not}
use Rattle.std.specs.List.{list_any}
use Rattle.std.proofs.lemmas.List.Folds.{list_any-append}
use Rattle.meaning.specs.Syntax.{ItemTree}
use Rattle.meaning.specs.Nesting.{Place, at_program, at_implicit, at_parameter, at_typing, at_format, at_executable, place_of, may_stand_before, is_misplaced}
use Rattle.nesting.specs.declared.order.Order.{Order}
use Rattle.nesting.specs.Places.{is_at_typing, is_at_executable, IsOrderOf, misplaced_by}

abbrev any_place : (Place → Bool) → List ItemTree → Bool
any_place f items = list_any (λ (x : ItemTree). f (place_of x.shape)) items

any_same : (f g : Place → Bool) → ((p : Place) → f p ≡ g p) → (xs : List ItemTree) → any_place f xs ≡ any_place g xs
any_same f g e [] = refl
any_same f g e (x ∷ xs) = rw (e (place_of x.shape), any_same f g e xs) refl

four : (a b c d : Bool) → ((a || b) || (c || d)) ≡ ((a || c) || (b || d))
four true b c d = refl
four false true true d = refl
four false true false d = refl
four false false c d = refl

any_or : (f g : Place → Bool) (xs : List ItemTree) → any_place (λ p. f p || g p) xs ≡ (any_place f xs || any_place g xs)
any_or f g [] = refl
any_or f g (x ∷ xs) = rw (any_or f g xs) (four (f (place_of x.shape)) (g (place_of x.shape)) (any_place f xs) (any_place g xs))

none_any : (xs : List ItemTree) → any_place (λ p. false) xs ≡ false
none_any [] = refl
none_any (x ∷ xs) = none_any xs

-- ---- what stands before a place

before_program : (p : Place) → not (may_stand_before p at_program) ≡ true
before_program at_program = refl
before_program at_implicit = refl
before_program at_parameter = refl
before_program at_typing = refl
before_program at_format = refl
before_program at_executable = refl

before_implicit : (p : Place) → not (may_stand_before p at_implicit) ≡ (is_at_typing p || is_at_executable p)
before_implicit at_program = refl
before_implicit at_implicit = refl
before_implicit at_parameter = refl
before_implicit at_typing = refl
before_implicit at_format = refl
before_implicit at_executable = refl

before_parameter : (p : Place) → not (may_stand_before p at_parameter) ≡ is_at_executable p
before_parameter at_program = refl
before_parameter at_implicit = refl
before_parameter at_parameter = refl
before_parameter at_typing = refl
before_parameter at_format = refl
before_parameter at_executable = refl

before_typing : (p : Place) → not (may_stand_before p at_typing) ≡ is_at_executable p
before_typing at_program = refl
before_typing at_implicit = refl
before_typing at_parameter = refl
before_typing at_typing = refl
before_typing at_format = refl
before_typing at_executable = refl

before_format : (p : Place) → not (may_stand_before p at_format) ≡ false
before_format at_program = refl
before_format at_implicit = refl
before_format at_parameter = refl
before_format at_typing = refl
before_format at_format = refl
before_format at_executable = refl

before_executable : (p : Place) → not (may_stand_before p at_executable) ≡ false
before_executable at_program = refl
before_executable at_implicit = refl
before_executable at_parameter = refl
before_executable at_typing = refl
before_executable at_format = refl
before_executable at_executable = refl

misplaced_at : (o : Order) (before : List ItemTree) (p : Place) → IsOrderOf o before → misplaced_by o p ≡ any_place (λ q. not (may_stand_before q p)) before
misplaced_at o before at_program h = h.begun ∙ sym (any_same (λ q. not (may_stand_before q at_program)) (λ q. true) before_program before)
misplaced_at o before at_implicit h =
    rw (h.typed, h.executable) (sym (any_same (λ q. not (may_stand_before q at_implicit)) (λ q. is_at_typing q || is_at_executable q) before_implicit before ∙ any_or is_at_typing is_at_executable before))
misplaced_at o before at_parameter h = h.executable ∙ sym (any_same (λ q. not (may_stand_before q at_parameter)) is_at_executable before_parameter before)
misplaced_at o before at_typing h = h.executable ∙ sym (any_same (λ q. not (may_stand_before q at_typing)) is_at_executable before_typing before)
misplaced_at o before at_format h = sym (any_same (λ q. not (may_stand_before q at_format)) (λ q. false) before_format before ∙ none_any before)
misplaced_at o before at_executable h = sym (any_same (λ q. not (may_stand_before q at_executable)) (λ q. false) before_executable before ∙ none_any before)

pub misplaced_is : (o : Order) (before : List ItemTree) (x : ItemTree) (p : Place) → p ≡ place_of x.shape → IsOrderOf o before → misplaced_by o p ≡ is_misplaced before x
misplaced_is o before x p e h = misplaced_at o before p h ∙ ap (λ r. any_place (λ q. not (may_stand_before q r)) before) e

-- ---- one statement more

or_true : (a : Bool) → (a || true) ≡ true
or_true true = refl
or_true false = refl

or_none : (a : Bool) → (a || false) ≡ a
or_none true = refl
or_none false = refl

any_push : (f : Place → Bool) (before : List ItemTree) (x : ItemTree) (b c : Bool) → b ≡ any_place f before → c ≡ f (place_of x.shape) → (b || c) ≡ any_place f (before ++ x ∷ [])
any_push f before x b c e g =
    rw (e, g) (sym (list_any-append (λ (y : ItemTree). f (place_of y.shape)) before (x ∷ []) ∙ ap (λ d. any_place f before || d) (or_none (f (place_of x.shape)))))

any_begun : (before : List ItemTree) (x : ItemTree) → true ≡ any_place (λ p. true) (before ++ x ∷ [])
any_begun [] x = refl
any_begun (y ∷ ys) x = refl

pub order_push : (o p : Order) (before : List ItemTree) (x : ItemTree) (t e : Bool) → IsOrderOf o before → t ≡ is_at_typing (place_of x.shape) → e ≡ is_at_executable (place_of x.shape)
    → p.begun ≡ true → p.typed ≡ (o.typed || t) → p.executable ≡ (o.executable || e) → IsOrderOf p (before ++ x ∷ [])
order_push o p before x t e h is_t is_e b f g = record {
  begun = b ∙ any_begun before x;
  typed = f ∙ any_push is_at_typing before x o.typed t h.typed is_t;
  executable = g ∙ any_push is_at_executable before x o.executable e h.executable is_e;
}
