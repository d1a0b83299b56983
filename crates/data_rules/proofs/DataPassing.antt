-- One statement more that may give values.
use Rattle.std.proofs.Common.{◌≡◌, ◌<◌, ◌≤◌, ℕ, zero, suc, Bool, true, false, List, [], ◌∷◌, ◌++◌, length, map, get_or, Option, Some, None, refl, sym, ap, subst, ◌∙◌, arith}
use Rattle.std.specs.Prelude.{if◌then◌else◌, is_some}
use Rattle.std.proofs.lemmas.Bool.Decides.{nat_tests}
use Rattle.std.specs.Borrow.{Bor}
use Rattle.meaning.specs.declared.refusal.Broken.{Broken}
use Rattle.meaning.specs.declared.syntax.Item.{Item}
use Rattle.meaning.specs.declared.refusal.Rule.TheVariants.{K10}
use Rattle.meaning.specs.Initial.{has_bad_data, sets_at}
use Rattle.meaning.specs.NameRules.{told}
use Rattle.meaning.specs.NumberRules.{known_behind_all}
use Rattle.meaning.specs.Refusals.{least, merge}
use Rattle.meaning.specs.Statements.{broken_if}
use Rattle.meaning.specs.Syntax.{ItemTree}
use Rattle.meaning.specs.Uses.{Symbols}
use Rattle.meaning.proofs.Least.{least-append, merge-merge}
use Rattle.data_rules.specs.declared.filling.Filling.{Filling}
use Rattle.data_rules.specs.declared.starting.Passed.{Passed}
use Rattle.rule_passes.specs.Listed.{tree_at}
use Rattle.rule_passes.specs.InOrder.{line_at}
use Rattle.data_rules.specs.DataPassed.{IsFilledOr, IsPassed, comes_first}
use Rattle.data_rules.specs.DataSets.{IsFilledBy, fill_sets, nothing, stage_by}
use Rattle.data_rules.proofs.DataPairing.{stage}
use Rattle.data_rules.proofs.DataStarting.{bad_data, filled_none, good_data}
use Rattle.rule_passes.proofs.Passes.{told-push, told_none}

abbrev pub at_line : ℕ → Broken
at_line line = record { line = line; rule = K10 }

not_first : (b : Bool) (line : ℕ) (o : Option Broken) → comes_first line o ≡ false → o ≡ merge o (least (broken_if b line K10))
not_first b line None is = absurd cc
not_first false line (Some c) is = refl
not_first true line (Some c) is = ap (λ t. Some (if t then at_line line else c)) (sym is)

some_there : (line : ℕ) (o : Option Broken) → comes_first line o ≡ false → is_some o ≡ true
some_there line None is = absurd cc
some_there line (Some c) is = refl

is_told : (line : ℕ) (o : Option Broken) → comes_first line o ≡ true → Some (at_line line) ≡ merge o (least (broken_if true line K10))
is_told line None is = refl
is_told line (Some c) is = ap (λ t. Some (if t then at_line line else c)) (sym is)

not_told : (line : ℕ) (o : Option Broken) → o ≡ merge o (least (broken_if false line K10))
not_told line None = refl
not_told line (Some c) = refl

-- ---- statements in the order of their lines

-- none at a line behind one that isn't filled would break its rule first
pub not_first_behind : (line n : ℕ) (o : Option Broken) → line ≤ n → comes_first line o ≡ false → comes_first n o ≡ false
not_first_behind line n None le is = absurd cc
not_first_behind line n (Some b) le is = grind (arith, nat_tests)

pub not_first_behind_told : (line n : ℕ) → line ≤ n → comes_first n (Some (at_line line)) ≡ false
not_first_behind_told line n le = grind (arith, nat_tests)

pub line_is : (xs : List (Bor Item)) (i : ℕ) (x : Bor Item) → i < length xs → x ≡ get_or xs i x → line_at (map tree_at xs) i ≡ x.now.line
line_is [] i x lt is = absurd (omega arith)
line_is (y ∷ ys) zero x lt is = ap (λ z. z.now.line) (sym is)
line_is (y ∷ ys) (suc i) x lt is = line_is ys i x (omega arith) is

pub has_filled : (r : Symbols) (others : Option Broken) (before : List ItemTree) (p : Passed) → IsPassed r others before p → (f : Filling) → p.filling ≡ Some f → IsFilledBy r before (stage_by f)
has_filled r others before p h f some = subst (IsFilledOr r before (is_some p.broken)) some h.filling

module _ (r : Symbols) (others : Option Broken) (before : List ItemTree) (x : ItemTree) where
  broken_push : (now next : Option Broken) → now ≡ merge others (least (told (has_bad_data r) K10 [] before)) → next ≡ merge now (least (broken_if (has_bad_data r before x) x.line K10)) → next ≡ merge others (least (told (has_bad_data r) K10 [] (before ++ x ∷ [])))
  broken_push now next so_far added =
      let front = told (has_bad_data r) K10 [] before in
      let here = broken_if (has_bad_data r before x) x.line K10 in
      added ∙ ap (λ o. merge o (least here)) so_far ∙ sym (merge-merge others (least front) (least here))
      ∙ ap (merge others) (sym (least-append front here) ∙ ap least (sym (told-push (has_bad_data r) K10 [] before x)))

  module _ (p : Passed) (h : IsPassed r others before p) where
    pub skipped : comes_first x.line p.broken ≡ false → IsPassed r others (before ++ x ∷ []) (record { broken = p.broken; filling = None })
    skipped is = record {
      broken = broken_push p.broken p.broken h.broken (not_first (has_bad_data r before x) x.line p.broken is);
      filling = some_there x.line p.broken is;
    }

    module _ (f : Filling) (some : p.filling ≡ Some f) where
      filled : IsFilledBy r before (stage_by f)
      filled = has_filled r others before p h f some

      pub fitting : (more : Filling) → Some (stage_by more) ≡ fill_sets r (known_behind_all r before) (sets_at r before x) (stage_by f) → IsPassed r others (before ++ x ∷ []) (record { broken = p.broken; filling = Some more })
      fitting more is =
          let good = good_data r before x (stage_by f) filled (stage_by more) is in
          record {
            broken = broken_push p.broken p.broken h.broken (not_told x.line p.broken ∙ ap (λ b. merge p.broken (least (broken_if b x.line K10))) (sym good.0));
            filling = good.1;
          }

      pub unfitting : comes_first x.line p.broken ≡ true → None ≡ fill_sets r (known_behind_all r before) (sets_at r before x) (stage_by f) → IsPassed r others (before ++ x ∷ []) (record { broken = Some (at_line x.line); filling = None })
      unfitting first none =
          let bad = bad_data r before x (stage_by f) filled none in
          record {
            broken = broken_push p.broken (Some (at_line x.line)) h.broken (is_told x.line p.broken first ∙ ap (λ b. merge p.broken (least (broken_if b x.line K10))) (sym bad));
            filling = refl;
          }

merge_none : (o : Option Broken) → o ≡ merge o None
merge_none None = refl
merge_none (Some b) = refl

-- in front of all statements
pub none_passed : (r : Symbols) (o : Option Broken) (f : Filling) → stage_by f ≡ stage nothing [] → IsPassed r o [] (record { broken = o; filling = Some f })
none_passed r o f is = record {
  broken = merge_none o ∙ ap (λ bs. merge o (least bs)) (sym (told_none (has_bad_data r) K10));
  filling = subst (IsFilledBy r []) (sym is) (filled_none r);
}
