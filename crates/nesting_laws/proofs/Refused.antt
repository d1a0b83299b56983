-- Statements are refused exactly with the least pair that is broken.
use Rattle.std.proofs.Common.{◌≡◌, ℕ, Bool, true, false, List, [], ◌∷◌, ◌++◌, Option, Some, None, Err, refl, sym, ap, ◌∙◌, inl, inr, arith, append_assoc}
use Rattle.std.specs.Prelude.{not, if◌then◌else◌, IsFalse}
use Rattle.std.proofs.lemmas.List.{append-nil}
use Rattle.std.specs.List.{AllByRecursion, list_any}
use Rattle.meaning.specs.declared.refusal.Broken.{Broken}
use Rattle.meaning.specs.declared.refusal.Rule.{Rule}
use Rattle.meaning.specs.declared.refusal.Rule.TheVariants.{N1, N2, N3, N4, N5}
use Rattle.meaning.specs.Ranks.{rank_of}
use Rattle.meaning.specs.Refusals.{merge, unless}
use Rattle.meaning.specs.Syntax.{ItemTree}
use Rattle.meaning.specs.Trees.{Nested}
use Rattle.meaning.specs.Nesting.{Unfinished, start, levels, innermost, effect_of, is_ended, is_end, is_misplaced, is_stray, is_crossing, is_too_deep, past, behind, breaks, told_first, first_broken, lacks_end, last_line, missing_end, nest, IsViable, LacksEnd, GoesTooFar, IsBroken, IsRefusedAt}
use Rattle.nesting_laws.proofs.Names.{or_left, or_right}
use Rattle.meaning.proofs.FirstBroken.{goes_first}
use Rattle.nesting_laws.proofs.Ordered.{broken_append}
use Rattle.nesting_laws.proofs.Read.{if_missing}
use Rattle.nesting_laws.proofs.Viable.{unbroken_viable, viable_unbroken}
use Rattle.nesting_laws.proofs.Least.{IsOneOf, IsLeastOf, IsTold, merge_least, least_merge}

some_is : (a b : Broken) → Some a ≡ Some b → a ≡ b
some_is a b e = cc

-- ---- END is missing

none_is_end : (items : List ItemTree) → list_any (λ (x : ItemTree). is_end (effect_of x.shape)) items ≡ false → AllByRecursion (λ x. IsFalse (is_end (effect_of x.shape))) items
none_is_end [] h = tt
none_is_end (x ∷ xs) h =
    (or_left (is_end (effect_of x.shape)) (list_any (λ (y : ItemTree). is_end (effect_of y.shape)) xs) h, none_is_end xs (or_right (is_end (effect_of x.shape)) (list_any (λ (y : ItemTree). is_end (effect_of y.shape)) xs) h))

end_is_none : (items : List ItemTree) → AllByRecursion (λ x. IsFalse (is_end (effect_of x.shape))) items → list_any (λ (x : ItemTree). is_end (effect_of x.shape)) items ≡ false
end_is_none [] h = refl
end_is_none (x ∷ xs) h = rw (h.0, end_is_none xs h.1) refl

if_missing_some : (b : Bool) (pair c : Broken) → if_missing b pair ≡ Some c → (b ≡ true) × (c ≡ pair)
if_missing_some true pair c h = (refl, sym (some_is pair c h))
if_missing_some false pair c h = absurd cc

true_not : (b : Bool) → not b ≡ true → b ≡ false
true_not true h = absurd cc
true_not false h = refl

pub lacks_of : (items : List ItemTree) (b : Broken) → missing_end items ≡ Some b → LacksEnd items b
unfolding missing_end
lacks_of items b h =
    let p = if_missing_some (lacks_end items) (record { line = last_line items; rule = N2 }) b h in
    record { open_all = none_is_end items (true_not (list_any (λ (x : ItemTree). is_end (effect_of x.shape)) items) p.0); pair = p.1 }

pub lacks_is : (items : List ItemTree) (b : Broken) → LacksEnd items b → missing_end items ≡ Some b
unfolding missing_end
lacks_is items b h = rw (end_is_none items h.open_all) (ap (λ (x : Broken). Some x) (sym h.pair))

missing_rule : (items : List ItemTree) (b : Broken) → missing_end items ≡ Some b → b.rule ≡ N2
missing_rule items b h = ap (λ (x : Broken). x.rule) (lacks_of items b h).pair

-- ---- a statement that breaks a rule behind those before it

record IsFirst (before : List ItemTree) (z : Unfinished) (xs : List ItemTree) (b : Broken) : Type 0 where
  front : List ItemTree
  member : ItemTree
  back : List ItemTree
  parts : xs ≡ front ++ member ∷ back
  unbroken : first_broken before z front ≡ None
  at : b.line ≡ member.line
  rule_is : breaks (before ++ front) (behind z front) member ≡ Some b.rule

pair_of : (x : ItemTree) (rule : Rule) (b : Broken) → record { line = x.line; rule = rule } ≡ b → (b.line ≡ x.line) × (b.rule ≡ rule)
pair_of x rule b e = (sym (ap (λ (c : Broken). c.line) e), sym (ap (λ (c : Broken). c.rule) e))

first_of : (before : List ItemTree) (z : Unfinished) (xs : List ItemTree) (b : Broken) → first_broken before z xs ≡ Some b → IsFirst before z xs b
first_of before z [] b h = absurd cc
first_of before z (x ∷ xs) b h = by_rule (breaks before z x) refl h (first_of (before ++ x ∷ []) (past z x) xs b)
  where
    after : List ItemTree
    after = before ++ x ∷ []

    by_rule : (o : Option Rule) → breaks before z x ≡ o → told_first x (breaks before z x) (first_broken after (past z x) xs) ≡ Some b
        → (first_broken after (past z x) xs ≡ Some b → IsFirst after (past z x) xs b) → IsFirst before z (x ∷ xs) b
    by_rule (Some rule) e f rec =
        let same : record { line = x.line; rule = rule } ≡ b = some_is (record { line = x.line; rule = rule }) b (ap (λ o. told_first x o (first_broken after (past z x) xs)) (sym e) ∙ f) in
        let p = pair_of x rule b same in
        record {
          front = [];
          member = x;
          back = xs;
          parts = refl;
          unbroken = refl;
          at = p.0;
          rule_is = ap (λ earlier. breaks earlier z x) (append-nil before) ∙ e ∙ ap (λ (r : Rule). Some r) (sym p.1);
        }
    by_rule None e f rec =
        let r = rec (ap (λ o. told_first x o (first_broken after (past z x) xs)) (sym e) ∙ f) in
        record {
          front = x ∷ r.front;
          member = r.member;
          back = r.back;
          parts = ap (λ (ys : List ItemTree). x ∷ ys) r.parts;
          unbroken = goes_first before z x r.front e ∙ r.unbroken;
          at = r.at;
          rule_is = ap (λ earlier. breaks earlier (behind (past z x) r.front) r.member) (sym (append_assoc before (x ∷ []) r.front)) ∙ r.rule_is;
        }

first_is : (front : List ItemTree) (x : ItemTree) (back : List ItemTree) (b : Broken) → first_broken [] start front ≡ None → b.line ≡ x.line
    → breaks front (behind start front) x ≡ Some b.rule → first_broken [] start (front ++ x ∷ back) ≡ Some b
first_is front x back b h at e =
    broken_append [] start front (x ∷ back) h ∙ ap (λ o. told_first x o (first_broken (front ++ x ∷ []) (past (behind start front) x) back)) e
    ∙ ap (λ (k : ℕ). Some (record { line = k; rule = b.rule })) (sym at)

-- no program unit goes on behind it
is_over : (front : List ItemTree) (x : ItemTree) (b : Broken) → first_broken [] start front ≡ None → b.line ≡ x.line
    → breaks front (behind start front) x ≡ Some b.rule → IsViable (front ++ x ∷ []) → ⊥
is_over front x b h at e v = let f : None ≡ Some b = sym (viable_unbroken (front ++ x ∷ []) v) ∙ first_is front x [] b h at e in cc

pub too_far_of : (items : List ItemTree) (b : Broken) → first_broken [] start items ≡ Some b → GoesTooFar items b
too_far_of items b h =
    let f = first_of [] start items b h in
    record {
      front = f.front;
      member = f.member;
      back = f.back;
      parts = f.parts;
      viable = unbroken_viable f.front f.unbroken;
      over = is_over f.front f.member b f.unbroken f.at f.rule_is;
      at = f.at;
      rule_is = f.rule_is;
    }

pub too_far_is : (items : List ItemTree) (b : Broken) → GoesTooFar items b → first_broken [] start items ≡ Some b
too_far_is items b g = ap (first_broken [] start) g.parts ∙ first_is g.front g.member g.back b (viable_unbroken g.front g.viable) g.at g.rule_is

-- ---- the least of both

broken_of : (items : List ItemTree) (b : Broken) → IsOneOf (missing_end items) (first_broken [] start items) b → IsBroken items b
broken_of items b (inl h) = inl (lacks_of items b h)
broken_of items b (inr h) = inr (too_far_of items b h)

broken_is : (items : List ItemTree) (b : Broken) → IsBroken items b → IsOneOf (missing_end items) (first_broken [] start items) b
broken_is items b (inl h) = inl (lacks_is items b h)
broken_is items b (inr h) = inr (too_far_is items b h)

abbrev told : Bool → Bool → Bool → Bool → Bool → Option Rule
told m a s b c = if m then Some N1 else (if a then Some N2 else (if s then Some N3 else (if b then Some N4 else (if c then Some N5 else None))))

rule_is : (r s : Rule) → Some r ≡ Some s → r ≡ s
rule_is r s e = cc

-- a rule of another number isn't N2
other_rank : (r rule : Rule) → Some r ≡ Some rule → rank_of rule ≡ 2 → (rank_of r ≡ 2 → ⊥) → rule ≡ N2
other_rank r rule h e apart = absurd (apart (ap rank_of (rule_is r rule h) ∙ e))

told_rank : (m a s b c : Bool) (rule : Rule) → told m a s b c ≡ Some rule → rank_of rule ≡ 2 → rule ≡ N2
told_rank true a s b c rule h e = other_rank N1 rule h e (λ f. omega arith)
told_rank false true s b c rule h e = sym (rule_is N2 rule h)
told_rank false false true b c rule h e = other_rank N3 rule h e (λ f. omega arith)
told_rank false false false true c rule h e = other_rank N4 rule h e (λ f. omega arith)
told_rank false false false false true rule h e = other_rank N5 rule h e (λ f. omega arith)
told_rank false false false false false rule h e = absurd cc

breaks_rank : (before : List ItemTree) (z : Unfinished) (x : ItemTree) (rule : Rule) → breaks before z x ≡ Some rule → rank_of rule ≡ 2 → rule ≡ N2
unfolding breaks
breaks_rank before z x rule h e =
    let opened = levels z in
    told_rank (is_misplaced before x) (is_ended z) (is_stray (effect_of x.shape) opened) (is_crossing opened x.label (effect_of x.shape)) (is_too_deep opened (effect_of x.shape)) rule h e

first_rank : (items : List ItemTree) → IsTold (first_broken [] start items)
first_rank items b h e = let f = first_of [] start items b h in breaks_rank f.front (behind start f.front) f.member b.rule f.rule_is e

unless_err : (o : Option Broken) (t : Nested) (b : Broken) → unless o t ≡ Err b → o ≡ Some b
unless_err None t b h = absurd cc
unless_err (Some a) t b h = cc

err_unless : (o : Option Broken) (t : Nested) (b : Broken) → o ≡ Some b → unless o t ≡ Err b
err_unless o t b h = rw h refl

pub refused_of : (items : List ItemTree) (b : Broken) → nest items ≡ Err b → IsRefusedAt items b
unfolding nest
refused_of items b h =
    let m = merge_least (missing_end items) (first_broken [] start items) b (unless_err (merge (missing_end items) (first_broken [] start items)) (record { body = innermost (behind start items) }) b h) in
    record { broken = broken_of items b m.one; least = λ c k. m.least c (broken_is items c k) }

pub refused_is : (items : List ItemTree) (b : Broken) → IsRefusedAt items b → nest items ≡ Err b
unfolding nest
refused_is items b r =
    let m : IsLeastOf (missing_end items) (first_broken [] start items) b = record { one = broken_is items b r.broken; least = λ c k. r.least c (broken_of items c k) } in
    err_unless (merge (missing_end items) (first_broken [] start items)) (record { body = innermost (behind start items) }) b
    (least_merge (missing_end items) (first_broken [] start items) b (missing_rule items) (first_rank items) m)
