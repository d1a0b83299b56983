-- From the pairs of a phase to those that are told behind the least one.
use Rattle.std.proofs.Common.{◌≡◌, ℕ, ◌<◌, ◌≤◌, Bool, true, false, List, [], ◌∷◌, drop, length, Some, Result, Ok, Err, refl, sym, ap, subst, ◌∙◌, arith, inl, inr}
use Rattle.std.specs.Prelude.{◌≢◌}
use Rattle.std.specs.List.{Contains}
use Rattle.std.proofs.lemmas.List.{nil_from_length}
use Rattle.meaning.specs.declared.refusal.Broken.{Broken}
use Rattle.meaning.specs.Answers.{members_of, program_of}
use Rattle.meaning.specs.Nesting.{nest}
use Rattle.meaning.specs.Refusals.{is_less, least}
use Rattle.meaning.specs.Rules.{broken_rules}
use Rattle.meaning.specs.Statements.{Entry, statements_of}
use Rattle.meaning.specs.Syntax.{ItemTree}
use Rattle.meaning.specs.Trees.{Nested}
use Rattle.nesting.specs.Pairs.{pairs_of_order}
use Rattle.all_breaches.specs.Further.{AreFurther}
use Rattle.all_breaches.specs.Ordered.{AreApart, Ascends, HaveSame}
use Rattle.all_breaches.specs.Phases.{broken_pairs, pairs_from_order, pairs_from_texts, pairs_of_texts, told_or}
use Rattle.all_breaches.proofs.Members.{In, contains, in_from, of_all}
use Rattle.all_breaches.proofs.Sorting.{Apart, not_itself}
use Rattle.all_breaches.proofs.Apart.{lines_apart, order_apart, texts_apart}
use Rattle.all_breaches.proofs.LeastPairs.{least_first, least_in, least_some}
use Rattle.all_breaches.proofs.Telling.{lines_pass, lines_refuse, source_told}
use Rattle.all_breaches.proofs.UnitPairs.{unit_apart, unit_told}

-- ---- the same pairs

pub same_as : (made pairs : List Broken) → made ≡ pairs → HaveSame made pairs
same_as made pairs is b = (subst (λ xs. Contains xs b) is, subst (λ xs. Contains xs b) (sym is))

pub same_by : (made ys zs : List Broken) → HaveSame made ys → ys ≡ zs → HaveSame made zs
same_by made ys zs h is = subst (HaveSame made) is h

pub is_some : (xs : List Broken) (n : ℕ) → 0 < n → n ≡ length xs → xs ≡ [] → ⊥
is_some [] n lt is e = absurd (omega arith)
is_some (x ∷ xs) n lt is e = absurd cc

pub is_none : (xs : List Broken) (n : ℕ) → n ≤ 0 → n ≡ length xs → xs ≡ []
is_none xs n le is = nil_from_length xs (omega arith)

-- ---- apart

order_pairs_apart : (items : List ItemTree) → Apart (pairs_from_order items)
order_pairs_apart items = by_result (nest items)
  where
    by_result : (r : Result Nested Broken) → Apart (told_or r (pairs_of_order items) broken_rules)
    by_result (Err b) = order_apart items
    by_result (Ok t) = unit_apart t

text_pairs_apart : (entries : List Entry) → Apart (pairs_of_texts entries) → Apart (pairs_from_texts entries)
text_pairs_apart entries apart = by_result (members_of entries)
  where
    by_result : (r : Result (List ItemTree) Broken) → Apart (told_or r (pairs_of_texts entries) pairs_from_order)
    by_result (Err b) = apart
    by_result (Ok members) = order_pairs_apart members

source_apart : (source : List ℕ) → Apart (broken_pairs source)
source_apart source = by_result (statements_of source) refl
  where
    by_result : (r : Result (List Entry) Broken) → statements_of source ≡ r → Apart (broken_pairs source)
    by_result (Err b) e = subst Apart (sym (lines_refuse source b e)) (lines_apart source)
    by_result (Ok entries) e = subst Apart (sym (lines_pass source entries e)) (text_pairs_apart entries (texts_apart source entries e))

pub pairs_apart : (source : List ℕ) (pairs : List Broken) → HaveSame pairs (broken_pairs source) → AreApart pairs
pairs_apart source pairs same a b i j line rank =
    source_apart source a b (in_from (broken_pairs source) a ((same a).0 i)) (in_from (broken_pairs source) b ((same b).0 j)) line rank

-- ---- without the least

clash : (t : Bool) → t ≡ true → t ≡ false → ⊥
clash t p q = cc

abbrev refusal : Broken → Result Nested Broken
refusal b = Err b

same_err : (a b : Broken) → refusal a ≡ refusal b → a ≡ b
same_err a b e = cc

module _ (source : List ℕ) (h : Broken) (t : List Broken) (up : Ascends (h ∷ t)) (same : (b : Broken) → (In b (h ∷ t) → In b (broken_pairs source)) × (In b (broken_pairs source) → In b (h ∷ t))) where
  above : (b : Broken) → In b t → is_less h b ≡ true
  above b i = of_all (λ c. is_less h c ≡ true) t b up.0 i

  head_least : least (broken_pairs source) ≡ Some h
  head_least =
      let r = least_some (broken_pairs source) h ((same h).0 (inl refl)) in
      r.1 ∙ ap Some (by_place r.0 r.1 ((same r.0).1 (least_in (broken_pairs source) r.0 r.1)))
    where
      by_place : (m : Broken) → least (broken_pairs source) ≡ Some m → In m (h ∷ t) → m ≡ h
      by_place m e (inl k) = k
      by_place m e (inr i) = absurd (clash (is_less h m) (above m i) (least_first (broken_pairs source) m h e ((same h).0 (inl refl))))

  head_told : program_of source ≡ Err h
  head_told = source_told unit_told source h head_least

  not_told : (b : Broken) → In b t → program_of source ≢ Err b
  not_told b i e =
      let is : h ≡ b = same_err h b (sym head_told ∙ e) in
      clash (is_less h b) (above b i) (ap (is_less h) (sym is) ∙ not_itself h)

  behind : (b : Broken) → In b (h ∷ t) → program_of source ≢ Err b → In b t
  behind b (inl e) other = absurd (other (head_told ∙ ap Err (sym e)))
  behind b (inr i) other = i

  behind_head : AreFurther source t
  behind_head = record {
    ascending = up.1;
    exact = λ b. (λ k. let i = in_from t b k in (contains (broken_pairs source) b ((same b).0 (inr i)), not_told b i), λ k. contains t b (behind b ((same b).1 (in_from (broken_pairs source) b k.0)) k.1));
  }

of_none : (source : List ℕ) → ((b : Broken) → In b (broken_pairs source) → ⊥) → AreFurther source []
of_none source none = record {
  ascending = tt;
  exact = λ b. (λ k. absurd (in_from [] b k), λ k. absurd (none b (in_from (broken_pairs source) b k.0)));
}

pub further : (source : List ℕ) (pairs ordered made : List Broken) → HaveSame pairs (broken_pairs source) → Ascends ordered → HaveSame ordered pairs → made ≡ drop 1 ordered → AreFurther source made
further source pairs ordered made same up moved is =
    subst (AreFurther source) (sym is) (by_list ordered up (λ b. (λ i. in_from (broken_pairs source) b ((same b).0 ((moved b).0 (contains ordered b i))), λ i. in_from ordered b ((moved b).1 ((same b).1 (contains (broken_pairs source) b i))))))
  where
    by_list : (xs : List Broken) → Ascends xs → ((b : Broken) → (In b xs → In b (broken_pairs source)) × (In b (broken_pairs source) → In b xs)) → AreFurther source (drop 1 xs)
    by_list [] u both = of_none source (λ b i. (both b).1 i)
    by_list (h ∷ t) u both = behind_head source h t u both
