-- Names that are given already.
use Rattle.std.proofs.Common.{◌≡◌, ℕ, Bool, true, false, ◌||◌, List, [], ◌∷◌, ◌++◌, append_assoc, refl, sym, ap, ◌∙◌, Option, Some, None, option_map, inl, inr}
use Rattle.std.specs.Prelude.{flat_map, is_some, if◌then◌else◌}
use Rattle.std.specs.List.{list_any}
use Rattle.std.specs.Option.{option_or}
use Rattle.std.specs.Str.{bytes_eq}
use Rattle.std.proofs.lemmas.List.{append-nil}
use Rattle.meaning.specs.NameRules.{given_by, given_from, repeats, shares}
use Rattle.meaning.specs.Syntax.{ItemTree}
use Rattle.meaning.specs.Uses.{Symbols, is_defining, is_one_of}
use Rattle.rule_passes.proofs.Missing.{any_both}
use Rattle.finding.specs.Answers.{IsAnswer}
use Rattle.finding.proofs.Answering.{or_answer, same_answer, test_answer}
use Rattle.name_culprits.specs.declared.culprit.Giving.{Giving}
use Rattle.name_culprits.specs.Names.{again_in, given_before, gives, giving_line, names_by, seen_told, shared_in}
use Rattle.name_culprits.specs.Told.{Told, given}
use Rattle.name_culprits.specs.Witness.{IsGiven, IsGivenBefore}

or_nothing : (b : Bool) → b ≡ (b || false)
or_nothing true = refl
or_nothing false = refl

last_first : (a b c : Bool) → (a || (b || c)) ≡ (b || (c || (a || false)))
last_first true true c = refl
last_first true false true = refl
last_first true false false = refl
last_first false true c = refl
last_first false false true = refl
last_first false false false = refl

module _ (r : Symbols) (k : Giving) (n : List ℕ) where
  -- a statement gives it exactly where there is a line
  pub given_somewhere : (front xs : List ItemTree) → is_one_of (flat_map (names_by k) (given_from r front xs)) n ≡ is_some (giving_line r k front xs n)
  unfolding giving_line given_from
  given_somewhere front [] = refl
  given_somewhere front (x ∷ xs) =
      any_both (bytes_eq n) (gives r k front x) (flat_map (names_by k) (given_from r (front ++ x ∷ []) xs))
      ∙ by_test (is_one_of (gives r k front x) n) (given_somewhere (front ++ x ∷ []) xs)
    where
      by_test : (b : Bool) → is_one_of (flat_map (names_by k) (given_from r (front ++ x ∷ []) xs)) n ≡ is_some (giving_line r k (front ++ x ∷ []) xs n) → (b || is_one_of (flat_map (names_by k) (given_from r (front ++ x ∷ []) xs)) n) ≡ is_some (if b then Some x.line else giving_line r k (front ++ x ∷ []) xs n)
      by_test true more = refl
      by_test false more = more

  -- and that is its line
  record IsFoundLine (before xs : List ItemTree) (line : ℕ) : Type 0 where
    front : List ItemTree
    earlier : ItemTree
    back : List ItemTree
    parts : xs ≡ front ++ (earlier ∷ back)
    line_is : earlier.line ≡ line
    gives_it : is_one_of (gives r k (before ++ front) earlier) n ≡ true

  line_found : (before xs : List ItemTree) (line : ℕ) → giving_line r k before xs n ≡ Some line → IsFoundLine before xs line
  unfolding giving_line
  line_found before [] line is = absurd cc
  line_found before (x ∷ xs) line is =
      by_test (is_one_of (gives r k before x) n) refl (line_found (before ++ x ∷ []) xs line) is
    where
      by_test : (b : Bool) → is_one_of (gives r k before x) n ≡ b → (giving_line r k (before ++ x ∷ []) xs n ≡ Some line → IsFoundLine (before ++ x ∷ []) xs line) → (if b then Some x.line else giving_line r k (before ++ x ∷ []) xs n) ≡ Some line → IsFoundLine before (x ∷ xs) line
      by_test true here further at = record {
        front = [];
        earlier = x;
        back = xs;
        parts = refl;
        line_is = cc;
        gives_it = ap (λ ys. is_one_of (gives r k ys x) n) (append-nil before) ∙ here;
      }
      by_test false there further at =
          let f = further at in
          record {
            front = x ∷ f.front;
            earlier = f.earlier;
            back = f.back;
            parts = ap (λ ys. x ∷ ys) f.parts;
            line_is = f.line_is;
            gives_it = ap (λ ys. is_one_of (gives r k ys f.earlier) n) (sym (append_assoc before (x ∷ []) f.front)) ∙ f.gives_it;
          }

  pub given_line : (before : List ItemTree) (line : ℕ) → giving_line r k [] before n ≡ Some line → IsGivenBefore r k before n line
  given_line before line is =
      let f = line_found [] before line is in
      record { front = f.front; earlier = f.earlier; back = f.back; parts = f.parts; line_is = f.line_is; gives_it = f.gives_it }

module _ (r : Symbols) (before : List ItemTree) (x : ItemTree) where
  abbrev by : Told → Type 0
  by = IsGiven r before x

  before_answer : (k : Giving) (n : List ℕ) → IsAnswer by (is_some (giving_line r k [] before n)) (given_before r k before n)
  before_answer k n = by_option (giving_line r k [] before n) refl
    where
      by_option : (o : Option ℕ) → giving_line r k [] before n ≡ o → IsAnswer by (is_some o) (option_map (given n k) o)
      by_option (Some line) is = (refl, (n, k, line, refl, inl (given_line r k n before line is)))
      by_option None is = refl

  again_answer : (k : Giving) (seen earlier ns : List (List ℕ)) → ((m : List ℕ) → is_one_of earlier m ≡ (is_some (giving_line r k [] before m) || is_one_of seen m)) → IsAnswer by (repeats earlier ns) (again_in r k before x.line seen ns)
  again_answer k seen earlier [] same = refl
  again_answer k seen earlier (n ∷ ns) same =
      let somewhere = is_some (giving_line r k [] before n) in
      or_answer by (is_one_of earlier n) (repeats (n ∷ earlier) ns) (option_or (given_before r k before n) (seen_told k x.line (is_one_of seen n) n)) (again_in r k before x.line (seen ++ n ∷ []) ns) (same_answer by (somewhere || is_one_of seen n) (is_one_of earlier n) (option_or (given_before r k before n) (seen_told k x.line (is_one_of seen n) n)) (sym (same n)) (or_answer by somewhere (is_one_of seen n) (given_before r k before n) (seen_told k x.line (is_one_of seen n) n) (before_answer k n) (test_answer by (is_one_of seen n) (given n k x.line) (λ h. (n, k, x.line, refl, inr refl))))) (again_answer k (seen ++ n ∷ []) (n ∷ earlier) ns (λ m. ap (λ b. bytes_eq m n || b) (same m) ∙ last_first (bytes_eq m n) (is_some (giving_line r k [] before m)) (is_one_of seen m) ∙ ap (λ b. is_some (giving_line r k [] before m) || b) (sym (any_both (bytes_eq m) seen (n ∷ [])))))

  pub twice_answer : (k : Giving) (ns : List (List ℕ)) → IsAnswer by (repeats (flat_map (names_by k) (given_from r [] before)) ns) (again_in r k before x.line [] ns)
  twice_answer k ns =
      again_answer k [] (flat_map (names_by k) (given_from r [] before)) ns (λ m. given_somewhere r k m [] before ∙ or_nothing (is_some (giving_line r k [] before m)))

  pub shared_answer : (k : Giving) (ns : List (List ℕ)) → IsAnswer by (shares ns (flat_map (names_by k) (given_from r [] before))) (shared_in r k before ns)
  shared_answer k [] = refl
  shared_answer k (n ∷ ns) =
      let all = flat_map (names_by k) (given_from r [] before) in
      or_answer by (is_one_of all n) (shares ns all) (given_before r k before n) (shared_in r k before ns) (same_answer by (is_some (giving_line r k [] before n)) (is_one_of all n) (given_before r k before n) (sym (given_somewhere r k n [] before)) (before_answer k n)) (shared_answer k ns)
