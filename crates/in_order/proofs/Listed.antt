-- The members of a list of statements, one statement more.
use Rattle.std.proofs.Common.{◌≡◌, ℕ, ◌+◌, ◌<◌, List, [], ◌∷◌, ◌++◌, length, get_or, take, map, Option, Some, None, Result, Ok, Err, refl, sym, ap, ◌∙◌}
use Rattle.std.proofs.lemmas.List.{take_more, map-append}
use Rattle.meaning.specs.declared.refusal.Broken.{Broken}
use Rattle.meaning.specs.declared.statement.Statement.{Statement}
use Rattle.meaning.specs.Syntax.{ItemTree}
use Rattle.meaning.specs.Statements.{entry_of}
use Rattle.meaning.specs.Refusals.{lesser, merge, with_first, all_of}
use Rattle.meaning.specs.Answers.{member_of, members_of}
use Rattle.meaning.proofs.Least.{lesser-lesser}

-- one more at the end
abbrev with_last : {A : Type 0} → Result (List A) Broken → Result A Broken → Result (List A) Broken
with_last (Ok xs) (Ok x) = Ok (xs ++ x ∷ [])
with_last (Ok xs) (Err c) = Err c
with_last (Err b) (Ok x) = Err b
with_last (Err b) (Err c) = Err (lesser b c)

first-last : {A : Type 0} (r : Result A Broken) (rs : Result (List A) Broken) (q : Result A Broken) → with_first r (with_last rs q) ≡ with_last (with_first r rs) q
first-last (Ok x) (Ok xs) (Ok y) = refl
first-last (Ok x) (Ok xs) (Err c) = refl
first-last (Ok x) (Err b) (Ok y) = refl
first-last (Ok x) (Err b) (Err c) = refl
first-last (Err a) (Ok xs) (Ok y) = refl
first-last (Err a) (Ok xs) (Err c) = refl
first-last (Err a) (Err b) (Ok y) = refl
first-last (Err a) (Err b) (Err c) = ap Err (lesser-lesser a b c)

last_alone : {A : Type 0} (q : Result A Broken) → with_first q (Ok []) ≡ with_last (Ok []) q
last_alone (Ok x) = refl
last_alone (Err b) = refl

all_of-push : {A : Type 0} (rs : List (Result A Broken)) (q : Result A Broken) → all_of (rs ++ q ∷ []) ≡ with_last (all_of rs) q
all_of-push [] q = last_alone q
all_of-push (r ∷ rs) q = ap (with_first r) (all_of-push rs q) ∙ first-last r (all_of rs) q

-- what was read, unless a rule was broken
abbrev pub so_far : Option Broken → List ItemTree → Result (List ItemTree) Broken
so_far None ms = Ok ms
so_far (Some b) ms = Err b

with_ok : (broken : Option Broken) (ms : List ItemTree) (m : ItemTree) → with_last (so_far broken ms) (Ok m) ≡ so_far broken (ms ++ m ∷ [])
with_ok None ms m = refl
with_ok (Some b) ms m = refl

with_err : (broken : Option Broken) (ms : List ItemTree) (b : Broken) → with_last (so_far broken ms) (Err b) ≡ so_far (merge broken (Some b)) ms
with_err None ms b = refl
with_err (Some a) ms b = refl

module _ (found : List Statement) (i : ℕ) (s : Statement) (lt : i < length found) (is : s ≡ get_or found i s) where
  one_more : members_of (map entry_of (take (i + 1) found)) ≡ with_last (members_of (map entry_of (take i found))) (member_of (entry_of s))
  unfolding members_of
  one_more =
      ap (λ xs. all_of (map member_of (map entry_of xs))) (take_more found i s lt ∙ ap (λ x. take i found ++ x ∷ []) (sym is))
      ∙ ap (λ xs. all_of (map member_of xs)) (map-append entry_of (take i found) (s ∷ []))
      ∙ ap all_of (map-append member_of (map entry_of (take i found)) (entry_of s ∷ []))
      ∙ all_of-push (map member_of (map entry_of (take i found))) (member_of (entry_of s))

  pub listed_more : (broken : Option Broken) (ms : List ItemTree) (m : ItemTree) → so_far broken ms ≡ members_of (map entry_of (take i found)) → member_of (entry_of s) ≡ Ok m → so_far broken (ms ++ m ∷ []) ≡ members_of (map entry_of (take (i + 1) found))
  listed_more broken ms m h e =
      sym (with_ok broken ms m) ∙ ap (λ r. with_last r (Ok m)) h ∙ ap (with_last (members_of (map entry_of (take i found)))) (sym e) ∙ sym one_more

  pub broken_more : (broken : Option Broken) (ms : List ItemTree) (b : Broken) → so_far broken ms ≡ members_of (map entry_of (take i found)) → member_of (entry_of s) ≡ Err b → so_far (merge broken (Some b)) ms ≡ members_of (map entry_of (take (i + 1) found))
  broken_more broken ms b h e =
      sym (with_err broken ms b) ∙ ap (λ r. with_last r (Err b)) h ∙ ap (with_last (members_of (map entry_of (take i found)))) (sym e) ∙ sym one_more

pub listed_none : so_far None [] ≡ members_of []
unfolding members_of
listed_none = refl
