-- What statements say by their texts, one statement more.
use Rattle.std.proofs.Common.{◌≡◌, ℕ, ◌+◌, ◌<◌, List, [], ◌∷◌, ◌++◌, length, get_or, take, map, Option, Some, None, Result, refl, sym, ap, ◌∙◌}
use Rattle.std.specs.List.{cons_option, filter_map}
use Rattle.std.specs.Option.{option_to_list}
use Rattle.std.proofs.lemmas.List.{take_more, map-append}
use Rattle.std.proofs.lemmas.List.Elements.{filter_map-append}
use Rattle.meaning.specs.declared.refusal.Broken.{Broken}
use Rattle.meaning.specs.declared.statement.Statement.{Statement}
use Rattle.meaning.specs.Answers.{member_of}
use Rattle.meaning.specs.Statements.{entry_of}
use Rattle.meaning.specs.Syntax.{ItemTree}

single : {X : Type 0} (o : Option X) → cons_option o [] ≡ option_to_list o
single None = refl
single (Some x) = refl

module _ (found : List Statement) (i : ℕ) (s : Statement) (lt : i < length found) (is : s ≡ get_or found i s) where
  pub one_more : {B : Type 0} (f : Result ItemTree Broken → Option B) (made before : List B) → made ≡ before ++ option_to_list (f (member_of (entry_of s))) → before ≡ filter_map f (map member_of (map entry_of (take i found)))
      → made ≡ filter_map f (map member_of (map entry_of (take (i + 1) found)))
  one_more {B} f made before added so_far =
      added ∙ ap (λ xs. xs ++ option_to_list (f (member_of (entry_of s)))) so_far
      ∙ sym (ap (λ xs. filter_map f (map member_of (map entry_of xs))) (take_more found i s lt ∙ ap (λ x. take i found ++ x ∷ []) (sym is))
      ∙ ap (λ xs. filter_map f (map member_of xs)) (map-append entry_of (take i found) (s ∷ []))
      ∙ ap (filter_map f) (map-append member_of (map entry_of (take i found)) (entry_of s ∷ []))
      ∙ filter_map-append f (map member_of (map entry_of (take i found))) (member_of (entry_of s) ∷ [])
      ∙ ap (λ xs. filter_map f (map member_of (map entry_of (take i found))) ++ xs) (single (f (member_of (entry_of s)))))
