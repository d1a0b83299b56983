-- The variables of DO statements around, in either order.
use Rattle.std.proofs.Common.{◌≡◌, ℕ, Bool, ◌||◌, List, ap, ◌∙◌}
use Rattle.std.specs.Prelude.{reverse}
use Rattle.std.specs.List.{list_any}
use Rattle.meaning.specs.LoopRules.{breaks_loops, has_nested_variable, is_no_counter, variables_set}
use Rattle.meaning.specs.Surroundings.{Around, controlled_by}
use Rattle.meaning.specs.Syntax.{ItemTree}
use Rattle.meaning.specs.Uses.{Symbols, is_one_of}
use Rattle.statement_rules.specs.Implied.{misuses_by}
use Rattle.rule_passes.proofs.Membership.{sought_reversed}

pub misuses_around : (r : Symbols) (variables : List (List ℕ)) (a : Around) (x : ItemTree) → variables ≡ reverse a.variables → misuses_by r variables x.shape ≡ breaks_loops r a x
misuses_around r variables a x same =
    let sought : is_one_of (reverse a.variables) ≡ is_one_of a.variables = λ i n. sought_reversed a.variables n i in
    ap (λ vs. misuses_by r vs x.shape) same
    ∙ ap (λ (f : List ℕ → Bool). list_any (is_no_counter r) (controlled_by x.shape) || (list_any f (variables_set x.shape) || has_nested_variable x.shape)) sought
