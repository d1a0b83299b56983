-- Statement functions, by where they are defined.
use Rattle.std.proofs.Common.{◌≡◌, ◌≤◌, ℕ, List, length, Option, Some, None, sym, ap, subst, ◌∙◌}
use Rattle.std.specs.Prelude.{IfSome, slice_get, unwrap_or}
use Rattle.meaning.specs.declared.syntax.Member.{Member}
use Rattle.meaning.specs.Scopes.{Definition}
use Rattle.expressions.specs.declared.numbering.Function.{Function}
use Rattle.expressions.specs.Names.{IsFunction, definition_by}
use Rattle.storage.specs.declared.parts.FunctionAt.{FunctionAt}
use Rattle.storage.specs.Kept.{IsThere, function_by, shown_at}

none_some : {X : Type 0} (x : X) → None ≡ Some x → ⊥
none_some x h = cc

pub is_function : (ds : List Definition) (n : List ℕ) (members : List Member) (a : FunctionAt) (o : Option Function) → IsThere ds n members a → function_by n o ≡ shown_at n (slice_get members a.member) → IfSome o (λ f. f.at ≡ a.at) → IsFunction ds n o
is_function ds n members a None there shown at = absurd (none_some there.definition (shown ∙ there.shown))
is_function ds n members a (Some f) there shown at =
    let same : definition_by n f ≡ there.definition = ap (λ o. unwrap_or o there.definition) (shown ∙ there.shown) in
    record {
      found = ap (slice_get ds) at ∙ there.found ∙ sym (ap Some same);
      only = λ k d h e. there.only k d h e ∙ sym at;
      few = subst (λ (d : Definition). length d.dummies ≤ 16) (sym same) there.few;
    }
