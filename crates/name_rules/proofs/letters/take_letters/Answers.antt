use Rattle.std.proofs.Common.{◌≡◌, ℕ, Bool, ◌||◌, ap, ap₂, ◌∙◌}
use Rattle.std.specs.Prelude.{◌==◌}
use Rattle.std.specs.Ordering.{nat_cmp}
use Rattle.std.specs.BTreeSet.{contains}
use Rattle.meaning.specs.Syntax.{letters_tree}
use Rattle.meaning.specs.Types.{is_among}
use Rattle.name_rules.specs.Lettered.{any_from}
use Rattle.rule_passes.proofs.Answering.{on_ok_then}
use Rattle.name_rules.proofs.Lettering.{codes_are}
use Rattle.name_rules.proofs.letters.take_letters.Goals as goal

pub returns : goal.returns
returns c =
    let l = letters_tree c.args.letters.now in
    let old : ℕ → Bool = contains nat_cmp c.args.taken.now in
    let new : ℕ → Bool = contains nat_cmp c.take_codes.new.taken in
    on_ok_then
    ((k : ℕ) → new k ≡ (old k || any_from (λ j. j == k) c.first_of.result c.count_of.result))
    ((k : ℕ) → new k ≡ (old k || is_among k l))
    c.take_codes.result c.take_codes.ensures
    (λ taken k. taken k ∙ ap (λ b. old k || b) (ap₂ (any_from (λ j. j == k)) c.first_of.ensures.exact c.count_of.ensures.exact ∙ codes_are k l))
