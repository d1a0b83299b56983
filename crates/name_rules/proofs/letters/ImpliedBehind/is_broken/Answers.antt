use Rattle.meaning.specs.Types.{implied_in}
use Rattle.std.proofs.Common.{◌≡◌, ℕ, Bool, List, map, ap, ◌∙◌}
use Rattle.std.specs.Prelude.{flat_map}
use Rattle.std.specs.List.{list_any}
use Rattle.std.specs.Ordering.{nat_cmp}
use Rattle.std.specs.BTreeSet.{contains}
use Rattle.meaning.specs.NameRules.{letters_clash, letters_in}
use Rattle.meaning.specs.Syntax.{ItemTree, shape_tree}
use Rattle.meaning.specs.Trees.{item_tree}
use Rattle.meaning.specs.Types.{is_among}
use Rattle.name_rules.specs.Lettered.{letters_of, clash_from, letters_at}
use Rattle.rule_passes.proofs.Answering.{ok_then}
use Rattle.name_rules.proofs.Lettering.{clash_told}
use Rattle.name_rules.proofs.letters.ImpliedBehind.is_broken.Goals as goal

pub returns : goal.returns
returns c =
    let taken : ℕ → Bool = contains nat_cmp c.args.self.now.taken in
    let x = item_tree c.args.item.now in
    ok_then
    (λ (b : Bool). b ≡ clash_from taken (map letters_at c.deref-2.result.now))
    (λ (b : Bool). (before : List ItemTree) → ((k : ℕ) → contains nat_cmp c.args.self.now.taken k ≡ list_any (is_among k) (flat_map letters_in before)) → b ≡ letters_clash (flat_map letters_in before) (letters_in x))
    c.clashes.result c.clashes.ensures
    (λ b told before known.
    told ∙ ap (clash_from taken) (ap (map letters_at) c.deref-2.ensures.value ∙ c.in_ok-letters.ensures ∙ ap (λ s. letters_of (implied_in (shape_tree s))) c.deref.ensures)
    ∙ clash_told taken (flat_map letters_in before) (letters_in x) known)
