use Rattle.std.proofs.Common.{rules, ◌≡◌, ℕ, ◌+◌, ◌-◌, ◌<◌, Bool, ◌||◌, sym, ap, ◌∙◌}
use Rattle.std.specs.Ordering.{nat_cmp}
use Rattle.std.specs.BTreeSet.{contains}
use Rattle.name_rules.specs.Lettered.{any_from}
use Rattle.name_rules.proofs.Lettering.{any_more, any_none}
use Rattle.name_rules.proofs.letters.+has_code.Goals as goal

pub returns-then-count-eq0 : goal.returns-then-count-eq0
returns-then-count-eq0 t c =
    let taken : ℕ → Bool = contains nat_cmp c.args.taken.now in
    let none : c.args.count ≡ 0 = search rules in
    sym (ap (any_from taken c.args.code) none ∙ any_none taken c.args.code)

pub returns-then-contains : goal.returns-then-contains
returns-then-contains t c =
    let taken : ℕ → Bool = contains nat_cmp c.args.taken.now in
    let some : 0 < c.args.count = search rules in
    c.if-contains.true
    ∙ sym (any_more taken c.args.code c.args.count some ∙ ap (λ b. b || any_from taken (c.args.code + 1) (c.args.count - 1)) (sym c.contains.ensures ∙ c.if-contains.true))

pub returns-else-contains : goal.returns-else-contains
returns-else-contains t c =
    let taken : ℕ → Bool = contains nat_cmp c.args.taken.now in
    let some : 0 < c.args.count = search rules in
    c.has_code.ensures
    ∙ sym (any_more taken c.args.code c.args.count some ∙ ap (λ b. b || any_from taken (c.args.code + 1) (c.args.count - 1)) (sym c.contains.ensures ∙ c.if-contains.false))
