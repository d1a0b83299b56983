use Rattle.std.proofs.Common.{rules, ◌≡◌, ℕ, ◌+◌, ◌-◌, ◌<◌, Bool, ◌||◌, sym, ap, ◌∙◌}
use Rattle.std.specs.Prelude.{◌==◌}
use Rattle.std.specs.Ordering.{nat_cmp}
use Rattle.std.specs.BTreeSet.{contains}
use Rattle.name_rules.specs.Lettered.{any_from}
use Rattle.rule_passes.proofs.Answering.{on_ok_then}
use Rattle.name_rules.proofs.Lettering.{any_none, codes_more}
use Rattle.rule_passes.proofs.Membership.{or_false}
use Rattle.name_rules.proofs.letters.+take_codes.Goals as goal

pub returns-then-count-eq0 : goal.returns-then-count-eq0
returns-then-count-eq0 t c = λ k.
    let none : c.args.count ≡ 0 = search rules in
    let old : Bool = contains nat_cmp c.args.taken.now k in
    sym (ap (λ n. old || any_from (λ j. j == k) c.args.code n) none ∙ ap (λ b. old || b) (any_none (λ j. j == k) c.args.code) ∙ or_false old)

pub returns : goal.returns
returns t c =
    let some : 0 < c.args.count = search rules in
    let old : ℕ → Bool = contains nat_cmp c.args.taken.now in
    let mid : ℕ → Bool = contains nat_cmp c.take_code.new.taken in
    let new : ℕ → Bool = contains nat_cmp c.take_codes.new.taken in
    on_ok_then
    ((k : ℕ) → new k ≡ (mid k || any_from (λ j. j == k) (c.args.code + 1) (c.args.count - 1)))
    ((k : ℕ) → new k ≡ (old k || any_from (λ j. j == k) c.args.code c.args.count))
    c.take_codes.result c.take_codes.ensures
    (λ taken k. codes_more (old k) (mid k) (new k) k c.args.code c.args.count some (c.in_ok-take_code.ensures k) (taken k))
