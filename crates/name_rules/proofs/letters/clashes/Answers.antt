use Rattle.std.proofs.Common.{ℕ, Bool, ◌+◌, ◌||◌, map, drop, get_or, sym, ap, ◌∙◌}
use Rattle.std.specs.Ordering.{nat_cmp}
use Rattle.std.specs.BTreeSet.{contains}
use Rattle.symbols.proofs.Passes.{map_left}
use Rattle.name_rules.specs.Lettered.{clash_from, letters_at}
use Rattle.name_rules.proofs.Lettering.{clash_found, clash_more, clash_start, lent, none_taken}
use Rattle.name_uses.proofs.Seeing.{read_is}
use Rattle.name_rules.proofs.letters.clashes.Goals as goal

pub loop-one-init : goal.loop-one-init
loop-one-init c =
    clash_start (contains nat_cmp c.args.taken.now) (contains nat_cmp c.new-here.result) (map letters_at c.args.letters.now) (λ k. none_taken c.new-here.result k c.new-here.ensures.empty)

pub returns-then-is_clashing : goal.returns-then-is_clashing
returns-then-is_clashing c =
    let one = get_or c.args.letters.now c.loop-one.one-index lent in
    let taken : ℕ → Bool = contains nat_cmp c.args.taken.now in
    let here : ℕ → Bool = contains nat_cmp c.loop-one.here in
    let rest = map letters_at (drop (c.loop-one.one-index + 1) c.args.letters.now) in
    clash_found taken here (letters_at one) rest _ (sym c.is_clashing.ensures ∙ c.if-is_clashing.true)
    (ap (clash_from (λ k. taken k || here k)) (sym (map_left letters_at c.args.letters.now c.loop-one.one-index one c.loop-one-test.true (read_is c.args.letters.now c.loop-one.one-index lent c.loop-one-test.true))) ∙ c.loop-one.invariant)

pub loop-one-preserved : goal.loop-one-preserved
loop-one-preserved c =
    let one = get_or c.args.letters.now c.loop-one.one-index lent in
    let taken : ℕ → Bool = contains nat_cmp c.args.taken.now in
    let here : ℕ → Bool = contains nat_cmp c.loop-one.here in
    let rest = map letters_at (drop (c.loop-one.one-index + 1) c.args.letters.now) in
    clash_more taken here (letters_at one) rest _ (contains nat_cmp c.take_letters.new.taken) (sym c.is_clashing.ensures ∙ c.if-is_clashing.false) c.in_ok-take_letters.ensures
    (ap (clash_from (λ k. taken k || here k)) (sym (map_left letters_at c.args.letters.now c.loop-one.one-index one c.loop-one-test.true (read_is c.args.letters.now c.loop-one.one-index lent c.loop-one-test.true))) ∙ c.loop-one.invariant)
