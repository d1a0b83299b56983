use Rattle.std.proofs.Common.{arith, drop, subst, sym}
use Rattle.std.proofs.lemmas.List.{drop_all}
use Rattle.symbols.specs.SymbolsAt.{symbols_at}
use Rattle.appearances.specs.FunctionsFound.{Finding, PassesMember, defined_in}
use Rattle.appearances.proofs.Finding.{all_found, ended, few_more, none_found, none_left, passed_member}
use Rattle.appearances.proofs.functions.find_functions.Goals as goal

pub loop-member-init : goal.loop-member-init
loop-member-init c = record { few = omega arith; finding = none_found (symbols_at c.args.symbols.now).names.arrays c.args.body.now c.args.functions.now c.requires.none }

pub loop-member-preserved : goal.loop-member-preserved
loop-member-preserved c =
    let arrays = (symbols_at c.args.symbols.now).names.arrays in
    let body = c.args.body.now in
    let i = c.loop-member.member in
    let one = c.index-body-member.result in
    let old = c.loop-member.functions in
    let new = c.pass_member.new.functions in
    let at = c.loop-member.at in
    let so_far = c.loop-member.invariant in
    let told = subst (PassesMember arrays old new at i one) c.in-Some.is c.in_ok-next.ensures in
    record {
      few = few_more arrays i one old new at c.in-Some.next so_far.few told;
      finding = passed_member arrays body i one old new at c.in-Some.next (defined_in arrays body) c.loop-member-test.true c.index-body-member.is told so_far.finding;
    }

pub returns-in-None : goal.returns-in-None
returns-in-None c =
    let arrays = (symbols_at c.args.symbols.now).names.arrays in
    let body = c.args.body.now in
    let i = c.loop-member.member in
    let one = c.index-body-member.result in
    let old = c.loop-member.functions in
    let new = c.pass_member.new.functions in
    let at = c.loop-member.at in
    let told = subst (PassesMember arrays old new at i one) c.in-None.is c.in_ok-next.ensures in
    let none = ended arrays old new at i body i one c.loop-member-test.true c.index-body-member.is told c.requires.executing in
    all_found (defined_in arrays body) (defined_in arrays (drop i body)) body new at none (subst (λ m. Finding (defined_in arrays body) (defined_in arrays (drop i body)) body m at) (sym told.0) c.loop-member.invariant.finding)

pub returns : goal.returns
returns c =
    let arrays = (symbols_at c.args.symbols.now).names.arrays in
    let body = c.args.body.now in
    let i = c.loop-member.member in
    all_found (defined_in arrays body) (defined_in arrays (drop i body)) body c.loop-member.functions c.loop-member.at (none_left arrays (drop i body) (drop_all i body (omega (arith, c.loop-member-test.false)))) c.loop-member.invariant.finding
