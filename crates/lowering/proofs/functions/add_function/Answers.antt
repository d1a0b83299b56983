use Rattle.std.proofs.Common.{◌≡◌, List, ap, length-append, rules, sym, subst, length, ◌∙◌}
use Rattle.postfix.specs.declared.code.Code.{Code}
use Rattle.lowering.specs.Functions.{AreFirst, IsBodyCode}
use Rattle.expressions.specs.Names.{definition_by}
use Rattle.lowering.proofs.Places.{first_more, own_elsewhere, own_none, own_pushed}
use Rattle.lowering.proofs.functions.add_function.Goals as goal

pub function_code-requires : goal.function_code-requires
function_code-requires c =
    c.requires.codable c.in-Some.function.at (definition_by c.args.name.now c.in-Some.function) c.in-Some.ensures.found

pub returns-in_ok-push-in-Some : goal.returns-in_ok-push-in-Some
returns-in_ok-push-in-Some c =
    let code : IsBodyCode c.args.program.now c.in-Some.function c.in_ok-function_code-in-Some.field-0 = search rules in
    let place : c.in-Some.function.at ≡ length c.args.codes.now.items = search rules in
    record {
      first = subst (λ xs. AreFirst c.args.program.now xs) (sym {A = List Code} c.in_ok-push-in-Some.ensures.items) (first_more c.args.program.now c.args.codes.now.items c.args.name.now c.in-Some.function c.in_ok-function_code-in-Some.field-0 place c.in-Some.ensures.found code c.requires.first);
      own = own_pushed c.args.program.now c.args.name.now (length c.args.codes.now.items) _ (ap length c.in_ok-push-in-Some.ensures.items ∙ length-append c.args.codes.now.items _);
    }

pub returns-in-None-clause-own : goal.returns-in-None-clause-own
returns-in-None-clause-own c = own_none c.args.program.now c.args.name.now (length c.args.codes.now.items) c.in-None.ensures

pub returns-else-function-len-clause-own : goal.returns-else-function-len-clause-own
returns-else-function-len-clause-own c =
    let counted : c.len.result ≡ length c.args.codes.now.items = search rules in
    own_elsewhere c.args.program.now c.args.name.now c.in-Some.function (length c.args.codes.now.items) c.in-Some.ensures (λ same. c.if-function-len.false (same ∙ sym counted))
