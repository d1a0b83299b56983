use Rattle.std.proofs.Common.{rules, ◌≡◌, ℤ, List, [], ◌∷◌, pos, Some, None, Ok, Err, option_map, refl, sym, ap, subst, ◌∙◌, to_z, of_z}
use Rattle.std.specs.Prelude.{not}
use Rattle.std.specs.Int.{w32}
use Rattle.std.proofs.lemmas.Int.{to_z-of_z}
use Rattle.meaning.specs.Maps.{start}
use Rattle.meaning.specs.Scopes.{constants_alone}
use Rattle.meaning.specs.Syntax.{expr_tree, exprs_tree, no_exprs}
use Rattle.meaning.specs.Values.{value, decided, as_integer, or_known, typed}
use Rattle.expressions.specs.Calls.{call_value, value_behind, nothing_behind}
use Rattle.expressions.specs.Functions.{intrinsic, value_from}
use Rattle.expressions.proofs.Valuing.{number_is, truth_is, paren_is, signed_is, signed_fault, negated_is, negated_fault, binary_is, decided_is, left_fault, right_fault, name_is, element_called, call_is, intrinsic_is, nothing_is, behind_end, behind_more, behind_fault, nothing_end, nothing_more, nothing_fault, by_form, by_list, starts_at_zero}
use Rattle.expressions.proofs.constants.+evaluation.Goals as goal

pub constant_value-returns-in-Number : goal.constant_value-returns-in-Number
constant_value-returns-in-Number g t c =
    let scope = constants_alone (g.C.Constants.types c.args.constants.now) (g.C.Constants.known c.args.constants.now) in
    by_form scope start _ _ _ _ c.in-Number.is refl (number_is scope start c.in-Number.digits.items c.constant.result (search rules))

pub constant_value-returns-in-Truth : goal.constant_value-returns-in-Truth
constant_value-returns-in-Truth g t c =
    let scope = constants_alone (g.C.Constants.types c.args.constants.now) (g.C.Constants.known c.args.constants.now) in
    by_form scope start _ _ _ _ c.in-Truth.is refl (truth_is scope start c.in-Truth.truth)

pub constant_value-returns-in-Name : goal.constant_value-returns-in-Name
constant_value-returns-in-Name g t c =
    let scope = constants_alone (g.C.Constants.types c.args.constants.now) (g.C.Constants.known c.args.constants.now) in
    let found = subst (λ n. or_known (scope.known n) (typed (scope.types n) (pos 0)) ≡ Ok c.name_value.result) c.deref-in-Name.ensures.value c.name_value.ensures in
    by_form scope start _ _ _ _ c.in-Name.is refl (name_is scope start c.in-Name.name.items (Ok c.name_value.result) (starts_at_zero c.in-Name.name.items []) found)

pub constant_value-returns-in_ok-x-in-Signed : goal.constant_value-returns-in_ok-x-in-Signed
constant_value-returns-in_ok-x-in-Signed g t c =
    let scope = constants_alone (g.C.Constants.types c.args.constants.now) (g.C.Constants.known c.args.constants.now) in
    let h : value scope (expr_tree c.in-Signed.operand.value) start ≡ Ok c.in_ok-x-in-Signed.x = search rules in
    by_form scope start _ _ _ _ c.in-Signed.is refl (signed_is scope start c.in-Signed.sign (expr_tree c.in-Signed.operand.value) c.in_ok-x-in-Signed.x c.signed.result h (search rules))

pub constant_value-returns-in_err-x-in-Signed : goal.constant_value-returns-in_err-x-in-Signed
constant_value-returns-in_err-x-in-Signed g t c =
    let scope = constants_alone (g.C.Constants.types c.args.constants.now) (g.C.Constants.known c.args.constants.now) in
    let k : c.from_residual.result ≡ Err c.in_err-x-in-Signed.field-0.0 = search rules in
    let h : value scope (expr_tree c.in-Signed.operand.value) start ≡ Err c.in_err-x-in-Signed.field-0.0 = search rules in
    by_form scope start _ _ _ _ c.in-Signed.is k (signed_fault scope start c.in-Signed.sign (expr_tree c.in-Signed.operand.value) c.in_err-x-in-Signed.field-0.0 h)

pub constant_value-returns-in_err-x-in-Binary : goal.constant_value-returns-in_err-x-in-Binary
constant_value-returns-in_err-x-in-Binary g t c =
    let scope = constants_alone (g.C.Constants.types c.args.constants.now) (g.C.Constants.known c.args.constants.now) in
    let k : c.from_residual-in_err-x-in-Binary.result ≡ Err c.in_err-x-in-Binary.field-0.0 = search rules in
    let h : value scope (expr_tree c.in-Binary.left.value) start ≡ Err c.in_err-x-in-Binary.field-0.0 = search rules in
    by_form scope start _ _ _ _ c.in-Binary.is k (left_fault scope start c.in-Binary.operator (expr_tree c.in-Binary.left.value) (expr_tree c.in-Binary.right.value) c.in_err-x-in-Binary.field-0.0 h)

pub constant_value-returns-in-Some : goal.constant_value-returns-in-Some
constant_value-returns-in-Some g t c =
    let scope = constants_alone (g.C.Constants.types c.args.constants.now) (g.C.Constants.known c.args.constants.now) in
    let h : value scope (expr_tree c.in-Binary.left.value) start ≡ Ok c.in_ok-x-in-Binary.x = search rules in
    let d : decided c.in-Binary.operator c.in_ok-x-in-Binary.x ≡ Some c.in-Some.truth = search rules in
    by_form scope start _ _ _ _ c.in-Binary.is refl (decided_is scope start c.in-Binary.operator (expr_tree c.in-Binary.left.value) (expr_tree c.in-Binary.right.value) c.in_ok-x-in-Binary.x c.in-Some.truth h d)

pub constant_value-returns-in_ok-y-in-None : goal.constant_value-returns-in_ok-y-in-None
constant_value-returns-in_ok-y-in-None g t c =
    let scope = constants_alone (g.C.Constants.types c.args.constants.now) (g.C.Constants.known c.args.constants.now) in
    let h : value scope (expr_tree c.in-Binary.left.value) start ≡ Ok c.in_ok-x-in-Binary.x = search rules in
    let i : value scope (expr_tree c.in-Binary.right.value) start ≡ Ok c.in_ok-y-in-None.y = search rules in
    let d : decided c.in-Binary.operator c.in_ok-x-in-Binary.x ≡ None = search rules in
    by_form scope start _ _ _ _ c.in-Binary.is refl (binary_is scope start c.in-Binary.operator (expr_tree c.in-Binary.left.value) (expr_tree c.in-Binary.right.value) c.in_ok-x-in-Binary.x c.in_ok-y-in-None.y c.operated.result h d i c.operated.ensures)

pub constant_value-returns-in_err-y-in-None : goal.constant_value-returns-in_err-y-in-None
constant_value-returns-in_err-y-in-None g t c =
    let scope = constants_alone (g.C.Constants.types c.args.constants.now) (g.C.Constants.known c.args.constants.now) in
    let h : value scope (expr_tree c.in-Binary.left.value) start ≡ Ok c.in_ok-x-in-Binary.x = search rules in
    let k : c.from_residual-in_err-y-in-None.result ≡ Err c.in_err-y-in-None.field-0.0 = search rules in
    let i : value scope (expr_tree c.in-Binary.right.value) start ≡ Err c.in_err-y-in-None.field-0.0 = search rules in
    let d : decided c.in-Binary.operator c.in_ok-x-in-Binary.x ≡ None = search rules in
    by_form scope start _ _ _ _ c.in-Binary.is k (right_fault scope start c.in-Binary.operator (expr_tree c.in-Binary.left.value) (expr_tree c.in-Binary.right.value) c.in_ok-x-in-Binary.x c.in_err-y-in-None.field-0.0 h d i)

pub constant_value-returns-in_err-x-in-Not : goal.constant_value-returns-in_err-x-in-Not
constant_value-returns-in_err-x-in-Not g t c =
    let scope = constants_alone (g.C.Constants.types c.args.constants.now) (g.C.Constants.known c.args.constants.now) in
    let k : c.from_residual-in_err-x-in-Not.result ≡ Err c.in_err-x-in-Not.field-0.0 = search rules in
    let h : value scope (expr_tree c.in-Not.operand.value) start ≡ Err c.in_err-x-in-Not.field-0.0 = search rules in
    by_form scope start _ _ _ _ c.in-Not.is k (negated_fault scope start (expr_tree c.in-Not.operand.value) c.in_err-x-in-Not.field-0.0 h)

pub constant_value-returns-in_ok-x-in-Not : goal.constant_value-returns-in_ok-x-in-Not
constant_value-returns-in_ok-x-in-Not g t c =
    let scope = constants_alone (g.C.Constants.types c.args.constants.now) (g.C.Constants.known c.args.constants.now) in
    let h : value scope (expr_tree c.in-Not.operand.value) start ≡ Ok c.in_ok-x-in-Not.x = search rules in
    by_form scope start _ _ _ _ c.in-Not.is refl (negated_is scope start (expr_tree c.in-Not.operand.value) c.in_ok-x-in-Not.x _ h (ap not c.as_logical.ensures))

pub constant_value-returns-in-Paren : goal.constant_value-returns-in-Paren
constant_value-returns-in-Paren g t c =
    let scope = constants_alone (g.C.Constants.types c.args.constants.now) (g.C.Constants.known c.args.constants.now) in
    by_form scope start _ _ _ _ c.in-Paren.is refl (paren_is scope start (expr_tree c.in-Paren.operand.value) c.constant_value-in-Paren.result (search rules))

pub constant_value-returns-in-Element : goal.constant_value-returns-in-Element
constant_value-returns-in-Element g t c =
    let scope = constants_alone (g.C.Constants.types c.args.constants.now) (g.C.Constants.known c.args.constants.now) in
    let found = subst (λ n. c.call_of.result ≡ call_value scope n (exprs_tree c.in-Element.list.value) start) c.deref-in-Element.ensures.value (search rules) in
    by_form scope start _ _ _ _ c.in-Element.is refl (element_called scope start c.in-Element.name.items (exprs_tree c.in-Element.list.value) c.call_of.result refl (sym found))

pub constant_value-returns-in-Call : goal.constant_value-returns-in-Call
constant_value-returns-in-Call g t c =
    let scope = constants_alone (g.C.Constants.types c.args.constants.now) (g.C.Constants.known c.args.constants.now) in
    let found = subst (λ n. c.call_of-in-Call.result ≡ call_value scope n no_exprs start) c.deref-in-Call.ensures.value c.call_of-in-Call.ensures in
    by_form scope start _ _ _ _ c.in-Call.is refl (call_is scope start c.in-Call.name.items c.call_of-in-Call.result (sym found))

pub intrinsic_value-returns-in-Empty : goal.intrinsic_value-returns-in-Empty
intrinsic_value-returns-in-Empty g t c =
    let scope = constants_alone (g.C.Constants.types c.args.constants.now) (g.C.Constants.known c.args.constants.now) in
    by_list (λ es. value_behind scope (intrinsic c.args.function) c.args.so_far es start) _ _ _ c.in-Empty.is (c.value.ensures ∙ sym (behind_end scope start (intrinsic c.args.function) c.args.so_far))

pub intrinsic_value-returns-in_err-constant_value-in-More : goal.intrinsic_value-returns-in_err-constant_value-in-More
intrinsic_value-returns-in_err-constant_value-in-More g t c =
    let scope = constants_alone (g.C.Constants.types c.args.constants.now) (g.C.Constants.known c.args.constants.now) in
    let k : c.from_residual.result ≡ Err c.in_err-constant_value-in-More.field-0.0 = search rules in
    let h : value scope (expr_tree c.in-More.first) start ≡ Err c.in_err-constant_value-in-More.field-0.0 = search rules in
    by_list (λ es. value_behind scope (intrinsic c.args.function) c.args.so_far es start) _ _ _ c.in-More.is (k ∙ sym (behind_fault scope start (intrinsic c.args.function) c.args.so_far (expr_tree c.in-More.first) (exprs_tree c.in-More.rest.value) c.in_err-constant_value-in-More.field-0.0 h))

pub intrinsic_value-returns-in_ok-constant_value-in-More : goal.intrinsic_value-returns-in_ok-constant_value-in-More
intrinsic_value-returns-in_ok-constant_value-in-More g t c =
    let scope = constants_alone (g.C.Constants.types c.args.constants.now) (g.C.Constants.known c.args.constants.now) in
    let h : value scope (expr_tree c.in-More.first) start ≡ Ok c.in_ok-constant_value-in-More.field-0 = search rules in
    let same : to_z w32 (of_z w32 c.as_integer-x.result) ≡ as_integer c.in_ok-constant_value-in-More.field-0 = to_z-of_z w32 c.as_integer-x.result (record { sfits = c.as_integer-x.type_inv }) ∙ c.as_integer-x.ensures in
    let one : (zs : List ℤ) → value_from (intrinsic c.args.function) c.with.result zs ≡ value_from (intrinsic c.args.function) c.args.so_far (as_integer c.in_ok-constant_value-in-More.field-0 ∷ zs) = λ zs. subst (λ z. value_from (intrinsic c.args.function) c.with.result zs ≡ value_from (intrinsic c.args.function) c.args.so_far (z ∷ zs)) same (c.with.ensures zs) in
    let rest = subst (λ es. c.intrinsic_value.result ≡ value_behind scope (intrinsic c.args.function) c.with.result (exprs_tree es) start) c.deref.ensures c.intrinsic_value.ensures in
    by_list (λ es. value_behind scope (intrinsic c.args.function) c.args.so_far es start) _ _ _ c.in-More.is (rest ∙ behind_more scope start (intrinsic c.args.function) c.args.so_far c.with.result (expr_tree c.in-More.first) (exprs_tree c.in-More.rest.value) c.in_ok-constant_value-in-More.field-0 h one)

pub nothing_of-returns-in-Empty : goal.nothing_of-returns-in-Empty
nothing_of-returns-in-Empty g t c =
    let scope = constants_alone (g.C.Constants.types c.args.constants.now) (g.C.Constants.known c.args.constants.now) in
    by_list (λ es. nothing_behind scope es start) _ _ _ c.in-Empty.is (sym (nothing_end scope start))

pub nothing_of-returns-in_err-_x-in-More : goal.nothing_of-returns-in_err-_x-in-More
nothing_of-returns-in_err-_x-in-More g t c =
    let scope = constants_alone (g.C.Constants.types c.args.constants.now) (g.C.Constants.known c.args.constants.now) in
    let k : c.from_residual.result ≡ Err c.in_err-_x-in-More.field-0.0 = search rules in
    let h : value scope (expr_tree c.in-More.first) start ≡ Err c.in_err-_x-in-More.field-0.0 = search rules in
    by_list (λ es. nothing_behind scope es start) _ _ _ c.in-More.is (k ∙ sym (nothing_fault scope start (expr_tree c.in-More.first) (exprs_tree c.in-More.rest.value) c.in_err-_x-in-More.field-0.0 h))

pub nothing_of-returns-in_ok-_x-in-More : goal.nothing_of-returns-in_ok-_x-in-More
nothing_of-returns-in_ok-_x-in-More g t c =
    let scope = constants_alone (g.C.Constants.types c.args.constants.now) (g.C.Constants.known c.args.constants.now) in
    let h : value scope (expr_tree c.in-More.first) start ≡ Ok c.in_ok-_x-in-More._x = search rules in
    let rest = subst (λ es. c.nothing_of.result ≡ nothing_behind scope (exprs_tree es) start) c.deref.ensures c.nothing_of.ensures in
    by_list (λ es. nothing_behind scope es start) _ _ _ c.in-More.is (rest ∙ nothing_more scope start (expr_tree c.in-More.first) (exprs_tree c.in-More.rest.value) c.in_ok-_x-in-More._x h)

pub call_of-returns-in-Some : goal.call_of-returns-in-Some
call_of-returns-in-Some g t c =
    let scope = constants_alone (g.C.Constants.types c.args.constants.now) (g.C.Constants.known c.args.constants.now) in
    c.intrinsic_value.ensures ∙ intrinsic_is scope start c.args.name.now (exprs_tree c.args.list.now) (intrinsic c.in-Some.function) refl (ap (option_map intrinsic) (sym c.in-Some.is) ∙ c.named.ensures)

pub call_of-returns-in-None : goal.call_of-returns-in-None
call_of-returns-in-None g t c =
    let scope = constants_alone (g.C.Constants.types c.args.constants.now) (g.C.Constants.known c.args.constants.now) in
    c.nothing_of.ensures ∙ nothing_is scope start c.args.name.now (exprs_tree c.args.list.now) refl (ap (option_map intrinsic) (sym c.in-None.is) ∙ c.named.ensures)
