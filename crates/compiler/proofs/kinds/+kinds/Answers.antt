use Rattle.std.proofs.Common.{rules, refl, sym, ap, subst, arith}
use Rattle.meaning.specs.Syntax.{element, expr_tree, exprs_tree}
use Rattle.expressions.specs.Places.{left}
use Rattle.expressions.specs.Names.{definition_by}
use Rattle.expressions.proofs.Calls.{room_left}
use Rattle.compiler.specs.Kinds.{IsKind, KeepsKinds}
use Rattle.compiler.proofs.Asked.{by_form, of_number, of_truth, of_signed, of_negated, of_binary, of_paren, of_call, of_function, of_intrinsic, of_element, of_element_call, keeps_none, keeps_more}
use Rattle.compiler.proofs.kinds.+kinds.Goals as goal

pub is_logical-returns-in-Number : goal.is_logical-returns-in-Number
is_logical-returns-in-Number g t c =
    let names = g.N.Numbering.names c.args.numbering.now in
    by_form names c.args.frame _ _ _ c.in-Number.is (of_number names c.args.frame _)

pub is_logical-returns-in-Truth : goal.is_logical-returns-in-Truth
is_logical-returns-in-Truth g t c =
    let names = g.N.Numbering.names c.args.numbering.now in
    by_form names c.args.frame _ _ _ c.in-Truth.is (of_truth names c.args.frame _)

pub is_logical-returns-in-Signed : goal.is_logical-returns-in-Signed
is_logical-returns-in-Signed g t c =
    let names = g.N.Numbering.names c.args.numbering.now in
    by_form names c.args.frame _ _ _ c.in-Signed.is (of_signed names c.args.frame _ _)

pub is_logical-returns-in-Not : goal.is_logical-returns-in-Not
is_logical-returns-in-Not g t c =
    let names = g.N.Numbering.names c.args.numbering.now in
    by_form names c.args.frame _ _ _ c.in-Not.is (of_negated names c.args.frame _)

pub is_logical-returns-in-Binary : goal.is_logical-returns-in-Binary
is_logical-returns-in-Binary g t c =
    let names = g.N.Numbering.names c.args.numbering.now in
    by_form names c.args.frame _ _ _ c.in-Binary.is (of_binary names c.args.frame c.in-Binary.operator _ _ c.is_arithmetic.result c.is_arithmetic.ensures)

pub is_logical-returns-in-Paren : goal.is_logical-returns-in-Paren
is_logical-returns-in-Paren g t c =
    let names = g.N.Numbering.names c.args.numbering.now in
    by_form names c.args.frame _ _ _ c.in-Paren.is (of_paren names c.args.frame (expr_tree c.in-Paren.operand.value) c.is_logical.result (search rules))

pub is_logical-returns-in-Call : goal.is_logical-returns-in-Call
is_logical-returns-in-Call g t c =
    let names = g.N.Numbering.names c.args.numbering.now in
    by_form names c.args.frame _ _ _ c.in-Call.is (of_call names c.args.frame c.in-Call.name.items c.is_logical_call.result (search rules))

pub is_logical_call-is_logical-requires : goal.is_logical_call-is_logical-requires
is_logical_call-is_logical-requires g t c κs within =
    let names = g.N.Numbering.names c.args.numbering.now in
    let callable = c.in-Some.ensures in
    let given = c.decreases in
    let left = room_left names.definitions (definition_by c.args.name.now c.in-Some.function) c.in-Some.function.at c.args.frame.callable callable.0.found callable.1 in
    (omega (arith, left, given), (search rules, c.requires))

pub is_logical_call-returns-in-Some : goal.is_logical_call-returns-in-Some
is_logical_call-returns-in-Some g t c =
    let names = g.N.Numbering.names c.args.numbering.now in
    of_function names c.args.frame c.args.name.now (exprs_tree c.args.list.now) c.in-Some.function (record { dummies = c.in-Some.function.dummies; kinds = c.as_slice.result; callable = c.in-Some.function.at }) c.is_logical.result c.new-kept.result c.keep_kinds.new.kept c.in-Some.ensures c.new-kept.ensures c.keep_kinds.ensures refl c.as_slice.ensures refl c.is_logical.ensures

pub is_logical_call-returns-in-None : goal.is_logical_call-returns-in-None
is_logical_call-returns-in-None g t c =
    of_intrinsic (g.N.Numbering.names c.args.numbering.now) c.args.frame c.args.name.now (exprs_tree c.args.list.now) c.in-None.ensures

pub is_logical_element-returns-in-Some : goal.is_logical_element-returns-in-Some
is_logical_element-returns-in-Some g t c =
    let names = g.N.Numbering.names c.args.numbering.now in
    subst (λ b. IsKind names c.args.frame (element c.args.name.now (exprs_tree c.args.list.now)) b) (sym c.is_logical_type.ensures)
    (of_element names c.args.frame c.args.name.now (exprs_tree c.args.list.now) (left c.in-Some.cells.place) c.in-Some.cells.data_type c.in-Some.ensures.0 c.in-Some.ensures.1.typed)

pub is_logical_element-returns-in-None : goal.is_logical_element-returns-in-None
is_logical_element-returns-in-None g t c =
    of_element_call (g.N.Numbering.names c.args.numbering.now) c.args.frame c.args.name.now (exprs_tree c.args.list.now) c.is_logical_call.result c.in-None.ensures c.is_logical_call.ensures

pub keep_kinds-returns-in-Empty : goal.keep_kinds-returns-in-Empty
keep_kinds-returns-in-Empty g t c =
    let names = g.N.Numbering.names c.args.numbering.now in
    subst (λ es. KeepsKinds names c.args.frame es c.args.kept.now c.args.kept.now) (sym (ap exprs_tree c.in-Empty.is)) (keeps_none names c.args.frame c.args.kept.now)

pub keep_kinds-returns-in-More : goal.keep_kinds-returns-in-More
keep_kinds-returns-in-More g t c =
    let names = g.N.Numbering.names c.args.numbering.now in
    let rest = subst (λ es. KeepsKinds names c.args.frame (exprs_tree es) c.keep.new.self c.keep_kinds.new.kept) c.deref.ensures c.keep_kinds.ensures in
    subst (λ es. KeepsKinds names c.args.frame es c.args.kept.now c.keep_kinds.new.kept) (sym (ap exprs_tree c.in-More.is)) (keeps_more names c.args.frame (expr_tree c.in-More.first) (exprs_tree c.in-More.rest.value) c.is_logical.result c.args.kept.now c.keep.new.self c.keep_kinds.new.kept c.is_logical.ensures c.keep.ensures rest)
