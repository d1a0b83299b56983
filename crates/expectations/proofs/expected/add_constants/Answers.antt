use Rattle.std.proofs.Common.{◌++◌, ◌∷◌, [], map, take, sym, ap, ◌∙◌, append_assoc}
use Rattle.std.proofs.lemmas.List.{map-append}
use Rattle.meaning.specs.Syntax.{ConstantTree, constant_tree}
use Rattle.meaning.specs.Typing.{expected}
use Rattle.symbols.specs.SymbolsAt.{symbols_at}
use Rattle.symbols.proofs.Passes.{map_more, pushed_more}
use Rattle.expectations.specs.Expected.{expected_list}
use Rattle.expectations.proofs.expected.add_constants.Goals as goal

pub loop-constant-preserved : goal.loop-constant-preserved
loop-constant-preserved c =
    let f = λ (x : ConstantTree). expected ((symbols_at c.args.symbols.now).names.types x.name) x.value in
    let cs = c.args.constants.now in
    let i = c.loop-constant.constant-index in
    let front = expected_list c.args.found.now.items in
    let done = map f (map constant_tree (take i cs)) in
    c.in_ok-add_constant.ensures ∙ ap (λ ys. ys ++ f (constant_tree c.constant-item.result) ∷ []) c.loop-constant.invariant
    ∙ append_assoc front done (f (constant_tree c.constant-item.result) ∷ [])
    ∙ ap (λ ys. front ++ ys) (sym (map-append f (map constant_tree (take i cs)) (constant_tree c.constant-item.result ∷ [])) ∙ ap (map f) (sym (map_more constant_tree cs i c.constant-item.result c.loop-constant-test.true c.constant-item.is)))
