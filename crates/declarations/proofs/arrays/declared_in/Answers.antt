use Rattle.std.proofs.Common.{map, take, option_map, sym, ap, ◌∙◌}
use Rattle.std.specs.Map.{lookup}
use Rattle.std.specs.Str.{bytes_eq}
use Rattle.meaning.specs.Scopes.{declarators_in, dimensions_in, known_behind, known_of, or_dimensions}
use Rattle.meaning.specs.Syntax.{declarator_tree, shape_tree}
use Rattle.symbols.proofs.Passes.{map_more}
use Rattle.symbols.specs.SymbolsAt.{symbols_at}
use Rattle.declarations.specs.ArraysKept.{arrays_kept, dimensions_of}
use Rattle.rule_passes.specs.Listed.{tree_at}
use Rattle.declarations.specs.Tables.{known_at}
use Rattle.declarations.proofs.ArraysBy.{arrays_none, items_more}
use Rattle.declarations.proofs.KnownBy.{known_push}
use Rattle.declarations.proofs.arrays.declared_in.Goals as goal

pub loop-item-init : goal.loop-item-init
loop-item-init c = record {
  symbols = c.table_of-table.ensures.symbols;
  constants = c.table_of-table.ensures.behind;
  arrays = λ n. ap (λ es. option_map dimensions_of (lookup (λ k. bytes_eq n k.items) es)) c.new-arrays.ensures.empty ∙ sym (arrays_none (symbols_at c.args.symbols.now).names.types n);
}

pub loop-item-preserved : goal.loop-item-preserved
loop-item-preserved c =
    let types = (symbols_at c.args.symbols.now).names.types in
    let before = c.loop-item.invariant in
    let ms = c.args.symbols.now.items.now in
    let i = c.loop-item.item-index in
    let m = c.item-item.result in
    let shape = shape_tree m.now.form.shape.value in
    let known = known_at c.loop-item.table in
    let lt = c.loop-item-test.true in
    record {
      symbols = ap (λ r. r.now) c.in_ok-pass_constants.ensures.symbols ∙ before.symbols;
      constants =
          c.in_ok-pass_constants.ensures.known
          ∙ ap (λ r. known_behind (symbols_at r).names.types known shape) before.symbols
          ∙ ap (λ k. known_behind types k shape) before.constants
          ∙ sym (known_push types (map tree_at (take i ms)) (tree_at m))
          ∙ ap (known_of types) (sym (map_more tree_at ms i m lt c.item-item.is));
      arrays = λ n.
          items_more types ms i m n (arrays_kept c.loop-item.arrays n) _ known lt c.item-item.is before.constants (before.arrays n)
          (c.in_ok-add_arrays.ensures n
          ∙ ap (λ r. or_dimensions (arrays_kept c.loop-item.arrays n) (dimensions_in (symbols_at r).names.types known (map declarator_tree c.declarators_in.result.now) n)) before.symbols
          ∙ ap (λ ds. or_dimensions (arrays_kept c.loop-item.arrays n) (dimensions_in types known ds n)) c.declarators_in.ensures
          ∙ ap (λ s. or_dimensions (arrays_kept c.loop-item.arrays n) (dimensions_in types known (declarators_in (shape_tree s)) n)) c.deref.ensures);
    }
