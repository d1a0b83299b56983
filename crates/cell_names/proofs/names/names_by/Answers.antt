use Rattle.std.proofs.Common.{◌≡◌, ap, ap₂, ◌∙◌}
use Rattle.std.proofs.Math.Path.{fun_ext}
use Rattle.std.specs.Global.{Vec}
use Rattle.declarations.specs.ArraysKept.{arrays_kept}
use Rattle.name_maps.specs.NameSets.{texts}
use Rattle.storage.specs.Numbered.{named}
use Rattle.appearances.specs.Appearing.{variables_at}
use Rattle.symbols.specs.SymbolsAt.{symbols_at}
use Rattle.cell_names.specs.Cells.{are_named}
use Rattle.cell_names.specs.declared.named.Named.{Named}
use Rattle.cell_names.proofs.Once.{then_if_ok}
use Rattle.cell_names.proofs.names.names_by.Goals as goal

pub returns : goal.returns
returns c =
    let r = c.args.symbols.now in
    let kept = arrays_kept c.in_ok-declared.declared.arrays in
    let names = texts c.as_slice.result.now in
    let same = ap₂ named (fun_ext c.in_ok-declared.ensures.arrays) (ap texts c.as_slice.ensures.keys ∙ c.in_ok-names.ensures) in
    then_if_ok (λ (v : Vec Named). are_named v.items ≡ named kept names) (λ (v : Vec Named). are_named v.items ≡ named (symbols_at r).names.arrays (variables_at r)) c.with_dimensions-found.result (λ v e. e ∙ same) c.with_dimensions-found.ensures
