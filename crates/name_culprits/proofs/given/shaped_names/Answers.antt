use Rattle.std.proofs.Common.{ℕ, List, ◌++◌, ap, ap₂, ◌∙◌}
use Rattle.std.specs.Borrow.{Bor}
use Rattle.std.proofs.lemmas.List.{map-append}
use Rattle.symbols.specs.SymbolsAt.{symbols_at}
use Rattle.name_uses.specs.Held.{names_at}
use Rattle.name_culprits.proofs.given.shaped_names.Goals as goal

pub returns : goal.returns
returns c =
    ap names_at c.in_ok-extend_from_slice.ensures.items ∙ map-append (λ (n : Bor (List ℕ)). n.now) c.in_ok-names.names.items c.deref.result.now
    ∙ ap₂ ◌++◌ (c.in_ok-names.ensures (symbols_at c.args.symbols.now) c.args.defines) (ap names_at c.deref.ensures.value ∙ c.in_ok-more.ensures)
