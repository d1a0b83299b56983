use Rattle.std.proofs.Common.{◌∙◌, ap, sym, to_z, of_z, rules, Ok}
use Rattle.std.specs.Prelude.{FitsSigned}
use Rattle.std.specs.Int.{w32}
use Rattle.std.proofs.lemmas.Int.{to_z-of_z}
use Rattle.postfix.specs.Codes.{leaves_logical}
use Rattle.values.specs.Stacked.{value_at}
use Rattle.meaning.proofs.Stores.{reads_so}
use Rattle.values.proofs.codes.value.Goals as goal

pub returns-in-Ok-clause-reads : goal.returns-in-Ok-clause-reads
returns-in-Ok-clause-reads g c = λ e is.
    let fits : FitsSigned w32 c.in-Ok.x = search rules in
    let by = c.value_by.ensures ∙ ap (λ b. value_at b (to_z w32 (of_z w32 c.in-Ok.x))) c.is_logical.ensures ∙ ap (value_at (leaves_logical c.args.code.now)) (to_z-of_z w32 c.in-Ok.x fits) in
    reads_so _ _ _ _ c.in-Ok.ensures.reads (λ m h. h.value e is ∙ ap Ok (sym by))

pub returns-in-Err-clause-reads : goal.returns-in-Err-clause-reads
returns-in-Err-clause-reads g c = λ e is. reads_so _ _ _ _ c.in-Err.ensures.reads (λ m h. h.value e is)
