use Rattle.std.proofs.Common.{◌+◌, Some, refl, ◌∙◌}
use Rattle.std.specs.Int.{w32}
use Rattle.std.proofs.lemmas.Int.{to_z-of_z}
use Rattle.expressions.proofs.Items.{place_reads}
use Rattle.values.proofs.listed.element_number.Goals as goal

pub returns-clause-reads : goal.returns-clause-reads
returns-clause-reads g c =
    let cell = c.args.array.first + c.args.at in
    place_reads (g.S.Store.world c.args.store.now) (g.S.Store.world c.read.new.self) cell (Some cell) _ refl c.read.ensures.after (to_z-of_z w32 c.read.result (record { sfits = c.read.type_inv }) ∙ c.read.ensures.value)
