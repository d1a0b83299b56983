use Rattle.std.proofs.Common.{rules}
use Rattle.array_store.proofs.whole.WholeStore.write.Goals as goal

pub returns-clause-sure : goal.returns-clause-sure
returns-clause-sure c = search rules
