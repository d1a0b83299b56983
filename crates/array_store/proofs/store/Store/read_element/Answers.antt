use Rattle.std.proofs.Common.{rules}
use Rattle.array_store.proofs.store.Store.read_element.Goals as goal

pub returns-clause-value : goal.returns-clause-value
returns-clause-value g c = search rules

pub returns-clause-after : goal.returns-clause-after
returns-clause-after g c = search rules
