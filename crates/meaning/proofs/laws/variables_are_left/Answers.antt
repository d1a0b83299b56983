use Rattle.std.proofs.Common.{refl, []}
use Rattle.meaning.proofs.Keeping.{exec-keeps}
use Rattle.meaning.proofs.laws.variables_are_left.Goals as goal

pub returns : goal.returns
returns c = λ program v all rest never inside m t. exec-keeps v (m v []) program all rest never.unset inside.unset m t refl
