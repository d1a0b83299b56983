use Rattle.std.proofs.Common.{◌<◌, map, arith}
use Rattle.symbols.specs.TypedNames.{letter_type, part_at}
use Rattle.symbols.proofs.Firsts.{table_more, table_at}
use Rattle.symbols.proofs.declared.letter_types.Goals as goal

pub loop-code-preserved : goal.loop-code-preserved
loop-code-preserved c =
    table_more (letter_type c.args.implicit_none (map part_at c.args.parts.now)) c.loop-code.code _ _ _ c.loop-code.invariant c.letter_type_of.ensures c.in_ok-push.ensures.items

pub returns : goal.returns
returns c =
    λ k lt. (let below : k < c.loop-code.code = omega arith in table_at (letter_type c.args.implicit_none (map part_at c.args.parts.now)) c.loop-code.code k c.loop-code.types.items c.loop-code.invariant below)
