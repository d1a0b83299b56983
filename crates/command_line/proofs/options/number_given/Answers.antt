use Rattle.std.proofs.Common.{rules}
use Rattle.std.specs.Str.Parse.{ParsesUnsigned, ExplainsUnsignedError, HasUnsignedDigitsIfOk}
use Rattle.command_line.proofs.Words.{number_is}
use Rattle.command_line.proofs.options.number_given.Goals as goal

pub returns : goal.returns
returns c given part h known =
    number_is (λ bs r. ParsesUnsigned 64 10 bs r × ExplainsUnsignedError 10 bs r × HasUnsignedDigitsIfOk bs r) given c.args.matches.now part c.args.name.now
    c.args.default c.unwrap_or.result c.get_one.result (λ u x g. g.0) h known c.get_one.ensures.none c.get_one.ensures.value (search rules)
