use Rattle.command_line.proofs.Words.{flag_is}
use Rattle.command_line.proofs.options.flag_given.Goals as goal

pub returns : goal.returns
returns c given f h named =
    flag_is given c.args.matches.now c.args.name.now c.get_flag.result f h named c.get_flag.ensures.value c.get_flag.ensures.other
