use Rattle.std.proofs.Common.{subst, sym, ap, ◌∙◌}
use Rattle.name_maps.specs.NameSets.{texts}
use Rattle.checker.specs.Built.{AreStarted}
use Rattle.checker.specs.Entries.{HaveRoom}
use Rattle.checker.proofs.rules.names_of.Goals as goal

pub entries_with_starts-requires : goal.entries_with_starts-requires
entries_with_starts-requires c =
    subst (HaveRoom c.args.facts.now) (sym (ap texts c.as_slice.ensures.keys ∙ c.in_ok-names.ensures)) c.requires

pub returns : goal.returns
returns c =
    let f = c.args.facts.now in
    let r = c.args.symbols.now in
    record {
      started = subst (λ ns. AreStarted f r ns c.in_ok-entries.entries c.in_ok-entries.starts) (ap texts c.as_slice.ensures.keys ∙ c.in_ok-names.ensures) c.in_ok-entries.ensures;
      letters = c.in_ok-letters.ensures;
    }
