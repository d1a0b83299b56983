use Rattle.std.specs.Prelude.{take}
use Rattle.meaning.specs.Trees.{flatten}
use Rattle.meaning.specs.Uses.{symbols_of}
use Rattle.storage.specs.Checked.{glossary_of}
use Rattle.rule_laws.proofs.Definitions.{own_name, stands_at}
use Rattle.rule_laws.proofs.Unbroken.{all_lawful}
use Rattle.rule_laws.proofs.functions_have_own_names.Goals as goal

pub returns : goal.returns
returns c =
    λ t accepted at d found.
    let all = flatten t in
    own_name (symbols_of all) all (take at (glossary_of all).definitions) d (stands_at (symbols_of all) all (all_lawful t accepted) at d found)
