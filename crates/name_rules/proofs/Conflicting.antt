-- The parts of the rule on names that are given too much, each by its own value of what names are.
use Rattle.std.proofs.Common.{◌≡◌, Bool, ◌||◌, List, ap, ◌∙◌}
use Rattle.meaning.specs.NameRules.{has_rival, is_disputed}
use Rattle.meaning.specs.Syntax.{ItemTree}
use Rattle.symbols.specs.declared.names.Symbols.{Symbols}
use Rattle.symbols.specs.SymbolsAt.{symbols_at}
use Rattle.name_rules.specs.Disputed.{has_clashing_letters, is_given_too_much, is_logical_intrinsic, is_used_against, is_used_twofold}

abbrev conflicts : Symbols → Symbols → Symbols → Symbols → List ItemTree → ItemTree → Bool
conflicts a b c d before x =
    is_given_too_much (symbols_at a) before x
    || (is_used_against (symbols_at b) before x
    || (is_used_twofold (symbols_at c) before x
    || (is_logical_intrinsic (symbols_at d) before x || (has_clashing_letters before x || has_rival before x))))

pub one_rule : (r a b c d : Symbols) → a ≡ r → b ≡ r → c ≡ r → d ≡ r → conflicts a b c d ≡ is_disputed (symbols_at r)
one_rule r a b c d ea eb ec ed =
    ap (λ q. conflicts q b c d) ea ∙ ap (λ q. conflicts r q c d) eb ∙ ap (λ q. conflicts r r q d) ec ∙ ap (λ q. conflicts r r r q) ed
