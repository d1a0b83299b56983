use Rattle.meaning.specs.Uses.{is_defining}
use Rattle.meaning.specs.Trees.{item_tree}
use Rattle.std.proofs.Common.{ap, ◌∙◌}
use Rattle.meaning.specs.Syntax.{shape_tree}
use Rattle.meaning.specs.Typing.{has_wrong_type}
use Rattle.symbols.specs.SymbolsAt.{symbols_at}
use Rattle.type_rules.proofs.types.WrongTypeBehind.is_broken.Goals as goal

pub returns : goal.returns
returns c = λ before known.
    c.has_wrong_type.ensures ∙ ap (λ d. has_wrong_type (symbols_at c.args.self.now.symbols.now).names d (shape_tree c.deref.result.now)) (c.is_defining-defines.ensures before known)
    ∙ ap (λ s. has_wrong_type (symbols_at c.args.self.now.symbols.now).names (is_defining (symbols_at c.args.self.now.symbols.now) before (item_tree c.args.item.now)) (shape_tree s)) c.deref.ensures
