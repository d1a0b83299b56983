use Rattle.std.proofs.Common.{map, sym, arith}
use Rattle.meaning.specs.Statements.{entry_of}
use Rattle.meaning.specs.Trees.{item_tree}
use Rattle.all_breaches.proofs.Composed.{is_none, is_some, same_as, same_by}
use Rattle.all_breaches.proofs.Telling.{texts_pass, texts_refuse}
use Rattle.all_breaches.proofs.phases.text_pairs.Goals as goal

pub returns-then-len-gt0 : goal.returns-then-len-gt0
returns-then-len-gt0 c =
    let texts = c.in_ok-members.field-0 in
    let known = c.in_ok-members.ensures in
    same_as _ _ (sym (texts_refuse (map entry_of c.args.found.now) texts.broken.items known.broken (is_some texts.broken.items c.len.result c.if-len-gt0.true (omega (arith, c.len.ensures, texts.broken.ok.0)))))

pub returns : goal.returns
returns c =
    let texts = c.in_ok-members.field-0 in
    let known = c.in_ok-members.ensures in
    same_by _ _ _ c.in_ok-pairs.ensures (sym (texts_pass (map entry_of c.args.found.now) texts.broken.items (map item_tree texts.members.items) known.broken (is_none texts.broken.items c.len.result c.if-len-gt0.false (omega (arith, c.len.ensures, texts.broken.ok.0))) known.members))
