use Rattle.std.proofs.Common.{◌≡◌, ◌∙◌, sym, ap, subst, arith}
use Rattle.meaning.specs.declared.syntax.ListItem.TheViews.{sized-More}
use Rattle.meaning.specs.Syntax.{list_item_tree, list_items_tree, more_items}
use Rattle.meaning.proofs.syntax.ListItems.TheLaws.{the_size}
use Rattle.program.specs.Codes.{setting_in}
use Rattle.ruly_laws.specs.Statements.{AreItemsCodable}
use Rattle.std.proofs.lemmas.Result.{IfOk-weaker}
use Rattle.program.specs.Items.{AreItems}
use Rattle.lowering.specs.Lists.{AreEach, codes_in}
use Rattle.lowering.proofs.Listing.{none_leads, one_more, all_lead, each_in}
use Rattle.lowering.proofs.items.+listed.Goals as goal

pub add_codes-loop-rest-init : goal.add_codes-loop-rest-init
add_codes-loop-rest-init t c =
    record {
      leading = none_leads c.args.program.now (list_items_tree c.args.items.now) c.args.codes.now.items c.requires.none;
      within = omega arith;
      codable = c.requires.codable;
    }

pub add_codes-item_code-requires : goal.add_codes-item_code-requires
add_codes-item_code-requires t c =
    let given = c.decreases in
    let within = c.loop-rest.invariant.within in
    let same = ap the_size c.in-More.is in
    let deep = sized-More c.in-More.item c.in-More.others in
    let codable = subst (λ r. AreItemsCodable (setting_in c.args.program.now) (list_items_tree r)) c.in-More.is c.loop-rest.invariant.codable in
    (omega arith, codable.0)

pub add_codes-loop-rest-preserved : goal.add_codes-loop-rest-preserved
add_codes-loop-rest-preserved t c =
    let form = ap list_items_tree c.in-More.is ∙ ap (λ r. more_items (list_item_tree c.in-More.item) (list_items_tree r)) (sym c.deref-rest.ensures) in
    let within = c.loop-rest.invariant.within in
    let same = ap the_size c.in-More.is in
    let left = ap the_size c.deref-rest.ensures in
    let deep = sized-More c.in-More.item c.in-More.others in
    let codable = subst (λ r. AreItemsCodable (setting_in c.args.program.now) (list_items_tree r)) c.in-More.is c.loop-rest.invariant.codable in
    record {
      leading = one_more c.args.program.now (list_items_tree c.args.items.now) (list_items_tree c.loop-rest.rest.now) (list_items_tree c.deref-rest.result.now) (list_item_tree c.in-More.item) c.loop-rest.codes.items c.push.new.self.items c.in_ok-item_code.field-0 form c.in_ok-push.ensures.items c.in_ok-item_code.ensures c.loop-rest.invariant.leading;
      within = omega arith;
      codable = subst (λ r. AreItemsCodable (setting_in c.args.program.now) (list_items_tree r)) (sym c.deref-rest.ensures) codable.1;
    }

pub add_codes-returns : goal.add_codes-returns
add_codes-returns t c =
    all_lead c.args.program.now (list_items_tree c.args.items.now) (list_items_tree c.loop-rest.rest.now) c.loop-rest.codes.items (ap list_items_tree c.in_default.is) c.loop-rest.invariant.leading

pub list_code-returns-in-Ok : goal.list_code-returns-in-Ok
list_code-returns-in-Ok t c =
    IfOk-weaker c.list_of-list.result (λ l. codes_in l ≡ c.add_codes.new.codes.items) (AreItems c.args.program.now (list_items_tree c.args.items.now))
    (λ l same. each_in c.args.program.now (list_items_tree c.args.items.now) l (subst (AreEach c.args.program.now (list_items_tree c.args.items.now)) (sym same) c.in-Ok.ensures))
    c.list_of-list.ensures
