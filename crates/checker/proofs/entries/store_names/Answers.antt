use Rattle.std.proofs.Common.{◌+◌, refl, ap, subst, ◌∙◌}
use Rattle.std.specs.Prelude.{option_map}
use Rattle.std.specs.Map.{lookup}
use Rattle.std.specs.Str.{bytes_eq}
use Rattle.meaning.specs.Arrays.{size}
use Rattle.meaning.specs.Values.{dimensions_in}
use Rattle.k_rules.specs.Judged.{arrays_in}
use Rattle.checker.specs.Entries.{AddsOne, said, stored}
use Rattle.checker.proofs.Entering.{next_more, stored_more}
use Rattle.checker.proofs.Room.{cells_count}
use Rattle.checker.proofs.entries.store_names.Goals as goal

pub add_stored-requires : goal.add_stored-requires
add_stored-requires c =
    let f = c.args.facts.now in
    let names = c.args.names.now in
    let i = c.loop-name.name-index in
    let now = c.loop-name.storing.next in
    let added = ap (λ n. now + size (dimensions_in (arrays_in f n))) c.deref.ensures.value in
    record {
      countable = c.requires.arrays c.deref.result.now;
      room = cells_count f names (i + 1) _ c.requires (next_more f c.args.symbols.now names i c.name-item.result c.loop-name-test.true c.name-item.is now _ c.loop-name.invariant.next added);
    }

pub loop-name-init : goal.loop-name-init
loop-name-init c = record {
  next = refl;
  entries = λ n. ap (λ es. option_map said (lookup (λ k. bytes_eq n k.items) es)) c.new.ensures.empty;
}

pub loop-name-preserved : goal.loop-name-preserved
loop-name-preserved c =
    let f = c.args.facts.now in
    let r = c.args.symbols.now in
    let names = c.args.names.now in
    let i = c.loop-name.name-index in
    let x = c.name-item.result in
    let so_far = c.loop-name.invariant in
    let now = c.loop-name.storing.next in
    let old = c.loop-name.storing.entries in
    let new = c.add_stored.new.storing.entries in
    record {
      next = next_more f r names i x c.loop-name-test.true c.name-item.is _ _ so_far.next (c.in_ok-add_stored.ensures.next ∙ ap (λ n. now + size (dimensions_in (arrays_in f n))) c.deref.ensures.value);
      entries = stored_more f r names i x c.loop-name-test.true c.name-item.is old new now so_far.next so_far.entries (subst (λ n. AddsOne old new n (stored f r now n)) c.deref.ensures.value c.in_ok-add_stored.ensures.entries);
    }
