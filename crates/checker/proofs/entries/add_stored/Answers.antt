use Rattle.std.proofs.Common.{◌+◌, ◌<◌, ◌^◌, map, ap, subst, sym, ◌∙◌}
use Rattle.std.specs.Option.{option_or}
use Rattle.meaning.specs.Arrays.{size}
use Rattle.expressions.specs.Dimensions.{dimension}
use Rattle.checker.specs.Entries.{AreCountable, if_name, said_at}
use Rattle.checker.proofs.Entering.{with_same}
use Rattle.checker.proofs.entries.add_stored.Goals as goal

pub returns-clause-next : goal.returns-clause-next
returns-clause-next c =
    let first = c.args.storing.now.next in
    ap (λ k. first + k) (c.cells_in-cells.ensures ∙ ap (λ ds. size (map dimension ds)) c.deref.ensures ∙ ap size c.in_ok-dimensions.ensures.are)

pub cells_in-cells-requires : goal.cells_in-cells-requires
cells_in-cells-requires c =
    subst AreCountable (sym (ap (λ ds. map dimension ds) c.deref.ensures ∙ c.in_ok-dimensions.ensures.are)) c.requires.countable

pub overflow_add-next : goal.overflow_add-next
overflow_add-next c =
    let first = c.args.storing.now.next in
    let cells = c.cells_in-cells.ensures ∙ ap (λ ds. size (map dimension ds)) c.deref.ensures ∙ ap size c.in_ok-dimensions.ensures.are in
    record { fits = subst (λ k. first + k < 2 ^ 64) (sym cells) c.requires.room }

pub returns-clause-entries : goal.returns-clause-entries
returns-clause-entries c = λ n.
    let first = c.args.storing.now.next in
    c.in_ok-add_entry.ensures n
    ∙ ap (λ s. option_or (said_at c.args.storing.now.entries n) (if_name c.args.name.now s n)) (with_same first _ _ _ _ _ _ c.constant_named.ensures c.type_of_name.ensures c.in_ok-dimensions.ensures.are)
