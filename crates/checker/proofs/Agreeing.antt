-- What is kept beside a tree agrees with what its statements say, part by part.
use Rattle.std.proofs.Common.{◌≡◌, length, Ok}
use Rattle.meaning.specs.declared.syntax.Tree.{Tree}
use Rattle.meaning.specs.Rules.{checked}
use Rattle.meaning.specs.Syntax.{exprs_tree, no_exprs}
use Rattle.meaning.specs.Trees.{members_tree, nested}
use Rattle.label_targets.specs.Landmarked.{AreLabelTargets}
use Rattle.name_maps.specs.Keeping.{kept_at}
use Rattle.statement_rules.specs.declared.reading.Formats.{Formats}
use Rattle.statement_rules.specs.FormatsFound.{HoldsFormats}
use Rattle.checker.specs.declared.rules.Kept.{Kept}
use Rattle.storage.specs.Agreed.{IsNumbered}
use Rattle.checker.specs.Built.{parts_by}
use Rattle.storage.specs.Checked.{items_in, names_in}
use Rattle.appearances.specs.FunctionsFound.{AreFound}
use Rattle.checker.proofs.Building.{Naming}
use Rattle.checker.proofs.Ruled.{functions_at}

pub numbered : (t : Tree) (f : Formats) (k : Kept) → checked (nested t) ≡ Ok (nested t) → Naming t k.names → AreFound (names_in t).definitions t.body.items k.functions → k.function_count ≡ length (names_in t).definitions → exprs_tree k.no_dummies ≡ no_exprs → HoldsFormats (items_in t) f → AreLabelTargets (members_tree t.body.items) k.label_targets → IsNumbered (parts_by t f k)
numbered t f k accepted naming found counted undummied formats marked =
    record {
      accepted = accepted;
      valued = naming.valued;
      typed = naming.typed;
      lettered = naming.lettered;
      stored = naming.stored;
      few = naming.few;
      defined = λ n. functions_at (nested t) accepted n t.body.items (kept_at k.functions n) (found n);
      counted = counted;
      undummied = undummied;
      many = naming.many;
      started = naming.started;
      small = formats.small;
      formatted = formats.labelled;
      read = formats.constants;
      marked = marked;
    }
