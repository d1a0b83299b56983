use Rattle.std.proofs.Common.{◌+◌, cond, Err, sym, ap, ◌∙◌}
use Rattle.std.proofs.lemmas.Result.{err_from_is_err_and}
use Rattle.meaning.specs.declared.refusal.Rule.TheVariants.{C3, C4}
use Rattle.meaning.specs.Lines.{lines_of, statement_lines}
use Rattle.meaning.specs.Statements.{is_blank_field, is_label_field, continuations}
use Rattle.source_columns.specs.Views.{line_of}
use Rattle.source_columns.proofs.Order.{broken}
use Rattle.source_columns.proofs.Ascending.{ascends_all}
use Rattle.source_columns.proofs.Laws.{tells_unprintable, tells_alone, tells_label, tells_apostrophes, tells_behind, reads_statement}
use Rattle.source_columns.proofs.Texts.{true_of_not, false_of_not, told_behind, whole_behind, entry_made, statement_read}
use Rattle.source_columns.proofs.reading.statement_at.Goals as goal

pub returns-then-not-are_printable-clause-exact : goal.returns-then-not-are_printable-clause-exact
returns-then-not-are_printable-clause-exact c =
    let l = c.args.line.now in
    rw c.broken.ensures (tells_unprintable (line_of l) _ (ascends_all (l.number + 1) (lines_of l.behind.now)) (sym c.if-not-are_printable.ensures))

pub returns-then-not-is_initial_line-clause-exact :
    goal.returns-then-not-is_initial_line-clause-exact
returns-then-not-is_initial_line-clause-exact c =
    let l = c.args.line.now in
    let rule = c.rule_alone.ensures ∙ ap (λ field. cond (is_blank_field field) C4 C3) c.label_columns-label_columns.ensures.value in
    rw c.broken-then-not-is_initial_line.ensures (tells_alone (line_of l) _ (ascends_all (l.number + 1) (lines_of l.behind.now)) (sym c.if-not-are_printable.ensures) (sym c.if-not-is_initial_line.ensures) ∙ ap (λ r. Err (broken l.number r)) (sym rule))

pub returns-then-not-is_label_or_blank-clause-exact :
    goal.returns-then-not-is_label_or_blank-clause-exact
returns-then-not-is_label_or_blank-clause-exact c =
    let l = c.args.line.now in
    let label = sym (c.if-not-is_label_or_blank.ensures ∙ ap is_label_field c.label_columns-label_columns.ensures.value) in
    rw c.broken-then-not-is_label_or_blank.ensures (tells_label (line_of l) _ (ascends_all (l.number + 1) (lines_of l.behind.now)) (sym c.if-not-are_printable.ensures) (sym c.if-not-is_initial_line.ensures) label)

pub returns-then-not-is_text_paired-clause-exact : goal.returns-then-not-is_text_paired-clause-exact
returns-then-not-is_text_paired-clause-exact c =
    let l = c.args.line.now in
    let ls = statement_lines (l.number + 1) (lines_of l.behind.now) in
    let label = sym (c.if-not-is_label_or_blank.ensures ∙ ap is_label_field c.label_columns-label_columns.ensures.value) in
    rw c.broken-then-not-is_text_paired.ensures (tells_apostrophes (line_of l) ls (ascends_all (l.number + 1) (lines_of l.behind.now)) (sym c.if-not-are_printable.ensures) (sym c.if-not-is_initial_line.ensures) label (true_of_not _ c.if-not-is_text_paired.ensures))

pub returns-in_err-text-2-clause-exact : goal.returns-in_err-text-2-clause-exact
returns-in_err-text-2-clause-exact c =
    let l = c.args.line.now in
    let ls = statement_lines (l.number + 1) (lines_of l.behind.now) in
    let label = sym (c.if-not-is_label_or_blank.ensures ∙ ap is_label_field c.label_columns-label_columns.ensures.value) in
    let p = err_from_is_err_and c.from_residual-in_err-text-2.result c.from_residual-in_err-text-2.ensures.1 in
    rw (p.1, p.2) (told_behind c.in_err-text-2.field-0.0 _ _ _ c.in_err-text-2.ensures.joined (λ b e. tells_behind (line_of l) ls b (ascends_all (l.number + 1) (lines_of l.behind.now)) (sym c.if-not-are_printable.ensures) (sym c.if-not-is_initial_line.ensures) label (false_of_not _ c.if-not-is_text_paired.ensures) e))

pub returns-clause-exact : goal.returns-clause-exact
returns-clause-exact c =
    let l = c.args.line.now in
    let ls = statement_lines (l.number + 1) (lines_of l.behind.now) in
    let label = sym (c.if-not-is_label_or_blank.ensures ∙ ap is_label_field c.label_columns-label_columns.ensures.value) in
    let whole = whole_behind _ _ _ c.in_ok-text-2.ensures.joined in
    let text = c.in_ok-text.ensures.items ∙ c.text_columns.ensures.value in
    let read = reads_statement (line_of l) ls (ascends_all (l.number + 1) (lines_of l.behind.now)) (sym c.if-not-are_printable.ensures) (sym c.if-not-is_initial_line.ensures) label (false_of_not _ c.if-not-is_text_paired.ensures) whole.0 in
    statement_read _ _ _ _ _ read (entry_made (line_of l) (continuations ls) c.label_in.result c.label_columns-label_columns.result.now c.in_ok-text.text.items c.in_ok-text-2.field-0.text.items c.label_in.ensures c.label_columns-label_columns.ensures.value text whole.1) c.in_ok-text-2.ensures.behind
