use Rattle.std.proofs.Common.{List, ℕ, ◌++◌, subst}
use Rattle.messages.proofs.Told.{told_then}
use Rattle.engine.specs.Lines.{line_of, lines_of, turns_line}
use Rattle.engine.specs.Explained.{Explains}
use Rattle.messages.specs.Hinted.{IsHinted}
use Rattle.messages.specs.Shown.{Adds}
use Rattle.engine.specs.Told.{AreAlso, AreStages, explained_first, is_alone, is_further}
use Rattle.engine.proofs.running.tell.Goals as goal

pub returns-clause-lines : goal.returns-clause-lines
returns-clause-lines g c =
    let told = g.S.Sink.told in
    let run = told_then (line_of c.args.report.ending) (turns_line c.args.asked.now.count c.args.report.turns) _ _ _ c.tell_ending-status.ensures.line c.tell_turns.ensures in
    let lines : List ℕ = lines_of c.args.asked.now.count c.args.report in
    let alone = subst (λ a. Adds c.is_staged-is_staged.result (AreStages c.args.source.now a c.args.report.turns) (told c.tell_turns.new.err) (told c.tell_stages.new.err)) c.is_alone-is_alone.ensures c.tell_stages.ensures in
    let stages = subst (λ b. Adds b (AreStages c.args.source.now (is_alone c.args.asked.now) c.args.report.turns) (told c.tell_turns.new.err) (told c.tell_stages.new.err)) c.is_staged-is_staged.ensures alone in
    let named = c.file_name-file.ensures in
    let explained = subst (λ f. Adds c.args.asked.now.explain (Explains f c.args.source.now c.matter_of-matter.result) (told c.tell_stages.new.err) (told c.tell_matter.new.err)) named c.tell_matter.ensures in
    let hint = subst (λ o. Adds c.args.asked.now.explain (IsHinted c.args.source.now o) (told c.tell_matter.new.err) (told c.tell_hint.new.err)) c.cause_of-cause.ensures c.tell_hint.ensures in
    let further =
    subst (λ f. Adds (is_further c.args.asked.now c.args.report.ending) (AreAlso (explained_first c.args.asked.now c.args.report.ending) f c.args.source.now) (told c.tell_hint.new.err) (told c.tell_further.new.err)) named
    (subst (λ r. Adds (is_further c.args.asked.now c.args.report.ending) (AreAlso r c.file_name-file.result.now c.args.source.now) (told c.tell_hint.new.err) (told c.tell_further.new.err)) c.explained_first-first.ensures
    (subst (λ b. Adds b (AreAlso c.explained_first-first.result c.file_name-file.result.now c.args.source.now) (told c.tell_hint.new.err) (told c.tell_further.new.err)) c.is_further-is_further.ensures c.tell_further.ensures)) in
    record {
      stages = stages.0;
      matter = c.matter_of-matter.result;
      explained = explained.0;
      hint = hint.0;
      further = further.0;
      are_stages = stages.1;
      is_matter = c.matter_of-matter.ensures;
      explains = explained.1;
      hinted = hint.1;
      are_further = further.1;
      told = told_then (lines ++ stages.0 ++ explained.0 ++ hint.0) further.0 _ _ _
          (told_then (lines ++ stages.0 ++ explained.0) hint.0 _ _ _
          (told_then (lines ++ stages.0) explained.0 _ _ _ (told_then lines stages.0 _ _ _ run stages.2) explained.2) hint.2) further.2;
    }
