use Rattle.std.proofs.Common.{rules, false, subst}
use Rattle.meaning.specs.Answers.{answer}
use Rattle.meaning.specs.Promise.{Keeps}
use Rattle.engine.specs.Runs.{held}
use Rattle.engine.proofs.Runs.{flush_refused, flushed}
use Rattle.engine.proofs.running.run_whole.Goals as goal

pub returns-in-Ok : goal.returns-in-Ok
returns-in-Ok g c =
    let contents = g.O.Write.contents in
    let source = c.args.source.now in
    let turns = c.args.asked.now.plan.turns in
    let sink = c.run_over-report.new.sink in
    let ran = c.run_over-report.result in
    let so_far = subst (λ b. Keeps (answer source turns) (held (contents c.new-sink.result.writer.out) b) (held (contents sink.writer.out) sink.refused) ran) c.new-sink.ensures.refused c.run_over-report.ensures.promise in
    let kept = subst (λ w. Keeps (answer source turns) (held (contents w.out) false) (held (contents sink.writer.out) sink.refused) ran) c.new-sink.ensures.writer so_far in
    flushed source turns (contents c.args.out) (contents sink.writer.out) (contents c.flush-flushed.new.self.out) sink.refused ran kept (search rules) c.run_over-report.ensures.refused

pub returns-in-Err : goal.returns-in-Err
returns-in-Err g c =
    let contents = g.O.Write.contents in
    let source = c.args.source.now in
    let turns = c.args.asked.now.plan.turns in
    let sink = c.run_over-report.new.sink in
    let ran = c.run_over-report.result in
    let so_far = subst (λ b. Keeps (answer source turns) (held (contents c.new-sink.result.writer.out) b) (held (contents sink.writer.out) sink.refused) ran) c.new-sink.ensures.refused c.run_over-report.ensures.promise in
    let kept = subst (λ w. Keeps (answer source turns) (held (contents w.out) false) (held (contents sink.writer.out) sink.refused) ran) c.new-sink.ensures.writer so_far in
    flush_refused source turns (contents c.args.out) (contents sink.writer.out) (contents c.flush-flushed.new.self.out) sink.refused ran kept (search rules)
