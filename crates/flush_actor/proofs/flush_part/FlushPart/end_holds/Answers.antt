use Rattle.std.proofs.Common.{ap, sym, ◌∙◌}
use Rattle.order_model.specs.declared.completion.Completion.TheVariants.{Flushed}
use Rattle.flush_actor.specs.conflicts.Conflicts.{ConflictTable}
use Rattle.flush_actor.proofs.Holds.{unhold_same}
use Rattle.flush_actor.specs.Actor.{FlushActor, with_conflicts}
use Rattle.flush_actor.specs.Steps.{commits_before, after_completion}
use Rattle.flush_actor.proofs.flush_part.FlushPart.end_holds.Goals as goal

pub returns-in-Flushed : goal.returns-in-Flushed
returns-in-Flushed c =
    let f = c.self.inside in
    let id = c.in-Flushed.id in
    let view : FlushActor = record {
      blocks = f.blocks;
      part = record {
        requests = f.submission.requests;
        notes = f.submission.notes;
        limit = f.submission.limit;
        taken = f.completed.taken;
        conflicts = f.conflicts.conflicts;
        waits = f.waits.items;
      };
    } in
    let gone = ap (λ (t : ConflictTable). t.conflicts) c.release_before.ensures
    ∙ unhold_same _ (λ k. commits_before k id 0 f.submission.notes) f.conflicts.conflicts (λ k. c.commits.ensures k id) in
    ap (with_conflicts view) gone
    ∙ ap (λ (x : FlushActor). with_conflicts x (after_completion (Flushed id) x.part)) c.self.view_is
    ∙ ap (λ k. with_conflicts c.args.self.now (after_completion k c.args.self.now.part)) (sym c.in-Flushed.is)
