use Rattle.std.proofs.Common.{◌≤◌, ◌<◌, ◌^◌, [], length, sym, subst, ap, ◌∙◌, arith}
use Rattle.flush_actor.specs.conflicts.Conflicts.{ConflictTable}
use Rattle.flush_actor.proofs.Waiting.{needs_none}
use Rattle.flush_actor.specs.Actor.{Submission, Completed}
use Rattle.flush_actor.specs.code.Fields.{NeedsSubmitted}
use Rattle.flush_actor.proofs.flush_part.FlushPart.make.Goals as goal

pub invariant_of-result : goal.invariant_of-result
invariant_of-result c =
    let s = c.in_ok-make.ensures in
    record {
      paired = ap (λ (x : Submission). length x.requests) s ∙ sym (ap (λ (x : Submission). length x.notes) s);
      few = subst (λ (x : Submission). length x.requests ≤ x.limit) (sym s) (omega arith);
      short = subst (λ (x : Submission). x.limit < 2 ^ 32) (sym s) c.requires;
      known = ap (λ (x : Completed). x.known) c.in_ok-make-2.ensures ∙ sym (ap (λ (x : Submission). x.limit) s);
      held = ap (λ (x : ConflictTable). x.blocks) c.in_ok-make-3.ensures;
      needs = subst (λ (x : Submission). NeedsSubmitted x.requests c.in_ok-no_waits.field-0.items) (sym s) (subst (NeedsSubmitted []) (sym c.in_ok-no_waits.ensures) (needs_none c.args.threads));
    }
