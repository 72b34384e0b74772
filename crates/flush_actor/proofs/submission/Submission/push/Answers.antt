use Rattle.std.proofs.Common.{◌≡◌, ◌+◌, ◌<◌, length, sym, subst, ap, ◌∙◌, vec_capacity}
use Rattle.flush_actor.specs.conflicts.Commits.{with_commits}
use Rattle.flush_actor.proofs.Notes.{submission_more, submission_same}
use Rattle.flush_actor.specs.Actor.{Submission}
use Rattle.flush_actor.specs.code.Summary.{flush_with, put_with, commits_with}
use Rattle.flush_actor.proofs.submission.Submission.push.Goals as goal

pub invariant_of-self : goal.invariant_of-self
invariant_of-self c =
    let f = c.self.inside in
    let n = c.args.note in
    let room : length f.requests.items < f.limit = subst (λ (x : Submission). length x.requests < x.limit) (sym c.self.view_is) c.requires.room in
    let one : length c.args.requests.items ≡ length f.requests.items + 1 = subst (λ (x : Submission). length c.args.requests.items ≡ length x.requests + 1) (sym c.self.view_is) c.requires.one in
    let id = c.len-id.ensures ∙ f.notes.ok.0 in
    submission_same _ _ _ _ _ _ _ _ _ _ _ _ c.push_reserved.ensures.items c.push_reserved.ensures.capacity
    (c.flush_with-self-inside.ensures ∙ ap (flush_with f.flush n) id)
    (c.put_with-self-inside.ensures ∙ ap (put_with f.put n) id)
    (c.note_commit.ensures ∙ ap (λ i. with_commits f.commits (commits_with f.commits.commits n i)) id)
    (submission_more f.limit f.requests.items c.args.requests.items f.notes.items n (vec_capacity f.notes) f.flush f.put f.commits c.self.invariant room one)
