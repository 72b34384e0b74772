use Rattle.std.proofs.Common.{◌<◌, vec_capacity, subst, sym, length}
use Rattle.flush_actor.proofs.ConflictsLemmas.CommitBlocks.{table_noted}
use Rattle.flush_actor.specs.conflicts.Commits.{CommitTable}
use Rattle.flush_actor.specs.conflicts.code.Table.{IsCommitTable}
use Rattle.flush_actor.proofs.conflicts.commits.Commits.note.Goals as goal

pub invariant_of-self : goal.invariant_of-self
invariant_of-self c =
    let t = c.self.inside in
    let less : length t.commits.items < t.room = subst (λ (x : CommitTable). length x.commits < x.room) (sym c.self.view_is) c.requires in
    subst (λ n. IsCommitTable t.room c.put_commit.new.commits.items n) (sym c.put_commit.ensures.capacity)
    (table_noted t.room t.commits.items c.put_commit.new.commits.items (vec_capacity t.commits) c.args.tx c.args.id c.self.invariant less c.put_commit.ensures.commits)
