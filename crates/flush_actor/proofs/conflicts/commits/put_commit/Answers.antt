use Rattle.std.proofs.Common.{rules, sym, subst}
use Rattle.flush_actor.proofs.ConflictsLemmas.CommitBlocks.{commit_new, commit_old}
use Rattle.flush_actor.specs.conflicts.laws.CommitBlocks.{key_of}
use Rattle.number_sets.specs.laws.Keyed.{KeyStandsAt, KeyBelongsAt}
use Rattle.flush_actor.proofs.conflicts.commits.put_commit.Goals as goal

pub returns-in-Ok-clause-commits : goal.returns-in-Ok-clause-commits
returns-in-Ok-clause-commits c =
    sym (commit_old c.args.commits.now.items c.args.transaction c.args.id c.in-Ok.field-0
    (subst (λ l. KeyStandsAt key_of l c.args.transaction c.in-Ok.field-0) c.deref.ensures.value c.in-Ok.ensures))

pub returns-in-Err-clause-commits : goal.returns-in-Err-clause-commits
returns-in-Err-clause-commits c =
    let put = commit_new c.args.commits.now.items c.args.transaction c.args.id c.in-Err.at
    (subst (λ l. KeyBelongsAt key_of l c.args.transaction c.in-Err.at) c.deref.ensures.value c.in-Err.ensures) in
    search (rules, put)
