use Rattle.std.proofs.Common.{vec_capacity, ap, subst, sym, ◌∙◌, List}
use Rattle.std.specs.List.{filter, list_any}
use Rattle.std.specs.Prelude.{◌==◌, not}
use Rattle.blk_base.specs.Members.{IsAscending}
use Rattle.blk_base.specs.laws.Members.{IsAscending-filter}
use Rattle.flush_actor.proofs.ConflictsLemmas.Steps.{released_table, table_filtered}
use Rattle.flush_actor.specs.conflicts.Commits.{is_committed}
use Rattle.flush_actor.specs.conflicts.laws.Holds.{block_of}
use Rattle.flush_actor.specs.conflicts.code.Table.{IsTable}
use Rattle.flush_actor.specs.declared.conflicts.held.Held.{Held}
use Rattle.flush_actor.proofs.conflicts.conflicts.Conflicts.release_before.Goals as goal

pub keep_held-requires : goal.keep_held-requires
keep_held-requires c =
    subst (IsAscending block_of) (sym (c.deref.ensures.value ∙ c.end_committed.ensures.held))
    (IsAscending-filter block_of (λ h. not (is_committed c.args.before h.transaction c.args.commits.now.commits)) c.self.inside.held.items c.self.invariant.rising)

pub invariant_of-self : goal.invariant_of-self
invariant_of-self c =
    let t = c.self.inside in
    subst (λ n. IsTable t.blocks c.end_committed.new.held.items c.keep_held.new.blocks.items (vec_capacity c.end_committed.new.held) n) (sym c.keep_held.ensures.capacity)
    (subst (λ n. IsTable t.blocks c.end_committed.new.held.items c.keep_held.new.blocks.items n (vec_capacity t.wanted)) (sym c.end_committed.ensures.capacity)
    (table_filtered t.blocks t.held.items c.end_committed.new.held.items t.wanted.items c.keep_held.new.blocks.items (vec_capacity t.held) (vec_capacity t.wanted)
    (λ (h : Held). not (is_committed c.args.before h.transaction c.args.commits.now.commits)) (λ b. list_any (λ (h : Held). h.block == b) c.deref.result.now) c.self.invariant c.end_committed.ensures.held c.keep_held.ensures.blocks))

pub returns : goal.returns
returns c =
    let t = c.self.inside in
    released_table t.blocks (λ k. is_committed c.args.before k c.args.commits.now.commits) t.held.items c.end_committed.new.held.items t.wanted.items c.keep_held.new.blocks.items c.args.self.now c.end_committed.ensures.held
    (c.keep_held.ensures.blocks ∙ ap (λ (l : List Held). filter (λ b. list_any (λ (h : Held). h.block == b) l) t.wanted.items) c.deref.ensures.value)
    c.self.view_is
