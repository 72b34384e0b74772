-- The sentences on a power cut, from a medium that is order-closed and the order rules.
use Rattle.std.specs.Prelude.{ℕ, List}
use Rattle.order_model.specs.declared.completion.Completion.{Completion}
use Rattle.order_model.specs.OrderClosed.{IsOrderClosed, KeepsFlushed}
use Rattle.volume_ops.specs.Reads.{Reads}
use Rattle.crash_laws.specs.Found.{found}
use Rattle.crash_laws.specs.Headline.{HoldsPrefix, KeepsPromises}
use Rattle.crash_laws.specs.History.{History, HasTrees}
use Rattle.crash_laws.specs.PageRules.{PageOrder, DataBeforeCommit}
use Rattle.crash_laws.specs.Recovery.{IsRecovered}
use Rattle.crash_laws.specs.Rules.{OrderRules}
use Rattle.crash_laws.specs.Session.{Session, Medium}
use Rattle.crash_laws.proofs.Commits.{kept_commits_are_prefix}
use Rattle.crash_laws.proofs.Promises.{barrier_promise, barrier_promise_metadata, sync_promise, sync_promise_metadata}
use Rattle.crash_laws.proofs.Versions.{walk_recovered, metadata_blocks_recovered, place_recovered, versions_recovered}

module _ {A : Type 0} (program : Reads A) (h : History A) (s : Session) (m : Medium) (disk : ℕ → List ℕ) where
  -- the premises
  module _ (rules : OrderRules program s) (closed : IsOrderClosed s.base s.requests m.image m.origins) where
    pub prefix_and_versions : HasTrees h → PageOrder program h s → DataBeforeCommit program h s → IsRecovered s m disk → HoldsPrefix program h s m disk (found s m)
    prefix_and_versions trees pages order recovers =
        let is_found = kept_commits_are_prefix closed rules.fits rules.commits in
        record {
          transactions = is_found;
          tree = walk_recovered rules closed is_found recovers;
          metadata = metadata_blocks_recovered rules closed is_found recovers;
          places = place_recovered rules closed is_found recovers trees pages;
          versions = versions_recovered rules closed is_found recovers trees pages order;
        }

    pub promises : HasTrees h → PageOrder program h s → (sent : List Completion) → KeepsFlushed s.requests m.origins sent → KeepsPromises program h s m (found s m) sent
    promises trees pages sent flushed =
        let is_found = kept_commits_are_prefix closed rules.fits rules.commits in
        record {
          barriers = λ c e barrier later. (
            barrier_promise rules trees pages closed is_found barrier later,
            barrier_promise_metadata rules trees pages closed is_found barrier later,
          );
          syncs = λ c taken fit sync. (
            sync_promise rules trees pages closed is_found sent sync fit flushed,
            sync_promise_metadata rules trees pages closed is_found sent sync fit flushed,
          );
        }
