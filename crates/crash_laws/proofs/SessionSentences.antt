-- The four sentences on a power cut follow from the order rules.
use Rattle.std.specs.Prelude.{◌≡◌, ℕ, ◌≤◌, true, List, Ok}
use Rattle.std.proofs.Common.{sym, ap, subst, ◌∙◌, inl, inr, ⊎_elim}
use Rattle.blk_base.specs.Members.{In}
use Rattle.order_model.specs.declared.completion.Completion.{Completion}
use Rattle.order_model.specs.OrderClosed.{IsOrderClosed, KeepsFlushed}
use Rattle.tree_model.specs.declared.node.Node.{Node}
use Rattle.tree_model.specs.Trees.{node_of_path, AreAlike}
use Rattle.volume_ops.specs.Volume.{disk_of, tree_of, walked}
use Rattle.volume_ops.specs.Walk.{walk_volume}
use Rattle.crash_laws.specs.Found.{found}
use Rattle.crash_laws.specs.Headline.{HoldsPrefix}
use Rattle.crash_laws.specs.History.{HasTrees}
use Rattle.crash_laws.specs.PageRules.{place_at}
use Rattle.crash_laws.specs.PromiseRules.{BegunCall, Covers, CoversEntry, IsSettled}
use Rattle.crash_laws.specs.Recovery.{IsOf, HasVersion, IsRecovered}
use Rattle.crash_laws.specs.Session.{Medium}
use Rattle.crash_laws.specs.SessionRules.{Run, history, tree_at, KeepsRules, HasVersionOnPath, IsSafe, Sentences}
use Rattle.crash_laws.specs.TreeHistory.{zone_on_path}
use Rattle.crash_laws.proofs.Commits.{kept_commits_are_prefix}
use Rattle.crash_laws.proofs.Sentences.{prefix_and_versions, promises}
use Rattle.crash_laws.proofs.TreeHistories.{real_trees}
use Rattle.crash_laws.proofs.Versions.{page_block_untouched}
use Rattle.crash_laws.proofs.Volumes.{prefix_of_transactions}

module _ (run : Run) (rules : KeepsRules run)
    (m : Medium) (closed : IsOrderClosed run.session.base run.session.requests m.image m.origins)
    (recovered : List (List ℕ)) (recovers : IsRecovered run.session m (disk_of recovered)) where
  trees : HasTrees (history run)
  trees = real_trees run.room run.opened run.first rules.plain rules.born run.events run.cut run.place rules.cuts

  held : HoldsPrefix (walk_volume run.geometry) (history run) run.session m (disk_of recovered) (found run.session m)
  held = prefix_and_versions (walk_volume run.geometry) (history run) run.session m (disk_of recovered) rules.order closed trees rules.pages rules.versions recovers

  tree : (tree : List (ℕ × Node)) × (tree_of run.geometry recovered ≡ Ok tree) × AreAlike (tree_at run (run.cut (found run.session m))) tree
  tree =
      prefix_of_transactions run.geometry run.session m (found run.session m) (λ k. tree_at run (run.cut k)) recovered rules.order rules.trees closed
      (kept_commits_are_prefix closed rules.order.fits rules.order.commits) recovers

  -- a path finds the block that the image of the last transaction has
  zone_is : (names : List (List ℕ)) (birth index : ℕ) → node_of_path (tree_at run (run.cut (found run.session m))) names ≡ Ok birth
      → zone_on_path run.geometry recovered names index ≡ place_at (walk_volume run.geometry) (history run) run.session (found run.session m) birth index
  unfolding walked
  zone_is names birth index path =
      sym (rules.places (run.cut (found run.session m)) recovered tree.0 names birth index tree.1 tree.2 path) ∙ held.places birth index

  on_path : (names : List (List ℕ)) (birth index v : ℕ) → (history run).maps (run.cut (found run.session m)) birth index ≡ true
      → HasVersion (walk_volume run.geometry) (history run) run.session m (found run.session m) birth index v
      → node_of_path (tree_at run (run.cut (found run.session m))) names ≡ Ok birth → HasVersionOnPath run m recovered names birth index v
  on_path names birth index v mapped t path =
      let zone = zone_is names birth index path in
      record {
        version = t.version;
        mapped = t.mapped;
        source = subst (IsOf run.session m birth index t.version) (sym zone) t.source;
        body =
            ap (disk_of recovered) zone
            ∙ page_block_untouched rules.order closed (kept_commits_are_prefix closed rules.order.fits rules.order.commits) recovers trees rules.pages birth index mapped t.low
            ∙ t.body;
        no_older = t.later;
      }

  safe : (begun : BegunCall)
      → ((f i n : ℕ) → Covers (history run) begun f i n → IsSettled (walk_volume run.geometry) (history run) run.session m (found run.session m) f i n) × ((n : ℕ) → CoversEntry begun n → n ≤ run.cut (found run.session m))
      → IsSafe run m recovered (found run.session m) begun
  safe begun all = record {
    pages = λ birth index n covered.
        ⊎_elim
        (λ kept. inl (kept.0, λ names path. on_path names birth index n kept.0 kept.1 path))
        inr
        (all.0 birth index n covered);
    metadata = all.1;
  }

  pub sentences : (sent : List Completion) → KeepsFlushed run.session.requests m.origins sent → ((o : Completion) → In o run.taken → In o sent) → Sentences run m recovered (found run.session m)
  sentences sent flushed taken =
      let kept = promises (walk_volume run.geometry) (history run) run.session m (disk_of recovered) rules.order closed trees rules.pages sent flushed in
      record {
        prefix = record { transactions = held.transactions; tree = tree.0; found = tree.1; alike = tree.2 };
        versions = λ names birth index k path mapped change. on_path names birth index _ mapped (held.versions birth index k mapped change).0 path;
        barriers = λ c begun e answered barrier later. safe begun (kept.barriers begun e (rules.barriers c begun e answered barrier) later);
        syncs = λ c begun e answered sync.
            ⊎_elim
            (λ keeps. safe begun (kept.syncs begun run.taken taken keeps))
            (λ nothing. record { pages = λ birth index n covered. absurd (nothing.pages birth index n covered); metadata = λ n covered. absurd (nothing.metadata n covered) })
            (rules.syncs c begun e answered sync);
      }
