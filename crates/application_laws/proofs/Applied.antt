-- The laws of applications, of a session.
use Rattle.std.specs.Prelude.{◌≡◌, ◌⊎◌, ℕ, suc, ◌+◌, ◌<◌, ◌≤◌, true, false, List, [], Option, Some, None, Ok, IsOk, unwrap_or, refl}
use Rattle.std.proofs.Common.{sym, ap, subst, ◌∙◌, inl, inr, arith}
use Rattle.tree_model.specs.declared.node.File.{File}
use Rattle.tree_model.specs.Calls.{Tree}
use Rattle.tree_model.specs.Histories.{block_at}
use Rattle.tree_model.specs.Trees.{node_of_path}
use Rattle.flush_actor.specs.Kinds.{is_data, is_durable}
use Rattle.minix_host.specs.Calls.{kind_of}
use Rattle.session_grammar.specs.declared.session_script.SessionScript.{SessionScript}
use Rattle.session_core.specs.Core.{EndState}
use Rattle.session_core.specs.CallNames.{is_sync_call, covers_data_alone}
use Rattle.session_core.specs.Headline.{medium_of, told_by, HasLaterKept, HeadlineOn}
use Rattle.session_core.specs.declared.report.SessionReport.{SessionReport}
use Rattle.session_core.proofs.CallNames.{durable, data_alone}
use Rattle.application_trees.specs.Outcomes.{Shows, Holds, Grows, IsAsNew}
use Rattle.application_trees.specs.Pairs.{Pair, ArePairs}
use Rattle.application_trees.specs.Runs.{IsMoved, IsReplacing}
use Rattle.session_core.proofs.NewestBlocks.{newest}
use Rattle.application_trees.proofs.Kept.{old_or_new}
use Rattle.application_trees.proofs.Moves.{replacing}
use Rattle.application_trees.proofs.Spools.{there_is_whole, moved_whole}
use Rattle.application_trees.proofs.Grown.{grown_holds}
use Rattle.application_trees.proofs.Ordered.{pairs_kept}
use Rattle.application_laws.specs.Left.{room_for, trees_of, left_of, IsBarred, IsLogged, AreLogged}
use Rattle.application_laws.proofs.LeftFacts.{plain, has_history, left_shown, synced, barred, barred_by, recovered}
use Rattle.application_laws.proofs.Later.{Later, tells}

module _ (s : SessionScript) (end : EndState) (r : SessionReport) (is : HeadlineOn s end r) where
  pub replaced : (path other : List ℕ) (fresh names : List (List ℕ)) (old a : ℕ) (before : File) (new b p : ℕ) (after : File) → IsReplacing (room_for s) (trees_of s end) path other fresh names old a before new b p after →
      (e : ℕ) (sync : IsBarred s end r is old a e) → is_sync_call sync.call ≡ true → covers_data_alone sync.call ≡ false → (d : ℕ) → IsBarred s end r is new b d → d < p →
      Shows is.prefix.tree names before ⊎ Shows is.prefix.tree names after
  replaced path other fresh names old a before new b p after x e sync named whole d barrier low =
      let kind : is_durable (kind_of sync.call) ≡ true = durable sync.call ∙ named in
      let made = recovered s end r is old a e sync kind (data_alone sync.call ∙ whole) in
      old_or_new (left_of s end r is) (has_history s end r is) names p old a before new b after
      (replacing (room_for s) (trees_of s end) (plain s end r is) path other fresh names old a before new b p after x (left_of s end r is) (λ n. refl) made)
      (λ up. synced s end r is old a e sync kind)
      (λ past. barred_by s end r is new b d barrier p low past)

  pub spooled : (path other : List ℕ) (fresh names : List (List ℕ)) (new b p : ℕ) (g : File) → IsMoved (room_for s) (trees_of s end) path other fresh names new b p g →
      (d : ℕ) → IsBarred s end r is new b d → d < p → ((v birth : ℕ) → v ≤ p → node_of_path (trees_of s end v) names ≡ Ok birth → ⊥) → IsOk (node_of_path is.prefix.tree names) → Shows is.prefix.tree names g
  spooled path other fresh names new b p g x d barrier low none there =
      there_is_whole (room_for s) (trees_of s end) (plain s end r is) (left_of s end r is) (λ n. refl) (has_history s end r is) path other fresh names new b p g x none
      (λ past. barred_by s end r is new b d barrier p low past) there

  -- a sync call of any file behind the rename
  pub spooled_there : (path other : List ℕ) (fresh names : List (List ℕ)) (new b p : ℕ) (g : File) → IsMoved (room_for s) (trees_of s end) path other fresh names new b p g →
      (d : ℕ) → IsBarred s end r is new b d → d < p → (any a e : ℕ) (sync : IsBarred s end r is any a e) → is_sync_call sync.call ≡ true → covers_data_alone sync.call ≡ false → p < a → Shows is.prefix.tree names g
  spooled_there path other fresh names new b p g x d barrier low any a e sync named whole behind =
      let made = recovered s end r is any a e sync (durable sync.call ∙ named) (data_alone sync.call ∙ whole) in
      let past : p < (left_of s end r is).cut = omega (arith, made, behind) in
      moved_whole (room_for s) (trees_of s end) (plain s end r is) (left_of s end r is) (λ n. refl) (has_history s end r is) path other fresh names new b p g x past
      (barred_by s end r is new b d barrier p low past)

  -- ---- a file that grew with each write needs no barrier

  new_blocks : IsAsNew (left_of s end r is)
  new_blocks f i m n there wrote changed before found = left_shown s end r is f i n (newest s end r is f i m n there wrote changed before found)

  pub replaced_grown : (path other : List ℕ) (fresh names : List (List ℕ)) (old a : ℕ) (before : File) (new b p : ℕ) (after : File) → IsReplacing (room_for s) (trees_of s end) path other fresh names old a before new b p after →
      (e : ℕ) (sync : IsBarred s end r is old a e) → is_sync_call sync.call ≡ true → covers_data_alone sync.call ≡ false → Grows (left_of s end r is) new b →
      Shows is.prefix.tree names before ⊎ Shows is.prefix.tree names after
  replaced_grown path other fresh names old a before new b p after x e sync named whole grows =
      let kind : is_durable (kind_of sync.call) ≡ true = durable sync.call ∙ named in
      let made = recovered s end r is old a e sync kind (data_alone sync.call ∙ whole) in
      let order = x.moved.order in
      old_or_new (left_of s end r is) (has_history s end r is) names p old a before new b after
      (replacing (room_for s) (trees_of s end) (plain s end r is) path other fresh names old a before new b p after x (left_of s end r is) (λ n. refl) made)
      (λ up. synced s end r is old a e sync kind)
      (λ past. grown_holds (left_of s end r is) (has_history s end r is) new_blocks new b grows (omega (arith, order, past)))

  -- ---- a log and its pages

  pairs : (log file n : ℕ) (pair : ℕ → Pair) → AreLogged s end r is log file n pair → ArePairs (left_of s end r is) (Later s end r is) log file n pair
  pairs log file n pair are = record {
    each = λ k low.
        let x = are.each k low in
        record {
          entry = x.entry;
          wrote = x.wrote;
          stays = x.stays;
          low = x.low;
          barred = λ later.
              let same : suc x.at ≡ x.at + 1 = omega arith in
              barred s end r is log (pair k).covered x.at x.barrier (subst (λ q. HasLaterKept s end (medium_of r) q) (x.number ∙ same) later);
          some = x.some;
          newer = x.newer;
        };
    rising = are.rising;
  }

  pub logged : (log file n : ℕ) (pair : ℕ → Pair) → AreLogged s end r is log file n pair → (names : List (List ℕ)) → node_of_path (trees_of s end ((told_by s end).cut r.found)) names ≡ Ok file →
      (m : ℕ) → m < n → block_at is.prefix.tree (is.prefix.alike.to file) (pair m).page ≡ Some (pair m).bytes → (k : ℕ) → k ≤ m → block_at is.prefix.tree (is.prefix.alike.to log) (pair k).place ≡ Some (pair k).body
  logged log file n pair are names led = pairs_kept (left_of s end r is) (Later s end r is) log file n pair (pairs log file n pair are) (tells s end r is names file led)
