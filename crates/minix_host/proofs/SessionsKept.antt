-- Whole sessions on a volume keep the order rules, and a power cut leaves the tree after a prefix of the calls.
use Rattle.std.specs.Prelude.{◌≡◌, ◌<◌, ◌≤◌, ℕ, ◌+◌, Bool, List, [], ◌∷◌, length, slice_get, Some, Ok, refl}
use Rattle.std.proofs.Common.{sym, ap, subst, ◌∙◌, inl, arith}
use Rattle.log_model.specs.Marks.{Transaction}
use Rattle.minix_host.specs.ByteCalls.{ByteCall}
use Rattle.tree_model.specs.declared.call.Reply.{Reply}
use Rattle.tree_model.specs.declared.call.Reply.TheVariants as replies
use Rattle.tree_model.specs.Calls.{Tree}
use Rattle.tree_model.specs.Trees.{AreAlike}
use Rattle.tree_model.specs.laws.Alike.{alike_chain}
use Rattle.volume_ops.specs.Reads.{answer}
use Rattle.volume_ops.specs.Volume.{disk_of, walked, put_nodes, tree_found, tree_of}
use Rattle.volume_ops.specs.Walk.{walk_volume}
use Rattle.volume_model.specs.NewVolume.{new_volume, root_placed}
use Rattle.volume_model.specs.Trees.{tree_now}
use Rattle.volume_model.proofs.SameTrees.{same_but_births}
use Rattle.volume_steps.specs.Now.{VolumeNow, tree_of_now}
use Rattle.volume_steps.specs.Plain.{IsPlainNow}
use Rattle.volume_steps.specs.NewNow.{new_now}
use Rattle.journal_ring.specs.LogRing.{LogRing}
use Rattle.host_machine.specs.Host.{advance}
use Rattle.host_machine.specs.Outcomes.{Done}
use Rattle.host_machine.specs.State.{Begun, Thread, Host}
use Rattle.flush_actor.specs.Part.{is_flush_note}
use Rattle.host_machine.specs.Views.{tree_after, cut_of}
use Rattle.host_machine.specs.laws.Contract.{IsAlike}
use Rattle.host_machine.specs.runs.Promises.{IsAnswered}
use Rattle.host_machine.specs.runs.Runs.{Event, stepped, steps, FitsWords}
use Rattle.host_machine.specs.runs.Flushes.{count, is_sync_begin}
use Rattle.host_machine.specs.runs.Sentences.{kept_number}
use Rattle.host_machine.specs.runs.laws.Kept.{IsSound as IsSoundHost}
use Rattle.host_machine.specs.runs.laws.Written.{AreWritten}
use Rattle.host_machine.proofs.RunsLemmas.Answered.{answered_now, answer_stays}
use Rattle.host_machine.proofs.RunsLemmas.RunHost.{opened_has, step_keeps, step_fits, steps_keep}
use Rattle.host_machine.proofs.RunsLemmas.Sentences.{sentences}
use Rattle.blk_base.specs.Members.{In}
use Rattle.tree_model.specs.Plain.{AreBornBefore}
use Rattle.tree_model.proofs.PlainTrees.{new_born}
use Rattle.crash_laws.specs.LegalHistory.{root_alone}
use Rattle.minix_host.specs.PlainTrees.{PlainTree, root_tree}
use Rattle.minix_host.specs.Runs.{IsNewOpening, IsOpenedVolume, HasEmptyJournal, HasTreeLike, KeepsSession, opened_host, host_after}
use Rattle.minix_host.specs.Sessions.{Opening, over, HasRoot, Stands}
use Rattle.minix_host.proofs.BytesKept.{new_bytes}
use Rattle.minix_host.proofs.AlikeFound.{found_alike}
use Rattle.minix_host.proofs.Numbered.{trees_are}
use Rattle.minix_host.proofs.OpenedVolumes.{alone_listed, is_opened, fits_words}
use Rattle.minix_host.proofs.Promises.{promises, blocks_are_whole}
use Rattle.minix_host.proofs.WalkedZones.{ends, t, k}

-- ---- trees that a walk finds

module _ (s : Opening) (u : PlainTree) (blocks : List (List ℕ)) (alike : IsAlike (over s) (Stands s) (answer (disk_of blocks) (walk_volume s.geometry)) u) where
  abbrev v : VolumeNow
  v = alike.0

  abbrev stands : Stands s v u
  stands = alike.1

  -- the walk through these blocks ends as that through the volume
  same_end : walked v.geometry blocks ≡ walked v.geometry v.contents.blocks
  unfolding walked
  same_end = sym (subst (λ g. answer (disk_of v.contents.blocks) (walk_volume g) ≡ answer (disk_of blocks) (walk_volume g)) (sym stands.geometry) alike.2)

  abbrev all_found : walked v.geometry blocks ≡ Ok (ends v.geometry v.contents stands.plain.plain).0
  all_found = same_end ∙ (ends v.geometry v.contents stands.plain.plain).1

  abbrev tree : Tree
  tree = put_nodes blocks (ends v.geometry v.contents stands.plain.plain).0.nodes []

  like_now : AreAlike (tree_of_now v) tree
  like_now =
      alike_chain (tree_of_now v) (t v.geometry v.contents stands.plain.plain) tree
      (same_but_births v.geometry v.contents stands.plain.plain (t v.geometry v.contents stands.plain.plain) (k v.geometry v.contents stands.plain.plain)).alike
      (found_alike v.geometry v.contents.blocks blocks (ends v.geometry v.contents stands.plain.plain).0 (ends v.geometry v.contents stands.plain.plain).1 all_found)

  tree_like : HasTreeLike s blocks u.tree
  tree_like = record {
    tree = tree;
    found = ap (λ g. tree_of g blocks) (sym stands.geometry) ∙ ap (tree_found blocks) all_found;
    alike = subst (λ now. AreAlike now tree) stands.tree like_now;
  }

-- ---- a session

module _ (s : Opening) (born : AreBornBefore (s.first + 1) s.tree.tree) (h : Host VolumeNow ByteCall Reply) (kept : IsSoundHost (promises s) h) where
  abbrev closed : List Transaction
  closed = kept.rules.0

  pub session_kept : KeepsSession s h
  session_kept =
      let said = sentences (promises s) h closed kept.rules.1 kept.rules.2 in
      record {
        closed = closed;
        rules = kept.rules.2.rules;
        sentences = said;
        trees = λ m recovered order recovers.
            let last = cut_of h.cuts (length h.history) (kept_number (over s) (Stands s) h closed m) in
            subst (HasTreeLike s recovered) (trees_are (λ (c : ByteCall). c.call) s.geometry s.tree s.first born h.history last)
            (tree_like s (tree_after (over s).model h.history last) recovered (said.tree m (disk_of recovered) order recovers));
      }

module _ (s : Opening) (v : VolumeNow) (ring : LogRing) (limit : ℕ) (programs : List (List ByteCall)) (written : AreWritten s.format s.writers) (o : IsOpenedVolume s v) (j : HasEmptyJournal s ring limit) where
  abbrev first : Host VolumeNow ByteCall Reply
  first = opened_host s v ring limit programs

  first_fits : FitsWords (over s) first
  first_fits = fits_words s v o ring limit programs j

  first_sound : IsSoundHost (promises s) first
  first_sound = opened_has (promises s) v ring s.geometry.zones limit programs (is_opened s v o ring limit programs j)

  fit_on : (h : Host VolumeNow ByteCall Reply) (events : List Event) → IsSoundHost (promises s) h → FitsWords (over s) h → FitsWords (over s) (steps (over s) h events)
  fit_on h [] kept fits = fits
  fit_on h (e ∷ events) kept fits =
      fit_on (stepped (over s) h e) events (step_keeps (promises s) written (blocks_are_whole s) h e kept fits) (step_fits (promises s) written (blocks_are_whole s) h e kept fits)

  sound_after : (events : List Event) → IsSoundHost (promises s) (host_after s v ring limit programs events)
  sound_after events = steps_keep (promises s) written (blocks_are_whole s) first events first_sound first_fits

  pub session_runs : (events : List Event) → KeepsSession s (host_after s v ring limit programs events)
  session_runs events = session_kept s o.born (host_after s v ring limit programs events) (sound_after events)

  -- an Ok has what it stands for, then and later
  pub answered_in_run : (events more : List Event) (full : Bool) (t : ℕ) (th : Thread ByteCall) (b : Begun) → slice_get (host_after s v ring limit programs events).threads t ≡ Some th → th.begun ≡ Some b →
      (advance (over s).model (over s).setup full (host_after s v ring limit programs events) t).step ≡ Done replies.Ok →
      IsAnswered (over s) (Stands s) (steps (over s) (host_after s v ring limit programs events) more) (length (host_after s v ring limit programs events).history + 1) b
  answered_in_run events more full t th b at begun done =
      let h = host_after s v ring limit programs events in
      let sound = sound_after events in
      answer_stays (promises s) written (blocks_are_whole s) h more (length h.history + 1) b sound (fit_on first events first_sound first_fits)
      (sound.rules.3.each t th b at begun).begun
      (answered_now (promises s) h sound full t th b at begun replies.Ok refl done)

  -- flushes are submitted for sync calls alone
  pub flushes_in_run : (events : List Event) → count is_flush_note (host_after s v ring limit programs events).journal.flush.notes ≤ count (is_sync_begin (over s).model.kind) (host_after s v ring limit programs events).history
  flushes_in_run events = (let charged = (sound_after events).rules.4.charged in omega arith)

-- ---- new volumes

pub new_opened : (s : Opening) → IsNewOpening s → IsPlainNow (new_now s.geometry) → s.root ≡ s.geometry.first → ((b : ℕ) → b < s.geometry.zones → disk_of s.image b ≡ disk_of (new_volume s.geometry).blocks b) → IsOpenedVolume s (new_now s.geometry)
unfolding tree_now
new_opened s new plain root image =
    let has_root : HasRoot (new_now s.geometry) s.root = record { placed = root_placed s.geometry; stands = refl; zone_is = sym root } in
    record {
      plain = plain;
      geometry = refl;
      tree = sym (ap (λ (t : PlainTree). t.tree) new.tree);
      born = subst (λ (t : PlainTree). AreBornBefore (s.first + 1) t.tree) (sym new.tree) (subst (λ n. AreBornBefore (n + 1) (root_alone s.geometry.width)) (sym new.first) (new_born s.geometry.width));
      root = has_root;
      bytes = new_bytes s.geometry;
      image = image;
      listed = λ b m. inl (alone_listed s (new_now s.geometry) plain refl has_root refl b m);
      freeable = λ b i. absurd (subst (In b) new.freeable i);
    }
