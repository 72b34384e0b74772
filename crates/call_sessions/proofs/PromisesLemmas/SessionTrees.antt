-- The volume of a session stands for the tree after its entries, and answers as that tree.
use Rattle.std.proofs.Common.{◌≡◌, ℕ, suc, ◌+◌, arith, map, true, List, [], ◌∷◌, length, Option, Some, None, refl, sym, ap, subst, ◌∙◌}
use Rattle.std.proofs.lemmas.List.{length-map}
use Rattle.tree_model.specs.declared.call.Call.{Call}
use Rattle.tree_model.specs.declared.call.Reply.{Reply}
use Rattle.tree_model.specs.declared.call.Reply.TheVariants as replies
use Rattle.tree_model.specs.Calls.{reply_of}
use Rattle.tree_model.specs.Histories.{tree_after_entries}
use Rattle.tree_model.specs.Plain.{AreBornBefore}
use Rattle.volume_steps.specs.Now.{VolumeNow, tree_of_now, room_of}
use Rattle.volume_steps.specs.Plain.{IsPlainNow}
use Rattle.journal_ring.specs.LogRing.{LogRing}
use Rattle.flush_actor.specs.Kinds.{is_begun}
use Rattle.host_machine.specs.State.{Entry, Host}
use Rattle.host_machine.specs.Views as views
use Rattle.host_machine.specs.runs.Runs as runs
use Rattle.host_machine.specs.runs.laws.Kept.{IsSound as IsSoundHost}
use Rattle.host_machine.specs.runs.laws.Written.{AreWritten}
use Rattle.host_machine.proofs.RunsLemmas.RunHost.{opened_has, steps_keep}
use Rattle.minix_host.specs.ByteCalls.{ByteCall}
use Rattle.minix_host.specs.Calls.{kind_of}
use Rattle.minix_host.specs.PlainTrees.{PlainTree}
use Rattle.minix_host.specs.Numbers.{number_in}
use Rattle.minix_host.specs.Runs.{IsOpenedVolume, HasEmptyJournal, call_of_entry, calls_of, opened_host, host_after}
use Rattle.minix_host.specs.Sessions.{Opening, over, Stands}
use Rattle.minix_host.proofs.Numbered.{all_born, numbers_kept, trees_are}
use Rattle.minix_host.proofs.OpenedVolumes.{is_opened, fits_words}
use Rattle.minix_host.proofs.Promises.{promises, blocks_are_whole}
use Rattle.call_sessions.specs.CallsAs.{entry_as}
use Rattle.call_sessions.specs.Sessions.{WriteBytes, plain_call, plain_host, call_over, acting_call, host_behind}
use Rattle.call_sessions.proofs.CallsKept.{all_with_bytes, is_plain}
use Rattle.call_sessions.specs.promises.Trees.{tree_at}
use Rattle.call_sessions.proofs.PromisesLemmas.VolumeReplies.{refused_reply, free_row, done_reply, begun_reply}

acting_as : (es : List (Entry ByteCall Reply)) → map acting_call (map (entry_as plain_call) es) ≡ calls_of es
acting_as [] = refl
acting_as (e ∷ es) = ap (λ (cs : List (Option Call)). call_of_entry e ∷ cs) (acting_as es)

-- the tree that a history is read over is that of the tree model
pub tree_told : (s : Opening) → AreBornBefore (s.first + 1) s.tree.tree → (h : Host VolumeNow Call Reply) (n : ℕ) → (views.tree_after (call_over s).model h.history n).tree ≡ tree_at s h n
tree_told s born h n = trees_are (λ (c : Call). c) s.geometry s.tree s.first born h.history n

module _ (s : Opening) (v : VolumeNow) (ring : LogRing) (limit : ℕ) (programs : List (List Call)) (written : AreWritten s.format s.writers) (o : IsOpenedVolume s v) (j : HasEmptyJournal s ring limit) (bytes : WriteBytes programs) where
  abbrev byte_host : List runs.Event → Host VolumeNow ByteCall Reply
  byte_host events = host_after s v ring limit (all_with_bytes programs bytes) events

  abbrev at : List runs.Event → Host VolumeNow Call Reply
  at events = host_behind s v ring limit programs events

  sound : (events : List runs.Event) → IsSoundHost (promises s) (byte_host events)
  sound events =
      steps_keep (promises s) written (blocks_are_whole s) (opened_host s v ring limit (all_with_bytes programs bytes)) events
      (opened_has (promises s) v ring s.geometry.zones limit (all_with_bytes programs bytes) (is_opened s v o ring limit (all_with_bytes programs bytes) j))
      (fits_words s v o ring limit (all_with_bytes programs bytes) j)

  same_host : (events : List runs.Event) → at events ≡ plain_host (byte_host events)
  same_host events = is_plain s v ring limit programs written o j bytes events

  -- what the volume of the host stands for
  abbrev now : List runs.Event → PlainTree
  now events = views.tree_after (over s).model (byte_host events).history (length (byte_host events).history)

  stands : (events : List runs.Event) → Stands s (at events).volume (now events)
  stands events = subst (λ (h : Host VolumeNow Call Reply). Stands s h.volume (now events)) (sym (same_host events)) (sound events).rules.2.images.0.stands

  same_length : (events : List runs.Event) → length (at events).history ≡ length (byte_host events).history
  same_length events = ap (λ (h : Host VolumeNow Call Reply). length h.history) (same_host events) ∙ length-map (byte_host events).history (entry_as plain_call)

  -- that is the tree after all entries
  pub tree_is : (events : List runs.Event) → tree_of_now (at events).volume ≡ tree_at s (at events) (length (at events).history)
  tree_is events =
      let es = (byte_host events).history in
      (stands events).tree ∙ trees_are (λ (c : ByteCall). c.call) s.geometry s.tree s.first o.born es (length es)
      ∙ ap (λ cs. tree_after_entries (room_of s.geometry) s.tree.tree s.first cs (length es)) (sym (acting_as es))
      ∙ ap (λ n. tree_after_entries (room_of s.geometry) s.tree.tree s.first (map acting_call (map (entry_as plain_call) es)) n) (sym (same_length events))
      ∙ ap (λ (h : Host VolumeNow Call Reply). tree_at s h (length (at events).history)) (sym (same_host events))

  pub plain_now : (events : List runs.Event) → IsPlainNow (at events).volume
  plain_now events = (stands events).plain

  pub room_is : (events : List runs.Event) → room_of (at events).volume.geometry ≡ room_of s.geometry
  room_is events = ap room_of (stands events).geometry

  -- the next entry's number is above all births
  pub born : (events : List runs.Event) → AreBornBefore (s.first + (length (at events).history + 1)) (tree_of_now (at events).volume)
  born events =
      let n = length (byte_host events).history in
      let next : s.first + suc n ≡ s.first + (n + 1) = omega arith in
      subst (λ n. AreBornBefore (s.first + (n + 1)) (tree_of_now (at events).volume)) (sym (same_length events))
      (subst (λ k. AreBornBefore k (tree_of_now (at events).volume)) next
      (subst (AreBornBefore (s.first + suc n)) (sym (stands events).tree) (all_born (λ (c : ByteCall). c.call) s.geometry s.tree s.first o.born (byte_host events).history n)))

  number_stays : (events : List runs.Event) → number_in (tree_of_now (at events).volume) (s.first + (length (at events).history + 1)) ≡ s.first + (length (at events).history + 1)
  number_stays events =
      let n = length (byte_host events).history in
      ap (λ k. number_in (tree_of_now (at events).volume) (s.first + (k + 1))) (same_length events)
      ∙ ap (λ tree. number_in tree (s.first + (n + 1))) (stands events).tree
      ∙ numbers_kept (λ (c : ByteCall). c.call) s.geometry s.tree s.first o.born (byte_host events).history n
      ∙ ap (λ k. s.first + (k + 1)) (sym (same_length events))

  -- ---- answers

  module _ (events : List runs.Event) (c : Call) where
    abbrev Replied : Reply
    Replied = reply_of (room_of s.geometry) (tree_at s (at events) (length (at events).history)) (s.first + (length (at events).history + 1)) c

    as_volume : reply_of (room_of (at events).volume.geometry) (tree_of_now (at events).volume) (s.first + (length (at events).history + 1)) c ≡ Replied
    as_volume =
        ap (λ r. reply_of r (tree_of_now (at events).volume) (s.first + (length (at events).history + 1)) c) (room_is events)
        ∙ ap (λ tree. reply_of (room_of s.geometry) tree (s.first + (length (at events).history + 1)) c) (tree_is events)

    pub refusal_replies : (why : Reply) → (call_over s).model.reply (at events).volume c ≡ Some why → why ≡ Replied
    refusal_replies why e = refused_reply (at events).volume (s.first + (length (at events).history + 1)) c (plain_now events) (born events) why e ∙ as_volume

    pub act_replies : ((call_over s).model.apply (at events).volume (length (at events).history + 1) (at events).journal.running.number c).reply ≡ Replied
    act_replies =
        done_reply (at events).volume (s.first + (length (at events).history + 1)) (at events).journal.running.number c
        ∙ ap (λ n. reply_of (room_of (at events).volume.geometry) (tree_of_now (at events).volume) n c) (number_stays events) ∙ as_volume

    pub begun_replies : (call_over s).model.reply (at events).volume c ≡ None → is_begun (kind_of c) ≡ true → Replied ≡ replies.Ok
    begun_replies e kind =
        let d = free_row (at events).volume (s.first + (length (at events).history + 1)) c (plain_now events) (born events) e in
        sym as_volume ∙ begun_reply (room_of (at events).volume.geometry) (tree_of_now (at events).volume) (s.first + (length (at events).history + 1)) c d.0 kind d.1
