-- A session over calls, and a medium that a power cut leaves of it, are those of a session over calls with bytes.
use Rattle.std.specs.Prelude.{◌≡◌, ℕ, Bool, ◌+◌, ◌<◌, ◌≤◌, List, [], ◌∷◌, length, map, Option, Ok}
use Rattle.std.proofs.Common.{refl, sym, ap, subst, ◌∙◌, arith}
use Rattle.std.proofs.lemmas.List.{length-map}
use Rattle.minix_layout.specs.declared.division.Geometry.{Geometry}
use Rattle.minix_layout.specs.Geometry.{IsSound}
use Rattle.order_model.specs.OrderClosed.{IsOrderClosed}
use Rattle.log_model.specs.Marks.{Transaction, replayed}
use Rattle.journal_ring.specs.running.Open.{quota}
use Rattle.tree_model.specs.declared.call.Call.{Call}
use Rattle.tree_model.specs.declared.call.Reply.{Reply}
use Rattle.tree_model.specs.Calls.{Tree}
use Rattle.tree_model.specs.Histories.{tree_after_entries}
use Rattle.tree_model.specs.Trees.{AreAlike}
use Rattle.volume_steps.specs.Now.{VolumeNow, room_of}
use Rattle.volume_ops.specs.Volume.{disk_of}
use Rattle.crash_laws.specs.Found.{IsFound}
use Rattle.crash_laws.specs.Recovery.{IsRecovered}
use Rattle.log_model.specs.Log.{log_of}
use Rattle.crash_laws.specs.Headline.{HoldsPrefix}
use Rattle.crash_laws.specs.Session.{Session, Medium}
use Rattle.host_machine.specs.State.{Entry, Host}
use Rattle.host_machine.specs.Views.{cut_of}
use Rattle.host_machine.specs.runs.Runs.{Event}
use Rattle.host_machine.specs.runs.laws.Written.{AreWritten}
use Rattle.minix_host.specs.ByteCalls.{ByteCall}
use Rattle.minix_host.specs.Runs.{IsOpenedVolume, HasEmptyJournal, call_of_entry, calls_of, tree_after_transactions}
use Rattle.minix_host.specs.Sessions.{Opening, over}
use Rattle.mount_make.specs.Images.{image_tree}
use Rattle.mount_make.specs.Made.{made_image, new_journal}
use Rattle.call_sessions.specs.power_cuts.recovery.Images as bytes
use Rattle.call_sessions.specs.power_cuts.recovery.Images.{Start, HasSizes, IsCutOf, HoldsKept, host_of, submitted, kept_transactions}
use Rattle.call_sessions.specs.CallsAs.{entry_as}
use Rattle.call_sessions.specs.Sessions.{made_now, made_opening, made_ring, plain_call, plain_host, call_over, acting_call, tree_behind}
use Rattle.call_sessions.proofs.CallsKept.{all_with_bytes, is_plain}
use Rattle.call_sessions.proofs.RunsAs.{history_as}
use Rattle.call_sessions.specs.power_cuts.calls.CallImages.{opening_on, made_session, IsCut, submitted_by, kept_count, kept_tree, KeepsFiles}

-- ---- trees

-- the calls that act on the tree are the same
acting_as : (es : List (Entry ByteCall Reply)) → map acting_call (map (entry_as plain_call) es) ≡ calls_of es
acting_as [] = refl
acting_as (e ∷ es) = ap (λ (cs : List (Option Call)). call_of_entry e ∷ cs) (acting_as es)

tree_as : (s : Opening) (h : Host VolumeNow ByteCall Reply) (k : ℕ) → tree_behind s (plain_host h) k ≡ tree_after_transactions s h k
tree_as s h k =
    ap (λ cs. tree_after_entries (room_of s.geometry) s.tree.tree s.first cs (cut_of h.cuts (length (plain_host h).history) k)) (acting_as h.history)
    ∙ ap (λ n. tree_after_entries (room_of s.geometry) s.tree.tree s.first (calls_of h.history) (cut_of h.cuts n k)) (length-map h.history (entry_as plain_call))

-- ---- recovery

-- recovery reads the format, the places of the log and where the journal begins, and no more of a session
recovered_by : (s t : Session) (m : Medium) (disk : ℕ → List ℕ) → s.format ≡ t.format → s.ring ≡ t.ring → s.journal ≡ t.journal → IsRecovered s m disk → IsRecovered t m disk
recovered_by s t m disk format ring journal is b low =
    let d = disk_of m.image in
    is b (subst (λ j. b < j) (sym journal) low)
    ∙ ap (λ f. replayed (log_of f s.ring s.journal d) d b) format
    ∙ ap (λ r. replayed (log_of t.format r s.journal d) d b) ring
    ∙ ap (λ j. replayed (log_of t.format t.ring j d) d b) journal

-- ---- sessions on made images

-- what the laws of sessions of calls say of images that were made
abbrev VolumesAreOpened : Type 0
VolumesAreOpened = (g : Geometry) (journal : ℕ) (wide : Bool) (logged : ℕ) → IsSound g → 128 ≤ journal → journal ≤ 16384 → IsOpenedVolume (made_opening g journal wide logged) (made_now g)

abbrev JournalsAreEmpty : Type 0
JournalsAreEmpty =
    (g : Geometry) (journal : ℕ) (wide : Bool) (logged limit : ℕ) → IsSound g → 128 ≤ journal → journal ≤ 16384 → limit + 2 < 4294967296
    → HasEmptyJournal (made_opening g journal wide logged) (made_ring journal) limit × AreWritten (made_opening g journal wide logged).format (made_opening g journal wide logged).writers

module _ (volumes : VolumesAreOpened) (journals : JournalsAreEmpty) (g : Geometry) (journal : ℕ) (wide : Bool) (limit : ℕ) (programs : List (List Call)) (events : List Event) (m : Medium)
    (cut : IsCut g journal wide limit programs events m) where
  -- the session over calls with bytes
  abbrev pub start : Start
  start = record { geometry = g; journal = journal; wide = wide; quota = quota (new_journal journal wide); limit = limit; programs = all_with_bytes programs cut.bytes }

  sizes : HasSizes start
  sizes = record { sound = cut.sound; least = cut.least; most = cut.most; words = cut.words }

  pub few : limit + 2 < 4294967296
  few =
      let least = cut.least in
      let words = cut.words in
      omega arith

  same_host : made_session g journal wide limit programs events ≡ plain_host (host_of start events)
  same_host =
      let empty = journals g journal wide (quota (new_journal journal wide)) limit cut.sound cut.least cut.most few in
      is_plain (opening_on g journal wide) (made_now g) (made_ring journal) limit programs empty.1 (volumes g journal wide (quota (new_journal journal wide)) cut.sound cut.least cut.most) empty.0 cut.bytes events

  same_cut : IsCutOf start events m
  same_cut = subst (λ (h : Host VolumeNow Call Reply). IsOrderClosed (made_image g journal wide) h.journal.flush.requests m.image m.origins) same_host cut.order

  pub same_count : kept_count g journal wide (made_session g journal wide limit programs events) m ≡ kept_transactions start events m
  same_count = ap (λ h. kept_count g journal wide h m) same_host

  same_tree : kept_tree g journal wide (made_session g journal wide limit programs events) m ≡ bytes.kept_tree start events m
  same_tree = ap (λ h. kept_tree g journal wide h m) same_host ∙ tree_as (opening_on g journal wide) (host_of start events) (kept_transactions start events m)

  -- what holds of all sessions over calls with bytes holds of this one
  pub of_start : {P : Start → List Event → Medium → Type 0} → ((s : Start) (es : List Event) (n : Medium) → HasSizes s → IsCutOf s es n → P s es n) → P start events m
  of_start always = always start events m sizes same_cut

  -- and then of the session over calls
  pub found_first : IsFound (submitted start events) m (kept_transactions start events m)
      → IsFound (submitted_by g journal wide [] (made_session g journal wide limit programs events)) m (kept_count g journal wide (made_session g journal wide limit programs events) m)
  found_first found = subst (λ h. IsFound (submitted_by g journal wide [] h) m (kept_count g journal wide h m)) (sym same_host) found

  pub shows_tree : (tree : Tree) × (image_tree m.image ≡ Ok tree) × AreAlike (bytes.kept_tree start events m) tree
      → (tree : Tree) × (image_tree m.image ≡ Ok tree) × AreAlike (kept_tree g journal wide (made_session g journal wide limit programs events) m) tree
  shows_tree shown = (shown.0, shown.1, subst (λ t. AreAlike t shown.0) (sym same_tree) shown.2)

  -- what recovery leaves does not depend on what the transactions are said to hold
  pub is_recovered : (closed : List Transaction) (disk : ℕ → List ℕ) → IsRecovered (submitted start events) m disk → IsRecovered (submitted_by g journal wide closed (made_session g journal wide limit programs events)) m disk
  is_recovered closed disk is = recovered_by (submitted start events) (submitted_by g journal wide closed (made_session g journal wide limit programs events)) m disk refl
      (ap (λ h. (submitted_by g journal wide closed h).ring) (sym same_host)) refl is

  pub keeps_files : (disk : ℕ → List ℕ) → (closed : List Transaction) × HoldsKept start events m disk closed
      → (closed : List Transaction) × KeepsFiles g journal wide closed (made_session g journal wide limit programs events) m disk
  keeps_files disk kept =
      let s = opening_on g journal wide in
      let h = host_of start events in (
        kept.0,
        subst (λ x. KeepsFiles g journal wide kept.0 x m disk) (sym same_host)
            (subst (λ told. HoldsPrefix (over s).program told (submitted_by g journal wide kept.0 (plain_host h)) m disk (kept_transactions start events m))
            (sym (history_as plain_call (call_over s).model h.history (over s).place h.cuts)) kept.1),
      )
