-- Each put of a store that is answered is answered Ok: its volume has room for it.
use Rattle.std.specs.Prelude.{◌≡◌, ℕ, zero, suc, ◌+◌, ◌-◌, ◌*◌, ◌%◌, ◌<◌, ◌≤◌, min, nat_lt, Bool, true, false, List, [], ◌∷◌, ◌++◌, length, take, Some, Ok, slice_get, option_map, refl}
use Rattle.std.specs.Int.{div_ceil}
use Rattle.std.proofs.Common.{sym, ap, subst, ◌∙◌, inl, inr, arith, lit<}
use Rattle.std.proofs.lemmas.Bool.{cases_lt, false≢true, le-ltb, lt-leb}
use Rattle.std.proofs.lemmas.Option.{same_Some, slice_get-map}
use native.Mathlib.Nat.{min-le_left, min-le_right}
use Rattle.blk_base.specs.Members.{In}
use Rattle.blk_base.specs.laws.Members.{slice_get-In, slice_get-append_left, slice_get-append_right, In-push_cases}
use Rattle.tree_model.specs.declared.call.Call.{Call}
use Rattle.tree_model.specs.declared.call.Call.TheVariants as calls
use Rattle.tree_model.specs.declared.call.Reply.{Reply}
use Rattle.tree_model.specs.declared.call.Reply.TheVariants as replies
use Rattle.tree_model.specs.declared.call.Room.{Room}
use Rattle.tree_model.specs.Calls.{Tree, row, outcome, tree_after, tree_from, and_then, refuse_if, if_room, leaves_tree, used_zones}
use Rattle.tree_model.specs.Histories.{tree_after_entry, tree_after_entries}
use Rattle.volume_steps.specs.Now.{room_of}
use Rattle.crash_laws.specs.LegalHistory.{Event, End, root_alone}
use Rattle.host_machine.specs.State.{Answered, Entry}
use Rattle.call_sessions.specs.Sessions.{acting_call}
use Rattle.call_sessions.specs.promises.Entries.{EndsAt}
use Rattle.call_sessions.specs.promises.Legal.{events_in}
use Rattle.call_sessions.specs.promises.Trees.{tree_at}
use Rattle.session_grammar.specs.declared.session_script.SessionScript.{SessionScript}
use Rattle.session_core.specs.Core.{EndState, opening_of}
use Rattle.session_core.specs.Headline.{HeadlineOn}
use Rattle.session_core.specs.declared.report.SessionReport.{SessionReport}
use Rattle.wal_store.specs.calls.Calls.{fills_from, fill_count, fills}
use Rattle.store_grammar.specs.declared.script.StoreScript.{StoreScript}
use Rattle.store_grammar.specs.Made.{volume_script}
use Rattle.store_grammar.specs.WellFormed.{IsWellFormed}
use Rattle.store_core.specs.Program.{log_path, LogStep, calls_from, IsStore, AreDone, NoneFull}
use Rattle.store_core.specs.Order.{ends}
use Rattle.store_core.specs.Stores.{number_in}
use Rattle.store_core.proofs.Log.{event-at, end-at, answered-before}
use Rattle.store_core.proofs.LogSession.{follows, first-call, later-call, next-tree, some-ended}
use Rattle.store_core.proofs.LogTrees.{made-done, made-is}
use Rattle.store_core.proofs.LogZones.{HasZones, HasLog, IsLogCall, asks, fills as fills-zeros, puts as puts-block, few-used, new-file, new-within, new-log, after-log, put-ok}
use Rattle.store_core.proofs.MadeStores.{steps_from, same-calls, front, made-store, put-at}
use Rattle.store_core.proofs.Order.{ended-call, earlier-end, kinds-of}

-- ---- the first call

pub create-made : (room : ℕ) (volume : Room) (n : ℕ) → n ≡ 1 → room ≤ 1000 → HasZones room volume → 1 < volume.inodes → tree_after volume (root_alone 14) n (calls.Create log_path) ≡ made-done.tree
unfolding tree_after outcome
create-made room volume n one most zones some =
    let few : used_zones made-done.tree ≤ room + 4 = few-used room new-file most (new-within room) in
    ap (λ k. tree_from (root_alone 14) (and_then (row (root_alone 14) k (calls.Create log_path)) (if_room volume (root_alone 14)))) one
    ∙ ap (λ d. tree_from (root_alone 14) (and_then d (if_room volume (root_alone 14)))) made-is
    ∙ ap (λ b. tree_from (root_alone 14) (refuse_if b replies.NoInode (refuse_if (nat_lt (volume.capacity - used_zones (root_alone 14)) (used_zones made-done.tree - used_zones (root_alone 14))) replies.NoSpace (Ok made-done)))) (lt-leb volume.inodes 1 some)
    ∙ ap (λ b. tree_from (root_alone 14) (refuse_if b replies.NoSpace (Ok made-done))) (le-ltb (volume.capacity - used_zones (root_alone 14)) (used_zones made-done.tree - used_zones (root_alone 14)) (omega (arith, few, zones)))

-- ---- the other calls

filled-within : (room j n : ℕ) (c : Call) → (0 < n → 64 * (j + n) < room + 64) → In c (fills_from room j n) → (off : ℕ) × (len : ℕ) × (c ≡ calls.Write log_path off len 0) × (off + len ≤ 1024 * room)
filled-within room j zero c within i = absurd i
filled-within room j (suc n) c within (inl e) =
    let here = within (omega arith) in
    let few = min-le_right 65536 (1024 * room - 65536 * j) in
    (65536 * j, min 65536 (1024 * room - 65536 * j), sym e, omega (arith, here, few))
filled-within room j (suc n) c within (inr i) = filled-within room (j + 1) n c (λ some. let here = within (omega arith) in omega (arith, here)) i

abbrev offset : Call → ℕ
offset (calls.Bytes path off body) = off
offset other = 0

abbrev body_of : Call → List ℕ
body_of (calls.Bytes path off body) = body
body_of other = []

abbrev is_bytes : Call → Bool
is_bytes (calls.Bytes path off body) = true
is_bytes other = false

few-of : (room : ℕ) (c : Call) → IsLogCall room c → (off : ℕ) (body : List ℕ) → c ≡ calls.Bytes log_path off body → off + length body ≤ 1024 * room
few-of room c (asks quiet) off body e = absurd (false≢true (ap leaves_tree (sym e) ∙ quiet))
few-of room _ (fills-zeros o len few) off body e = absurd (false≢true (ap is_bytes e))
few-of room _ (puts-block o b few) off body e =
    let at = ap offset e in
    let size = ap (λ d. length (body_of d)) e in
    omega (arith, few, at, size)

-- ---- a store's session

one-block : (n : ℕ) → n < 8192 → div_ceil n 8192 ≤ 1
one-block n few =
    let most = min-le_left 1 (n % 8192) in
    omega (arith, few, most)

module _ (x : StoreScript) (well : IsWellFormed x) (end : EndState) (r : SessionReport) (is : HeadlineOn (volume_script x) end r) (full : NoneFull end) where
  abbrev script : SessionScript
  script = volume_script x

  abbrev steps : List LogStep
  steps = steps_from 0 x.ops

  store : IsStore number_in log_path (front x.room) steps script
  store = made-store x well

  abbrev history : List (Entry Call Reply)
  history = end.host.history

  abbrev events : List Event
  events = events_in history

  abbrev volume : Room
  volume = room_of (opening_of script).geometry

  abbrev T : ℕ → Tree
  T n = tree_at (opening_of script) end.host n

  zones : HasZones x.room volume
  zones =
      let most = well.room in
      omega (arith, most, one-block (x.room + 16 + 1) (omega (arith, most)))

  -- a call behind the first stays within the log
  log-call : (k : ℕ) (c : Call) → slice_get (front x.room ++ calls_from log_path 0 steps) k ≡ Some c → IsLogCall x.room c
  log-call k c e =
      elim (cases_lt k (length (front x.room))) [
        | inl lt ↦
            elim (In-push_cases (fills x.room) (calls.Fsync log_path) c (slice_get-In (front x.room) k c (sym (slice_get-append_left (front x.room) (calls_from log_path 0 steps) k lt) ∙ e))) [
              | inl fill ↦
                  let w = filled-within x.room 0 (fill_count x.room) c (λ some. omega arith) fill in
                  subst (IsLogCall x.room) (sym w.2) (fills-zeros w.0 w.1 w.3)
              | inr sync ↦ asks (ap leaves_tree (sym sync))
            ]
        | inr le ↦
            let at : slice_get (calls_from log_path 0 steps) (k - length (front x.room)) ≡ Some c = sym (slice_get-append_right (front x.room) (calls_from log_path 0 steps) k le) ∙ e in
            elim (kinds-of log_path 0 steps (k - length (front x.room)) c at) [
              | inl quiet ↦ asks quiet
              | inr w ↦
                  let there = at ∙ ap Some w.2 in
                  let put = put-at 0 x.ops well.puts (k - length (front x.room)) w.0 w.1 (ap (λ cs. slice_get cs (k - length (front x.room))) (sym (same-calls 0 x.ops)) ∙ there) in
                  let size = (store.spelled (k - length (front x.room)) w.0 w.1 there).0 in
                  let few = put.few in
                  let most = well.few_puts in
                  subst (IsLogCall x.room) (sym w.2) (puts-block (1024 * w.0) w.1 (omega (arith, size, few, most)))
            ]
      ]

  -- the file is there once the first call was answered
  opened : (t : ℕ) (reply : Reply) → EndsAt history 0 t (calls.Create log_path) (Answered reply) → HasLog x.room (T 1)
  unfolding tree_after_entries
  opened t reply e =
      let made : tree_after volume (root_alone 14) (0 + 1) (calls.Create log_path) ≡ made-done.tree = create-made x.room volume (0 + 1) refl well.room zones (lit< tt) in
      let behind : T 1 ≡ tree_after volume (T 0) (0 + 1) (calls.Create log_path) = ap (tree_after_entry volume (T 0) (0 + 1)) (slice_get-map acting_call history 0 ∙ ap (option_map acting_call) e) in
      subst (HasLog x.room) (sym (behind ∙ made)) (new-log x.room)

  has-log : (t : ℕ) (reply : Reply) → EndsAt history 0 t (calls.Create log_path) (Answered reply) → (n : ℕ) → HasLog x.room (T (suc n))
  unfolding tree_after_entries
  has-log t reply first zero = opened t reply first
  has-log t reply first (suc n) =
      let old = has-log t reply first n in
      next-tree number_in (front x.room) steps script end r is store (HasLog x.room) (suc n) old
      (λ u c y e. let k = later-call number_in (front x.room) steps script end r is store n u c y e in after-log x.room volume well.room zones (T (suc n)) (0 + suc (suc n)) c (log-call k.0 c k.2) old)

  -- the first entry is the end of the first call, answered where a put behind it was
  first-answered : (n t : ℕ) (off : ℕ) (body : List ℕ) (reply : Reply) → EndsAt history (suc n) t (calls.Bytes log_path off body) (Answered reply) → (u : ℕ) × (y : Reply) × EndsAt history 0 u (calls.Create log_path) (Answered y)
  first-answered n t off body reply e =
      let at = event-at history (suc n) t (calls.Bytes log_path off body) (Answered reply) e in
      let some = some-ended number_in (front x.room) steps script end r is store n (End t (calls.Bytes log_path off body) reply) at in
      let first = earlier-end events (suc n) 0 some in
      by first.0 first.1 first.2 first.3 first.4 first.5 first.6
    where
      by : (e0 u : ℕ) (c : Call) (y : Reply) → e0 < suc n → slice_get events e0 ≡ Some (End u c y) → ends (take e0 events) ≡ 0 → (u : ℕ) × (y : Reply) × EndsAt history 0 u (calls.Create log_path) (Answered y)
      by (suc m) u c y lt there none =
          let some = some-ended number_in (front x.room) steps script end r is store m (End u c y) there in
          absurd (omega (arith, some, none))
      by zero u c y lt there none =
          let call : c ≡ calls.Create log_path = same_Some c (calls.Create log_path) (sym (ended-call events (calls.Create log_path ∷ (front x.room ++ calls_from log_path 0 steps)) 0 u c y (follows number_in (front x.room) steps script end r is store) there)) in
          let ended = end-at history 0 u (calls.Create log_path) y (subst (λ d. slice_get events 0 ≡ Some (End u d y)) call there) in
          let answered = answered-before script end r is full 0 (suc n) u t (calls.Create log_path) (calls.Bytes log_path off body) ended.0 reply lt ended.1 e refl in
          (u, answered.0, answered.1)

  pub puts-done : AreDone log_path end
  puts-done zero t off body reply e =
      let same = first-call number_in (front x.room) steps script end r is store t (calls.Bytes log_path off body) reply e in
      absurd (false≢true (ap is_bytes same))
  puts-done (suc n) t off body reply e =
      let first = first-answered n t off body reply e in
      let k = later-call number_in (front x.room) steps script end r is store n t (calls.Bytes log_path off body) reply e in
      let few = few-of x.room (calls.Bytes log_path off body) (log-call k.0 (calls.Bytes log_path off body) k.2) off body refl in
      is.follows.answers (suc n) t (calls.Bytes log_path off body) reply e (λ kind. absurd (false≢true kind))
      ∙ put-ok x.room volume well.room zones (T (suc n)) (0 + (suc n + 1)) off body few (has-log first.0 first.1 first.2 n)
