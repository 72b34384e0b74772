-- A store's session over its trees: what each block of the log has after each entry.
use Rattle.std.specs.Prelude.{◌≡◌, ℕ, zero, suc, ◌+◌, ◌-◌, ◌<◌, ◌≤◌, Bool, true, false, List, [], ◌∷◌, ◌++◌, length, map, take, Option, Some, None, slice_get, refl, if◌then◌else◌}
use Rattle.std.specs.Option.{unwrap_or, option_map}
use Rattle.std.proofs.Common.{sym, ap, subst, ◌∙◌, inl, inr, arith}
use Rattle.std.proofs.lemmas.Bool.{cases_lt, false≢true, true≢false}
use Rattle.std.proofs.lemmas.Option.{none-some, same_Some, slice_get-map}
use Rattle.blk_base.specs.laws.Members.{slice_get-In, map_some-slice_get, slice_get-append_left, slice_get-append_right}
use Rattle.tree_model.specs.declared.call.Call.{Call}
use Rattle.tree_model.specs.declared.call.Call.TheVariants as calls
use Rattle.tree_model.specs.declared.call.Reply.{Reply}
use Rattle.tree_model.specs.declared.call.Room.{Room}
use Rattle.tree_model.specs.Calls.{Tree, tree_after}
use Rattle.tree_model.specs.Histories.{block_at, maps_block, tree_after_entry, tree_after_entries}
use Rattle.tree_model.specs.Rooted.{IsRooted}
use Rattle.tree_model.proofs.PlainTrees.{new_plain, new_born, history_rooted}
use Rattle.volume_steps.specs.Now.{room_of}
use Rattle.crash_laws.specs.LegalHistory.{Event, Begin, End, Follows, root_alone}
use Rattle.flush_actor.specs.Kinds.{is_begun}
use Rattle.host_machine.specs.State.{Answered, Down, ReadOnly, SessionFull, What, Begins, Ends, Entry}
use Rattle.host_machine.specs.Views.{is_answered}
use Rattle.minix_host.specs.Calls.{kind_of}
use Rattle.call_sessions.specs.Sessions.{acting_call}
use Rattle.call_sessions.specs.promises.Entries.{EndsAt}
use Rattle.call_sessions.specs.promises.Legal.{event_of, events_in, reply_in, program_of}
use Rattle.call_sessions.specs.promises.Trees.{tree_at}
use Rattle.session_grammar.specs.declared.session_script.SessionScript.{SessionScript}
use Rattle.session_core.specs.Core.{EndState, opening_of}
use Rattle.session_core.specs.Headline.{HeadlineOn}
use Rattle.session_core.specs.declared.report.SessionReport.{SessionReport}
use Rattle.store_core.specs.Store.{Numbering}
use Rattle.store_core.specs.Program.{LogStep, calls_from, IsStore}
use Rattle.store_core.proofs.LogTrees.{log_path, IsLogTree, IsStoreCall, quiet, zeros, put, log-after, IsPutTo, IsZeroWrite, zeros-after, block-after, mapped-after, root-is_log, create-is_log, create-empty}
use Rattle.store_core.proofs.Log.{event-at}
use Rattle.store_core.proofs.Order.{ends, ended-call, follows-all, kinds-of, first-begin}
use Rattle.store_core.proofs.Writes.{IsZeros}

abbrev begin-thread : Event → ℕ
begin-thread (Begin t c) = t
begin-thread (End t c r) = t

abbrev begin-call : Event → Call
begin-call (Begin t c) = c
begin-call (End t c r) = c

abbrev ends-event : Event → Bool
ends-event (Begin t c) = false
ends-event (End t c r) = true

module _ (number : Numbering) (fills : List Call) (ops : List LogStep) (s : SessionScript) (end : EndState) (r : SessionReport) (is : HeadlineOn s end r) (store : IsStore number log_path fills ops s) where
  abbrev history : List (Entry Call Reply)
  history = end.host.history

  abbrev events : List Event
  events = events_in history

  abbrev puts : List Call
  puts = calls_from log_path 0 ops

  abbrev rest : List Call
  rest = fills ++ puts

  abbrev room : Room
  room = room_of (opening_of s).geometry

  abbrev width : ℕ
  width = (opening_of s).geometry.width

  abbrev T : ℕ → Tree
  T n = tree_at (opening_of s) end.host n

  pub follows : Follows events (calls.Create log_path ∷ rest)
  follows =
      subst (Follows events) (ap (λ (ps : List (List Call)). unwrap_or (slice_get ps 0) []) store.programs)
      (follows-all events (program_of s.programs) is.follows.ordered (λ t. ap (λ (ps : List (List Call)). unwrap_or (slice_get ps (suc t)) []) store.programs))

  pub rooted : (n : ℕ) → IsRooted (T n)
  rooted n = history_rooted room (root_alone width) 0 (map acting_call history) (new_plain width) (new_born width) n

  -- ---- which calls are done

  -- the call that was answered at entry n is the next of the program
  pub call-at : (n t : ℕ) (c : Call) (reply : Reply) → EndsAt history n t c (Answered reply) → slice_get (calls.Create log_path ∷ rest) (ends (take n events)) ≡ Some c
  call-at n t c reply e = ended-call events (calls.Create log_path ∷ rest) n t c reply follows (event-at history n t c (Answered reply) e)

  begins-entry : (x : Entry Call Reply) (t : ℕ) (c : Call) → event_of x ≡ Begin t c → x ≡ record { thread = t; call = c; what = Begins }
  begins-entry x t c e = by x.what e
    where
      by : (w : What Reply) → (elim w as (λ _. Event) [ Begins ↦ Begin x.thread x.call | Ends y ↦ End x.thread x.call (reply_in y) ]) ≡ Begin t c → ◌≡◌ {A = Entry Call Reply} (record { thread = x.thread; call = x.call; what = w }) (record { thread = t; call = c; what = Begins })
      by Begins h = λ j. record { thread = begin-thread (h j); call = begin-call (h j); what = Begins }
      by (Ends y) h = absurd (true≢false (ap ends-event h))

  -- the first entry does not begin
  first-ends : (t : ℕ) (c : Call) → slice_get events 0 ≡ Some (Begin t c) → ⊥
  first-ends t c e =
      let x = map_some-slice_get event_of history 0 (Begin t c) e in
      let begins = is.follows.begins 0 t c (x.1 ∙ ap Some (begins-entry x.0 t c x.2)) in
      false≢true (sym (ap (λ d. is_begun (kind_of d)) (first-begin events (calls.Create log_path) rest t c follows e)) ∙ begins.0)

  -- so behind it some call has ended
  pub some-ended : (n : ℕ) (x : Event) → slice_get events (suc n) ≡ Some x → 0 < ends (take (suc n) events)
  some-ended n x e = by events refl e
    where
      by : (es : List Event) → events ≡ es → slice_get es (suc n) ≡ Some x → 0 < ends (take (suc n) es)
      by [] same h = absurd (none-some x h)
      by (Begin t c ∷ es) same h = absurd (first-ends t c (ap (λ (l : List Event). slice_get l 0) same))
      by (End t c y ∷ es) same h = omega arith

  pub store-call : (k : ℕ) (c : Call) → slice_get rest k ≡ Some c → IsStoreCall c
  store-call k c e =
      elim (cases_lt k (length fills)) [
        | inl lt ↦
            elim (store.fills_are c (slice_get-In fills k c (sym (slice_get-append_left fills puts k lt) ∙ e))) [
              | inl q ↦ quiet q
              | inr w ↦ subst IsStoreCall (sym w.2) (zeros w.0 w.1)
            ]
        | inr le ↦
            let at : slice_get puts (k - length fills) ≡ Some c = sym (slice_get-append_right fills puts k le) ∙ e in
            elim (kinds-of log_path 0 ops (k - length fills) c at) [
              | inl q ↦ quiet q
              | inr w ↦ subst IsStoreCall (sym w.2) (put w.0 w.1 (store.spelled (k - length fills) w.0 w.1 (at ∙ ap Some w.2)).0)
            ]
      ]

  -- ---- one entry

  -- what holds before an entry, and after the call of one that was answered, holds after the entry
  pub next-tree : (P : Tree → Type 0) (n : ℕ) → P (T n) → ((t : ℕ) (c : Call) (reply : Reply) → EndsAt history n t c (Answered reply) → P (tree_after room (T n) (0 + suc n) c)) → P (T (suc n))
  unfolding tree_after_entries
  next-tree P n before after = subst (λ o. P (tree_after_entry room (T n) (0 + suc n) o)) (sym (slice_get-map acting_call history n)) (by (slice_get history n) refl)
    where
      acts : (x : Entry Call Reply) → slice_get history n ≡ Some x → (w : What Reply) → x.what ≡ w → P (tree_after_entry room (T n) (0 + suc n) (Some (if is_answered w then Some x.call else None)))
      acts x at Begins same = before
      acts x at (Ends (Answered reply)) same = after x.thread x.call reply (at ∙ ap Some (λ j. record { thread = x.thread; call = x.call; what = same j }))
      acts x at (Ends Down) same = before
      acts x at (Ends (ReadOnly id)) same = before
      acts x at (Ends SessionFull) same = before

      by : (o : Option (Entry Call Reply)) → slice_get history n ≡ o → P (tree_after_entry room (T n) (0 + suc n) (option_map acting_call o))
      by None e = before
      by (Some x) e = acts x e x.what refl

  -- the call of a later entry is one of a store
  pub later-call : (n t : ℕ) (c : Call) (reply : Reply) → EndsAt history (suc n) t c (Answered reply) → (k : ℕ) × (ends (take (suc n) events) ≡ suc k) × (slice_get rest k ≡ Some c)
  later-call n t c reply e =
      let some = some-ended n (End t c reply) (event-at history (suc n) t c (Answered reply) e) in
      by (ends (take (suc n) events)) some (call-at (suc n) t c reply e) refl
    where
      by : (a : ℕ) → 0 < a → slice_get (calls.Create log_path ∷ rest) a ≡ Some c → ends (take (suc n) events) ≡ a → (k : ℕ) × (ends (take (suc n) events) ≡ suc k) × (slice_get rest k ≡ Some c)
      by zero lt at same = absurd (omega (arith, lt))
      by (suc k) lt at same = (k, same, at)

  pub first-call : (t : ℕ) (c : Call) (reply : Reply) → EndsAt history 0 t c (Answered reply) → calls.Create log_path ≡ c
  first-call t c reply e = same_Some (calls.Create log_path) c (call-at 0 t c reply e)

  -- ---- the file

  pub log-tree : (n : ℕ) → IsLogTree (T n)
  unfolding tree_after_entries
  log-tree zero = root-is_log width store.width
  log-tree (suc zero) = next-tree IsLogTree 0 (root-is_log width store.width) (λ t c reply e. subst (λ d. IsLogTree (tree_after room (root_alone width) (0 + 1) d)) (first-call t c reply e) (create-is_log room width (0 + 1) store.width refl))
  log-tree (suc (suc n)) =
      let old = log-tree (suc n) in
      next-tree IsLogTree (suc n) old (λ t c reply e. let k = later-call n t c reply e in log-after room (T (suc n)) (0 + suc (suc n)) c (store-call k.0 c k.2) old)

  abbrev B : ℕ → ℕ → Option (List ℕ)
  B n i = block_at (T n) 1 i

  -- no block is unmapped
  pub mapped-on : (n i : ℕ) → maps_block (T n) 1 i ≡ true → maps_block (T (suc n)) 1 i ≡ true
  unfolding tree_after_entries
  mapped-on zero i h = absurd (false≢true h)
  mapped-on (suc n) i h =
      next-tree (λ t. maps_block t 1 i ≡ true) (suc n) h
      (λ t c reply e. let k = later-call n t c reply e in mapped-after room (T (suc n)) (0 + suc (suc n)) c i (rooted (suc n)) (store-call k.0 c k.2) (log-tree (suc n)) h)

  -- before the entries that put block i, it has zeros
  pub zeros-before : (i q : ℕ) → ((n t : ℕ) (c : Call) (reply : Reply) → n < q → EndsAt history n t c (Answered reply) → IsPutTo i c → ⊥) → (v : ℕ) → v ≤ q → (x : List ℕ) → B v i ≡ Some x → IsZeros x
  unfolding tree_after_entries
  zeros-before i q none zero le = λ x e. absurd (none-some x e)
  zeros-before i q none (suc zero) le =
      next-tree (λ t. (x : List ℕ) → block_at t 1 i ≡ Some x → IsZeros x) 0 (λ x e. absurd (none-some x e))
      (λ t c reply h x e. absurd (none-some x (sym (create-empty room width (0 + 1) store.width refl i) ∙ ap (λ d. block_at (tree_after room (root_alone width) (0 + 1) d) 1 i) (first-call t c reply h) ∙ e)))
  zeros-before i q none (suc (suc v)) le =
      let old = zeros-before i q none (suc v) (omega (arith, le)) in
      next-tree (λ t. (x : List ℕ) → block_at t 1 i ≡ Some x → IsZeros x) (suc v) old
      (λ t c reply h. let k = later-call v t c reply h in zeros-after room (T (suc v)) (0 + suc (suc v)) c i (store-call k.0 c k.2) (log-tree (suc v)) (none (suc v) t c reply (omega (arith, le)) h) old)

  -- behind a put of it, it stays
  pub stays-behind : (i q : ℕ) (x : List ℕ) → B (suc q) i ≡ Some x → ((n t : ℕ) (c : Call) (reply : Reply) → q < n → EndsAt history n t c (Answered reply) → (IsPutTo i c → ⊥) × (IsZeroWrite c → ⊥)) → (d : ℕ) → B (suc (q + d)) i ≡ Some x
  stays-behind i q x here none zero = let at : suc (q + 0) ≡ suc q = omega arith in ap (λ n. B n i) at ∙ here
  stays-behind i q x here none (suc d) =
      let old = stays-behind i q x here none d in
      let at : suc (q + suc d) ≡ suc (suc (q + d)) = omega arith in
      ap (λ n. B n i) at
      ∙ next-tree (λ t. block_at t 1 i ≡ Some x) (suc (q + d)) old
      (λ t c reply h.
      let k = later-call (q + d) t c reply h in
      let no = none (suc (q + d)) t c reply (omega arith) h in
      block-after room (T (suc (q + d))) (0 + suc (suc (q + d))) c i (store-call k.0 c k.2) (log-tree (suc (q + d))) no.0 no.1 ∙ old)
