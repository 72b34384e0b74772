-- A run's history is legal, where volumes answer as the tree does.
use Rattle.std.proofs.Common.{◌≡◌, ◌≢◌, ◌⊎◌, inl, inr, ℕ, ◌+◌, ◌-◌, ◌<◌, ◌≤◌, map, take, true, false, is_some, List, [], ◌∷◌, ◌++◌, length, Option, Some, None, slice_get, refl, sym, ap, subst, ◌∙◌, arith, ⊎_elim}
use Rattle.std.proofs.lemmas.Bool.{true≢false}
use Rattle.std.proofs.lemmas.List.{take_at, map-append, length-map}
use Rattle.std.proofs.lemmas.Option.{none-some}
use Rattle.blk_base.specs.laws.Members.{map_some-slice_get}
use Rattle.tree_model.specs.declared.call.Call.{Call}
use Rattle.tree_model.specs.declared.call.Reply.{Reply}
use Rattle.tree_model.specs.declared.call.Reply.TheVariants as replies
use Rattle.tree_model.specs.declared.call.Room.{Room}
use Rattle.tree_model.specs.Calls.{Tree, reply_of}
use Rattle.tree_model.specs.Histories.{tree_after_entries}
use Rattle.crash_laws.specs.LegalHistory.{Event, Begin, End, has_begun, done_from, done_by, is_waiting, is_turned_away, tree_up_to, IsReply, IsBegun, IsLegal}
use Rattle.crash_laws.specs.LegalHistory as legal
use Rattle.crash_laws.proofs.LongerHistories.{done_from-append, length-done_from, same_tree}
use Rattle.flush_actor.specs.Kinds.{is_begun, is_reading}
use Rattle.host_machine.specs.State.{What, Ending, Answered, Down, ReadOnly, SessionFull, Begins, Ends, Begun, Thread, Entry, Host}
use Rattle.host_machine.specs.laws.Contract.{Over}
use Rattle.host_machine.specs.runs.Runs as runs
use Rattle.host_machine.specs.runs.Runs.{AreBegun, steps}
use Rattle.call_sessions.specs.promises.Entries.{BeginsAt, EndsAt}
use Rattle.call_sessions.specs.promises.Legal.{reply_in, event_of, events_in, program_of}
use Rattle.call_sessions.proofs.PromisesLemmas.CallerSteps.{EndReason, Stopped, Refused, Acted, Full, Acknowledged}
use Rattle.call_sessions.proofs.PromisesLemmas.EndCauses.{down_stays, failure_stays, StopCause, ByCut, ByFailure, stop_cause, grown_from}
use Rattle.call_sessions.proofs.PromisesLemmas.Ends.{StepAt, ended_at, began_at}
use Rattle.call_sessions.proofs.PromisesLemmas.Orders.{begun_is, programs_followed}

-- ---- entries and events

-- what tells an end: its thread, its call and its reply
ended_with : {X : Type 0} → X → (ℕ → Call → Reply → X) → Event → X
ended_with x f (Begin t c) = x
ended_with x f (End t c r) = f t c r

entry_ends : (x : Entry Call Reply) (t : ℕ) (c : Call) (r : Reply) → event_of x ≡ End t c r → (e : Ending Reply) × (x ≡ record { thread = t; call = c; what = Ends e }) × (reply_in e ≡ r)
unfolding ended_with
entry_ends x t c r same = by x.what refl
  where
    by : (w : What Reply) → x.what ≡ w → (e : Ending Reply) × (x ≡ record { thread = t; call = c; what = Ends e }) × (reply_in e ≡ r)
    by Begins is = absurd (let never : ◌≡◌ {A = Event} (Begin x.thread x.call) (End t c r) = sym (ap (λ w. event_of (record { thread = x.thread; call = x.call; what = w })) is) ∙ same in cc never)
    by (Ends e) is =
        let whole : End x.thread x.call (reply_in e) ≡ End t c r = sym (ap (λ w. event_of (record { thread = x.thread; call = x.call; what = w })) is) ∙ same in
        let thread : x.thread ≡ t = ap (ended_with x.thread (λ u d s. u)) whole in
        let call : x.call ≡ c = ap (ended_with x.call (λ u d s. d)) whole in
        let reply : reply_in e ≡ r = ap (ended_with r (λ u d s. s)) whole in
        let one : x ≡ record { thread = t; call = x.call; what = x.what } = ap (λ u. record { thread = u; call = x.call; what = x.what }) thread in
        let two : x ≡ record { thread = t; call = c; what = x.what } = one ∙ ap (λ d. record { thread = t; call = d; what = x.what }) call in
        (e, two ∙ ap (λ w. record { thread = t; call = c; what = w }) is, reply)

begun_with : {X : Type 0} → X → (ℕ → Call → X) → Event → X
begun_with x f (Begin t c) = f t c
begun_with x f (End t c r) = x

entry_begins : (x : Entry Call Reply) (t : ℕ) (c : Call) → event_of x ≡ Begin t c → x ≡ record { thread = t; call = c; what = Begins }
unfolding begun_with
entry_begins x t c same = by x.what refl
  where
    by : (w : What Reply) → x.what ≡ w → x ≡ record { thread = t; call = c; what = Begins }
    by (Ends e) is = absurd (let never : ◌≡◌ {A = Event} (End x.thread x.call (reply_in e)) (Begin t c) = sym (ap (λ w. event_of (record { thread = x.thread; call = x.call; what = w })) is) ∙ same in cc never)
    by Begins is =
        let whole : Begin x.thread x.call ≡ Begin t c = sym (ap (λ w. event_of (record { thread = x.thread; call = x.call; what = w })) is) ∙ same in
        let thread : x.thread ≡ t = ap (begun_with x.thread (λ u d. u)) whole in
        let call : x.call ≡ c = ap (begun_with x.call (λ u d. d)) whole in
        let one : x ≡ record { thread = t; call = x.call; what = x.what } = ap (λ u. record { thread = u; call = x.call; what = x.what }) thread in
        one ∙ ap (λ d. record { thread = t; call = d; what = x.what }) call ∙ ap (λ w. record { thread = t; call = c; what = w }) is

pub end_event : (h : List (Entry Call Reply)) (i t : ℕ) (c : Call) (r : Reply) → slice_get (events_in h) i ≡ Some (End t c r) → (e : Ending Reply) × EndsAt h i t c e × (reply_in e ≡ r)
end_event h i t c r there =
    let x = map_some-slice_get event_of h i (End t c r) there in
    let e = entry_ends x.0 t c r x.2 in
    (e.0, x.1 ∙ ap Some e.1, e.2)

pub begin_event : (h : List (Entry Call Reply)) (i t : ℕ) (c : Call) → slice_get (events_in h) i ≡ Some (Begin t c) → BeginsAt h i t c
begin_event h i t c there = (let x = map_some-slice_get event_of h i (Begin t c) there in x.1 ∙ ap Some (entry_begins x.0 t c x.2))

-- ---- trees and calls

-- the tree before a place is that of the events before
longer_tree : (room : Room) (opened : Tree) (base : ℕ) (events more : List Event) (i : ℕ) → i ≤ length events → tree_up_to room opened base (events ++ more) i ≡ tree_up_to room opened base events i
longer_tree room opened base events more i le =
    let long = length-done_from [] events in
    ap (λ es. tree_after_entries room opened base es i) (done_from-append [] events more)
    ∙ same_tree room opened base (done_by events) (done_from events more) i (omega (arith, long, le))

none_begun : (b : Option Begun) → (is_some b ≡ true → ⊥) → b ≡ None
none_begun None h = refl
none_begun (Some b) h = absurd (h refl)

-- ---- answers as the tree gives them

-- a host's volume answers the call as the tree after all its entries does
pub record AsTree {A T V : Type 0} (o : Over A T V Call Reply) (room : Room) (opened : Tree) (base : ℕ) (s : Host V Call Reply) (c : Call) : Type 0 where
  pub refused : (why : Reply) → o.model.reply s.volume c ≡ Some why → why ≡ reply_of room (tree_up_to room opened base (events_in s.history) (length s.history)) (base + (length s.history + 1)) c
  pub refused_not_ok : (why : Reply) → o.model.reply s.volume c ≡ Some why → why ≢ replies.Ok
  pub acted : o.model.reply s.volume c ≡ None → is_begun (o.model.kind c) ≡ false
      → (o.model.apply s.volume (length s.history + 1) s.journal.running.number c).reply ≡ reply_of room (tree_up_to room opened base (events_in s.history) (length s.history)) (base + (length s.history + 1)) c
  pub begun : o.model.reply s.volume c ≡ None → is_begun (o.model.kind c) ≡ true → reply_of room (tree_up_to room opened base (events_in s.history) (length s.history)) (base + (length s.history + 1)) c ≡ replies.Ok

-- what a model has of the tree model's calls
pub record IsOfCalls {A T V : Type 0} (o : Over A T V Call Reply) : Type 0 where
  pub ok : o.model.ok ≡ replies.Ok
  pub waits : (c : Call) → is_waiting c ≡ is_begun (o.model.kind c)
  pub reads : (c : Call) → legal.is_reading c ≡ is_reading (o.model.kind c)
  pub still : (v : V) (c : Call) → is_reading (o.model.kind c) ≡ true → o.model.hinders v c ≡ false

module _ {A T V : Type 0} (o : Over A T V Call Reply) (model : IsOfCalls o) (first : Host V Call Reply) (programs : List (List Call)) (empty : first.history ≡ []) (none : first.journal.flush.requests ≡ [])
    (threads : first.threads ≡ map (λ (p : List Call). record { calls = p; begun = None }) programs) (begun : AreBegun o.model.kind first.threads)
    -- no answer of a call is one that no tree gives
    (own : (es : List runs.Event) (i t : ℕ) (c : Call) (r : Reply) → EndsAt (steps o first es).history i t c (Answered r) → is_turned_away r ≡ false) where
  -- what stood before an entry
  entries_before : (es : List runs.Event) (i t : ℕ) (s : StepAt o first es i t) → take i (events_in (steps o first es).history) ≡ events_in (steps o first s.before).history
  entries_before es i t s =
      let old = (steps o first s.before).history in
      let g = (grown_from o first empty none begun es i t s).history in
      ap (λ h. take i (events_in h)) g.are
      ∙ ap (take i) (map-append event_of old g.more)
      ∙ take_at (events_in old) (events_in g.more) i (let l = length-map old event_of in let p = s.place in omega (arith, l, p))

  pub begun_at : (es : List runs.Event) (i t : ℕ) (s : StepAt o first es i t) (th : Thread Call) → slice_get (steps o first s.before).threads t ≡ Some th → has_begun t false (take i (events_in (steps o first es).history)) ≡ is_some th.begun
  begun_at es i t s th at = ap (has_begun t false) (entries_before es i t s) ∙ begun_is o first programs empty threads s.before t th at

  -- ---- what stopped a call stops all

  is_down : (es : List runs.Event) (i t : ℕ) (c : Call) (e : Ending Reply) → EndsAt (steps o first es).history i t c e → reply_in e ≡ replies.Down → e ≡ Down
  is_down es i t c (Answered r) there same = absurd (true≢false (ap is_turned_away (sym same) ∙ own es i t c r there))
  is_down es i t c Down there same = refl
  is_down es i t c (ReadOnly id) there same = absurd (let never : ◌≡◌ {A = Reply} (replies.ReadOnly id) replies.Down = same in cc never)
  is_down es i t c SessionFull there same = absurd (let never : ◌≡◌ {A = Reply} replies.SessionFull replies.Down = same in cc never)

  is_read_only : (es : List runs.Event) (i t : ℕ) (c : Call) (id : ℕ) (e : Ending Reply) → EndsAt (steps o first es).history i t c e → reply_in e ≡ replies.ReadOnly id → e ≡ ReadOnly id
  is_read_only es i t c id (Answered r) there same = absurd (true≢false (ap is_turned_away (sym same) ∙ own es i t c r there))
  is_read_only es i t c id Down there same = absurd (let never : ◌≡◌ {A = Reply} replies.Down (replies.ReadOnly id) = same in cc never)
  is_read_only es i t c id (ReadOnly other) there same = ap ReadOnly (ap (λ r. id_or id r) same)
    where
      id_or : ℕ → Reply → ℕ
      id_or d (replies.ReadOnly n) = n
      id_or d other = d
  is_read_only es i t c id SessionFull there same = absurd (let never : ◌≡◌ {A = Reply} replies.SessionFull (replies.ReadOnly id) = same in cc never)

  down_then_down : (es : List runs.Event) (i j t u : ℕ) (c d : Call) (r : Reply) → i < j → slice_get (events_in (steps o first es).history) i ≡ Some (End t c replies.Down) → slice_get (events_in (steps o first es).history) j ≡ Some (End u d r) → r ≡ replies.Down
  down_then_down es i j t u c d r lt one other =
      let a = end_event (steps o first es).history i t c replies.Down one in
      let b = end_event (steps o first es).history j u d r other in
      let was : EndsAt (steps o first es).history i t c Down = subst (EndsAt (steps o first es).history i t c) (is_down es i t c a.0 a.1 a.2) a.1 in
      sym b.2 ∙ ap reply_in (down_stays o first empty none begun es i j t u c d b.0 lt was b.1)

  read_only_then : (es : List runs.Event) (i j t u id : ℕ) (c d : Call) (r : Reply) → i < j → slice_get (events_in (steps o first es).history) i ≡ Some (End t c (replies.ReadOnly id)) → slice_get (events_in (steps o first es).history) j ≡ Some (End u d r)
      → legal.is_reading d ≡ false → (r ≡ replies.ReadOnly id) ⊎ (r ≡ replies.Down)
  read_only_then es i j t u id c d r lt one other writes =
      let a = end_event (steps o first es).history i t c (replies.ReadOnly id) one in
      let b = end_event (steps o first es).history j u d r other in
      let was : EndsAt (steps o first es).history i t c (ReadOnly id) = subst (EndsAt (steps o first es).history i t c) (is_read_only es i t c id a.0 a.1 a.2) a.1 in
      ⊎_elim (λ e. inl (sym b.2 ∙ ap reply_in e)) (λ e. inr (sym b.2 ∙ ap reply_in e)) (failure_stays o first empty none begun es i j t u id c d b.0 lt was b.1 (sym (model.reads d) ∙ writes))

  -- ---- ends at once, and ends of begun calls

  module _ (room : Room) (opened : Tree) (base : ℕ) (as_tree : (es : List runs.Event) (t : ℕ) (th : Thread Call) (c : Call) (rest : List Call) → slice_get (steps o first es).threads t ≡ Some th → th.calls ≡ c ∷ rest → AsTree o room opened base (steps o first es) c) where
    -- the tree before an entry is that after the history then
    tree_then : (es : List runs.Event) (i t : ℕ) (s : StepAt o first es i t) → tree_up_to room opened base (events_in (steps o first s.before).history) (length (steps o first s.before).history) ≡ tree_up_to room opened base (events_in (steps o first es).history) i
    tree_then es i t s =
        let old = (steps o first s.before).history in
        let g = (grown_from o first empty none begun es i t s).history in
        let p = s.place in
        sym
        (ap (λ h. tree_up_to room opened base (events_in h) i) g.are
        ∙ ap (λ l. tree_up_to room opened base l i) (map-append event_of old g.more)
        ∙ longer_tree room opened base (events_in old) (events_in g.more) i (let l = length-map old event_of in omega (arith, l, p))
        ∙ ap (tree_up_to room opened base (events_in old)) (sym p))

    -- what a call that ends at once owes, before this tree
    owes : (s : Host V Call Reply) (tree : Tree) (n t : ℕ) (c : Call) (e : Ending Reply) → ((r : Reply) → e ≡ Answered r → is_turned_away r ≡ false) → AsTree o room opened base s c →
        tree_up_to room opened base (events_in s.history) (length s.history) ≡ tree → base + (length s.history + 1) ≡ n → EndReason o.model o.setup s c None e → IsReply room tree n c (reply_in e)
    owes s tree n t c e fine like same number (Stopped stop) = by (stop_cause o.model o.setup s.journal.flush.taken (o.model.kind c) e stop)
      where
        by : StopCause s.journal.flush.taken (o.model.kind c) e → IsReply room tree n c (reply_in e)
        by (ByCut any is) = subst (λ x. IsReply room tree n c (reply_in x)) (sym is) (record { given = inr refl; waits = λ w ok. (let never : ◌≡◌ {A = Reply} replies.Down replies.Ok = ok in cc never); reads = λ r away. refl })
        by (ByFailure id failed writes is) =
            subst (λ x. IsReply room tree n c (reply_in x)) (sym is) (record { given = inr refl; waits = λ w ok. (let never : ◌≡◌ {A = Reply} (replies.ReadOnly id) replies.Ok = ok in cc never); reads = λ r away. absurd (true≢false (sym r ∙ model.reads c ∙ writes)) })
    owes s tree n t c e fine like same number (Refused why going idle reply is) =
        subst (λ x. IsReply room tree n c (reply_in x)) (sym is) (record {
          given = inl (like.refused why reply ∙ ap (λ x. reply_of room x (base + (length s.history + 1)) c) same ∙ ap (λ k. reply_of room tree k c) number);
          waits = λ w. like.refused_not_ok why reply;
          reads = λ r away. absurd (true≢false (sym away ∙ fine why is));
        })
    owes s tree n t c e fine like same number (Acted going idle reply kind is) =
        let r = (o.model.apply s.volume (length s.history + 1) s.journal.running.number c).reply in
        subst (λ x. IsReply room tree n c (reply_in x)) (sym is) (record {
          given = inl (like.acted reply kind ∙ ap (λ x. reply_of room x (base + (length s.history + 1)) c) same ∙ ap (λ k. reply_of room tree k c) number);
          waits = λ w. absurd (true≢false (sym w ∙ model.waits c ∙ kind));
          reads = λ q away. absurd (true≢false (sym away ∙ fine r is));
        })
    owes s tree n t c e fine like same number (Full going limit hinders is) =
        subst (λ x. IsReply room tree n c (reply_in x)) (sym is) (record {
          given = inr refl;
          waits = λ w ok. (let never : ◌≡◌ {A = Reply} replies.SessionFull replies.Ok = ok in cc never);
          reads = λ r away. absurd (true≢false (sym (hinders refl) ∙ model.still s.volume c (sym (model.reads c) ∙ r)));
        })
    owes s tree n t c e fine like same number (Acknowledged b going was is) = absurd (none-some b was)

    at_once : (es : List runs.Event) (i t : ℕ) (c : Call) (r : Reply) → slice_get (events_in (steps o first es).history) i ≡ Some (End t c r) → (IsBegun (events_in (steps o first es).history) i t → ⊥) →
        IsReply room (tree_up_to room opened base (events_in (steps o first es).history) i) (base + (i + 1)) c r
    at_once es i t c r there not_begun =
        let b = end_event (steps o first es).history i t c r there in
        let x = ended_at o first empty es i t c b.0 b.1 in
        let s = steps o first x.step.before in
        let idle : x.own.begun ≡ None = none_begun x.own.begun (λ some. not_begun (begun_at es i t x.step x.own x.at ∙ some)) in
        subst (IsReply room (tree_up_to room opened base (events_in (steps o first es).history) i) (base + (i + 1)) c) b.2
        (owes s (tree_up_to room opened base (events_in (steps o first es).history) i) (base + (i + 1)) t c b.0 (λ y is. own es i t c y (subst (EndsAt (steps o first es).history i t c) is b.1)) (as_tree x.step.before t x.own c x.rest x.at x.calls)
        (tree_then es i t x.step) (let p = x.step.place in omega (arith, p)) (subst (λ y. EndReason o.model o.setup s c y b.0) idle x.reason))

    begins_free : (es : List runs.Event) (i t : ℕ) (c : Call) → slice_get (events_in (steps o first es).history) i ≡ Some (Begin t c) →
        (is_waiting c ≡ true) × (reply_of room (tree_up_to room opened base (events_in (steps o first es).history) i) (base + (i + 1)) c ≡ replies.Ok)
    begins_free es i t c there =
        let x = began_at o first empty es i t c (begin_event (steps o first es).history i t c there) in
        let like = as_tree x.step.before t x.own c x.rest x.at x.calls in (
          model.waits c ∙ x.kind,
          ap (λ k. reply_of room (tree_up_to room opened base (events_in (steps o first es).history) i) k c) (let p = x.step.place in let n : base + (i + 1) ≡ base + (length (steps o first x.step.before).history + 1) = omega (arith, p) in n)
              ∙ ap (λ tree. reply_of room tree (base + (length (steps o first x.step.before).history + 1)) c) (sym (tree_then es i t x.step)) ∙ like.begun x.reply x.kind,
        )

    begun_ends : (es : List runs.Event) (i t : ℕ) (c : Call) (r : Reply) → slice_get (events_in (steps o first es).history) i ≡ Some (End t c r) → IsBegun (events_in (steps o first es).history) i t → (r ≡ replies.Ok) ⊎ (is_turned_away r ≡ true)
    begun_ends es i t c r there was =
        let b = end_event (steps o first es).history i t c r there in
        let x = ended_at o first empty es i t c b.0 b.1 in
        subst (λ y. (y ≡ replies.Ok) ⊎ (is_turned_away y ≡ true)) b.2
        (by (steps o first x.step.before) x.own.begun b.0 (sym (begun_at es i t x.step x.own x.at) ∙ was) x.reason)
      where
        stopped : (s : Host V Call Reply) (e : Ending Reply) → StopCause s.journal.flush.taken (o.model.kind c) e → is_turned_away (reply_in e) ≡ true
        stopped s e (ByCut any is) = ap (λ x. is_turned_away (reply_in x)) is
        stopped s e (ByFailure id failed writes is) = ap (λ x. is_turned_away (reply_in x)) is

        by : (s : Host V Call Reply) (y : Option Begun) (e : Ending Reply) → is_some y ≡ true → EndReason o.model o.setup s c y e → (reply_in e ≡ replies.Ok) ⊎ (is_turned_away (reply_in e) ≡ true)
        by s y e some (Stopped stop) = inr (stopped s e (stop_cause o.model o.setup s.journal.flush.taken (o.model.kind c) e stop))
        by s y e some (Refused why going idle reply is) = absurd (true≢false (sym some ∙ ap is_some idle))
        by s y e some (Acted going idle reply kind is) = absurd (true≢false (sym some ∙ ap is_some idle))
        by s y e some (Full going limit hinders is) = inr (ap (λ x. is_turned_away (reply_in x)) is)
        by s y e some (Acknowledged d going was is) = inl (ap reply_in is ∙ model.ok)

    pub run_is_legal : (es : List runs.Event) → IsLegal room opened base (program_of programs) (events_in (steps o first es).history)
    run_is_legal es = record {
      programs_followed = programs_followed o first programs empty threads es;
      at_once = at_once es;
      begins = begins_free es;
      ends = begun_ends es;
      down = λ i j t u c d r lt one other. down_then_down es i j t u c d r lt one other;
      read_only = λ i j t u id c d r lt one other writes. read_only_then es i j t u id c d r lt one other writes;
    }
