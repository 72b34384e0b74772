-- A store's session has a log of puts with a barrier call between any two, by the fields of the headline and by what the tree
-- model says.
use Rattle.std.specs.Prelude.{◌≡◌, ℕ, suc, ◌+◌, ◌-◌, ◌*◌, ◌<◌, ◌≤◌, Bool, true, false, List, [], ◌++◌, length, take, Some, None, slice_get, refl, if◌then◌else◌}
use Rattle.std.specs.Option.{unwrap_or}
use Rattle.std.proofs.Common.{sym, ap, subst, ◌∙◌, inl, inr, arith}
use Rattle.std.proofs.lemmas.Bool.{cases_Bool, cases_lt, cases_eq, false≢true, true≢false}
use Rattle.std.proofs.lemmas.Option.{same_Some}
use Rattle.blk_base.specs.Members.{In}
use Rattle.blk_base.specs.laws.Members.{slice_get-In, slice_get-map_some, map_some-slice_get, slice_get-append_left, slice_get-append_right}
use Rattle.tree_model.specs.declared.call.Call.{Call}
use Rattle.tree_model.specs.declared.call.Call.TheVariants.{Bytes, Fdatabarrier}
use Rattle.tree_model.specs.declared.call.Reply.{Reply}
use Rattle.tree_model.specs.declared.call.Reply.TheVariants as replies
use Rattle.tree_model.specs.Calls.{reply_of}
use Rattle.tree_model.specs.Histories.{is_ok}
use Rattle.volume_steps.specs.Now.{room_of}
use Rattle.crash_laws.specs.LegalHistory.{Event, Begin, End, thread_of, Follows}
use Rattle.crash_laws.specs.PromiseRules.{IsOn}
use Rattle.flush_actor.specs.Kinds.{is_whole, is_reading}
use Rattle.host_machine.specs.State.{Ending, Answered, Down, ReadOnly, SessionFull, What, Begins, Ends, Entry}
use Rattle.host_machine.specs.runs.Promises.{call_of}
use Rattle.minix_host.specs.Calls.{kind_of}
use Rattle.call_sessions.specs.promises.Answers.{AnsweredAt}
use Rattle.call_sessions.specs.promises.Entries.{BeginsAt, EndsAt}
use Rattle.call_sessions.specs.promises.Legal.{event_of, events_in, reply_in, program_of}
use Rattle.call_sessions.specs.promises.Trees.{tree_at}
use Rattle.session_grammar.specs.declared.session_script.SessionScript.{SessionScript}
use Rattle.session_core.specs.Core.{EndState, opening_of}
use Rattle.session_core.specs.Headline.{HeadlineOn, told_by}
use Rattle.session_core.specs.declared.report.SessionReport.{SessionReport}
use Rattle.store_core.specs.Store.{Numbering, IsPutAt, IsBarred, IsStoreLog}
use Rattle.store_core.specs.Program.{LogStep, calls_from, IsStoreScript, NoneFull, PutEnds, HasStoreTrees}
use Rattle.store_core.proofs.Order.{ends, ended-call, earlier-end, one-thread, follows-all, puts-in_order}

-- ---- entries and events

abbrev event-ends : Event → Bool
event-ends (Begin t c) = false
event-ends (End t c r) = true

abbrev event-call : Call → Event → Call
event-call other (Begin t c) = c
event-call other (End t c r) = c

-- an event that ends is an entry that ends
entry-end : (x : Entry Call Reply) (t : ℕ) (c : Call) (r : Reply) → event_of x ≡ End t c r → (y : Ending Reply) × (x ≡ record { thread = t; call = c; what = Ends y })
entry-end x t c r e = let h = by x.what e in (h.0, λ j. record { thread = h.2 j; call = h.3 j; what = h.1 j })
  where
    by : (w : What Reply) → (elim w as (λ _. Event) [ Begins ↦ Begin x.thread x.call | Ends y ↦ End x.thread x.call (reply_in y) ]) ≡ End t c r → (y : Ending Reply) × (w ≡ Ends y) × (x.thread ≡ t) × (x.call ≡ c)
    by Begins h = absurd (false≢true (ap event-ends h))
    by (Ends y) h = (y, refl, ap thread_of h, ap (event-call c) h)

pub end-at : (history : List (Entry Call Reply)) (i t : ℕ) (c : Call) (r : Reply) → slice_get (events_in history) i ≡ Some (End t c r) → (y : Ending Reply) × EndsAt history i t c y
end-at history i t c r e =
    let x = map_some-slice_get event_of history i (End t c r) e in
    let y = entry-end x.0 t c r x.2 in
    (y.0, x.1 ∙ ap Some y.1)

pub event-at : (history : List (Entry Call Reply)) (i t : ℕ) (c : Call) (y : Ending Reply) → EndsAt history i t c y → slice_get (events_in history) i ≡ Some (End t c (reply_in y))
event-at history i t c y e = slice_get-map_some event_of history i (record { thread = t; call = c; what = Ends y }) e

-- an entry does not begin and end
abbrev entry-ends : Entry Call Reply → Bool
entry-ends x = elim x.what as (λ _. Bool) [ Begins ↦ false | Ends y ↦ true ]

pub begins-no_end : (history : List (Entry Call Reply)) (i t u : ℕ) (c d : Call) (y : Ending Reply) → BeginsAt history i t c → EndsAt history i u d y → ⊥
begins-no_end history i t u c d y a b =
    false≢true (ap entry-ends (same_Some (record { thread = t; call = c; what = Begins }) (record { thread = u; call = d; what = Ends y }) (sym a ∙ b)))

-- ---- endings

abbrev was-answered : Ending Reply → Bool
was-answered (Answered r) = true
was-answered other = false

-- what ends before a call that was answered was answered itself
module _ (s : SessionScript) (end : EndState) (r : SessionReport) (is : HeadlineOn s end r) (full : NoneFull end) where
  pub answered-before : (i j t u : ℕ) (c d : Call) (y : Ending Reply) (reply : Reply) → i < j → EndsAt end.host.history i t c y → EndsAt end.host.history j u d (Answered reply) → is_reading (kind_of d) ≡ false
      → (x : Reply) × EndsAt end.host.history i t c (Answered x)
  answered-before i j t u c d (Answered x) reply lt a b kind = (x, a)
  answered-before i j t u c d Down reply lt a b kind = absurd (true≢false (ap was-answered (is.causes.down_stays i j t u c d (Answered reply) lt a b)))
  answered-before i j t u c d (ReadOnly id) reply lt a b kind =
      elim (is.causes.read_only_stays i j t u id c d (Answered reply) lt a b kind) [
        | inl e ↦ absurd (true≢false (ap was-answered e))
        | inr e ↦ absurd (true≢false (ap was-answered e))
      ]
  answered-before i j t u c d SessionFull reply lt a b kind = absurd (full i t c a)

pub ok-is : (r : Reply) → is_ok r ≡ true → r ≡ replies.Ok
ok-is replies.Ok e = refl
ok-is (replies.Bytes bytes) e = absurd (false≢true e)
ok-is (replies.Names names) e = absurd (false≢true e)
ok-is (replies.Stat dir size links) e = absurd (false≢true e)
ok-is replies.NotFound e = absurd (false≢true e)
ok-is replies.Exists e = absurd (false≢true e)
ok-is replies.NotDir e = absurd (false≢true e)
ok-is replies.IsDir e = absurd (false≢true e)
ok-is replies.NotEmpty e = absurd (false≢true e)
ok-is replies.NameTooLong e = absurd (false≢true e)
ok-is replies.TooManyLinks e = absurd (false≢true e)
ok-is replies.TooBig e = absurd (false≢true e)
ok-is replies.NoSpace e = absurd (false≢true e)
ok-is replies.NoInode e = absurd (false≢true e)
ok-is replies.BadPath e = absurd (false≢true e)
ok-is replies.Invalid e = absurd (false≢true e)
ok-is (replies.ReadOnly id) e = absurd (false≢true e)
ok-is replies.Down e = absurd (false≢true e)
ok-is replies.SessionFull e = absurd (false≢true e)

-- ---- the log

module _ (number : Numbering) (path : List ℕ) (before : List Call) (ops : List LogStep) (s : SessionScript) (end : EndState) (r : SessionReport) (is : HeadlineOn s end r) (f : ℕ)
    (script : IsStoreScript path before ops s) (full : NoneFull end) (trees : HasStoreTrees number path s end f) where
  abbrev events : List Event
  events = events_in end.host.history

  abbrev program : List Call
  program = before ++ calls_from path 0 ops

  others : (t : ℕ) → program_of s.programs (suc t) ≡ []
  others t = ap (λ (ps : List (List Call)). unwrap_or (slice_get ps (suc t)) []) script.programs

  first : program_of s.programs 0 ≡ program
  first = ap (λ (ps : List (List Call)). unwrap_or (slice_get ps 0) []) script.programs

  follows : Follows events program
  follows = subst (Follows events) first (follows-all events (program_of s.programs) is.follows.ordered others)

  alone : (x : Event) → In x events → thread_of x ≡ 0
  alone = one-thread events (program_of s.programs) is.follows.ordered others

  -- a put of the program stands behind the calls before
  put-place : (a j : ℕ) (c : List ℕ) → slice_get program a ≡ Some (Bytes path (1024 * j) c) → (length before ≤ a) × (slice_get (calls_from path 0 ops) (a - length before) ≡ Some (Bytes path (1024 * j) c))
  put-place a j c e =
      elim (cases_lt a (length before)) [
        | inl lt ↦ absurd (script.no_put a (1024 * j) c (sym (slice_get-append_left before (calls_from path 0 ops) a lt) ∙ e))
        | inr le ↦ (le, sym (slice_get-append_right before (calls_from path 0 ops) a le) ∙ e)
      ]

  behind : (k : ℕ) → slice_get program (length before + k) ≡ slice_get (calls_from path 0 ops) k
  behind k =
      let at : length before + k - length before ≡ k = omega arith in
      slice_get-append_right before (calls_from path 0 ops) (length before + k) (omega arith) ∙ ap (slice_get (calls_from path 0 ops)) at

  -- the barrier call was answered Ok
  barrier-ok : (e q t u j : ℕ) (y : Ending Reply) (c : List ℕ) → e < q → EndsAt end.host.history e t (Fdatabarrier path) y → PutEnds path end q u j c replies.Ok → AnsweredAt end.host e t (Fdatabarrier path)
  barrier-ok e q t u j y c lt a b =
      let x = answered-before s end r is full e q t u (Fdatabarrier path) (Bytes path (1024 * j) c) y replies.Ok lt a b refl in
      elim (cases_Bool (is_ok x.0)) [
        | inl ok ↦ (subst (λ reply. EndsAt end.host.history e t (Fdatabarrier path) (Answered reply)) (ok-is x.0 ok) x.1, refl)
        | inr other ↦
            let told = is.follows.answers e t (Fdatabarrier path) x.0 x.1 (λ kind same. true≢false (sym (ap is_ok same) ∙ other)) in
            let number : 0 + (e + 1) ≡ e + 1 = omega arith in
            let same : x.0 ≡ replies.Ok =
            told ∙ ap (λ n. reply_of (room_of (opening_of s).geometry) (tree_at (opening_of s) end.host e) n (Fdatabarrier path)) number ∙ trees.found e q t u j y c lt a b in
            absurd (true≢false (sym (ap is_ok same) ∙ other))
      ]

  -- ---- the puts before a put

  pub earlier : (i j q : ℕ) (b : List ℕ) → i < j → IsPutAt number (told_by s end) f j q b → (p : ℕ) × (body : List ℕ) × IsPutAt number (told_by s end) f i p body × IsBarred s end r is f i p q
  earlier i j q b lt put =
      let w = trees.written_once j q b put in
      let at = w.0 in
      let ended = ended-call events program at w.1 (Bytes path (1024 * j) b) replies.Ok follows (event-at end.host.history at w.1 (Bytes path (1024 * j) b) (Answered replies.Ok) w.3) in
      let place = put-place (ends (take at events)) j b ended in
      let stands = (puts-in_order path 0 ops (ends (take at events) - length before) j b place.1).1 i (omega arith) lt in
      let less = stands.before in
      let low = place.0 in
      -- the barrier call, and the put before it
      let bar = earlier-end events at (length before + suc stands.place) (omega (arith, less, low)) in
      let bar_at = bar.6 in
      let old = earlier-end events bar.0 (length before + stands.place) (omega (arith, bar_at)) in
      let bar_call : bar.2 ≡ Fdatabarrier path = same_Some bar.2 (Fdatabarrier path) (sym (ended-call events program bar.0 bar.1 bar.2 bar.3 follows bar.5) ∙ ap (slice_get program) bar.6 ∙ behind (suc stands.place) ∙ stands.barrier) in
      let old_call : old.2 ≡ Bytes path (1024 * i) stands.body = same_Some old.2 (Bytes path (1024 * i) stands.body) (sym (ended-call events program old.0 old.1 old.2 old.3 follows old.5) ∙ ap (slice_get program) old.6 ∙ behind stands.place ∙ stands.put) in
      let bar_end = end-at end.host.history bar.0 bar.1 (Fdatabarrier path) bar.3 (subst (λ c. slice_get events bar.0 ≡ Some (End bar.1 c bar.3)) bar_call bar.5) in
      let old_end = end-at end.host.history old.0 old.1 (Bytes path (1024 * i) stands.body) old.3 (subst (λ c. slice_get events old.0 ≡ Some (End old.1 c old.3)) old_call old.5) in
      let bar_lt = bar.4 in
      let old_lt = old.4 in
      let ok = barrier-ok bar.0 at bar.1 w.1 j bar_end.0 b bar.4 bar_end.1 w.3 in
      let answered = answered-before s end r is full old.0 at old.1 w.1 (Bytes path (1024 * i) stands.body) (Bytes path (1024 * j) b) old_end.0 replies.Ok (omega (arith, bar_lt, old_lt)) old_end.1 w.3 refl in
      let done : PutEnds path end old.0 old.1 i stands.body replies.Ok = subst (λ reply. PutEnds path end old.0 old.1 i stands.body reply) (trees.done old.0 old.1 i stands.body answered.0 answered.1) answered.1 in
      let is_put = trees.put old.0 old.1 i stands.body done in
      -- the call began behind the put, on the file
      let was = is.answered bar.0 bar.1 (Fdatabarrier path) ok in
      let begin = was.number in
      let old_thread : old.1 ≡ 0 = alone (End old.1 old.2 old.3) (slice_get-In events old.0 (End old.1 old.2 old.3) old.5) in
      let bar_thread : bar.1 ≡ 0 = alone (End bar.1 bar.2 bar.3) (slice_get-In events bar.0 (End bar.1 bar.2 bar.3) bar.5) in
      let behind_put : old.0 < was.place =
      elim (cases_lt old.0 was.place) [
        | inl l ↦ l
        | inr le ↦
            elim (cases_eq old.0 was.place) [
              | inl same ↦ absurd (begins-no_end end.host.history was.place bar.1 old.1 (Fdatabarrier path) (Bytes path (1024 * i) stands.body) old_end.0 was.began.begins (subst (λ k. EndsAt end.host.history k old.1 (Bytes path (1024 * i) stands.body) old_end.0) same old_end.1))
              | inr ne ↦
                  absurd (was.began.last old.0 (record { thread = old.1; call = Bytes path (1024 * i) stands.body; what = Ends old_end.0 }) (omega (arith, le, ne)) old.4 old_end.1 (old_thread ∙ sym bar_thread))
            ]
      ] in
      let on_file : IsOn (call_of was.begun).file f =
      let whole : is_whole was.begun.kind ≡ false = ap is_whole was.kind in
      let file : was.begun.file ≡ f = was.node ∙ trees.node was.place bar.1 was.began.begins in
      subst (λ t. IsOn (if t then None else Some was.begun.file) f) (sym whole) file in
      let q_at = w.2 in (
        old.0 + 1,
        stands.body,
        is_put,
        record {
          e = bar.0;
          t = bar.1;
          c = Fdatabarrier path;
          ok = ok;
          barrier = refl;
          covers = (on_file, omega (arith, behind_put, begin), is_put.wrote);
          before = omega (arith, bar_lt, q_at);
        },
      )

  pub store-log : IsStoreLog number s end r is f
  store-log = record { put = trees.each; earlier = earlier }
