-- As many puts are held as were acknowledged.
use Rattle.std.specs.Prelude.{◌≡◌, ℕ, zero, suc, ◌+◌, ◌-◌, ◌*◌, ◌<◌, ◌≤◌, ◌&&◌, Bool, true, false, List, [], ◌∷◌, ◌++◌, length, take, Some, slice_get, refl, if◌then◌else◌}
use Rattle.std.proofs.Common.{sym, ap, subst, ◌∙◌, inl, inr, arith}
use Rattle.std.proofs.lemmas.Bool.{cases_lt, and_parts, false≢true, true≢false}
use Rattle.std.proofs.lemmas.Option.{none-some, same_Some}
use Rattle.blk_base.specs.Members.{In}
use Rattle.blk_base.specs.laws.Members.{slice_get-In, slice_get-append_left, slice_get-append_right, In-push_cases}
use Rattle.tree_model.specs.declared.call.Call.{Call}
use Rattle.tree_model.specs.declared.call.Call.TheVariants as calls
use Rattle.tree_model.specs.declared.call.Reply.{Reply}
use Rattle.tree_model.specs.declared.call.Reply.TheVariants as replies
use Rattle.tree_model.specs.Calls.{one_if}
use Rattle.crash_laws.specs.LegalHistory.{Event, Begin, End, Follows}
use Rattle.host_machine.specs.State.{Answered, Down, ReadOnly, SessionFull, What, Begins, Ends, Entry}
use Rattle.call_sessions.specs.promises.Entries.{EndsAt}
use Rattle.call_sessions.specs.promises.Legal.{event_of, events_in}
use Rattle.session_core.specs.Core.{EndState}
use Rattle.session_core.specs.Headline.{HeadlineOn}
use Rattle.session_core.specs.declared.report.SessionReport.{SessionReport}
use Rattle.wal_store.specs.calls.Calls.{fill_count, fills}
use Rattle.store_grammar.specs.declared.script.StoreScript.{StoreScript}
use Rattle.store_grammar.specs.Made.{volume_script}
use Rattle.store_grammar.specs.WellFormed.{IsWellFormed}
use Rattle.store_core.specs.Order.{ends, StandsBefore}
use Rattle.store_core.specs.Program.{log_path, LogStep, Put as PutStep, Flush as FlushStep, calls_from, NoneFull}
use Rattle.store_core.specs.Stores.{is_put, is_flush, is_answered_ok, is_put_end, is_flushed, acknowledged_from, acknowledged_in, held_of, number_in}
use Rattle.store_core.proofs.HeldStores.{acknowledged-held}
use Rattle.store_core.proofs.Log.{ok-is}
use Rattle.store_core.proofs.LogSession.{follows, call-at}
use Rattle.store_core.proofs.MadeStores.{steps_from, same-calls, front, front-length, fills-write, made-store}
use Rattle.store_core.proofs.Order.{two-begins}

-- ---- puts among calls, and among those that ended

abbrev put_calls : List Call → ℕ
put_calls [] = 0
put_calls (c ∷ cs) = one_if (is_put c) + put_calls cs

abbrev put_ends : List Event → ℕ
put_ends [] = 0
put_ends (Begin t c ∷ es) = put_ends es
put_ends (End t c r ∷ es) = one_if (is_put c) + put_ends es

plus-none : (n : ℕ) → one_if false + n ≡ n
plus-none n = omega arith

-- the calls that ended are the first ones of the program
ended-puts : (es : List Event) (program : List Call) (q : ℕ) → Follows es program → put_ends (take q es) ≡ put_calls (take (ends (take q es)) program)
ended-puts es program zero f = refl
ended-puts [] program (suc q) f = refl
ended-puts (Begin u d ∷ []) program (suc zero) f = refl
ended-puts (Begin u d ∷ []) program (suc (suc q)) f = refl
ended-puts (Begin u d ∷ Begin v g ∷ es) program (suc q) f = absurd (two-begins u d v g es program f)
ended-puts (Begin u d ∷ End v g y ∷ es) [] (suc q) f = absurd f
ended-puts (Begin u d ∷ End v g y ∷ es) (x ∷ program) (suc zero) f = refl
ended-puts (Begin u d ∷ End v g y ∷ es) (x ∷ program) (suc (suc q)) f =
    ap (λ c. one_if (is_put c) + put_ends (take q es)) f.1 ∙ ap (λ n. one_if (is_put x) + n) (ended-puts es program q f.2)
ended-puts (End v g y ∷ es) [] (suc q) f = absurd f
ended-puts (End v g y ∷ es) (x ∷ program) (suc q) f =
    ap (λ c. one_if (is_put c) + put_ends (take q es)) f.0 ∙ ap (λ n. one_if (is_put x) + n) (ended-puts es program q f.1)

-- calls in front of them that are no puts
behind-puts : (before rest : List Call) (n : ℕ) → ((c : Call) → In c before → is_put c ≡ false) → length before ≤ n → put_calls (take n (before ++ rest)) ≡ put_calls (take (n - length before) rest)
behind-puts [] rest n none le = let same : n ≡ n - 0 = omega arith in ap (λ k. put_calls (take k rest)) same
behind-puts (c ∷ before) rest zero none le = absurd (omega (arith, le))
behind-puts (c ∷ before) rest (suc n) none le =
    let same : n - length before ≡ suc n - suc (length before) = omega arith in
    ap (λ b. one_if b + put_calls (take n (before ++ rest))) (none c (inl refl))
    ∙ plus-none (put_calls (take n (before ++ rest)))
    ∙ behind-puts before rest n (λ d i. none d (inr i)) (omega (arith, le))
    ∙ ap (λ k. put_calls (take k rest)) same

-- where more than i puts stand in front of a flush, put i does, with its barrier call
put-before : (path : List ℕ) (n : ℕ) (steps : List LogStep) (m i : ℕ) → i < put_calls (take m (calls_from path n steps)) → slice_get (calls_from path n steps) m ≡ Some (calls.Fdatasync path) → StandsBefore path (calls_from path n steps) (n + i) m
put-before path n steps zero i lt at = absurd (omega (arith, lt))
put-before path n [] (suc m) i lt at = absurd (omega (arith, lt))
put-before path n (PutStep body ∷ steps) (suc zero) i lt at = absurd (false≢true (ap is_flush (same_Some (calls.Fdatabarrier path) (calls.Fdatasync path) at)))
put-before path n (PutStep body ∷ steps) (suc (suc m)) zero lt at =
    let same : n ≡ n + 0 = omega arith in
    record { place = 0; body = body; put = ap (λ k. Some (calls.Bytes path (1024 * k) body)) same; barrier = refl; before = omega arith }
put-before path n (PutStep body ∷ steps) (suc (suc m)) (suc i) lt at =
    let same : n + 1 + i ≡ n + suc i = omega arith in
    let x = put-before path (n + 1) steps m i (omega (arith, lt)) at in
    let before = x.before in
    subst (λ k. StandsBefore path (calls_from path n (PutStep body ∷ steps)) k (suc (suc m))) same
    (record { place = suc (suc x.place); body = x.body; put = x.put; barrier = x.barrier; before = omega (arith, before) })
put-before path n (FlushStep ∷ steps) (suc m) i lt at =
    let x = put-before path n steps m i (omega (arith, lt)) at in
    let before = x.before in
    record { place = suc x.place; body = x.body; put = x.put; barrier = x.barrier; before = omega (arith, before) }

-- a flush is one of the log
flush-path : (path p : List ℕ) (n : ℕ) (steps : List LogStep) (a : ℕ) → slice_get (calls_from path n steps) a ≡ Some (calls.Fdatasync p) → p ≡ path
flush-path path p n [] a e = absurd (none-some (calls.Fdatasync p) e)
flush-path path p n (PutStep body ∷ steps) zero e = absurd (false≢true (ap is_flush (same_Some (calls.Bytes path (1024 * n) body) (calls.Fdatasync p) e)))
flush-path path p n (PutStep body ∷ steps) (suc zero) e = absurd (false≢true (ap is_flush (same_Some (calls.Fdatabarrier path) (calls.Fdatasync p) e)))
flush-path path p n (PutStep body ∷ steps) (suc (suc a)) e = flush-path path p (n + 1) steps a e
flush-path path p n (FlushStep ∷ steps) zero e = sym (ap flushed (same_Some (calls.Fdatasync path) (calls.Fdatasync p) e))
  where
    flushed : Call → List ℕ
    flushed (calls.Fdatasync q) = q
    flushed other = []
flush-path path p n (FlushStep ∷ steps) (suc a) e = flush-path path p n steps a e

-- ---- entries

abbrev entry_puts : List (Entry Call Reply) → ℕ
entry_puts [] = 0
entry_puts (e ∷ es) = one_if (is_put_end e) + entry_puts es

one-entry : (e : Entry Call Reply) (es : List Event) → one_if (is_put_end e) + put_ends es ≡ put_ends (event_of e ∷ es)
one-entry e es = by e.what
  where
    by : (w : What Reply) → one_if (elim w as (λ _. Bool) [ Begins ↦ false | Ends x ↦ is_put e.call ]) + put_ends es ≡ put_ends (event_of (record { thread = e.thread; call = e.call; what = w }) ∷ es)
    by Begins = plus-none (put_ends es)
    by (Ends x) = refl

same-puts : (es : List (Entry Call Reply)) (k : ℕ) → entry_puts (take k es) ≡ put_ends (take k (events_in es))
same-puts es zero = refl
same-puts [] (suc k) = refl
same-puts (e ∷ es) (suc k) = ap (λ n. one_if (is_put_end e) + n) (same-puts es k) ∙ one-entry e (take k (events_in es))

-- no more are acknowledged than ended before some flush that was answered
most-acknowledged : (es : List (Entry Call Reply)) (puts last most : ℕ) → last ≤ most → ((k : ℕ) (e : Entry Call Reply) → slice_get es k ≡ Some e → is_flushed e ≡ true → puts + entry_puts (take k es) ≤ most) → acknowledged_from puts last es ≤ most
most-acknowledged [] puts last most low each = low
most-acknowledged (e ∷ es) puts last most low each =
    most-acknowledged es (puts + one_if (is_put_end e)) (if is_flushed e then puts else last) most (by (is_flushed e) refl)
    (λ k d there flushed. let few = each (suc k) d there flushed in omega (arith, few))
  where
    by : (b : Bool) → is_flushed e ≡ b → (if b then puts else last) ≤ most
    by true same = let few = each 0 e refl same in omega (arith, few)
    by false same = low

-- an entry that answers a flush with Ok
record IsFlush (e : Entry Call Reply) : Type 0 where
  path : List ℕ
  same : e ≡ record { thread = e.thread; call = calls.Fdatasync path; what = Ends (Answered replies.Ok) }

flush-call : (c : Call) → is_flush c ≡ true → (p : List ℕ) × (c ≡ calls.Fdatasync p)
flush-call (calls.Mkdir p) t = absurd (false≢true t)
flush-call (calls.Create p) t = absurd (false≢true t)
flush-call (calls.Rmdir p) t = absurd (false≢true t)
flush-call (calls.Unlink p) t = absurd (false≢true t)
flush-call (calls.Link p q) t = absurd (false≢true t)
flush-call (calls.Rename p q) t = absurd (false≢true t)
flush-call (calls.Write p o l v) t = absurd (false≢true t)
flush-call (calls.Bytes p o b) t = absurd (false≢true t)
flush-call (calls.Truncate p n) t = absurd (false≢true t)
flush-call (calls.Read p o l) t = absurd (false≢true t)
flush-call (calls.List p) t = absurd (false≢true t)
flush-call (calls.Stat p) t = absurd (false≢true t)
flush-call (calls.Fsync p) t = absurd (false≢true t)
flush-call (calls.Fdatasync p) t = (p, refl)
flush-call (calls.Fbarrier p) t = absurd (false≢true t)
flush-call (calls.Fdatabarrier p) t = absurd (false≢true t)
flush-call calls.Sync t = absurd (false≢true t)

flush-entry : (e : Entry Call Reply) → is_flushed e ≡ true → IsFlush e
flush-entry e h = by e.what refl h
  where
    by : (w : What Reply) → e.what ≡ w → (elim w as (λ _. Bool) [ Begins ↦ false | Ends x ↦ is_answered_ok x && is_flush e.call ]) ≡ true → IsFlush e
    by Begins same t = absurd (false≢true t)
    by (Ends Down) same t = absurd (false≢true t)
    by (Ends (ReadOnly id)) same t = absurd (false≢true t)
    by (Ends SessionFull) same t = absurd (false≢true t)
    by (Ends (Answered reply)) same t =
        let p = and_parts (is_answered_ok (Answered reply)) (is_flush e.call) t in
        let call = flush-call e.call p.1 in
        let ok = ok-is reply p.0 in
        let what : e.what ≡ Ends (Answered replies.Ok) = same ∙ ap (λ r. Ends (Answered r)) ok in
        record { path = call.0; same = λ j. record { thread = e.thread; call = call.1 j; what = what j } }

-- ---- a store's session

module _ (x : StoreScript) (well : IsWellFormed x) (end : EndState) (r : SessionReport) (is : HeadlineOn (volume_script x) end r) (full : NoneFull end) where
  abbrev steps : List LogStep
  steps = steps_from 0 x.ops

  abbrev before : List Call
  before = calls.Create log_path ∷ front x.room

  abbrev puts : List Call
  puts = calls_from log_path 0 steps

  no-puts : (c : Call) → In c before → is_put c ≡ false
  no-puts c (inl e) = ap is_put (sym e)
  no-puts c (inr i) =
      elim (In-push_cases (fills x.room) (calls.Fsync log_path) c i) [
        | inl fill ↦ let w = fills-write x.room 0 (fill_count x.room) c fill in ap is_put w.2
        | inr e ↦ ap is_put (sym e)
      ]

  no-flush : (c : Call) → In c before → is_flush c ≡ false
  no-flush c (inl e) = ap is_flush (sym e)
  no-flush c (inr i) =
      elim (In-push_cases (fills x.room) (calls.Fsync log_path) c i) [
        | inl fill ↦ let w = fills-write x.room 0 (fill_count x.room) c fill in ap is_flush w.2
        | inr e ↦ ap is_flush (sym e)
      ]

  flushed-few : (k t : ℕ) (p : List ℕ) → EndsAt end.host.history k t (calls.Fdatasync p) (Answered replies.Ok) → 0 + entry_puts (take k end.host.history) ≤ length (held_of x is.prefix.tree)
  flushed-few k t p e =
      elim (cases_lt (length (held_of x is.prefix.tree)) (0 + entry_puts (take k end.host.history))) [
        | inr le ↦ le
        | inl lt ↦ absurd (more lt)
      ]
    where
      n : ℕ
      n = ends (take k (events_in end.host.history))

      at : slice_get (before ++ puts) n ≡ Some (calls.Fdatasync p)
      at = call-at number_in (front x.room) steps (volume_script x) end r is (made-store x well) k t (calls.Fdatasync p) replies.Ok e

      low : length before ≤ n
      low =
          elim (cases_lt n (length before)) [
            | inl lt ↦ absurd (true≢false (no-flush (calls.Fdatasync p) (slice_get-In before n (calls.Fdatasync p) (sym (slice_get-append_left before puts n lt) ∙ at))))
            | inr le ↦ le
          ]

      there : slice_get puts (n - length before) ≡ Some (calls.Fdatasync p)
      there = sym (slice_get-append_right before puts n low) ∙ at

      same-path : p ≡ log_path
      same-path = flush-path log_path p 0 steps (n - length before) there

      counted : entry_puts (take k end.host.history) ≡ put_calls (take (n - length before) puts)
      counted =
          same-puts end.host.history k
          ∙ ended-puts (events_in end.host.history) (before ++ puts) k (follows number_in (front x.room) steps (volume_script x) end r is (made-store x well))
          ∙ behind-puts before puts n no-puts low

      more : length (held_of x is.prefix.tree) < 0 + entry_puts (take k end.host.history) → ⊥
      more lt =
          let count = length (held_of x is.prefix.tree) in
          let size = front-length x.room in
          let less : n - length before ≡ n - (fill_count x.room + 2) = omega (arith, size) in
          let stands = put-before log_path 0 steps (n - length before) count (omega (arith, lt, counted)) (there ∙ ap (λ q. Some (calls.Fdatasync q)) same-path) in
          let here = subst (λ m. StandsBefore log_path puts (0 + count) m) less stands in
          let ok = subst (λ q. EndsAt end.host.history k t (calls.Fdatasync q) (Answered replies.Ok)) same-path e in
          let held = acknowledged-held x well end r is full k t (ok, refl) (0 + count) (subst (λ cs. StandsBefore log_path cs (0 + count) (n - (fill_count x.room + 2))) (same-calls 0 x.ops) here) in
          omega (arith, held)

  -- the law
  pub acknowledged-few : acknowledged_in end ≤ length (held_of x is.prefix.tree)
  acknowledged-few =
      most-acknowledged end.host.history 0 0 (length (held_of x is.prefix.tree)) (omega arith)
      (λ k e there flushed. let f = flush-entry e flushed in flushed-few k e.thread f.path (there ∙ ap Some f.same))
