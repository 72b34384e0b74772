-- Each end takes one call from what a thread has left.
use Rattle.std.proofs.Common.{◌≡◌, ◌≢◌, ℕ, ◌+◌, ◌==◌, suc, Bool, true, false, List, [], ◌∷◌, ◌++◌, length, Option, Some, None, slice_get, unwrap_or, refl, sym, ap, subst, ◌∙◌, arith, if◌then◌else◌}
use Rattle.std.specs.Option.{option_map}
use Rattle.std.proofs.lemmas.Bool.{ne_eqb, eq-eqb}
use Rattle.std.proofs.lemmas.Option.{slice_get-map}
use Rattle.tree_model.specs.declared.call.Call.{Call}
use Rattle.tree_model.specs.declared.call.Reply.{Reply}
use Rattle.volume_steps.specs.Now.{VolumeNow}
use Rattle.journal_ring.specs.LogRing.{LogRing}
use Rattle.crash_laws.specs.LegalHistory.{Event, Begin, End, Follows, of_thread}
use Rattle.host_machine.specs.State.{What, Ending, Begins, Ends, Begun, Thread, Entry, Host}
use Rattle.host_machine.specs.runs.Runs as runs
use Rattle.minix_host.specs.Sessions.{Opening}
use Rattle.call_sessions.specs.Sessions.{call_over, opened_with, host_behind}
use Rattle.call_sessions.specs.promises.Legal.{event_of, events_in, program_of}
use Rattle.call_sessions.proofs.PromisesLemmas.Orders.{all_keep, programs_followed}
use Rattle.session_core.specs.run.parts.Whole.{IsWhole}

ends_in : List Event → ℕ
ends_in [] = 0
ends_in (Begin t c ∷ es) = ends_in es
ends_in (End t c r ∷ es) = suc (ends_in es)

-- ---- with as many ends as calls it is whole

whole : (es : List Event) (ps : List Call) → Follows es ps → ends_in es ≡ length ps → IsWhole es ps
unfolding ends_in
whole [] [] f n = tt
whole [] (p ∷ ps) f n = absurd (omega (arith, n))
whole (Begin t c ∷ []) [] f n = absurd f
whole (Begin t c ∷ []) (d ∷ ps) f n = absurd (omega (arith, n))
whole (Begin t c ∷ End u e r ∷ es) [] f n = absurd f
whole (Begin t c ∷ End u e r ∷ es) (d ∷ ps) f n = (f.0, f.1, whole es ps f.2 (omega (arith, n)))
whole (Begin t c ∷ Begin u e ∷ es) ps f n = absurd f
whole (End t c r ∷ es) [] f n = absurd f
whole (End t c r ∷ es) (d ∷ ps) f n = (f.0, whole es ps f.1 (omega (arith, n)))

-- ---- the ends of a thread

one_if : What Reply → ℕ
one_if Begins = 0
one_if (Ends e) = 1

abbrev own : ℕ → ℕ → What Reply → ℕ
own t u w = if u == t then one_if w else 0

count_ends : ℕ → List (Entry Call Reply) → ℕ
count_ends t [] = 0
count_ends t (x ∷ h) = own t x.thread x.what + count_ends t h

count_more : (t : ℕ) (h : List (Entry Call Reply)) (x : Entry Call Reply) → count_ends t (h ++ x ∷ []) ≡ count_ends t h + own t x.thread x.what
unfolding count_ends
count_more t [] x = omega arith
count_more t (y ∷ h) x = let e = count_more t h x in omega (arith, e)

one_event : (t u : ℕ) (c : Call) (w : What Reply) (rest : List Event) (b : Bool) → (u == t) ≡ b → ends_in (of_thread t (event_of (record { thread = u; call = c; what = w }) ∷ rest)) ≡ (if b then one_if w else 0) + ends_in (of_thread t rest)
unfolding ends_in one_if
one_event t u c Begins rest true e = rw e (omega arith)
one_event t u c Begins rest false e = rw e (omega arith)
one_event t u c (Ends x) rest true e = rw e (omega arith)
one_event t u c (Ends x) rest false e = rw e (omega arith)

same_count : (t : ℕ) (h : List (Entry Call Reply)) → ends_in (of_thread t (events_in h)) ≡ count_ends t h
unfolding ends_in count_ends
same_count t [] = refl
same_count t (x ∷ h) = one_event t x.thread x.call x.what (events_in h) (x.thread == t) refl ∙ ap (λ n. own t x.thread x.what + n) (same_count t h)

-- ---- along a run

own_one : (t : ℕ) (w : What Reply) → own t t w ≡ one_if w
own_one t w = rw (eq-eqb t t refl) refl

own_none : (t u : ℕ) (w : What Reply) → t ≢ u → own t u w ≡ 0
own_none t u w apart = rw (ne_eqb u t (λ same. apart (sym same))) refl

module _ (s : Opening) (v : VolumeNow) (ring : LogRing) (limit : ℕ) (programs : List (List Call)) where
  abbrev first : Host VolumeNow Call Reply
  first = opened_with s v ring limit programs

  -- how many calls a thread has left; none, where there is no such thread
  abbrev left_of : Option (Thread Call) → ℕ
  left_of None = 0
  left_of (Some th) = length th.calls

  abbrev Left : ℕ → Option (Thread Call) → List (Entry Call Reply) → Type 0
  Left t x h = count_ends t h + left_of x ≡ length (program_of programs t)

  sends : (t : ℕ) (th : Thread Call) (c : Call) (rest : List Call) (b new : Begun) (h : List (Entry Call Reply)) → th.calls ≡ c ∷ rest → th.begun ≡ Some b → Left t (Some th) h → Left t (Some (record { calls = c ∷ rest; begun = Some new })) h
  sends t th c rest b new h calls was old = subst (λ l. count_ends t h + length l ≡ length (program_of programs t)) calls old

  starts : (t : ℕ) (th : Thread Call) (c : Call) (rest : List Call) (b : Begun) (h : List (Entry Call Reply)) → th.calls ≡ c ∷ rest → th.begun ≡ None → Left t (Some th) h → Left t (Some (record { calls = c ∷ rest; begun = Some b })) (h ++ record { thread = t; call = c; what = Begins } ∷ [])
  unfolding one_if
  starts t th c rest b h calls idle old =
      let n = count_more t h (record { thread = t; call = c; what = Begins }) in
      let m = own_one t Begins in
      let k = ap length calls in
      omega (arith, n, m, k, old)

  finishes : (t : ℕ) (th : Thread Call) (c : Call) (rest : List Call) (e : Ending Reply) (h : List (Entry Call Reply)) → th.calls ≡ c ∷ rest → Left t (Some th) h → Left t (Some (record { calls = rest; begun = None })) (h ++ record { thread = t; call = c; what = Ends e } ∷ [])
  unfolding one_if
  finishes t th c rest e h calls old =
      let n = count_more t h (record { thread = t; call = c; what = Ends e }) in
      let m = own_one t (Ends e) in
      let k = ap length calls in
      omega (arith, n, m, k, old)

  others : (t u : ℕ) (x : Option (Thread Call)) (c : Call) (what : What Reply) (h : List (Entry Call Reply)) → t ≢ u → Left t x h → Left t x (h ++ record { thread = u; call = c; what = what } ∷ [])
  others t u x c what h apart old =
      let n = count_more t h (record { thread = u; call = c; what = what }) in
      let m = own_none t u what apart in
      omega (arith, n, m, old)

  at_start : (t : ℕ) → Left t (slice_get first.threads t) first.history
  unfolding count_ends
  at_start t = subst (λ x. Left t x []) (sym (slice_get-map (λ (p : List Call). record { calls = p; begun = None }) programs t)) (by (slice_get programs t) refl)
    where
      by : (x : Option (List Call)) → slice_get programs t ≡ x → Left t (option_map (λ (p : List Call). record { calls = p; begun = None }) x) []
      by None e = let n = ap (λ y. length (unwrap_or y [])) e in omega (arith, n)
      by (Some p) e = let n = ap (λ y. length (unwrap_or y [])) e in omega (arith, n)

  left_in_run : (es : List runs.Event) (t : ℕ) → Left t (slice_get (host_behind s v ring limit programs es).threads t) (host_behind s v ring limit programs es).history
  left_in_run es = all_keep (call_over s) Left sends starts finishes others first at_start es

  none_left : (x : Option (Thread Call)) → ((th : Thread Call) → x ≡ Some th → th.calls ≡ []) → left_of x ≡ 0
  none_left None none = refl
  none_left (Some th) none = ap length (none th refl)

  pub whole_program : (es : List runs.Event) (t : ℕ) → ((th : Thread Call) → slice_get (host_behind s v ring limit programs es).threads t ≡ Some th → th.calls ≡ []) → IsWhole (of_thread t (events_in (host_behind s v ring limit programs es).history)) (program_of programs t)
  whole_program es t none =
      let h = (host_behind s v ring limit programs es).history in
      let x = slice_get (host_behind s v ring limit programs es).threads t in
      let left : Left t x h = left_in_run es t in
      let n = same_count t h in
      let k = none_left x none in
      whole (of_thread t (events_in h)) (program_of programs t) (programs_followed (call_over s) first programs refl refl es t) (omega (arith, n, k, left))
