-- What the actors do next.
use Rattle.std.specs.List.{find, list_any}
use Rattle.std.proofs.Common.{◌≡◌, ◌⊎◌, ◌+◌, ◌-◌, ◌==◌, ℕ, zero, Bool, true, false, ◌&&◌, not, List, [], ◌∷◌, ◌++◌, length, Option, Some, None, slice_index_or, nat_lt, refl, ap, subst, ◌∙◌, inl, inr, arith, lt-ltb, le-ltb, le-leb, eq-eqb, eqb-true, if◌then◌else◌}
use Rattle.std.proofs.lemmas.Bool.{lt-leb}
use Rattle.std.proofs.Math.Bool.{and-false, or-true}
use Rattle.blk_base.specs.Members.{In}
use Rattle.blk_base.specs.laws.Members.{list_any-In, In-list_any}
use Rattle.number_sets.specs.Sets.{has}
use Rattle.order_model.specs.declared.completion.Completion.{Completion}
use Rattle.order_model.specs.declared.completion.Completion.TheVariants.{Moved, Flushed, Failed, Cut}
use Rattle.order_model.specs.declared.note.Note.TheVariants as notes
use Rattle.order_model.specs.declared.request.Kind.TheVariants as puts
use Rattle.order_model.specs.declared.turn.Turn.TheVariants as turns
use Rattle.page_cache.specs.Pages.{is_unsent, dirty_page, put_page, marked}
use Rattle.page_cache.specs.declared.cached_page.CachedPage.{CachedPage}
use Rattle.page_cache.specs.declared.cached_page.PageState.{PageState}
use Rattle.page_cache.specs.declared.cached_page.PageState.TheVariants.{Clean, Loose, Firm}
use Rattle.log_model.specs.Marks.{Logged}
use Rattle.commit_actor.specs.Journal.{Idle, Closing}
use Rattle.flush_actor.specs.conflicts.Conflicts.{least}
use Rattle.flush_actor.specs.Part.{is_over, has_stopped, is_cut, first_failed, is_moved}
use Rattle.flush_actor.specs.Steps.{is_due, is_due_in, flush_due}
use Rattle.flush_actor.specs.declared.wait.Wait.{Wait}
use Rattle.journal_ring.specs.LogRing.{ring_free}
use Rattle.journal_ring.specs.running.Running.{log_needs}
use Rattle.host_machine.specs.Host.{Turned, submits, build_plan, checkpoint, close_step, in_phase, commit_step, writeback, flush_step, take_step}
use Rattle.host_machine.specs.Model.{Model}
use Rattle.host_machine.specs.State.{Host, Setup}
use Rattle.host_tests.specs.machine.Asking.{GoesOn, HasRoom, HasNoRoom, HasStopped, IsOut, IsNotOut, NoFlushBehind, with_request}
use Rattle.host_tests.specs.machine.Closing.{AreSent, with_phase, FitsLog, PassesLog}
use Rattle.host_tests.proofs.MachineLemmas.Answering.{no_cut, some_cut, none_failed}
use Rattle.host_tests.proofs.MachineLemmas.UnderWay.{no_flush, is_out, is_not_out}

-- ---- what stops them

failed_there : (cs : List Completion) (id : ℕ) → In (Failed id) cs → (elim (first_failed cs) as (λ _. Bool) [ None ↦ false | Some j ↦ true ]) ≡ true
failed_there [] id h = absurd h
failed_there (Failed n ∷ cs) id h = refl
failed_there (Cut ∷ cs) id (inr i) = failed_there cs id i
failed_there (Moved n ∷ cs) id (inr i) = failed_there cs id i
failed_there (Flushed n ∷ cs) id (inr i) = failed_there cs id i
failed_there (Cut ∷ cs) id (inl e) = let z : ⊥ = cc in absurd z
failed_there (Moved n ∷ cs) id (inl e) = let z : ⊥ = cc in absurd z
failed_there (Flushed n ∷ cs) id (inl e) = let z : ⊥ = cc in absurd z

stopped : (cs : List Completion) → In Cut cs ⊎ ((id : ℕ) × In (Failed id) cs) → has_stopped cs ≡ true
stopped cs (inl i) = rw (has_stopped, some_cut cs i) refl
stopped cs (inr (id, i)) = rw (has_stopped, failed_there cs id i) (or-true (list_any is_cut cs))

going : (cs : List Completion) → (In Cut cs → ⊥) → ((id : ℕ) → In (Failed id) cs → ⊥) → has_stopped cs ≡ false
going cs a b = rw (has_stopped, no_cut cs a) (rw (none_failed cs b) refl)

-- no element that is there passes the test
none_any : {X : Type 0} (p : X → Bool) (xs : List X) → ((x : X) → In x xs → p x ≡ false) → list_any p xs ≡ false
none_any p [] h = refl
none_any p (x ∷ xs) h = rw (h x (inl refl)) (none_any p xs (λ y i. h y (inr i)))

-- ---- pages of changed files

none_found : (ps : List CachedPage) (changed : List ℕ) → ((p : CachedPage) → In p ps → In p.birth changed → (p.state ≡ Clean) ⊎ (p.state ≡ Firm))
    → find (λ (p : CachedPage). is_unsent p.state && has changed p.birth) ps ≡ None
none_found [] changed h = refl
none_found (p ∷ ps) changed h = rw own (none_found ps changed (λ q i. h q (inr i)))
  where
    sent : (state : PageState) → (state ≡ Clean) ⊎ (state ≡ Firm) → is_unsent state ≡ false
    sent state (inl e) = rw e refl
    sent state (inr e) = rw e refl

    there : has changed p.birth ≡ true → In p.birth changed
    there e = let x = In-list_any (λ y. y == p.birth) changed e in subst (λ y. In y changed) (eqb-true x.0 p.birth x.2) x.1

    by : (b : Bool) → has changed p.birth ≡ b → (is_unsent p.state && b) ≡ false
    by true e = rw (sent p.state (h p (inl refl) (there e))) refl
    by false e = and-false (is_unsent p.state)

    own : (is_unsent p.state && has changed p.birth) ≡ false
    own = by (has changed p.birth) refl

module _ {T V C R : Type 0} (m : Model T V C R) (u : Setup) where
  module _ (full : Bool) (s : Host V C R) (h : HasStopped s) where
    over : is_over s.journal.flush ≡ true
    over = stopped s.journal.flush.taken h

    pub commit_stops : commit_step m u full s ≡ record { host = s; turn = turns.Idle }
    commit_stops = rw (commit_step, is_over, stopped s.journal.flush.taken h) refl

    pub writeback_stops : (pick : ℕ) → writeback m u full s pick ≡ record { host = s; turn = turns.Idle }
    writeback_stops pick = rw (writeback, is_over, stopped s.journal.flush.taken h) refl

    not_due : flush_due s.journal.flush ≡ false
    not_due = rw (flush_due, is_over, stopped s.journal.flush.taken h) refl

    pub flush_takes : (c : Completion) → ((flush_step m u full s (Some c)).host.journal.flush.taken ≡ s.journal.flush.taken ++ c ∷ []) × ((flush_step m u full s (Some c)).host.journal.flush.requests ≡ s.journal.flush.requests)
    flush_takes c = (rw (flush_step, not_due) refl, rw (flush_step, not_due) refl)

    pub flush_idles : flush_step m u full s None ≡ record { host = s; turn = turns.Idle }
    flush_idles = rw (flush_step, not_due) refl

  -- ---- the commit actor

  module _ (full : Bool) (s : Host V C R) where
    pub goes_on : GoesOn s → commit_step m u full s ≡ in_phase m u full s s.journal.phase
    goes_on g = rw (commit_step, is_over, going s.journal.flush.taken g.powered g.sound) refl

    pub closes : GoesOn s → s.journal.phase ≡ Idle → s.journal.running.wanted ≡ true → s.journal.flush.conflicts.wanted ≡ [] → commit_step m u full s ≡ record { host = with_phase s Closing; turn = turns.Did }
    closes g e w none = goes_on g ∙ rw e (rw (in_phase, w) (rw (in_phase, least, none) refl))

    either_idle : (b : Bool) → in_phase m u full s s.journal.phase ≡ record { host = s; turn = turns.Idle } → (if b then record { host = s; turn = turns.Idle } else in_phase m u full s s.journal.phase) ≡ record { host = s; turn = turns.Idle }
    either_idle true e = refl
    either_idle false e = e

    pub unwanted : s.journal.phase ≡ Idle → s.journal.running.wanted ≡ false → commit_step m u full s ≡ record { host = s; turn = turns.Idle }
    unwanted e w = either_idle (is_over s.journal.flush) (rw e (rw (in_phase, w) refl))

    pub held : (b : ℕ) (more : List ℕ) → s.journal.phase ≡ Idle → s.journal.flush.conflicts.wanted ≡ b ∷ more → commit_step m u full s ≡ record { host = s; turn = turns.Idle }
    held b more e some = either_idle (is_over s.journal.flush) (rw e (rw (in_phase, least, some) (rw (and-false s.journal.running.wanted) refl)))

  module _ (full : Bool) (s : Host V C R) (g : GoesOn s) (e : s.journal.phase ≡ Closing) (sent : AreSent s) where
    closing : commit_step m u full s ≡ (if nat_lt (ring_free s.journal.ring) (log_needs u.writers s.journal.running) then submits m u full s (checkpoint m u s s.journal.ring.homes) else record { host = build_plan m u s; turn = turns.Did })
    closing = goes_on full s g ∙ ap (in_phase m u full s) e ∙ rw (in_phase, close_step, none_found s.pages s.journal.running.changed sent) refl

    pub builds : FitsLog u s → commit_step m u full s ≡ record { host = build_plan m u s; turn = turns.Did }
    builds fits = closing ∙ rw (le-ltb (ring_free s.journal.ring) (log_needs u.writers s.journal.running) fits) refl

    pub sends : PassesLog u s → commit_step m u full s ≡ submits m u full s (checkpoint m u s s.journal.ring.homes)
    sends over = closing ∙ rw (lt-ltb (ring_free s.journal.ring) (log_needs u.writers s.journal.running) over) refl

    pub fits_log : FitsLog u s
        → ((commit_step m u full s).turn ≡ turns.Did)
        × ((commit_step m u full s).host.cuts ≡ s.cuts ++ length s.history ∷ [])
        × ((commit_step m u full s).host.journal.running.number ≡ s.journal.running.number + 1)
        × ((commit_step m u full s).host.journal.flush.requests ≡ s.journal.flush.requests)
        × ((commit_step m u full s).host.volume ≡ s.volume)
    fits_log fits = let own = builds fits in (rw own refl, rw own refl, rw own refl, rw own refl, rw own refl)

    pub limit : HasNoRoom s → PassesLog u s → commit_step m u full s ≡ record { host = s; turn = turns.SessionFull }
    limit most over = sends over ∙ rw (submits, le-leb s.journal.flush.limit (length s.journal.flush.requests) most) refl

  pub room_is : (s out : Host V C R) → HasRoom s → submits m u false s out ≡ record { host = out; turn = turns.Did }
  room_is s out room = rw (submits, lt-leb s.journal.flush.limit (length s.journal.flush.requests) room) refl

  pub queue_is : (s out : Host V C R) → HasRoom s → submits m u true s out ≡ record { host = s; turn = turns.QueueFull }
  queue_is s out room = rw (submits, lt-leb s.journal.flush.limit (length s.journal.flush.requests) room) refl

  pub limit_is : (full : Bool) (s out : Host V C R) → HasNoRoom s → submits m u full s out ≡ record { host = s; turn = turns.SessionFull }
  limit_is full s out most = rw (submits, le-leb s.journal.flush.limit (length s.journal.flush.requests) most) refl

  module _ (s : Host V C R) (g : GoesOn s) (room : HasRoom s) (e : s.journal.phase ≡ Closing) (sent : AreSent s) (over : PassesLog u s) where
    goes_home : (hs : List Logged) → s.journal.ring.homes ≡ hs → commit_step m u false s ≡ record { host = checkpoint m u s hs; turn = turns.Did }
    goes_home hs own = sends false s g e sent over ∙ room_is s (checkpoint m u s s.journal.ring.homes) room ∙ ap (λ (x : List Logged). record { host = checkpoint m u s x; turn = turns.Did }) own

    pub home : (h : Logged) (hs : List Logged) → s.journal.ring.homes ≡ h ∷ hs
        → ((commit_step m u false s).host.journal.flush.notes ≡ s.journal.flush.notes ++ notes.Home h.block ∷ [])
        × ((commit_step m u false s).host.journal.ring.homes ≡ hs)
        × ((commit_step m u false s).host.journal.phase ≡ Closing)
    home h hs own = let is = goes_home (h ∷ hs) own in (rw is refl, rw is (rw own refl), rw is e)

    pub tail : s.journal.ring.homes ≡ []
        → ((commit_step m u false s).host.journal.flush.requests ≡ s.journal.flush.requests ++ record {
          id = length s.journal.flush.requests;
          kind = puts.Put u.journal (u.writers.super (u.sequence + (s.journal.running.number - 1)) s.journal.ring.head);
          ordered = true;
          barrier = true;
        } ∷ [])
        × ((commit_step m u false s).host.journal.ring.used ≡ 0)
        × ((commit_step m u false s).host.journal.phase ≡ Closing)
    tail own = let is = goes_home [] own in (rw is refl, rw is refl, rw is e)

    pub queue : commit_step m u true s ≡ record { host = s; turn = turns.QueueFull }
    queue = sends true s g e sent over ∙ queue_is s s room

  -- ---- the flush actor

  module _ (s : Host V C R) (next : Option Completion) (w : Wait) (id : ℕ) (g : GoesOn s) (i : In w s.journal.flush.waits) (needs : w.need ≡ Some id) (came : In (Moved id) s.journal.flush.taken) (none : NoFlushBehind s id) where
    is_due_now : is_due s.journal.flush w ≡ true
    is_due_now = rw (is_due, is_due_in, needs) (rw (list_any-In (is_moved id) s.journal.flush.taken (Moved id) came (eq-eqb id id refl)) (rw (no_flush s.journal.flush.notes id zero (λ f lt e. none f (omega arith) e)) refl))

    due_now : flush_due s.journal.flush ≡ true
    due_now = rw (flush_due, is_over, going s.journal.flush.taken g.powered g.sound) (list_any-In (is_due s.journal.flush) s.journal.flush.waits w i is_due_now)

    pub due : HasRoom s → flush_step m u false s next ≡ record { host = with_request s notes.Flush puts.Flush true true; turn = turns.Did }
    due room = rw (flush_step, due_now) (room_is s _ room)

    pub due_limit : (full : Bool) → HasNoRoom s → flush_step m u full s next ≡ record { host = s; turn = turns.SessionFull }
    due_limit full most = rw (flush_step, due_now) (limit_is full s _ most)

    pub due_queue : HasRoom s → flush_step m u true s next ≡ record { host = s; turn = turns.QueueFull }
    due_queue room = rw (flush_step, due_now) (queue_is s s room)

  module _ (full : Bool) (s : Host V C R) (h : (w : Wait) → In w s.journal.flush.waits → w.need ≡ None) where
    off : flush_due s.journal.flush ≡ false
    off =
        let none : list_any (is_due s.journal.flush) s.journal.flush.waits ≡ false = none_any (is_due s.journal.flush) s.journal.flush.waits (λ w i. rw (is_due, is_due_in, h w i) refl) in
        rw (flush_due, none) (and-false (not (is_over s.journal.flush)))

    pub taken : (c : Completion) → ((flush_step m u full s (Some c)).host.journal.flush.taken ≡ s.journal.flush.taken ++ c ∷ []) × ((flush_step m u full s (Some c)).host.journal.flush.requests ≡ s.journal.flush.requests)
    taken c = (rw (flush_step, off) refl, rw (flush_step, off) refl)

    pub nothing_due : flush_step m u full s None ≡ record { host = s; turn = turns.Idle }
    nothing_due = rw (flush_step, off) refl

  -- ---- a completion by itself

  pub took : (s : Host V C R) (c : Completion) → (take_step m u s (Some c)).host.journal.flush.taken ≡ s.journal.flush.taken ++ c ∷ []
  took s c = refl

  pub unsent : (s : Host V C R) (next : Option Completion) → (take_step m u s next).host.journal.flush.requests ≡ s.journal.flush.requests
  unsent s None = refl
  unsent s (Some c) = refl

  -- ---- the write-back

  module _ (s : Host V C R) (pick : ℕ) (p : CachedPage) where
    module _ (g : GoesOn s) (own : dirty_page s.pages pick ≡ Some p) where
      pub loose : HasRoom s → IsOut s (slice_index_or s.owners p.block 0)
          → writeback m u false s pick ≡ record { host = with_request (record s { pages = put_page s.pages (marked p Loose) }) (notes.Page p.birth p.index p.version) (puts.Put p.block p.body) false false; turn = turns.Did }
      loose room o = rw (writeback, is_over, going s.journal.flush.taken g.powered g.sound) (rw own (rw (is_out s (slice_index_or s.owners p.block 0) o) (room_is s _ room)))

      pub firm : HasRoom s → IsNotOut s (slice_index_or s.owners p.block 0)
          → writeback m u false s pick ≡ record { host = with_request (record s { pages = put_page s.pages (marked p Firm) }) (notes.Page p.birth p.index p.version) (puts.Put p.block p.body) true false; turn = turns.Did }
      firm room o = rw (writeback, is_over, going s.journal.flush.taken g.powered g.sound) (rw own (rw (is_not_out s (slice_index_or s.owners p.block 0) o) (room_is s _ room)))

      pub page_limit : (full : Bool) → HasNoRoom s → writeback m u full s pick ≡ record { host = s; turn = turns.SessionFull }
      page_limit full most = rw (writeback, is_over, going s.journal.flush.taken g.powered g.sound) (rw own (limit_is full s _ most))

      pub page_queue : HasRoom s → writeback m u true s pick ≡ record { host = s; turn = turns.QueueFull }
      page_queue room = rw (writeback, is_over, going s.journal.flush.taken g.powered g.sound) (rw own (queue_is s s room))

  pub no_page : (full : Bool) (s : Host V C R) (pick : ℕ) → dirty_page s.pages pick ≡ None → writeback m u full s pick ≡ record { host = s; turn = turns.Idle }
  no_page full s pick own = rw (writeback, own) (same (is_over s.journal.flush))
    where
      left : Turned V C R
      left = record { host = s; turn = turns.Idle }

      same : (b : Bool) → (if b then left else left) ≡ left
      same true = refl
      same false = refl
