-- Why calls end, from what the headline says of the host, of its completions and of the device.
use Rattle.std.proofs.Common.{◌≡◌, ◌≢◌, ◌⊎◌, ℕ, zero, suc, true, false, List, [], ◌∷◌, ◌++◌, take, Some, refl, sym, ap, subst, ◌∙◌, inl, inr, arith}
use Rattle.std.proofs.lemmas.Bool.{cases_Bool, true≢false}
use Rattle.std.proofs.lemmas.Option.{none-some, same_Some}
use Rattle.blk_base.specs.Members.{In}
use Rattle.blk_base.specs.laws.Members.{In-take, In-append_left}
use Rattle.order_model.specs.declared.completion.Completion.{Completion}
use Rattle.order_model.specs.declared.completion.Completion.TheVariants as completions
use Rattle.tree_model.specs.declared.call.Call.{Call}
use Rattle.tree_model.specs.declared.call.Reply.{Reply}
use Rattle.tree_model.specs.declared.call.Reply.TheVariants as replies
use Rattle.flush_actor.specs.Kinds.{is_begun}
use Rattle.flush_actor.specs.Part.{first_failed}
use Rattle.host_machine.specs.State.{Ending, Answered, Down, ReadOnly, SessionFull}
use Rattle.minix_host.specs.Calls.{kind_of}
use Rattle.call_sessions.specs.promises.Entries.{EndsAt}
use Rattle.session_grammar.specs.declared.session_script.SessionScript.{SessionScript}
use Rattle.session_core.specs.CallEnds.{IsFirstFailed, HasGoneOff, IsAtLimit, IsTreesReply, AtItsEnd, AtItsBegin, HasCause, RanFreely, EndsByTree}
use Rattle.session_core.specs.Core.{EndState, opening_of}
use Rattle.session_core.specs.Headline.{HeadlineOn}
use Rattle.session_core.specs.declared.report.SessionReport.{SessionReport}
use Rattle.session_core.proofs.Headlines.{took}

-- ---- the first failed one of a list

failed_in : (cs : List Completion) (id : ℕ) → first_failed cs ≡ Some id → In (completions.Failed id) cs
failed_in [] id e = absurd (none-some id e)
failed_in (completions.Failed i ∷ cs) id e = inl (ap completions.Failed (same_Some i id e))
failed_in (completions.Moved i ∷ cs) id e = inr (failed_in cs id e)
failed_in (completions.Flushed i ∷ cs) id e = inr (failed_in cs id e)
failed_in (completions.Cut ∷ cs) id e = inr (failed_in cs id e)

-- that of a front is that of the whole
front_failed : (n : ℕ) (cs : List Completion) (id : ℕ) → first_failed (take n cs) ≡ Some id → first_failed cs ≡ Some id
front_failed zero cs id e = absurd (none-some id e)
front_failed (suc n) [] id e = absurd (none-some id e)
front_failed (suc n) (completions.Failed i ∷ cs) id e = e
front_failed (suc n) (completions.Moved i ∷ cs) id e = front_failed n cs id e
front_failed (suc n) (completions.Flushed i ∷ cs) id e = front_failed n cs id e
front_failed (suc n) (completions.Cut ∷ cs) id e = front_failed n cs id e

-- ---- a reply is Ok or another one

ok_or_not : (r : Reply) → (r ≡ replies.Ok) ⊎ (r ≢ replies.Ok)
ok_or_not replies.Ok = inl refl
ok_or_not (replies.Bytes bytes) = inr (λ e. cc e)
ok_or_not (replies.Names names) = inr (λ e. cc e)
ok_or_not (replies.Stat dir size links) = inr (λ e. cc e)
ok_or_not replies.NotFound = inr (λ e. cc e)
ok_or_not replies.Exists = inr (λ e. cc e)
ok_or_not replies.NotDir = inr (λ e. cc e)
ok_or_not replies.IsDir = inr (λ e. cc e)
ok_or_not replies.NotEmpty = inr (λ e. cc e)
ok_or_not replies.NameTooLong = inr (λ e. cc e)
ok_or_not replies.TooManyLinks = inr (λ e. cc e)
ok_or_not replies.TooBig = inr (λ e. cc e)
ok_or_not replies.NoSpace = inr (λ e. cc e)
ok_or_not replies.NoInode = inr (λ e. cc e)
ok_or_not replies.BadPath = inr (λ e. cc e)
ok_or_not replies.Invalid = inr (λ e. cc e)
ok_or_not (replies.ReadOnly id) = inr (λ e. cc e)
ok_or_not replies.Down = inr (λ e. cc e)
ok_or_not replies.SessionFull = inr (λ e. cc e)

module _ (s : SessionScript) (end : EndState) (r : SessionReport) (is : HeadlineOn s end r) where
  abbrev taken : List Completion
  taken = end.host.journal.flush.taken

  -- what was taken was sent, and so completed
  was_sent : (c : Completion) → In c taken → In c end.dev.sent
  was_sent c here = took is.taken.0 taken end.dev.sent c is.taken.1 here

  has_completed : (c : Completion) → In c end.dev.sent → In c (end.dev.sent ++ end.dev.waiting)
  has_completed c here = In-append_left end.dev.sent end.dev.waiting c here

  -- the power went
  pub gone_off : (i t : ℕ) (c : Call) → EndsAt end.host.history i t c Down → HasGoneOff s end.dev
  gone_off i t c there =
      let why = is.causes.down i t c there in
      let told = was_sent completions.Cut (In-take why.0 taken completions.Cut why.3) in
      let power = is.device.power in
      record { steps = sym is.device.setup.cut_at ∙ power.cause.0 (power.told.0 (has_completed completions.Cut told)); told = told }

  -- a request failed
  pub failed_first : (i t id : ℕ) (c : Call) → EndsAt end.host.history i t c (ReadOnly id) → IsFirstFailed s end.dev id
  failed_first i t id c there =
      let why = is.causes.read_only i t id c there in
      let first = front_failed why.0 taken id why.3 in
      let sent = front_failed is.taken.0 end.dev.sent id (subst (λ cs. first_failed cs ≡ Some id) is.taken.1 first) in
      let failure = is.device.failure in
      let known = failure.known id (has_completed (completions.Failed id) (failed_in end.dev.sent id sent)) in
      record { transfer = sym is.device.setup.fail_at ∙ failure.number known.0; first = sent; unmoved = known.1 }

  pub at_limit : (i t : ℕ) (c : Call) → EndsAt end.host.history i t c SessionFull → IsAtLimit s end
  at_limit i t c there = (is.causes.session_full i t c there).2

  -- an answer is the tree's, where the call ends, or where it began
  by_tree : (i t : ℕ) (c : Call) (reply : Reply) → EndsAt end.host.history i t c (Answered reply) → IsTreesReply (opening_of s) end.host i t c reply
  by_tree i t c reply there = by (cases_Bool (is_begun (kind_of c))) (ok_or_not reply)
    where
      here : (is_begun (kind_of c) ≡ true → reply ≢ replies.Ok) → IsTreesReply (opening_of s) end.host i t c reply
      here other = AtItsEnd (is.follows.answers i t c reply there other)

      before : is_begun (kind_of c) ≡ true → reply ≡ replies.Ok → IsTreesReply (opening_of s) end.host i t c reply
      before kind ok =
          let was = is.answered i t c (subst (λ x. EndsAt end.host.history i t c (Answered x)) ok there, kind) in
          AtItsBegin was.place was.began (ok ∙ sym (is.follows.begins was.place t c was.began.begins).1)

      by : (is_begun (kind_of c) ≡ true) ⊎ (is_begun (kind_of c) ≡ false) → (reply ≡ replies.Ok) ⊎ (reply ≢ replies.Ok) → IsTreesReply (opening_of s) end.host i t c reply
      by (inr plain) ok = here (λ begun. absurd (true≢false (sym begun ∙ plain)))
      by (inl begun) (inl ok) = before begun ok
      by (inl begun) (inr other) = here (λ e. other)

  -- so each call ends for its cause
  pub ends_caused : (i t : ℕ) (c : Call) (e : Ending Reply) → EndsAt end.host.history i t c e → HasCause s end i t c e
  ends_caused i t c (Answered reply) there = by_tree i t c reply there
  ends_caused i t c Down there = gone_off i t c there
  ends_caused i t c (ReadOnly id) there = failed_first i t id c there
  ends_caused i t c SessionFull there = at_limit i t c there

  -- and by the tree alone where nothing stops the session
  freely : RanFreely s end → (i t : ℕ) (c : Call) (e : Ending Reply) → HasCause s end i t c e → EndsByTree (opening_of s) end.host i t c e
  freely free i t c (Answered reply) cause = record { reply = reply; answered = refl; tree = cause }
  freely free i t c Down cause = absurd (none-some end.dev.steps (sym free.cut ∙ cause.steps))
  freely free i t c (ReadOnly id) cause = absurd (none-some end.dev.transfers_made (sym free.fail ∙ cause.transfer))
  freely free i t c SessionFull cause = let less = free.limit in absurd (omega (arith, cause, less))

  pub ends_by_tree : RanFreely s end → (i t : ℕ) (c : Call) (e : Ending Reply) → EndsAt end.host.history i t c e → EndsByTree (opening_of s) end.host i t c e
  ends_by_tree free i t c e there = freely free i t c e (ends_caused i t c e there)
