-- What a host keeps of held blocks and of what sync calls need, where each completion is of a request that was submitted. And a
-- transaction that is through has its commit block.
use Rattle.std.specs.Prelude.{◌≡◌, ⊤, ℕ, zero, suc, ◌+◌, ◌-◌, ◌<◌, ◌≤◌, nat_lt, Bool, true, false, List, [], ◌∷◌, length, map, Option, Some, None, slice_get, slice_index_or, refl}
use Rattle.std.proofs.Common.{sym, ap, subst, ◌∙◌, arith}
use Rattle.std.proofs.lemmas.Bool.{false≢true, lt-ltb, le-ltb, ltb-true}
use Rattle.std.proofs.lemmas.Option.{none-some, same_Some}
use Rattle.log_model.specs.Marks.{Logged}
use Rattle.log_model.specs.Ring.{Ring}
use Rattle.order_model.specs.declared.completion.Completion.{Completion}
use Rattle.order_model.specs.declared.note.Note.TheVariants as notes
use Rattle.order_model.specs.declared.note.Note.{Note}
use Rattle.flush_actor.specs.Part.{FlushPart, at_limit}
use Rattle.flush_actor.specs.Steps.{flush_due}
use Rattle.flush_actor.specs.Waits.{no_wait}
use Rattle.commit_actor.specs.Journal.{Plan, Phase, Idle, Closing, Committing, is_submitted}
use Rattle.crash_laws.specs.laws.Submitting.{IsCommitted}
use Rattle.journal_ring.specs.LogRing.{LogRing}
use Rattle.journal_ring.specs.running.Plan.{Planned}
use Rattle.host_machine.specs.Host.{Turned, checkpoint, plan_sent, commit_step, take_step, flush_step, opened}
use Rattle.host_machine.specs.Model.{Model}
use Rattle.host_machine.specs.State.{Host, Setup}
use Rattle.host_machine.specs.laws.Choices.{either}
use Rattle.host_machine.specs.laws.Contract.{InPhase, session}
use Rattle.host_machine.specs.laws.PlanNotes.{is_plan_note, IsRestOf}
use Rattle.host_machine.specs.runs.Runs.{Event, Call, Commit, WriteBack, FlushStep, TakeStep, stepped}
use Rattle.host_machine.specs.runs.laws.RingFacts.{RingInPhase}
use Rattle.host_machine.proofs.RunsLemmas.Walks.{commit_walk, writeback_walk}
use Rattle.tree_model.specs.declared.call.Reply.{Reply}
use Rattle.volume_steps.specs.Now.{VolumeNow}
use Rattle.minix_host.specs.ByteCalls.{ByteCall}
use Rattle.minix_host.specs.Sessions.{Opening, over, Stands}
use Rattle.system_laws.proofs.AnsweredLemmas.HoldFacts.{HoldFacts}
use Rattle.system_laws.proofs.AnsweredLemmas.HoldParts.{IsOf, PartFacts, NeedFacts, KeepsHolds, parts_of, facts_of, no_need, sent, commit_sent}
use Rattle.system_laws.proofs.AnsweredLemmas.HoldChanges.{taken, closed_over, grown}
use Rattle.system_laws.proofs.AnsweredLemmas.HoldCalls.{no_commit, call_holds}
use Rattle.system_laws.proofs.TransactionSizeLemmas.Hosts.{IsKept}

-- ---- transactions that are through

abbrev through_in : Phase → ℕ → ℕ → Bool
through_in phase n k = elim phase as (λ _. Bool) [ Idle ↦ nat_lt k n | Closing ↦ nat_lt k n | Committing p ↦ nat_lt (k + 1) n ]

below : (phase : Phase) (n k : ℕ) → through_in phase n k ≡ true → k < n
below Idle n k e = ltb-true k n e
below Closing n k e = ltb-true k n e
below (Committing p) n k e = let low = ltb-true (k + 1) n e in omega (arith, low)

runs_on : (phase : Phase) (n : ℕ) → through_in phase n n ≡ false
runs_on Idle n = le-ltb n n (omega arith)
runs_on Closing n = le-ltb n n (omega arith)
runs_on (Committing p) n = le-ltb (n + 1) n (omega arith)

through_more : (phase : Phase) (n k : ℕ) → through_in phase n k ≡ true → nat_lt (k + 1) (n + 1) ≡ true
through_more phase n k e = let low = below phase n k e in lt-ltb (k + 1) (n + 1) (omega (arith, low))

through_all : (phase : Phase) (n k : ℕ) → through_in phase n k ≡ true → nat_lt k n ≡ true
through_all phase n k e = lt-ltb k n (below phase n k e)

plan_note : (n : Note) → is_plan_note n ≡ true → (k : ℕ) → n ≡ notes.Commit k → ⊥
plan_note n e k same = false≢true (sym (ap is_plan_note same) ∙ e)

-- ---- the actors

module _ {T V C R : Type 0} (M : Model T V C R) (u : Setup) (s : Host V C R) (kept : KeepsHolds s.journal) where
  abbrev Now : Host V C R → Type 0
  Now x = KeepsHolds x.journal

  abbrev n : ℕ
  n = s.journal.running.number

  checked : (homes : List Logged) → Now (checkpoint M u s homes)
  checked [] = sent s.journal.flush _ notes.Super (is_submitted s.journal) n (no_commit notes.Super refl) kept
  checked (x ∷ xs) = sent s.journal.flush _ (notes.Home x.block) (is_submitted s.journal) n (no_commit (notes.Home x.block) refl) kept

  -- the next request of a plan, of which this is left
  plan_holds : (p : Plan) (next : Planned) (rest : List Planned) → s.journal.phase ≡ Committing p → 1 ≤ n → length s.journal.flush.notes ≡ length s.journal.flush.requests → IsRestOf (n - 1) (next ∷ rest) → Now (plan_sent M u s p next rest)
  plan_holds p next [] phase some counted is =
      let same : n - 1 + 1 ≡ n = omega (arith, some) in
      commit_sent s.journal.flush _ next.note (n - 1) (length s.journal.flush.requests) (is_submitted s.journal) (λ k. nat_lt k n) n is (sym counted) (λ k e. through_all s.journal.phase n k e)
      (ap (λ (phase : Phase). through_in phase n (n - 1)) phase ∙ le-ltb (n - 1 + 1) n (omega (arith, same)))
      (lt-ltb (n - 1) n (omega (arith, some))) kept
  plan_holds p next (q ∷ qs) phase some counted is =
      sent s.journal.flush _ next.note (λ k. nat_lt (k + 1) n) n (plan_note next.note is.0) (subst (λ (phase : Phase). PartFacts s.journal.flush (λ k. through_in phase n k) n) phase kept)

  commit_holds : (full : Bool) → 1 ≤ n → length s.journal.flush.notes ≡ length s.journal.flush.requests → ((p : Plan) → s.journal.phase ≡ Committing p → IsRestOf (n - 1) p.rest) → Now (commit_step M u full s).host
  commit_holds full some counted rest = commit_walk M u full s Now (record {
    rests = kept;
    closes = grown s.journal.flush (is_submitted s.journal) (λ k. nat_lt k n) n (λ k e. through_all s.journal.phase n k e) kept;
    sends_page = λ p limit free. sent s.journal.flush _ (notes.Page p.birth p.index p.version) (is_submitted s.journal) n (no_commit _ refl) kept;
    checkpoints = λ limit free. checked s.journal.ring.homes;
    builds = closed_over s.journal.flush s.journal.running.touched (is_submitted s.journal) (λ k. nat_lt (k + 1) (n + 1)) n (λ k e. through_more s.journal.phase n k e) some (runs_on s.journal.phase n) kept;
    sends_plan = λ p next more phase is limit free. plan_holds p next more phase some counted (subst (IsRestOf (n - 1)) is (rest p phase));
  })

  take_holds : (next : Option Completion) → ((c : Completion) → next ≡ Some c → IsOf s.journal.flush.notes c) → Now (take_step M u s next).host
  take_holds None timely = kept
  take_holds (Some c) timely = taken s.journal.flush (is_submitted s.journal) n c (timely c refl) kept

  flush_holds : (full : Bool) (next : Option Completion) → ((c : Completion) → next ≡ Some c → IsOf s.journal.flush.notes c) → Now (flush_step M u full s next).host
  flush_holds full next timely =
      either Turns (flush_due s.journal.flush) _ _
      (λ e. either Turns (at_limit s.journal.flush) _ _ (λ e. kept) (λ e. either Turns full _ _ (λ e. kept) (λ e. sent s.journal.flush _ notes.Flush (is_submitted s.journal) n (no_commit notes.Flush refl) kept)))
      (λ e. take_holds next timely)
    where
      Turns : Turned V C R → Type 0
      Turns x = KeepsHolds x.host.journal

-- a completion that a step takes is of a request that was submitted
abbrev pub IsTimely : FlushPart → Event → Type 0
IsTimely f (FlushStep full (Some c)) = IsOf f.notes c
IsTimely f (TakeStep (Some c)) = IsOf f.notes c
IsTimely f other = ⊤

module _ (s : Opening) (log : Ring) where
  abbrev H : Type 0
  H = Host VolumeNow ByteCall Reply

  -- ---- all steps

  module _ (h : H) (k : IsKept s log h) where
    counted : length h.journal.flush.notes ≡ length h.journal.flush.requests
    counted = k.sound.rules.2.images.0.counted

    some : 1 ≤ h.journal.running.number
    some = let closed = k.sound.rules.2.images.0.closed in omega (arith, closed)

    rest_of : (p : Plan) → h.journal.phase ≡ Committing p → IsRestOf (h.journal.running.number - 1) p.rest
    rest_of p is = (subst (InPhase (over s) (Stands s) h.history h.cuts (session (over s) (Stands s) k.sound.rules.0 h) h.journal.running.number k.sound.rules.1) is k.sound.rules.2.images.0.in_phase).rest

    parts_kept : KeepsHolds h.journal → (e : Event) → IsTimely h.journal.flush e → KeepsHolds (stepped (over s) h e).journal
    parts_kept kept (Call full t) timely = call_holds (over s).model (over s).setup full h kept (λ t th at none. k.sound.rules.3.idle t th at none) t
    parts_kept kept (Commit full) timely = commit_holds (over s).model (over s).setup h kept full some counted rest_of
    parts_kept kept (WriteBack full pick) timely =
        writeback_walk (over s).model (over s).setup full h (λ (x : H). KeepsHolds x.journal) kept (λ p ordered limit free. sent h.journal.flush _ (notes.Page p.birth p.index p.version) (is_submitted h.journal) h.journal.running.number (no_commit _ refl) kept) pick
    parts_kept kept (FlushStep full None) timely = flush_holds (over s).model (over s).setup h kept full None (λ c e. absurd (none-some c e))
    parts_kept kept (FlushStep full (Some c)) timely = flush_holds (over s).model (over s).setup h kept full (Some c) (λ d e. subst (IsOf h.journal.flush.notes) (same_Some c d e) timely)
    parts_kept kept (TakeStep None) timely = kept
    parts_kept kept (TakeStep (Some c)) timely = take_holds (over s).model (over s).setup h kept (Some c) (λ d e. subst (IsOf h.journal.flush.notes) (same_Some c d e) timely)

  pub step_holds : (h : H) → IsKept s log h → HoldFacts h.journal → (e : Event) → IsTimely h.journal.flush e → HoldFacts (stepped (over s) h e).journal
  step_holds h k kept e timely = facts_of (stepped (over s) h e).journal (parts_kept h k (parts_of h.journal kept) e timely)

  -- ---- commit blocks

  pub has_commit : (h : H) → IsKept s log h → (k : ℕ) → 1 ≤ k → is_submitted h.journal k ≡ true → (id : ℕ) × (slice_get h.journal.flush.notes id ≡ Some (notes.Commit k))
  has_commit h kept k some through = by h.journal.phase kept.sound.rules.2.ring.in_phase kept.sound.rules.2.images.0.in_phase through
    where
      by : (phase : Phase) → RingInPhase (session (over s) (Stands s) kept.sound.rules.0 h) h.journal.ring kept.sound.rules.1 phase
          → InPhase (over s) (Stands s) h.history h.cuts (session (over s) (Stands s) kept.sound.rules.0 h) h.journal.running.number kept.sound.rules.1 phase
          → through_in phase h.journal.running.number k ≡ true → IsCommitted (session (over s) (Stands s) kept.sound.rules.0 h) k
      by Idle ring images e = let low = ltb-true k h.journal.running.number e in ring.numbers.there k some (omega (arith, low, images))
      by Closing ring images e = let low = ltb-true k h.journal.running.number e in ring.numbers.there k some (omega (arith, low, images))
      by (Committing p) ring images e = let low = ltb-true (k + 1) h.journal.running.number e in let way = images.on_way in ring.numbers.there k some (omega (arith, low, way))

-- ---- a session that is opened

all_idle : {C : Type 0} (programs : List (List C)) (t : ℕ) → slice_index_or (map (λ (p : List C). no_wait) programs) t no_wait ≡ no_wait
all_idle [] t = refl
all_idle (p ∷ ps) zero = refl
all_idle (p ∷ ps) (suc t) = all_idle ps t

pub opened_holds : {T V C R : Type 0} (M : Model T V C R) (u : Setup) (v : V) (ring : LogRing) (zones limit : ℕ) (programs : List (List C)) → HoldFacts (opened M u v ring zones limit programs).journal
opened_holds M u v ring zones limit programs = facts_of (opened M u v ring zones limit programs).journal (record {
  known = record { of = λ c i. absurd i; commits = λ k id e. absurd (none-some (notes.Commit k) e) };
  blocks = record { closed = λ x i. absurd i; wanted = λ b i. absurd i; unflushed = λ x f i j. absurd i };
  awaited = λ going free x id i at j. absurd i;
  needs = λ t. subst (λ w. NeedFacts [] (λ k. nat_lt k 1) w) (sym (all_idle programs t)) (no_need [] (λ k. nat_lt k 1) no_wait refl);
})
