-- Laws of the end of a recovery: a flush is answered, or a command has failed, and never both.
use Rattle.std.specs.Prelude.{◌≡◌, ◌≢◌, ◌↔◌, ℕ, zero, suc, ◌+◌, ◌-◌, ◌<◌, ◌≤◌, ◌==◌, Bool, true, false, List, [], ◌∷◌, ◌++◌, length, take, Option, Some, slice_get, IsTrue, Result, Ok, Err, IfOk, refl}
use Rattle.std.specs.Option.{option_and_then}
use Rattle.std.proofs.Common.{sym, ap, ◌∙◌, subst, inl, inr, ⊎_elim, arith}
use Rattle.std.proofs.lemmas.Bool.{cases_Bool, cases_lt, false≢true, true≢false}
use Rattle.std.proofs.lemmas.Option.{same_Some}
use Rattle.blk_base.specs.Members.{In}
use Rattle.blk_base.specs.laws.Members.{In-append_left, In-slice_get, slice_get-length}
use Rattle.order_model.specs.declared.command.Command.{Command}
use Rattle.order_model.specs.declared.completion.Completion.{Completion}
use Rattle.order_model.specs.declared.completion.Completion.TheVariants as completion
use Rattle.order_model.specs.Received.{all_parts, command_of_part, ids_of, IsFlush}
use Rattle.order_model.specs.Device.{Seen, KeepsFlush, Completes, TellsFailure, TellsCut, completed, completion_id}
use Rattle.log_model.specs.Marks.{Logged}
use Rattle.journal_replay.specs.declared.end.End.{End}
use Rattle.journal_replay.specs.declared.end.End.TheVariants as ends
use Rattle.journal_blocks.specs.declared.super_block.JournalSuper.{JournalSuper}
use Rattle.journal_blocks.specs.Super.{super_of}
use Rattle.journal_blocks.specs.Log.{body_at}
use Rattle.journal_replay.specs.declared.recovery.Recovered.{Recovered}
use Rattle.journal_replay.specs.declared.fault.RecoverFault.{RecoverFault}
use Rattle.journal_replay.specs.declared.fault.RecoverFault.TheVariants.{DeviceFailed, NoMemory}
use Rattle.journal_replay.specs.Commands.{for_block, write, home_writes, ending, sends, flush, commands}
use Rattle.journal_replay.specs.Driving.{end_of, is_running, is_failed}
use Rattle.journal_replay.specs.Endings.{IsFlushAnswered, FailsBetween}
use Rattle.journal_replay.specs.code.Sending.{KeepsAll}
use Rattle.journal_replay.specs.code.Runs.{EndsAs}
use Rattle.journal_replay.specs.laws.Sends.{command_of_part-there}
use Rattle.journal_replay.specs.laws.Plans.{only_flush, flush_is_last, length-sends}
use Rattle.journal_replay.specs.laws.Ends.{not_failed, ends-in}
use Rattle.journal_replay.specs.laws.Whole.{IsSilent, front_taken, fresh_silent, flushed_in, failed_in, super_place}

-- ---- the commands of a recovery by their number

-- each but the flush has one part, at its own number
own_part : (hs : List Logged) (superblock : Logged) (first n k : ℕ) → k ≤ length hs → command_of_part (home_writes first hs ++ ending n superblock) k ≡ k
own_part [] superblock first n zero le = refl
own_part [] superblock first n (suc k) le = absurd (omega arith)
own_part (h ∷ hs) superblock first n zero le = refl
own_part (h ∷ hs) superblock first n (suc k) le =
    let c = write first h (length hs == 0) in
    let one : length c.parts ≡ 1 = refl in
    command_of_part-there c (home_writes (first + 1) hs ++ ending n superblock) (suc k) (omega (arith, one))
    ∙ (ap (λ (i : ℕ). i + 1) (own_part hs superblock (first + 1) n (suc k - length c.parts) (omega (arith, one, le))) ∙ (omega (arith, one)))

last_command : (hs : List Logged) (superblock : Logged) (first n : ℕ) (c : Command) → slice_get (home_writes first hs ++ ending n superblock) (suc (length hs)) ≡ Some c → flush (n + 1) ≡ c
last_command [] superblock first n c e = same_Some (flush (n + 1)) c e
last_command (h ∷ hs) superblock first n c e = last_command hs superblock (first + 1) n c e

flush_id : (id n : ℕ) → In id (ids_of (flush n)) → id ≡ n
flush_id id n (inl e) = sym e
flush_id id n (inr none) = absurd none

-- ---- a flush that was answered, and a failure

-- an id does not complete twice
both_told : (s : Seen) (id : ℕ) → Completes s → In (completion.Flushed id) (completed s) → In (completion.Failed id) (completed s) → ⊥
both_told s id law f g =
    let a = In-slice_get (completed s) (completion.Flushed id) f in
    let b = In-slice_get (completed s) (completion.Failed id) g in
    let same = law.once a.0 b.0 id (ap (λ (o : Option Completion). option_and_then completion_id o) a.2) (ap (λ (o : Option Completion). option_and_then completion_id o) b.2) in
    let one = same_Some (completion.Flushed id) (completion.Failed id) (sym a.2 ∙ (ap (slice_get (completed s)) same ∙ b.2)) in
    absurd (cc)

-- a device that took all of these, and answered the flush, has not failed
pub flushed_fine : (hs : List Logged) (base : ℕ) (y : List ℕ) (s : Seen) (f : ℕ) → KeepsFlush s → Completes s → TellsFailure s → s.took ≡ sends hs (for_block base y)
    → In (completion.Flushed f) s.sent → s.failed ≡ false
flushed_fine hs base y s f keeps law fails whole answered =
    let told = In-append_left s.sent s.waiting (completion.Flushed f) answered in
    let taken = law.flushed f told in
    let at = only_flush hs (for_block base y) taken.0 f (subst (λ cs. IsFlush cs taken.0 f) whole taken.1) in
    elim (cases_Bool s.failed) [
      | inl failed ↦
          let t = fails.told failed in
          let u = (fails.known t.0 t.1).1 in
          let is : slice_get (sends hs (for_block base y)) u.number ≡ Some u.command = subst (λ cs. slice_get cs u.number ≡ Some u.command) whole u.taken in
          let few = slice_get-length (sends hs (for_block base y)) u.number u.command is in
          let size = length-sends hs (for_block base y) in
          ⊎_elim
          (λ early.
          let there = super_place hs base y in
          let own : command_of_part s.took u.number ≡ u.number = ap (λ cs. command_of_part cs u.number) whole ∙ own_part hs (for_block base y) 0 (length hs) u.number (omega arith) in
          let below : u.number < length (all_parts s.took) = subst (λ cs. u.number < length (all_parts cs)) (sym whole) (omega (arith, there, early)) in
          let place = at.0 in
          absurd (u.unmoved u.number own (law.kept u.number (keeps taken.0 f u.number told taken.1 below (omega (arith, own, early, place))))))
          (λ late.
          let last : u.number ≡ suc (length hs) = omega (arith, few, size, late) in
          let c = last_command hs (for_block base y) 0 (length hs) u.command (subst (λ n. slice_get (sends hs (for_block base y)) n ≡ Some u.command) last is) in
          let id = flush_id t.0 (length hs + 1) (subst (λ (x : Command). In t.0 (ids_of x)) (sym c) u.named) in
          let same : t.0 ≡ f = id ∙ sym at.1 in
          absurd (both_told s f law told (subst (λ i. In (completion.Failed i) (completed s)) same t.1)))
          (cases_lt u.number (length hs + 1))
      | inr fine ↦ fine
    ]

-- ---- how a run ended

module _ (hs : List Logged) (base : ℕ) (y : List ℕ) (s : Seen) (k : ℕ) (keeps : KeepsFlush s) (law : Completes s) (fails : TellsFailure s) (took : s.took ≡ take k (sends hs (for_block base y))) where
  -- where the flush was answered, all was sent
  all_sent : (f : ℕ) → In (completion.Flushed f) s.sent → s.took ≡ sends hs (for_block base y)
  all_sent f answered =
      let taken = law.flushed f (In-append_left s.sent s.waiting (completion.Flushed f) answered) in
      took ∙ flush_is_last hs (for_block base y) k taken.0 f (subst (λ cs. IsFlush cs taken.0 f) took taken.1)

  -- it ended by the flush where this was answered
  flush_ended : (e : End) → end_of s ≡ e → (f : ℕ) → In (completion.Flushed f) s.sent → e ≡ ends.Flushed
  flush_ended ends.Running is f answered = absurd (ends-in s.sent (completion.Flushed f) refl answered (ap is_running is))
  flush_ended ends.Flushed is f answered = refl
  flush_ended (ends.Failed id) is f answered =
      let failed = (fails.known id (In-append_left s.sent s.waiting (completion.Failed id) (failed_in id s.sent is))).0 in
      absurd (true≢false (sym failed ∙ flushed_fine hs base y s f keeps law fails (all_sent f answered) answered))

  pub flush_is_answered : (end_of s ≡ ends.Flushed) ↔ IsFlushAnswered (sends hs (for_block base y)) s
  flush_is_answered = (
    λ e.
        let f = flushed_in s.sent e in
        let taken = law.flushed f.0 (In-append_left s.sent s.waiting (completion.Flushed f.0) f.1) in
        let whole = all_sent f.0 f.1 in
        let at = only_flush hs (for_block base y) taken.0 f.0 (subst (λ cs. IsFlush cs taken.0 f.0) whole taken.1) in
        let size = length-sends hs (for_block base y) in
        let a = at.0 in
        let place : taken.0 ≡ length (sends hs (for_block base y)) - 1 = omega (arith, a, size) in
        record {
          all = whole;
          id = f.0;
          flush = subst (λ (n : ℕ). IsFlush (sends hs (for_block base y)) n f.0) place (subst (λ cs. IsFlush cs taken.0 f.0) whole taken.1);
          answered = f.1;
        },
    λ a. flush_ended (end_of s) refl a.id a.answered,
  )

  -- a transfer failed exactly where it ended by that
  failed_by : (e : End) → end_of s ≡ e → s.waiting ≡ [] → s.failed ≡ is_failed e
  failed_by ends.Running is none = not_failed s fails none (ap is_running is)
  failed_by ends.Flushed is none = let f = flushed_in s.sent is in flushed_fine hs base y s f.0 keeps law fails (all_sent f.0 f.1) f.1
  failed_by (ends.Failed id) is none = (fails.known id (In-append_left s.sent s.waiting (completion.Failed id) (failed_in id s.sent is))).0

  pub failed_is : (e : End) → e ≡ end_of s → s.waiting ≡ [] → s.failed ≡ is_failed e
  failed_is e is none = failed_by e (sym is) none

-- ---- from a device that took nothing

-- none of its transfers failed
pub fresh_fine : (s : Seen) → s.took ≡ [] → s.off ≡ false → Completes s → TellsFailure s → TellsCut s → s.failed ≡ false
fresh_fine s none on c f t =
    elim (cases_Bool s.failed) [
      | inl failed ↦ let told = f.told failed in absurd (subst (In (completion.Failed told.0)) (fresh_silent s none on c f t) told.1)
      | inr fine ↦ fine
    ]

-- a failure that is told behind it is of a command that it took since
pub fails_between : (old new : Seen) (id : ℕ) → old.failed ≡ false → old.took ≡ [] → IsSilent old → TellsFailure new → end_of new ≡ ends.Failed id → FailsBetween old new id
fails_between old new id fine none silent law e =
    let sent = failed_in id new.sent e in
    let known = law.known id (In-append_left new.sent new.waiting (completion.Failed id) sent) in
    record {
      before = fine;
      failed = known.0;
      told = (new.sent, ap (λ (cs : List Completion). cs ++ new.sent) (sym silent.sent), sent);
      command = known.1;
      own = let size = ap (λ (cs : List Command). length cs) none in omega (arith, size);
    }

pub end_from : (hs : List Logged) (base : ℕ) (y : List ℕ) (old new : Seen) (left : List Command) (e : End) → old.took ≡ [] → old.failed ≡ false → IsSilent old
    → KeepsAll old (sends hs (for_block base y)) new left → KeepsFlush new → Completes new → TellsFailure new → e ≡ end_of new → new.waiting ≡ [] → EndsAs hs base y old new e
end_from hs base y old new left e none fine silent kept keeps law fails is empty =
    let took = front_taken old new (sends hs (for_block base y)) left none kept in
    record {
      flushed = subst (λ (x : End). (x ≡ ends.Flushed) ↔ IsFlushAnswered (sends hs (for_block base y)) new) (sym is) (flush_is_answered hs base y new (length new.took) keeps law fails took);
      failure = λ id f. fails_between old new id fine none silent fails (sym is ∙ f);
      failed_is = failed_is hs base y new (length new.took) keeps law fails took e is empty;
    }

-- ---- what is answered of it

module _ {xs cs : List Command} (same : xs ≡ cs) (s : Seen) (e : End) (answered : (e ≡ ends.Flushed) ↔ IsFlushAnswered xs s) where
  pub ended_true : e ≡ ends.Flushed → IsTrue true ↔ IsFlushAnswered cs s
  ended_true is = subst (λ ys. IsTrue true ↔ IsFlushAnswered ys s) same (λ t. answered.0 is, λ a. refl)

  pub ended_false : e ≡ ends.Running → IsTrue false ↔ IsFlushAnswered cs s
  ended_false is = subst (λ ys. IsTrue false ↔ IsFlushAnswered ys s) same
      (λ t. absurd (false≢true t), λ a. absurd (let both : ◌≡◌ {A = End} ends.Running ends.Flushed = sym is ∙ answered.1 a in cc))

-- no other answer than a failure leaves a device of which a transfer failed
pub others_fine : {X S : Type 0} (failed : S → Bool) (r : Result X RecoverFault) (old new : S) → failed old ≡ false → IfOk r (λ x. failed new ≡ false)
    → ((f : RecoverFault) → r ≡ Err f → ((id : ℕ) → f ≢ DeviceFailed id) → (f ≡ NoMemory) × (new ≡ old)) → ((id : ℕ) → r ≢ Err (DeviceFailed id)) → failed new ≡ false
others_fine failed (Ok x) old new before fine refused none = fine
others_fine failed (Err f) old new before fine refused none = ap failed (refused f refl (λ id e. none id (ap Err e))).1 ∙ before

-- what was read before changes nothing of it
pub fails_before : (first old new : Seen) (id : ℕ) → old ≡ record first { faults = old.faults } → FailsBetween old new id → FailsBetween first new id
fails_before first old new id read f = record {
  before = sym (ap (λ (x : Seen). x.failed) read) ∙ f.before;
  failed = f.failed;
  told = (f.told.0, f.told.1 ∙ ap (λ (x : Seen). x.sent ++ f.told.0) read, f.told.2);
  command = f.command;
  own = subst (λ (n : ℕ). n ≤ f.command.number) (ap (λ (x : Seen). length x.took) read) f.own;
}

pub flushed_read : {E : Type 0} (base : ℕ) (image now : List (List ℕ)) (new : Seen) (r : Result Recovered E) → now ≡ image → IfOk r (λ x. IsTrue x.ended ↔ IsFlushAnswered (commands base now) new)
    → IfOk r (λ x. (s : JournalSuper) → super_of (body_at image base) ≡ Ok s → s.start ≢ 0 → IsTrue x.ended ↔ IsFlushAnswered (commands base image) new)
flushed_read base image now new (Ok x) same h = λ s is some. subst (λ (i : List (List ℕ)). IsTrue x.ended ↔ IsFlushAnswered (commands base i) new) same h
flushed_read base image now new (Err f) same h = tt
