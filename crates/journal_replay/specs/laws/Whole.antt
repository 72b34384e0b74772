-- Laws of a whole recovery: wherever it stops the recovered image is the same, and a complete one leaves it.
use Rattle.std.specs.Prelude.{◌≡◌, ℕ, ◌+◌, ◌<◌, ◌≤◌, false, List, [], ◌∷◌, ◌++◌, length, take, Some, slice_get, refl}
use Rattle.std.proofs.Common.{sym, ap, ◌∙◌, subst, inl, inr, ⊎_elim, arith, length-append}
use Rattle.std.proofs.lemmas.Bool.{false≢true, cases_Bool}
use Rattle.std.proofs.lemmas.List.{take_at}
use Rattle.std.proofs.lemmas.Option.{none-some}
use Rattle.blk_base.specs.Streams.{Rose}
use Rattle.blk_base.specs.Members.{In}
use Rattle.blk_base.specs.laws.Members.{In-append_left, slice_get-length}
use Rattle.order_model.specs.declared.command.Command.{Command}
use Rattle.order_model.specs.declared.completion.Completion.{Completion}
use Rattle.order_model.specs.declared.completion.Completion.TheVariants as completion
use Rattle.order_model.specs.Received.{all_parts, part_at, IsFlush}
use Rattle.order_model.specs.Device.{Seen, IsSurface, KeepsEpochOrder, KeepsFlush, Completes, TellsFailure, TellsCut, IsPartKept, IsQuiet}
use Rattle.order_model.proofs.Received.{all_parts-append}
use Rattle.journal_replay.specs.declared.end.End.TheVariants as ends
use Rattle.log_model.specs.Marks.{Logged}
use Rattle.journal_replay.specs.Recovered.{recovered, log_mark, IsRecoverable, AreBetween}
use Rattle.journal_replay.specs.Commands.{for_block, sends, commands, home_writes, ending}
use Rattle.journal_replay.specs.laws.Sends.{parts-home_writes, sent_part}
use Rattle.journal_replay.specs.Driving.{end_after, end_of}
use Rattle.journal_replay.specs.code.Runs.{RunKeeps, FlushedLast, HasLog}
use Rattle.journal_replay.specs.code.Sending.{CanSend, KeepsAll}
use Rattle.journal_replay.specs.laws.Plans.{only_flush, flush_is_last, ends_in_flush, can_take, length-homes}
use Rattle.journal_replay.specs.laws.Attempts.{IsWritten, commands-full, homes_are, untouched, written, recovered-after, attempt_keeps, attempt_between, In-homes, AreHomes, IsAfter}
use Rattle.journal_replay.specs.code.Scans.{after}

silent_by : (s : Seen) → s.took ≡ [] → s.off ≡ false → Completes s → TellsFailure s → TellsCut s → (cs : List Completion) → s.sent ++ s.waiting ≡ cs → cs ≡ []
silent_by s none on c f t [] e = refl
silent_by s none on c f t (completion.Moved id ∷ cs) e =
    let m = c.moved id (subst (In (completion.Moved id)) (sym e) (inl refl)) in
    absurd (none-some m.1 (ap (λ cs. part_at cs m.0) (sym none) ∙ m.2))
silent_by s none on c f t (completion.Flushed id ∷ cs) e =
    let m = c.flushed id (subst (In (completion.Flushed id)) (sym e) (inl refl)) in
    absurd (subst (λ cs. IsFlush cs m.0 id) none m.1)
silent_by s none on c f t (completion.Failed id ∷ cs) e =
    let m = f.known id (subst (In (completion.Failed id)) (sym e) (inl refl)) in
    absurd (none-some m.1.command (ap (λ (cs : List Command). slice_get cs m.1.number) (sym none) ∙ m.1.taken))
silent_by s none on c f t (completion.Cut ∷ cs) e =
    absurd (false≢true (sym on ∙ t.told.0 (subst (In completion.Cut) (sym e) (inl refl))))

-- a device that took nothing has told nothing
pub fresh_silent : (s : Seen) → s.took ≡ [] → s.off ≡ false → Completes s → TellsFailure s → TellsCut s → s.sent ++ s.waiting ≡ []
fresh_silent s none on c f t = silent_by s none on c f t (s.sent ++ s.waiting) refl

both_empty : {X : Type 0} (xs ys : List X) → xs ++ ys ≡ [] → (xs ≡ []) × (ys ≡ [])
both_empty [] ys e = (refl, e)
both_empty (x ∷ xs) ys e = absurd (cc)

pub record IsSilent (s : Seen) : Type 0 where
  pub sent : s.sent ≡ []
  pub waiting : s.waiting ≡ []

pub is_silent : (s : Seen) → s.took ≡ [] → s.off ≡ false → Completes s → TellsFailure s → TellsCut s → IsSilent s
is_silent s none on c f t = let e = both_empty s.sent s.waiting (fresh_silent s none on c f t) in record { sent = e.0; waiting = e.1 }

pub commands_are : (base : ℕ) (image : List (List ℕ)) (hs : List Logged) (y : List ℕ) → HasLog base image hs y → sends hs (for_block base y) ≡ commands base image
commands_are base image hs y log = rw (log.homes, log.super) (sym (commands-full base image log.journal log.read log.full))

-- the commands of a recovery can be sent
pub can_send : (base : ℕ) (s : Seen) (hs : List Logged) (y : List ℕ) → IsSurface s → s.took ≡ [] → IsRecoverable base s.surface → HasLog base s.surface hs y → length s.surface + 2 ≤ s.limit → CanSend s (sends hs (for_block base y))
can_send base s hs y law none can log room =
    let few = length-homes (log_mark base log.journal s.surface) 0 base in
    let size = ap length log.homes in
    let within = can.within in
    let below : (h : Logged) → In h hs → h.block < length s.surface =
    λ h i. let set = In-homes (log_mark base log.journal s.surface) 0 base h (subst (In h) log.homes i) in
    let lt = can.below log.journal log.read h.block h.body set in omega (arith, lt, within) in
    let all = can_take hs (for_block base y) (length s.surface) s.limit below within (omega (arith, few, size, within, room)) in
    rw (none, sym law.blocks) all

-- what is sent of a list is its front
pub front_taken : (old new : Seen) (all left : List Command) → old.took ≡ [] → KeepsAll old all new left → new.took ≡ take (length new.took) all
front_taken old new all left none k =
    let whole : new.took ++ left ≡ all = k.all ∙ ap (λ cs. cs ++ all) none in
    sym (ap (take (length new.took)) (sym whole) ∙ take_at new.took left (length new.took) refl)

failed_stays : (id : ℕ) (cs : List Completion) → end_after (ends.Failed id) cs ≡ ends.Flushed → ⊥
failed_stays id [] e = cc
failed_stays id (c ∷ cs) e = failed_stays id cs e

-- a flush that was answered
pub flushed_in : (cs : List Completion) → end_after ends.Running cs ≡ ends.Flushed → (id : ℕ) × In (completion.Flushed id) cs
flushed_in [] e = absurd (cc)
flushed_in (completion.Moved id ∷ cs) e = let r = flushed_in cs e in (r.0, inr r.1)
flushed_in (completion.Flushed id ∷ cs) e = (id, inl refl)
flushed_in (completion.Failed id ∷ cs) e = absurd (failed_stays id cs e)
flushed_in (completion.Cut ∷ cs) e = let r = flushed_in cs e in (r.0, inr r.1)

pub super_place : (hs : List Logged) (base : ℕ) (y : List ℕ) → length hs < length (all_parts (sends hs (for_block base y)))
super_place hs base y =
    let all = ap length (all_parts-append (home_writes 0 hs) (ending (length hs) (for_block base y))) ∙ length-append (all_parts (home_writes 0 hs)) (all_parts (ending (length hs) (for_block base y))) in
    let size = parts-home_writes hs 0 in
    omega (arith, all, size)

-- the superblock's part is kept, so it is what the journal's block holds
super_kept : (base : ℕ) (hs : List Logged) (y : List ℕ) (s : Seen) → IsSurface s → s.took ≡ sends hs (for_block base y) → ((x : ℕ) → x < length (all_parts s.took) → IsPartKept s x) → IsWritten s base
super_kept base hs y s law whole kept =
    let p = kept (length hs) (subst (λ cs. length hs < length (all_parts cs)) (sym whole) (super_place hs base y)) in
    let block : p.part.block ≡ base =
    ⊎_elim (λ h. let lt = slice_get-length hs (length hs) _ h in absurd (omega arith)) (λ h. h.1)
    (sent_part hs (for_block base y) (length hs) p.part (subst (λ cs. part_at cs (length hs) ≡ Some p.part) whole p.taken)) in
    let held = subst (λ b. slice_get s.origins b ≡ Some (Some p.origin)) block p.held in
    let w = law.written base p.origin held in
    record { place = p.origin; part = w.0; origin = held; taken = w.1; block = w.2; body = w.3 }

-- A complete run: the flush was answered. So the device is quiet, and the medium is the recovered image.
pub complete : (base k : ℕ) (s : Seen) (hs : List Logged) (y : List ℕ) → IsSurface s → KeepsEpochOrder s → KeepsFlush s → Completes s
    → IsRecoverable base s.base → HasLog base s.base hs y → s.took ≡ take k (sends hs (for_block base y)) → end_of s ≡ ends.Flushed
    → (s.surface ≡ recovered base s.base) × IsQuiet s
complete base k s hs y law order flush completes can log took e =
    let f = flushed_in s.sent e in
    let taken = completes.flushed f.0 (In-append_left s.sent s.waiting (completion.Flushed f.0) f.1) in
    let whole : s.took ≡ sends hs (for_block base y) = took ∙ flush_is_last hs (for_block base y) k taken.0 f.0 (subst (λ cs. IsFlush cs taken.0 f.0) took taken.1) in
    let at = only_flush hs (for_block base y) taken.0 f.0 (subst (λ cs. IsFlush cs taken.0 f.0) whole taken.1) in
    let last = subst (λ cs. FlushedLast cs (length hs + 1)) (sym whole) (ends_in_flush hs (for_block base y)) in
    let own = only_flush hs (for_block base y) last.at (length hs + 1) (subst (λ cs. IsFlush cs last.at (length hs + 1)) whole last.flush) in
    let kept : (x : ℕ) → x < length (all_parts s.took) → IsPartKept s x =
    λ x lt. flush taken.0 f.0 x (In-append_left s.sent s.waiting (completion.Flushed f.0) f.1) taken.1 lt (let a = last.last x lt in let b = at.0 in let c = own.0 in omega (arith, a, b, c)) in
    let super = super_kept base hs y s law whole kept in
    let m = log_mark base log.journal s.base in
    let are = subst (AreHomes m base) (sym log.homes) (homes_are m base (can.below log.journal log.read)) in
    let after = written m base hs y s k law order are took super in (
      recovered-after base s.base s.surface log.journal law.blocks can.within log.read log.full (subst (λ z. IsAfter m base z s.base s.surface) log.super after),
      record {
        kept = kept;
        flushed = λ j id g. let q = only_flush hs (for_block base y) j id (subst (λ cs. IsFlush cs j id) whole g) in
            subst (λ i. In (completion.Flushed i) s.sent) (let a = at.1 in let b = q.1 in omega (arith, a, b)) f.1;
      },
    )

-- ---- from a device that took nothing

base_is : (old new : Seen) (all left : List Command) → IsSurface old → old.took ≡ [] → KeepsAll old all new left → new.base ≡ old.surface
base_is old new all left law none k = k.base ∙ sym (untouched old law none)

-- wherever it stops, the medium recovers to the same image
pub attempt_from : (base : ℕ) (old new : Seen) (hs : List Logged) (y : List ℕ) (left : List Command) → IsSurface old → old.took ≡ [] → IsRecoverable base old.surface → HasLog base old.surface hs y
    → KeepsAll old (sends hs (for_block base y)) new left → IsSurface new → KeepsEpochOrder new → recovered base new.surface ≡ recovered base old.surface
attempt_from base old new hs y left law none can log k now order =
    let same = base_is old new (sends hs (for_block base y)) left law none k in
    let took = front_taken old new (sends hs (for_block base y)) left none k ∙ ap (take (length new.took)) (commands_are base old.surface hs y log ∙ ap (commands base) (sym same)) in
    attempt_keeps base (length new.took) new now order (subst (IsRecoverable base) (sym same) can) took ∙ ap (recovered base) same

-- and each block is as it was or as in that image
pub between_from : (base : ℕ) (old new : Seen) (hs : List Logged) (y : List ℕ) (left : List Command) → IsSurface old → old.took ≡ [] → IsRecoverable base old.surface → HasLog base old.surface hs y
    → KeepsAll old (sends hs (for_block base y)) new left → IsSurface new → KeepsEpochOrder new → AreBetween old.surface (recovered base old.surface) new.surface
between_from base old new hs y left law none can log k now order =
    let same = base_is old new (sends hs (for_block base y)) left law none k in
    let took = front_taken old new (sends hs (for_block base y)) left none k ∙ ap (take (length new.took)) (commands_are base old.surface hs y log ∙ ap (commands base) (sym same)) in
    subst (λ (image : List (List ℕ)). AreBetween image (recovered base image) new.surface) same (attempt_between base (length new.took) new now order (subst (IsRecoverable base) (sym same) can) took)

-- where the flush was answered, the medium is the recovered image
pub whole_from : (base : ℕ) (old new : Seen) (hs : List Logged) (y : List ℕ) (left : List Command) → IsSurface old → old.took ≡ [] → IsRecoverable base old.surface → HasLog base old.surface hs y
    → KeepsAll old (sends hs (for_block base y)) new left → IsSurface new → KeepsEpochOrder new → KeepsFlush new → Completes new → end_of new ≡ ends.Flushed
    → (new.surface ≡ recovered base old.surface) × IsQuiet new
whole_from base old new hs y left law none can log k now order flush completes e =
    let same = base_is old new (sends hs (for_block base y)) left law none k in
    let r = complete base (length new.took) new hs y now order flush completes (subst (IsRecoverable base) (sym same) can) (subst (λ image. HasLog base image hs y) (sym same) log) (front_taken old new (sends hs (for_block base y)) left none k) e in
    (r.0 ∙ ap (recovered base) same, r.1)

flushed_stays : (id : ℕ) (cs : List Completion) → end_after ends.Flushed cs ≡ ends.Failed id → ⊥
flushed_stays id [] e = cc
flushed_stays id (c ∷ cs) e = flushed_stays id cs e

first_failure : (i id : ℕ) (cs : List Completion) → end_after (ends.Failed i) cs ≡ ends.Failed id → i ≡ id
first_failure i id [] e = cc
first_failure i id (c ∷ cs) e = first_failure i id cs e

-- a failure that was told
pub failed_in : (id : ℕ) (cs : List Completion) → end_after ends.Running cs ≡ ends.Failed id → In (completion.Failed id) cs
failed_in id [] e = absurd (cc)
failed_in id (completion.Moved i ∷ cs) e = inr (failed_in id cs e)
failed_in id (completion.Flushed i ∷ cs) e = absurd (flushed_stays id cs e)
failed_in id (completion.Failed i ∷ cs) e = inl (ap completion.Failed (first_failure i id cs e))
failed_in id (completion.Cut ∷ cs) e = inr (failed_in id cs e)

-- where it gave up at a command that failed, the count of faults rose
pub fault_from : (old new : Seen) (xs ys : List Command) (id : ℕ) → IsSilent old → TellsFailure old → TellsFailure new → RunKeeps old xs new ys → end_of new ≡ ends.Failed id → Rose old.faults new.faults
fault_from old new xs ys id silent before after k e =
    let told = after.known id (In-append_left new.sent new.waiting (completion.Failed id) (failed_in id new.sent e)) in
    let fine : old.failed ≡ false =
    elim (cases_Bool old.failed) [
      | inl failed ↦ let t = before.told failed in let none : old.sent ++ old.waiting ≡ [] = rw (silent.sent, silent.waiting) refl in absurd (subst (In (completion.Failed t.0)) none t.1)
      | inr fine ↦ fine
    ] in
    ⊎_elim (λ same. absurd (false≢true (sym fine ∙ (sym same ∙ told.0)))) (λ rose. rose) k.failed
