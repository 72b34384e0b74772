-- The laws of `OrderedDev` as the model device has them, each in the shape of the trait's member.
use Rattle.std.specs.Prelude.{◌≡◌, ℕ, ◌+◌, ◌<◌, ◌≤◌, ◌++◌, Bool, true, false, List, [], ◌∷◌, length, Option, None, Some, refl, slice_get, if◌then◌else◌}
use Rattle.std.proofs.Common.{sym, ap, arith, ◌∙◌}
use Rattle.std.proofs.lemmas.Bool.{both_ways, false_from_ne_true}
use Rattle.std.proofs.lemmas.Option.{none-some}
use Rattle.order_model.specs.declared.completion.Completion.{Completion}
use Rattle.order_model.specs.declared.completion.Completion.TheVariants.{Cut}
use Rattle.device_epochs.specs.queue.Queue.{Waiting}
use Rattle.device_epochs.specs.declared.cache.Entry.{Entry}
use Rattle.order_model.specs.declared.command.Command.{Command}
use Rattle.order_model.specs.Device.{IsReceivable, TellsCut, Grows, has_free_slot}
use Rattle.order_model.specs.Steps.{Receives, Transfers, Persists, Answers, OnlyReads, Progresses}
use Rattle.device_epochs.specs.Device.{DeviceState, is_off, fails_next, has_room, received, transferable, tried, transferred, persistable, persisted, next_answer, answered, answered_from, after_read, written, tells_cut, IsSound, seen}
use Rattle.device_epochs.specs.queue.Faults.{is_next, is_number, counted}
use Rattle.device_epochs.specs.laws.Valid.{work_left, IsValid}
use Rattle.device_epochs.specs.laws.StepLaws.{tried-all, Receives-received, Transfers-transferred, Persists-persisted, Answers-answered}
use Rattle.device_epochs.specs.laws.FlushLaws.{Grows-transferred, Grows-persisted}
use Rattle.device_epochs.specs.laws.CountLaws.{never_off}
use Rattle.device_epochs.specs.queue.laws.QueueLaws.{room-counted}
use Rattle.device_epochs.specs.laws.SeenLaws.{power_cut_law, off-nothing, progress_law}
use Rattle.device_epochs.specs.laws.ReachableLaws.{received-valid, transferred-valid, persisted-valid, answered-valid, after_read-valid}

pub receives : (s : DeviceState) (c : Command) → IsValid s → IsReceivable (seen s) c → has_room s ≡ true → IsValid (received s c) × Receives (seen s) c (seen (received s c))
receives s c v r room = (received-valid s c v r room, Receives-received s c)

pub transfers : (s : DeviceState) (pick : ℕ) → IsValid s → pick < length (transferable s) → IsValid (transferred s pick) × Transfers (seen s) (seen (transferred s pick))
transfers s pick v lt = (transferred-valid s pick v, Transfers-transferred s pick v lt)

pub persists : (s : DeviceState) (pick : ℕ) → IsValid s → pick < length (persistable s) → IsValid (persisted s pick) × Persists (seen s) (seen (persisted s pick))
persists s pick v lt = (persisted-valid s pick v, Persists-persisted s v pick lt)

pub answers : (s : DeviceState) → IsValid s → IsValid (answered s) × Answers (seen s) (next_answer s) (seen (answered s))
answers s v = (answered-valid s v, Answers-answered s)

faults_read-le : (n : ℕ) (b : Bool) → n ≤ (if b then n + 1 else n)
faults_read-le n true = omega arith
faults_read-le n false = omega arith

pub reads : (s : DeviceState) (block : ℕ) → IsValid s → IsValid (after_read s) × OnlyReads (seen s) (seen (after_read s))
reads s block v = (after_read-valid s v, (refl, faults_read-le s.faults (is_next s.bad_read)))

pub power_cut : (s : DeviceState) → IsValid s → TellsCut (seen s) × ((seen s).off ≡ true → (has_room s ≡ false) × (length (transferable s) ≡ 0) × (length (persistable s) ≡ 0))
power_cut s v = (power_cut_law s v, off-nothing s)

pub free_slot : (s : DeviceState) → IsValid s → has_room s ≡ has_free_slot (seen s)
free_slot s v = room-counted (is_off s) (length s.queue.waiting) s.queue.depth s.transfers_made (length s.took) v.counts.queued

pub monotone : (s : DeviceState) (pick : ℕ) → IsValid s → Grows (seen s) (seen (transferred s pick)) × Grows (seen s) (seen (persisted s pick))
monotone s pick v = (Grows-transferred s pick, Grows-persisted s v pick)

pub progress : (s : DeviceState) → IsValid s → (seen s).off ≡ false → (seen s).failed ≡ false → Progresses (seen s) (work_left s) (has_room s) (length (transferable s)) (length (persistable s))
progress s v on fine = progress_law s v on fine

pub on : (s : DeviceState) → IsValid s → s.cut_at ≡ None → (seen s).off ≡ false
on s v never = never_off s never

-- ---- no call changes when the power goes off

cut_at-tried : (s : DeviceState) (o : Option Waiting) → (tried s o).cut_at ≡ s.cut_at
cut_at-tried s o = tried-all (λ n. n.cut_at ≡ s.cut_at) s o refl (λ w e t. refl) (λ w e n. refl)

cut_at-written : (s : DeviceState) (o : Option Entry) → (written s o).cut_at ≡ s.cut_at
cut_at-written s None = refl
cut_at-written s (Some e) = refl

told_cut : (s : DeviceState) (b : Bool) → (if b then record s { sent = s.sent ++ Cut ∷ []; told = true } else s).cut_at ≡ s.cut_at
told_cut s true = refl
told_cut s false = refl

cut_at-answered_from : (s : DeviceState) (cs : List Completion) → (answered_from s cs).cut_at ≡ s.cut_at
cut_at-answered_from s [] = told_cut s (tells_cut s)
cut_at-answered_from s (c ∷ cs) = refl

pub stays_received : (s : DeviceState) (c : Command) → s.cut_at ≡ None → (received s c).cut_at ≡ None
stays_received s c never = never

pub stays : (s : DeviceState) (n : ℕ) → s.cut_at ≡ None
    → ((transferred s n).cut_at ≡ None) × ((persisted s n).cut_at ≡ None) × ((answered s).cut_at ≡ None) × ((after_read s).cut_at ≡ None)
stays s n never =
    (cut_at-tried s (slice_get (transferable s) n) ∙ never, cut_at-written s (slice_get (persistable s) n) ∙ never, cut_at-answered_from s s.waiting ∙ never, never)

-- ---- a device of which nothing fails

pub works : (s : DeviceState) → IsValid s → IsSound s → (s.failed ≡ false) × (is_next s.bad_read ≡ false)
works s v sound = (
  false_from_ne_true s.failed (λ t. none-some s.transfers_made (sym sound.fails ∙ v.faults.number t)),
  ap is_next sound.misreads,
)

pub sound_received : (s : DeviceState) (c : Command) → IsSound s → IsSound (received s c)
sound_received s c sound = record { fails = sound.fails; misreads = sound.misreads }

sound_transferred : (s : DeviceState) (n : ℕ) → IsSound s → IsSound (transferred s n)
sound_transferred s n sound =
    tried-all IsSound s (slice_get (transferable s) n) sound
    (λ w e t. record { fails = sound.fails; misreads = sound.misreads })
    (λ w e f. record { fails = sound.fails; misreads = sound.misreads })

sound_written : (s : DeviceState) (o : Option Entry) → IsSound s → IsSound (written s o)
sound_written s None sound = sound
sound_written s (Some e) sound = record { fails = sound.fails; misreads = sound.misreads }

told_sound : (s : DeviceState) (b : Bool) → IsSound s → IsSound (if b then record s { sent = s.sent ++ Cut ∷ []; told = true } else s)
told_sound s true sound = record { fails = sound.fails; misreads = sound.misreads }
told_sound s false sound = sound

sound_answered_from : (s : DeviceState) (cs : List Completion) → IsSound s → IsSound (answered_from s cs)
sound_answered_from s [] sound = told_sound s (tells_cut s) sound
sound_answered_from s (c ∷ cs) sound = record { fails = sound.fails; misreads = sound.misreads }

pub stays_sound : (s : DeviceState) (n : ℕ) → IsSound s → IsSound (transferred s n) × IsSound (persisted s n) × IsSound (answered s) × IsSound (after_read s)
stays_sound s n sound =
    (sound_transferred s n sound, sound_written s (slice_get (persistable s) n) sound, sound_answered_from s s.waiting sound, record { fails = sound.fails; misreads = ap counted sound.misreads })

no_fault-tried : (s : DeviceState) (o : Option Waiting) → IsSound s → (seen (tried s o)).faults ≡ s.faults
no_fault-tried s o sound =
    tried-all (λ n. (seen n).faults ≡ s.faults) s o refl
    (λ w e t. absurd (both_ways (fails_next s) (ap (λ at. is_number at (s.transfers_made + 1)) sound.fails) t))
    (λ w e n. refl)

pub no_fault : (s : DeviceState) (n : ℕ) → IsValid s → IsSound s → ((seen (transferred s n)).faults ≡ (seen s).faults) × ((seen (after_read s)).faults ≡ (seen s).faults)
no_fault s n v sound = (
  no_fault-tried s (slice_get (transferable s) n) sound,
  ap (λ (b : Bool). if b then s.faults + 1 else s.faults) (ap is_next sound.misreads),
)
