-- What the device's code needs to know where it moves a command, or writes an entry.
use Rattle.std.specs.Prelude.{◌≡◌, ℕ, ◌+◌, ◌<◌, ◌≤◌, ◌==◌, not, nat_lt, Bool, true, false, List, [], ◌∷◌, ◌++◌, length, Option, Some, None, is_some, slice_get, slice_set, drop, replicate, Result, Ok, Err, IsOk, OnOk, IsTrue, if◌then◌else◌, refl, suc}
use Rattle.std.specs.List.{All, list_any}
use Rattle.std.specs.Option.{option_map, option_map_or}
use Rattle.std.proofs.Common.{sym, ap, subst, ◌∙◌, inl, inr, ⊎_elim, arith}
use Rattle.std.proofs.lemmas.Bool.{cases_Bool, cases_lt, both_ways, and_parts, or_parts, or_cases, or_left, or_right, ltb-true, false≢true, not-true}
use Rattle.std.proofs.lemmas.Option.{none-some, same_Some}
use Rattle.blk_base.specs.Members.{In}
use Rattle.blk_base.specs.laws.Members.{In-All, filter_all, none-list_any, list_any-none, slice_get-In, slice_get-in_range, slice_get-length, In-slice_get}
use Rattle.order_model.specs.declared.part.Part.{Part}
use Rattle.order_model.specs.declared.command.Command.{Command}
use Rattle.order_model.specs.declared.completion.Completion.{Completion}
use Rattle.order_model.specs.declared.history.Transfer.{Transfer}
use Rattle.order_model.specs.declared.history.DeviceRecord.{DeviceRecord}
use Rattle.order_model.specs.declared.completion.Completion.TheVariants.{Moved, Flushed, Failed, Cut}
use Rattle.order_model.specs.Device.{is_ordered, IsQuiet}
use Rattle.device_epochs.specs.laws.FlushLaws.{quiet_is_empty, empty_is_quiet}
use Rattle.order_model.specs.Received.{all_parts, part_at, first_part, completions_of, failures_of, transfers}
use Rattle.order_model.proofs.Received.{first_part-next, first_part-le}
use Rattle.device_epochs.specs.queue.Queue.{QueueState, Waiting, eligible, picked, departed, arrived}
use Rattle.device_epochs.specs.declared.cache.Entry.{Entry}
use Rattle.device_epochs.specs.declared.device.DeviceSetup.{DeviceSetup}
use Rattle.device_epochs.specs.Cache.{oldest, entries, put_all, without_entry}
use Rattle.device_epochs.specs.queue.laws.QueueLaws.{part_at-lt, parts_of-waiting}
use Rattle.device_epochs.specs.Device.{DeviceState, is_off, fails_next, has_room, may_transfer, has_stopped, transferable, tried, transferred, performed, failed_on, persistable, persisted, written, body_at, received, answered, answered_from, tells_cut, seen, opened}
use Rattle.device_epochs.specs.laws.Valid.{IsValid}
use Rattle.device_epochs.specs.queue.Facts.{QueueFacts, with_waiting}
use Rattle.device_epochs.specs.declared.device.EpochDevice.TheInside.{Inside}
use Rattle.device_epochs.specs.code.Fields.{state_of, IsDevice}
use Rattle.device_epochs.specs.code.Helpers.{IsPlain, EndsAt, starts_with_flush, flush_waits, is_held}
use Rattle.device_epochs.specs.queue.Told.{is_flushed}
use Rattle.device_epochs.specs.queue.laws.QueueLaws.{length-without, eligible-waits, eligible_clear, apart, number-lt}
use Rattle.device_epochs.specs.queue.laws.EpochLaws.{flush-ordered, waiting-taken, ordered-first}
use Rattle.device_epochs.specs.laws.StepLaws.{transferable-waits, tried-fails, tried-moves, persistable-In}
use Rattle.device_epochs.specs.laws.StateLaws.{numbered, pending-is, none-pending, queue-facts, faults-lt}
use Rattle.device_epochs.specs.laws.StateLaws as pending
use Rattle.device_epochs.specs.laws.BoundLaws.{took-le, all_parts-le, moved-fits, cache-fits, completions-fit, failures-fit, steps-lt_transferable, steps-lt_persistable, epoch-le}
use Rattle.device_epochs.specs.laws.ReachableLaws.{transferred-valid, written-valid}
use Rattle.device_epochs.proofs.Searches.{filter_none}

-- ---- a flush that may go is the only command that may

same_number : (took : List Command) (q : QueueState) (w v : Waiting) → QueueFacts took q → In w q.waiting → In v q.waiting → w.number ≡ v.number → w.command ≡ v.command
same_number took q w v f h i e =
    same_Some w.command v.command (sym (f.queued w h) ∙ ap (slice_get took) e ∙ f.queued v i)

-- where an ORDERED command may go, no other one may
alone : (took : List Command) (q : QueueState) (w v : Waiting) → QueueFacts took q → In w (eligible q.waiting) → In v (eligible q.waiting) → is_ordered w.command.priority ≡ true → w.command ≡ v.command
alone took q w v f h i o =
    let first = eligible-waits q.waiting w h in
    let second = eligible-waits q.waiting v i in
    let le = ordered-first q.waiting w v h o second in
    elim (cases_lt w.number v.number) [
      | inl lt ↦
          let a = apart w v lt (eligible_clear q.waiting v w i first) in
          absurd (both_ways (is_ordered w.command.priority) a.first o)
      | inr ge ↦ same_number took q w v f first second (omega arith)
    ]

flush_alone : (s : DeviceState) → IsValid s → s.failed ≡ false → (w v : Waiting) → In w (eligible s.queue.waiting) → In v (eligible s.queue.waiting) → is_some w.command.flush ≡ true → w.command ≡ v.command
flush_alone s valid fine w v h i t =
    let facts = queue-facts s valid fine in
    let taken = waiting-taken s.took s.queue w facts (eligible-waits s.queue.waiting w h) in
    alone s.took s.queue w v facts h i (flush-ordered (length s.base) s.limit s.took w.command valid.commands taken t)

abbrev flushes : Command → Bool
flushes c = is_some c.flush

first_flushes : (o : Option Waiting) → option_map_or flushes (option_map (λ (w : Waiting). w.command) o) false ≡ true → (f : Waiting) × (o ≡ Some f) × (is_some f.command.flush ≡ true)
first_flushes None e = absurd (false≢true e)
first_flushes (Some f) e = (f, refl, e)

flushes_first : (o : Option Waiting) (f : Waiting) → o ≡ Some f → is_some f.command.flush ≡ true → option_map_or flushes (option_map (λ (w : Waiting). w.command) o) false ≡ true
flushes_first o f e t = rw e t

-- what may go where no flush waits for the cache
may_go : (s : DeviceState) → IsValid s → s.failed ≡ false → flush_waits s ≡ false → (w : Waiting) → In w (eligible s.queue.waiting) → may_transfer s w ≡ true
may_go s valid fine n w h =
    elim (cases_Bool (length s.cache == 0)) [
      | inl t ↦ or_right (not (is_some w.command.flush)) (length s.cache == 0) t
      | inr d ↦
          elim (cases_Bool (is_some w.command.flush)) [
            | inl t ↦
                let at = In-slice_get (eligible s.queue.waiting) w h in
                let first = slice_get-in_range (eligible s.queue.waiting) 0 (let lt = at.1 in omega arith) in
                let same = flush_alone s valid fine w first.0 h (slice_get-In (eligible s.queue.waiting) 0 first.0 first.1) t in
                let starts : starts_with_flush s.queue ≡ true =
                flushes_first (picked s.queue 0) first.0 first.1 (subst (λ (c : Command). is_some c.flush ≡ true) same t) in
                let not_starts : starts_with_flush s.queue ≡ false = rw d at n in
                absurd (both_ways (starts_with_flush s.queue) not_starts starts)
            | inr f ↦ or_left (not (is_some w.command.flush)) (length s.cache == 0) (rw f refl)
          ]
    ]

pub transferable_all : (s : DeviceState) → IsValid s → has_stopped s ≡ false → flush_waits s ≡ false → transferable s ≡ eligible s.queue.waiting
transferable_all s valid goes n =
    let fine = (or_parts (is_off s) s.failed goes).1 in
    let all = filter_all (may_transfer s) (eligible s.queue.waiting) (may_go s valid fine n) in
    rw goes all

pub transferable_stopped : (s : DeviceState) → has_stopped s ≡ true → transferable s ≡ []
transferable_stopped s stopped = rw stopped refl

pub transferable_waits : (s : DeviceState) → IsValid s → flush_waits s ≡ true → transferable s ≡ []
transferable_waits s valid t =
    elim (cases_Bool (has_stopped s)) [
      | inl stopped ↦ rw stopped refl
      | inr goes ↦
          let fine = (or_parts (is_off s) s.failed goes).1 in
          let p = and_parts (not (length s.cache == 0)) (starts_with_flush s.queue) t in
          let first = first_flushes (picked s.queue 0) p.1 in
          let there = slice_get-In (eligible s.queue.waiting) 0 first.0 first.1 in
          let none : (w : Waiting) → In w (eligible s.queue.waiting) → may_transfer s w ≡ false =
          λ w h.
          let same = flush_alone s valid fine first.0 w there h first.2 in
          let is : is_some w.command.flush ≡ true = subst (λ (c : Command). is_some c.flush ≡ true) same first.2 in
          elim (cases_Bool (length s.cache == 0)) [
            | inl empty ↦ absurd (false≢true (rw empty at p.0))
            | inr some ↦ rw (is, some) refl
          ] in
          rw goes (filter_none (may_transfer s) (eligible s.queue.waiting) none)
    ]

-- ---- moving a command

-- the two answers of the queue at one place
pub picked_both : (o : Option Waiting) (n : ℕ) (c : Command) → Some n ≡ option_map (λ (w : Waiting). w.number) o → Some c ≡ option_map (λ (w : Waiting). w.command) o → o ≡ Some (record { number = n; command = c })
picked_both None n c e f = absurd (none-some n (sym e))
picked_both (Some w) n c e f =
    let a : w.number ≡ n = same_Some w.number n (sym e) in
    let b : w.command ≡ c = same_Some w.command c (sym f) in
    let first : w ≡ record { number = n; command = w.command } = ap (λ (m : ℕ). let v : Waiting = record { number = m; command = w.command } in v) a in
    let second : w ≡ record { number = n; command = c } = first ∙ ap (λ (d : Command). let v : Waiting = record { number = n; command = d } in v) b in
    ap Some second

pub picked_none : (o : Option Waiting) → None ≡ option_map (λ (w : Waiting). w.number) o → o ≡ None
picked_none None e = refl
picked_none (Some w) e = absurd (none-some w.number e)

-- the command at place pick may go, and there is room for all of it
pub record CanMove (s : DeviceState) (pick : ℕ) (w : Waiting) : Type 0 where
  pub picked : picked s.queue pick ≡ Some w
  pub there : slice_get (transferable s) pick ≡ Some w
  pub within : pick < length (transferable s)
  pub number : w.number < length s.took
  pub places : first_part s.took w.number + length w.command.parts ≤ s.limit
  pub moved : length s.moved + length w.command.parts ≤ s.limit
  pub cache : length s.cache + length w.command.parts ≤ s.limit + s.limit
  pub blocks : All (λ (p : Part). p.block < length s.surface) w.command.parts
  pub plain : IsPlain s.cache
  pub last : EndsAt s.epoch s.cache
  pub completions : length s.waiting + length (completions_of w.command) ≤ s.limit
  pub steps : s.steps < s.limit + s.limit
  pub made : s.transfers_made < s.limit
  pub epoch : s.epoch ≤ s.limit + s.limit
  pub failures : length s.waiting + length (failures_of w.command) ≤ s.limit
  pub faults : s.faults ≤ 2
  pub moves : fails_next s ≡ false → transferred s pick ≡ performed s w
  pub fails : fails_next s ≡ true → transferred s pick ≡ failed_on s w
  pub valid : IsValid (transferred s pick)

pub is_plain : (s : DeviceState) → IsValid s → IsPlain s.cache
is_plain s v = record { unique = v.cache.unique; sorted = v.cache.sorted }

part_within : (s : DeviceState) → IsValid s → (w : Waiting) → In w s.queue.waiting → (p : Part) → In p w.command.parts → p.block < length s.surface
part_within s v w waits p i =
    let at = In-slice_get w.command.parts p i in
    let there = parts_of-waiting s.took (with_waiting s.queue v.pending) w at.0 p v.queue (pending.waits s v w waits) at.2 in
    let within = v.commands.within p (slice_get-In (all_parts s.took) (first_part s.took w.number + at.0) p there.0) in
    let blocks = v.medium.blocks in
    omega arith

pub can_move : (s : DeviceState) (pick : ℕ) (w : Waiting) → IsValid s → has_stopped s ≡ false → flush_waits s ≡ false → picked s.queue pick ≡ Some w → CanMove s pick w
can_move s pick w v goes n at =
    let there : slice_get (transferable s) pick ≡ Some w = ap (λ (l : List Waiting). slice_get l pick) (transferable_all s v goes n) ∙ at in
    let h = slice_get-In (transferable s) pick w there in
    let waits = transferable-waits s w h in
    let next = v.queue.next in
    let below = number-lt s.queue.next s.queue.waiting w (numbered s v) waits in
    let parts = first_part-next s.took w.number w.command (v.queue.queued w (pending.waits s v w waits)) in
    let upto = first_part-le s.took (suc w.number) in
    let all = all_parts-le s v in
    let completions = completions-fit s w v h in
    let entries = cache-fits s w v h in
    record {
      picked = at;
      there = there;
      within = slice_get-length (transferable s) pick w there;
      number = omega arith;
      places = omega arith;
      moved = moved-fits s w v h;
      cache = omega arith;
      blocks = In-All (λ (p : Part). p.block < length s.surface) w.command.parts (part_within s v w waits);
      plain = is_plain s v;
      last = record { within = λ e i. (v.cache.entries e i).past };
      completions = omega arith;
      steps = steps-lt_transferable s w v h;
      made =
          let one = length-without s.queue.next s.queue.waiting w (numbered s v) waits in
          let queued = v.counts.queued in
          let took = took-le s v in
          omega (arith, one, queued, took);
      epoch = epoch-le s v;
      failures = let failures = failures-fit s w v h in omega arith;
      faults = faults-lt s v;
      moves = λ n. ap (tried s) there ∙ tried-moves s w n;
      fails = λ t. ap (tried s) there ∙ tried-fails s w t;
      valid = transferred-valid s pick v;
    }

-- ---- writing an entry

-- the entry at place pick may be written, and its places are there
pub record CanWrite (s : DeviceState) (pick : ℕ) (e : Entry) : Type 0 where
  pub there : slice_get (persistable s) pick ≡ Some e
  pub within : pick < length (persistable s)
  pub surface : e.block < length s.surface
  pub origins : e.block < length s.origins
  pub part : e.part < length (all_parts s.took)
  pub few : e.part < s.limit
  pub steps : s.steps < s.limit + s.limit
  pub writes : persisted s pick ≡ written s (Some e)
  pub valid : IsValid (written s (Some e))

pub persistable_on : (s : DeviceState) → is_off s ≡ false → persistable s ≡ oldest s.cache
persistable_on s on = rw on refl

pub can_write : (s : DeviceState) (pick : ℕ) (e : Entry) → IsValid s → is_off s ≡ false → slice_get (oldest s.cache) pick ≡ Some e → CanWrite s pick e
can_write s pick e v on at =
    let there : slice_get (persistable s) pick ≡ Some e = ap (λ (l : List Entry). slice_get l pick) (persistable_on s on) ∙ at in
    let h = slice_get-In (persistable s) pick e there in
    let i = (persistable-In s e h).2 in
    let entry = v.cache.entries e i in
    let within = v.commands.within entry.part (slice_get-In (all_parts s.took) e.part entry.part entry.taken) in
    let block = entry.block in
    let blocks = v.medium.blocks in
    let places = v.medium.places in
    let place = part_at-lt s.took e.part entry.part entry.taken in
    let all = all_parts-le s v in
    let k = In-slice_get s.cache e i in
    let some : 0 < length s.cache = let lt = k.1 in omega arith in
    record {
      there = there;
      within = slice_get-length (persistable s) pick e there;
      surface = omega arith;
      origins = omega arith;
      part = place;
      few = omega arith;
      steps = steps-lt_persistable s v some;
      writes = ap (written s) there;
      valid = written-valid s e v h;
    }

-- ---- by the fields of the device

pub transferable_free : (s : DeviceState) → IsValid s → is_held s ≡ false → transferable s ≡ eligible s.queue.waiting
transferable_free s v n = let p = or_parts (has_stopped s) (flush_waits s) n in transferable_all s v p.0 p.1

pub transferable_held : (s : DeviceState) → IsValid s → is_held s ≡ true → transferable s ≡ []
transferable_held s v t =
    ⊎_elim (transferable_stopped s) (transferable_waits s v) (or_cases (has_stopped s) (flush_waits s) t)

pub can_move_from : (d : Inside) (s : DeviceState) (pick n : ℕ) (c : Command) → IsDevice d → state_of d ≡ s → false ≡ is_held s
    → Some n ≡ option_map (λ (w : Waiting). w.number) (picked d.queue pick) → Some c ≡ option_map (λ (w : Waiting). w.command) (picked d.queue pick)
    → CanMove (state_of d) pick (record { number = n; command = c })
can_move_from d s pick n c i e free a b =
    let none : is_held (state_of d) ≡ false = subst (λ (t : DeviceState). is_held t ≡ false) (sym e) (sym free) in
    let p = or_parts (has_stopped (state_of d)) (flush_waits (state_of d)) none in
    can_move (state_of d) pick (record { number = n; command = c }) i.valid p.0 p.1 (picked_both (picked d.queue pick) n c a b)

-- the state once the command was moved
pub moved_to : (s : DeviceState) (w : Waiting) (first : ℕ) (moved : List Transfer) (waiting : List Completion) (queue : QueueState) (cache : List Entry) (epoch : ℕ)
    → first ≡ first_part s.took w.number → moved ≡ s.moved ++ transfers s.epoch first w.command.parts
    → waiting ≡ s.waiting ++ completions_of w.command → queue ≡ departed s.queue (Some w)
    → cache ≡ put_all (entries s.epoch first w.command.parts) s.cache
    → epoch ≡ (if w.command.barrier then s.epoch + 1 else s.epoch)
    → record s { moved = moved; waiting = waiting; queue = queue; cache = cache; epoch = epoch; steps = s.steps + 1; transfers_made = s.transfers_made + 1 } ≡ performed s w
moved_to s w first moved waiting queue cache epoch e m wa q c ep =
    rw (m, wa, q, c, ep, e) refl

-- the state once the command failed
pub failed_to : (s : DeviceState) (w : Waiting) (waiting : List Completion) (queue : QueueState)
    → waiting ≡ s.waiting ++ failures_of w.command → queue ≡ departed s.queue (Some w)
    → record s { waiting = waiting; queue = queue; steps = s.steps + 1; transfers_made = s.transfers_made + 1; failed = true; faults = s.faults + 1 } ≡ failed_on s w
failed_to s w waiting queue wa q =
    rw (wa, q) refl

pub can_write_from : (d : Inside) (s : DeviceState) (pick : ℕ) (e : Entry) → IsDevice d → state_of d ≡ s → false ≡ is_off s
    → Some e ≡ slice_get (oldest d.cache.items) pick → CanWrite (state_of d) pick e
can_write_from d s pick e i q on at =
    can_write (state_of d) pick e i.valid (subst (λ (t : DeviceState). is_off t ≡ false) (sym q) (sym on)) (sym at)

-- the state once the entry was written
pub written_to : (s : DeviceState) (e : Entry) (body : List ℕ) (surface : List (List ℕ)) (cache : List Entry)
    → option_map (λ (p : Part). p.body) (part_at s.took e.part) ≡ Some body → surface ≡ slice_set s.surface e.block body
    → cache ≡ without_entry e s.cache
    → record s { surface = surface; origins = slice_set s.origins e.block (Some e.part); cache = cache; steps = s.steps + 1 } ≡ written s (Some e)
written_to s e body surface cache b u c =
    let same : body_at s.took e.part [] ≡ body = at_part (part_at s.took e.part) b in
    rw (u, c, ← same) refl
  where
    at_part : (o : Option Part) → option_map (λ (p : Part). p.body) o ≡ Some body → option_map_or (λ (p : Part). p.body) o [] ≡ body
    at_part None h = absurd (none-some body h)
    at_part (Some p) h = same_Some p.body body h

-- ---- where nothing can be moved or written

pub no_step : (n pick : ℕ) → n ≤ pick → (IsTrue false → pick < n) × (pick < n → IsTrue false)
no_step n pick le = (λ h. absurd (false≢true h), λ lt. absurd (omega arith))

pub a_step : (n pick : ℕ) → pick < n → (IsTrue true → pick < n) × (pick < n → IsTrue true)
a_step n pick lt = (λ _. lt, λ _. refl)

pub held-le : (s : DeviceState) (pick : ℕ) → IsValid s → true ≡ is_held s → length (transferable s) ≤ pick
held-le s pick v t = let n : length (transferable s) ≡ 0 = ap length (transferable_held s v (sym t)) in omega arith

past : {X : Type 0} (xs : List X) (i : ℕ) → slice_get xs i ≡ None → length xs ≤ i
past xs i e =
    elim (cases_lt i (length xs)) [
      | inl lt ↦ let x = slice_get-in_range xs i lt in absurd (none-some x.0 (sym e ∙ x.1))
      | inr le ↦ le
    ]

pub no_command-le : (d : Inside) (s : DeviceState) (pick : ℕ) → IsDevice d → state_of d ≡ s → false ≡ is_held s
    → None ≡ option_map (λ (w : Waiting). w.number) (picked d.queue pick) → length (transferable s) ≤ pick
no_command-le d s pick i e free none =
    let q : picked s.queue pick ≡ None = subst (λ (t : DeviceState). picked t.queue pick ≡ None) e (picked_none (picked d.queue pick) none) in
    let v = subst IsValid e i.valid in
    past (transferable s) pick (ap (λ (l : List Waiting). slice_get l pick) (transferable_free s v (sym free)) ∙ q)

-- ---- receiving, answering, and where all is done

pub on_ok : {T E : Type 0} (P : Type 0) (r : Result T E) → IsOk r → OnOk r P → P
on_ok P (Ok x) i h = h
on_ok P (Err e) i h = absurd (false≢true i)

pub room-fits : (s : DeviceState) → has_room s ≡ true → length s.queue.waiting < s.queue.depth
room-fits s room = ltb-true (length s.queue.waiting) s.queue.depth (and_parts (not (is_off s)) (nat_lt (length s.queue.waiting) s.queue.depth) room).1

pub received_to : (s : DeviceState) (c : Command) (took : List Command) (queue : QueueState)
    → took ≡ s.took ++ c ∷ [] → queue ≡ arrived s.queue c → record s { took = took; queue = queue } ≡ received s c
received_to s c took queue t q = rw (t, q) refl

front : {X : Type 0} (xs : List X) → slice_get xs 0 ≡ None → xs ≡ []
front [] e = refl
front (x ∷ xs) e = absurd (none-some x (sym e))

pub told_to : (s : DeviceState) (waiting sent : List Completion) → None ≡ slice_get s.waiting 0 → waiting ≡ drop 1 s.waiting
    → is_off s ≡ true → s.told ≡ false → sent ≡ s.sent ++ Cut ∷ [] → record s { waiting = waiting; sent = sent; told = true } ≡ answered s
told_to s waiting sent none w off untold e =
    let empty = front s.waiting (sym none) in
    let rest : waiting ≡ s.waiting = w ∙ ap (drop 1) empty ∙ sym empty in
    let tells : tells_cut s ≡ true = rw (off, untold) refl in
    let to : answered_from s [] ≡ record s { sent = s.sent ++ Cut ∷ []; told = true } = rw tells refl in
    rw (rest, e) (sym to) ∙ ap (answered_from s) (sym empty)

flushed-In : (xs : List Completion) → false ≡ list_any is_flushed xs → (id : ℕ) → In (Flushed id) xs → ⊥
flushed-In xs e id i = false≢true (sym (none-list_any is_flushed xs (Flushed id) (sym e) i))

none_flushed : (xs : List Completion) → ((id : ℕ) → In (Flushed id) xs → ⊥) → list_any is_flushed xs ≡ false
none_flushed xs h = list_any-none is_flushed xs by
  where
    by : (x : Completion) → In x xs → is_flushed x ≡ false
    by (Flushed id) i = absurd (h id i)
    by (Moved id) i = refl
    by (Failed id) i = refl
    by Cut i = refl

empty : {X : Type 0} (xs : List X) → length xs ≡ 0 → xs ≡ []
empty [] e = refl
empty (x ∷ xs) e = absurd (omega arith)

pub quiet_when : (s : DeviceState) → IsValid s → s.failed ≡ false → length s.queue.waiting ≡ 0 → length s.cache ≡ 0 → (b : Bool) → b ≡ list_any is_flushed s.waiting
    → (IsTrue (not b) → IsQuiet (seen s)) × (IsQuiet (seen s) → IsTrue (not b))
quiet_when s v fine q c b e = (
  λ t.
      let none : b ≡ false = not-true b t in
      empty_is_quiet s v (pending-is s v fine ∙ empty s.queue.waiting q, empty s.cache c, flushed-In s.waiting (sym none ∙ e)),
  λ quiet. ap not (e ∙ none_flushed s.waiting (quiet_is_empty s v quiet).2),
)

pub not_quiet : (s : DeviceState) → IsValid s → ((length s.queue.waiting ≡ 0) × (length s.cache ≡ 0) × (s.failed ≡ false) → ⊥)
    → (IsTrue false → IsQuiet (seen s)) × (IsQuiet (seen s) → IsTrue false)
not_quiet s v busy = (
  λ h. absurd (false≢true h),
  λ quiet.
      let e = quiet_is_empty s v quiet in
      let n = none-pending s v e.0 in
      absurd (busy (ap length n.0, ap length e.1, n.1)),
)

-- ---- a new device

pub opened_to : (image base surface : List (List ℕ)) (setup : DeviceSetup) (n : ℕ) (origins : List (Option ℕ)) (trace : DeviceRecord) (waiting : List Completion) (queue : QueueState) (cache : List Entry)
    → base ≡ image → surface ≡ image → n ≡ length surface → origins ≡ replicate n None
    → trace ≡ record { took = record { items = []; room = setup.limit }; moved = record { items = []; room = setup.limit }; sent = record { items = []; room = setup.limit + 1 }; steps = 0 }
    → waiting ≡ [] → queue ≡ record { depth = setup.depth; next = 0; waiting = [] } → cache ≡ []
    → opened image setup ≡ record {
      base = base;
      surface = surface;
      origins = origins;
      took = trace.took.items;
      moved = trace.moved.items;
      sent = trace.sent.items;
      waiting = waiting;
      queue = queue;
      cache = cache;
      epoch = 0;
      steps = trace.steps;
      limit = setup.limit;
      cut_at = setup.cut_at;
      told = false;
      fail_at = setup.fail_at;
      transfers_made = 0;
      bad_read = setup.bad_read;
      failed = false;
      faults = 0;
    }
opened_to image base surface setup n origins trace waiting queue cache b s l o t w q c =
    rw (w, q, c, t, o, l, b, s) refl
