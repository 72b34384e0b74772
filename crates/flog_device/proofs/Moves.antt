-- What the device's code needs to know where it moves a command, programs a page or folds one.
use Rattle.std.specs.Prelude.{◌≡◌, ℕ, ◌+◌, ◌*◌, ◌<◌, ◌≤◌, ◌||◌, not, nat_le, nat_lt, Bool, true, false, List, [], ◌∷◌, ◌++◌, length, filter, Option, Some, None, is_some, slice_get, drop, replicate, Result, Ok, Err, IsOk, OnOk, IsTrue, if◌then◌else◌, refl, suc}
use Rattle.std.specs.List.{All, list_any}
use Rattle.std.specs.Option.{option_map, option_map_or}
use Rattle.std.proofs.Common.{sym, ap, subst, ◌∙◌, inl, inr, arith}
use Rattle.std.proofs.lemmas.Bool.{both_ways, or_parts, cases_lt, and_parts, ltb-true, leb-true, false≢true, not-true}
use Rattle.std.proofs.lemmas.Option.{none-some, same_Some}
use Rattle.blk_base.specs.Members.{In}
use Rattle.blk_base.specs.laws.Members.{In-All, none-list_any, list_any-none, map-In, In-append_right, slice_get-In, slice_get-in_range, slice_get-length}
use Rattle.order_model.specs.declared.part.Part.{Part}
use Rattle.order_model.specs.declared.command.Command.{Command}
use Rattle.order_model.specs.declared.completion.Completion.{Completion}
use Rattle.order_model.specs.declared.completion.Completion.TheVariants.{Moved, Flushed, Failed, Cut}
use Rattle.order_model.specs.declared.history.Transfer.{Transfer}
use Rattle.order_model.specs.declared.history.DeviceRecord.{DeviceRecord}
use Rattle.order_model.specs.Device.{IsQuiet}
use Rattle.order_model.specs.Received.{all_parts, part_at, first_part, completions_of, failures_of, transfers}
use Rattle.order_model.proofs.Received.{first_part-next, first_part-le}
use Rattle.device_epochs.specs.queue.Queue.{QueueState, Waiting, eligible, picked, departed, arrived}
use Rattle.device_epochs.specs.queue.Told.{is_flushed}
use Rattle.device_epochs.specs.queue.laws.QueueLaws.{part_at-lt, length-without, number-lt}
use Rattle.order_model.specs.Device.{is_ordered}
use Rattle.device_epochs.specs.queue.Facts.{QueueFacts, with_waiting}
use Rattle.device_epochs.specs.queue.laws.EpochLaws.{flush-ordered, waiting-taken, ordered-first}
use Rattle.device_epochs.specs.queue.laws.QueueLaws.{eligible-waits, eligible_clear, apart}
use Rattle.blk_base.specs.laws.Members.{In-slice_get}
use Rattle.flog_device.specs.Log.{Page, Place, place_of, places, prefix, pages}
use Rattle.flog_device.specs.declared.device.FlogDevice.TheInside.{Inside}
use Rattle.flog_device.specs.Device.{FlogState, FlogSetup, Write, Fold, writes, is_off, fails_next, has_room, free_places, all_programmed, may_transfer, has_stopped, transferable, tried, transferred, performed, failed_on, persistable, persisted, written, folded_from, received, answered, answered_from, tells_cut, surface, seen, opened}
use Rattle.flog_device.specs.laws.LogFacts.{top, body_over, get-laid}
use Rattle.flog_device.specs.laws.LogFacts.{top-In as top_in}
use Rattle.flog_device.specs.laws.LogSteps.{In-kept_given}
use Rattle.flog_device.specs.laws.Valid.{IsValid}
use Rattle.flog_device.specs.laws.StateLaws.{numbered, waits, pending-is, none-pending}
use Rattle.flog_device.specs.laws.StepLaws.{transferable-In, transferable-waits, tried-fails, tried-moves, fold-first}
use Rattle.flog_device.specs.laws.BoundLaws.{took-le, all_parts-le, pages-le, steps-le, steps-lt, epoch-le, moved-fits, completions-fit, failures-fit}
use Rattle.flog_device.specs.laws.ReachableLaws.{transferred-valid, persisted-valid}
use Rattle.flog_device.specs.laws.SeenLaws.{falls-persisted}
use Rattle.flog_device.specs.laws.MemberLaws.{quiet_is_empty, empty_is_quiet}
use Rattle.flog_device.specs.code.Fields.{state_of, IsDevice}
use Rattle.flog_device.specs.code.Helpers.{IsPageOf, area_folded, origins_folded, fitting, IsOrderly, IsChosen}

-- ---- moving a command

-- the two answers of the queue at one place
picked_both : (o : Option Waiting) (n : ℕ) (c : Command) → Some n ≡ option_map (λ (w : Waiting). w.number) o → Some c ≡ option_map (λ (w : Waiting). w.command) o → o ≡ Some (record { number = n; command = c })
picked_both None n c e f = absurd (none-some n (sym e))
picked_both (Some w) n c e f =
    let a : w.number ≡ n = same_Some w.number n (sym e) in
    let b : w.command ≡ c = same_Some w.command c (sym f) in
    let first : w ≡ record { number = n; command = w.command } = ap (λ (m : ℕ). let v : Waiting = record { number = m; command = w.command } in v) a in
    let second : w ≡ record { number = n; command = c } = first ∙ ap (λ (d : Command). let v : Waiting = record { number = n; command = d } in v) b in
    ap Some second

-- the command at place pick may go, and there is room for all of it
pub record CanMove (s : FlogState) (pick at : ℕ) (w : Waiting) : Type 0 where
  pub picked : picked s.queue at ≡ Some w
  pub within : pick < length (transferable s)
  pub number : w.number < length s.took
  pub places : first_part s.took w.number + length w.command.parts ≤ s.limit
  pub moved : length s.moved + length w.command.parts ≤ s.limit
  pub log : 0 < length w.command.parts → length s.log + length w.command.parts ≤ 16 * s.segments
  pub completions : length s.waiting + length (completions_of w.command) ≤ s.limit
  pub steps : s.steps < 3 * s.limit
  pub made : s.transfers_made < s.limit
  pub epoch : s.epoch ≤ 3 * s.limit
  pub failures : length s.waiting + length (failures_of w.command) ≤ s.limit
  pub faults : s.faults ≤ 2
  pub moves : fails_next s ≡ false → transferred s pick ≡ performed s w
  pub fails : fails_next s ≡ true → transferred s pick ≡ failed_on s w
  pub valid : IsValid (transferred s pick)

faults-le : (s : FlogState) → IsValid s → s.faults ≤ 2
faults-le s v = at s.failed v.faults.few
  where
    at : (b : Bool) → s.faults + 0 ≤ (if b then 2 else 1) → s.faults ≤ 2
    at true h = omega (arith, h)
    at false h = omega (arith, h)

log-fits : (s : FlogState) (w : Waiting) → may_transfer s w ≡ true → 0 < length w.command.parts → length s.log + length w.command.parts ≤ 16 * s.segments
log-fits s w may some =
    let n = leb-true (length w.command.parts) (free_places s) (and_parts (nat_le (length w.command.parts) (free_places s)) (not (is_some w.command.flush) || all_programmed s.log) may).0 in
    omega (arith, n, some)

can_move : (s : FlogState) (pick at : ℕ) (w : Waiting) → IsValid s → picked s.queue at ≡ Some w → slice_get (transferable s) pick ≡ Some w → CanMove s pick at w
can_move s pick at w v e there =
    let h = slice_get-In (transferable s) pick w there in
    let may = transferable-In s w h in
    let waiting = transferable-waits s w h in
    let next = v.queue.next in
    let below = number-lt s.queue.next s.queue.waiting w (numbered s v) waiting in
    let parts = first_part-next s.took w.number w.command (v.queue.queued w (waits s v w waiting)) in
    let upto = first_part-le s.took (suc w.number) in
    let all = all_parts-le s v in
    let completions = completions-fit s w v h in
    let failures = failures-fit s w v h in
    record {
      picked = e;
      within = slice_get-length (transferable s) pick w there;
      number = omega arith;
      places = omega arith;
      moved = moved-fits s w v h;
      log = log-fits s w may.2;
      completions = omega arith;
      steps = steps-lt s w v h;
      made =
          let one = length-without s.queue.next s.queue.waiting w (numbered s v) waiting in
          let queued = v.queued in
          let took = took-le s v in
          omega (arith, one, queued, took);
      epoch = epoch-le s v;
      failures = omega arith;
      faults = faults-le s v;
      moves = λ n. ap (tried s) there ∙ tried-moves s w n;
      fails = λ t. ap (tried s) there ∙ tried-fails s w t;
      valid = transferred-valid s pick v;
    }

transferable_on : (s : FlogState) → has_stopped s ≡ false → transferable s ≡ filter (may_transfer s) (eligible s.queue.waiting)
transferable_on s goes = rw goes refl

-- what the queue and the log say of the command, by the fields of the device
pub can_move_from : (d : Inside) (s : FlogState) (pick at n : ℕ) (c : Command) (free : ℕ) (programmed : Bool) → IsDevice d → state_of d ≡ s → false ≡ has_stopped s
    → free ≡ free_places s → programmed ≡ all_programmed d.log.items → IsChosen free programmed d.queue pick at
    → Some n ≡ option_map (λ (w : Waiting). w.number) (picked d.queue at) → Some c ≡ option_map (λ (w : Waiting). w.command) (picked d.queue at)
    → CanMove (state_of d) pick at (record { number = n; command = c })
can_move_from d s pick at n c free programmed i e goes f p chosen a b =
    let t = state_of d in
    let w : Waiting = record { number = n; command = c } in
    let on : has_stopped t ≡ false = subst (λ (x : FlogState). has_stopped x ≡ false) (sym e) (sym goes) in
    let room : free ≡ free_places t = f ∙ ap free_places (sym e) in
    let both = picked_both (picked d.queue at) n c a b in
    let fit : slice_get (fitting free programmed d.queue) pick ≡ Some w = chosen.fits ∙ sym chosen.there ∙ both in
    let there : slice_get (transferable t) pick ≡ Some w =
    ap (λ (l : List Waiting). slice_get l pick) (transferable_on t on)
    ∙ ap (λ k. slice_get (fitting k (all_programmed t.log) d.queue) pick) (sym room)
    ∙ ap (λ k. slice_get (fitting free k d.queue) pick) (sym p)
    ∙ fit in
    can_move t pick at w i.valid both there

-- ---- a flush that is eligible is the only command that is

same_number : (took : List Command) (q : QueueState) (w v : Waiting) → QueueFacts took q → In w q.waiting → In v q.waiting → w.number ≡ v.number → w.command ≡ v.command
same_number took q w v f h i e =
    same_Some w.command v.command (sym (f.queued w h) ∙ ap (slice_get took) e ∙ f.queued v i)

-- where an ORDERED command may go, no other one may
alone : (took : List Command) (q : QueueState) (w v : Waiting) → QueueFacts took q → In w (eligible q.waiting) → In v (eligible q.waiting) → is_ordered w.command.priority ≡ true → w.command ≡ v.command
alone took q w v f h i o =
    let first = eligible-waits q.waiting w h in
    let second = eligible-waits q.waiting v i in
    let le = ordered-first q.waiting w v h o second in
    elim (cases_lt w.number v.number) [
      | inl lt ↦
          let a = apart w v lt (eligible_clear q.waiting v w i first) in
          absurd (both_ways (is_ordered w.command.priority) a.first o)
      | inr ge ↦ same_number took q w v f first second (omega (arith, le, ge))
    ]

queue_facts : (s : FlogState) → IsValid s → s.failed ≡ false → QueueFacts s.took s.queue
queue_facts s v n =
    let f = subst (λ ws. QueueFacts s.took (with_waiting s.queue ws)) (pending-is s v n) v.queue in
    record { some_depth = f.some_depth; next = f.next; numbered = f.numbered; queued = f.queued; passed = f.passed }

first_flushes : (o : Option Waiting) (f : Waiting) → o ≡ Some f → is_some f.command.flush ≡ true → option_map_or (λ (c : Command). is_some c.flush) (option_map (λ (w : Waiting). w.command) o) false ≡ true
first_flushes o f e t = rw e t

pub orderly : (s : FlogState) → IsValid s → has_stopped s ≡ false → IsOrderly s.queue
orderly s v goes =
    let facts = queue_facts s v (or_parts (is_off s) s.failed goes).1 in
    record {
      small = λ w i. v.small w.command (waiting-taken s.took s.queue w facts i);
      first = λ w h t.
          let at = In-slice_get (eligible s.queue.waiting) w h in
          let lt = at.1 in
          let first = slice_get-in_range (eligible s.queue.waiting) 0 (omega (arith, lt)) in
          let taken = waiting-taken s.took s.queue w facts (eligible-waits s.queue.waiting w h) in
          let same = alone s.took s.queue w first.0 facts h (slice_get-In (eligible s.queue.waiting) 0 first.0 first.1) (flush-ordered (length s.base) s.limit s.took w.command v.commands taken t) in
          first_flushes (picked s.queue 0) first.0 first.1 (subst (λ (c : Command). is_some c.flush ≡ true) same t);
    }

pub orderly_from : (d : Inside) (s : FlogState) → IsDevice d → state_of d ≡ s → false ≡ has_stopped s → IsOrderly d.queue
orderly_from d s i e goes = orderly (state_of d) i.valid (subst (λ (x : FlogState). has_stopped x ≡ false) (sym e) (sym goes))

-- ---- where nothing may go

past : {X : Type 0} (xs : List X) (i : ℕ) → slice_get xs i ≡ None → length xs ≤ i
past xs i e =
    elim (cases_lt i (length xs)) [
      | inl lt ↦ let x = slice_get-in_range xs i lt in absurd (none-some x.0 (sym e ∙ x.1))
      | inr le ↦ le
    ]

pub none_fits : (d : Inside) (s : FlogState) (pick free : ℕ) (programmed : Bool) → state_of d ≡ s → false ≡ has_stopped s
    → free ≡ free_places s → programmed ≡ all_programmed d.log.items → slice_get (fitting free programmed d.queue) pick ≡ None → length (transferable s) ≤ pick
none_fits d s pick free programmed e goes f p none =
    let t = state_of d in
    let on : has_stopped t ≡ false = subst (λ (x : FlogState). has_stopped x ≡ false) (sym e) (sym goes) in
    let room : free ≡ free_places t = f ∙ ap free_places (sym e) in
    let at : slice_get (transferable t) pick ≡ None =
    ap (λ (l : List Waiting). slice_get l pick) (transferable_on t on)
    ∙ ap (λ k. slice_get (fitting k (all_programmed t.log) d.queue) pick) (sym room)
    ∙ ap (λ k. slice_get (fitting free k d.queue) pick) (sym p)
    ∙ none in
    subst (λ (x : FlogState). length (transferable x) ≤ pick) e (past (transferable t) pick at)

-- the state once the command was moved
pub moved_to : (s : FlogState) (w : Waiting) (first : ℕ) (moved : List Transfer) (waiting : List Completion) (queue : QueueState) (log : List Page) (epoch : ℕ)
    → first ≡ first_part s.took w.number → moved ≡ s.moved ++ transfers s.epoch first w.command.parts
    → waiting ≡ s.waiting ++ completions_of w.command → queue ≡ departed s.queue (Some w)
    → log ≡ s.log ++ pages first w.command.parts
    → epoch ≡ (if w.command.barrier then s.epoch + 1 else s.epoch)
    → record s { moved = moved; waiting = waiting; queue = queue; log = log; epoch = epoch; steps = s.steps + 1; transfers_made = s.transfers_made + 1 } ≡ performed s w
moved_to s w first moved waiting queue log epoch e m wa q c ep =
    rw (m, wa, q, c, ep, e) refl

-- the state once the command failed
pub failed_to : (s : FlogState) (w : Waiting) (waiting : List Completion) (queue : QueueState)
    → waiting ≡ s.waiting ++ failures_of w.command → queue ≡ departed s.queue (Some w)
    → record s { waiting = waiting; queue = queue; steps = s.steps + 1; transfers_made = s.transfers_made + 1; failed = true; faults = s.faults + 1 } ≡ failed_on s w
failed_to s w waiting queue wa q =
    rw (wa, q) refl

-- ---- programming and folding

-- each page is of a part that was taken, and of a block that is there
pub pages_of : (s : FlogState) → IsValid s → All (IsPageOf (length (all_parts s.took)) (length s.data_area)) s.log
pages_of s v = In-All (IsPageOf (length (all_parts s.took)) (length s.data_area)) s.log by
  where
    by : (p : Page) → In p s.log → IsPageOf (length (all_parts s.took)) (length s.data_area) p
    by p i =
        let t = v.log.taken p.place (In-append_right v.gone (places s.log) p.place (map-In place_of s.log p i)) in
        let within = v.commands.within t.0 (slice_get-In (all_parts s.took) p.place.part t.0 t.1) in
        let same = v.log.blocks in
        let block = t.2 in
        record { part = part_at-lt s.took p.place.part t.0 t.1; block = omega (arith, within, same, block) }

-- a write at place pick may be made
pub record CanWrite (s : FlogState) (pick : ℕ) (e : Write) : Type 0 where
  pub within : pick < length (persistable s)
  pub there : In e (writes s.log)
  pub steps : s.steps < 3 * s.limit
  pub folded : s.folded ≤ s.limit
  pub writes : persisted s pick ≡ written s (Some e)
  pub valid : IsValid (persisted s pick)

persistable_on : (s : FlogState) → is_off s ≡ false → persistable s ≡ writes s.log
persistable_on s on = rw on refl

pub can_write_from : (d : Inside) (s : FlogState) (pick : ℕ) (e : Write) → IsDevice d → state_of d ≡ s → false ≡ is_off s
    → Some e ≡ slice_get (writes d.log.items) pick → CanWrite (state_of d) pick e
can_write_from d s pick e i q on at =
    let t = state_of d in
    let goes : is_off t ≡ false = subst (λ (x : FlogState). is_off x ≡ false) (sym q) (sym on) in
    let there : slice_get (persistable t) pick ≡ Some e = ap (λ (l : List Write). slice_get l pick) (persistable_on t goes) ∙ sym at in
    let lt = slice_get-length (persistable t) pick e there in
    let less = falls-persisted t pick lt in
    let n = steps-le t i.valid in
    let few = pages-le t i.valid in
    record {
      within = lt;
      there = slice_get-In (writes t.log) pick e (sym at);
      steps = omega (arith, less, n);
      folded = omega (arith, few);
      writes = ap (written t) there;
      valid = persisted-valid t pick i.valid;
    }

folded_all : (s : FlogState) (log : List Page) (p : Page) (ps : List Page) → log ≡ p ∷ ps
    → record s { data_area = area_folded s.took log s.data_area; origins = origins_folded log s.origins; log = drop 1 log; folded = s.folded + 1; steps = s.steps + 1 } ≡ folded_from s log
folded_all s log p ps e = rw e refl

-- the state once the oldest page was folded
pub folded_to : (s : FlogState) (area : List (List ℕ)) (origins : List (Option ℕ)) (log : List Page) → In Fold (writes s.log)
    → area ≡ area_folded s.took s.log s.data_area → origins ≡ origins_folded s.log s.origins → log ≡ drop 1 s.log
    → record s { data_area = area; origins = origins; log = log; folded = s.folded + 1; steps = s.steps + 1 } ≡ written s (Some Fold)
folded_to s area origins log h a o l =
    let first = fold-first s.log h in
    rw (a, o, l) (folded_all s s.log first.0 first.1 first.2)

-- ---- reading

-- the last page of the prefix that has the block, where there is one
pub kept_there : (s : FlogState) (block part : ℕ) → IsValid s → Some part ≡ top (places (prefix s.log)) block → (q : Part) × (part_at s.took part ≡ Some q) × (part < length (all_parts s.took))
kept_there s block part v e =
    let p : Place = record { block = block; part = part } in
    let i = top_in (places (prefix s.log)) block part (sym e) in
    let t = v.log.taken p (In-kept_given v.gone s.log p (In-append_right v.gone (places (prefix s.log)) p i)) in
    (t.0, t.1, part_at-lt s.took part t.0 t.1)

pub read_kept : (s : FlogState) (block part : ℕ) (body : List ℕ) → block < length s.data_area → Some part ≡ top (places (prefix s.log)) block
    → option_map (λ (p : Part). p.body) (part_at s.took part) ≡ Some body → slice_get (surface s) block ≡ Some body
read_kept s block part body lt e b =
    get-laid s.took (places (prefix s.log)) s.data_area block lt
    ∙ ap (λ o. body_over s.took o (slice_get s.data_area block)) (sym e)
    ∙ ap Some (at_part (part_at s.took part) b)
  where
    at_part : (o : Option Part) → option_map (λ (p : Part). p.body) o ≡ Some body → option_map_or (λ (p : Part). p.body) o [] ≡ body
    at_part None h = absurd (none-some body h)
    at_part (Some p) h = same_Some p.body body h

pub read_data : (s : FlogState) (block : ℕ) (body : List ℕ) → block < length s.data_area → None ≡ top (places (prefix s.log)) block
    → slice_get s.data_area block ≡ Some body → slice_get (surface s) block ≡ Some body
read_data s block body lt e b =
    get-laid s.took (places (prefix s.log)) s.data_area block lt
    ∙ ap (λ o. body_over s.took o (slice_get s.data_area block)) (sym e)
    ∙ b

-- ---- where nothing can be moved or written

pub no_step : (n pick : ℕ) → n ≤ pick → (IsTrue false → pick < n) × (pick < n → IsTrue false)
no_step n pick le = (λ h. absurd (false≢true h), λ lt. absurd (omega (arith, le, lt)))

pub a_step : (n pick : ℕ) → pick < n → (IsTrue true → pick < n) × (pick < n → IsTrue true)
a_step n pick lt = (λ _. lt, λ _. refl)

-- ---- receiving, answering, and where all is done

pub on_ok : {T E : Type 0} (P : Type 0) (r : Result T E) → IsOk r → OnOk r P → P
on_ok P (Ok x) i h = h
on_ok P (Err e) i h = absurd (false≢true i)

pub room-fits : (s : FlogState) → has_room s ≡ true → length s.queue.waiting < s.queue.depth
room-fits s room = ltb-true (length s.queue.waiting) s.queue.depth (and_parts (not (is_off s)) (nat_lt (length s.queue.waiting) s.queue.depth) room).1

pub received_to : (s : FlogState) (c : Command) (took : List Command) (queue : QueueState)
    → took ≡ s.took ++ c ∷ [] → queue ≡ arrived s.queue c → record s { took = took; queue = queue } ≡ received s c
received_to s c took queue t q = rw (t, q) refl

front : {X : Type 0} (xs : List X) → slice_get xs 0 ≡ None → xs ≡ []
front [] e = refl
front (x ∷ xs) e = absurd (none-some x (sym e))

pub told_to : (s : FlogState) (waiting sent : List Completion) → None ≡ slice_get s.waiting 0 → waiting ≡ drop 1 s.waiting
    → is_off s ≡ true → s.told ≡ false → sent ≡ s.sent ++ Cut ∷ [] → record s { waiting = waiting; sent = sent; told = true } ≡ answered s
told_to s waiting sent none w off untold e =
    let empty = front s.waiting (sym none) in
    let rest : waiting ≡ s.waiting = w ∙ ap (drop 1) empty ∙ sym empty in
    let tells : tells_cut s ≡ true = rw (off, untold) refl in
    let to : answered_from s [] ≡ record s { sent = s.sent ++ Cut ∷ []; told = true } = rw tells refl in
    rw (rest, e) (sym to) ∙ ap (answered_from s) (sym empty)

flushed-In : (xs : List Completion) → false ≡ list_any is_flushed xs → (id : ℕ) → In (Flushed id) xs → ⊥
flushed-In xs e id i = false≢true (sym (none-list_any is_flushed xs (Flushed id) (sym e) i))

none_flushed : (xs : List Completion) → ((id : ℕ) → In (Flushed id) xs → ⊥) → list_any is_flushed xs ≡ false
none_flushed xs h = list_any-none is_flushed xs by
  where
    by : (x : Completion) → In x xs → is_flushed x ≡ false
    by (Flushed id) i = absurd (h id i)
    by (Moved id) i = refl
    by (Failed id) i = refl
    by Cut i = refl

empty : {X : Type 0} (xs : List X) → length xs ≡ 0 → xs ≡ []
empty [] e = refl
empty (x ∷ xs) e = absurd (omega (arith, e))

pub quiet_when : (s : FlogState) → IsValid s → s.failed ≡ false → length s.queue.waiting ≡ 0 → all_programmed s.log ≡ true → (b : Bool) → b ≡ list_any is_flushed s.waiting
    → (IsTrue (not b) → IsQuiet (seen s)) × (IsQuiet (seen s) → IsTrue (not b))
quiet_when s v fine q p b e = (
  λ t.
      let none : b ≡ false = not-true b t in
      empty_is_quiet s v (pending-is s v fine ∙ empty s.queue.waiting q, p, flushed-In s.waiting (sym none ∙ e)),
  λ quiet. ap not (e ∙ none_flushed s.waiting (quiet_is_empty s v quiet).2),
)

pub not_quiet : (s : FlogState) → IsValid s → ((length s.queue.waiting ≡ 0) × (all_programmed s.log ≡ true) × (s.failed ≡ false) → ⊥)
    → (IsTrue false → IsQuiet (seen s)) × (IsQuiet (seen s) → IsTrue false)
not_quiet s v busy = (
  λ h. absurd (false≢true h),
  λ quiet.
      let e = quiet_is_empty s v quiet in
      let n = none-pending s v e.0 in
      absurd (busy (ap length n.0, e.1, n.1)),
)

-- ---- a new device

pub opened_to : (image base area : List (List ℕ)) (setup : FlogSetup) (n : ℕ) (origins : List (Option ℕ)) (trace : DeviceRecord) (waiting : List Completion) (queue : QueueState) (log : List Page)
    → base ≡ image → area ≡ image → n ≡ length area → origins ≡ replicate n None
    → trace ≡ record { took = record { items = []; room = setup.limit }; moved = record { items = []; room = setup.limit }; sent = record { items = []; room = setup.limit + 1 }; steps = 0 }
    → waiting ≡ [] → queue ≡ record { depth = setup.depth; next = 0; waiting = [] } → log ≡ []
    → opened image setup ≡ record {
      base = base;
      data_area = area;
      origins = origins;
      log = log;
      folded = 0;
      segments = setup.segments;
      took = trace.took.items;
      moved = trace.moved.items;
      sent = trace.sent.items;
      waiting = waiting;
      queue = queue;
      epoch = 0;
      steps = trace.steps;
      limit = setup.limit;
      cut_at = setup.cut_at;
      told = false;
      fail_at = setup.fail_at;
      transfers_made = 0;
      failed = false;
      faults = 0;
    }
opened_to image base area setup n origins trace waiting queue log b s l o t w q c =
    rw (w, q, c, t, o, l, b, s) refl
