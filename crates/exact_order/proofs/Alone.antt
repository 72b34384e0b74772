-- One command goes all the way through a device in which nothing waits and of which nothing is cached.
use Rattle.std.proofs.Common.{◌≡◌, ℕ, ◌<◌, ◌==◌, not, Bool, true, false, List, [], ◌∷◌, ◌++◌, filter, length, Option, Some, None, slice_get, slice_set, refl, sym, ap, subst, ◌∙◌, arith}
use Rattle.std.proofs.lemmas.Bool.{le-ltb, lt-ltb, eq-eqb}
use Rattle.std.proofs.lemmas.List.{length_push, take_at}
use Rattle.order_model.specs.declared.part.Part.{Part}
use Rattle.order_model.specs.declared.command.Command.{Command}
use Rattle.order_model.specs.declared.command.Priority.{Priority}
use Rattle.order_model.specs.Received.{all_parts, first_part}
use Rattle.device_epochs.specs.queue.Queue.{Waiting}
use Rattle.device_epochs.specs.declared.cache.Entry.{Entry}
use Rattle.device_epochs.specs.Device.{DeviceState, has_room, received, transferable, tried, performed, transferred, persistable, written, persisted}

-- nothing waits in it and nothing is cached, no power cut comes and no transfer fails
pub record IsIdle (d : DeviceState) : Type 0 where
  pub waiting : d.queue.waiting ≡ []
  pub next : d.queue.next ≡ length d.took
  pub depth : 0 < d.queue.depth
  pub cache : d.cache ≡ []
  pub cut : d.cut_at ≡ None
  pub fail : d.fail_at ≡ None
  pub works : d.failed ≡ false

-- the same with these fields as they are then
abbrev at_rest : DeviceState → DeviceState
at_rest d = record d { queue = record d.queue { waiting = [] }; cache = []; cut_at = None; fail_at = None; failed = false }

idle-is : (d : DeviceState) → IsIdle d → d ≡ at_rest d
idle-is d i =
    ap (λ w. record d { queue = record d.queue { waiting = w } }) i.waiting
    ∙ ap (λ c. record d { queue = record d.queue { waiting = [] }; cache = c }) i.cache
    ∙ ap (λ c. record d { queue = record d.queue { waiting = [] }; cache = []; cut_at = c }) i.cut
    ∙ ap (λ f. record d { queue = record d.queue { waiting = [] }; cache = []; cut_at = None; fail_at = f }) i.fail
    ∙ ap (λ b. record d { queue = record d.queue { waiting = [] }; cache = []; cut_at = None; fail_at = None; failed = b }) i.works

-- received, transferred and written
abbrev pub passed : DeviceState → Command → DeviceState
passed d c = persisted (transferred (received d c) 0) 0

pub has_room-idle : (d : DeviceState) → IsIdle d → has_room d ≡ true
has_room-idle d i = ap has_room (idle-is d i) ∙ lt-ltb 0 d.queue.depth i.depth

abbrev command_waits : DeviceState → Command → Waiting
command_waits d c = record { number = d.queue.next; command = c }

-- ---- a put

module _ (d : DeviceState) (p : Part) (priority : Priority) (barrier : Bool) where
  abbrev put_command : Command
  put_command = record { parts = p ∷ []; priority = priority; barrier = barrier; flush = None }

  abbrev put_waits : Waiting
  put_waits = command_waits d put_command

  -- the entry of its part
  abbrev put_entry : Entry
  put_entry = record { epoch = d.epoch; block = p.block; part = first_part (d.took ++ put_command ∷ []) d.queue.next }

  put-transferable : slice_get (transferable (received (at_rest d) put_command)) 0 ≡ Some put_waits
  put-transferable = rw (le-ltb d.queue.next d.queue.next (omega arith)) refl

  put-performed : transferred (received (at_rest d) put_command) 0 ≡ performed (received (at_rest d) put_command) put_waits
  put-performed = ap (tried (received (at_rest d) put_command)) put-transferable

  put-persistable : slice_get (persistable (performed (received (at_rest d) put_command) put_waits)) 0 ≡ Some put_entry
  put-persistable = rw (eq-eqb d.epoch d.epoch refl) refl

  put-passed : passed (at_rest d) put_command ≡ written (performed (received (at_rest d) put_command) put_waits) (Some put_entry)
  put-passed =
      ap (λ s. persisted s 0) put-performed
      ∙ ap (written (performed (received (at_rest d) put_command) put_waits)) put-persistable

  -- nothing is left of it in queue and cache
  put-gone : filter (λ (w : Waiting). not (w.number == d.queue.next)) (put_waits ∷ []) ≡ []
  put-gone = rw (eq-eqb d.queue.next d.queue.next refl) refl

  put-clean : (written (performed (received (at_rest d) put_command) put_waits) (Some put_entry)).cache ≡ []
  put-clean = rw (eq-eqb d.epoch d.epoch refl) (rw (eq-eqb p.block p.block refl) refl)

  put-first : d.queue.next ≡ length d.took → first_part (d.took ++ put_command ∷ []) d.queue.next ≡ length (all_parts d.took)
  put-first next = ap (λ l. length (all_parts l)) (take_at d.took (put_command ∷ []) d.queue.next (sym next))

-- a put was written: its block has the place of its part as its origin
pub record IsPassed (d : DeviceState) (c : Command) (marked : List (Option ℕ)) (new : DeviceState) : Type 0 where
  pub idle : IsIdle new
  pub took : new.took ≡ d.took ++ c ∷ []
  pub origins : new.origins ≡ marked

pub pass-put : (d : DeviceState) (p : Part) (priority : Priority) (barrier : Bool) → IsIdle d
    → let c : Command = record { parts = p ∷ []; priority = priority; barrier = barrier; flush = None } in
    IsPassed d c (slice_set d.origins p.block (Some (length (all_parts d.took)))) (passed d c)
pass-put d p priority barrier i =
    let c : Command = record { parts = p ∷ []; priority = priority; barrier = barrier; flush = None } in
    let goal : DeviceState → Type 0 = IsPassed d c (slice_set d.origins p.block (Some (length (all_parts d.took)))) in
    let n = length_push d.took c in
    let next = i.next in
    subst goal (sym (ap (λ s. passed s c) (idle-is d i) ∙ put-passed d p priority barrier))
    (record {
      idle = record {
        waiting = put-gone d p priority barrier;
        next = omega (arith, n, next);
        depth = i.depth;
        cache = put-clean d p priority barrier;
        cut = refl;
        fail = refl;
        works = refl;
      };
      took = refl;
      origins = ap (λ k. slice_set d.origins p.block (Some k)) (put-first d p priority barrier i.next);
    })

-- ---- a flush

module _ (d : DeviceState) (id : ℕ) (priority : Priority) (barrier : Bool) where
  abbrev flush_command : Command
  flush_command = record { parts = []; priority = priority; barrier = barrier; flush = Some id }

  abbrev flush_waits : Waiting
  flush_waits = command_waits d flush_command

  flush-transferable : slice_get (transferable (received (at_rest d) flush_command)) 0 ≡ Some flush_waits
  flush-transferable = rw (le-ltb d.queue.next d.queue.next (omega arith)) refl

  flush-passed : passed (at_rest d) flush_command ≡ performed (received (at_rest d) flush_command) flush_waits
  flush-passed = ap (λ o. persisted (tried (received (at_rest d) flush_command) o) 0) flush-transferable

  flush-gone : filter (λ (w : Waiting). not (w.number == d.queue.next)) (flush_waits ∷ []) ≡ []
  flush-gone = rw (eq-eqb d.queue.next d.queue.next refl) refl

pub pass-flush : (d : DeviceState) (id : ℕ) (priority : Priority) (barrier : Bool) → IsIdle d
    → let c : Command = record { parts = []; priority = priority; barrier = barrier; flush = Some id } in
    IsPassed d c d.origins (passed d c)
pass-flush d id priority barrier i =
    let c : Command = record { parts = []; priority = priority; barrier = barrier; flush = Some id } in
    let n = length_push d.took c in
    let next = i.next in
    subst (IsPassed d c d.origins) (sym (ap (λ s. passed s c) (idle-is d i) ∙ flush-passed d id priority barrier))
    (record {
      idle = record {
        waiting = flush-gone d id priority barrier;
        next = omega (arith, n, next);
        depth = i.depth;
        cache = refl;
        cut = refl;
        fail = refl;
        works = refl;
      };
      took = refl;
      origins = refl;
    })
