-- The device as a plain value, and its calls as steps over it.
use Rattle.std.specs.Prelude.{◌≡◌, ℕ, ◌+◌, ◌==◌, ◌&&◌, ◌||◌, not, Bool, true, false, List, [], ◌∷◌, ◌++◌, length, filter, replicate, Option, Some, None, is_some, nat_lt, if◌then◌else◌, slice_get, slice_set}
use Rattle.std.specs.Option.{option_map_or}
use Rattle.order_model.specs.declared.part.Part.{Part}
use Rattle.order_model.specs.declared.command.Command.{Command}
use Rattle.order_model.specs.declared.completion.Completion.{Completion}
use Rattle.order_model.specs.declared.completion.Completion.TheVariants.{Cut}
use Rattle.order_model.specs.declared.history.Transfer.{Transfer}
use Rattle.order_model.specs.Received.{part_at, first_part, completions_of, failures_of, transfers}
use Rattle.order_model.specs.Device.{Seen}
pub use Rattle.device_epochs.specs.queue.Faults.{is_next}
use Rattle.device_epochs.specs.queue.Faults.{is_number, counted}
use Rattle.device_epochs.specs.queue.Queue.{QueueState, Waiting, arrived, departed, eligible}
use Rattle.device_epochs.specs.declared.cache.Entry.{Entry}
use Rattle.device_epochs.specs.declared.device.DeviceSetup.{DeviceSetup}
use Rattle.device_epochs.specs.Cache.{entries, put_all, oldest, without_entry}

-- the device of epochs: its medium, the cache before it, the commands that wait, and what was done so far
pub record DeviceState : Type 0 where
  -- the image that it was made over, and the medium, with the place of the part that each block holds
  pub base : List (List ℕ)
  pub surface : List (List ℕ)
  pub origins : List (Option ℕ)
  -- what it received, moved into the cache and told
  pub took : List Command
  pub moved : List Transfer
  pub sent : List Completion
  pub waiting : List Completion
  -- the commands that wait, and the cache with its present epoch
  pub queue : QueueState
  pub cache : List Entry
  pub epoch : ℕ
  -- its steps, the ids that it may take, the steps after which it is off, and whether it has told that
  pub steps : ℕ
  pub limit : ℕ
  pub cut_at : Option ℕ
  pub told : Bool
  -- the number of the transfer that fails, counted from 1, and how many transfers were made
  pub fail_at : Option ℕ
  pub transfers_made : ℕ
  -- how many reads from now the one that fails is; 1 is the next one
  pub bad_read : Option ℕ
  -- a transfer failed; how many transfers and reads failed
  pub failed : Bool
  pub faults : ℕ

-- a new device of this setup over an image
abbrev pub opened : List (List ℕ) → DeviceSetup → DeviceState
opened image setup = record {
  base = image;
  surface = image;
  origins = replicate (length image) None;
  took = [];
  moved = [];
  sent = [];
  waiting = [];
  queue = record { depth = setup.depth; next = 0; waiting = [] };
  cache = [];
  epoch = 0;
  steps = 0;
  limit = setup.limit;
  cut_at = setup.cut_at;
  told = false;
  fail_at = setup.fail_at;
  transfers_made = 0;
  bad_read = setup.bad_read;
  failed = false;
  faults = 0;
}

-- the power is off from the moment at which the steps equal this number
abbrev pub is_off : DeviceState → Bool
is_off s = is_number s.cut_at s.steps

-- ---- receiving

-- the power is on, and fewer commands wait than the queue may hold
abbrev pub has_room : DeviceState → Bool
has_room s = not (is_off s) && nat_lt (length s.queue.waiting) s.queue.depth

-- the command waits, as the last one to arrive
abbrev pub received : DeviceState → Command → DeviceState
received s c = record s { took = s.took ++ c ∷ []; queue = arrived s.queue c }

-- ---- transferring

-- a flush may go only where the cache is empty
abbrev pub may_transfer : DeviceState → Waiting → Bool
may_transfer s w = not (is_some w.command.flush) || (length s.cache == 0)

-- once the power is off, or a transfer failed, no command may be transferred
abbrev pub has_stopped : DeviceState → Bool
has_stopped s = is_off s || s.failed

-- the commands that may be transferred next, in order of arrival
abbrev pub transferable : DeviceState → List Waiting
transferable s = if has_stopped s then [] else filter (may_transfer s) (eligible s.queue.waiting)

-- the command goes into the cache, or, where it is a flush, is done
abbrev pub performed : DeviceState → Waiting → DeviceState
performed s w = record s {
  moved = s.moved ++ transfers s.epoch (first_part s.took w.number) w.command.parts;
  waiting = s.waiting ++ completions_of w.command;
  queue = departed s.queue (Some w);
  cache = put_all (entries s.epoch (first_part s.took w.number) w.command.parts) s.cache;
  epoch = (if w.command.barrier then s.epoch + 1 else s.epoch);
  steps = s.steps + 1;
  transfers_made = s.transfers_made + 1;
}

-- the command leaves the queue, and is not performed
abbrev pub failed_on : DeviceState → Waiting → DeviceState
failed_on s w = record s {
  waiting = s.waiting ++ failures_of w.command;
  queue = departed s.queue (Some w);
  steps = s.steps + 1;
  transfers_made = s.transfers_made + 1;
  failed = true;
  faults = s.faults + 1;
}

-- the next transfer is the one that fails
abbrev pub fails_next : DeviceState → Bool
fails_next s = is_number s.fail_at (s.transfers_made + 1)

-- a command was picked
abbrev pub tried : DeviceState → Option Waiting → DeviceState
tried s None = s
tried s (Some w) = if fails_next s then failed_on s w else performed s w

-- the command at place pick of these is transferred, or fails; a pick behind the last one changes nothing
abbrev pub transferred : DeviceState → ℕ → DeviceState
transferred s pick = tried s (slice_get (transferable s) pick)

-- ---- persisting

-- the entries that may be written next: those of the oldest epoch in the cache
abbrev pub persistable : DeviceState → List Entry
persistable s = if is_off s then [] else oldest s.cache

-- the bytes of the part at this place; where there is none, the bytes that are given
abbrev pub body_at : List Command → ℕ → List ℕ → List ℕ
body_at took place old = option_map_or (λ (p : Part). p.body) (part_at took place) old

-- the entry goes to the medium
abbrev pub written : DeviceState → Option Entry → DeviceState
written s None = s
written s (Some e) = record s {
  surface = slice_set s.surface e.block (body_at s.took e.part []);
  origins = slice_set s.origins e.block (Some e.part);
  cache = without_entry e s.cache;
  steps = s.steps + 1;
}

-- the entry at place pick of these is written; a pick behind the last one changes nothing
abbrev pub persisted : DeviceState → ℕ → DeviceState
persisted s pick = written s (slice_get (persistable s) pick)

-- ---- answering

-- the power is off, and that was not told
abbrev pub tells_cut : DeviceState → Bool
tells_cut s = is_off s && not s.told

-- the completions that can be handed out
abbrev pub answers_left : DeviceState → List Completion
answers_left s = s.waiting ++ (if tells_cut s then Cut ∷ [] else [])

-- the cut is handed out after all other completions
abbrev pub next_answer : DeviceState → Option Completion
next_answer s = slice_get (answers_left s) 0

-- the first of these completions is handed out; where there is none, the cut, if it is to be told
abbrev pub answered_from : DeviceState → List Completion → DeviceState
answered_from s (c ∷ cs) = record s { sent = s.sent ++ c ∷ []; waiting = cs }
answered_from s [] = if tells_cut s then record s { sent = s.sent ++ Cut ∷ []; told = true } else s

-- the next completion is handed out; where there is none, nothing changes
abbrev pub answered : DeviceState → DeviceState
answered s = answered_from s s.waiting

-- ---- reading

-- one more read was made: where it is the one that fails, that is one more fault
abbrev pub after_read : DeviceState → DeviceState
after_read s = record s {
  bad_read = counted s.bad_read;
  faults = (if is_next s.bad_read then s.faults + 1 else s.faults);
}

-- ---- what never fails

-- no transfer fails, and no read
pub record IsSound (s : DeviceState) : Type 0 where
  pub fails : s.fail_at ≡ None
  pub misreads : s.bad_read ≡ None

-- ---- what is seen

-- the cache is not seen; a cut that was not told is among the completions not yet handed out
abbrev pub seen : DeviceState → Seen
seen s = record {
  base = s.base;
  limit = s.limit;
  depth = s.queue.depth;
  cut_at = s.cut_at;
  fail_at = s.fail_at;
  took = s.took;
  moved = s.moved;
  surface = s.surface;
  origins = s.origins;
  sent = s.sent;
  waiting = answers_left s;
  off = is_off s;
  failed = s.failed;
  steps = s.steps;
  transfers_made = s.transfers_made;
  faults = s.faults;
}
