-- The flash log device as a plain value, and its calls as steps over it.
use Rattle.std.specs.Prelude.{ℕ, ◌+◌, ◌-◌, ◌*◌, ◌/◌, ◌&&◌, ◌||◌, not, Bool, true, false, List, [], ◌∷◌, ◌++◌, length, filter, replicate, Option, Some, None, is_some, nat_lt, nat_le, if◌then◌else◌, slice_get, slice_set}
use Rattle.std.specs.List.{list_all}
use Rattle.order_model.specs.declared.command.Command.{Command}
use Rattle.order_model.specs.declared.completion.Completion.{Completion}
use Rattle.order_model.specs.declared.completion.Completion.TheVariants.{Cut}
use Rattle.order_model.specs.declared.history.Transfer.{Transfer}
use Rattle.order_model.specs.Received.{first_part, completions_of, failures_of, transfers}
use Rattle.order_model.specs.Device.{Seen}
use Rattle.device_epochs.specs.queue.Faults.{is_number}
use Rattle.device_epochs.specs.queue.Queue.{QueueState, Waiting, arrived, departed, eligible}
pub use Rattle.flog_device.specs.declared.device.FlogSetup.{FlogSetup}
pub use Rattle.flog_device.specs.declared.log.Write.{Write}
pub use Rattle.flog_device.specs.declared.log.Write.TheVariants.{Program, Fold}
use Rattle.flog_device.specs.Log.{Page, pages, prefix, places, programmed_at, is_covered, body_at, laid, laid_origins}

-- the flash log device: its data area, the log before it, the commands that wait, and what was done so far
pub record FlogState : Type 0 where
  -- the image that it was made over, and the data area, with the place of the part that each block holds
  pub base : List (List ℕ)
  pub data_area : List (List ℕ)
  pub origins : List (Option ℕ)
  -- the pages that are not folded, in order of the log, and how many were folded; its segments, of 16 places each
  pub log : List Page
  pub folded : ℕ
  pub segments : ℕ
  -- what it received, gave places of the log and told
  pub took : List Command
  pub moved : List Transfer
  pub sent : List Completion
  pub waiting : List Completion
  -- the commands that wait, and how many barriers were transferred
  pub queue : QueueState
  pub epoch : ℕ
  -- its steps, the ids that it may take, the steps after which it is off, and whether it has told that
  pub steps : ℕ
  pub limit : ℕ
  pub cut_at : Option ℕ
  pub told : Bool
  -- the number of the transfer that fails, counted from 1, and how many transfers were made
  pub fail_at : Option ℕ
  pub transfers_made : ℕ
  -- a transfer failed; how many did
  pub failed : Bool
  pub faults : ℕ

-- a new device of this setup over an image
abbrev pub opened : List (List ℕ) → FlogSetup → FlogState
opened image setup = record {
  base = image;
  data_area = image;
  origins = replicate (length image) None;
  log = [];
  folded = 0;
  segments = setup.segments;
  took = [];
  moved = [];
  sent = [];
  waiting = [];
  queue = record { depth = setup.depth; next = 0; waiting = [] };
  epoch = 0;
  steps = 0;
  limit = setup.limit;
  cut_at = setup.cut_at;
  told = false;
  fail_at = setup.fail_at;
  transfers_made = 0;
  failed = false;
  faults = 0;
}

-- the power is off from the moment at which the steps equal this number
abbrev pub is_off : FlogState → Bool
is_off s = is_number s.cut_at s.steps

-- the next transfer is the one that fails
abbrev pub fails_next : FlogState → Bool
fails_next s = is_number s.fail_at (s.transfers_made + 1)

-- ---- the log

-- Places are numbered as they are given. Pages are folded in order, so the segments before that of the oldest page which is
-- not folded are erased; where that page is not given yet, its segment has no used place that is not folded.
abbrev pub oldest_segment : FlogState → ℕ
oldest_segment s = s.folded / 16

-- the places outside the segments from the oldest one that is not erased up to the last place given
abbrev pub free_places : FlogState → ℕ
free_places s = 16 * s.segments - (s.folded + length s.log - 16 * oldest_segment s)

-- each page is programmed
abbrev pub all_programmed : List Page → Bool
all_programmed log = list_all (λ (p : Page). p.programmed) log

-- ---- receiving

-- the power is on, and fewer commands wait than the queue may hold
abbrev pub has_room : FlogState → Bool
has_room s = not (is_off s) && nat_lt (length s.queue.waiting) s.queue.depth

-- the command waits, as the last one to arrive
abbrev pub received : FlogState → Command → FlogState
received s c = record s { took = s.took ++ c ∷ []; queue = arrived s.queue c }

-- ---- transferring

-- a command may go where the log has places for its parts, a flush only where each page is programmed
abbrev pub fits : ℕ → Bool → Command → Bool
fits free programmed c = nat_le (length c.parts) free && (not (is_some c.flush) || programmed)

-- the log has places for it now, and a flush finds each page programmed
abbrev pub may_transfer : FlogState → Waiting → Bool
may_transfer s w = fits (free_places s) (all_programmed s.log) w.command

-- once the power is off, or a transfer failed, no command may be transferred
abbrev pub has_stopped : FlogState → Bool
has_stopped s = is_off s || s.failed

-- the commands that may be transferred next, in order of arrival
abbrev pub transferable : FlogState → List Waiting
transferable s = if has_stopped s then [] else filter (may_transfer s) (eligible s.queue.waiting)

-- the parts get the next places of the log, as pages that are not programmed
abbrev pub performed : FlogState → Waiting → FlogState
performed s w = record s {
  moved = s.moved ++ transfers s.epoch (first_part s.took w.number) w.command.parts;
  waiting = s.waiting ++ completions_of w.command;
  queue = departed s.queue (Some w);
  log = s.log ++ pages (first_part s.took w.number) w.command.parts;
  epoch = (if w.command.barrier then s.epoch + 1 else s.epoch);
  steps = s.steps + 1;
  transfers_made = s.transfers_made + 1;
}

-- the command leaves the queue, and is not performed
abbrev pub failed_on : FlogState → Waiting → FlogState
failed_on s w = record s {
  waiting = s.waiting ++ failures_of w.command;
  queue = departed s.queue (Some w);
  steps = s.steps + 1;
  transfers_made = s.transfers_made + 1;
  failed = true;
  faults = s.faults + 1;
}

-- a command was picked
abbrev pub tried : FlogState → Option Waiting → FlogState
tried s None = s
tried s (Some w) = if fails_next s then failed_on s w else performed s w

-- the command at place pick of these is transferred, or fails; a pick behind the last one changes nothing
abbrev pub transferred : FlogState → ℕ → FlogState
transferred s pick = tried s (slice_get (transferable s) pick)

-- ---- persisting

-- the pages that are not programmed, in order, where the first one has this place
abbrev pub programs : ℕ → List Page → List Write
programs i [] = []
programs i (p ∷ ps) = if p.programmed then programs (i + 1) ps else Program i ∷ programs (i + 1) ps

-- the oldest page, where it is programmed; all before it are folded
abbrev pub folds : List Page → List Write
folds [] = []
folds (p ∷ ps) = if p.programmed then Fold ∷ [] else []

-- the writes that may be next, while the power is on
abbrev pub writes : List Page → List Write
writes log = programs 0 log ++ folds log

-- the writes that may be made next: programs of pages in order, and last the fold of the oldest page
abbrev pub persistable : FlogState → List Write
persistable s = if is_off s then [] else writes s.log

-- its body goes into the data area, unless a later page of the prefix has the same block
abbrev pub folded_from : FlogState → List Page → FlogState
folded_from s [] = s
folded_from s (p ∷ ps) = record s {
  data_area = (if is_covered p.place.block ps then s.data_area else slice_set s.data_area p.place.block (body_at s.took p.place.part []));
  origins = (if is_covered p.place.block ps then s.origins else slice_set s.origins p.place.block (Some p.place.part));
  log = ps;
  folded = s.folded + 1;
  steps = s.steps + 1;
}

-- a page is programmed, or the oldest one is folded; where there is no write, nothing changes
abbrev pub written : FlogState → Option Write → FlogState
written s None = s
written s (Some (Program i)) = record s { log = programmed_at i s.log; steps = s.steps + 1 }
written s (Some Fold) = folded_from s s.log

-- the write at place pick of these is made; a pick behind the last one changes nothing
abbrev pub persisted : FlogState → ℕ → FlogState
persisted s pick = written s (slice_get (persistable s) pick)

-- ---- answering

-- the power is off, and that was not told
abbrev pub tells_cut : FlogState → Bool
tells_cut s = is_off s && not s.told

-- the completions that can be handed out
abbrev pub answers_left : FlogState → List Completion
answers_left s = s.waiting ++ (if tells_cut s then Cut ∷ [] else [])

-- the cut is handed out after all other completions
abbrev pub next_answer : FlogState → Option Completion
next_answer s = slice_get (answers_left s) 0

-- the first of these completions is handed out; where there is none, the cut, if it is to be told
abbrev pub answered_from : FlogState → List Completion → FlogState
answered_from s (c ∷ cs) = record s { sent = s.sent ++ c ∷ []; waiting = cs }
answered_from s [] = if tells_cut s then record s { sent = s.sent ++ Cut ∷ []; told = true } else s

-- the next completion is handed out; where there is none, nothing changes
abbrev pub answered : FlogState → FlogState
answered s = answered_from s s.waiting

-- ---- what is seen: the surface is the data area with the pages of the prefix laid over it in order

abbrev pub surface : FlogState → List (List ℕ)
surface s = laid s.took (places (prefix s.log)) s.data_area

-- the place of the part that each block of the surface holds; none where it still holds the image's bytes
abbrev pub surface_origins : FlogState → List (Option ℕ)
surface_origins s = laid_origins (places (prefix s.log)) s.origins

-- a cut that was not told is among the completions not yet handed out
abbrev pub seen : FlogState → Seen
seen s = record {
  base = s.base;
  limit = s.limit;
  depth = s.queue.depth;
  cut_at = s.cut_at;
  fail_at = s.fail_at;
  took = s.took;
  moved = s.moved;
  surface = surface s;
  origins = surface_origins s;
  sent = s.sent;
  waiting = answers_left s;
  off = is_off s;
  failed = s.failed;
  steps = s.steps;
  transfers_made = s.transfers_made;
  faults = s.faults;
}
