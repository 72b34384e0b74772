-- Small sessions of the host, over a model whose calls say themselves what they touch.
use Rattle.std.specs.List.{filter}
use Rattle.std.specs.Prelude.{ℕ, zero, suc, ◌==◌, Bool, true, false, List, [], ◌∷◌, ◌++◌, length, map, Option, Some, None, not}
use Rattle.order_model.specs.OrderClosed.{kind_block}
use Rattle.order_model.specs.declared.completion.Completion.TheVariants as completions
use Rattle.order_model.specs.declared.completion.Completion.{Completion}
use Rattle.order_model.specs.declared.note.Note.{Note}
use Rattle.order_model.specs.declared.request.Request.{Request}
use Rattle.host_machine.specs.Host.{with_flush, set_wait, advance, commit_step, writeback, flush_step, opened}
use Rattle.host_machine.specs.Model.{FileBlock, Touched, Freed, Zones, Model}
use Rattle.number_sets.specs.Sets.{without_all}
use Rattle.journal_ring.specs.LogRing.{LogRing}
use Rattle.host_machine.specs.State.{Answered, What, Ends, Entry, Host, Setup}
use Rattle.host_machine.specs.runs.Runs as runs
use Rattle.flush_actor.specs.Steps.{submit_flush}
use Rattle.flush_actor.specs.declared.call_kind.CallKind.{CallKind}
use Rattle.flush_actor.specs.declared.call_kind.CallKind.TheVariants.{Changing, FileBarrier, DataBarrier, FileSync}

-- ---- calls that say what they do

pub record Call : Type 0 where
  pub kind : CallKind
  pub node : ℕ
  -- zones that it takes
  pub takes : List ℕ
  pub touched : Touched

abbrev pub nothing : Touched
nothing = record { blocks = []; freed = []; revoked = []; pages = []; dropped = []; nodes = [] }

abbrev pub model : Model (Unit {0}) Zones Call ℕ
model = record {
  kind = λ c. c.kind;
  ok = 0;
  root = tt;
  call = λ t n c. t;
  maps = λ t f i. false;
  content = λ t f i. [];
  writes = λ t c f i. false;
  alters = λ t n c f. false;
  reply = λ v c. None;
  hinders = λ v c. elim c.kind as (λ _. Bool) [ Changing ↦ true | other ↦ false ];
  needs = λ v c. length c.takes;
  apply = λ v n k c. record {
    volume = record { free = without_all v.free c.takes; waiting = v.waiting ++ map (λ z. record { zone = z; transaction = k }) c.touched.freed };
    reply = 0;
    touched = c.touched;
  };
  node = λ v c. c.node;
  zones = λ v. v;
  release = λ v k. record {
    free = v.free ++ map (λ (f : Freed). f.zone) (filter (λ (f : Freed). f.transaction == k) v.waiting);
    waiting = filter (λ (f : Freed). not (f.transaction == k)) v.waiting;
  };
  bytes = λ v b. b ∷ [];
  metadata = λ v b. false;
  zone = λ v f i. None;
}

abbrev pub setup : Setup
setup = record {
  journal = 64;
  sequence = 1;
  writers = record { most_tags = 122; most_revokes = 252; super = λ seq start. 900 ∷ seq ∷ start ∷ []; revoke = λ seq blocks. 901 ∷ seq ∷ blocks; descriptor = λ seq tags. 902 ∷ seq ∷ []; commit = λ seq. 903 ∷ seq ∷ []; stored = λ b. b; is_escaped = λ b. false };
  zmap = 1;
  quota = 31;
}

abbrev pub ring : LogRing
ring = record { places = record { first = 1; past = 128 }; head = 1; used = 0; started = false; homes = [] }

-- ---- runs

pub data Event : Type 0 where
  CallOf : ℕ → Event
  CommitStep : Event
  WriteBack : ℕ → Event
  FlushStep : Option Completion → Event

abbrev pub State : Type 0
State = Host Zones Call ℕ

abbrev pub does : State → Event → State
does s (CallOf t) = (advance model setup false s t).host
does s CommitStep = (commit_step model setup false s).host
does s (WriteBack p) = (writeback model setup false s p).host
does s (FlushStep c) = (flush_step model setup false s c).host

abbrev pub run : List Event → State → State
run [] s = s
run (e ∷ es) s = run es (does s e)

abbrev pub times : ℕ → Event → List Event
times zero e = []
times (suc n) e = e ∷ times n e

abbrev pub start : List ℕ → List Call → State
start free calls = opened model setup (record { free = free; waiting = [] }) ring 64 1000 (calls ∷ [])

abbrev pub notes_of : State → List Note
notes_of s = s.journal.flush.notes

abbrev pub places_of : State → List (Option ℕ)
places_of s = map (λ (r : Request). kind_block r.kind) s.journal.flush.requests

abbrev pub ordered_of : State → List Bool
ordered_of s = map (λ (r : Request). r.ordered) s.journal.flush.requests

abbrev pub barriers_of : State → List Bool
barriers_of s = map (λ (r : Request). r.barrier) s.journal.flush.requests

abbrev pub answers : State → List (What ℕ)
answers s = map (λ (e : Entry Call ℕ). e.what) s.history

abbrev pub changing : List ℕ → List ℕ → List FileBlock → List ℕ → Call
changing takes blocks pages nodes = record { kind = Changing; node = 0; takes = takes; touched = record { blocks = blocks; freed = []; revoked = []; pages = pages; dropped = []; nodes = nodes } }

abbrev pub begun : CallKind → ℕ → Call
begun kind node = record { kind = kind; node = node; takes = []; touched = nothing }

abbrev pub ok : What ℕ
ok = Ends (Answered 0)

-- ---- fbarrier waits for no device

abbrev pub file_barrier : List Call
file_barrier =
    changing (6 ∷ []) (2 ∷ 3 ∷ 4 ∷ 5 ∷ 6 ∷ []) [] (0 ∷ 1 ∷ [])
    ∷ changing [] (2 ∷ 4 ∷ 6 ∷ []) [] (1 ∷ 2 ∷ [])
    ∷ changing (7 ∷ []) (3 ∷ 4 ∷ []) (record { birth = 2; index = 0; block = 7 } ∷ []) (2 ∷ [])
    ∷ begun FileBarrier 2
    ∷ []

abbrev pub file_barrier_end : State
file_barrier_end = run (times 6 (CallOf 0) ++ times 10 CommitStep ++ CallOf 0 ∷ []) (start (6 ∷ 7 ∷ 8 ∷ []) file_barrier)

-- ---- a page that was sent orderless

abbrev pub orderless_page : List Call
orderless_page =
    changing [] (2 ∷ 4 ∷ 5 ∷ []) [] (0 ∷ 1 ∷ [])
    ∷ changing [] (2 ∷ 4 ∷ 5 ∷ []) [] (0 ∷ 2 ∷ [])
    ∷ changing (6 ∷ []) (3 ∷ 4 ∷ []) (record { birth = 1; index = 0; block = 6 } ∷ []) (1 ∷ [])
    ∷ changing (7 ∷ []) (3 ∷ 4 ∷ []) (record { birth = 2; index = 0; block = 7 } ∷ []) (2 ∷ [])
    ∷ begun FileBarrier 1
    ∷ changing [] [] (record { birth = 1; index = 0; block = 6 } ∷ []) []
    ∷ begun DataBarrier 1
    ∷ changing [] [] (record { birth = 2; index = 0; block = 7 } ∷ []) []
    ∷ []

abbrev pub orderless_page_end : State
orderless_page_end =
    run (times 7 (CallOf 0) ++ times 10 CommitStep ++ times 2 (CallOf 0) ++ WriteBack 0 ∷ [] ++ times 4 (CallOf 0) ++ WriteBack 0 ∷ [])
    (start (6 ∷ 7 ∷ 8 ∷ []) orderless_page)

-- ---- fsync and quarantine, with one zone

abbrev pub quarantine : List Call
quarantine =
    changing [] (2 ∷ 4 ∷ 5 ∷ []) [] (0 ∷ 1 ∷ [])
    ∷ changing [] (2 ∷ 4 ∷ 5 ∷ []) [] (0 ∷ 2 ∷ [])
    ∷ changing (6 ∷ []) (3 ∷ 4 ∷ []) (record { birth = 1; index = 0; block = 6 } ∷ []) (1 ∷ [])
    ∷ begun FileSync 1
    ∷ record { kind = Changing; node = 0; takes = []; touched = record { blocks = 2 ∷ 3 ∷ 4 ∷ 5 ∷ []; freed = 6 ∷ []; revoked = []; pages = []; dropped = record { birth = 1; index = 0; block = 6 } ∷ []; nodes = 0 ∷ 1 ∷ [] } }
    ∷ changing (6 ∷ []) (3 ∷ 4 ∷ []) (record { birth = 2; index = 0; block = 6 } ∷ []) (2 ∷ [])
    ∷ []

abbrev pub moved : ℕ → Event
moved id = FlushStep (Some (completions.Moved id))

-- the device does all that was submitted; the first flush step behind the commit block's completion submits the flush
abbrev pub quarantine_synced : State
quarantine_synced =
    run (times 6 (CallOf 0) ++ times 9 CommitStep
    ++ moved 0 ∷ moved 1 ∷ moved 2 ∷ moved 3 ∷ moved 4 ∷ moved 5 ∷ moved 6 ∷ moved 7 ∷ FlushStep None ∷ FlushStep (Some (completions.Flushed 8)) ∷ times 3 (CallOf 0))
    (start (6 ∷ []) quarantine)

abbrev pub quarantine_end : State
quarantine_end = run (times 8 CommitStep ++ CallOf 0 ∷ WriteBack 0 ∷ []) quarantine_synced

-- ---- a transaction that is full

abbrev pub mkdir : ℕ → Call
mkdir z = changing (z ∷ []) (2 ∷ 3 ∷ 4 ∷ 5 ∷ z ∷ []) [] (0 ∷ z ∷ [])

abbrev pub full : State
full = run (times 10 (CallOf 0)) (start (6 ∷ 7 ∷ 8 ∷ 9 ∷ 10 ∷ 11 ∷ 12 ∷ 13 ∷ 14 ∷ 15 ∷ 16 ∷ []) (mkdir 6 ∷ mkdir 7 ∷ mkdir 8 ∷ mkdir 9 ∷ mkdir 10 ∷ mkdir 11 ∷ mkdir 12 ∷ mkdir 13 ∷ mkdir 14 ∷ mkdir 15 ∷ mkdir 16 ∷ []))

-- ---- conflicts

abbrev pub conflict : List Call
conflict = mkdir 6 ∷ begun FileBarrier 6 ∷ changing (7 ∷ []) (2 ∷ 3 ∷ 4 ∷ 5 ∷ 7 ∷ []) [] (0 ∷ 7 ∷ []) ∷ begun FileBarrier 7 ∷ []

abbrev pub conflict_held : State
conflict_held = run (times 3 (CallOf 0) ++ times 10 CommitStep ++ times 4 (CallOf 0) ++ times 5 CommitStep) (start (6 ∷ 7 ∷ 8 ∷ []) conflict)

abbrev pub conflict_end : State
conflict_end = run (moved 0 ∷ moved 1 ∷ moved 2 ∷ moved 3 ∷ moved 4 ∷ moved 5 ∷ moved 6 ∷ moved 7 ∷ times 9 CommitStep ++ CallOf 0 ∷ []) conflict_held

-- ---- the log wraps: a log of nine places, and two transactions of five log blocks

abbrev pub small : LogRing
small = record { places = record { first = 1; past = 10 }; head = 1; used = 0; started = false; homes = [] }

abbrev pub wrap : List Call
wrap = changing [] (2 ∷ 4 ∷ 5 ∷ []) [] (0 ∷ 1 ∷ []) ∷ begun FileBarrier 1 ∷ changing [] (2 ∷ 4 ∷ 5 ∷ []) [] (0 ∷ 3 ∷ []) ∷ begun FileBarrier 3 ∷ []

abbrev pub wrapped : State
wrapped =
    run (times 3 (CallOf 0) ++ times 8 CommitStep ++ moved 5 ∷ times 4 (CallOf 0) ++ times 12 CommitStep ++ CallOf 0 ∷ [])
    (opened model setup (record { free = 6 ∷ []; waiting = [] }) small 64 1000 (wrap ∷ []))

-- ---- the transaction on its way changed the file

abbrev pub two_threads : List Call → List Call → State
two_threads first second = opened model setup (record { free = 6 ∷ 7 ∷ []; waiting = [] }) ring 64 1000 (first ∷ second ∷ [])

abbrev pub create : List Call
create = changing [] (2 ∷ 4 ∷ 5 ∷ []) [] (0 ∷ 1 ∷ []) ∷ begun FileBarrier 1 ∷ []

-- one thread waits for the file's transaction, of which two requests are sent, and the other asks for its data
abbrev pub on_its_way : State
on_its_way = run (times 3 (CallOf 0) ++ times 4 CommitStep ++ CallOf 1 ∷ []) (two_threads create (begun DataBarrier 1 ∷ []))

-- ---- a data barrier where nothing was to be sent

abbrev pub nothing_to_send : State
nothing_to_send = run (times 3 (CallOf 0) ++ times 8 CommitStep ++ CallOf 0 ∷ CallOf 1 ∷ []) (two_threads create (begun DataBarrier 1 ∷ []))

-- ---- an entry while a transaction is closed

abbrev pub begun_in_closing : State
begun_in_closing = run (times 3 (CallOf 0) ++ times 1 CommitStep ++ CallOf 1 ∷ times 1 CommitStep) (two_threads create (begun FileBarrier 1 ∷ []))

-- ---- an fsync: its commit block is on its way to the medium; then the flush is submitted

abbrev pub sync_sent : State
sync_sent = run (times 3 (CallOf 0) ++ times 8 CommitStep) (two_threads (changing [] (2 ∷ 4 ∷ 5 ∷ []) [] (0 ∷ 1 ∷ []) ∷ begun FileSync 1 ∷ []) [])

abbrev pub sync_moved : State
sync_moved = run (moved 5 ∷ []) sync_sent

abbrev pub sync_flushing : State
sync_flushing = run (FlushStep None ∷ FlushStep None ∷ FlushStep None ∷ []) sync_moved

abbrev pub sync_flushed : State
sync_flushed = run (FlushStep (Some (completions.Flushed 6)) ∷ []) sync_flushing

-- ---- two fsyncs of one transaction, and then an fbarrier

abbrev pub shared_moved : State
shared_moved =
    run (times 3 (CallOf 0) ++ times 2 (CallOf 1) ++ times 8 CommitStep ++ moved 5 ∷ [])
    (two_threads (changing [] (2 ∷ 4 ∷ 5 ∷ []) [] (0 ∷ 1 ∷ []) ∷ begun FileSync 1 ∷ []) (begun FileSync 1 ∷ begun FileBarrier 1 ∷ []))

abbrev pub shared_flushing : State
shared_flushing = run (FlushStep None ∷ FlushStep None ∷ []) shared_moved

abbrev pub shared_end : State
shared_end = run (FlushStep (Some (completions.Flushed 6)) ∷ CallOf 0 ∷ times 3 (CallOf 1)) shared_flushing

-- a thread would need that flush durable, behind which there is none, for a call of this kind
abbrev pub needing : ℕ → CallKind → State
needing t kind = set_wait model setup shared_end t (record { kind = kind; target = None; need = Some 6 })

-- a flush goes out, whoever waits
abbrev pub flushed_too : State → State
flushed_too s = with_flush model setup s (submit_flush s.journal.flush)

-- as it would behind a first step
abbrev pub with_one_more : List runs.Event → State
with_one_more [] = shared_end
with_one_more (e ∷ es) = flushed_too shared_end

-- ---- a body that is revoked, in a log of twelve places

abbrev pub twelve : LogRing
twelve = record { places = record { first = 1; past = 13 }; head = 1; used = 0; started = false; homes = [] }

abbrev pub remove : Call
remove = record { kind = Changing; node = 0; takes = []; touched = record { blocks = 2 ∷ 4 ∷ []; freed = 6 ∷ []; revoked = 6 ∷ []; pages = []; dropped = []; nodes = 0 ∷ 6 ∷ [] } }

abbrev pub revoked : State
revoked =
    run (times 3 (CallOf 0) ++ times 8 CommitStep ++ moved 5 ∷ times 4 (CallOf 0) ++ times 7 CommitStep ++ moved 10 ∷ times 4 (CallOf 0) ++ times 8 CommitStep)
    (opened model setup (record { free = 7 ∷ []; waiting = [] }) twelve 64 1000
    ((changing (6 ∷ []) (2 ∷ 4 ∷ 6 ∷ []) [] (0 ∷ 6 ∷ []) ∷ begun FileBarrier 6 ∷ remove ∷ begun FileBarrier 0 ∷ changing [] (2 ∷ []) [] (0 ∷ []) ∷ begun FileBarrier 0 ∷ []) ∷ []))
