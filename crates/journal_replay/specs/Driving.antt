-- The run of a recovery on a device: what it sends, the steps that it makes, and when it ends.
use Rattle.std.specs.Prelude.{◌≡◌, ℕ, zero, suc, Bool, true, false, not, ◌&&◌, replicate, nat_lt, if◌then◌else◌, List, [], ◌∷◌, ◌++◌, length, Option, Some, None}
use Rattle.order_model.specs.declared.command.Command.{Command}
use Rattle.order_model.specs.declared.completion.Completion.{Completion}
use Rattle.order_model.specs.declared.completion.Completion.TheVariants as completion
use Rattle.order_model.specs.Device.{Seen}
use Rattle.order_model.specs.Steps.{OnlyReads}
use Rattle.order_model.specs.Machine.{Machine}
use Rattle.journal_replay.specs.declared.choice.Choice.{Choice}
use Rattle.journal_replay.specs.declared.choice.Choice.TheVariants as choice
use Rattle.journal_replay.specs.declared.choice.Repeated.{Repeated}
use Rattle.journal_replay.specs.declared.end.End.{End}
use Rattle.journal_replay.specs.declared.end.End.TheVariants as ends

-- a device, and the commands that it is still to get
pub record Driven (S : Type 0) : Type 0 where
  pub dev : S
  pub rest : List Command

-- the choices that these say, one by one
abbrev pub all_choices : List Repeated → List Choice
all_choices [] = []
all_choices (r ∷ rs) = replicate r.times r.choice ++ all_choices rs

-- the first flush or failure ends a run, and a cut does not
abbrev pub by_completion : End → Completion → End
by_completion ends.Running (completion.Flushed id) = ends.Flushed
by_completion ends.Running (completion.Failed id) = ends.Failed id
by_completion ends.Running (completion.Moved id) = ends.Running
by_completion ends.Running completion.Cut = ends.Running
by_completion ends.Flushed c = ends.Flushed
by_completion (ends.Failed id) c = ends.Failed id

-- the end that a list of completions brings, which is that of the first flush or failure
abbrev pub end_after : End → List Completion → End
end_after e [] = e
end_after e (c ∷ cs) = end_after (by_completion e c) cs

-- by all completions that the device has sent
abbrev pub end_of : Seen → End
end_of s = end_after ends.Running s.sent

abbrev pub is_running : End → Bool
is_running ends.Running = true
is_running ends.Flushed = false
is_running (ends.Failed id) = false

-- it is that of a command that failed
abbrev pub is_failed : End → Bool
is_failed ends.Running = false
is_failed ends.Flushed = false
is_failed (ends.Failed id) = true

module _ {S : Type 0} where
  -- commands go out while there is room
  abbrev pub sent : Machine S → S → List Command → Driven S
  sent m s [] = record { dev = s; rest = [] }
  sent m s (c ∷ cs) = if m.has_room s then sent m (m.received s c) cs else record { dev = s; rest = c ∷ cs }

  -- one device step
  abbrev pub chosen : Machine S → Choice → S → S
  chosen m (choice.Transfer pick) s = m.transferred s pick
  chosen m (choice.Persist pick) s = m.persisted s pick
  chosen m choice.Default s = if nat_lt 0 (m.can_transfer s) then m.transferred s 0 else m.persisted s 0

  -- completions are taken until none waits; n is how many can be
  abbrev pub drained_by : Machine S → ℕ → Option Completion → S → S
  drained_by m n None s = s
  drained_by m zero (Some c) s = s
  drained_by m (suc n) (Some c) s = drained_by m n (m.next_answer (m.answered s)) (m.answered s)

  -- all completions that wait are taken
  abbrev pub drained : Machine S → S → S
  drained m s = drained_by m (length (m.seen s).waiting) (m.next_answer s) s

  -- a device step, and then all completions are taken
  abbrev pub stepped : Machine S → Choice → S → S
  stepped m c s = drained m (chosen m c s)

  -- what there is room for is sent, and one step follows
  abbrev pub turned_from : Machine S → Choice → Driven S → Driven S
  turned_from m c e = record { dev = stepped m c e.dev; rest = e.rest }

  -- one turn; an end ends it
  abbrev pub turned : Machine S → Choice → Driven S → Driven S
  turned m c d = if is_running (end_of (m.seen d.dev)) then turned_from m c (sent m d.dev d.rest) else d

  -- a run by a list of choices, behind which it sends what there is room for
  abbrev pub driven : Machine S → List Choice → Driven S → Driven S
  driven m [] d = if is_running (end_of (m.seen d.dev)) then sent m d.dev d.rest else d
  driven m (c ∷ cs) d = driven m cs (turned m c d)

  -- blocks are read, one after the other
  abbrev pub after_reads : Machine S → S → List ℕ → S
  after_reads m s [] = s
  after_reads m s (b ∷ bs) = after_reads m (m.after_read s b) bs

  -- none of these reads fails
  abbrev pub can_read : Machine S → S → List ℕ → Bool
  can_read m s [] = true
  can_read m s (b ∷ bs) = not (m.read_fails s) && can_read m (m.after_read s b) bs

  -- some blocks were read, none of which failed, and nothing else was done
  abbrev pub WereRead : Machine S → S → S → Type 0
  WereRead m first now = (blocks : List ℕ) × (now ≡ after_reads m first blocks) × (can_read m first blocks ≡ true)

-- some blocks were read, then one that could not be, and nothing else was done
pub record FailsToRead {S : Type 0} (m : Machine S) (first now : S) : Type 0 where
  pub before : S
  pub were : WereRead m first before
  pub fails : m.read_fails before ≡ true
  pub block : ℕ
  pub last : now ≡ m.after_read before block

-- The device was read, and then these commands went to it: the steps are those of the list, and where the run is not cut
-- behind the list, it goes on by default to its end.
pub record IsRun {S : Type 0} (m : Machine S) (commands : List Command) (steer : List Choice) (cut : Bool) (old new : S) : Type 0 where
  pub start : S
  pub reads : OnlyReads (m.seen old) (m.seen start)
  pub from : WereRead m old start
  pub cut_run : cut ≡ true → new ≡ (driven m steer (record { dev = start; rest = commands })).dev
  pub whole_run : cut ≡ false → (turns : ℕ) × (new ≡ (driven m (replicate turns choice.Default) (driven m steer (record { dev = start; rest = commands }))).dev)
  pub over : cut ≡ false → is_running (end_of (m.seen new)) ≡ false
