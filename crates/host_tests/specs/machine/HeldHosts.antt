-- Hosts with held blocks, and one after a call that did much.
use Rattle.std.specs.Prelude.{ℕ, false, List, [], ◌∷◌, replicate, Some}
use Rattle.order_model.specs.declared.completion.Completion.{Completion}
use Rattle.order_model.specs.declared.note.Note.{Note}
use Rattle.page_cache.specs.declared.cached_page.PageState.TheVariants.{Firm}
use Rattle.commit_actor.specs.Journal.{Closing}
use Rattle.flush_actor.specs.declared.call_kind.CallKind.TheVariants.{Changing, FileSync}
use Rattle.flush_actor.specs.declared.conflicts.held.Held.{Held}
use Rattle.flush_actor.specs.declared.wait.Wait.{Wait}
use Rattle.host_machine.specs.Host.{opened}
use Rattle.host_machine.specs.laws.Rows.{State, Call, CallOf, model, setup, ring, run, begun, changing}
use Rattle.host_tests.specs.machine.Samples.{page, asked, in_phase, submitted, took, waiting_for, holding}

abbrev pub held_of : State → List Held
held_of s = s.journal.flush.conflicts.held

abbrev pub wanted_of : State → List ℕ
wanted_of s = s.journal.flush.conflicts.wanted

-- this block, held by this transaction
abbrev pub hold : ℕ → ℕ → Held
hold b k = record { block = b; transaction = k }

-- what a call waits for that needs this request durable
abbrev pub toward_need : ℕ → Wait
toward_need id = record { kind = FileSync; target = Some 1; need = Some id }

-- transaction 1 holds block 4 and transaction 2 block 7, and both are wanted; requests with these notes were submitted
abbrev pub sync_host : List Note → List Wait → List Completion → State
sync_host ns ws cs = waiting_for ws (holding (hold 4 1 ∷ hold 7 2 ∷ []) (4 ∷ 7 ∷ []) (took cs (submitted ns (asked (begun FileSync 0) []))))

-- transaction 3 is closed, with two blocks
abbrev pub closing_three : State
closing_three = in_phase Closing (with_blocks (asked (begun FileSync 0) []))
  where
    with_blocks : State → State
    with_blocks s = record s { journal = record s.journal { running = record { number = 3; touched = 4 ∷ 7 ∷ []; revoked = []; changed = []; wanted = false } } }

-- ---- a call that did much

abbrev pub much : Call
much = record {
  kind = Changing;
  node = 0;
  takes = [];
  touched = record {
    blocks = 4 ∷ 5 ∷ 8 ∷ 9 ∷ [];
    freed = 9 ∷ [];
    revoked = 9 ∷ [];
    pages = record { birth = 1; index = 0; block = 10 } ∷ record { birth = 1; index = 2; block = 12 } ∷ [];
    dropped = record { birth = 1; index = 1; block = 11 } ∷ [];
    nodes = 1 ∷ 2 ∷ [];
  };
}

abbrev pub before_call : State
before_call = with_all (opened model setup (record { free = []; waiting = [] }) ring 64 1000 ((changing [] [] [] [] ∷ much ∷ []) ∷ []))
  where
    with_all : State → State
    with_all s = holding (hold 4 1 ∷ hold 9 2 ∷ []) [] (record s {
      pages = page 1 0 Firm ∷ page 1 1 Firm ∷ [];
      owners = replicate 64 2;
      journal = record s.journal { running = record { number = 3; touched = 2 ∷ 5 ∷ []; revoked = 6 ∷ []; changed = 1 ∷ []; wanted = false } };
    })

abbrev pub call_left : State
call_left = run (CallOf 0 ∷ CallOf 0 ∷ []) before_call
