-- Hosts with a call that waits, each for another cause.
use Rattle.std.specs.Prelude.{[], ◌∷◌}
use Rattle.order_model.specs.declared.note.Note.TheVariants.{Flush, Commit}
use Rattle.commit_actor.specs.Journal.{Closing, Committing}
use Rattle.flush_actor.specs.declared.call_kind.CallKind.{CallKind}
use Rattle.flush_actor.specs.declared.call_kind.CallKind.TheVariants.{FileBarrier, FileSync}
use Rattle.host_machine.specs.laws.Rows.{State, changing}
use Rattle.host_tests.specs.machine.FullHosts.{needs_zones}
use Rattle.host_tests.specs.machine.HeldHosts.{hold, toward_need}
use Rattle.host_tests.specs.machine.Samples.{asked, begun_on, in_phase, changed, plan, commit_of, submitted, waiting_for, holding, toward}

-- a call that changes something, while a transaction is closed
abbrev pub in_closing : State
in_closing = in_phase Closing (asked (changing [] [] [] []) [])

-- a call that needs two zones, where one is free; the commit block of transaction 2 is the next request, and a zone waits for it
abbrev pub zones_soon : State
zones_soon = in_phase (Committing (plan (commit_of 2 ∷ []) [])) (needs_zones (1 ∷ 3 ∷ []))

-- an `fbarrier` waits for transaction 2, which wants block 4; transaction 1 holds it, with its commit block as request 0
abbrev pub wants_held : State
wants_held = holding (hold 4 1 ∷ []) (4 ∷ []) (submitted (Commit 1 ∷ []) (waiting_for (toward FileBarrier 2 ∷ []) (changed 2 [] (begun_on FileBarrier []))))

-- a call waits for transaction 1, of whose plan two requests are left
abbrev pub two_left : CallKind → State
two_left kind = in_phase (Committing (plan (commit_of 1 ∷ commit_of 1 ∷ []) [])) (waiting_for (toward kind 1 ∷ []) (changed 2 [] (begun_on kind [])))

-- an `fsync` needs request 1 durable, with a flush before it and one behind it
abbrev pub needs_one : State
needs_one = submitted (Flush ∷ Commit 1 ∷ Flush ∷ []) (waiting_for (toward_need 1 ∷ []) (changed 2 [] (begun_on FileSync [])))
