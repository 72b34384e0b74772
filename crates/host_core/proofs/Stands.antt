-- How a thread stands is what the host's fields say of it.
use Rattle.std.proofs.Common.{◌≡◌, ◌-◌, ℕ, List, length, drop, Option, Some, None, slice_get, slice_index_or, sym, ap, arith, ◌∙◌}
use Rattle.std.proofs.lemmas.List.{length-drop}
use Rattle.blk_base.specs.laws.Members.{slice_get-map_some}
use Rattle.page_cache.specs.Pages.{Cache}
use Rattle.tree_model.specs.declared.call.Call.{Call}
use Rattle.volume_steps.specs.Now.{VolumeNow}
use Rattle.commit_actor.specs.Actor.{CommitActor}
use Rattle.flush_actor.specs.Waits.{no_wait}
use Rattle.flush_actor.specs.declared.wait.Wait.{Wait}
use Rattle.host_answers.specs.declared.standing.Stand.{Stand}
use Rattle.host_answers.specs.declared.standing.Standing.{Standing}
use Rattle.host_machine.specs.State as machine
use Rattle.host_core.specs.Now.{HostNow}
use Rattle.host_core.specs.Standings.{stand_of, standing_in, standing_of}
use Rattle.host_core.specs.code.Fields.{IsWithin, host_of, program_of, thread_of}
use Rattle.host_answers.specs.declared.entry.Entry.{Entry}
use Rattle.host_core.specs.declared.thread.Thread.{Thread}

pub standing_is : (j : CommitActor) (v : VolumeNow) (ps : Cache) (owners cuts : List ℕ) (h : List Entry) (ts : List Thread) (t : ℕ) (th : Thread) (w : Wait) (s : Stand) (calls : ℕ)
    → slice_get ts (t - 1) ≡ Some th → IsWithin th → w ≡ slice_index_or j.part.flush.waits (t - 1) no_wait → s ≡ stand_of j.part w th.begun → calls ≡ length th.program.items
    → Some (let x : Standing = record { answered = th.ended; calls = calls; state = s } in x) ≡ standing_of (host_of j v ps owners h cuts ts) t
standing_is j v ps owners cuts h ts t th w s calls there within wait state count =
    ap (λ (x : Stand). standing th.ended calls x) (state ∙ ap (λ (x : Wait). stand_of j.part x th.begun) wait)
    ∙ ap (λ n. standing th.ended n (stand_of j.part waits th.begun)) count
    ∙ ap (λ n. standing n (length th.program.items) (stand_of j.part waits th.begun)) answered
    ∙ sym (ap by_program (slice_get-map_some program_of ts (t - 1) th there) ∙ ap (by_thread th.program.items) (slice_get-map_some thread_of ts (t - 1) th there))
  where
    waits : Wait
    waits = slice_index_or j.part.flush.waits (t - 1) no_wait

    standing : ℕ → ℕ → Stand → Option Standing
    standing a n x = Some (record { answered = a; calls = n; state = x })

    answered : th.ended ≡ length th.program.items - length (drop th.ended th.program.items)
    answered = let left = length-drop th.ended th.program.items in let most = within.ended in omega arith

    now : HostNow
    now = host_of j v ps owners h cuts ts

    by_thread : List Call → Option (machine.Thread Call) → Option Standing
    by_thread program o = elim o as (λ _. Option Standing) [ None ↦ None | Some x ↦ Some (standing_in now t program x) ]

    by_program : Option (List Call) → Option Standing
    by_program o = elim o as (λ _. Option Standing) [ None ↦ None | Some program ↦ by_thread program (slice_get now.host.threads (t - 1)) ]
