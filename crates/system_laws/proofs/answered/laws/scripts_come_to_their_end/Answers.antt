use Rattle.std.proofs.Common.{refl, sym, ap, subst, ◌∙◌}
use Rattle.std.specs.Prelude.{slice_get}
use Rattle.device_epochs.specs.laws.ReachableLaws as epochs
use Rattle.flog_device.specs.laws.ReachableLaws as flash
use Rattle.stack_core.specs.Core.{epoch_machine, flash_machine}
use Rattle.session_core.specs.Core.{device_for, flash_for, geometry_of, opening_of}
use Rattle.session_core.specs.run.parts.Whole.{IsWhole}
use Rattle.tree_model.specs.declared.call.Call.{Call}
use Rattle.tree_model.specs.declared.call.Reply.{Reply}
use Rattle.volume_steps.specs.Now.{VolumeNow}
use Rattle.crash_laws.specs.LegalHistory.{of_thread}
use Rattle.host_machine.specs.State.{Host}
use Rattle.call_sessions.specs.Sessions.{made_now, made_ring}
use Rattle.call_sessions.specs.promises.Legal.{events_in, program_of}
use Rattle.session_core.proofs.Remounts.{model_is_new, flash_is_new}
use Rattle.system_laws.proofs.AnsweredLemmas.ScriptRounds.{on_device, rounds_end}
use Rattle.system_laws.proofs.answered.laws.scripts_come_to_their_end.Goals as goal

pub returns : goal.returns
returns c = record {
  rounds = λ s is uncut unfailed. rounds_end s is
      (on_device s is epoch_machine _ _ _ (device_for s) (epochs.opened-valid _ _ is.header.some_depth) uncut (record { fails = unfailed; misreads = refl }) (model_is_new s (device_for s) refl)
      c.sessions_never_get_stuck.ensures.rounds c.sessions_never_get_stuck-2.ensures.rounds)
      (λ segments named. on_device s is flash_machine _ _ _ (flash_for s segments) (flash.opened-valid _ _ is.header.some_depth (is.header.least_flash segments named)) uncut unfailed (flash_is_new s segments (flash_for s segments) refl)
      c.sessions_never_get_stuck-3.ensures.rounds c.sessions_never_get_stuck-4.ensures.rounds);
  answers = λ s end r said free none. record {
    whole = λ t.
        let host = said.run.host in
        subst (λ (h : Host VolumeNow Call Reply). IsWhole (of_thread t (events_in h.history)) (program_of s.programs t)) (sym host)
        (c.ended_threads_did_their_programs.ensures (opening_of s) (made_now (geometry_of s)) (made_ring s.journal) s.header.limit s.programs said.run.events t
        (λ th at. none t th (ap (λ (h : Host VolumeNow Call Reply). slice_get h.threads t) host ∙ at)));
    by_tree = c.calls_end_as_their_script_says.ensures.by_tree s end r said free;
  };
}
