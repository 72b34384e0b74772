-- How the parts of three sides fit.
use Rattle.std.proofs.Common.{◌≡◌, ℕ, List, ◌++◌, length, take, drop, Option, refl, sym, ap, subst, ◌∙◌, append_assoc}
use Rattle.std.specs.Option.{option_to_list}
use Rattle.std.proofs.lemmas.List.{take_at, take-append-drop}
use Rattle.order_model.specs.declared.command.Command.{Command}
use Rattle.order_model.specs.declared.completion.Completion.{Completion}
use Rattle.order_model.specs.declared.request.Request.{Request}
use Rattle.order_model.specs.Carrying.{SchedSeen, IsPrefixOf}
use Rattle.order_model.specs.Device.{Seen}
use Rattle.order_model.specs.Machine.{Machine}
use Rattle.schedulers.specs.reassign.Scheduler.{SchedSteps}
use Rattle.host_core.specs.Now.{HostNow}
use Rattle.minix_host.specs.Sessions.{Opening}
use Rattle.session_core.specs.run.machine.Machine.{Start}
use Rattle.session_core.specs.run.parts.Joined.{PartsFit}
use Rattle.thread_sides.specs.declared.events.Effects.{Effects}
use Rattle.thread_sides.specs.DeviceReplay as device
use Rattle.thread_sides.specs.SchedReplay as scheduler
use Rattle.session_threads.specs.sides.Ended.{HasEnded}
use Rattle.session_threads.specs.sides.HostReplay.{HostSideNow, IsHostReplay}
use Rattle.session_threads.specs.sides.Sides.{AreSides}

prefix : {X : Type 0} (xs rest ys : List X) → ys ≡ xs ++ rest → IsPrefixOf xs ys
prefix xs rest ys e = (length xs, sym (ap (take (length xs)) e ∙ take_at xs rest (length xs) refl))

-- what stands behind a prefix
pub rest_of : {X : Type 0} (xs ys : List X) → IsPrefixOf xs ys → (rest : List X) × (ys ≡ xs ++ rest)
rest_of xs ys p = (drop p.0 ys, sym (take-append-drop p.0 ys) ∙ ap (λ l. l ++ drop p.0 ys) (sym p.1))

pub parts_fit : (requests accepted : List Request) (unfit : Option Request) (sent_out received : List Command) (kept unfit_command : Option Command) (taken posted : List Completion) (kept_completion : Option Completion) (p : SchedSeen) (d : Seen)
    → accepted ≡ p.accepted ++ option_to_list unfit → p.sent_out ≡ sent_out ++ option_to_list kept → received ≡ d.took ++ option_to_list unfit_command → d.sent ≡ posted ++ option_to_list kept_completion
    → IsPrefixOf accepted requests → IsPrefixOf received sent_out → IsPrefixOf taken posted → PartsFit requests taken p d
parts_fit requests accepted unfit sent_out received kept unfit_command taken posted kept_completion p d accepted_is out_is received_is sent_is first_requests first_commands first_completions =
    let rs = rest_of accepted requests first_requests in
    let cs = rest_of received sent_out first_commands in
    let xs = rest_of taken posted first_completions in
    record {
      accepted = prefix p.accepted (option_to_list unfit ++ rs.0) requests (rs.1 ∙ ap (λ l. l ++ rs.0) accepted_is ∙ append_assoc p.accepted (option_to_list unfit) rs.0);
      received = prefix d.took (option_to_list unfit_command ++ (cs.0 ++ option_to_list kept)) p.sent_out
          (out_is ∙ ap (λ l. l ++ option_to_list kept) (cs.1 ∙ ap (λ l. l ++ cs.0) received_is) ∙ append_assoc (d.took ++ option_to_list unfit_command) cs.0 (option_to_list kept)
          ∙ append_assoc d.took (option_to_list unfit_command) (cs.0 ++ option_to_list kept));
      taken_is = prefix taken (xs.0 ++ option_to_list kept_completion) d.sent (sent_is ∙ ap (λ l. l ++ option_to_list kept_completion) xs.1 ∙ append_assoc taken xs.0 (option_to_list kept_completion));
    }

-- ---- the sides

module _ {K S : Type 0} (s : Opening) (b : Start) (k : SchedSteps K) (sched_first : K) (m : Machine S) (dev_first : S) where
  pub sides_joined : (effects : Effects) (host : HostNow) (sent : List Request) (taken : List Completion) (sched : K) (sent_out : List Command) (accepted : List Request) (dev : S) (posted : List Completion) (received : List Command)
      → IsHostReplay s b (record { host = host; events = effects.host.items; sent = sent; taken = taken }) → scheduler.WasInSide k sched_first sched effects.sched.items sent_out accepted
      → device.WasInSide m dev_first dev effects.dev.items posted received → IsPrefixOf accepted sent → IsPrefixOf received sent_out → IsPrefixOf taken posted
      → AreSides s b k sched_first m dev_first effects host sched dev
  sides_joined effects host sent taken sched sent_out accepted dev posted received h p d requests commands completions =
      let rs = host.host.journal.flush.requests in
      let cs = host.host.journal.flush.taken in
      let these = subst (λ (l : List Request). IsPrefixOf accepted l) h.sent requests in
      let those = subst (λ (l : List Completion). IsPrefixOf l posted) h.taken completions in
      record {
        accepted = accepted;
        sent_out = sent_out;
        received = received;
        posted = posted;
        host_is = subst (λ (x : HostSideNow). IsHostReplay s b x) (λ i. record { host = host; events = effects.host.items; sent = h.sent i; taken = h.taken i }) h;
        sched_is = p;
        device_is = d;
        requests = these;
        commands = commands;
        completions = those;
        fit = parts_fit rs accepted p.unfit sent_out received p.kept d.unfit cs posted d.kept (k.seen sched) (m.seen dev) p.side.accepted p.side.sent d.side.received d.side.sent these commands those;
      }

-- what was tested of the sides holds of the parts that come out of them
pub ended_as : (cut : Option ℕ) (h k : HostNow) (p q : SchedSeen) (d e : Seen) → k ≡ h → q ≡ p → e ≡ d → HasEnded cut h.host p d → HasEnded cut k.host q e
ended_as cut h k p q d e same_host same_sched same_dev is =
    subst (λ (x : HostNow). HasEnded cut x.host q e) (sym same_host) (subst (λ (x : SchedSeen). HasEnded cut h.host x e) (sym same_sched) (subst (λ (x : Seen). HasEnded cut h.host p x) (sym same_dev) is))
