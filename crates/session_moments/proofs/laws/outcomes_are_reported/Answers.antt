use Rattle.std.proofs.Common.{List, ℕ, length, filter, ap, ◌∙◌}
use Rattle.order_model.specs.declared.request.Request.{Request}
use Rattle.order_model.specs.OrderClosed.{is_flush}
use Rattle.tree_model.specs.declared.call.Call.{Call}
use Rattle.tree_model.specs.declared.call.Reply.{Reply}
use Rattle.volume_steps.specs.Now.{VolumeNow}
use Rattle.host_machine.specs.State.{Host}
use Rattle.mount_make.specs.Images.{image_tree}
use Rattle.call_sessions.specs.power_cuts.calls.CallImages.{found_in}
use Rattle.session_core.specs.Core.{geometry_of}
use Rattle.session_moments.proofs.laws.outcomes_are_reported.Goals as goal

pub returns : goal.returns
returns c = λ s i r is.
    let p = is.report in
    record {
      steps = p.trace.steps;
      answered = ap (λ (h : Host VolumeNow Call Reply). length h.history) p.host;
      flushes = ap (λ (h : Host VolumeNow Call Reply). length (filter (λ (x : Request). is_flush x.kind) h.journal.flush.requests)) p.host;
      found = p.found ∙ ap (λ (m : List (List ℕ)). found_in (geometry_of s).zones 1 m) p.image;
      tree = ap image_tree p.image;
    }
