-- A call that nothing stops goes on.
use Rattle.std.proofs.Common.{◌≡◌, ℕ, Bool, List, Option, Some, None, sym, ap, ◌∙◌}
use Rattle.std.specs.Option.{option_map}
use Rattle.tree_model.specs.declared.call.Call.{Call}
use Rattle.tree_model.specs.declared.call.Reply.{Reply}
use Rattle.journal_ring.specs.running.Plan.{Writers}
use Rattle.host_machine.specs.State.{Ending, Begun}
use Rattle.minix_host.specs.Calls.{kind_of}
use Rattle.host_core.specs.at_once.Steps.{CallParts}
use Rattle.host_core.specs.code.Progress.{Went, Over, stop_of, goes_further, steps_call, progress_is}
use Rattle.host_core.specs.declared.call_progress.CallProgress.{CallProgress}

nothing : (list : List (ℕ × ℕ)) (o : Option CallProgress) (stop : Option (Ending Reply)) → o ≡ None → option_map (progress_is list) o ≡ option_map Over stop → stop ≡ None
nothing list o None none e = cc
nothing list o (Some x) none e = let same : option_map (progress_is list) None ≡ Some (Over x) = ap (option_map (progress_is list)) (sym none) ∙ e in cc

pub unstopped : (full : Bool) (w : Writers) (zmap most : ℕ) (p : CallParts) (n t : ℕ) (b : Option Begun) (c : Call) (list : List (ℕ × ℕ)) (o : Option CallProgress)
    → o ≡ None → option_map (progress_is list) o ≡ option_map Over (stop_of p.journal.flush.taken (kind_of c)) → goes_further full w zmap most p n t b c ≡ steps_call full w zmap most p n t b c
unstopped full w zmap most p n t b c list o none e =
    ap (λ x. elim x as (λ _. Went) [ Some stop ↦ record { parts = p; progress = Over stop } | None ↦ goes_further full w zmap most p n t b c ]) (sym (nothing list o (stop_of p.journal.flush.taken (kind_of c)) none e))
