-- Replies are those of the tree where a call ends.
use Rattle.std.specs.Prelude.{◌≡◌, ℕ, ◌+◌, false}
use Rattle.std.proofs.Common.{sym, ap, ◌∙◌, arith}
use Rattle.std.proofs.lemmas.Bool.{false≢true}
use Rattle.tree_model.specs.declared.call.Call.{Call}
use Rattle.tree_model.specs.declared.call.Reply.{Reply}
use Rattle.tree_model.specs.Calls.{reply_of}
use Rattle.volume_steps.specs.Now.{room_of}
use Rattle.call_sessions.specs.promises.Trees.{tree_at}
use Rattle.session_grammar.specs.declared.session_script.SessionScript.{SessionScript}
use Rattle.session_core.specs.CallEnds.{IsTreesReply, AtItsEnd, AtItsBegin}
use Rattle.session_core.specs.CallNames.{is_barrier_or_sync}
use Rattle.session_core.specs.Core.{EndState, opening_of}
use Rattle.session_core.specs.Headline.{HeadlineOn}
use Rattle.session_core.specs.declared.report.SessionReport.{SessionReport}
use Rattle.session_core.proofs.CallNames.{begun}

pub replied_there : (s : SessionScript) (end : EndState) (r : SessionReport) → HeadlineOn s end r → (i t : ℕ) (c : Call) (reply : Reply) → is_barrier_or_sync c ≡ false → IsTreesReply (opening_of s) end.host i t c reply
    → reply ≡ reply_of (room_of (opening_of s).geometry) (tree_at (opening_of s) end.host i) (i + 1) c
replied_there s end r is i t c reply other (AtItsEnd same) =
    let number : 0 + (i + 1) ≡ i + 1 = omega arith in
    same ∙ ap (λ n. reply_of (room_of (opening_of s).geometry) (tree_at (opening_of s) end.host i) n c) number
replied_there s end r is i t c reply other (AtItsBegin b began same) =
    absurd (false≢true (sym other ∙ sym (begun c) ∙ (is.follows.begins b t c began.begins).0))
