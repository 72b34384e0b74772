-- Each barrier or sync call is on all files or has a path, and began where it was answered.
use Rattle.std.specs.Prelude.{◌≡◌, ◌⊎◌, ℕ, true, List, refl}
use Rattle.std.proofs.Common.{◌∙◌, inl, inr}
use Rattle.std.proofs.lemmas.Bool.{false≢true}
use Rattle.tree_model.specs.declared.call.Call.{Call}
use Rattle.tree_model.specs.declared.call.Call.TheVariants as calls
use Rattle.tree_model.specs.declared.call.Reply.TheVariants as replies
use Rattle.host_machine.specs.State.{Answered}
use Rattle.call_sessions.specs.promises.Entries.{EndsAt}
use Rattle.session_grammar.specs.declared.session_script.SessionScript.{SessionScript}
use Rattle.session_core.specs.CallNames.{is_barrier_or_sync, covers_all_files}
use Rattle.session_core.specs.Core.{EndState}
use Rattle.session_core.specs.Headline.{HeadlineOn}
use Rattle.session_core.specs.declared.report.SessionReport.{SessionReport}
use Rattle.session_core.proofs.CallNames.{begun}
use Rattle.system_laws.specs.covered.Calls.{HasPath, of_fsync, of_fdatasync, of_fbarrier, of_fdatabarrier, IsAnsweredOk}

pub files : (c : Call) → is_barrier_or_sync c ≡ true → (covers_all_files c ≡ true) ⊎ ((path : List ℕ) × HasPath c path)
files (calls.Mkdir path) is = absurd (false≢true is)
files (calls.Rmdir path) is = absurd (false≢true is)
files (calls.Create path) is = absurd (false≢true is)
files (calls.Unlink path) is = absurd (false≢true is)
files (calls.Link path other) is = absurd (false≢true is)
files (calls.Rename path other) is = absurd (false≢true is)
files (calls.Truncate path size) is = absurd (false≢true is)
files (calls.Write path off len value) is = absurd (false≢true is)
files (calls.Bytes path off bytes) is = absurd (false≢true is)
files (calls.Read path off len) is = absurd (false≢true is)
files (calls.List path) is = absurd (false≢true is)
files (calls.Stat path) is = absurd (false≢true is)
files (calls.Fsync path) is = inr (path, of_fsync path)
files (calls.Fdatasync path) is = inr (path, of_fdatasync path)
files (calls.Fbarrier path) is = inr (path, of_fbarrier path)
files (calls.Fdatabarrier path) is = inr (path, of_fdatabarrier path)
files calls.Sync is = inl refl

pub answered : (s : SessionScript) (end : EndState) (r : SessionReport) → HeadlineOn s end r → (e t : ℕ) (c : Call) → is_barrier_or_sync c ≡ true → EndsAt end.host.history e t c (Answered replies.Ok) → (b : ℕ) × IsAnsweredOk end.host b e t c
answered s end r is e t c named ended = let w = is.answered e t c (ended, begun c ∙ named) in (w.place, record { named = named; began = w.began; ended = ended })
