-- The steps of a host as code has it are those of the session that it is in.
use Rattle.std.proofs.Common.{◌≡◌, ℕ, Bool, List, [], ◌∷◌, ◌++◌, Option, refl, sym, ap, subst, ◌∙◌}
use Rattle.order_model.specs.declared.completion.Completion.{Completion}
use Rattle.tree_model.specs.declared.call.Call.{Call}
use Rattle.tree_model.specs.declared.call.Reply.{Reply}
use Rattle.minix_layout.specs.declared.division.Geometry.{Geometry}
use Rattle.page_cache.specs.Pages.{Cache}
use Rattle.journal_ring.specs.Journal.{JournalRing}
use Rattle.journal_ring.specs.LogRing.{LogRing}
use Rattle.journal_ring.specs.running.Closing.{writers}
use Rattle.journal_ring.specs.running.Open.{quota}
use Rattle.journal_ring.specs.running.Plan.{Writers}
use Rattle.volume_steps.specs.Now.{VolumeNow}
use Rattle.host_core.specs.Now.{HostNow, with_host, host_made, model_now, setup_now}
use Rattle.host_machine.specs.Host.{advance, commit_step, writeback, flush_step, take_step, opened}
use Rattle.host_machine.specs.Model.{Model}
use Rattle.host_machine.specs.State.{Host, Setup}
use Rattle.host_machine.specs.runs.Runs.{Event, stepped, steps}
use Rattle.host_machine.specs.runs.Runs as runs
use Rattle.host_machine.specs.runs.laws.Written.{AreWritten}
use Rattle.minix_host.specs.PlainTrees.{PlainTree}
use Rattle.minix_host.specs.Runs.{IsNewOpening, IsOpenedVolume, HasEmptyJournal}
use Rattle.minix_host.specs.Sessions.{Opening, model_of, model_from}
use Rattle.session_core.specs.run.CodeHosts.{HasJournal, IsInSession}
use Rattle.call_sessions.specs.Sessions.{WriteBytes, call_over, opened_with, host_behind, KeepsCalls}
use Rattle.call_sessions.proofs.CallsKept.{same_geometry, calls_kept}

-- ---- a host that is made

abbrev setup_by : Geometry → ℕ → Writers → ℕ → ℕ → Setup
setup_by g sequence w q zones = record { journal = zones; sequence = sequence; writers = w; zmap = g.zmap; quota = q }

-- the model of a new opening's division is that of the opening
new_model : (s : Opening) → IsNewOpening s → model_of (λ (c : Call). c) s.geometry ≡ (call_over s).model
new_model s new = ap (λ (t : PlainTree). model_from (λ (c : Call). c) s.geometry t 0) (sym new.tree) ∙ ap (model_from (λ (c : Call). c) s.geometry s.tree) (sym new.first)

pub made_in_session : (s : Opening) (v : VolumeNow) (ps : Cache) (r : JournalRing) (programs : List (List Call)) → IsNewOpening s → v.geometry ≡ s.geometry → HasJournal s r.made_with → IsInSession s v r.ring r.limit programs [] (host_made v ps r programs)
made_in_session s v ps r programs new same j = record {
  new = new;
  host =
      ap (λ (g : Geometry). opened (model_of (λ (c : Call). c) g) (setup_by g r.made_with.sequence (writers r.made_with) (quota r.made_with) g.zones) v r.ring g.zones r.limit programs) same
      ∙ ap (λ m. opened m (setup_by s.geometry r.made_with.sequence (writers r.made_with) (quota r.made_with) s.geometry.zones) v r.ring s.geometry.zones r.limit programs) (new_model s new);
  calls = refl;
  behind_zones = ap (λ (g : Geometry). g.zones) same;
  journal = j;
}

-- ---- a host in a session

-- one more step
steps_more : (s : Opening) (h : Host VolumeNow Call Reply) (events : List Event) (e : Event) → steps (call_over s) h (events ++ e ∷ []) ≡ stepped (call_over s) (steps (call_over s) h events) e
steps_more s h [] e = refl
steps_more s h (x ∷ events) e = steps_more s (stepped (call_over s) h x) events e

module _ (s : Opening) (v : VolumeNow) (ring : LogRing) (limit : ℕ) (programs : List (List Call)) (written : AreWritten s.format s.writers) (o : IsOpenedVolume s v) (j : HasEmptyJournal s ring limit) (bytes : WriteBytes programs) (events : List Event) (h : HostNow) (inside : IsInSession s v ring limit programs events h) where
  geometry_is : h.host.volume.geometry ≡ s.geometry
  geometry_is = ap (λ x. x.volume.geometry) inside.host ∙ same_geometry s v ring limit programs written o j bytes events

  pub model_is : model_now h ≡ (call_over s).model
  model_is = ap (λ (g : Geometry). model_of (λ (c : Call). c) g) geometry_is ∙ new_model s inside.new

  pub setup_is : setup_now h ≡ (call_over s).setup
  setup_is =
      ap (λ (g : Geometry). setup_by g h.made_with.sequence (writers h.made_with) (quota h.made_with) h.journal) geometry_is
      ∙ ap (λ n. setup_by s.geometry n (writers h.made_with) (quota h.made_with) h.journal) inside.journal.sequence
      ∙ ap (λ w. setup_by s.geometry s.sequence w (quota h.made_with) h.journal) inside.journal.writers_are
      ∙ ap (λ q. setup_by s.geometry s.sequence s.writers q h.journal) inside.journal.quota_is
      ∙ ap (λ n. setup_by s.geometry s.sequence s.writers s.quota n) inside.behind_zones

  -- a step that the code's host made is the session's next one
  goes_on : (step : Model PlainTree VolumeNow Call Reply → Setup → Host VolumeNow Call Reply → Host VolumeNow Call Reply) (e : Event) → ((x : Host VolumeNow Call Reply) → step (call_over s).model (call_over s).setup x ≡ stepped (call_over s) x e)
      → (new : HostNow) → new ≡ with_host h (step (model_now h) (setup_now h) h.host) → IsInSession s v ring limit programs (events ++ e ∷ []) new
  goes_on step e is new did = record {
    new = inside.new;
    host =
        ap (λ x. x.host) did ∙ ap (λ m. step m (setup_now h) h.host) model_is ∙ ap (λ u. step (call_over s).model u h.host) setup_is ∙ ap (step (call_over s).model (call_over s).setup) inside.host
        ∙ is (host_behind s v ring limit programs events) ∙ sym (steps_more s (opened_with s v ring limit programs) events e);
    calls = ap (λ x. x.programs) did ∙ inside.calls;
    behind_zones = ap (λ x. x.journal) did ∙ inside.behind_zones;
    journal = record {
      sequence = ap (λ x. x.made_with.sequence) did ∙ inside.journal.sequence;
      writers_are = ap (λ x. writers x.made_with) did ∙ inside.journal.writers_are;
      quota_is = ap (λ x. quota x.made_with) did ∙ inside.journal.quota_is;
    };
  }

  pub call_goes_on : (full : Bool) (t : ℕ) (new : HostNow) → new ≡ with_host h (advance (model_now h) (setup_now h) full h.host t).host → IsInSession s v ring limit programs (events ++ runs.Call full t ∷ []) new
  call_goes_on full t new did = goes_on (λ m u x. (advance m u full x t).host) (runs.Call full t) (λ x. refl) new did

  pub commit_goes_on : (full : Bool) (new : HostNow) → new ≡ with_host h (commit_step (model_now h) (setup_now h) full h.host).host → IsInSession s v ring limit programs (events ++ runs.Commit full ∷ []) new
  commit_goes_on full new did = goes_on (λ m u x. (commit_step m u full x).host) (runs.Commit full) (λ x. refl) new did

  pub writeback_goes_on : (full : Bool) (pick : ℕ) (new : HostNow) → new ≡ with_host h (writeback (model_now h) (setup_now h) full h.host pick).host → IsInSession s v ring limit programs (events ++ runs.WriteBack full pick ∷ []) new
  writeback_goes_on full pick new did = goes_on (λ m u x. (writeback m u full x pick).host) (runs.WriteBack full pick) (λ x. refl) new did

  pub flush_goes_on : (full : Bool) (next : Option Completion) (new : HostNow) → new ≡ with_host h (flush_step (model_now h) (setup_now h) full h.host next).host → IsInSession s v ring limit programs (events ++ runs.FlushStep full next ∷ []) new
  flush_goes_on full next new did = goes_on (λ m u x. (flush_step m u full x next).host) (runs.FlushStep full next) (λ x. refl) new did

  pub take_goes_on : (next : Option Completion) (new : HostNow) → new ≡ with_host h (take_step (model_now h) (setup_now h) h.host next).host → IsInSession s v ring limit programs (events ++ runs.TakeStep next ∷ []) new
  take_goes_on next new did = goes_on (λ m u x. (take_step m u x next).host) (runs.TakeStep next) (λ x. refl) new did

  pub host_keeps : KeepsCalls s h.host
  host_keeps = subst (KeepsCalls s) (sym inside.host) (calls_kept s v ring limit programs written o j bytes events)
