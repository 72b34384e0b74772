-- A step of a call on its parts, and then of the host, is the machine's.
use Rattle.std.proofs.Common.{◌≡◌, ℕ, ◌+◌, Bool, true, false, List, [], ◌∷◌, length, slice_index_or, Option, Some, None, if◌then◌else◌, refl, ◌∙◌}
use Rattle.minix_layout.specs.declared.division.Geometry.{Geometry}
use Rattle.page_cache.specs.declared.cached_page.CachedPage.{CachedPage}
use Rattle.tree_model.specs.declared.call.Call.{Call}
use Rattle.tree_model.specs.declared.call.Reply.{Reply}
use Rattle.volume_steps.specs.Now.{VolumeNow}
use Rattle.flush_actor.specs.Kinds.{is_begun}
use Rattle.flush_actor.specs.Waits.{no_wait}
use Rattle.flush_actor.specs.declared.wait.Wait.{Wait}
use Rattle.commit_actor.specs.Journal.{JournalPart}
use Rattle.host_machine.specs.Host as machine
use Rattle.host_machine.specs.Host.{Stepped}
use Rattle.host_machine.specs.Model.{Model}
use Rattle.host_machine.specs.State.{Ending, Answered, Down, ReadOnly, SessionFull, Host, Setup, Begun}
use Rattle.minix_host.specs.Calls.{kind_of, refusal}
use Rattle.minix_host.specs.PlainTrees.{PlainTree}
use Rattle.minix_host.specs.Sessions.{model_of}
use Rattle.host_core.specs.begun.Parts as begun
use Rattle.host_core.specs.begun.Steps.{goes_on}
use Rattle.host_core.specs.begun.Steps as begun_steps
use Rattle.host_core.specs.at_once.Parts as plain
use Rattle.host_core.specs.at_once.Parts.{parts_in}
use Rattle.host_core.specs.at_once.Steps.{CallParts, steps_plainly}
use Rattle.host_core.specs.at_once.Steps as plain_steps
use Rattle.host_core.specs.code.Progress.{Went, Over, Opened, stop_of, went_on, went_plainly, begins_at, starts, goes_further, steps_call, with_parts, settled}

abbrev model : Geometry → Model PlainTree VolumeNow Call Reply
model g = model_of (λ (x : Call). x) g

-- a step of a plain call is the machine's
abbrev pub IsPlainLaw : Type 0
IsPlainLaw = (g : Geometry) (u : Setup) (s : Host VolumeNow Call Reply) (t : ℕ) (c : Call) (rest : List Call)
    → plain.after_going (model g) u s t c rest (steps_plainly u.writers u.zmap u.quota (parts_in s) (length s.history + 1) c) ≡ machine.plain (model g) u s t c rest

-- a begun call asks nothing of the trees
abbrev other_trees : Geometry → Model ℕ VolumeNow Call Reply
other_trees g =
    let m = model g in
    record {
      kind = m.kind;
      ok = m.ok;
      root = 0;
      call = λ t n c. 0;
      maps = λ t f i. false;
      content = λ t f i. [];
      writes = λ t c f i. false;
      alters = λ t n c f. false;
      reply = m.reply;
      hinders = m.hinders;
      needs = m.needs;
      apply = m.apply;
      node = m.node;
      zones = m.zones;
      release = m.release;
      bytes = m.bytes;
      metadata = m.metadata;
      zone = m.zone;
    }

-- so is one of a begun call
abbrev pub IsBegunLaw : Type 0
IsBegunLaw = (m : Model ℕ VolumeNow Call Reply) (u : Setup) (full : Bool) (s : Host VolumeNow Call Reply) (t : ℕ) (c : Call) (rest : List Call) (w : Wait) (b : Begun)
    → begun.after_going m u s t c rest b (goes_on full s.journal s.pages t w b) ≡ machine.continue_begun m u full s t c rest w b

module _ (law : IsPlainLaw) (begun_law : IsBegunLaw) (g : Geometry) (u : Setup) (full : Bool) (s : Host VolumeNow Call Reply) (t : ℕ) (c : Call) (rest : List Call) where
  abbrev after : Option Begun → Went → Stepped VolumeNow Call Reply
  after b w = settled (with_parts s w.parts) t c rest b w.progress

  begun_same : (b : Begun) (part : JournalPart) (pages : List CachedPage) (x : begun_steps.BegunProgress)
      → after (Some b) (went_on (parts_in s) (record { part = part; pages = pages; progress = x }))
      ≡ begun.after_going (model g) u s t c rest b (record { part = part; pages = pages; progress = x })
  begun_same b part pages begun_steps.Answered = refl
  begun_same b part pages begun_steps.Full = refl
  begun_same b part pages (begun_steps.Sent id list barrier) = refl
  begun_same b part pages (begun_steps.Waits cause) = refl

  plain_same : (p : CallParts) (x : plain_steps.PlainProgress) → after None (went_plainly (record { parts = p; progress = x })) ≡ plain.after_going (model g) u s t c rest (record { parts = p; progress = x })
  plain_same p (plain_steps.Answered reply) = refl
  plain_same p plain_steps.Full = refl
  plain_same p (plain_steps.Waits cause) = refl

  plain_is : after None (went_plainly (steps_plainly u.writers u.zmap u.quota (parts_in s) (length s.history + 1) c)) ≡ machine.plain (model g) u s t c rest
  plain_is =
      let w = steps_plainly u.writers u.zmap u.quota (parts_in s) (length s.history + 1) c in
      plain_same w.parts w.progress ∙ law g u s t c rest

  started_is : after None (starts u.writers u.zmap u.quota (parts_in s) (length s.history + 1) c) ≡ machine.step_call (model g) u full s t None c rest
  started_is = by (refusal s.volume c) (is_begun (kind_of c))
    where
      by : (o : Option Reply) (b : Bool) →
          after None (elim o as (λ _. Went) [
            | Some reply ↦ record { parts = parts_in s; progress = Over (Answered reply) }
            | None ↦ if b then record { parts = parts_in s; progress = Opened (begins_at (parts_in s) (length s.history + 1) c) } else went_plainly (steps_plainly u.writers u.zmap u.quota (parts_in s) (length s.history + 1) c)
          ])
          ≡ elim o as (λ _. Stepped VolumeNow Call Reply) [
            | Some refused ↦ machine.end_with (model g) u s t c rest (Answered refused)
            | None ↦ if b then machine.begin (model g) u s t c rest else machine.plain (model g) u s t c rest
          ]
      by (Some reply) b = refl
      by None true = refl
      by None false = plain_is

  further_is : (b : Option Begun) → after b (goes_further full u.writers u.zmap u.quota (parts_in s) (length s.history + 1) t b c) ≡ machine.step_call (model g) u full s t b c rest
  further_is None = started_is
  further_is (Some b) =
      let w = slice_index_or s.journal.flush.waits t no_wait in
      let gone = goes_on full s.journal s.pages t w b in
      begun_same b gone.part gone.pages gone.progress ∙ begun_law (other_trees g) u full s t c rest w b

  -- a step of a thread whose call is there
  pub step_is : (b : Option Begun) → after b (steps_call full u.writers u.zmap u.quota (parts_in s) (length s.history + 1) t b c) ≡ machine.step_thread (model g) u full s t b (c ∷ rest)
  step_is b = by (stop_of s.journal.flush.taken (kind_of c))
    where
      by : (o : Option (Ending Reply)) →
          after b (elim o as (λ _. Went) [ Some stop ↦ record { parts = parts_in s; progress = Over stop } | None ↦ goes_further full u.writers u.zmap u.quota (parts_in s) (length s.history + 1) t b c ])
          ≡ elim o as (λ _. Stepped VolumeNow Call Reply) [ Some stop ↦ machine.end_with (model g) u s t c rest stop | None ↦ machine.step_call (model g) u full s t b c rest ]
      by (Some (Answered r)) = refl
      by (Some Down) = refl
      by (Some (ReadOnly id)) = refl
      by (Some SessionFull) = refl
      by None = further_is b
