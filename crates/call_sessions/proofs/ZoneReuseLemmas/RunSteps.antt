-- Whole runs: what holds of zones where the host is opened holds after any list of steps.
use Rattle.std.proofs.Common.{sym, ap, subst, ◌∙◌, inl, inr, ⊎_elim, arith, length-append, eqb-true, eq-eqb}
use Rattle.std.proofs.lemmas.Bool.{false≢true, and_from, and_parts}
use Rattle.std.proofs.lemmas.Option.{none-some}
use Rattle.std.proofs.lemmas.List.{length-replicate}
use Rattle.std.specs.Option.{option_and_then}
use Rattle.std.specs.Prelude.{◌≡◌, ℕ, ◌+◌, ◌<◌, ◌≤◌, ◌==◌, ◌&&◌, Bool, true, false, List, [], ◌∷◌, length, refl}
use Rattle.order_model.specs.OrderClosed.{IsPut, IsKept, IsOrderClosed}
use Rattle.order_model.specs.declared.note.Note.TheVariants.{Page, Commit}
use Rattle.log_model.specs.Marks.{Transaction}
use Rattle.crash_laws.proofs.Commits.{kept_commits_are_prefix}
use Rattle.crash_laws.proofs.Histories.{cuts_rise}
use Rattle.crash_laws.specs.Found.{found}
use Rattle.crash_laws.specs.History.{History, HasTrees, IsEntryOf}
use Rattle.crash_laws.specs.PageRules.{IsPageTo}
use Rattle.crash_laws.specs.Rules.{FitsNotes, CommitOrder}
use Rattle.crash_laws.specs.Session.{Session, Medium, IsCommit, CommitBefore, log_transaction}
use Rattle.host_machine.proofs.Entries.{trees_noted}
use Rattle.journal_ring.specs.LogRing.{LogRing}
use Rattle.host_machine.proofs.RunsLemmas.RunHost.{opened_has, step_keeps, step_fits, steps_keep}
use Rattle.host_machine.proofs.RunsLemmas.Threads.{moved}
use Rattle.host_machine.specs.Host.{opened}
use Rattle.host_machine.specs.State.{Host}
use Rattle.host_machine.specs.Views.{transaction_of}
use Rattle.host_machine.specs.laws.Contract.{Over, Contract, noted_history, session}
use Rattle.host_machine.specs.laws.Reuse.{ReusesFreed}
use Rattle.host_machine.specs.runs.Opened.{IsOpened}
use Rattle.host_machine.specs.runs.Runs.{Event, stepped, steps, FitsWords, HasBlocks}
use Rattle.host_machine.specs.runs.laws.Kept.{IsSound}
use Rattle.host_machine.specs.runs.laws.Traces.{Trace, trace_of, Move, Stays, Puts, Enters, Cuts, Takes}
use Rattle.host_machine.specs.runs.laws.Written.{AreWritten}
use Rattle.call_sessions.specs.zone_reuse.Freeing.{IsGivenUp, Frees}
use Rattle.call_sessions.specs.zone_reuse.Reusing.{KeptWithEntry, ReusesZones}
use Rattle.call_sessions.proofs.ZoneReuseLemmas.HostSteps.{Zones, step_zones}
use Rattle.call_sessions.proofs.ZoneReuseLemmas.ZoneFacts.{reuses_told, orderless_told}

-- ---- what a power cut leaves

-- a commit block is ordered before all that is put behind it, so it is kept with that
commit_kept : {s : Session} → FitsNotes s → CommitOrder s → (m : Medium) → IsOrderClosed s.base s.requests m.image m.origins → (k c p : ℕ) → IsCommit s k c → c < p → IsPut s.requests p → IsKept s.requests m.origins p → IsKept s.requests m.origins c
commit_kept {s = s} fits commits m order k c p commit lt put kept =
    let log = fits.log k c (ap (option_and_then log_transaction) commit) in
    order.closed c p
    (inl (record { first = (s.journal + log.0, log.2); ordered = fits.ordered c (Commit k) commit refl; second = put; fence = (c, omega arith, lt, commits.barrier k c commit) }))
    kept

-- just this entry and this zone
abbrev just : ℕ → ℕ → ℕ → ℕ → Bool
just e z n y = n == e && y == z

module _ {A : Type 0} {h : History A} {s : Session} (Freed : ℕ → ℕ → Type 0) (trees : HasTrees h) (fits : FitsNotes s) (commits : CommitOrder s)
    (reuses : (frees : ℕ → ℕ → Bool) → ((e z : ℕ) → frees e z ≡ true → Freed e z) → ReusesFreed h s frees) where
  behind : (o f i w z e : ℕ) → IsPageTo s o f i w z → e < w → Freed e z → (k : ℕ) × IsEntryOf h e k × CommitBefore s k o
  behind o f i w z e t lt freed = (reuses (just e z) named).behind o f i w z e t lt (and_from (e == e) (z == z) (eq-eqb e e refl) (eq-eqb z z refl))
    where
      named : (n y : ℕ) → just e z n y ≡ true → Freed n y
      named n y t =
          let both = and_parts (n == e) (y == z) t in
          subst (λ a. Freed a y) (sym (eqb-true n e both.0)) (subst (Freed e) (sym (eqb-true y z both.1)) freed)

  kept_with : KeptWithEntry h s Freed
  kept_with = record {
    commit = λ m order o f i w z e t lt freed kept.
        let x = behind o f i w z e t lt freed in
        (x.0, x.2.0, x.1, x.2.1, commit_kept fits commits m order x.0 x.2.0 o x.2.1 x.2.2 (z, t.put) kept);
    recovered = λ m order o f i w z e t lt freed kept.
        let x = behind o f i w z e t lt freed in
        let reached = (kept_commits_are_prefix order fits commits).reached x.0 x.2.0 x.2.1 (commit_kept fits commits m order x.0 x.2.0 o x.2.1 x.2.2 (z, t.put) kept) in
        let within = x.1.within in
        let rise = cuts_rise trees x.0 (found s m) reached in
        omega arith;
  }

-- ---- steps

-- a history never gets shorter
longer : {C R : Type 0} (old new : Trace C R) → Move old new → length old.history ≤ length new.history
longer old new (Stays e) = let l = ap (λ (x : Trace _ _). length x.history) e in omega arith
longer old new (Puts q n lt e) = let l = ap (λ (x : Trace _ _). length x.history) e in omega arith
longer old new (Enters x e) = let l = ap (λ (y : Trace _ _). length y.history) e in let a = length-append old.history (x ∷ []) in omega arith
longer old new (Cuts e) = let l = ap (λ (x : Trace _ _). length x.history) e in omega arith
longer old new (Takes c e) = let l = ap (λ (x : Trace _ _). length x.history) e in omega arith

module _ {A T V C R : Type 0} {o : Over A T V C R} {Stands : V → T → Type 0} (contract : Contract o Stands) (written : AreWritten o.format o.setup.writers) (blocks : HasBlocks o Stands) where
  grows : (s : Host V C R) (e : Event) → IsSound contract s → length s.history ≤ length (stepped o s e).history
  grows s e sound = longer (trace_of s) (trace_of (stepped o s e)) (moved o s sound.begun e).1

  -- a step frees for entries to come
  later : (s : Host V C R) (es : List Event) → IsSound contract s → FitsWords o s → (e z : ℕ) → Frees o s es e z → length s.history < e
  later s [] sound fits e z f = absurd f
  later s (x ∷ es) sound fits e z (inl f) = let n = f.next in omega arith
  later s (x ∷ es) sound fits e z (inr f) =
      let more = grows s x sound in
      let above = later (stepped o s x) es (step_keeps contract written blocks s x sound fits) (step_fits contract written blocks s x sound fits) e z f in
      omega arith

  module _ (empty : (f i : ℕ) → o.model.maps o.model.root f i ≡ false) (frees : ℕ → ℕ → Bool) where
    pub zones_kept : (s : Host V C R) (es : List Event) → IsSound contract s → FitsWords o s → Zones contract frees s
        → ((e z : ℕ) → frees e z ≡ true → length s.history < e → Frees o s es e z) → Zones contract frees (steps o s es)
    zones_kept s [] sound fits zones told = zones
    zones_kept s (x ∷ es) sound fits zones told =
        zones_kept (stepped o s x) es next next_fits
        (step_zones contract frees empty s sound.rules.0 sound.rules.1 sound.rules.2.images zones x next now)
        (λ e z fr lt. let m = more in behind e z lt (told e z fr (omega arith)))
      where
        next : IsSound contract (stepped o s x)
        next = step_keeps contract written blocks s x sound fits

        next_fits : FitsWords o (stepped o s x)
        next_fits = step_fits contract written blocks s x sound fits

        more : length s.history ≤ length (stepped o s x).history
        more = grows s x sound

        now : (z : ℕ) → length (stepped o s x).history ≡ length s.history + 1 → frees (length s.history + 1) z ≡ true → IsGivenUp o s.volume (stepped o s x).volume z
        now z made fr =
            ⊎_elim
            (λ f. f.given_up)
            (λ f. let above = later (stepped o s x) es next next_fits (length s.history + 1) z f in absurd (omega arith))
            (told (length s.history + 1) z fr (omega arith))

        behind : (e z : ℕ) → length (stepped o s x).history < e → Frees o s (x ∷ es) e z → Frees o (stepped o s x) es e z
        behind e z lt (inl f) = let made = f.made in absurd (omega arith)
        behind e z lt (inr f) = f

    pub zones_at_start : (v : V) (ring : LogRing) (zones limit : ℕ) (programs : List (List C)) → Stands v o.model.root → ((f i : ℕ) → o.model.maps o.model.root f i ≡ false) → o.setup.journal ≤ zones
        → ((e z : ℕ) → frees e z ≡ true → 0 < e) → Zones contract frees (opened o.model o.setup v ring zones limit programs)
    zones_at_start v ring zones limit programs stands empty room above = record {
      freed = λ e z fr le. let lt = above e z fr in absurd (omega arith);
      owned = record {
        owner = λ f i z there.
            absurd (false≢true (sym (empty f i) ∙ (contract.plain v o.model.root stands).mapped f i z there));
      };
      room = subst (λ n. o.setup.journal ≤ n) (sym (length-replicate {A = ℕ} zones 0)) room;
      reuses = record { behind = λ p f i w z e t. absurd (none-some (Page f i w) t.note) };
      orderless = record { behind = λ p f i w z t. absurd (none-some (Page f i w) t.note) };
    }

  -- a whole run
  module _ (v : V) (ring : LogRing) (zones limit : ℕ) (programs : List (List C)) (at : IsOpened o Stands v ring zones limit programs) (fits : FitsWords o (opened o.model o.setup v ring zones limit programs)) (empty : (f i : ℕ) → o.model.maps o.model.root f i ≡ false) (room : o.setup.journal ≤ zones) where
    abbrev first : Host V C R
    first = opened o.model o.setup v ring zones limit programs

    sound : IsSound contract first
    sound = opened_has contract v ring zones limit programs at

    sound_after : (events : List Event) → IsSound contract (steps o first events)
    sound_after events = steps_keep contract written blocks first events sound fits

    -- the transactions that are told of it
    abbrev txs : List Event → List Transaction
    txs events = (sound_after events).rules.0

    zones_after : (frees : ℕ → ℕ → Bool) (events : List Event) → ((e z : ℕ) → frees e z ≡ true → Frees o first events e z) → Zones contract frees (steps o first events)
    zones_after frees events told =
        zones_kept empty frees first events sound fits
        (zones_at_start empty frees v ring zones limit programs at.stands empty room (λ e z fr. later first events sound fits e z (told e z fr)))
        (λ e z fr lt. told e z fr)

    reuses : (events : List Event) (closed : List Transaction) (frees : ℕ → ℕ → Bool) → ((e z : ℕ) → frees e z ≡ true → Frees o first events e z)
        → ReusesFreed (noted_history o Stands (steps o first events).history (steps o first events).cuts) (session o Stands closed (steps o first events)) frees
    reuses events closed frees told = reuses_told (transaction_of closed) (zones_after frees events told).reuses

    kept : (events : List Event) → KeptWithEntry (noted_history o Stands (steps o first events).history (steps o first events).cuts) (session o Stands (txs events) (steps o first events)) (Frees o first events)
    kept events =
        let order = (sound_after events).rules.2.rules.order in
        let trees = trees_noted o.model contract.trees o.place (steps o first events).history (steps o first events).cuts (sound_after events).rules.2.images.0.rise in
        kept_with (Frees o first events) trees order.fits order.commits (reuses events (txs events))

    pub run_reuses : (events : List Event) → ReusesZones o Stands first events
    run_reuses events = record {
      freed = reuses events;
      orderless = λ closed. orderless_told (transaction_of closed) (zones_after (λ e z. false) events (λ e z fr. absurd (false≢true fr))).orderless;
      kept = λ closed. record {
        commit = λ m order p f i w z e t. (kept events).commit m order p f i w z e (record { note = t.note; put = t.put });
        recovered = λ m order p f i w z e t. (kept events).recovered m order p f i w z e (record { note = t.note; put = t.put });
      };
    }
