-- Each step of the host submits requests that are readable.
use Rattle.std.proofs.Common.{sym, subst, inl, inr, ⊎_elim, arith, length-append}
use Rattle.std.specs.List.{filter}
use Rattle.std.specs.Option.{unwrap_or, option_and_then}
use Rattle.std.specs.Prelude.{◌≡◌, ℕ, ◌≤◌, ◌+◌, ◌-◌, ◌⊎◌, Bool, true, false, not, List, [], ◌∷◌, ◌++◌, length, map, slice_get, nat_lt, Option, Some, None, refl}
use Rattle.blk_base.specs.Members.{In}
use Rattle.blk_base.specs.laws.Members.{In-map, In-filter, slice_get-in_range, slice_get-push_cases, slice_get-length}
use Rattle.number_sets.specs.Sets.{has}
use Rattle.number_sets.specs.laws.Keyed.{In-put_by}
use Rattle.number_sets.specs.laws.Members.{In-with_all, In-without_all}
use Rattle.order_model.specs.declared.note.Note.{Note}
use Rattle.order_model.specs.declared.request.Request.{Request}
use Rattle.order_model.specs.OrderClosed.{kind_body}
use Rattle.log_model.specs.Log.{Format}
use Rattle.log_model.specs.Marks.{Logged}
use Rattle.host_machine.proofs.Steps.{enough}
use Rattle.host_machine.specs.Host.{Stepped, hindrance, advance, build_plan, checkpoint, plan_sent, commit_step, change}
use Rattle.host_machine.specs.Model.{Model}
use Rattle.host_machine.specs.State.{Begun, Host, Setup}
use Rattle.host_machine.specs.laws.Contract.{Over}
use Rattle.journal_ring.specs.LogRing.{put_home, put_homes}
use Rattle.journal_ring.specs.running.Plan.{Writers, Planned}
use Rattle.commit_actor.specs.Journal.{Plan, Phase, Idle, Closing, Committing}
use Rattle.host_machine.specs.runs.Runs.{Event, Call, Commit, WriteBack, FlushStep, TakeStep, stepped}
use Rattle.host_machine.proofs.RunsLemmas.Walks.{BegunEnds, FreshEnds, caller_walk, commit_walk, writeback_walk, flush_walk, take_walk}
use Rattle.host_machine.specs.runs.laws.Written.{IsWord, AreWritten}
use Rattle.call_sessions.specs.power_cuts.images.Requests.{IsLoggable, IsReadable}
use Rattle.call_sessions.proofs.PowerCutsLemmas.ImagesLemmas.Requests.{AreReadable, plan_readable}

-- what is left of a plan, and the bodies that it commits
abbrev pub IsReadablePhase : Format → Writers → ℕ → Phase → Type 0
IsReadablePhase f w zones (Committing p) = AreReadable f w zones p.rest × ((l : Logged) → In l p.bodies → 2 ≤ l.block)
IsReadablePhase f w zones other = Unit {0}

-- what was submitted, what the running transaction touched, and what waits to be sent
pub record Readable (f : Format) (w : Writers) (zones : ℕ) (requests : List Request) (ns : List Note) (touched : List ℕ) (homes : List Logged) (phase : Phase) : Type 0 where
  pub counted : length ns ≡ length requests
  pub sent : (i : ℕ) (n : Note) (q : Request) → slice_get ns i ≡ Some n → slice_get requests i ≡ Some q → IsReadable f w zones n (unwrap_or (kind_body q.kind) [])
  pub logged : (b : ℕ) → In b touched → IsLoggable zones b
  pub waiting : (l : Logged) → In l homes → 2 ≤ l.block
  pub planned : IsReadablePhase f w zones phase

-- ---- lists

In-put_homes : (ls hs : List Logged) (l : Logged) → In l (put_homes hs ls) → In l hs ⊎ In l ls
In-put_homes [] hs l i = inl i
In-put_homes (q ∷ qs) hs l i =
    ⊎_elim (λ j. ⊎_elim (λ e. inr (inl e)) inl (In-put_by (λ (h : Logged). h.block) hs q l j)) (λ j. inr (inr j)) (In-put_homes qs (put_home hs q) l i)

-- ---- one request more

module _ {f : Format} {w : Writers} {zones : ℕ} {requests : List Request} {ns : List Note} {touched : List ℕ} {homes : List Logged} {phase : Phase} (old : Readable f w zones requests ns touched homes phase) where
  pushed : (q : Request) (n : Note) → IsReadable f w zones n (unwrap_or (kind_body q.kind) []) → Readable f w zones (requests ++ q ∷ []) (ns ++ n ∷ []) touched homes phase
  pushed q n good = record {
    counted = let a = length-append ns (n ∷ []) in let b = length-append requests (q ∷ []) in let c = old.counted in omega arith;
    sent = λ i m r at there. ⊎_elim
        (λ a. ⊎_elim
        (λ b. old.sent i m r a b)
        (λ b. absurd (let lt = slice_get-length ns i m a in let e = b.0 in let c = old.counted in omega arith))
        (slice_get-push_cases requests q i r there))
        (λ a. ⊎_elim
        (λ b. absurd (let lt = slice_get-length requests i r b in let e = a.0 in let c = old.counted in omega arith))
        (λ b. subst (λ x. IsReadable f w zones x (unwrap_or (kind_body r.kind) [])) a.1 (subst (λ (x : Request). IsReadable f w zones n (unwrap_or (kind_body x.kind) [])) b.1 good))
        (slice_get-push_cases requests q i r there))
        (slice_get-push_cases ns n i m at);
    logged = old.logged;
    waiting = old.waiting;
    planned = old.planned;
  }

-- the note of each request says what it carries
pub sent_body : {f : Format} {w : Writers} {zones : ℕ} {requests : List Request} {ns : List Note} {touched : List ℕ} {homes : List Logged} {phase : Phase} → Readable f w zones requests ns touched homes phase → (i : ℕ) (n : Note) → slice_get ns i ≡ Some n
    → IsReadable f w zones n (unwrap_or (option_and_then (λ (r : Request). kind_body r.kind) (slice_get requests i)) [])
sent_body {f = f} {w = w} {zones = zones} {requests = requests} {ns = ns} old i n at =
    let lt = slice_get-length ns i n at in
    let c = old.counted in
    let q = slice_get-in_range requests i (omega arith) in
    subst (λ (x : Option Request). IsReadable f w zones n (unwrap_or (option_and_then (λ (r : Request). kind_body r.kind) x) [])) (sym q.1) (old.sent i n q.0 at q.1)

abbrev pub IsReadableHost : {A T V C R : Type 0} → Over A T V C R → Host V C R → Type 0
IsReadableHost o x = Readable o.format o.setup.writers o.setup.journal x.journal.flush.requests x.journal.flush.notes x.journal.running.touched x.journal.ring.homes x.journal.phase

module _ {A T V C R : Type 0} (o : Over A T V C R) (s : Host V C R) where
  abbrev M : Model T V C R
  M = o.model

  abbrev u : Setup
  u = o.setup

  abbrev Good : Host V C R → Type 0
  Good = IsReadableHost o

  -- what a call touches and does not revoke is logged
  abbrev pub TouchesLoggable : Type 0
  TouchesLoggable = (c : C) → M.reply s.volume c ≡ None → (M.hinders s.volume c ≡ true → nat_lt (length (M.zones s.volume).free) (M.needs s.volume c) ≡ false) → (b : ℕ)
      → In b (M.apply s.volume (length s.history + 1) s.journal.running.number c).touched.blocks
      → In b (M.apply s.volume (length s.history + 1) s.journal.running.number c).touched.revoked ⊎ IsLoggable u.journal b

  module _ (stays : Good s) where
    abbrev Kept : Stepped V C R → Type 0
    Kept x = Good x.host

    -- ---- a caller

    module _ (touches : TouchesLoggable) where
      changed_readable : (c : C) → M.reply s.volume c ≡ None → hindrance M u s c ≡ None → Good (change M u s c (M.apply s.volume (length s.history + 1) s.journal.running.number c))
      changed_readable c accepted free = record {
        counted = stays.counted;
        sent = stays.sent;
        logged = λ b i.
            let a = M.apply s.volume (length s.history + 1) s.journal.running.number c in
            let p = In-without_all _ a.touched.revoked b i in
            ⊎_elim
            (λ was. stays.logged b was)
            (λ new. ⊎_elim (λ gone. absurd (p.1 gone)) (λ good. good) (touches c accepted (enough M u s c free) b new))
            (In-with_all s.journal.running.touched a.touched.blocks b p.0);
        waiting = stays.waiting;
        planned = stays.planned;
      }

      begun_ends : (full : Bool) (t : ℕ) (c : C) (rest : List C) (b : Begun) → BegunEnds M u full s t c rest b Kept
      begun_ends full t c rest b = record {
        done = stays;
        full_up = λ e. stays;
        rests = λ why. stays;
        waits = λ w why. stays;
        wants = λ w why. stays;
        sends = λ next is few free. pushed stays _ _ tt;
      }

      fresh_ends : (t : ℕ) (c : C) (rest : List C) → FreshEnds M u s t c rest Kept
      fresh_ends t c rest = record {
        refused = λ why e. stays;
        begins = λ accepted kind. stays;
        full_up = λ why e limit. stays;
        rests = λ why. stays;
        wants = λ why. stays;
        acts = λ accepted kind free. changed_readable c accepted free;
      }

      advance_readable : (full : Bool) (t : ℕ) → Good (advance M u full s t).host
      advance_readable full t = caller_walk M u full s t Kept stays (λ th c rest at is. record {
        stopped = λ e stop. stays;
        goes_on = λ b going begun. begun_ends full t c rest b;
        starts = λ going begun. fresh_ends t c rest;
      })

    -- ---- the actors

    -- homes without the first of them
    abbrev later_homes : List Logged → List Logged
    later_homes hs = elim hs as (λ _. List Logged) [ [] ↦ [] | h ∷ hs ↦ hs ]

    In-later : (hs : List Logged) (l : Logged) → In l (later_homes hs) → In l hs
    In-later [] l i = i
    In-later (h ∷ hs) l i = inr i

    home_taken : Readable o.format u.writers u.journal s.journal.flush.requests s.journal.flush.notes s.journal.running.touched (later_homes s.journal.ring.homes) s.journal.phase
    home_taken = record { counted = stays.counted; sent = stays.sent; logged = stays.logged; waiting = λ l i. stays.waiting l (In-later s.journal.ring.homes l i); planned = stays.planned }

    checkpoint_readable : (homes : List Logged) → ((l : Logged) → In l homes → 2 ≤ l.block) → Good (checkpoint M u s homes)
    checkpoint_readable [] low = pushed stays _ _ (_, _, refl)
    checkpoint_readable (h ∷ hs) low = pushed home_taken _ _ (low h (inl refl))

    module _ (written : AreWritten o.format u.writers) (small : u.journal ≤ 4294967296) (fits : IsWord (u.sequence + (s.journal.running.number - 1))) (revokes : (b : ℕ) → In b s.journal.running.revoked → IsWord b) where
      body_loggable : (l : Logged) → In l (map (λ b. record { block = b; body = M.bytes s.volume b }) s.journal.running.touched) → IsLoggable u.journal l.block
      body_loggable l i =
          let m = In-map (λ b. record { block = b; body = M.bytes s.volume b }) s.journal.running.touched l i in
          subst (λ (x : Logged). IsLoggable u.journal x.block) m.2 (stays.logged m.0 m.1)

      built_readable : Good (build_plan M u s)
      built_readable = record {
        counted = stays.counted;
        sent = stays.sent;
        logged = λ b i. absurd i;
        waiting = stays.waiting;
        planned = (
          plan_readable o.format u.writers u.journal written small s.journal.running.number (u.sequence + (s.journal.running.number - 1)) fits u.journal s.journal.ring.places s.journal.ring.head s.journal.ring.started
              (map (λ b. record { block = b; body = M.bytes s.volume b }) s.journal.running.touched) s.journal.running.revoked body_loggable revokes,
          λ l i. (body_loggable l i).0,
        );
      }

      -- the next request of the plan goes out, and with the last one its bodies wait to be sent home
      abbrev with_phase : Phase → List Logged → Type 0
      with_phase p homes = Readable o.format u.writers u.journal s.journal.flush.requests s.journal.flush.notes s.journal.running.touched homes p

      plan_goes_on : (p : Plan) (rest : List Planned) → AreReadable o.format u.writers u.journal rest → ((l : Logged) → In l p.bodies → 2 ≤ l.block) → with_phase (Committing (record p { rest = rest })) s.journal.ring.homes
      plan_goes_on p rest good low = record { counted = stays.counted; sent = stays.sent; logged = stays.logged; waiting = stays.waiting; planned = (good, low) }

      plan_ends : (p : Plan) → ((l : Logged) → In l p.bodies → 2 ≤ l.block) → with_phase Idle (put_homes (filter (λ (h : Logged). not (has p.revokes h.block)) s.journal.ring.homes) p.bodies)
      plan_ends p low = record {
        counted = stays.counted;
        sent = stays.sent;
        logged = stays.logged;
        waiting = λ l i. ⊎_elim
            (λ was. stays.waiting l (In-filter (λ (h : Logged). not (has p.revokes h.block)) s.journal.ring.homes l was).0)
            (λ new. low l new)
            (In-put_homes p.bodies (filter (λ (h : Logged). not (has p.revokes h.block)) s.journal.ring.homes) l i);
        planned = tt;
      }

      sent_readable : (p : Plan) (first : Planned) (rest : List Planned) → AreReadable o.format u.writers u.journal (first ∷ rest) → ((l : Logged) → In l p.bodies → 2 ≤ l.block) → Good (plan_sent M u s p first rest)
      sent_readable p first [] good low = pushed (plan_ends p low) _ first.note (good first (inl refl))
      sent_readable p first (q ∷ qs) good low = pushed (plan_goes_on p (q ∷ qs) (λ x i. good x (inr i)) low) _ first.note (good first (inl refl))

      closing : with_phase Closing s.journal.ring.homes
      closing = record { counted = stays.counted; sent = stays.sent; logged = stays.logged; waiting = stays.waiting; planned = tt }

      sends_plan : (p : Plan) (first : Planned) (rest : List Planned) → s.journal.phase ≡ Committing p → p.rest ≡ first ∷ rest → Good (plan_sent M u s p first rest)
      sends_plan p first rest is next =
          let good = subst (IsReadablePhase o.format u.writers u.journal) is stays.planned in
          sent_readable p first rest (subst (AreReadable o.format u.writers u.journal) next good.0) good.1

      commit_readable : (full : Bool) → Good (commit_step M u full s).host
      commit_readable full = commit_walk M u full s Good (record {
        rests = stays;
        closes = closing;
        sends_page = λ p few free. pushed stays _ _ tt;
        checkpoints = λ few free. checkpoint_readable s.journal.ring.homes stays.waiting;
        builds = built_readable;
        sends_plan = λ p first rest is next few free. sends_plan p first rest is next;
      })

      -- so is each step of the host
      pub step_readable : TouchesLoggable → (e : Event) → IsReadableHost o (stepped o s e)
      step_readable touches (Call full t) = advance_readable touches full t
      step_readable touches (Commit full) = commit_readable full
      step_readable touches (WriteBack full pick) = writeback_walk M u full s Good stays (λ p ordered few free. pushed stays _ _ tt) pick
      step_readable touches (FlushStep full next) = flush_walk M u full s Good stays (λ few free. pushed stays _ _ tt) (λ c. stays) next
      step_readable touches (TakeStep next) = take_walk M u true s Good stays (λ c. stays) next
