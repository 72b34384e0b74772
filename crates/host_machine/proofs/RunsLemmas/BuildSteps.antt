-- The plan of the running transaction is built: it has what its facts say, and its log blocks get their places.
use Rattle.std.proofs.Common.{sym, ap, subst, ◌∙◌, inl, inr, ⊎_elim, arith, ne_eqb}
use Rattle.std.specs.Prelude.{◌≡◌, ℕ, ◌+◌, ◌-◌, ◌<◌, ◌≤◌, ◌==◌, Bool, true, false, List, [], ◌∷◌, ◌++◌, map, length, Option, if◌then◌else◌, refl}
use Rattle.blk_base.specs.Members.{In}
use Rattle.order_model.specs.declared.note.Note.TheVariants.{Super, Commit}
use Rattle.log_model.proofs.Ring.{places_on-add}
use Rattle.log_model.specs.Log.{Spells}
use Rattle.log_model.specs.Marks.{Logged, Transaction}
use Rattle.log_model.specs.Ring.{Ring, places_on}
use Rattle.crash_laws.proofs.LogBlocks.{filter_none, In-log_blocks}
use Rattle.crash_laws.specs.Rules.{CommitOrder}
use Rattle.crash_laws.specs.Session.{Session, log_transaction, IsLog, LogBlock, with_log_block, log_blocks, log_blocks_of, bodies_of, sequence_of}
use Rattle.journal_ring.specs.LogRing.{LogRing, ring_free, place_blocks}
use Rattle.journal_ring.specs.running.Running.{log_blocks_for}
use Rattle.journal_ring.specs.running.Plan.{Writers, Planned, logged_blocks, placed, with_barrier, plan_of}
use Rattle.journal_ring.specs.declared.running.pieces.UnplacedBlock.{UnplacedBlock}
use Rattle.host_machine.proofs.RunsLemmas.PlanLaws.{IsDraft, are_drafts, plan_spells, plan_counted}
use Rattle.host_machine.specs.runs.laws.RingFacts.{AreCommitted, PlaceFacts, places_of, IsFirstSuper, ArePlanned, count, if_log, log_bytes, EndsFenced, StartsWithSuper, PlanFacts}
use Rattle.host_machine.specs.runs.laws.Written.{IsWord, AreWritten, IsWritable}

-- ---- the last one is made a barrier

module _ (s : Session) (k : ℕ) where
  barrier_planned : (n : ℕ) (qs : List Planned) → ArePlanned s k n qs → ArePlanned s k n (with_barrier qs)
  barrier_planned n [] h = tt
  barrier_planned n (q ∷ []) h = h
  barrier_planned n (q ∷ r ∷ rs) h = (h.0, barrier_planned (n + places_of q.note) (r ∷ rs) h.1)

barrier_count : (qs : List Planned) → count (with_barrier qs) ≡ count qs
barrier_count [] = refl
barrier_count (q ∷ []) = refl
barrier_count (q ∷ r ∷ rs) = ap (λ n. places_of q.note + n) (barrier_count (r ∷ rs))

barrier_bytes : (qs : List Planned) → log_bytes (with_barrier qs) ≡ log_bytes qs
barrier_bytes [] = refl
barrier_bytes (q ∷ []) = refl
barrier_bytes (q ∷ r ∷ rs) = ap (λ bs. if_log (log_transaction q.note) q.body ++ bs) (barrier_bytes (r ∷ rs))

barrier_fenced : (qs : List Planned) → EndsFenced (with_barrier qs)
barrier_fenced [] = tt
barrier_fenced (q ∷ []) = refl
barrier_fenced (q ∷ r ∷ []) = refl
barrier_fenced (q ∷ r ∷ x ∷ rs) = barrier_fenced (r ∷ x ∷ rs)

barrier_none : (qs : List Planned) → with_barrier qs ≡ [] → qs ≡ []
barrier_none [] e = refl
barrier_none (q ∷ []) e = absurd (let c : ⊥ = cc in c)
barrier_none (q ∷ r ∷ rs) e = absurd (let c : ⊥ = cc in c)

barrier_super : (q : Planned) (qs : List Planned) → q.note ≡ Super → StartsWithSuper (with_barrier (q ∷ qs))
barrier_super q [] e = e
barrier_super q (r ∷ rs) e = e

-- ---- log blocks get places

module _ (s : Session) (k : ℕ) where
  placed_planned : (n : ℕ) (ls : List UnplacedBlock) → ((l : UnplacedBlock) → In l ls → IsDraft s.format s.sequence k l) → ArePlanned s k n (placed s.journal s.ring (places_on s.ring n s.head) ls)
  placed_planned n [] h = tt
  placed_planned n (l ∷ ls) h =
      let d = h l (inl refl) in
      let one : n + 1 ≡ n + places_of l.note = (let e = ap (λ (o : Option ℕ). length (with_log_block o 0 [])) d.0 in omega arith) in (
        inr (d.0, d.1, refl, d.2),
        subst (λ m. ArePlanned s k m (placed s.journal s.ring (places_on s.ring 1 (places_on s.ring n s.head)) ls)) one
            (subst (λ pl. ArePlanned s k (n + 1) (placed s.journal s.ring pl ls)) (places_on-add s.ring n 1 s.head) (placed_planned (n + 1) ls (λ m i. h m (inr i)))),
      )

  placed_count : (pl : ℕ) (ls : List UnplacedBlock) → ((l : UnplacedBlock) → In l ls → IsDraft s.format s.sequence k l) → count (placed s.journal s.ring pl ls) ≡ length ls
  placed_count pl [] h = refl
  placed_count pl (l ∷ ls) h =
      let d = h l (inl refl) in
      let e = ap (λ (o : Option ℕ). length (with_log_block o 0 [])) d.0 in
      let rest = placed_count (places_on s.ring 1 pl) ls (λ m i. h m (inr i)) in
      omega arith

  placed_bytes : (pl : ℕ) (ls : List UnplacedBlock) → ((l : UnplacedBlock) → In l ls → IsDraft s.format s.sequence k l) → log_bytes (placed s.journal s.ring pl ls) ≡ map (λ (b : UnplacedBlock). b.body) ls
  placed_bytes pl [] h = refl
  placed_bytes pl (l ∷ ls) h =
      let d = h l (inl refl) in
      ap (λ (o : Option ℕ). if_log o l.body ++ log_bytes (placed s.journal s.ring (places_on s.ring 1 pl) ls)) d.0
      ∙ ap (λ bs. l.body ∷ bs) (placed_bytes (places_on s.ring 1 pl) ls (λ m i. h m (inr i)))

  placed_none : (pl : ℕ) (ls : List UnplacedBlock) → placed s.journal s.ring pl ls ≡ [] → ls ≡ []
  placed_none pl [] e = refl
  placed_none pl (l ∷ ls) e = absurd (let c : ⊥ = cc in c)

no_bodies : (bodies : List Logged) → length bodies ≡ 0 → bodies ≡ []
no_bodies [] e = refl
no_bodies (l ∷ ls) e = absurd (omega arith)

-- ---- the plan

module _ (w : Writers) (s : Session) (N : ℕ) (t : Transaction) (ring : LogRing) (order : CommitOrder s) (numbers : AreCommitted s N N) (places : PlaceFacts s ring 0)
    (written : AreWritten s.format w) (writable : IsWritable t) (fits : IsWord (s.sequence + (N + 1 - 1))) (place_fits : IsWord s.head)
    -- the journal superblock on the disk says that there is a log just where a transaction is committed
    (started : ring.started ≡ true → 1 ≤ N) (not_started : ring.started ≡ false → N ≡ 0) where
  abbrev blocks : List UnplacedBlock
  blocks = logged_blocks w (N + 1) (s.sequence + (N + 1 - 1)) t.bodies t.revokes

  drafts : (l : UnplacedBlock) → In l blocks → IsDraft s.format s.sequence (N + 1) l
  drafts = are_drafts w (N + 1) s.sequence s.format written fits t writable

  abbrev super : Bool → List Planned
  super b = if b then [] else record { note = Super; block = s.journal; body = w.super (s.sequence + (N + 1 - 1)) ring.head; barrier = false } ∷ []

  abbrev before : Bool → List Planned
  before b = super b ++ placed s.journal ring.places ring.head blocks

  no_log_yet : (i : ℕ) → IsLog s (N + 1) i → ⊥
  no_log_yet i h = let le = numbers.logs (N + 1) i h in omega arith

  none_of_it : log_blocks_of (N + 1) (log_blocks s) ≡ []
  none_of_it =
      filter_none (λ (e : LogBlock). e.transaction == N + 1) (log_blocks s)
      (λ e i.
      let d = In-log_blocks 0 s.notes e i in
      let le = numbers.logs e.transaction d.0 d.2 in
      ne_eqb e.transaction (N + 1) (λ q. omega arith))

  -- where nothing is committed the log has no block, and the ring stands at its head
  at_head : N ≡ 0 → ring.head ≡ s.head
  at_head z =
      let none = nothing (log_blocks s) refl in
      let zero_of : length (log_blocks s) + 0 ≡ 0 = omega arith in
      places.head ∙ ap (λ n. places_on s.ring n s.head) zero_of
    where
      nothing : (es : List LogBlock) → es ≡ log_blocks s → length es ≡ 0
      nothing [] e = refl
      nothing (x ∷ xs) e =
          let d = In-log_blocks 0 s.notes x (subst (In x) e (inl refl)) in
          let lo = order.numbered x.transaction d.0 d.2 in
          let hi = numbers.logs x.transaction d.0 d.2 in
          absurd (omega arith)

  first_is_super : N ≡ 0 → IsFirstSuper s (N + 1) (record { note = Super; block = s.journal; body = w.super (s.sequence + (N + 1 - 1)) ring.head; barrier = false })
  first_is_super z =
      let at = at_head z in
      let seq : s.sequence + (N + 1 - 1) ≡ s.sequence = omega arith in (
        refl,
        refl,
        written.super (s.sequence + (N + 1 - 1)) ring.head fits (subst IsWord (sym at) place_fits)
            ∙ ap (λ n. record { sequence = n; start = ring.head }) seq
            ∙ ap (λ n. record { sequence = s.sequence; start = n }) at,
        omega arith,
      )

  head_now : ring.head ≡ places_on s.ring (length (log_blocks s)) s.head
  head_now = let none : length (log_blocks s) + 0 ≡ length (log_blocks s) = omega arith in places.head ∙ ap (λ n. places_on s.ring n s.head) none

  log_planned : ArePlanned s (N + 1) (length (log_blocks s)) (placed s.journal ring.places ring.head blocks)
  log_planned =
      subst (λ r. ArePlanned s (N + 1) (length (log_blocks s)) (placed s.journal r ring.head blocks)) (sym places.places)
      (subst (λ pl. ArePlanned s (N + 1) (length (log_blocks s)) (placed s.journal s.ring pl blocks)) (sym head_now) (placed_planned s (N + 1) (length (log_blocks s)) blocks drafts))

  log_count : count (placed s.journal ring.places ring.head blocks) ≡ length blocks
  log_count = subst (λ r. count (placed s.journal r ring.head blocks) ≡ length blocks) (sym places.places) (placed_count s (N + 1) ring.head blocks drafts)

  log_body_bytes : log_bytes (placed s.journal ring.places ring.head blocks) ≡ map (λ (b : UnplacedBlock). b.body) blocks
  log_body_bytes = subst (λ r. log_bytes (placed s.journal r ring.head blocks) ≡ map (λ (b : UnplacedBlock). b.body) blocks) (sym places.places) (placed_bytes s (N + 1) ring.head blocks drafts)

  planned : (b : Bool) → ring.started ≡ b → ArePlanned s (N + 1) (length (log_blocks s)) (before b)
  planned true e = log_planned
  planned false e =
      let none : length (log_blocks s) ≡ length (log_blocks s) + 0 = omega arith in
      (inl (first_is_super (not_started e)), subst (λ n. ArePlanned s (N + 1) n (placed s.journal ring.places ring.head blocks)) none log_planned)

  counted : (b : Bool) → count (before b) ≡ length blocks
  counted true = log_count
  counted false = let n = log_count in omega arith

  bytes : (b : Bool) → log_bytes (before b) ≡ map (λ (x : UnplacedBlock). x.body) blocks
  bytes true = log_body_bytes
  bytes false = log_body_bytes

  nothing_else : (b : Bool) → ring.started ≡ b → before b ≡ [] → (1 < N + 1) × ((i : ℕ) → IsLog s (N + 1) i → ⊥) × (t.bodies ≡ [])
  nothing_else false e none = absurd (let c : ⊥ = cc in c)
  nothing_else true e none =
      let pos = started e in
      let empty = placed_none s (N + 1) ring.head blocks (subst (λ r. placed s.journal r ring.head blocks ≡ []) places.places none) in
      let n = plan_counted w (N + 1) (s.sequence + (N + 1 - 1)) t.bodies t.revokes written.some_tags written.some_revokes in
      let z = ap length empty in
      (omega arith, no_log_yet, no_bodies t.bodies (omega arith))

  starts : (b : Bool) → ring.started ≡ b → N + 1 ≡ 1 → StartsWithSuper (with_barrier (before b))
  starts true e one = let pos = started e in absurd (omega arith)
  starts false e one = barrier_super (record { note = Super; block = s.journal; body = w.super (s.sequence + (N + 1 - 1)) ring.head; barrier = false }) (placed s.journal ring.places ring.head blocks) refl

  abbrev the_plan : List Planned
  the_plan = plan_of w s.journal ring.places ring.head ring.started (N + 1) (s.sequence + (N + 1 - 1)) t.bodies t.revokes

  pub built_plan : PlanFacts s (N + 1) t (length s.notes) the_plan
  built_plan = record {
    before = with_barrier (before ring.started);
    commit = record { note = Commit (N + 1); block = s.journal + places_on ring.places (length blocks) ring.head; body = w.commit (s.sequence + (N + 1 - 1)); barrier = true };
    whole = refl;
    planned = barrier_planned s (N + 1) (length (log_blocks s)) (before ring.started) (planned ring.started refl);
    last_note = refl;
    last_block =
        ap (λ r. s.journal + places_on r (length blocks) ring.head) places.places
        ∙ ap (λ pl. s.journal + places_on s.ring (length blocks) pl) head_now
        ∙ ap (λ pl. s.journal + pl) (sym (places_on-add s.ring (length (log_blocks s)) (length blocks) s.head))
        ∙ ap (λ n. s.journal + places_on s.ring (length (log_blocks s) + n) s.head) (sym (barrier_count (before ring.started) ∙ counted ring.started));
    last_barrier = refl;
    last_header = written.commit (s.sequence + (N + 1 - 1)) fits;
    fenced = barrier_fenced (before ring.started);
    closed = λ e. inr (nothing_else ring.started refl (barrier_none (before ring.started) e));
    begun = omega arith;
    first = λ one. inr (starts ring.started refl one);
    spells =
        subst (λ bs. Spells s.format (sequence_of s (N + 1)) (bodies_of s bs ++ (log_bytes (with_barrier (before ring.started)) ++ w.commit (s.sequence + (N + 1 - 1)) ∷ [])) t) (sym none_of_it)
        (subst (λ bs. Spells s.format (sequence_of s (N + 1)) (bs ++ w.commit (s.sequence + (N + 1 - 1)) ∷ []) t) (sym (barrier_bytes (before ring.started) ∙ bytes ring.started))
        (plan_spells w (N + 1) (s.sequence + (N + 1 - 1)) s.format written t writable fits));
  }

  -- The places are handed out: one for each log block of the plan.
  pub built_places : log_blocks_for w (length t.bodies) (length t.revokes) ≤ ring_free ring
      → PlaceFacts s (record (place_blocks (log_blocks_for w (length t.bodies) (length t.revokes)) ring) { started = true }) (count (with_barrier (before ring.started)) + 1)
  built_places room =
      let n = plan_counted w (N + 1) (s.sequence + (N + 1 - 1)) t.bodies t.revokes written.some_tags written.some_revokes in
      let m = barrier_count (before ring.started) ∙ counted ring.started in
      let all : log_blocks_for w (length t.bodies) (length t.revokes) ≡ count (with_barrier (before ring.started)) + 1 = omega arith in
      let most = places.room in
      let size : ring.places.past - ring.places.first ≡ s.ring.past - s.ring.first = ap (λ (r : Ring). r.past - r.first) places.places in
      record {
        places = places.places;
        head =
            ap (λ r. places_on r (log_blocks_for w (length t.bodies) (length t.revokes)) ring.head) places.places
            ∙ ap (λ pl. places_on s.ring (log_blocks_for w (length t.bodies) (length t.revokes)) pl) head_now
            ∙ sym (places_on-add s.ring (length (log_blocks s)) (log_blocks_for w (length t.bodies) (length t.revokes)) s.head)
            ∙ ap (λ k. places_on s.ring (length (log_blocks s) + k) s.head) all;
        room = omega arith;
        within = omega arith;
        freed = λ i e h. ⊎_elim (λ used. inl (omega arith)) (λ f. inr f) (places.freed i e h);
      }
