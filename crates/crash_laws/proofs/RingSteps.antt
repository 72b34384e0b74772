-- The ring of the log and the bodies that wait for a checkpoint: facts of a host by which its log blocks, home
-- requests and superblocks keep the rules.
use Rattle.std.specs.Prelude.{◌≡◌, ◌≢◌, ℕ, ◌+◌, ◌-◌, ◌<◌, ◌≤◌, ◌⊎◌, ◌||◌, List, [], ◌∷◌, ◌++◌, length, Option, Some, None, slice_get, nat_lt, IsTrue, refl}
use Rattle.std.specs.Option.{unwrap_or}
use Rattle.std.proofs.Common.{sym, ap, subst, ◌∙◌, inl, inr, ⊎_elim, arith, lt-ltb, le-ltb, ltb-true, append-nil, length-append}
use Rattle.std.proofs.lemmas.Bool.{cases_lt}
use Rattle.std.proofs.lemmas.Option.{none-some, same_Some}
use Rattle.blk_base.specs.Members.{In}
use Rattle.blk_base.specs.laws.Members.{In-filter, In-slice_get, slice_get-append_left, filter_all, slice_get-length, slice_get-In}
use Rattle.order_model.specs.declared.request.Request.{Request}
use Rattle.order_model.specs.declared.note.Note.TheVariants.{Super, Commit, Home}
use Rattle.order_model.specs.OrderClosed.{IsPutOf, IsPutWith, is_flush, kind_body}
use Rattle.log_model.specs.Marks.{Mark, Keep, Clear, Set, followed, mark_in, transaction_mark, transactions_from}
use Rattle.log_model.specs.Ring.{places_in, place_after, places_on}
use Rattle.log_model.proofs.Marks.{keep≢set, clear≢set, same_Set, mark-split}
use Rattle.log_model.proofs.Ring.{places_on-add, places_on-place, no_return}
use Rattle.crash_laws.specs.laws.Clauses.{SuperClause}
use Rattle.crash_laws.specs.Ordering.{IsClosedOff}
use Rattle.crash_laws.specs.laws.RingFacts.{RingHost, IsAtHome, RingFacts}
use Rattle.crash_laws.specs.Rules.{CommitOrder, LogLayout, CheckpointOrder}
use Rattle.crash_laws.specs.Session.{Session, HasNote, log_transaction, IsLog, LogBlock, with_log_block, log_blocks, log_blocks_below, first_place, IsSuperOf}
use Rattle.crash_laws.specs.laws.Submitting.{Submitting, after, new_place, IsCommitted}
use Rattle.crash_laws.proofs.Commits.{commit_below}
use Rattle.crash_laws.proofs.Growing.{note_old, note_new, note_cases, body_old, body_new, commit_before_old, fence_old, fence_new}
use Rattle.crash_laws.proofs.LogBlocks.{log_is_log_block, below-split}
use Rattle.crash_laws.proofs.LogReads.{log_block_is_log, log_blocks_rise}
use Rattle.crash_laws.proofs.LogSteps.{same_transactions, log_blocks_after, filter_new, super_old}
use Rattle.crash_laws.proofs.Ordering.{same_block}
use Rattle.crash_laws.proofs.Pages.{same_or_not}

-- ---- the facts

pub log_listed : (s : Session) (k i : ℕ) → IsLog s k i → In (record { id = i; transaction = k }) (log_blocks s)
log_listed s k i h =
    let e : 0 + i ≡ i = omega arith in
    subst (λ j. In (record { id = j; transaction = k }) (log_blocks s)) e (log_is_log_block 0 s.notes i k h)

-- ---- what requests owe

module _ {s : Session} {ring : RingHost} {N : ℕ} (facts : RingFacts s ring N) where
  -- A home request carries a body that waits.
  pub home_clause : (q : Request) (b : ℕ) (x : List ℕ) → ring.homes b ≡ Some x → kind_body q.kind ≡ Some x
      → (k : ℕ) × IsCommitted s k × (IsCommitted s (k + 1) → ⊥) × (y : List ℕ) × (kind_body q.kind ≡ Some y) × (mark_in (transactions_from s.transactions 1 k) b ≡ Set y)
  home_clause q b x waits body =
      let set = facts.pending b x waits in
      let pos : 1 ≤ N = ⊎_elim (λ p. p) (λ z. let e : N ≡ 0 = omega arith in absurd (keep≢set x (sym (ap (λ n. mark_in (transactions_from s.transactions 1 n) b) e) ∙ set))) (cases_lt 0 N) in
      (N, facts.committed N pos (omega arith), λ c. let le = facts.no_more (N + 1) c.0 c.1 in absurd (omega arith), x, body, set)

  -- A superblock that frees all transactions, once no body waits and no log block of the next one stands.
  pub super_clause : (q : Request) → ((b : ℕ) → ring.homes b ≡ None) → ((k i : ℕ) → IsLog s k i → k ≤ N)
      → s.format.tail (unwrap_or (kind_body q.kind) []) ≡ record { sequence = s.sequence + N; start = ring.head } → IsTrue (q.barrier || is_flush q.kind) → SuperClause s q
  super_clause q none quiet fields barrier =
      let all : log_blocks_below (N + 1) (log_blocks s) ≡ log_blocks s =
      filter_all (λ (e : LogBlock). nat_lt e.transaction (N + 1)) (log_blocks s) (λ e i. let le = quiet e.transaction e.id (log_block_is_log s e i) in lt-ltb e.transaction (N + 1) (omega arith)) in
      let start : ring.head ≡ first_place s (N + 1) = facts.head ∙ ap (λ (es : List LogBlock). places_on s.ring (length es) s.head) (sym all) in
      record {
        freed = N;
        fields = fields ∙ ap (λ x. record { sequence = s.sequence + N; start = x }) start;
        last = λ c. let le = facts.no_more (N + 1) c.0 c.1 in omega arith;
        committed = λ pos. facts.committed N pos (omega arith);
        barrier = λ pos. barrier;
        homes = λ b x set.
            let h = facts.at_home b x set (none b) in
            record { home = h.home; note = h.note; body = h.body; closed = facts.closed none h.home b h.note; since = h.since; committed = h.committed; within = h.within; stays = h.stays };
      }

  -- A log block at the head: what stood there before was freed, as long as a place is left.
  pub again_clause : CommitOrder s → LogLayout s → CheckpointOrder s → ring.used < places_in s.ring → (k i b : ℕ) → b ≡ s.journal + ring.head → IsLog s k i → IsPutOf s.requests i b
      → (x freed : ℕ) × IsSuperOf s x freed × (i < x) × (k ≤ freed)
  again_clause order layout checkpoints room k i b at log put =
      let place = In-slice_get (log_blocks s) (record { id = i; transaction = k }) (log_listed s k i log) in
      ⊎_elim
      (λ in_use. absurd (not_in_use place.0 place.2 in_use))
      (λ below.
      let pos = order.numbered k i log in
      let x = facts.super (omega arith) in
      let c = checkpoints.behind x.0 ring.freed x.1 (omega arith) in
      let d = commit_below order k ring.freed c.0 c.1 pos below in
      let up = d.2 in
      let lt = c.2 in
      (x.0, ring.freed, x.1, ⊎_elim (λ same. omega arith) (λ f. let lo = f.1 in let hi = f.2 in omega arith) (order.before k i d.0 log d.1), below))
      (cases_lt ring.freed k)
    where
      -- one of a transaction that is not freed stands among the last `used`, all at other places
      not_in_use : (n : ℕ) → slice_get (log_blocks s) n ≡ Some (record { id = i; transaction = k }) → ring.freed < k → ⊥
      not_in_use n there above =
          let es = log_blocks s in
          let split = below-split (ring.freed + 1) es (log_blocks_rise s order) in
          let used = facts.used in
          let total = slice_get-length es n (record { id = i; transaction = k }) there in
          let behind : length (log_blocks_below (ring.freed + 1) es) ≤ n =
          ⊎_elim
          (λ early.
          let x : slice_get (log_blocks_below (ring.freed + 1) es) n ≡ Some (record { id = i; transaction = k }) =
          sym (slice_get-append_left (log_blocks_below (ring.freed + 1) es) _ n early) ∙ sym (ap (λ l. slice_get l n) split) ∙ there in
          let small = ltb-true k (ring.freed + 1) (In-filter (λ (e : LogBlock). nat_lt e.transaction (ring.freed + 1)) es (record { id = i; transaction = k }) (slice_get-In (log_blocks_below (ring.freed + 1) es) n (record { id = i; transaction = k }) x)).1 in
          absurd (omega arith))
          (λ le. le)
          (cases_lt n (length (log_blocks_below (ring.freed + 1) es))) in
          let first = layout.place n (record { id = i; transaction = k }) there in
          let same_place : places_on s.ring n s.head ≡ ring.head = let e = same_block s.requests i (s.journal + places_on s.ring n s.head) b first put in omega arith in
          let d = length es - n in
          let e : n + d ≡ length es = omega arith in
          no_return s.ring d (places_on s.ring n s.head) (places_on-place s.ring n s.head layout.head) (omega arith) (omega arith)
          (sym (places_on-add s.ring n d s.head) ∙ ap (λ m. places_on s.ring m s.head) e ∙ sym facts.head ∙ sym same_place)

-- ---- the facts are kept

module _ (p : Submitting) {ring : RingHost} {N : ℕ} (facts : RingFacts p.session ring N) (agree : (k : ℕ) → 1 ≤ k → k ≤ N → p.transactions k ≡ p.session.transactions k) where
  ring_transactions_agree : (k : ℕ) → k ≤ N → transactions_from p.transactions 1 k ≡ transactions_from p.session.transactions 1 k
  ring_transactions_agree k le = same_transactions p.transactions p.session.transactions 1 k (λ j lo hi. agree j lo (omega arith))

  ring_marks_agree : (k b : ℕ) → k ≤ N → mark_in (transactions_from p.transactions 1 k) b ≡ mark_in (transactions_from p.session.transactions 1 k) b
  ring_marks_agree k b le = ap (λ txs. mark_in txs b) (ring_transactions_agree k le)

  home_old : (b : ℕ) (x : List ℕ) → IsAtHome p.session b x N → IsAtHome (after p) b x N
  home_old b x h = record {
    home = h.home;
    note = note_old p h.home (Home b) h.note;
    body = body_old p.session.requests p.request h.home x h.body;
    since = h.since;
    committed = commit_before_old p h.since h.home h.committed;
    within = h.within;
    stays = λ j lo hi. ring_marks_agree j b hi ∙ h.stays j lo hi;
  }

  closed_old : (o : ℕ) → IsClosedOff p.session.requests o → IsClosedOff (p.session.requests ++ p.request ∷ []) o
  closed_old o c = (c.0, c.1, fence_old p.session.requests p.request c.0 c.2)

  closed_now : IsTrue (p.request.barrier || is_flush p.request.kind) → (o b : ℕ) → HasNote (after p) o (Home b) → IsClosedOff (p.session.requests ++ p.request ∷ []) o
  closed_now barrier o b note =
      let size = length-append p.session.notes (p.note ∷ []) in
      let lt = slice_get-length (p.session.notes ++ p.note ∷ []) o (Home b) note in
      (new_place p, omega arith, fence_new p barrier)

  -- a request that is no log block, no home and no superblock
  pub other_ring_step : log_transaction p.note ≡ None → ((b : ℕ) → p.note ≡ Home b → ⊥) → ((freed : ℕ) (x : ℕ) → IsSuperOf p.session x freed → IsSuperOf (after p) x freed) → RingFacts (after p) ring N
  other_ring_step no_log no_home super_old =
      let same : log_blocks (after p) ≡ log_blocks p.session = log_blocks_after p ∙ ap (λ o. log_blocks p.session ++ with_log_block o (new_place p) []) no_log ∙ append-nil (log_blocks p.session) in
      record {
        committed = λ k lo hi. let c = facts.committed k lo hi in (c.0, note_old p c.0 (Commit k) c.1);
        no_more = λ k c g. ⊎_elim (λ o. facts.no_more k c o) (λ n. absurd (none-some k (sym no_log ∙ ap log_transaction n.1))) (note_cases p c (Commit k) g);
        pending = λ b x h. ring_marks_agree N b (omega arith) ∙ facts.pending b x h;
        at_home = λ b x set none. home_old b x (facts.at_home b x (sym (ring_marks_agree N b (omega arith)) ∙ set) none);
        closed = λ none o b note. ⊎_elim (λ l. closed_old o (facts.closed none o b l)) (λ n. absurd (no_home b n.1)) (note_cases p o (Home b) note);
        head = facts.head ∙ ap (λ (es : List LogBlock). places_on p.session.ring (length es) p.session.head) (sym same);
        used = ap (λ (es : List LogBlock). ring.used + length (log_blocks_below (ring.freed + 1) es)) same ∙ facts.used ∙ ap length (sym same);
        super = λ pos. let x = facts.super pos in (x.0, super_old ring.freed x.0 x.1);
      }

  -- a home request, which takes its body out of those that wait; the last one carries a barrier
  pub home_ring_step : (b : ℕ) (x : List ℕ) (homes : ℕ → Option (List ℕ)) → p.note ≡ Home b → kind_body p.request.kind ≡ Some x → ring.homes b ≡ Some x
      → ((c : ℕ) → b ≢ c → homes c ≡ ring.homes c) → homes b ≡ None
      → (((c : ℕ) → homes c ≡ None) → IsTrue (p.request.barrier || is_flush p.request.kind))
      → ((freed : ℕ) (y : ℕ) → IsSuperOf p.session y freed → IsSuperOf (after p) y freed) → RingFacts (after p) (record ring { homes = homes }) N
  home_ring_step b x homes note body waits others gone last super_old =
      let no_log : log_transaction p.note ≡ None = ap log_transaction note in
      let same : log_blocks (after p) ≡ log_blocks p.session = log_blocks_after p ∙ ap (λ o. log_blocks p.session ++ with_log_block o (new_place p) []) no_log ∙ append-nil (log_blocks p.session) in
      record {
        committed = λ k lo hi. let c = facts.committed k lo hi in (c.0, note_old p c.0 (Commit k) c.1);
        no_more = λ k c g. ⊎_elim (λ o. facts.no_more k c o) (λ n. absurd (none-some k (sym no_log ∙ ap log_transaction n.1))) (note_cases p c (Commit k) g);
        pending = λ c y h.
            ring_marks_agree N c (omega arith)
            ∙ facts.pending c y (⊎_elim (λ e. absurd (none-some y (sym gone ∙ ap homes e ∙ h))) (λ apart. sym (others c apart) ∙ h) (same_or_not b c));
        at_home = λ c y set none. at_home c y (sym (ring_marks_agree N c (omega arith)) ∙ set) none (same_or_not b c);
        closed = λ none. closed_now (last none);
        head = facts.head ∙ ap (λ (es : List LogBlock). places_on p.session.ring (length es) p.session.head) (sym same);
        used = ap (λ (es : List LogBlock). ring.used + length (log_blocks_below (ring.freed + 1) es)) same ∙ facts.used ∙ ap length (sym same);
        super = λ pos. let y = facts.super pos in (y.0, super_old ring.freed y.0 y.1);
      }
    where
      at_home : (c : ℕ) (y : List ℕ) → mark_in (transactions_from p.session.transactions 1 N) c ≡ Set y → homes c ≡ None → (b ≡ c) ⊎ (b ≢ c) → IsAtHome (after p) c y N
      at_home c y set none (inr apart) = home_old c y (facts.at_home c y set (sym (others c apart) ∙ none))
      at_home c y set none (inl e) =
          let here = facts.pending b x waits in
          let body_same : x ≡ y = same_Set x y (sym here ∙ ap (mark_in (transactions_from p.session.transactions 1 N)) e ∙ set) in
          let pos : 1 ≤ N = ⊎_elim (λ q. q) (λ z. let o : N ≡ 0 = omega arith in absurd (keep≢set x (sym (ap (λ n. mark_in (transactions_from p.session.transactions 1 n) b) o) ∙ here))) (cases_lt 0 N) in
          let k = facts.committed N pos (omega arith) in
          record {
            home = new_place p;
            note = subst (HasNote (after p) (new_place p)) (note ∙ ap Home e) (note_new p);
            body = subst (IsPutWith (p.session.requests ++ p.request ∷ []) (new_place p)) body_same (body_new p x body);
            since = N;
            committed = (k.0, note_old p k.0 (Commit N) k.1, slice_get-length p.session.notes k.0 (Commit N) k.1);
            within = omega arith;
            stays = λ j lo hi. let q : N ≡ j = omega arith in ring_marks_agree j c hi ∙ ap (λ n. mark_in (transactions_from p.session.transactions 1 n) c) (sym q) ∙ set;
          }

  -- a log block at the head, of a transaction that is not freed; a commit block's is told apart below
  head_after : (k : ℕ) → log_transaction p.note ≡ Some k → (head : ℕ) → head ≡ place_after p.session.ring ring.head → head ≡ places_on p.session.ring (length (log_blocks (after p))) p.session.head
  head_after k log head at =
      let one : length (log_blocks (after p)) ≡ length (log_blocks p.session) + 1 =
      ap length (log_blocks_after p ∙ ap (λ o. log_blocks p.session ++ with_log_block o (new_place p) []) log) ∙ length-append (log_blocks p.session) (record { id = new_place p; transaction = k } ∷ []) in
      at ∙ ap (place_after p.session.ring) facts.head
      ∙ sym (places_on-add p.session.ring (length (log_blocks p.session)) 1 p.session.head)
      ∙ ap (λ n. places_on p.session.ring n p.session.head) (sym one)

  used_after : (k : ℕ) → log_transaction p.note ≡ Some k → ring.freed < k → ring.used + 1 + length (log_blocks_below (ring.freed + 1) (log_blocks (after p))) ≡ length (log_blocks (after p))
  used_after k log above =
      let one : length (log_blocks (after p)) ≡ length (log_blocks p.session) + 1 =
      ap length (log_blocks_after p ∙ ap (λ o. log_blocks p.session ++ with_log_block o (new_place p) []) log) ∙ length-append (log_blocks p.session) (record { id = new_place p; transaction = k } ∷ []) in
      let below = ap length (filter_new p (λ (e : LogBlock). nat_lt e.transaction (ring.freed + 1)) (λ l e. let q = same_Some k l (sym log ∙ e) in le-ltb l (ring.freed + 1) (omega arith))) in
      let old = facts.used in
      omega arith

  pub log_ring_step : (k head : ℕ) → log_transaction p.note ≡ Some k → ((l : ℕ) → p.note ≡ Commit l → ⊥) → ring.freed < k → head ≡ place_after p.session.ring ring.head
      → ((freed : ℕ) (y : ℕ) → IsSuperOf p.session y freed → IsSuperOf (after p) y freed) → RingFacts (after p) (record ring { head = head; used = ring.used + 1 }) N
  log_ring_step k head log no_commit above at super_old = record {
    committed = λ l lo hi. let c = facts.committed l lo hi in (c.0, note_old p c.0 (Commit l) c.1);
    no_more = λ l c g. ⊎_elim (λ o. facts.no_more l c o) (λ n. absurd (no_commit l n.1)) (note_cases p c (Commit l) g);
    pending = λ b x h. ring_marks_agree N b (omega arith) ∙ facts.pending b x h;
    at_home = λ b x set none. home_old b x (facts.at_home b x (sym (ring_marks_agree N b (omega arith)) ∙ set) none);
    closed = λ none o b note. ⊎_elim (λ l. closed_old o (facts.closed none o b l)) (λ n. absurd (none-some k (sym (ap log_transaction n.1) ∙ log))) (note_cases p o (Home b) note);
    head = head_after k log head at;
    used = used_after k log above;
    super = λ pos. let x = facts.super pos in (x.0, super_old ring.freed x.0 x.1);
  }

  -- The commit block of the next transaction. Its revokes take bodies out of those that wait, and its bodies
  -- come in.
  pub commit_ring_step : (head : ℕ) (homes : ℕ → Option (List ℕ)) → p.note ≡ Commit (N + 1) → ring.freed ≤ N → head ≡ place_after p.session.ring ring.head → IsTrue (p.request.barrier || is_flush p.request.kind)
      → ((b : ℕ) (x : List ℕ) → transaction_mark (p.transactions (1 + N)) b ≡ Set x → homes b ≡ Some x)
      → ((b : ℕ) → transaction_mark (p.transactions (1 + N)) b ≡ Clear → homes b ≡ None)
      → ((b : ℕ) → transaction_mark (p.transactions (1 + N)) b ≡ Keep → homes b ≡ ring.homes b)
      → ((freed : ℕ) (y : ℕ) → IsSuperOf p.session y freed → IsSuperOf (after p) y freed) → RingFacts (after p) (record ring { homes = homes; head = head; used = ring.used + 1 }) (N + 1)
  commit_ring_step head homes note low at barrier sets clears keeps super_old =
      let log : log_transaction p.note ≡ Some (N + 1) = ap log_transaction note in
      record {
        committed = λ l lo hi.
            ⊎_elim
            (λ less. let c = facts.committed l lo (omega arith) in (c.0, note_old p c.0 (Commit l) c.1))
            (λ ge. let e : N + 1 ≡ l = omega arith in (new_place p, subst (λ j. HasNote (after p) (new_place p) (Commit j)) e (subst (HasNote (after p) (new_place p)) note (note_new p))))
            (cases_lt l (N + 1));
        no_more = λ l c g. ⊎_elim (λ o. let le = facts.no_more l c o in omega arith) (λ n. let e = same_Some (N + 1) l (sym log ∙ ap log_transaction n.1) in omega arith) (note_cases p c (Commit l) g);
        pending = λ b x h. pending b x h (transaction_mark (p.transactions (1 + N)) b) refl;
        at_home = λ b x set none. at_home b x set none (transaction_mark (p.transactions (1 + N)) b) refl;
        closed = λ none. closed_now barrier;
        head = head_after (N + 1) log head at;
        used = used_after (N + 1) log (omega arith);
        super = λ pos. let x = facts.super pos in (x.0, super_old ring.freed x.0 x.1);
      }
    where
      next : (b : ℕ) → mark_in (transactions_from p.transactions 1 (N + 1)) b ≡ followed (mark_in (transactions_from p.session.transactions 1 N) b) (transaction_mark (p.transactions (1 + N)) b)
      next b =
          let q : 1 + N + 0 ≡ 1 + N = omega arith in
          mark-split p.transactions N 1 b ∙ ap (λ m. followed m (mark_in (p.transactions (1 + N + 0) ∷ []) b)) (ring_marks_agree N b (omega arith)) ∙ ap (λ k. followed (mark_in (transactions_from p.session.transactions 1 N) b) (mark_in (p.transactions k ∷ []) b)) q

      with_mark : (b : ℕ) (m : Mark) → transaction_mark (p.transactions (1 + N)) b ≡ m → mark_in (transactions_from p.transactions 1 (N + 1)) b ≡ followed (mark_in (transactions_from p.session.transactions 1 N) b) m
      with_mark b m e = next b ∙ ap (followed (mark_in (transactions_from p.session.transactions 1 N) b)) e

      pending : (b : ℕ) (x : List ℕ) → homes b ≡ Some x → (m : Mark) → transaction_mark (p.transactions (1 + N)) b ≡ m → mark_in (transactions_from p.transactions 1 (N + 1)) b ≡ Set x
      pending b x h Keep e = with_mark b Keep e ∙ facts.pending b x (sym (keeps b e) ∙ h)
      pending b x h Clear e = absurd (none-some x (sym (clears b e) ∙ h))
      pending b x h (Set y) e = with_mark b (Set y) e ∙ ap Set (same_Some y x (sym (sets b y e) ∙ h))

      at_home : (b : ℕ) (x : List ℕ) → mark_in (transactions_from p.transactions 1 (N + 1)) b ≡ Set x → homes b ≡ None → (m : Mark) → transaction_mark (p.transactions (1 + N)) b ≡ m → IsAtHome (after p) b x (N + 1)
      at_home b x set none (Set y) e = absurd (none-some y (sym none ∙ sets b y e))
      at_home b x set none Clear e = absurd (clear≢set x (sym (with_mark b Clear e) ∙ set))
      at_home b x set none Keep e =
          let old = home_old b x (facts.at_home b x (sym (with_mark b Keep e) ∙ set) (sym (keeps b e) ∙ none)) in
          let le = old.within in
          record {
            home = old.home;
            note = old.note;
            body = old.body;
            since = old.since;
            committed = old.committed;
            within = omega arith;
            stays = λ j lo hi. ⊎_elim (λ less. old.stays j lo (omega arith)) (λ ge. let q : N + 1 ≡ j = omega arith in subst (λ n. mark_in (transactions_from p.transactions 1 n) b ≡ Set x) q set) (cases_lt j (N + 1));
          }

  -- a superblock that frees all transactions
  pub super_ring_step : (clause : SuperClause p.session p.request) → clause.freed ≡ N → p.note ≡ Super → IsSuperOf (after p) (new_place p) N → ((k i : ℕ) → IsLog p.session k i → k ≤ N) → RingFacts (after p) (record ring { freed = N; used = 0 }) N
  super_ring_step clause at note super quiet =
      let no_log : log_transaction p.note ≡ None = ap log_transaction note in
      let same : log_blocks (after p) ≡ log_blocks p.session = log_blocks_after p ∙ ap (λ o. log_blocks p.session ++ with_log_block o (new_place p) []) no_log ∙ append-nil (log_blocks p.session) in
      let all : log_blocks_below (N + 1) (log_blocks p.session) ≡ log_blocks p.session =
      filter_all (λ (e : LogBlock). nat_lt e.transaction (N + 1)) (log_blocks p.session) (λ e i. let le = quiet e.transaction e.id (log_block_is_log p.session e i) in lt-ltb e.transaction (N + 1) (omega arith)) in
      record {
        committed = λ k lo hi. let c = facts.committed k lo hi in (c.0, note_old p c.0 (Commit k) c.1);
        no_more = λ k c g. ⊎_elim (λ o. facts.no_more k c o) (λ n. absurd (none-some k (sym no_log ∙ ap log_transaction n.1))) (note_cases p c (Commit k) g);
        pending = λ b x h. ring_marks_agree N b (omega arith) ∙ facts.pending b x h;
        at_home = λ b x set none. home_old b x (facts.at_home b x (sym (ring_marks_agree N b (omega arith)) ∙ set) none);
        closed = λ none o b h. ⊎_elim (λ l. closed_old o (facts.closed none o b l)) (λ n. absurd (super_home b (sym note ∙ n.1))) (note_cases p o (Home b) h);
        head = facts.head ∙ ap (λ (es : List LogBlock). places_on p.session.ring (length es) p.session.head) (sym same);
        used = let e = ap (λ es. length (log_blocks_below (N + 1) es)) same ∙ ap length all ∙ ap length (sym same) in omega arith;
        super = λ pos. (new_place p, super);
      }
    where
      super_home : (b : ℕ) → Super ≡ Home b → ⊥
      super_home b e = cc
