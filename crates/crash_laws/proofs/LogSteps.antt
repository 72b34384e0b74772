-- The clauses of notes, of the log's layout, of superblocks and of images, at a new request.
use Rattle.std.specs.Prelude.{◌≡◌, ℕ, zero, suc, ◌+◌, ◌<◌, ◌≤◌, ◌==◌, ◌⊎◌, Bool, false, List, [], ◌∷◌, ◌++◌, length, Option, Some, None, slice_get, nat_lt, refl}
use Rattle.std.specs.Option.{option_and_then, unwrap_or}
use Rattle.std.specs.List.{filter}
use Rattle.std.proofs.Common.{sym, ap, subst, ◌∙◌, inl, inr, ⊎_elim, arith, append-nil, le-ltb, ne_eqb}
use Rattle.std.proofs.lemmas.Bool.{cases_lt}
use Rattle.std.proofs.lemmas.List.Elements.{filter-append}
use Rattle.blk_base.specs.Members.{In}
use Rattle.blk_base.specs.laws.Members.{In-filter, slice_get-length, slice_get-push_cases}
use Rattle.order_model.specs.declared.request.Request.{Request}
use Rattle.order_model.specs.declared.note.Note.{Note}
use Rattle.order_model.specs.declared.note.Note.TheVariants.{Super, Commit, Home}
use Rattle.order_model.specs.OrderClosed.{IsPutOf, IsFence, kind_block, kind_body}
use Rattle.log_model.specs.Log.{Tail, Spells}
use Rattle.log_model.specs.Marks.{Transaction, Set, mark_in, transactions_from}
use Rattle.log_model.specs.Ring.{places_on}
use Rattle.crash_laws.specs.laws.Clauses.{CommitClause, LogClause, SuperClause, CheckpointClause}
use Rattle.crash_laws.specs.Ordering.{Fenced}
use Rattle.crash_laws.specs.Rules.{CommitOrder, LogLayout, CheckpointOrder, HasHeader, IsSentHome}
use Rattle.crash_laws.specs.Session.{HasNote, log_transaction, IsLog, IsCommit, CommitBefore, IsSubmitted, Before, Submitted, body_at, LogBlock, with_log_block, log_blocks_from, log_blocks, log_blocks_of, bodies_of, sequence_of, first_place, IsSuperOf}
use Rattle.crash_laws.specs.laws.Submitting.{Submitting, after, new_place}
use Rattle.crash_laws.proofs.Commits.{commit_below}
use Rattle.crash_laws.proofs.Growing.{closed_off, note_old, note_new, note_cases, log_within, log_cases, commit_before_old, put_old, put_new, new_put, put_back, request_new, request_old, fence_old, fence_new, fenced_old, body_old}
use Rattle.crash_laws.proofs.LogBlocks.{filter_none, In-log_blocks}
use Rattle.crash_laws.proofs.Superblocks.{one_tail}

-- ---- requests fit their notes

-- ---- layout of the log

with_log_block-append : (o : Option ℕ) (i : ℕ) (xs ys : List LogBlock) → with_log_block o i (xs ++ ys) ≡ with_log_block o i xs ++ ys
with_log_block-append None i xs ys = refl
with_log_block-append (Some k) i xs ys = refl

pub log_blocks-push : (i : ℕ) (ns : List Note) (n : Note) → log_blocks_from i (ns ++ n ∷ []) ≡ log_blocks_from i ns ++ with_log_block (log_transaction n) (i + length ns) []
log_blocks-push i [] n = let e : i ≡ i + 0 = omega arith in ap (λ j. with_log_block (log_transaction n) j []) e
log_blocks-push i (m ∷ ns) n =
    let e : i + 1 + length ns ≡ i + suc (length ns) = omega arith in
    ap (with_log_block (log_transaction m) i) (log_blocks-push (i + 1) ns n ∙ ap (λ j. log_blocks_from (i + 1) ns ++ with_log_block (log_transaction n) j []) e)
    ∙ with_log_block-append (log_transaction m) i (log_blocks_from (i + 1) ns) (with_log_block (log_transaction n) (i + suc (length ns)) [])

-- a run depends on its transactions alone
pub same_transactions : (tx other : ℕ → Transaction) (first n : ℕ) → ((k : ℕ) → first ≤ k → k < first + n → tx k ≡ other k) → transactions_from tx first n ≡ transactions_from other first n
same_transactions tx other first zero h = refl
same_transactions tx other first (suc n) h =
    let rest = same_transactions tx other first n (λ k lo hi. h k lo (omega arith)) in
    ap (λ xs. xs ++ tx (first + n) ∷ []) rest ∙ ap (λ t. transactions_from other first n ++ t ∷ []) (h (first + n) (omega arith) (omega arith))

module _ (p : Submitting) where
  pub log_blocks_after : log_blocks (after p) ≡ log_blocks p.session ++ with_log_block (log_transaction p.note) (new_place p) []
  log_blocks_after =
      let e : 0 + length p.session.notes ≡ new_place p = omega arith in
      log_blocks-push 0 p.session.notes p.note ∙ ap (λ j. log_blocks p.session ++ with_log_block (log_transaction p.note) j []) e

  pub body_at_old : (i : ℕ) → i < new_place p → body_at (after p) i ≡ body_at p.session i
  body_at_old i lt = ap (λ o. unwrap_or (option_and_then (λ (r : Request). kind_body r.kind) o) []) (request_old p i lt)

  pub body_at_new : body_at (after p) (new_place p) ≡ unwrap_or (kind_body p.request.kind) []
  body_at_new = ap (λ o. unwrap_or (option_and_then (λ (r : Request). kind_body r.kind) o) []) (request_new p)

  -- where the new log block is none of those that are asked for
  pub filter_new : (test : LogBlock → Bool) → ((k : ℕ) → log_transaction p.note ≡ Some k → test (record { id = new_place p; transaction = k }) ≡ false) → filter test (log_blocks (after p)) ≡ filter test (log_blocks p.session)
  filter_new test none =
      ap (filter test) log_blocks_after
      ∙ filter-append test (log_blocks p.session) (with_log_block (log_transaction p.note) (new_place p) [])
      ∙ ap (λ xs. filter test (log_blocks p.session) ++ xs) (filter_none test (with_log_block (log_transaction p.note) (new_place p) []) (each (log_transaction p.note) refl))
      ∙ append-nil (filter test (log_blocks p.session))
    where
      each : (o : Option ℕ) → log_transaction p.note ≡ o → (e : LogBlock) → In e (with_log_block o (new_place p) []) → test e ≡ false
      each None q e i = absurd i
      each (Some k) q e (inl same) = subst (λ x. test x ≡ false) same (none k q)
      each (Some k) q e (inr i) = absurd i

  bodies_old : (es : List LogBlock) → ((e : LogBlock) → In e es → e.id < new_place p) → bodies_of (after p) es ≡ bodies_of p.session es
  bodies_old [] h = refl
  bodies_old (e ∷ es) h =
      ap (λ x. x ∷ bodies_of (after p) es) (body_at_old e.id (h e (inl refl))) ∙ ap (λ xs. body_at p.session e.id ∷ xs) (bodies_old es (λ x i. h x (inr i)))

  log_block_below : (e : LogBlock) → In e (log_blocks p.session) → e.id < new_place p
  log_block_below e i =
      let d = In-log_blocks 0 p.session.notes e i in
      let at = d.1 in
      let lt = log_within p e.transaction d.0 d.2 in
      omega arith

  module _ (order : CommitOrder p.session) (clause : CommitClause p.session p.request p.note) where
    -- the new log block is of a transaction above each one that is committed
    pub new_above : (k l : ℕ) → IsSubmitted p.session k → log_transaction p.note ≡ Some l → k < l
    new_above k l (Before z) e = let pos = clause.numbered l e in omega arith
    new_above k l (Submitted c h) e =
        ⊎_elim
        (λ lt. lt)
        (λ le. let d = commit_below order l k c h (clause.numbered l e) le in absurd (clause.unfinished l e (d.0, d.1)))
        (cases_lt k l)

    pub committed_transactions : (k : ℕ) → IsSubmitted p.session k → transactions_from p.transactions 1 k ≡ transactions_from p.session.transactions 1 k
    committed_transactions k (Before z) = ap (transactions_from p.transactions 1) z ∙ sym (ap (transactions_from p.session.transactions 1) z)
    committed_transactions k (Submitted c h) =
        same_transactions p.transactions p.session.transactions 1 k
        (λ j lo hi. let d = commit_below order j k c h lo (omega arith) in p.same j d.0 d.1)

    module _ (checkpoints : CheckpointOrder p.session) where
      freed_submitted : (i freed : ℕ) → IsSuperOf p.session i freed → IsSubmitted p.session freed
      freed_submitted i freed super =
          ⊎_elim
          (λ pos. let c = checkpoints.behind i freed super pos in Submitted c.0 c.1)
          (λ z. Before (omega arith))
          (cases_lt 0 freed)

      first_place_old : (freed : ℕ) → IsSubmitted p.session freed → first_place (after p) (freed + 1) ≡ first_place p.session (freed + 1)
      first_place_old freed sub =
          ap (λ (es : List LogBlock). places_on p.session.ring (length es) p.session.head)
          (filter_new (λ (e : LogBlock). nat_lt e.transaction (freed + 1)) (λ k e. let up = new_above freed k sub e in le-ltb k (freed + 1) (omega arith)))

      pub super_old : (i freed : ℕ) → IsSuperOf p.session i freed → IsSuperOf (after p) i freed
      super_old i freed super = record {
        note = note_old p i Super super.note;
        fields =
            ap p.session.format.tail (body_at_old i (slice_get-length p.session.notes i Super super.note))
            ∙ super.fields
            ∙ ap (λ x. record { sequence = p.session.sequence + freed; start = x }) (sym (first_place_old freed (freed_submitted i freed super)));
      }

      pub log_layout_step : LogLayout p.session → LogClause p → LogLayout (after p)
      log_layout_step old new = record {
        place = λ m e h. place m e (slice_get-push_entry m e h);
        again = λ k l i j b lt h g ph pg. again k l i j b lt (log_cases p k i h) (log_cases p l j g) ph pg;
        header = λ i n h. header i n (note_cases p i n h);
        spells = λ k i h. spells k i (note_cases p i (Commit k) h);
        head = old.head;
      }
        where
          slice_get-push_entry : (m : ℕ) (e : LogBlock) → slice_get (log_blocks (after p)) m ≡ Some e
              → (slice_get (log_blocks p.session) m ≡ Some e) ⊎ ((m ≡ length (log_blocks p.session)) × (log_transaction p.note ≡ Some e.transaction) × (e.id ≡ new_place p))
          slice_get-push_entry m e h = by (log_transaction p.note) refl (sym (ap (λ xs. slice_get xs m) log_blocks_after) ∙ h)
            where
              by : (o : Option ℕ) → log_transaction p.note ≡ o → slice_get (log_blocks p.session ++ with_log_block o (new_place p) []) m ≡ Some e
                  → (slice_get (log_blocks p.session) m ≡ Some e) ⊎ ((m ≡ length (log_blocks p.session)) × (log_transaction p.note ≡ Some e.transaction) × (e.id ≡ new_place p))
              by None q k = inl (sym (ap (λ xs. slice_get xs m) (append-nil (log_blocks p.session))) ∙ k)
              by (Some t) q k =
                  ⊎_elim inl
                  (λ r. inr (r.0, q ∙ ap (λ (x : LogBlock). Some x.transaction) r.1, sym (ap (λ (x : LogBlock). x.id) r.1)))
                  (slice_get-push_cases (log_blocks p.session) (record { id = new_place p; transaction = t }) m e k)

          place : (m : ℕ) (e : LogBlock) → (slice_get (log_blocks p.session) m ≡ Some e) ⊎ ((m ≡ length (log_blocks p.session)) × (log_transaction p.note ≡ Some e.transaction) × (e.id ≡ new_place p))
              → IsPutOf (p.session.requests ++ p.request ∷ []) e.id (p.session.journal + places_on p.session.ring m p.session.head)
          place m e (inl h) = put_old p.session.requests p.request e.id _ (old.place m e h)
          place m e (inr h) =
              subst (λ i. IsPutOf (p.session.requests ++ p.request ∷ []) i (p.session.journal + places_on p.session.ring m p.session.head)) (sym h.2)
              (put_new p _ (subst (λ j. kind_block p.request.kind ≡ Some (p.session.journal + places_on p.session.ring j p.session.head)) (sym h.0) (new.place e.transaction h.1)))

          again : (k l i j b : ℕ) → i < j → IsLog p.session k i ⊎ ((i ≡ new_place p) × (log_transaction p.note ≡ Some k)) → IsLog p.session l j ⊎ ((j ≡ new_place p) × (log_transaction p.note ≡ Some l))
              → IsPutOf (p.session.requests ++ p.request ∷ []) i b → IsPutOf (p.session.requests ++ p.request ∷ []) j b
              → (x freed : ℕ) × IsSuperOf (after p) x freed × (i < x) × (x < j) × (k ≤ freed)
          again k l i j b lt (inl h) (inl g) ph pg =
              let a = old.again k l i j b lt h g (put_back p i b (log_within p k i h) ph) (put_back p j b (log_within p l j g) pg) in
              (a.0, a.1, super_old a.0 a.1 a.2, a.3, a.4, a.5)
          again k l i j b lt (inl h) (inr g) ph pg =
              let at = g.0 in
              let a = new.again k l i b g.1 (new_put p b (subst (λ x. IsPutOf (p.session.requests ++ p.request ∷ []) x b) at pg)) h (put_back p i b (log_within p k i h) ph) in
              let within = slice_get-length p.session.notes a.0 Super a.2.note in
              (a.0, a.1, super_old a.0 a.1 a.2, a.3, omega arith, a.4)
          again k l i j b lt (inr h) (inl g) ph pg = let within = log_within p l j g in let at = h.0 in absurd (omega arith)
          again k l i j b lt (inr h) (inr g) ph pg = let at = h.0 in let bt = g.0 in absurd (omega arith)

          header : (i : ℕ) (n : Note) → HasNote p.session i n ⊎ ((i ≡ new_place p) × (p.note ≡ n)) → HasHeader p.session.sequence n (p.session.format.header (body_at (after p) i))
          header i n (inl h) =
              subst (λ x. HasHeader p.session.sequence n (p.session.format.header x)) (sym (body_at_old i (slice_get-length p.session.notes i n h))) (old.header i n h)
          header i n (inr h) =
              subst (λ x. HasHeader p.session.sequence n (p.session.format.header x)) (sym (ap (body_at (after p)) h.0 ∙ body_at_new))
              (subst (λ m. HasHeader p.session.sequence m (p.session.format.header (unwrap_or (kind_body p.request.kind) []))) h.1 new.header)

          spells : (k i : ℕ) → IsCommit p.session k i ⊎ ((i ≡ new_place p) × (p.note ≡ Commit k)) → Spells p.session.format (sequence_of p.session k) (bodies_of (after p) (log_blocks_of k (log_blocks (after p)))) (p.transactions k)
          spells k i (inr h) = new.spells k h.1
          spells k i (inl h) =
              let es = filter_new (λ (e : LogBlock). e.transaction == k) (λ l e. let up = new_above k l (Submitted i h) e in ne_eqb l k (λ q. omega arith)) in
              let bodies : bodies_of (after p) (log_blocks_of k (log_blocks (after p))) ≡ bodies_of p.session (log_blocks_of k (log_blocks p.session)) =
              ap (bodies_of (after p)) es ∙ bodies_old (log_blocks_of k (log_blocks p.session)) (λ e j. log_block_below e (In-filter (λ (x : LogBlock). x.transaction == k) (log_blocks p.session) e j).0) in
              subst (λ bs. Spells p.session.format (sequence_of p.session k) bs (p.transactions k)) (sym bodies)
              (subst (Spells p.session.format (sequence_of p.session k) (bodies_of p.session (log_blocks_of k (log_blocks p.session)))) (sym (p.same k i h)) (old.spells k i h))

-- ---- superblocks and checkpoints

module _ (p : Submitting) (order : CommitOrder p.session) (clause : CommitClause p.session p.request p.note) (old : CheckpointOrder p.session) where
  submitted_below : (j k c : ℕ) → IsCommit p.session k c → j ≤ k → IsSubmitted p.session j
  submitted_below j k c h le =
      ⊎_elim
      (λ pos. let d = commit_below order j k c h pos le in Submitted d.0 d.1)
      (λ z. Before (omega arith))
      (cases_lt 0 j)

  pub below_submitted : (j k : ℕ) → IsSubmitted p.session k → j ≤ k → IsSubmitted p.session j
  below_submitted j k (Before z) le = Before (omega arith)
  below_submitted j k (Submitted c h) le = submitted_below j k c h le

  pub mark_old : (k b : ℕ) → IsSubmitted p.session k → mark_in (transactions_from p.transactions 1 k) b ≡ mark_in (transactions_from p.session.transactions 1 k) b
  mark_old k b sub = ap (λ txs. mark_in txs b) (committed_transactions p order clause k sub)

  -- a superblock in the grown list
  super_cases : (i freed : ℕ) → IsSuperOf (after p) i freed → HasNote p.session i Super ⊎ ((i ≡ new_place p) × (p.note ≡ Super))
  super_cases i freed h = note_cases p i Super h.note

  -- an old one has its old tail
  super_back : (i freed : ℕ) → IsSuperOf (after p) i freed → HasNote p.session i Super → IsSuperOf p.session i freed
  super_back i freed h note =
      let t = old.tail i note in
      let same = one_tail (after p) i t.0 freed (super_old p order clause old i t.0 t.1) h in
      subst (IsSuperOf p.session i) same t.1

  new_tail : (i freed : ℕ) → IsSuperOf (after p) i freed → i ≡ new_place p → (c : SuperClause p.session p.request) → freed ≡ c.freed
  new_tail i freed h at c =
      let body : body_at (after p) i ≡ unwrap_or (kind_body p.request.kind) [] = ap (body_at (after p)) at ∙ body_at_new p in
      let e = ap (λ (t : Tail). t.sequence) (sym h.fields ∙ ap p.session.format.tail body ∙ c.fields) in
      omega arith

  clause_submitted : (c : SuperClause p.session p.request) → IsSubmitted p.session c.freed
  clause_submitted c =
      ⊎_elim (λ pos. let d = c.committed pos in Submitted d.0 d.1) (λ z. Before (omega arith)) (cases_lt 0 c.freed)

  pub checkpoint_order_step : CheckpointClause p.session p.request p.note → CheckpointOrder (after p)
  checkpoint_order_step new = record {
    tail = λ i h. tail i (note_cases p i Super h);
    first = λ c h.
        ⊎_elim
        (λ o. let x = old.first c o in (x.0, super_old p order clause old x.0 0 x.1))
        (λ l. let x = new.first l.1 in (x.0, super_old p order clause old x.0 0 x.1))
        (note_cases p c (Commit 1) h);
    before = λ i freed c h g. before i freed c h (super_cases i freed h) (note_cases p c (Commit (freed + 1)) g);
    behind = λ i freed h pos. behind i freed h pos (super_cases i freed h);
    barrier = λ i freed h pos. barrier i freed h pos (super_cases i freed h);
    homes = λ i freed b x h set. homes i freed b x h set (super_cases i freed h);
  }
    where
      tail : (i : ℕ) → HasNote p.session i Super ⊎ ((i ≡ new_place p) × (p.note ≡ Super)) → (freed : ℕ) × IsSuperOf (after p) i freed
      tail i (inl h) = let t = old.tail i h in (t.0, super_old p order clause old i t.0 t.1)
      tail i (inr h) =
          let c = new.super h.1 in
          let body : body_at (after p) i ≡ unwrap_or (kind_body p.request.kind) [] = ap (body_at (after p)) h.0 ∙ body_at_new p in (
            c.freed,
            record {
              note = subst (λ j. HasNote (after p) j Super) (sym h.0) (subst (HasNote (after p) (new_place p)) h.1 (note_new p));
              fields = ap p.session.format.tail body ∙ c.fields ∙ ap (λ x. record { sequence = p.session.sequence + c.freed; start = x }) (sym (first_place_old p order clause old c.freed (clause_submitted c)));
            },
          )

      before : (i freed c : ℕ) → IsSuperOf (after p) i freed → HasNote p.session i Super ⊎ ((i ≡ new_place p) × (p.note ≡ Super)) → IsCommit p.session (freed + 1) c ⊎ ((c ≡ new_place p) × (p.note ≡ Commit (freed + 1))) → Fenced (p.session.requests ++ p.request ∷ []) i c
      before i freed c h (inl o) (inl g) = fenced_old p.session.requests p.request i c (old.before i freed c (super_back i freed h o) g)
      before i freed c h (inl o) (inr g) = subst (Fenced (p.session.requests ++ p.request ∷ []) i) (sym g.0) (closed_off p i (new.before i freed g.1 (super_back i freed h o)))
      before i freed c h (inr o) (inl g) =
          let k = new.super o.1 in
          let e = new_tail i freed h o.0 k in
          absurd (k.last (c, subst (λ f. IsCommit p.session (f + 1) c) e g))
      before i freed c h (inr o) (inr g) = absurd (let clash : ⊥ = other_note (sym o.1 ∙ g.1) in clash)
        where
          other_note : Super ≡ Commit (freed + 1) → ⊥
          other_note e = cc

      behind : (i freed : ℕ) → IsSuperOf (after p) i freed → 1 ≤ freed → HasNote p.session i Super ⊎ ((i ≡ new_place p) × (p.note ≡ Super)) → CommitBefore (after p) freed i
      behind i freed h pos (inl o) = commit_before_old p freed i (old.behind i freed (super_back i freed h o) pos)
      behind i freed h pos (inr o) =
          let k = new.super o.1 in
          let e = new_tail i freed h o.0 k in
          let c = k.committed (omega arith) in
          let lt = slice_get-length p.session.notes c.0 (Commit k.freed) c.1 in
          let at = o.0 in
          (c.0, subst (λ f. IsCommit (after p) f c.0) (sym e) (note_old p c.0 (Commit k.freed) c.1), omega arith)

      barrier : (i freed : ℕ) → IsSuperOf (after p) i freed → 1 ≤ freed → HasNote p.session i Super ⊎ ((i ≡ new_place p) × (p.note ≡ Super)) → IsFence (p.session.requests ++ p.request ∷ []) i
      barrier i freed h pos (inl o) = fence_old p.session.requests p.request i (old.barrier i freed (super_back i freed h o) pos)
      barrier i freed h pos (inr o) =
          let k = new.super o.1 in
          let e = new_tail i freed h o.0 k in
          subst (IsFence (p.session.requests ++ p.request ∷ [])) (sym o.0) (fence_new p (k.barrier (omega arith)))

      homes : (i freed b : ℕ) (x : List ℕ) → IsSuperOf (after p) i freed → mark_in (transactions_from p.transactions 1 freed) b ≡ Set x → HasNote p.session i Super ⊎ ((i ≡ new_place p) × (p.note ≡ Super)) → IsSentHome (after p) b x freed i
      homes i freed b x h set (inl o) =
          let super = super_back i freed h o in
          let sub = freed_submitted p order clause old i freed super in
          let s = old.homes i freed b x super (sym (mark_old freed b sub) ∙ set) in
          record {
            home = s.home;
            note = note_old p s.home (Home b) s.note;
            body = body_old p.session.requests p.request s.home x s.body;
            fenced = fenced_old p.session.requests p.request s.home i s.fenced;
            since = s.since;
            committed = commit_before_old p s.since s.home s.committed;
            within = s.within;
            stays = λ j lo hi. mark_old j b (below_submitted j freed sub hi) ∙ s.stays j lo hi;
          }
      homes i freed b x h set (inr o) =
          let k = new.super o.1 in
          let e = new_tail i freed h o.0 k in
          let sub = clause_submitted k in
          let s = k.homes b x (sym (mark_old k.freed b sub) ∙ ap (λ f. mark_in (transactions_from p.transactions 1 f) b) (sym e) ∙ set) in
          let hi = s.within in
          record {
            home = s.home;
            note = note_old p s.home (Home b) s.note;
            body = body_old p.session.requests p.request s.home x s.body;
            fenced = subst (Fenced (p.session.requests ++ p.request ∷ []) s.home) (sym o.0) (closed_off p s.home s.closed);
            since = s.since;
            committed = commit_before_old p s.since s.home s.committed;
            within = omega arith;
            stays = λ j lo hi. mark_old j b (below_submitted j k.freed sub (omega arith)) ∙ s.stays j lo (omega arith);
          }
