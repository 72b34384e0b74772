-- The clauses of notes, of images and of pages, at a new request.
use Rattle.std.specs.Prelude.{◌≡◌, ℕ, ◌+◌, ◌-◌, ◌<◌, ◌≤◌, ◌⊎◌, true, List, [], ◌∷◌, ◌++◌, length, Some, refl}
use Rattle.std.specs.Option.{option_and_then}
use Rattle.std.proofs.Common.{sym, ap, subst, ◌∙◌, inl, inr, ⊎_elim, arith, length-append}
use Rattle.std.proofs.lemmas.Option.{none-some}
use Rattle.blk_base.specs.Members.{In}
use Rattle.blk_base.specs.laws.Members.{slice_get-length}
use Rattle.order_model.specs.declared.request.Request.{Request}
use Rattle.order_model.specs.declared.note.Note.TheVariants.{Page, Super, Commit, Home, Flush, Raw}
use Rattle.order_model.specs.OrderClosed.{IsPutOf, IsPutWith, IsOrdered, kind_block, kind_body}
use Rattle.volume_ops.specs.Volume.{disk_of}
use Rattle.volume_ops.specs.Reads.{Reads, answer, blocks_read}
use Rattle.log_model.specs.Marks.{Transaction, Set, mark_in, body_after, transactions_from}
use Rattle.crash_laws.specs.laws.Clauses.{CommitClause, FitsClause, ImageClause}
use Rattle.crash_laws.specs.History.{History, Calm, last_write}
use Rattle.crash_laws.specs.Ordering.{Fenced}
use Rattle.crash_laws.specs.laws.PageClauses.{PageClause}
use Rattle.crash_laws.specs.PageRules.{IsPageTo, IsGivenUp, place_at, PageOrder, DataBeforeCommit}
use Rattle.crash_laws.specs.Rules.{FitsNotes, CommitOrder, Images, IsFreedBefore, IsHomeOf, is_page_or_flush}
use Rattle.crash_laws.specs.Session.{HasNote, IsCommit, CommitBefore, IsSubmitted, Before, Submitted, image_of}
use Rattle.crash_laws.specs.laws.Submitting.{Submitting, after, new_place, IsCommitted}
use Rattle.crash_laws.proofs.Growing.{closed_off, note_old, note_cases, log_cases, commit_before_old, put_old, put_new, new_put, put_back, request_new, fenced_old, ordered_old, ordered_new, body_old}
use Rattle.crash_laws.proofs.LogSteps.{committed_transactions}

other_notes : (f i v k : ℕ) → Page f i v ≡ Commit k → ⊥
other_notes f i v k e = cc

home_commit : (k b : ℕ) → Home b ≡ Commit k → ⊥
home_commit k b e = cc

-- ---- requests fit their notes

module _ (p : Submitting) where
  pub fits_notes_step : FitsNotes p.session → FitsClause p.session p.request p.note → FitsNotes (after p)
  fits_notes_step old new = record {
    counted = length-append p.session.notes (p.note ∷ []) ∙ ap (λ n. n + length (p.note ∷ [])) p.counted ∙ sym (length-append p.session.requests (p.request ∷ []));
    journal = old.journal;
    home = λ i b h. ⊎_elim (λ o. put_old p.session.requests p.request i b (old.home i b o)) (λ n. at n.0 b (put_new p b (new.home b n.1))) (note_cases p i (Home b) h);
    super = λ i h. ⊎_elim (λ o. put_old p.session.requests p.request i p.session.journal (old.super i o)) (λ n. at n.0 p.session.journal (put_new p p.session.journal (new.super n.1))) (note_cases p i Super h);
    log = λ k i h.
        ⊎_elim
        (λ o. let l = old.log k i o in (l.0, l.1, put_old p.session.requests p.request i (p.session.journal + l.0) l.2))
        (λ n. let l = new.log k n.1 in (l.0, l.1, at n.0 (p.session.journal + l.0) (put_new p (p.session.journal + l.0) l.2)))
        (log_cases p k i h);
    page = λ i f x v h.
        ⊎_elim
        (λ o. let l = old.page i f x v o in (l.0, put_old p.session.requests p.request i l.0 l.1, l.2, l.3))
        (λ n. let l = new.page f x v n.1 in (l.0, at n.0 l.0 (put_new p l.0 l.1), l.2, l.3))
        (note_cases p i (Page f x v) h);
    flush = λ i h put.
        ⊎_elim
        (λ o. old.flush i o (put.0, put_back p i put.0 (slice_get-length p.session.notes i Flush o) put.1))
        (λ n. none-some put.0 (sym (new.flush n.1) ∙ new_put p put.0 (subst (λ j. IsPutOf (p.session.requests ++ p.request ∷ []) j put.0) n.0 put.1)))
        (note_cases p i Flush h);
    raw = λ i h. ⊎_elim (λ o. old.raw i o) (λ n. new.raw n.1) (note_cases p i Raw h);
    ordered = λ i n h t.
        ⊎_elim
        (λ o. ordered_old p.session.requests p.request i (old.ordered i n o t))
        (λ m. subst (IsOrdered (p.session.requests ++ p.request ∷ [])) (sym m.0) (ordered_new p (new.ordered (ap is_page_or_flush m.1 ∙ t))))
        (note_cases p i n h);
  }
    where
      at : {i : ℕ} → i ≡ new_place p → (b : ℕ) → IsPutOf (p.session.requests ++ p.request ∷ []) (new_place p) b → IsPutOf (p.session.requests ++ p.request ∷ []) i b
      at e b h = subst (λ j. IsPutOf (p.session.requests ++ p.request ∷ []) j b) (sym e) h

-- ---- images of transactions

module _ {A : Type 0} (program : Reads A) (p : Submitting) (order : CommitOrder p.session) (clause : CommitClause p.session p.request p.note) where
  -- what is said of a transaction that is submitted already
  pub image_old : (k : ℕ) → IsSubmitted p.session k → image_of (after p) k ≡ image_of p.session k
  image_old k sub = ap (λ txs. λ b. body_after (mark_in txs b) (disk_of p.session.base b)) (committed_transactions p order clause k sub)

  pub marks_old : (k b : ℕ) → IsSubmitted p.session k → mark_in (transactions_from p.transactions 1 k) b ≡ mark_in (transactions_from p.session.transactions 1 k) b
  marks_old k b sub = ap (λ txs. mark_in txs b) (committed_transactions p order clause k sub)

  pub submitted_cases : (k : ℕ) → IsSubmitted (after p) k → IsSubmitted p.session k ⊎ (p.note ≡ Commit k)
  submitted_cases k (Before z) = inl (Before z)
  submitted_cases k (Submitted c h) = ⊎_elim (λ o. inl (Submitted c o)) (λ n. inr n.1) (note_cases p c (Commit k) h)

  -- a commit block before an old place is an old one
  pub commit_before_back : (k i : ℕ) → i ≤ new_place p → CommitBefore (after p) k i → CommitBefore p.session k i
  commit_before_back k i le c =
      ⊎_elim
      (λ o. (c.0, o, c.2))
      (λ n. let at = n.0 in let lt = c.2 in absurd (omega arith))
      (note_cases p c.0 (Commit k) c.1)

  pub commit_before_new : (k i : ℕ) → i ≡ new_place p → IsCommitted p.session k → CommitBefore (after p) k i
  commit_before_new k i at c =
      let lt = slice_get-length p.session.notes c.0 (Commit k) c.1 in
      (c.0, note_old p c.0 (Commit k) c.1, omega arith)

  pub images_step : Images program p.session → ImageClause program p → Images program (after p)
  images_step old new = record {
    bodies = λ k b x sub set.
        ⊎_elim (λ o. old.bodies k b x o (sym (marks_old k b o) ∙ set)) (λ n. new.bodies k b x n set) (submitted_cases k sub);
    revokes = λ k i b h r e.
        ⊎_elim (λ o. old.revokes k i b o (subst (λ (t : Transaction). In b t.revokes) (p.same k i o) r) e) (λ n. new.revokes k b n.1 r e) (note_cases p i (Commit k) h);
    logged = λ k b sub read.
        ⊎_elim
        (λ o.
        ⊎_elim (λ older. inl (⊎_elim inl (λ keep. inr (keep.0, marks_old k b o ∙ keep.1)) older)) (λ set. inr (set.0, marks_old k b o ∙ set.1))
        (old.logged k b o (subst (λ f. In b (blocks_read f program)) (image_old k o) read)))
        (λ n. new.logged k b n read)
        (submitted_cases k sub);
    home = λ i b h. home i b (note_cases p i (Home b) h);
    pages = λ i f x v z k y h put set c. pages i f x v z k y (note_cases p i (Page f x v) h) put set c;
    freed = λ i f x v z h put old_block. freed i f x v z (note_cases p i (Page f x v) h) put old_block;
  }
    where
      home : (i b : ℕ) → HasNote p.session i (Home b) ⊎ ((i ≡ new_place p) × (p.note ≡ Home b)) → IsHomeOf (after p) i b
      home i b (inl h) =
          let o = old.home i b h in
          let lt = slice_get-length p.session.notes i (Home b) h in
          record {
            k = o.k;
            committed = commit_before_old p o.k i o.committed;
            newest = λ c g. ⊎_elim (λ l. o.newest c l) (λ n. let at = n.0 in omega arith) (note_cases p c (Commit (o.k + 1)) g);
            body = o.body;
            carried = body_old p.session.requests p.request i o.body o.carried;
            mark = marks_old o.k b (Submitted o.committed.0 o.committed.1) ∙ o.mark;
          }
      home i b (inr h) =
          let n = new.home b h.1 in
          record {
            k = n.0;
            committed = commit_before_new n.0 i h.0 n.1;
            newest = λ c g. ⊎_elim (λ l. absurd (n.2 (c, l))) (λ l. absurd (home_commit (n.0 + 1) b (sym h.1 ∙ l.1))) (note_cases p c (Commit (n.0 + 1)) g);
            body = n.3;
            carried = subst (λ j. IsPutWith (p.session.requests ++ p.request ∷ []) j n.3) (sym h.0) (ap (option_and_then (λ (r : Request). kind_body r.kind)) (request_new p) ∙ n.4);
            mark = marks_old n.0 b (Submitted n.1.0 n.1.1) ∙ n.5;
          }

      pages : (i f x v z k : ℕ) (y : List ℕ) → HasNote p.session i (Page f x v) ⊎ ((i ≡ new_place p) × (p.note ≡ Page f x v)) → IsPutOf (p.session.requests ++ p.request ∷ []) i z → mark_in (transactions_from p.transactions 1 k) z ≡ Set y → CommitBefore (after p) k i → CommitBefore (after p) (k + 1) i
      pages i f x v z k y (inl h) put set c =
          let lt = slice_get-length p.session.notes i (Page f x v) h in
          let o = commit_before_back k i (omega arith) c in
          commit_before_old p (k + 1) i (old.pages i f x v z k y h (put_back p i z lt put) (sym (marks_old k z (Submitted o.0 o.1)) ∙ set) o)
      pages i f x v z k y (inr h) put set c =
          let at = h.0 in
          let o = commit_before_back k i (omega arith) c in
          commit_before_new (k + 1) i h.0
          (new.page f x v z k y h.1 (new_put p z (subst (λ j. IsPutOf (p.session.requests ++ p.request ∷ []) j z) h.0 put)) (sym (marks_old k z (Submitted o.0 o.1)) ∙ set) (o.0, o.1))

      freed : (i f x v z : ℕ) → HasNote p.session i (Page f x v) ⊎ ((i ≡ new_place p) × (p.note ≡ Page f x v)) → IsPutOf (p.session.requests ++ p.request ∷ []) i z → In z p.session.freeable → IsFreedBefore (after p) z i
      freed i f x v z (inl h) put old_block =
          let c = old.freed i f x v z h (put_back p i z (slice_get-length p.session.notes i (Page f x v) h) put) old_block in
          (c.0, commit_before_old p c.0 i c.1, marks_old c.0 z (Submitted c.1.0 c.1.1) ∙ c.2)
      freed i f x v z (inr h) put old_block =
          let c = new.freed f x v z h.1 (new_put p z (subst (λ j. IsPutOf (p.session.requests ++ p.request ∷ []) j z) h.0 put)) old_block in
          (c.0, commit_before_new c.0 i h.0 c.1, marks_old c.0 z (Submitted c.1.0 c.1.1) ∙ c.2)

-- ---- pages

module _ {A : Type 0} (program : Reads A) (h : History A) (p : Submitting) (order : CommitOrder p.session) (clause : CommitClause p.session p.request p.note) where
  page_cases : (o f i v z : ℕ) → IsPageTo (after p) o f i v z → IsPageTo p.session o f i v z ⊎ ((o ≡ new_place p) × (p.note ≡ Page f i v) × (kind_block p.request.kind ≡ Some z))
  page_cases o f i v z t =
      ⊎_elim
      (λ n. inl (record { note = n; put = put_back p o z (slice_get-length p.session.notes o (Page f i v) n) t.put }))
      (λ n. inr (n.0, n.1, new_put p z (subst (λ j. IsPutOf (p.session.requests ++ p.request ∷ []) j z) n.0 t.put)))
      (note_cases p o (Page f i v) t.note)

  place_old : (k f i : ℕ) → IsSubmitted p.session k → place_at program h (after p) k f i ≡ place_at program h p.session k f i
  place_old k f i sub = ap (λ d. h.place (answer d program) (h.cut k) f i) (image_old program p order clause k sub)

  pub page_order_step : PageOrder program h p.session → PageClause program h p → PageOrder program h (after p)
  page_order_step old new = record {
    content = λ o f i v z t. content o f i v z (page_cases o f i v z t);
    there = λ o f i v z t. ⊎_elim (λ t. old.there o f i v z t) (λ t. (new.page f i v z t.1 t.2).there) (page_cases o f i v z t);
    place = λ o f i v z k t sub m c d. place o f i v z k (page_cases o f i v z t) (submitted_cases program p order clause k sub) m c d;
    versions = λ a o f i v w y z lt t u. versions a o f i v w y z lt (page_cases a f i v y t) (page_cases o f i w z u);
    another = λ a o f i v g j w z lt t u n. another a o f i v g j w z lt (page_cases a f i v z t) (page_cases o g j w z u) n;
    logged = λ o f i v z k x t pos sub set. logged o f i v z k x (page_cases o f i v z t) pos (submitted_cases program p order clause k sub) set;
    files = λ k f i x sub m set.
        ⊎_elim
        (λ s. old.files k f i x s m (sym (marks_old program p order clause k (place_at program h p.session k f i) s) ∙ ap (mark_in (transactions_from p.transactions 1 k)) (sym (place_old k f i s)) ∙ set))
        (λ n. (new.commit k n).files f i x m set)
        (submitted_cases program p order clause k sub);
    opened = old.opened;
    stays = λ f i k there sub calm.
        ⊎_elim
        (λ s. old.stays f i k there s calm ∙ sym (place_old k f i s))
        (λ n. (new.commit k n).stays f i there calm)
        (submitted_cases program p order clause k sub);
    given_up = λ o f i g j w there t apart.
        ⊎_elim
        (λ t.
        let x = old.given_up o f i g j w there t apart in
        record { k = x.k; commit = x.commit; committed = note_old p x.commit (Commit x.k) x.committed; before = x.before; entry = x.entry; later = x.later; within = x.within; unmapped = x.unmapped })
        (λ t.
        let x = (new.page g j w (place_at program h p.session 0 f i) t.1 t.2).given_up f i there refl apart in
        let at = t.0 in
        let within = slice_get-length p.session.notes x.commit (Commit x.k) x.committed in
        record { k = x.k; commit = x.commit; committed = note_old p x.commit (Commit x.k) x.committed; before = omega arith; entry = x.entry; later = x.later; within = x.within; unmapped = x.unmapped })
        (page_cases o g j w (place_at program h p.session 0 f i) t);
  }
    where
      old_within : (o f i v z : ℕ) → IsPageTo p.session o f i v z → o < new_place p
      old_within o f i v z t = slice_get-length p.session.notes o (Page f i v) t.note

      content : (o f i v z : ℕ) → IsPageTo p.session o f i v z ⊎ ((o ≡ new_place p) × (p.note ≡ Page f i v) × (kind_block p.request.kind ≡ Some z)) → IsPutWith (p.session.requests ++ p.request ∷ []) o (h.content f i v)
      content o f i v z (inl t) = body_old p.session.requests p.request o (h.content f i v) (old.content o f i v z t)
      content o f i v z (inr t) =
          subst (λ j. IsPutWith (p.session.requests ++ p.request ∷ []) j (h.content f i v)) (sym t.0)
          (ap (option_and_then (λ (r : Request). kind_body r.kind)) (request_new p) ∙ (new.page f i v z t.1 t.2).content)

      place : (o f i v z k : ℕ) → IsPageTo p.session o f i v z ⊎ ((o ≡ new_place p) × (p.note ≡ Page f i v) × (kind_block p.request.kind ≡ Some z)) → IsSubmitted p.session k ⊎ (p.note ≡ Commit k)
          → h.maps (h.cut k) f i ≡ true → Calm h f i v (h.cut k) → Calm h f i (h.cut k) v → z ≡ place_at program h (after p) k f i
      place o f i v z k (inl t) (inl s) m c d = old.place o f i v z k t s m c d ∙ sym (place_old k f i s)
      place o f i v z k (inr t) (inl s) m c d = (new.page f i v z t.1 t.2).place k s m c d ∙ sym (place_old k f i s)
      place o f i v z k (inl t) (inr n) m c d = (new.commit k n).place o f i v z t m c d
      place o f i v z k (inr t) (inr n) m c d = absurd (other_notes f i v k (sym t.1 ∙ n))

      versions : (a o f i v w y z : ℕ) → a < o → IsPageTo p.session a f i v y ⊎ ((a ≡ new_place p) × (p.note ≡ Page f i v) × (kind_block p.request.kind ≡ Some y)) → IsPageTo p.session o f i w z ⊎ ((o ≡ new_place p) × (p.note ≡ Page f i w) × (kind_block p.request.kind ≡ Some z)) → v ≤ w
      versions a o f i v w y z lt (inl t) (inl u) = old.versions a o f i v w y z lt t u
      versions a o f i v w y z lt (inl t) (inr u) = (new.page f i w z u.1 u.2).versions a v y t
      versions a o f i v w y z lt (inr t) (inl u) = let at = t.0 in let within = old_within o f i w z u in absurd (omega arith)
      versions a o f i v w y z lt (inr t) (inr u) = let at = t.0 in let bt = u.0 in absurd (omega arith)

      another : (a o f i v g j w z : ℕ) → a < o → IsPageTo p.session a f i v z ⊎ ((a ≡ new_place p) × (p.note ≡ Page f i v) × (kind_block p.request.kind ≡ Some z)) → IsPageTo p.session o g j w z ⊎ ((o ≡ new_place p) × (p.note ≡ Page g j w) × (kind_block p.request.kind ≡ Some z))
          → ((f ≡ g) × (i ≡ j) → ⊥) → IsGivenUp h (after p) f i v a o
      another a o f i v g j w z lt (inl t) (inl u) n =
          let x = old.another a o f i v g j w z lt t u n in
          record { k = x.k; commit = x.commit; committed = note_old p x.commit (Commit x.k) x.committed; behind = x.behind; before = x.before; entry = x.entry; later = x.later; within = x.within; unmapped = x.unmapped }
      another a o f i v g j w z lt (inl t) (inr u) n =
          let x = (new.page g j w z u.1 u.2).another a f i v t n in
          let at = u.0 in
          let within = slice_get-length p.session.notes x.commit (Commit x.k) x.committed in
          record { k = x.k; commit = x.commit; committed = note_old p x.commit (Commit x.k) x.committed; behind = x.behind; before = omega arith; entry = x.entry; later = x.later; within = x.within; unmapped = x.unmapped }
      another a o f i v g j w z lt (inr t) (inl u) n = let at = t.0 in let within = old_within o g j w z u in absurd (omega arith)
      another a o f i v g j w z lt (inr t) (inr u) n = let at = t.0 in let bt = u.0 in absurd (omega arith)

      logged : (o f i v z k : ℕ) (x : List ℕ) → IsPageTo p.session o f i v z ⊎ ((o ≡ new_place p) × (p.note ≡ Page f i v) × (kind_block p.request.kind ≡ Some z)) → 1 ≤ k → IsSubmitted p.session k ⊎ (p.note ≡ Commit k)
          → mark_in (transactions_from p.transactions 1 k) z ≡ Set x → CommitBefore (after p) (k + 1) o ⊎ ((c : ℕ) × IsCommit (after p) (k - 1) c × (o < c) × (v ≤ h.cut (k - 1)))
      logged o f i v z k x (inl t) pos (inl s) set =
          ⊎_elim
          (λ b. inl (commit_before_old p (k + 1) o b))
          (λ e. inr (e.0, note_old p e.0 (Commit (k - 1)) e.1, e.2, e.3))
          (old.logged o f i v z k x t pos s (sym (marks_old program p order clause k z s) ∙ set))
      logged o f i v z k x (inl t) pos (inr n) set =
          let e = (new.commit k n).logged o f i v z x t set in
          inr (e.0, note_old p e.0 (Commit (k - 1)) e.1, e.2, e.3)
      logged o f i v z k x (inr t) pos (inl (Before zero_k)) set = absurd (omega arith)
      logged o f i v z k x (inr t) pos (inl (Submitted c s)) set =
          inl (commit_before_new program p order clause (k + 1) o t.0
          ((new.page f i v z t.1 t.2).logged k x (c, s) (sym (marks_old program p order clause k z (Submitted c s)) ∙ set)))
      logged o f i v z k x (inr t) pos (inr n) set = absurd (other_notes f i v k (sym t.1 ∙ n))

  pub data_before_commit_step : DataBeforeCommit program h p.session → PageClause program h p → DataBeforeCommit program h (after p)
  data_before_commit_step old new = record {
    sent = λ k c f i g ch m wrote.
        ⊎_elim
        (λ o. let x = old.sent k c f i o ch m wrote in (x.0, note_old p x.0 (Page f i (last_write h f i (h.cut k))) x.1, ordered_old p.session.requests p.request x.0 x.2, fenced_old p.session.requests p.request x.0 c x.3))
        (λ n.
        let x = (new.commit k n.1).sent f i ch m wrote in
        (x.0, note_old p x.0 (Page f i (last_write h f i (h.cut k))) x.1, ordered_old p.session.requests p.request x.0 x.2, subst (Fenced (p.session.requests ++ p.request ∷ []) x.0) (sym n.0) (closed_off p x.0 x.3)))
        (note_cases p c (Commit k) g);
  }
