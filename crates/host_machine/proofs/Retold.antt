-- Transactions may be told anew, as long as their commit block is not submitted.
use Rattle.std.proofs.Common.{sym, ap, subst, ◌∙◌, inl, inr, ⊎_elim, arith}
use Rattle.std.proofs.lemmas.Bool.{cases_lt}
use Rattle.std.specs.Prelude.{◌≡◌, ℕ, ◌≤◌}
use Rattle.blk_base.specs.Members.{In}
use Rattle.log_model.specs.Log.{Spells}
use Rattle.log_model.specs.Marks.{Transaction, mark_in, body_after, transactions_from}
use Rattle.volume_ops.specs.Reads.{Reads, answer, blocks_read}
use Rattle.volume_ops.specs.Volume.{disk_of}
use Rattle.crash_laws.proofs.Commits.{commit_below}
use Rattle.crash_laws.proofs.LogSteps.{same_transactions}
use Rattle.crash_laws.specs.History.{History}
use Rattle.crash_laws.specs.PageRules.{IsPageTo, place_at, PageOrder, DataBeforeCommit}
use Rattle.crash_laws.specs.Rules.{OrderRules, CommitOrder}
use Rattle.crash_laws.specs.Session.{Session, IsCommit, IsSubmitted, Before, Submitted, IsSuperOf, bodies_of, log_blocks, log_blocks_of, sequence_of, image_of}

module _ {s : Session} (order : CommitOrder s) (transactions : ℕ → Transaction) (same : (k i : ℕ) → IsCommit s k i → transactions k ≡ s.transactions k) where
  abbrev pub retold : Session
  retold = record s { transactions = transactions }

  submitted_before : (k : ℕ) → IsSubmitted retold k → IsSubmitted s k
  submitted_before k (Before z) = Before z
  submitted_before k (Submitted c g) = Submitted c g

  runs : (k : ℕ) → IsSubmitted s k → transactions_from transactions 1 k ≡ transactions_from s.transactions 1 k
  runs k (Before z) = ap (transactions_from transactions 1) z ∙ sym (ap (transactions_from s.transactions 1) z)
  runs k (Submitted c h) = same_transactions transactions s.transactions 1 k (λ j lo hi. let d = commit_below order j k c h lo (omega arith) in same j d.0 d.1)

  marks : (k b : ℕ) → IsSubmitted s k → mark_in (transactions_from transactions 1 k) b ≡ mark_in (transactions_from s.transactions 1 k) b
  marks k b sub = ap (λ txs. mark_in txs b) (runs k sub)

  images : (k : ℕ) → IsSubmitted s k → image_of retold k ≡ image_of s k
  images k sub = ap (λ txs. λ b. body_after (mark_in txs b) (disk_of s.base b)) (runs k sub)

  super_before : (i freed : ℕ) → IsSuperOf retold i freed → IsSuperOf s i freed
  super_before i freed h = record { note = h.note; fields = h.fields }

  super_after : (i freed : ℕ) → IsSuperOf s i freed → IsSuperOf retold i freed
  super_after i freed h = record { note = h.note; fields = h.fields }

  below : (j k : ℕ) → IsSubmitted s k → j ≤ k → IsSubmitted s j
  below j k (Before z) le = Before (omega arith)
  below j k (Submitted c h) le =
      ⊎_elim (λ pos. let d = commit_below order j k c h pos le in Submitted d.0 d.1) (λ z. Before (omega arith)) (cases_lt 0 j)

  pub rules_retold : {A : Type 0} {program : Reads A} → OrderRules program s → OrderRules program retold
  rules_retold {program = program} was = record {
    fits = record {
      counted = was.fits.counted;
      journal = was.fits.journal;
      home = was.fits.home;
      super = was.fits.super;
      log = was.fits.log;
      page = was.fits.page;
      flush = was.fits.flush;
      raw = was.fits.raw;
      ordered = was.fits.ordered;
    };
    commits = record { numbered = was.commits.numbered; once = was.commits.once; barrier = was.commits.barrier; behind = was.commits.behind; before = was.commits.before };
    log = record {
      place = was.log.place;
      again = λ k l i j b lt h g hp gp. let x = was.log.again k l i j b lt h g hp gp in (x.0, x.1, super_after x.0 x.1 x.2, x.3, x.4, x.5);
      header = was.log.header;
      spells = λ k i h. subst (Spells s.format (sequence_of s k) (bodies_of s (log_blocks_of k (log_blocks s)))) (sym (same k i h)) (was.log.spells k i h);
      head = was.log.head;
    };
    checkpoints = record {
      tail = λ i h. let t = was.checkpoints.tail i h in (t.0, super_after i t.0 t.1);
      first = λ c h. let t = was.checkpoints.first c h in (t.0, super_after t.0 0 t.1);
      before = λ i freed c h g. was.checkpoints.before i freed c (super_before i freed h) g;
      behind = λ i freed h pos. was.checkpoints.behind i freed (super_before i freed h) pos;
      barrier = λ i freed h pos. was.checkpoints.barrier i freed (super_before i freed h) pos;
      homes = λ i freed b x h set.
          let sub = freed_submitted i freed (super_before i freed h) in
          let o = was.checkpoints.homes i freed b x (super_before i freed h) (sym (marks freed b sub) ∙ set) in
          record {
            home = o.home;
            note = o.note;
            body = o.body;
            fenced = o.fenced;
            since = o.since;
            committed = o.committed;
            within = o.within;
            stays = λ j lo hi. marks j b (below j freed sub hi) ∙ o.stays j lo hi;
          };
    };
    images = record {
      bodies = λ k b x sub set. was.images.bodies k b x (submitted_before k sub) (sym (marks k b (submitted_before k sub)) ∙ set);
      revokes = λ k i b h j r. was.images.revokes k i b h (subst (λ (t : Transaction). In b t.revokes) (same k i h) j) r;
      logged = λ k b sub read.
          let o = submitted_before k sub in
          ⊎_elim (λ older. inl (⊎_elim inl (λ keep. inr (keep.0, marks k b o ∙ keep.1)) older)) (λ set. inr (set.0, marks k b o ∙ set.1)) (was.images.logged k b o (subst (λ f. In b (blocks_read f program)) (images k o) read));
      home = λ i b h.
          let o = was.images.home i b h in
          record { k = o.k; committed = o.committed; newest = o.newest; body = o.body; carried = o.carried; mark = marks o.k b (Submitted o.committed.0 o.committed.1) ∙ o.mark };
      pages = λ i f x v z k y h put set c. was.images.pages i f x v z k y h put (sym (marks k z (Submitted c.0 c.1)) ∙ set) c;
      freed = λ i f x v z h put old. let c = was.images.freed i f x v z h put old in (c.0, c.1, marks c.0 z (Submitted c.1.0 c.1.1) ∙ c.2);
    };
    base = record { start = was.base.start; reserved = was.base.reserved; freeable = was.base.freeable; plain = was.base.plain };
  }
    where
      freed_submitted : (i freed : ℕ) → IsSuperOf s i freed → IsSubmitted s freed
      freed_submitted i freed super =
          ⊎_elim
          (λ pos. let c = was.checkpoints.behind i freed super pos in Submitted c.0 c.1)
          (λ z. Before (omega arith))
          (cases_lt 0 freed)

  page_before : (o f i w z : ℕ) → IsPageTo retold o f i w z → IsPageTo s o f i w z
  page_before o f i w z t = record { note = t.note; put = t.put }

  module _ {A : Type 0} (program : Reads A) (h : History A) where
    place_same : (k f i : ℕ) → IsSubmitted s k → place_at program h retold k f i ≡ place_at program h s k f i
    place_same k f i sub = ap (λ d. h.place (answer d program) (h.cut k) f i) (images k sub)

    pub pages_retold : PageOrder program h s → PageOrder program h retold
    pages_retold was = record {
      content = λ o f i w z t. was.content o f i w z (page_before o f i w z t);
      there = λ o f i w z t. was.there o f i w z (page_before o f i w z t);
      place = λ o f i w z k t sub m c d. was.place o f i w z k (page_before o f i w z t) (submitted_before k sub) m c d ∙ sym (place_same k f i (submitted_before k sub));
      versions = λ a o f i w x y z lt t u. was.versions a o f i w x y z lt (page_before a f i w y t) (page_before o f i x z u);
      another = λ a o f i v g j w z lt t u n.
          let x = was.another a o f i v g j w z lt (page_before a f i v z t) (page_before o g j w z u) n in
          record { k = x.k; commit = x.commit; committed = x.committed; behind = x.behind; before = x.before; entry = x.entry; later = x.later; within = x.within; unmapped = x.unmapped };
      logged = λ o f i w z k x t pos sub set. was.logged o f i w z k x (page_before o f i w z t) pos (submitted_before k sub) (sym (marks k z (submitted_before k sub)) ∙ set);
      files = λ k f i x sub m set.
          let o = submitted_before k sub in
          was.files k f i x o m (sym (marks k (place_at program h s k f i) o) ∙ ap (mark_in (transactions_from transactions 1 k)) (sym (place_same k f i o)) ∙ set);
      opened = was.opened;
      stays = λ f i k there sub calm. was.stays f i k there (submitted_before k sub) calm ∙ sym (place_same k f i (submitted_before k sub));
      given_up = λ o f i g j w there t apart.
          let x = was.given_up o f i g j w there (page_before o g j w (place_at program h s 0 f i) t) apart in
          record { k = x.k; commit = x.commit; committed = x.committed; before = x.before; entry = x.entry; later = x.later; within = x.within; unmapped = x.unmapped };
    }

    pub data_retold : DataBeforeCommit program h s → DataBeforeCommit program h retold
    data_retold was = record { sent = was.sent }
