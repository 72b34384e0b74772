-- What a request owes by what it carries gives all clauses of the order rules.
use Rattle.std.specs.Prelude.{◌≡◌, ℕ, ◌+◌, ◌-◌, ◌≤◌, ◌⊎◌, List, [], Some, None, length}
use Rattle.std.specs.Option.{unwrap_or}
use Rattle.std.proofs.Common.{sym, ap, subst, ◌∙◌, arith}
use Rattle.std.proofs.lemmas.Option.{none-some, same_Some}
use Rattle.std.proofs.lemmas.Bool.{false≢true}
use Rattle.order_model.specs.declared.note.Note.{Note}
use Rattle.order_model.specs.declared.note.Note.TheVariants.{Page, Super, Commit, Home}
use Rattle.blk_base.specs.Members.{In}
use Rattle.order_model.specs.OrderClosed.{kind_block, kind_body}
use Rattle.volume_ops.specs.Reads.{Reads, blocks_read}
use Rattle.log_model.specs.Marks.{Set, mark_in, transactions_from}
use Rattle.log_model.specs.Ring.{places_on}
use Rattle.log_model.specs.Log.{Spells}
use Rattle.log_model.proofs.Ring.{places_on-place}
use Rattle.crash_laws.specs.laws.Clauses.{FitsClause, CommitClause, LogClause, CheckpointClause, ImageClause, OrderClause, IsFreedNow}
use Rattle.crash_laws.specs.History.{History}
use Rattle.crash_laws.specs.laws.PageClauses.{NewPageClause, CommitPagesClause, PageClause}
use Rattle.crash_laws.specs.laws.Requests.{IsPageRequest, IsFlushRequest, IsHomeRequest, IsSuperRequest, IsLogRequest, IsCommitRequest, IsPartRequest}
use Rattle.crash_laws.specs.Rules.{HasHeader, is_page_or_flush, IsOlder}
use Rattle.crash_laws.specs.Session.{log_transaction, IsLog, log_blocks, log_blocks_of, bodies_of, sequence_of, image_of}
use Rattle.crash_laws.specs.laws.Submitting.{Submitting, after, IsCommitted}

-- ---- requests of no transaction

-- the note of a log block has a transaction, and no other has
is_log : (n : Note) (k : ℕ) → n ≡ Commit k → log_transaction n ≡ Some k
is_log n k e = ap log_transaction e

module _ (p : Submitting) (none : log_transaction p.note ≡ None) where
  never : (k : ℕ) → log_transaction p.note ≡ Some k → ⊥
  never k e = none-some k (sym none ∙ e)

  no_commit : (k : ℕ) → p.note ≡ Commit k → ⊥
  no_commit k e = never k (is_log p.note k e)

  no_commit_clause : CommitClause p.session p.request p.note
  no_commit_clause = record {
    numbered = λ k e. absurd (never k e);
    unfinished = λ k e c. never k e;
    behind = λ k e pos. absurd (never (k + 1) e);
    barrier = λ k e. absurd (no_commit k e);
    closed = λ k i e h. absurd (no_commit k e);
  }

  no_log_clause : HasHeader p.session.sequence p.note (p.session.format.header (unwrap_or (kind_body p.request.kind) [])) → LogClause p
  no_log_clause header = record {
    place = λ k e. absurd (never k e);
    again = λ k l i b e block h put. absurd (never l e);
    header = header;
    spells = λ k e. absurd (no_commit k e);
  }

  no_checkpoint_clause : (p.note ≡ Super → ⊥) → CheckpointClause p.session p.request p.note
  no_checkpoint_clause other = record {
    super = λ e. absurd (other e);
    first = λ e. absurd (no_commit 1 e);
    before = λ i freed e h. absurd (no_commit (freed + 1) e);
  }

module _ {A : Type 0} (program : Reads A) (p : Submitting) (none : log_transaction p.note ≡ None) (no_page : (f i v : ℕ) → p.note ≡ Page f i v → ⊥) where
  no_image_clause : ((b : ℕ) → p.note ≡ Home b → ⊥) → ImageClause program p
  no_image_clause no_home = record {
    bodies = λ k b x e set. absurd (no_commit p none k e);
    revokes = λ k b e h g. no_commit p none k e;
    logged = λ k b e h. absurd (no_commit p none k e);
    home = λ b e. absurd (no_home b e);
    page = λ f i v z k x e block set c. absurd (no_page f i v e);
    freed = λ f i v z e block old. absurd (no_page f i v e);
  }

-- ---- notes are apart

page_log : (p : Submitting) (f i v : ℕ) → p.note ≡ Page f i v → log_transaction p.note ≡ None
page_log p f i v e = ap log_transaction e

same_page : (f i v g j w : ℕ) → Page f i v ≡ Page g j w → (f ≡ g) × (i ≡ j) × (v ≡ w)
same_page f i v g j w e = (cc, cc, cc)

same_home : (b c : ℕ) → Home b ≡ Home c → b ≡ c
same_home b c e = cc

same_commit : (k l : ℕ) → Commit k ≡ Commit l → k ≡ l
same_commit k l e = cc

module _ {A : Type 0} (program : Reads A) (p : Submitting) where
  -- ---- a page

  pub page_request_clause : (f i v : ℕ) → IsPageRequest p f i v → OrderClause program p
  page_request_clause f i v r =
      let note = r.note in
      let none = page_log p f i v note in
      record {
        fits = record {
          home = λ b e. absurd (let x = sym note ∙ e in let y : ⊥ = cc in y);
          super = λ e. absurd (let x = sym note ∙ e in let y : ⊥ = cc in y);
          log = λ k e. absurd (never p none k e);
          page = λ g j w e. (r.zone, r.block, r.low, r.free);
          flush = λ e. absurd (let x = sym note ∙ e in let y : ⊥ = cc in y);
          raw = λ e. let x = sym note ∙ e in let y : ⊥ = cc in y;
          ordered = λ e. absurd (false≢true (sym e ∙ ap is_page_or_flush note));
        };
        commits = no_commit_clause p none;
        log = no_log_clause p none (subst (λ n. HasHeader p.session.sequence n (p.session.format.header (unwrap_or (kind_body p.request.kind) []))) (sym note) tt);
        checkpoints = no_checkpoint_clause p none (λ e. let x = sym note ∙ e in let y : ⊥ = cc in y);
        images = record {
          bodies = λ k b x e set. absurd (no_commit p none k e);
          revokes = λ k b e h g. no_commit p none k e;
          logged = λ k b e h. absurd (no_commit p none k e);
          home = λ b e. absurd (let x = sym note ∙ e in let y : ⊥ = cc in y);
          page = λ g j w z k x e block set c.
              r.unlogged k x (subst (λ y. mark_in (transactions_from p.session.transactions 1 k) y ≡ Set x) (same_Some z r.zone (sym block ∙ r.block)) set) c;
          freed = λ g j w z e block old.
              subst (IsFreedNow p.session) (same_Some r.zone z (sym r.block ∙ block)) (r.freed (subst (λ y. In y p.session.freeable) (sym (same_Some r.zone z (sym r.block ∙ block))) old));
        };
      }

  -- ---- a flush

  pub flush_request_clause : IsFlushRequest p → OrderClause program p
  flush_request_clause r =
      let note = r.note in
      let none : log_transaction p.note ≡ None = ap log_transaction note in
      record {
        fits = record {
          home = λ b e. absurd (let x = sym note ∙ e in let y : ⊥ = cc in y);
          super = λ e. absurd (let x = sym note ∙ e in let y : ⊥ = cc in y);
          log = λ k e. absurd (never p none k e);
          page = λ g j w e. absurd (let x = sym note ∙ e in let y : ⊥ = cc in y);
          flush = λ e. r.block;
          raw = λ e. let x = sym note ∙ e in let y : ⊥ = cc in y;
          ordered = λ e. absurd (false≢true (sym e ∙ ap is_page_or_flush note));
        };
        commits = no_commit_clause p none;
        log = no_log_clause p none (subst (λ n. HasHeader p.session.sequence n (p.session.format.header (unwrap_or (kind_body p.request.kind) []))) (sym note) tt);
        checkpoints = no_checkpoint_clause p none (λ e. let x = sym note ∙ e in let y : ⊥ = cc in y);
        images = no_image_clause program p none (λ f i v e. let x = sym note ∙ e in let y : ⊥ = cc in y) (λ b e. let x = sym note ∙ e in let y : ⊥ = cc in y);
      }

  -- ---- a home write

  pub home_request_clause : (b : ℕ) → IsHomeRequest p b → OrderClause program p
  home_request_clause b r =
      let note = r.note in
      let none : log_transaction p.note ≡ None = ap log_transaction note in
      record {
        fits = record {
          home = λ c e. subst (λ d. kind_block p.request.kind ≡ Some d) (same_home b c (sym note ∙ e)) r.block;
          super = λ e. absurd (let x = sym note ∙ e in let y : ⊥ = cc in y);
          log = λ k e. absurd (never p none k e);
          page = λ g j w e. absurd (let x = sym note ∙ e in let y : ⊥ = cc in y);
          flush = λ e. absurd (let x = sym note ∙ e in let y : ⊥ = cc in y);
          raw = λ e. let x = sym note ∙ e in let y : ⊥ = cc in y;
          ordered = λ e. r.ordered;
        };
        commits = no_commit_clause p none;
        log = no_log_clause p none (subst (λ n. HasHeader p.session.sequence n (p.session.format.header (unwrap_or (kind_body p.request.kind) []))) (sym note) tt);
        checkpoints = no_checkpoint_clause p none (λ e. let x = sym note ∙ e in let y : ⊥ = cc in y);
        images = record {
          bodies = λ k c x e set. absurd (no_commit p none k e);
          revokes = λ k c e h g. no_commit p none k e;
          logged = λ k c e h. absurd (no_commit p none k e);
          home = λ c e. (
            r.newest,
            r.committed,
            r.no_more,
            r.body,
            r.carried,
            subst (λ d. mark_in (transactions_from p.session.transactions 1 r.newest) d ≡ Set r.body) (same_home b c (sym note ∙ e)) r.mark,
          );
          page = λ g j w z k x e block set c. absurd (let x = sym note ∙ e in let y : ⊥ = cc in y);
          freed = λ g j w z e block old. absurd (let x = sym note ∙ e in let y : ⊥ = cc in y);
        };
      }

  -- ---- a superblock

  pub super_request_clause : IsSuperRequest p → OrderClause program p
  super_request_clause r =
      let note = r.note in
      let none : log_transaction p.note ≡ None = ap log_transaction note in
      record {
        fits = record {
          home = λ b e. absurd (let x = sym note ∙ e in let y : ⊥ = cc in y);
          super = λ e. r.block;
          log = λ k e. absurd (never p none k e);
          page = λ g j w e. absurd (let x = sym note ∙ e in let y : ⊥ = cc in y);
          flush = λ e. absurd (let x = sym note ∙ e in let y : ⊥ = cc in y);
          raw = λ e. let x = sym note ∙ e in let y : ⊥ = cc in y;
          ordered = λ e. r.ordered;
        };
        commits = no_commit_clause p none;
        log = no_log_clause p none (subst (λ n. HasHeader p.session.sequence n (p.session.format.header (unwrap_or (kind_body p.request.kind) []))) (sym note) tt);
        checkpoints = record {
          super = λ e. r.clause;
          first = λ e. absurd (no_commit p none 1 e);
          before = λ i freed e h. absurd (no_commit p none (freed + 1) e);
        };
        images = no_image_clause program p none (λ f i v e. let x = sym note ∙ e in let y : ⊥ = cc in y) (λ b e. let x = sym note ∙ e in let y : ⊥ = cc in y);
      }

  -- ---- a log block

  module _ (k : ℕ) (r : IsLogRequest p k) where
    same_number : (l : ℕ) → log_transaction p.note ≡ Some l → k ≡ l
    same_number l e = same_Some k l (sym r.note ∙ e)

    log_fits : FitsClause p.session p.request p.note
    log_fits = record {
      home = λ b e. absurd (none-some k (sym (ap log_transaction e) ∙ r.note));
      super = λ e. absurd (none-some k (sym (ap log_transaction e) ∙ r.note));
      log = λ l e. (
        places_on p.session.ring (length (log_blocks p.session)) p.session.head,
        places_on-place p.session.ring (length (log_blocks p.session)) p.session.head r.head,
        r.block,
      );
      page = λ g j w e. absurd (none-some k (sym (ap log_transaction e) ∙ r.note));
      flush = λ e. absurd (none-some k (sym (ap log_transaction e) ∙ r.note));
      raw = λ e. none-some k (sym (ap log_transaction e) ∙ r.note);
      ordered = λ e. r.ordered;
    }

    log_behind : (l : ℕ) → log_transaction p.note ≡ Some (l + 1) → 1 ≤ l → IsCommitted p.session l
    log_behind l e pos =
        let same = same_number (l + 1) e in
        let at : k - 1 ≡ l = omega arith in
        subst (IsCommitted p.session) at (r.behind (omega arith))

  -- ---- a descriptor, a revoke block or a body

  pub part_request_clause : (k : ℕ) → IsPartRequest p k → OrderClause program p
  part_request_clause k part =
      let r = part.0 in
      let other = part.1 in
      record {
        fits = log_fits k r;
        commits = record {
          numbered = λ l e. subst (λ n. 1 ≤ n) (same_number k r l e) r.numbered;
          unfinished = λ l e c. r.unfinished (subst (IsCommitted p.session) (sym (same_number k r l e)) c);
          behind = log_behind k r;
          barrier = λ l e. absurd (other l e);
          closed = λ l i e h. absurd (other l e);
        };
        log = record {
          place = λ l e. r.block;
          again = λ j l i b e block h put. r.again j i b block h put;
          header = r.header;
          spells = λ l e. absurd (other l e);
        };
        checkpoints = record {
          super = λ e. absurd (none-some k (sym (ap log_transaction e) ∙ r.note));
          first = λ e. absurd (other 1 e);
          before = λ i freed e h. absurd (other (freed + 1) e);
        };
        images = record {
          bodies = λ l b x e set. absurd (other l e);
          revokes = λ l b e h g. other l e;
          logged = λ l b e h. absurd (other l e);
          home = λ b e. absurd (none-some k (sym (ap log_transaction e) ∙ r.note));
          page = λ g j w z l x e block set c. absurd (none-some k (sym (ap log_transaction e) ∙ r.note));
          freed = λ g j w z e block old. absurd (none-some k (sym (ap log_transaction e) ∙ r.note));
        };
      }

  -- ---- a commit block

  pub commit_request_clause : (k : ℕ) → IsCommitRequest program p k → OrderClause program p
  commit_request_clause k c =
      let r = c.log in
      record {
        fits = log_fits k r;
        commits = record {
          numbered = λ l e. subst (λ n. 1 ≤ n) (same_number k r l e) r.numbered;
          unfinished = λ l e d. r.unfinished (subst (IsCommitted p.session) (sym (same_number k r l e)) d);
          behind = log_behind k r;
          barrier = λ l e. c.barrier;
          closed = λ l i e h. c.closed i (subst (λ n. IsLog p.session n i) (sym (number l e)) h);
        };
        log = record {
          place = λ l e. r.block;
          again = λ j l i b e block h put. r.again j i b block h put;
          header = r.header;
          spells = λ l e. subst (λ n. Spells p.session.format (sequence_of p.session n) (bodies_of (after p) (log_blocks_of n (log_blocks (after p)))) (p.transactions n)) (number l e) c.spells;
        };
        checkpoints = record {
          super = λ e. absurd (none-some k (sym (ap log_transaction e) ∙ r.note));
          first = λ e. c.first (number 1 e);
          before = λ i freed e h. c.tail i freed (sym (number (freed + 1) e)) h;
        };
        images = record {
          bodies = λ l b x e set. c.bodies b x (subst (λ n. mark_in (transactions_from p.transactions 1 n) b ≡ Set x) (sym (number l e)) set);
          revokes = λ l b e h g. c.revokes b (subst (λ n. In b (p.transactions n).revokes) (sym (number l e)) h) g;
          logged = λ l b e h.
              subst (λ n. IsOlder (after p) n b ⊎ ((x : List ℕ) × (mark_in (transactions_from p.transactions 1 n) b ≡ Set x))) (number l e)
              (c.logged b (subst (λ n. In b (blocks_read (image_of (after p) n) program)) (sym (number l e)) h));
          home = λ b e. absurd (none-some k (sym (ap log_transaction e) ∙ r.note));
          page = λ g j w z l x e block set d. absurd (none-some k (sym (ap log_transaction e) ∙ r.note));
          freed = λ g j w z e block old. absurd (none-some k (sym (ap log_transaction e) ∙ r.note));
        };
      }
    where
      number : (l : ℕ) → p.note ≡ Commit l → k ≡ l
      number l e = same_commit k l (sym c.note ∙ e)

-- ---- what is owed to the rules of pages

module _ {A : Type 0} (program : Reads A) (h : History A) (p : Submitting) where
  -- a request that is neither a page nor a commit block owes nothing
  pub other_page_clause : ((f i v : ℕ) → p.note ≡ Page f i v → ⊥) → ((k : ℕ) → p.note ≡ Commit k → ⊥) → PageClause program h p
  other_page_clause no_page no_commit = record { page = λ f i v z e block. absurd (no_page f i v e); commit = λ k e. absurd (no_commit k e) }

  pub page_page_clause : (f i v z : ℕ) → p.note ≡ Page f i v → kind_block p.request.kind ≡ Some z → NewPageClause program h p.session p.request f i v z → PageClause program h p
  page_page_clause f i v z note block clause = record {
    page = λ g j w y e at.
        let same = same_page f i v g j w (sym note ∙ e) in
        subst (λ x. NewPageClause program h p.session p.request g j w x) (same_Some z y (sym block ∙ at))
        (subst (λ x. NewPageClause program h p.session p.request g j x z) same.2
        (subst (λ x. NewPageClause program h p.session p.request g x v z) same.1
        (subst (λ x. NewPageClause program h p.session p.request x i v z) same.0 clause)));
    commit = λ k e. absurd (let x = sym note ∙ e in let y : ⊥ = cc in y);
  }

  pub commit_page_clause : (k : ℕ) → p.note ≡ Commit k → CommitPagesClause program h p k → PageClause program h p
  commit_page_clause k note clause = record {
    page = λ f i v z e block. absurd (let x = sym note ∙ e in let y : ⊥ = cc in y);
    commit = λ l e. subst (CommitPagesClause program h p) (same_commit k l (sym note ∙ e)) clause;
  }
