-- What requests owe of images and pages, from the facts: a page, the commit block, and every other request.
use Rattle.std.proofs.Common.{sym, ap, subst, ◌∙◌, ⊎_elim, arith}
use Rattle.std.proofs.lemmas.Option.{same_Some}
use Rattle.std.specs.Prelude.{◌≡◌, ℕ, ◌-◌, ◌≤◌, ◌⊎◌, true, List, length, Some}
use Rattle.blk_base.specs.Members.{In}
use Rattle.order_model.specs.OrderClosed.{IsFence, kind_block}
use Rattle.order_model.specs.declared.note.Note.TheVariants.{Page, Commit, Home}
use Rattle.order_model.specs.declared.note.Note.{Note}
use Rattle.order_model.specs.declared.request.Request.{Request}
use Rattle.log_model.specs.Marks.{Set, mark_in, transactions_from}
use Rattle.volume_ops.specs.Reads.{Reads, blocks_read}
use Rattle.crash_laws.proofs.Growing.{note_old, ordered_old}
use Rattle.crash_laws.specs.Rules.{IsOlder}
use Rattle.crash_laws.specs.laws.Clauses.{IsFreedNow, ImageClause}
use Rattle.crash_laws.specs.History.{History, Calm, last_write}
use Rattle.crash_laws.specs.laws.PageClauses.{NewPageClause, CommitPagesClause, PageClause}
use Rattle.crash_laws.specs.PageRules.{place_at}
use Rattle.crash_laws.specs.Session.{Session, image_of}
use Rattle.crash_laws.specs.laws.Submitting.{after}
use Rattle.host_machine.proofs.Sends.{plainly, page_cases, page≢commit}
use Rattle.host_machine.specs.laws.Facts.{OnItsWay}

same_commit : (k l : ℕ) → Commit k ≡ Commit l → k ≡ l
same_commit k l e = cc

same_page : (f i w g j y : ℕ) → Page f i w ≡ Page g j y → (f ≡ g) × (i ≡ j) × (w ≡ y)
same_page f i w g j y e = (cc, cc, cc)

page≢home : (f i v b : ℕ) → Page f i v ≡ Home b → ⊥
page≢home f i v b e = let z : ⊥ = cc in z

commit≢home : (k b : ℕ) → Commit k ≡ Home b → ⊥
commit≢home k b e = let z : ⊥ = cc in z

module _ {A : Type 0} {program : Reads A} {h : History A} {s : Session} (counted : length s.notes ≡ length s.requests) (q : Request) where
  -- ---- a page

  module _ (f i v z : ℕ) (block : kind_block q.kind ≡ Some z) (new : NewPageClause program h s q f i v z) (freed : In z s.freeable → IsFreedNow s z) where
    pub page_owes : PageClause program h (plainly s counted q (Page f i v))
    page_owes = record {
      page = λ g j w y e put.
          let k = same_page f i v g j w e in
          let b = same_Some z y (sym block ∙ put) in
          subst (λ y. NewPageClause program h s q g j w y) b
          (subst (λ w. NewPageClause program h s q g j w z) k.2 (subst (λ j. NewPageClause program h s q g j v z) k.1 (subst (λ g. NewPageClause program h s q g i v z) k.0 new)));
      commit = λ k e. absurd (page≢commit f i v k e);
    }

    pub page_owes_images : ImageClause program (plainly s counted q (Page f i v))
    page_owes_images = record {
      bodies = λ k b x e set. absurd (page≢commit f i v k e);
      revokes = λ k b e j r. page≢commit f i v k e;
      logged = λ k b e read. absurd (page≢commit f i v k e);
      home = λ b e. absurd (page≢home f i v b e);
      page = λ g j w y k x e put set c. new.logged k x c (ap (mark_in (transactions_from s.transactions 1 k)) (same_Some z y (sym block ∙ put)) ∙ set);
      freed = λ g j w y e put old. let b = same_Some z y (sym block ∙ put) in subst (IsFreedNow s) b (freed (subst (λ x. In x s.freeable) (sym b) old));
    }

  -- ---- the commit block of transaction k

  module _ (k from : ℕ) (way : OnItsWay program h s k from) (fence : (f i : ℕ) → h.changes k f ≡ true → h.maps (h.cut k) f i ≡ true → (b : ℕ) × (from ≤ b) × IsFence s.requests b) where
    commit_pages : CommitPagesClause program h (plainly s counted q (Commit k)) k
    commit_pages = record {
      place = way.place;
      logged = way.logged;
      files = way.files;
      stays = way.stays;
      sent = λ f i ch maps wrote. let o = way.sent f i ch maps wrote in let b = fence f i ch maps in let lt = o.3 in let le = b.1 in (o.0, o.1, o.2, (b.0, omega arith, b.2));
    }

    pub commit_owes : PageClause program h (plainly s counted q (Commit k))
    commit_owes = record {
      page = λ g j w y e put. absurd (page≢commit g j w k (sym e));
      commit = λ l e. subst (CommitPagesClause program h (plainly s counted q (Commit k))) (same_commit k l e) commit_pages;
    }

    pub commit_owes_images : ImageClause program (plainly s counted q (Commit k))
    commit_owes_images = record {
      bodies = λ l b x e set. way.low b x (ap (λ n. mark_in (transactions_from s.transactions 1 n) b) (same_commit k l e) ∙ set);
      revokes = λ l b e j r. way.own b (subst (λ n. In b (s.transactions n).revokes) (sym (same_commit k l e)) j) r;
      logged = λ l b e read.
          let n = same_commit k l e in
          subst (λ n. IsOlder s n b ⊎ ((x : List ℕ) × (mark_in (transactions_from s.transactions 1 n) b ≡ Set x))) n (way.walked b (subst (λ n. In b (blocks_read (image_of s n) program)) (sym n) read));
      home = λ b e. absurd (commit≢home k b e);
      page = λ g j w y l x e put set c. absurd (page≢commit g j w k (sym e));
      freed = λ g j w y e put old. absurd (page≢commit g j w k (sym e));
    }

  -- ---- a request that is neither, nor a home

  module _ (n : Note) (no_page : (f i v : ℕ) → n ≡ Page f i v → ⊥) (no_commit : (k : ℕ) → n ≡ Commit k → ⊥) where
    pub other_owes : PageClause program h (plainly s counted q n)
    other_owes = record { page = λ g j w y e put. absurd (no_page g j w e); commit = λ k e. absurd (no_commit k e) }

  -- ---- what the commit block will owe, when another request goes before it

  pub way_pushed : (n : Note) (k from : ℕ)
      → ((f i w z : ℕ) → n ≡ Page f i w → kind_block q.kind ≡ Some z → h.maps (h.cut k) f i ≡ true → Calm h f i w (h.cut k) → Calm h f i (h.cut k) w → z ≡ place_at program h s k f i)
      → ((f i w z : ℕ) (x : List ℕ) → n ≡ Page f i w → kind_block q.kind ≡ Some z → mark_in (transactions_from s.transactions 1 k) z ≡ Set x → ⊥)
      → OnItsWay program h s k from → OnItsWay program h (after (plainly s counted q n)) k from
  way_pushed n k from new_place_of no_body was = record {
    place = λ o f i w z t maps calm back.
        ⊎_elim
        (λ l. was.place o f i w z l maps calm back)
        (λ l. new_place_of f i w z l.1 l.2 maps calm back)
        (page_cases (plainly s counted q n) o f i w z t);
    logged = λ o f i w z x t set.
        ⊎_elim
        (λ l. let c = was.logged o f i w z x l set in (c.0, note_old (plainly s counted q n) c.0 (Commit (k - 1)) c.1, c.2, c.3))
        (λ l. absurd (no_body f i w z x l.1 l.2 set))
        (page_cases (plainly s counted q n) o f i w z t);
    files = was.files;
    stays = was.stays;
    walked = was.walked;
    low = was.low;
    own = was.own;
    sent = λ f i ch maps wrote.
        let o = was.sent f i ch maps wrote in
        (o.0, note_old (plainly s counted q n) o.0 (Page f i (last_write h f i (h.cut k))) o.1, ordered_old s.requests q o.0 o.2, o.3);
  }

-- ---- a request that is neither a page nor a commit block nor a home

pub other_owes_images : {A : Type 0} {program : Reads A} {s : Session} (counted : length s.notes ≡ length s.requests) (q : Request) (n : Note) → ((f i v : ℕ) → n ≡ Page f i v → ⊥) → ((k : ℕ) → n ≡ Commit k → ⊥) → ((b : ℕ) → n ≡ Home b → ⊥) → ImageClause program (plainly s counted q n)
other_owes_images counted q n no_page no_commit no_home = record {
  bodies = λ k b x e set. absurd (no_commit k e);
  revokes = λ k b e j r. no_commit k e;
  logged = λ k b e read. absurd (no_commit k e);
  home = λ b e. absurd (no_home b e);
  page = λ g j w y k x e put set c. absurd (no_page g j w e);
  freed = λ g j w y e put old. absurd (no_page g j w e);
}
