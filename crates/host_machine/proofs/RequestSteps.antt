-- Requests keep the facts of images, and owe what the facts give: a page that is sent, a request that is neither
-- a page nor a commit block, the plan, and the commit block.
use Rattle.std.proofs.Common.{sym, ap, ◌∙◌, inl, inr, ⊎_elim, arith, length-append}
use Rattle.std.proofs.lemmas.Bool.{cases_lt, false≢true}
use Rattle.std.proofs.lemmas.Option.{none-some}
use Rattle.std.specs.Prelude.{◌≡◌, ℕ, ◌+◌, ◌-◌, ◌<◌, Bool, true, false, List, [], ◌∷◌, length, Some, refl, if◌then◌else◌, IsTrue}
use Rattle.order_model.specs.OrderClosed.{kind_block, kind_body}
use Rattle.order_model.specs.declared.note.Note.TheVariants as notes
use Rattle.order_model.specs.declared.note.Note.{Note}
use Rattle.order_model.specs.declared.request.Kind.TheVariants as puts
use Rattle.order_model.specs.declared.request.Request.{Request}
use Rattle.log_model.specs.Marks.{Transaction}
use Rattle.page_cache.specs.Pages.{page_at, put_page, marked, IsRising}
use Rattle.page_cache.specs.declared.cached_page.CachedPage.{CachedPage}
use Rattle.page_cache.specs.declared.cached_page.PageState.TheVariants.{Clean, Loose, Firm}
use Rattle.page_cache.specs.laws.Order.{put-rising}
use Rattle.crash_laws.proofs.Growing.{fence_old}
use Rattle.crash_laws.proofs.Histories.{mapped_was_written}
use Rattle.blk_base.specs.Members.{In}
use Rattle.crash_laws.specs.laws.Clauses.{FitsClause, IsFreedNow, ImageClause}
use Rattle.crash_laws.specs.History.{last_write, HasTrees}
use Rattle.crash_laws.specs.laws.PageClauses.{NewPageClause, PageClause}
use Rattle.crash_laws.specs.Session.{Session}
use Rattle.crash_laws.specs.laws.Submitting.{after}
use Rattle.host_machine.proofs.ChangeSteps.{last_write_within}
use Rattle.host_machine.proofs.Commits.{page_owes, page_owes_images, way_pushed}
use Rattle.host_machine.proofs.Entries.{trees_noted}
use Rattle.host_machine.proofs.Machine.{plain_at}
use Rattle.host_machine.proofs.Sends.{plainly, page≢commit, page_clause, freed_now, no_body_now, numbers_pushed, history_pushed, opened_pushed, sent_pushed, mapped_marked, sent_marked}
use Rattle.host_machine.specs.Host.{send_page}
use Rattle.host_machine.specs.State.{Entry, Host}
use Rattle.commit_actor.specs.Journal.{Phase, Idle, Closing, Committing}
use Rattle.host_machine.specs.laws.Contract.{Over, view_of, Contract, noted_history, InPhase, ImagesFacts, session, KeepsImages}
use Rattle.host_machine.specs.laws.Facts.{IsPlain, PagesMapped, PagesSent}

module _ {A T V C R : Type 0} {o : Over A T V C R} {Stands : V → T → Type 0} (contract : Contract o Stands) where
  module _ {es : List (Entry C R)} {cuts : List ℕ} {s : Session} {r : ℕ} {touched revoked changed : List ℕ} {phase : Phase} {v : V} {pages : List CachedPage} {N : ℕ}
      (journal : s.journal ≡ o.setup.journal) (reserved : s.reserved ≡ o.reserved) (facts : ImagesFacts o Stands es cuts s r touched revoked changed phase v pages N) where
    trees : HasTrees (noted_history o Stands es cuts)
    trees = trees_noted o.model contract.trees o.place es cuts facts.rise

    plain : IsPlain o.program (noted_history o Stands es cuts) s (length es) (view_of o v)
    plain = plain_at contract es cuts s v (length es) journal reserved facts.stands

    -- A page that is cached may be sent: what it owes of pages, of images and of its note.
    module _ (q : Request) (f i : ℕ) (p : CachedPage) (here : page_at pages f i ≡ Some p) (block : kind_block q.kind ≡ Some p.block) (body : kind_body q.kind ≡ Some p.body) where
      new_page : NewPageClause o.program (noted_history o Stands es cuts) s q f i p.version p.block
      new_page = page_clause facts.numbers plain facts.bodies facts.plan_revokes trees facts.places facts.mapped facts.sent facts.zones facts.opened q f i p here body

      freed : In p.block s.freeable → IsFreedNow s p.block
      freed = freed_now facts.numbers plain facts.bodies facts.plan_revokes f i p.block facts.opened (facts.mapped.cached f i p here).zone

      pub page_owes_pages : PageClause o.program (noted_history o Stands es cuts) (plainly s facts.counted q (notes.Page f i p.version))
      page_owes_pages = page_owes facts.counted q f i p.version p.block block new_page freed

      pub page_owes_image : ImageClause o.program (plainly s facts.counted q (notes.Page f i p.version))
      page_owes_image = page_owes_images facts.counted q f i p.version p.block block new_page freed

      pub page_fits : FitsClause s q (notes.Page f i p.version)
      page_fits = record {
        home = λ b e. absurd (let z : ⊥ = cc in z);
        super = λ e. absurd (let z : ⊥ = cc in z);
        log = λ k e. absurd (none-some k e);
        page = λ g j w e. (
          p.block,
          block,
          plain.page_low f i p.block (facts.mapped.cached f i p here).zone,
          λ x. false≢true (sym (plain.page_free f i p.block (facts.mapped.cached f i p here).zone).0 ∙ plain.reserved p.block x),
        );
        flush = λ e. absurd (let z : ⊥ = cc in z);
        raw = λ e. let z : ⊥ = cc in z;
        ordered = λ e. absurd (false≢true (sym e));
      }

    -- One request more, which is no commit block. A page goes to its block with its version.
    module _ (q : Request) (n : Note) (no_commit : (k : ℕ) → n ≡ notes.Commit k → ⊥)
        (page : (f i w z : ℕ) → n ≡ notes.Page f i w → kind_block q.kind ≡ Some z → ((view_of o v).zone f i ≡ Some z) × (w ≡ last_write (noted_history o Stands es cuts) f i (length es)))
        (put : (f i w : ℕ) → n ≡ notes.Page f i w → (z : ℕ) × (kind_block q.kind ≡ Some z)) where
      abbrev pushed : Session
      pushed = after (plainly s facts.counted q n)

      way : InPhase o Stands es cuts s r N phase → InPhase o Stands es cuts pushed r N phase
      way = by phase
        where
          k : ℕ
          k = r - 1

          below : k < r
          below = let c = facts.closed in omega arith

          by : (x : Phase) → InPhase o Stands es cuts s r N x → InPhase o Stands es cuts pushed r N x
          by Idle x = x
          by Closing x = x
          by (Committing c) x = record {
            on_way = x.on_way;
            rest = x.rest;
            listed = x.listed;
            from = x.from;
            within = let l = length-append s.notes (n ∷ []) in let le = x.within in omega arith;
            owed = way_pushed facts.counted q n k x.from
                (λ f i w z e b maps calm back.
                let there = page f i w z e b in
                let last = there.1 in
                let written = mapped_was_written trees f i (length es) (plain.mapped f i z there.0) in
                facts.places.kept k f i z below maps
                (λ m lo hi un. ⊎_elim (λ later. written.calm m later hi un) (λ early. back m lo (omega arith) un) (cases_lt (last_write (noted_history o Stands es cuts) f i (length es)) m))
                there.0)
                (λ f i w z y e b set. no_body_now facts.numbers plain facts.bodies facts.plan_revokes f i z y (page f i w z e b).0 set)
                x.owed;
            barred = λ f i l maps. ⊎_elim inl (λ b. inr (b.0, b.1, fence_old s.requests q b.0 b.2)) (x.barred f i l maps);
          }

      pub pushed_keeps : (pages_after : List CachedPage) → PagesMapped (noted_history o Stands es cuts) (length es) (view_of o v) pages_after → IsRising pages_after → PagesSent pushed pages_after
          → ImagesFacts o Stands es cuts pushed r touched revoked changed phase v pages_after N
      pushed_keeps pages_after mapped rising sent = record {
        counted = length-append s.notes (n ∷ []) ∙ ap (λ l. l + length (n ∷ [])) facts.counted ∙ sym (length-append s.requests (q ∷ []));
        closed = facts.closed;
        rise = facts.rise;
        stands = facts.stands;
        numbers = numbers_pushed (plainly s facts.counted q n) no_commit
            (λ f i w e. let z = put f i w e in let last = (page f i w z.0 e z.1).1 in let le = last_write_within (noted_history o Stands es cuts) f i (length es) in omega arith) facts.numbers;
        present = record { present = facts.present.present };
        bodies = record { on_metadata = facts.bodies.on_metadata; bodies_on = facts.bodies.bodies_on; waits = facts.bodies.waits; own = facts.bodies.own };
        plan_revokes = record { waits = facts.plan_revokes.waits };
        alike = facts.alike;
        places = record { kept = facts.places.kept };
        mapped = mapped;
        rising = rising;
        sent = sent;
        zones = history_pushed (plainly s facts.counted q n)
            (λ f i w z e b.
            let there = page f i w z e b in
            let last = there.1 in
            let written = mapped_was_written trees f i (length es) (plain.mapped f i z there.0) in
            record { calm = λ m lo hi un. written.calm m (omega arith) hi un; there = there.0 }) facts.zones;
        opened = opened_pushed (plainly s facts.counted q n) no_commit (λ k. refl) facts.opened;
        altered = record { listed = facts.altered.listed; not_empty = facts.altered.not_empty };
        in_phase = way facts.in_phase;
      }

  -- ---- steps of the host

  module _ (s : Host V C R) (txs : List Transaction) (N : ℕ) (facts : KeepsImages o Stands s txs N) where
    -- A page is sent, by a begun call, in Closing, or by the write-back.
    pub send_keeps : (p : CachedPage) (ordered barrier : Bool) → page_at s.pages p.birth p.index ≡ Some p → KeepsImages o Stands (send_page o.model o.setup s p ordered barrier) txs N
    send_keeps p ordered barrier here = (
      pushed_keeps refl refl facts.0 request (notes.Page p.birth p.index p.version) (λ k e. page≢commit p.birth p.index p.version k e) page (λ f i w e. (p.block, refl))
          (put_page s.pages (marked p (if ordered then Firm else Loose)))
          (mapped_marked s.pages p (if ordered then Firm else Loose) here facts.0.mapped)
          (put-rising s.pages (marked p (if ordered then Firm else Loose)) facts.0.rising)
          (sent_marked s.pages p (if ordered then Firm else Loose) here (plainly (session o Stands txs s) facts.0.counted request (notes.Page p.birth p.index p.version)) refl refl (unclean ordered) (is_ordered ordered) facts.0.sent),
      facts.1,
    )
      where
        request : Request
        request = record { id = length s.journal.flush.requests; kind = puts.Put p.block p.body; ordered = ordered; barrier = barrier }

        same_page : (f i w g j y : ℕ) → notes.Page f i w ≡ notes.Page g j y → (f ≡ g) × (i ≡ j) × (w ≡ y)
        same_page f i w g j y e = (cc, cc, cc)

        page : (f i w z : ℕ) → notes.Page p.birth p.index p.version ≡ notes.Page f i w → Some p.block ≡ Some z → ((view_of o s.volume).zone f i ≡ Some z) × (w ≡ last_write (noted_history o Stands s.history s.cuts) f i (length s.history))
        page f i w z e b =
            let k = same_page p.birth p.index p.version f i w e in
            let c = facts.0.mapped.cached f i p (ap (λ g. page_at s.pages g i) (sym k.0) ∙ ap (page_at s.pages p.birth) (sym k.1) ∙ here) in
            (c.zone ∙ b, sym k.2 ∙ c.version)

        unclean : (b : Bool) → (if b then Firm else Loose) ≡ Clean → ⊥
        unclean true e = let z : ⊥ = cc in z
        unclean false e = let z : ⊥ = cc in z

        is_ordered : (b : Bool) → (if b then Firm else Loose) ≡ Firm → IsTrue b
        is_ordered true e = refl
        is_ordered false e = absurd (let z : ⊥ = cc in z)

    -- A request that is neither a page nor a commit block: a home, a superblock, a log block of the plan, a flush.
    pub request_keeps : (q : Request) (n : Note) → ((k : ℕ) → n ≡ notes.Commit k → ⊥) → ((f i w : ℕ) → n ≡ notes.Page f i w → ⊥)
        → ImagesFacts o Stands s.history s.cuts (after (plainly (session o Stands txs s) facts.0.counted q n)) s.journal.running.number s.journal.running.touched s.journal.running.revoked s.journal.running.changed s.journal.phase s.volume s.pages N
    request_keeps q n no_commit no_page =
        pushed_keeps refl refl facts.0 q n no_commit (λ f i w z e b. absurd (no_page f i w e)) (λ f i w e. absurd (no_page f i w e)) s.pages facts.0.mapped facts.0.rising
        (sent_pushed (plainly (session o Stands txs s) facts.0.counted q n) no_page facts.0.sent)
