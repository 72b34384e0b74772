-- The order rules of images and pages are kept: wholly by entries and by pages that are sent; by other requests
-- with the clauses that the ring owes.
use Rattle.std.proofs.Common.{sym, ap, subst, ◌∙◌}
use Rattle.std.proofs.lemmas.Option.{none-some}
use Rattle.std.specs.Option.{unwrap_or}
use Rattle.std.specs.Prelude.{◌≡◌, ℕ, ◌+◌, Bool, true, false, List, [], ◌∷◌, ◌++◌, length, Some, None, nat_lt, refl}
use Rattle.order_model.specs.OrderClosed.{kind_body}
use Rattle.order_model.specs.declared.note.Note.TheVariants as notes
use Rattle.order_model.specs.declared.note.Note.{Note}
use Rattle.order_model.specs.declared.request.Kind.TheVariants as puts
use Rattle.order_model.specs.declared.request.Request.{Request}
use Rattle.log_model.specs.Marks.{Transaction}
use Rattle.page_cache.specs.Pages.{page_at}
use Rattle.page_cache.specs.declared.cached_page.CachedPage.{CachedPage}
use Rattle.crash_laws.proofs.Growth.{page_order_grows, data_before_commit_grows}
use Rattle.crash_laws.proofs.ImageSteps.{page_order_step, data_before_commit_step}
use Rattle.crash_laws.proofs.OrderSteps.{order_rules_step}
use Rattle.crash_laws.specs.laws.Clauses.{CommitClause, LogClause, CheckpointClause}
use Rattle.crash_laws.specs.Rules.{HasHeader}
use Rattle.crash_laws.specs.Session.{Session, log_transaction}
use Rattle.crash_laws.specs.laws.Submitting.{Submitting}
use Rattle.host_machine.proofs.CallSteps.{IsQuiet, change_keeps, end_keeps}
use Rattle.host_machine.proofs.ChangeSteps.{extends}
use Rattle.host_machine.proofs.Entries.{entry_noted}
use Rattle.host_machine.proofs.RequestSteps.{page_fits, page_owes_image, page_owes_pages, send_keeps}
use Rattle.host_machine.proofs.Sends.{plainly, page≢commit}
use Rattle.host_machine.specs.Host.{change, end_call, send_page}
use Rattle.host_machine.specs.State.{Ending, Answered, Ends, Entry, Host}
use Rattle.commit_actor.specs.Journal.{Phase}
use Rattle.flush_actor.specs.Kinds.{is_begun}
use Rattle.host_machine.specs.laws.Contract.{Over, Contract, noted_history, ImagesFacts, session}
use Rattle.host_machine.specs.laws.Rules.{AllRules, Keeps}

-- a page owes nothing to the log
page_log : (p : Submitting) (f i v : ℕ) → p.note ≡ notes.Page f i v → LogClause p
page_log p f i v e = record {
  place = λ k l. absurd (none-some k (sym (ap log_transaction e) ∙ l));
  again = λ k l i b m. absurd (none-some l (sym (ap log_transaction e) ∙ m));
  header = subst (λ n. HasHeader p.session.sequence n (p.session.format.header (unwrap_or (kind_body p.request.kind) []))) (sym e) tt;
  spells = λ k d. absurd (page≢commit f i v k (sym e ∙ d));
}

page_commits : (s : Session) (q : Request) (f i v : ℕ) → CommitClause s q (notes.Page f i v)
page_commits s q f i v = record {
  numbered = λ k e. absurd (none-some k e);
  unfinished = λ k e. absurd (none-some k e);
  behind = λ k e. absurd (none-some (k + 1) e);
  barrier = λ k e. absurd (page≢commit f i v k e);
  closed = λ k j e. absurd (page≢commit f i v k e);
}

page_checkpoints : (s : Session) (q : Request) (f i v : ℕ) → CheckpointClause s q (notes.Page f i v)
page_checkpoints s q f i v = record {
  super = λ e. absurd (let z : ⊥ = cc in z);
  first = λ e. absurd (page≢commit f i v 1 e);
  before = λ j freed e. absurd (page≢commit f i v (freed + 1) e);
}

module _ {A T V C R : Type 0} {o : Over A T V C R} {Stands : V → T → Type 0} (contract : Contract o Stands) where
  -- ---- entries

  pub entry_rules : {es : List (Entry C R)} {cuts : List ℕ} {s : Session} {r : ℕ} {touched revoked changed : List ℕ} {phase : Phase} {v : V} {pages : List CachedPage} {N : ℕ}
      → ImagesFacts o Stands es cuts s r touched revoked changed phase v pages N → (e : Entry C R) → AllRules o.program (noted_history o Stands es cuts) s → AllRules o.program (noted_history o Stands (es ++ e ∷ []) cuts) s
  entry_rules {es = es} {cuts = cuts} {r = r} facts e was =
      let grows = extends (entry_noted o.model es e o.place cuts r facts.closed facts.numbers.cuts) facts.numbers in
      record { order = was.order; pages = page_order_grows grows o.program was.pages; committed = data_before_commit_grows grows o.program was.committed }

  pub change_both : (s : Host V C R) (txs : List Transaction) (N t : ℕ) (c : C) (rest : List C) → Keeps o Stands s txs N → o.model.reply s.volume c ≡ None → is_begun (o.model.kind c) ≡ false
      → (o.model.hinders s.volume c ≡ true → nat_lt (length (o.model.zones s.volume).free) (o.model.needs s.volume c) ≡ false)
      → Keeps o Stands (end_call o.model o.setup (change o.model o.setup s c (o.model.apply s.volume (length s.history + 1) s.journal.running.number c)) t c rest (Answered (o.model.apply s.volume (length s.history + 1) s.journal.running.number c).reply)) txs N
  change_both s txs N t c rest facts accepted plain enough = (
    change_keeps contract s txs N t c rest facts.0 accepted plain enough,
    entry_rules facts.0.0 (record { thread = t; call = c; what = Ends (Answered (o.model.apply s.volume (length s.history + 1) s.journal.running.number c).reply) }) facts.1,
  )

  pub end_both : (s : Host V C R) (txs : List Transaction) (N t : ℕ) (c : C) (rest : List C) (ending : Ending R)
      → IsQuiet contract s.history (record { thread = t; call = c; what = Ends ending }) → Keeps o Stands s txs N → Keeps o Stands (end_call o.model o.setup s t c rest ending) txs N
  end_both s txs N t c rest ending quiet facts =
      (end_keeps contract s txs N t c rest ending quiet facts.0, entry_rules facts.0.0 (record { thread = t; call = c; what = Ends ending }) facts.1)

  -- ---- a page

  pub send_both : (s : Host V C R) (txs : List Transaction) (N : ℕ) → Keeps o Stands s txs N → (p : CachedPage) (ordered barrier : Bool) → page_at s.pages p.birth p.index ≡ Some p → Keeps o Stands (send_page o.model o.setup s p ordered barrier) txs N
  send_both s txs N facts p ordered barrier here =
      let f = facts.0.0 in
      let was = facts.1 in
      let commits = page_commits sess request p.birth p.index p.version in
      let pages = page_owes_pages contract refl refl f request p.birth p.index p here refl refl in (
        send_keeps contract s txs N facts.0 p ordered barrier here,
        record {
          order = order_rules_step o.program (plainly sess f.counted request note) was.order
              (record {
                fits = page_fits contract refl refl f request p.birth p.index p here refl refl;
                commits = commits;
                log = page_log (plainly sess f.counted request note) p.birth p.index p.version refl;
                checkpoints = page_checkpoints sess request p.birth p.index p.version;
                images = page_owes_image contract refl refl f request p.birth p.index p here refl refl;
              });
          pages = page_order_step o.program (noted_history o Stands s.history s.cuts) (plainly sess f.counted request note) was.order.commits commits was.pages pages;
          committed = data_before_commit_step o.program (noted_history o Stands s.history s.cuts) (plainly sess f.counted request note) was.order.commits commits was.committed pages;
        },
      )
    where
      sess : Session
      sess = session o Stands txs s

      request : Request
      request = record { id = length s.journal.flush.requests; kind = puts.Put p.block p.body; ordered = ordered; barrier = barrier }

      note : Note
      note = notes.Page p.birth p.index p.version
