-- Plain calls, and every other entry of the history, keep the facts of images.
use Rattle.std.proofs.Common.{sym, ap, subst, ◌∙◌, inl, arith}
use Rattle.std.proofs.lemmas.Bool.{false≢true}
use Rattle.std.proofs.lemmas.Option.{none-some, same_Some}
use Rattle.std.specs.Prelude.{◌≡◌, ℕ, suc, ◌+◌, true, false, ◌&&◌, not, List, [], ◌∷◌, ◌++◌, length, None, nat_lt, refl, if◌then◌else◌}
use Rattle.blk_base.specs.laws.Members.{filter_all}
use Rattle.log_model.specs.Marks.{Transaction}
use Rattle.page_cache.specs.declared.cached_page.CachedPage.{CachedPage}
use Rattle.crash_laws.specs.Session.{Session}
use Rattle.host_machine.proofs.Entries.{tree_new, writes_new}
use Rattle.host_machine.proofs.Machine.{entry_keeps}
use Rattle.host_machine.specs.Host.{change, end_call}
use Rattle.host_machine.specs.Model.{Touched, Applied}
use Rattle.number_sets.specs.Sets.{has, with_all, without_all}
use Rattle.host_machine.specs.State.{Ending, Answered, Ends, Entry, Host}
use Rattle.commit_actor.specs.Journal.{Phase}
use Rattle.flush_actor.specs.Kinds.{is_begun}
use Rattle.host_machine.specs.Views.{is_answered, acted, tree_after, writes_at}
use Rattle.host_machine.specs.laws.Contract.{Over, Contract, ImagesFacts, KeepsImages}

abbrev nothing : Touched
nothing = record { blocks = []; freed = []; revoked = []; pages = []; dropped = []; nodes = [] }

unchanged : (xs : List ℕ) → without_all (with_all xs []) [] ≡ xs
unchanged xs = filter_all (λ x. not (has [] x)) xs (λ x i. refl)

module _ {A T V C R : Type 0} {o : Over A T V C R} {Stands : V → T → Type 0} (contract : Contract o Stands) where
  -- ---- a plain call

  module _ (s : Host V C R) (txs : List Transaction) (N t : ℕ) (c : C) (rest : List C) (facts : KeepsImages o Stands s txs N)
      (accepted : o.model.reply s.volume c ≡ None) (plain : is_begun (o.model.kind c) ≡ false)
      (enough : o.model.hinders s.volume c ≡ true → nat_lt (length (o.model.zones s.volume).free) (o.model.needs s.volume c) ≡ false) where
    abbrev applied : Applied V R
    applied = o.model.apply s.volume (length s.history + 1) s.journal.running.number c

    abbrev entry : Entry C R
    entry = record { thread = t; call = c; what = Ends (Answered applied.reply) }

    abbrev before : T
    before = tree_after o.model s.history (length s.history)

    next : length s.history + 1 ≡ suc (length s.history)
    next = omega arith

    writes_now : (f i : ℕ) → writes_at o.model (s.history ++ entry ∷ []) (length s.history + 1) f i ≡ o.model.writes before c f i
    writes_now f i = ap (λ n. writes_at o.model (s.history ++ entry ∷ []) n f i) next ∙ writes_new o.model s.history entry f i

    tree_now : tree_after o.model (s.history ++ entry ∷ []) (length s.history + 1) ≡ o.model.call before (length s.history + 1) c
    tree_now = ap (tree_after o.model (s.history ++ entry ∷ [])) next ∙ tree_new o.model s.history entry ∙ ap (λ n. o.model.call before n c) (sym next)

    -- A plain call that is done keeps the facts.
    pub change_keeps : KeepsImages o Stands (end_call o.model o.setup (change o.model o.setup s c applied) t c rest (Answered applied.reply)) txs N
    change_keeps =
        let done = contract.applied s.volume before (length s.history + 1) s.journal.running.number c facts.0.stands accepted plain enough in
        let told = done.1 in (
          entry_keeps contract refl refl facts.0 entry applied.volume applied.touched
              (subst (Stands applied.volume) (sym tree_now) done.0)
              (record {
                fresh = told.fresh;
                gone = told.gone;
                revoked = told.revoked;
                same_bytes = told.same_bytes;
                blocks = told.blocks;
                freed = told.freed;
                not_freed = told.not_freed;
                written = λ w i. let x = told.written w i in (writes_now w.birth w.index ∙ x.0, x.1);
                all_written = λ f i w. told.all_written f i (sym (writes_now f i) ∙ w);
                dropped = told.dropped;
                all_dropped = told.all_dropped;
                same_zone = told.same_zone;
                newly = told.newly;
                nodes = told.nodes;
              })
              (λ f a. told.all_nodes f (ap (λ n. o.model.alters before n c f) next ∙ a)),
          facts.1,
        )

  -- ---- every other entry

  -- it leaves the tree, writes no block and changes no node
  pub record IsQuiet (es : List (Entry C R)) (e : Entry C R) : Type 0 where
    pub tree : acted o.model (tree_after o.model es (length es)) (suc (length es)) e ≡ tree_after o.model es (length es)
    pub writes : (f i : ℕ) → (is_answered e.what && o.model.writes (tree_after o.model es (length es)) e.call f i) ≡ false
    pub alters : (f : ℕ) → (is_answered e.what && o.model.alters (tree_after o.model es (length es)) (suc (length es)) e.call f) ≡ false

  pub quiet_keeps : {es : List (Entry C R)} {cuts : List ℕ} {s : Session} {r : ℕ} {touched revoked changed : List ℕ} {phase : Phase} {v : V} {pages : List CachedPage} {N : ℕ}
      → s.journal ≡ o.setup.journal → s.reserved ≡ o.reserved → (e : Entry C R) → IsQuiet es e
      → ImagesFacts o Stands es cuts s r touched revoked changed phase v pages N → ImagesFacts o Stands (es ++ e ∷ []) cuts s r touched revoked changed phase v pages N
  quiet_keeps {es = es} {cuts = cuts} {s = s} {r = r} {touched = touched} {revoked = revoked} {changed = changed} {phase = phase} {v = v} {pages = pages} {N = N} journal reserved e quiet facts =
      subst (λ x. ImagesFacts o Stands (es ++ e ∷ []) cuts s r x revoked changed phase v pages N) (unchanged touched)
      (entry_keeps contract journal reserved facts e v nothing
      (subst (Stands v) (sym tree_now) facts.stands)
      (record {
        fresh = λ b m. inl m;
        gone = λ b m n. absurd (false≢true (sym n ∙ m));
        revoked = λ b i. absurd i;
        same_bytes = λ b m n i. refl;
        blocks = λ b i. absurd i;
        freed = λ z i. absurd i;
        not_freed = λ z i. refl;
        written = λ w i. absurd i;
        all_written = λ f i w. absurd (false≢true (sym (quiet.writes f i) ∙ sym (writes_new o.model es e f i) ∙ ap (λ n. writes_at o.model (es ++ e ∷ []) n f i) (sym next) ∙ w));
        dropped = λ x i. absurd i;
        all_dropped = λ f i z y n. absurd (none-some z (sym n ∙ y));
        same_zone = λ f i z y a b. same_Some y z (sym b ∙ a);
        newly = λ f i z n y. absurd (none-some z (sym n ∙ y));
        nodes = λ f i z l. absurd l;
      })
      (λ f a. absurd (false≢true (sym (quiet.alters f) ∙ a))))
    where
      next : length es + 1 ≡ suc (length es)
      next = omega arith

      tree_now : tree_after o.model (es ++ e ∷ []) (length es + 1) ≡ tree_after o.model es (length es)
      tree_now = ap (tree_after o.model (es ++ e ∷ [])) next ∙ tree_new o.model es e ∙ quiet.tree

  -- a Begin, and an End with Down, ReadOnly or SessionFull
  pub unanswered_quiet : (es : List (Entry C R)) (e : Entry C R) → is_answered e.what ≡ false → IsQuiet es e
  unanswered_quiet es e none = record {
    tree = ap (λ t. if t then o.model.call (tree_after o.model es (length es)) (suc (length es)) e.call else tree_after o.model es (length es)) none;
    writes = λ f i. ap (λ t. t && o.model.writes (tree_after o.model es (length es)) e.call f i) none;
    alters = λ f. ap (λ t. t && o.model.alters (tree_after o.model es (length es)) (suc (length es)) e.call f) none;
  }

  -- an answer by which the tree stays
  pub answered_quiet : (es : List (Entry C R)) (t : ℕ) (c : C) (reply : R)
      → (o.model.call (tree_after o.model es (length es)) (suc (length es)) c ≡ tree_after o.model es (length es))
      × ((f i : ℕ) → o.model.writes (tree_after o.model es (length es)) c f i ≡ false) × ((f : ℕ) → o.model.alters (tree_after o.model es (length es)) (suc (length es)) c f ≡ false)
      → IsQuiet es (record { thread = t; call = c; what = Ends (Answered reply) })
  answered_quiet es t c reply still = record { tree = still.0; writes = still.1; alters = still.2 }

  -- an End that is no plain call done: a refusal, the Ok of a begun call, or a stop
  pub end_keeps : (s : Host V C R) (txs : List Transaction) (N t : ℕ) (c : C) (rest : List C) (ending : Ending R)
      → IsQuiet s.history (record { thread = t; call = c; what = Ends ending }) → KeepsImages o Stands s txs N → KeepsImages o Stands (end_call o.model o.setup s t c rest ending) txs N
  end_keeps s txs N t c rest ending quiet facts = (quiet_keeps refl refl (record { thread = t; call = c; what = Ends ending }) quiet facts.0, facts.1)
