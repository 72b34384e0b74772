-- The clauses that a new request owes, each over the list before it, and that the rules are kept by them.
use Rattle.std.specs.Prelude.{◌≡◌, ℕ, ◌+◌, ◌⊎◌, [], ◌∷◌, ◌++◌, Some}
use Rattle.std.proofs.Common.{sym, ap, subst, ◌∙◌, inl, inr, ⊎_elim, arith}
use Rattle.blk_base.specs.laws.Members.{slice_get-length}
use Rattle.order_model.specs.declared.note.Note.TheVariants.{Commit}
use Rattle.order_model.specs.OrderClosed.{IsFence}
use Rattle.crash_laws.specs.laws.Clauses.{CommitClause}
use Rattle.crash_laws.specs.Ordering.{Fenced}
use Rattle.crash_laws.specs.Rules.{CommitOrder}
use Rattle.crash_laws.specs.Session.{log_transaction, IsLog, IsCommit}
use Rattle.crash_laws.specs.laws.Submitting.{Submitting, after, new_place}
use Rattle.crash_laws.proofs.Growing.{closed_off, note_old, note_cases, log_cases, commit_before_old, fence_old, fence_new, fenced_old}

-- ---- commit order

module _ (p : Submitting) where
  abbrev pub CommitCases : ℕ → ℕ → Type 0
  CommitCases k i = IsCommit p.session k i ⊎ ((i ≡ new_place p) × (p.note ≡ Commit k))

  pub commit_order_step : CommitOrder p.session → CommitClause p.session p.request p.note → CommitOrder (after p)
  commit_order_step old new = record {
    numbered = λ k i h. ⊎_elim (λ l. old.numbered k i l) (λ l. new.numbered k l.1) (log_cases p k i h);
    once = λ k i j h g. once k i j (note_cases p i (Commit k) h) (note_cases p j (Commit k) g);
    barrier = λ k i h.
        ⊎_elim
        (λ l. fence_old p.session.requests p.request i (old.barrier k i l))
        (λ l. subst (IsFence (p.session.requests ++ p.request ∷ [])) (sym l.0) (fence_new p (new.barrier k l.1)))
        (note_cases p i (Commit k) h);
    behind = λ k i h pos.
        ⊎_elim
        (λ l. commit_before_old p k i (old.behind k i l pos))
        (λ l. let c = new.behind k l.1 pos in let lt = slice_get-length p.session.notes c.0 (Commit k) c.1 in let at = l.0 in (c.0, note_old p c.0 (Commit k) c.1, omega arith))
        (log_cases p (k + 1) i h);
    before = λ k i c h g. before k i c (log_cases p k i h) (note_cases p c (Commit k) g);
  }
    where
      none_yet : (k i : ℕ) → p.note ≡ Commit k → IsCommit p.session k i → ⊥
      none_yet k i e h = new.unfinished k (ap log_transaction e) (i, h)

      once : (k i j : ℕ) → CommitCases k i → CommitCases k j → i ≡ j
      once k i j (inl h) (inl g) = old.once k i j h g
      once k i j (inl h) (inr g) = absurd (none_yet k i g.1 h)
      once k i j (inr h) (inl g) = absurd (none_yet k j h.1 g)
      once k i j (inr h) (inr g) = h.0 ∙ sym g.0

      before : (k i c : ℕ) → IsLog p.session k i ⊎ ((i ≡ new_place p) × (log_transaction p.note ≡ Some k)) → CommitCases k c → (i ≡ c) ⊎ Fenced (p.session.requests ++ p.request ∷ []) i c
      before k i c (inl h) (inl g) = ⊎_elim inl (λ f. inr (fenced_old p.session.requests p.request i c f)) (old.before k i c h g)
      before k i c (inl h) (inr g) = inr (subst (Fenced (p.session.requests ++ p.request ∷ []) i) (sym g.0) (closed_off p i (new.closed k i g.1 h)))
      before k i c (inr h) (inl g) = absurd (new.unfinished k h.1 (c, g))
      before k i c (inr h) (inr g) = inl (h.0 ∙ sym g.0)
