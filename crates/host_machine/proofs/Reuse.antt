-- The order of zones that are used again: a page goes to a freed zone only behind the commit block of the
-- transaction that freed it, and orderless only behind that of the transaction that took the zone.
use Rattle.std.proofs.Common.{sym, ap, subst, ◌∙◌, inl, inr, ⊎_elim, arith}
use Rattle.std.proofs.lemmas.Bool.{cases_lt, false≢true}
use Rattle.std.proofs.lemmas.Option.{none-some}
use Rattle.std.specs.Prelude.{◌≡◌, ℕ, zero, suc, ◌+◌, ◌-◌, ◌<◌, ◌≤◌, ◌⊎◌, Bool, true, false, List, [], ◌∷◌, ◌++◌, Some, slice_index_or, refl, if◌then◌else◌, IsTrue}
use Rattle.blk_base.specs.laws.Members.{slice_get-length}
use Rattle.order_model.specs.OrderClosed.{IsOrdered, kind_block}
use Rattle.order_model.specs.declared.note.Note.TheVariants.{Page, Commit}
use Rattle.volume_ops.specs.Reads.{Reads}
use Rattle.crash_laws.proofs.Growing.{note_old, commit_before_old, ordered_old, ordered_new}
use Rattle.crash_laws.specs.History.{History, last_write, HasTrees, IsEntryOf}
use Rattle.crash_laws.specs.PageRules.{IsPageTo}
use Rattle.crash_laws.specs.Session.{CommitBefore}
use Rattle.crash_laws.specs.laws.Submitting.{Submitting, after, new_place, IsCommitted}
use Rattle.host_machine.proofs.ChangeSteps.{last_write_within}
use Rattle.host_machine.proofs.Sends.{page_cases}
use Rattle.host_machine.specs.laws.Facts.{View, IsPlain}
use Rattle.host_machine.specs.laws.Reuse.{ReusesFreed, IsTaken, OrderlessCommitted, FreedWait, Owned}

-- ---- one entry more

-- what was mapped by an entry was written then, or later
last_write_since : {A : Type 0} (h : History A) (f i n e : ℕ) → e ≤ n → 1 ≤ e → h.writes e f i ≡ true → e ≤ last_write h f i n
last_write_since h f i zero e le pos w = absurd (omega arith)
last_write_since h f i (suc n) e le pos w = by (λ up. last_write_since h f i n e up pos w) (h.writes (suc n) f i) refl
  where
    by : (e ≤ n → e ≤ last_write h f i n) → (t : Bool) → h.writes (suc n) f i ≡ t → e ≤ (if t then suc n else last_write h f i n)
    by rest true q = le
    by rest false q =
        rest (⊎_elim (λ lt. omega arith) (λ ge. let same : e ≡ suc n = omega arith in absurd (false≢true (sym q ∙ ap (λ m. h.writes m f i) (sym same) ∙ w))) (cases_lt e (suc n)))

last_write_above : {A : Type 0} {h : History A} → HasTrees h → (f i n e : ℕ) {k : ℕ} → IsTaken h f i n k e → e ≤ last_write h f i n
last_write_above {h = h} trees f i n e taken =
    let above = taken.of_k.above in
    let next : e - 1 + 1 ≡ e = omega arith in
    last_write_since h f i n e taken.within (omega arith)
    (ap (λ m. h.writes m f i) (sym next) ∙ trees.mapped f i (e - 1) taken.before (ap (λ m. h.maps m f i) next ∙ taken.there))

-- ---- one request more

module _ {A : Type 0} {h : History A} (p : Submitting) where
  -- A page that is sent goes to no zone that waits.
  pub reuses_pushed : {program : Reads A} {now N : ℕ} {v : View} {frees : ℕ → ℕ → Bool} → IsPlain program h p.session now v → FreedWait h p.session now N v frees
      → ((f i w z : ℕ) → p.note ≡ Page f i w → kind_block p.request.kind ≡ Some z → (v.zone f i ≡ Some z) × (w ≤ now)) → ReusesFreed h p.session frees → ReusesFreed h (after p) frees
  reuses_pushed {frees = frees} plain freed page was = record { behind = λ o f i w z e t lt fr. by o f i w z e (page_cases p o f i w z t) lt fr }
    where
      by : (o f i w z e : ℕ) → IsPageTo p.session o f i w z ⊎ ((o ≡ new_place p) × (p.note ≡ Page f i w) × (kind_block p.request.kind ≡ Some z)) → e < w → frees e z ≡ true → (k : ℕ) × IsEntryOf h e k × CommitBefore (after p) k o
      by o f i w z e (inl t) lt fr = let x = was.behind o f i w z e t lt fr in (x.0, x.1, commit_before_old p x.0 o x.2)
      by o f i w z e (inr n) lt fr =
          let there = page f i w z n.1 n.2 in
          let le = there.1 in
          let x = freed.waits e z fr (omega arith) in
          ⊎_elim
          (λ d.
          let before = slice_get-length p.session.notes d.0 (Commit x.0) d.1 in
          let at = n.0 in
          (x.0, x.1, (d.0, note_old p d.0 (Commit x.0) d.1, omega arith)))
          (λ q. absurd (none-some x.0 (sym (plain.page_free f i z there.0).1 ∙ q.1)))
          x.2

  -- A page that is sent orderless has an owner that is submitted.
  pub orderless_pushed : {now : ℕ} {v : View} {owners : List ℕ} → Owned h now v owners → HasTrees h
      → ((f i w z : ℕ) → p.note ≡ Page f i w → kind_block p.request.kind ≡ Some z → (IsTrue p.request.ordered → ⊥) → (v.zone f i ≡ Some z) × (w ≡ last_write h f i now) × IsCommitted p.session (slice_index_or owners z 0))
      → OrderlessCommitted h p.session → OrderlessCommitted h (after p)
  orderless_pushed {now = now} {owners = owners} owned trees page was = record { behind = λ o f i w z t free. by o f i w z (page_cases p o f i w z t) free }
    where
      by : (o f i w z : ℕ) → IsPageTo p.session o f i w z ⊎ ((o ≡ new_place p) × (p.note ≡ Page f i w) × (kind_block p.request.kind ≡ Some z)) → (IsOrdered (p.session.requests ++ p.request ∷ []) o → ⊥)
          → (k e : ℕ) × IsTaken h f i w k e × CommitBefore (after p) k o
      by o f i w z (inl t) free =
          let x = was.behind o f i w z t (λ ord. free (ordered_old p.session.requests p.request o ord)) in
          (x.0, x.1, x.2, commit_before_old p x.0 o x.3)
      by o f i w z (inr n) free =
          let d = page f i w z n.1 n.2 (λ ord. free (subst (IsOrdered (p.session.requests ++ p.request ∷ [])) (sym n.0) (ordered_new p ord))) in
          let x = owned.owner f i z d.0 in
          let taken = x.1 in
          let version = d.1 in
          let low = last_write_within h f i now in
          let up = last_write_above trees f i now x.0 taken in
          let c = d.2 in
          let before = slice_get-length p.session.notes c.0 (Commit (slice_index_or owners z 0)) c.1 in
          let at = n.0 in (
            slice_index_or owners z 0,
            x.0,
            record { of_k = taken.of_k; before = taken.before; there = taken.there; within = omega arith; calm = λ m lo hi un. taken.calm m lo (omega arith) un },
            (c.0, note_old p c.0 (Commit (slice_index_or owners z 0)) c.1, omega arith),
          )
