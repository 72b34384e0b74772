-- What is kept of freed zones, of owners and of the submitted list: by a request more, and by an entry more.
use Rattle.std.proofs.Common.{sym, ap, subst, ◌∙◌, inl, inr, ⊎_elim, arith}
use Rattle.std.proofs.lemmas.Bool.{cases_lt, false≢true}
use Rattle.std.specs.Prelude.{◌≡◌, ℕ, ◌+◌, ◌-◌, ◌<◌, ◌≤◌, ◌⊎◌, Bool, true, false, List, length, Some, slice_index_or}
use Rattle.order_model.specs.declared.note.Note.TheVariants.{Page, Commit}
use Rattle.log_model.specs.Marks.{Transaction}
use Rattle.crash_laws.proofs.Growing.{note_old, note_new, commit_before_old, ordered_old}
use Rattle.crash_laws.proofs.Growth.{unmapped_old}
use Rattle.crash_laws.specs.History.{History, IsEntryOf}
use Rattle.crash_laws.specs.PageRules.{IsPageTo}
use Rattle.crash_laws.specs.Session.{Session}
use Rattle.crash_laws.specs.laws.Submitting.{Submitting, after, new_place, IsCommitted}
use Rattle.host_machine.proofs.ChangeSteps.{IsEntry, extends}
use Rattle.host_machine.proofs.Sends.{page_cases}
use Rattle.host_machine.specs.laws.Facts.{View, Numbers}
use Rattle.host_machine.specs.laws.Reuse.{ReusesFreed, IsTaken, OrderlessCommitted, Owned}

pub record ZoneFacts {A : Type 0} (h : History A) (s : Session) (now : ℕ) (v : View) (owners : List ℕ) (frees : ℕ → ℕ → Bool) : Type 0 where
  -- the commit block of the transaction that freed the zone is there, or the zone waits for it
  pub freed : (e z : ℕ) → frees e z ≡ true → e ≤ now → (k : ℕ) × IsEntryOf h e k × (IsCommitted s k ⊎ (v.quarantine z ≡ Some k))
  pub owned : Owned h now v owners
  pub room : s.journal ≤ length owners
  pub reuses : ReusesFreed h s frees
  pub orderless : OrderlessCommitted h s

-- ---- transactions told anew: the rules speak of requests and notes alone

module _ {A : Type 0} {h : History A} {s : Session} (transactions : ℕ → Transaction) where
  pub reuses_told : {frees : ℕ → ℕ → Bool} → ReusesFreed h s frees → ReusesFreed h (record s { transactions = transactions }) frees
  reuses_told was = record { behind = λ o f i w z e t. was.behind o f i w z e (record { note = t.note; put = t.put }) }

  pub orderless_told : OrderlessCommitted h s → OrderlessCommitted h (record s { transactions = transactions })
  orderless_told was = record { behind = λ o f i w z t. was.behind o f i w z (record { note = t.note; put = t.put }) }

-- ---- one request more

module _ {A : Type 0} {h : History A} {now : ℕ} {v : View} {owners : List ℕ} {frees : ℕ → ℕ → Bool} (p : Submitting) (was : ZoneFacts h p.session now v owners frees) where
  pub freed_pushed : (e z : ℕ) → frees e z ≡ true → e ≤ now → (k : ℕ) × IsEntryOf h e k × (IsCommitted (after p) k ⊎ (v.quarantine z ≡ Some k))
  freed_pushed e z fr le =
      let x = was.freed e z fr le in
      (x.0, x.1, ⊎_elim (λ c. inl (c.0, note_old p c.0 (Commit x.0) c.1)) (λ q. inr q) x.2)

  module _ (other : (f i w : ℕ) → p.note ≡ Page f i w → ⊥) where
    page_was : (o f i w z : ℕ) → IsPageTo (after p) o f i w z → IsPageTo p.session o f i w z
    page_was o f i w z t = ⊎_elim (λ l. l) (λ n. absurd (other f i w n.1)) (page_cases p o f i w z t)

    reuses_other : ReusesFreed h (after p) frees
    reuses_other = record {
      behind = λ o f i w z e t lt fr.
          let x = was.reuses.behind o f i w z e (page_was o f i w z t) lt fr in
          (x.0, x.1, commit_before_old p x.0 o x.2);
    }

    orderless_other : OrderlessCommitted h (after p)
    orderless_other = record {
      behind = λ o f i w z t free.
          let x = was.orderless.behind o f i w z (page_was o f i w z t) (λ ord. free (ordered_old p.session.requests p.request o ord)) in
          (x.0, x.1, x.2, commit_before_old p x.0 o x.3);
    }

    -- that is no page
    pub other_pushed : ZoneFacts h (after p) now v owners frees
    other_pushed = record { freed = freed_pushed; owned = was.owned; room = was.room; reuses = reuses_other; orderless = orderless_other }

    -- The commit block of transaction k, where those below it are there: the zones that wait for it are free then.
    module _ {new : View} (k : ℕ) (commit : p.note ≡ Commit k) (committed : (j : ℕ) → 1 ≤ j → j < k → IsCommitted p.session j)
        (zones : (f i z : ℕ) → new.zone f i ≡ Some z → v.zone f i ≡ Some z) (waits : (j z : ℕ) → k < j → v.quarantine z ≡ Some j → new.quarantine z ≡ Some j) where
      pub commit_pushed : ZoneFacts h (after p) now new owners frees
      commit_pushed = record {
        freed = λ e z fr le. let x = was.freed e z fr le in (x.0, x.1, freed_by e z x.0 x.1 x.2);
        owned = record { owner = λ f i z there. was.owned.owner f i z (zones f i z there) };
        room = was.room;
        reuses = reuses_other;
        orderless = orderless_other;
      }
        where
          freed_by : (e z j : ℕ) → IsEntryOf h e j → IsCommitted p.session j ⊎ (v.quarantine z ≡ Some j) → IsCommitted (after p) j ⊎ (new.quarantine z ≡ Some j)
          freed_by e z j of_j (inl c) = inl (c.0, note_old p c.0 (Commit j) c.1)
          freed_by e z j of_j (inr q) =
              ⊎_elim
              (λ lt. let c = committed j of_j.numbered lt in inl (c.0, note_old p c.0 (Commit j) c.1))
              (λ ge.
              ⊎_elim
              (λ above. inr (waits j z above q))
              (λ le. let same : k ≡ j = omega arith in inl (new_place p, note_new p ∙ ap Some (commit ∙ ap Commit same)))
              (cases_lt k j))
              (cases_lt j k)

-- ---- one entry more

module _ {A : Type 0} {h more : History A} {s : Session} {now r N : ℕ} (entry : IsEntry h more now r) (numbers : Numbers h s now r N) (positive : 1 ≤ r) where
  of_old : (e k : ℕ) → e ≤ now → IsEntryOf h e k → IsEntryOf more e k
  of_old e k le x =
      let above = x.above in
      let within = x.within in
      let some = x.numbered in
      let low : k ≤ r = ⊎_elim (λ lt. let c = numbers.running (k - 1) (omega arith) in absurd (omega arith)) (λ ge. ge) (cases_lt r k) in
      let first = entry.cuts (k - 1) (omega arith) in
      record {
        numbered = x.numbered;
        above = omega arith;
        within = ⊎_elim (λ lt. let c = entry.cuts k lt in omega arith) (λ ge. let c = entry.running k ge in omega arith) (cases_lt k r);
      }

  of_new : IsEntryOf more (now + 1) r
  of_new =
      let first = entry.cuts (r - 1) (omega arith) in
      let low = numbers.cuts (r - 1) in
      let last = entry.running r (omega arith) in
      record { numbered = positive; above = omega arith; within = omega arith }

  taken_within : (f i w k e : ℕ) → w ≤ now → IsTaken h f i w k e → IsTaken more f i w k e
  taken_within f i w k e le x =
      let within = x.within in
      record {
        of_k = of_old e k (omega arith) x.of_k;
        before = entry.maps (e - 1) f i (omega arith) ∙ x.before;
        there = entry.maps e f i (omega arith) ∙ x.there;
        within = within;
        calm = λ m lo hi un. x.calm m lo hi (unmapped_old (extends entry numbers) f i m (omega arith) un);
      }

  taken_on : (f i k e : ℕ) → more.maps (now + 1) f i ≡ true → IsTaken h f i now k e → IsTaken more f i (now + 1) k e
  taken_on f i k e maps x =
      let within = x.within in
      let old = taken_within f i now k e (omega arith) x in
      record {
        of_k = old.of_k;
        before = old.before;
        there = old.there;
        within = omega arith;
        calm = λ m lo hi un.
            ⊎_elim
            (λ lt. old.calm m lo (omega arith) un)
            (λ ge. let same : m ≡ now + 1 = omega arith in false≢true (sym un.after ∙ ap (λ n. more.maps n f i) same ∙ maps))
            (cases_lt m (now + 1));
      }

  taken_now : (f i : ℕ) → h.maps now f i ≡ false → more.maps (now + 1) f i ≡ true → IsTaken more f i (now + 1) r (now + 1)
  taken_now f i none maps =
      let before : now + 1 - 1 ≡ now = omega arith in
      record {
        of_k = of_new;
        before = ap (λ n. more.maps n f i) before ∙ entry.maps now f i (omega arith) ∙ none;
        there = maps;
        within = omega arith;
        calm = λ m lo hi un. absurd (omega arith);
      }

  -- a block of a file keeps its zone and the zone its owner; or it is new, and this transaction takes the zone
  abbrev pub KeepsOwner : View → View → List ℕ → List ℕ → ℕ → ℕ → ℕ → Type 0
  KeepsOwner old new owners next f i z =
      ((old.zone f i ≡ Some z) × (slice_index_or next z 0 ≡ slice_index_or owners z 0)) ⊎ ((h.maps now f i ≡ false) × (slice_index_or next z 0 ≡ r))

  module _ {old new : View} {owners next : List ℕ} {frees : ℕ → ℕ → Bool} (mapped : (f i z : ℕ) → new.zone f i ≡ Some z → more.maps (now + 1) f i ≡ true)
      (keeps : (f i z : ℕ) → new.zone f i ≡ Some z → KeepsOwner old new owners next f i z)
      (waits : (z k : ℕ) → old.quarantine z ≡ Some k → new.quarantine z ≡ Some k)
      (frees_now : (z : ℕ) → frees (now + 1) z ≡ true → new.quarantine z ≡ Some r)
      (long : length next ≡ length owners) (was : ZoneFacts h s now old owners frees) where
    pub entry_pushed : ZoneFacts more s (now + 1) new next frees
    entry_pushed = record {
      freed = λ e z fr le.
          ⊎_elim
          (λ lt.
          let x = was.freed e z fr (omega arith) in
          (x.0, of_old e x.0 (omega arith) x.1, ⊎_elim (λ c. inl c) (λ q. inr (waits z x.0 q)) x.2))
          (λ ge.
          let same : e ≡ now + 1 = omega arith in
          (r, subst (λ n. IsEntryOf more n r) (sym same) of_new, inr (frees_now z (ap (λ n. frees n z) (sym same) ∙ fr))))
          (cases_lt e (now + 1));
      owned = record { owner = λ f i z there. owner_of f i z there (keeps f i z there) };
      room = let x = was.room in omega arith;
      reuses = record {
        behind = λ o f i w z e t lt fr.
            let low = numbers.versions o f i w t.note in
            let x = was.reuses.behind o f i w z e t lt fr in
            (x.0, of_old e x.0 (omega arith) x.1, x.2);
      };
      orderless = record {
        behind = λ o f i w z t free.
            let low = numbers.versions o f i w t.note in
            let x = was.orderless.behind o f i w z t free in
            (x.0, x.1, taken_within f i w x.0 x.1 low x.2, x.3);
      };
    }
      where
        owner_of : (f i z : ℕ) → new.zone f i ≡ Some z → KeepsOwner old new owners next f i z → (e : ℕ) × IsTaken more f i (now + 1) (slice_index_or next z 0) e
        owner_of f i z there (inl k) =
            let x = was.owned.owner f i z k.0 in
            (x.0, subst (λ j. IsTaken more f i (now + 1) j x.0) (sym k.1) (taken_on f i (slice_index_or owners z 0) x.0 (mapped f i z there) x.1))
        owner_of f i z there (inr n) = (now + 1, subst (λ j. IsTaken more f i (now + 1) j (now + 1)) (sym n.1) (taken_now f i n.0 (mapped f i z there)))
