-- The kept commit blocks are those of the first transactions.
use Rattle.std.specs.Prelude.{◌≡◌, ℕ, zero, suc, ◌+◌, ◌-◌, ◌<◌, ◌≤◌, ◌⊎◌, Bool, true, false, List, length, Option, Some, None, slice_get, nat_le, ◌&&◌, if◌then◌else◌, refl}
use Rattle.std.specs.Option.{option_and_then, option_map_or}
use Rattle.std.proofs.Common.{sym, ap, subst, ◌∙◌, inl, inr, ⊎_elim, arith, leb-true, le-leb}
use Rattle.std.proofs.lemmas.Bool.{cases_lt, false≢true}
use Rattle.std.proofs.lemmas.Option.{none-some, same_Some}
use Rattle.blk_base.specs.laws.Members.{slice_get-length}
use Rattle.order_model.specs.declared.request.Request.{Request}
use Rattle.order_model.specs.declared.note.Note.{Note}
use Rattle.order_model.specs.declared.note.Note.TheVariants.{Page, Super, Revoke, Descriptor, Body, Commit, Home, Flush, Raw}
use Rattle.order_model.specs.OrderClosed.{kind_block, IsKept, IsOrderClosed}
use Rattle.crash_laws.specs.Found.{count_below, is_commit, is_kept, is_kept_commit, found, IsFound}
use Rattle.crash_laws.specs.Ordering.{IsOrderedPut}
use Rattle.crash_laws.specs.Rules.{FitsNotes, CommitOrder, is_page_or_flush}
use Rattle.crash_laws.specs.Session.{Session, Medium, HasNote, log_transaction, IsLog, IsCommit, CommitBefore}
use Rattle.crash_laws.proofs.Ordering.{barrier_before_kept}

-- ---- the test says what is kept

kept_block : (requests : List Request) (origins : List (Option ℕ)) (i : ℕ) (b : Option ℕ) → option_and_then (λ (r : Request). kind_block r.kind) (slice_get requests i) ≡ b
    → option_map_or (λ o. nat_le i o) (option_and_then (λ (o : Option ℕ). o) (option_and_then (λ c. slice_get origins c) b)) false ≡ true → IsKept requests origins i
kept_block requests origins i None e t = absurd (false≢true t)
kept_block requests origins i (Some b) e t = at_origin (slice_get origins b) refl t
  where
    at_origin : (o : Option (Option ℕ)) → slice_get origins b ≡ o → option_map_or (λ p. nat_le i p) (option_and_then (λ (p : Option ℕ). p) o) false ≡ true → IsKept requests origins i
    at_origin None h u = absurd (false≢true u)
    at_origin (Some None) h u = absurd (false≢true u)
    at_origin (Some (Some o)) h u = record { block = b; put = e; origin = o; held = h; later = leb-true i o u }

pub is_kept-kept : (requests : List Request) (origins : List (Option ℕ)) (i : ℕ) → is_kept requests origins i ≡ true → IsKept requests origins i
is_kept-kept requests origins i t = kept_block requests origins i _ refl t

pub kept-is_kept : (requests : List Request) (origins : List (Option ℕ)) (i : ℕ) → IsKept requests origins i → is_kept requests origins i ≡ true
kept-is_kept requests origins i kept =
    ap (λ b. option_map_or (λ o. nat_le i o) (option_and_then (λ (o : Option ℕ). o) (option_and_then (λ c. slice_get origins c) b)) false) kept.put
    ∙ ap (λ x. option_map_or (λ o. nat_le i o) (option_and_then (λ (o : Option ℕ). o) x) false) kept.held
    ∙ le-leb i kept.origin kept.later

-- ---- notes of the log

log_case : (k : ℕ) (o : Option Note) → option_and_then log_transaction o ≡ Some k → (n : Note) × (o ≡ Some n) × (log_transaction n ≡ Some k)
log_case k None e = absurd (none-some k e)
log_case k (Some n) e = (n, refl, e)

pub log_note : (s : Session) (k i : ℕ) → IsLog s k i → (n : Note) × HasNote s i n × (log_transaction n ≡ Some k)
log_note s k i h = log_case k (slice_get s.notes i) h

pub note_log : (s : Session) (k i : ℕ) (n : Note) → HasNote s i n → log_transaction n ≡ Some k → IsLog s k i
note_log s k i n h e = ap (option_and_then log_transaction) h ∙ e

pub commit_is_log : (s : Session) (k i : ℕ) → IsCommit s k i → IsLog s k i
commit_is_log s k i h = ap (option_and_then log_transaction) h

log_is_ordered : (n : Note) (k : ℕ) → log_transaction n ≡ Some k → is_page_or_flush n ≡ false
log_is_ordered (Page f x v) k e = absurd (none-some k e)
log_is_ordered Super k e = absurd (none-some k e)
log_is_ordered (Revoke t) k e = refl
log_is_ordered (Descriptor t) k e = refl
log_is_ordered (Body t b) k e = refl
log_is_ordered (Commit t) k e = refl
log_is_ordered (Home b) k e = absurd (none-some k e)
log_is_ordered Flush k e = absurd (none-some k e)
log_is_ordered Raw k e = absurd (none-some k e)

pub log_is_firm : (s : Session) → FitsNotes s → (k i : ℕ) → IsLog s k i → IsOrderedPut s.requests i
log_is_firm s fits k i h =
    let n = log_note s k i h in
    let p = fits.log k i h in
    record { put = (s.journal + p.0, p.2); ordered = fits.ordered i n.0 n.1 (log_is_ordered n.0 k n.2) }

commit_or_not : (n : Note) → ((k : ℕ) × (n ≡ Commit k)) ⊎ (is_commit n ≡ false)
commit_or_not (Commit k) = inl (k, refl)
commit_or_not other = inr refl

same_commit : (k l : ℕ) → Commit k ≡ Commit l → k ≡ l
same_commit k l e = cc

pub one_commit : (s : Session) (k l i : ℕ) → IsCommit s k i → IsCommit s l i → k ≡ l
one_commit s k l i h g = same_commit k l (same_Some (Commit k) (Commit l) (sym h ∙ g))

-- ---- commit blocks stand in order

module _ {s : Session} (order : CommitOrder s) where
  pub commit_positive : (k i : ℕ) → IsCommit s k i → 1 ≤ k
  commit_positive k i h = order.numbered k i (commit_is_log s k i h)

  commits_below : (d j i : ℕ) → IsCommit s (j + d) i → 1 ≤ j → (c : ℕ) × IsCommit s j c × (c ≤ i)
  commits_below zero j i h pos = let e : j + zero ≡ j = omega arith in (i, subst (λ k. IsCommit s k i) e h, omega arith)
  commits_below (suc d) j i h pos =
      let e : j + suc d ≡ j + d + 1 = omega arith in
      let b = order.behind (j + d) i (subst (λ k. IsLog s k i) e (commit_is_log s (j + suc d) i h)) (omega arith) in
      let r = commits_below d j b.0 b.1 pos in
      let lt = b.2 in
      let le = r.2 in
      (r.0, r.1, omega arith)

  -- the commit block of an earlier transaction stands at or before that of a later one
  pub commit_below : (j k i : ℕ) → IsCommit s k i → 1 ≤ j → j ≤ k → (c : ℕ) × IsCommit s j c × (c ≤ i)
  commit_below j k i h pos le =
      let e : k ≡ j + (k - j) = omega arith in
      commits_below (k - j) j i (subst (λ l. IsCommit s l i) e h) pos

  pub commits_rise : (j k c i : ℕ) → IsCommit s j c → IsCommit s k i → j ≤ k → c ≤ i
  commits_rise j k c i hj hk le =
      let b = commit_below j k i hk (commit_positive j c hj) le in
      let same = order.once j c b.0 hj b.1 in
      let at = b.2 in
      omega arith

-- ---- which of them are kept

module _ {s : Session} {m : Medium} (closed : IsOrderClosed s.base s.requests m.image m.origins) (fits : FitsNotes s) (order : CommitOrder s) where
  -- the commit block before one that is kept, or before any other kept put, is kept
  pub commit_before_kept : (k c j : ℕ) → IsCommit s k c → c < j → IsKept s.requests m.origins j → IsKept s.requests m.origins c
  commit_before_kept k c j h lt kept =
      barrier_before_kept closed c j (log_is_firm s fits k c (commit_is_log s k c h)) (order.barrier k c h) lt kept

  -- what is counted among the first n requests
  record Counted (n : ℕ) : Type 0 where
    top : ℕ
    within : (k i : ℕ) → IsCommit s k i → i < n → k ≤ top
    there : (k : ℕ) → 1 ≤ k → k ≤ top → (i : ℕ) × IsCommit s k i × (i < n)
    few : count_below (is_kept_commit s m) n ≤ top
    kept : (k i : ℕ) → IsCommit s k i → k ≤ count_below (is_kept_commit s m) n → i < n → IsKept s.requests m.origins i
    lost : (k i : ℕ) → IsCommit s k i → i < n → IsKept s.requests m.origins i → k ≤ count_below (is_kept_commit s m) n

  -- one request more, by its note and by the test
  step_other : (n : ℕ) → Counted n → ((k : ℕ) → IsCommit s k n → ⊥) → count_below (is_kept_commit s m) (suc n) ≡ count_below (is_kept_commit s m) n → Counted (suc n)
  step_other n old none same = record {
    top = old.top;
    within = λ k i h lt. ⊎_elim (λ l. old.within k i h l) (λ l. absurd (none k (subst (IsCommit s k) (let e : i ≡ n = omega arith in e) h))) (cases_lt i n);
    there = λ k pos le. let o = old.there k pos le in let lt = o.2 in (o.0, o.1, omega arith);
    few = let f = old.few in omega arith;
    kept = λ k i h le lt. ⊎_elim (λ l. old.kept k i h (omega arith) l) (λ l. absurd (none k (subst (IsCommit s k) (let e : i ≡ n = omega arith in e) h))) (cases_lt i n);
    lost = λ k i h lt kept. ⊎_elim (λ l. let r = old.lost k i h l kept in omega arith) (λ l. absurd (none k (subst (IsCommit s k) (let e : i ≡ n = omega arith in e) h))) (cases_lt i n);
  }

  -- the number of the next commit block
  next_is : (n j : ℕ) (old : Counted n) → IsCommit s j n → j ≡ old.top + 1
  next_is n j old h =
      let pos = commit_positive order j n h in
      let above : old.top < j = ⊎_elim (λ l. l) (λ le. let o = old.there j pos le in let same = order.once j n o.0 h o.1 in let lt = o.2 in absurd (omega arith)) (cases_lt old.top j) in
      ⊎_elim
      (λ more.
      let e : j ≡ (j - 1) + 1 = omega arith in
      let b = order.behind (j - 1) n (subst (λ k. IsLog s k n) e (commit_is_log s j n h)) (omega arith) in
      let w = old.within (j - 1) b.0 b.1 b.2 in
      omega arith)
      (λ le. omega arith)
      (cases_lt 1 j)

  step_commit : (n j : ℕ) (old : Counted n) → IsCommit s j n → (t : Bool) → is_kept s.requests m.origins n ≡ t
      → count_below (is_kept_commit s m) (suc n) ≡ (if t then suc (count_below (is_kept_commit s m) n) else count_below (is_kept_commit s m) n) → Counted (suc n)
  step_commit n j old h true e same =
      let next = next_is n j old h in
      let here = is_kept-kept s.requests m.origins n e in
      let all : old.top ≤ count_below (is_kept_commit s m) n =
      ⊎_elim (λ pos. let o = old.there old.top pos (omega arith) in old.lost old.top o.0 o.1 o.2 (commit_before_kept old.top o.0 n o.1 o.2 here)) (λ z. omega arith) (cases_lt 0 old.top) in
      let f = old.few in
      record {
        top = old.top + 1;
        within = λ k i g lt. ⊎_elim (λ l. let w = old.within k i g l in omega arith) (λ l. let q = one_commit s k j n (subst (IsCommit s k) (let e : i ≡ n = omega arith in e) g) h in omega arith) (cases_lt i n);
        there = λ k pos le. ⊎_elim (λ l. let o = old.there k pos (omega arith) in let lt = o.2 in (o.0, o.1, omega arith)) (λ l. (n, subst (λ q. IsCommit s q n) (let q : j ≡ k = omega arith in q) h, omega arith)) (cases_lt k (old.top + 1));
        few = omega arith;
        kept = λ k i g le lt. commit_kept_at k i g (omega arith);
        lost = λ k i g lt kept. ⊎_elim (λ l. let w = old.within k i g l in omega arith) (λ l. let q = one_commit s k j n (subst (IsCommit s k) (let e : i ≡ n = omega arith in e) g) h in omega arith) (cases_lt i n);
      }
    where
      commit_kept_at : (k i : ℕ) → IsCommit s k i → i < suc n → IsKept s.requests m.origins i
      commit_kept_at k i g lt =
          ⊎_elim
          (λ l. commit_before_kept k i n g l (is_kept-kept s.requests m.origins n e))
          (λ l. subst (IsKept s.requests m.origins) (let q : n ≡ i = omega arith in q) (is_kept-kept s.requests m.origins n e))
          (cases_lt i n)
  step_commit n j old h false e same =
      let next = next_is n j old h in
      let f = old.few in
      record {
        top = old.top + 1;
        within = λ k i g lt. ⊎_elim (λ l. let w = old.within k i g l in omega arith) (λ l. let q = one_commit s k j n (subst (IsCommit s k) (let e : i ≡ n = omega arith in e) g) h in omega arith) (cases_lt i n);
        there = λ k pos le. ⊎_elim (λ l. let o = old.there k pos (omega arith) in let lt = o.2 in (o.0, o.1, omega arith)) (λ l. (n, subst (λ q. IsCommit s q n) (let q : j ≡ k = omega arith in q) h, omega arith)) (cases_lt k (old.top + 1));
        few = omega arith;
        kept = λ k i g le lt. ⊎_elim (λ l. old.kept k i g (omega arith) l) (λ l. let q = one_commit s k j n (subst (IsCommit s k) (let e : i ≡ n = omega arith in e) g) h in absurd (omega arith)) (cases_lt i n);
        lost = λ k i g lt kept. ⊎_elim (λ l. let w = old.lost k i g l kept in omega arith) (λ l. absurd (false≢true (sym e ∙ kept-is_kept s.requests m.origins n (subst (IsKept s.requests m.origins) (let q : i ≡ n = omega arith in q) kept)))) (cases_lt i n);
      }

  counted_by : (n : ℕ) (o : Option Note) → slice_get s.notes n ≡ o → count_below (is_kept_commit s m) (suc n)
      ≡ (if option_map_or is_commit o false && is_kept s.requests m.origins n then suc (count_below (is_kept_commit s m) n) else count_below (is_kept_commit s m) n)
  counted_by n o e = ap (λ x. if option_map_or is_commit x false && is_kept s.requests m.origins n then suc (count_below (is_kept_commit s m) n) else count_below (is_kept_commit s m) n) e

  step_note : (n : ℕ) (o : Option Note) → slice_get s.notes n ≡ o → Counted n → Counted (suc n)
  step_note n None e old =
      step_other n old (λ k h. none-some (Commit k) (sym e ∙ h)) (counted_by n None e)
  step_note n (Some note) e old =
      ⊎_elim
      (λ c.
      let at = e ∙ ap Some c.1 in
      step_commit n c.0 old at (is_kept s.requests m.origins n) refl (counted_by n (Some (Commit c.0)) at))
      (λ other.
      step_other n old (λ k h. false≢true (sym other ∙ ap is_commit (same_Some note (Commit k) (sym e ∙ h))))
      (counted_by n (Some note) e ∙ ap (λ t. if t && is_kept s.requests m.origins n then suc (count_below (is_kept_commit s m) n) else count_below (is_kept_commit s m) n) other))
      (commit_or_not note)

  counted : (n : ℕ) → Counted n
  counted zero = record {
    top = 0;
    within = λ k i h lt. absurd (omega arith);
    there = λ k pos le. absurd (omega arith);
    few = omega arith;
    kept = λ k i h le lt. absurd (omega arith);
    lost = λ k i h lt kept. absurd (omega arith);
  }
  counted (suc n) = step_note n (slice_get s.notes n) refl (counted n)

  -- The kept commit blocks are those of transactions 1 to `found`.
  pub kept_commits_are_prefix : IsFound s m (found s m)
  kept_commits_are_prefix =
      let all = counted (length s.notes) in
      let few = all.few in
      record {
        reached = λ k i h kept. all.lost k i h (slice_get-length s.notes i (Commit k) h) kept;
        there = λ k pos le. let o = all.there k pos (omega arith) in (o.0, o.1, all.kept k o.0 o.1 le o.2);
      }

-- ---- reach

module _ {s : Session} {m : Medium} (closed : IsOrderClosed s.base s.requests m.image m.origins) (fits : FitsNotes s) (order : CommitOrder s) {F : ℕ} (is_found : IsFound s m F) where
  -- a commit block before a kept put is that of a transaction up to F
  pub reached_by_kept : (k j : ℕ) → CommitBefore s k j → IsKept s.requests m.origins j → k ≤ F
  reached_by_kept k j c kept =
      is_found.reached k c.0 c.1 (commit_before_kept closed fits order k c.0 j c.1 c.2 kept)
