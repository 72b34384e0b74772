-- The promises of barrier and sync calls.
use Rattle.std.specs.Prelude.{◌≡◌, ℕ, zero, suc, ◌-◌, ◌<◌, ◌≤◌, ◌⊎◌, Bool, true, false, List, refl}
use Rattle.std.proofs.Common.{sym, ap, subst, inl, inr, ⊎_elim, arith}
use Rattle.std.proofs.lemmas.Bool.{cases_lt, false≢true}
use Rattle.blk_base.specs.Members.{In}
use Rattle.order_model.specs.declared.completion.Completion.{Completion}
use Rattle.order_model.specs.OrderClosed.{IsKept, IsOrderClosed, KeepsFlushed}
use Rattle.volume_ops.specs.Reads.{Reads}
use Rattle.crash_laws.specs.Found.{IsFound}
use Rattle.crash_laws.specs.History.{History, IsUnmapped, Calm, HasTrees}
use Rattle.crash_laws.specs.Ordering.{IsOrderedPut}
use Rattle.crash_laws.specs.PageRules.{PageOrder}
use Rattle.crash_laws.specs.PromiseRules.{IsSuperseded, AreHeld, KeepsBarrier, KeepsSync, IsSettled, IsLaterKept}
use Rattle.crash_laws.specs.Rules.{OrderRules}
use Rattle.crash_laws.specs.Session.{Session, Medium, IsCommit}
use Rattle.crash_laws.proofs.Commits.{commit_is_log, log_is_firm}
use Rattle.crash_laws.proofs.Histories.{calm_within, stays_mapped, cuts_rise}
use Rattle.crash_laws.proofs.Ordering.{before_kept_is_kept}
use Rattle.crash_laws.proofs.Pages.{page_stays}

-- ---- an unmapping in between, or none

unmapped_at : (b a : Bool) → ((b ≡ true) × (a ≡ false)) ⊎ ((b ≡ true) × (a ≡ false) → ⊥)
unmapped_at true false = inl (refl, refl)
unmapped_at true true = inr (λ e. false≢true (sym e.1))
unmapped_at false a = inr (λ e. false≢true e.0)

pub superseded_or_calm : {A : Type 0} (h : History A) (f i n b : ℕ) → IsSuperseded h f i n b ⊎ Calm h f i n b
superseded_or_calm h f i n zero = inr (λ m lo hi un. absurd (omega arith))
superseded_or_calm h f i n (suc b) =
    ⊎_elim
    (λ s. let hi = s.within in inl (record { entry = s.entry; later = s.later; within = omega arith; unmapped = s.unmapped }))
    (λ calm.
    ⊎_elim
    (λ lt.
    ⊎_elim
    (λ un. inl (record { entry = suc b; later = lt; within = omega arith; unmapped = record { before = un.0; after = un.1 } }))
    (λ none. inr (λ m lo hi un.
    ⊎_elim (λ below. calm m lo (omega arith) un)
    (λ top. let e : m ≡ suc b = omega arith in let here = subst (IsUnmapped h f i) e un in none (here.before, here.after))
    (cases_lt m (suc b))))
    (unmapped_at (h.maps (suc b - 1) f i) (h.maps (suc b) f i)))
    (λ ge. inr (λ m lo hi un. absurd (omega arith)))
    (cases_lt n (suc b)))
    (superseded_or_calm h f i n b)

module _ {A : Type 0} {program : Reads A} {h : History A} {s : Session} {m : Medium} {F : ℕ} (rules : OrderRules program s) (trees : HasTrees h) (pages : PageOrder program h s)
    (closed : IsOrderClosed s.base s.requests m.image m.origins) (is_found : IsFound s m F) where
  module _ {Good : ℕ → Type 0} {Pair : ℕ → ℕ → ℕ → Type 0} {Metadata : ℕ → Type 0} (held : AreHeld h s Good Pair Metadata) (kept : (i : ℕ) → IsOrderedPut s.requests i → Good i → IsKept s.requests m.origins i) where
    commit_within : (k c : ℕ) → IsCommit s k c → Good c → k ≤ F
    commit_within k c commit good = is_found.reached k c commit (kept c (log_is_firm s rules.fits k c (commit_is_log s k c commit)) good)

    K_within : h.cut held.K ≤ h.cut F
    K_within =
        cuts_rise trees held.K F
        (⊎_elim (λ z. omega arith) (λ c. commit_within held.K c.0 c.1 c.2) held.commit)

    -- A covered pair survived or was superseded.
    pub pair_survives : (f i n : ℕ) → Pair f i n → IsSettled program h s m F f i n
    pair_survives f i n pair =
        ⊎_elim
        inr
        (λ calm.
        let up = K_within in
        ⊎_elim
        (λ gone. let hi = gone.within in absurd (calm gone.entry gone.later (omega arith) gone.unmapped))
        (λ c.
        let later = c.later in
        let quiet : Calm h f i (h.cut held.K) (h.cut F) =
        λ e lo hi un. ⊎_elim (λ le. c.calm e lo le un) (λ above. calm e (omega arith) hi un) (order e c.version) in
        let there = stays_mapped f i (h.cut held.K) (h.cut F) up quiet c.mapped in
        let to = rules.fits.page c.place f i c.version c.note in
        let alive = kept c.place (record { put = (to.0, to.1); ordered = c.ordered }) c.good in
        let t = page_stays rules trees pages closed is_found c.place f i c.version c.note alive there
        (calm_within f i n c.version (h.cut F) (h.cut F) calm later (omega arith))
        (calm_within f i (h.cut held.K) (h.cut F) c.version c.version c.calm up (omega arith)) in
        let more = t.later in
        inl (there, record { version = t.version; mapped = t.mapped; source = t.source; body = t.body; later = omega arith; low = t.low }))
        (held.pairs f i n pair))
        (superseded_or_calm h f i n (h.cut F))
      where
        order : (a b : ℕ) → (a ≤ b) ⊎ (b < a)
        order a b = ⊎_elim (λ lt. inr lt) (λ le. inl le) (cases_lt b a)

    -- Covered metadata survived.
    pub metadata_survives : (n : ℕ) → Metadata n → n ≤ h.cut F
    metadata_survives n covered =
        let x = held.metadata n covered in
        let rise = cuts_rise trees x.0 F (commit_within x.0 x.1 x.2 x.3) in
        let le = x.4 in
        omega arith

  -- ---- barrier calls

  module _ {e : ℕ} {Pair : ℕ → ℕ → ℕ → Type 0} {Metadata : ℕ → Type 0} (barrier : KeepsBarrier h s e Pair Metadata) (later : IsLaterKept h s m F e) where
    later_put : (j : ℕ) × (barrier.barrier < j) × IsKept s.requests m.origins j
    later_put =
        ⊎_elim
        (λ p. (p.0, barrier.pages p.0 p.1 p.2 p.3 p.4 p.5, p.6))
        (λ cut.
        let pos : 1 ≤ F = ⊎_elim (λ p. p) (λ z. let q : F ≡ 0 = omega arith in let same = ap h.cut q in let none = trees.first in absurd (omega arith)) (cases_lt 0 F) in
        let c = is_found.there F pos (omega arith) in
        (c.0, barrier.commits F c.0 c.1 cut, c.2))
        later

    kept_by_barrier : (i : ℕ) → IsOrderedPut s.requests i → i ≤ barrier.barrier → IsKept s.requests m.origins i
    kept_by_barrier i firm le =
        before_kept_is_kept closed i later_put.0 firm (barrier.barrier, le, later_put.1, barrier.fence) later_put.2

    -- Where a write made after a barrier call's Ok survived, all that the call covers survived or was superseded.
    pub barrier_promise : (f i n : ℕ) → Pair f i n → IsSettled program h s m F f i n
    barrier_promise f i n pair = pair_survives barrier.held kept_by_barrier f i n pair

    pub barrier_promise_metadata : (n : ℕ) → Metadata n → n ≤ h.cut F
    barrier_promise_metadata n covered = metadata_survives barrier.held kept_by_barrier n covered

  -- ---- sync calls

  module _ {taken : List Completion} (sent : List Completion) {Pair : ℕ → ℕ → ℕ → Type 0} {Metadata : ℕ → Type 0} (sync : KeepsSync h s taken Pair Metadata)
      (fit : (c : Completion) → In c taken → In c sent) (flushed : KeepsFlushed s.requests m.origins sent) where
    kept_by_flush : (i : ℕ) → IsOrderedPut s.requests i → i < sync.flush → IsKept s.requests m.origins i
    kept_by_flush i firm lt = flushed sync.flush i (fit _ sync.flushed) lt firm.put

    -- All that a sync call with Ok covers survived or was superseded.
    pub sync_promise : (f i n : ℕ) → Pair f i n → IsSettled program h s m F f i n
    sync_promise f i n pair = pair_survives sync.held kept_by_flush f i n pair

    pub sync_promise_metadata : (n : ℕ) → Metadata n → n ≤ h.cut F
    sync_promise_metadata n covered = metadata_survives sync.held kept_by_flush n covered
