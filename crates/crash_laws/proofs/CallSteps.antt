-- A begun barrier or sync call: what is kept of its pairs from the end of its list to its answer.
use Rattle.std.specs.Prelude.{◌≡◌, ℕ, zero, suc, ◌+◌, ◌-◌, ◌<◌, ◌≤◌, ◌⊎◌, true, List}
use Rattle.std.proofs.Common.{sym, ap, ◌∙◌, inl, inr, ⊎_elim, arith}
use Rattle.std.proofs.lemmas.Bool.{cases_lt, false≢true}
use Rattle.blk_base.specs.Members.{In}
use Rattle.blk_base.specs.laws.Members.{slice_get-length}
use Rattle.order_model.specs.declared.completion.Completion.{Completion}
use Rattle.order_model.specs.declared.completion.Completion.TheVariants.{Flushed}
use Rattle.order_model.specs.declared.note.Note.TheVariants.{Page, Commit}
use Rattle.crash_laws.specs.laws.CallFacts.{IsDone, IsUnchangedSince, IsGoodFor}
use Rattle.crash_laws.specs.History.{History, Calm, HasTrees}
use Rattle.crash_laws.specs.PromiseRules.{AreHeld, KeepsSync}
use Rattle.crash_laws.specs.Session.{Session, HasNote, IsCommit}
use Rattle.crash_laws.specs.laws.Submitting.{Submitting, after}
use Rattle.crash_laws.proofs.Growing.{note_old, note_cases, ordered_old}
use Rattle.crash_laws.proofs.Histories.{stays_mapped}
use Rattle.crash_laws.proofs.Promises.{superseded_or_calm}

calm_unchanged : {A : Type 0} (h : History A) (f i c now : ℕ) → IsUnchangedSince h f c now → Calm h f i c now
calm_unchanged h f i c now same m lo hi un = false≢true (sym un.after ∙ same i m lo hi ∙ un.before)

mapped_before : {A : Type 0} (h : History A) (f i c d : ℕ) → ((m : ℕ) → c < m → m ≤ c + d → h.maps m f i ≡ h.maps (m - 1) f i) → h.maps (c + d) f i ≡ h.maps c f i
mapped_before h f i c zero same = let e : c + zero ≡ c = omega arith in ap (λ n. h.maps n f i) e
mapped_before h f i c (suc d) same =
    let e : c + suc d - 1 ≡ c + d = omega arith in
    same (c + suc d) (omega arith) (omega arith) ∙ ap (λ n. h.maps n f i) e ∙ mapped_before h f i c d (λ m lo hi. same m lo (omega arith))

module _ {A : Type 0} {h : History A} {s : Session} (trees : HasTrees h) where
  -- A pair that is done is good for each closed transaction behind which the file did not change. With the cut
  -- at the last entry, nothing is asked of the file: so a transaction that closes keeps what is done.
  pub done_is_good : (Good : ℕ → Type 0) (K now f i n : ℕ) → h.writes n f i ≡ true → n ≤ now → h.cut K ≤ now → ((o g j v : ℕ) → HasNote s o (Page g j v) → v ≤ now) → IsUnchangedSince h f (h.cut K) now
      → IsDone h s Good now f i n → IsGoodFor h s Good K f i n
  done_is_good Good K now f i n wrote in_time cut versions same (inr gone) =
      ⊎_elim
      (λ late. absurd (calm_unchanged h f i (h.cut K) now same gone.entry late gone.within gone.unmapped))
      (λ early. inl (record { entry = gone.entry; later = gone.later; within = early; unmapped = gone.unmapped }))
      (cases_lt (h.cut K) gone.entry)
  done_is_good Good K now f i n wrote in_time cut versions same (inl sent) =
      ⊎_elim inl
      (λ calm.
      let there = trees.written f i n wrote in
      let mapped : h.maps (h.cut K) f i ≡ true =
      ⊎_elim
      (λ late.
      let e : h.cut K + (n - h.cut K) ≡ n = omega arith in
      sym (sym (ap (λ k. h.maps k f i) e) ∙ mapped_before h f i (h.cut K) (n - h.cut K) (λ m lo hi. same i m lo (omega arith))) ∙ there)
      (λ early. stays_mapped f i n (h.cut K) early calm there)
      (cases_lt (h.cut K) n) in
      let le = versions sent.place f i sent.version sent.note in
      inr (record {
        place = sent.place;
        version = sent.version;
        note = sent.note;
        ordered = sent.ordered;
        good = sent.good;
        later = sent.later;
        mapped = mapped;
        calm = λ m lo hi un. calm_unchanged h f i (h.cut K) now same m lo (omega arith) un;
      }))
      (superseded_or_calm h f i n (h.cut K))

-- ---- one request more

module _ {A : Type 0} {h : History A} (p : Submitting) where
  pub good_pushed : (T f i n : ℕ) → IsGoodFor h p.session (λ o. (c : ℕ) → IsCommit p.session T c → o < c) T f i n → IsGoodFor h (after p) (λ o. (c : ℕ) → IsCommit (after p) T c → o < c) T f i n
  good_pushed T f i n (inl gone) = inl gone
  good_pushed T f i n (inr c) =
      let lt = slice_get-length p.session.notes c.place (Page f i c.version) c.note in
      inr (record {
        place = c.place;
        version = c.version;
        note = note_old p c.place (Page f i c.version) c.note;
        ordered = ordered_old p.session.requests p.request c.place c.ordered;
        good = λ k g. ⊎_elim (λ o. c.good k o) (λ m. let at = m.0 in omega arith) (note_cases p k (Commit T) g);
        later = c.later;
        mapped = c.mapped;
        calm = c.calm;
      })

-- a good request of one kind is one of another
pub good_for : {A : Type 0} (h : History A) (s : Session) (Good Other : ℕ → Type 0) (K f i n : ℕ) → ((o : ℕ) → Good o → Other o) → IsGoodFor h s Good K f i n → IsGoodFor h s Other K f i n
good_for h s Good Other K f i n of (inl gone) = inl gone
good_for h s Good Other K f i n of (inr c) = inr (record {
  place = c.place;
  version = c.version;
  note = c.note;
  ordered = c.ordered;
  good = of c.place c.good;
  later = c.later;
  mapped = c.mapped;
  calm = c.calm;
})

-- ---- the answer

module _ {A : Type 0} (h : History A) (s : Session) (Pair : ℕ → ℕ → ℕ → Type 0) (Metadata : ℕ → Type 0) where
  -- A call with a target that is committed before B: all is held at or before B. The entries whose metadata it
  -- covers are of transactions up to the target.
  pub held_by_target : (T c b : ℕ) → IsCommit s T c → c ≤ b → ((f i n : ℕ) → Pair f i n → IsGoodFor h s (λ o. (k : ℕ) → IsCommit s T k → o < k) T f i n) → ((n : ℕ) → Metadata n → n ≤ h.cut T)
      → AreHeld h s (λ o. o ≤ b) Pair Metadata
  held_by_target T c b commit le pairs metadata = record {
    K = T;
    commit = inr (c, commit, le);
    pairs = λ f i n pair. good_for h s (λ o. (k : ℕ) → IsCommit s T k → o < k) (λ o. o ≤ b) T f i n (λ o good. let lt = good c commit in omega arith) (pairs f i n pair);
    metadata = λ n x. (T, c, commit, le, metadata n x);
  }

  -- A data call without a target: its pages stand at or before a barrier of its own, and its files did not
  -- change since the last commit block.
  pub held_by_barrier : (N own b now : ℕ) → HasTrees h → (N ≡ 0) ⊎ ((c : ℕ) × IsCommit s N c × (c ≤ b)) → own ≤ b → h.cut N ≤ now → ((o g j v : ℕ) → HasNote s o (Page g j v) → v ≤ now)
      → ((n : ℕ) → Metadata n → ⊥)
      → ((f i n : ℕ) → Pair f i n → (h.writes n f i ≡ true) × (n ≤ now) × IsUnchangedSince h f (h.cut N) now × IsDone h s (λ o. o ≤ own) now f i n)
      → AreHeld h s (λ o. o ≤ b) Pair Metadata
  held_by_barrier N own b now trees commit le cut versions none pairs = record {
    K = N;
    commit = commit;
    pairs = λ f i n pair.
        let x = pairs f i n pair in
        good_for h s (λ o. o ≤ own) (λ o. o ≤ b) N f i n (λ o good. omega arith)
        (done_is_good trees (λ o. o ≤ own) N now f i n x.0 x.1 cut versions x.2 x.3);
    metadata = λ n x. absurd (none n x);
  }

  -- A sync call: what is held up to its need is held below the flush.
  pub held_by_flush : (need flush : ℕ) → need < flush → (taken : List Completion) → In (Flushed flush) taken → AreHeld h s (λ o. o ≤ need) Pair Metadata → KeepsSync h s taken Pair Metadata
  held_by_flush need flush lt taken flushed held = record {
    flush = flush;
    flushed = flushed;
    held = record {
      K = held.K;
      commit = ⊎_elim inl (λ c. let le = c.2 in inr (c.0, c.1, omega arith)) held.commit;
      pairs = λ f i n pair. good_for h s (λ o. o ≤ need) (λ o. o < flush) held.K f i n (λ o good. omega arith) (held.pairs f i n pair);
      metadata = λ n x. let c = held.metadata n x in let le = c.3 in (c.0, c.1, c.2, omega arith, c.4);
    };
  }
