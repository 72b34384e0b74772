-- A begun call gets its target or its need, its transaction is closed and committed, and it is answered.
use Rattle.std.proofs.Common.{sym, ap, subst, ◌∙◌, inl, inr, ⊎_elim, arith}
use Rattle.std.proofs.lemmas.Bool.{cases_Bool, cases_lt, false≢true}
use Rattle.std.proofs.lemmas.Option.{none-some, same_Some}
use Rattle.std.specs.Prelude.{◌≡◌, ℕ, zero, suc, ◌+◌, ◌-◌, ◌<◌, ◌≤◌, ◌⊎◌, true, false, not, List, Some, None, if◌then◌else◌}
use Rattle.blk_base.specs.Members.{In}
use Rattle.order_model.specs.OrderClosed.{IsFence}
use Rattle.order_model.specs.declared.completion.Completion.TheVariants.{Flushed}
use Rattle.order_model.specs.declared.completion.Completion.{Completion}
use Rattle.order_model.specs.declared.note.Note.TheVariants.{Page}
use Rattle.page_cache.specs.declared.cached_page.CachedPage.{CachedPage}
use Rattle.crash_laws.proofs.PromiseSteps.{barrier_at_end}
use Rattle.crash_laws.specs.laws.CallFacts.{IsSent, IsDone}
use Rattle.crash_laws.specs.History.{History, Calm, HasTrees}
use Rattle.crash_laws.specs.PromiseRules.{IsSuperseded, KeepsBarrier, KeepsSync, IsOn, Covers, CoversEntry}
use Rattle.crash_laws.specs.Rules.{CommitOrder}
use Rattle.crash_laws.specs.Session.{Session, HasNote, IsCommit}
use Rattle.host_machine.specs.State.{Begun}
use Rattle.flush_actor.specs.Kinds.{is_data, is_whole}
use Rattle.flush_actor.specs.declared.call_kind.CallKind.{CallKind}
use Rattle.flush_actor.specs.declared.call_kind.CallKind.TheVariants.{DataBarrier, DataSync}
use Rattle.flush_actor.specs.declared.wait.Wait.{Wait}
use Rattle.host_machine.specs.laws.Facts.{Numbers}
use Rattle.host_machine.proofs.RunsLemmas.CallSteps.{mapped_or_gone, later_bound}
use Rattle.host_machine.specs.runs.Promises.{call_of}
use Rattle.host_machine.specs.runs.laws.CallFacts.{Anywhere, IsGoodFor, IsHeldAt, IsBehindTarget, CallFacts}

-- ---- a stretch of the history in which the file was not changed

-- no entry behind a up to now changed the file
abbrev pub IsQuiet : {A : Type 0} → History A → ℕ → ℕ → ℕ → Type 0
IsQuiet h f a now = (i m : ℕ) → a < m → m ≤ now → h.maps m f i ≡ h.maps (m - 1) f i

pub quiet_calm : {A : Type 0} (h : History A) (f i a now : ℕ) → IsQuiet h f a now → Calm h f i a now
quiet_calm h f i a now quiet m lo hi un = false≢true (sym un.after ∙ quiet i m lo hi ∙ un.before)

quiet_maps_by : {A : Type 0} (h : History A) (f i a d : ℕ) → IsQuiet h f a (a + d) → h.maps (a + d) f i ≡ h.maps a f i
quiet_maps_by h f i a zero quiet = let e : a + zero ≡ a = omega arith in ap (λ n. h.maps n f i) e
quiet_maps_by h f i a (suc d) quiet =
    let e : a + suc d - 1 ≡ a + d = omega arith in
    quiet i (a + suc d) (omega arith) (omega arith) ∙ ap (λ n. h.maps n f i) e ∙ quiet_maps_by h f i a d (λ j m lo hi. quiet j m lo (omega arith))

pub quiet_maps : {A : Type 0} (h : History A) (f i a now : ℕ) → a ≤ now → IsQuiet h f a now → h.maps now f i ≡ h.maps a f i
quiet_maps h f i a now le quiet =
    let e : a + (now - a) ≡ now = omega arith in
    subst (λ n. h.maps n f i ≡ h.maps a f i) e (quiet_maps_by h f i a (now - a) (subst (IsQuiet h f a) (sym e) quiet))

-- an unmapping up to now was one up to a
quiet_gone : {A : Type 0} (h : History A) (f i n a now : ℕ) → IsQuiet h f a now → IsSuperseded h f i n now → IsSuperseded h f i n a
quiet_gone h f i n a now quiet s =
    let hi = s.within in
    ⊎_elim
    (λ lt. absurd (quiet_calm h f i a now quiet s.entry lt s.within s.unmapped))
    (λ le. record { entry = s.entry; later = s.later; within = le; unmapped = s.unmapped })
    (cases_lt a s.entry)

-- A pair that is done is carried by what a transaction with cut a maps, where nothing changed the file since.
module _ {A : Type 0} (h : History A) (s : Session) (trees : HasTrees h) (now : ℕ) (versions : (o f i v : ℕ) → HasNote s o (Page f i v) → v ≤ now) where
  pub done_at_cut : {Good : ℕ → Type 0} (f i n a : ℕ) → a ≤ now → h.writes n f i ≡ true → n ≤ now → IsQuiet h f a now → IsDone h s Good now f i n
      → IsSuperseded h f i n a ⊎ ((x : IsSent s Good f i n) × (h.maps a f i ≡ true) × Calm h f i a x.version)
  done_at_cut f i n a le w in_time quiet done =
      ⊎_elim
      (λ gone. inl (quiet_gone h f i n a now quiet gone))
      (λ here.
      ⊎_elim
      (λ x.
      let version = versions x.place f i x.version x.note in
      inr (x, sym (quiet_maps h f i a now le quiet) ∙ here, λ m lo hi un. quiet_calm h f i a now quiet m lo (omega arith) un))
      (λ gone. inl (quiet_gone h f i n a now quiet gone))
      done)
      (mapped_or_gone h trees f i n now w in_time)

-- ---- a target is fixed

module _ {A : Type 0} {h : History A} {s : Session} {pages : List CachedPage} {now r N : ℕ} {b : Begun} {w : Wait} (trees : HasTrees h) (numbers : Numbers h s now r N) (facts : CallFacts h s pages now r b w) where
  -- the running transaction: its cut is the last entry
  pub for_running : ((f i n : ℕ) → Covers h (call_of b) f i n → IsDone h s Anywhere now f i n) → IsGoodFor h s now r r b
  for_running done =
      let at = numbers.running r (omega arith) in
      let begun = facts.begun in
      record {
        positive = ⊎_elim (λ e. omega arith) (λ e. omega arith) numbers.closed;
        within = omega arith;
        pairs = λ f i n c.
            ⊎_elim
            (λ x. inr (record {
              place = x.place;
              version = x.version;
              note = x.note;
              ordered = x.ordered;
              later = x.later;
              before = λ k commit. let le = numbers.no_more r k commit in ⊎_elim (λ e. absurd (omega arith)) (λ e. absurd (omega arith)) numbers.closed;
              mapped = λ lt. absurd (omega arith);
              calm = λ lt. absurd (omega arith);
            }))
            (λ gone. inl (later_bound (omega arith) gone))
            (done f i n c);
        metadata = λ e. omega arith;
      }

  -- The transaction on its way, for a data call, where the running one did not change the file.
  pub for_closed : is_data b.kind ≡ true → (T : ℕ) → T < r → N < T → ((f i n : ℕ) → Covers h (call_of b) f i n → IsQuiet h f (h.cut T) now) → ((f i n : ℕ) → Covers h (call_of b) f i n → IsDone h s Anywhere now f i n) → IsGoodFor h s now r T b
  for_closed of_data T below not_yet quiet done =
      let cut = numbers.cuts T in
      let begun = facts.begun in
      record {
        positive = omega arith;
        within = omega arith;
        pairs = λ f i n c.
            let lt = c.1 in
            ⊎_elim
            (λ gone. inl gone)
            (λ x. inr (record {
              place = x.0.place;
              version = x.0.version;
              note = x.0.note;
              ordered = x.0.ordered;
              later = x.0.later;
              before = λ k commit. let le = numbers.no_more T k commit in absurd (omega arith);
              mapped = λ e. x.1;
              calm = λ e. x.2;
            }))
            (done_at_cut h s trees now numbers.versions f i n (h.cut T) cut c.2 (omega arith) (quiet f i n c) (done f i n c));
        metadata = λ e. absurd (false≢true (sym e ∙ of_data));
      }

  -- ---- the running transaction is closed: it is not the running one any more

  pub target_closes : (T : ℕ) → IsGoodFor h s now r T b → IsGoodFor h s now (r + 1) T b
  target_closes T g =
      let le = g.within in
      let begun = facts.begun in
      record {
        positive = g.positive;
        within = omega arith;
        pairs = λ f i n c.
            let lt = c.1 in
            ⊎_elim
            (λ gone. inl gone)
            (λ x.
            ⊎_elim
            (λ below. inr (record { place = x.place; version = x.version; note = x.note; ordered = x.ordered; later = x.later; before = x.before; mapped = λ e. x.mapped below; calm = λ e. x.calm below }))
            (λ ge.
            let at = numbers.running T ge in
            ⊎_elim
            (λ gone. inl (later_bound (omega arith) gone))
            (λ here.
            let version = numbers.versions x.place f i x.version x.note in
            inr (record {
              place = x.place;
              version = x.version;
              note = x.note;
              ordered = x.ordered;
              later = x.later;
              before = x.before;
              mapped = λ e. ap (λ n. h.maps n f i) at ∙ here;
              calm = λ e m lo hi un. omega arith;
            }))
            (mapped_or_gone h trees f i n now c.2 (omega arith)))
            (cases_lt T r))
            (g.pairs f i n c);
        metadata = g.metadata;
      }

  pub call_closes : CallFacts h s pages now (r + 1) b w
  call_closes = record {
    begun = facts.begun;
    kind = facts.kind;
    pairs = facts.pairs;
    barrier = facts.barrier;
    target = λ T e. target_closes T (facts.target T e);
    need = facts.need;
    cause = facts.cause;
  }

  -- ---- what is held

  metadata_held : (T c id : ℕ) → IsCommit s T c → c ≤ id → (is_data b.kind ≡ false → b.begin ≤ h.cut T) → (n : ℕ) → CoversEntry (call_of b) n → (k d : ℕ) × IsCommit s k d × (d ≤ id) × (n ≤ h.cut k)
  metadata_held T c id commit at begun n covered =
      ⊎_elim
      (λ of_data. absurd (false≢true (ap not (sym of_data) ∙ covered.0)))
      (λ whole. let lo = begun whole in let lt = covered.1 in (T, c, commit, at, omega arith))
      (cases_Bool (is_data b.kind))

  -- The target's commit block is submitted: all is held at it.
  pub held_by_target : (T c id : ℕ) → IsGoodFor h s now r T b → IsCommit s T c → c ≤ id → IsHeldAt h s b id
  held_by_target T c id g commit at =
      let le = numbers.no_more T c commit in
      record {
        K = T;
        commit = inr (c, commit, at);
        pairs = λ f i n cov.
            ⊎_elim (λ gone. inl gone)
            (λ x.
            let lt = x.before c commit in
            let below : T < r = ⊎_elim (λ e. omega arith) (λ e. omega arith) numbers.closed in
            inr (record { place = x.place; version = x.version; note = x.note; ordered = x.ordered; good = omega arith; later = x.later; mapped = x.mapped below; calm = x.calm below }))
            (g.pairs f i n cov);
        metadata = metadata_held T c id commit at g.metadata;
      }

  -- A data call without a target: no transaction since N changed its file. `id` is at or behind all that it sent
  -- and the last commit block.
  pub held_without_target : {Good : ℕ → Type 0} (id : ℕ) → is_data b.kind ≡ true → ((o : ℕ) → Good o → o ≤ id) → (1 ≤ N → (c : ℕ) × IsCommit s N c × (c ≤ id))
      → ((f i n : ℕ) → Covers h (call_of b) f i n → IsQuiet h f (h.cut N) now) → ((f i n : ℕ) → Covers h (call_of b) f i n → IsDone h s Good now f i n) → IsHeldAt h s b id
  held_without_target id of_data within last quiet done = record {
    K = N;
    commit = ⊎_elim (λ pos. inr (last pos)) (λ z. inl (omega arith)) (cases_lt 0 N);
    pairs = λ f i n c.
        let lt = c.1 in
        let begun = facts.begun in
        ⊎_elim (λ gone. inl gone)
        (λ x. inr (record { place = x.0.place; version = x.0.version; note = x.0.note; ordered = x.0.ordered; good = within x.0.place x.0.good; later = x.0.later; mapped = x.1; calm = x.2 }))
        (done_at_cut h s trees now numbers.versions f i n (h.cut N) (numbers.cuts N) c.2 (omega arith) (quiet f i n c) (done f i n c));
    metadata = λ n covered. absurd (false≢true (ap not (sym of_data) ∙ covered.0));
  }

  -- ---- answers, as entry now + 1

  -- A barrier call whose target's commit block is submitted: the barrier is that commit block.
  pub ok_at_target : CommitOrder s → (T c : ℕ) → w.target ≡ Some T → IsCommit s T c → KeepsBarrier h s (now + 1) (Covers h (call_of b)) (CoversEntry (call_of b))
  ok_at_target order T c target commit =
      barrier_at_end h s (now + 1) c (Covers h (call_of b)) (CoversEntry (call_of b)) (order.barrier T c commit)
      (held_by_target T c c (facts.target T target) commit (omega arith))
      (λ o f i v note. let le = numbers.versions o f i v note in omega arith)
      (λ k d other. let le = numbers.cuts k in omega arith)

  -- A data barrier that sent a barrier, with no target: the barrier is that one, or the last commit block behind it.
  pub ok_by_own_barrier : CommitOrder s → is_data b.kind ≡ true → b.sent_barrier ≡ true → ((f i n : ℕ) → Covers h (call_of b) f i n → IsQuiet h f (h.cut N) now) → KeepsBarrier h s (now + 1) (Covers h (call_of b)) (CoversEntry (call_of b))
  ok_by_own_barrier order of_data sent quiet =
      let x = facts.barrier sent in
      ⊎_elim
      (λ pos.
      let c = numbers.committed N pos (omega arith) in
      ⊎_elim
      (λ lt. at_end x.barrier x.fence (λ o le. le) (λ e. (c.0, c.1, omega arith)))
      (λ ge. at_end c.0 (order.barrier N c.0 c.1) (λ o le. omega arith) (λ e. (c.0, c.1, omega arith)))
      (cases_lt c.0 x.barrier))
      (λ z. at_end x.barrier x.fence (λ o le. le) (λ pos. absurd (omega arith)))
      (cases_lt 0 N)
    where
      at_end : (id : ℕ) → IsFence s.requests id → ((o : ℕ) → o ≤ (facts.barrier sent).barrier → o ≤ id) → (1 ≤ N → (c : ℕ) × IsCommit s N c × (c ≤ id)) → KeepsBarrier h s (now + 1) (Covers h (call_of b)) (CoversEntry (call_of b))
      at_end id fence within last =
          barrier_at_end h s (now + 1) id (Covers h (call_of b)) (CoversEntry (call_of b)) fence
          (held_without_target id of_data within last quiet (facts.barrier sent).pairs)
          (λ o f i v note. let le = numbers.versions o f i v note in omega arith)
          (λ k d other. let le = numbers.cuts k in omega arith)

  -- A sync call that needs request `id` durable, and a flush behind it was answered.
  pub ok_by_flush : (taken : List Completion) (id flush : ℕ) → w.need ≡ Some id → In (Flushed flush) taken → id < flush → KeepsSync h s taken (Covers h (call_of b)) (CoversEntry (call_of b))
  ok_by_flush taken id flush need answered later =
      let held = facts.need id need in
      record {
        flush = flush;
        flushed = answered;
        held = record {
          K = held.K;
          commit = ⊎_elim (λ z. inl z) (λ c. let le = c.2 in inr (c.0, c.1, omega arith)) held.commit;
          pairs = λ f i n c.
              ⊎_elim (λ gone. inl gone)
              (λ x. let le = x.good in inr (record { place = x.place; version = x.version; note = x.note; ordered = x.ordered; good = omega arith; later = x.later; mapped = x.mapped; calm = x.calm }))
              (held.pairs f i n c);
          metadata = λ n covered. let m = held.metadata n covered in let le = m.3 in (m.0, m.1, m.2, omega arith, m.4);
        };
      }

  -- ---- the causes of an answer

  -- It began no later than the cut of a transaction whose commit block is submitted, and that was cut before now.
  pub cause_of_barrier : (T c : ℕ) → w.target ≡ Some T → IsCommit s T c → is_data b.kind ≡ false → (b.begin ≤ h.cut T) × (h.cut T < now + 1)
  cause_of_barrier T c target commit whole =
      let g = facts.target T target in
      let le = numbers.cuts T in
      (g.metadata whole, omega arith)

  pub cause_of_sync : (id flush : ℕ) → w.need ≡ Some id → id < flush → is_data b.kind ≡ false → (T c : ℕ) × IsCommit s T c × (c < flush) × (b.begin ≤ h.cut T) × (h.cut T < now + 1)
  cause_of_sync id flush need later whole =
      let x = facts.cause id need whole in
      let g = facts.target x.T x.target in
      let le = numbers.cuts x.T in
      let at = x.before in
      (x.T, x.c, x.commit, omega arith, g.metadata whole, omega arith)

  -- ---- the wait gets its target, or its need

  pub call_has_target : (T : ℕ) → w.need ≡ None → IsGoodFor h s now r T b → CallFacts h s pages now r b (record w { target = Some T })
  call_has_target T no_need g = record {
    begun = facts.begun;
    kind = facts.kind;
    pairs = λ e u. absurd (none-some T (sym e));
    barrier = facts.barrier;
    target = λ U e. subst (λ V. IsGoodFor h s now r V b) (same_Some T U e) g;
    need = λ id e. absurd (none-some id (sym no_need ∙ e));
    cause = λ id e u. absurd (none-some id (sym no_need ∙ e));
  }

  pub call_has_need : (id : ℕ) → IsHeldAt h s b id → (is_data b.kind ≡ false → IsBehindTarget s w id) → CallFacts h s pages now r b (record w { need = Some id })
  call_has_need id held behind = record {
    begun = facts.begun;
    kind = facts.kind;
    pairs = λ e u. absurd (none-some id (sym u));
    barrier = facts.barrier;
    target = facts.target;
    need = λ j e. subst (IsHeldAt h s b) (same_Some id j e) held;
    cause = λ j e u. let x = behind u in let same = same_Some id j e in let at = x.before in record { T = x.T; c = x.c; target = x.target; commit = x.commit; before = omega arith };
  }

  -- The target's commit block is submitted, at or before `id`: a sync call may need request `id`.
  pub call_needs : (T c id : ℕ) → w.target ≡ Some T → IsCommit s T c → c ≤ id → CallFacts h s pages now r b (record w { need = Some id })
  call_needs T c id target commit at =
      call_has_need id (held_by_target T c id (facts.target T target) commit at) (λ u. record { T = T; c = c; target = target; commit = commit; before = at })

  -- A data call covers blocks of its own file alone.
  pub its_file : is_data b.kind ≡ true → (f i n : ℕ) → Covers h (call_of b) f i n → b.file ≡ f
  its_file of_data f i n c = by b.kind of_data c.0
    where
      by : (k : CallKind) → is_data k ≡ true → IsOn (if is_whole k then None else Some b.file) f → b.file ≡ f
      by DataBarrier e on = on
      by DataSync e on = on
      by other e on = absurd (false≢true e)

-- ---- files that a transaction did not change

module _ {A : Type 0} {h : History A} {s : Session} {now r N : ℕ} (trees : HasTrees h) (numbers : Numbers h s now r N) where
  -- the running transaction did not change the file
  pub quiet_running : (k f : ℕ) → k + 1 ≡ r → h.changes r f ≡ false → IsQuiet h f (h.cut k) now
  quiet_running k f next same i m lo hi =
      let at = numbers.running r (omega arith) in
      let cut : h.cut (k + 1) ≡ h.cut r = ap h.cut next in
      trees.same k f i m (ap (λ j. h.changes j f) next ∙ same) lo (omega arith)

  -- nor did the one on its way
  pub quiet_both : (k f : ℕ) → k + 2 ≡ r → h.changes r f ≡ false → h.changes (k + 1) f ≡ false → IsQuiet h f (h.cut k) now
  quiet_both k f next same before i m lo hi =
      ⊎_elim
      (λ lt. quiet_running (k + 1) f (omega arith) same i m lt hi)
      (λ le. trees.same k f i m before lo le)
      (cases_lt (h.cut (k + 1)) m)
