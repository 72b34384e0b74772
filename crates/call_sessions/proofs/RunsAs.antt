-- Runs of a host whose calls are seen as other things, and its history.
use Rattle.std.proofs.Common.{◌≡◌, ℕ, zero, suc, ◌-◌, Bool, false, ◌&&◌, List, [], ◌∷◌, length, map, Option, Some, None, slice_get, option_map, refl, ap, ◌∙◌}
use mathlib.Core.Path.{fun_ext}
use Rattle.std.proofs.lemmas.List.{length-map}
use Rattle.std.proofs.lemmas.Option.{slice_get-map}
use Rattle.crash_laws.specs.History.{History}
use Rattle.host_machine.specs.Model.{Model}
use Rattle.host_machine.specs.State.{Entry, Thread, Host}
use Rattle.host_machine.specs.Views.{is_answered, cut_of, some_in, acted, tree_after, writes_at, alters_at, history_of}
use Rattle.host_machine.specs.Host.{opened}
use Rattle.host_machine.specs.laws.Contract.{Over}
use Rattle.host_machine.specs.runs.Runs.{Event, Call, Commit, WriteBack, FlushStep, TakeStep, stepped, steps}
use Rattle.journal_ring.specs.LogRing.{LogRing}
use Rattle.flush_actor.specs.Waits.{no_wait}
use Rattle.flush_actor.specs.declared.wait.Wait.{Wait}
use Rattle.call_sessions.specs.CallsAs.{entry_as, thread_as, host_as, model_as, over_as}
use Rattle.call_sessions.proofs.StepsAs.{advance_as}
use Rattle.call_sessions.proofs.ActorsAs.{flush_as, take_as, commit_step_as, writeback_as}

-- ---- runs

module _ {A T V C D R : Type 0} (f : C → D) (o : Over A T V D R) where
  stepped_on : (s : Host V C R) (e : Event) → stepped o (host_as f s) e ≡ host_as f (stepped (over_as f o) s e)
  stepped_on s (Call full t) = ap (λ x. x.host) (advance_as f o.model o.setup full s t)
  stepped_on s (Commit full) = ap (λ x. x.host) (commit_step_as f o.model o.setup full s)
  stepped_on s (WriteBack full pick) = ap (λ x. x.host) (writeback_as f o.model o.setup full s pick)
  stepped_on s (FlushStep full next) = ap (λ x. x.host) (flush_as f o.model o.setup full s next)
  stepped_on s (TakeStep next) = ap (λ x. x.host) (take_as f o.model o.setup s next)

  pub steps_on : (s : Host V C R) (es : List Event) → steps o (host_as f s) es ≡ host_as f (steps (over_as f o) s es)
  steps_on s [] = refl
  steps_on s (e ∷ es) = ap (λ h. steps o h es) (stepped_on s e) ∙ steps_on (stepped (over_as f o) s e) es

  abbrev pub fresh : {E : Type 0} → List E → Thread E
  fresh p = record { calls = p; begun = None }

  waits_as : (ps : List (List C)) → map (λ (p : List D). no_wait) (map (map f) ps) ≡ map (λ (p : List C). no_wait) ps
  waits_as [] = refl
  waits_as (p ∷ ps) = ap (λ (ws : List Wait). no_wait ∷ ws) (waits_as ps)

  threads_as : (ps : List (List C)) → map fresh (map (map f) ps) ≡ map (thread_as f) (map fresh ps)
  threads_as [] = refl
  threads_as (p ∷ ps) = ap (λ (ths : List (Thread D)). fresh (map f p) ∷ ths) (threads_as ps)

  pub opened_as : (v : V) (ring : LogRing) (zones limit : ℕ) (programs : List (List C)) → opened o.model o.setup v ring zones limit (map (map f) programs) ≡ host_as f (opened (over_as f o).model o.setup v ring zones limit programs)
  opened_as v ring zones limit programs =
      ap (λ ws. let h = opened o.model o.setup v ring zones limit (map (map f) programs) in
      let x : Host V D R = record h { journal = record h.journal { flush = record h.journal.flush { waits = ws } } } in x) (waits_as programs)
      ∙ ap (λ ths. let h = opened o.model o.setup v ring zones limit [] in
      let x : Host V D R = record h { journal = record h.journal { flush = record h.journal.flush { waits = map (λ (p : List C). no_wait) programs } }; threads = ths } in x) (threads_as programs)

-- ---- histories

module _ {T V C D R : Type 0} (f : C → D) (M : Model T V D R) (es : List (Entry C R)) where
  abbrev N : Model T V C R
  N = model_as f M

  abbrev seen : List (Entry D R)
  seen = map (entry_as f) es

  pub tree_as : (n : ℕ) → tree_after M seen n ≡ tree_after N es n
  tree_as zero = refl
  tree_as (suc n) =
      ap (λ (o : Option (Entry D R)). elim o as (λ _. T) [ None ↦ tree_after M seen n | Some e ↦ acted M (tree_after M seen n) (suc n) e ]) (slice_get-map (entry_as f) es n)
      ∙ by (tree_as n) (slice_get es n)
    where
      by : tree_after M seen n ≡ tree_after N es n → (o : Option (Entry C R))
          → (elim (option_map (entry_as f) o) as (λ _. T) [ None ↦ tree_after M seen n | Some e ↦ acted M (tree_after M seen n) (suc n) e ])
          ≡ (elim o as (λ _. T) [ None ↦ tree_after N es n | Some e ↦ acted N (tree_after N es n) (suc n) e ])
      by same None = same
      by same (Some e) = ap (λ t. acted M t (suc n) (entry_as f e)) same

  writes_as : (n i j : ℕ) → writes_at M seen n i j ≡ writes_at N es n i j
  writes_as zero i j = refl
  writes_as (suc n) i j =
      ap (λ (o : Option (Entry D R)). elim o as (λ _. Bool) [ None ↦ false | Some e ↦ is_answered e.what && M.writes (tree_after M seen n) e.call i j ]) (slice_get-map (entry_as f) es n)
      ∙ by (slice_get es n)
    where
      by : (o : Option (Entry C R))
          → (elim (option_map (entry_as f) o) as (λ _. Bool) [ None ↦ false | Some e ↦ is_answered e.what && M.writes (tree_after M seen n) e.call i j ])
          ≡ (elim o as (λ _. Bool) [ None ↦ false | Some e ↦ is_answered e.what && N.writes (tree_after N es n) e.call i j ])
      by None = refl
      by (Some e) = ap (λ t. is_answered e.what && M.writes t (f e.call) i j) (tree_as n)

  alters_as : (n i : ℕ) → alters_at M seen n i ≡ alters_at N es n i
  alters_as zero i = refl
  alters_as (suc n) i =
      ap (λ (o : Option (Entry D R)). elim o as (λ _. Bool) [ None ↦ false | Some e ↦ is_answered e.what && M.alters (tree_after M seen n) (suc n) e.call i ]) (slice_get-map (entry_as f) es n)
      ∙ by (slice_get es n)
    where
      by : (o : Option (Entry C R))
          → (elim (option_map (entry_as f) o) as (λ _. Bool) [ None ↦ false | Some e ↦ is_answered e.what && M.alters (tree_after M seen n) (suc n) e.call i ])
          ≡ (elim o as (λ _. Bool) [ None ↦ false | Some e ↦ is_answered e.what && N.alters (tree_after N es n) (suc n) e.call i ])
      by None = refl
      by (Some e) = ap (λ t. is_answered e.what && M.alters t (suc n) (f e.call) i) (tree_as n)

  -- a history of these trees, writes and changes, where there are so many entries
  abbrev told : {A : Type 0} → (A → T → ℕ → ℕ → ℕ) → List ℕ → ℕ → (ℕ → T) → (ℕ → ℕ → ℕ → Bool) → (ℕ → ℕ → Bool) → History A
  told place cuts now trees wrote altered = record {
    cut = cut_of cuts now;
    maps = λ n i j. M.maps (trees n) i j;
    writes = wrote;
    content = λ i j v. M.content (trees v) i j;
    changes = λ k i. some_in (λ n. altered n i) (cut_of cuts now (k - 1)) (cut_of cuts now k - cut_of cuts now (k - 1));
    place = λ a n i j. place a (trees n) i j;
  }

  pub history_as : {A : Type 0} (place : A → T → ℕ → ℕ → ℕ) (cuts : List ℕ) → history_of M place seen cuts ≡ history_of N place es cuts
  history_as place cuts =
      ap (λ n. told place cuts n (tree_after M seen) (writes_at M seen) (alters_at M seen)) (length-map es (entry_as f))
      ∙ ap (λ ts. told place cuts (length es) ts (writes_at M seen) (alters_at M seen)) (fun_ext tree_as)
      ∙ ap (λ ws. told place cuts (length es) (tree_after N es) ws (alters_at M seen)) (fun_ext (λ n. fun_ext (λ i. fun_ext (λ j. writes_as n i j))))
      ∙ ap (λ cs. told place cuts (length es) (tree_after N es) (writes_at N es) cs) (fun_ext (λ n. fun_ext (λ i. alters_as n i)))
