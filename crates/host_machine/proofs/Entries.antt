-- Laws of the history that a host has noted: one entry more, and what it has of trees.
use mathlib.Core.Path.{fun_ext}
use Rattle.std.proofs.Common.{sym, ap, subst, ◌∙◌, inl, inr, ⊎_elim, arith, length-append}
use Rattle.std.proofs.lemmas.Bool.{cases_lt, false≢true, or_cases, or_parts, and_parts, and_from}
use Rattle.std.specs.Prelude.{◌≡◌, ℕ, zero, suc, ◌+◌, ◌-◌, ◌<◌, ◌≤◌, ◌⊎◌, Bool, true, false, ◌&&◌, ◌||◌, List, [], ◌∷◌, ◌++◌, length, Option, Some, None, slice_get, slice_index_or, refl, if◌then◌else◌}
use Rattle.blk_base.specs.laws.Members.{slice_get-push, slice_get-push_left}
use Rattle.crash_laws.specs.History.{History, HasTrees}
use Rattle.host_machine.proofs.ChangeSteps.{IsEntry}
use Rattle.host_machine.specs.Model.{Model}
use Rattle.host_machine.specs.State.{Entry}
use Rattle.host_machine.specs.Views.{is_answered, cut_of, some_in, acted, tree_after, writes_at, alters_at, history_of}
use Rattle.host_machine.specs.laws.Contract.{TreeLaws}

-- ---- numbers of a range

pub some_in-same : (test other : ℕ → Bool) (a d : ℕ) → ((n : ℕ) → a < n → n ≤ a + d → test n ≡ other n) → some_in test a d ≡ some_in other a d
some_in-same test other a zero h = refl
some_in-same test other a (suc d) h =
    ap (λ t. t || some_in test a d) (h (a + suc d) (omega arith) (omega arith)) ∙ ap (λ t. other (a + suc d) || t) (some_in-same test other a d (λ n lo hi. h n lo (omega arith)))

pub none_in : (test : ℕ → Bool) (a d n : ℕ) → some_in test a d ≡ false → a < n → n ≤ a + d → test n ≡ false
none_in test a zero n e lo hi = absurd (omega arith)
none_in test a (suc d) n e lo hi =
    let p = or_parts (test (a + suc d)) (some_in test a d) e in
    ⊎_elim
    (λ lt. none_in test a d n p.1 lo (omega arith))
    (λ ge. let q : a + suc d ≡ n = omega arith in subst (λ m. test m ≡ false) q p.0)
    (cases_lt n (a + suc d))

pub some_in-last : (test : ℕ → Bool) (a d : ℕ) → some_in test a (suc d) ≡ true → (test (a + suc d) ≡ true) ⊎ (some_in test a d ≡ true)
some_in-last test a d e = or_cases (test (a + suc d)) (some_in test a d) e

-- ---- cuts

pub index_within : {X : Type 0} (xs : List X) (k : ℕ) (d e : X) → k < length xs → slice_index_or xs k d ≡ slice_index_or xs k e
index_within [] k d e lt = absurd (omega arith)
index_within (x ∷ xs) zero d e lt = refl
index_within (x ∷ xs) (suc k) d e lt = index_within xs k d e (omega arith)

pub index_past : {X : Type 0} (xs : List X) (k : ℕ) (d : X) → length xs ≤ k → slice_index_or xs k d ≡ d
index_past [] k d le = refl
index_past (x ∷ xs) zero d le = absurd (omega arith)
index_past (x ∷ xs) (suc k) d le = index_past xs k d (omega arith)

pub index_push_left : {X : Type 0} (xs : List X) (y : X) (k : ℕ) (d : X) → k < length xs → slice_index_or (xs ++ y ∷ []) k d ≡ slice_index_or xs k d
index_push_left [] y k d lt = absurd (omega arith)
index_push_left (x ∷ xs) y zero d lt = refl
index_push_left (x ∷ xs) y (suc k) d lt = index_push_left xs y k d (omega arith)

pub index_push : {X : Type 0} (xs : List X) (y d : X) → slice_index_or (xs ++ y ∷ []) (length xs) d ≡ y
index_push [] y d = refl
index_push (x ∷ xs) y d = index_push xs y d

pub cut_closed : (cuts : List ℕ) (now then_ : ℕ) (k : ℕ) → k ≤ length cuts → cut_of cuts now k ≡ cut_of cuts then_ k
cut_closed cuts now then_ zero le = refl
cut_closed cuts now then_ (suc k) le = index_within cuts k now then_ (omega arith)

pub cut_open : (cuts : List ℕ) (now k : ℕ) → length cuts < k → cut_of cuts now k ≡ now
cut_open cuts now zero lt = absurd (omega arith)
cut_open cuts now (suc k) lt = index_past cuts k now (omega arith)

-- a cut at the present is as if there were none
pub cut_noted : (cuts : List ℕ) (now k : ℕ) → cut_of (cuts ++ now ∷ []) now k ≡ cut_of cuts now k
cut_noted cuts now zero = refl
cut_noted cuts now (suc k) =
    ⊎_elim
    (λ lt. index_push_left cuts now k now lt)
    (λ ge.
    ⊎_elim
    (λ past. let l = length-append cuts (now ∷ []) in index_past (cuts ++ now ∷ []) k now (omega arith) ∙ sym (index_past cuts k now ge))
    (λ le. let e : length cuts ≡ k = omega arith in ap (λ j. slice_index_or (cuts ++ now ∷ []) j now) (sym e) ∙ index_push cuts now now ∙ sym (index_past cuts k now ge))
    (cases_lt (length cuts) k))
    (cases_lt k (length cuts))

module _ {A T V C R : Type 0} (M : Model T V C R) (place : A → T → ℕ → ℕ → ℕ) (es : List (Entry C R)) (cuts : List ℕ) where
  abbrev history_by : (ℕ → ℕ) → History A
  history_by cut = record {
    cut = cut;
    maps = λ n f i. M.maps (tree_after M es n) f i;
    writes = λ n f i. writes_at M es n f i;
    content = λ f i v. M.content (tree_after M es v) f i;
    changes = λ k f. some_in (λ n. alters_at M es n f) (cut (k - 1)) (cut k - cut (k - 1));
    place = λ a n f i. place a (tree_after M es n) f i;
  }

  -- and the history has it already
  pub history_noted : history_of M place es cuts ≡ history_of M place es (cuts ++ length es ∷ [])
  history_noted = ap history_by (fun_ext (λ k. sym (cut_noted cuts (length es) k)))

-- ---- one entry more

module _ {T V C R : Type 0} (M : Model T V C R) (es : List (Entry C R)) (e : Entry C R) where
  pub tree_old : (n : ℕ) → n ≤ length es → tree_after M (es ++ e ∷ []) n ≡ tree_after M es n
  tree_old zero le = refl
  tree_old (suc n) le =
      let rest = tree_old n (omega arith) in
      ap (λ o. elim o as (λ _. T) [ None ↦ tree_after M (es ++ e ∷ []) n | Some x ↦ acted M (tree_after M (es ++ e ∷ []) n) (suc n) x ]) (slice_get-push_left es e n (omega arith))
      ∙ ap (λ t. elim (slice_get es n) as (λ _. T) [ None ↦ t | Some x ↦ acted M t (suc n) x ]) rest

  pub tree_new : tree_after M (es ++ e ∷ []) (suc (length es)) ≡ acted M (tree_after M es (length es)) (suc (length es)) e
  tree_new =
      ap (λ o. elim o as (λ _. T) [ None ↦ tree_after M (es ++ e ∷ []) (length es) | Some x ↦ acted M (tree_after M (es ++ e ∷ []) (length es)) (suc (length es)) x ]) (slice_get-push es e)
      ∙ ap (λ t. acted M t (suc (length es)) e) (tree_old (length es) (omega arith))

  pub writes_old : (n f i : ℕ) → n ≤ length es → writes_at M (es ++ e ∷ []) n f i ≡ writes_at M es n f i
  writes_old zero f i le = refl
  writes_old (suc n) f i le =
      ap (λ o. elim o as (λ _. Bool) [ None ↦ false | Some x ↦ is_answered x.what && M.writes (tree_after M (es ++ e ∷ []) n) x.call f i ]) (slice_get-push_left es e n (omega arith))
      ∙ ap (λ t. elim (slice_get es n) as (λ _. Bool) [ None ↦ false | Some x ↦ is_answered x.what && M.writes t x.call f i ]) (tree_old n (omega arith))

  pub writes_new : (f i : ℕ) → writes_at M (es ++ e ∷ []) (suc (length es)) f i ≡ (is_answered e.what && M.writes (tree_after M es (length es)) e.call f i)
  writes_new f i =
      ap (λ o. elim o as (λ _. Bool) [ None ↦ false | Some x ↦ is_answered x.what && M.writes (tree_after M (es ++ e ∷ []) (length es)) x.call f i ]) (slice_get-push es e)
      ∙ ap (λ t. is_answered e.what && M.writes t e.call f i) (tree_old (length es) (omega arith))

  pub alters_old : (n f : ℕ) → n ≤ length es → alters_at M (es ++ e ∷ []) n f ≡ alters_at M es n f
  alters_old zero f le = refl
  alters_old (suc n) f le =
      ap (λ o. elim o as (λ _. Bool) [ None ↦ false | Some x ↦ is_answered x.what && M.alters (tree_after M (es ++ e ∷ []) n) (suc n) x.call f ]) (slice_get-push_left es e n (omega arith))
      ∙ ap (λ t. elim (slice_get es n) as (λ _. Bool) [ None ↦ false | Some x ↦ is_answered x.what && M.alters t (suc n) x.call f ]) (tree_old n (omega arith))

  pub alters_new : (f : ℕ) → alters_at M (es ++ e ∷ []) (suc (length es)) f ≡ (is_answered e.what && M.alters (tree_after M es (length es)) (suc (length es)) e.call f)
  alters_new f =
      ap (λ o. elim o as (λ _. Bool) [ None ↦ false | Some x ↦ is_answered x.what && M.alters (tree_after M (es ++ e ∷ []) (length es)) (suc (length es)) x.call f ]) (slice_get-push es e)
      ∙ ap (λ t. is_answered e.what && M.alters t (suc (length es)) e.call f) (tree_old (length es) (omega arith))

  pub length_new : length (es ++ e ∷ []) ≡ length es + 1
  length_new = length-append es (e ∷ [])

  -- the history has one entry more; each cut is at most the last entry
  module _ {A : Type 0} (place : A → T → ℕ → ℕ → ℕ) (cuts : List ℕ) (r : ℕ) (closed : length cuts + 1 ≡ r) (bounded : (k : ℕ) → cut_of cuts (length es) k ≤ length es) where
    cut_same : (k : ℕ) → k < r → cut_of cuts (length (es ++ e ∷ [])) k ≡ cut_of cuts (length es) k
    cut_same k lt = cut_closed cuts (length (es ++ e ∷ [])) (length es) k (omega arith)

    pub entry_noted : IsEntry (history_of M place es cuts) (history_of M place (es ++ e ∷ []) cuts) (length es) r
    entry_noted = record {
      cuts = cut_same;
      running = λ k le. cut_open cuts (length (es ++ e ∷ [])) k (omega arith) ∙ length_new;
      maps = λ n f i le. ap (λ t. M.maps t f i) (tree_old n le);
      writes = writes_old;
      content = λ f i w le. ap (λ t. M.content t f i) (tree_old w le);
      changes = λ k f lt.
          let c = cut_same k lt in
          let b = cut_same (k - 1) (omega arith) in
          let hi = bounded k in
          let lo = bounded (k - 1) in
          ap (λ x. some_in (λ n. alters_at M (es ++ e ∷ []) n f) x (cut_of cuts (length (es ++ e ∷ [])) k - x)) b
          ∙ ap (λ x. some_in (λ n. alters_at M (es ++ e ∷ []) n f) (cut_of cuts (length es) (k - 1)) (x - cut_of cuts (length es) (k - 1))) c
          ∙ some_in-same (λ n. alters_at M (es ++ e ∷ []) n f) (λ n. alters_at M es n f) (cut_of cuts (length es) (k - 1)) (cut_of cuts (length es) k - cut_of cuts (length es) (k - 1)) (λ n above below. alters_old n f (omega arith));
      place = λ a n f i le. ap (λ t. place a t f i) (tree_old n le);
    }

    -- what the running transaction changed: as before, or by this entry
    pub changes_noted : (f : ℕ) → (history_of M place (es ++ e ∷ []) cuts).changes r f ≡ true
        → ((history_of M place es cuts).changes r f ≡ true) ⊎ ((is_answered e.what && M.alters (tree_after M es (length es)) (suc (length es)) e.call f) ≡ true)
    changes_noted f t =
        let b = cut_same (r - 1) (omega arith) in
        let c = cut_open cuts (length (es ++ e ∷ [])) r (omega arith) in
        let d = cut_open cuts (length es) r (omega arith) in
        let l = length_new in
        let lo = bounded (r - 1) in
        let size : cut_of cuts (length (es ++ e ∷ [])) r - cut_of cuts (length es) (r - 1) ≡ suc (length es - cut_of cuts (length es) (r - 1)) = omega arith in
        let u : some_in (λ n. alters_at M (es ++ e ∷ []) n f) (cut_of cuts (length es) (r - 1)) (suc (length es - cut_of cuts (length es) (r - 1))) ≡ true =
        ap (some_in (λ n. alters_at M (es ++ e ∷ []) n f) (cut_of cuts (length es) (r - 1))) (sym size)
        ∙ ap (λ x. some_in (λ n. alters_at M (es ++ e ∷ []) n f) x (cut_of cuts (length (es ++ e ∷ [])) r - x)) (sym b)
        ∙ t in
        ⊎_elim
        (λ now.
        let q : cut_of cuts (length es) (r - 1) + suc (length es - cut_of cuts (length es) (r - 1)) ≡ suc (length es) = omega arith in
        inr (sym (alters_new f) ∙ ap (λ n. alters_at M (es ++ e ∷ []) n f) (sym q) ∙ now))
        (λ before.
        inl (
        ap (λ x. some_in (λ n. alters_at M es n f) (cut_of cuts (length es) (r - 1)) (x - cut_of cuts (length es) (r - 1))) d
        ∙ sym (some_in-same (λ n. alters_at M (es ++ e ∷ []) n f) (λ n. alters_at M es n f) (cut_of cuts (length es) (r - 1)) (length es - cut_of cuts (length es) (r - 1)) (λ n above below. alters_old n f (omega arith)))
        ∙ before))
        (some_in-last (λ n. alters_at M (es ++ e ∷ []) n f) (cut_of cuts (length es) (r - 1)) (length es - cut_of cuts (length es) (r - 1)) u)

-- ---- what a history has of trees

module _ {T V C R A : Type 0} (M : Model T V C R) (laws : TreeLaws M) (place : A → T → ℕ → ℕ → ℕ) (es : List (Entry C R)) (cuts : List ℕ) where
  step_mapped : (f i n : ℕ) (o : Option (Entry C R)) → M.maps (tree_after M es n) f i ≡ false
      → M.maps (elim o as (λ _. T) [ None ↦ tree_after M es n | Some e ↦ acted M (tree_after M es n) (suc n) e ]) f i ≡ true
      → (elim o as (λ _. Bool) [ None ↦ false | Some e ↦ is_answered e.what && M.writes (tree_after M es n) e.call f i ]) ≡ true
  step_mapped f i n None gone there = absurd (false≢true (sym gone ∙ there))
  step_mapped f i n (Some e) gone there = by (is_answered e.what) refl there
    where
      by : (t : Bool) → is_answered e.what ≡ t → M.maps (if t then M.call (tree_after M es n) (suc n) e.call else tree_after M es n) f i ≡ true → (is_answered e.what && M.writes (tree_after M es n) e.call f i) ≡ true
      by true q u = and_from (is_answered e.what) (M.writes (tree_after M es n) e.call f i) q (laws.mapped (tree_after M es n) (suc n) e.call f i gone u)
      by false q u = absurd (false≢true (sym gone ∙ u))

  step_written : (f i n : ℕ) (o : Option (Entry C R)) → (elim o as (λ _. Bool) [ None ↦ false | Some e ↦ is_answered e.what && M.writes (tree_after M es n) e.call f i ]) ≡ true
      → M.maps (elim o as (λ _. T) [ None ↦ tree_after M es n | Some e ↦ acted M (tree_after M es n) (suc n) e ]) f i ≡ true
  step_written f i n None t = absurd (false≢true t)
  step_written f i n (Some e) t =
      let p = and_parts (is_answered e.what) (M.writes (tree_after M es n) e.call f i) t in
      ap (λ u. M.maps (if u then M.call (tree_after M es n) (suc n) e.call else tree_after M es n) f i) p.0 ∙ laws.written (tree_after M es n) (suc n) e.call f i p.1

  written_by : (f i n : ℕ) → writes_at M es n f i ≡ true → M.maps (tree_after M es n) f i ≡ true
  written_by f i zero t = absurd (false≢true t)
  written_by f i (suc n) t = step_written f i n (slice_get es n) t

  step_same : (f i n : ℕ) (o : Option (Entry C R)) → (elim o as (λ _. Bool) [ None ↦ false | Some e ↦ is_answered e.what && M.alters (tree_after M es n) (suc n) e.call f ]) ≡ false
      → M.maps (elim o as (λ _. T) [ None ↦ tree_after M es n | Some e ↦ acted M (tree_after M es n) (suc n) e ]) f i ≡ M.maps (tree_after M es n) f i
  step_same f i n None t = refl
  step_same f i n (Some e) t = by (is_answered e.what) t
    where
      by : (u : Bool) → (u && M.alters (tree_after M es n) (suc n) e.call f) ≡ false → M.maps (if u then M.call (tree_after M es n) (suc n) e.call else tree_after M es n) f i ≡ M.maps (tree_after M es n) f i
      by true q = laws.same (tree_after M es n) (suc n) e.call f i q
      by false q = refl

  same_by : (f i m : ℕ) → alters_at M es m f ≡ false → M.maps (tree_after M es m) f i ≡ M.maps (tree_after M es (m - 1)) f i
  same_by f i zero t = refl
  same_by f i (suc n) t =
      let e : suc n - 1 ≡ n = omega arith in
      step_same f i n (slice_get es n) t ∙ ap (λ m. M.maps (tree_after M es m) f i) (sym e)

  pub trees_noted : ((k : ℕ) → cut_of cuts (length es) k ≤ cut_of cuts (length es) (k + 1)) → HasTrees (history_of M place es cuts)
  trees_noted rise = record {
    unwritten = λ f i. refl;
    mapped = λ f i n gone there.
        let e : n + 1 ≡ suc n = omega arith in
        ap (λ m. writes_at M es m f i) e ∙ step_mapped f i n (slice_get es n) gone (ap (λ m. M.maps (tree_after M es m) f i) (sym e) ∙ there);
    written = λ f i n w. written_by f i n w;
    first = refl;
    cuts = rise;
    same = λ k f i m ch above below.
        let e : k + 1 - 1 ≡ k = omega arith in
        let up = rise k in
        let quiet : some_in (λ n. alters_at M es n f) (cut_of cuts (length es) k) (cut_of cuts (length es) (k + 1) - cut_of cuts (length es) k) ≡ false =
        ap (λ j. some_in (λ n. alters_at M es n f) (cut_of cuts (length es) j) (cut_of cuts (length es) (k + 1) - cut_of cuts (length es) j)) (sym e) ∙ ch in
        same_by f i m (none_in (λ n. alters_at M es n f) (cut_of cuts (length es) k) (cut_of cuts (length es) (k + 1) - cut_of cuts (length es) k) m quiet above (omega arith));
  }
