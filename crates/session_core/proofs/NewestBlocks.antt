-- A block that is shown is that of a tree which has it; and it is as new as the last change of its file asks for.
use Rattle.std.specs.Prelude.{◌≡◌, ℕ, zero, suc, ◌+◌, ◌-◌, ◌<◌, ◌≤◌, Bool, true, false, not, ◌&&◌, ◌||◌, List, [], Option, Some, None, slice_get, is_some, unwrap_or, if◌then◌else◌, refl}
use Rattle.std.proofs.Common.{sym, ap, subst, ◌∙◌, inl, inr, arith}
use Rattle.std.proofs.lemmas.Bool.{cases_lt, false≢true}
use Rattle.tree_model.specs.declared.call.Call.{Call}
use Rattle.tree_model.specs.declared.call.Reply.{Reply}
use Rattle.tree_model.specs.Calls.{Tree}
use Rattle.tree_model.specs.Histories.{block_at, maps_block, same_file}
use Rattle.tree_model.specs.Maps.{at_number}
use Rattle.tree_model.specs.Plain.{AreBornBefore}
use Rattle.volume_steps.specs.Now.{VolumeNow}
use Rattle.crash_laws.specs.History.{History, last_write, IsLastChange}
use Rattle.crash_laws.specs.Session.{Medium}
use Rattle.crash_laws.specs.Volumes.{WalkEnd}
use Rattle.crash_laws.proofs.Histories.{last_change}
use Rattle.host_machine.specs.State.{Entry, Host}
use Rattle.host_machine.specs.Views.{is_answered, some_in, tree_after, alters_at}
use Rattle.minix_host.specs.PlainTrees.{PlainTree}
use Rattle.minix_host.specs.Sessions.{Opening}
use Rattle.minix_host.proofs.TreeSteps.{same_itself}
use Rattle.session_core.specs.run.Beginning.{call_over}
use Rattle.session_core.specs.run.End.{tree_behind}
use Rattle.call_sessions.specs.promises.Trees.{tree_at}
use Rattle.call_sessions.proofs.PromisesLemmas.SessionTrees.{tree_told}
use Rattle.session_grammar.specs.declared.session_script.SessionScript.{SessionScript}
use Rattle.session_core.specs.Core.{EndState, opening_of}
use Rattle.session_core.specs.Headline.{medium_of, told_by, IsShownBy, HeadlineOn}
use Rattle.session_core.specs.declared.report.SessionReport.{SessionReport}
use Rattle.session_core.proofs.Headlines.{latest_shown}
use Rattle.session_core.proofs.OpenedTrees.{is_born, told_tree}

-- ---- what is shown is of a tree

pub some_is : (x : Option (List ℕ)) → is_some x ≡ true → Some (unwrap_or x []) ≡ x
some_is (Some y) e = refl
some_is None e = absurd (false≢true e)

module _ (s : SessionScript) (end : EndState) (m : Medium) (tree : Tree) (to : ℕ → ℕ) (f i n : ℕ) (x : IsShownBy s end m tree to f i n) where
  abbrev at_version : Tree
  at_version = tree_at (opening_of s) end.host x.version

  pub shown_there : maps_block at_version f i ≡ true
  shown_there = ap (λ t. maps_block t f i) (sym (told_tree s end.host x.version)) ∙ x.mapped

  pub shown_as : block_at tree (to f) i ≡ block_at at_version f i
  shown_as = x.shown ∙ ap Some (ap (λ t. unwrap_or (block_at t f i) []) (told_tree s end.host x.version)) ∙ some_is (block_at at_version f i) shown_there

-- ---- the transaction of an entry

-- A number n up to that of the last of K cuts, of which cut 0 is 0: behind one cut, and not behind any of the next ones.
span : (cut : ℕ → ℕ) (n K : ℕ) → cut 0 ≡ 0 → 1 ≤ n → n ≤ cut K → (j : ℕ) × (cut j < n) × (j < K) × ((m : ℕ) → j < m → m ≤ K → n ≤ cut m)
span cut n zero first some low = absurd (let none : n ≤ 0 = subst (λ x. n ≤ x) first low in omega (arith, some, none))
span cut n (suc K) first some low =
    elim (cases_lt (cut K) n) [
      | inl above ↦ (K, above, omega arith, λ m behind within. let same : suc K ≡ m = omega (arith, behind, within) in subst (λ x. n ≤ cut x) same low)
      | inr below ↦
          let x = span cut n K first some below in
          let within : x.0 < K = x.2 in (
            x.0,
            x.1,
            omega (arith, within),
            λ m behind top. elim (cases_lt K m) [
              | inl past ↦ (let same : suc K ≡ m = omega (arith, past, top) in subst (λ y. n ≤ cut y) same low)
              | inr up ↦ x.3 m behind up
            ],
          )
    ]

-- of the d numbers behind a, one has the property, so some has
some_has : (test : ℕ → Bool) (a d n : ℕ) → a < n → n ≤ a + d → test n ≡ true → some_in test a d ≡ true
some_has test a zero n above within has = absurd (omega (arith, above, within))
some_has test a (suc d) n above within has = by (test (a + suc d)) refl (λ below. some_has test a d n above below has)
  where
    by : (b : Bool) → test (a + suc d) ≡ b → (n ≤ a + d → some_in test a d ≡ true) → (test (a + suc d) || some_in test a d) ≡ true
    by true is rest = rw is refl
    by false is rest =
        rw is (elim (cases_lt n (a + suc d)) [
          | inl lt ↦ rest (omega (arith, lt))
          | inr ge ↦ absurd (let same : n ≡ a + suc d = omega (arith, within, ge) in false≢true (sym is ∙ ap test (sym same) ∙ has))
        ])

-- ---- a write up to n counts

last_is : {A : Type 0} (h : History A) (f i n N : ℕ) → 1 ≤ n → n ≤ N → h.writes n f i ≡ true → n ≤ last_write h f i N
last_is h f i n zero some low wrote = absurd (omega (arith, some, low))
last_is h f i n (suc N) some low wrote = by (h.writes (suc N) f i) refl (λ below. last_is h f i n N some below wrote)
  where
    by : (b : Bool) → h.writes (suc N) f i ≡ b → (n ≤ N → n ≤ last_write h f i N) → n ≤ (if h.writes (suc N) f i then suc N else last_write h f i N)
    by true is rest = rw is low
    by false is rest =
        rw is (elim (cases_lt n (suc N)) [
          | inl lt ↦ rest (omega (arith, lt))
          | inr ge ↦ absurd (let same : n ≡ suc N = omega (arith, low, ge) in false≢true (sym is ∙ ap (λ x. h.writes x f i) (sym same) ∙ wrote))
        ])

-- ---- an entry that changed a file is noted so

module _ (s : Opening) (born : AreBornBefore (s.first + 1) s.tree.tree) (h : Host VolumeNow Call Reply) (n f : ℕ) where
  abbrev before : PlainTree
  before = tree_after (call_over s).model h.history n

  noted : (o : Option (Entry Call Reply)) → slice_get h.history n ≡ o
      → (elim o as (λ _. Bool) [ None ↦ false | Some e ↦ is_answered e.what && (call_over s).model.alters before (suc n) e.call f ]) ≡ false
      → same_file (at_number before.tree f) (at_number (elim o as (λ _. PlainTree) [ None ↦ before | Some e ↦ if is_answered e.what then (call_over s).model.call before (suc n) e.call else before ]).tree f) ≡ true
  noted None is none = same_itself (at_number before.tree f)
  noted (Some e) is none = by (is_answered e.what) refl none
    where
      by : (b : Bool) → is_answered e.what ≡ b → (b && (call_over s).model.alters before (suc n) e.call f) ≡ false
          → same_file (at_number before.tree f) (at_number (if b then (call_over s).model.call before (suc n) e.call else before).tree f) ≡ true
      by false is none = same_itself (at_number before.tree f)
      by true is none = of_not (same_file (at_number before.tree f) (at_number ((call_over s).model.call before (suc n) e.call).tree f)) none
        where
          of_not : (b : Bool) → not b ≡ false → b ≡ true
          of_not true is = refl
          of_not false is = absurd (false≢true (sym is))

  altered : same_file (at_number (tree_at s h n) f) (at_number (tree_at s h (suc n)) f) ≡ false → alters_at (call_over s).model h.history (suc n) f ≡ true
  altered differs = by (alters_at (call_over s).model h.history (suc n) f) refl
    where
      by : (b : Bool) → alters_at (call_over s).model h.history (suc n) f ≡ b → b ≡ true
      by true is = refl
      by false is =
          absurd (false≢true (
          sym differs
          ∙ ap (λ tree. same_file (at_number tree f) (at_number (tree_at s h (suc n)) f)) (sym (tree_told s born h n))
          ∙ ap (λ tree. same_file (at_number before.tree f) (at_number tree f)) (sym (tree_told s born h (suc n)))
          ∙ noted (slice_get h.history n) refl is))

-- ---- the newest that is shown

module _ (s : SessionScript) (end : EndState) (r : SessionReport) (is : HeadlineOn s end r) (f i m n : ℕ) (there : is_some (block_at (tree_behind (opening_of s) end.host r.found) f i) ≡ true) (wrote : (told_by s end).writes n f i ≡ true)
    (changed : same_file (at_number (tree_at (opening_of s) end.host m) f) (at_number (tree_at (opening_of s) end.host (suc m)) f) ≡ false) (before : n ≤ suc m) (found : suc m ≤ (told_by s end).cut r.found) where
  abbrev told : History WalkEnd
  told = told_by s end

  some : (x : ℕ) → told.writes x f i ≡ true → 1 ≤ x
  some zero wrote = absurd (false≢true wrote)
  some (suc x) wrote = omega arith

  mapped : told.maps (told.cut r.found) f i ≡ true
  mapped = ap (λ tree. is_some (block_at tree f i)) (told_tree s end.host (told.cut r.found)) ∙ there

  abbrev alters : ℕ → Bool
  alters e = alters_at (call_over (opening_of s)).model end.host.history e f

  over : (j : ℕ) → told.changes (suc j) f ≡ some_in alters (told.cut j) (told.cut (suc j) - told.cut j)
  over j = ap (λ p. some_in alters (told.cut p) (told.cut (suc j) - told.cut p)) (let e : suc j - 1 ≡ j = omega arith in e)

  -- the last transaction up to those that were found which changed the file ends at or behind entry m + 1
  behind : (k : ℕ) → IsLastChange told f r.found k → suc m ≤ told.cut k
  behind k last =
      let x = span told.cut (suc m) r.found refl (omega arith) found in
      let lower : told.cut x.0 < suc m = x.1 in
      let within : x.0 < r.found = x.2 in
      elim (cases_lt x.0 k) [
        | inl lt ↦ x.3 k lt last.within
        | inr le ↦
            let upper : suc m ≤ told.cut (suc x.0) = x.3 (suc x.0) (omega arith) (omega (arith, within)) in
            absurd (false≢true (
            sym (last.none (suc x.0) (omega (arith, le)) (omega (arith, within)))
            ∙ over x.0
            ∙ some_has alters (told.cut x.0) (told.cut (suc x.0) - told.cut x.0) (suc m) lower (omega (arith, lower, upper))
            (altered (opening_of s) (is_born s) end.host m f changed)))
      ]

  pub newest : IsShownBy s end (medium_of r) is.prefix.tree is.prefix.alike.to f i n
  newest =
      let k = last_change {h = told} f r.found in
      let x = latest_shown s end r is f i k.0 mapped k.1 in
      let low : n ≤ last_write told f i (told.cut k.0) =
      last_is told f i n (told.cut k.0) (some n wrote) (let up = behind k.0 k.1 in omega (arith, before, up)) wrote in
      let later = x.later in
      record { version = x.version; later = omega (arith, low, later); mapped = x.mapped; shown = x.shown; source = x.source }
