-- What a step finds: a page, what a call waits for, and which case it is.
use Rattle.std.proofs.Common.{◌≡◌, ℕ, zero, suc, Bool, List, [], ◌∷◌, Option, Some, None, slice_get, slice_index_or, refl, sym, ap, ◌∙◌}
use Rattle.std.specs.Prelude.{unwrap_or}
use Rattle.page_cache.specs.Pages.{page_at}
use Rattle.page_cache.specs.declared.cached_page.CachedPage.{CachedPage}
use Rattle.page_cache.specs.laws.Maps.{page_at-key}
use Rattle.flush_actor.specs.declared.wait.Wait.{Wait}
use Rattle.commit_actor.specs.Journal.{JournalPart}
use Rattle.host_machine.specs.Host.{goal_of, unsent_on}
use Rattle.host_machine.specs.State.{Begun}
use Rattle.host_core.specs.begun.Steps.{Gone, waits_durable, waits_for_commit, pursues, with_pages, sends_page, walks, goes_on}
use Rattle.host_core.specs.begun.code.Told.{went_by, gone_by}
use Rattle.host_core.specs.declared.begun.waiting.BegunProgress.{BegunProgress}

-- a page that was found is found by its own birth and index
pub found_by : (ps : List CachedPage) (f i : ℕ) (p : CachedPage) → page_at ps f i ≡ Some p → page_at ps p.birth p.index ≡ Some p
found_by ps f i p e =
    let key = page_at-key ps f i p e in
    ap (λ g. page_at ps g p.index) key.0 ∙ ap (λ j. page_at ps f j) key.1 ∙ e

-- what a thread's call waits for
pub wait_is : (ws : List Wait) (t : ℕ) (d : Wait) → unwrap_or (slice_get ws t) d ≡ slice_index_or ws t d
wait_is [] t d = refl
wait_is (w ∷ ws) zero d = refl
wait_is (w ∷ ws) (suc t) d = wait_is ws t d

-- ---- the cases of a step

module _ (q : Bool) (j j2 : JournalPart) (ps : List CachedPage) (t : ℕ) (w : Wait) (b : Begun) (p : BegunProgress) where
  needs_none : w.need ≡ None → goes_on q j ps t w b ≡ elim w.target as (λ _. Gone) [ Some k ↦ with_pages ps (waits_for_commit j t w k) | None ↦ walks q j ps t w b ]
  needs_none need = ap (λ (o : Option ℕ). elim o as (λ _. Gone) [
    | Some id ↦ with_pages ps (waits_durable j t w id)
    | None ↦ elim w.target as (λ _. Gone) [ Some k ↦ with_pages ps (waits_for_commit j t w k) | None ↦ walks q j ps t w b ]
  ]) need

  pub has_target : (k : ℕ) → w.need ≡ None → w.target ≡ Some k → went_by b.list j2 p ≡ waits_for_commit j t w k → gone_by b.list j2 ps p ≡ goes_on q j ps t w b
  has_target k need target e =
      ap (with_pages ps) e
      ∙ sym (needs_none need ∙ ap (λ (o : Option ℕ). elim o as (λ _. Gone) [ Some k ↦ with_pages ps (waits_for_commit j t w k) | None ↦ walks q j ps t w b ]) target)

  pub is_walking : (x : Gone) → w.need ≡ None → w.target ≡ None → x ≡ walks q j ps t w b → x ≡ goes_on q j ps t w b
  is_walking x need target e =
      e ∙ sym (needs_none need ∙ ap (λ (o : Option ℕ). elim o as (λ _. Gone) [ Some k ↦ with_pages ps (waits_for_commit j t w k) | None ↦ walks q j ps t w b ]) target)

  pub is_pursuing : w.need ≡ None → w.target ≡ None → unsent_on ps b.list ≡ None → went_by b.list j2 p ≡ pursues j t w (goal_of j b) → gone_by b.list j2 ps p ≡ goes_on q j ps t w b
  is_pursuing need target none e =
      is_walking (gone_by b.list j2 ps p) need target (ap (with_pages ps) e
      ∙ sym (ap (λ (o : Option (CachedPage × List (ℕ × ℕ))). elim o as (λ _. Gone) [ None ↦ with_pages ps (pursues j t w (goal_of j b)) | Some next ↦ sends_page q j ps b next ]) none))
