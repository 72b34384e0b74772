-- What a changing call makes of the cached pages.
use Rattle.std.proofs.Common.{sym, ap, ◌∙◌, inl, inr, ⊎_elim, eqb-true, eq-eqb}
use Rattle.std.proofs.lemmas.Bool.{false≢true, and_from, and_parts}
use Rattle.std.proofs.lemmas.Option.{none-some, same_Some}
use Rattle.std.specs.Prelude.{◌≡◌, ℕ, ◌==◌, Bool, true, false, ◌&&◌, ◌⊎◌, List, [], ◌∷◌, Some, None, refl, if◌then◌else◌}
use Rattle.blk_base.specs.Members.{In}
use Rattle.page_cache.specs.Pages.{is_page, page_at, put_page, drop_page}
use Rattle.page_cache.specs.declared.cached_page.CachedPage.{CachedPage}
use Rattle.page_cache.specs.declared.cached_page.PageState.TheVariants.{Dirty}
use Rattle.page_cache.specs.laws.Maps.{is_page-same, same-is_page, page_at-put, page_at-drop}
use Rattle.host_machine.specs.Host.{dropped_pages, written_pages}
use Rattle.host_machine.specs.Model.{Model, FileBlock}
use Rattle.host_machine.specs.State.{Setup}

-- some of these is the block (f, i)
abbrev pub IsAmong : List FileBlock → ℕ → ℕ → Type 0
IsAmong ws f i = (w : FileBlock) × In w ws × (w.birth ≡ f) × (w.index ≡ i)

module _ {T V C R : Type 0} (M : Model T V C R) (u : Setup) where
  dropped_one : (ps : List CachedPage) (d : FileBlock) (f i : ℕ) (p : CachedPage) → page_at (drop_page ps d.birth d.index) f i ≡ Some p
      → (page_at ps f i ≡ Some p) × ((d.birth ≡ f) × (d.index ≡ i) → ⊥)
  dropped_one ps d f i p e = by (d.birth == f && d.index == i) refl (sym (page_at-drop ps d.birth d.index f i) ∙ e)
    where
      by : (t : Bool) → (d.birth == f && d.index == i) ≡ t → (if t then None else page_at ps f i) ≡ Some p → (page_at ps f i ≡ Some p) × ((d.birth ≡ f) × (d.index ≡ i) → ⊥)
      by true t q = absurd (none-some p q)
      by false t q = (q, λ k. false≢true (sym t ∙ and_from (d.birth == f) (d.index == i) (eq-eqb d.birth f k.0) (eq-eqb d.index i k.1)))

  pub dropped-left : (ps : List CachedPage) (ds : List FileBlock) (f i : ℕ) (p : CachedPage) → page_at (dropped_pages M u ps ds) f i ≡ Some p
      → (page_at ps f i ≡ Some p) × (IsAmong ds f i → ⊥)
  dropped-left ps [] f i p e = (e, λ a. absurd a.1)
  dropped-left ps (d ∷ ds) f i p e =
      let r = dropped-left (drop_page ps d.birth d.index) ds f i p e in
      let o = dropped_one ps d f i p r.0 in
      (o.0, λ a. ⊎_elim (λ q. o.1 (ap (λ (w : FileBlock). w.birth) q ∙ a.2, ap (λ (w : FileBlock). w.index) q ∙ a.3)) (λ j. r.1 (a.0, j, a.2, a.3)) a.1)

  not_dropped : (ps : List CachedPage) (d : FileBlock) (f i : ℕ) (p : CachedPage) → page_at ps f i ≡ Some p → ((d.birth ≡ f) × (d.index ≡ i) → ⊥)
      → page_at (drop_page ps d.birth d.index) f i ≡ Some p
  not_dropped ps d f i p e n = page_at-drop ps d.birth d.index f i ∙ by (d.birth == f && d.index == i) refl
    where
      by : (t : Bool) → (d.birth == f && d.index == i) ≡ t → (if t then None else page_at ps f i) ≡ Some p
      by true t = let k = and_parts (d.birth == f) (d.index == i) t in absurd (n (eqb-true d.birth f k.0, eqb-true d.index i k.1))
      by false t = e

  pub left-dropped : (ps : List CachedPage) (ds : List FileBlock) (f i : ℕ) (p : CachedPage) → page_at ps f i ≡ Some p → (IsAmong ds f i → ⊥)
      → page_at (dropped_pages M u ps ds) f i ≡ Some p
  left-dropped ps [] f i p e n = e
  left-dropped ps (d ∷ ds) f i p e n =
      left-dropped (drop_page ps d.birth d.index) ds f i p (not_dropped ps d f i p e (λ k. n (d, inl refl, k.0, k.1))) (λ a. n (a.0, inr a.1, a.2, a.3))

  -- the page that a write leaves
  abbrev pub page_written : V → ℕ → FileBlock → CachedPage
  page_written v n w = record { birth = w.birth; index = w.index; block = w.block; body = M.bytes v w.block; version = n; state = Dirty }

  pub written-cases : (v : V) (n : ℕ) (ps : List CachedPage) (ws : List FileBlock) (f i : ℕ) (p : CachedPage) → page_at (written_pages M u v n ps ws) f i ≡ Some p
      → ((w : FileBlock) × In w ws × (w.birth ≡ f) × (w.index ≡ i) × (page_written v n w ≡ p)) ⊎ ((page_at ps f i ≡ Some p) × (IsAmong ws f i → ⊥))
  written-cases v n ps [] f i p e = inr (e, λ a. absurd a.1)
  written-cases v n ps (w ∷ ws) f i p e =
      ⊎_elim
      (λ l. inl (l.0, inr l.1, l.2, l.3, l.4))
      (λ r. by (is_page (page_written v n w) f i) refl (sym (page_at-put ps (page_written v n w) f i) ∙ r.0) r.1)
      (written-cases v n (put_page ps (page_written v n w)) ws f i p e)
    where
      by : (t : Bool) → is_page (page_written v n w) f i ≡ t → (if t then Some (page_written v n w) else page_at ps f i) ≡ Some p → (IsAmong ws f i → ⊥)
          → ((x : FileBlock) × In x (w ∷ ws) × (x.birth ≡ f) × (x.index ≡ i) × (page_written v n x ≡ p)) ⊎ ((page_at ps f i ≡ Some p) × (IsAmong (w ∷ ws) f i → ⊥))
      by true t q none = let k = is_page-same (page_written v n w) f i t in inl (w, inl refl, k.0, k.1, same_Some (page_written v n w) p q)
      by false t q none =
          inr (
            q,
            λ a.
                ⊎_elim
                (λ x. false≢true (sym t ∙ same-is_page (page_written v n w) f i (ap (λ (y : FileBlock). y.birth) x ∙ a.2) (ap (λ (y : FileBlock). y.index) x ∙ a.3)))
                (λ j. none (a.0, j, a.2, a.3))
                a.1,
          )

  pub written-stays : (v : V) (n : ℕ) (ps : List CachedPage) (ws : List FileBlock) (f i : ℕ) (p : CachedPage) → page_at ps f i ≡ Some p
      → (q : CachedPage) × (page_at (written_pages M u v n ps ws) f i ≡ Some q)
  written-stays v n ps [] f i p e = (p, e)
  written-stays v n ps (w ∷ ws) f i p e =
      let r = by (is_page (page_written v n w) f i) in
      written-stays v n (put_page ps (page_written v n w)) ws f i r.0 (page_at-put ps (page_written v n w) f i ∙ r.1)
    where
      by : (t : Bool) → (q : CachedPage) × ((if t then Some (page_written v n w) else page_at ps f i) ≡ Some q)
      by true = (page_written v n w, refl)
      by false = (p, e)

  pub among-written : (v : V) (n : ℕ) (ps : List CachedPage) (ws : List FileBlock) (f i : ℕ) → IsAmong ws f i
      → (q : CachedPage) × (page_at (written_pages M u v n ps ws) f i ≡ Some q)
  among-written v n ps [] f i a = absurd a.1
  among-written v n ps (w ∷ ws) f i (x, inr j, e, d) = among-written v n (put_page ps (page_written v n w)) ws f i (x, j, e, d)
  among-written v n ps (w ∷ ws) f i (x, inl q, e, d) =
      written-stays v n (put_page ps (page_written v n w)) ws f i (page_written v n w)
      (page_at-put ps (page_written v n w) f i
      ∙ ap (λ t. if t then Some (page_written v n w) else page_at ps f i) (same-is_page (page_written v n w) f i (ap (λ (y : FileBlock). y.birth) q ∙ e) (ap (λ (y : FileBlock). y.index) q ∙ d)))
