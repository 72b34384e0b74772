-- What a call makes of the parts is what it makes of the host.
use Rattle.std.proofs.Common.{◌≡◌, ℕ, ◌+◌, is_none, if◌then◌else◌, List, [], ◌∷◌, length, map, set, refl, ap, ◌∙◌}
use Rattle.page_cache.specs.Pages.{page_at, put_page, drop_page}
use Rattle.page_cache.specs.declared.cached_page.CachedPage.{CachedPage}
use Rattle.page_cache.specs.declared.cached_page.PageState.TheVariants.{Dirty}
use Rattle.volume_model.specs.Touched.{Page, Touched}
use Rattle.host_machine.specs.Host as machine
use Rattle.host_machine.specs.Model.{Model}
use Rattle.host_machine.specs.State.{Host, Setup}
use Rattle.host_core.specs.effects.Effects.{noted_part, dropped_pages, written_pages, taken_zones}
use Rattle.host_core.specs.effects.Parts.{file_block, told, after_change}

module _ {T V C R : Type 0} (M : Model T V C R) (u : Setup) where
  dropped_are : (ps : List CachedPage) (ds : List Page) → machine.dropped_pages M u ps (map file_block ds) ≡ dropped_pages ps ds
  dropped_are ps [] = refl
  dropped_are ps (d ∷ ds) = dropped_are (drop_page ps d.birth d.index) ds

  written_are : (v : V) (n : ℕ) (ps : List CachedPage) (ws : List Page) → machine.written_pages M u v n ps (map file_block ws) ≡ written_pages (M.bytes v) n ps ws
  written_are v n ps [] = refl
  written_are v n ps (w ∷ ws) = written_are v n (put_page ps (record { birth = w.birth; index = w.index; block = w.zone; body = M.bytes v w.zone; version = n; state = Dirty })) ws

  taken_are : (k : ℕ) (ps : List CachedPage) (owners : List ℕ) (ws : List Page) → machine.taken_zones M u k ps owners (map file_block ws) ≡ taken_zones k ps owners ws
  taken_are k ps owners [] = refl
  taken_are k ps owners (w ∷ ws) = taken_are k ps (if is_none (page_at ps w.birth w.index) then set owners w.zone k else owners) ws

  pub change_is : (s : Host V C R) (c : C) (v : V) (r : R) (t : Touched) → machine.change M u s c (record { volume = v; reply = r; touched = told t }) ≡ after_change M s v t
  change_is s c v r t =
      ap (λ x. with_pages (machine.written_pages M u v (length s.history + 1) x (map file_block t.pages)) (machine.taken_zones M u s.journal.running.number s.pages s.owners (map file_block t.pages))) (dropped_are s.pages t.dropped)
      ∙ ap (λ x. with_pages x (machine.taken_zones M u s.journal.running.number s.pages s.owners (map file_block t.pages))) (written_are v (length s.history + 1) (dropped_pages s.pages t.dropped) t.pages)
      ∙ ap (λ x. with_pages (written_pages (M.bytes v) (length s.history + 1) (dropped_pages s.pages t.dropped) t.pages) x) (taken_are s.journal.running.number s.pages s.owners t.pages)
    where
      with_pages : List CachedPage → List ℕ → Host V C R
      with_pages ps owners = record {
        journal = noted_part t s.journal;
        volume = v;
        pages = ps;
        owners = owners;
        history = s.history;
        cuts = s.cuts;
        threads = s.threads;
      }
