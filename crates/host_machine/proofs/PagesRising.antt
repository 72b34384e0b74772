-- Cached pages stand in the order of birth and index, so each stands once.
use Rattle.std.specs.Prelude.{ℕ, List, [], ◌∷◌}
use Rattle.page_cache.specs.Pages.{IsRising, put_page, drop_page}
use Rattle.page_cache.specs.declared.cached_page.CachedPage.{CachedPage}
use Rattle.page_cache.specs.laws.Order.{put-rising, drop-rising}
use Rattle.host_machine.proofs.PageMaps.{page_written}
use Rattle.host_machine.specs.Host.{dropped_pages, written_pages}
use Rattle.host_machine.specs.Model.{Model, FileBlock}
use Rattle.host_machine.specs.State.{Setup}

module _ {T V C R : Type 0} (M : Model T V C R) (u : Setup) where
  pub dropped-rising : (ps : List CachedPage) (ds : List FileBlock) → IsRising ps → IsRising (dropped_pages M u ps ds)
  dropped-rising ps [] r = r
  dropped-rising ps (d ∷ ds) r = dropped-rising (drop_page ps d.birth d.index) ds (drop-rising ps d.birth d.index r)

  pub written-rising : (v : V) (n : ℕ) (ps : List CachedPage) (ws : List FileBlock) → IsRising ps → IsRising (written_pages M u v n ps ws)
  written-rising v n ps [] r = r
  written-rising v n ps (w ∷ ws) r = written-rising v n (put_page ps (page_written M u v n w)) ws (put-rising ps (page_written M u v n w) r)
