-- What holds of the fields of a cache.
use Rattle.std.specs.Prelude.{◌≡◌, ℕ, ◌≤◌, List, length}
use Rattle.page_cache.specs.Pages.{Cache, is_unsent, is_dirty, IsRising}
use Rattle.page_cache.specs.code.Keys.{keys_where}

-- the pages stand in order, the lists of the unsent and of the Dirty ones are those of their states, and there is room for
-- as many as there may be
pub record IsCache (pages : Cache) (unsent : List (ℕ × ℕ)) (unsent_capacity : ℕ) (dirty : List (ℕ × ℕ)) (dirty_capacity : ℕ) : Type 0 where
  pub rising : IsRising pages.pages
  pub most : length pages.pages ≤ pages.room
  pub unsent_listed : unsent ≡ keys_where is_unsent pages.pages
  pub dirty_listed : dirty ≡ keys_where is_dirty pages.pages
  pub enough_unsent : pages.room ≤ unsent_capacity
  pub enough_dirty : pages.room ≤ dirty_capacity
