-- The log with what its code keeps beside the pages.
use Rattle.std.specs.Prelude.{◌≡◌, ℕ, ◌<◌, List, length, Option, Some, slice_get}
use Rattle.flog_device.specs.Log.{Place, Page, prefix, places}
use Rattle.flog_device.specs.Device.{programs}
use Rattle.flog_device.specs.laws.LogFacts.{top}
use Rattle.flog_device.specs.declared.page_log.PageLog.TheInside.{Inside}

-- the pages, how many there is room for, and how many blocks the area has
pub record Logged : Type 0 where
  pub items : List Page
  pub capacity : ℕ
  pub area : ℕ

-- the page is of a block that is there
abbrev pub IsIn : ℕ → Page → Type 0
IsIn blocks p = p.place.block < blocks

-- for each block the part of the last of these places that has it
abbrev pub AreLast : List (Option ℕ) → List Place → Type 0
AreLast last ps = (b : ℕ) → b < length last → slice_get last b ≡ Some (top ps b)

-- what is kept beside the pages says of them what it is to say
pub record IsLogged (l : Inside) : Type 0 where
  pub kept : l.kept ≡ length (prefix l.pages.items)
  pub unprogrammed : l.unprogrammed ≡ length (programs 0 l.pages.items)
  pub last : AreLast l.last.items (places (prefix l.pages.items))
