use Rattle.page_cache.specs.laws.Maps.{page_at-put, page_at-drop, page_at-mark}
use Rattle.page_cache.proofs.laws.pages_are_a_map.Goals as goal

pub returns : goal.returns
returns c = record { put = page_at-put; dropped = page_at-drop; marked = page_at-mark }
