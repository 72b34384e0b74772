use Rattle.page_cache.specs.laws.Next.{next_is, next_none, next_in_file_is, next_in_file_none, dirty_none}
use Rattle.page_cache.proofs.laws.next_page_is_least.Goals as goal

pub returns : goal.returns
returns c = record {
  next = next_is;
  none = next_none;
  in_file = next_in_file_is;
  none_in_file = next_in_file_none;
  none_dirty = dirty_none;
}
