-- Examples of refusals.
use Rattle.call_refusals.proofs.Examples.{kind_before_links, within_one_parent, name_before_links, name_before_file_links, links_before_space}
use Rattle.call_refusals.proofs.laws.the_order_of_rows_tells.Goals as goal

pub returns : goal.returns
returns c = record {
  kind_before_links = kind_before_links;
  within_one_parent = within_one_parent;
  name_before_links = name_before_links;
  name_before_file_links = name_before_file_links;
  links_before_space = links_before_space;
}
