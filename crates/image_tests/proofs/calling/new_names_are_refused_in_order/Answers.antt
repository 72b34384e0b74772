use Rattle.image_tests.proofs.CallRules.{mkdir_exists, mkdir_links, mkdir_slots, create_exists, create_slots, link_exists, link_links, link_slots}
use Rattle.image_tests.proofs.calling.new_names_are_refused_in_order.Goals as goal

pub returns : goal.returns
returns c = record {
  mkdir_exists = mkdir_exists;
  mkdir_links = mkdir_links;
  mkdir_slots = mkdir_slots;
  create_exists = create_exists;
  create_slots = create_slots;
  link_exists = link_exists;
  link_links = link_links;
  link_slots = link_slots;
}
