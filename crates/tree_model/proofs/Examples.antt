-- The replies of examples, and what their calls need, computed by the definitions.
use Rattle.std.specs.Prelude.{◌≡◌, [], ◌∷◌, codes, refl}
use Rattle.tree_model.specs.declared.call.Call.TheVariants as calls
use Rattle.tree_model.specs.Paths.{path_of}
use Rattle.tree_model.specs.Calls.{row, outcome, tree_after, reply_of, needs, used_zones, file_zones, mapped_groups}
use Rattle.tree_model.specs.laws.Examples.{new_tree, small_room, replies_to, needs_after, write_block, names_session, names_replies, moves_session, moves_replies, last_block_session, last_block_replies}

pub replies_to_names : replies_to small_room (new_tree 14) 1 names_session ≡ names_replies
unfolding reply_of tree_after outcome row path_of used_zones file_zones mapped_groups
replies_to_names = refl

pub replies_to_moves : replies_to small_room (new_tree 14) 1 moves_session ≡ moves_replies
unfolding reply_of tree_after outcome row path_of used_zones file_zones mapped_groups
replies_to_moves = refl

pub replies_to_last_block : replies_to small_room (new_tree 14) 1 last_block_session ≡ last_block_replies
unfolding reply_of tree_after outcome row path_of used_zones file_zones mapped_groups
replies_to_last_block = refl

pub first_block_needs : needs_after (calls.Create (codes "/f") ∷ []) (write_block 0) ≡ 1
unfolding needs tree_after outcome row path_of used_zones file_zones mapped_groups
first_block_needs = refl

pub indirect_needs : needs_after (calls.Create (codes "/f") ∷ []) (write_block 7) ≡ 2
unfolding needs tree_after outcome row path_of used_zones file_zones mapped_groups
indirect_needs = refl

pub double_indirect_needs : needs_after (calls.Create (codes "/f") ∷ []) (write_block 519) ≡ 3
unfolding needs tree_after outcome row path_of used_zones file_zones mapped_groups
double_indirect_needs = refl

pub same_group_needs : needs_after (calls.Create (codes "/f") ∷ write_block 519 ∷ []) (write_block 1030) ≡ 1
unfolding needs tree_after outcome row path_of used_zones file_zones mapped_groups
same_group_needs = refl

pub next_group_needs : needs_after (calls.Create (codes "/f") ∷ write_block 519 ∷ []) (write_block 1031) ≡ 2
unfolding needs tree_after outcome row path_of used_zones file_zones mapped_groups
next_group_needs = refl
