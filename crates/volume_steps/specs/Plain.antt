-- What a volume in use keeps: between the steps of a call, and between calls.
use Rattle.std.specs.Prelude.{◌≡◌, ℕ, ◌-◌, ◌↔◌, IsTrue, Bool, true, false, List, length, count_by, Some}
use Rattle.minix_layout.specs.Geometry.{IsSound}
use Rattle.tree_model.specs.declared.call.Call.{Call}
use Rattle.tree_model.specs.declared.call.Call.TheVariants as calls
use Rattle.tree_model.specs.Paths.{is_path_name}
use Rattle.tree_model.specs.Rooted.{HasEntry}
use Rattle.tree_model.specs.Calls.{used_zones}
use Rattle.minix_tables.specs.declared.zones.zone_state.ZoneState.TheVariants as states
use Rattle.minix_tables.specs.zones.Zones.{is_used, state_of}
use Rattle.volume_model.specs.Moves.{IsVolume}
use Rattle.volume_model.specs.Plain.{IsPlainContents, HasZone}
use Rattle.volume_steps.specs.Now.{VolumeNow, tree_of_now}

-- Between steps: the blocks say the nodes, and a zone is in use exactly where a node has it; as many are as the tree counts.
-- It does not hold within `add_name`, between `make_room` and `put_name_slot`: there a directory has a zone more than the
-- tree counts for its slots. So `add_name` is one step.
pub record IsInUse (v : VolumeNow) : Type 0 where
  pub sound : IsSound v.geometry
  pub volume : IsVolume v.geometry v.contents
  pub first : v.zones.first ≡ v.geometry.first
  pub size : length v.zones.states ≡ v.geometry.zones - v.geometry.first
  pub used : (zone : ℕ) → (state_of v.zones zone ≡ Some states.Used) ↔ HasZone v.contents zone
  pub counted : count_by is_used v.zones.states ≡ used_zones (tree_of_now v)

-- Between calls: it is plain besides, and its names are those that a path can have.
pub record IsPlainNow (v : VolumeNow) : Type 0 where
  pub in_use : IsInUse v
  pub plain : IsPlainContents v.geometry v.contents
  pub path_names : (parent : ℕ) (name : List ℕ) (birth : ℕ) → HasEntry (tree_of_now v) parent name birth → IsTrue (is_path_name name)

-- a call that writes or cuts a file
abbrev pub is_of_bytes : Call → Bool
is_of_bytes (calls.Write path off len value) = true
is_of_bytes (calls.Bytes path off bytes) = true
is_of_bytes (calls.Truncate path size) = true
is_of_bytes other = false
