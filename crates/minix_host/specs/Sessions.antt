-- The host's machine over volumes: the model, and the sessions on an opened volume.
use Rattle.std.specs.Prelude.{◌≡◌, ℕ, ◌+◌, List, [], ◌∷◌, Some, unwrap_or, slice_index}
use Rattle.std.specs.List.{range_with_len}
use Rattle.minix_layout.specs.declared.division.Geometry.{Geometry}
use Rattle.log_model.specs.Log.{Format}
use Rattle.journal_ring.specs.running.Plan.{Writers}
use Rattle.tree_model.specs.declared.call.Call.{Call}
use Rattle.tree_model.specs.declared.call.Reply.{Reply}
use Rattle.tree_model.specs.declared.call.Reply.TheVariants as replies
use Rattle.tree_model.specs.Histories.{block_at, maps_block}
use Rattle.tree_model.specs.Maps.{at_number}
use Rattle.volume_ops.specs.Volume.{disk_of}
use Rattle.volume_ops.specs.Walk.{walk_volume}
use Rattle.volume_model.specs.declared.placed.Placed.{Placed}
use Rattle.volume_steps.specs.Now.{VolumeNow, tree_of_now, room_of}
use Rattle.volume_steps.specs.Calls.{after_release}
use Rattle.volume_steps.specs.Plain.{IsPlainNow}
use Rattle.crash_laws.specs.Volumes.{WalkEnd}
use Rattle.host_machine.specs.Model.{Model}
use Rattle.host_machine.specs.laws.Contract.{Over}
use Rattle.minix_host.specs.ByteCalls.{ByteCall}
use Rattle.minix_host.specs.Calls.{kind_of, node_of, refusal, needed, would_change, done_as}
use Rattle.minix_host.specs.Paths.{place_in}
use Rattle.minix_host.specs.PlainTrees.{PlainTree, root_tree, tree_after_call, call_writes, call_alters}
use Rattle.minix_host.specs.Volumes.{HaveBytes, is_metadata, zone_of, zones_of}

-- Plain trees and volumes in use, of this division, from the tree that was opened on, and what has calls of the tree model.
-- The call that is entry n of a session has the number `first + n`, which no node of that tree has as its birth.
abbrev pub model_from : {C : Type 0} → (C → Call) → Geometry → PlainTree → ℕ → Model PlainTree VolumeNow C Reply
model_from call_of g opened first = record {
  kind = λ c. kind_of (call_of c);
  ok = replies.Ok;
  root = opened;
  call = λ t n c. tree_after_call (room_of g) t (first + n) (call_of c);
  maps = λ t f i. maps_block t.tree f i;
  content = λ t f i. unwrap_or (block_at t.tree f i) [];
  writes = λ t c f i. call_writes (room_of g) t (call_of c) f i;
  alters = λ t n c f. call_alters (room_of g) t (first + n) (call_of c) f;
  reply = λ v c. refusal v (call_of c);
  hinders = λ v c. would_change v (call_of c);
  needs = λ v c. needed v (call_of c);
  apply = λ v n k c. done_as v (first + n) k (call_of c);
  node = λ v c. node_of v (call_of c);
  zones = zones_of;
  release = after_release;
  bytes = λ v b. disk_of v.contents.blocks b;
  metadata = is_metadata;
  zone = zone_of;
}

-- the same from the root alone on, as on a new volume
abbrev pub model_of : {C : Type 0} → (C → Call) → Geometry → Model PlainTree VolumeNow C Reply
model_of call_of g = model_from call_of g (root_tree g.width) 0

-- the same with calls as code has them
abbrev pub model : Geometry → Model PlainTree VolumeNow ByteCall Reply
model g = model_of (λ c. c.call) g

-- A session: how the volume is divided, the zone of its root, the image that it was opened with, of volume and
-- journal, and how journal blocks are written and read.
pub record Opening : Type 0 where
  pub geometry : Geometry
  pub root : ℕ
  -- the tree that is opened, and a number above which its nodes have no birth
  pub tree : PlainTree
  pub first : ℕ
  -- the metadata of the image that calls may give up: zones of directories but the root's first one, and zones of numbers
  pub freeable : List ℕ
  pub image : List (List ℕ)
  pub writers : Writers
  pub format : Format
  -- the sequence of transaction 1, and how many log blocks a transaction may have
  pub sequence : ℕ
  pub quota : ℕ

-- The journal lies behind the zones. What stays metadata is what lies before them, and the root's zone.
abbrev pub over : Opening → Over WalkEnd PlainTree VolumeNow ByteCall Reply
over s = record {
  model = model_from (λ c. c.call) s.geometry s.tree s.first;
  setup = record { journal = s.geometry.zones; sequence = s.sequence; writers = s.writers; zmap = s.geometry.zmap; quota = s.quota };
  program = walk_volume s.geometry;
  place = λ found t f i. place_in found t.tree f i;
  base = s.image;
  format = s.format;
  reserved = s.root ∷ range_with_len 0 s.geometry.first;
  freeable = s.freeable;
}

-- the first block of the root has this zone
pub record HasRoot (v : VolumeNow) (zone : ℕ) : Type 0 where
  pub placed : Placed
  pub stands : at_number v.contents.nodes 0 ≡ Some placed
  pub zone_is : slice_index placed.inode.zones 0 ≡ zone

-- A volume in use of a session stands for a plain tree. Its blocks have bytes, and its root keeps the zone that it had.
pub record Stands (s : Opening) (v : VolumeNow) (t : PlainTree) : Type 0 where
  pub plain : IsPlainNow v
  pub geometry : v.geometry ≡ s.geometry
  pub tree : tree_of_now v ≡ t.tree
  pub root : HasRoot v s.root
  pub bytes : HaveBytes v.contents.blocks
