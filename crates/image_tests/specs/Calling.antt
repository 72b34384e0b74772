-- Words for laws of calls: where a path would put a name, and a tree and a session to try calls on.
use Rattle.std.specs.Prelude.{◌≡◌, ℕ, ◌≤◌, ◌+◌, List, [], ◌∷◌, ◌++◌, length, map, replicate, take, codes, Option, Some, option_map}
use Rattle.std.specs.List.{range_with_len}
use Rattle.minix_layout.specs.Widths.{most_slots}
use Rattle.tree_model.specs.declared.call.Call.{Call}
use Rattle.tree_model.specs.declared.call.Call.TheVariants as calls
use Rattle.tree_model.specs.declared.node.Node.TheVariants as nodes
use Rattle.tree_model.specs.declared.node.Directory.{Directory}
use Rattle.tree_model.specs.Paths.{path_of}
use Rattle.tree_model.specs.Calls.{Tree}
use Rattle.tree_model.specs.Maps.{at_number}
use Rattle.tree_model.specs.Causes.{IsInDirectory}
use Rattle.minix_tables.specs.zones.Zones.{made}
use Rattle.volume_model.specs.declared.placed.Placed.{Placed}
use Rattle.volume_model.specs.declared.placed.Part.TheVariants as parts
use Rattle.volume_model.specs.NewVolume.{new_volume}
use Rattle.volume_steps.specs.Now.{VolumeNow}
use Rattle.volume_steps.specs.Steps.{dot_slots}
use Rattle.volume_steps.specs.laws.Sample.{small_geometry}

-- a path leads to this directory, and then to this name, which is not too long for it
pub record GoesTo (tree : Tree) (path : List ℕ) (d : Directory) (name : List ℕ) : Type 0 where
  pub names : List (List ℕ)
  pub named : path_of path ≡ Some names
  pub within : IsInDirectory tree names d name
  pub short : length name ≤ d.width

-- a directory without a free slot, and with as many as it can have
pub record HasAllSlots (d : Directory) : Type 0 where
  pub none_free : d.slots ≤ length d.names + 2
  pub most : most_slots d.width ≤ d.slots

-- the root has a directory `a` and a file `f`, and `a` has a directory `b`
abbrev pub three_names : Tree
three_names =
    (0, nodes.Directory (record { parent = 0; width = 14; slots = 4; names = (codes "a", 1) ∷ (codes "f", 3) ∷ [] }))
    ∷ (1, nodes.Directory (record { parent = 0; width = 14; slots = 3; names = (codes "b", 2) ∷ [] }))
    ∷ (2, nodes.Directory (record { parent = 1; width = 14; slots = 2; names = [] }))
    ∷ (3, nodes.File (record { size = 0; links = 1; blocks = [] }))
    ∷ []

-- a file goes, and a directory comes then
abbrev pub replacing_session : List Call
replacing_session =
    calls.Mkdir (codes "/a") ∷ calls.Create (codes "/b") ∷ calls.Create (codes "/c")
    ∷ calls.Unlink (codes "/b") ∷ calls.Mkdir (codes "/d") ∷ []

-- ---- a root with all its slots in use

-- the root has 62 names of one byte each, all of one file, and so fills the 64 slots of its block
abbrev pub byte_names : List (List ℕ)
byte_names = map (λ k. k ∷ []) (range_with_len 1 62)

abbrev pub full_root : VolumeNow
full_root = record {
  geometry = small_geometry;
  contents = record {
    blocks = (new_volume small_geometry).blocks;
    nodes = (
      0,
      record {
        number = 1;
        inode = record { mode = 0x41ED; uid = 0; size = 1024; time = 0; gid = 0; links = 2; zones = 5 ∷ replicate 8 0 };
        part = parts.Directory (record {
          parent = 0;
          width = 14;
          names = map (λ name. (name, 1)) byte_names;
          slots = dot_slots 1 1 ++ map (λ name. Some (record { inode = 2; name = name })) byte_names;
        });
      },
    )
        ∷ (
          1,
          record {
            number = 2;
            inode = record { mode = 0x81A4; uid = 0; size = 0; time = 0; gid = 0; links = 62; zones = replicate 9 0 };
            part = parts.File [];
          },
        )
        ∷ [];
  };
  zones = made small_geometry (5 ∷ []);
}

-- the zones of the first two blocks of a node
abbrev pub first_zones_of : VolumeNow → ℕ → Option (List ℕ)
first_zones_of v birth = option_map (λ (p : Placed). take 2 p.inode.zones) (at_number v.contents.nodes birth)
