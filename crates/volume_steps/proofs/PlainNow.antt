-- A plain volume in use has a plain tree, and what a call leaves is plain where its tree is.
use Rattle.std.specs.Prelude.{◌≡◌, ℕ, Some, refl}
use Rattle.std.proofs.Common.{sym, ap, subst, ◌∙◌}
use Rattle.tree_model.specs.declared.node.File.{File}
use Rattle.tree_model.specs.declared.node.Node.TheVariants as nodes
use Rattle.tree_model.specs.Maps.{at_number}
use Rattle.tree_model.specs.Plain.{IsPlain}
use Rattle.tree_model.specs.Trees.{directory_links}
use Rattle.volume_ops.specs.Volume.{bodies_of}
use Rattle.volume_model.specs.declared.placed.Placed.{Placed}
use Rattle.volume_model.specs.declared.placed.Part.{Part}
use Rattle.volume_model.specs.declared.placed.Part.TheVariants as parts
use Rattle.volume_model.specs.declared.placed.DirectoryPart.{DirectoryPart}
use Rattle.volume_model.specs.Trees.{directory_from, node_from, node_now}
use Rattle.volume_model.specs.Volume.{IsPart}
use Rattle.volume_steps.specs.Now.{VolumeNow, tree_of_now}
use Rattle.volume_steps.specs.Plain.{IsInUse, IsPlainNow}
use Rattle.volume_steps.proofs.FileSteps.{file_at}
use Rattle.volume_steps.proofs.Files.{node_is_file}
use Rattle.volume_steps.proofs.NodeSteps.{IsSettled, AreSlotted}
use Rattle.volume_steps.proofs.TreeSteps.{tree_at, tree_back}

-- nodes that a volume stands for are directories and files
no_other_node : (v : VolumeNow) (birth mode : ℕ) → at_number (tree_of_now v) birth ≡ Some (nodes.Other mode) → ⊥
no_other_node v birth mode found =
    let w = tree_back v.contents.blocks v.contents.nodes birth (nodes.Other mode) found in
    by w.0 w.0.part refl w.2
  where
    by : (p : Placed) (part : Part) → p.part ≡ part → node_now v.contents.blocks p ≡ nodes.Other mode → ⊥
    by p (parts.Directory d) is e = cc (sym (ap (node_from v.contents.blocks p.inode) is) ∙ e)
    by p (parts.File zones) is e = cc (sym (ap (node_from v.contents.blocks p.inode) is) ∙ e)

pub tree_is_plain : (v : VolumeNow) → IsPlainNow v → IsPlain (tree_of_now v)
tree_is_plain v h = record {
  rooted = h.plain.rooted;
  no_other = no_other_node v;
  plain_names = h.path_names;
  links = λ birth f found.
      let x = file_at v h.in_use birth f found in
      ap (λ (f : File). f.links) x.file ∙ h.plain.file_links_are birth x.placed x.zones x.stands x.is_file;
  parents = h.plain.parents;
  root_parent = h.plain.root_parent;
}

-- what directories have as their links
abbrev pub HasDirectoryLinks : VolumeNow → Type 0
HasDirectoryLinks v = (birth : ℕ) (p : Placed) (d : DirectoryPart) → at_number v.contents.nodes birth ≡ Some p → p.part ≡ parts.Directory d → p.inode.links ≡ directory_links (tree_of_now v) (directory_from d)

pub settled_before : (v : VolumeNow) → IsPlainNow v → IsSettled v.contents
settled_before v h = record { root_number = h.plain.root_number; sizes = h.plain.sizes; dots = h.plain.dots; few_links = h.plain.few_links }

pub slotted_before : (v : VolumeNow) → IsPlainNow v → AreSlotted v.geometry (λ a. ⊥) v.contents
slotted_before v h birth p d at is none = h.plain.slot_zones birth p d at is

-- A volume in use is plain where its tree is, and what the tree does not say holds.
pub plain_now : (v : VolumeNow) → IsInUse v → IsPlain (tree_of_now v) → IsSettled v.contents → AreSlotted v.geometry (λ a. ⊥) v.contents → HasDirectoryLinks v → IsPlainNow v
plain_now v h tree settled slotted links = record {
  in_use = h;
  plain = record {
    volume = h.volume;
    rooted = tree.rooted;
    root_number = settled.root_number;
    root_parent = tree.root_parent;
    parents = tree.parents;
    sizes = settled.sizes;
    dots = settled.dots;
    slot_zones = λ birth p d at is. slotted birth p d at is (λ z. z);
    directory_links_are = links;
    file_links_are = λ birth p zones at is.
        let part = subst (IsPart v.geometry v.contents.blocks p.inode) is (h.volume.0.each birth p at).part in
        tree.links birth (record { size = p.inode.size; links = p.inode.links; blocks = bodies_of v.contents.blocks zones })
        (tree_at v.contents.blocks v.contents.nodes birth p at ∙ ap Some (node_is_file v.contents.blocks p zones is part.rising));
    few_links = settled.few_links;
  };
  path_names = tree.plain_names;
}
