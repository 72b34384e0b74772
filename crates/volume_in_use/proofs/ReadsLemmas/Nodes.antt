-- What a node of a plain volume answers.
use Rattle.std.proofs.Common.{◌≡◌, ℕ, ◌*◌, true, false, List, length, sym, ap, subst, ◌∙◌}
use Rattle.minix_layout.specs.Widths.{slot_size}
use Rattle.tree_model.specs.declared.call.Reply.TheVariants as replies
use Rattle.tree_model.specs.Calls.{reply_from}
use Rattle.volume_ops.specs.declared.found.Mapped.{Mapped}
use Rattle.volume_model.specs.declared.placed.Placed.{Placed}
use Rattle.volume_model.specs.declared.placed.Part.TheVariants as parts
use Rattle.volume_model.specs.declared.placed.DirectoryPart.{DirectoryPart}
use Rattle.volume_model.specs.Trees.{node_from, node_now}
use Rattle.volume_model.specs.Volume.{IsPart, IsFilePart, IsDirectoryPart, IsRising}
use Rattle.volume_steps.specs.Now.{VolumeNow, tree_of_now}
use Rattle.volume_in_use.specs.reads.Replies.{IsNodeIn, stat_at}

module _ (v : VolumeNow) (p : Placed) (h : IsNodeIn v p) where
  abbrev Blocks : List (List ℕ)
  Blocks = v.contents.blocks

  part_stands : IsPart v.geometry Blocks p.inode p.part
  part_stands = (h.plain.in_use.volume.0.each h.birth p h.stands).part

  pub file_rises : (zones : List Mapped) → p.part ≡ parts.File zones → IsRising zones
  file_rises zones is = let part : IsFilePart Blocks p.inode zones = subst (IsPart v.geometry Blocks p.inode) is part_stands in part.rising

  pub stat_directory : (d : DirectoryPart) → p.part ≡ parts.Directory d → replies.Stat true p.inode.size p.inode.links ≡ reply_from (stat_at (tree_of_now v) (node_now Blocks p))
  stat_directory d is =
      let part : IsDirectoryPart v.geometry Blocks p.inode d = subst (IsPart v.geometry Blocks p.inode) is part_stands in
      ap (λ size. replies.Stat true size p.inode.links) (part.size ∙ ap (λ width. slot_size width * length d.slots) (sym part.width))
      ∙ (ap (replies.Stat true (slot_size d.width * length d.slots)) (h.plain.plain.directory_links_are h.birth p d h.stands is)
      ∙ sym (ap (λ part. reply_from (stat_at (tree_of_now v) (node_from Blocks p.inode part))) is))

  pub stat_file : (zones : List Mapped) → p.part ≡ parts.File zones → replies.Stat false p.inode.size p.inode.links ≡ reply_from (stat_at (tree_of_now v) (node_now Blocks p))
  stat_file zones is = sym (ap (λ part. reply_from (stat_at (tree_of_now v) (node_from Blocks p.inode part))) is)
