-- What the row of a write says where nothing refuses it, and which zones the write takes.
use Rattle.std.proofs.Common.{◌≡◌, ◌<◌, ℕ, ◌+◌, ◌-◌, nat_lt, false, List, [], ◌∷◌, length, Option, Some, Ok, refl, sym, ap, subst, ◌∙◌}
use Rattle.blk_base.specs.Members.{IsAscending}
use Rattle.blk_base.specs.laws.Members.{In-map}
use Rattle.tree_model.specs.declared.call.Call.TheVariants as calls
use Rattle.tree_model.specs.declared.call.Reply.TheVariants as replies
use Rattle.tree_model.specs.declared.node.Node.TheVariants as nodes
use Rattle.tree_model.specs.declared.node.File.{File}
use Rattle.tree_model.specs.Maps.{at_number}
use Rattle.tree_model.specs.Calls.{Tree, Row, Done, Found, and_then, refuse_if, leaves, walk_path, a_file, put_file, written_file, largest_size, row, write, used_zones}
use Rattle.volume_ops.specs.declared.found.Mapped.{Mapped}
use Rattle.volume_model.specs.declared.placed.Placed.{Placed}
use Rattle.volume_model.specs.declared.placed.Part.{Part}
use Rattle.volume_model.specs.declared.placed.Part.TheVariants as parts
use Rattle.volume_model.specs.Counts.{indices_of}
use Rattle.volume_model.specs.Trees.{node_from, node_now}
use Rattle.volume_model.specs.Volume.{zone_in, IsPart, IsFilePart}
use Rattle.volume_model.specs.laws.Counts.{IsIndexed}
use Rattle.volume_model.specs.laws.Holes.{rising_ascending}
use Rattle.volume_model.specs.laws.Indexed.{file_indexed}
use Rattle.volume_steps.specs.Now.{VolumeNow, tree_of_now}
use Rattle.volume_steps.specs.Plain.{IsInUse}
use Rattle.volume_steps.proofs.FileCalls.{needs_is}
use Rattle.volume_in_use.specs.bytes.MayWrite.{IsFileOf, wanted_zones}
use Rattle.volume_in_use.proofs.BytesLemmas.MayCall.{file_is, needs_wanted}
use Rattle.volume_calls.specs.code.Asked.{IsAsked}
use Rattle.volume_steps.proofs.TakeSteps.{file_of}

pub write_row : (tree : Tree) (path : List ℕ) (off : ℕ) (bytes : List ℕ) (found : Found) (f : File) → walk_path tree path ≡ Ok found → found.node ≡ nodes.File f → nat_lt largest_size (off + length bytes) ≡ false →
    write tree path off bytes ≡ leaves (put_file tree found.birth (written_file f off bytes))
write_row tree path off bytes found f walked is fits =
    ap (λ x. and_then x of_found) walked
    ∙ ap (λ node. and_then (a_file node) (of_file found)) is
    ∙ ap (λ test. refuse_if test replies.TooBig (done found f)) fits
  where
    done : Found → File → Row
    done found f = leaves (put_file tree found.birth (written_file f off bytes))

    of_file : Found → File → Row
    of_file found f = refuse_if (nat_lt largest_size (off + length bytes)) replies.TooBig (done found f)

    of_found : Found → Row
    of_found found = and_then (a_file found.node) (of_file found)

indices_rise : (zones : List Mapped) → IsAscending (λ (m : Mapped). m.index) zones → IsAscending (λ (i : ℕ). i) (indices_of zones)
indices_rise [] a = tt
indices_rise (x ∷ xs) a = (
  λ y i. (let w = In-map (λ (m : Mapped). m.index) xs y i in subst (λ (k : ℕ). x.index < k) w.2 (a.0 w.0 w.1)),
  indices_rise xs a.1,
)

-- a file of a volume
module _ (v : VolumeNow) (h : IsInUse v) (birth : ℕ) (p : Placed) (zones : List Mapped) (stands : at_number v.contents.nodes birth ≡ Some p) (is : p.part ≡ parts.File zones) where
  part : IsFilePart v.contents.blocks p.inode zones
  part = subst (IsPart v.geometry v.contents.blocks p.inode) is (h.volume.0.each birth p stands).part

  pub file_rises : IsAscending (λ (i : ℕ). i) (indices_of zones)
  file_rises = indices_rise zones (rising_ascending zones part.rising)

  pub file_maps : IsIndexed (λ x. zone_in v.contents.blocks p.inode x) (indices_of zones)
  file_maps = file_indexed v.geometry v.contents.blocks v.contents.nodes birth p zones h.volume.0 stands is (h.volume.1 birth p stands)

  same_zones : (o : IsFileOf v birth) → o.zones ≡ zones
  same_zones o =
      let one : ◌≡◌ {A = Option Placed} (Some o.placed) (Some p) = sym o.stands ∙ stands in
      let same : o.placed ≡ p = cc in
      let files : ◌≡◌ {A = Part} (parts.File o.zones) (parts.File zones) = sym o.is_file ∙ (ap (λ (q : Placed). q.part) same ∙ is) in
      cc

  module _ (path : List ℕ) (off : ℕ) (bytes : List ℕ) (walked : walk_path (tree_of_now v) path ≡ Ok (record { birth = birth; node = node_now v.contents.blocks p }))
      (fits : nat_lt largest_size (off + length bytes) ≡ false) where
    abbrev found : Found
    found = record { birth = birth; node = node_now v.contents.blocks p }

    abbrev done : Done
    done = record { tree = put_file (tree_of_now v) birth (written_file (file_of v.contents.blocks p zones) off bytes); takes_inode = false; reply = replies.Ok }

    done_is : write (tree_of_now v) path off bytes ≡ Ok done
    done_is = write_row (tree_of_now v) path off bytes found (file_of v.contents.blocks p zones) walked (ap (node_from v.contents.blocks p.inode) is) fits

    takes : wanted_zones (indices_of zones) off (length bytes) ≡ used_zones done.tree - used_zones (tree_of_now v)
    unfolding row
    takes =
        let c = calls.Bytes path off bytes in
        ap (λ zones. wanted_zones (indices_of zones) off (length bytes)) (sym (same_zones (file_is v h 0 c path off bytes done done_is refl found walked)))
        ∙ sym (needs_wanted v h 0 c path off bytes done done_is refl found walked)
        ∙ needs_is 0 v 0 c done done_is

    pub write_asked : (wanted : ℕ) → wanted ≡ wanted_zones (indices_of zones) off (length bytes) →
        IsAsked (tree_of_now v) (Ok (record { inode = false; zones = wanted })) (write (tree_of_now v) path off bytes)
    write_asked wanted e = subst (IsAsked (tree_of_now v) (Ok (record { inode = false; zones = wanted }))) (sym done_is) (refl, e ∙ takes)
