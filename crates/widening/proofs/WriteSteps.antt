-- What is written of one directory.
use Rattle.std.specs.Prelude.{◌≡◌, ℕ, ◌+◌, ◌-◌, ◌<◌, ◌≤◌, ◌||◌, nat_lt, true, false, if◌then◌else◌, List, [], ◌∷◌, ◌++◌, length, take, drop, slice_index, Ok, Err}
use Rattle.std.proofs.Common.{sym, ap, ◌∙◌, arith}
use Rattle.std.proofs.lemmas.Bool.{lt-ltb, le-ltb}
use Rattle.std.proofs.lemmas.List.{length-map, length-drop, take_all}
use Rattle.std.proofs.Math.Seq.{drop-append_seam}
use Rattle.minix_layout.specs.declared.division.Geometry.{Geometry}
use Rattle.minix_layout.specs.declared.inode.Inode.{Inode}
use Rattle.minix_layout.specs.declared.slot.Slot.{Slot}
use Rattle.tree_model.specs.declared.node.Directory.{Directory}
use Rattle.volume_ops.specs.VolumeFields.{inode_at}
use Rattle.volume_model.specs.Edits.{Edit, put_inode, edited, edited_all}
use Rattle.widening.specs.declared.fault.WidenFault.TheVariants as faults
use Rattle.widening.specs.Directories.{zones_needed, all_needed, indirect_of, kept_by, own_zones, slot_named, wide_slots, bit_edits, slot_edits, number_edits, wide_inode, edits_of, left_by}
use Rattle.widening.specs.code.Steps.{Widening, write_edits, taken_by, directory_written}
use Rattle.widening.proofs.RoomSteps.{edited_append}

-- a part up to the end
pub whole_part : (n : ℕ) (zs : List ℕ) → take (length zs - n) (drop n zs) ≡ drop n zs
whole_part n zs = take_all (length zs - n) (drop n zs) (let size = length-drop n zs in omega arith)

-- ---- one write after the other

module _ (g : Geometry) (number : ℕ) (i : Inode) (slots : List Slot) (zones : List ℕ) (own needed kept : ℕ) (first : List (List ℕ)) where
  abbrev set : List Edit
  set = bit_edits g true (drop own zones)

  abbrev cleared : List Edit
  cleared = bit_edits g false (drop (all_needed needed kept) zones)

  abbrev named : List Edit
  named = slot_edits (take needed zones) slots

  abbrev numbered : List Edit
  numbered = number_edits (indirect_of zones needed kept) (take needed zones)

  abbrev last : Edit
  last = put_inode number (wide_inode i (length slots) (take needed zones) (indirect_of zones needed kept))

  pub in_turn : edited g (edited_all g (edited_all g (edited_all g (edited_all g first set) cleared) named) numbered) last ≡ edited_all g first (write_edits g number i slots zones own needed kept)
  in_turn =
      sym (edited_append g first set (cleared ++ (named ++ (numbered ++ last ∷ [])))
      ∙ (edited_append g (edited_all g first set) cleared (named ++ (numbered ++ last ∷ []))
      ∙ (edited_append g (edited_all g (edited_all g first set) cleared) named (numbered ++ last ∷ [])
      ∙ edited_append g (edited_all g (edited_all g (edited_all g first set) cleared) named) numbered (last ∷ []))))

-- the same by the images between, and by what was computed before
module _ (g : Geometry) (number : ℕ) (i : Inode) (slots : List Slot) (zones : List ℕ) (own needed kept : ℕ) (first : List (List ℕ)) where
  module _ (zs : List ℕ) (all indirect : ℕ) (inode : Inode) (zones_is : zs ≡ zones) (all_is : all ≡ all_needed needed kept) (indirect_is : indirect ≡ indirect_of zs needed kept)
      (inode_is : inode ≡ wide_inode i (length slots) (take needed zs) indirect) where
    abbrev before : ℕ → List (List ℕ)
    before n = edited_all g (edited_all g (edited_all g first (bit_edits g true (drop own zs))) (bit_edits g false (drop n zs))) (slot_edits (take needed zs) slots)

    abbrev ended : ℕ → ℕ → Inode → List (List ℕ)
    ended n k j = edited g (edited_all g (before n) (number_edits k (take needed zs))) (put_inode number j)

    pub all_in_turn : (a b c d e : List (List ℕ)) → a ≡ edited_all g first (bit_edits g true (drop own zs)) → b ≡ edited_all g a (bit_edits g false (drop all zs)) → c ≡ edited_all g b (slot_edits (take needed zs) slots) →
        d ≡ edited_all g c (number_edits indirect (take needed zs)) → e ≡ edited g d (put_inode number inode) → e ≡ edited_all g first (write_edits g number i slots zones own needed kept)
    all_in_turn a b c d e a_is b_is c_is d_is e_is =
        e_is
        ∙ (ap (λ x. edited g x (put_inode number inode)) (d_is ∙ ap (λ x. edited_all g x (number_edits indirect (take needed zs)))
        (c_is ∙ ap (λ x. edited_all g x (slot_edits (take needed zs) slots)) (b_is ∙ ap (λ x. edited_all g x (bit_edits g false (drop all zs))) a_is)))
        ∙ (ap (λ n. ended n indirect inode) all_is
        ∙ (ap (λ j. ended (all_needed needed kept) indirect j) inode_is
        ∙ (ap (λ k. ended (all_needed needed kept) k (wide_inode i (length slots) (take needed zs) k)) indirect_is
        ∙ (in_turn g number i slots zs own needed kept first
        ∙ ap (λ ys. edited_all g first (write_edits g number i slots ys own needed kept)) zones_is)))))

-- ---- a directory

module _ (g : Geometry) (blocks : List (List ℕ)) (number : ℕ) (d : Directory) (w : Widening) where
  abbrev inode : Inode
  inode = inode_at g blocks number

  abbrev need : ℕ
  need = zones_needed (length d.names)

  abbrev own : List ℕ
  own = own_zones blocks inode need

  abbrev taken : ℕ
  taken = taken_by inode blocks need

  pub too_many : 519 < need → directory_written g blocks number d w ≡ Err faults.NoRoom
  too_many many = ap (λ b. if b || nat_lt (length w.free) taken then Err faults.NoRoom else Ok (record { image = edited_all g w.image (edits_of g blocks number d w.free); free = left_by g blocks number d w.free })) (lt-ltb 519 need many)

  room_is : nat_lt 519 need ≡ false → length w.free < taken → (nat_lt 519 need || nat_lt (length w.free) taken) ≡ true
  room_is few less = ap (λ b. b || nat_lt (length w.free) taken) few ∙ lt-ltb (length w.free) taken less

  pub too_few : need ≤ 519 → length w.free < taken → directory_written g blocks number d w ≡ Err faults.NoRoom
  too_few few less = ap (λ b. if b then Err faults.NoRoom else Ok (record { image = edited_all g w.image (edits_of g blocks number d w.free); free = left_by g blocks number d w.free })) (room_is (le-ltb 519 need few) less)

  pub enough : need ≤ 519 → taken ≤ length w.free → directory_written g blocks number d w ≡ Ok (record { image = edited_all g w.image (edits_of g blocks number d w.free); free = left_by g blocks number d w.free })
  enough few room = ap (λ b. if b then Err faults.NoRoom else Ok (record { image = edited_all g w.image (edits_of g blocks number d w.free); free = left_by g blocks number d w.free }))
      (ap (λ b. b || nat_lt (length w.free) taken) (le-ltb 519 need few) ∙ le-ltb (length w.free) taken room)

  -- the edits by the zones that it has
  length-slots : length (wide_slots number d) ≡ length d.names + 2
  length-slots = let same = length-map d.names slot_named in omega (arith, same)

  pub same_edits : (zones : List ℕ) (slots : List Slot) → zones ≡ own ++ take taken w.free → slots ≡ wide_slots number d →
      write_edits g number inode slots zones (length own) need (kept_by inode need) ≡ edits_of g blocks number d w.free
  same_edits zones slots is named =
      ap (λ zs. write_edits g number inode slots zs (length own) need (kept_by inode need)) is
      ∙ (ap (λ ss. write_edits g number inode ss (own ++ take taken w.free) (length own) need (kept_by inode need)) named
      ∙ (ap (λ zs. bit_edits g true zs ++ (bit_edits g false (drop (all_needed need (kept_by inode need)) (own ++ take taken w.free))
      ++ (slot_edits (take need (own ++ take taken w.free)) (wide_slots number d)
      ++ (number_edits (indirect_of (own ++ take taken w.free) need (kept_by inode need)) (take need (own ++ take taken w.free))
      ++ put_inode number (wide_inode inode (length (wide_slots number d)) (take need (own ++ take taken w.free)) (indirect_of (own ++ take taken w.free) need (kept_by inode need))) ∷ []))))
      (drop-append_seam own (take taken w.free))
      ∙ ap (λ n. bit_edits g true (take taken w.free) ++ (bit_edits g false (drop (all_needed need (kept_by inode need)) (own ++ take taken w.free))
      ++ (slot_edits (take need (own ++ take taken w.free)) (wide_slots number d)
      ++ (number_edits (indirect_of (own ++ take taken w.free) need (kept_by inode need)) (take need (own ++ take taken w.free))
      ++ put_inode number (wide_inode inode n (take need (own ++ take taken w.free)) (indirect_of (own ++ take taken w.free) need (kept_by inode need))) ∷ []))))
      length-slots))

pub kept_there : (i : Inode) (needed kept : ℕ) → 7 < needed → kept ≡ slice_index i.zones 7 → kept ≡ kept_by i needed
kept_there i needed kept more e = e ∙ sym (ap (λ b. if b then slice_index i.zones 7 else 0) (lt-ltb 7 needed more))

pub kept_none : (i : Inode) (needed kept : ℕ) → needed ≤ 7 → kept ≡ 0 → kept ≡ kept_by i needed
kept_none i needed kept few e = e ∙ sym (ap (λ b. if b then slice_index i.zones 7 else 0) (le-ltb 7 needed few))

module _ (g : Geometry) (blocks : List (List ℕ)) (number : ℕ) (d : Directory) (w : Widening) (needed : ℕ) (inode : Inode) (kept own taken : ℕ) (zones : List ℕ) (slots : List Slot) (image : List (List ℕ)) (free : List ℕ)
    (need_is : needed ≡ zones_needed (length d.names)) (inode_is : inode ≡ inode_at g blocks number) (kept_is : kept ≡ kept_by inode needed) (own_is : own ≡ length (own_zones blocks inode needed)) where
  abbrev I : Inode
  I = inode_at g blocks number

  abbrev N : ℕ
  N = zones_needed (length d.names)

  kept_so : kept ≡ kept_by I N
  kept_so = kept_is ∙ (ap (λ i. kept_by i needed) inode_is ∙ ap (kept_by I) need_is)

  own_so : own ≡ length (own_zones blocks I N)
  own_so = own_is ∙ (ap (λ i. length (own_zones blocks i needed)) inode_is ∙ ap (λ n. length (own_zones blocks I n)) need_is)

  module _ (taken_is : taken ≡ all_needed needed kept - own) (zones_are : zones ≡ own_zones blocks inode needed ++ take taken w.free) (slots_are : slots ≡ wide_slots number d) where
    taken_so : taken ≡ taken_by I blocks N
    taken_so = taken_is ∙ (ap (λ n. all_needed n kept - own) need_is ∙ (ap (λ k. all_needed N k - own) kept_so ∙ ap (λ o. all_needed N (kept_by I N) - o) own_so))

    zones_so : zones ≡ own_zones blocks I N ++ take (taken_by I blocks N) w.free
    zones_so = zones_are ∙ (ap (λ i. own_zones blocks i needed ++ take taken w.free) inode_is
        ∙ (ap (λ n. own_zones blocks I n ++ take taken w.free) need_is ∙ ap (λ t. own_zones blocks I N ++ take t w.free) taken_so))

    edits_so : write_edits g number inode slots zones own needed kept ≡ edits_of g blocks number d w.free
    edits_so =
        ap (λ i. write_edits g number i slots zones own needed kept) inode_is
        ∙ (ap (λ n. write_edits g number I slots zones own n kept) need_is
        ∙ (ap (λ k. write_edits g number I slots zones own N k) kept_so
        ∙ (ap (λ o. write_edits g number I slots zones o N (kept_by I N)) own_so
        ∙ same_edits g blocks number d w zones slots zones_so slots_are)))

    pub written_ok : needed ≤ 519 → taken ≤ length w.free → image ≡ edited_all g w.image (write_edits g number inode slots zones own needed kept) → free ≡ drop taken w.free →
        directory_written g blocks number d w ≡ Ok (record { image = image; free = free })
    written_ok few room image_is free_is =
        enough g blocks number d w (omega (arith, few, need_is)) (omega (arith, room, taken_so))
        ∙ (ap (λ f. Ok (record { image = edited_all g w.image (edits_of g blocks number d w.free); free = f })) (sym (free_is ∙ ap (λ t. drop t w.free) taken_so))
        ∙ ap (λ i. Ok (record { image = i; free = free })) (sym (image_is ∙ ap (λ es. edited_all g w.image es) edits_so)))
