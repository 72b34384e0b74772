-- The widened volume of a clean volume agrees with its tree.
use Rattle.std.specs.Prelude.{◌≡◌, ◌≢◌, ℕ, ◌<◌, ◌≤◌, ◌⊎◌, ◌↔◌, true, false, List, ◌∷◌, codes, length, slice_index, Some, Ok, refl}
use Rattle.std.specs.Ordering.{nat_cmp}
use Rattle.std.proofs.Common.{sym, ap, subst, ◌∙◌, inl, inr, ⊎_elim, arith}
use Rattle.std.proofs.lemmas.Bool.{cases_Bool, true≢false}
use Rattle.blk_base.specs.Members.{In}
use Rattle.minix_layout.specs.declared.division.Geometry.{Geometry}
use Rattle.minix_layout.specs.declared.inode.Inode.{Inode}
use Rattle.minix_layout.specs.Geometry.{IsSound}
use Rattle.minix_layout.specs.Bits.{inode_bit, zone_bit, has_bit}
use Rattle.tree_model.specs.declared.node.Node.{Node}
use Rattle.tree_model.specs.declared.node.Node.TheVariants as nodes
use Rattle.tree_model.specs.declared.node.Directory.{Directory}
use Rattle.tree_model.specs.declared.node.File.{File}
use Rattle.tree_model.specs.Maps.{at_number}
use Rattle.tree_model.specs.laws.MapsLaws.{found-In, number_here, number_same}
use Rattle.tree_model.specs.Trees.{directory_links}
use Rattle.volume_ops.specs.Places.{birth_of, inode_of_birth}
use Rattle.volume_ops.specs.Volume.{walked}
use Rattle.volume_ops.specs.Walk.{Walked}
use Rattle.volume_ops.specs.VolumeFields.{inode_at, zone_behind}
use Rattle.volume_ops.specs.VolumeTrees.{IsVolumeTree}
use Rattle.volume_ops.specs.ZonePlaces.{ZonePlace, block, indirect, zone_in}
use Rattle.volume_ops.specs.Faultless.{IsDirectory, zone_at_place, IsReached, IsUsed}
use Rattle.volume_ops.proofs.SlotsLaws.{inode_of_birth_of}
use Rattle.volume_model.specs.ImageNodes.{IsImage}
use Rattle.volume_model.specs.Edits.{edited_all}
use Rattle.volume_model.proofs.Nodes.{no_directory_file}
use Rattle.vol_check.specs.Clean.{IsClean}
use Rattle.vol_check.specs.CleanTrees.{HasOtherNode, LeadBack, AgreesWith}
use Rattle.vol_check.proofs.CleanTrees.{clean_by_tree}
use Rattle.vol_check.proofs.Reached.{reached_some, node_says, reached_node, birth_reached}
use Rattle.widening.specs.Directories.{directories, free_zones, all_edits, has_no_room}
use Rattle.widening.specs.Widened.{wide, magic_edit}
use Rattle.widening.specs.WideTrees.{wide_directory, wide_node, wide_tree}
use Rattle.widening.proofs.OwnZones.{IsOwn}
use Rattle.widening.proofs.PlacesKept.{place_kept}
use Rattle.widening.proofs.Rewriting as again
use Rattle.widening.proofs.Rewriting.{HasGot, rewriting}
use Rattle.widening.proofs.Shares.{Meets, met_of, got_free}
use Rattle.widening.proofs.TreeDirectories.{directory_in}
use Rattle.widening.proofs.WideFields.{IsRewriting, wide_volume_tree}
use Rattle.widening.proofs.WideTreeMaps.{wide_at, narrow_at, narrow_directory, narrow_file}
use Rattle.widening.proofs.ZoneLists.{in_index}
use Rattle.system_laws.proofs.WidenedLemmas.WidenedBits as marks
use Rattle.system_laws.proofs.WidenedLemmas.ServedZones.{had_serves, taken_not_given, serves_stays}
use Rattle.system_laws.proofs.WidenedLemmas.WideLinks.{same_links, same_names, narrow_other, wide_other}

module _ (g : Geometry) (blocks : List (List ℕ)) (tree : List (ℕ × Node)) (all : Walked) (h : IsVolumeTree g blocks tree) (walk : walked g blocks ≡ Ok all) (sound : IsSound g)
    (wide_is_sound : IsSound (wide g)) (image : IsImage g blocks) (narrow : g.width ≤ 30) (room : has_no_room (wide g) blocks (directories tree) (free_zones g blocks all.zones) ≡ false) where
  abbrev w : Geometry
  w = wide g

  abbrev new : List (ℕ × Node)
  new = wide_tree tree

  abbrev free : List ℕ
  free = free_zones g blocks all.zones

  abbrev after : List (List ℕ)
  after = edited_all w blocks (magic_edit ∷ all_edits w blocks (directories tree) free)

  abbrev Met : ℕ × Directory → List ℕ → Type 0
  Met f left = Meets w blocks (directories tree) free f left

  anew : IsRewriting g blocks after tree (HasGot g blocks tree free)
  anew = rewriting g blocks tree all h walk sound wide_is_sound image narrow room

  now : IsVolumeTree w after new
  now = wide_volume_tree g blocks after tree (HasGot g blocks tree free) h anew sound.some_inode narrow

  met_at : (birth : ℕ) (d : Directory) → at_number tree birth ≡ Some (nodes.Directory d) → (left : List ℕ) × Met (inode_of_birth birth, d) left
  met_at birth d at = met_of w blocks (directories tree) free (inode_of_birth birth, d) (directory_in tree birth d (found-In nat_cmp number_here number_same tree birth (nodes.Directory d) at))

  -- ---- the zones of one directory

  module _ (f : ℕ × Directory) (left : List ℕ) (m : Met f left) where
    abbrev s : again.Share g blocks tree all h walk sound wide_is_sound image narrow room f left
    s = again.share g blocks tree all h walk sound wide_is_sound image narrow room f left m

    abbrev slots : List ℕ
    slots = again.slots_of g blocks tree all h walk sound wide_is_sound image narrow room f left

    abbrev top : ℕ
    top = again.top_of g blocks tree all h walk sound wide_is_sound image narrow room f left

    abbrev needed : ℕ
    needed = again.needed g blocks tree all h walk sound wide_is_sound image narrow room f

    abbrev Had : ℕ → Type 0
    Had z = again.Had g blocks tree all h walk sound wide_is_sound image narrow room f left z

    abbrev Serves : ℕ → Type 0
    Serves z = In z slots ⊎ ((z ≡ top) × (7 < needed))

    many : length slots ≡ needed
    many = again.many_slots g blocks tree all h walk sound wide_is_sound image narrow room f left s

    inode_new : inode_at w after f.0 ≡ again.read_inode g blocks tree all h walk sound wide_is_sound image narrow room f left m
    inode_new = again.inode_read_back g blocks tree all h walk sound wide_is_sound image narrow room f left m ∙ sym (again.same_new g blocks tree all h walk sound wide_is_sound image narrow room f left m)

    zones_new : (k : ℕ) → zone_behind after (inode_at w after f.0) k ≡ slice_index slots k
    zones_new k = ap (λ i. zone_behind after i k) inode_new ∙ again.zones_there g blocks tree all h walk sound wide_is_sound image narrow room f left m k

    top_new : slice_index (inode_at w after f.0).zones 7 ≡ top
    top_new = ap (λ (i : Inode). slice_index i.zones 7) inode_new

    links_new : (inode_at w after f.0).links ≡ (inode_at g blocks f.0).links
    links_new = ap (λ (i : Inode). i.links) inode_new

    serves_had : (z : ℕ) → Serves z → Had z
    serves_had z (inl i) = again.slot_is_had g blocks tree all h walk sound wide_is_sound image narrow room f left s z i
    serves_had z (inr t) = subst Had (sym t.0) (again.top_is g blocks tree all h walk sound wide_is_sound image narrow room f left s (let n = many in let more = t.1 in omega (arith, n, more))).had_is

    had_some : (z : ℕ) → Had z → z ≢ 0
    had_some z had none = let range = again.had_within g blocks tree all h walk sound wide_is_sound image narrow room f left s m z had in let tables = sound.tables_below in omega (arith, none, range.0, tables)

    reached_new : IsReached w after f.0
    reached_new = subst (λ n. IsReached w after n) s.at.number (birth_reached w after new now s.at.birth (nodes.Directory (wide_directory f.1)) (wide_at tree s.at.birth (nodes.Directory f.1) s.stands))

    kind_new : IsDirectory w after f.0
    kind_new = subst (λ n. IsDirectory w after n) s.at.number (now.fields.each s.at.birth (nodes.Directory (wide_directory f.1)) (wide_at tree s.at.birth (nodes.Directory f.1) s.stands)).kind

    -- each zone that serves the directory is one of its zones
    serves_used : (z : ℕ) → Serves z → IsUsed w after z
    serves_used z (inl i) =
        (let x = in_index slots z i in
        record { inode = f.0; place = block x.0; reached = reached_new; kind = inl kind_new; some = had_some z (serves_had z (inl i)); stands = zones_new x.0 ∙ x.2 })
    serves_used z (inr t) =
        record { inode = f.0; place = indirect; reached = reached_new; kind = inl kind_new; some = had_some z (serves_had z (inr t)); stands = top_new ∙ sym t.0 }

    -- and the others are none
    place_serves : (x : ZonePlace) (z : ℕ) → zone_at_place w after f.0 x ≡ z → z ≢ 0 → Serves z
    place_serves x z is some =
        let same : zone_in after (again.read_inode g blocks tree all h walk sound wide_is_sound image narrow room f left m) x ≡ z = sym (ap (λ i. zone_in after i x) inode_new) ∙ is in
        ⊎_elim
        (λ i. inl (subst (λ z. In z slots) same i))
        (λ t. inr (sym same ∙ t.0, (let n = many in let more = t.1 in omega (arith, n, more))))
        (again.among g blocks tree all h walk sound wide_is_sound image narrow room f left m x (λ none. some (sym same ∙ none)))

  -- ---- zones that are taken, given up, and had by files

  abbrev IsTaken : ℕ → Type 0
  IsTaken z = marks.IsTaken g blocks tree all h walk sound wide_is_sound image narrow room z

  abbrev IsGiven : ℕ → Type 0
  IsGiven z = marks.IsGiven g blocks tree all h walk sound wide_is_sound image narrow room z

  record IsServing (z : ℕ) : Type 0 where
    pub directory : ℕ × Directory
    pub left : List ℕ
    pub met : Met directory left
    pub serves : Serves directory left met z

  record IsOfFile (z : ℕ) : Type 0 where
    pub birth : ℕ
    pub file : File
    pub stands : at_number tree birth ≡ Some (nodes.File file)
    pub place : ZonePlace
    pub zone : zone_at_place g blocks (inode_of_birth birth) place ≡ z
    pub some : z ≢ 0

  file_before : (z : ℕ) → IsOfFile z → IsUsed g blocks z
  file_before z u = record {
    inode = inode_of_birth u.birth;
    place = u.place;
    reached = birth_reached g blocks tree h u.birth (nodes.File u.file) u.stands;
    kind = inr (h.fields.each u.birth (nodes.File u.file) u.stands).kind;
    some = u.some;
    stands = u.zone;
  }

  file_place : (birth : ℕ) (f : File) → at_number tree birth ≡ Some (nodes.File f) → (x : ZonePlace) → zone_at_place w after (inode_of_birth birth) x ≡ zone_at_place g blocks (inode_of_birth birth) x
  file_place birth f at x = ap (λ i. zone_in after i x) (anew.file birth f at) ∙ place_kept blocks after (inode_at g blocks (inode_of_birth birth)) anew.whole anew.after_whole (λ y some. anew.bodies birth f at y some) x

  file_after : (z : ℕ) → IsOfFile z → IsUsed w after z
  file_after z u = record {
    inode = inode_of_birth u.birth;
    place = u.place;
    reached = birth_reached w after new now u.birth (nodes.File u.file) (wide_at tree u.birth (nodes.File u.file) u.stands);
    kind = inr (now.fields.each u.birth (nodes.File u.file) (wide_at tree u.birth (nodes.File u.file) u.stands)).kind;
    some = u.some;
    stands = file_place u.birth u.file u.stands u.place ∙ u.zone;
  }

  taken_unused : (z : ℕ) → IsTaken z → IsUsed g blocks z → ⊥
  taken_unused z t u = again.free_unused g blocks tree all h walk sound wide_is_sound image narrow z (got_free w blocks (directories tree) free t.0 t.1 z t.2 t.3) u

  given_no_file : (z : ℕ) → IsGiven z → IsOfFile z → ⊥
  given_no_file z t u =
      ⊎_elim
      (λ o.
      let s = again.share g blocks tree all h walk sound wide_is_sound image narrow room t.0 t.1 t.2 in
      let reached = birth_reached g blocks tree h u.birth (nodes.File u.file) u.stands in
      let kind = (h.fields.each u.birth (nodes.File u.file) u.stands).kind in
      let same = (h.faultless.zone_once t.0.0 (inode_of_birth u.birth) o.place u.place s.reached reached (inl s.kind) (inr kind) (λ none. o.some (sym o.zone ∙ none)) (o.zone ∙ sym u.zone)).0 in
      no_directory_file (inode_at g blocks (inode_of_birth u.birth)).mode (subst (λ n. IsDirectory g blocks n) same s.kind) kind)
      (λ taken. taken_unused z (t.0, t.1, t.2, taken) (file_before z u))
      (again.given_had g blocks tree all h walk sound wide_is_sound image narrow room t.0 t.1 t.2 z t.3)

  serving_not_given : (z : ℕ) → IsServing z → IsGiven z → ⊥
  serving_not_given z u t =
      let f = u.directory in
      let one = again.one_had g blocks tree all h walk sound wide_is_sound image narrow room t.0 f t.1 u.left z t.2 u.met (again.given_had g blocks tree all h walk sound wide_is_sound image narrow room t.0 t.1 t.2 z t.3) (serves_had f u.left u.met z u.serves) in
      let s = again.share g blocks tree all h walk sound wide_is_sound image narrow room f u.left u.met in
      serves_stays blocks (inode_at g blocks f.0) (again.needed g blocks tree all h walk sound wide_is_sound image narrow room f) u.left s.one s.apart s.unused z u.serves
      (again.move g blocks tree all h walk sound wide_is_sound image narrow room (λ f left. In z (again.given_by g blocks tree all h walk sound wide_is_sound image narrow room f left)) one.0 one.1 t.3)

  taken_serves : (z : ℕ) → IsTaken z → IsServing z
  taken_serves z t =
      let i = inode_at g blocks t.0.0 in
      let n = again.needed g blocks tree all h walk sound wide_is_sound image narrow room t.0 in
      ⊎_elim
      (λ serves. record { directory = t.0; left = t.1; met = t.2; serves = serves })
      (λ given. absurd (taken_not_given blocks i n t.1 z t.3 given))
      (had_serves blocks i n t.1 z (inr t.3))

  -- ---- what is used

  serving_used : (z : ℕ) → IsServing z → IsUsed w after z
  serving_used z u = serves_used u.directory u.left u.met z u.serves

  used_now : (z : ℕ) → IsUsed w after z → IsServing z ⊎ IsOfFile z
  used_now z u = by x.0 x.1 x.2
    where
      positive : 0 < u.inode
      positive = reached_some w after u.reached

      at : (node : Node) × (at_number new (birth_of u.inode) ≡ Some node)
      at = reached_node w after new now u.reached

      x : (old : Node) × (at_number tree (birth_of u.inode) ≡ Some old) × (wide_node old ≡ at.0)
      x = narrow_at tree (birth_of u.inode) at.0 at.1

      back : inode_of_birth (birth_of u.inode) ≡ u.inode
      back = inode_of_birth_of u.inode positive

      zone_there : zone_at_place w after (inode_of_birth (birth_of u.inode)) u.place ≡ z
      zone_there = ap (λ n. zone_at_place w after n u.place) back ∙ u.stands

      no_other : (mode : ℕ) → nodes.Other mode ≡ at.0 → ⊥
      no_other mode is =
          let says = node_says w after new now u.inode (nodes.Other mode) positive (at.1 ∙ ap Some (sym is)) in
          ⊎_elim (λ d. true≢false (sym d ∙ says.no_directory)) (λ f. true≢false (sym f ∙ says.no_file)) u.kind

      by : (old : Node) → at_number tree (birth_of u.inode) ≡ Some old → wide_node old ≡ at.0 → IsServing z ⊎ IsOfFile z
      by (nodes.Directory d) stands is =
          (let f : ℕ × Directory = (inode_of_birth (birth_of u.inode), d) in
          let m = met_at (birth_of u.inode) d stands in
          inl (record { directory = f; left = m.0; met = m.1; serves = place_serves f m.0 m.1 u.place z zone_there u.some }))
      by (nodes.File f) stands is =
          inr (record { birth = birth_of u.inode; file = f; stands = stands; place = u.place; zone = sym (file_place (birth_of u.inode) f stands u.place) ∙ zone_there; some = u.some })
      by (nodes.Other mode) stands is = absurd (no_other mode is)

  -- what was used is, or is given up
  used_before : (z : ℕ) → IsUsed g blocks z → IsUsed w after z ⊎ IsGiven z
  used_before z u = by at.0 at.1
    where
      positive : 0 < u.inode
      positive = reached_some g blocks u.reached

      at : (node : Node) × (at_number tree (birth_of u.inode) ≡ Some node)
      at = reached_node g blocks tree h u.reached

      zone_there : zone_at_place g blocks (inode_of_birth (birth_of u.inode)) u.place ≡ z
      zone_there = ap (λ n. zone_at_place g blocks n u.place) (inode_of_birth_of u.inode positive) ∙ u.stands

      no_other : (mode : ℕ) → at_number tree (birth_of u.inode) ≡ Some (nodes.Other mode) → ⊥
      no_other mode stands =
          let says = node_says g blocks tree h u.inode (nodes.Other mode) positive stands in
          ⊎_elim (λ d. true≢false (sym d ∙ says.no_directory)) (λ f. true≢false (sym f ∙ says.no_file)) u.kind

      by : (node : Node) → at_number tree (birth_of u.inode) ≡ Some node → IsUsed w after z ⊎ IsGiven z
      by (nodes.Directory d) stands =
          (let f : ℕ × Directory = (inode_of_birth (birth_of u.inode), d) in
          let m = met_at (birth_of u.inode) d stands in
          let o : IsOwn blocks (inode_at g blocks f.0) z = record { place = u.place; zone = zone_there; some = u.some } in
          ⊎_elim
          (λ serves. inl (serves_used f m.0 m.1 z serves))
          (λ given. inr (f, m.0, m.1, given))
          (had_serves blocks (inode_at g blocks f.0) (again.needed g blocks tree all h walk sound wide_is_sound image narrow room f) m.0 z (inl o)))
      by (nodes.File f) stands = inl (file_after z (record { birth = birth_of u.inode; file = f; stands = stands; place = u.place; zone = zone_there; some = u.some }))
      by (nodes.Other mode) stands = absurd (no_other mode stands)

  -- ---- it agrees with its tree

  module _ (agrees : AgreesWith g blocks tree) where
    inode_marks : (inode : ℕ) → 1 ≤ inode → inode ≤ g.inodes → (has_bit after (inode_bit w inode) ≡ true) ↔ ((node : Node) × (at_number new (birth_of inode) ≡ Some node))
    inode_marks inode low high =
        let was = agrees.inode_bits inode low high in
        let same = marks.inode_bit_stays g blocks tree all h walk sound wide_is_sound image narrow room (inode_bit w inode) (omega arith) (let bits = sound.inode_bits in omega (arith, high, bits)) in (
          λ t. let x = was.0 (sym same ∙ t) in (wide_node x.0, wide_at tree (birth_of inode) x.0 x.1),
          λ node. let x = narrow_at tree (birth_of inode) node.0 node.1 in same ∙ was.1 (x.0, x.1),
        )

    module _ (z : ℕ) (low : g.first ≤ z) (high : z < g.zones) where
      stays_marked : IsUsed g blocks z → (IsGiven z → ⊥) → has_bit after (zone_bit w z) ≡ true
      stays_marked u none = marks.marked_kept g blocks tree all h walk sound wide_is_sound image narrow room z low high (λ t. taken_unused z t u) none ∙ agrees.used_zones z low high u

      serving_marked : (u : IsServing z) → has_bit after (zone_bit w z) ≡ true
      serving_marked u =
          ⊎_elim
          (λ o.
          let s = again.share g blocks tree all h walk sound wide_is_sound image narrow room u.directory u.left u.met in
          stays_marked (again.used_by g blocks tree all h walk sound wide_is_sound image narrow room u.directory.0 s.reached (inl s.kind) z o) (λ t. serving_not_given z u t))
          (λ taken. marks.marked_taken g blocks tree all h walk sound wide_is_sound image narrow room z low high (u.directory, u.left, u.met, taken) (λ t. serving_not_given z u t))
          (serves_had u.directory u.left u.met z u.serves)

      used_marked : IsUsed w after z → has_bit after (zone_bit w z) ≡ true
      used_marked u = ⊎_elim (λ d. serving_marked d) (λ f. stays_marked (file_before z f) (λ t. given_no_file z t f)) (used_now z u)

      unused_unmarked : (IsUsed w after z → ⊥) → (HasOtherNode new → ⊥) → has_bit after (zone_bit w z) ≡ false
      unused_unmarked none no_other = ⊎_elim (λ t. absurd (wrong t)) (λ f. f) (cases_Bool (has_bit after (zone_bit w z)))
        where
          untaken : IsTaken z → ⊥
          untaken t = none (serving_used z (taken_serves z t))

          wrong : has_bit after (zone_bit w z) ≡ true → ⊥
          wrong t =
              let kept : IsGiven z → ⊥ = λ given. true≢false (sym t ∙ marks.marked_given g blocks tree all h walk sound wide_is_sound image narrow room z low high given untaken) in
              let was = agrees.unused_zones z low high (λ u. ⊎_elim none kept (used_before z u)) (λ other. no_other (wide_other tree other)) in
              true≢false (sym t ∙ (marks.marked_kept g blocks tree all h walk sound wide_is_sound image narrow room z low high untaken kept ∙ was))

    wide_links : (birth : ℕ) (d : Directory) → at_number new birth ≡ Some (nodes.Directory d) → (inode_at w after (inode_of_birth birth)).links ≡ directory_links new d
    wide_links birth d at =
        let x = narrow_directory tree birth d at in
        let m = met_at birth x.0 x.1 in
        links_new (inode_of_birth birth, x.0) m.0 m.1 ∙ (agrees.directories birth x.0 x.1 ∙ (sym (same_links tree x.0) ∙ ap (directory_links new) x.2))

    wide_dots : (birth : ℕ) (d : Directory) → at_number new birth ≡ Some (nodes.Directory d) → LeadBack w after (inode_of_birth birth) (inode_of_birth d.parent)
    wide_dots birth d at =
        let x = narrow_directory tree birth d at in
        let r = anew.directory birth x.0 x.1 in
        let lead : LeadBack w after (inode_of_birth birth) (inode_of_birth x.0.parent) = record {
          two = (let size = r.size in omega (arith, size));
          here = r.read 0 (record { inode = inode_of_birth birth; name = codes "." }) refl;
          above = r.read 1 (record { inode = inode_of_birth x.0.parent; name = codes ".." }) refl;
        } in
        subst (λ (d : Directory). LeadBack w after (inode_of_birth birth) (inode_of_birth d.parent)) x.2 lead

    wide_agrees : AgreesWith w after new
    wide_agrees = record {
      inode_bits = inode_marks;
      used_zones = used_marked;
      unused_zones = unused_unmarked;
      directories = wide_links;
      files = λ birth f at. agrees.files birth f (narrow_file tree birth f at) ∙ sym (same_names tree birth);
      others = λ birth mode at.
          let old = narrow_other tree birth mode at in
          ap (λ (i : Inode). i.links) (anew.other birth mode old) ∙ (agrees.others birth mode old ∙ sym (same_names tree birth));
      dots = wide_dots;
    }

  pub wide_clean : IsClean g blocks → IsClean w after
  wide_clean clean = (clean_by_tree w after new sound.some_inode now).1 (wide_agrees ((clean_by_tree g blocks tree sound.some_inode h).0 clean))
