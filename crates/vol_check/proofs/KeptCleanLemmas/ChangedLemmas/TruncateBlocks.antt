-- The blocks of a call that cuts a file.
use Rattle.std.specs.Prelude.{◌≡◌, ◌≢◌, ◌+◌, ◌-◌, ◌/◌, ◌%◌, ◌<◌, ◌≤◌, ◌⊎◌, ◌==◌, ◌||◌, nat_le, nat_eq, ℕ, Bool, true, false, if◌then◌else◌, List, [], ◌++◌, Some, Ok, refl}
use Rattle.std.specs.Int.{div_ceil}
use Rattle.std.specs.List.{list_any}
use Rattle.std.proofs.Common.{sym, ap, subst, ◌∙◌, inl, inr, ⊎_elim, arith}
use Rattle.std.proofs.lemmas.Bool.{eqb-true, eqb-false, or_parts}
use Rattle.blk_base.specs.Members.{In}
use Rattle.blk_base.specs.laws.Members.{In-append_cases, In-append_left}
use Rattle.minix_layout.specs.declared.division.Geometry.{Geometry}
use Rattle.minix_layout.specs.declared.inode.Inode.{Inode}
use Rattle.tree_model.specs.declared.call.Call.TheVariants as calls
use Rattle.tree_model.specs.declared.node.File.{File}
use Rattle.tree_model.specs.declared.node.Node.TheVariants as nodes
use Rattle.tree_model.specs.Maps.{at_number}
use Rattle.tree_model.specs.laws.MapsLaws.{at_put_number}
use Rattle.tree_model.specs.Calls.{Done, cut_body, cut_file, outcome, row, truncate as truncate_row}
use Rattle.volume_ops.specs.declared.found.Mapped.{Mapped}
use Rattle.volume_ops.specs.Places.{table_block}
use Rattle.volume_ops.specs.Volume.{disk_of}
use Rattle.volume_model.specs.declared.placed.Placed.{Placed}
use Rattle.volume_model.specs.declared.placed.Part.TheVariants as parts
use Rattle.volume_model.specs.Counts.{indices_of, keeps_below}
use Rattle.volume_model.specs.Edits.{touched_by}
use Rattle.volume_model.specs.Moves.{back_told, with_size}
use Rattle.volume_model.specs.Touched.{IsMeta}
use Rattle.volume_model.specs.Volume.{block, zone_in}
use Rattle.volume_model.specs.laws.Back.{told_table}
use Rattle.volume_steps.specs.Now.{VolumeNow, Change, tree_of_now, room_of, unchanged, followed_by}
use Rattle.volume_steps.specs.Plain.{IsInUse}
use Rattle.volume_steps.specs.Steps.{blocks_cut, cut_blocks, clear_tail, inode_put, put_page, resize, tells_node}
use Rattle.volume_steps.specs.Calls.{called, changed}
use Rattle.volume_steps.specs.Called.{FindsRoom}
use Rattle.volume_steps.specs.Zones.{zone_bit}
use Rattle.volume_steps.proofs.Bits.{AreZones}
use Rattle.volume_steps.proofs.CallPaths.{done_row}
use Rattle.volume_steps.proofs.CutStep.{IsCutStep, with_blocks_below, cut_blocks_step}
use Rattle.volume_steps.proofs.FileCalls.{called_is}
use Rattle.volume_steps.proofs.FileSteps.{IsFileAt, file_at, file_stands, at_file_is}
use Rattle.volume_steps.proofs.QuietSteps.{at_node_is}
use Rattle.volume_steps.proofs.TakeZones.{zone_range}
use Rattle.volume_steps.proofs.TruncateCall.{HasCleared, clear_step, put}
use Rattle.volume_steps.proofs.WriteCall.{IsFilePut, at_path_is}
use Rattle.minix_tables.specs.declared.zones.zone_state.ZoneState.TheVariants as states
use Rattle.vol_check.specs.kept_clean.changed.Changed.{HasChanged}
use Rattle.vol_check.proofs.KeptCleanLemmas.ChangedLemmas.Ends.{Ends, freed_bit, node_differs, told_differs}
use Rattle.vol_check.proofs.KeptCleanLemmas.ChangedLemmas.Steps.{back_high}
use Rattle.vol_check.proofs.KeptCleanLemmas.ChangedLemmas.CutBlocks.{cut_inode, cut_cases, number_meta, number_low, number_differs}
use Rattle.volume_steps.proofs.AllCalls.{any_call}
use Rattle.volume_steps.proofs.TruncateCall.{cut_length}
use Rattle.vol_check.proofs.KeptCleanLemmas.ChangedLemmas.BareFrames.{IsBareNow}
use Rattle.vol_check.proofs.KeptCleanLemmas.ChangedLemmas.BareSteps.{page_bare, resize_bare}
use Rattle.vol_check.proofs.KeptCleanLemmas.ChangedLemmas.BareZones.{cut_bare}

-- ---- sizes

-- a node with this size, where its inode tells where it changes
pub record IsSized (v : VolumeNow) (n : ℕ) (p : Placed) (size : ℕ) (c : Change) : Type 0 where
  pub placed : Placed
  pub stands : at_number c.volume.contents.nodes n ≡ Some placed
  pub number : placed.number ≡ p.number
  pub inode : placed.inode ≡ with_size p.inode size
  pub zones : c.volume.zones ≡ v.zones
  pub high : (b : ℕ) → v.geometry.first ≤ b → disk_of c.volume.contents.blocks b ≡ disk_of v.contents.blocks b
  pub told : (b : ℕ) → In b c.touched.blocks → (b ≡ table_block v.geometry p.number) × (with_size p.inode size ≢ p.inode)

module _ (v : VolumeNow) (in_use : IsInUse v) (n : ℕ) (p : Placed) (at : at_number v.contents.nodes n ≡ Some p) (change : ℕ → ℕ) where
  abbrev size : ℕ
  size = change p.inode.size

  abbrev by_size : Placed → Change
  by_size p = if change p.inode.size == p.inode.size then unchanged v
      else record { volume = inode_put v n p (with_size p.inode (change p.inode.size)); touched = tells_node n (back_told v.geometry p (with_size p.inode (change p.inode.size))) }

  same_size : size ≡ p.inode.size → p.inode ≡ with_size p.inode size
  same_size e = λ i. record { mode = p.inode.mode; uid = p.inode.uid; size = sym e i; time = p.inode.time; gid = p.inode.gid; links = p.inode.links; zones = p.inode.zones }

  pub sized : IsSized v n p size (resize v n change)
  sized = subst (IsSized v n p size) (sym (at_node_is v n p by_size at)) (by (size == p.inode.size) refl)
    where
      by : (b : Bool) → (size == p.inode.size) ≡ b → IsSized v n p size (if b then unchanged v else record { volume = inode_put v n p (with_size p.inode size); touched = tells_node n (back_told v.geometry p (with_size p.inode size)) })
      by true t = record { placed = p; stands = at; number = refl; inode = same_size (eqb-true _ _ t); zones = refl; high = λ b low. refl; told = λ b i. absurd i }
      by false f = record {
        placed = record { number = p.number; inode = with_size p.inode size; part = p.part };
        stands = at_put_number v.contents.nodes n _;
        number = refl;
        inode = refl;
        zones = refl;
        high = (let told = in_use.volume.0.each n p at in back_high v.geometry v.contents.blocks p (with_size p.inode size) in_use.sound told.some told.within);
        told = λ b i. (told_table v.geometry p (with_size p.inode size) b i, told_differs v.geometry p (with_size p.inode size) b i);
      }

-- ---- a tail

-- no metadata is told, and the nodes stay
pub record IsQuiet (v : VolumeNow) (c : Change) : Type 0 where
  pub nodes : c.volume.contents.nodes ≡ v.contents.nodes
  pub blocks : c.touched.blocks ≡ []
  pub revoked : c.touched.revoked ≡ []

module _ (v : VolumeNow) (n : ℕ) (p : Placed) (zones : List Mapped) (at : at_number v.contents.nodes n ≡ Some p) (is : p.part ≡ parts.File zones) (size : ℕ) where
  abbrev by_tail : Placed → List Mapped → Change
  by_tail p zones =
      if nat_eq (size % 1024) 0 || nat_eq (zone_in v.contents.blocks p.inode (block (size / 1024))) 0 then unchanged v
      else put_page v n (size / 1024) (zone_in v.contents.blocks p.inode (block (size / 1024))) (cut_body size (size / 1024) (disk_of v.contents.blocks (zone_in v.contents.blocks p.inode (block (size / 1024)))))

  pub tail_quiet : IsQuiet v (clear_tail v n size)
  tail_quiet = subst (IsQuiet v) (sym (at_file_is v n p zones by_tail at is)) (by (nat_eq (size % 1024) 0 || nat_eq (zone_in v.contents.blocks p.inode (block (size / 1024))) 0))
    where
      by : (b : Bool) → IsQuiet v (if b then unchanged v
          else put_page v n (size / 1024) (zone_in v.contents.blocks p.inode (block (size / 1024))) (cut_body size (size / 1024) (disk_of v.contents.blocks (zone_in v.contents.blocks p.inode (block (size / 1024))))))
      by true = record { nodes = refl; blocks = refl; revoked = refl }
      by false = record { nodes = refl; blocks = refl; revoked = refl }

module _ (v : VolumeNow) (h : IsInUse v) (n : ℕ) (p : Placed) (zones : List Mapped) (at : at_number v.contents.nodes n ≡ Some p) (is : p.part ≡ parts.File zones) (size : ℕ) where
  abbrev tail_by : Placed → List Mapped → Change
  tail_by p zones =
      if nat_eq (size % 1024) 0 || nat_eq (zone_in v.contents.blocks p.inode (block (size / 1024))) 0 then unchanged v
      else put_page v n (size / 1024) (zone_in v.contents.blocks p.inode (block (size / 1024))) (cut_body size (size / 1024) (disk_of v.contents.blocks (zone_in v.contents.blocks p.inode (block (size / 1024)))))

  tail_bare : IsBareNow v → IsBareNow (clear_tail v n size).volume
  tail_bare bare = subst (λ (c : Change). IsBareNow c.volume) (sym (at_file_is v n p zones tail_by at is)) (by (nat_eq (size % 1024) 0 || nat_eq (zone_in v.contents.blocks p.inode (block (size / 1024))) 0) refl)
    where
      by : (b : Bool) → (nat_eq (size % 1024) 0 || nat_eq (zone_in v.contents.blocks p.inode (block (size / 1024))) 0) ≡ b → IsBareNow (if b then unchanged v
          else put_page v n (size / 1024) (zone_in v.contents.blocks p.inode (block (size / 1024))) (cut_body size (size / 1024) (disk_of v.contents.blocks (zone_in v.contents.blocks p.inode (block (size / 1024)))))).volume
      by true e = bare
      by false e =
          let both = or_parts (nat_eq (size % 1024) 0) (nat_eq (zone_in v.contents.blocks p.inode (block (size / 1024))) 0) e in
          let odd = eqb-false _ _ both.0 in
          page_bare v h n p zones at is (cut_body size (size / 1024) (disk_of v.contents.blocks (zone_in v.contents.blocks p.inode (block (size / 1024)))))
          (cut_length size (size / 1024) (disk_of v.contents.blocks (zone_in v.contents.blocks p.inode (block (size / 1024)))) (h.volume.0.whole _) (omega arith)) (size / 1024) (eqb-false _ _ both.1) bare

-- ---- a cut

-- what is told of a cut: bits of zones that are freed, zones of numbers that stay, and the node's block of the table where its zones change
pub record IsCut (v : VolumeNow) (n : ℕ) (p : Placed) (c : Change) : Type 0 where
  pub placed : Placed
  pub stands : at_number c.volume.contents.nodes n ≡ Some placed
  pub number : placed.number ≡ p.number
  pub size : placed.inode.size ≡ p.inode.size
  pub zones : (size : ℕ) → with_size placed.inode size ≡ p.inode → placed.inode ≡ p.inode
  pub told : (b : ℕ) → In b c.touched.blocks → ((z : ℕ) × In z c.touched.freed × (touched_by v.geometry (zone_bit v.geometry false z) ≡ b))
      ⊎ (((v.geometry.first ≤ b) × IsMeta v.geometry c.volume.contents b × (disk_of c.volume.contents.blocks b ≢ disk_of v.contents.blocks b))
      ⊎ ((b ≡ table_block v.geometry p.number) × (placed.inode ≢ p.inode)))

module _ (tx : ℕ) (v : VolumeNow) (h : IsInUse v) (n : ℕ) (p : Placed) (zones : List Mapped) (at : at_number v.contents.nodes n ≡ Some p) (is : p.part ≡ parts.File zones) (from : ℕ)
    (freed : (z : ℕ) → In z (cut_blocks v tx n from).touched.freed → (v.geometry.first ≤ z) × (z < v.geometry.zones)) where
  abbrev by_zones : Placed → List Mapped → Change
  by_zones p zones = if list_any (λ (m : Mapped). nat_le from m.index) zones then blocks_cut v tx n p zones (keeps_below (indices_of zones) from) from else unchanged v

  cut_is : cut_blocks v tx n from ≡ by_zones p zones
  cut_is = at_file_is v n p zones by_zones at is

  abbrev cut_change : Change
  cut_change = blocks_cut v tx n p zones (keeps_below (indices_of zones) from) from

  is_cut : AreZones v.geometry cut_change.touched.freed → IsCut v n p cut_change
  is_cut within =
      let zones_are = cut_inode tx v h n p zones at is from within in
      record {
        placed = _;
        stands = at_put_number v.contents.nodes n _;
        number = refl;
        size = ap (λ (i : Inode). i.size) zones_are;
        zones = λ size same. zones_are ∙ (λ k. record { mode = p.inode.mode; uid = p.inode.uid; size = p.inode.size; time = p.inode.time; gid = p.inode.gid; links = p.inode.links; zones = (ap (λ (i : Inode). i.zones) same) k });
        told = λ b i. elim (cut_cases tx v h n p zones at is from within b i) [
          | inl z ↦ inl z
          | inr more ↦ elim more [
            | inl j ↦ inr (inl (number_low tx v h n p zones at is from within b j, number_meta tx v h n p zones at is from within b j, number_differs tx v h n p zones at is from within b j))
            | inr j ↦ inr (inr (told_table v.geometry p _ b j, told_differs v.geometry p _ b j))
          ]
        ];
      }

  pub file_is_cut : IsCut v n p (cut_blocks v tx n from)
  file_is_cut = subst (IsCut v n p) (sym cut_is) (by (list_any (λ (m : Mapped). nat_le from m.index) zones) refl)
    where
      by : (b : Bool) → list_any (λ (m : Mapped). nat_le from m.index) zones ≡ b → IsCut v n p (if b then cut_change else unchanged v)
      by true t = is_cut (λ z i. freed z (subst (λ c. In z c.touched.freed) (sym (cut_is ∙ ap (λ (b : Bool). if b then cut_change else unchanged v) t)) i))
      by false f = record { placed = p; stands = at; number = refl; size = refl; zones = λ size same. refl; told = λ b i. absurd i }

  file_cut_bare : IsBareNow v → IsBareNow (cut_blocks v tx n from).volume
  file_cut_bare bare = subst (λ (c : Change). IsBareNow c.volume) (sym cut_is) (by (list_any (λ (m : Mapped). nat_le from m.index) zones) refl)
    where
      by : (b : Bool) → list_any (λ (m : Mapped). nat_le from m.index) zones ≡ b → IsBareNow (if b then cut_change else unchanged v).volume
      by true t = cut_bare tx v h n p zones at is from cut_change.touched.freed
          (λ z i. freed z (subst (λ c. In z c.touched.freed) (sym (cut_is ∙ ap (λ (b : Bool). if b then cut_change else unchanged v) t)) i)) refl bare
      by false f = bare

-- ---- the call

module _ (tx : ℕ) (v : VolumeNow) (n : ℕ) (path : List ℕ) (size : ℕ) (h : FindsRoom v n (calls.Truncate path size)) (d : Done) (done : outcome (room_of v.geometry) (tree_of_now v) n (calls.Truncate path size) ≡ Ok d) where
  abbrev g : Geometry
  g = v.geometry

  row_done : truncate_row (tree_of_now v) path size ≡ Ok d
  unfolding row
  row_done = (done_row (room_of v.geometry) (tree_of_now v) n (calls.Truncate path size) d done).0

  file_put : IsFilePut (tree_of_now v) path (λ f. cut_file f size) d
  file_put = put tx v h.plain.in_use path size d row_done

  abbrev birth : ℕ
  birth = file_put.found.birth

  abbrev f : File
  f = file_put.file

  abbrev from : ℕ
  from = div_ceil size 1024

  x : IsFileAt v birth f
  x = file_at v h.plain.in_use birth f file_put.stands

  abbrev first : Change
  first = cut_blocks v tx birth from

  abbrev v1 : VolumeNow
  v1 = first.volume

  one : IsCutStep tx v birth from first (with_blocks_below f from)
  one = cut_blocks_step tx v h.plain.in_use birth f file_put.stands from

  stands1 : at_number (tree_of_now v1) birth ≡ Some (nodes.File (with_blocks_below f from))
  stands1 = file_stands tx v birth first (with_blocks_below f from) (λ birth index. ⊥) one.step

  x1 : IsFileAt v1 birth (with_blocks_below f from)
  x1 = file_at v1 one.step.steady.in_use birth (with_blocks_below f from) stands1

  two : HasCleared tx v1 birth size (with_blocks_below f from) (clear_tail v1 birth size)
  two = clear_step tx v1 one.step.steady.in_use birth (with_blocks_below f from) stands1 size

  abbrev second : Change
  second = clear_tail v1 birth size

  abbrev v2 : VolumeNow
  v2 = second.volume

  quiet : IsQuiet v1 second
  quiet = tail_quiet v1 birth x1.placed x1.zones x1.stands x1.is_file size

  abbrev third : Change
  third = resize v2 birth (λ old. size)

  abbrev whole : Change
  whole = followed_by first (λ u. followed_by (clear_tail u birth size) (λ w. resize w birth (λ old. size)))

  abbrev Differs : ℕ → Type 0
  Differs b = disk_of third.volume.contents.blocks b ≢ disk_of v.contents.blocks b

  whole_changes : Ends tx v whole → HasChanged v whole
  whole_changes e b i was = elim (In-append_cases first.touched.blocks (second.touched.blocks ++ third.touched.blocks) b i) [
    | inl j ↦ elim (cut.told b j) [
      | inl z ↦ freed_bit tx v whole e z.0 (In-append_left first.touched.freed (second.touched.freed ++ third.touched.freed) z.0 z.1) b z.2
      | inr more ↦ elim more [
        | inl number ↦ (λ same. number.2 (sym (kept b number.0 number.1) ∙ same))
        | inr table ↦ subst (λ b. Differs b) (sym table.0) (node (λ same. table.1 (cut.zones size (sym last.inode ∙ same))))
      ]
    ]
    | inr more ↦ elim (In-append_cases second.touched.blocks third.touched.blocks b more) [
      | inl j ↦ absurd (subst (λ bs. In b bs) quiet.blocks j)
      | inr j ↦
          let told = last.told b j in
          subst (λ b. Differs b) (sym (told.0 ∙ (ap (λ g. table_block g cut.placed.number) geometry2 ∙ ap (table_block g) cut.number))) (node (λ same. told.1 (resized (sym last.inode ∙ same))))
    ]
  ]
    where
      cut : IsCut v birth x.placed first
      cut = file_is_cut tx v h.plain.in_use birth x.placed x.zones x.stands x.is_file from
          (λ z j. zone_range v h.plain.in_use z states.Used (e.was_used z (In-append_left first.touched.freed (second.touched.freed ++ third.touched.freed) z j)))

      at2 : at_number v2.contents.nodes birth ≡ Some cut.placed
      at2 = ap (λ nodes. at_number nodes birth) quiet.nodes ∙ cut.stands

      last : IsSized v2 birth cut.placed size third
      last = sized v2 two.step.step.steady.in_use birth cut.placed at2 (λ old. size)

      geometry2 : v2.geometry ≡ v.geometry
      geometry2 = two.step.step.steady.geometry ∙ one.step.steady.geometry

      node : last.placed.inode ≢ x.placed.inode → Differs (table_block g x.placed.number)
      node other = node_differs tx v whole e birth x.placed last.placed x.stands last.stands (last.number ∙ cut.number) other

      -- another size is another one than before
      resized : with_size cut.placed.inode size ≡ x.placed.inode → with_size cut.placed.inode size ≡ cut.placed.inode
      resized same = same ∙ sym (cut.zones size same)

      -- a zone of numbers that stays keeps its bytes after the cut
      kept : (b : ℕ) → g.first ≤ b → IsMeta g v1.contents b → disk_of third.volume.contents.blocks b ≡ disk_of v1.contents.blocks b
      kept b low meta =
          let steady = two.step.step.steady in
          let there : IsMeta v1.geometry v1.contents b = subst (λ g. IsMeta g v1.contents b) (sym one.step.steady.geometry) meta in
          last.high b (subst (λ g. g.first ≤ b) (sym geometry2) low)
          ∙ steady.told.kept b (λ j. subst (λ bs. In b bs) quiet.blocks j) there
          (⊎_elim (λ still. still) (λ gone. absurd (subst (λ bs. In b bs) quiet.revoked gone)) (steady.told.stays_or_revoked b there))

  truncate_is : (called v n tx (calls.Truncate path size)).change ≡ whole
  unfolding changed
  truncate_is = called_is tx v n (calls.Truncate path size) d done ∙ at_path_is v path file_put.found (λ birth. followed_by (cut_blocks v tx birth from) (λ u. followed_by (clear_tail u birth size) (λ w. resize w birth (λ old. size)))) file_put.walked

  pub truncate_changes : Ends tx v (called v n tx (calls.Truncate path size)).change → HasChanged v (called v n tx (calls.Truncate path size)).change
  truncate_changes e = subst (HasChanged v) (sym truncate_is) (whole_changes (subst (Ends tx v) truncate_is e))

  -- The volume stays bare.
  pub truncate_bare : IsBareNow v → IsBareNow (called v n tx (calls.Truncate path size)).change.volume
  truncate_bare bare =
      let live : IsInUse third.volume = subst (λ (c : Change). IsInUse c.volume) truncate_is (any_call tx v n (calls.Truncate path size) h).steady.in_use in
      subst (λ (c : Change). IsBareNow c.volume) (sym truncate_is)
      (resize_bare v2 two.step.step.steady.in_use birth x1.placed (ap (λ nodes. at_number nodes birth) quiet.nodes ∙ x1.stands) (λ old. size) live
      (tail_bare v1 one.step.steady.in_use birth x1.placed x1.zones x1.stands x1.is_file size
      (file_cut_bare tx v h.plain.in_use birth x.placed x.zones x.stands x.is_file from freed_in bare)))
    where
      freed_in : (z : ℕ) → In z first.touched.freed → (g.first ≤ z) × (z < g.zones)
      freed_in z j = zone_range v h.plain.in_use z states.Used ((any_call tx v n (calls.Truncate path size) h).steady.was_used z
          (subst (λ (c : Change). In z c.touched.freed) (sym truncate_is) (In-append_left first.touched.freed (second.touched.freed ++ third.touched.freed) z j)))
