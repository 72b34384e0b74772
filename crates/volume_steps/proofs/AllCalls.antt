-- Each call, whether it is done or refused.
use Rattle.std.specs.Prelude.{◌≡◌, ◌≢◌, ◌-◌, ◌+◌, ◌&&◌, ℕ, Bool, true, false, List, [], ◌∷◌, length, Option, Some, None, option_map, Ok, Err, refl, ◌≤◌, ◌<◌, ◌↔◌}
use Rattle.std.proofs.Common.{sym, ap, subst, inl, ◌∙◌, ⊎_elim, arith, inr}
use Rattle.std.proofs.lemmas.Bool.{true≢false}
use Rattle.std.proofs.lemmas.Option.{same_Some, none-some}
use Rattle.blk_base.specs.Members.{In}
use Rattle.tree_model.specs.declared.call.Call.{Call}
use Rattle.tree_model.specs.declared.call.Call.TheVariants as calls
use Rattle.tree_model.specs.declared.call.Reply.{Reply}
use Rattle.tree_model.specs.declared.node.Node.TheVariants as nodes
use Rattle.tree_model.specs.Maps.{at_number}
use Rattle.tree_model.specs.Calls.{Tree, Done, Row, outcome, needs, tree_after, tree_from, used_zones, leaves_tree, reply_of, reply_from}
use Rattle.tree_model.specs.Histories.{same_file, touches, writes, is_ok}
use Rattle.tree_model.proofs.Causes.{refused_for, cause_not_ok}
use Rattle.tree_model.proofs.Outcomes.{quiet_stays}
use Rattle.volume_model.specs.declared.placed.Placed.{Placed}
use Rattle.volume_model.specs.declared.placed.Part.{Part}
use Rattle.volume_model.specs.declared.placed.Part.TheVariants as parts
use Rattle.volume_model.specs.Touched.{Page}
use Rattle.volume_model.specs.Trees.{node_from, node_now}
use Rattle.volume_model.specs.Volume.{IsPart, IsStored}
use Rattle.volume_model.specs.laws.Indexed.{keys_bodies}
use Rattle.volume_steps.specs.Now.{VolumeNow, Change, tree_of_now, room_of, unchanged}
use Rattle.volume_steps.specs.Calls.{called, called_by, changed}
use Rattle.volume_steps.specs.Plain.{IsInUse, IsPlainNow, is_of_bytes}
use Rattle.volume_steps.specs.Called.{FindsRoom}
use Rattle.volume_steps.specs.laws.Steady.{IsSteady, shape_of, shape_at, Marks, KeepsMarks}
use Rattle.volume_steps.specs.UsedInodes.{IsInodeUsed}
use Rattle.volume_steps.proofs.CallEnds.{IsDone, done_takes}
use Rattle.volume_steps.proofs.Called.{called_done, needs_are, unchanged_steady}
use Rattle.volume_steps.proofs.CreateCall.{create_done}
use Rattle.volume_steps.proofs.FileCalls.{after_is, same_shape}
use Rattle.volume_steps.proofs.FileCases.{file_call_is}
use Rattle.volume_steps.proofs.Files.{file_now, node_is_file}
use Rattle.volume_steps.proofs.LinkCall.{link_done}
use Rattle.volume_steps.proofs.RenameCall.{rename_done}
use Rattle.volume_steps.proofs.MkdirCall.{mkdir_done}
use Rattle.volume_steps.proofs.PlainNow.{tree_is_plain}
use Rattle.volume_steps.proofs.RmdirCall.{rmdir_done}
use Rattle.volume_steps.proofs.Taking.{frees, waits, in_zones}
use Rattle.volume_steps.proofs.Together.{steady_as, used_waits}
use Rattle.volume_steps.proofs.TreeSteps.{tree_at, tree_none}
use Rattle.volume_steps.proofs.UnlinkCall.{unlink_done}
use Rattle.minix_layout.specs.declared.division.Geometry.{Geometry}
use Rattle.minix_layout.specs.Bits.{has_bit, inode_bit, zone_bit}
use Rattle.minix_tables.specs.zones.Zones.{state_of}
use Rattle.volume_steps.proofs.TakeZones.{zone_range}
use Rattle.minix_tables.specs.declared.zones.zone_state.ZoneState.TheVariants as states

abbrev pub Writes : VolumeNow → ℕ → Call → ℕ → ℕ → Type 0
Writes v n c birth index = writes (room_of v.geometry) (tree_of_now v) n c birth index ≡ true

-- what is had of a call; where it is done, it takes what it needs
pub record IsAnyCall (tx : ℕ) (v : VolumeNow) (n : ℕ) (c : Call) (change : Change) : Type 0 where
  pub steady : IsSteady tx v change (Writes v n c)
  pub tree_is : tree_of_now change.volume ≡ tree_after (room_of v.geometry) (tree_of_now v) n c
  pub plain : IsPlainNow change.volume
  pub taken : (d : Done) → outcome (room_of v.geometry) (tree_of_now v) n c ≡ Ok d → frees change.volume.zones + needs (tree_of_now v) n c ≡ frees v.zones
  pub waiting : waits change.volume.zones ≡ waits v.zones + length change.touched.freed

and_no : (a b : Bool) → b ≡ false → (a && b) ≡ false
and_no true b e = e
and_no false b e = refl

-- ---- a call that touches no block of a file

module _ (tx : ℕ) (v : VolumeNow) (n : ℕ) (c : Call) (h : IsPlainNow v) where
  untouched_none : touches (tree_of_now v) c ≡ (λ birth index. false) → (birth index : ℕ) → writes (room_of v.geometry) (tree_of_now v) n c birth index ≡ false
  unfolding writes
  untouched_none none birth index = and_no (is_ok (reply_of (room_of v.geometry) (tree_of_now v) n c)) (touches (tree_of_now v) c birth index) (ap (λ f. f birth index) none)

  quiet_call : touches (tree_of_now v) c ≡ (λ birth index. false) → IsDone tx v (called v n tx c).change (tree_after (room_of v.geometry) (tree_of_now v) n c) → IsAnyCall tx v n c (called v n tx c).change
  quiet_call none k = record {
    steady = steady_as tx v (called v n tx c).change (λ birth index. ⊥) (Writes v n c) k.steady (λ birth index z. absurd z)
        (λ birth index w. true≢false (sym w ∙ untouched_none none birth index));
    tree_is = k.tree_is;
    plain = k.plain;
    taken = λ d done.
        ap (λ more. frees (called v n tx c).change.volume.zones + more) (needs_are v n c d done ∙ sym (ap (λ tree. used_zones tree - used_zones (tree_of_now v)) (after_is tx v n c d done)))
        ∙ done_takes tx v (called v n tx c).change (tree_after (room_of v.geometry) (tree_of_now v) n c) h.in_use k;
    waiting = k.waiting;
  }

  -- one that leaves the tree as it is
  stays_done : leaves_tree c ≡ true → changed v n tx c ≡ unchanged v → (d : Done) → outcome (room_of v.geometry) (tree_of_now v) n c ≡ Ok d → IsDone tx v (changed v n tx c) d.tree
  stays_done leaves same d done = subst (λ change. IsDone tx v change d.tree) (sym same) (record {
    steady = unchanged_steady tx v h.in_use;
    tree_is = sym (sym (after_is tx v n c d done) ∙ quiet_stays (room_of v.geometry) (tree_of_now v) n c leaves);
    plain = h;
    waiting = omega arith;
    one_way = inl refl;
  })

  -- ---- a call that is refused

  refused_none : (why : Reply) → outcome (room_of v.geometry) (tree_of_now v) n c ≡ Err why → (birth index : ℕ) → writes (room_of v.geometry) (tree_of_now v) n c birth index ≡ false
  unfolding writes reply_of
  refused_none why e birth index =
      ap (λ r. is_ok (reply_from r) && touches (tree_of_now v) c birth index) e
      ∙ ap (λ b. b && touches (tree_of_now v) c birth index)
      (cause_not_ok (room_of v.geometry) (tree_of_now v) n c why (refused_for (room_of v.geometry) (tree_of_now v) (tree_is_plain v h).rooted n c why e))

  refused_call : (why : Reply) → outcome (room_of v.geometry) (tree_of_now v) n c ≡ Err why → IsAnyCall tx v n c (unchanged v)
  unfolding tree_after
  refused_call why e = record {
    steady = steady_as tx v (unchanged v) (λ birth index. ⊥) (Writes v n c) (unchanged_steady tx v h.in_use) (λ birth index z. absurd z)
        (λ birth index w. true≢false (sym w ∙ refused_none why e birth index));
    tree_is = sym (ap (tree_from (tree_of_now v)) e);
    plain = h;
    taken = λ d done. absurd (let no : ◌≡◌ {A = Row} (Err why) (Ok d) = sym e ∙ done in cc);
    waiting = omega arith;
  }

-- ---- a call that writes or cuts a file

bytes_call : (tx : ℕ) (v : VolumeNow) (n : ℕ) (c : Call) → FindsRoom v n c → is_of_bytes c ≡ true → IsAnyCall tx v n c (called v n tx c).change
unfolding called
bytes_call tx v n c h is = by (outcome (room_of v.geometry) (tree_of_now v) n c) refl
  where
    by : (r : Row) → outcome (room_of v.geometry) (tree_of_now v) n c ≡ r → IsAnyCall tx v n c (called_by v n tx c (outcome (room_of v.geometry) (tree_of_now v) n c)).change
    by (Err why) e = subst (λ r. IsAnyCall tx v n c (called_by v n tx c r).change) (sym e) (refused_call tx v n c h.plain why e)
    by (Ok d) e =
        let k = file_call_is tx v h.plain n c d is e h.enough in
        record { steady = k.steady; tree_is = k.tree_is; plain = k.plain h.born; taken = λ d done. k.taken; waiting = k.waiting }

-- ---- each call

-- So it is of each call that finds what it needs.
pub any_call : (tx : ℕ) (v : VolumeNow) (n : ℕ) (c : Call) → FindsRoom v n c → IsAnyCall tx v n c (called v n tx c).change
unfolding changed
any_call tx v n (calls.Mkdir path) h = quiet_call tx v n (calls.Mkdir path) h.plain refl (called_done tx v n (calls.Mkdir path) h.plain h.enough (λ d done more. mkdir_done tx v h.plain n h.born path d done more))
any_call tx v n (calls.Create path) h = quiet_call tx v n (calls.Create path) h.plain refl (called_done tx v n (calls.Create path) h.plain h.enough (λ d done more. create_done tx v h.plain n h.born path d done more))
any_call tx v n (calls.Rmdir path) h = quiet_call tx v n (calls.Rmdir path) h.plain refl (called_done tx v n (calls.Rmdir path) h.plain h.enough (λ d done more. rmdir_done tx v h.plain n h.born path d done))
any_call tx v n (calls.Unlink path) h = quiet_call tx v n (calls.Unlink path) h.plain refl (called_done tx v n (calls.Unlink path) h.plain h.enough (λ d done more. unlink_done tx v h.plain n h.born path d done))
any_call tx v n (calls.Link path other) h = quiet_call tx v n (calls.Link path other) h.plain refl (called_done tx v n (calls.Link path other) h.plain h.enough (λ d done more. link_done tx v h.plain n h.born path other d done more))
any_call tx v n (calls.Rename path other) h = quiet_call tx v n (calls.Rename path other) h.plain refl (called_done tx v n (calls.Rename path other) h.plain h.enough (λ d done more. rename_done tx v h.plain n h.born path other d done more))
any_call tx v n (calls.Write path off len value) h = bytes_call tx v n (calls.Write path off len value) h refl
any_call tx v n (calls.Bytes path off bytes) h = bytes_call tx v n (calls.Bytes path off bytes) h refl
any_call tx v n (calls.Truncate path size) h = bytes_call tx v n (calls.Truncate path size) h refl
any_call tx v n (calls.Read path off len) h = quiet_call tx v n (calls.Read path off len) h.plain refl (called_done tx v n (calls.Read path off len) h.plain h.enough (λ d done more. stays_done tx v n (calls.Read path off len) h.plain refl refl d done))
any_call tx v n (calls.List path) h = quiet_call tx v n (calls.List path) h.plain refl (called_done tx v n (calls.List path) h.plain h.enough (λ d done more. stays_done tx v n (calls.List path) h.plain refl refl d done))
any_call tx v n (calls.Stat path) h = quiet_call tx v n (calls.Stat path) h.plain refl (called_done tx v n (calls.Stat path) h.plain h.enough (λ d done more. stays_done tx v n (calls.Stat path) h.plain refl refl d done))
any_call tx v n (calls.Fsync path) h = quiet_call tx v n (calls.Fsync path) h.plain refl (called_done tx v n (calls.Fsync path) h.plain h.enough (λ d done more. stays_done tx v n (calls.Fsync path) h.plain refl refl d done))
any_call tx v n (calls.Fdatasync path) h = quiet_call tx v n (calls.Fdatasync path) h.plain refl (called_done tx v n (calls.Fdatasync path) h.plain h.enough (λ d done more. stays_done tx v n (calls.Fdatasync path) h.plain refl refl d done))
any_call tx v n (calls.Fbarrier path) h = quiet_call tx v n (calls.Fbarrier path) h.plain refl (called_done tx v n (calls.Fbarrier path) h.plain h.enough (λ d done more. stays_done tx v n (calls.Fbarrier path) h.plain refl refl d done))
any_call tx v n (calls.Fdatabarrier path) h = quiet_call tx v n (calls.Fdatabarrier path) h.plain refl (called_done tx v n (calls.Fdatabarrier path) h.plain h.enough (λ d done more. stays_done tx v n (calls.Fdatabarrier path) h.plain refl refl d done))
any_call tx v n calls.Sync h = quiet_call tx v n calls.Sync h.plain refl (called_done tx v n calls.Sync h.plain h.enough (λ d done more. stays_done tx v n calls.Sync h.plain refl refl d done))

-- ---- pages

no_pages_in : (pages : List Page) → ((x : Page) → In x pages → ⊥) → pages ≡ []
no_pages_in [] none = refl
no_pages_in (x ∷ pages) none = absurd (none x (inl refl))

-- a call that is not of bytes touches no block of a file
not_of_bytes : (tree : Tree) (c : Call) → is_of_bytes c ≡ false → (birth index : ℕ) → touches tree c birth index ≡ false
not_of_bytes tree (calls.Write path off len value) e birth index = absurd (true≢false e)
not_of_bytes tree (calls.Bytes path off bytes) e birth index = absurd (true≢false e)
not_of_bytes tree (calls.Truncate path size) e birth index = absurd (true≢false e)
not_of_bytes tree other e birth index = refl

pub no_pages : (tx : ℕ) (v : VolumeNow) (n : ℕ) (c : Call) → FindsRoom v n c → is_of_bytes c ≡ false → (called v n tx c).change.touched.pages ≡ []
unfolding writes
no_pages tx v n c h is = no_pages_in (called v n tx c).change.touched.pages (λ x i.
    true≢false (sym ((any_call tx v n c h).steady.told.pages_are_written x i).1
    ∙ and_no (is_ok (reply_of (room_of v.geometry) (tree_of_now v) n c)) (touches (tree_of_now v) c x.birth x.index) (not_of_bytes (tree_of_now v) c is x.birth x.index)))

-- ---- nodes that change

-- a node of the same shape is the same file, or no file
module _ (v w : VolumeNow) (h : IsInUse v) (k : IsInUse w) (b : ℕ) where
  by_part : (p q : Placed) (part : Part) → at_number v.contents.nodes b ≡ Some p → at_number w.contents.nodes b ≡ Some q → p.part ≡ part → q.part ≡ part → q.inode.size ≡ p.inode.size →
      same_file (Some (node_now v.contents.blocks p)) (Some (node_now w.contents.blocks q)) ≡ true
  by_part p q (parts.Directory d) at to is too size =
      ap (λ part. same_file (Some (node_from v.contents.blocks p.inode part)) (Some (node_now w.contents.blocks q))) is
      ∙ ap (λ part. same_file (Some (node_from v.contents.blocks p.inode (parts.Directory d))) (Some (node_from w.contents.blocks q.inode part))) too
  by_part p q (parts.File zones) at to is too size =
      let one = subst (IsPart v.geometry v.contents.blocks p.inode) is (h.volume.0.each b p at).part in
      let two = subst (IsPart w.geometry w.contents.blocks q.inode) too (k.volume.0.each b q to).part in
      ap (λ node. same_file (Some node) (Some (node_now w.contents.blocks q))) (node_is_file v.contents.blocks p zones is one.rising)
      ∙ (ap (λ node. same_file (Some (nodes.File (file_now v.contents.blocks p zones))) (Some node)) (node_is_file w.contents.blocks q zones too two.rising)
      ∙ same_shape (file_now v.contents.blocks p zones) (file_now w.contents.blocks q zones) size (keys_bodies w.contents.blocks zones ∙ sym (keys_bodies v.contents.blocks zones)))

  pub same_shape_file : shape_at w.contents.nodes b ≡ shape_at v.contents.nodes b → same_file (at_number (tree_of_now v) b) (at_number (tree_of_now w) b) ≡ true
  same_shape_file same = by (at_number v.contents.nodes b) (at_number w.contents.nodes b) refl refl
    where
      by : (o u : Option Placed) → at_number v.contents.nodes b ≡ o → at_number w.contents.nodes b ≡ u → same_file (at_number (tree_of_now v) b) (at_number (tree_of_now w) b) ≡ true
      by None None e f =
          ap (same_file (at_number (tree_of_now v) b)) (tree_none w.contents.blocks w.contents.nodes b f)
          ∙ ap (λ o. same_file o None) (tree_none v.contents.blocks v.contents.nodes b e)
      by None (Some q) e f = absurd (none-some (shape_of q) (sym (ap (option_map shape_of) e) ∙ (sym same ∙ ap (option_map shape_of) f)))
      by (Some p) None e f = absurd (none-some (shape_of p) (sym (ap (option_map shape_of) f) ∙ (same ∙ ap (option_map shape_of) e)))
      by (Some p) (Some q) e f =
          let shape = same_Some (shape_of q) (shape_of p) (sym (ap (option_map shape_of) f) ∙ (same ∙ ap (option_map shape_of) e)) in
          ap (same_file (at_number (tree_of_now v) b)) (tree_at w.contents.blocks w.contents.nodes b q f)
          ∙ (ap (λ o. same_file o (Some (node_now w.contents.blocks q))) (tree_at v.contents.blocks v.contents.nodes b p e)
          ∙ by_part p q p.part e f refl (ap (λ s. s.part) shape) (ap (λ s. s.size) shape))

module _ (tx : ℕ) (v : VolumeNow) (n : ℕ) (c : Call) (h : FindsRoom v n c) (b : ℕ) where
  -- a node that changes is listed
  pub node_listed : shape_at (called v n tx c).change.volume.contents.nodes b ≢ shape_at v.contents.nodes b → In b (called v n tx c).change.touched.nodes
  node_listed differs = ⊎_elim (λ i. i) (λ out. absurd (differs ((any_call tx v n c h).steady.nodes.others b out))) (in_zones b (called v n tx c).change.touched.nodes)

  pub file_listed : same_file (at_number (tree_of_now v) b) (at_number (tree_of_now (called v n tx c).change.volume) b) ≡ false → In b (called v n tx c).change.touched.nodes
  file_listed differs = node_listed (λ same. true≢false (sym (same_shape_file v (called v n tx c).change.volume h.plain.in_use (any_call tx v n c h).steady.in_use b same) ∙ differs))

-- ---- bits

-- a bit that says what came into use is set, one of what went is clear, and others are as before
came : (bit after : Bool) (Used Now : Type 0) → Marks bit Used after Now → (Used → ⊥) → Now → after ≡ true
came bit after Used Now (inl same) was now = absurd (was (same.1.0 now))
came bit after Used Now (inr says) was now = says.0.1 now

went : (bit after : Bool) (Used Now : Type 0) → Marks bit Used after Now → Used → (Now → ⊥) → after ≡ false
went bit after Used Now (inl same) was gone = absurd (gone (same.1.1 was))
went bit after Used Now (inr says) was gone = by after says.0
  where
    by : (after : Bool) → (after ≡ true) ↔ Now → after ≡ false
    by true says = absurd (gone (says.0 refl))
    by false says = refl

stayed : (bit after : Bool) (Used Now : Type 0) → Marks bit Used after Now → Now ↔ Used → after ≡ bit
stayed bit after Used Now (inl same) alike = same.0
stayed bit after Used Now (inr says) alike = absurd (says.1 alike)

module _ (tx : ℕ) (v : VolumeNow) (n : ℕ) (c : Call) (h : FindsRoom v n c) where
  abbrev w : VolumeNow
  w = (called v n tx c).change.volume

  marks : KeepsMarks v.geometry v.contents w.contents v.zones w.zones
  marks = (any_call tx v n c h).steady.marks

  after_in_use : IsInUse w
  after_in_use = (any_call tx v n c h).steady.in_use

  geometry : w.geometry ≡ v.geometry
  geometry = (any_call tx v n c h).steady.geometry

  pub taken_zone : (zone : ℕ) → state_of v.zones zone ≢ Some states.Used → state_of w.zones zone ≡ Some states.Used → has_bit w.contents.blocks (zone_bit v.geometry zone) ≡ true
  taken_zone zone was now =
      let range = subst (λ (g : Geometry). (g.first ≤ zone) × (zone < g.zones)) geometry (zone_range w after_in_use zone states.Used now) in
      came _ _ _ _ (marks.zones zone range.0 range.1) was now

  pub freed_zone : (zone : ℕ) → In zone (called v n tx c).change.touched.freed → has_bit w.contents.blocks (zone_bit v.geometry zone) ≡ false
  freed_zone zone i =
      let steady = (any_call tx v n c h).steady in
      let range = zone_range v h.plain.in_use zone states.Used (steady.was_used zone i) in
      went _ _ _ _ (marks.zones zone range.0 range.1) (steady.was_used zone i) (λ used. used_waits tx (sym used ∙ steady.freed zone i))

  pub other_zone : (zone : ℕ) → v.geometry.first ≤ zone → zone < v.geometry.zones → (state_of w.zones zone ≡ Some states.Used) ↔ (state_of v.zones zone ≡ Some states.Used) →
      has_bit w.contents.blocks (zone_bit v.geometry zone) ≡ has_bit v.contents.blocks (zone_bit v.geometry zone)
  other_zone zone low high same = stayed _ _ _ _ (marks.zones zone low high) same

  pub taken_inode : (number : ℕ) → (IsInodeUsed v.contents.nodes number → ⊥) → IsInodeUsed w.contents.nodes number → has_bit w.contents.blocks (inode_bit v.geometry number) ≡ true
  taken_inode number was now =
      let stored = subst (λ (g : Geometry). IsStored g w.contents.blocks now.placed) geometry (after_in_use.volume.0.each now.birth now.placed now.stands) in
      came _ _ _ _ (marks.inodes number (subst (λ k. 0 < k) now.is stored.some) (subst (λ k. k ≤ v.geometry.inodes) now.is stored.within)) was now

  pub freed_inode : (number : ℕ) → IsInodeUsed v.contents.nodes number → (IsInodeUsed w.contents.nodes number → ⊥) → has_bit w.contents.blocks (inode_bit v.geometry number) ≡ false
  freed_inode number was gone =
      let stored = h.plain.in_use.volume.0.each was.birth was.placed was.stands in
      went _ _ _ _ (marks.inodes number (subst (λ k. 0 < k) was.is stored.some) (subst (λ k. k ≤ v.geometry.inodes) was.is stored.within)) was gone

  pub other_inode : (number : ℕ) → 0 < number → number ≤ v.geometry.inodes → IsInodeUsed w.contents.nodes number ↔ IsInodeUsed v.contents.nodes number →
      has_bit w.contents.blocks (inode_bit v.geometry number) ≡ has_bit v.contents.blocks (inode_bit v.geometry number)
  other_inode number some high same = stayed _ _ _ _ (marks.inodes number some high) same
