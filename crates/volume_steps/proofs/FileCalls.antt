-- The calls that write and cut files, as calls on a volume.
use Rattle.std.specs.Prelude.{◌≡◌, ◌≢◌, ℕ, ◌+◌, ◌-◌, ◌/◌, ◌%◌, ◌≤◌, ◌==◌, not, ◌&&◌, Bool, true, false, List, length, Some, Ok, Err, is_some, refl}
use Rattle.std.proofs.Common.{sym, ap, subst, ◌∙◌, arith}
use Rattle.std.proofs.lemmas.Bool.{eqb-true, eqb-false, eq-eqb, ne_eqb, and_from, and_parts, true≢false}
use Rattle.std.proofs.lemmas.Slice.Eq.{bytes_eq-Decides}
use Rattle.blk_base.specs.Members.{In}
use Rattle.blk_base.specs.laws.Members.{In-list_any, list_any-In}
use Rattle.tree_model.specs.declared.call.Call.{Call}
use Rattle.tree_model.specs.declared.call.Call.TheVariants as calls
use Rattle.tree_model.specs.declared.call.Reply.TheVariants as replies
use Rattle.tree_model.specs.declared.call.Room.{Room}
use Rattle.tree_model.specs.declared.node.File.{File}
use Rattle.std.specs.Map.{keys_of}
use Rattle.tree_model.specs.declared.node.Node.TheVariants as nodes
use Rattle.tree_model.specs.Maps.{at_number, put_number}
use Rattle.tree_model.proofs.Changes.{outcome_row}
use Rattle.tree_model.proofs.PlainTrees.{call_plain}
use Rattle.tree_model.proofs.Zones.{needs_none}
use Rattle.tree_model.specs.Calls.{Tree, Done, Row, Found, walk_path, row, outcome, tree_after, tree_from, reply_of, reply_from, needs, used_zones, written_file, cut_file, touched_blocks, write as write_row, truncate as truncate_row}
use Rattle.tree_model.specs.Histories.{same_file, touches, writes, leads_to, is_found_at, is_touched, is_ok, maps_block, block_in}
use Rattle.tree_model.specs.Plain.{IsPlain, AreBornBefore}
use Rattle.volume_steps.specs.Calls.{called, called_by, changed, write, truncate}
use Rattle.volume_steps.specs.Now.{VolumeNow, Change, tree_of_now, room_of}
use Rattle.volume_steps.specs.Plain.{IsPlainNow}
use Rattle.volume_steps.specs.laws.Steady.{IsSteady}
use Rattle.volume_steps.proofs.FileSteps.{IsFileStep, room_kept}
use Rattle.volume_steps.proofs.PlainNow.{tree_is_plain, settled_before, slotted_before, plain_now}
use Rattle.volume_steps.proofs.Taking.{frees, uses, waits}
use Rattle.volume_steps.proofs.Together.{steady_as}
use Rattle.volume_steps.proofs.TreeSteps.{tree_in_order, used_put_more}
use Rattle.volume_steps.proofs.WriteCall.{IsFilePut, links_kept, write_step, put as write_put, written_grows}
use Rattle.volume_steps.proofs.WriteSteps.{IsWriteStep, AreAt}
use Rattle.volume_steps.proofs.TruncateCall.{IsTail, truncate_step, truncate_free, tail_there, there_tail, put as truncate_put}

-- ---- a call that is done

module _ (tx : ℕ) (v : VolumeNow) (num : ℕ) (c : Call) where
  abbrev tree : Tree
  tree = tree_of_now v

  abbrev room : Room
  room = room_of v.geometry

  pub called_is : (d : Done) → outcome room tree num c ≡ Ok d → (called v num tx c).change ≡ changed v num tx c
  unfolding called
  called_is d done = ap (λ (r : Row). (called_by v num tx c r).change) done

  pub after_is : (d : Done) → outcome room tree num c ≡ Ok d → tree_after room tree num c ≡ d.tree
  unfolding tree_after
  after_is d done = ap (tree_from tree) done

  pub writes_is : (d : Done) → outcome room tree num c ≡ Ok d → d.reply ≡ replies.Ok → (birth index : ℕ) → writes room tree num c birth index ≡ touches tree c birth index
  unfolding writes reply_of
  writes_is d done ok birth index = ap (λ r. is_ok (reply_from r) && touches tree c birth index) done ∙ ap (λ reply. is_ok reply && touches tree c birth index) ok

  pub needs_is : (d : Done) → row tree num c ≡ Ok d → needs tree num c ≡ used_zones d.tree - used_zones tree
  unfolding needs
  needs_is d e = ap (λ (r : Row). elim r as (λ _. ℕ) [ Err reply ↦ 0 | Ok d ↦ used_zones d.tree - used_zones tree ]) e

-- ---- nodes that change

pub same_shape : (f e : File) → e.size ≡ f.size → keys_of e.blocks ≡ keys_of f.blocks → same_file (Some (nodes.File f)) (Some (nodes.File e)) ≡ true
same_shape f e size keys = and_from _ _ (eq-eqb f.size e.size (sym size)) ((bytes_eq-Decides (keys_of f.blocks) (keys_of e.blocks)).1 (sym keys))

-- what is had of a call on a file that is done
pub record IsFileCall (tx : ℕ) (v : VolumeNow) (num : ℕ) (c : Call) (change : Change) : Type 0 where
  pub steady : IsSteady tx v change (λ birth index. writes (room_of v.geometry) (tree_of_now v) num c birth index ≡ true)
  pub tree_is : tree_of_now change.volume ≡ tree_after (room_of v.geometry) (tree_of_now v) num c
  pub plain : AreBornBefore num (tree_of_now v) → IsPlainNow change.volume
  pub taken : frees change.volume.zones + needs (tree_of_now v) num c ≡ frees v.zones
  pub waiting : waits change.volume.zones ≡ waits v.zones + length change.touched.freed

-- a step on a file that is what a call does
module _ (tx : ℕ) (v : VolumeNow) (plain : IsPlainNow v) (num : ℕ) (c : Call) (d : Done) (done : outcome (room_of v.geometry) (tree_of_now v) num c ≡ Ok d) (ok : d.reply ≡ replies.Ok)
    (n : ℕ) (f e : File) (found : at_number (tree_of_now v) n ≡ Some (nodes.File f)) (is : d.tree ≡ put_number (tree_of_now v) n (nodes.File e))
    (change : Change) (Writes : ℕ → ℕ → Type 0) (s : IsFileStep tx v n change e Writes)
    (there : (birth index : ℕ) → Writes birth index → touches (tree_of_now v) c birth index ≡ true) (back : (birth index : ℕ) → touches (tree_of_now v) c birth index ≡ true → Writes birth index)
    (taken : frees change.volume.zones + needs (tree_of_now v) num c ≡ frees v.zones) where
  tree_same : tree_of_now change.volume ≡ tree_after (room_of v.geometry) (tree_of_now v) num c
  tree_same = s.tree ∙ (sym is ∙ sym (after_is tx v num c d done))

  pub file_call : IsFileCall tx v num c change
  file_call = record {
    steady = steady_as tx v change Writes (λ birth index. writes (room_of v.geometry) (tree_of_now v) num c birth index ≡ true) s.steady
        (λ birth index w. writes_is tx v num c d done ok birth index ∙ there birth index w) (λ birth index w. back birth index (sym (writes_is tx v num c d done ok birth index) ∙ w));
    tree_is = tree_same;
    plain = λ born. plain_now change.volume s.steady.in_use (subst IsPlain (sym tree_same) (call_plain (room_of v.geometry) (tree_of_now v) num c (tree_is_plain v plain) born))
        (s.settled (settled_before v plain)) (s.slotted (slotted_before v plain)) (links_kept tx v n change f e Writes found s plain.plain.directory_links_are);
    taken = taken;
    waiting = s.waiting;
  }

-- ---- writes

leads_there : (v : VolumeNow) (path : List ℕ) (found : Found) → walk_path (tree_of_now v) path ≡ Ok found → (birth : ℕ) → leads_to (tree_of_now v) path birth ≡ (found.birth == birth)
leads_there v path found walked birth = ap (λ r. is_found_at r birth) walked

module _ (tx : ℕ) (v : VolumeNow) (plain : IsPlainNow v) (num : ℕ) (c : Call) (path : List ℕ) (off : ℕ) (bytes : List ℕ) (d : Done)
    (done : outcome (room_of v.geometry) (tree_of_now v) num c ≡ Ok d) (wrote : row (tree_of_now v) num c ≡ write_row (tree_of_now v) path off bytes) (enough : needs (tree_of_now v) num c ≤ frees v.zones)
    (touch : (birth index : ℕ) → touches (tree_of_now v) c birth index ≡ (leads_to (tree_of_now v) path birth && is_touched off (length bytes) index)) where
  row_is : write_row (tree_of_now v) path off bytes ≡ Ok d
  row_is = sym wrote ∙ outcome_row (room_of v.geometry) (tree_of_now v) num c d done

  needed : needs (tree_of_now v) num c ≡ used_zones d.tree - used_zones (tree_of_now v)
  needed = needs_is tx v num c d (outcome_row (room_of v.geometry) (tree_of_now v) num c d done)

  fits : used_zones d.tree ≤ uses v.zones + frees v.zones
  fits = let counted = plain.in_use.counted in let needs_are = needed in omega arith

  abbrev p : IsFilePut (tree_of_now v) path (λ f. written_file f off bytes) d
  p = write_put tx v plain path off bytes d row_is fits

  step : IsWriteStep tx v p.found.birth (write v path off bytes) (written_file p.file off bytes) (AreAt p.found.birth (touched_blocks off (length bytes)))
  step = write_step tx v plain path off bytes d row_is fits

  there : (birth index : ℕ) → AreAt p.found.birth (touched_blocks off (length bytes)) birth index → touches (tree_of_now v) c birth index ≡ true
  there birth index w =
      touch birth index
      ∙ and_from _ _ (leads_there v path p.found p.walked birth ∙ eq-eqb p.found.birth birth (sym w.0))
      (list_any-In (λ i. i == index) (touched_blocks off (length bytes)) index w.1 (eq-eqb index index refl))

  back : (birth index : ℕ) → touches (tree_of_now v) c birth index ≡ true → AreAt p.found.birth (touched_blocks off (length bytes)) birth index
  back birth index t =
      let both = and_parts _ _ (sym (touch birth index) ∙ t) in
      let w = In-list_any (λ i. i == index) (touched_blocks off (length bytes)) both.1 in
      (sym (eqb-true _ _ (sym (leads_there v path p.found p.walked birth) ∙ both.0)), subst (λ i. In i (touched_blocks off (length bytes))) (eqb-true _ _ w.2) w.1)

  taken : frees (write v path off bytes).volume.zones + needs (tree_of_now v) num c ≡ frees v.zones
  taken =
      let kept = room_kept tx v plain.in_use p.found.birth (write v path off bytes) (written_file p.file off bytes) (AreAt p.found.birth (touched_blocks off (length bytes))) step.step in
      let none : length (write v path off bytes).touched.freed ≡ 0 = ap length step.none_freed in
      let order = tree_in_order v.contents.blocks v.contents.nodes plain.in_use.volume.0.in_order in
      let sum = used_put_more (tree_of_now v) p.found.birth (nodes.File p.file) (nodes.File (written_file p.file off bytes)) order p.stands in
      let more = written_grows p.file off bytes in
      let all : used_zones (tree_of_now (write v path off bytes).volume) ≡ used_zones (put_number (tree_of_now v) p.found.birth (nodes.File (written_file p.file off bytes))) = ap used_zones step.step.tree in
      let same : used_zones d.tree ≡ used_zones (put_number (tree_of_now v) p.found.birth (nodes.File (written_file p.file off bytes))) = ap used_zones p.tree_is in
      let needs_are = needed in
      omega arith

  pub write_call : IsFileCall tx v num c (write v path off bytes)
  write_call = file_call tx v plain num c d done p.reply_is p.found.birth p.file (written_file p.file off bytes) p.stands p.tree_is (write v path off bytes)
      (AreAt p.found.birth (touched_blocks off (length bytes))) step.step there back taken

-- ---- a cut

module _ (tx : ℕ) (v : VolumeNow) (plain : IsPlainNow v) (num : ℕ) (path : List ℕ) (size : ℕ) (d : Done) (done : outcome (room_of v.geometry) (tree_of_now v) num (calls.Truncate path size) ≡ Ok d) where
  abbrev call : Call
  call = calls.Truncate path size

  cut_row : truncate_row (tree_of_now v) path size ≡ Ok d
  unfolding row
  cut_row = outcome_row (room_of v.geometry) (tree_of_now v) num call d done

  abbrev cut_put : IsFilePut (tree_of_now v) path (λ f. cut_file f size) d
  cut_put = truncate_put tx v plain.in_use path size d cut_row

  abbrev b : ℕ
  b = cut_put.found.birth

  leads : (birth : ℕ) → leads_to (tree_of_now v) path birth ≡ (b == birth)
  leads birth = leads_there v path cut_put.found cut_put.walked birth

  mapped_at : (birth index : ℕ) → birth ≡ b → maps_block (tree_of_now v) birth index ≡ is_some (at_number cut_put.file.blocks index)
  mapped_at birth index e = ap (λ o. is_some (block_in o index)) (ap (at_number (tree_of_now v)) e ∙ cut_put.stands)

  tail_touched : (birth index : ℕ) → IsTail b size cut_put.file birth index → touches (tree_of_now v) call birth index ≡ true
  tail_touched birth index w =
      and_from _ _ (leads birth ∙ eq-eqb b birth (sym w.0))
      (and_from _ _ (ap not (ne_eqb (size % 1024) 0 w.2))
      (and_from _ _ (eq-eqb (size / 1024) index (sym w.1)) (mapped_at birth index w.0 ∙ (ap (λ i. is_some (at_number cut_put.file.blocks i)) w.1 ∙ w.3))))

  touched_tail : (birth index : ℕ) → touches (tree_of_now v) call birth index ≡ true → IsTail b size cut_put.file birth index
  touched_tail birth index t =
      let one = and_parts _ _ t in
      let two = and_parts _ _ one.1 in
      let three = and_parts _ _ two.1 in
      let here : birth ≡ b = sym (eqb-true _ _ (sym (leads birth) ∙ one.0)) in
      let last : index ≡ size / 1024 = sym (eqb-true _ _ three.0) in
      (here, last, odd (size % 1024 == 0) refl two.0, ap (λ i. is_some (at_number cut_put.file.blocks i)) (sym last) ∙ (sym (mapped_at birth index here) ∙ three.1))
    where
      odd : (y : Bool) → (size % 1024 == 0) ≡ y → not y ≡ true → size % 1024 ≢ 0
      odd true e t = absurd (true≢false (sym t))
      odd false e t = eqb-false _ _ e

  pub truncate_call : IsFileCall tx v num call (truncate v tx path size)
  truncate_call = file_call tx v plain num call d done cut_put.reply_is b cut_put.file (cut_file cut_put.file size) cut_put.stands cut_put.tree_is (truncate v tx path size)
      _ (truncate_step tx v plain.in_use path size d cut_row)
      (λ birth index w. tail_touched birth index (tail_there tx v plain.in_use path size d cut_row birth index w))
      (λ birth index t. there_tail tx v plain.in_use path size d cut_row birth index (touched_tail birth index t))
      (let free = truncate_free tx v plain.in_use path size d cut_row in let none = needs_none (tree_of_now v) (tree_is_plain v plain) num call refl in omega arith)
