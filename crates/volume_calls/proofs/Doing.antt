-- Calls on names and bytes, done in the parts of a volume.
use Rattle.std.proofs.Common.{◌≡◌, ℕ, Bool, List, length, Some, None, option_map, unwrap_or, Ok, Err, IsOk, sym, ap, subst, ◌∙◌}
use Rattle.minix_layout.specs.declared.division.Geometry.{Geometry}
use Rattle.tree_model.specs.declared.call.Call.{Call}
use Rattle.tree_model.specs.declared.call.Call.TheVariants as calls
use Rattle.tree_model.specs.declared.call.Reply.{Reply}
use Rattle.tree_model.specs.declared.call.Reply.TheVariants as replies
use Rattle.tree_model.specs.Calls.{Found, Place, walk, walk_path, outcome}
use Rattle.tree_model.proofs.Rows.{ok_ok}
use Rattle.volume_model.specs.Touched.{Touched}
use Rattle.volume_steps.specs.Now.{VolumeNow, Change, tree_of_now, room_of}
use Rattle.volume_steps.specs.Calls.{changed, create_in, link_in, mkdir_in, rmdir_in, truncate_at, unlink_in, write_at}
use Rattle.volume_steps.specs.Plain.{IsPlainNow}
use Rattle.volume_steps.specs.Called.{FindsRoom}
use Rattle.volume_steps.proofs.AllCalls.{any_call}
use Rattle.tree_model.specs.Maps.{at_number}
use Rattle.volume_model.specs.declared.placed.Placed.{Placed}
use Rattle.volume_ops.specs.Marks.{marked}
use Rattle.volume_steps.specs.Zones.{new_number}
use Rattle.volume_names.specs.UsedInodes.{MarksNodes, unmarked}
use Rattle.volume_names.proofs.InodeMarks.{same_birth, KeepsNumbers, marks_kept, Comes, marks_come, Loses, marks_lose}
use Rattle.volume_names.specs.May.{MayCreate, MayLink, MayMkdir}
use Rattle.volume_names.proofs.Callers.{create_may, link_may, mkdir_may}
use Rattle.volume_names.specs.removals.May.{MayRmdir, MayUnlink}
use Rattle.volume_names.proofs.RemovalsLemmas.Callers.{rmdir_may, unlink_may}
use Rattle.volume_names.specs.renames.May.{MayRename}
use Rattle.volume_names.specs.renames.Renamed.{birth_named, renamed_at}
use Rattle.volume_names.proofs.RenamesLemmas.Callers.{may_rename, met_stands, not_aside, not_astray, not_lost, rename_is}
use Rattle.tree_model.proofs.Changes.{outcome_row}
use Rattle.volume_in_use.specs.declared.bytes.content.Content.{Content}
use Rattle.volume_in_use.specs.bytes.Contents.{bytes_of}
use Rattle.volume_in_use.specs.bytes.MayWrite.{MayTruncate, MayWrite}
use Rattle.volume_in_use.proofs.BytesLemmas.MayCall.{may_be_written, may_truncate}
use Rattle.volume_calls.specs.code.Sites.{IsSite, place_in}
use Rattle.volume_calls.specs.code.Writes.{write_call}
use Rattle.volume_calls.specs.code.MarkedVolume.{IsMarkedVolume}
use Rattle.volume_calls.proofs.KeptNumbers.{rename_loses, create_comes, mkdir_comes, link_keeps, write_keeps, truncate_keeps, unlink_loses, rmdir_loses}
use Rattle.volume_calls.proofs.Applied.{ok_of, done_plain, done_change, parted, no_file_site, no_directory_site, no_cut_path, no_link_path, no_link_site, no_rmdir_path, no_rmdir_site, no_unlink_path, no_unlink_site, no_write_path, walked_parts, create_is, link_is, mkdir_is, rmdir_is, truncate_is, unlink_is, write_call_row, write_is}

-- what was done is the call's change, and leaves the volume plain
pub record IsCall (v : VolumeNow) (n tx : ℕ) (c : Call) (w : VolumeNow) (t : Touched) : Type 0 where
  pub change : ◌≡◌ {A = Change} (record { volume = w; touched = t }) (changed v n tx c)
  pub plain : IsPlainNow w
  pub geometry : w.geometry ≡ v.geometry

call_done : (v : VolumeNow) (n tx : ℕ) (c : Call) → FindsRoom v n c → IsOk (outcome (room_of v.geometry) (tree_of_now v) n c) → (w : VolumeNow) (t : Touched) →
    ◌≡◌ {A = Change} (record { volume = w; touched = t }) (changed v n tx c) → IsCall v n tx c w t
call_done v n tx c room may w t e =
    let d = ok_of (outcome (room_of v.geometry) (tree_of_now v) n c) may in
    let k = any_call tx v n c room in
    record {
      change = e;
      plain = subst (λ (x : Change). IsPlainNow x.volume) (sym e) (done_plain v n tx c d.0 d.1 k.plain);
      geometry = ap (λ (x : Change). x.volume.geometry) (e ∙ sym (done_change v n tx c d.0 d.1)) ∙ k.steady.geometry;
    }

-- ---- the inodes that are marked

module _ (v parts : VolumeNow) (same : parts ≡ v) (marks : List Bool) (h : IsMarkedVolume parts marks) (n tx : ℕ) (c : Call) (w : VolumeNow) (t : Touched) (done : IsCall v n tx c w t)
    (next : Change) (is : ◌≡◌ {A = Change} (record { volume = w; touched = t }) next) where
  marked_as : (now : List Bool) → MarksNodes parts.geometry next.volume.contents.nodes now → IsMarkedVolume w now
  marked_as now inodes = record {
    plain = done.plain;
    inodes = subst (λ (g : Geometry). MarksNodes g w.contents.nodes now) (ap (λ (v : VolumeNow). v.geometry) same ∙ sym done.geometry)
        (subst (λ (x : Change). MarksNodes parts.geometry x.volume.contents.nodes now) (sym is) inodes);
  }

  -- no node came or went
  pub still_marked : KeepsNumbers parts.contents.nodes next.volume.contents.nodes → IsMarkedVolume w marks
  still_marked kept = marked_as marks (marks_kept parts.geometry parts.contents.nodes next.volume.contents.nodes marks h.inodes kept)

  -- a node came, and has the lowest inode
  pub one_marked : Comes parts.contents.nodes next.volume.contents.nodes n (new_number parts.geometry parts.contents.nodes) →
      (number : ℕ) → number ≡ new_number parts.geometry parts.contents.nodes → IsMarkedVolume w (marked marks number)
  one_marked comes number lowest =
      marked_as (marked marks number)
      (subst (λ k. MarksNodes parts.geometry next.volume.contents.nodes (marked marks k)) (sym lowest)
      (marks_come parts.geometry parts.contents.nodes next.volume.contents.nodes marks n (new_number parts.geometry parts.contents.nodes) h.inodes comes))

  -- a node may have gone
  pub one_unmarked : (birth : ℕ) → Loses parts.contents.nodes next.volume.contents.nodes birth → (p : Placed) → at_number v.contents.nodes birth ≡ Some p →
      (now : List Bool) → (at_number w.contents.nodes birth ≡ None → now ≡ unmarked marks p.number) → ((q : Placed) → at_number w.contents.nodes birth ≡ Some q → now ≡ marks) → IsMarkedVolume w now
  one_unmarked birth loses p at now gone stays =
      let stands : at_number parts.contents.nodes birth ≡ Some p = subst (λ (u : VolumeNow). at_number u.contents.nodes birth ≡ Some p) (sym same) at in
      let nodes : w.contents.nodes ≡ next.volume.contents.nodes = ap (λ (x : Change). x.volume.contents.nodes) is in
      marked_as now
      (marks_lose parts.geometry parts.contents.nodes next.volume.contents.nodes marks birth p.number h.inodes loses (ap (option_map (λ (p : Placed). p.number)) stands)
      (λ b also. same_birth parts.contents.nodes b birth p.number h.plain.in_use.volume.0.numbers also (ap (option_map (λ (p : Placed). p.number)) stands)) now
      (λ none. gone (ap (λ nodes. at_number nodes birth) nodes ∙ none))
      (λ q some. stays q (ap (λ nodes. at_number nodes birth) nodes ∙ some)))

module _ (v parts : VolumeNow) (same : parts ≡ v) (n : ℕ) (path : List ℕ) where
  -- ---- a file

  module _ (room : FindsRoom v n (calls.Create path)) (may : IsOk (outcome (room_of v.geometry) (tree_of_now v) n (calls.Create path))) where
    pub create_led : (reply : Reply) → place_in (tree_of_now v) path ≡ Err reply → ⊥
    create_led reply none = (let d = ok_of (outcome (room_of v.geometry) (tree_of_now v) n (calls.Create path)) may in no_file_site v n path d.0 d.1 reply none)

    module _ (parent : ℕ) (name : List ℕ) (site : IsSite (tree_of_now v) path parent name) where
      pub create_ready : MayCreate parts n parent name
      create_ready =
          let d = ok_of (outcome (room_of v.geometry) (tree_of_now v) n (calls.Create path)) may in
          let p = parted (tree_of_now v) path (record { parent = parent; directory = site.directory; name = name }) site.is in
          subst (λ (u : VolumeNow). MayCreate u n parent name) (sym same)
          (create_may v n path d.0 p.names (record { parent = parent; directory = site.directory; name = name }) replies.Invalid room d.1 p.named p.leads)

      pub create_done : (tx : ℕ) (w : VolumeNow) (t : Touched) → ◌≡◌ {A = Change} (record { volume = w; touched = t }) (create_in parts n parent name) → IsCall v n tx (calls.Create path) w t
      create_done tx w t e =
          let p = parted (tree_of_now v) path (record { parent = parent; directory = site.directory; name = name }) site.is in
          call_done v n tx (calls.Create path) room may w t
          (e ∙ (ap (λ (u : VolumeNow). create_in u n parent name) same ∙ sym (create_is v n tx path (record { parent = parent; directory = site.directory; name = name }) p)))

      pub create_marked : (marks : List Bool) → IsMarkedVolume parts marks → (w : VolumeNow) (t : Touched) → ◌≡◌ {A = Change} (record { volume = w; touched = t }) (create_in parts n parent name) →
          (number : ℕ) → number ≡ new_number parts.geometry parts.contents.nodes → IsMarkedVolume w (marked marks number)
      create_marked marks h w t e = one_marked v parts same marks h n 0 (calls.Create path) w t (create_done 0 w t e) (create_in parts n parent name) e (create_comes parts n parent name create_ready)

  -- ---- a directory

  module _ (room : FindsRoom v n (calls.Mkdir path)) (may : IsOk (outcome (room_of v.geometry) (tree_of_now v) n (calls.Mkdir path))) where
    pub mkdir_led : (reply : Reply) → place_in (tree_of_now v) path ≡ Err reply → ⊥
    mkdir_led reply none = (let d = ok_of (outcome (room_of v.geometry) (tree_of_now v) n (calls.Mkdir path)) may in no_directory_site v n path d.0 d.1 reply none)

    module _ (parent : ℕ) (name : List ℕ) (site : IsSite (tree_of_now v) path parent name) where
      pub mkdir_ready : MayMkdir parts n parent name
      mkdir_ready =
          let d = ok_of (outcome (room_of v.geometry) (tree_of_now v) n (calls.Mkdir path)) may in
          let p = parted (tree_of_now v) path (record { parent = parent; directory = site.directory; name = name }) site.is in
          subst (λ (u : VolumeNow). MayMkdir u n parent name) (sym same)
          (mkdir_may v n path d.0 p.names (record { parent = parent; directory = site.directory; name = name }) replies.Invalid room d.1 p.named p.leads)

      pub mkdir_done : (tx : ℕ) (w : VolumeNow) (t : Touched) → ◌≡◌ {A = Change} (record { volume = w; touched = t }) (mkdir_in parts n parent name) → IsCall v n tx (calls.Mkdir path) w t
      mkdir_done tx w t e =
          let p = parted (tree_of_now v) path (record { parent = parent; directory = site.directory; name = name }) site.is in
          call_done v n tx (calls.Mkdir path) room may w t
          (e ∙ (ap (λ (u : VolumeNow). mkdir_in u n parent name) same ∙ sym (mkdir_is v n tx path (record { parent = parent; directory = site.directory; name = name }) p)))

      pub mkdir_marked : (marks : List Bool) → IsMarkedVolume parts marks → (w : VolumeNow) (t : Touched) → ◌≡◌ {A = Change} (record { volume = w; touched = t }) (mkdir_in parts n parent name) →
          (number : ℕ) → number ≡ new_number parts.geometry parts.contents.nodes → IsMarkedVolume w (marked marks number)
      mkdir_marked marks h w t e = one_marked v parts same marks h n 0 (calls.Mkdir path) w t (mkdir_done 0 w t e) (mkdir_in parts n parent name) e (mkdir_comes parts n parent name mkdir_ready)

  -- ---- a file's size

  module _ (size : ℕ) (room : FindsRoom v n (calls.Truncate path size)) (may : IsOk (outcome (room_of v.geometry) (tree_of_now v) n (calls.Truncate path size))) where
    pub cut_led : (reply : Reply) → walk_path (tree_of_now v) path ≡ Err reply → ⊥
    cut_led reply none = (let d = ok_of (outcome (room_of v.geometry) (tree_of_now v) n (calls.Truncate path size)) may in no_cut_path v n path d.0 size d.1 reply none)

    module _ (found : Found) (led : walk_path (tree_of_now v) path ≡ Ok found) where
      pub cut_ready : MayTruncate parts found.birth size
      cut_ready =
          let d = ok_of (outcome (room_of v.geometry) (tree_of_now v) n (calls.Truncate path size)) may in
          subst (λ (u : VolumeNow). MayTruncate u found.birth size) (sym same) (may_truncate v n path size d.0 found room d.1 led)

      pub cut_done : (tx : ℕ) (w : VolumeNow) (t : Touched) → ◌≡◌ {A = Change} (record { volume = w; touched = t }) (truncate_at parts tx found.birth size) → IsCall v n tx (calls.Truncate path size) w t
      cut_done tx w t e =
          call_done v n tx (calls.Truncate path size) room may w t (e ∙ (ap (λ (u : VolumeNow). truncate_at u tx found.birth size) same ∙ sym (truncate_is v n tx path size found led)))

      pub cut_marked : (marks : List Bool) → IsMarkedVolume parts marks → (tx : ℕ) (w : VolumeNow) (t : Touched) → ◌≡◌ {A = Change} (record { volume = w; touched = t }) (truncate_at parts tx found.birth size) → IsMarkedVolume w marks
      cut_marked marks h tx w t e = still_marked v parts same marks h n tx (calls.Truncate path size) w t (cut_done tx w t e) (truncate_at parts tx found.birth size) e (truncate_keeps parts tx found.birth size)

  -- ---- a file's bytes

  module _ (off : ℕ) (content : Content) (room : FindsRoom v n (write_call path off content)) (may : IsOk (outcome (room_of v.geometry) (tree_of_now v) n (write_call path off content))) where
    pub write_led : (reply : Reply) → walk_path (tree_of_now v) path ≡ Err reply → ⊥
    write_led reply none = (let d = ok_of (outcome (room_of v.geometry) (tree_of_now v) n (write_call path off content)) may in no_write_path v n path d.0 off content d.1 reply none)

    module _ (found : Found) (led : walk_path (tree_of_now v) path ≡ Ok found) where
      pub write_ready : MayWrite parts found.birth off (length (bytes_of content))
      write_ready =
          let c = write_call path off content in
          let d = ok_of (outcome (room_of v.geometry) (tree_of_now v) n c) may in
          subst (λ (u : VolumeNow). MayWrite u found.birth off (length (bytes_of content))) (sym same)
          (may_be_written v room.plain.in_use n c path off (bytes_of content) d.0 (outcome_row (room_of v.geometry) (tree_of_now v) n c d.0 d.1) (write_call_row (tree_of_now v) n path off content) found led room.enough)

      pub write_done : (tx : ℕ) (w : VolumeNow) (t : Touched) → ◌≡◌ {A = Change} (record { volume = w; touched = t }) (write_at parts found.birth off (bytes_of content)) → IsCall v n tx (write_call path off content) w t
      write_done tx w t e =
          call_done v n tx (write_call path off content) room may w t
          (e ∙ (ap (λ (u : VolumeNow). write_at u found.birth off (bytes_of content)) same ∙ sym (write_is v n tx path off content found led)))

      pub write_marked : (marks : List Bool) → IsMarkedVolume parts marks → (w : VolumeNow) (t : Touched) → ◌≡◌ {A = Change} (record { volume = w; touched = t }) (write_at parts found.birth off (bytes_of content)) → IsMarkedVolume w marks
      write_marked marks h w t e =
          still_marked v parts same marks h n 0 (write_call path off content) w t (write_done 0 w t e) (write_at parts found.birth off (bytes_of content)) e (write_keeps parts found.birth off (bytes_of content))

  -- ---- a file's other name

  module _ (other : List ℕ) (room : FindsRoom v n (calls.Link path other)) (may : IsOk (outcome (room_of v.geometry) (tree_of_now v) n (calls.Link path other))) where
    pub link_led : (reply : Reply) → walk_path (tree_of_now v) path ≡ Err reply → ⊥
    link_led reply none = (let d = ok_of (outcome (room_of v.geometry) (tree_of_now v) n (calls.Link path other)) may in no_link_path v n path other d.0 d.1 reply none)

    pub link_placed : (reply : Reply) → place_in (tree_of_now v) other ≡ Err reply → ⊥
    link_placed reply none = (let d = ok_of (outcome (room_of v.geometry) (tree_of_now v) n (calls.Link path other)) may in no_link_site v n path other d.0 d.1 reply none)

    module _ (found : Found) (led : walk_path (tree_of_now v) path ≡ Ok found) (parent : ℕ) (name : List ℕ) (site : IsSite (tree_of_now v) other parent name) where
      pub link_ready : MayLink parts found.birth parent name
      link_ready =
          let d = ok_of (outcome (room_of v.geometry) (tree_of_now v) n (calls.Link path other)) may in
          let w = walked_parts (tree_of_now v) path found led in
          let p = parted (tree_of_now v) other (record { parent = parent; directory = site.directory; name = name }) site.is in
          subst (λ (u : VolumeNow). MayLink u found.birth parent name) (sym same)
          (link_may v n path other d.0 w.names p.names found (record { parent = parent; directory = site.directory; name = name }) replies.Invalid room d.1 w.named w.leads p.named p.leads)

      pub link_done : (tx : ℕ) (w : VolumeNow) (t : Touched) → ◌≡◌ {A = Change} (record { volume = w; touched = t }) (link_in parts found.birth parent name) → IsCall v n tx (calls.Link path other) w t
      link_done tx w t e =
          call_done v n tx (calls.Link path other) room may w t
          (e ∙ (ap (λ (u : VolumeNow). link_in u found.birth parent name) same
          ∙ sym (link_is v n tx path other found (record { parent = parent; directory = site.directory; name = name }) (walked_parts (tree_of_now v) path found led)
          (parted (tree_of_now v) other (record { parent = parent; directory = site.directory; name = name }) site.is))))

      pub link_marked : (marks : List Bool) → IsMarkedVolume parts marks → (w : VolumeNow) (t : Touched) → ◌≡◌ {A = Change} (record { volume = w; touched = t }) (link_in parts found.birth parent name) → IsMarkedVolume w marks
      link_marked marks h w t e = still_marked v parts same marks h n 0 (calls.Link path other) w t (link_done 0 w t e) (link_in parts found.birth parent name) e (link_keeps parts found.birth parent name)

  -- ---- a file's name that goes

  module _ (room : FindsRoom v n (calls.Unlink path)) (may : IsOk (outcome (room_of v.geometry) (tree_of_now v) n (calls.Unlink path))) where
    pub unlink_led : (reply : Reply) → walk_path (tree_of_now v) path ≡ Err reply → ⊥
    unlink_led reply none = (let d = ok_of (outcome (room_of v.geometry) (tree_of_now v) n (calls.Unlink path)) may in no_unlink_path v n path d.0 reply d.1 none)

    pub unlink_placed : (reply : Reply) → place_in (tree_of_now v) path ≡ Err reply → ⊥
    unlink_placed reply none = (let d = ok_of (outcome (room_of v.geometry) (tree_of_now v) n (calls.Unlink path)) may in no_unlink_site v n path d.0 reply d.1 none)

    module _ (found : Found) (led : walk_path (tree_of_now v) path ≡ Ok found) (parent : ℕ) (name : List ℕ) (site : IsSite (tree_of_now v) path parent name) where
      pub unlink_ready : MayUnlink parts found.birth parent name
      unlink_ready =
          let d = ok_of (outcome (room_of v.geometry) (tree_of_now v) n (calls.Unlink path)) may in
          let place : Place = record { parent = parent; directory = site.directory; name = name } in
          let p = parted (tree_of_now v) path place site.is in
          let w = walked_parts (tree_of_now v) path found led in
          subst (λ (u : VolumeNow). MayUnlink u found.birth parent name) (sym same)
          (unlink_may v path p.names p.named place replies.Invalid p.leads found (sym (ap (walk (tree_of_now v)) (ok_ok w.names p.names (sym w.named ∙ p.named))) ∙ w.leads) room.plain n d.0 d.1)

      pub unlink_done : (tx : ℕ) (w : VolumeNow) (t : Touched) → ◌≡◌ {A = Change} (record { volume = w; touched = t }) (unlink_in parts tx parent name found.birth) → IsCall v n tx (calls.Unlink path) w t
      unlink_done tx w t e =
          call_done v n tx (calls.Unlink path) room may w t
          (e ∙ (ap (λ (u : VolumeNow). unlink_in u tx parent name found.birth) same
          ∙ sym (unlink_is v n tx path found (record { parent = parent; directory = site.directory; name = name }) (walked_parts (tree_of_now v) path found led)
          (parted (tree_of_now v) path (record { parent = parent; directory = site.directory; name = name }) site.is))))

      pub unlink_marked : (marks : List Bool) → IsMarkedVolume parts marks → (tx : ℕ) (w : VolumeNow) (t : Touched) → ◌≡◌ {A = Change} (record { volume = w; touched = t }) (unlink_in parts tx parent name found.birth) →
          (p : Placed) → at_number v.contents.nodes found.birth ≡ Some p → (now : List Bool) → (at_number w.contents.nodes found.birth ≡ None → now ≡ unmarked marks p.number) →
          ((q : Placed) → at_number w.contents.nodes found.birth ≡ Some q → now ≡ marks) → IsMarkedVolume w now
      unlink_marked marks h tx w t e =
          one_unmarked v parts same marks h n tx (calls.Unlink path) w t (unlink_done tx w t e) (unlink_in parts tx parent name found.birth) e found.birth
          (unlink_loses parts tx parent name found.birth h.plain.in_use.volume.0.in_order)

  -- ---- a directory that goes

  module _ (room : FindsRoom v n (calls.Rmdir path)) (may : IsOk (outcome (room_of v.geometry) (tree_of_now v) n (calls.Rmdir path))) where
    pub rmdir_led : (reply : Reply) → walk_path (tree_of_now v) path ≡ Err reply → ⊥
    rmdir_led reply none = (let d = ok_of (outcome (room_of v.geometry) (tree_of_now v) n (calls.Rmdir path)) may in no_rmdir_path v n path d.0 reply d.1 none)

    pub rmdir_placed : (reply : Reply) → place_in (tree_of_now v) path ≡ Err reply → ⊥
    rmdir_placed reply none = (let d = ok_of (outcome (room_of v.geometry) (tree_of_now v) n (calls.Rmdir path)) may in no_rmdir_site v n path d.0 reply d.1 none)

    module _ (found : Found) (led : walk_path (tree_of_now v) path ≡ Ok found) (parent : ℕ) (name : List ℕ) (site : IsSite (tree_of_now v) path parent name) where
      pub rmdir_ready : MayRmdir parts found.birth parent name
      rmdir_ready =
          let d = ok_of (outcome (room_of v.geometry) (tree_of_now v) n (calls.Rmdir path)) may in
          let place : Place = record { parent = parent; directory = site.directory; name = name } in
          let p = parted (tree_of_now v) path place site.is in
          let w = walked_parts (tree_of_now v) path found led in
          subst (λ (u : VolumeNow). MayRmdir u found.birth parent name) (sym same)
          (rmdir_may v path p.names p.named place replies.Invalid p.leads found (sym (ap (walk (tree_of_now v)) (ok_ok w.names p.names (sym w.named ∙ p.named))) ∙ w.leads) room.plain n d.0 d.1)

      pub rmdir_done : (tx : ℕ) (w : VolumeNow) (t : Touched) → ◌≡◌ {A = Change} (record { volume = w; touched = t }) (rmdir_in parts tx parent name found.birth) → IsCall v n tx (calls.Rmdir path) w t
      rmdir_done tx w t e =
          call_done v n tx (calls.Rmdir path) room may w t
          (e ∙ (ap (λ (u : VolumeNow). rmdir_in u tx parent name found.birth) same
          ∙ sym (rmdir_is v n tx path found (record { parent = parent; directory = site.directory; name = name }) (walked_parts (tree_of_now v) path found led)
          (parted (tree_of_now v) path (record { parent = parent; directory = site.directory; name = name }) site.is))))

      pub rmdir_marked : (marks : List Bool) → IsMarkedVolume parts marks → (tx : ℕ) (w : VolumeNow) (t : Touched) → ◌≡◌ {A = Change} (record { volume = w; touched = t }) (rmdir_in parts tx parent name found.birth) →
          (p : Placed) → at_number v.contents.nodes found.birth ≡ Some p → (now : List Bool) → (at_number w.contents.nodes found.birth ≡ None → now ≡ unmarked marks p.number) →
          ((q : Placed) → at_number w.contents.nodes found.birth ≡ Some q → now ≡ marks) → IsMarkedVolume w now
      rmdir_marked marks h tx w t e =
          one_unmarked v parts same marks h n tx (calls.Rmdir path) w t (rmdir_done tx w t e) (rmdir_in parts tx parent name found.birth) e found.birth
          (rmdir_loses parts tx parent name found.birth h.plain.in_use.volume.0.in_order)

  -- ---- a node that gets another name

  module _ (other : List ℕ) (room : FindsRoom v n (calls.Rename path other)) (may : IsOk (outcome (room_of v.geometry) (tree_of_now v) n (calls.Rename path other))) where
    pub rename_led : (reply : Reply) → walk_path (tree_of_now v) path ≡ Err reply → ⊥
    rename_led = (let d = ok_of (outcome (room_of v.geometry) (tree_of_now v) n (calls.Rename path other)) may in not_lost v n path other d.0 room d.1)

    pub rename_placed : (reply : Reply) → place_in (tree_of_now v) path ≡ Err reply → ⊥
    rename_placed = (let d = ok_of (outcome (room_of v.geometry) (tree_of_now v) n (calls.Rename path other)) may in not_astray v n path other d.0 room d.1)

    pub rename_aimed : (reply : Reply) → place_in (tree_of_now v) other ≡ Err reply → ⊥
    rename_aimed = (let d = ok_of (outcome (room_of v.geometry) (tree_of_now v) n (calls.Rename path other)) may in not_aside v n path other d.0 room d.1)

    module _ (found : Found) (led : walk_path (tree_of_now v) path ≡ Ok found) (from : ℕ) (name : List ℕ) (site : IsSite (tree_of_now v) path from name)
        (to : ℕ) (next : List ℕ) (aim : IsSite (tree_of_now v) other to next) where
      abbrev leaves_at : Place
      leaves_at = record { parent = from; directory = site.directory; name = name }

      abbrev comes_at : Place
      comes_at = record { parent = to; directory = aim.directory; name = next }

      pub rename_ready : MayRename parts from name to next found.birth
      rename_ready =
          let d = ok_of (outcome (room_of v.geometry) (tree_of_now v) n (calls.Rename path other)) may in
          subst (λ (u : VolumeNow). MayRename u from name to next found.birth) (sym same) (may_rename v n path other d.0 room d.1 found led leaves_at comes_at site.is aim.is)

      pub rename_done : (tx : ℕ) (w : VolumeNow) (t : Touched) → ◌≡◌ {A = Change} (record { volume = w; touched = t }) (renamed_at parts tx from name to next found.birth) → IsCall v n tx (calls.Rename path other) w t
      rename_done tx w t e =
          let d = ok_of (outcome (room_of v.geometry) (tree_of_now v) n (calls.Rename path other)) may in
          call_done v n tx (calls.Rename path other) room may w t
          (e ∙ (ap (λ (u : VolumeNow). renamed_at u tx from name to next found.birth) same ∙ sym (rename_is v n path other d.0 room d.1 found led leaves_at comes_at site.is aim.is tx)))

      pub rename_met : (p : Placed) × (at_number v.contents.nodes (unwrap_or (birth_named v.contents.nodes to next) found.birth) ≡ Some p)
      rename_met = (let d = ok_of (outcome (room_of v.geometry) (tree_of_now v) n (calls.Rename path other)) may in met_stands v n path other d.0 room d.1 found led leaves_at comes_at site.is aim.is)

      pub rename_met_in : (met : ℕ) → met ≡ unwrap_or (birth_named parts.contents.nodes to next) found.birth → at_number parts.contents.nodes met ≡ Some rename_met.0
      rename_met_in met is = ap (at_number parts.contents.nodes) is
          ∙ (ap (λ (u : VolumeNow). at_number u.contents.nodes (unwrap_or (birth_named u.contents.nodes to next) found.birth)) same ∙ rename_met.1)

      pub rename_met_at : (met : ℕ) → met ≡ unwrap_or (birth_named parts.contents.nodes to next) found.birth → at_number v.contents.nodes met ≡ Some rename_met.0
      rename_met_at met is = ap (λ (u : VolumeNow). at_number u.contents.nodes met) (sym same) ∙ rename_met_in met is

      pub rename_marked : (marks : List Bool) → IsMarkedVolume parts marks → (tx : ℕ) (w : VolumeNow) (t : Touched) → ◌≡◌ {A = Change} (record { volume = w; touched = t }) (renamed_at parts tx from name to next found.birth) →
          (met : ℕ) → met ≡ unwrap_or (birth_named parts.contents.nodes to next) found.birth → (p : Placed) → at_number v.contents.nodes met ≡ Some p → (now : List Bool) →
          (at_number w.contents.nodes met ≡ None → now ≡ unmarked marks p.number) → ((q : Placed) → at_number w.contents.nodes met ≡ Some q → now ≡ marks) → IsMarkedVolume w now
      rename_marked marks h tx w t e met met_is =
          one_unmarked v parts same marks h n tx (calls.Rename path other) w t (rename_done tx w t e) (renamed_at parts tx from name to next found.birth) e met
          (subst (Loses parts.contents.nodes (renamed_at parts tx from name to next found.birth).volume.contents.nodes) (sym met_is) (rename_loses parts tx from name to next found.birth h.plain.in_use.volume.0.in_order))
