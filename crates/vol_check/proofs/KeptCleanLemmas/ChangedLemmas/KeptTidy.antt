-- Calls keep a volume tidy.
use Rattle.std.specs.Prelude.{◌≡◌, ℕ, Bool, true, false, if◌then◌else◌, List, replicate, Option, Some, None, option_map, Ok, Err, refl}
use Rattle.std.proofs.Common.{sym, ap, subst, ◌∙◌, arith}
use Rattle.blk_base.specs.Members.{In}
use Rattle.minix_layout.specs.declared.division.Geometry.{Geometry}
use Rattle.tree_model.specs.declared.call.Call.{Call}
use Rattle.tree_model.specs.declared.call.Call.TheVariants as calls
use Rattle.tree_model.specs.Calls.{Done, Row, outcome, row, leaves_tree}
use Rattle.volume_steps.specs.Now.{VolumeNow, Change, tree_of_now, room_of}
use Rattle.volume_steps.specs.Calls.{called, called_by, changed, after_release}
use Rattle.volume_steps.specs.Called.{FindsRoom}
use Rattle.volume_steps.proofs.AllCalls.{any_call}
use Rattle.volume_steps.proofs.Called.{quiet_changed}
use Rattle.volume_steps.proofs.CallPaths.{done_row}
use Rattle.volume_steps.proofs.FileCalls.{called_is, needs_is}
use Rattle.volume_steps.proofs.TakeZones.{zone_range}
use Rattle.minix_tables.specs.declared.zones.zone_state.ZoneState.TheVariants as states
use Rattle.vol_check.specs.kept_clean.changed.Tidy.{IsTidy}
use Rattle.vol_check.proofs.KeptCleanLemmas.ChangedLemmas.BareFrames.{IsBare, IsBareNow}
use Rattle.vol_check.proofs.KeptCleanLemmas.ChangedLemmas.CreateBlocks.{create_bare}
use Rattle.vol_check.proofs.KeptCleanLemmas.ChangedLemmas.Ends.{ends_of}
use Rattle.vol_check.proofs.KeptCleanLemmas.ChangedLemmas.LinkBlocks.{link_bare}
use Rattle.vol_check.proofs.KeptCleanLemmas.ChangedLemmas.MkdirBlocks.{mkdir_bare}
use Rattle.vol_check.proofs.KeptCleanLemmas.ChangedLemmas.RenameBlocks.{rename_bare}
use Rattle.vol_check.proofs.KeptCleanLemmas.ChangedLemmas.RmdirBlocks.{rmdir_bare}
use Rattle.vol_check.proofs.KeptCleanLemmas.ChangedLemmas.TruncateBlocks.{truncate_bare}
use Rattle.vol_check.proofs.KeptCleanLemmas.ChangedLemmas.UnlinkBlocks.{unlink_bare}
use Rattle.vol_check.proofs.KeptCleanLemmas.ChangedLemmas.WriteBlocks.{write_bare}
use Rattle.std.proofs.lemmas.Option.{none-some}
use Rattle.minix_tables.specs.declared.zones.zone_state.ZoneState.{ZoneState}
use Rattle.minix_tables.specs.zones.Zones.{state_of, is_quarantined_for, let_go}
use Rattle.minix_tables.specs.zones.laws.States.{state_released}

module _ (v : VolumeNow) (n tx : ℕ) where
  -- a call that is refused changes nothing
  by_row : (c : Call) → ((d : Done) → outcome (room_of v.geometry) (tree_of_now v) n c ≡ Ok d → IsBareNow (called v n tx c).change.volume) → IsBareNow v → IsBareNow (called v n tx c).change.volume
  unfolding called
  by_row c done bare = by (outcome (room_of v.geometry) (tree_of_now v) n c) refl
    where
      by : (r : Row) → outcome (room_of v.geometry) (tree_of_now v) n c ≡ r → IsBareNow (called_by v n tx c (outcome (room_of v.geometry) (tree_of_now v) n c)).change.volume
      by (Err why) e = subst (λ r. IsBareNow (called_by v n tx c r).change.volume) (sym e) bare
      by (Ok d) e = done d e

  quiet_bare : (c : Call) → leaves_tree c ≡ true → IsBareNow v → IsBareNow (called v n tx c).change.volume
  quiet_bare c quiet bare = by_row c (λ d done. subst (λ (c : Change). IsBareNow c.volume) (sym (called_is tx v n c d done ∙ quiet_changed v n tx c quiet)) bare) bare

  renames_bare : (path other : List ℕ) → FindsRoom v n (calls.Rename path other) → IsBareNow v → IsBareNow (called v n tx (calls.Rename path other)).change.volume
  unfolding changed
  renames_bare path other h bare = by_row (calls.Rename path other) (λ d done.
      let is = called_is tx v n (calls.Rename path other) d done in
      let needed = needs_is tx v n (calls.Rename path other) d (done_row (room_of v.geometry) (tree_of_now v) n (calls.Rename path other) d done).0 in
      let found = h.enough in
      subst (λ (c : Change). IsBareNow c.volume) (sym is) (rename_bare tx v h.plain n h.born path other d done (omega arith)
      (λ z i. zone_range v h.plain.in_use z states.Used ((any_call tx v n (calls.Rename path other) h).steady.was_used z (subst (λ (c : Change). In z c.touched.freed) (sym is) i))) bare)) bare

  writes_bare : (path : List ℕ) (off len value : ℕ) → FindsRoom v n (calls.Write path off len value) → IsBareNow v → IsBareNow (called v n tx (calls.Write path off len value)).change.volume
  unfolding row changed
  writes_bare path off len value h bare = by_row (calls.Write path off len value)
      (λ d done. write_bare tx v n (calls.Write path off len value) h path off (replicate len value) d done refl (called_is tx v n (calls.Write path off len value) d done) bare) bare

  bytes_bare : (path : List ℕ) (off : ℕ) (bytes : List ℕ) → FindsRoom v n (calls.Bytes path off bytes) → IsBareNow v → IsBareNow (called v n tx (calls.Bytes path off bytes)).change.volume
  unfolding row changed
  bytes_bare path off bytes h bare = by_row (calls.Bytes path off bytes)
      (λ d done. write_bare tx v n (calls.Bytes path off bytes) h path off bytes d done refl (called_is tx v n (calls.Bytes path off bytes) d done) bare) bare

  call_bare : (c : Call) → FindsRoom v n c → IsBareNow v → IsBareNow (called v n tx c).change.volume
  call_bare (calls.Mkdir path) h bare = by_row (calls.Mkdir path) (λ d done. mkdir_bare tx v n path h d done bare) bare
  call_bare (calls.Create path) h bare = by_row (calls.Create path) (λ d done. create_bare tx v n path h d done bare) bare
  call_bare (calls.Rmdir path) h bare = by_row (calls.Rmdir path) (λ d done. rmdir_bare tx v n path h d done bare) bare
  call_bare (calls.Unlink path) h bare = by_row (calls.Unlink path) (λ d done. unlink_bare tx v n path h d done bare) bare
  call_bare (calls.Link path other) h bare = by_row (calls.Link path other) (λ d done. link_bare tx v n path other h d done bare) bare
  call_bare (calls.Rename path other) h bare = renames_bare path other h bare
  call_bare (calls.Write path off len value) h bare = writes_bare path off len value h bare
  call_bare (calls.Bytes path off bytes) h bare = bytes_bare path off bytes h bare
  call_bare (calls.Truncate path size) h bare = by_row (calls.Truncate path size) (λ d done. truncate_bare tx v n path size h d done bare) bare
  call_bare (calls.Read path off len) h bare = quiet_bare (calls.Read path off len) refl bare
  call_bare (calls.List path) h bare = quiet_bare (calls.List path) refl bare
  call_bare (calls.Stat path) h bare = quiet_bare (calls.Stat path) refl bare
  call_bare (calls.Fsync path) h bare = quiet_bare (calls.Fsync path) refl bare
  call_bare (calls.Fdatasync path) h bare = quiet_bare (calls.Fdatasync path) refl bare
  call_bare (calls.Fbarrier path) h bare = quiet_bare (calls.Fbarrier path) refl bare
  call_bare (calls.Fdatabarrier path) h bare = quiet_bare (calls.Fdatabarrier path) refl bare
  call_bare calls.Sync h bare = quiet_bare calls.Sync refl bare

  pub call_tidy : (c : Call) → FindsRoom v n c → IsTidy v.geometry v.contents v.zones → IsTidy v.geometry (called v n tx c).change.volume.contents (called v n tx c).change.volume.zones
  call_tidy c h tidy =
      let ends = ends_of tx v n c h tidy.marked in
      let w = (called v n tx c).change.volume in
      let bare = subst (λ (g : Geometry). IsBare g w.contents) ends.geometry (call_bare c h (record { unused = tidy.unused; behind = λ a r d found is k far some. tidy.behind a r d k found is far some })) in
      record { marked = ends.marks; unused = bare.unused; behind = λ a r d k found is far some. bare.behind a r d found is k far some }

-- ---- a release

module _ (v : VolumeNow) (tx : ℕ) where
  used_before : (o : Option ZoneState) → option_map (let_go tx) o ≡ Some states.Used → o ≡ Some states.Used
  used_before None e = absurd (none-some states.Used e)
  used_before (Some states.Free) e = e
  used_before (Some states.Used) e = refl
  used_before (Some (states.Quarantined freed_by)) e = absurd (by (is_quarantined_for tx (states.Quarantined freed_by)) e)
    where
      by : (b : Bool) → ◌≡◌ {A = Option ZoneState} (Some (if b then states.Free else states.Quarantined freed_by)) (Some states.Used) → ⊥
      by true e = cc
      by false e = cc

  used_still : (o : Option ZoneState) → o ≡ Some states.Used → option_map (let_go tx) o ≡ Some states.Used
  used_still o e = ap (option_map (let_go tx)) e

  pub release_tidy : IsTidy v.geometry v.contents v.zones → IsTidy v.geometry (after_release v tx).contents (after_release v tx).zones
  release_tidy tidy = record {
    marked = record {
      inodes = tidy.marked.inodes;
      zones_used = λ zone low high.
          let bit = tidy.marked.zones_used zone low high in
          let state = state_released v.zones zone tx in
          (λ t. state ∙ used_still (state_of v.zones zone) (bit.0 t), λ used. bit.1 (used_before (state_of v.zones zone) (sym state ∙ used)));
    };
    unused = tidy.unused;
    behind = tidy.behind;
  }
