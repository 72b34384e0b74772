-- Each call: what is told of its blocks.
use Rattle.std.specs.Prelude.{◌≡◌, ℕ, true, List, replicate, Ok, Err, refl}
use Rattle.std.proofs.Common.{sym, ap, subst, ◌∙◌, arith}
use Rattle.tree_model.specs.declared.call.Call.{Call}
use Rattle.tree_model.specs.declared.call.Call.TheVariants as calls
use Rattle.tree_model.specs.Calls.{Done, Row, outcome, row, leaves_tree}
use Rattle.volume_steps.specs.Now.{VolumeNow, Change, tree_of_now, room_of, unchanged}
use Rattle.volume_steps.specs.Calls.{called, called_by, changed}
use Rattle.volume_steps.specs.Called.{FindsRoom}
use Rattle.volume_steps.proofs.Called.{quiet_changed}
use Rattle.volume_steps.proofs.CallPaths.{done_row}
use Rattle.volume_steps.proofs.FileCalls.{called_is, needs_is}
use Rattle.vol_check.specs.kept_clean.Marked.{IsMarked}
use Rattle.vol_check.specs.kept_clean.changed.Changed.{HasChanged}
use Rattle.vol_check.proofs.KeptCleanLemmas.ChangedLemmas.Ends.{Ends, ends_of}
use Rattle.vol_check.proofs.KeptCleanLemmas.ChangedLemmas.UnlinkBlocks.{unlink_changes}
use Rattle.vol_check.proofs.KeptCleanLemmas.ChangedLemmas.RmdirBlocks.{rmdir_changes}
use Rattle.vol_check.proofs.KeptCleanLemmas.ChangedLemmas.TruncateBlocks.{truncate_changes}
use Rattle.vol_check.proofs.KeptCleanLemmas.ChangedLemmas.WriteBlocks.{write_changes}
use Rattle.vol_check.proofs.KeptCleanLemmas.ChangedLemmas.CreateBlocks.{create_changes}
use Rattle.vol_check.proofs.KeptCleanLemmas.ChangedLemmas.MkdirBlocks.{mkdir_changes}
use Rattle.vol_check.proofs.KeptCleanLemmas.ChangedLemmas.LinkBlocks.{link_changes}
use Rattle.vol_check.proofs.KeptCleanLemmas.ChangedLemmas.RenameBlocks.{rename_changes}
use Rattle.vol_check.specs.kept_clean.changed.Tidy.{IsTidy}

none_changes : (v : VolumeNow) (c : Change) → c ≡ unchanged v → HasChanged v c
none_changes v c e = subst (HasChanged v) (sym e) (λ b i was. absurd i)

-- a call that is refused touches nothing
by_row : (v : VolumeNow) (n tx : ℕ) (c : Call) → ((d : Done) → outcome (room_of v.geometry) (tree_of_now v) n c ≡ Ok d → HasChanged v (called v n tx c).change) → HasChanged v (called v n tx c).change
unfolding called
by_row v n tx c done = by (outcome (room_of v.geometry) (tree_of_now v) n c) refl
  where
    by : (r : Row) → outcome (room_of v.geometry) (tree_of_now v) n c ≡ r → HasChanged v (called_by v n tx c (outcome (room_of v.geometry) (tree_of_now v) n c)).change
    by (Err why) e = none_changes v _ (ap (λ r. (called_by v n tx c r).change) e)
    by (Ok d) e = done d e

pub quiet_blocks : (v : VolumeNow) (n tx : ℕ) (c : Call) → leaves_tree c ≡ true → HasChanged v (called v n tx c).change
quiet_blocks v n tx c quiet = by_row v n tx c (λ d done. none_changes v _ (called_is tx v n c d done ∙ quiet_changed v n tx c quiet))

pub unlink_blocks : (v : VolumeNow) (n tx : ℕ) (path : List ℕ) → FindsRoom v n (calls.Unlink path) → IsMarked v.geometry v.contents v.zones → HasChanged v (called v n tx (calls.Unlink path)).change
unlink_blocks v n tx path h marked = by_row v n tx (calls.Unlink path) (λ d done. unlink_changes tx v n path h d done (ends_of tx v n (calls.Unlink path) h marked))

pub rmdir_blocks : (v : VolumeNow) (n tx : ℕ) (path : List ℕ) → FindsRoom v n (calls.Rmdir path) → IsMarked v.geometry v.contents v.zones → HasChanged v (called v n tx (calls.Rmdir path)).change
rmdir_blocks v n tx path h marked = by_row v n tx (calls.Rmdir path) (λ d done. rmdir_changes tx v n path h d done (ends_of tx v n (calls.Rmdir path) h marked))

pub truncate_blocks : (v : VolumeNow) (n tx : ℕ) (path : List ℕ) (size : ℕ) → FindsRoom v n (calls.Truncate path size) → IsMarked v.geometry v.contents v.zones → HasChanged v (called v n tx (calls.Truncate path size)).change
truncate_blocks v n tx path size h marked = by_row v n tx (calls.Truncate path size) (λ d done. truncate_changes tx v n path size h d done (ends_of tx v n (calls.Truncate path size) h marked))

pub bytes_blocks : (v : VolumeNow) (n tx : ℕ) (path : List ℕ) (off : ℕ) (bytes : List ℕ) → FindsRoom v n (calls.Bytes path off bytes) → IsMarked v.geometry v.contents v.zones → HasChanged v (called v n tx (calls.Bytes path off bytes)).change
unfolding row changed
bytes_blocks v n tx path off bytes h marked = by_row v n tx (calls.Bytes path off bytes)
    (λ d done. write_changes tx v n (calls.Bytes path off bytes) h path off bytes d done refl (called_is tx v n (calls.Bytes path off bytes) d done) (ends_of tx v n (calls.Bytes path off bytes) h marked))

pub write_blocks : (v : VolumeNow) (n tx : ℕ) (path : List ℕ) (off len value : ℕ) → FindsRoom v n (calls.Write path off len value) → IsMarked v.geometry v.contents v.zones → HasChanged v (called v n tx (calls.Write path off len value)).change
unfolding row changed
write_blocks v n tx path off len value h marked = by_row v n tx (calls.Write path off len value)
    (λ d done. write_changes tx v n (calls.Write path off len value) h path off (replicate len value) d done refl (called_is tx v n (calls.Write path off len value) d done) (ends_of tx v n (calls.Write path off len value) h marked))

pub create_blocks : (v : VolumeNow) (n tx : ℕ) (path : List ℕ) → FindsRoom v n (calls.Create path) → IsTidy v.geometry v.contents v.zones → HasChanged v (called v n tx (calls.Create path)).change
create_blocks v n tx path h tidy = by_row v n tx (calls.Create path) (λ d done. create_changes tx v n path h d done (ends_of tx v n (calls.Create path) h tidy.marked) tidy)

pub mkdir_blocks : (v : VolumeNow) (n tx : ℕ) (path : List ℕ) → FindsRoom v n (calls.Mkdir path) → IsTidy v.geometry v.contents v.zones → HasChanged v (called v n tx (calls.Mkdir path)).change
mkdir_blocks v n tx path h tidy = by_row v n tx (calls.Mkdir path) (λ d done. mkdir_changes tx v n path h d done (ends_of tx v n (calls.Mkdir path) h tidy.marked) tidy)

pub link_blocks : (v : VolumeNow) (n tx : ℕ) (path other : List ℕ) → FindsRoom v n (calls.Link path other) → IsTidy v.geometry v.contents v.zones → HasChanged v (called v n tx (calls.Link path other)).change
link_blocks v n tx path other h tidy = by_row v n tx (calls.Link path other) (λ d done. link_changes tx v n path other h d done (ends_of tx v n (calls.Link path other) h tidy.marked) tidy)

pub rename_blocks : (v : VolumeNow) (n tx : ℕ) (path other : List ℕ) → FindsRoom v n (calls.Rename path other) → IsTidy v.geometry v.contents v.zones → HasChanged v (called v n tx (calls.Rename path other)).change
unfolding changed
rename_blocks v n tx path other h tidy = by_row v n tx (calls.Rename path other) (λ d done.
    let is = called_is tx v n (calls.Rename path other) d done in
    let needed = needs_is tx v n (calls.Rename path other) d (done_row (room_of v.geometry) (tree_of_now v) n (calls.Rename path other) d done).0 in
    let found = h.enough in
    subst (HasChanged v) (sym is) (rename_changes tx v h.plain n h.born path other d done (omega arith) (subst (Ends tx v) is (ends_of tx v n (calls.Rename path other) h tidy.marked)) tidy))
