-- A call on bytes of a file that need not wait, and that nothing refuses, may be done where its path leads; and how many
-- zones it takes there.
use Rattle.std.specs.Prelude.{◌≡◌, ℕ, ◌+◌, ◌≤◌, ◌==◌, nat_lt, List, [], ◌∷◌, length, Some, Ok, Result, refl}
use Rattle.std.specs.Map.{keys_of}
use Rattle.std.proofs.Common.{sym, ap, subst, ◌∙◌, inl, inr, arith}
use Rattle.std.proofs.lemmas.Bool.{cases_Bool, eqb-true, eqb-false, eq-eqb, ne_eqb, le-ltb}
use Rattle.number_sets.specs.Sets.{with, with_all}
use Rattle.tree_model.specs.declared.call.Call.{Call}
use Rattle.tree_model.specs.declared.call.Call.TheVariants as calls
use Rattle.tree_model.specs.declared.call.Reply.{Reply}
use Rattle.tree_model.specs.declared.node.File.{File}
use Rattle.tree_model.specs.declared.node.Node.TheVariants as nodes
use Rattle.tree_model.specs.Maps.{put_number}
use Rattle.tree_model.proofs.Changes.{outcome_row}
use Rattle.tree_model.specs.Calls.{Done, Found, block_or_zeros, file_zones, largest_size, needs, node_zones, outcome, patched, row, touched_blocks, used_zones, walk_path, write as write_row, written_blocks, written_file, cut_file}
use Rattle.tree_model.specs.Maps.{at_number}
use Rattle.volume_model.specs.Counts.{indices_of}
use Rattle.volume_model.specs.laws.Indexed.{keys_bodies}
use Rattle.volume_steps.specs.Now.{VolumeNow, tree_of_now, room_of}
use Rattle.volume_steps.specs.Plain.{IsInUse}
use Rattle.volume_steps.specs.Called.{FindsRoom}
use Rattle.volume_steps.proofs.FileCalls.{needs_is}
use Rattle.volume_steps.proofs.FileSteps.{IsFileAt, file_at}
use Rattle.volume_steps.proofs.Taking.{frees}
use Rattle.volume_steps.proofs.TreeSteps.{tree_in_order, used_put_more}
use Rattle.volume_steps.proofs.WriteCall.{IsFilePut, file_put}
use Rattle.volume_in_use.specs.bytes.MayWrite.{IsFileOf, MayWrite, MayTruncate, wanted_zones}

-- ---- the blocks of a file after bytes were written

keys_put : (es : List (ℕ × List ℕ)) (k : ℕ) (body : List ℕ) → keys_of (put_number es k body) ≡ with (keys_of es) k
keys_put [] k body = refl
keys_put (e ∷ es) k body = elim (cases_Bool (e.0 == k)) [
  | inl y ↦
      let same = eqb-true e.0 k y in
      rw (y, le-ltb k e.0 (omega arith), eq-eqb k e.0 (sym same)) refl
  | inr n ↦
      let apart = eqb-false e.0 k n in
      elim (cases_Bool (nat_lt k e.0)) [
        | inl low ↦ rw (n, low) refl
        | inr high ↦ rw (n, high, ne_eqb k e.0 (λ s. apart (sym s))) (ap (λ (ks : List ℕ). e.0 ∷ ks) (keys_put es k body))
      ]
]

keys_written : (off : ℕ) (bytes indices : List ℕ) (blocks : List (ℕ × List ℕ)) → keys_of (written_blocks off bytes indices blocks) ≡ with_all (keys_of blocks) indices
keys_written off bytes [] blocks = refl
keys_written off bytes (i ∷ is) blocks =
    let body = patched i off bytes (block_or_zeros (at_number blocks i)) in
    keys_written off bytes is (put_number blocks i body) ∙ ap (λ (ks : List ℕ). with_all ks is) (keys_put blocks i body)

-- ---- writes

module _ (v : VolumeNow) (h : IsInUse v) (n : ℕ) (c : Call) (path : List ℕ) (off : ℕ) (bytes : List ℕ) (d : Done) (done : row (tree_of_now v) n c ≡ Ok d) (wrote : row (tree_of_now v) n c ≡ write_row (tree_of_now v) path off bytes)
    (found : Found) (walked : walk_path (tree_of_now v) path ≡ Ok found) where
  pub put : IsFilePut (tree_of_now v) path (λ f. written_file f off bytes) d
  put = (file_put (tree_of_now v) path (off + length bytes) (λ f. written_file f off bytes) d (sym wrote ∙ done)).0

  pub birth_is : put.found.birth ≡ found.birth
  birth_is = (let same : ◌≡◌ {A = Result Found Reply} (Ok put.found) (Ok found) = sym put.walked ∙ walked in let f : put.found ≡ found = cc same in ap (λ (f : Found). f.birth) f)

  pub x : IsFileAt v put.found.birth put.file
  x = file_at v h put.found.birth put.file put.stands

  -- the file where the path leads
  abbrev pub file_is : IsFileOf v found.birth
  file_is = record { placed = x.placed; zones = x.zones; stands = subst (λ b. at_number v.contents.nodes b ≡ Some x.placed) birth_is x.stands; is_file = x.is_file }

  keys_are : keys_of put.file.blocks ≡ indices_of file_is.zones
  keys_are = ap (λ (f : File). keys_of f.blocks) x.file ∙ keys_bodies v.contents.blocks x.zones

  -- As many zones are taken as the file wants.
  pub needs_wanted : needs (tree_of_now v) n c ≡ wanted_zones (indices_of file_is.zones) off (length bytes)
  needs_wanted =
      let after = written_file put.file off bytes in
      let order = tree_in_order v.contents.blocks v.contents.nodes h.volume.0.in_order in
      let sum = used_put_more (tree_of_now v) put.found.birth (nodes.File put.file) (nodes.File after) order put.stands in
      let all : used_zones d.tree ≡ used_zones (put_number (tree_of_now v) put.found.birth (nodes.File after)) = ap used_zones put.tree_is in
      let old : node_zones (nodes.File put.file) ≡ file_zones (indices_of file_is.zones) = ap file_zones keys_are in
      let new : node_zones (nodes.File after) ≡ file_zones (with_all (indices_of file_is.zones) (touched_blocks off (length bytes))) =
      ap file_zones (keys_written off bytes (touched_blocks off (length bytes)) put.file.blocks ∙ ap (λ (ks : List ℕ). with_all ks (touched_blocks off (length bytes))) keys_are) in
      needs_is 0 v n c d done ∙ (omega arith)

  pub write_fits : off + length bytes ≤ largest_size
  write_fits = (file_put (tree_of_now v) path (off + length bytes) (λ f. written_file f off bytes) d (sym wrote ∙ done)).1

  pub may_be_written : needs (tree_of_now v) n c ≤ frees v.zones → MayWrite v found.birth off (length bytes)
  may_be_written enough = record { in_use = h; file = file_is; fits = write_fits; enough = subst (λ k. k ≤ frees v.zones) needs_wanted enough }

-- ---- cuts

pub may_truncate : (v : VolumeNow) (n : ℕ) (path : List ℕ) (size : ℕ) (d : Done) (found : Found) → FindsRoom v n (calls.Truncate path size) → outcome (room_of v.geometry) (tree_of_now v) n (calls.Truncate path size) ≡ Ok d →
    walk_path (tree_of_now v) path ≡ Ok found → MayTruncate v found.birth size
unfolding row
may_truncate v n path size d found h done walked =
    let put = file_put (tree_of_now v) path size (λ f. cut_file f size) d (outcome_row (room_of v.geometry) (tree_of_now v) n (calls.Truncate path size) d done) in
    let same : ◌≡◌ {A = Result Found Reply} (Ok put.0.found) (Ok found) = sym put.0.walked ∙ walked in
    let one : put.0.found ≡ found = cc same in
    let birth_is : put.0.found.birth ≡ found.birth = ap (λ (f : Found). f.birth) one in
    let x = file_at v h.plain.in_use put.0.found.birth put.0.file put.0.stands in
    record {
      in_use = h.plain.in_use;
      file = record { placed = x.placed; zones = x.zones; stands = subst (λ b. at_number v.contents.nodes b ≡ Some x.placed) birth_is x.stands; is_file = x.is_file };
      fits = put.1;
    }
