-- The calls that write: what they keep, tell and take.
use Rattle.std.specs.Prelude.{◌≡◌, ℕ, zero, suc, ◌+◌, ◌-◌, ◌/◌, ◌<◌, ◌≤◌, ◌==◌, nat_lt, List, length, Some, Result, Ok, Err, refl, ◌⊎◌}
use Rattle.std.specs.List.{range_with_len}
use Rattle.std.proofs.Common.{sym, ap, subst, ◌∙◌, inl, inr, ⊎_elim, arith}
use Rattle.std.proofs.lemmas.Bool.{cases_Bool, eqb-false, ltb-false}
use Rattle.blk_base.specs.Members.{In}
use Rattle.tree_model.specs.declared.call.Reply.TheVariants as replies
use Rattle.std.specs.Map.{keys_of}
use Rattle.tree_model.specs.declared.node.File.{File}
use Rattle.tree_model.specs.declared.node.Node.TheVariants as nodes
use Rattle.tree_model.specs.Maps.{at_number, put_number}
use Rattle.tree_model.specs.laws.MapOrder.{at_put_cases}
use Rattle.tree_model.proofs.Rows.{then_ok, refuse_ok, ok_ok, file_ok, walk_path_ok}
use Rattle.tree_model.specs.laws.Sums.{count_by_same}
use Rattle.tree_model.specs.Calls.{Tree, Done, Found, and_then, refuse_if, leaves, put_file, a_file, walk_path, written_file, touched_blocks, max, largest_size, node_zones, used_zones, write as write_row}
use Rattle.tree_model.specs.Trees.{is_directory}
use Rattle.volume_steps.specs.Calls.{at_path, write}
use Rattle.volume_steps.specs.Now.{VolumeNow, Change, tree_of_now, followed_by, unchanged}
use Rattle.volume_steps.specs.Plain.{IsInUse, IsPlainNow}
use Rattle.volume_steps.specs.Steps.{write_blocks, resize}
use Rattle.volume_steps.proofs.FileSteps.{IsFileStep, file_at, file_stands}
use Rattle.volume_steps.proofs.PlainNow.{HasDirectoryLinks}
use Rattle.volume_steps.proofs.ResizeStep.{resize_step}
use Rattle.volume_steps.proofs.Taking.{frees, uses}
use Rattle.volume_steps.proofs.TreeSteps.{tree_in_order, used_put_more}
use Rattle.volume_steps.proofs.WriteSteps.{zones_less, written_length, written_any, IsWriteStep, IsAmong, AreAt, with_blocks, blocks_written, writes_then, write_as}

-- ---- at a path

pub at_path_is : (v : VolumeNow) (path : List ℕ) (found : Found) (change : ℕ → Change) → walk_path (tree_of_now v) path ≡ Ok found → at_path v path change ≡ change found.birth
at_path_is v path found change e = ap (λ (r : Result Found _). elim r as (λ _. Change) [ Err reply ↦ unchanged v | Ok found ↦ change found.birth ]) e

-- what a row of bytes did
pub record IsFilePut (tree : Tree) (path : List ℕ) (change : File → File) (d : Done) : Type 0 where
  pub found : Found
  pub file : File
  pub walked : walk_path tree path ≡ Ok found
  pub stands : at_number tree found.birth ≡ Some (nodes.File file)
  pub tree_is : d.tree ≡ put_number tree found.birth (nodes.File (change file))
  pub reply_is : d.reply ≡ replies.Ok

pub file_put : (tree : Tree) (path : List ℕ) (size : ℕ) (change : File → File) (d : Done) →
    and_then (walk_path tree path) (λ found. and_then (a_file found.node) (λ f. refuse_if (nat_lt largest_size size) replies.TooBig (leaves (put_file tree found.birth (change f))))) ≡ Ok d →
    IsFilePut tree path change d × (size ≤ largest_size)
file_put tree path size change d done =
    let a = then_ok (walk_path tree path) _ d done in
    let b = then_ok (a_file a.0.node) _ d a.2 in
    let c = refuse_ok (nat_lt largest_size size) replies.TooBig _ d b.2 in
    let w = walk_path_ok tree path a.0 a.1 in (
      record {
        found = a.0;
        file = b.0;
        walked = a.1;
        stands = w.2.stands ∙ ap Some (file_ok a.0.node b.0 b.1);
        tree_is = sym (ap (λ (d : Done). d.tree) (ok_ok _ d c.1));
        reply_is = sym (ap (λ (d : Done). d.reply) (ok_ok _ d c.1));
      },
      ltb-false _ _ c.0,
    )

-- ---- which blocks bytes touch

in_range : (a n i : ℕ) → In i (range_with_len a n) → (a ≤ i) × (i < a + n)
in_range a zero i j = absurd j
in_range a (suc n) i (inl e) = (omega arith, omega arith)
in_range a (suc n) i (inr j) = let r = in_range (a + 1) n i j in let low = r.0 in let high = r.1 in (omega arith, omega arith)

pub touched_among : (off len : ℕ) → off + len ≤ largest_size → (i : ℕ) → In i (touched_blocks off len) → IsAmong off len i
touched_among off len fits i j = elim (cases_Bool (len == 0)) [
  | inl y ↦ absurd (rw y at j)
  | inr z ↦
      let some = eqb-false _ _ z in
      let r = in_range (off / 1024) ((off + len - 1) / 1024 - off / 1024 + 1) i (rw z at j) in
      let low = r.0 in
      let high = r.1 in
      record { low = omega arith; reaches = omega arith; begins = omega arith }
]

-- ---- directories of the tree after a file changed

-- the directories among the nodes are the same where a file is put for a file
pub put_directories : (tree : Tree) (n : ℕ) (f e : File) → at_number tree n ≡ Some (nodes.File f) → (b : ℕ) → is_directory (at_number (put_number tree n (nodes.File e)) b) ≡ is_directory (at_number tree b)
put_directories tree n f e found b =
    at_put_cases (λ o. is_directory o ≡ is_directory (at_number tree b)) tree n (nodes.File e) b (λ same. sym (ap is_directory (ap (at_number tree) same ∙ found))) (λ apart. refl)

pub links_kept : (tx : ℕ) (v : VolumeNow) (n : ℕ) (c : Change) (f e : File) (Writes : ℕ → ℕ → Type 0) → at_number (tree_of_now v) n ≡ Some (nodes.File f) → IsFileStep tx v n c e Writes → HasDirectoryLinks v → HasDirectoryLinks c.volume
links_kept tx v n c f e Writes found s old b p d at is =
    old b p d (s.directories b p d at is) is
    ∙ ap (λ k. 2 + k) (count_by_same (λ x. is_directory (at_number (tree_of_now v) x.1)) (λ x. is_directory (at_number (tree_of_now c.volume) x.1)) d.names
    (λ x. sym (ap (λ tree. is_directory (at_number tree x.1)) s.tree ∙ put_directories (tree_of_now v) n f e found x.1)))

-- ---- a write that is not refused

module _ (tx : ℕ) (v : VolumeNow) (plain : IsPlainNow v) (path : List ℕ) (off : ℕ) (bytes : List ℕ) (d : Done) (done : write_row (tree_of_now v) path off bytes ≡ Ok d) (room : used_zones d.tree ≤ uses v.zones + frees v.zones) where
  h : IsInUse v
  h = plain.in_use

  pub put : IsFilePut (tree_of_now v) path (λ f. written_file f off bytes) d
  put = (file_put (tree_of_now v) path (off + length bytes) (λ f. written_file f off bytes) d done).0

  abbrev pub n : ℕ
  n = put.found.birth

  abbrev pub f : File
  f = put.file

  pub found : at_number (tree_of_now v) n ≡ Some (nodes.File f)
  found = put.stands

  fits : off + length bytes ≤ largest_size
  fits = (file_put (tree_of_now v) path (off + length bytes) (λ f. written_file f off bytes) d done).1

  small : f.size ≤ largest_size
  small =
      let x = file_at v h n f found in
      subst (λ size. size ≤ largest_size) (sym (ap (λ (f : File). f.size) x.file)) (plain.plain.sizes n x.placed x.zones x.stands x.is_file)

  abbrev pub indices : List ℕ
  indices = touched_blocks off (length bytes)

  abbrev pub after : File
  after = written_file f off bytes

  abbrev mid : File
  mid = with_blocks f after.blocks

  abbrev first : Change
  first = write_blocks v n off bytes indices

  mid_fits : used_zones (put_number (tree_of_now v) n (nodes.File mid)) ≤ uses v.zones + frees v.zones
  mid_fits =
      let order = tree_in_order v.contents.blocks v.contents.nodes h.volume.0.in_order in
      let a = used_put_more (tree_of_now v) n (nodes.File f) (nodes.File mid) order found in
      let b = used_put_more (tree_of_now v) n (nodes.File f) (nodes.File after) order found in
      let same : node_zones (nodes.File mid) ≡ node_zones (nodes.File after) = refl in
      let all : used_zones d.tree ≡ used_zones (put_number (tree_of_now v) n (nodes.File after)) = ap used_zones put.tree_is in
      omega arith

  one : IsWriteStep tx v n first mid (AreAt n indices)
  one = blocks_written tx v n f off bytes indices h found (touched_among off (length bytes) fits) mid_fits

  most : max f.size (off + length bytes) ≤ largest_size
  most = elim (cases_Bool (nat_lt f.size (off + length bytes))) [
    | inl y ↦ subst (λ size. size ≤ largest_size) (let e : off + length bytes ≡ max f.size (off + length bytes) = rw y refl in e) fits
    | inr z ↦ subst (λ size. size ≤ largest_size) (let e : f.size ≡ max f.size (off + length bytes) = rw z refl in e) small
  ]

  two : IsWriteStep tx first.volume n (resize first.volume n (λ size. max size (off + length bytes))) after (λ birth index. ⊥)
  two = resize_step tx first.volume one.step.steady.in_use n mid (file_stands tx v n first mid (AreAt n indices) one.step) (λ size. max size (off + length bytes)) most

  -- The bytes are written.
  pub write_step : IsWriteStep tx v n (write v path off bytes) after (AreAt n indices)
  write_step =
      subst (λ c. IsWriteStep tx v n c after (AreAt n indices))
      (sym (at_path_is v path put.found (λ birth. followed_by (write_blocks v birth off bytes indices) (λ w. resize w birth (λ size. max size (off + length bytes)))) put.walked))
      (write_as tx v n (followed_by first (λ w. resize first.volume n (λ size. max size (off + length bytes)))) after (λ birth index. AreAt n indices birth index ⊎ ⊥) (AreAt n indices)
      (writes_then tx v h n first (resize first.volume n (λ size. max size (off + length bytes))) mid after (AreAt n indices) (λ birth index. ⊥) one two)
      (λ birth index w. ⊎_elim (λ here. here) (λ z. absurd z) w) (λ birth index w. inl w))

-- a file uses no fewer zones after a write
pub written_grows : (f : File) (off : ℕ) (bytes : List ℕ) → node_zones (nodes.File f) ≤ node_zones (nodes.File (written_file f off bytes))
written_grows f off bytes = zones_less (keys_of f.blocks) (keys_of (written_file f off bytes).blocks) (written_length off bytes (touched_blocks off (length bytes)) f.blocks) (written_any off bytes (touched_blocks off (length bytes)) f.blocks)
