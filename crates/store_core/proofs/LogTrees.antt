-- The trees of a store's session: one file, and what its blocks have.
use Rattle.std.specs.Prelude.{◌≡◌, ℕ, ◌+◌, ◌-◌, ◌*◌, ◌/◌, ◌==◌, ◌⊎◌, ◌&&◌, nat_le, nat_lt, Bool, true, false, List, [], ◌∷◌, length, replicate, Option, Some, None, is_some, Result, Ok, Err, refl}
use Rattle.std.specs.List.{list_any, range_with_len}
use Rattle.std.proofs.Common.{sym, ap, subst, ◌∙◌, inl, inr, arith}
use Rattle.std.proofs.lemmas.Bool.{cases_Bool, false≢true, eqb-true, eq-eqb, ne_eqb, and_from}
use Rattle.std.proofs.lemmas.List.{length-replicate}
use Rattle.std.proofs.lemmas.Option.{none-some, same_Some}
use Rattle.tree_model.specs.declared.call.Call.{Call}
use Rattle.tree_model.specs.declared.call.Call.TheVariants as calls
use Rattle.tree_model.specs.declared.call.Reply.{Reply}
use Rattle.tree_model.specs.declared.call.Reply.TheVariants as replies
use Rattle.tree_model.specs.declared.call.Room.{Room}
use Rattle.tree_model.specs.declared.node.Node.{Node}
use Rattle.tree_model.specs.declared.node.Node.TheVariants as nodes
use Rattle.tree_model.specs.declared.node.File.{File}
use Rattle.tree_model.specs.Calls.{Tree, Done, Found, row, walk, found_at, and_then, refused_walk, outcome, if_room, refuse_if, tree_from, tree_after, reply_of, leaves_tree, written_file, names_in, used_zones}
use Rattle.tree_model.specs.Histories.{block_at, block_in, is_ok, leads_to, is_found_at, is_touched, touches, writes, maps_block}
use Rattle.tree_model.specs.Maps.{at_number}
use Rattle.tree_model.specs.Paths.{path_of}
use Rattle.tree_model.specs.Plain.{HasWholeBlocks}
use Rattle.tree_model.specs.Rooted.{IsRooted}
use Rattle.tree_model.specs.Trees.{Refusal, node_of_path}
use Rattle.tree_model.proofs.Histories.{written_is_mapped}
use Rattle.tree_model.proofs.Outcomes.{quiet_stays}
use Rattle.tree_model.proofs.Bytes.{written_whole}
use Rattle.crash_laws.specs.LegalHistory.{root_alone}
use Rattle.volume_ops.specs.laws.ReadsLaws.{same_Ok}
pub use Rattle.store_core.specs.Program.{log_path, log_names}
use Rattle.store_core.proofs.Writes.{writes-bytes, path-written, off-written, bytes-written, Wrote, call-wrote, answered-wrote, same-paths, IsZeros, zeros-stay, block-written, untouched-stays}

pub names-are : names_in log_path ≡ Ok log_names
unfolding path_of
names-are = refl

found-same : (birth b : ℕ) (node : Option Node) → is_found_at (found_at birth node) b ≡ true → birth ≡ b
found-same birth b None h = absurd (false≢true h)
found-same birth b (Some node) h = eqb-true birth b h

-- where a walk ends, by where the names lead
abbrev walk-by : Tree → Result ℕ Refusal → Result Found Reply
walk-by tree r = and_then (elim r as (λ _. Result ℕ Reply) [ Err refusal ↦ Err (refused_walk refusal) | Ok birth ↦ Ok birth ]) (λ birth. found_at birth (at_number tree birth))

found-by : (tree : Tree) (b : ℕ) (r : Result ℕ Refusal) → is_found_at (walk-by tree r) b ≡ true → r ≡ Ok b
found-by tree b (Err refusal) h = absurd (false≢true h)
found-by tree b (Ok birth) h = ap Ok (found-same birth b (at_number tree birth) h)

-- where the path leads to a node, so do the names
pub leads-names : (tree : Tree) (b : ℕ) → leads_to tree log_path b ≡ true → node_of_path tree log_names ≡ Ok b
leads-names tree b h = found-by tree b (node_of_path tree log_names) (sym (ap (λ r. is_found_at (and_then r (walk tree)) b) names-are) ∙ h)

-- ---- what holds of each tree

pub record IsLogTree (tree : Tree) : Type 0 where
  -- the path leads to the file that the first call made, or nowhere
  pub leads : (b : ℕ) → node_of_path tree log_names ≡ Ok b → b ≡ 1
  pub whole : (f : File) → at_number tree 1 ≡ Some (nodes.File f) → HasWholeBlocks f

-- the calls of a store behind the first
pub data IsStoreCall : Call → Type 0 where
  quiet : {c : Call} → leaves_tree c ≡ true → IsStoreCall c
  zeros : (off len : ℕ) → IsStoreCall (calls.Write log_path off len 0)
  put : (i : ℕ) (body : List ℕ) → length body ≡ 1024 → IsStoreCall (calls.Bytes log_path (1024 * i) body)

-- what such a call does: nothing, or it writes into the file
pub wrote-log : (room : Room) (tree : Tree) (n : ℕ) (c : Call) → IsLogTree tree → writes-bytes c ≡ true → leaves_tree c ≡ false → path-written c ≡ log_path
    → (tree_after room tree n c ≡ tree) ⊎ ((w : Wrote tree (tree_after room tree n c) (path-written c) (off-written c) (bytes-written c)) × (w.birth ≡ 1) × (is_ok (reply_of room tree n c) ≡ true))
wrote-log room tree n c t w l path =
    elim (call-wrote room tree n c w l) [
      | inl same ↦ inl same
      | inr x ↦ inr (x.0, t.leads x.0.birth (leads-names tree x.0.birth (subst (λ p. leads_to tree p x.0.birth ≡ true) path x.0.leads)), x.1)
    ]

abbrev file-of : Node → File
file-of (nodes.File f) = f
file-of other = record { size = 0; links = 0; blocks = [] }

log-written : (tree after : Tree) (path : List ℕ) (off : ℕ) (bytes : List ℕ) (w : Wrote tree after path off bytes) → w.birth ≡ 1 → IsLogTree tree → IsLogTree after
log-written tree after path off bytes w one t = record {
  leads = λ b e. t.leads b (sym (same-paths tree after path off bytes w log_names 0) ∙ e);
  whole = λ f e.
      let now : at_number after 1 ≡ Some (nodes.File (written_file w.file off bytes)) = ap (at_number after) (sym one) ∙ w.now in
      let old : HasWholeBlocks w.file = t.whole w.file (ap (at_number tree) (sym one) ∙ w.stands) in
      let same : ◌≡◌ {A = Node} (nodes.File (written_file w.file off bytes)) (nodes.File f) = same_Some (nodes.File (written_file w.file off bytes)) (nodes.File f) (sym now ∙ e) in
      subst HasWholeBlocks (ap file-of same) (written_whole w.file off bytes old);
}

pub log-after : (room : Room) (tree : Tree) (n : ℕ) (c : Call) → IsStoreCall c → IsLogTree tree → IsLogTree (tree_after room tree n c)
log-after room tree n c (quiet q) t = subst IsLogTree (sym (quiet_stays room tree n c q)) t
log-after room tree n _ (zeros off len) t =
    elim (wrote-log room tree n (calls.Write log_path off len 0) t refl refl refl) [
      | inl same ↦ subst IsLogTree (sym same) t
      | inr x ↦ log-written tree (tree_after room tree n (calls.Write log_path off len 0)) log_path off (replicate len 0) x.0 x.1 t
    ]
log-after room tree n _ (put i body full) t =
    elim (wrote-log room tree n (calls.Bytes log_path (1024 * i) body) t refl refl refl) [
      | inl same ↦ subst IsLogTree (sym same) t
      | inr x ↦ log-written tree (tree_after room tree n (calls.Bytes log_path (1024 * i) body)) log_path (1024 * i) body x.0 x.1 t
    ]

-- ---- blocks

block-then : (tree after : Tree) (path : List ℕ) (off : ℕ) (bytes : List ℕ) (w : Wrote tree after path off bytes) → w.birth ≡ 1 → (i : ℕ) → (block_at tree 1 i ≡ at_number w.file.blocks i) × (block_at after 1 i ≡ at_number (written_file w.file off bytes).blocks i)
block-then tree after path off bytes w one i = (
  ap (λ o. block_in o i) (ap (at_number tree) (sym one) ∙ w.stands),
  ap (λ o. block_in o i) (ap (at_number after) (sym one) ∙ w.now),
)

-- the call puts another block
abbrev pub IsPutTo : ℕ → Call → Type 0
IsPutTo i (calls.Bytes path off body) = off ≡ 1024 * i
IsPutTo i other = ⊥

apart : (i j : ℕ) → (1024 * j ≡ 1024 * i → ⊥) → is_touched (1024 * j) 1024 i ≡ false
apart i j ne = let q : 1024 * j / 1024 ≡ j = omega arith in let r : (1024 * j + 1024 - 1) / 1024 ≡ j = omega arith in let one : (1024 * j + 1024 - 1) / 1024 - 1024 * j / 1024 + 1 ≡ 1 = omega (arith, q, r) in
    ap (λ n. list_any (λ k. k == i) (range_with_len (1024 * j / 1024) n)) one ∙ ap (λ a. list_any (λ k. k == i) (range_with_len a 1)) q ∙ only j (λ e. ne (ap (λ k. 1024 * k) e))
  where
    only : (a : ℕ) → (a ≡ i → ⊥) → list_any (λ k. k == i) (range_with_len a 1) ≡ false
    only a other = rw (ne_eqb a i other) refl

-- zeros stay zeros but for a put to this block
pub zeros-after : (room : Room) (tree : Tree) (n : ℕ) (c : Call) (i : ℕ) → IsStoreCall c → IsLogTree tree → (IsPutTo i c → ⊥) → ((x : List ℕ) → block_at tree 1 i ≡ Some x → IsZeros x)
    → (x : List ℕ) → block_at (tree_after room tree n c) 1 i ≡ Some x → IsZeros x
zeros-after room tree n c i (quiet q) t other h x e = h x (ap (λ u. block_at u 1 i) (sym (quiet_stays room tree n c q)) ∙ e)
zeros-after room tree n _ i (zeros off len) t other h x e =
    elim (wrote-log room tree n (calls.Write log_path off len 0) t refl refl refl) [
      | inl same ↦ h x (ap (λ u. block_at u 1 i) (sym same) ∙ e)
      | inr w ↦
          let b = block-then tree (tree_after room tree n (calls.Write log_path off len 0)) log_path off (replicate len 0) w.0 w.1 i in
          zeros-stay w.0.file off len i (t.whole w.0.file (ap (at_number tree) (sym w.1) ∙ w.0.stands)) (λ y f. h y (b.0 ∙ f)) x (sym b.1 ∙ e)
    ]
zeros-after room tree n _ i (put j body full) t other h x e =
    elim (wrote-log room tree n (calls.Bytes log_path (1024 * j) body) t refl refl refl) [
      | inl same ↦ h x (ap (λ u. block_at u 1 i) (sym same) ∙ e)
      | inr w ↦
          let b = block-then tree (tree_after room tree n (calls.Bytes log_path (1024 * j) body)) log_path (1024 * j) body w.0 w.1 i in
          let none : is_touched (1024 * j) (length body) i ≡ false = ap (λ k. is_touched (1024 * j) k i) full ∙ apart i j other in
          h x (b.0 ∙ sym (untouched-stays w.0.file (1024 * j) i body none) ∙ sym b.1 ∙ e)
    ]

-- the call writes no zeros
abbrev pub IsZeroWrite : Call → Type 0
IsZeroWrite (calls.Write path off len value) = Unit {0}
IsZeroWrite other = ⊥

-- a block stays but for zeros and puts to it
pub block-after : (room : Room) (tree : Tree) (n : ℕ) (c : Call) (i : ℕ) → IsStoreCall c → IsLogTree tree → (IsPutTo i c → ⊥) → (IsZeroWrite c → ⊥) → block_at (tree_after room tree n c) 1 i ≡ block_at tree 1 i
block-after room tree n c i (quiet q) t other none = ap (λ u. block_at u 1 i) (quiet_stays room tree n c q)
block-after room tree n _ i (zeros off len) t other none = absurd (none tt)
block-after room tree n _ i (put j body full) t other none =
    elim (wrote-log room tree n (calls.Bytes log_path (1024 * j) body) t refl refl refl) [
      | inl same ↦ ap (λ u. block_at u 1 i) same
      | inr w ↦
          let b = block-then tree (tree_after room tree n (calls.Bytes log_path (1024 * j) body)) log_path (1024 * j) body w.0 w.1 i in
          let out : is_touched (1024 * j) (length body) i ≡ false = ap (λ k. is_touched (1024 * j) k i) full ∙ apart i j other in
          b.1 ∙ untouched-stays w.0.file (1024 * j) i body out ∙ sym b.0
    ]

pub leads-one : (tree after : Tree) (off : ℕ) (bytes : List ℕ) (w : Wrote tree after log_path off bytes) → w.birth ≡ 1 → leads_to tree log_path 1 ≡ true
leads-one tree after off bytes w one = subst (λ k. leads_to tree log_path k ≡ true) one w.leads

-- a call that wrote maps what it touched, and leaves what it did not touch
written-mapped : (room : Room) (tree : Tree) (n : ℕ) (c : Call) (off : ℕ) (bytes : List ℕ) (i : ℕ) → IsRooted tree → (w : Wrote tree (tree_after room tree n c) log_path off bytes) → w.birth ≡ 1 → is_ok (reply_of room tree n c) ≡ true
    → (is_touched off (length bytes) i ≡ true → touches tree c 1 i ≡ true) → maps_block tree 1 i ≡ true → maps_block (tree_after room tree n c) 1 i ≡ true
unfolding writes
written-mapped room tree n c off bytes i rooted w one ok touched h =
    elim (cases_Bool (is_touched off (length bytes) i)) [
      | inl t ↦ written_is_mapped room tree rooted n c 1 i (and_from (is_ok (reply_of room tree n c)) (touches tree c 1 i) ok (touched t))
      | inr f ↦
          let b = block-then tree (tree_after room tree n c) log_path off bytes w one i in
          ap is_some (b.1 ∙ untouched-stays w.file off i bytes f ∙ sym b.0) ∙ h
    ]

-- no block is unmapped
pub mapped-after : (room : Room) (tree : Tree) (n : ℕ) (c : Call) (i : ℕ) → IsRooted tree → IsStoreCall c → IsLogTree tree → maps_block tree 1 i ≡ true → maps_block (tree_after room tree n c) 1 i ≡ true
mapped-after room tree n c i rooted (quiet q) t h = ap (λ u. maps_block u 1 i) (quiet_stays room tree n c q) ∙ h
mapped-after room tree n _ i rooted (zeros off len) t h =
    elim (wrote-log room tree n (calls.Write log_path off len 0) t refl refl refl) [
      | inl same ↦ ap (λ u. maps_block u 1 i) same ∙ h
      | inr w ↦ written-mapped room tree n (calls.Write log_path off len 0) off (replicate len 0) i rooted w.0 w.1 w.2 (λ hit. and_from (leads_to tree log_path 1) (is_touched off len i) (leads-one tree (tree_after room tree n (calls.Write log_path off len 0)) off (replicate len 0) w.0 w.1) (ap (λ k. is_touched off k i) (sym (length-replicate {A = ℕ} len 0)) ∙ hit)) h
    ]
mapped-after room tree n _ i rooted (put j body full) t h =
    elim (wrote-log room tree n (calls.Bytes log_path (1024 * j) body) t refl refl refl) [
      | inl same ↦ ap (λ u. maps_block u 1 i) same ∙ h
      | inr w ↦ written-mapped room tree n (calls.Bytes log_path (1024 * j) body) (1024 * j) body i rooted w.0 w.1 w.2 (λ hit. and_from (leads_to tree log_path 1) (is_touched (1024 * j) (length body) i) (leads-one tree (tree_after room tree n (calls.Bytes log_path (1024 * j) body)) (1024 * j) body w.0 w.1) hit) h
    ]

-- ---- the first call

abbrev pub made-done : Done
made-done = record {
  tree = (0, nodes.Directory (record { parent = 0; width = 14; slots = 3; names = (108 ∷ 111 ∷ 103 ∷ [], 1) ∷ [] })) ∷ (1, nodes.File (record { size = 0; links = 1; blocks = [] })) ∷ [];
  takes_inode = true;
  reply = replies.Ok;
}

pub made-is : row (root_alone 14) 1 (calls.Create log_path) ≡ Ok made-done
unfolding row path_of
made-is = refl

pub create-cases : (P : Tree → Type 0) (room : Room) (n : ℕ) → n ≡ 1 → P (root_alone 14) → P made-done.tree → P (tree_after room (root_alone 14) n (calls.Create log_path))
unfolding tree_after outcome
create-cases P room n one root new =
    subst (λ k. P (tree_from (root_alone 14) (and_then (row (root_alone 14) k (calls.Create log_path)) (if_room room (root_alone 14))))) (sym one)
    (subst (λ d. P (tree_from (root_alone 14) (and_then d (if_room room (root_alone 14))))) (sym made-is)
    (by (made-done.takes_inode && nat_le room.inodes (length (root_alone 14))) (nat_lt (room.capacity - used_zones (root_alone 14)) (used_zones made-done.tree - used_zones (root_alone 14)))))
  where
    by : (a b : Bool) → P (tree_from (root_alone 14) (refuse_if a replies.NoInode (refuse_if b replies.NoSpace (Ok made-done))))
    by true b = root
    by false true = root
    by false false = new

abbrev is-led : Result ℕ Refusal → Bool
is-led (Ok b) = true
is-led (Err r) = false

some-is : (o : Option (List ℕ)) → is_some o ≡ true → (x : List ℕ) × (o ≡ Some x)
some-is None t = absurd (false≢true t)
some-is (Some x) t = (x, refl)

root-is : IsLogTree (root_alone 14)
root-is = record { leads = λ b e. absurd (false≢true (ap is-led e)); whole = λ f e. absurd (none-some (nodes.File f) e) }

pub new-is_log : IsLogTree made-done.tree
new-is_log = record {
  leads = λ b e. sym (same_Ok 1 b e);
  whole = λ f e index body h.
      let same : ◌≡◌ {A = Node} (nodes.File (record { size = 0; links = 1; blocks = [] })) (nodes.File f) = same_Some (nodes.File (record { size = 0; links = 1; blocks = [] })) (nodes.File f) e in
      absurd (none-some body (ap (λ (g : File). at_number g.blocks index) (ap file-of same) ∙ h));
}

pub root-is_log : (width : ℕ) → width ≡ 14 → IsLogTree (root_alone width)
root-is_log width short = subst (λ w. IsLogTree (root_alone w)) (sym short) root-is

pub create-is_log : (room : Room) (width n : ℕ) → width ≡ 14 → n ≡ 1 → IsLogTree (tree_after room (root_alone width) n (calls.Create log_path))
create-is_log room width n short one = subst (λ w. IsLogTree (tree_after room (root_alone w) n (calls.Create log_path))) (sym short) (create-cases IsLogTree room n one root-is new-is_log)

-- no block is mapped
pub create-empty : (room : Room) (width n : ℕ) → width ≡ 14 → n ≡ 1 → (i : ℕ) → block_at (tree_after room (root_alone width) n (calls.Create log_path)) 1 i ≡ None
create-empty room width n short one i = subst (λ w. block_at (tree_after room (root_alone w) n (calls.Create log_path)) 1 i ≡ None) (sym short) (create-cases (λ t. block_at t 1 i ≡ None) room n one refl refl)

-- ---- a put that is answered Ok

self-touched : (i : ℕ) → is_touched (1024 * i) 1024 i ≡ true
self-touched i =
    let q : 1024 * i / 1024 ≡ i = omega arith in
    let r : (1024 * i + 1024 - 1) / 1024 ≡ i = omega arith in
    let one : (1024 * i + 1024 - 1) / 1024 - 1024 * i / 1024 + 1 ≡ 1 = omega (arith, q, r) in
    ap (λ n. list_any (λ k. k == i) (range_with_len (1024 * i / 1024) n)) one ∙ ap (λ a. list_any (λ k. k == i) (range_with_len a 1)) q ∙ rw (eq-eqb i i refl) refl

pub put-touches : (tree : Tree) (i : ℕ) (body : List ℕ) → leads_to tree log_path 1 ≡ true → length body ≡ 1024 → touches tree (calls.Bytes log_path (1024 * i) body) 1 i ≡ true
put-touches tree i body leads full = and_from (leads_to tree log_path 1) (is_touched (1024 * i) (length body) i) leads (ap (λ k. is_touched (1024 * i) k i) full ∙ self-touched i)

-- the path leads to the file where the put is answered Ok
pub put-leads : (room : Room) (tree : Tree) (n i : ℕ) (body : List ℕ) → IsRooted tree → IsLogTree tree → is_ok (reply_of room tree n (calls.Bytes log_path (1024 * i) body)) ≡ true → leads_to tree log_path 1 ≡ true
put-leads room tree n i body rooted t ok =
    let w = answered-wrote room tree n (calls.Bytes log_path (1024 * i) body) refl refl rooted ok in
    leads-one tree (tree_after room tree n (calls.Bytes log_path (1024 * i) body)) (1024 * i) body w (t.leads w.birth (leads-names tree w.birth w.leads))

pub put-there : (room : Room) (tree : Tree) (n i : ℕ) (body : List ℕ) → IsRooted tree → IsLogTree tree → length body ≡ 1024 → is_ok (reply_of room tree n (calls.Bytes log_path (1024 * i) body)) ≡ true
    → block_at (tree_after room tree n (calls.Bytes log_path (1024 * i) body)) 1 i ≡ Some body
unfolding writes
put-there room tree n i body rooted t full ok =
    let c = calls.Bytes log_path (1024 * i) body in
    let w = answered-wrote room tree n c refl refl rooted ok in
    let one : w.birth ≡ 1 = t.leads w.birth (leads-names tree w.birth w.leads) in
    let there = written_is_mapped room tree rooted n c 1 i (and_from (is_ok (reply_of room tree n c)) (touches tree c 1 i) ok (put-touches tree i body (leads-one tree (tree_after room tree n c) (1024 * i) body w one) full)) in
    let b = block-then tree (tree_after room tree n c) log_path (1024 * i) body w one i in
    let x = some-is (block_at (tree_after room tree n c) 1 i) there in
    x.1 ∙ ap Some (block-written w.file i body (t.whole w.file (ap (at_number tree) (sym one) ∙ w.stands)) full x.0 (sym b.1 ∙ x.1))

-- the number of the call does not count
pub put-reply : (room : Room) (tree : Tree) (n m i : ℕ) (body : List ℕ) → reply_of room tree n (calls.Bytes log_path (1024 * i) body) ≡ reply_of room tree m (calls.Bytes log_path (1024 * i) body)
unfolding reply_of outcome row
put-reply room tree n m i body = refl
