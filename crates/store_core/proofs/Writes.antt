-- What the calls of a store do to a tree: they write whole blocks of one file, and leave the rest as it is.
use Rattle.std.specs.Prelude.{◌≡◌, ◌≢◌, ℕ, zero, suc, ◌+◌, ◌-◌, ◌*◌, ◌/◌, ◌%◌, ◌<◌, ◌⊎◌, Bool, true, false, List, [], ◌∷◌, length, replicate, Option, Some, None, Result, Ok, Err, slice_index, refl}
use Rattle.std.proofs.Common.{sym, ap, ◌∙◌, inl, inr, arith}
use Rattle.std.proofs.lemmas.Bool.{cases_lt, cases_eq, false≢true, true≢false, eq-eqb}
use Rattle.std.proofs.lemmas.List.{same_lists, get_or_default}
use Rattle.tree_model.specs.declared.call.Call.{Call}
use Rattle.tree_model.specs.declared.call.Call.TheVariants as calls
use Rattle.tree_model.specs.declared.call.Room.{Room}
use Rattle.tree_model.specs.declared.node.Node.TheVariants as nodes
use Rattle.tree_model.specs.declared.node.File.{File}
use Rattle.tree_model.specs.Calls.{Tree, Done, Row, outcome, tree_from, reply_from, tree_after, reply_of, leaves_tree, written_file, byte_at, block_or_zeros, touched_blocks}
use Rattle.tree_model.specs.Histories.{is_ok, leads_to, is_found_at, is_touched}
use Rattle.tree_model.specs.Maps.{at_number}
use Rattle.tree_model.specs.Plain.{HasWholeBlocks}
use Rattle.tree_model.specs.Trees.{Refusal, step_at, led_to}
use Rattle.tree_model.specs.laws.MapsLaws.{at_put_number, at_put_number_apart}
use Rattle.tree_model.proofs.Blocks.{written_untouched}
use Rattle.tree_model.proofs.Causes.{cause_not_ok, refused_for}
use Rattle.tree_model.specs.Rooted.{IsRooted}
use Rattle.tree_model.proofs.Bytes.{byte_written, byte_kept, written_whole}
use Rattle.tree_model.proofs.Changes.{Change, IsPut, stayed, made_directory, made_file, removed, unlinked, linked, renamed, written, written_bytes, truncated, outcome_change}

-- ---- a call that writes

abbrev pub writes-bytes : Call → Bool
writes-bytes (calls.Write path off len value) = true
writes-bytes (calls.Bytes path off bytes) = true
writes-bytes other = false

abbrev pub path-written : Call → List ℕ
path-written (calls.Write path off len value) = path
path-written (calls.Bytes path off bytes) = path
path-written other = []

abbrev pub off-written : Call → ℕ
off-written (calls.Write path off len value) = off
off-written (calls.Bytes path off bytes) = off
off-written other = 0

abbrev pub bytes-written : Call → List ℕ
bytes-written (calls.Write path off len value) = replicate len value
bytes-written (calls.Bytes path off bytes) = bytes
bytes-written other = []

-- it wrote into the file to which the path leads, and left all other nodes
pub record Wrote (tree after : Tree) (path : List ℕ) (off : ℕ) (bytes : List ℕ) : Type 0 where
  pub birth : ℕ
  pub file : File
  pub leads : leads_to tree path birth ≡ true
  pub stands : at_number tree birth ≡ Some (nodes.File file)
  pub now : at_number after birth ≡ Some (nodes.File (written_file file off bytes))
  pub others : (b : ℕ) → b ≢ birth → at_number after b ≡ at_number tree b

put-wrote : (tree : Tree) (path : List ℕ) (off : ℕ) (bytes : List ℕ) (d : Done) → IsPut tree path (λ f. written_file f off bytes) d → Wrote tree d.tree path off bytes
put-wrote tree path off bytes d p = record {
  birth = p.found.birth;
  file = p.file;
  leads = ap (λ r. is_found_at r p.found.birth) p.walked ∙ eq-eqb p.found.birth p.found.birth refl;
  stands = p.is_found.stands ∙ ap Some p.node_is;
  now = ap (λ t. at_number t p.found.birth) p.tree_is ∙ at_put_number tree p.found.birth (nodes.File (written_file p.file off bytes));
  others = λ b ne. ap (λ t. at_number t b) p.tree_is ∙ at_put_number_apart tree p.found.birth (nodes.File (written_file p.file off bytes)) b ne;
}

change-wrote : (tree : Tree) (n : ℕ) (c : Call) (d : Done) → Change tree n d c → writes-bytes c ≡ true → leaves_tree c ≡ false → Wrote tree d.tree (path-written c) (off-written c) (bytes-written c) × (is_ok d.reply ≡ true)
change-wrote tree n c d (stayed quiet same) w l = absurd (true≢false (sym quiet ∙ l))
change-wrote tree n _ d (made_directory parent h e g) w l = absurd (false≢true w)
change-wrote tree n _ d (made_file h) w l = absurd (false≢true w)
change-wrote tree n _ d (removed h) w l = absurd (false≢true w)
change-wrote tree n _ d (unlinked h) w l = absurd (false≢true w)
change-wrote tree n _ d (linked h) w l = absurd (false≢true w)
change-wrote tree n _ d (renamed h) w l = absurd (false≢true w)
change-wrote tree n _ d (written {path} {off} {len} {value} h) w l = (put-wrote tree path off (replicate len value) d h, ap is_ok h.reply_is)
change-wrote tree n _ d (written_bytes {path} {off} {bytes} h) w l = (put-wrote tree path off bytes d h, ap is_ok h.reply_is)
change-wrote tree n _ d (truncated h) w l = absurd (false≢true w)

row-wrote : (room : Room) (tree : Tree) (n : ℕ) (c : Call) → writes-bytes c ≡ true → leaves_tree c ≡ false → (r : Row) → outcome room tree n c ≡ r
    → (tree_from tree r ≡ tree) ⊎ (Wrote tree (tree_from tree r) (path-written c) (off-written c) (bytes-written c) × (is_ok (reply_from r) ≡ true))
row-wrote room tree n c w l (Err reply) e = inl refl
row-wrote room tree n c w l (Ok d) e = inr (change-wrote tree n c d (outcome_change room tree n c d e) w l)

pub call-wrote : (room : Room) (tree : Tree) (n : ℕ) (c : Call) → writes-bytes c ≡ true → leaves_tree c ≡ false
    → (tree_after room tree n c ≡ tree) ⊎ (Wrote tree (tree_after room tree n c) (path-written c) (off-written c) (bytes-written c) × (is_ok (reply_of room tree n c) ≡ true))
unfolding tree_after reply_of
call-wrote room tree n c w l = row-wrote room tree n c w l (outcome room tree n c) refl

row-answered : (room : Room) (tree : Tree) (n : ℕ) (c : Call) → writes-bytes c ≡ true → leaves_tree c ≡ false → IsRooted tree → (r : Row) → outcome room tree n c ≡ r → is_ok (reply_from r) ≡ true
    → Wrote tree (tree_from tree r) (path-written c) (off-written c) (bytes-written c)
row-answered room tree n c w l rooted (Err reply) e ok = absurd (false≢true (sym (cause_not_ok room tree n c reply (refused_for room tree rooted n c reply e)) ∙ ok))
row-answered room tree n c w l rooted (Ok d) e ok = (change-wrote tree n c d (outcome_change room tree n c d e) w l).0

-- where it answers Ok, it wrote
pub answered-wrote : (room : Room) (tree : Tree) (n : ℕ) (c : Call) → writes-bytes c ≡ true → leaves_tree c ≡ false → IsRooted tree → is_ok (reply_of room tree n c) ≡ true → Wrote tree (tree_after room tree n c) (path-written c) (off-written c) (bytes-written c)
unfolding tree_after reply_of
answered-wrote room tree n c w l rooted ok = row-answered room tree n c w l rooted (outcome room tree n c) refl ok

-- ---- no path leads elsewhere

same-step : (tree after : Tree) (path : List ℕ) (off : ℕ) (bytes : List ℕ) → Wrote tree after path off bytes → (b : ℕ) (name : List ℕ) → step_at (at_number after b) name ≡ step_at (at_number tree b) name
same-step tree after path off bytes w b name =
    elim (cases_eq b w.birth) [
      | inl e ↦ ap (λ k. step_at (at_number after k) name) e ∙ ap (λ o. step_at o name) w.now ∙ sym (ap (λ k. step_at (at_number tree k) name) e ∙ ap (λ o. step_at o name) w.stands)
      | inr ne ↦ ap (λ o. step_at o name) (w.others b ne)
    ]

next-led : (tree after : Tree) (names : List (List ℕ)) (a o : Result ℕ Refusal) → a ≡ o → ((b : ℕ) → led_to after b names ≡ led_to tree b names)
    → (elim a as (λ _. Result ℕ Refusal) [ Err refusal ↦ Err refusal | Ok next ↦ led_to after next names ]) ≡ (elim o as (λ _. Result ℕ Refusal) [ Err refusal ↦ Err refusal | Ok next ↦ led_to tree next names ])
next-led tree after names a (Err refusal) e rest = ap (λ r. elim r as (λ _. Result ℕ Refusal) [ Err refusal ↦ Err refusal | Ok next ↦ led_to after next names ]) e
next-led tree after names a (Ok next) e rest = ap (λ r. elim r as (λ _. Result ℕ Refusal) [ Err refusal ↦ Err refusal | Ok next ↦ led_to after next names ]) e ∙ rest next

pub same-paths : (tree after : Tree) (path : List ℕ) (off : ℕ) (bytes : List ℕ) → Wrote tree after path off bytes → (names : List (List ℕ)) (b : ℕ) → led_to after b names ≡ led_to tree b names
same-paths tree after path off bytes w [] b = refl
same-paths tree after path off bytes w (name ∷ names) b =
    next-led tree after names (step_at (at_number after b) name) (step_at (at_number tree b) name) (same-step tree after path off bytes w b name) (same-paths tree after path off bytes w names)

-- ---- blocks of the file

-- it maps no block with other bytes than zeros
abbrev pub IsZeros : List ℕ → Type 0
IsZeros x = (length x ≡ 1024) × ((j : ℕ) → j < 1024 → slice_index x j ≡ 0)

zero-at : (n j : ℕ) → slice_index (replicate n 0) j ≡ 0
zero-at zero j = refl
zero-at (suc n) zero = refl
zero-at (suc n) (suc j) = zero-at n j

byte-of : (f : File) (i j : ℕ) (x : List ℕ) → at_number f.blocks i ≡ Some x → j < 1024 → byte_at f (1024 * i + j) ≡ slice_index x j
byte-of f i j x e lt =
    let q : (1024 * i + j) / 1024 ≡ i = omega arith in
    let m : (1024 * i + j) % 1024 ≡ j = omega arith in
    ap (λ k. slice_index (block_or_zeros (at_number f.blocks k)) ((1024 * i + j) % 1024)) q
    ∙ ap (λ o. slice_index (block_or_zeros o) ((1024 * i + j) % 1024)) e
    ∙ ap (slice_index x) m

hole-byte : (f : File) (i j : ℕ) → at_number f.blocks i ≡ None → j < 1024 → byte_at f (1024 * i + j) ≡ 0
hole-byte f i j e lt =
    let q : (1024 * i + j) / 1024 ≡ i = omega arith in
    ap (λ k. slice_index (block_or_zeros (at_number f.blocks k)) ((1024 * i + j) % 1024)) q
    ∙ ap (λ o. slice_index (block_or_zeros o) ((1024 * i + j) % 1024)) e
    ∙ zero-at 1024 ((1024 * i + j) % 1024)

-- each byte of the block is 0, where it is mapped and where it is not
zero-byte : (f : File) (i j : ℕ) → ((x : List ℕ) → at_number f.blocks i ≡ Some x → IsZeros x) → j < 1024 → byte_at f (1024 * i + j) ≡ 0
zero-byte f i j h lt = by (at_number f.blocks i) refl
  where
    by : (o : Option (List ℕ)) → at_number f.blocks i ≡ o → byte_at f (1024 * i + j) ≡ 0
    by None e = hole-byte f i j e lt
    by (Some x) e = byte-of f i j x e lt ∙ (h x e).1 j lt

-- zeros that are written leave zeros
pub zeros-stay : (f : File) (off len i : ℕ) → HasWholeBlocks f → ((x : List ℕ) → at_number f.blocks i ≡ Some x → IsZeros x) → (x : List ℕ) → at_number (written_file f off (replicate len 0)).blocks i ≡ Some x → IsZeros x
zeros-stay f off len i whole h x e = (
  written_whole f off (replicate len 0) whole i x e,
  λ j lt.
      let at = 1024 * i + j in
      sym (byte-of (written_file f off (replicate len 0)) i j x e lt)
      ∙ elim (cases_lt at off) [
        | inl low ↦ byte_kept f off (replicate len 0) whole at (inl low) ∙ zero-byte f i j h lt
        | inr le ↦
            elim (cases_lt at (off + length (replicate {A = ℕ} len 0))) [
              | inl within ↦ byte_written f off (replicate len 0) whole at le within ∙ zero-at len (at - off)
              | inr past ↦ byte_kept f off (replicate len 0) whole at (inr past) ∙ zero-byte f i j h lt
            ]
      ],
)

-- a whole block that is written is there
pub block-written : (f : File) (i : ℕ) (body : List ℕ) → HasWholeBlocks f → length body ≡ 1024 → (x : List ℕ) → at_number (written_file f (1024 * i) body).blocks i ≡ Some x → x ≡ body
block-written f i body whole full x e =
    let long = written_whole f (1024 * i) body whole i x e in
    same_lists x body (long ∙ sym full)
    (λ k d lt.
    let within : k < 1024 = omega (arith, lt, long) in
    let at : 1024 * i + k - 1024 * i ≡ k = omega arith in
    let byte : slice_index x k ≡ slice_index body k =
    sym (byte-of (written_file f (1024 * i) body) i k x e within) ∙ byte_written f (1024 * i) body whole (1024 * i + k) (omega arith) (omega (arith, within, full)) ∙ ap (slice_index body) at in
    get_or_default x k d 0 lt ∙ byte ∙ get_or_default body k 0 d (omega (arith, within, full)))

-- a block that is not touched stays, and one that is touched is mapped
pub untouched-stays : (f : File) (off i : ℕ) (bytes : List ℕ) → is_touched off (length bytes) i ≡ false → at_number (written_file f off bytes).blocks i ≡ at_number f.blocks i
untouched-stays f off i bytes none = written_untouched off bytes (touched_blocks off (length bytes)) f.blocks i none
