-- What calls do to the file at a path.
use Rattle.std.specs.Prelude.{◌≡◌, ◌≢◌, ◌<◌, ◌≤◌, ℕ, suc, ◌+◌, ◌-◌, ◌*◌, ◌/◌, ◌%◌, ◌⊎◌, ◌↔◌, min, Bool, true, false, if◌then◌else◌, nat_lt, List, [], ◌∷◌, length, slice_index, Option, Some, None, Result, Ok, Err, is_some, refl}
use Rattle.std.proofs.Common.{sym, ap, subst, ◌∙◌, inl, inr, ⊎_elim, arith}
use Rattle.std.proofs.lemmas.Bool.{cases_Bool, cases_lt, true≢false, false≢true, lt-ltb, le-ltb, ltb-true, ltb-false}
use Rattle.std.proofs.lemmas.List.FromFn.{length-map-range_with_len, get_or-map-range_with_len}
use Rattle.std.proofs.lemmas.Option.{same_Some}
use Rattle.tree_model.specs.declared.call.Call.{Call}
use Rattle.tree_model.specs.declared.call.Call.TheVariants as calls
use Rattle.tree_model.specs.declared.call.Reply.{Reply}
use Rattle.tree_model.specs.declared.call.Reply.TheVariants as replies
use Rattle.tree_model.specs.declared.call.Room.{Room}
use Rattle.tree_model.specs.declared.node.Node.{Node}
use Rattle.tree_model.specs.declared.node.Node.TheVariants as nodes
use Rattle.tree_model.specs.declared.node.Directory.{Directory}
use Rattle.tree_model.specs.declared.node.File.{File}
use Rattle.tree_model.specs.Maps.{at_number}
use Rattle.tree_model.specs.Trees.{Refusal, step_at, led_to, node_of_path}
use Rattle.tree_model.specs.Calls.{Tree, Done, Row, Found, and_then, if_some, refused_walk, found_at, walk, answers, walk_path, a_file, put_file, max, block_or_zeros, touched_blocks, written_file, cut_file, byte_at, bytes_from, row, outcome, reply_from, reply_of, refuse_if, leaves, largest_size, if_room}
use Rattle.tree_model.specs.CallWords.{StandsAt, IsFileChange, IsGreater, HasByteIn, IsSoundFile, HasSoundFiles}
use Rattle.tree_model.specs.Histories.{is_touched}
use Rattle.tree_model.specs.Plain.{HasWholeBlocks, IsPlain}
use Rattle.tree_model.specs.laws.MapsLaws.{at_put_number, at_put_number_apart}
use Rattle.tree_model.specs.laws.MapOrder.{at_put_cases}
use Rattle.tree_model.specs.laws.Alike.{same_ok, led_on}
use Rattle.tree_model.proofs.Blocks.{written_touched, written_untouched, left_of, cut_out, cut_in}
use Rattle.tree_model.proofs.Bytes.{touched_in, touched_out, byte_written, byte_kept, byte_below, byte_past, cut_whole_blocks, zero_at}
use Rattle.tree_model.proofs.Rows.{ok_ok, then_ok, file_ok, walk_path_ok}
use Rattle.tree_model.proofs.Changes.{IsPut, write_change, truncate_change, outcome_row}
use Rattle.tree_model.proofs.Zones.{needs_none}
use Rattle.tree_model.proofs.Outcomes.{row_done, needs_done}

-- ---- what is at a path

-- a path leads to one node
pub one_file : (tree : Tree) (path : List ℕ) (a b : ℕ) (f g : File) → StandsAt tree path a (nodes.File f) → StandsAt tree path b (nodes.File g) → (a ≡ b) × (f ≡ g)
one_file tree path a b f g s t =
    let names : s.names ≡ t.names = same_Some s.names t.names (sym s.named ∙ t.named) in
    let birth : a ≡ b = same_ok a b (sym s.leads.path ∙ (ap (node_of_path tree) names ∙ t.leads.path)) in
    let node : nodes.File f ≡ nodes.File g = same_Some (nodes.File f) (nodes.File g) (sym s.leads.stands ∙ (ap (at_number tree) birth ∙ t.leads.stands)) in
    (birth, cc)

file_at : (tree : Tree) (path : List ℕ) (found : Found) (f : File) → walk_path tree path ≡ Ok found → found.node ≡ nodes.File f → StandsAt tree path found.birth (nodes.File f)
file_at tree path found f walked is =
    let w = walk_path_ok tree path found walked in
    record { names = w.0; named = w.1; leads = record { path = w.2.path; stands = w.2.stands ∙ ap Some is } }

-- a file in place of a file: all paths lead where they led
put_paths : (tree : Tree) (b : ℕ) (f g : File) → at_number tree b ≡ Some (nodes.File f) → (names : List (List ℕ)) (start : ℕ) → led_to (put_file tree b g) start names ≡ led_to tree start names
put_paths tree b f g stands [] start = refl
put_paths tree b f g stands (name ∷ names) start =
    ap (λ (r : Result ℕ Refusal). led_on (put_file tree b g) r names) step ∙ rest (put_paths tree b f g stands names) (step_at (at_number tree start) name)
  where
    step : step_at (at_number (put_file tree b g) start) name ≡ step_at (at_number tree start) name
    step =
        at_put_cases (λ o. step_at o name ≡ step_at (at_number tree start) name) tree b (nodes.File g) start
        (λ e. sym (ap (λ o. step_at o name) (ap (at_number tree) e ∙ stands)))
        (λ apart. refl)

    rest : ((next : ℕ) → led_to (put_file tree b g) next names ≡ led_to tree next names) → (r : Result ℕ Refusal) → led_on (put_file tree b g) r names ≡ led_on tree r names
    rest more (Err refusal) = refl
    rest more (Ok next) = more next

module _ (tree : Tree) (path : List ℕ) (change : File → File) (d : Done) (h : IsPut tree path change d) where
  put_stands : StandsAt tree path h.found.birth (nodes.File h.file)
  put_stands = file_at tree path h.found h.file h.walked h.node_is

  put_left : at_number d.tree h.found.birth ≡ Some (nodes.File (change h.file))
  put_left = ap (λ t. at_number t h.found.birth) h.tree_is ∙ at_put_number tree h.found.birth (nodes.File (change h.file))

  module _ (birth : ℕ) (f g : File) (before : StandsAt tree path birth (nodes.File f)) (after : at_number d.tree birth ≡ Some (nodes.File g)) where
    pub put_is : g ≡ change f
    put_is =
        let one = one_file tree path birth h.found.birth f h.file before put_stands in
        let node : nodes.File g ≡ nodes.File (change h.file) = same_Some (nodes.File g) (nodes.File (change h.file)) (sym after ∙ (ap (at_number d.tree) one.0 ∙ put_left)) in
        let file : g ≡ change h.file = cc in
        file ∙ ap change (sym one.1)

    pub put_rest : (other : ℕ) → other ≢ birth → at_number d.tree other ≡ at_number tree other
    put_rest other apart =
        let one = one_file tree path birth h.found.birth f h.file before put_stands in
        ap (λ t. at_number t other) h.tree_is
        ∙ at_put_number_apart tree h.found.birth (nodes.File (change h.file)) other (λ e. apart (e ∙ sym one.0))

  pub put_led : (names : List (List ℕ)) → node_of_path d.tree names ≡ node_of_path tree names
  put_led names =
      ap (λ t. node_of_path t names) h.tree_is
      ∙ put_paths tree h.found.birth h.file (change h.file) put_stands.leads.stands names 0

-- ---- writes

module _ (room : Room) (tree : Tree) (n : ℕ) (path : List ℕ) (off : ℕ) (bytes : List ℕ) (d : Done) where
  abbrev Writes : Call
  Writes = calls.Bytes path off bytes

  write_put : outcome room tree n (calls.Bytes path off bytes) ≡ Ok d → IsPut tree path (λ f. written_file f off bytes) d
  unfolding row
  write_put h = write_change tree path off bytes d (outcome_row room tree n (calls.Bytes path off bytes) d h)

  pub write_file : outcome room tree n (calls.Bytes path off bytes) ≡ Ok d → (birth : ℕ) × (f : File) × (g : File) × IsFileChange room tree n (calls.Bytes path off bytes) path d birth f g
  write_file h =
      let p = write_put h in
      (p.found.birth, p.file, written_file p.file off bytes, record { done = h; before = put_stands tree path (λ f. written_file f off bytes) d p; after = put_left tree path (λ f. written_file f off bytes) d p })

  pub write_paths : outcome room tree n (calls.Bytes path off bytes) ≡ Ok d → (names : List (List ℕ)) → node_of_path d.tree names ≡ node_of_path tree names
  write_paths h = put_led tree path (λ f. written_file f off bytes) d (write_put h)

  module _ (birth : ℕ) (f g : File) (h : IsFileChange room tree n (calls.Bytes path off bytes) path d birth f g) where
    pub write_is : g ≡ written_file f off bytes
    write_is = put_is tree path (λ f. written_file f off bytes) d (write_put h.done) birth f g h.before h.after

    pub write_rest : (other : ℕ) → other ≢ birth → at_number d.tree other ≡ at_number tree other
    write_rest = put_rest tree path (λ f. written_file f off bytes) d (write_put h.done) birth f g h.before h.after

pub greater : (a b : ℕ) → IsGreater (max a b) a b
greater a b = by (nat_lt a b) refl
  where
    by : (t : Bool) → nat_lt a b ≡ t → IsGreater (if t then b else a) a b
    by true e = let lt = ltb-true a b e in record { first = omega arith; second = omega arith; one = inr refl }
    by false e = let ge = ltb-false a b e in record { first = omega arith; second = omega arith; one = inl refl }

pub write_size : (room : Room) (tree : Tree) (n : ℕ) (path : List ℕ) (off : ℕ) (bytes : List ℕ) (d : Done) (birth : ℕ) (f g : File) →
    IsFileChange room tree n (calls.Bytes path off bytes) path d birth f g → IsGreater g.size f.size (off + length bytes)
write_size room tree n path off bytes d birth f g h =
    subst (λ (g : File). IsGreater g.size f.size (off + length bytes)) (sym (write_is room tree n path off bytes d birth f g h)) (greater f.size (off + length bytes))

pub write_links : (room : Room) (tree : Tree) (n : ℕ) (path : List ℕ) (off : ℕ) (bytes : List ℕ) (d : Done) (birth : ℕ) (f g : File) →
    IsFileChange room tree n (calls.Bytes path off bytes) path d birth f g → g.links ≡ f.links
write_links room tree n path off bytes d birth f g h = ap (λ (g : File). g.links) (write_is room tree n path off bytes d birth f g h)

pub write_others : (room : Room) (tree : Tree) (n : ℕ) (path : List ℕ) (off : ℕ) (bytes : List ℕ) (d : Done) (birth : ℕ) (f g : File) → HasSoundFiles tree →
    IsFileChange room tree n (calls.Bytes path off bytes) path d birth f g → (at : ℕ) → (at < off) ⊎ (off + length bytes ≤ at) → byte_at g at ≡ byte_at f at
write_others room tree n path off bytes d birth f g sound h at out =
    ap (λ (g : File). byte_at g at) (write_is room tree n path off bytes d birth f g h)
    ∙ byte_kept f off bytes (sound birth f h.before.leads.stands).whole at out

pub write_gap : (room : Room) (tree : Tree) (n : ℕ) (path : List ℕ) (off : ℕ) (bytes : List ℕ) (d : Done) (birth : ℕ) (f g : File) → HasSoundFiles tree →
    IsFileChange room tree n (calls.Bytes path off bytes) path d birth f g → (at : ℕ) → f.size ≤ at → at < off → byte_at g at ≡ 0
write_gap room tree n path off bytes d birth f g sound h at past before =
    write_others room tree n path off bytes d birth f g sound h at (inl before) ∙ (sound birth f h.before.leads.stands).past at past

-- which blocks the bytes touch
some_byte : (off len index : ℕ) → is_touched off len index ≡ true → HasByteIn off len index
some_byte off len index t =
    let x = touched_in off len index t in
    let reaches = x.0 in
    let begins = x.1 in
    ⊎_elim
    (λ (lt : off < 1024 * index). record { at = 1024 * index; from = omega arith; before = begins; first = omega arith; past = omega arith })
    (λ (ge : 1024 * index ≤ off).
    ⊎_elim
    (λ (none : len < 1). absurd (true≢false (sym t ∙ ap (λ k. is_touched off k index) (let zero : len ≡ 0 = omega arith in zero))))
    (λ (some : 1 ≤ len). record { at = off; from = omega arith; before = omega arith; first = ge; past = reaches })
    (cases_lt len 1))
    (cases_lt off (1024 * index))

touched_by : (off len index : ℕ) → HasByteIn off len index → is_touched off len index ≡ true
touched_by off len index b =
    elim (cases_Bool (is_touched off len index)) [
      | inl t ↦ t
      | inr t ↦
          let from = b.from in
          let before = b.before in
          let first = b.first in
          let past = b.past in
          absurd (⊎_elim (λ lt. omega arith) (λ ge. omega arith) (touched_out off len index (b.at - 1024 * index) t (omega arith)))
    ]

pub write_mapped : (room : Room) (tree : Tree) (n : ℕ) (path : List ℕ) (off : ℕ) (bytes : List ℕ) (d : Done) (birth : ℕ) (f g : File) →
    IsFileChange room tree n (calls.Bytes path off bytes) path d birth f g → (index : ℕ) →
    (is_some (at_number g.blocks index) ≡ true) ↔ ((is_some (at_number f.blocks index) ≡ true) ⊎ HasByteIn off (length bytes) index)
write_mapped room tree n path off bytes d birth f g h index =
    subst (λ (g : File). (is_some (at_number g.blocks index) ≡ true) ↔ ((is_some (at_number f.blocks index) ≡ true) ⊎ HasByteIn off (length bytes) index))
    (sym (write_is room tree n path off bytes d birth f g h)) (to, from)
  where
    indices : List ℕ
    indices = touched_blocks off (length bytes)

    same : is_touched off (length bytes) index ≡ false → at_number (written_file f off bytes).blocks index ≡ at_number f.blocks index
    same t = written_untouched off bytes (touched_blocks off (length bytes)) f.blocks index t

    to : is_some (at_number (written_file f off bytes).blocks index) ≡ true → (is_some (at_number f.blocks index) ≡ true) ⊎ HasByteIn off (length bytes) index
    to there =
        ⊎_elim
        (λ t. inr (some_byte off (length bytes) index t))
        (λ t. inl (sym (ap is_some (same t)) ∙ there))
        (cases_Bool (is_touched off (length bytes) index))

    from : (is_some (at_number f.blocks index) ≡ true) ⊎ HasByteIn off (length bytes) index → is_some (at_number (written_file f off bytes).blocks index) ≡ true
    from either =
        ⊎_elim
        (λ t. written_touched off bytes (touched_blocks off (length bytes)) f.blocks index t)
        (λ t.
        ⊎_elim
        (λ there. ap is_some (same t) ∙ there)
        (λ b. absurd (true≢false (sym (touched_by off (length bytes) index b) ∙ t)))
        either)
        (cases_Bool (is_touched off (length bytes) index))

-- ---- reads

pub walk_from : (tree : Tree) (path : List ℕ) (birth : ℕ) (node : Node) → StandsAt tree path birth node → walk_path tree path ≡ Ok (record { birth = birth; node = node })
walk_from tree path birth node s =
    ap (λ o. and_then (if_some o replies.BadPath) (walk tree)) s.named
    ∙ (ap (λ (r : Result ℕ Refusal). and_then (elim r as (λ _. Result ℕ Reply) [ Err refusal ↦ Err (refused_walk refusal) | Ok birth ↦ Ok birth ]) (λ birth. found_at birth (at_number tree birth))) s.leads.path
    ∙ ap (found_at birth) s.leads.stands)

abbrev pub Asked : Tree → Reply → Done
Asked tree reply = record { tree = tree; takes_inode = false; reply = reply }

-- a call that asks, and is answered, needs no room
asked_done : (room : Room) (tree : Tree) (n : ℕ) (c : Call) (reply : Reply) → row tree n c ≡ Ok (Asked tree reply) → outcome room tree n c ≡ Ok (Asked tree reply)
asked_done room tree n c reply h =
    let need = needs_done tree n c (Asked tree reply) h in
    row_done room tree n c (Asked tree reply) h (λ t. absurd (false≢true t)) (omega arith)

pub asked_reply : (room : Room) (tree : Tree) (n : ℕ) (c : Call) (reply : Reply) → row tree n c ≡ Ok (Asked tree reply) → reply_of room tree n c ≡ reply
unfolding reply_of
asked_reply room tree n c reply h = ap reply_from (asked_done room tree n c reply h)

read_row : (tree : Tree) (n : ℕ) (path : List ℕ) (off len birth : ℕ) (f : File) → StandsAt tree path birth (nodes.File f) → row tree n (calls.Read path off len) ≡ Ok (Asked tree (replies.Bytes (bytes_from f off len)))
unfolding row
read_row tree n path off len birth f s =
    ap (λ (r : Result Found Reply). and_then r (λ found. and_then (a_file found.node) (λ f. answers tree (replies.Bytes (bytes_from f off len))))) (walk_from tree path birth (nodes.File f) s)

pub read_reply : (room : Room) (tree : Tree) (n : ℕ) (path : List ℕ) (off len birth : ℕ) (f : File) → StandsAt tree path birth (nodes.File f) → reply_of room tree n (calls.Read path off len) ≡ replies.Bytes (bytes_from f off len)
read_reply room tree n path off len birth f s = asked_reply room tree n (calls.Read path off len) (replies.Bytes (bytes_from f off len)) (read_row tree n path off len birth f s)

pub read_bytes : (room : Room) (tree : Tree) (n : ℕ) (path : List ℕ) (off len : ℕ) (d : Done) → outcome room tree n (calls.Read path off len) ≡ Ok d →
    (birth : ℕ) × (f : File) × (bytes : List ℕ) × StandsAt tree path birth (nodes.File f) × (d.reply ≡ replies.Bytes bytes)
unfolding row
read_bytes room tree n path off len d h =
    let a = then_ok (walk_path tree path) _ d (outcome_row room tree n (calls.Read path off len) d h) in
    let b = then_ok (a_file a.0.node) _ d a.2 in
    (a.0.birth, b.0, bytes_from b.0 off len, file_at tree path a.0 b.0 a.1 (file_ok a.0.node b.0 b.1), sym (ap (λ (d : Done). d.reply) (ok_ok (Asked tree (replies.Bytes (bytes_from b.0 off len))) d b.2)))

bytes_one : (xs ys : List ℕ) → replies.Bytes xs ≡ replies.Bytes ys → xs ≡ ys
bytes_one xs ys e = cc

module _ (room : Room) (tree : Tree) (n : ℕ) (path : List ℕ) (off len birth : ℕ) (f : File) (bytes : List ℕ) (s : StandsAt tree path birth (nodes.File f)) (h : reply_of room tree n (calls.Read path off len) ≡ replies.Bytes bytes) where
  read_is : bytes ≡ bytes_from f off len
  read_is = bytes_one bytes (bytes_from f off len) (sym h ∙ read_reply room tree n path off len birth f s)

  read_length : length bytes ≡ min (off + len) f.size - off
  read_length = ap length read_is ∙ length-map-range_with_len (byte_at f) off (min (off + len) f.size - off)

  pub read_below : (i : ℕ) → (i < length bytes) ↔ ((i < len) × (off + i < f.size))
  read_below i =
      let l = read_length in
      ((λ lt. (omega arith, omega arith)), (λ both. let a = both.0 in let b = both.1 in omega arith))

  pub read_each : (i : ℕ) → i < length bytes → slice_index bytes i ≡ byte_at f (off + i)
  read_each i lt =
      let l = read_length in
      ap (λ bs. slice_index bs i) read_is
      ∙ get_or-map-range_with_len (byte_at f) off (min (off + len) f.size - off) i (off + i) 0 (omega arith) refl

-- bytes by their blocks
block_byte : (f : File) (index j : ℕ) (o : Option (List ℕ)) → j < 1024 → at_number f.blocks index ≡ o → byte_at f (1024 * index + j) ≡ slice_index (block_or_zeros o) j
block_byte f index j o lt e =
    let block : (1024 * index + j) / 1024 ≡ index = omega arith in
    let place : (1024 * index + j) % 1024 ≡ j = omega arith in
    ap (λ i. slice_index (block_or_zeros (at_number f.blocks i)) ((1024 * index + j) % 1024)) block
    ∙ (ap (λ k. slice_index (block_or_zeros (at_number f.blocks index)) k) place ∙ ap (λ o. slice_index (block_or_zeros o) j) e)

pub hole_byte : (f : File) (index j : ℕ) → j < 1024 → at_number f.blocks index ≡ None → byte_at f (1024 * index + j) ≡ 0
hole_byte f index j lt e = block_byte f index j None lt e ∙ zero_at 1024 j

pub mapped_byte : (f : File) (index j : ℕ) (body : List ℕ) → j < 1024 → at_number f.blocks index ≡ Some body → byte_at f (1024 * index + j) ≡ slice_index body j
mapped_byte f index j body lt e = block_byte f index j (Some body) lt e

-- ---- what was written is read back

-- lists of one length with the same elements
same_list : (xs ys : List ℕ) → length xs ≡ length ys → ((i : ℕ) → i < length ys → slice_index xs i ≡ slice_index ys i) → xs ≡ ys
same_list [] [] l h = refl
same_list [] (y ∷ ys) l h = absurd (omega arith)
same_list (x ∷ xs) [] l h = absurd (omega arith)
same_list (x ∷ xs) (y ∷ ys) l h =
    let first : x ≡ y = h 0 (omega arith) in
    ap (λ z. z ∷ xs) first ∙ ap (λ zs. y ∷ zs) (same_list xs ys (omega arith) (λ i lt. h (suc i) (omega arith)))

written_back : (f : File) (off : ℕ) (bytes : List ℕ) → HasWholeBlocks f → bytes_from (written_file f off bytes) off (length bytes) ≡ bytes
written_back f off bytes whole =
    same_list (bytes_from (written_file f off bytes) off (length bytes)) bytes len
    (λ i lt.
    get_or-map-range_with_len (byte_at (written_file f off bytes)) off (min (off + length bytes) (written_file f off bytes).size - off) i (off + i) 0 (let k = count in omega arith) refl
    ∙ (byte_written f off bytes whole (off + i) (omega arith) (omega arith) ∙ ap (slice_index bytes) (let e : off + i - off ≡ i = omega arith in e)))
  where
    count : min (off + length bytes) (written_file f off bytes).size - off ≡ length bytes
    count = let g = (greater f.size (off + length bytes)).second in omega arith

    len : length (bytes_from (written_file f off bytes) off (length bytes)) ≡ length bytes
    len = length-map-range_with_len (byte_at (written_file f off bytes)) off (min (off + length bytes) (written_file f off bytes).size - off) ∙ count

pub write_back : (room : Room) (tree : Tree) (n m : ℕ) (path : List ℕ) (off : ℕ) (bytes : List ℕ) (d : Done) → HasSoundFiles tree →
    outcome room tree n (calls.Bytes path off bytes) ≡ Ok d → reply_of room d.tree m (calls.Read path off (length bytes)) ≡ replies.Bytes bytes
write_back room tree n m path off bytes d sound h =
    let p = write_put room tree n path off bytes d h in
    let s = put_stands tree path (λ f. written_file f off bytes) d p in
    let after : StandsAt d.tree path p.found.birth (nodes.File (written_file p.file off bytes)) = record {
      names = s.names;
      named = s.named;
      leads = record {
        path = put_led tree path (λ f. written_file f off bytes) d p s.names ∙ s.leads.path;
        stands = put_left tree path (λ f. written_file f off bytes) d p;
      };
    } in
    read_reply room d.tree m path off (length bytes) p.found.birth (written_file p.file off bytes) after
    ∙ ap replies.Bytes (written_back p.file off bytes (sound p.found.birth p.file s.leads.stands).whole)

-- ---- cuts

module _ (room : Room) (tree : Tree) (n : ℕ) (path : List ℕ) (size : ℕ) (d : Done) where
  cut_put : outcome room tree n (calls.Truncate path size) ≡ Ok d → IsPut tree path (λ f. cut_file f size) d
  unfolding row
  cut_put h = truncate_change tree path size d (outcome_row room tree n (calls.Truncate path size) d h)

  pub cut_found : outcome room tree n (calls.Truncate path size) ≡ Ok d → (birth : ℕ) × (f : File) × (g : File) × IsFileChange room tree n (calls.Truncate path size) path d birth f g
  cut_found h =
      let p = cut_put h in
      (p.found.birth, p.file, cut_file p.file size, record { done = h; before = put_stands tree path (λ f. cut_file f size) d p; after = put_left tree path (λ f. cut_file f size) d p })

  pub cut_paths : outcome room tree n (calls.Truncate path size) ≡ Ok d → (names : List (List ℕ)) → node_of_path d.tree names ≡ node_of_path tree names
  cut_paths h = put_led tree path (λ f. cut_file f size) d (cut_put h)

  module _ (birth : ℕ) (f g : File) (h : IsFileChange room tree n (calls.Truncate path size) path d birth f g) where
    pub cut_is : g ≡ cut_file f size
    cut_is = put_is tree path (λ f. cut_file f size) d (cut_put h.done) birth f g h.before h.after

    pub cut_rest : (other : ℕ) → other ≢ birth → at_number d.tree other ≡ at_number tree other
    cut_rest = put_rest tree path (λ f. cut_file f size) d (cut_put h.done) birth f g h.before h.after

    pub cut_size : g.size ≡ size
    cut_size = ap (λ (g : File). g.size) cut_is

    pub cut_links : g.links ≡ f.links
    cut_links = ap (λ (g : File). g.links) cut_is

    pub cut_mapped : (index : ℕ) → (is_some (at_number g.blocks index) ≡ true) ↔ ((is_some (at_number f.blocks index) ≡ true) × (1024 * index < size))
    cut_mapped index =
        subst (λ (g : File). (is_some (at_number g.blocks index) ≡ true) ↔ ((is_some (at_number f.blocks index) ≡ true) × (1024 * index < size))) (sym cut_is)
        (to, (λ both. ap is_some (cut_in size f.blocks index (lt-ltb (1024 * index) size both.1)) ∙ (left_some (at_number f.blocks index) ∙ both.0)))
      where
        left_some : (o : Option (List ℕ)) → is_some (left_of size index o) ≡ is_some o
        left_some (Some body) = refl
        left_some None = refl

        to : is_some (at_number (cut_file f size).blocks index) ≡ true → (is_some (at_number f.blocks index) ≡ true) × (1024 * index < size)
        to there =
            ⊎_elim
            (λ low. (sym (left_some (at_number f.blocks index)) ∙ (sym (ap is_some (cut_in size f.blocks index (lt-ltb (1024 * index) size low))) ∙ there), low))
            (λ high. absurd (false≢true (sym (ap is_some (cut_out size f.blocks index (le-ltb (1024 * index) size high))) ∙ there)))
            (cases_lt (1024 * index) size)

    module _ (sound : HasSoundFiles tree) where
      its : IsSoundFile f
      its = sound birth f h.before.leads.stands

      pub cut_stays : (at : ℕ) → at < size → byte_at g at ≡ byte_at f at
      cut_stays at lt = ap (λ (g : File). byte_at g at) cut_is ∙ byte_below f size its.whole at lt

      pub cut_zeros : (at : ℕ) → (f.size ≤ at) ⊎ (size ≤ at) → byte_at g at ≡ 0
      cut_zeros at out =
          ⊎_elim
          (λ lt. ⊎_elim (λ past. cut_stays at lt ∙ its.past at past) (λ ge. absurd (omega arith)) out)
          (λ ge. ap (λ (g : File). byte_at g at) cut_is ∙ byte_past f size its.whole at ge)
          (cases_lt at size)

pub cut_again : (room : Room) (tree : Tree) (n m : ℕ) (path : List ℕ) (small large : ℕ) (d e : Done) (birth : ℕ) (f g h : File) → HasSoundFiles tree →
    IsFileChange room tree n (calls.Truncate path small) path d birth f g → IsFileChange room d.tree m (calls.Truncate path large) path e birth g h →
    (at : ℕ) → small ≤ at → byte_at h at ≡ 0
cut_again room tree n m path small large d e birth f g h sound first second at ge =
    let whole = cut_whole_blocks f small (sound birth f first.before.leads.stands).whole in
    let is : g ≡ cut_file f small = cut_is room tree n path small d birth f g first in
    let whole_g : HasWholeBlocks g = subst HasWholeBlocks (sym is) whole in
    ap (λ (h : File). byte_at h at) (cut_is room d.tree m path large e birth g h second)
    ∙ ⊎_elim
    (λ lt. byte_below g large whole_g at lt ∙ cut_zeros room tree n path small d birth f g first sound at (inr ge))
    (λ past. byte_past g large whole_g at past)
    (cases_lt at large)

-- ---- refusals of writes and cuts

refused_row : (room : Room) (tree : Tree) (n : ℕ) (c : Call) (reply : Reply) → row tree n c ≡ Err reply → outcome room tree n c ≡ Err reply
unfolding outcome
refused_row room tree n c reply h = ap (λ (r : Row). and_then r (if_room room tree)) h

-- a call that changes the bytes of a file
module _ (tree : Tree) (path : List ℕ) (end : ℕ) (change : File → File) where
  abbrev Step : Result Found Reply → Row
  Step r = and_then r (λ found. and_then (a_file found.node) (λ f. refuse_if (nat_lt largest_size end) replies.TooBig (leaves (put_file tree found.birth (change f)))))

  step_directory : (birth : ℕ) (e : Directory) → StandsAt tree path birth (nodes.Directory e) → Step (walk_path tree path) ≡ Err replies.IsDir
  step_directory birth e s = ap Step (walk_from tree path birth (nodes.Directory e) s)

  step_file : (birth : ℕ) (f : File) (big : Bool) → StandsAt tree path birth (nodes.File f) → nat_lt largest_size end ≡ big → Step (walk_path tree path) ≡ refuse_if big replies.TooBig (leaves (put_file tree birth (change f)))
  step_file birth f big s t = ap Step (walk_from tree path birth (nodes.File f) s) ∙ ap (λ b. refuse_if b replies.TooBig (leaves (put_file tree birth (change f)))) t

module _ (room : Room) (tree : Tree) (n : ℕ) (path : List ℕ) where
  module _ (off : ℕ) (bytes : List ℕ) (birth : ℕ) where
    pub write_directory : (e : Directory) → StandsAt tree path birth (nodes.Directory e) → outcome room tree n (calls.Bytes path off bytes) ≡ Err replies.IsDir
    unfolding row
    write_directory e s = refused_row room tree n (calls.Bytes path off bytes) replies.IsDir (step_directory tree path (off + length bytes) (λ f. written_file f off bytes) birth e s)

    pub write_too_big : (f : File) → StandsAt tree path birth (nodes.File f) → 268966912 < off + length bytes → outcome room tree n (calls.Bytes path off bytes) ≡ Err replies.TooBig
    unfolding row
    write_too_big f s lt =
        refused_row room tree n (calls.Bytes path off bytes) replies.TooBig
        (step_file tree path (off + length bytes) (λ f. written_file f off bytes) birth f true s (lt-ltb 268966912 (off + length bytes) lt))

  module _ (size birth : ℕ) where
    pub cut_directory : (e : Directory) → StandsAt tree path birth (nodes.Directory e) → outcome room tree n (calls.Truncate path size) ≡ Err replies.IsDir
    unfolding row
    cut_directory e s = refused_row room tree n (calls.Truncate path size) replies.IsDir (step_directory tree path size (λ f. cut_file f size) birth e s)

    pub cut_too_big : (f : File) → StandsAt tree path birth (nodes.File f) → 268966912 < size → outcome room tree n (calls.Truncate path size) ≡ Err replies.TooBig
    unfolding row
    cut_too_big f s lt =
        refused_row room tree n (calls.Truncate path size) replies.TooBig
        (step_file tree path size (λ f. cut_file f size) birth f true s (lt-ltb 268966912 size lt))

abbrev Left : Tree → Done
Left tree = record { tree = tree; takes_inode = false; reply = replies.Ok }

pub write_goes : (tree : Tree) (n : ℕ) (path : List ℕ) (off : ℕ) (bytes : List ℕ) (birth : ℕ) (f : File) → StandsAt tree path birth (nodes.File f) → off + length bytes ≤ 268966912 → (d : Done) × (row tree n (calls.Bytes path off bytes) ≡ Ok d)
unfolding row
write_goes tree n path off bytes birth f s le =
    (Left (put_file tree birth (written_file f off bytes)), step_file tree path (off + length bytes) (λ f. written_file f off bytes) birth f false s (le-ltb 268966912 (off + length bytes) le))

cut_row : (tree : Tree) (n : ℕ) (path : List ℕ) (size birth : ℕ) (f : File) → StandsAt tree path birth (nodes.File f) → size ≤ 268966912 → row tree n (calls.Truncate path size) ≡ Ok (Left (put_file tree birth (cut_file f size)))
unfolding row
cut_row tree n path size birth f s le = step_file tree path size (λ f. cut_file f size) birth f false s (le-ltb 268966912 size le)

pub cut_goes : (room : Room) (tree : Tree) → IsPlain tree → (n : ℕ) (path : List ℕ) (size birth : ℕ) (f : File) → StandsAt tree path birth (nodes.File f) → size ≤ 268966912 → (d : Done) × (outcome room tree n (calls.Truncate path size) ≡ Ok d)
cut_goes room tree plain n path size birth f s le =
    let d = Left (put_file tree birth (cut_file f size)) in
    let none = needs_none tree plain n (calls.Truncate path size) refl in
    (d, row_done room tree n (calls.Truncate path size) d (cut_row tree n path size birth f s le) (λ t. absurd (false≢true t)) (omega arith))
