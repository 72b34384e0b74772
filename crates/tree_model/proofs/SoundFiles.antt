-- Sound files stay sound, and when a file changed.
use Rattle.std.specs.Prelude.{◌≡◌, ◌<◌, ◌≤◌, ℕ, zero, suc, ◌+◌, ◌-◌, ◌%◌, ◌==◌, ◌↔◌, Bool, true, false, cond, not, ◌||◌, if◌then◌else◌, nat_le, List, [], ◌∷◌, length, map, filter, replicate, Option, Some, None, Ok, Err, is_some, refl}
use Rattle.std.proofs.Common.{sym, ap, subst, ◌∙◌, inr, ⊎_elim, arith}
use Rattle.std.specs.declared.cmp.Ordering.TheVariants.{Less}
use Rattle.std.specs.List.{AllByRecursion, list_any}
use Rattle.std.specs.List.Sorted.{IsStrictlySortedBy}
use Rattle.std.specs.Map.{keys_of}
use Rattle.std.specs.BTreeMap.{is_at}
use Rattle.std.specs.Ordering.{nat_cmp, is_eq}
use Rattle.std.specs.Str.{bytes_eq}
use Rattle.std.proofs.lemmas.Bool.{cases_lt, cases_eq, true≢false, false≢true, eqb-true, eq-eqb, and_parts, and_from, or_cases, or_left, or_right, not-false}
use Rattle.std.proofs.lemmas.Map.Made.{is_some-lookup}
use Rattle.std.proofs.lemmas.Option.{none-some, same_Some}
use Rattle.std.proofs.lemmas.Slice.Eq.{bytes_eq-Decides}
use Rattle.tree_model.specs.declared.call.Call.{Call}
use Rattle.tree_model.specs.declared.call.Room.{Room}
use Rattle.tree_model.specs.declared.node.Node.{Node}
use Rattle.tree_model.specs.declared.node.Node.TheVariants as nodes
use Rattle.tree_model.specs.declared.node.Directory.{Directory}
use Rattle.tree_model.specs.declared.node.File.{File}
use Rattle.tree_model.specs.Maps.{at_number, put_number, without_number}
use Rattle.tree_model.specs.Calls.{Tree, Done, Row, Found, a_file, is_file, take_name, put_file, with_links, lose_link, without_target, new_file, stays, place_after, moved_node, tree_moved, block_or_zeros, patched, touched_blocks, written_blocks, written_file, cut_file, outcome, tree_from, tree_after}
use Rattle.tree_model.specs.CallWords.{IsSoundFile, HasSoundFiles, IsSameFile}
use Rattle.tree_model.specs.Histories.{Entry, tree_at, same_file, changed, changed_after}
use Rattle.tree_model.specs.Plain.{IsPlain}
use Rattle.tree_model.specs.laws.Examples.{new_tree}
use Rattle.tree_model.specs.laws.MapsLaws.{number_here}
use Rattle.tree_model.specs.laws.MapOrder.{InOrder, in_order_put}
use Rattle.tree_model.proofs.Lookups.{number_apart}
use Rattle.tree_model.proofs.Blocks.{kept, cut_entry, cut_blocks, target_stands}
use Rattle.tree_model.proofs.Bytes.{byte_kept, byte_past, written_whole, cut_whole_blocks, zero_at}
use Rattle.tree_model.proofs.Changes.{Change, stayed, made_directory, made_file, removed, unlinked, linked, renamed, written, written_bytes, truncated, IsPut, IsRenamed, outcome_change}
use Rattle.tree_model.proofs.Edits.{each_put, each_without}
use Rattle.tree_model.proofs.FileChanges.{greater}

-- ---- one file

pub new_sound : IsSoundFile (record { size = 0; links = 1; blocks = [] })
unfolding IsStrictlySortedBy
new_sound = record { in_order = tt; whole = λ index body e. absurd (none-some body e); past = λ at le. zero_at 1024 (at % 1024) }

linked_sound : (f : File) (links : ℕ) → IsSoundFile f → IsSoundFile (with_links f links)
linked_sound f links s = record { in_order = s.in_order; whole = s.whole; past = s.past }

blocks_in_order : (off : ℕ) (bytes : List ℕ) (indices : List ℕ) (blocks : List (ℕ × List ℕ)) → InOrder blocks → InOrder (written_blocks off bytes indices blocks)
blocks_in_order off bytes [] blocks h = h
blocks_in_order off bytes (i ∷ is) blocks h =
    blocks_in_order off bytes is (put_number blocks i (patched i off bytes (block_or_zeros (at_number blocks i))))
    (in_order_put blocks i (patched i off bytes (block_or_zeros (at_number blocks i))) h)

written_sound : (f : File) (off : ℕ) (bytes : List ℕ) → IsSoundFile f → IsSoundFile (written_file f off bytes)
written_sound f off bytes s = record {
  in_order = blocks_in_order off bytes (touched_blocks off (length bytes)) f.blocks s.in_order;
  whole = written_whole f off bytes s.whole;
  past = λ at le.
      let g = greater f.size (off + length bytes) in
      let first = g.first in
      let second = g.second in
      byte_kept f off bytes s.whole at (inr (omega arith)) ∙ s.past at (omega arith);
}

all_cut : (P : ℕ → Type 0) (size : ℕ) (es : List (ℕ × List ℕ)) → AllByRecursion P (keys_of es) → AllByRecursion P (keys_of (cut_blocks size es))
all_cut P size [] h = tt
all_cut P size (e ∷ es) h = by (kept size e) (all_cut P size es h.1)
  where
    by : (b : Bool) → AllByRecursion P (keys_of (cut_blocks size es)) → AllByRecursion P (keys_of (map (cut_entry size) (cond b (e ∷ filter (kept size) es) (filter (kept size) es))))
    by true more = (h.0, more)
    by false more = more

cut_in_order : (size : ℕ) (es : List (ℕ × List ℕ)) → InOrder es → InOrder (cut_blocks size es)
unfolding IsStrictlySortedBy
cut_in_order size [] h = tt
cut_in_order size (e ∷ es) h = by (kept size e) (cut_in_order size es h.1)
  where
    by : (b : Bool) → IsStrictlySortedBy nat_cmp (keys_of (cut_blocks size es)) → IsStrictlySortedBy nat_cmp (keys_of (map (cut_entry size) (cond b (e ∷ filter (kept size) es) (filter (kept size) es))))
    by true more = (all_cut (λ y. nat_cmp e.0 y ≡ Less) size es h.0, more)
    by false more = more

cut_sound : (f : File) (size : ℕ) → IsSoundFile f → IsSoundFile (cut_file f size)
cut_sound f size s = record { in_order = cut_in_order size f.blocks s.in_order; whole = cut_whole_blocks f size s.whole; past = byte_past f size s.whole }

-- ---- nodes

abbrev SoundAt : Option Node → Type 0
SoundAt o = (f : File) → o ≡ Some (nodes.File f) → IsSoundFile f

file_sound : (f : File) → IsSoundFile f → SoundAt (Some (nodes.File f))
file_sound f s g e =
    let node : nodes.File f ≡ nodes.File g = same_Some (nodes.File f) (nodes.File g) e in
    let same : f ≡ g = cc in
    subst IsSoundFile same s

no_file_sound : (o : Option Node) → is_file o ≡ false → SoundAt o
no_file_sound o none f e = absurd (true≢false (sym (ap is_file e) ∙ none))

moved_sound : (parent : ℕ) (node : Node) → SoundAt (Some node) → SoundAt (Some (moved_node parent node))
moved_sound parent (nodes.Directory d) s = no_file_sound (Some (moved_node parent (nodes.Directory d))) refl
moved_sound parent (nodes.File f) s = s
moved_sound parent (nodes.Other mode) s = s

abbrev AllSound : Tree → Type 0
AllSound t = (b : ℕ) → SoundAt (at_number t b)

module _ (tree : Tree) (order : InOrder tree) (all : AllSound tree) where
  directory_put : (t : Tree) (p : ℕ) (d : Directory) → AllSound t → AllSound (put_number t p (nodes.Directory d))
  directory_put t p d h = each_put SoundAt t p (nodes.Directory d) (no_file_sound (Some (nodes.Directory d)) refl) h

  its : (b : ℕ) (f : File) → at_number tree b ≡ Some (nodes.File f) → IsSoundFile f
  its b f stands = all b f stands

  file_put : (t : Tree) (b : ℕ) (f : File) → IsSoundFile f → AllSound t → AllSound (put_file t b f)
  file_put t b f s h = each_put SoundAt t b (nodes.File f) (file_sound f s) h

  lost : (t : Tree) (b : ℕ) (f : File) → InOrder t → at_number tree b ≡ Some (nodes.File f) → AllSound t → AllSound (lose_link t b f)
  lost t b f sorted stands h = by (nat_le f.links 1)
    where
      by : (few : Bool) → AllSound (if few then without_number t b else put_file t b (with_links f (f.links - 1)))
      by true = each_without SoundAt t b sorted (no_file_sound None refl) h
      by false = file_put t b (with_links f (f.links - 1)) (linked_sound f (f.links - 1) (its b f stands)) h

  target_by : (t : Tree) (x : Found) (node : Node) → x.node ≡ node → InOrder t → at_number tree x.birth ≡ Some x.node → AllSound t →
      AllSound (elim (a_file node) as (λ _. Tree) [ Err reply ↦ t | Ok f ↦ lose_link t x.birth f ])
  target_by t x (nodes.Directory d) e sorted stands h = h
  target_by t x (nodes.File f) e sorted stands h = lost t x.birth f sorted (stands ∙ ap Some e) h
  target_by t x (nodes.Other mode) e sorted stands h = h

  target_out : (t : Tree) (target : Option Found) → InOrder t → ((x : Found) → target ≡ Some x → at_number tree x.birth ≡ Some x.node) → AllSound t → AllSound (without_target t target)
  target_out t None sorted stands h = h
  target_out t (Some x) sorted stands h = target_by t x x.node refl sorted (stands x refl) h

  renamed_sound : (d : Done) → IsRenamed tree d → AllSound d.tree
  renamed_sound d r = subst AllSound (sym r.tree_is) (by (stays r.move))
    where
      whole : AllSound (tree_moved tree r.move)
      whole =
          let out = directory_put tree r.move.from.parent _ all in
          let left = target_out (take_name tree r.move.from) r.move.target (in_order_put tree r.move.from.parent _ order) (λ x e. target_stands tree r.move.to x (sym r.target_is ∙ e)) out in
          directory_put (put_number (without_target (take_name tree r.move.from) r.move.target) r.move.moved.birth (moved_node r.move.to.parent r.move.moved.node)) (place_after r.move).parent _
          (each_put SoundAt (without_target (take_name tree r.move.from) r.move.target) r.move.moved.birth (moved_node r.move.to.parent r.move.moved.node)
          (moved_sound r.move.to.parent r.move.moved.node (λ f e. all r.move.moved.birth f (r.is_found.stands ∙ e))) left)

      by : (b : Bool) → AllSound (if b then tree else tree_moved tree r.move)
      by true = all
      by false = whole

  put_sound : (path : List ℕ) (change : File → File) (d : Done) → ((f : File) → IsSoundFile f → IsSoundFile (change f)) → IsPut tree path change d → AllSound d.tree
  put_sound path change d keeps h =
      subst AllSound (sym h.tree_is) (file_put tree h.found.birth (change h.file) (keeps h.file (its h.found.birth h.file (h.is_found.stands ∙ ap Some h.node_is))) all)

  change_sound : (n : ℕ) (c : Call) (d : Done) → Change tree n d c → AllSound d.tree
  change_sound n c d (stayed quiet same) = subst AllSound (sym same) all
  change_sound n _ d (made_directory parent h e g) = subst AllSound (sym h.tree_is) (directory_put (put_number tree n _) h.place.parent _ (directory_put tree n _ all))
  change_sound n _ d (made_file h) = subst AllSound (sym h.tree_is) (directory_put (put_number tree n new_file) h.place.parent _ (file_put tree n _ new_sound all))
  change_sound n _ d (removed h) =
      subst AllSound (sym h.tree_is)
      (each_without SoundAt (take_name tree h.place) h.found.birth (in_order_put tree h.place.parent _ order) (no_file_sound None refl) (directory_put tree h.place.parent _ all))
  change_sound n _ d (unlinked h) =
      subst AllSound (sym h.tree_is)
      (lost (take_name tree h.place) h.found.birth h.file (in_order_put tree h.place.parent _ order) (h.is_found.stands ∙ ap Some h.node_is) (directory_put tree h.place.parent _ all))
  change_sound n _ d (linked h) =
      subst AllSound (sym h.tree_is)
      (directory_put (put_file tree h.found.birth (with_links h.file (h.file.links + 1))) h.place.parent _
      (file_put tree h.found.birth (with_links h.file (h.file.links + 1)) (linked_sound h.file (h.file.links + 1) (its h.found.birth h.file (h.is_found.stands ∙ ap Some h.node_is))) all))
  change_sound n _ d (renamed h) = renamed_sound d h
  change_sound n _ d (written {path} {off} {len} {value} h) = put_sound path _ d (λ f s. written_sound f off (replicate len value) s) h
  change_sound n _ d (written_bytes {path} {off} {bytes} h) = put_sound path _ d (λ f s. written_sound f off bytes s) h
  change_sound n _ d (truncated {path} {size} h) = put_sound path _ d (λ f s. cut_sound f size s) h

outcome_sound : (room : Room) (tree : Tree) (n : ℕ) (c : Call) → InOrder tree → AllSound tree → (r : Row) → outcome room tree n c ≡ r → AllSound (tree_from tree r)
outcome_sound room tree n c order all (Err reply) e = all
outcome_sound room tree n c order all (Ok d) e = change_sound tree order all n c d (outcome_change room tree n c d e)

pub call_sound : (room : Room) (tree : Tree) (n : ℕ) (c : Call) → IsPlain tree → HasSoundFiles tree → HasSoundFiles (tree_after room tree n c)
unfolding tree_after
call_sound room tree n c plain sound = outcome_sound room tree n c plain.rooted.in_order sound (outcome room tree n c) refl

pub new_tree_sound : (width : ℕ) → HasSoundFiles (new_tree width)
new_tree_sound width birth f e = by (is_eq (nat_cmp birth 0)) e
  where
    by : (b : Bool) → ◌≡◌ {A = Option Node} (cond b (Some (nodes.Directory (record { parent = 0; width = width; slots = 2; names = [] }))) None) (Some (nodes.File f)) → IsSoundFile f
    by true h = no_file_sound _ refl f h
    by false h = no_file_sound None refl f h

-- ---- files that did not change

abbrev Has : ℕ → List ℕ → Bool
Has k ks = list_any (is_at (nat_cmp k)) ks

less_lt : (a b : ℕ) → nat_cmp a b ≡ Less → a < b
less_lt a b h = grind arith

none_above : (k l : ℕ) → k ≤ l → (ks : List ℕ) → AllByRecursion (λ y. nat_cmp l y ≡ Less) ks → Has k ks ≡ false
none_above k l le [] h = refl
none_above k l le (y ∷ ys) h =
    let lt = less_lt l y h.0 in
    ap (λ b. b || Has k ys) (number_apart k y (λ e. omega arith)) ∙ none_above k l le ys h.1

here : (k : ℕ) (ks : List ℕ) → Has k (k ∷ ks) ≡ true
here k ks = or_left (is_eq (nat_cmp k k)) (Has k ks) (number_here k)

none_before : (k l : ℕ) (ls : List ℕ) → k < l → AllByRecursion (λ y. nat_cmp l y ≡ Less) ls → Has k (l ∷ ls) ≡ false
none_before k l ls lt h = ap (λ b. b || Has k ls) (number_apart k l (λ e. omega arith)) ∙ none_above k l (omega arith) ls h

-- numbers that rise, with the same members
same_numbers : (ks ls : List ℕ) → IsStrictlySortedBy nat_cmp ks → IsStrictlySortedBy nat_cmp ls → ((k : ℕ) → Has k ks ≡ Has k ls) → ks ≡ ls
unfolding IsStrictlySortedBy
same_numbers [] [] s t h = refl
same_numbers [] (l ∷ ls) s t h = absurd (false≢true (h l ∙ here l ls))
same_numbers (k ∷ ks) [] s t h = absurd (true≢false (sym (here k ks) ∙ h k))
same_numbers (k ∷ ks) (l ∷ ls) s t h =
    let first : k ≡ l =
    ⊎_elim
    (λ lt. absurd (true≢false (sym (here k ks) ∙ (h k ∙ none_before k l ls lt t.0))))
    (λ ge.
    ⊎_elim
    (λ lt. absurd (false≢true (sym (none_before l k ks lt s.0) ∙ (h l ∙ here l ls))))
    (λ le. omega arith)
    (cases_lt l k))
    (cases_lt k l)
    in
    let rest : (j : ℕ) → Has j ks ≡ Has j ls =
    λ j.
    ⊎_elim
    (λ e. none_above j k (omega arith) ks s.0 ∙ sym (none_above j l (omega arith) ls t.0))
    (λ apart.
    let a : (is_eq (nat_cmp j k) || Has j ks) ≡ Has j ks = ap (λ b. b || Has j ks) (number_apart j k apart) in
    let b : (is_eq (nat_cmp j l) || Has j ls) ≡ Has j ls = ap (λ b. b || Has j ls) (number_apart j l (λ e. apart (e ∙ sym first))) in
    sym a ∙ (h j ∙ b))
    (cases_eq j k)
    in
    ap (λ z. z ∷ ks) first ∙ ap (λ zs. l ∷ zs) (same_numbers ks ls s.1 t.1 rest)

same_files_are : (f h : File) → same_file (Some (nodes.File f)) (Some (nodes.File h)) ≡ true → IsSameFile (Some (nodes.File f)) (Some (nodes.File h))
same_files_are f h t =
    let parts = and_parts (f.size == h.size) (bytes_eq (keys_of f.blocks) (keys_of h.blocks)) t in
    let keys : keys_of f.blocks ≡ keys_of h.blocks = (bytes_eq-Decides (keys_of f.blocks) (keys_of h.blocks)).0 parts.1 in
    record {
      kept = λ x e.
          let node : nodes.File f ≡ nodes.File x = same_Some (nodes.File f) (nodes.File x) e in
          let same : f ≡ x = cc in (
            h,
            refl,
            sym (eqb-true f.size h.size parts.0) ∙ ap (λ (f : File). f.size) same,
            λ index. is_some-lookup (is_at (nat_cmp index)) h.blocks ∙ (ap (list_any (is_at (nat_cmp index))) (sym keys)
                ∙ (sym (is_some-lookup (is_at (nat_cmp index)) f.blocks) ∙ ap (λ (f : File). is_some (at_number f.blocks index)) same)),
          );
      old = λ g e. (f, refl);
    }

no_files : (o p : Option Node) → is_file o ≡ false → is_file p ≡ false → IsSameFile o p
no_files o p a b = record { kept = λ f e. absurd (true≢false (sym (ap is_file e) ∙ a)); old = λ g e. absurd (true≢false (sym (ap is_file e) ∙ b)) }

same_file_is : (o p : Option Node) → same_file o p ≡ true → IsSameFile o p
same_file_is (Some (nodes.File f)) (Some (nodes.File h)) t = same_files_are f h t
same_file_is (Some (nodes.File f)) (Some (nodes.Directory d)) t = absurd (false≢true t)
same_file_is (Some (nodes.File f)) (Some (nodes.Other mode)) t = absurd (false≢true t)
same_file_is (Some (nodes.File f)) None t = absurd (false≢true t)
same_file_is (Some (nodes.Directory d)) (Some (nodes.File h)) t = absurd (false≢true t)
same_file_is (Some (nodes.Directory d)) (Some (nodes.Directory e)) t = no_files _ _ refl refl
same_file_is (Some (nodes.Directory d)) (Some (nodes.Other mode)) t = no_files _ _ refl refl
same_file_is (Some (nodes.Directory d)) None t = no_files _ _ refl refl
same_file_is (Some (nodes.Other mode)) (Some (nodes.File h)) t = absurd (false≢true t)
same_file_is (Some (nodes.Other mode)) (Some (nodes.Directory e)) t = no_files _ _ refl refl
same_file_is (Some (nodes.Other mode)) (Some (nodes.Other other)) t = no_files _ _ refl refl
same_file_is (Some (nodes.Other mode)) None t = no_files _ _ refl refl
same_file_is None (Some (nodes.File h)) t = absurd (false≢true t)
same_file_is None (Some (nodes.Directory e)) t = no_files _ _ refl refl
same_file_is None (Some (nodes.Other other)) t = no_files _ _ refl refl
same_file_is None None t = no_files _ _ refl refl

files_from : (f h : File) → IsSoundFile f → IsSoundFile h → IsSameFile (Some (nodes.File f)) (Some (nodes.File h)) → same_file (Some (nodes.File f)) (Some (nodes.File h)) ≡ true
files_from f h s t same =
    let k = same.kept f refl in
    let node : nodes.File h ≡ nodes.File k.0 = same_Some (nodes.File h) (nodes.File k.0) k.1 in
    let is : h ≡ k.0 = cc in
    let size : h.size ≡ f.size = ap (λ (h : File). h.size) is ∙ k.2 in
    let keys : keys_of f.blocks ≡ keys_of h.blocks =
    same_numbers (keys_of f.blocks) (keys_of h.blocks) s.in_order t.in_order
    (λ index. sym (is_some-lookup (is_at (nat_cmp index)) f.blocks) ∙ (sym (k.3 index) ∙ (ap (λ (h : File). is_some (at_number h.blocks index)) (sym is) ∙ is_some-lookup (is_at (nat_cmp index)) h.blocks)))
    in
    and_from (f.size == h.size) (bytes_eq (keys_of f.blocks) (keys_of h.blocks)) (eq-eqb f.size h.size (sym size)) ((bytes_eq-Decides (keys_of f.blocks) (keys_of h.blocks)).1 keys)

no_file_some : (o : Option Node) (h : File) → is_file o ≡ false → ((g : File) → Some (nodes.File h) ≡ Some (nodes.File g) → (f : File) × (o ≡ Some (nodes.File f))) → ⊥
no_file_some o h none old = let x = old h refl in true≢false (sym (ap is_file x.1) ∙ none)

file_none : (f : File) (p : Option Node) → is_file p ≡ false → IsSameFile (Some (nodes.File f)) p → ⊥
file_none f p none same = let k = same.kept f refl in true≢false (sym (ap is_file k.1) ∙ none)

same_file_from : (o p : Option Node) → SoundAt o → SoundAt p → IsSameFile o p → same_file o p ≡ true
same_file_from (Some (nodes.File f)) (Some (nodes.File h)) s t same = files_from f h (s f refl) (t h refl) same
same_file_from (Some (nodes.File f)) (Some (nodes.Directory d)) s t same = absurd (file_none f _ refl same)
same_file_from (Some (nodes.File f)) (Some (nodes.Other mode)) s t same = absurd (file_none f _ refl same)
same_file_from (Some (nodes.File f)) None s t same = absurd (file_none f _ refl same)
same_file_from (Some (nodes.Directory d)) (Some (nodes.File h)) s t same = absurd (no_file_some _ h refl same.old)
same_file_from (Some (nodes.Directory d)) (Some (nodes.Directory e)) s t same = refl
same_file_from (Some (nodes.Directory d)) (Some (nodes.Other mode)) s t same = refl
same_file_from (Some (nodes.Directory d)) None s t same = refl
same_file_from (Some (nodes.Other mode)) (Some (nodes.File h)) s t same = absurd (no_file_some _ h refl same.old)
same_file_from (Some (nodes.Other mode)) (Some (nodes.Directory e)) s t same = refl
same_file_from (Some (nodes.Other mode)) (Some (nodes.Other other)) s t same = refl
same_file_from (Some (nodes.Other mode)) None s t same = refl
same_file_from None (Some (nodes.File h)) s t same = absurd (no_file_some _ h refl same.old)
same_file_from None (Some (nodes.Directory e)) s t same = refl
same_file_from None (Some (nodes.Other other)) s t same = refl
same_file_from None None s t same = refl

module _ (room : Room) (opened : Tree) (first : ℕ) (entries : List Entry) where
  pub unchanged_is : (n birth : ℕ) → changed room opened first entries n birth ≡ false →
      IsSameFile (at_number (tree_at room opened first entries (n - 1)) birth) (at_number (tree_at room opened first entries n) birth)
  unchanged_is n birth h = same_file_is (at_number (tree_at room opened first entries (n - 1)) birth) (at_number (tree_at room opened first entries n) birth) (not-false _ h)

  pub same_unchanged : (n birth : ℕ) → HasSoundFiles (tree_at room opened first entries (n - 1)) → HasSoundFiles (tree_at room opened first entries n) →
      IsSameFile (at_number (tree_at room opened first entries (n - 1)) birth) (at_number (tree_at room opened first entries n) birth) → changed room opened first entries n birth ≡ false
  same_unchanged n birth s t same = ap not (same_file_from (at_number (tree_at room opened first entries (n - 1)) birth) (at_number (tree_at room opened first entries n) birth) (s birth) (t birth) same)

  abbrev IsOneOf : ℕ → ℕ → ℕ → Type 0
  IsOneOf n d birth = (m : ℕ) × (n < m) × (m ≤ n + d) × (changed room opened first entries m birth ≡ true)

  one_found : (n d birth : ℕ) → changed_after room opened first entries n d birth ≡ true → IsOneOf n d birth
  one_found n zero birth t = absurd (false≢true t)
  one_found n (suc d) birth t =
      ⊎_elim
      (λ last. (n + suc d, omega arith, omega arith, last))
      (λ before. let x = one_found n d birth before in let low = x.1 in let high = x.2 in (x.0, low, omega arith, x.3))
      (or_cases (changed room opened first entries (n + suc d) birth) (changed_after room opened first entries n d birth) t)

  found_one : (n d birth m : ℕ) → n < m → m ≤ n + d → changed room opened first entries m birth ≡ true → changed_after room opened first entries n d birth ≡ true
  found_one n zero birth m low high t = absurd (omega arith)
  found_one n (suc d) birth m low high t =
      ⊎_elim
      (λ lt. or_right (changed room opened first entries (n + suc d) birth) (changed_after room opened first entries n d birth) (found_one n d birth m low (omega arith) t))
      (λ ge.
      let e : m ≡ n + suc d = omega arith in
      or_left (changed room opened first entries (n + suc d) birth) (changed_after room opened first entries n d birth) (subst (λ j. changed room opened first entries j birth ≡ true) e t))
      (cases_lt m (n + suc d))

  pub changed_one_of : (n d birth : ℕ) → (changed_after room opened first entries n d birth ≡ true) ↔ IsOneOf n d birth
  changed_one_of n d birth = (one_found n d birth, (λ x. found_one n d birth x.0 x.1 x.2 x.3))
