-- What calls do, from their definitions.
use Rattle.std.specs.Prelude.{◌≡◌, ◌≢◌, ◌⊎◌, ◌<◌, ◌≤◌, ℕ, zero, suc, ◌+◌, ◌-◌, ◌*◌, ◌/◌, ◌%◌, ◌==◌, nat_eq, nat_lt, nat_le, Bool, true, false, not, ◌&&◌, ◌||◌, if◌then◌else◌, List, [], ◌∷◌, ◌++◌, length, is_some, is_none, Option, Some, None, Result, Ok, Err, refl}
use Rattle.std.specs.List.{list_any, range_with_len, find}
use Rattle.std.specs.Map.{remove_entry}
use Rattle.std.specs.BTreeMap.{is_at}
use Rattle.std.proofs.Common.{sym, ap, ◌∙◌, subst, inl, inr, arith}
use Rattle.std.proofs.lemmas.Bool.{cases_Bool, cases_eq, true≢false, and_parts, and_from, and_left, and_right, or_left, or_right, eqb-true, eq-eqb, ne_eqb, lt-ltb, le-ltb, leb-true, leb-false, le-leb}
use Rattle.std.proofs.lemmas.Option.{same_Some, none-some}
use Rattle.blk_base.specs.Members.{In}
use Rattle.blk_base.specs.laws.Members.{In-list_any, none-list_any}
use Rattle.minix_layout.specs.Widths.{most_slots}
use Rattle.minix_layout.specs.declared.division.Geometry.{Geometry}
use Rattle.tree_model.specs.declared.call.Call.{Call}
use Rattle.tree_model.specs.declared.call.Call.TheVariants as calls
use Rattle.tree_model.specs.declared.call.Reply.{Reply}
use Rattle.tree_model.specs.declared.call.Reply.TheVariants as replies
use Rattle.tree_model.specs.declared.call.Room.{Room}
use Rattle.tree_model.specs.declared.node.Directory.{Directory}
use Rattle.tree_model.specs.declared.node.File.{File}
use Rattle.tree_model.specs.declared.node.Node.{Node}
use Rattle.tree_model.specs.declared.node.Node.TheVariants as nodes
use Rattle.tree_model.specs.Maps.{at_number, at_name, put_number, name_cmp}
use Rattle.tree_model.specs.Trees.{is_directory, directory_links}
use Rattle.tree_model.specs.Calls.{Tree, Row, refused_walk, Found, Place, Move, refuse_if, and_then, if_some, leaves, makes, is_root, found_at, names_in, walk, a_directory, a_file, all_but_last, last_name, parent_of, above, is_named, is_full, needs_slot, most_links, new_directory, new_file, give_name, put_file, with_links, without_name, target_at, moves_directory, meets_directory, meets_file, changes_parent, place_after, rename_to, row, used_zones, if_room, outcome}
use Rattle.tree_model.specs.Causes.{LeadsTo}
use Rattle.tree_model.specs.CallWords.{StandsAt}
use Rattle.tree_model.proofs.Entries.{length-without}
use Rattle.minix_tables.specs.zones.Zones.{Zones, taken}
use Rattle.volume_model.specs.declared.placed.Placed.{Placed}
use Rattle.volume_model.specs.Volume.{Place as ZonePlace, indirect, double, inner}
use Rattle.volume_steps.specs.Cuts.{keeps_file, keeps_size, cuts_nothing}
use Rattle.volume_steps.specs.Zones.{is_unused, new_number, next_zone, lacks_outer, lacks_second, take_if, zone_if, take_zones}
use Rattle.image_tests.specs.Calling.{GoesTo, HasAllSlots}

-- ---- where paths lead

walked : (tree : Tree) (names : List (List ℕ)) (birth : ℕ) (node : Node) → LeadsTo tree names birth node → walk tree names ≡ Ok (record { birth = birth; node = node })
walked tree names birth node leads =
    ap (λ r. and_then (elim r as (λ _. Result ℕ Reply) [ Err refusal ↦ Err (refused_walk refusal) | Ok b ↦ Ok b ]) (λ b. found_at b (at_number tree b))) leads.path
    ∙ ap (found_at birth) leads.stands

all_but : (first : List ℕ) (rest : List (List ℕ)) (name : List ℕ) → all_but_last first (rest ++ name ∷ []) ≡ first ∷ rest
all_but first [] name = refl
all_but first (next ∷ rest) name = ap (λ (l : List (List ℕ)). first ∷ l) (all_but next rest name)

last : (first : List ℕ) (rest : List (List ℕ)) (name : List ℕ) → last_name first (rest ++ name ∷ []) ≡ name
last first [] name = refl
last first (next ∷ rest) name = last next rest name

-- the test of the last name, behind the walk to its directory
placed : List ℕ → Result Found Reply → Result Place Reply
placed name walk =
    and_then walk (λ found.
    and_then (a_directory found.node) (λ d.
    refuse_if (nat_lt d.width (length name)) replies.NameTooLong
    (Ok (record { parent = found.birth; directory = d; name = name }))))

parent_by : (root : Reply) (tree : Tree) (front : List (List ℕ)) (name : List ℕ) → parent_of root tree (front ++ name ∷ []) ≡ placed name (walk tree front)
unfolding placed
parent_by root tree [] name = refl
parent_by root tree (first ∷ rest) name =
    ap (λ l. placed (last_name first (rest ++ name ∷ [])) (walk tree l)) (all_but first rest name) ∙ ap (λ n. placed n (walk tree (first ∷ rest))) (last first rest name)

-- the place to which a path goes
place_of : (tree : Tree) (path : List ℕ) (d : Directory) (name : List ℕ) → GoesTo tree path d name → Place
place_of tree path d name t = record { parent = t.within.birth; directory = d; name = name }

parent_is : (root : Reply) (tree : Tree) (path : List ℕ) (d : Directory) (name : List ℕ) (t : GoesTo tree path d name) → parent_of root tree t.names ≡ Ok (place_of tree path d name t)
unfolding placed place_of
parent_is root tree path d name t =
    ap (parent_of root tree) (sym t.within.names_are)
    ∙ (parent_by root tree t.within.front name
    ∙ (ap (placed name) (walked tree t.within.front t.within.birth (nodes.Directory d) t.within.leads)
    ∙ rw (le-ltb d.width (length name) t.short) refl))

is_full_then : (d : Directory) → HasAllSlots d → is_full d ≡ true
is_full_then d all =
    and_from (needs_slot d) (nat_le (most_slots d.width) d.slots)
    (ap not (le-ltb (length d.names + 2) d.slots all.none_free)) (le-leb (most_slots d.width) d.slots all.most)

too_big : (full : Bool) (x : Row) → full ≡ true → refuse_if full replies.TooBig x ≡ Err replies.TooBig
too_big full x e = ap (λ b. refuse_if b replies.TooBig x) e

-- ---- new names

told : (room : Room) (tree : Tree) (n : ℕ) (c : Call) (r : Reply) → row tree n c ≡ Err r → outcome room tree n c ≡ Err r
unfolding outcome
told room tree n c r e = ap (λ (x : Row). and_then x (if_room room tree)) e

makes_directory : Tree → ℕ → Place → Row
makes_directory tree n place =
    refuse_if (is_named place) replies.Exists
    (refuse_if (directory_links tree place.directory == most_links) replies.TooManyLinks
    (refuse_if (is_full place.directory) replies.TooBig
    (makes (give_name (put_number tree n (new_directory place.directory.width place.parent)) place n))))

mkdir_is : (tree : Tree) (n : ℕ) (path : List ℕ) (d : Directory) (name : List ℕ) (t : GoesTo tree path d name) → row tree n (calls.Mkdir path) ≡ makes_directory tree n (place_of tree path d name t)
unfolding row makes_directory
mkdir_is tree n path d name t =
    ap (λ o. and_then (if_some o replies.BadPath) (λ names. and_then (parent_of replies.Exists tree names) (makes_directory tree n))) t.named
    ∙ ap (λ r. and_then r (makes_directory tree n)) (parent_is replies.Exists tree path d name t)

pub mkdir_exists : (room : Room) (tree : Tree) (n : ℕ) (path : List ℕ) (d : Directory) (name : List ℕ) (birth : ℕ) → GoesTo tree path d name → at_name d.names name ≡ Some birth → outcome room tree n (calls.Mkdir path) ≡ Err replies.Exists
unfolding makes_directory place_of
mkdir_exists room tree n path d name birth t there = told room tree n (calls.Mkdir path) replies.Exists (mkdir_is tree n path d name t ∙ rw there refl)

pub mkdir_links : (room : Room) (tree : Tree) (n : ℕ) (path : List ℕ) (d : Directory) (name : List ℕ) → GoesTo tree path d name → at_name d.names name ≡ None → directory_links tree d ≡ 250 → outcome room tree n (calls.Mkdir path) ≡ Err replies.TooManyLinks
unfolding makes_directory place_of
mkdir_links room tree n path d name t new all = told room tree n (calls.Mkdir path) replies.TooManyLinks (mkdir_is tree n path d name t ∙ rw new (rw (eq-eqb (directory_links tree d) 250 all) refl))

pub mkdir_slots : (room : Room) (tree : Tree) (n : ℕ) (path : List ℕ) (d : Directory) (name : List ℕ) → GoesTo tree path d name → at_name d.names name ≡ None → directory_links tree d ≢ 250 → HasAllSlots d → outcome room tree n (calls.Mkdir path) ≡ Err replies.TooBig
unfolding makes_directory place_of
mkdir_slots room tree n path d name t new few all = told room tree n (calls.Mkdir path) replies.TooBig (mkdir_is tree n path d name t ∙ rw new (rw (ne_eqb (directory_links tree d) 250 few) (too_big _ _ (is_full_then d all))))

makes_file : Tree → ℕ → Place → Row
makes_file tree n place =
    refuse_if (is_named place) replies.Exists
    (refuse_if (is_full place.directory) replies.TooBig
    (makes (give_name (put_number tree n new_file) place n)))

create_is : (tree : Tree) (n : ℕ) (path : List ℕ) (d : Directory) (name : List ℕ) (t : GoesTo tree path d name) → row tree n (calls.Create path) ≡ makes_file tree n (place_of tree path d name t)
unfolding row makes_file
create_is tree n path d name t =
    ap (λ o. and_then (if_some o replies.BadPath) (λ names. and_then (parent_of replies.Exists tree names) (makes_file tree n))) t.named
    ∙ ap (λ r. and_then r (makes_file tree n)) (parent_is replies.Exists tree path d name t)

pub create_exists : (room : Room) (tree : Tree) (n : ℕ) (path : List ℕ) (d : Directory) (name : List ℕ) (birth : ℕ) → GoesTo tree path d name → at_name d.names name ≡ Some birth → outcome room tree n (calls.Create path) ≡ Err replies.Exists
unfolding makes_file place_of
create_exists room tree n path d name birth t there = told room tree n (calls.Create path) replies.Exists (create_is tree n path d name t ∙ rw there refl)

pub create_slots : (room : Room) (tree : Tree) (n : ℕ) (path : List ℕ) (d : Directory) (name : List ℕ) → GoesTo tree path d name → at_name d.names name ≡ None → HasAllSlots d → outcome room tree n (calls.Create path) ≡ Err replies.TooBig
unfolding makes_file place_of
create_slots room tree n path d name t new all = told room tree n (calls.Create path) replies.TooBig (create_is tree n path d name t ∙ rw new (too_big _ _ (is_full_then d all)))

links_file : Tree → ℕ → File → Place → Row
links_file tree birth f place =
    refuse_if (is_named place) replies.Exists
    (refuse_if (f.links == most_links) replies.TooManyLinks
    (refuse_if (is_full place.directory) replies.TooBig
    (leaves (give_name (put_file tree birth (with_links f (f.links + 1))) place birth))))

link_is : (tree : Tree) (n : ℕ) (path other : List ℕ) (from : ℕ) (f : File) (d : Directory) (name : List ℕ) → StandsAt tree path from (nodes.File f) → (t : GoesTo tree other d name)
    → row tree n (calls.Link path other) ≡ links_file tree from f (place_of tree other d name t)
unfolding row links_file
link_is tree n path other from f d name s t =
    ap (λ o. and_then (if_some o replies.BadPath) (λ names. and_then (names_in other) (λ more. and_then (walk tree names) (λ found. and_then (a_file found.node) (λ g. and_then (parent_of replies.Exists tree more) (links_file tree found.birth g)))))) s.named
    ∙ (ap (λ o. and_then (if_some o replies.BadPath) (λ more. and_then (walk tree s.names) (λ found. and_then (a_file found.node) (λ g. and_then (parent_of replies.Exists tree more) (links_file tree found.birth g))))) t.named
    ∙ (ap (λ r. and_then r (λ found. and_then (a_file found.node) (λ g. and_then (parent_of replies.Exists tree t.names) (links_file tree found.birth g)))) (walked tree s.names from (nodes.File f) s.leads)
    ∙ ap (λ r. and_then r (links_file tree from f)) (parent_is replies.Exists tree other d name t)))

pub link_exists : (room : Room) (tree : Tree) (n : ℕ) (path other : List ℕ) (from : ℕ) (f : File) (d : Directory) (name : List ℕ) (birth : ℕ) → StandsAt tree path from (nodes.File f) → GoesTo tree other d name
    → at_name d.names name ≡ Some birth → outcome room tree n (calls.Link path other) ≡ Err replies.Exists
unfolding links_file place_of
link_exists room tree n path other from f d name birth s t there = told room tree n (calls.Link path other) replies.Exists (link_is tree n path other from f d name s t ∙ rw there refl)

pub link_links : (room : Room) (tree : Tree) (n : ℕ) (path other : List ℕ) (from : ℕ) (f : File) (d : Directory) (name : List ℕ) → StandsAt tree path from (nodes.File f) → GoesTo tree other d name
    → at_name d.names name ≡ None → f.links ≡ 250 → outcome room tree n (calls.Link path other) ≡ Err replies.TooManyLinks
unfolding links_file place_of
link_links room tree n path other from f d name s t new all = told room tree n (calls.Link path other) replies.TooManyLinks (link_is tree n path other from f d name s t ∙ rw new (rw (eq-eqb f.links 250 all) refl))

pub link_slots : (room : Room) (tree : Tree) (n : ℕ) (path other : List ℕ) (from : ℕ) (f : File) (d : Directory) (name : List ℕ) → StandsAt tree path from (nodes.File f) → GoesTo tree other d name
    → at_name d.names name ≡ None → f.links ≢ 250 → HasAllSlots d → outcome room tree n (calls.Link path other) ≡ Err replies.TooBig
unfolding links_file place_of
link_slots room tree n path other from f d name s t new few all = told room tree n (calls.Link path other) replies.TooBig (link_is tree n path other from f d name s t ∙ rw new (rw (ne_eqb f.links 250 few) (too_big _ _ (is_full_then d all))))

-- ---- a name that moves within its directory

abbrev NotForRoom : Row → Type 0
NotForRoom (Ok d) = Unit {0}
NotForRoom (Err reply) = (reply ≢ replies.TooManyLinks) × (reply ≢ replies.TooBig)

tested : (test : Bool) (reply : Reply) (x : Row) → NotForRoom (Err reply) → NotForRoom x → NotForRoom (refuse_if test reply x)
tested true reply x a b = a
tested false reply x a b = b

passed : (test : Bool) (reply : Reply) (x : Row) → test ≡ false → NotForRoom x → NotForRoom (refuse_if test reply x)
passed test reply x off b = subst (λ t. NotForRoom (refuse_if t reply x)) (sym off) b

met : (k : Bool) → NotForRoom (Err (if k then replies.Exists else replies.IsDir))
met true = (λ e. cc, λ e. cc)
met false = (λ e. cc, λ e. cc)

with_room : (room : Room) (tree : Tree) (x : Row) → NotForRoom x → NotForRoom (and_then x (if_room room tree))
with_room room tree (Err reply) h = h
with_room room tree (Ok d) h =
    tested (d.takes_inode && nat_le room.inodes (length tree)) replies.NoInode _ (λ e. cc, λ e. cc)
    (tested (nat_lt (room.capacity - used_zones tree) (used_zones d.tree - used_zones tree)) replies.NoSpace (Ok d) (λ e. cc, λ e. cc) tt)

not_root : (front : List (List ℕ)) (name : List ℕ) (names : List (List ℕ)) → front ++ name ∷ [] ≡ names → is_root names ≡ false
not_root [] name names e = ap is_root (sym e)
not_root (first ∷ rest) name names e = ap is_root (sym e)

stays_in : (tree : Tree) (m : Move) → m.to.parent ≡ m.from.parent → m.to.directory ≡ m.from.directory → (birth : ℕ) → at_name m.from.directory.names m.from.name ≡ Some birth →
    length m.from.directory.names + 2 ≤ m.from.directory.slots → NotForRoom (rename_to tree m)
stays_in tree m parent directory birth there slots =
    let same : changes_parent m ≡ false = ap not (eq-eqb m.to.parent m.from.parent parent) in
    let fewer = length-without (is_at (name_cmp m.from.name)) m.from.directory.names birth there in
    let left : (place_after m).directory ≡ without_name m.from.directory m.from.name = rw same (ap (λ (d : Directory). without_name d m.from.name) directory) in
    let free : needs_slot (without_name m.from.directory m.from.name) ≡ false = ap not (lt-ltb (length (remove_entry (is_at (name_cmp m.from.name)) m.from.directory.names) + 2) m.from.directory.slots (omega (arith, fewer, slots))) in
    let not_full : is_full (place_after m).directory ≡ false = ap is_full left ∙ and_left (needs_slot (without_name m.from.directory m.from.name)) _ free in
    tested (meets_directory m) (if moves_directory m then replies.Exists else replies.IsDir) _ (met (moves_directory m))
    (tested (meets_file m && moves_directory m) replies.NotDir _ (λ e. cc, λ e. cc)
    (passed (moves_directory m && (changes_parent m && (directory_links tree m.to.directory == most_links))) replies.TooManyLinks _
    (and_right (moves_directory m) _ (and_left (changes_parent m) (directory_links tree m.to.directory == most_links) same))
    (passed (is_none m.target && is_full (place_after m).directory) replies.TooBig _ (and_right (is_none m.target) _ not_full) tt)))

moves_to : Tree → List (List ℕ) → Found → Place → Place → Row
moves_to tree more found from to =
    refuse_if (is_directory (Some found.node) && list_any (λ birth. birth == found.birth) (above tree 0 more)) replies.Invalid
    (rename_to tree (record { moved = found; from = from; to = to; target = target_at tree to }))

rename_is : (tree : Tree) (n : ℕ) (path other : List ℕ) (d : Directory) (name more : List ℕ) (birth : ℕ) (node : Node) (from : GoesTo tree path d name) (to : GoesTo tree other d more)
    → LeadsTo tree from.names birth node → row tree n (calls.Rename path other) ≡ moves_to tree to.names (record { birth = birth; node = node }) (place_of tree path d name from) (place_of tree other d more to)
unfolding row moves_to
rename_is tree n path other d name more birth node from to leads =
    let behind : List (List ℕ) → List (List ℕ) → Row = λ names others.
    and_then (walk tree names) (λ found. and_then (parent_of replies.Invalid tree names) (λ a. and_then (parent_of replies.Invalid tree others) (λ b. moves_to tree others found a b))) in
    ap (λ o. and_then (if_some o replies.BadPath) (λ names. and_then (names_in other) (λ others. refuse_if (is_root names || is_root others) replies.Invalid (behind names others)))) from.named
    ∙ (ap (λ o. and_then (if_some o replies.BadPath) (λ others. refuse_if (is_root from.names || is_root others) replies.Invalid (behind from.names others))) to.named
    ∙ (ap (λ t. refuse_if (t || is_root to.names) replies.Invalid (behind from.names to.names)) (not_root from.within.front name from.names from.within.names_are)
    ∙ (ap (λ t. refuse_if t replies.Invalid (behind from.names to.names)) (not_root to.within.front more to.names to.within.names_are)
    ∙ (ap (λ r. and_then r (λ found. and_then (parent_of replies.Invalid tree from.names) (λ a. and_then (parent_of replies.Invalid tree to.names) (λ b. moves_to tree to.names found a b)))) (walked tree from.names birth node leads)
    ∙ (ap (λ r. and_then r (λ a. and_then (parent_of replies.Invalid tree to.names) (λ b. moves_to tree to.names (record { birth = birth; node = node }) a b))) (parent_is replies.Invalid tree path d name from)
    ∙ ap (λ r. and_then r (λ b. moves_to tree to.names (record { birth = birth; node = node }) (place_of tree path d name from) b)) (parent_is replies.Invalid tree other d more to))))))

pub needs_no_room : (room : Room) (tree : Tree) (n : ℕ) (path other : List ℕ) (d : Directory) (name more : List ℕ) (birth : ℕ) (node : Node)
    (from : GoesTo tree path d name) (to : GoesTo tree other d more) → from.within.birth ≡ to.within.birth → LeadsTo tree from.names birth node
    → at_name d.names name ≡ Some birth → length d.names + 2 ≤ d.slots
    → (reply : Reply) → outcome room tree n (calls.Rename path other) ≡ Err reply → (reply ≢ replies.TooManyLinks) × (reply ≢ replies.TooBig)
unfolding outcome moves_to place_of
needs_no_room room tree n path other d name more birth node from to one leads there slots reply e =
    let found : Found = record { birth = birth; node = node } in
    let to_place = place_of tree other d more to in
    let m : Move = record { moved = found; from = place_of tree path d name from; to = to_place; target = target_at tree to_place } in
    let moved : NotForRoom (moves_to tree to.names found (place_of tree path d name from) to_place) =
    tested (is_directory (Some node) && list_any (λ b. b == birth) (above tree 0 to.names)) replies.Invalid (rename_to tree m) (λ e. cc, λ e. cc)
    (stays_in tree m (sym one) refl birth there slots) in
    let whole = with_room room tree (row tree n (calls.Rename path other)) (subst NotForRoom (sym (rename_is tree n path other d name more birth node from to leads)) moved) in
    subst NotForRoom e whole

-- ---- inodes

first_found : (p : ℕ → Bool) (a n k : ℕ) → find p (range_with_len a n) ≡ Some k → (i : ℕ) → a ≤ i → i < k → p i ≡ false
first_found p a zero k h i low high = absurd (none-some k h)
first_found p a (suc n) k h i low high = elim (cases_Bool (p a)) [
  | inl t ↦ (let same : a ≡ k = same_Some a k (rw t at h) in absurd (omega arith))
  | inr f ↦ elim (cases_eq i a) [ inl e ↦ subst (λ i. p i ≡ false) (sym e) f | inr other ↦ first_found p (a + 1) n k (rw f at h) i (omega arith) (omega arith) ]
]

pub lower_is_used : (g : Geometry) (placed : List (ℕ × Placed)) (lower : ℕ) → 0 < lower → lower < new_number g placed → (e : ℕ × Placed) × In e placed × (e.1.number ≡ lower)
lower_is_used g placed lower some less = by (find (is_unused placed) (range_with_len 1 g.inodes)) refl less
  where
    used : (b : Bool) → not b ≡ false → b ≡ true
    used true q = refl
    used false q = absurd (true≢false q)

    by : (o : Option ℕ) → find (is_unused placed) (range_with_len 1 g.inodes) ≡ o → lower < elim o as (λ _. ℕ) [ None ↦ 0 | Some number ↦ number ] → (e : ℕ × Placed) × In e placed × (e.1.number ≡ lower)
    by None h low = absurd (omega arith)
    by (Some number) h low =
        let test : ℕ × Placed → Bool = λ e. e.1.number == lower in
        let there = In-list_any test placed (used (list_any test placed) (first_found (is_unused placed) 1 g.inodes number h lower some low)) in
        (there.0, there.1, eqb-true there.0.1.number lower there.2)

-- ---- zones

indirect_lacks : (own : ZonePlace → ℕ) (index : ℕ) → 7 ≤ index → index < 519 → own indirect ≡ 0 → lacks_outer own index ≡ true
indirect_lacks own index low high none = rw (le-ltb index 7 low) (rw (lt-ltb index 519 high) (eq-eqb (own indirect) 0 none))

double_is : (own : ZonePlace → ℕ) (index : ℕ) → 519 ≤ index → lacks_outer own index ≡ nat_eq (own double) 0
double_is own index low = rw (le-ltb index 7 (omega arith)) (rw (le-ltb index 519 low) refl)

inner_lacks : (own : ZonePlace → ℕ) (index : ℕ) → 519 ≤ index → own (inner ((index - 519) / 512)) ≡ 0 → lacks_second own index ≡ true
inner_lacks own index low none = rw (le-ltb index 519 low) (eq-eqb (own (inner ((index - 519) / 512))) 0 none)

pub indirect_next : (own : ZonePlace → ℕ) (index : ℕ) (m : Zones) → 7 ≤ index → index < 519 → own indirect ≡ 0 → (take_zones own index m).taken.outer ≡ next_zone (taken m)
indirect_next own index m low high none = ap (λ b. zone_if b (taken m)) (indirect_lacks own index low high none)

pub double_next : (own : ZonePlace → ℕ) (index : ℕ) (m : Zones) → 519 ≤ index → own double ≡ 0 → (take_zones own index m).taken.outer ≡ next_zone (taken m)
double_next own index m low none = ap (λ b. zone_if b (taken m)) (double_is own index low ∙ eq-eqb (own double) 0 none)

second_after : (own : ZonePlace → ℕ) (index : ℕ) (m : Zones) (outer : Bool) → 519 ≤ index → nat_eq (own double) 0 ≡ outer → own (inner ((index - 519) / 512)) ≡ 0
    → (take_zones own index m).taken.second ≡ next_zone (take_if outer (taken m))
second_after own index m outer low is none =
    ap (λ b. zone_if b (take_if (lacks_outer own index) (taken m))) (inner_lacks own index low none)
    ∙ ap (λ b. next_zone (take_if b (taken m))) (double_is own index low ∙ is)

pub behind_double_next : (own : ZonePlace → ℕ) (index : ℕ) (m : Zones) → 519 ≤ index → own double ≡ 0 → own (inner ((index - 519) / 512)) ≡ 0 → (take_zones own index m).taken.second ≡ next_zone (taken (taken m))
behind_double_next own index m low none lacks = second_after own index m true low (eq-eqb (own double) 0 none) lacks

pub behind_it_next : (own : ZonePlace → ℕ) (index : ℕ) (m : Zones) → 519 ≤ index → own double ≢ 0 → own (inner ((index - 519) / 512)) ≡ 0 → (take_zones own index m).taken.second ≡ next_zone (taken m)
behind_it_next own index m low there lacks = second_after own index m false low (ne_eqb (own double) 0 there) lacks

-- ---- cuts that change nothing

cut_by_file : (tree : Tree) (path : List ℕ) (size birth : ℕ) (f : File) → StandsAt tree path birth (nodes.File f) → cuts_nothing tree path size ≡ keeps_file size f
cut_by_file tree path size birth f s =
    ap (λ o. elim (and_then (if_some o replies.BadPath) (walk tree)) as (λ _. Bool) [ Err reply ↦ false | Ok found ↦ keeps_size size found.node ]) s.named
    ∙ ap (λ (r : Result Found Reply). elim r as (λ _. Bool) [ Err reply ↦ false | Ok found ↦ keeps_size size found.node ]) (walked tree s.names birth (nodes.File f) s.leads)

none_hole : (o : Option (List ℕ)) → not (is_some o) ≡ true → o ≡ None
none_hole None e = refl
none_hole (Some b) e = absurd (true≢false (sym e))

not_true : (b : Bool) → not b ≡ true → b ≡ false
not_true true e = absurd (true≢false (sym e))
not_true false e = refl

past : ℕ → ℕ × List ℕ → Bool
past size e = nat_le size (1024 * e.0)

pub still_cut : (tree : Tree) (path : List ℕ) (size birth : ℕ) (f : File) → StandsAt tree path birth (nodes.File f) → cuts_nothing tree path size ≡ true
    → (f.size ≡ size) × ((e : ℕ × List ℕ) → In e f.blocks → 1024 * e.0 < size) × ((size % 1024 ≡ 0) ⊎ (at_number f.blocks (size / 1024) ≡ None))
unfolding past
still_cut tree path size birth f s still =
    let keeps : keeps_file size f ≡ true = sym (cut_by_file tree path size birth f s) ∙ still in
    let one = and_parts (f.size == size) (not (list_any (past size) f.blocks) && ((size % 1024 == 0) || not (is_some (at_number f.blocks (size / 1024))))) keeps in
    let two = and_parts (not (list_any (past size) f.blocks)) ((size % 1024 == 0) || not (is_some (at_number f.blocks (size / 1024)))) one.1 in (
      eqb-true f.size size one.0,
      (λ e i. (let le : nat_le size (1024 * e.0) ≡ false = none-list_any (past size) f.blocks e (not_true (list_any (past size) f.blocks) two.0) i in leb-false size (1024 * e.0) le)),
      elim (cases_Bool (size % 1024 == 0)) [
        | inl whole ↦ inl (eqb-true (size % 1024) 0 whole)
        | inr part ↦ inr (none_hole (at_number f.blocks (size / 1024)) (rw part at two.1))
      ],
    )

pub known_cut : (tree : Tree) (path : List ℕ) (size birth : ℕ) (f : File) → StandsAt tree path birth (nodes.File f) → f.size ≡ size
    → ((e : ℕ × List ℕ) → In e f.blocks → 1024 * e.0 < size) → (size % 1024 ≡ 0) ⊎ (at_number f.blocks (size / 1024) ≡ None) → cuts_nothing tree path size ≡ true
unfolding past
known_cut tree path size birth f s same below end =
    cut_by_file tree path size birth f s
    ∙ and_from (f.size == size) _ (eq-eqb f.size size same)
    (and_from (not (list_any (past size) f.blocks)) _ (none (list_any (past size) f.blocks) refl) (last_part end))
  where
    none : (b : Bool) → list_any (past size) f.blocks ≡ b → not b ≡ true
    none false e = refl
    none true e =
        let there = In-list_any (past size) f.blocks e in
        let low = below there.0 there.1 in
        let high = leb-true size (1024 * there.0.0) there.2 in
        absurd (omega (arith, low, high))

    last_part : (size % 1024 ≡ 0) ⊎ (at_number f.blocks (size / 1024) ≡ None) → ((size % 1024 == 0) || not (is_some (at_number f.blocks (size / 1024)))) ≡ true
    last_part (inl whole) = or_left (size % 1024 == 0) _ (eq-eqb (size % 1024) 0 whole)
    last_part (inr hole) = or_right (size % 1024 == 0) _ (rw hole refl)
