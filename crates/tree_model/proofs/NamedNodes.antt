-- What calls on names do to nodes: the directory of the name, the node that it leads to, and all others.
use Rattle.std.specs.Prelude.{◌≡◌, ◌≢◌, ◌<◌, ◌≤◌, ℕ, ◌+◌, ◌-◌, Bool, true, false, cond, not, ◌&&◌, if◌then◌else◌, nat_le, List, [], ◌∷◌, ◌++◌, length, Option, Some, None, Ok, is_some, unwrap_or, option_map, refl}
use Rattle.std.proofs.Common.{sym, ap, subst, ◌∙◌, inl, inr, ⊎_elim, arith}
use Rattle.std.specs.List.{count_by, sum_by}
use Rattle.std.specs.Map.{values_of}
use Rattle.std.specs.BTreeMap.{is_at}
use Rattle.std.proofs.lemmas.Bool.{cases_eq, false≢true, lt-ltb, le-ltb, le-leb, lt-leb}
use Rattle.std.proofs.lemmas.Cmp.{nat_list_cmp_total}
use Rattle.std.proofs.lemmas.List.{length-append}
use Rattle.std.proofs.lemmas.List.Sums.{sum_by-cons}
use Rattle.std.proofs.lemmas.Map.Entries.{sum_by-insert_entry, sum_by-remove_entry}
use Rattle.std.proofs.lemmas.Option.{same_Some}
use Rattle.blk_base.specs.Members.{In}
use Rattle.tree_model.specs.declared.call.Call.TheVariants as calls
use Rattle.tree_model.specs.declared.call.Room.{Room}
use Rattle.tree_model.specs.declared.node.Node.{Node}
use Rattle.tree_model.specs.declared.node.Node.TheVariants as nodes
use Rattle.tree_model.specs.declared.node.Directory.{Directory}
use Rattle.tree_model.specs.declared.node.File.{File}
use Rattle.tree_model.specs.Maps.{at_number, at_name, put_number, put_name, without_number, name_cmp}
use Rattle.tree_model.specs.Paths.{path_of}
use Rattle.tree_model.specs.Trees.{node_of_path, is_directory, directory_links}
use Rattle.tree_model.specs.Calls.{Tree, Done, Found, Place, all_but_last, needs_slot, slots_with, with_name, without_name, take_name, put_file, with_links, lose_link, row, outcome}
use Rattle.tree_model.specs.Causes.{IsInDirectory}
use Rattle.tree_model.specs.CallWords.{StandsAt, IsParentOf, HasNameMore, HasNameLess, HasLinkLess}
use Rattle.tree_model.specs.Plain.{IsPlain, AreBornBefore}
use Rattle.tree_model.specs.laws.Alike.{same_ok}
use Rattle.tree_model.specs.laws.Listing.{names_of}
use Rattle.tree_model.specs.laws.MapsLaws.{at_put_number, at_put_number_apart}
use Rattle.tree_model.specs.laws.MapOrder.{InOrder, in_order_put, at_without_here, at_without_apart, NamesInOrder, names_in_order_without, without_name_in, at_name_without_found}
use Rattle.tree_model.proofs.Lookups.{In-at_name}
use Rattle.tree_model.proofs.Rows.{IsPlace, IsFound, place_names}
use Rattle.tree_model.proofs.Changes.{IsMade, IsRemoved, IsUnlinked, IsLinked, mkdir_made, create_made, rmdir_made, unlink_made, link_made, outcome_row}
use Rattle.tree_model.proofs.Plain.{edge_of, IsWhole, plain_whole}
use Rattle.tree_model.proofs.PlainCalls.{IsNewNode, directory_is_new, file_is_new, at_new, place_sorted}
use Rattle.tree_model.proofs.PlainNames.{directory_not_file, linked_at, link_stands, removed_whole}
use Rattle.tree_model.proofs.PlainTrees.{not_born}
use Rattle.tree_model.proofs.NamesCome.{remove_apart}
use Rattle.tree_model.proofs.Ways.{Names, place_ends}

-- ---- the directory of a path

pub same_end : (xs ys : Names) (a b : List ℕ) → xs ++ a ∷ [] ≡ ys ++ b ∷ [] → (xs ≡ ys) × (a ≡ b)
same_end [] [] a b e = (refl, cc)
same_end [] (y ∷ ys) a b e = absurd (let l = ap length e in let k = length-append ys (b ∷ []) in omega arith)
same_end (x ∷ xs) [] a b e = absurd (let l = ap length e in let k = length-append xs (a ∷ []) in omega arith)
same_end (x ∷ xs) (y ∷ ys) a b e =
    let first : x ≡ y = cc in
    let rest : xs ++ a ∷ [] ≡ ys ++ b ∷ [] = cc in
    let more = same_end xs ys a b rest in
    (ap (λ z. z ∷ xs) first ∙ ap (λ zs. y ∷ zs) more.0, more.1)

module _ (tree : Tree) (names : Names) (p : Place) (h : IsPlace tree names p) where
  pub place_parent : IsParentOf tree names p.parent
  place_parent = (all_but_last h.first h.rest, p.name, place_ends tree names p h, h.path)

  pub parent_apart : (c : ℕ) → (IsParentOf tree names c → ⊥) → c ≢ p.parent
  parent_apart c none e = none (subst (IsParentOf tree names) (sym e) place_parent)

  module _ (before : Directory) (name : List ℕ) (i : IsInDirectory tree names before name) where
    pub in_place : (i.birth ≡ p.parent) × (before ≡ p.directory)
    in_place =
        let ends = same_end i.front (all_but_last h.first h.rest) name p.name (i.names_are ∙ sym (place_ends tree names p h)) in
        let birth = same_ok i.birth p.parent (sym i.leads.path ∙ (ap (node_of_path tree) ends.0 ∙ h.path)) in
        let node : nodes.Directory before ≡ nodes.Directory p.directory = same_Some _ _ (sym i.leads.stands ∙ (ap (at_number tree) birth ∙ h.stands)) in
        (birth, cc)

-- ---- links of directories

pub weigh : Tree → ℕ → ℕ
weigh tree b = cond (is_directory (at_number tree b)) 1 0

over_values : (tree : Tree) (names : List (List ℕ × ℕ)) → count_by (λ e. is_directory (at_number tree e.1)) names ≡ sum_by (weigh tree) (values_of names)
unfolding weigh
over_values tree [] = refl
over_values tree (e ∷ es) =
    let one = sum_by-cons (λ (e : List ℕ × ℕ). cond (is_directory (at_number tree e.1)) 1 0) e es in
    let two = sum_by-cons (weigh tree) e.1 (values_of es) in
    let rest = over_values tree es in
    omega arith

count_same : (tree u : Tree) (names : List (List ℕ × ℕ)) → ((e : List ℕ × ℕ) → In e names → is_directory (at_number u e.1) ≡ is_directory (at_number tree e.1)) →
    count_by (λ e. is_directory (at_number u e.1)) names ≡ count_by (λ e. is_directory (at_number tree e.1)) names
count_same tree u [] same = refl
count_same tree u (e ∷ es) same =
    let one = sum_by-cons (λ (e : List ℕ × ℕ). cond (is_directory (at_number u e.1)) 1 0) e es in
    let two = sum_by-cons (λ (e : List ℕ × ℕ). cond (is_directory (at_number tree e.1)) 1 0) e es in
    let rest = count_same tree u es (λ x i. same x (inr i)) in
    let here : ◌≡◌ {A = ℕ} (cond {A = ℕ} (is_directory (at_number u e.1)) 1 0) (cond {A = ℕ} (is_directory (at_number tree e.1)) 1 0) = ap (λ (b : Bool). cond {A = ℕ} b 1 0) (same e (inl refl)) in
    omega arith

pub links_same : (tree u : Tree) (d : Directory) → ((e : List ℕ × ℕ) → In e d.names → is_directory (at_number u e.1) ≡ is_directory (at_number tree e.1)) → directory_links u d ≡ directory_links tree d
links_same tree u d same = ap (λ k. 2 + k) (count_same tree u d.names same)

pub links_put : (u : Tree) (d : Directory) (name : List ℕ) (birth : ℕ) → NamesInOrder d.names → is_some (at_name d.names name) ≡ false → directory_links u (with_name d name birth) ≡ directory_links u d + weigh u birth
links_put u d name birth sorted free =
    let sums = sum_by-insert_entry (weigh u) nat_list_cmp_total d.names name birth sorted in
    let none : unwrap_or (option_map (weigh u) (at_name d.names name)) 0 ≡ 0 = none_weighs (at_name d.names name) free in
    let one = over_values u (put_name d.names name birth) in
    let two = over_values u d.names in
    omega arith
  where
    none_weighs : (o : Option ℕ) → is_some o ≡ false → unwrap_or (option_map (weigh u) o) 0 ≡ 0
    none_weighs None f = refl
    none_weighs (Some b) f = absurd (false≢true (sym f))

pub links_take : (u : Tree) (d : Directory) (name : List ℕ) (birth : ℕ) → at_name d.names name ≡ Some birth → directory_links u (without_name d name) + weigh u birth ≡ directory_links u d
links_take u d name birth found =
    let sums = subst (λ o. sum_by (weigh u) (values_of (without_name_in d.names name)) + unwrap_or (option_map (weigh u) o) 0 ≡ sum_by (weigh u) (values_of d.names)) found
    (sum_by-remove_entry (weigh u) (is_at (name_cmp name)) d.names) in
    let one = over_values u (without_name_in d.names name) in
    let two = over_values u d.names in
    omega arith

pub weighs : (u : Tree) (b : ℕ) (t : Bool) → is_directory (at_number u b) ≡ t → weigh u b ≡ cond t 1 0
unfolding weigh
weighs u b t e = ap (λ t. cond t 1 0) e

-- a node that stays, or a directory in place of one
same_kind : (tree u : Tree) (p : ℕ) (d e : Directory) → at_number tree p ≡ Some (nodes.Directory d) → at_number u p ≡ Some (nodes.Directory e) → (c : ℕ) → (c ≢ p → at_number u c ≡ at_number tree c) →
    is_directory (at_number u c) ≡ is_directory (at_number tree c)
same_kind tree u p d e before after c rest =
    ⊎_elim
    (λ same. ap (λ j. is_directory (at_number u j)) same ∙ (ap is_directory after ∙ sym (ap (λ j. is_directory (at_number tree j)) same ∙ ap is_directory before)))
    (λ apart. ap is_directory (rest apart))
    (cases_eq c p)

-- ---- slots

pub slots_free : (d : Directory) (name : List ℕ) → is_some (at_name d.names name) ≡ false → length d.names + 2 < d.slots → slots_with d name ≡ d.slots
slots_free d name free lt =
    ap (λ b. if not b && needs_slot d then d.slots + 1 else d.slots) free
    ∙ ap (λ b. if not b then d.slots + 1 else d.slots) (lt-ltb (length d.names + 2) d.slots lt)

pub slots_full : (d : Directory) (name : List ℕ) → is_some (at_name d.names name) ≡ false → d.slots ≤ length d.names + 2 → slots_with d name ≡ d.slots + 1
slots_full d name free le =
    ap (λ b. if not b && needs_slot d then d.slots + 1 else d.slots) free
    ∙ ap (λ b. if not b then d.slots + 1 else d.slots) (le-ltb (length d.names + 2) d.slots le)

pub slots_kept : (d : Directory) (name : List ℕ) → is_some (at_name d.names name) ≡ true → slots_with d name ≡ d.slots
slots_kept d name there = ap (λ b. if not b && needs_slot d then d.slots + 1 else d.slots) there

-- ---- a name that comes

-- the directory of a place got the name of a node
pub record IsGiven (tree after : Tree) (names : Names) (p : Place) (leaf : ℕ) : Type 0 where
  is_place : IsPlace tree names p
  sorted : NamesInOrder p.directory.names
  free : is_some (at_name p.directory.names p.name) ≡ false
  left : at_number after p.parent ≡ Some (nodes.Directory (with_name p.directory p.name leaf))
  rest : (c : ℕ) → c ≢ leaf → c ≢ p.parent → at_number after c ≡ at_number tree c
  named : (name : List ℕ) (c : ℕ) → at_name p.directory.names name ≡ Some c → c ≡ leaf → is_directory (at_number after c) ≡ is_directory (at_number tree c)

abbrev pub GivenIn : Tree → Tree → ℕ → ℕ → Directory → Type 0
GivenIn tree later birth directories before = (after : Directory) × (at_number later birth ≡ Some (nodes.Directory after)) × HasNameMore tree later before after directories

module _ (tree after : Tree) (names : Names) (p : Place) (leaf : ℕ) (h : IsGiven tree after names p leaf) (t : Bool) (kind : is_directory (at_number after leaf) ≡ t) where
  given_more : HasNameMore tree after p.directory (with_name p.directory p.name leaf) (cond t 1 0)
  given_more = record {
    parent = refl;
    free = slots_free p.directory p.name h.free;
    full = slots_full p.directory p.name h.free;
    links =
        (let put = links_put after p.directory p.name leaf h.sorted h.free in
        let one = weighs after leaf t kind in
        let same = links_same tree after p.directory (λ e i.
        let found = In-at_name p.directory.names e.0 e.1 h.sorted i in
        ⊎_elim
        (λ is. h.named e.0 e.1 found is)
        (λ apart. same_kind tree after p.parent p.directory (with_name p.directory p.name leaf) h.is_place.stands h.left e.1 (h.rest e.1 apart))
        (cases_eq e.1 leaf)) in
        omega arith);
  }

  given_in : (before : Directory) (name : List ℕ) (i : IsInDirectory tree names before name) → GivenIn tree after i.birth (cond t 1 0) before
  given_in before name i =
      let x = in_place tree names p h.is_place before name i in
      (with_name p.directory p.name leaf, ap (at_number after) x.0 ∙ h.left, subst (λ (b : Directory). HasNameMore tree after b (with_name p.directory p.name leaf) (cond t 1 0)) (sym x.1) given_more)

module _ (tree : Tree) (n : ℕ) (node : Node) (d : Done) (m : IsMade tree n node d) where
  made_rest : (c : ℕ) → c ≢ n → c ≢ m.place.parent → at_number d.tree c ≡ at_number tree c
  made_rest c apart away =
      ap (λ t. at_number t c) m.tree_is
      ∙ (at_put_number_apart (put_number tree n node) m.place.parent _ c away ∙ at_put_number_apart tree n node c apart)

  module _ (w : IsWhole tree) (born : at_number tree n ≡ None) where
    made_given : IsGiven tree d.tree m.names m.place n
    made_given = record {
      is_place = m.is_place;
      sorted = place_sorted tree w m.names m.place m.is_place;
      free = m.free;
      left = ap (λ t. at_number t m.place.parent) m.tree_is ∙ at_put_number (put_number tree n node) m.place.parent _;
      rest = made_rest;
      named = λ name c found is.
          let there = w.joined.leads m.place.parent name c (ap (λ o. at_name (names_of o) name) m.is_place.stands ∙ found) in
          absurd (false≢true (sym (ap (λ j. is_some (at_number tree j)) is ∙ ap is_some born) ∙ there));
    }

    made_node : IsNewNode m.place.directory.width m.place.parent node → at_number d.tree n ≡ Some node
    made_node new = ap (λ t. at_number t n) m.tree_is ∙ at_new tree w n node d m born new

module _ (tree : Tree) (d : Done) (r : IsLinked tree d) where
  linked_rest : (c : ℕ) → c ≢ r.found.birth → c ≢ r.place.parent → at_number d.tree c ≡ at_number tree c
  linked_rest c apart away =
      ap (λ t. at_number t c) r.tree_is
      ∙ (at_put_number_apart (put_file tree r.found.birth (with_links r.file (r.file.links + 1))) r.place.parent _ c away ∙ at_put_number_apart tree r.found.birth _ c apart)

  module _ (w : IsWhole tree) where
    linked_node : at_number d.tree r.found.birth ≡ Some (nodes.File (with_links r.file (r.file.links + 1)))
    linked_node = ap (λ t. at_number t r.found.birth) r.tree_is ∙ linked_at tree w d r

    linked_given : IsGiven tree d.tree r.more r.place r.found.birth
    linked_given = record {
      is_place = r.is_place;
      sorted = place_sorted tree w r.more r.place r.is_place;
      free = r.free;
      left = ap (λ t. at_number t r.place.parent) r.tree_is ∙ at_put_number (put_file tree r.found.birth (with_links r.file (r.file.links + 1))) r.place.parent _;
      rest = linked_rest;
      named = λ name c found is.
          ap (λ j. is_directory (at_number d.tree j)) is
          ∙ (ap is_directory linked_node ∙ sym (ap (λ j. is_directory (at_number tree j)) is ∙ ap is_directory (link_stands tree w d r)));
    }

-- ---- a name that goes

lost_apart : (t : Tree) (b : ℕ) (f : File) (c : ℕ) → InOrder t → c ≢ b → at_number (lose_link t b f) c ≡ at_number t c
lost_apart t b f c order apart = by (nat_le f.links 1)
  where
    by : (few : Bool) → at_number (if few then without_number t b else put_file t b (with_links f (f.links - 1))) c ≡ at_number t c
    by true = at_without_apart t b c order apart
    by false = at_put_number_apart t b _ c apart

lost_kind : (t : Tree) (b : ℕ) (f : File) → InOrder t → is_directory (at_number (lose_link t b f) b) ≡ false
lost_kind t b f order = by (nat_le f.links 1)
  where
    by : (few : Bool) → is_directory (at_number (if few then without_number t b else put_file t b (with_links f (f.links - 1))) b) ≡ false
    by true = ap is_directory (at_without_here t b order)
    by false = ap is_directory (at_put_number t b (nodes.File (with_links f (f.links - 1))))

pub lost_link : (t : Tree) (b : ℕ) (f : File) → InOrder t → HasLinkLess (lose_link t b f) b f
lost_link t b f order = record {
  gone = λ few. ap (λ c. at_number (if c then without_number t b else put_file t b (with_links f (f.links - 1))) b) (le-leb f.links 1 few) ∙ at_without_here t b order;
  less = λ more. (
    with_links f (f.links - 1),
    ap (λ c. at_number (if c then without_number t b else put_file t b (with_links f (f.links - 1))) b) (lt-leb f.links 1 (omega arith)) ∙ at_put_number t b (nodes.File (with_links f (f.links - 1))),
    (let e : f.links - 1 + 1 ≡ f.links = omega arith in e),
    refl,
    refl,
  );
}

abbrev pub TakenIn : Tree → Tree → ℕ → ℕ → Directory → Type 0
TakenIn tree later birth directories before = (after : Directory) × (at_number later birth ≡ Some (nodes.Directory after)) × HasNameLess tree later before after directories

taken_in : (tree after : Tree) (names : Names) (p : Place) → IsPlace tree names p → at_number after p.parent ≡ Some (nodes.Directory (without_name p.directory p.name)) → (k : ℕ) →
    directory_links after (without_name p.directory p.name) + k ≡ directory_links tree p.directory → (before : Directory) (name : List ℕ) (i : IsInDirectory tree names before name) → TakenIn tree after i.birth k before
taken_in tree after names p h left k links before name i =
    let x = in_place tree names p h before name i in (
      without_name p.directory p.name,
      ap (at_number after) x.0 ∙ left,
      subst (λ (b : Directory). HasNameLess tree after b (without_name p.directory p.name) k) (sym x.1) (record { parent = refl; slots = refl; links = links }),
    )

module _ (tree : Tree) (w : IsWhole tree) (d : Done) (r : IsUnlinked tree d) where
  unlink_order : InOrder (take_name tree r.place)
  unlink_order = in_order_put tree r.place.parent _ w.in_order

  unlink_stands : at_number tree r.found.birth ≡ Some (nodes.File r.file)
  unlink_stands = r.is_found.stands ∙ ap Some r.node_is

  unlink_apart : r.place.parent ≢ r.found.birth
  unlink_apart = directory_not_file tree r.place.parent r.found.birth r.place.directory r.file r.is_place.stands unlink_stands

  unlinked_rest : (c : ℕ) → c ≢ r.found.birth → c ≢ r.place.parent → at_number d.tree c ≡ at_number tree c
  unlinked_rest c apart away =
      ap (λ t. at_number t c) r.tree_is
      ∙ (lost_apart (take_name tree r.place) r.found.birth r.file c unlink_order apart ∙ at_put_number_apart tree r.place.parent _ c away)

  unlinked_left : at_number d.tree r.place.parent ≡ Some (nodes.Directory (without_name r.place.directory r.place.name))
  unlinked_left =
      ap (λ t. at_number t r.place.parent) r.tree_is
      ∙ (lost_apart (take_name tree r.place) r.found.birth r.file r.place.parent unlink_order unlink_apart ∙ at_put_number tree r.place.parent (nodes.Directory (without_name r.place.directory r.place.name)))

  unlinked_kind : is_directory (at_number d.tree r.found.birth) ≡ false
  unlinked_kind = ap (λ t. is_directory (at_number t r.found.birth)) r.tree_is ∙ lost_kind (take_name tree r.place) r.found.birth r.file unlink_order

  unlinked_links : directory_links d.tree (without_name r.place.directory r.place.name) + 0 ≡ directory_links tree r.place.directory
  unlinked_links =
      let take = links_take d.tree r.place.directory r.place.name r.found.birth (place_names tree r.names r.place r.found r.is_place r.is_found) in
      let none = weighs d.tree r.found.birth false unlinked_kind in
      let same = links_same tree d.tree r.place.directory (λ e i.
      ⊎_elim
      (λ is. ap (λ j. is_directory (at_number d.tree j)) is ∙ (unlinked_kind ∙ sym (ap (λ j. is_directory (at_number tree j)) is ∙ ap is_directory unlink_stands)))
      (λ apart. same_kind tree d.tree r.place.parent r.place.directory (without_name r.place.directory r.place.name) r.is_place.stands unlinked_left e.1 (unlinked_rest e.1 apart))
      (cases_eq e.1 r.found.birth)) in
      omega arith

module _ (tree : Tree) (w : IsWhole tree) (d : Done) (r : IsRemoved tree d) where
  remove_order : InOrder (take_name tree r.place)
  remove_order = in_order_put tree r.place.parent _ w.in_order

  remove_stands : at_number tree r.found.birth ≡ Some (nodes.Directory r.directory)
  remove_stands = r.is_found.stands ∙ ap Some r.node_is

  remove_named : at_name r.place.directory.names r.place.name ≡ Some r.found.birth
  remove_named = place_names tree r.names r.place r.found r.is_place r.is_found

  removed_rest : (c : ℕ) → c ≢ r.found.birth → c ≢ r.place.parent → at_number d.tree c ≡ at_number tree c
  removed_rest c apart away =
      ap (λ t. at_number t c) r.tree_is
      ∙ (at_without_apart (take_name tree r.place) r.found.birth c remove_order apart ∙ at_put_number_apart tree r.place.parent _ c away)

  removed_gone : at_number d.tree r.found.birth ≡ None
  removed_gone = ap (λ t. at_number t r.found.birth) r.tree_is ∙ at_without_here (take_name tree r.place) r.found.birth remove_order

  removed_left : IsWhole d.tree → at_number d.tree r.place.parent ≡ Some (nodes.Directory (without_name r.place.directory r.place.name))
  removed_left later =
      ap (λ t. at_number t r.place.parent) r.tree_is
      ∙ (at_without_apart (take_name tree r.place) r.found.birth r.place.parent remove_order (λ e. remove_apart tree w d r later (sym e))
      ∙ at_put_number tree r.place.parent (nodes.Directory (without_name r.place.directory r.place.name)))

  edge_here : (name : List ℕ) (c : ℕ) → at_name r.place.directory.names name ≡ Some c → edge_of tree r.place.parent name ≡ Some c
  edge_here name c found = ap (λ o. at_name (names_of o) name) r.is_place.stands ∙ found

  removed_links : IsWhole d.tree → directory_links d.tree (without_name r.place.directory r.place.name) + 1 ≡ directory_links tree r.place.directory
  removed_links later =
      let take = links_take tree r.place.directory r.place.name r.found.birth remove_named in
      let one = weighs tree r.found.birth true (ap is_directory remove_stands) in
      let sorted = place_sorted tree w r.names r.place r.is_place in
      let same = links_same tree d.tree (without_name r.place.directory r.place.name) (λ e i.
      let found = at_name_without_found r.place.directory.names r.place.name e.0 e.1 sorted
      (In-at_name (without_name_in r.place.directory.names r.place.name) e.0 e.1 (names_in_order_without r.place.directory.names r.place.name sorted) i) in
      ⊎_elim
      (λ is.
      let one_name = w.joined.one_name r.place.parent r.place.parent e.0 r.place.name r.found.birth (edge_here e.0 r.found.birth (found.1 ∙ ap Some is)) (edge_here r.place.name r.found.birth remove_named) (ap is_directory remove_stands) in
      absurd (found.0 (sym one_name.1)))
      (λ apart. same_kind tree d.tree r.place.parent r.place.directory (without_name r.place.directory r.place.name) r.is_place.stands (removed_left later) e.1 (removed_rest e.1 apart))
      (cases_eq e.1 r.found.birth)) in
      omega arith

-- ---- calls

-- a path leads to one node
one_birth : (tree : Tree) (path : List ℕ) (names : Names) (birth : ℕ) (node : Node) (found : Found) → path_of path ≡ Some names → IsFound tree names found → StandsAt tree path birth node →
    (birth ≡ found.birth) × (node ≡ found.node)
one_birth tree path names birth node found named f s =
    let same : s.names ≡ names = same_Some s.names names (sym s.named ∙ named) in
    let is = same_ok birth found.birth (sym s.leads.path ∙ (ap (node_of_path tree) same ∙ f.path)) in
    (is, same_Some node found.node (sym s.leads.stands ∙ (ap (at_number tree) is ∙ f.stands)))

module _ (room : Room) (tree : Tree) (n : ℕ) where
  -- ---- with no more known of the tree

  pub mkdir_rest : (path : List ℕ) (names : Names) (d : Done) → path_of path ≡ Some names → outcome room tree n (calls.Mkdir path) ≡ Ok d →
      (birth : ℕ) → birth ≢ n → (IsParentOf tree names birth → ⊥) → at_number d.tree birth ≡ at_number tree birth
  unfolding row
  mkdir_rest path names d named e birth apart away =
      let x = mkdir_made tree n path d (outcome_row room tree n (calls.Mkdir path) d e) in
      let same : x.made.names ≡ names = same_Some x.made.names names (sym (ap path_of (sym x.path_is) ∙ x.made.named) ∙ named) in
      made_rest tree n _ d x.made birth apart (parent_apart tree x.made.names x.made.place x.made.is_place birth (λ p. away (subst (λ ns. IsParentOf tree ns birth) same p)))

  pub create_rest : (path : List ℕ) (names : Names) (d : Done) → path_of path ≡ Some names → outcome room tree n (calls.Create path) ≡ Ok d →
      (birth : ℕ) → birth ≢ n → (IsParentOf tree names birth → ⊥) → at_number d.tree birth ≡ at_number tree birth
  unfolding row
  create_rest path names d named e birth apart away =
      let x = create_made tree n path d (outcome_row room tree n (calls.Create path) d e) in
      let same : x.0.names ≡ names = same_Some x.0.names names (sym (ap path_of (sym x.1) ∙ x.0.named) ∙ named) in
      made_rest tree n _ d x.0 birth apart (parent_apart tree x.0.names x.0.place x.0.is_place birth (λ p. away (subst (λ ns. IsParentOf tree ns birth) same p)))

  pub link_rest : (path other : List ℕ) (names more : Names) (d : Done) → path_of path ≡ Some names → path_of other ≡ Some more → outcome room tree n (calls.Link path other) ≡ Ok d →
      (birth : ℕ) → (node_of_path tree names ≡ Ok birth → ⊥) → (IsParentOf tree more birth → ⊥) → at_number d.tree birth ≡ at_number tree birth
  unfolding row
  link_rest path other names more d named second e birth apart away =
      let x = link_made tree path other d (outcome_row room tree n (calls.Link path other) d e) in
      let first : names ≡ x.0.names = same_Some names x.0.names (sym named ∙ x.1) in
      let last : x.0.more ≡ more = same_Some x.0.more more (sym x.2 ∙ second) in
      linked_rest tree d x.0 birth (λ is. apart (ap (node_of_path tree) first ∙ (x.0.is_found.path ∙ ap Ok (sym is))))
      (parent_apart tree x.0.more x.0.place x.0.is_place birth (λ p. away (subst (λ ns. IsParentOf tree ns birth) last p)))

  -- ---- in a plain tree

  module _ (plain : IsPlain tree) where
    W : IsWhole tree
    W = plain_whole tree plain

    module _ (path : List ℕ) (names : Names) (d : Done) (named : path_of path ≡ Some names) where
      pub unlink_rest : outcome room tree n (calls.Unlink path) ≡ Ok d → (birth : ℕ) → (node_of_path tree names ≡ Ok birth → ⊥) → (IsParentOf tree names birth → ⊥) → at_number d.tree birth ≡ at_number tree birth
      unfolding row
      unlink_rest e birth apart away =
          let x = unlink_made tree path d (outcome_row room tree n (calls.Unlink path) d e) in
          let same : x.0.names ≡ names = same_Some x.0.names names (sym x.1 ∙ named) in
          unlinked_rest tree W d x.0 birth (λ is. apart (ap (node_of_path tree) (sym same) ∙ (x.0.is_found.path ∙ ap Ok (sym is))))
          (parent_apart tree x.0.names x.0.place x.0.is_place birth (λ p. away (subst (λ ns. IsParentOf tree ns birth) same p)))

      pub rmdir_rest : outcome room tree n (calls.Rmdir path) ≡ Ok d → (birth : ℕ) → (node_of_path tree names ≡ Ok birth → ⊥) → (IsParentOf tree names birth → ⊥) → at_number d.tree birth ≡ at_number tree birth
      unfolding row
      rmdir_rest e birth apart away =
          let x = rmdir_made tree path d (outcome_row room tree n (calls.Rmdir path) d e) in
          let same : x.0.names ≡ names = same_Some x.0.names names (sym x.1 ∙ named) in
          removed_rest tree W d x.0 birth (λ is. apart (ap (node_of_path tree) (sym same) ∙ (x.0.is_found.path ∙ ap Ok (sym is))))
          (parent_apart tree x.0.names x.0.place x.0.is_place birth (λ p. away (subst (λ ns. IsParentOf tree ns birth) same p)))

      pub in_unlink : outcome room tree n (calls.Unlink path) ≡ Ok d → (before : Directory) (name : List ℕ) (i : IsInDirectory tree names before name) → TakenIn tree d.tree i.birth 0 before
      unfolding row
      in_unlink e =
          let x = unlink_made tree path d (outcome_row room tree n (calls.Unlink path) d e) in
          let same : x.0.names ≡ names = same_Some x.0.names names (sym x.1 ∙ named) in
          subst (λ ns. (before : Directory) (name : List ℕ) (i : IsInDirectory tree ns before name) → TakenIn tree d.tree i.birth 0 before) same
          (taken_in tree d.tree x.0.names x.0.place x.0.is_place (unlinked_left tree W d x.0) 0 (unlinked_links tree W d x.0))

      pub in_rmdir : outcome room tree n (calls.Rmdir path) ≡ Ok d → (before : Directory) (name : List ℕ) (i : IsInDirectory tree names before name) → TakenIn tree d.tree i.birth 1 before
      unfolding row
      in_rmdir e =
          let x = rmdir_made tree path d (outcome_row room tree n (calls.Rmdir path) d e) in
          let same : x.0.names ≡ names = same_Some x.0.names names (sym x.1 ∙ named) in
          let later = removed_whole tree W d x.0 in
          subst (λ ns. (before : Directory) (name : List ℕ) (i : IsInDirectory tree ns before name) → TakenIn tree d.tree i.birth 1 before) same
          (taken_in tree d.tree x.0.names x.0.place x.0.is_place (removed_left tree W d x.0 later) 1 (removed_links tree W d x.0 later))

    pub in_link : (path other : List ℕ) (more : Names) (d : Done) → path_of other ≡ Some more → outcome room tree n (calls.Link path other) ≡ Ok d →
        (before : Directory) (name : List ℕ) (i : IsInDirectory tree more before name) → GivenIn tree d.tree i.birth 0 before
    unfolding row
    in_link path other more d second e =
        let x = link_made tree path other d (outcome_row room tree n (calls.Link path other) d e) in
        let last : x.0.more ≡ more = same_Some x.0.more more (sym x.2 ∙ second) in
        subst (λ ns. (before : Directory) (name : List ℕ) (i : IsInDirectory tree ns before name) → GivenIn tree d.tree i.birth 0 before) last
        (given_in tree d.tree x.0.more x.0.place x.0.found.birth (linked_given tree d x.0 W) false (ap is_directory (linked_node tree d x.0 W)))

    pub link_more : (path other : List ℕ) (d : Done) (birth : ℕ) (f : File) → StandsAt tree path birth (nodes.File f) → outcome room tree n (calls.Link path other) ≡ Ok d →
        (g : File) × (at_number d.tree birth ≡ Some (nodes.File g)) × (g.links ≡ f.links + 1) × (g.size ≡ f.size) × (g.blocks ≡ f.blocks)
    unfolding row
    link_more path other d birth f s e =
        let x = link_made tree path other d (outcome_row room tree n (calls.Link path other) d e) in
        let one = one_birth tree path x.0.names birth (nodes.File f) x.0.found x.1 x.0.is_found s in
        let node : nodes.File f ≡ nodes.File x.0.file = one.1 ∙ x.0.node_is in
        let file : x.0.file ≡ f = cc in (
          with_links x.0.file (x.0.file.links + 1),
          ap (at_number d.tree) one.0 ∙ linked_node tree d x.0 W,
          ap (λ (f : File). f.links + 1) file,
          ap (λ (f : File). f.size) file,
          ap (λ (f : File). f.blocks) file,
        )

    pub unlink_less : (path : List ℕ) (d : Done) (birth : ℕ) (f : File) → StandsAt tree path birth (nodes.File f) → outcome room tree n (calls.Unlink path) ≡ Ok d → HasLinkLess d.tree birth f
    unfolding row
    unlink_less path d birth f s e =
        let x = unlink_made tree path d (outcome_row room tree n (calls.Unlink path) d e) in
        let one = one_birth tree path x.0.names birth (nodes.File f) x.0.found x.1 x.0.is_found s in
        let node : nodes.File f ≡ nodes.File x.0.file = one.1 ∙ x.0.node_is in
        let file : x.0.file ≡ f = cc in
        subst (HasLinkLess d.tree birth) file
        (subst (λ b. HasLinkLess d.tree b x.0.file) (sym one.0)
        (subst (λ t. HasLinkLess t x.0.found.birth x.0.file) (sym x.0.tree_is) (lost_link (take_name tree x.0.place) x.0.found.birth x.0.file (unlink_order tree W d x.0))))

    pub rmdir_gone : (path : List ℕ) (d : Done) (birth : ℕ) (node : Node) → StandsAt tree path birth node → outcome room tree n (calls.Rmdir path) ≡ Ok d → at_number d.tree birth ≡ None
    unfolding row
    rmdir_gone path d birth node s e =
        let x = rmdir_made tree path d (outcome_row room tree n (calls.Rmdir path) d e) in
        let one = one_birth tree path x.0.names birth node x.0.found x.1 x.0.is_found s in
        ap (at_number d.tree) one.0 ∙ removed_gone tree W d x.0

    module _ (born : AreBornBefore n tree) where
      fresh : at_number tree n ≡ None
      fresh = not_born tree n born (at_number tree n) refl

      pub new_directory_is : (path : List ℕ) (d : Done) → outcome room tree n (calls.Mkdir path) ≡ Ok d → (e : Directory) × (at_number d.tree n ≡ Some (nodes.Directory e)) × (e.slots ≡ 2) × (e.names ≡ [])
      unfolding row
      new_directory_is path d e =
          let x = mkdir_made tree n path d (outcome_row room tree n (calls.Mkdir path) d e) in
          (record { parent = x.parent; width = x.width; slots = 2; names = [] }, made_node tree n _ d x.made W fresh (directory_is_new x.width x.parent x.made.place.directory.width x.made.place.parent x.parent_is.0 x.parent_is.1), refl, refl)

      pub new_file_is : (path : List ℕ) (d : Done) → outcome room tree n (calls.Create path) ≡ Ok d → (f : File) × (at_number d.tree n ≡ Some (nodes.File f)) × (f.size ≡ 0) × (f.links ≡ 1) × (f.blocks ≡ [])
      unfolding row
      new_file_is path d e =
          let x = create_made tree n path d (outcome_row room tree n (calls.Create path) d e) in
          (record { size = 0; links = 1; blocks = [] }, made_node tree n _ d x.0 W fresh (file_is_new x.0.place.directory.width x.0.place.parent), refl, refl, refl)

      pub in_mkdir : (path : List ℕ) (names : Names) (d : Done) → path_of path ≡ Some names → outcome room tree n (calls.Mkdir path) ≡ Ok d →
          (before : Directory) (name : List ℕ) (i : IsInDirectory tree names before name) → GivenIn tree d.tree i.birth 1 before
      unfolding row
      in_mkdir path names d named e =
          let x = mkdir_made tree n path d (outcome_row room tree n (calls.Mkdir path) d e) in
          let same : x.made.names ≡ names = same_Some x.made.names names (sym (ap path_of (sym x.path_is) ∙ x.made.named) ∙ named) in
          subst (λ ns. (before : Directory) (name : List ℕ) (i : IsInDirectory tree ns before name) → GivenIn tree d.tree i.birth 1 before) same
          (given_in tree d.tree x.made.names x.made.place n (made_given tree n _ d x.made W fresh) true
          (ap is_directory (made_node tree n _ d x.made W fresh (directory_is_new x.width x.parent x.made.place.directory.width x.made.place.parent x.parent_is.0 x.parent_is.1))))

      pub in_create : (path : List ℕ) (names : Names) (d : Done) → path_of path ≡ Some names → outcome room tree n (calls.Create path) ≡ Ok d →
          (before : Directory) (name : List ℕ) (i : IsInDirectory tree names before name) → GivenIn tree d.tree i.birth 0 before
      unfolding row
      in_create path names d named e =
          let x = create_made tree n path d (outcome_row room tree n (calls.Create path) d e) in
          let same : x.0.names ≡ names = same_Some x.0.names names (sym (ap path_of (sym x.1) ∙ x.0.named) ∙ named) in
          subst (λ ns. (before : Directory) (name : List ℕ) (i : IsInDirectory tree ns before name) → GivenIn tree d.tree i.birth 0 before) same
          (given_in tree d.tree x.0.names x.0.place n (made_given tree n _ d x.0 W fresh) false (ap is_directory (made_node tree n _ d x.0 W fresh (file_is_new x.0.place.directory.width x.0.place.parent))))
