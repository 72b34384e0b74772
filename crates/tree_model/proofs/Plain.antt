-- Plain trees as names that lead from node to node, and the number of names that a node has.
use Rattle.std.specs.Prelude.{⊤, length, ◌≡◌, ◌≢◌, ◌≤◌, ℕ, ◌+◌, ◌==◌, Bool, true, false, cond, List, [], ◌∷◌, Option, Some, None, is_some, unwrap_or, option_map, refl}
use Rattle.std.proofs.Common.{sym, ap, subst, ◌∙◌, inl, inr, ⊎_elim, arith}
use Rattle.std.specs.List.{sum_by, count_by}
use Rattle.std.specs.List.Sorted.{IsStrictlySortedBy}
use Rattle.std.specs.Map.{keys_of, values_of}
use Rattle.std.specs.BTreeMap.{is_at}
use Rattle.std.specs.Ordering.{nat_cmp}
use Rattle.std.proofs.lemmas.Bool.{true≢false, false≢true, cases_lt}
use Rattle.std.proofs.lemmas.Cmp.{eq_by_cmp_equiv, nat_cmp_total, nat_list_cmp_total}
use Rattle.std.proofs.lemmas.List.Sums.{sum_by-cons}
use Rattle.std.proofs.lemmas.Map.Entries.{sum_by-insert_entry, sum_by-remove_entry, lookup_from_place}
use Rattle.std.proofs.lemmas.Map.Keys.{IsDistinct-from_sorted}
use Rattle.std.proofs.lemmas.Option.{none-some, same_Some}
use Rattle.blk_base.specs.Members.{In}
use Rattle.blk_base.specs.laws.Members.{In-map, In-slice_get}
use Rattle.tree_model.specs.declared.node.Node.{Node}
use Rattle.tree_model.specs.declared.node.Node.TheVariants as nodes
use Rattle.tree_model.specs.declared.node.Directory.{Directory}
use Rattle.tree_model.specs.declared.node.File.{File}
use Rattle.tree_model.specs.Maps.{at_number, at_name, put_number, put_name, without_number, name_cmp}
use Rattle.tree_model.specs.laws.Listing.{names_of}
use Rattle.tree_model.specs.Rooted.{HasEntry, IsLedTo, IsRooted}
use Rattle.tree_model.specs.Rooted.IsLedTo.{at_root, by_name}
use Rattle.tree_model.specs.Trees.{is_directory}
use Rattle.tree_model.specs.Calls.{Tree}
use Rattle.tree_model.specs.Plain.{names_in_node, names_to, IsPlain}
use Rattle.tree_model.specs.laws.MapOrder.{InOrder, NamesInOrder, without_name_in}
use Rattle.tree_model.proofs.Hanging.{IsReached, top, by_edge, Seen, IsJoined}

-- ---- a tree by its names

abbrev pub edge_of : Tree → ℕ → List ℕ → Option ℕ
edge_of tree p m = at_name (names_of (at_number tree p)) m

abbrev pub up_of : Option Node → Option ℕ
up_of (Some (nodes.Directory d)) = Some d.parent
up_of other = None

abbrev pub seen_of : Tree → Seen
seen_of tree = record { there = λ b. is_some (at_number tree b); directory = λ b. is_directory (at_number tree b); up = λ b. up_of (at_number tree b) }

abbrev pub links_of : Option Node → Option ℕ
links_of (Some (nodes.File f)) = Some f.links
links_of other = None

abbrev pub is_other : Option Node → Bool
is_other (Some (nodes.Other mode)) = true
is_other other = false

-- a directory of this width, with no longer name
abbrev pub IsOfWidth : ℕ → Option Node → Type 0
IsOfWidth width (Some (nodes.Directory d)) = (d.width ≡ width) × ((m : List ℕ) (b : ℕ) → at_name d.names m ≡ Some b → length m ≤ width)
IsOfWidth width other = ⊤

pub record IsWhole (tree : Tree) : Type 0 where
  pub width : ℕ
  pub of_width : (p : ℕ) → IsOfWidth width (at_number tree p)
  pub in_order : InOrder tree
  pub sorted : (p : ℕ) → NamesInOrder (names_of (at_number tree p))
  pub joined : IsJoined (edge_of tree) (seen_of tree)
  pub reached : (b : ℕ) → is_some (at_number tree b) ≡ true → IsReached (edge_of tree) b
  pub links : (b l : ℕ) → links_of (at_number tree b) ≡ Some l → l ≡ names_to tree b
  pub known : (b : ℕ) → is_other (at_number tree b) ≡ false

-- ---- both ways

pub directory_at : (o : Option Node) → is_directory o ≡ true → (d : Directory) × (o ≡ Some (nodes.Directory d))
directory_at (Some (nodes.Directory d)) h = (d, refl)
directory_at (Some (nodes.File f)) h = absurd (false≢true h)
directory_at (Some (nodes.Other mode)) h = absurd (false≢true h)
directory_at None h = absurd (false≢true h)

some_at : (o : Option Node) → is_some o ≡ true → (node : Node) × (o ≡ Some node)
some_at (Some node) h = (node, refl)
some_at None h = absurd (false≢true h)

pub gives_edge : (tree : Tree) (p : ℕ) (m : List ℕ) (b : ℕ) → HasEntry tree p m b → edge_of tree p m ≡ Some b
gives_edge tree p m b g = ap (λ o. at_name (names_of o) m) g.stands ∙ g.named

edge_gives_by : (tree : Tree) (p : ℕ) (m : List ℕ) (b : ℕ) (o : Option Node) → at_number tree p ≡ o → at_name (names_of o) m ≡ Some b → HasEntry tree p m b
edge_gives_by tree p m b (Some (nodes.Directory d)) e h = record { directory = d; stands = e; named = h }
edge_gives_by tree p m b (Some (nodes.File f)) e h = absurd (none-some b h)
edge_gives_by tree p m b (Some (nodes.Other mode)) e h = absurd (none-some b h)
edge_gives_by tree p m b None e h = absurd (none-some b h)

pub edge_gives : (tree : Tree) (p : ℕ) (m : List ℕ) (b : ℕ) → edge_of tree p m ≡ Some b → HasEntry tree p m b
edge_gives tree p m b h = edge_gives_by tree p m b (at_number tree p) refl h

led_reached : (tree : Tree) (b : ℕ) → IsLedTo tree b → IsReached (edge_of tree) b
led_reached tree _ at_root = top
led_reached tree _ (by_name {parent} {birth} {name} h g) = by_edge (led_reached tree parent h) (gives_edge tree parent name birth g)

pub reached_led : (tree : Tree) (b : ℕ) → IsReached (edge_of tree) b → IsLedTo tree b
reached_led tree _ top = at_root
reached_led tree _ (by_edge {parent} {birth} {name} h e) = by_name (reached_led tree parent h) (edge_gives tree parent name birth e)

file_links : (o : Option Node) (l : ℕ) → links_of o ≡ Some l → (f : File) × (o ≡ Some (nodes.File f)) × (f.links ≡ l)
file_links (Some (nodes.File f)) l h = (f, refl, same_Some f.links l h)
file_links (Some (nodes.Directory d)) l h = absurd (none-some l h)
file_links (Some (nodes.Other mode)) l h = absurd (none-some l h)
file_links None l h = absurd (none-some l h)

not_other : (o : Option Node) → ((mode : ℕ) → o ≡ Some (nodes.Other mode) → ⊥) → is_other o ≡ false
not_other (Some (nodes.Directory d)) h = refl
not_other (Some (nodes.File f)) h = refl
not_other (Some (nodes.Other mode)) h = absurd (h mode refl)
not_other None h = refl

sorted_at : (tree : Tree) → IsRooted tree → (p : ℕ) (o : Option Node) → at_number tree p ≡ o → NamesInOrder (names_of o)
unfolding IsStrictlySortedBy
sorted_at tree rooted p (Some (nodes.Directory d)) e = rooted.names_in_order p d e
sorted_at tree rooted p (Some (nodes.File f)) e = tt
sorted_at tree rooted p (Some (nodes.Other mode)) e = tt
sorted_at tree rooted p None e = tt

of_width_at : (tree : Tree) (rooted : IsRooted tree) (p : ℕ) (o : Option Node) → at_number tree p ≡ o → IsOfWidth rooted.width o
of_width_at tree rooted p (Some (nodes.Directory d)) e = (rooted.of_width p d e, λ m b named. rooted.short p m b (record { directory = d; stands = e; named = named }))
of_width_at tree rooted p (Some (nodes.File f)) e = tt
of_width_at tree rooted p (Some (nodes.Other mode)) e = tt
of_width_at tree rooted p None e = tt

module _ (tree : Tree) (h : IsPlain tree) where
  plain_joined : IsJoined (edge_of tree) (seen_of tree)
  plain_joined = record {
    root = ap is_directory h.rooted.root.1;
    root_up = ap up_of h.rooted.root.1 ∙ ap Some (h.root_parent h.rooted.root.0 h.rooted.root.1);
    good = λ p m b e. let g = edge_gives tree p m b e in record { plain = h.plain_names p m b g };
    leads = λ p m b e. ap is_some (h.rooted.leads p m b (edge_gives tree p m b e)).1;
    no_root = λ p m b e. h.rooted.no_root p m b (edge_gives tree p m b e);
    one_name = λ p q m k b e f t.
        let d = directory_at (at_number tree b) t in
        h.rooted.one_name p q m k b d.0 (edge_gives tree p m b e) (edge_gives tree q k b f) d.1;
    parent = λ p m b e t.
        let d = directory_at (at_number tree b) t in
        ap up_of d.1 ∙ ap Some (h.parents p m b d.0 (edge_gives tree p m b e) d.1);
  }

  pub plain_whole : IsWhole tree
  plain_whole = record {
    width = h.rooted.width;
    of_width = λ p. of_width_at tree h.rooted p (at_number tree p) refl;
    in_order = h.rooted.in_order;
    sorted = λ p. sorted_at tree h.rooted p (at_number tree p) refl;
    joined = plain_joined;
    reached = λ b t. let x = some_at (at_number tree b) t in led_reached tree b (h.rooted.led_to b x.0 x.1);
    links = λ b l e. let x = file_links (at_number tree b) l e in sym x.2 ∙ h.links b x.0 x.1;
    known = λ b. not_other (at_number tree b) (λ mode e. h.no_other b mode e);
  }

module _ (tree : Tree) (h : IsWhole tree) where
  whole_rooted : IsRooted tree
  whole_rooted = record {
    in_order = h.in_order;
    names_in_order = λ b d e. subst (λ o. NamesInOrder (names_of o)) e (h.sorted b);
    root = directory_at (at_number tree 0) h.joined.root;
    width = h.width;
    of_width = λ b d e. (subst (IsOfWidth h.width) e (h.of_width b)).0;
    short = λ p m b g. (subst (IsOfWidth h.width) g.stands (h.of_width p)).1 m b g.named;
    leads = λ p m b g. some_at (at_number tree b) (h.joined.leads p m b (gives_edge tree p m b g));
    no_root = λ p m b g. h.joined.no_root p m b (gives_edge tree p m b g);
    one_name = λ p q m k b d g i e. h.joined.one_name p q m k b (gives_edge tree p m b g) (gives_edge tree q k b i) (ap is_directory e);
    led_to = λ b node e. reached_led tree b (h.reached b (ap is_some e));
  }

  pub whole_plain : IsPlain tree
  whole_plain = record {
    rooted = whole_rooted;
    no_other = λ b mode e. true≢false (sym (ap is_other e) ∙ h.known b);
    plain_names = λ p m b g. (h.joined.good p m b (gives_edge tree p m b g)).plain;
    links = λ b f e. h.links b f.links (ap links_of e);
    parents = λ p m b d g e. same_Some d.parent p (sym (ap up_of e) ∙ h.joined.parent p m b (gives_edge tree p m b g) (ap is_directory e));
    root_parent = λ d e. same_Some d.parent 0 (sym (ap up_of e) ∙ h.joined.root_up);
  }

-- ---- how many names a node has

abbrev pub count_in : List (List ℕ × ℕ) → ℕ → ℕ
count_in names c = count_by (λ b. b == c) (values_of names)

abbrev pub one_at : ℕ → ℕ → ℕ
one_at b c = cond (b == c) 1 0

abbrev pub one_for : ℕ → Option ℕ → ℕ
one_for c o = unwrap_or (option_map (λ b. one_at b c) o) 0

abbrev pub names_at : Tree → ℕ → ℕ → ℕ
names_at tree p c = unwrap_or (option_map (names_in_node c) (at_number tree p)) 0

pub names_to_put : (tree : Tree) (p : ℕ) (node : Node) (c : ℕ) → InOrder tree → names_to (put_number tree p node) c + names_at tree p c ≡ names_to tree c + names_in_node c node
unfolding names_to
names_to_put tree p node c order = sum_by-insert_entry (names_in_node c) nat_cmp_total tree p node order

pub names_to_without : (tree : Tree) (p c : ℕ) → names_to (without_number tree p) c + names_at tree p c ≡ names_to tree c
unfolding names_to
names_to_without tree p c = sum_by-remove_entry (names_in_node c) (is_at (nat_cmp p)) tree

pub count_put : (names : List (List ℕ × ℕ)) (m : List ℕ) (b c : ℕ) → NamesInOrder names → count_in (put_name names m b) c + one_for c (at_name names m) ≡ count_in names c + one_at b c
count_put names m b c sorted = sum_by-insert_entry (λ b. one_at b c) nat_list_cmp_total names m b sorted

pub count_without : (names : List (List ℕ × ℕ)) (m : List ℕ) (c : ℕ) → count_in (without_name_in names m) c + one_for c (at_name names m) ≡ count_in names c
count_without names m c = sum_by-remove_entry (λ b. one_at b c) (is_at (name_cmp m)) names

pub one_for_here : (c : ℕ) → one_at c c ≡ 1
one_for_here c = grind arith

pub one_for_other : (b c : ℕ) → b ≢ c → one_at b c ≡ 0
one_for_other b c apart = grind arith

-- a name counts
edge_counts_by : (o : Option Node) (m : List ℕ) (b : ℕ) → at_name (names_of o) m ≡ Some b → 1 ≤ unwrap_or (option_map (names_in_node b) o) 0
edge_counts_by (Some (nodes.Directory d)) m b h =
    let less = count_without d.names m b in
    let one : one_for b (at_name d.names m) ≡ 1 = ap (one_for b) h ∙ one_for_here b in
    omega arith
edge_counts_by (Some (nodes.File f)) m b h = absurd (none-some b h)
edge_counts_by (Some (nodes.Other mode)) m b h = absurd (none-some b h)
edge_counts_by None m b h = absurd (none-some b h)

pub edge_counts : (tree : Tree) (p : ℕ) (m : List ℕ) (b : ℕ) → edge_of tree p m ≡ Some b → 1 ≤ names_to tree b
edge_counts tree p m b h =
    let here = edge_counts_by (at_number tree p) m b h in
    let all = names_to_without tree p b in
    omega arith

-- and what counts is a name
some_counts : {X : Type 0} (f : X → ℕ) (xs : List X) → 1 ≤ sum_by f xs → (x : X) × In x xs × (1 ≤ f x)
some_counts f [] h = absurd (omega arith)
some_counts f (x ∷ xs) h =
    let e = sum_by-cons f x xs in
    ⊎_elim
    (λ none. let later : 1 ≤ sum_by f xs = omega arith in let y = some_counts f xs later in (y.0, inr y.1, y.2))
    (λ some. (x, inl refl, some))
    (cases_lt (f x) 1)

counted_node : (b : ℕ) (node : Node) → 1 ≤ names_in_node b node → NamesInOrder (names_of (Some node)) → (m : List ℕ) × (at_name (names_of (Some node)) m ≡ Some b)
counted_node b (nodes.Directory d) h sorted =
    let x = some_counts (λ c. one_at c b) (values_of d.names) h in
    let e = In-map (λ (e : List ℕ × ℕ). e.1) d.names x.0 x.1 in
    let place = In-slice_get d.names e.0 e.1 in
    let found = lookup_from_place (eq_by_cmp_equiv nat_list_cmp_total) d.names place.0 e.0.0 e.0.1 (IsDistinct-from_sorted name_cmp (keys_of d.names) sorted) place.2 in
    let same : e.0.1 ≡ b = one_is e.0.1 b (subst (λ c. 1 ≤ one_at c b) (sym e.2) x.2) in
    (e.0.0, found ∙ ap Some same)
  where
    one_is : (c b : ℕ) → 1 ≤ one_at c b → c ≡ b
    one_is c b h = grind arith
counted_node b (nodes.File f) h sorted = absurd (omega arith)
counted_node b (nodes.Other mode) h sorted = absurd (omega arith)

pub counted_edge : (tree : Tree) (b : ℕ) → InOrder tree → ((p : ℕ) → NamesInOrder (names_of (at_number tree p))) → 1 ≤ names_to tree b → (p : ℕ) × (m : List ℕ) × (edge_of tree p m ≡ Some b)
unfolding names_to
counted_edge tree b order sorted h =
    let x = some_counts (names_in_node b) (values_of tree) h in
    let e = In-map (λ (e : ℕ × Node). e.1) tree x.0 x.1 in
    let place = In-slice_get tree e.0 e.1 in
    let found : at_number tree e.0.0 ≡ Some e.0.1 = lookup_from_place (eq_by_cmp_equiv nat_cmp_total) tree place.0 e.0.0 e.0.1 (IsDistinct-from_sorted nat_cmp (keys_of tree) order) place.2 in
    let at : at_number tree e.0.0 ≡ Some x.0 = found ∙ ap Some e.2 in
    let y = counted_node b x.0 x.2 (subst (λ o. NamesInOrder (names_of o)) at (sorted e.0.0)) in
    (e.0.0, y.0, ap (λ o. at_name (names_of o) y.0) at ∙ y.1)
