-- Trees that are alike, one after the other, and a tree with itself.
use Rattle.std.specs.Prelude.{◌≡◌, ℕ, Bool, true, false, length, List, [], ◌∷◌, ◌++◌, Option, Some, None, Result, Ok, Err, refl, nat_lt, if◌then◌else◌}
use Rattle.std.proofs.Common.{arith, sym, ap, subst, ◌∙◌}
use Rattle.std.proofs.lemmas.Bool.{le-ltb}
use Rattle.tree_model.specs.declared.node.Node.{Node}
use Rattle.tree_model.specs.declared.node.Node.TheVariants as nodes
use Rattle.tree_model.specs.Maps.{at_number, at_name}
use Rattle.tree_model.specs.Rooted.{HasEntry, IsRooted, IsLedTo}
use Rattle.tree_model.specs.Rooted.IsLedTo.{at_root, by_name}
use Rattle.tree_model.specs.Trees.{Refusal, step_at, led_to, node_of_path, name_too_long, not_found, not_directory, SameMetadata, SameMetadataAt, SameLinks, SameBytes, AreAlike, IsSameButBirths}

-- ---- names lead to nodes

pub same_ok : (a b : ℕ) → ◌≡◌ {A = Result ℕ Refusal} (Ok a) (Ok b) → a ≡ b
same_ok a b h = cc

pub no_ok : {P : Type 0} (r : Refusal) (b : ℕ) → ◌≡◌ {A = Result ℕ Refusal} (Err r) (Ok b) → P
no_ok r b h = absurd (cc)

named_by : (long : Bool) (o : Option ℕ) (birth : ℕ) →
    ◌≡◌ {A = Result ℕ Refusal}
    (if long then Err name_too_long else elim o as (λ _. Result ℕ Refusal) [ None ↦ Err not_found | Some b ↦ Ok b ])
    (Ok birth) →
    o ≡ Some birth
named_by true o birth h = no_ok name_too_long birth h
named_by false None birth h = no_ok not_found birth h
named_by false (Some b) birth h = ap Some (same_ok b birth h)

gives_from : (tree : List (ℕ × Node)) (parent : ℕ) (name : List ℕ) (birth : ℕ) (o : Option Node) → at_number tree parent ≡ o → step_at o name ≡ Ok birth → HasEntry tree parent name birth
gives_from tree parent name birth None e h = no_ok not_directory birth h
gives_from tree parent name birth (Some (nodes.Directory d)) e h =
    record { directory = d; stands = e; named = named_by (nat_lt d.width (length name)) (at_name d.names name) birth h }
gives_from tree parent name birth (Some (nodes.File f)) e h = no_ok not_directory birth h
gives_from tree parent name birth (Some (nodes.Other mode)) e h = no_ok not_directory birth h

-- a step is by a name of the tree
pub step_gives : (tree : List (ℕ × Node)) (parent : ℕ) (name : List ℕ) (birth : ℕ) → step_at (at_number tree parent) name ≡ Ok birth → HasEntry tree parent name birth
step_gives tree parent name birth h = gives_from tree parent name birth (at_number tree parent) refl h

abbrev pub led_on : List (ℕ × Node) → Result ℕ Refusal → List (List ℕ) → Result ℕ Refusal
led_on tree r names = elim r as (λ _. Result ℕ Refusal) [ Err refusal ↦ Err refusal | Ok next ↦ led_to tree next names ]

pub led_parts : (tree : List (ℕ × Node)) (r : Result ℕ Refusal) (names : List (List ℕ)) (birth : ℕ) → led_on tree r names ≡ Ok birth → (next : ℕ) × (r ≡ Ok next) × (led_to tree next names ≡ Ok birth)
led_parts tree (Ok next) names birth h = (next, refl, h)
led_parts tree (Err refusal) names birth h = no_ok refusal birth h

-- names lead on from a node that names lead to
pub led_is_led : (tree : List (ℕ × Node)) (names : List (List ℕ)) (start birth : ℕ) → IsLedTo tree start → led_to tree start names ≡ Ok birth → IsLedTo tree birth
led_is_led tree [] start birth led h = subst (IsLedTo tree) (same_ok start birth h) led
led_is_led tree (name ∷ names) start birth led h =
    let parts = led_parts tree (step_at (at_number tree start) name) names birth h in
    led_is_led tree names parts.0 birth (by_name led (step_gives tree start name parts.0 parts.1)) parts.2

-- a node stands where names lead
pub led_stands : (tree : List (ℕ × Node)) → IsRooted tree → (birth : ℕ) → IsLedTo tree birth → (node : Node) × (at_number tree birth ≡ Some node)
led_stands tree rooted _ at_root = (nodes.Directory rooted.root.0, rooted.root.1)
led_stands tree rooted _ (by_name {parent} {birth} {name} led g) = rooted.leads parent name birth g

pub path_stands : (tree : List (ℕ × Node)) → IsRooted tree → (names : List (List ℕ)) (birth : ℕ) → node_of_path tree names ≡ Ok birth → (node : Node) × (at_number tree birth ≡ Some node)
path_stands tree rooted names birth h = led_stands tree rooted birth (led_is_led tree names 0 birth at_root h)

-- ---- a tree with itself

same_self : (n : Node) → SameMetadata n n
same_self (nodes.Directory d) = refl
same_self (nodes.File f) = (refl, refl, refl)
same_self (nodes.Other mode) = refl

same_at_self : (o : Option Node) (node : Node) → o ≡ Some node → SameMetadataAt o o
same_at_self o node e = subst (λ x. SameMetadataAt x x) (sym e) (same_self node)

links_self : (tree : List (ℕ × Node)) (o : Option Node) → SameLinks tree tree o o
links_self tree (Some (nodes.Directory d)) = refl
links_self tree (Some (nodes.File f)) = tt
links_self tree (Some (nodes.Other mode)) = tt
links_self tree None = tt

bytes_self : (o : Option Node) → SameBytes o o
bytes_self (Some (nodes.Directory d)) = tt
bytes_self (Some (nodes.File f)) = refl
bytes_self (Some (nodes.Other mode)) = tt
bytes_self None = tt

pub alike_self : (tree : List (ℕ × Node)) → IsRooted tree → AreAlike tree tree
alike_self tree rooted = record {
  to = λ birth. birth;
  same_paths = λ names birth h. h;
  no_more_paths = λ names h. h;
  same_metadata = λ names birth h. let x = path_stands tree rooted names birth h in same_at_self (at_number tree birth) x.0 x.1;
  same_links = λ names birth h. links_self tree (at_number tree birth);
  one_node = λ names more i j hi hj e. e;
}

pub same_tree_self : (tree : List (ℕ × Node)) → IsRooted tree → IsSameButBirths tree tree
unfolding alike_self
same_tree_self tree rooted = record { alike = alike_self tree rooted; same_bytes = λ names birth h. bytes_self (at_number tree birth) }

-- ---- one after the other

same_chain : (n m k : Node) → SameMetadata n m → SameMetadata m k → SameMetadata n k
same_chain (nodes.Directory d) (nodes.Directory e) (nodes.Directory f) h j = h ∙ j
same_chain (nodes.Directory d) (nodes.Directory e) (nodes.File f) h j = absurd j
same_chain (nodes.Directory d) (nodes.Directory e) (nodes.Other f) h j = absurd j
same_chain (nodes.Directory d) (nodes.File e) k h j = absurd h
same_chain (nodes.Directory d) (nodes.Other e) k h j = absurd h
same_chain (nodes.File d) (nodes.File e) (nodes.File f) h j = (h.0 ∙ j.0, h.1 ∙ j.1, h.2 ∙ j.2)
same_chain (nodes.File d) (nodes.File e) (nodes.Directory f) h j = absurd j
same_chain (nodes.File d) (nodes.File e) (nodes.Other f) h j = absurd j
same_chain (nodes.File d) (nodes.Directory e) k h j = absurd h
same_chain (nodes.File d) (nodes.Other e) k h j = absurd h
same_chain (nodes.Other d) (nodes.Other e) (nodes.Other f) h j = h ∙ j
same_chain (nodes.Other d) (nodes.Other e) (nodes.File f) h j = absurd j
same_chain (nodes.Other d) (nodes.Other e) (nodes.Directory f) h j = absurd j
same_chain (nodes.Other d) (nodes.File e) k h j = absurd h
same_chain (nodes.Other d) (nodes.Directory e) k h j = absurd h

same_at_chain : (n m k : Option Node) → SameMetadataAt n m → SameMetadataAt m k → SameMetadataAt n k
same_at_chain (Some n) (Some m) (Some k) h j = same_chain n m k h j
same_at_chain (Some n) (Some m) None h j = absurd j
same_at_chain (Some n) None k h j = absurd h
same_at_chain None m k h j = absurd h

-- nodes with the same metadata are of one kind, so what is said of directories alone, or of files alone, chains too
module _ (a b c : List (ℕ × Node)) where
  links_chain_by : (n m k : Node) → SameMetadata n m → SameMetadata m k → SameLinks a b (Some n) (Some m) → SameLinks b c (Some m) (Some k) → SameLinks a c (Some n) (Some k)
  links_chain_by (nodes.Directory d) (nodes.Directory e) (nodes.Directory f) h j x y = x ∙ y
  links_chain_by (nodes.Directory d) (nodes.Directory e) (nodes.File f) h j x y = tt
  links_chain_by (nodes.Directory d) (nodes.Directory e) (nodes.Other f) h j x y = tt
  links_chain_by (nodes.Directory d) (nodes.File e) k h j x y = absurd h
  links_chain_by (nodes.Directory d) (nodes.Other e) k h j x y = absurd h
  links_chain_by (nodes.File d) m k h j x y = tt
  links_chain_by (nodes.Other d) m k h j x y = tt

  links_chain : (n m k : Option Node) → SameMetadataAt n m → SameMetadataAt m k → SameLinks a b n m → SameLinks b c m k → SameLinks a c n k
  links_chain (Some n) (Some m) (Some k) h j x y = links_chain_by n m k h j x y
  links_chain (Some n) (Some m) None h j x y = absurd j
  links_chain (Some n) None k h j x y = absurd h
  links_chain None m k h j x y = absurd h

bytes_chain_by : (n m k : Node) → SameMetadata n m → SameMetadata m k → SameBytes (Some n) (Some m) → SameBytes (Some m) (Some k) → SameBytes (Some n) (Some k)
bytes_chain_by (nodes.File d) (nodes.File e) (nodes.File f) h j x y = x ∙ y
bytes_chain_by (nodes.File d) (nodes.File e) (nodes.Directory f) h j x y = tt
bytes_chain_by (nodes.File d) (nodes.File e) (nodes.Other f) h j x y = tt
bytes_chain_by (nodes.File d) (nodes.Directory e) k h j x y = absurd h
bytes_chain_by (nodes.File d) (nodes.Other e) k h j x y = absurd h
bytes_chain_by (nodes.Directory d) m k h j x y = tt
bytes_chain_by (nodes.Other d) m k h j x y = tt

bytes_chain : (n m k : Option Node) → SameMetadataAt n m → SameMetadataAt m k → SameBytes n m → SameBytes m k → SameBytes n k
bytes_chain (Some n) (Some m) (Some k) h j x y = bytes_chain_by n m k h j x y
bytes_chain (Some n) (Some m) None h j x y = absurd j
bytes_chain (Some n) None k h j x y = absurd h
bytes_chain None m k h j x y = absurd h

-- what is alike to one that is alike to a third is alike to it
pub alike_chain : (a b c : List (ℕ × Node)) → AreAlike a b → AreAlike b c → AreAlike a c
alike_chain a b c x y = record {
  to = λ n. y.to (x.to n);
  same_paths = λ names birth h. y.same_paths names (x.to birth) (x.same_paths names birth h);
  no_more_paths = λ names h. x.no_more_paths names (y.no_more_paths names h);
  same_metadata = λ names birth h.
      same_at_chain (at_number a birth) (at_number b (x.to birth)) (at_number c (y.to (x.to birth)))
      (x.same_metadata names birth h) (y.same_metadata names (x.to birth) (x.same_paths names birth h));
  same_links = λ names birth h.
      let there = x.same_paths names birth h in
      links_chain a b c (at_number a birth) (at_number b (x.to birth)) (at_number c (y.to (x.to birth)))
      (x.same_metadata names birth h) (y.same_metadata names (x.to birth) there)
      (x.same_links names birth h) (y.same_links names (x.to birth) there);
  one_node = λ names more i j hi hj e.
      x.one_node names more i j hi hj (y.one_node names more (x.to i) (x.to j) (x.same_paths names i hi) (x.same_paths more j hj) e);
}

pub same_tree_chain : (a b c : List (ℕ × Node)) → IsSameButBirths a b → IsSameButBirths b c → IsSameButBirths a c
unfolding alike_chain
same_tree_chain a b c x y = record {
  alike = alike_chain a b c x.alike y.alike;
  same_bytes = λ names birth h.
      let there = x.alike.same_paths names birth h in
      bytes_chain (at_number a birth) (at_number b (x.alike.to birth)) (at_number c (y.alike.to (x.alike.to birth)))
      (x.alike.same_metadata names birth h) (y.alike.same_metadata names (x.alike.to birth) there)
      (x.same_bytes names birth h) (y.same_bytes names (x.alike.to birth) there);
}

-- ---- paths of nodes

-- one name more
pub led_push : (tree : List (ℕ × Node)) (names : List (List ℕ)) (b p q : ℕ) (name : List ℕ) → led_to tree b names ≡ Ok p → step_at (at_number tree p) name ≡ Ok q →
    led_to tree b (names ++ name ∷ []) ≡ Ok q
led_push tree [] b p q name h s = ap (λ (r : Result ℕ Refusal). led_on tree r []) (subst (λ x. step_at (at_number tree x) name ≡ Ok q) (sym (same_ok b p h)) s)
led_push tree (n ∷ ns) b p q name h s =
    let parts = led_parts tree (step_at (at_number tree b) n) ns p h in
    ap (λ (r : Result ℕ Refusal). led_on tree r (ns ++ name ∷ [])) parts.1 ∙ led_push tree ns parts.0 p q name parts.2 s

-- a name of a tree is a step
pub step_given : (tree : List (ℕ × Node)) → IsRooted tree → (parent : ℕ) (name : List ℕ) (birth : ℕ) → HasEntry tree parent name birth → step_at (at_number tree parent) name ≡ Ok birth
step_given tree rooted parent name birth g =
    let width = rooted.of_width parent g.directory g.stands in
    let most = rooted.short parent name birth g in
    let short : nat_lt g.directory.width (length name) ≡ false = le-ltb g.directory.width (length name) (omega arith) in
    rw (g.stands, short, g.named) refl

pub has_path : (tree : List (ℕ × Node)) → IsRooted tree → (birth : ℕ) → IsLedTo tree birth → (names : List (List ℕ)) × (node_of_path tree names ≡ Ok birth)
has_path tree rooted _ at_root = ([], refl)
has_path tree rooted _ (by_name {parent} {birth} {name} h g) =
    let x = has_path tree rooted parent h in
    (x.0 ++ name ∷ [], led_push tree x.0 0 parent birth name x.1 (step_given tree rooted parent name birth g))

-- each node of a rooted tree has a path
pub node_has_path : (tree : List (ℕ × Node)) → IsRooted tree → (birth : ℕ) (node : Node) → at_number tree birth ≡ Some node → (names : List (List ℕ)) × (node_of_path tree names ≡ Ok birth)
node_has_path tree rooted birth node h = has_path tree rooted birth (rooted.led_to birth node h)
