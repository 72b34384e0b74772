-- The tree of a widened volume hangs together as the tree did.
use Rattle.std.specs.Prelude.{◌≡◌, ℕ, zero, suc, ◌≤◌, List, [], ◌∷◌, Some, refl}
use Rattle.std.specs.List.{AllByRecursion, slice_get}
use Rattle.std.specs.List.Sorted.{IsStrictlySortedBy}
use Rattle.std.specs.Map.{keys_of}
use Rattle.std.specs.Ordering.{nat_cmp, is_eq}
use Rattle.std.specs.declared.cmp.Ordering.TheVariants.{Less}
use Rattle.std.specs.BTreeMap.{is_at}
use Rattle.std.proofs.Common.{sym, ap, subst, ◌∙◌, inl, inr, arith}
use Rattle.std.proofs.lemmas.Bool.{cases_Bool, true≢false}
use Rattle.std.proofs.lemmas.Map.Keys.{sorted_head, sorted_tail}
use Rattle.std.proofs.lemmas.Option.{none-some, same_Some}
use Rattle.tree_model.specs.declared.node.Node.{Node}
use Rattle.tree_model.specs.declared.node.Node.TheVariants as nodes
use Rattle.tree_model.specs.declared.node.Directory.{Directory}
use Rattle.tree_model.specs.declared.node.File.{File}
use Rattle.tree_model.specs.Maps.{at_number, at_name, name_cmp}
use Rattle.tree_model.specs.laws.MapsLaws.{name_here}
use Rattle.tree_model.specs.Rooted.{HasEntry, IsLedTo, at_root, by_name, IsRooted}
use Rattle.volume_model.specs.laws.Trees.{seen_by, seen_at}
use Rattle.widening.specs.WideTrees.{wide_directory, wide_node, wide_tree}

-- ---- what stands at a birth

pub seen_back : {X Y : Type 0} (f : X → Y) (es : List (ℕ × X)) (k : ℕ) (y : Y) → at_number (seen_by f es) k ≡ Some y → (x : X) × (at_number es k ≡ Some x) × (f x ≡ y)
seen_back f [] k y h = absurd (none-some y h)
seen_back f (e ∷ es) k y h =
    elim (cases_Bool (is_at (nat_cmp k) e.0)) [
      | inl t ↦ (e.1, rw t refl, same_Some (f e.1) y (rw t at h))
      | inr u ↦ (let x = seen_back f es k y (rw u at h) in (x.0, rw u x.1, x.2))
    ]

seen_keys : {X Y : Type 0} (f : X → Y) (es : List (ℕ × X)) → keys_of (seen_by f es) ≡ keys_of es
seen_keys f [] = refl
seen_keys f (e ∷ es) = ap (λ ks. e.0 ∷ ks) (seen_keys f es)

pub wide_at : (tree : List (ℕ × Node)) (birth : ℕ) (node : Node) → at_number tree birth ≡ Some node → at_number (wide_tree tree) birth ≡ Some (wide_node node)
wide_at tree birth node at = seen_at wide_node tree birth node at

pub narrow_at : (tree : List (ℕ × Node)) (birth : ℕ) (node : Node) → at_number (wide_tree tree) birth ≡ Some node → (old : Node) × (at_number tree birth ≡ Some old) × (wide_node old ≡ node)
narrow_at tree birth node at = seen_back wide_node tree birth node at

-- ---- directories and files of it

abbrev directory_in : Node → Directory → Directory
directory_in (nodes.Directory d) e = d
directory_in (nodes.File f) e = e
directory_in (nodes.Other mode) e = e

from_directory : (old : Node) (d : Directory) → wide_node old ≡ nodes.Directory d → (e : Directory) × (old ≡ nodes.Directory e) × (wide_directory e ≡ d)
from_directory (nodes.Directory e) d is = (e, refl, ap (λ n. directory_in n d) is)
from_directory (nodes.File f) d is = absurd (let e : nodes.File f ≡ nodes.Directory d = is in cc)
from_directory (nodes.Other mode) d is = absurd (let e : nodes.Other mode ≡ nodes.Directory d = is in cc)

from_file : (old : Node) (f : File) → wide_node old ≡ nodes.File f → old ≡ nodes.File f
from_file (nodes.Directory e) f is = absurd (let e : nodes.Directory (wide_directory e) ≡ nodes.File f = is in cc)
from_file (nodes.File e) f is = is
from_file (nodes.Other mode) f is = absurd (let e : nodes.Other mode ≡ nodes.File f = is in cc)

pub narrow_directory : (tree : List (ℕ × Node)) (birth : ℕ) (d : Directory) → at_number (wide_tree tree) birth ≡ Some (nodes.Directory d) → (e : Directory) × (at_number tree birth ≡ Some (nodes.Directory e)) × (wide_directory e ≡ d)
narrow_directory tree birth d at =
    let x = narrow_at tree birth (nodes.Directory d) at in
    let y = from_directory x.0 d x.2 in
    (y.0, x.1 ∙ ap Some y.1, y.2)

pub narrow_file : (tree : List (ℕ × Node)) (birth : ℕ) (f : File) → at_number (wide_tree tree) birth ≡ Some (nodes.File f) → at_number tree birth ≡ Some (nodes.File f)
narrow_file tree birth f at = let x = narrow_at tree birth (nodes.File f) at in x.1 ∙ ap Some (from_file x.0 f x.2)

-- ---- names

pub wide_entry : (tree : List (ℕ × Node)) (parent birth : ℕ) (name : List ℕ) → HasEntry tree parent name birth → HasEntry (wide_tree tree) parent name birth
wide_entry tree parent birth name h = record { directory = wide_directory h.directory; stands = wide_at tree parent (nodes.Directory h.directory) h.stands; named = h.named }

pub narrow_entry : (tree : List (ℕ × Node)) (parent birth : ℕ) (name : List ℕ) → HasEntry (wide_tree tree) parent name birth → HasEntry tree parent name birth
narrow_entry tree parent birth name h =
    let x = narrow_directory tree parent h.directory h.stands in
    record { directory = x.0; stands = x.1; named = subst (λ (d : Directory). at_name d.names name ≡ Some birth) (sym x.2) h.named }

wide_led : (tree : List (ℕ × Node)) {birth : ℕ} → IsLedTo tree birth → IsLedTo (wide_tree tree) birth
wide_led tree at_root = at_root
wide_led tree (by_name {parent} {birth} {name} led entry) = by_name (wide_led tree led) (wide_entry tree parent birth name entry)

-- ---- names of a directory in order

key_apart : (k : List ℕ) (ks : List (List ℕ × ℕ)) (j : ℕ) (e : List ℕ × ℕ) → AllByRecursion (λ y. name_cmp k y ≡ Less) (keys_of ks) → slice_get ks j ≡ Some e → e.0 ≡ k → ⊥
key_apart k [] j e all got same = none-some e got
key_apart k (x ∷ ks) zero e all got same =
    let here : name_cmp k k ≡ Less = subst (λ y. name_cmp k y ≡ Less) (ap (λ (p : List ℕ × ℕ). p.0) (same_Some x e got) ∙ same) all.0 in
    true≢false (sym (name_here k) ∙ ap is_eq here)
key_apart k (x ∷ ks) (suc j) e all got same = key_apart k ks j e all.1 got same

-- a name stands at one place
pub one_name_place : (names : List (List ℕ × ℕ)) (j k : ℕ) (e f : List ℕ × ℕ) → IsStrictlySortedBy name_cmp (keys_of names) → slice_get names j ≡ Some e → slice_get names k ≡ Some f → e.0 ≡ f.0 → j ≡ k
one_name_place [] j k e f sorted got also same = absurd (none-some e got)
one_name_place (x ∷ names) zero zero e f sorted got also same = refl
one_name_place (x ∷ names) zero (suc k) e f sorted got also same =
    absurd (key_apart x.0 names k f (sorted_head name_cmp x.0 (keys_of names) sorted) also (sym same ∙ sym (ap (λ (p : List ℕ × ℕ). p.0) (same_Some x e got))))
one_name_place (x ∷ names) (suc j) zero e f sorted got also same =
    absurd (key_apart x.0 names j e (sorted_head name_cmp x.0 (keys_of names) sorted) got (same ∙ sym (ap (λ (p : List ℕ × ℕ). p.0) (same_Some x f also))))
one_name_place (x ∷ names) (suc j) (suc k) e f sorted got also same = ap suc (one_name_place names j k e f (sorted_tail name_cmp x.0 (keys_of names) sorted) got also same)

-- ---- the tree

pub wide_rooted : (tree : List (ℕ × Node)) (h : IsRooted tree) → h.width ≤ 30 → IsRooted (wide_tree tree)
wide_rooted tree h low = record {
  in_order = subst (λ ks. IsStrictlySortedBy nat_cmp ks) (sym (seen_keys wide_node tree)) h.in_order;
  names_in_order = λ birth d at.
      let x = narrow_directory tree birth d at in
      subst (λ (d : Directory). IsStrictlySortedBy name_cmp (keys_of d.names)) x.2 (h.names_in_order birth x.0 x.1);
  root = (wide_directory h.root.0, wide_at tree 0 (nodes.Directory h.root.0) h.root.1);
  width = 30;
  of_width = λ birth d at. let x = narrow_directory tree birth d at in sym (ap (λ (d : Directory). d.width) x.2);
  short = λ parent name birth entry. let s = h.short parent name birth (narrow_entry tree parent birth name entry) in omega (arith, s, low);
  leads = λ parent name birth entry. let x = h.leads parent name birth (narrow_entry tree parent birth name entry) in (wide_node x.0, wide_at tree birth x.0 x.1);
  no_root = λ parent name birth entry. h.no_root parent name birth (narrow_entry tree parent birth name entry);
  one_name = λ parent other name more birth d entry also at.
      let x = narrow_directory tree birth d at in
      h.one_name parent other name more birth x.0 (narrow_entry tree parent birth name entry) (narrow_entry tree other birth more also) x.1;
  led_to = λ birth node at. let x = narrow_at tree birth node at in wide_led tree (h.led_to birth x.0 x.1);
}
