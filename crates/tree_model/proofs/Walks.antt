-- What is left to be written, from name to name.
use Rattle.std.proofs.Common.{◌≡◌, ℕ, zero, suc, ◌+◌, ◌≤◌, List, [], ◌∷◌, ◌++◌, length, Option, Some, None, refl, sym, ap, ◌∙◌, arith}
use Rattle.std.specs.Option.{option_map, option_map_or, unwrap_or}
use Rattle.std.specs.List.{sum_by}
use Rattle.std.specs.Map.{lookup, values_of}
use Rattle.std.specs.BTreeMap.{is_at}
use Rattle.std.specs.Ordering.{nat_cmp}
use Rattle.std.proofs.lemmas.List.{append_assoc, length-append}
use Rattle.std.proofs.lemmas.Map.Entries.{sum_by-remove_entry}
use Rattle.std.proofs.lemmas.Map.Made.{lookup-map_values}
use Rattle.tree_model.specs.declared.node.Node.{Node}
use Rattle.tree_model.specs.declared.node.Node.TheVariants as nodes
use Rattle.tree_model.specs.declared.node.Directory.{Directory}
use Rattle.tree_model.specs.declared.node.File.{File}
use Rattle.tree_model.specs.Maps.{at_number, without_number}
use Rattle.tree_model.specs.Text.{Named, Showing, path_text, below, directory_line, file_lines, other_line, link_line, first_path, directory_met, file_met, shown, shown_through}
use Rattle.tree_model.specs.code.TextWalk.{Walking, with_names, text_left, names_in, names_left}
use Rattle.tree_model.proofs.Entries.{length-without, seen_by}

-- ---- the first path of a file

pub first_some : {S : Type 0} (f : S → List ℕ) (firsts : List (ℕ × S)) (birth : ℕ) (x : S) → Some x ≡ lookup (is_at (nat_cmp birth)) firsts → option_map_or path_text (at_number (seen_by f firsts) birth) [] ≡ path_text (f x)
first_some f firsts birth x found =
    ap (λ (o : Option (List ℕ)). option_map_or path_text o []) (lookup-map_values f (is_at (nat_cmp birth)) firsts ∙ ap (option_map f) (sym found))

pub first_none : {S : Type 0} (f : S → List ℕ) (firsts : List (ℕ × S)) (birth : ℕ) → None ≡ lookup (is_at (nat_cmp birth)) firsts → option_map_or path_text (at_number (seen_by f firsts) birth) [] ≡ []
first_none f firsts birth found =
    ap (λ (o : Option (List ℕ)). option_map_or path_text o []) (lookup-map_values f (is_at (nat_cmp birth)) firsts ∙ ap (option_map f) (sym found))

-- ---- the next name, by what stands at its birth

pub shown_link : (n : ℕ) (s : Showing) (e : Named) (rest : List Named) → at_number s.left e.birth ≡ None → shown n s (e ∷ rest) ≡ link_line e.path (first_path s e.birth) ++ shown n s rest
shown_link zero s e rest h = rw (h, shown_through) refl
shown_link (suc n) s e rest h = rw (h, shown_through) refl

pub shown_other : (n : ℕ) (s : Showing) (e : Named) (rest : List Named) (mode : ℕ) → at_number s.left e.birth ≡ Some (nodes.Other mode) → shown n s (e ∷ rest) ≡ other_line e.path mode ++ shown n s rest
shown_other zero s e rest mode h = rw (h, shown_through) refl
shown_other (suc n) s e rest mode h = rw (h, shown_through) refl

pub shown_file : (n : ℕ) (s : Showing) (e : Named) (rest : List Named) (f : File) → at_number s.left e.birth ≡ Some (nodes.File f) → shown (suc n) s (e ∷ rest) ≡ file_lines e.path f ++ shown n (file_met s e) rest
shown_file n s e rest f h = rw (h, shown_through) refl

pub shown_directory : (n : ℕ) (s : Showing) (e : Named) (rest : List Named) (d : Directory) → at_number s.left e.birth ≡ Some (nodes.Directory d) → shown (suc n) s (e ∷ rest) ≡ directory_line e.path ++ shown n (directory_met s e) (below e.path d.names ++ rest)
shown_directory n s e rest d h = rw (h, shown_through) refl

-- a line that was written, and what is left behind it
behind : (out line now left whole : List ℕ) → now ≡ out ++ line → whole ≡ line ++ left → now ++ left ≡ out ++ whole
behind out line now left whole written is =
    ap (λ (xs : List ℕ). xs ++ left) written ∙ append_assoc out line left ∙ ap (λ (xs : List ℕ). out ++ xs) (sym is)

pub link_shown : (w : Walking) (e : Named) (out now : List ℕ) → None ≡ at_number w.showing.left e.birth → now ≡ out ++ link_line e.path (first_path w.showing e.birth) → now ++ text_left w ≡ out ++ text_left (with_names (e ∷ []) w)
unfolding text_left
link_shown w e out now found written =
    behind out _ now _ _ written (shown_link (length w.showing.left) w.showing e w.names (sym found))

pub other_shown : (w : Walking) (e : Named) (mode : ℕ) (out now : List ℕ) → Some (nodes.Other mode) ≡ at_number w.showing.left e.birth → now ≡ out ++ other_line e.path mode → now ++ text_left w ≡ out ++ text_left (with_names (e ∷ []) w)
unfolding text_left
other_shown w e mode out now found written =
    behind out _ now _ _ written (shown_other (length w.showing.left) w.showing e w.names mode (sym found))

pub one_less : (left : List (ℕ × Node)) (birth : ℕ) (node : Node) → Some node ≡ at_number left birth → length left ≡ suc (length (without_number left birth))
one_less left birth node found = length-without (is_at (nat_cmp birth)) left node (sym found)

pub file_shown : (w after : Walking) (e : Named) (f : File) (out now : List ℕ) → Some (nodes.File f) ≡ at_number w.showing.left e.birth → now ≡ out ++ file_lines e.path f → after ≡ record { showing = file_met w.showing e; names = w.names } → now ++ text_left after ≡ out ++ text_left (with_names (e ∷ []) w)
unfolding text_left
file_shown w after e f out now found written met =
    let left = one_less w.showing.left e.birth (nodes.File f) found in
    rw met (
    behind out _ now _ _ written
    (ap (λ (n : ℕ). shown n w.showing (e ∷ w.names)) left ∙ shown_file (length (without_number w.showing.left e.birth)) w.showing e w.names f (sym found)))

pub directory_shown : (w after : Walking) (e : Named) (d : Directory) (out now : List ℕ) → Some (nodes.Directory d) ≡ at_number w.showing.left e.birth → now ≡ out ++ directory_line e.path → after ≡ record { showing = directory_met w.showing e; names = below e.path d.names ++ w.names } → now ++ text_left after ≡ out ++ text_left (with_names (e ∷ []) w)
unfolding text_left
directory_shown w after e d out now found written met =
    let left = one_less w.showing.left e.birth (nodes.Directory d) found in
    rw met (
    behind out _ now _ _ written
    (ap (λ (n : ℕ). shown n w.showing (e ∷ w.names)) left ∙ shown_directory (length (without_number w.showing.left e.birth)) w.showing e w.names d (sym found)))

-- ---- how many names are left

fewer_in : (left : List (ℕ × Node)) (birth : ℕ) (node : Node) → Some node ≡ at_number left birth → sum_by names_in (values_of (without_number left birth)) + names_in node ≡ sum_by names_in (values_of left)
fewer_in left birth node found =
    ap (λ (o : Option Node). sum_by names_in (values_of (without_number left birth)) + unwrap_or (option_map names_in o) 0) found
    ∙ sum_by-remove_entry names_in (is_at (nat_cmp birth)) left

pub file_fewer : (w after : Walking) (e : Named) (f : File) → Some (nodes.File f) ≡ at_number w.showing.left e.birth → after ≡ record { showing = file_met w.showing e; names = w.names } → names_left after ≤ names_left w
unfolding names_left
file_fewer w after e f found met =
    let fewer = fewer_in w.showing.left e.birth (nodes.File f) found in
    rw met (omega arith)

length-below : (path : List ℕ) (names : List (List ℕ × ℕ)) → length (below path names) ≡ length names
length-below path [] = refl
length-below path (e ∷ es) = ap suc (length-below path es)

pub directory_fewer : (w after : Walking) (e : Named) (d : Directory) → Some (nodes.Directory d) ≡ at_number w.showing.left e.birth → after ≡ record { showing = directory_met w.showing e; names = below e.path d.names ++ w.names } → names_left after ≤ names_left w
unfolding names_left
directory_fewer w after e d found met =
    let fewer = fewer_in w.showing.left e.birth (nodes.Directory d) found in
    rw met (omega (arith, length-append (below e.path d.names) w.names, length-below e.path d.names))

pub next_fewer : (w after : Walking) (e : Named) → w ≡ with_names (e ∷ []) after → suc (names_left after) ≡ names_left w
unfolding names_left
next_fewer w after e is = rw is (omega arith)

pub nothing : (n : ℕ) (s : Showing) → shown n s [] ≡ []
nothing zero s = refl
nothing (suc n) s = refl

-- nothing is left where no name is
pub all_shown : (w : Walking) → w.names ≡ [] → text_left w ≡ []
unfolding text_left
all_shown w none = rw none (nothing (length w.showing.left) w.showing)
