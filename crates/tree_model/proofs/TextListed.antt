-- The text of a tree is that of its listing.
use Rattle.std.proofs.Common.{◌≡◌, ℕ, zero, suc, ◌≤◌, List, [], ◌∷◌, ◌++◌, length, map, Option, Some, None, codes, refl, sym, ap, subst, ◌∙◌, inl, inr, ⊎_elim, arith}
use Rattle.std.specs.Prelude.{◌≢◌, ◌==◌}
use Rattle.std.specs.Option.{option_map, option_map_or}
use Rattle.std.proofs.lemmas.Bool.{cases_Bool, cases_eq, eqb-true, eq-eqb, ne_eqb}
use Rattle.std.proofs.lemmas.Option.{none-some}
use Rattle.std.proofs.lemmas.List.{append_assoc, append-nil, map-append}
use Rattle.std.proofs.lemmas.Map.Keys.{IsDistinct-from_sorted}
use Rattle.std.specs.Map.{keys_of}
use Rattle.std.specs.Ordering.{nat_cmp}
use Rattle.blk_base.specs.Members.{In}
use Rattle.tree_model.specs.declared.node.Node.{Node}
use Rattle.tree_model.specs.declared.node.Node.TheVariants as nodes
use Rattle.tree_model.specs.declared.node.Directory.{Directory}
use Rattle.tree_model.specs.declared.node.File.{File}
use Rattle.tree_model.specs.Maps.{at_number, put_number, without_number}
use Rattle.tree_model.specs.Text.{Named, Showing, name_text, path_text, below, directory_line, file_lines, other_line, link_line, first_path, directory_met, file_met, shown, tree_text}
use Rattle.tree_model.specs.laws.Listing.{Listed, listed_root, names_of, listed_below, Lists, listed_path, first_listed, lines_of, listing_text}
use Rattle.tree_model.specs.Rooted.{IsRooted}
use Rattle.tree_model.proofs.Lookups.{AreApart, apart_without, at_without_here, at_without_apart}
use Rattle.tree_model.specs.laws.MapsLaws.{at_put_number, at_put_number_apart}
use Rattle.tree_model.proofs.Walks.{shown_link, shown_other, shown_file, shown_directory, one_less, nothing}
use Rattle.tree_model.proofs.ListedOnce.{children, IsWalk, walk_stands, walk_on, apart_before}

-- ---- paths

abbrev named : Listed → Named
named e = record { path = listed_path e.names; birth = e.birth }

path_below : (names : List (List ℕ)) (more : List ℕ) → listed_path (names ++ more ∷ []) ≡ listed_path names ++ codes "/" ++ name_text more
path_below [] more = ap (λ (bs : List ℕ). 47 ∷ bs) (append-nil (name_text more))
path_below (first ∷ names) more =
    ap (λ (bs : List ℕ). codes "/" ++ name_text first ++ bs) (path_below names more) ∙ simp append_assoc

abbrev at_path : ℕ → List ℕ → Named
at_path birth path = record { path = path; birth = birth }

named_below : (names : List (List ℕ)) (entries : List (List ℕ × ℕ)) → map named (listed_below names entries) ≡ below (listed_path names) entries
named_below names [] = refl
named_below names (e ∷ es) =
    ap (λ (path : List ℕ). at_path e.1 path ∷ map named (listed_below names es)) (path_below names e.0)
    ∙ ap (λ (ns : List Named). at_path e.1 (listed_path names ++ codes "/" ++ name_text e.0) ∷ ns) (named_below names es)

-- ---- the names at which a node is listed first

first_after : (before : List Listed) (e : Listed) (birth : ℕ) → e.birth ≢ birth → first_listed (before ++ e ∷ []) birth ≡ first_listed before birth
first_after [] e birth apart = rw (ne_eqb e.birth birth apart)
first_after (x ∷ xs) e birth apart =
    elim (cases_Bool (x.birth == birth)) [
      | inl t ↦ rw t
      | inr f ↦ rw f (first_after xs e birth apart)
    ]

first_kept : (before : List Listed) (e : Listed) (birth : ℕ) (names : List (List ℕ)) → first_listed before birth ≡ Some names → first_listed (before ++ e ∷ []) birth ≡ Some names
first_kept [] e birth names h = absurd (none-some names h)
first_kept (x ∷ xs) e birth names h =
    elim (cases_Bool (x.birth == birth)) [
      | inl t ↦ rw t (rw t at h)
      | inr f ↦ rw f (first_kept xs e birth names (rw f at h))
    ]

first_new : (before : List Listed) (e : Listed) → first_listed before e.birth ≡ None → first_listed (before ++ e ∷ []) e.birth ≡ Some e.names
first_new [] e h = rw (eq-eqb e.birth e.birth refl)
first_new (x ∷ xs) e h =
    elim (cases_Bool (x.birth == e.birth)) [
      | inl t ↦ absurd (none-some x.names (sym (rw t at h)))
      | inr f ↦ rw f (first_new xs e (rw f at h))
    ]

first_In : (before : List Listed) (birth : ℕ) (names : List (List ℕ)) → first_listed before birth ≡ Some names → (x : Listed) × In x before × (x.birth ≡ birth)
first_In [] birth names h = absurd (none-some names h)
first_In (x ∷ xs) birth names h =
    elim (cases_Bool (x.birth == birth)) [
      | inl t ↦ (x, inl refl, eqb-true x.birth birth t)
      | inr f ↦ let i = first_In xs birth names (rw f at h) in (i.0, inr i.1, i.2)
    ]

-- ---- what a walk has met

-- what is left at a birth, by the names at which it was listed first: directories and files are met once
abbrev left_of : Option Node → Option (List (List ℕ)) → Option Node
left_of None first = None
left_of (Some (nodes.Other mode)) first = Some (nodes.Other mode)
left_of (Some (nodes.Directory d)) None = Some (nodes.Directory d)
left_of (Some (nodes.Directory d)) (Some first) = None
left_of (Some (nodes.File f)) None = Some (nodes.File f)
left_of (Some (nodes.File f)) (Some first) = None

left_all : (node : Option Node) → node ≡ left_of node None
left_all None = refl
left_all (Some (nodes.Other mode)) = refl
left_all (Some (nodes.Directory d)) = refl
left_all (Some (nodes.File f)) = refl

-- the nodes that are left and the first paths, after these names
record HasMet (tree : List (ℕ × Node)) (s : Showing) (before : List Listed) : Type 0 where
  left : (birth : ℕ) → at_number s.left birth ≡ left_of (at_number tree birth) (first_listed before birth)
  apart : AreApart s.left
  firsts : (birth : ℕ) (f : File) → at_number tree birth ≡ Some (nodes.File f) → at_number s.firsts birth ≡ option_map listed_path (first_listed before birth)

module _ (tree : List (ℕ × Node)) (s : Showing) (before : List Listed) (e : Listed) (met : HasMet tree s before) where
  -- where nothing is taken out
  left_stays : left_of (at_number tree e.birth) (first_listed before e.birth) ≡ left_of (at_number tree e.birth) (first_listed (before ++ e ∷ []) e.birth) →
      (birth : ℕ) → at_number s.left birth ≡ left_of (at_number tree birth) (first_listed (before ++ e ∷ []) birth)
  left_stays here birth =
      ⊎_elim
      (λ same. subst (λ birth. at_number s.left birth ≡ left_of (at_number tree birth) (first_listed (before ++ e ∷ []) birth)) same (met.left e.birth ∙ here))
      (λ apart. met.left birth ∙ ap (left_of (at_number tree birth)) (sym (first_after before e birth apart)))
      (cases_eq e.birth birth)

  -- where the node is taken out
  left_less : None ≡ left_of (at_number tree e.birth) (first_listed (before ++ e ∷ []) e.birth) →
      (birth : ℕ) → at_number (without_number s.left e.birth) birth ≡ left_of (at_number tree birth) (first_listed (before ++ e ∷ []) birth)
  left_less here birth =
      ⊎_elim
      (λ same. subst (λ birth. at_number (without_number s.left e.birth) birth ≡ left_of (at_number tree birth) (first_listed (before ++ e ∷ []) birth)) same
      (at_without_here s.left e.birth met.apart ∙ here))
      (λ apart. at_without_apart s.left e.birth birth met.apart apart ∙ (met.left birth ∙ ap (left_of (at_number tree birth)) (sym (first_after before e birth apart))))
      (cases_eq e.birth birth)

  firsts_stay : ((f : File) → at_number tree e.birth ≡ Some (nodes.File f) → first_listed before e.birth ≡ first_listed (before ++ e ∷ []) e.birth) →
      (birth : ℕ) (f : File) → at_number tree birth ≡ Some (nodes.File f) → at_number s.firsts birth ≡ option_map listed_path (first_listed (before ++ e ∷ []) birth)
  firsts_stay here birth f is =
      met.firsts birth f is
      ∙ ap (option_map listed_path)
      (⊎_elim
      (λ same. subst (λ birth. first_listed before birth ≡ first_listed (before ++ e ∷ []) birth) same (here f (ap (at_number tree) same ∙ is)))
      (λ apart. sym (first_after before e birth apart))
      (cases_eq e.birth birth))

  met_other : (mode : ℕ) → at_number tree e.birth ≡ Some (nodes.Other mode) → HasMet tree s (before ++ e ∷ [])
  met_other mode is = record {
    left = left_stays (rw is refl);
    apart = met.apart;
    firsts = firsts_stay (λ f file. absurd (let h : ◌≡◌ {A = Option Node} (Some (nodes.Other mode)) (Some (nodes.File f)) = sym is ∙ file in cc));
  }

  met_link : (f : File) (first : List (List ℕ)) → at_number tree e.birth ≡ Some (nodes.File f) → first_listed before e.birth ≡ Some first → HasMet tree s (before ++ e ∷ [])
  met_link f first is known = record {
    left = left_stays (ap (left_of (at_number tree e.birth)) (known ∙ sym (first_kept before e e.birth first known)));
    apart = met.apart;
    firsts = firsts_stay (λ f file. known ∙ sym (first_kept before e e.birth first known));
  }

  met_file : (f : File) → at_number tree e.birth ≡ Some (nodes.File f) → first_listed before e.birth ≡ None → HasMet tree (file_met s (named e)) (before ++ e ∷ [])
  met_file f is new = record {
    left = left_less (rw (is, first_new before e new) refl);
    apart = apart_without s.left e.birth met.apart;
    firsts = λ birth g file.
        ⊎_elim
        (λ same. subst (λ birth. at_number (put_number s.firsts e.birth (listed_path e.names)) birth ≡ option_map listed_path (first_listed (before ++ e ∷ []) birth)) same
        (at_put_number s.firsts e.birth (listed_path e.names) ∙ ap (option_map listed_path) (sym (first_new before e new))))
        (λ apart. at_put_number_apart s.firsts e.birth (listed_path e.names) birth (λ same. apart (sym same)) ∙ (met.firsts birth g file ∙ ap (option_map listed_path) (sym (first_after before e birth apart))))
        (cases_eq e.birth birth);
  }

  met_directory : (d : Directory) → at_number tree e.birth ≡ Some (nodes.Directory d) → first_listed before e.birth ≡ None → HasMet tree (directory_met s (named e)) (before ++ e ∷ [])
  met_directory d is new = record {
    left = left_less (rw (is, first_new before e new) refl);
    apart = apart_without s.left e.birth met.apart;
    firsts = firsts_stay (λ f file. absurd (let h : ◌≡◌ {A = Option Node} (Some (nodes.Directory d)) (Some (nodes.File f)) = sym is ∙ file in cc));
  }

-- ---- the text from these names on

-- a listing from the pending names on, with this text
record IsListed (tree : List (ℕ × Node)) (before pending : List Listed) (text : List ℕ) : Type 0 where
  listing : List Listed
  lists : Lists tree pending listing
  is : text ≡ listing_text tree before listing

-- one name before a listing
one_more : (tree : List (ℕ × Node)) (before rest : List Listed) (e : Listed) (line after text : List ℕ) →
    text ≡ line ++ after → line ≡ lines_of tree before e → IsListed tree (before ++ e ∷ []) (children tree e ++ rest) after → IsListed tree before (e ∷ rest) text
one_more tree before rest e line after text is here x = record {
  listing = e ∷ x.listing;
  lists = Lists.name x.lists;
  is = is ∙ (ap (λ (l : List ℕ). l ++ after) here ∙ ap (λ (t : List ℕ). lines_of tree before e ++ t) x.is);
}

module _ (tree : List (ℕ × Node)) (rooted : IsRooted tree) where
  abbrev IsListedFrom : ℕ → List Listed → Type 0
  IsListedFrom n pending = (s : Showing) (before : List Listed) → HasMet tree s before → IsWalk tree rooted before pending → length s.left ≤ n →
      IsListed tree before pending (shown n s (map named pending))

  -- a directory is new
  new_directory : (before rest : List Listed) (e : Listed) (d : Directory) → IsWalk tree rooted before (e ∷ rest) → at_number tree e.birth ≡ Some (nodes.Directory d) → first_listed before e.birth ≡ None
  new_directory before rest e d w is = by (first_listed before e.birth) refl
    where
      by : (first : Option (List (List ℕ))) → first_listed before e.birth ≡ first → first ≡ None
      by None known = refl
      by (Some first) known =
          let x = first_In before e.birth first known in
          absurd (apart_before tree rooted before e rest x.0 w.apart x.1 (d, is) x.2)

  no_children : (before rest : List Listed) (e : Listed) → IsWalk tree rooted before (e ∷ rest) → names_of (at_number tree e.birth) ≡ [] → IsWalk tree rooted (before ++ e ∷ []) rest
  no_children before rest e w none = subst (λ ns. IsWalk tree rooted (before ++ e ∷ []) (listed_below e.names ns ++ rest)) none (walk_on tree rooted before rest e w)

  listed_without : (before rest : List Listed) (e : Listed) (text : List ℕ) → names_of (at_number tree e.birth) ≡ [] → IsListed tree (before ++ e ∷ []) rest text →
      IsListed tree (before ++ e ∷ []) (children tree e ++ rest) text
  listed_without before rest e text none x = subst (λ ns. IsListed tree (before ++ e ∷ []) (listed_below e.names ns ++ rest) text) (sym none) x

  module _ (s : Showing) (before rest : List Listed) (e : Listed) (met : HasMet tree s before) (w : IsWalk tree rooted before (e ∷ rest)) where
    other_listed : (n : ℕ) (mode : ℕ) → at_number tree e.birth ≡ Some (nodes.Other mode) → IsListedFrom n rest → length s.left ≤ n →
        IsListed tree before (e ∷ rest) (shown n s (named e ∷ map named rest))
    other_listed n mode is again fits =
        let none : names_of (at_number tree e.birth) ≡ [] = ap names_of is in
        one_more tree before rest e (other_line (listed_path e.names) mode) (shown n s (map named rest)) _
        (shown_other n s (named e) (map named rest) mode (met.left e.birth ∙ rw is refl))
        (rw is refl)
        (listed_without before rest e (shown n s (map named rest)) none
        (again s (before ++ e ∷ []) (met_other tree s before e met mode is) (no_children before rest e w none) fits))

    link_listed : (n : ℕ) (f : File) (first : List (List ℕ)) → at_number tree e.birth ≡ Some (nodes.File f) → first_listed before e.birth ≡ Some first → IsListedFrom n rest → length s.left ≤ n →
        IsListed tree before (e ∷ rest) (shown n s (named e ∷ map named rest))
    link_listed n f first is known again fits =
        let none : names_of (at_number tree e.birth) ≡ [] = ap names_of is in
        let path : first_path s e.birth ≡ path_text (listed_path first) =
        ap (λ (o : Option (List ℕ)). option_map_or path_text o []) (met.firsts e.birth f is ∙ ap (option_map listed_path) known) in
        one_more tree before rest e (link_line (listed_path e.names) (first_path s e.birth)) (shown n s (map named rest)) _
        (shown_link n s (named e) (map named rest) (met.left e.birth ∙ rw (is, known) refl))
        (ap (link_line (listed_path e.names)) path ∙ rw (is, known) refl)
        (listed_without before rest e (shown n s (map named rest)) none
        (again s (before ++ e ∷ []) (met_link tree s before e met f first is known) (no_children before rest e w none) fits))

    file_listed : (n : ℕ) (f : File) → at_number tree e.birth ≡ Some (nodes.File f) → first_listed before e.birth ≡ None → ((m : ℕ) (pending : List Listed) → n ≡ suc m → IsListedFrom m pending) → length s.left ≤ n →
        IsListed tree before (e ∷ rest) (shown n s (named e ∷ map named rest))
    file_listed n f is new again fits = by n again fits
      where
        stands : at_number s.left e.birth ≡ Some (nodes.File f)
        stands = met.left e.birth ∙ rw (is, new) refl

        by : (n : ℕ) → ((m : ℕ) (pending : List Listed) → n ≡ suc m → IsListedFrom m pending) → length s.left ≤ n → IsListed tree before (e ∷ rest) (shown n s (named e ∷ map named rest))
        by zero again fits = absurd (omega (arith, one_less s.left e.birth (nodes.File f) (sym stands)))
        by (suc n) again fits =
            let none : names_of (at_number tree e.birth) ≡ [] = ap names_of is in
            one_more tree before rest e (file_lines (listed_path e.names) f) (shown n (file_met s (named e)) (map named rest)) _
            (shown_file n s (named e) (map named rest) f stands)
            (rw (is, new) refl)
            (listed_without before rest e (shown n (file_met s (named e)) (map named rest)) none
            (again n rest refl (file_met s (named e)) (before ++ e ∷ []) (met_file tree s before e met f is new) (no_children before rest e w none)
            (omega (arith, one_less s.left e.birth (nodes.File f) (sym stands)))))

    directory_listed : (n : ℕ) (d : Directory) → at_number tree e.birth ≡ Some (nodes.Directory d) → ((m : ℕ) (pending : List Listed) → n ≡ suc m → IsListedFrom m pending) → length s.left ≤ n →
        IsListed tree before (e ∷ rest) (shown n s (named e ∷ map named rest))
    directory_listed n d is again fits = by n again fits
      where
        new : first_listed before e.birth ≡ None
        new = new_directory before rest e d w is

        stands : at_number s.left e.birth ≡ Some (nodes.Directory d)
        stands = met.left e.birth ∙ rw (is, new) refl

        pending_named : map named (children tree e ++ rest) ≡ below (listed_path e.names) d.names ++ map named rest
        pending_named =
            map-append named (children tree e) rest
            ∙ ap (λ (ns : List Named). ns ++ map named rest) (named_below e.names (names_of (at_number tree e.birth)) ∙ ap (λ (o : Option Node). below (listed_path e.names) (names_of o)) is)

        by : (n : ℕ) → ((m : ℕ) (pending : List Listed) → n ≡ suc m → IsListedFrom m pending) → length s.left ≤ n → IsListed tree before (e ∷ rest) (shown n s (named e ∷ map named rest))
        by zero again fits = absurd (omega (arith, one_less s.left e.birth (nodes.Directory d) (sym stands)))
        by (suc n) again fits =
            one_more tree before rest e (directory_line (listed_path e.names)) (shown n (directory_met s (named e)) (map named (children tree e ++ rest))) _
            (shown_directory n s (named e) (map named rest) d stands
            ∙ ap (λ (ns : List Named). directory_line (listed_path e.names) ++ shown n (directory_met s (named e)) ns) (sym pending_named))
            (rw is refl)
            (again n (children tree e ++ rest) refl (directory_met s (named e)) (before ++ e ∷ []) (met_directory tree s before e met d is new) (walk_on tree rooted before rest e w)
            (omega (arith, one_less s.left e.birth (nodes.Directory d) (sym stands))))

    name_listed : (n : ℕ) (node : Option Node) → at_number tree e.birth ≡ node → (first : Option (List (List ℕ))) → first_listed before e.birth ≡ first →
        ((m : ℕ) (pending : List Listed) → n ≡ suc m → IsListedFrom m pending) → IsListedFrom n rest → length s.left ≤ n → IsListed tree before (e ∷ rest) (shown n s (named e ∷ map named rest))
    name_listed n None is first known less again fits = let x = walk_stands tree rooted before rest e w in absurd (none-some x.0 (sym is ∙ x.1))
    name_listed n (Some (nodes.Directory d)) is first known less again fits = directory_listed n d is less fits
    name_listed n (Some (nodes.Other mode)) is first known less again fits = other_listed n mode is again fits
    name_listed n (Some (nodes.File f)) is None known less again fits = file_listed n f is known less fits
    name_listed n (Some (nodes.File f)) is (Some first) known less again fits = link_listed n f first is known again fits

  listed_through : (n : ℕ) → ((m : ℕ) (pending : List Listed) → n ≡ suc m → IsListedFrom m pending) → (pending : List Listed) → IsListedFrom n pending
  listed_through n less [] s before met w fits = record { listing = []; lists = Lists.nothing; is = nothing n s }
  listed_through n less (e ∷ rest) s before met w fits =
      name_listed s before rest e met w n (at_number tree e.birth) refl (first_listed before e.birth) refl less (listed_through n less rest) fits

  listed_from : (n : ℕ) (pending : List Listed) → IsListedFrom n pending
  listed_from zero = listed_through zero (λ m pending same. absurd (let h : zero ≡ suc m = same in cc))
  listed_from (suc n) = listed_through (suc n) (λ m pending same. subst (λ m. IsListedFrom m pending) (let h : suc n ≡ suc m = same in omega arith) (listed_from n pending))

  pub text_listed : (listing : List Listed) × Lists tree (listed_root ∷ []) listing × (tree_text tree ≡ listing_text tree [] listing)
  unfolding tree_text
  text_listed =
      let x = listed_from (length tree) (listed_root ∷ []) (record { left = tree; firsts = [] }) []
      (record {
        left = λ birth. left_all (at_number tree birth);
        apart = IsDistinct-from_sorted nat_cmp (keys_of tree) rooted.in_order;
        firsts = λ birth f is. refl;
      })
      (record {
        placed = λ x i. ⊎_elim (λ same. inl (sym (ap (λ (x : Listed). x.birth) same))) (λ j. absurd j) i;
        apart = (λ y i directory same. absurd i, tt);
      })
      (omega arith) in
      (x.listing, x.lists, x.is)
