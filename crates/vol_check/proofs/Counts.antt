-- How many names are counted, and what is wanted of the links.
use Rattle.std.specs.Prelude.{◌≡◌, ℕ, zero, suc, ◌+◌, ◌<◌, ◌==◌, ◌↔◌, min, cond, if◌then◌else◌, Bool, true, false, List, [], ◌∷◌, length, replicate, get_or, slice_set, Option, Some, None, is_some, option_map, unwrap_or, refl}
use Rattle.std.specs.List.{count_by}
use Rattle.std.specs.Map.{values_of}
use Rattle.std.proofs.Common.{sym, ap, subst, ◌∙◌, ⊎_elim, arith}
use Rattle.std.proofs.lemmas.Bool.{cases_eq, eq-eqb, ne_eqb}
use Rattle.std.proofs.lemmas.List.{get_or-set_same, get_or-set_other}
use Rattle.std.proofs.lemmas.List.Sums.{sum_by-cons}
use Rattle.std.proofs.lemmas.Option.{none-some, same_Some}
use Rattle.tree_model.specs.declared.node.Node.{Node}
use Rattle.tree_model.specs.declared.node.Node.TheVariants as nodes
use Rattle.tree_model.specs.declared.node.Directory.{Directory}
use Rattle.tree_model.specs.Maps.{at_number}
use Rattle.tree_model.specs.Plain.{names_in_node, names_to}
use Rattle.tree_model.specs.Trees.{is_directory, directory_links}
use Rattle.vol_check.specs.Clean.{links_in}
use Rattle.vol_check.specs.code.Births.{directory_at}
use Rattle.vol_check.specs.code.Names.{most, names_by, names_below, IsCount, IsWanted}

-- ---- one name, and the names of a directory

sum_told : (a b k : ℕ) → IsCount a b → IsCount (a + k) (b + k)
sum_told a b k is = omega (arith, is)

set_count : (now : List ℕ) (birth other : ℕ) → other < length now →
    get_or (slice_set now birth (min (get_or now birth 0 + 1) most)) other 0 ≡ (if birth == other then min (get_or now other 0 + 1) most else get_or now other 0)
set_count now birth other inside =
    ⊎_elim
    (λ same.
    rw (eq-eqb birth other same)
    (subst (λ b. get_or (slice_set now birth (min (get_or now birth 0 + 1) most)) b 0 ≡ min (get_or now b 0 + 1) most) same
    (get_or-set_same now birth (min (get_or now birth 0 + 1) most) 0 (subst (λ b. b < length now) (sym same) inside))))
    (λ apart. rw (ne_eqb birth other apart) (get_or-set_other now birth other (min (get_or now birth 0 + 1) most) 0 (λ e. apart (sym e))))
    (cases_eq birth other)

count_step : (b : Bool) (x k rest : ℕ) → k ≡ cond b 1 0 + rest → min ((if b then min (x + 1) most else x) + rest) most ≡ min (x + k) most
count_step true x k rest is = omega (arith, is)
count_step false x k rest is = omega (arith, is)

-- one name is counted
pub count_more : (now : List ℕ) (birth other : ℕ) (rest : List ℕ) → other < length now →
    min (get_or (slice_set now birth (min (get_or now birth 0 + 1) most)) other 0 + count_by (λ b. b == other) rest) most
    ≡ min (get_or now other 0 + count_by (λ b. b == other) (birth ∷ rest)) most
count_more now birth other rest inside =
    ap (λ n. min (n + count_by (λ b. b == other) rest) most) (set_count now birth other inside)
    ∙ count_step (birth == other) (get_or now other 0) (count_by (λ b. b == other) (birth ∷ rest)) (count_by (λ b. b == other) rest) (sum_by-cons (λ b. cond (b == other) 1 0) birth rest)

-- ---- the directories of all births

pub named_by_directory : (o : Option Node) (d : Directory) (c : ℕ) → directory_at o ≡ Some d → unwrap_or (option_map (names_in_node c) o) 0 ≡ count_by (λ b. b == c) (values_of d.names)
named_by_directory (Some (nodes.Directory e)) d c is = ap (λ (d : Directory). count_by (λ b. b == c) (values_of d.names)) (same_Some e d is)
named_by_directory (Some (nodes.File f)) d c is = absurd (none-some d is)
named_by_directory (Some (nodes.Other mode)) d c is = absurd (none-some d is)
named_by_directory None d c is = absurd (none-some d is)

pub named_by_none : (o : Option Node) (c : ℕ) → directory_at o ≡ None → unwrap_or (option_map (names_in_node c) o) 0 ≡ 0
named_by_none (Some (nodes.Directory e)) c is = absurd (none-some e (sym is))
named_by_none (Some (nodes.File f)) c is = refl
named_by_none (Some (nodes.Other mode)) c is = refl
named_by_none None c is = refl

-- the names of one birth more
pub birth_counted : (tree : List (ℕ × Node)) (n c count old new : ℕ) → names_by tree n c ≡ count → IsCount old (names_below tree n c) → IsCount new (old + count) →
    IsCount new (names_below tree (n + 1) c)
birth_counted tree n c count old new by was now =
    let next : suc n ≡ n + 1 = omega arith in
    now ∙ (sum_told old (names_below tree n c) count was ∙ (ap (λ k. min (names_below tree n c + k) most) (sym by) ∙ ap (λ m. min (names_below tree m c) most) next))

pub get_replicate : (n k : ℕ) → ◌≡◌ {A = ℕ} (get_or (replicate n 0) k 0) 0
get_replicate zero k = refl
get_replicate (suc n) zero = refl
get_replicate (suc n) (suc k) = get_replicate n k

-- ---- links

pub directory_is : (o : Option Node) → is_some (directory_at o) ≡ is_directory o
directory_is (Some (nodes.Directory d)) = refl
directory_is (Some (nodes.File f)) = refl
directory_is (Some (nodes.Other mode)) = refl
directory_is None = refl

same_small : (links n field : ℕ) → IsCount links n → field < 256 → (field ≡ links) ↔ (field ≡ n)
same_small links n field is fits = ((λ e. omega (arith, e, is, fits)), (λ e. omega (arith, e, is, fits)))

pub wanted_names : (tree : List (ℕ × Node)) (birth : ℕ) (o : Option Node) (links : ℕ) → directory_at o ≡ None → IsCount links (names_to tree birth) →
    (node : Node) → o ≡ Some node → IsWanted (links_in tree birth node) links
wanted_names tree birth o links is told node at = by node (sym (ap directory_at at) ∙ is)
  where
    wanted : IsWanted (names_to tree birth) links
    wanted field fits = same_small links (names_to tree birth) field told fits

    by : (node : Node) → directory_at (Some node) ≡ None → IsWanted (links_in tree birth node) links
    by (nodes.Directory e) here = absurd (none-some e (sym here))
    by (nodes.File f) here = wanted
    by (nodes.Other mode) here = wanted
