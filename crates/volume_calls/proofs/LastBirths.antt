-- The number above all births, and cuts that change nothing.
use Rattle.std.specs.List.{list_any}
use Rattle.std.specs.Map.{keys_of}
use Rattle.std.specs.Ordering.{nat_cmp, is_lt}
use Rattle.std.proofs.Common.{◌≡◌, ℕ, ◌+◌, ◌*◌, ◌/◌, ◌%◌, ◌<◌, ◌≤◌, ◌==◌, nat_le, nat_lt, cond, Less, Equal, Greater, Bool, true, false, not, ◌&&◌, ◌||◌, if◌then◌else◌, List, [], ◌∷◌, map, is_some, Some, Result, Ok, Err, refl, sym, ap, ◌∙◌, inl, inr, arith, eq-eqb, ne_eqb}
use Rattle.std.proofs.lemmas.Bool.{ltb-false, ltb-true, lt-ltb, true≢false}
use Rattle.blk_base.specs.Members.{In}
use Rattle.tree_model.specs.declared.node.File.{File}
use Rattle.tree_model.specs.declared.node.Node.{Node}
use Rattle.tree_model.specs.declared.node.Node.TheVariants as nodes
use Rattle.tree_model.specs.declared.call.Reply.{Reply}
use Rattle.tree_model.specs.Calls.{Tree, Found, max, walk_path}
use Rattle.tree_model.specs.Maps.{at_number}
use Rattle.tree_model.specs.laws.MapsLaws.{number_here, number_same}
use Rattle.std.specs.BTreeMap.{is_at}
use Rattle.volume_ops.specs.Volume.{bodies_of, disk_of}
use Rattle.volume_ops.specs.declared.found.Mapped.{Mapped}
use Rattle.volume_model.specs.declared.placed.Placed.{Placed}
use Rattle.volume_model.specs.Trees.{tree_now, node_now}
use Rattle.volume_steps.specs.Cuts.{keeps_file, keeps_size, cuts_nothing}
use Rattle.volume_steps.specs.Numbers.{next_birth}
use Rattle.volume_calls.specs.code.Kept.{keeps_mapped}

-- ---- the number above all births

max_above : (a b : ℕ) → (a ≤ max a b) × (b ≤ max a b)
max_above a b = by (nat_lt a b) refl
  where
    by : (t : Bool) → nat_lt a b ≡ t → (a ≤ (if t then b else a)) × (b ≤ (if t then b else a))
    by true e = let less = ltb-true a b e in (omega (arith, less), omega arith)
    by false e = let most = ltb-false a b e in (omega arith, omega (arith, most))

max_within : (a b n : ℕ) → a ≤ n → b ≤ n → max a b ≤ n
max_within a b n l m = by (nat_lt a b)
  where
    by : (t : Bool) → (if t then b else a) ≤ n
    by true = m
    by false = l

next_above : (es : List (ℕ × Node)) (e : ℕ × Node) → In e es → e.0 + 1 ≤ next_birth es
unfolding next_birth
next_above [] e i = absurd i
next_above (x ∷ xs) e (inl same) = let both = max_above (x.0 + 1) (next_birth xs) in let key = ap (λ (y : ℕ × Node). y.0) same in let first = both.0 in omega (arith, first, key)
next_above (x ∷ xs) e (inr i) = let both = max_above (x.0 + 1) (next_birth xs) in let rest = next_above xs e i in let second = both.1 in omega (arith, second, rest)

next_within : (es : List (ℕ × Node)) (n : ℕ) → ((e : ℕ × Node) → In e es → e.0 + 1 ≤ n) → next_birth es ≤ n
unfolding next_birth
next_within [] n h = omega arith
next_within (x ∷ xs) n h = max_within (x.0 + 1) (next_birth xs) n (h x (inl refl)) (next_within xs n (λ e i. h e (inr i)))

-- no key is above the last one
below_last : (last q : ℕ) → is_lt (nat_cmp last q) ≡ false → q ≤ last
below_last last q = by (nat_lt last q) refl
  where
    by : (t : Bool) → nat_lt last q ≡ t → is_lt (cond t Less (cond (last == q) Equal Greater)) ≡ false → q ≤ last
    by true less e = absurd (true≢false e)
    by false most e = ltb-false last q most

abbrev seen : (Placed → Node) → ℕ × Placed → ℕ × Node
seen f e = (e.0, f e.1)

map_In : (f : Placed → Node) (es : List (ℕ × Placed)) (last : ℕ) (p : Placed) → In {X = ℕ × Placed} (last, p) es → In {X = ℕ × Node} (last, f p) (map (seen f) es)
map_In f [] last p i = absurd i
map_In f (x ∷ xs) last p (inl same) = inl (ap (seen f) same)
map_In f (x ∷ xs) last p (inr i) = inr (map_In f xs last p i)

map_keys : (f : Placed → Node) (es : List (ℕ × Placed)) (n : ℕ) → ((q : ℕ) → In q (keys_of es) → q ≤ n) → (e : ℕ × Node) → In e (map (seen f) es) → e.0 + 1 ≤ n + 1
map_keys f [] n h e i = absurd i
map_keys f (x ∷ xs) n h e (inl same) = let low = h x.0 (inl refl) in let key = ap (λ (y : ℕ × Node). y.0) same in omega (arith, low, key)
map_keys f (x ∷ xs) n h e (inr i) = map_keys f xs n (λ q j. h q (inr j)) e i

between : (a b : ℕ) → a ≤ b → b ≤ a → a ≡ b
between a b l m = omega (arith, l, m)

pub next_is : (blocks : List (List ℕ)) (es : List (ℕ × Placed)) (last : ℕ) (p : Placed) → In {X = ℕ × Placed} (last, p) es → ((q : ℕ) → In q (keys_of es) → is_lt (nat_cmp last q) ≡ false) → next_birth (tree_now blocks es) ≡ last + 1
unfolding tree_now
next_is blocks es last p there above =
    between (next_birth (map (seen (node_now blocks)) es)) (last + 1)
    (next_within (map (seen (node_now blocks)) es) (last + 1) (λ e i. map_keys (node_now blocks) es last (λ q j. below_last last q (above q j)) e i))
    (next_above (map (seen (node_now blocks)) es) (last, node_now blocks p) (map_In (node_now blocks) es last p there))

-- ---- cuts that change nothing

any_map : {X Y : Type 0} (f : X → Y) (test : Y → Bool) (xs : List X) → list_any test (map f xs) ≡ list_any (λ x. test (f x)) xs
any_map f test [] = refl
any_map f test (x ∷ xs) = ap (λ b. test (f x) || b) (any_map f test xs)

mapped_at : (blocks : List (List ℕ)) (zones : List Mapped) (k : ℕ) → is_some (at_number (bodies_of blocks zones) k) ≡ list_any (λ (m : Mapped). m.index == k) zones
mapped_at blocks [] k = refl
mapped_at blocks (m ∷ ms) k = by (is_at (nat_cmp k) m.index) refl (mapped_at blocks ms k)
  where
    by : (t : Bool) → is_at (nat_cmp k) m.index ≡ t → is_some (at_number (bodies_of blocks ms) k) ≡ list_any (λ (x : Mapped). x.index == k) ms
        → is_some (if t then Some (disk_of blocks m.zone) else at_number (bodies_of blocks ms) k) ≡ ((m.index == k) || list_any (λ (x : Mapped). x.index == k) ms)
    by true e rest = ap (λ b. b || list_any (λ (x : Mapped). x.index == k) ms) (sym (eq-eqb m.index k (sym (number_same k m.index e))))
    by false e rest =
        rest ∙ ap (λ b. b || list_any (λ (x : Mapped). x.index == k) ms) (sym (ne_eqb m.index k (λ same. absurd (true≢false (sym (number_here k) ∙ ap (λ i. is_at (nat_cmp k) i) (sym same) ∙ e)))))

pub file_keeps : (blocks : List (List ℕ)) (zones : List Mapped) (size old links : ℕ) → keeps_mapped size old zones ≡ keeps_file size (record { size = old; links = links; blocks = bodies_of blocks zones })
file_keeps blocks zones size old links =
    ap (λ b. (old == size) && (not b && ((size % 1024 == 0) || not (list_any (λ (m : Mapped). m.index == size / 1024) zones)))) (sym (any_map (λ (m : Mapped). let e : ℕ × List ℕ = (m.index, disk_of blocks m.zone) in e) (λ (e : ℕ × List ℕ). nat_le size (1024 * e.0)) zones))
    ∙ ap (λ b. (old == size) && (not (list_any (λ (e : ℕ × List ℕ). nat_le size (1024 * e.0)) (bodies_of blocks zones)) && ((size % 1024 == 0) || not b))) (sym (mapped_at blocks zones (size / 1024)))

pub found_keeps : (tree : Tree) (path : List ℕ) (size : ℕ) (found : Found) (f : File) → walk_path tree path ≡ Ok found → found.node ≡ nodes.File f → keeps_file size f ≡ cuts_nothing tree path size
found_keeps tree path size found f walked is =
    sym (ap (keeps_size size) is) ∙ sym (ap (λ (r : Result Found Reply). elim r as (λ _. Bool) [ Err reply ↦ false | Ok found ↦ keeps_size size found.node ]) walked)

-- ---- the number of a call

pub next_taken : (n nb next : ℕ) → nb ≡ next → n < next → next ≡ max n nb
next_taken n nb next e less = sym e ∙ sym (ap (λ (b : Bool). if b then nb else n) (lt-ltb n nb (omega (arith, e, less))))

pub own_taken : (n nb next : ℕ) → nb ≡ next → next ≤ n → n ≡ max n nb
own_taken n nb next e most = by (nat_lt n nb) refl
  where
    by : (t : Bool) → nat_lt n nb ≡ t → n ≡ (if t then nb else n)
    by true lt = (let less = ltb-true n nb lt in omega (arith, less, e, most))
    by false lt = refl
