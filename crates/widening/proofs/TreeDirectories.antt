-- The directories of a tree, each with the number of its inode.
use Rattle.std.specs.Prelude.{◌≡◌, ℕ, List, [], ◌∷◌, refl}
use Rattle.std.specs.List.Sorted.{IsStrictlySortedBy}
use Rattle.std.specs.Map.{keys_of}
use Rattle.std.specs.Ordering.{nat_cmp}
use Rattle.std.proofs.Common.{sym, ap, subst, ◌∙◌, inl, inr, arith}
use Rattle.std.proofs.lemmas.Map.Keys.{sorted_head, sorted_tail}
use Rattle.blk_base.specs.Members.{In}
use Rattle.minix_layout.specs.declared.division.Geometry.{Geometry}
use Rattle.tree_model.specs.declared.node.Node.{Node}
use Rattle.tree_model.specs.declared.node.Node.TheVariants as nodes
use Rattle.tree_model.specs.declared.node.Directory.{Directory}
use Rattle.volume_ops.specs.Places.{inode_of_birth}
use Rattle.volume_model.specs.laws.Trees.{In-at, found_above}
use Rattle.widening.specs.Directories.{directories}
use Rattle.widening.proofs.Shares.{AreOnce}

pub directory_in : (tree : List (ℕ × Node)) (birth : ℕ) (d : Directory) → In {X = ℕ × Node} (birth, nodes.Directory d) tree → In {X = ℕ × Directory} (inode_of_birth birth, d) (directories tree)
directory_in [] birth d i = absurd i
directory_in ((b, nodes.Directory e) ∷ tree) birth d (inl same) =
    let key : b ≡ birth = ap (λ (p : ℕ × Node). p.0) same in
    let value : nodes.Directory e ≡ nodes.Directory d = ap (λ (p : ℕ × Node). p.1) same in
    inl (by b birth e d key (same_directory value))
  where
    same_directory : {e d : Directory} → nodes.Directory e ≡ nodes.Directory d → e ≡ d
    same_directory same = cc

    by : (b birth : ℕ) (e d : Directory) → b ≡ birth → e ≡ d → ◌≡◌ {A = ℕ × Directory} (inode_of_birth b, e) (inode_of_birth birth, d)
    by b birth e d key value = subst (λ n. ◌≡◌ {A = ℕ × Directory} (inode_of_birth b, e) (inode_of_birth n, d)) key (ap (λ (x : Directory). (inode_of_birth b, x)) value)
directory_in ((b, nodes.Directory e) ∷ tree) birth d (inr i) = inr (directory_in tree birth d i)
directory_in ((b, nodes.File f) ∷ tree) birth d (inl same) = absurd (let e : nodes.File f ≡ nodes.Directory d = ap (λ (p : ℕ × Node). p.1) same in cc)
directory_in ((b, nodes.File f) ∷ tree) birth d (inr i) = directory_in tree birth d i
directory_in ((b, nodes.Other mode) ∷ tree) birth d (inl same) = absurd (let e : nodes.Other mode ≡ nodes.Directory d = ap (λ (p : ℕ × Node). p.1) same in cc)
directory_in ((b, nodes.Other mode) ∷ tree) birth d (inr i) = directory_in tree birth d i

-- a directory of the tree, under its birth
pub record IsAt (tree : List (ℕ × Node)) (f : ℕ × Directory) : Type 0 where
  pub birth : ℕ
  pub stands : In {X = ℕ × Node} (birth, nodes.Directory f.1) tree
  pub number : inode_of_birth birth ≡ f.0

later : (x : ℕ × Node) (tree : List (ℕ × Node)) (f : ℕ × Directory) → IsAt tree f → IsAt (x ∷ tree) f
later x tree f a = record { birth = a.birth; stands = inr a.stands; number = a.number }

pub directory_at : (tree : List (ℕ × Node)) (f : ℕ × Directory) → In f (directories tree) → IsAt tree f
directory_at [] f i = absurd i
directory_at ((b, nodes.Directory e) ∷ tree) f (inl same) =
    subst (IsAt ((b, nodes.Directory e) ∷ tree)) same (record { birth = b; stands = inl refl; number = refl })
directory_at ((b, nodes.Directory e) ∷ tree) f (inr i) = later (b, nodes.Directory e) tree f (directory_at tree f i)
directory_at ((b, nodes.File x) ∷ tree) f i = later (b, nodes.File x) tree f (directory_at tree f i)
directory_at ((b, nodes.Other mode) ∷ tree) f i = later (b, nodes.Other mode) tree f (directory_at tree f i)

-- no two have one number, where no two births have one
pub directories_once : (g : Geometry) (blocks : List (List ℕ)) (tree : List (ℕ × Node)) → IsStrictlySortedBy nat_cmp (keys_of tree) →
    ((a b : ℕ) (m n : Node) → In {X = ℕ × Node} (a, m) tree → In {X = ℕ × Node} (b, n) tree → inode_of_birth a ≡ inode_of_birth b → a ≡ b) → AreOnce g blocks (directories tree)
directories_once g blocks [] sorted once = tt
directories_once g blocks ((b, nodes.Directory d) ∷ tree) sorted once = (
  λ f i same.
      let x = directory_at tree f i in
      let births : b ≡ x.birth = once b x.birth (nodes.Directory d) (nodes.Directory f.1) (inl refl) (inr x.stands) (same ∙ sym x.number) in
      let above = found_above b x.birth tree (nodes.Directory f.1) (sorted_head nat_cmp b (keys_of tree) sorted) (In-at tree x.birth (nodes.Directory f.1) (sorted_tail nat_cmp b (keys_of tree) sorted) x.stands) in
      omega (arith, births, above),
  directories_once g blocks tree (sorted_tail nat_cmp b (keys_of tree) sorted) (λ a c m n i j. once a c m n (inr i) (inr j)),
)
directories_once g blocks ((b, nodes.File f) ∷ tree) sorted once = directories_once g blocks tree (sorted_tail nat_cmp b (keys_of tree) sorted) (λ a c m n i j. once a c m n (inr i) (inr j))
directories_once g blocks ((b, nodes.Other mode) ∷ tree) sorted once = directories_once g blocks tree (sorted_tail nat_cmp b (keys_of tree) sorted) (λ a c m n i j. once a c m n (inr i) (inr j))
