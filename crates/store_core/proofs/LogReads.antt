-- The log of a tree is that of the node to which its path leads.
use Rattle.std.specs.Prelude.{◌≡◌, ℕ, zero, suc, ◌+◌, ◌-◌, ◌<◌, ◌++◌, List, [], ◌∷◌, Option, Some, None, Result, Ok, Err}
use Rattle.std.proofs.Common.{refl, sym, ap, ◌∙◌, arith, append-nil, append_assoc}
use Rattle.std.specs.Option.{option_and_then}
use Rattle.tree_model.specs.declared.node.File.{File}
use Rattle.tree_model.specs.declared.node.Directory.{Directory}
use Rattle.tree_model.specs.declared.node.Node.{Node}
use Rattle.tree_model.specs.declared.node.Node.TheVariants as nodes
use Rattle.tree_model.specs.Calls.{Tree}
use Rattle.tree_model.specs.Histories.{block_in, block_at}
use Rattle.tree_model.specs.Maps.{at_number}
use Rattle.tree_model.specs.Trees.{Refusal, node_of_path}
use Rattle.store_core.specs.Program.{log_names}
use Rattle.store_core.specs.Stores.{blocks_from, log_in}
use Rattle.store_core.specs.code.LogNodes.{front_of, file_blocks, log_file, front_in}

abbrev or_more : List (List ℕ) → Option (List ℕ) → List (List ℕ)
or_more rest o = elim o as (λ _. List (List ℕ)) [ None ↦ [] | Some b ↦ b ∷ rest ]

-- the blocks of a node, whichever it is
abbrev node_from : Option Node → ℕ → ℕ → List (List ℕ)
node_from found i zero = []
node_from found i (suc n) = or_more (node_from found (i + 1) n) (block_in found i)

by-node : (tree : Tree) (file i n : ℕ) → blocks_from tree file i n ≡ node_from (at_number tree file) i n
by-node tree file i zero = refl
by-node tree file i (suc n) = ap (λ rest. or_more rest (block_at tree file i)) (by-node tree file (i + 1) n)

of-file : (f : File) (i n : ℕ) → node_from (Some (nodes.File f)) i n ≡ front_of f.blocks i n
of-file f i zero = refl
of-file f i (suc n) = ap (λ rest. or_more rest (at_number f.blocks i)) (of-file f (i + 1) n)

of-none : (i n : ℕ) → node_from None i n ≡ []
of-none i zero = refl
of-none i (suc n) = refl

of-directory : (d : Directory) (i n : ℕ) → node_from (Some (nodes.Directory d)) i n ≡ []
of-directory d i zero = refl
of-directory d i (suc n) = refl

of-other : (mode i n : ℕ) → node_from (Some (nodes.Other mode)) i n ≡ []
of-other mode i zero = refl
of-other mode i (suc n) = refl

of-node : (o : Option Node) (room : ℕ) → node_from o 0 room ≡ front_in (option_and_then file_blocks o) room
of-node None room = of-none 0 room
of-node (Some (nodes.File f)) room = of-file f 0 room
of-node (Some (nodes.Directory d)) room = of-directory d 0 room
of-node (Some (nodes.Other mode)) room = of-other mode 0 room

pub log-blocks : (room : ℕ) (tree : Tree) → log_in room tree ≡ front_in (log_file tree) room
log-blocks room tree = by (node_of_path tree log_names)
  where
    by : (o : Result ℕ Refusal) → elim o as (λ _. List (List ℕ)) [ Err refusal ↦ [] | Ok file ↦ blocks_from tree file 0 room ]
        ≡ front_in (option_and_then file_blocks (elim o as (λ _. Option Node) [ Err refusal ↦ None | Ok birth ↦ at_number tree birth ])) room
    by (Err refusal) = refl
    by (Ok file) = by-node tree file 0 room ∙ of-node (at_number tree file) room

-- ---- one block after the other

front-step : (blocks : List (ℕ × List ℕ)) (i n : ℕ) → i < n → front_of blocks i (n - i) ≡ or_more (front_of blocks (i + 1) (n - (i + 1))) (at_number blocks i)
front-step blocks i n lt = let e : n - i ≡ suc (n - (i + 1)) = omega arith in rw e refl

pub front-ends : (blocks : List (ℕ × List ℕ)) (i n : ℕ) (xs all : List (List ℕ)) → i < n → at_number blocks i ≡ None → xs ++ front_of blocks i (n - i) ≡ all → xs ≡ all
front-ends blocks i n xs all lt none is =
    let rest = front-step blocks i n lt ∙ ap (or_more (front_of blocks (i + 1) (n - (i + 1)))) none in
    sym (append-nil xs) ∙ ap (λ ys. xs ++ ys) (sym rest) ∙ is

pub front-more : (blocks : List (ℕ × List ℕ)) (i n : ℕ) (xs more all : List (List ℕ)) (b : List ℕ) → i < n → at_number blocks i ≡ Some b → more ≡ xs ++ b ∷ []
    → xs ++ front_of blocks i (n - i) ≡ all → more ++ front_of blocks (i + 1) (n - (i + 1)) ≡ all
front-more blocks i n xs more all b lt there one is =
    let rest = front-step blocks i n lt ∙ ap (or_more (front_of blocks (i + 1) (n - (i + 1)))) there in
    ap (λ ys. ys ++ front_of blocks (i + 1) (n - (i + 1))) one
    ∙ append_assoc xs (b ∷ []) (front_of blocks (i + 1) (n - (i + 1)))
    ∙ ap (λ ys. xs ++ ys) (sym rest) ∙ is
