-- The blocks of a log, and the puts that they spell.
use Rattle.std.specs.Prelude.{◌≡◌, ℕ, zero, suc, ◌+◌, ◌<◌, List, [], ◌∷◌, length, take, Option, Some, None, slice_get}
use Rattle.std.proofs.Common.{refl, sym, ap, ◌∙◌, arith}
use Rattle.std.proofs.lemmas.Option.{none-some, same_Some}
use Rattle.tree_model.specs.Calls.{Tree}
use Rattle.tree_model.specs.Histories.{block_at}
use Rattle.wal_store.specs.declared.puts.Put.{Put}
use Rattle.wal_store.specs.Blocks.{decode}
use Rattle.wal_store.specs.Log.{put_numbered, with_first, puts_from}
use Rattle.wal_store.proofs.HeldPuts.{numbered-decoded}
use Rattle.store_core.specs.Stores.{blocks_from}

-- ---- blocks of a file

-- the block, where it is mapped, and those behind it
abbrev with-block : Option (List ℕ) → List (List ℕ) → List (List ℕ)
with-block o rest = elim o as (λ _. List (List ℕ)) [ None ↦ [] | Some c ↦ c ∷ rest ]

block-at : (tree : Tree) (g i k : ℕ) (b : List ℕ) (o : Option (List ℕ)) (rest : List (List ℕ)) → block_at tree g i ≡ o → ((m : ℕ) → slice_get rest m ≡ Some b → block_at tree g (i + 1 + m) ≡ Some b) → slice_get (with-block o rest) k ≡ Some b → block_at tree g (i + k) ≡ Some b
block-at tree g i k b None rest at behind h = absurd (none-some b h)
block-at tree g i zero b (Some c) rest at behind h = let same : i + 0 ≡ i = omega arith in ap (block_at tree g) same ∙ at ∙ h
block-at tree g i (suc k) b (Some c) rest at behind h = let same : i + suc k ≡ i + 1 + k = omega arith in ap (block_at tree g) same ∙ behind k h

pub block-of : (tree : Tree) (g i n k : ℕ) (b : List ℕ) → slice_get (blocks_from tree g i n) k ≡ Some b → block_at tree g (i + k) ≡ Some b
block-of tree g i zero k b e = absurd (none-some b e)
block-of tree g i (suc n) k b e = block-at tree g i k b (block_at tree g i) (blocks_from tree g (i + 1) n) refl (λ m h. block-of tree g (i + 1) n m b h) e

-- where all blocks before are mapped, a block that is mapped is among them
pub block-in : (tree : Tree) (g i n k : ℕ) (b : List ℕ) → k < n → ((m : ℕ) → m < k → (c : List ℕ) × (block_at tree g (i + m) ≡ Some c)) → block_at tree g (i + k) ≡ Some b → slice_get (blocks_from tree g i n) k ≡ Some b
block-in tree g i zero k b lt all at = absurd (omega (arith, lt))
block-in tree g i (suc n) zero b lt all at =
    let same : i ≡ i + 0 = omega arith in
    ap (λ o. slice_get (with-block o (blocks_from tree g (i + 1) n)) 0) (ap (block_at tree g) same ∙ at)
block-in tree g i (suc n) (suc k) b lt all at =
    let first = all 0 (omega arith) in
    let here : i ≡ i + 0 = omega arith in
    let next : i + 1 + k ≡ i + suc k = omega arith in
    ap (λ o. slice_get (with-block o (blocks_from tree g (i + 1) n)) (suc k)) (ap (block_at tree g) here ∙ first.1)
    ∙ block-in tree g (i + 1) n k b (omega (arith, lt)) (λ m less. let x = all (suc m) (omega (arith, less)) in let same : i + 1 + m ≡ i + suc m = omega arith in (x.0, ap (block_at tree g) same ∙ x.1)) (ap (block_at tree g) next ∙ at)

-- ---- puts

-- each block that spells the put of its place spells one of these
abbrev Spell : ℕ → List (List ℕ) → List Put → Type 0
Spell i bs ps = (k : ℕ) (b : List ℕ) (p : Put) → slice_get bs k ≡ Some b → decode b ≡ Some (i + k + 1, p) → slice_get ps k ≡ Some p

first-with : (i : ℕ) (b : List ℕ) (bs : List (List ℕ)) (o : Option Put) (ps : List Put) (found : List Put) → put_numbered (i + 1) b ≡ o → Spell i (b ∷ bs) ps → ((qs : List Put) → Spell (i + 1) bs qs → found ≡ take (length found) qs)
    → with_first o found ≡ take (length (with_first o found)) ps
first-with i b bs None ps found e each behind = refl
first-with i b bs (Some p) [] found e each behind =
    let at : i + 1 ≡ i + 0 + 1 = omega arith in
    absurd (none-some p (each 0 b p refl (numbered-decoded (i + 1) b p e ∙ ap (λ (n : ℕ). Some (n, p)) at)))
first-with i b bs (Some p) (q ∷ qs) found e each behind =
    let at : i + 1 ≡ i + 0 + 1 = omega arith in
    let same : q ≡ p = same_Some q p (each 0 b p refl (numbered-decoded (i + 1) b p e ∙ ap (λ (n : ℕ). Some (n, p)) at)) in
    ap (λ xs. p ∷ xs) (behind qs (λ k c r there spelled. let later : i + 1 + k + 1 ≡ i + suc k + 1 = omega arith in each (suc k) c r there (spelled ∙ ap (λ (n : ℕ). Some (n, r)) later)))
    ∙ ap (λ (x : Put). x ∷ take (length found) qs) (sym same)

-- so the puts of the blocks are the first of them
pub first-puts : (i : ℕ) (bs : List (List ℕ)) (ps : List Put) → Spell i bs ps → puts_from i bs ≡ take (length (puts_from i bs)) ps
first-puts i [] ps each = refl
first-puts i (b ∷ bs) ps each = first-with i b bs (put_numbered (i + 1) b) ps (puts_from (i + 1) bs) refl each (λ qs more. first-puts (i + 1) bs qs more)
