-- Blocks that are told have other bytes, and no other block has.
use Rattle.std.specs.Prelude.{◌≡◌, ◌≢◌, ◌↔◌, ℕ, ◌+◌, ◌-◌, ◌*◌, ◌<◌, ◌≤◌, nat_eq, not, Bool, true, false, List, [], ◌∷◌, ◌++◌, length, take, drop, Some, refl, zero, suc}
use Rattle.std.specs.List.{list_any}
use Rattle.std.proofs.Common.{sym, ap, subst, ◌∙◌, inl, inr, arith}
use Rattle.std.proofs.lemmas.Bool.{cases_Bool, cases_eq, cases_lt, true≢false}
use Rattle.std.proofs.lemmas.List.{length-drop, drop_all, append-nil}
use Rattle.std.proofs.Math.Seq.{drop-append_seam}
use Rattle.blk_base.specs.Members.{In}
use Rattle.byte_fields.specs.Fields.{zeros, put_bytes}
use Rattle.byte_fields.specs.laws.ReadLaws.{length-zeros}
use Rattle.minix_layout.specs.declared.division.Geometry.{Geometry}
use Rattle.minix_layout.specs.declared.inode.Inode.{Inode}
use Rattle.minix_layout.specs.Geometry.{IsSound}
use Rattle.minix_layout.specs.Inodes.{FitInode}
use Rattle.tree_model.specs.Maps.{at_number}
use Rattle.volume_ops.specs.Places.{table_block}
use Rattle.volume_ops.specs.Volume.{disk_of}
use Rattle.volume_model.specs.declared.placed.Placed.{Placed}
use Rattle.volume_model.specs.Cut.{has_numbers}
use Rattle.volume_model.specs.Edits.{clear_from, edited}
use Rattle.volume_model.specs.Moves.{IsVolume, same_inode, inode_told, inode_back, back_told}
use Rattle.volume_model.specs.Touched.{Contents}
use Rattle.volume_model.specs.Volume.{IsWhole}
use Rattle.volume_model.specs.laws.Back.{fields_same, told_here, back_elsewhere, back_apart, back_differs}
use Rattle.volume_model.specs.laws.Changes.{table_below}
use Rattle.volume_model.specs.laws.CutTells.{cleared}
use Rattle.volume_model.specs.laws.Edits.{edited_here}

-- ---- an inode

none_told : (g : Geometry) (p : Placed) (i : Inode) (b : ℕ) → same_inode i p.inode ≡ true → In b (back_told g p i) → ⊥
unfolding inode_told
none_told g p i b e j = (rw e at j)

pub inode_is_told : (g : Geometry) (v : Contents) (n : ℕ) (p : Placed) (i : Inode) (b : ℕ) → IsSound g → IsVolume g v → at_number v.nodes n ≡ Some p → FitInode i →
    In b (back_told g p i) ↔ (disk_of (inode_back g v.blocks p i) b ≢ disk_of v.blocks b)
inode_is_told g v n p i b sound h at fit = (
  λ j.
      let told = h.0.each n p at in
      let t = (table_below g p.number sound told.some told.within).1 in
      let size = h.0.size in
      let some = sound.some_zone in
      back_differs g v.blocks p i h.0.whole (omega arith) fit told.inode b j,
  λ differs. elim (cases_Bool (same_inode i p.inode)) [
    | inl e ↦ absurd (differs (back_elsewhere g v.blocks p i b (none_told g p i b e)))
    | inr e ↦ elim (cases_eq b (table_block g p.number)) [
      | inl f ↦ subst (λ b. In b (back_told g p i)) (sym f) (told_here g p i (λ same. true≢false (sym (ap (λ k. same_inode k p.inode) same ∙ fields_same p.inode) ∙ e)))
      | inr f ↦ absurd (differs (back_apart g v.blocks p i b f))
    ]
  ],
)

-- ---- a zone of numbers

zeros_only : (n : ℕ) → list_any (λ x. not (nat_eq x 0)) (zeros n) ≡ false
unfolding zeros
zeros_only zero = refl
zeros_only (suc n) = zeros_only n

length_take : (n : ℕ) (xs : List ℕ) → n ≤ length xs → length (take n xs) ≡ n
length_take zero xs low = refl
length_take (suc n) [] low = absurd (omega arith)
length_take (suc n) (x ∷ xs) low = ap suc (length_take n xs (omega arith))

pub none_left : (at : ℕ) (body : List ℕ) → length body ≡ 1024 → at ≤ 512 → list_any (λ x. not (nat_eq x 0)) (drop (2 * at) (put_bytes (2 * at) (zeros (1024 - 2 * at)) body)) ≡ false
unfolding put_bytes
none_left at body size low =
    let long = length-zeros (1024 - 2 * at) in
    let first : length (take (2 * at) body) ≡ 2 * at = length_take (2 * at) body (omega arith) in
    let rest : drop (2 * at + length (zeros (1024 - 2 * at))) body ≡ [] = drop_all (2 * at + length (zeros (1024 - 2 * at))) body (omega arith) in
    ap (λ n. list_any (λ x. not (nat_eq x 0)) (drop n (take (2 * at) body ++ (zeros (1024 - 2 * at) ++ drop (2 * at + length (zeros (1024 - 2 * at))) body)))) (sym first)
    ∙ (ap (list_any (λ x. not (nat_eq x 0))) (drop-append_seam (take (2 * at) body) (zeros (1024 - 2 * at) ++ drop (2 * at + length (zeros (1024 - 2 * at))) body)
    ∙ (ap (λ xs. zeros (1024 - 2 * at) ++ xs) rest ∙ append-nil (zeros (1024 - 2 * at))))
    ∙ zeros_only (1024 - 2 * at))

pub zone_is_told : (g : Geometry) (blocks : List (List ℕ)) (zone at : ℕ) → IsWhole blocks → zone < length blocks → at ≤ 512 →
    (has_numbers blocks zone at ≡ true) ↔ (disk_of (edited g blocks (clear_from zone at)) zone ≢ disk_of blocks zone)
unfolding has_numbers
zone_is_told g blocks zone at whole within low =
    let here = edited_here g blocks (clear_from zone at) within in (
      λ has same. true≢false (sym has ∙ (ap (λ body. list_any (λ x. not (nat_eq x 0)) (drop (2 * at) body)) (sym same ∙ here) ∙ none_left at (disk_of blocks zone) (whole zone) low)),
      λ differs. elim (cases_Bool (list_any (λ x. not (nat_eq x 0)) (drop (2 * at) (disk_of blocks zone)))) [
        | inl e ↦ e
        | inr e ↦ absurd (differs (here ∙ cleared at (disk_of blocks zone) (whole zone) e))
      ],
    )
