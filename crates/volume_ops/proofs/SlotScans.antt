-- Scanning slots, a step at a time; births of names.
use Rattle.std.proofs.Common.{◌≡◌, ℕ, suc, ◌+◌, ◌-◌, ◌<◌, ◌≤◌, ◌^◌, List, [], ◌∷◌, Result, Ok, Err, refl, ap, ◌∙◌, sym, arith, length, get_or, drop, drop-cons, add-one}
use Rattle.std.specs.List.{All, range_with_len}
use Rattle.byte_fields.specs.Fields.{record_at}
use Rattle.minix_layout.specs.Widths.{slot_size}
use Rattle.minix_layout.specs.declared.division.Geometry.{Geometry}
use Rattle.volume_ops.specs.declared.found.Mapped.{Mapped}
use Rattle.volume_ops.specs.code.Births.{IsBirth, AreBirths}
use Rattle.volume_ops.specs.Places.{birth_of}
use Rattle.volume_ops.specs.Reads.{answer}
use Rattle.volume_ops.specs.Slots.{SlotScan, scan_slot, scan_places, scan_block, scan_slots}
use Rattle.volume_ops.specs.Zones.{Fault}
use Rattle.tree_model.specs.Maps.{put_name, name_cmp}
use Rattle.std.specs.Ordering.{match_ordering}
use Rattle.std.specs.declared.cmp.Ordering.TheVariants.{Less, Equal, Greater}
use Rattle.std.proofs.lemmas.List.Elements.{All-nil, All-cons, All-head, All-tail}
use Rattle.volume_ops.proofs.GoesOn.{answer-if_ok-ok, answer-if_ok-err}

range_from : (n at : ℕ) → at < n → range_with_len at (n - at) ≡ at ∷ range_with_len (at + 1) (n - (at + 1))
range_from n at h = let e : n - at ≡ suc (n - (at + 1)) = omega arith in rw e refl

module _ (disk : ℕ → List ℕ) (g : Geometry) (zone : ℕ) (body : List ℕ) (n at : ℕ) (s : SlotScan) (h : at < n) where
  pub scan_places_more : (t : SlotScan) (all : Result SlotScan Fault) → answer disk (scan_places g zone body (range_with_len at (n - at)) s) ≡ all → answer disk (scan_slot g zone (record_at (slot_size g.width) at body) s) ≡ Ok t → answer disk (scan_places g zone body (range_with_len (at + 1) (n - (at + 1))) t) ≡ all
  scan_places_more t all e one =
      sym (answer-if_ok-ok disk (scan_slot g zone (record_at (slot_size g.width) at body) s) (scan_places g zone body (range_with_len (at + 1) (n - (at + 1)))) t one)
      ∙ sym (ap (λ ats. answer disk (scan_places g zone body ats s)) (range_from n at h)) ∙ e

  pub scan_places_fault : (f : Fault) (all : Result SlotScan Fault) → answer disk (scan_places g zone body (range_with_len at (n - at)) s) ≡ all → answer disk (scan_slot g zone (record_at (slot_size g.width) at body) s) ≡ Err f → all ≡ Err f
  scan_places_fault f all e one =
      sym e ∙ ap (λ ats. answer disk (scan_places g zone body ats s)) (range_from n at h)
      ∙ answer-if_ok-err disk (scan_slot g zone (record_at (slot_size g.width) at body) s) (scan_places g zone body (range_with_len (at + 1) (n - (at + 1)))) f one

module _ (disk : ℕ → List ℕ) (g : Geometry) (slots : ℕ) (blocks : List Mapped) (k : ℕ) (d : Mapped) (s : SlotScan) (h : k < length blocks) where
  from_here : drop k blocks ≡ get_or blocks k d ∷ drop (k + 1) blocks
  from_here = rw add-one (drop-cons blocks k d h)

  pub scan_slots_more : (t : SlotScan) (all : Result SlotScan Fault) → answer disk (scan_slots g slots (drop k blocks) s) ≡ all → answer disk (scan_block g slots (get_or blocks k d) s) ≡ Ok t → answer disk (scan_slots g slots (drop (k + 1) blocks) t) ≡ all
  scan_slots_more t all e one =
      sym (answer-if_ok-ok disk (scan_block g slots (get_or blocks k d) s) (scan_slots g slots (drop (k + 1) blocks)) t one)
      ∙ sym (ap (λ bs. answer disk (scan_slots g slots bs s)) from_here) ∙ e

  pub scan_slots_fault : (f : Fault) (all : Result SlotScan Fault) → answer disk (scan_slots g slots (drop k blocks) s) ≡ all → answer disk (scan_block g slots (get_or blocks k d) s) ≡ Err f → all ≡ Err f
  scan_slots_fault f all e one =
      sym e ∙ ap (λ bs. answer disk (scan_slots g slots bs s)) from_here
      ∙ answer-if_ok-err disk (scan_block g slots (get_or blocks k d) s) (scan_slots g slots (drop (k + 1) blocks)) f one

-- ---- births

put_all : (P : List ℕ × ℕ → Type 0) (name : List ℕ) (v : ℕ) → ((n : List ℕ) → P (n, v)) → (es : List (List ℕ × ℕ)) → All P es → All P (put_name es name v)
put_all P name v p [] h = All-cons P (name, v) [] (p name) (All-nil P)
put_all P name v p (e ∷ es) h =
    elim (name_cmp name e.0) as (λ o. All P (match_ordering o ((name, v) ∷ e ∷ es) ((e.0, v) ∷ es) (e ∷ put_name es name v))) [
      | Less ↦ All-cons P (name, v) (e ∷ es) (p name) h
      | Equal ↦ All-cons P (e.0, v) es (p e.0) (All-tail P e es h)
      | Greater ↦ All-cons P e (put_name es name v) (All-head P e es h) (put_all P name v p es (All-tail P e es h))
    ]

birth_is : (g : Geometry) (inode : ℕ) → 0 < inode → inode < 2 ^ 16 → inode ≤ g.inodes → IsBirth g (birth_of inode)
birth_is g inode some fits within = record { fits = grind arith; within = grind arith }

pub put_birth : (g : Geometry) (names : List (List ℕ × ℕ)) (name : List ℕ) (inode : ℕ) → 0 < inode → inode < 2 ^ 16 → inode ≤ g.inodes → AreBirths g names → AreBirths g (put_name names name (birth_of inode))
put_birth g names name inode some fits within h = record {
  each = put_all (λ e. IsBirth g e.1) name (birth_of inode) (λ _. birth_is g inode some fits within) names h.each;
}
