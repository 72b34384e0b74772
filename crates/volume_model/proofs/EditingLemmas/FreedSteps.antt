-- What a cut lets go, one after the other.
use Rattle.std.specs.Prelude.{◌≡◌, ℕ, suc, ◌+◌, ◌-◌, ◌<◌, nat_eq, Bool, not, ◌&&◌, List, [], ◌∷◌, ◌++◌, map, filter, slice_index, refl}
use Rattle.std.specs.List.{range_with_len}
use Rattle.std.proofs.Common.{sym, ap, ◌∙◌, inl, inr, arith}
use Rattle.std.proofs.lemmas.Bool.{cases_Bool}
use Rattle.std.proofs.lemmas.List.{append_assoc, append-nil}
use Rattle.minix_layout.specs.declared.division.Geometry.{Geometry}
use Rattle.minix_layout.specs.declared.inode.Inode.{Inode}
use Rattle.minix_tables.specs.inodes.Map.{entry_behind}
use Rattle.volume_ops.specs.declared.found.Mapped.{Mapped}
use Rattle.volume_model.specs.declared.placed.Placed.{Placed}
use Rattle.volume_model.specs.Volume.{Place, indirect, double, inner, zone_in}
use Rattle.volume_model.specs.Ways.{entry_of}
use Rattle.volume_model.specs.Touched.{Contents}
use Rattle.volume_model.specs.Moves.{page_of, file_cut_touches}
use Rattle.volume_model.specs.editing.Zones.{blocks_cut, numbers_cut}
use Rattle.volume_model.specs.editing.code.Freed.{gone_of}

-- the zones of numbers that go, of some places
unfoldable pub numbers_among : List (List ℕ) → Inode → (Place → Bool) → List Place → List ℕ
numbers_among blocks i keeps xs = map (λ x. zone_in blocks i x) (filter (λ x. not (nat_eq (zone_in blocks i x) 0) && not (keeps x)) xs)

-- the zones of numbers that the doubly indirect one names, from a group on
unfoldable pub groups_from : ℕ → List Place
groups_from group = map inner (range_with_len group (512 - group))

groups-next : (group : ℕ) → group < 512 → groups_from group ≡ inner group ∷ groups_from (group + 1)
unfolding groups_from
groups-next group low = ap (λ n. map inner (range_with_len group n)) (let e : 512 - group ≡ suc (512 - (group + 1)) = omega arith in e)

groups-none : (group : ℕ) → 512 < group + 1 → groups_from group ≡ []
unfolding groups_from
groups-none group far = ap (λ n. map inner (range_with_len group n)) (let e : 512 - group ≡ 0 = omega arith in e)

module _ (blocks : List (List ℕ)) (i : Inode) (keeps : Place → Bool) where
  abbrev among : List Place → List ℕ
  among xs = numbers_among blocks i keeps xs

  numbers-none : among [] ≡ []
  unfolding numbers_among
  numbers-none = refl

  numbers-all : among (indirect ∷ double ∷ groups_from 0) ≡ numbers_cut blocks i keeps
  unfolding numbers_among numbers_cut groups_from
  numbers-all = refl

  numbers-cons : (x : Place) (xs : List Place) → among (x ∷ xs) ≡ gone_of (zone_in blocks i x) (keeps x) ++ among xs
  unfolding gone_of numbers_among
  numbers-cons x xs = elim (cases_Bool (not (nat_eq (zone_in blocks i x) 0) && not (keeps x))) [ inl t ↦ rw t refl | inr f ↦ rw f refl ]

  pub first_numbers : (none one two : List ℕ) (first second : ℕ) (a b : Bool) → first ≡ slice_index i.zones 7 → second ≡ slice_index i.zones 8 → a ≡ keeps indirect → b ≡ keeps double →
      none ≡ [] → one ≡ none ++ gone_of first a → two ≡ one ++ gone_of second b → two ++ among (groups_from 0) ≡ numbers_cut blocks i keeps
  first_numbers none one two first second a b f s k l z e h =
      ap (λ xs. xs ++ among (groups_from 0)) (h ∙ ap (λ xs. xs ++ gone_of second b) (e ∙ ap (λ xs. xs ++ gone_of first a) z))
      ∙ (append_assoc (gone_of first a) (gone_of second b) (among (groups_from 0))
      ∙ (ap (λ z. gone_of z a ++ (gone_of second b ++ among (groups_from 0))) f
      ∙ (ap (λ t. gone_of (slice_index i.zones 7) t ++ (gone_of second b ++ among (groups_from 0))) k
      ∙ (ap (λ z. gone_of (slice_index i.zones 7) (keeps indirect) ++ (gone_of z b ++ among (groups_from 0))) s
      ∙ (ap (λ t. gone_of (slice_index i.zones 7) (keeps indirect) ++ (gone_of (slice_index i.zones 8) t ++ among (groups_from 0))) l
      ∙ (sym (numbers-cons indirect (double ∷ groups_from 0) ∙ ap (λ xs. gone_of (slice_index i.zones 7) (keeps indirect) ++ xs) (numbers-cons double (groups_from 0))) ∙ numbers-all))))))

  pub next_number : (gone more : List ℕ) (group second zone : ℕ) (a : Bool) → group < 512 → second ≡ slice_index i.zones 8 → zone ≡ entry_behind (entry_of blocks) second group → a ≡ keeps (inner group) →
      more ≡ gone ++ gone_of zone a → gone ++ among (groups_from group) ≡ numbers_cut blocks i keeps → more ++ among (groups_from (group + 1)) ≡ numbers_cut blocks i keeps
  next_number gone more group second zone a low s z k e before =
      ap (λ xs. xs ++ among (groups_from (group + 1))) e
      ∙ (append_assoc gone (gone_of zone a) (among (groups_from (group + 1)))
      ∙ (ap (λ z. gone ++ (gone_of z a ++ among (groups_from (group + 1)))) (z ∙ ap (λ h. entry_behind (entry_of blocks) h group) s)
      ∙ (ap (λ t. gone ++ (gone_of (zone_in blocks i (inner group)) t ++ among (groups_from (group + 1)))) k
      ∙ (sym (ap (λ xs. gone ++ xs) (ap among (groups-next group low) ∙ numbers-cons (inner group) (groups_from (group + 1))))
      ∙ before))))

  pub all_numbers : (gone : List ℕ) (group : ℕ) → 512 < group + 1 → gone ++ among (groups_from group) ≡ numbers_cut blocks i keeps → gone ≡ numbers_cut blocks i keeps
  all_numbers gone group far before = sym (append-nil gone) ∙ (sym (ap (λ xs. gone ++ xs) (ap among (groups-none group far) ∙ numbers-none)) ∙ before)

-- ---- as a cut tells it

module _ (g : Geometry) (v : Contents) (n : ℕ) (p : Placed) (zones : List Mapped) (keeps : Place → Bool) (from : ℕ) where
  pub told_freed : (file_cut_touches g v n p zones keeps from).freed ≡ map (λ (m : Mapped). m.zone) (blocks_cut zones from) ++ numbers_cut v.blocks p.inode keeps
  unfolding numbers_cut
  told_freed = refl

  pub told_revoked : (file_cut_touches g v n p zones keeps from).revoked ≡ numbers_cut v.blocks p.inode keeps
  unfolding numbers_cut
  told_revoked = refl

  pub told_dropped : (file_cut_touches g v n p zones keeps from).dropped ≡ map (page_of n) (blocks_cut zones from)
  told_dropped = refl
