-- The volume of an image that was made is clean: its maps mark the root and its zone.
use Rattle.std.specs.Prelude.{◌≡◌, ℕ, zero, suc, ◌+◌, ◌-◌, ◌<◌, ◌≤◌, ◌==◌, Bool, true, false, [], ◌∷◌, take, map, slice_get, Option, Some, refl}
use Rattle.std.specs.List.{range_with_len}
use Rattle.std.specs.Ordering.{nat_cmp, is_eq}
use Rattle.std.proofs.Common.{sym, ap, subst, ◌∙◌, inl, inr, arith}
use Rattle.std.proofs.Math.Seq.{take-append_seam}
use Rattle.std.proofs.lemmas.Bool.{cases_eq, eqb-true, eq-eqb, ne_eqb}
use Rattle.std.proofs.lemmas.List.{get_or_append_left}
use Rattle.std.proofs.lemmas.Option.{none-some, same_Some}
use Rattle.blk_base.specs.Block.{filled}
use Rattle.minix_layout.specs.declared.bits.BitPlace.{BitPlace}
use Rattle.minix_layout.specs.declared.division.Geometry.{Geometry}
use Rattle.minix_layout.specs.Geometry.{IsSound}
use Rattle.minix_layout.specs.Bits.{bit_of, has_bit, inode_bit, zone_bit}
use Rattle.minix_tables.specs.declared.zones.zone_state.ZoneState.{ZoneState}
use Rattle.minix_tables.specs.declared.zones.zone_state.ZoneState.TheVariants as states
use Rattle.minix_tables.specs.zones.Zones.{state_of, mark}
use Rattle.minix_tables.specs.zones.laws.States.{state_above}
use Rattle.volume_ops.specs.Volume.{disk_of}
use Rattle.volume_model.specs.declared.placed.Placed.{Placed}
use Rattle.volume_model.specs.NewVolume.{root_placed}
use Rattle.volume_steps.specs.UsedInodes.{IsInodeUsed}
use Rattle.volume_steps.specs.Plain.{IsPlainNow}
use Rattle.volume_steps.specs.NewNow.{new_now}
use Rattle.mount_make.specs.Made.{made_volume, made_image}
use Rattle.mount_make.proofs.Filling.{length-made}
use Rattle.call_sessions.specs.made.MadeSessions.{made_now}
use Rattle.call_sessions.proofs.MadeLemmas.MadeInUse.{made_in_use}
use Rattle.vol_check.specs.Clean.{IsClean}
use Rattle.vol_check.specs.kept_clean.Marked.{IsMarked}
use Rattle.vol_check.proofs.KeptCleanLemmas.PlainClean.{marked_clean}

-- what a law says of the maps of an image that was made: they mark the root and its zone
pub record MarksRoot (g : Geometry) : Type 0 where
  pub inodes : (number : ℕ) → 1 ≤ number → number ≤ g.inodes → has_bit (made_image g 1 false) (inode_bit g number) ≡ (number == 1)
  pub zones : (zone : ℕ) → g.first ≤ zone → zone < g.zones → has_bit (made_image g 1 false) (zone_bit g zone) ≡ (zone == g.first)

-- the law says it of each division, and of any journal
pub marks_root :
    ((g : Geometry) (journal : ℕ) (wide : Bool) (number : ℕ) → IsSound g → 1 ≤ number → number ≤ g.inodes → has_bit (made_image g journal wide) (inode_bit g number) ≡ (number == 1)) →
    ((g : Geometry) (journal : ℕ) (wide : Bool) (zone : ℕ) → IsSound g → g.first ≤ zone → zone < g.zones → has_bit (made_image g journal wide) (zone_bit g zone) ≡ (zone == g.first)) →
    (g : Geometry) → IsSound g → MarksRoot g
marks_root inodes zones g sound = record { inodes = λ number low high. inodes g 1 false number sound low high; zones = λ zone low high. zones g 1 false zone sound low high }

module _ (g : Geometry) (sound : IsSound g) (marks : MarksRoot g) where
  -- ---- the blocks of the volume in the image

  pub volume_in_image : (journal : ℕ) (wide : Bool) → take g.zones (made_image g journal wide) ≡ made_volume g
  volume_in_image journal wide = ap (λ n. take n (made_image g journal wide)) (sym (length-made g)) ∙ take-append_seam (made_volume g) _

  block_there : (journal : ℕ) (wide : Bool) (b : ℕ) → b < g.zones → disk_of (made_image g journal wide) b ≡ disk_of (made_volume g) b
  block_there journal wide b low = get_or_append_left (made_volume g) _ (filled 0) b (let size = length-made g in omega arith)

  bit_there : (p : BitPlace) → p.block < 2 + g.imap + g.zmap → has_bit (made_volume g) p ≡ has_bit (made_image g 1 false) p
  bit_there p low =
      let below = sound.tables_below in
      let some = sound.some_zone in
      sym (ap (λ body. bit_of body p.at) (block_there 1 false p.block (omega (arith, low, below, some))))

  inode_bit_is : (number : ℕ) → 1 ≤ number → number ≤ g.inodes → has_bit (made_volume g) (inode_bit g number) ≡ (number == 1)
  inode_bit_is number low high =
      let bits = sound.inode_bits in
      bit_there (inode_bit g number) (omega (arith, low, high, bits)) ∙ marks.inodes number low high

  zone_bit_is : (zone : ℕ) → g.first ≤ zone → zone < g.zones → has_bit (made_volume g) (zone_bit g zone) ≡ (zone == g.first)
  zone_bit_is zone low high =
      let bits = sound.zone_bits in
      bit_there (zone_bit g zone) (omega (arith, low, high, bits)) ∙ marks.zones zone low high

  -- ---- what is in use

  root_used : (number : ℕ) → number ≡ 1 → IsInodeUsed (made_now g).contents.nodes number
  root_used number is = record { birth = 0; placed = root_placed g; stands = refl; is = sym is }

  used_root : (number : ℕ) → IsInodeUsed (made_now g).contents.nodes number → number ≡ 1
  used_root number x = sym x.is ∙ by (is_eq (nat_cmp x.birth 0)) refl
    where
      by : (found : Bool) → is_eq (nat_cmp x.birth 0) ≡ found → x.placed.number ≡ 1
      by true is = ap (λ (p : Placed). p.number) (sym (same_Some (root_placed g) x.placed (rw is at x.stands)))
      by false is = absurd (none-some x.placed (rw is at x.stands))

  states_at : (f : ℕ → ZoneState) (n a k : ℕ) → k < n → slice_get (map f (range_with_len a n)) k ≡ Some (f (a + k))
  states_at f zero a k low = absurd (omega (arith, low))
  states_at f (suc n) a zero low = (let same : a ≡ a + 0 = omega arith in ap (λ z. Some (f z)) same)
  states_at f (suc n) a (suc k) low = (let same : a + 1 + k ≡ a + suc k = omega arith in states_at f n (a + 1) k (omega (arith, low)) ∙ ap (λ z. Some (f z)) same)

  state_is : (zone : ℕ) → g.first ≤ zone → zone < g.zones → state_of (made_now g).zones zone ≡ Some (mark (g.first ∷ []) zone)
  state_is zone low high =
      let same : g.first + (zone - g.first) ≡ zone = omega (arith, low) in
      state_above (made_now g).zones zone low
      ∙ (states_at (mark (g.first ∷ [])) (g.zones - g.first) g.first (zone - g.first) (omega (arith, low, high)) ∙ ap (λ z. Some (mark (g.first ∷ []) z)) same)

  first_used : (zone : ℕ) → g.first ≤ zone → zone < g.zones → zone ≡ g.first → state_of (made_now g).zones zone ≡ Some states.Used
  first_used zone low high is = state_is zone low high ∙ rw (eq-eqb g.first zone (sym is)) refl

  used_first : (zone : ℕ) → g.first ≤ zone → zone < g.zones → state_of (made_now g).zones zone ≡ Some states.Used → zone ≡ g.first
  used_first zone low high used = elim (cases_eq g.first zone) [
    | inl is ↦ sym is
    | inr differ ↦
        let free : state_of (made_now g).zones zone ≡ Some states.Free = state_is zone low high ∙ rw (ne_eqb g.first zone differ) refl in
        absurd (let e : ◌≡◌ {A = Option ZoneState} (Some states.Free) (Some states.Used) = sym free ∙ used in cc)
  ]

  -- ---- so its maps mark that

  marked : IsMarked g (made_now g).contents (made_now g).zones
  marked = record {
    inodes = λ number low high.
        let bit = inode_bit_is number low high in
        (λ t. root_used number (eqb-true number 1 (sym bit ∙ t)), λ used. bit ∙ eq-eqb number 1 (used_root number used));
    zones_used = λ zone low high.
        let bit = zone_bit_is zone low high in
        (λ t. first_used zone low high (eqb-true zone g.first (sym bit ∙ t)), λ used. bit ∙ eq-eqb zone g.first (used_first zone low high used));
  }

  module _ (new : IsPlainNow (new_now g)) where
    pub made_clean : IsClean g (made_volume g)
    made_clean = marked_clean (made_now g) (made_in_use g sound new) marked

    pub image_clean : (journal : ℕ) (wide : Bool) → IsClean g (take g.zones (made_image g journal wide))
    image_clean journal wide = subst (IsClean g) (sym (volume_in_image journal wide)) made_clean
