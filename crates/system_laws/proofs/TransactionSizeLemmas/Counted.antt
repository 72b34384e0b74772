-- How many blocks a change tells, besides those of the map of zones.
use Rattle.std.specs.Prelude.{◌≡◌, ℕ, ◌+◌, ◌<◌, ◌≤◌, ◌⊎◌, Bool, true, false, if◌then◌else◌, List, [], ◌++◌, length, map, Option, Some, None, Result, Ok, Err, refl}
use Rattle.std.proofs.Common.{sym, ap, subst, ◌∙◌, inl, inr, ⊎_elim, arith, length-append}
use Rattle.blk_base.specs.Members.{In}
use Rattle.blk_base.specs.laws.Members.{In-append_left, In-append_right, In-append_cases}
use Rattle.minix_layout.specs.declared.division.Geometry.{Geometry}
use Rattle.minix_layout.specs.Geometry.{IsSound}
use Rattle.tree_model.specs.declared.call.Reply.TheVariants as replies
use Rattle.tree_model.specs.declared.call.Reply.{Reply}
use Rattle.tree_model.specs.Calls.{Place, Found, names_in, parent_of, walk_path, and_then as and_then_row}
use Rattle.tree_model.specs.Maps.{at_number}
use Rattle.volume_ops.specs.declared.found.Mapped.{Mapped}
use Rattle.volume_model.specs.declared.placed.Placed.{Placed}
use Rattle.volume_model.specs.declared.placed.Part.{Part}
use Rattle.volume_model.specs.declared.placed.Part.TheVariants as parts
use Rattle.volume_model.specs.declared.placed.DirectoryPart.{DirectoryPart}
use Rattle.volume_model.specs.Edits.{touched_by, touched_by_all}
use Rattle.volume_steps.specs.Now.{VolumeNow, Change, tree_of_now, unchanged, followed_by}
use Rattle.volume_steps.specs.Plain.{IsInUse}
use Rattle.volume_steps.specs.Steps.{at_node, at_directory, at_file}
use Rattle.volume_steps.specs.Calls.{at_place, at_path}
use Rattle.volume_steps.specs.Zones.{zone_bit}
use Rattle.volume_steps.proofs.StepsTo.{joined}
use Rattle.vol_check.proofs.KeptCleanLemmas.ChangedLemmas.Ends.{bits_told}

-- a block of the map of zones
abbrev pub InMap : Geometry → ℕ → Type 0
InMap g b = (2 + g.imap ≤ b) × (b < 2 + g.imap + g.zmap)

-- the volume is one that there can be, and its zones of data are those of its division
pub record IsFit (v : VolumeNow) : Type 0 where
  pub sound : IsSound v.geometry
  pub zones : v.zones.first + length v.zones.states ≡ v.geometry.zones

-- a change frees zones of the volume alone
abbrev pub FreesZones : VolumeNow → Change → Type 0
FreesZones v c = (z : ℕ) → In z c.touched.freed → z < v.geometry.zones

-- it tells blocks of the map of zones and at most `k` different others, and revokes at most `r`
pub record Counted (v : VolumeNow) (c : Change) (k r : ℕ) : Type 0 where
  pub geometry : c.volume.geometry ≡ v.geometry
  pub zones : c.volume.zones.first + length c.volume.zones.states ≡ v.zones.first + length v.zones.states
  pub among : List ℕ
  pub few : length among ≤ k
  pub told : IsFit v → FreesZones v c → (b : ℕ) → In b c.touched.blocks → InMap v.geometry b ⊎ In b among
  pub revokes : length c.touched.revoked ≤ r

pub fit_in_use : (v : VolumeNow) → IsInUse v → IsFit v
fit_in_use v h =
    let some = h.sound.some_zone in
    let first = h.first in
    let size = h.size in
    record { sound = h.sound; zones = omega (arith, some, first, size) }

-- ---- bits

-- the bit of a zone stands in the map
pub bit_in_map : (g : Geometry) → IsSound g → (value : Bool) (z : ℕ) → z < g.zones → InMap g (touched_by g (zone_bit g value z))
bit_in_map g sound value z high =
    let bits = sound.zone_bits in
    (omega arith, omega (arith, bits, high))

pub bits_in_map : (g : Geometry) → IsSound g → (value : Bool) (zones : List ℕ) → ((z : ℕ) → In z zones → z < g.zones) → (b : ℕ) → In b (touched_by_all g (map (zone_bit g value) zones)) → InMap g b
bits_in_map g sound value zones within b i =
    let t = bits_told g value zones b i in
    subst (InMap g) t.2 (bit_in_map g sound value t.0 (within t.0 t.1))

-- ---- one after the other

pub counted_none : (v : VolumeNow) (k r : ℕ) → Counted v (unchanged v) k r
counted_none v k r = record { geometry = refl; zones = refl; among = []; few = omega arith; told = λ fit frees b i. absurd i; revokes = omega arith }

pub counted_more : (v : VolumeNow) (c : Change) (j k q r : ℕ) → j ≤ k → q ≤ r → Counted v c j q → Counted v c k r
counted_more v c j k q r more also one =
    let few = one.few in
    let revokes = one.revokes in
    record { geometry = one.geometry; zones = one.zones; among = one.among; few = omega (arith, few, more); told = one.told; revokes = omega (arith, revokes, also) }

fit_then : (v : VolumeNow) (c : Change) (k r : ℕ) → Counted v c k r → IsFit v → IsFit c.volume
fit_then v c k r one fit = record {
  sound = subst IsSound (sym one.geometry) fit.sound;
  zones = one.zones ∙ (fit.zones ∙ ap (λ (g : Geometry). g.zones) (sym one.geometry));
}

pub counted_joined : (v : VolumeNow) (c d : Change) (j k q r : ℕ) → Counted v c j q → Counted c.volume d k r → Counted v (joined c d) (j + k) (q + r)
counted_joined v c d j k q r one two =
    let first = one.few in
    let before = one.revokes in
    let after = two.revokes in
    let sum = length-append c.touched.revoked d.touched.revoked in
    let second = two.few in
    let both = length-append one.among two.among in
    record {
      geometry = two.geometry ∙ one.geometry;
      zones = two.zones ∙ one.zones;
      among = one.among ++ two.among;
      few = omega (arith, first, second, both);
      told = λ fit frees b i. elim (In-append_cases c.touched.blocks d.touched.blocks b i) [
        | inl here ↦ ⊎_elim (λ m. inl m) (λ n. inr (In-append_left one.among two.among b n)) (one.told fit (λ z f. frees z (In-append_left c.touched.freed d.touched.freed z f)) b here)
        | inr there ↦ ⊎_elim (λ m. inl (subst (λ g. InMap g b) one.geometry m)) (λ n. inr (In-append_right one.among two.among b n))
            (two.told (fit_then v c j q one fit) (λ z f. subst (λ (g : Geometry). z < g.zones) (sym one.geometry) (frees z (In-append_right c.touched.freed d.touched.freed z f))) b there)
      ];
      revokes = omega (arith, before, after, sum);
    }

pub counted_then : (v : VolumeNow) (c : Change) (next : VolumeNow → Change) (j k q r : ℕ) → Counted v c j q → Counted c.volume (next c.volume) k r → Counted v (followed_by c next) (j + k) (q + r)
counted_then v c next j k q r one two = counted_joined v c (next c.volume) j k q r one two

-- ---- by cases

pub counted_if : (v : VolumeNow) (k r : ℕ) (b : Bool) (c d : Change) → (b ≡ true → Counted v c k r) → (b ≡ false → Counted v d k r) → Counted v (if b then c else d) k r
counted_if v k r true c d one other = one refl
counted_if v k r false c d one other = other refl

pub counted_at_node : (v : VolumeNow) (n : ℕ) (change : Placed → Change) (k r : ℕ) → ((p : Placed) → at_number v.contents.nodes n ≡ Some p → Counted v (change p) k r) → Counted v (at_node v n change) k r
counted_at_node v n change k r each = by (at_number v.contents.nodes n) refl
  where
    by : (o : Option Placed) → at_number v.contents.nodes n ≡ o → Counted v (elim o as (λ _. Change) [ None ↦ unchanged v | Some p ↦ change p ]) k r
    by None e = counted_none v k r
    by (Some p) e = each p e

pub counted_at_directory : (v : VolumeNow) (n : ℕ) (change : Placed → DirectoryPart → Change) (k r : ℕ) →
    ((p : Placed) (d : DirectoryPart) → at_number v.contents.nodes n ≡ Some p → p.part ≡ parts.Directory d → Counted v (change p d) k r) → Counted v (at_directory v n change) k r
counted_at_directory v n change k r each =
    counted_at_node v n (λ p. elim p.part as (λ _. Change) [ parts.Directory d ↦ change p d | parts.File zones ↦ unchanged v ]) k r (λ p at. by p at p.part refl)
  where
    by : (p : Placed) → at_number v.contents.nodes n ≡ Some p → (part : Part) → p.part ≡ part → Counted v (elim part as (λ _. Change) [ parts.Directory d ↦ change p d | parts.File zones ↦ unchanged v ]) k r
    by p at (parts.Directory d) e = each p d at e
    by p at (parts.File zones) e = counted_none v k r

pub counted_at_file : (v : VolumeNow) (n : ℕ) (change : Placed → List Mapped → Change) (k r : ℕ) →
    ((p : Placed) (zones : List Mapped) → at_number v.contents.nodes n ≡ Some p → p.part ≡ parts.File zones → Counted v (change p zones) k r) → Counted v (at_file v n change) k r
counted_at_file v n change k r each =
    counted_at_node v n (λ p. elim p.part as (λ _. Change) [ parts.Directory d ↦ unchanged v | parts.File zones ↦ change p zones ]) k r (λ p at. by p at p.part refl)
  where
    by : (p : Placed) → at_number v.contents.nodes n ≡ Some p → (part : Part) → p.part ≡ part → Counted v (elim part as (λ _. Change) [ parts.Directory d ↦ unchanged v | parts.File zones ↦ change p zones ]) k r
    by p at (parts.Directory d) e = counted_none v k r
    by p at (parts.File zones) e = each p zones at e

pub counted_at_place : (v : VolumeNow) (path : List ℕ) (change : Place → Change) (k r : ℕ) → ((place : Place) → Counted v (change place) k r) → Counted v (at_place v path change) k r
counted_at_place v path change k r each = by (and_then_row (names_in path) (parent_of replies.Invalid (tree_of_now v)))
  where
    by : (o : Result Place Reply) → Counted v (elim o as (λ _. Change) [ Err reply ↦ unchanged v | Ok place ↦ change place ]) k r
    by (Err reply) = counted_none v k r
    by (Ok place) = each place

pub counted_at_path : (v : VolumeNow) (path : List ℕ) (change : ℕ → Change) (k r : ℕ) → ((birth : ℕ) → Counted v (change birth) k r) → Counted v (at_path v path change) k r
counted_at_path v path change k r each = by (walk_path (tree_of_now v) path)
  where
    by : (o : Result Found Reply) → Counted v (elim o as (λ _. Change) [ Err reply ↦ unchanged v | Ok found ↦ change found.birth ]) k r
    by (Err reply) = counted_none v k r
    by (Ok found) = each found.birth
