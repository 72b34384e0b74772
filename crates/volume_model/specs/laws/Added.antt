-- A move by itself: a node without zones and names is added. Volumes stand before and after it.
use Rattle.std.specs.Prelude.{◌≡◌, ◌≢◌, ℕ, List, Some}
use Rattle.std.proofs.Common.{sym, ap, subst, ◌∙◌, inl, inr}
use Rattle.std.proofs.lemmas.Bool.{cases_eq}
use Rattle.std.proofs.lemmas.Cmp.{nat_cmp_total}
use Rattle.std.proofs.lemmas.Option.{none-some, same_Some}
use Rattle.minix_layout.specs.declared.division.Geometry.{Geometry}
use Rattle.tree_model.specs.Maps.{at_number, put_number}
use Rattle.tree_model.specs.laws.MapOrder.{sorted_put}
use Rattle.tree_model.specs.laws.MapsLaws.{at_put_number, at_put_number_apart}
use Rattle.volume_model.specs.declared.placed.Placed.{Placed}
use Rattle.volume_model.specs.declared.placed.DirectoryPart.{DirectoryPart}
use Rattle.volume_model.specs.Edits.{put_inode, edited}
use Rattle.volume_model.specs.Changes.{Changes}
use Rattle.volume_model.specs.laws.Changes.{changes_inode}
use Rattle.volume_model.specs.Volume.{Place, zone_in, IsStored, HasNumber, HasNames, IsVolumeOf}
use Rattle.volume_model.specs.laws.Zones.{zones_kept}
use Rattle.volume_model.specs.laws.Written.{stored_kept}
use Rattle.volume_model.specs.Moves.{AreJust, MayAdd}
use Rattle.volume_model.specs.laws.OnWay.{just_same}

module _ (g : Geometry) (blocks : List (List ℕ)) (nodes : List (ℕ × Placed)) (n : ℕ) (q : Placed) (h : IsVolumeOf g blocks nodes) (may : MayAdd g blocks nodes n q) where
  abbrev after : List (List ℕ)
  after = edited g blocks (put_inode q.number q.inode)

  abbrev more : List (ℕ × Placed)
  more = put_number nodes n q

  changes : Changes g (λ j. j ≡ q.number) (λ _. ⊥) blocks after
  changes = changes_inode g blocks q.number q.inode may.sound h.whole h.size may.stored.some may.stored.within may.stored.fits

  same_zone : (b : ℕ) (p : Placed) → at_number nodes b ≡ Some p → (x : Place) → zone_in after p.inode x ≡ zone_in blocks p.inode x
  same_zone b p at = zones_kept blocks after p.inode (λ x numbers some. changes.zones _ ((h.each b p at).zones x some).0 (λ z. z))

  -- a node is the new one or an old one
  data Which (b : ℕ) (p : Placed) : Type 0 where
    new : b ≡ n → q ≡ p → Which b p
    old : b ≢ n → at_number nodes b ≡ Some p → Which b p

  which : (b : ℕ) (p : Placed) → at_number more b ≡ Some p → Which b p
  which b p at =
      elim (cases_eq b n) [
        | inl e ↦ new e (same_Some q p (sym (at_put_number nodes n q) ∙ subst (λ b. at_number more b ≡ Some p) e at))
        | inr a ↦ old a (sym (at_put_number_apart nodes n q b a) ∙ at)
      ]

  old_number : (b number : ℕ) → HasNumber nodes b number → HasNumber more b number
  old_number b number x =
      (x.0, at_put_number_apart nodes n q b (λ e. none-some x.0 (sym may.birth ∙ (ap (at_number nodes) (sym e) ∙ x.1))) ∙ x.1, x.2)

  names_kept : (d : DirectoryPart) → HasNames nodes d → HasNames more d
  names_kept d x = record {
    named = λ name b at. (let m = x.named name b at in record { place = m.place; slot = m.slot; stands = m.stands; name_is = m.name_is; no_dot = m.no_dot; number = old_number b m.slot.inode m.number });
    full = λ k s at dot. (let f = x.full k s at dot in (f.0, f.1, old_number f.0 s.inode f.2));
    count = x.count;
    once = x.once;
  }

  -- After the move the blocks say the nodes with the new one.
  pub added_stands : IsVolumeOf g after more
  added_stands = record {
    whole = changes.whole;
    size = changes.size ∙ h.size;
    in_order = sorted_put nat_cmp_total nodes n q h.in_order;
    each = λ b p at. elim (which b p at) [
      | new e same ↦ subst (IsStored g after) same may.stored
      | old a was ↦ (let told = h.each b p was in stored_kept g blocks after p told
          (changes.inodes p.number told.some told.within (may.unused b p was))
          (λ x some. changes.zones _ (told.zones x some).0 (λ z. z)))
    ];
    names = λ b p d at is. elim (which b p at) [
      | new e same ↦ absurd (may.no_directory d (ap (λ (p : Placed). p.part) same ∙ is))
      | old a was ↦ names_kept d (h.names b p d was is)
    ];
    numbers = λ a b p r at bt same. elim (which a p at) [
      | new e is ↦ elim (which b r bt) [
        | new f it ↦ e ∙ sym f
        | old x was ↦ absurd (may.unused b r was (sym same ∙ sym (ap (λ (p : Placed). p.number) is)))
      ]
      | old x was ↦ elim (which b r bt) [
        | new f it ↦ absurd (may.unused a p was (same ∙ sym (ap (λ (p : Placed). p.number) it)))
        | old y also ↦ h.numbers a b p r was also same
      ]
    ];
    zones = λ a b p r x y at bt same some. elim (which a p at) [
      | new e is ↦ absurd (some (ap (λ (p : Placed). zone_in after p.inode x) (sym is) ∙ may.no_zone x))
      | old u was ↦ elim (which b r bt) [
        | new f it ↦ absurd (some (same ∙ (ap (λ (p : Placed). zone_in after p.inode y) (sym it) ∙ may.no_zone y)))
        | old w also ↦ h.zones a b p r x y was also (sym (same_zone a p was x) ∙ (same ∙ same_zone b r also y)) (λ none. some (same_zone a p was x ∙ none))
      ]
    ];
  }

  -- and no zone of numbers is there for nothing
  pub added_just : AreJust blocks nodes → AreJust after more
  added_just just b p at = elim (which b p at) [
    | new e same ↦ λ x some. absurd (some (ap (λ (p : Placed). zone_in after p.inode x) (sym same) ∙ may.no_zone x))
    | old a was ↦ just_same (λ x. zone_in blocks p.inode x) (λ x. zone_in after p.inode x) (same_zone b p was) (just b p was)
  ]
