-- A move: one node changes in its inode and its zones. Volumes stand before and after it.
use Rattle.std.specs.Prelude.{◌≡◌, ◌≢◌, ℕ, List, Some}
use Rattle.std.proofs.Common.{sym, ap, subst, ◌∙◌, inl, inr}
use Rattle.std.proofs.lemmas.Bool.{cases_eq}
use Rattle.std.proofs.lemmas.Cmp.{nat_cmp_total}
use Rattle.std.proofs.lemmas.Option.{same_Some}
use Rattle.minix_layout.specs.declared.division.Geometry.{Geometry}
use Rattle.tree_model.specs.Maps.{at_number, put_number}
use Rattle.tree_model.specs.laws.MapOrder.{sorted_put}
use Rattle.tree_model.specs.laws.MapsLaws.{at_put_number, at_put_number_apart}
use Rattle.volume_ops.specs.Volume.{disk_of}
use Rattle.volume_model.specs.declared.placed.Placed.{Placed}
use Rattle.volume_model.specs.declared.placed.DirectoryPart.{DirectoryPart}
use Rattle.volume_model.specs.Volume.{Place, zone_in, IsStored, HasNumber, HasNames, IsVolumeOf}
use Rattle.volume_model.specs.laws.Written.{stored_kept, zone_kept}
use Rattle.volume_model.specs.Ways.{IsJust}
use Rattle.volume_model.specs.laws.OnWay.{just_same}
use Rattle.volume_model.specs.Moves.{MayChange, AreJust}

module _ (g : Geometry) (blocks after : List (List ℕ)) (nodes : List (ℕ × Placed)) (n : ℕ) (p q : Placed) (Z : ℕ → Type 0) (h : IsVolumeOf g blocks nodes) (may : MayChange g blocks after nodes n p q Z) where
  abbrev next : List (ℕ × Placed)
  next = put_number nodes n q

  -- a node is the changed one or another
  pub data Which (b : ℕ) (r : Placed) : Type 0 where
    changed : b ≡ n → q ≡ r → Which b r
    other : b ≢ n → at_number nodes b ≡ Some r → Which b r

  pub which : (b : ℕ) (r : Placed) → at_number next b ≡ Some r → Which b r
  which b r at =
      elim (cases_eq b n) [
        | inl e ↦ changed e (same_Some q r (sym (at_put_number nodes n q) ∙ subst (λ b. at_number next b ≡ Some r) e at))
        | inr a ↦ other a (sym (at_put_number_apart nodes n q b a) ∙ at)
      ]

  pub same_disk : (b : ℕ) (r : Placed) → at_number nodes b ≡ Some r → b ≢ n → (x : Place) → zone_in blocks r.inode x ≢ 0 → disk_of after (zone_in blocks r.inode x) ≡ disk_of blocks (zone_in blocks r.inode x)
  same_disk b r at apart x some = may.changes.zones _ ((h.each b r at).zones x some).0 (may.not_theirs b r x at apart some)

  pub same_zone : (b : ℕ) (r : Placed) → at_number nodes b ≡ Some r → b ≢ n → (x : Place) → zone_in after r.inode x ≡ zone_in blocks r.inode x
  same_zone b r at apart = zone_kept blocks after r.inode (same_disk b r at apart)

  other_number : (b : ℕ) (r : Placed) → at_number nodes b ≡ Some r → b ≢ n → r.number ≢ p.number
  other_number b r at apart same = apart (h.numbers b n r p at may.stands same)

  number_kept : (b number : ℕ) → HasNumber nodes b number → HasNumber next b number
  number_kept b number x =
      elim (cases_eq b n) [
        | inl e ↦
            let one : p ≡ x.0 = same_Some p x.0 (sym may.stands ∙ subst (λ b. at_number nodes b ≡ Some x.0) e x.1) in
            (q, subst (λ b. at_number next b ≡ Some q) (sym e) (at_put_number nodes n q), may.number ∙ (ap (λ (p : Placed). p.number) one ∙ x.2))
        | inr a ↦ (x.0, at_put_number_apart nodes n q b a ∙ x.1, x.2)
      ]

  names_kept : (d : DirectoryPart) → HasNames nodes d → HasNames next d
  names_kept d x = record {
    named = λ name b at. (let m = x.named name b at in record { place = m.place; slot = m.slot; stands = m.stands; name_is = m.name_is; no_dot = m.no_dot; number = number_kept b m.slot.inode m.number });
    full = λ k s at dot. (let f = x.full k s at dot in (f.0, f.1, number_kept f.0 s.inode f.2));
    count = x.count;
    once = x.once;
  }

  pub changed_just : AreJust blocks nodes → IsJust (λ x. zone_in after q.inode x) → AreJust after next
  changed_just just mine b r at = elim (which b r at) [
    | changed e same ↦ subst (λ (r : Placed). IsJust (λ x. zone_in after r.inode x)) same mine
    | other a was ↦ just_same (λ x. zone_in blocks r.inode x) (λ x. zone_in after r.inode x) (same_zone b r was a) (just b r was)
  ]

  -- After the move the blocks say the nodes with the changed one.
  pub changed_stands : IsVolumeOf g after next
  changed_stands = record {
    whole = may.changes.whole;
    size = may.changes.size ∙ h.size;
    in_order = sorted_put nat_cmp_total nodes n q h.in_order;
    each = λ b r at. elim (which b r at) [
      | changed e same ↦ subst (IsStored g after) same may.stored
      | other a was ↦ (let told = h.each b r was in stored_kept g blocks after r told
          (may.changes.inodes r.number told.some told.within (other_number b r was a))
          (same_disk b r was a))
    ];
    names = λ b r d at is. elim (which b r at) [
      | changed e same ↦ names_kept d (may.names d (ap (λ (p : Placed). p.part) same ∙ is))
      | other a was ↦ names_kept d (h.names b r d was is)
    ];
    numbers = λ a b r s at bt same. elim (which a r at) [
      | changed e is ↦ elim (which b s bt) [
        | changed f it ↦ e ∙ sym f
        | other v was ↦ absurd (other_number b s was v (sym same ∙ (sym (ap (λ (p : Placed). p.number) is) ∙ may.number)))
      ]
      | other u was ↦ elim (which b s bt) [
        | changed f it ↦ absurd (other_number a r was u (same ∙ (sym (ap (λ (p : Placed). p.number) it) ∙ may.number)))
        | other v also ↦ h.numbers a b r s was also same
      ]
    ];
    zones = λ a b r s x y at bt same some. elim (which a r at) [
      | changed e is ↦ elim (which b s bt) [
        | changed f it ↦ (e ∙ sym f, may.apart x y (mine r x is ∙ (same ∙ sym (mine s y it))) (λ none. some (sym (mine r x is) ∙ none)))
        | other v was ↦ absurd (may.none_of_theirs b s x y was v (mine r x is ∙ (same ∙ same_zone b s was v y)) (λ none. some (sym (mine r x is) ∙ none)))
      ]
      | other u was ↦ elim (which b s bt) [
        | changed f it ↦ absurd (may.none_of_theirs a r y x was u (mine s y it ∙ (sym same ∙ same_zone a r was u x)) (λ none. some (same ∙ (sym (mine s y it) ∙ none))))
        | other v also ↦ h.zones a b r s x y was also (sym (same_zone a r was u x) ∙ (same ∙ same_zone b s also v y)) (λ none. some (same_zone a r was u x ∙ none))
      ]
    ];
  }
    where
      mine : (r : Placed) (x : Place) → q ≡ r → zone_in after q.inode x ≡ zone_in after r.inode x
      mine r x is = ap (λ (p : Placed). zone_in after p.inode x) is
