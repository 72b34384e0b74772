-- A name and its slot come: names and slots of the directory say the same as before.
use Rattle.std.specs.Prelude.{◌≡◌, ℕ, false, List, is_some, Some, None, ◌⊎◌}
use Rattle.std.specs.List.{slice_get}
use Rattle.std.proofs.Common.{sym, ap, subst, ◌∙◌, inl, inr, ⊎_elim, arith}
use Rattle.std.proofs.lemmas.Bool.{cases_eq}
use Rattle.std.proofs.lemmas.Option.{none-some, same_Some}
use Rattle.minix_layout.specs.declared.slot.Slot.{Slot}
use Rattle.tree_model.specs.Maps.{at_name, put_name}
use Rattle.tree_model.specs.laws.MapsLaws.{at_put_name, at_put_name_cases, at_put_name_kept}
use Rattle.tree_model.specs.Paths.{is_dot}
use Rattle.volume_model.specs.declared.placed.Placed.{Placed}
use Rattle.volume_model.specs.declared.placed.DirectoryPart.{DirectoryPart}
use Rattle.minix_tables.specs.directories.Slots.{room, with_slot}
use Rattle.volume_model.specs.Volume.{HasNumber, HasNames}
use Rattle.volume_model.specs.Moves.{with_name}
use Rattle.minix_tables.specs.directories.laws.Slots.{room-within, room-free, with_slot-here, with_slot-other, with_slot-kept, with_slot-count}
use Rattle.volume_model.specs.laws.Trees.{length_put_new}

module _ (nodes : List (ℕ × Placed)) (d : DirectoryPart) (s : Slot) (birth : ℕ) (h : HasNames nodes d)
    (free : at_name d.names s.name ≡ None) (no_dot : is_dot s.name ≡ false) (number : HasNumber nodes birth s.inode) where
  abbrev k : ℕ
  k = room d.slots

  slots_kept : (j : ℕ) (t : Slot) → slice_get d.slots j ≡ Some (Some t) → slice_get (with_slot d.slots k s) j ≡ Some (Some t)
  slots_kept j t at = with_slot-kept d.slots k j s (Some t) (λ e. room-free d.slots t (subst (λ j. slice_get d.slots j ≡ Some (Some t)) e at)) at

  slot_cases : (j : ℕ) (t : Slot) → slice_get (with_slot d.slots k s) j ≡ Some (Some t) → ((j ≡ k) × (s ≡ t)) ⊎ (slice_get d.slots j ≡ Some (Some t))
  slot_cases j t at =
      let low = room-within d.slots in
      elim (cases_eq j k) [
        | inl e ↦ inl (e, same_Some s t (same_Some (Some s) (Some t) (sym (with_slot-here d.slots k s low) ∙ subst (λ i. slice_get (with_slot d.slots k s) i ≡ Some (Some t)) e at)))
        | inr a ↦ inr (with_slot-other d.slots k j s (Some t) low a at)
      ]

  -- the name stood in no slot
  no_slot : (j : ℕ) (t : Slot) → slice_get d.slots j ≡ Some (Some t) → t.name ≡ s.name → ⊥
  no_slot j t at e =
      let f = h.full j t at (ap is_dot e ∙ no_dot) in
      none-some f.0 (sym free ∙ (ap (at_name d.names) (sym e) ∙ f.1))

  pub names_with : HasNames nodes (with_name d s birth)
  names_with = record {
    named = λ name b at.
        ⊎_elim
        (λ x. record {
          place = k;
          slot = s;
          stands = with_slot-here d.slots k s (room-within d.slots);
          name_is = x.0;
          no_dot = ap is_dot (sym x.0) ∙ no_dot;
          number = subst (λ b. HasNumber nodes b s.inode) x.1 number;
        })
        (λ old.
        let m = h.named name b old in
        record { place = m.place; slot = m.slot; stands = slots_kept m.place m.slot m.stands; name_is = m.name_is; no_dot = m.no_dot; number = m.number })
        (at_put_name_cases d.names s.name birth name b at);
    full = λ j t at dot.
        ⊎_elim
        (λ x. (birth, ap (λ (t : Slot). at_name (put_name d.names s.name birth) t.name) (sym x.1) ∙ at_put_name d.names s.name birth, subst (λ (t : Slot). HasNumber nodes birth t.inode) x.1 number))
        (λ old. (let f = h.full j t old dot in (f.0, at_put_name_kept d.names s.name birth t.name f.0 (ap is_some free) f.1, f.2)))
        (slot_cases j t at);
    count = with_slot-count d.slots s ∙ (let one = length_put_new d.names s.name birth free in let was = h.count in omega arith);
    once = λ i j t u at bt same.
        ⊎_elim
        (λ x. ⊎_elim
        (λ y. x.0 ∙ sym y.0)
        (λ old. absurd (no_slot j u old (sym same ∙ sym (ap (λ (t : Slot). t.name) x.1))))
        (slot_cases j u bt))
        (λ old. ⊎_elim
        (λ y. absurd (no_slot i t old (same ∙ sym (ap (λ (t : Slot). t.name) y.1))))
        (λ more. h.once i j t u old more same)
        (slot_cases j u bt))
        (slot_cases i t at);
  }
