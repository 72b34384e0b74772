-- The nodes that a step lists.
use Rattle.std.specs.Prelude.{◌≡◌, ◌≢◌, ◌<◌, ℕ, List, [], ◌∷◌, Option, Some, option_map, refl}
use Rattle.std.specs.List.Sorted.{IsStrictlySortedBy}
use Rattle.std.specs.Map.{keys_of, remove_entry}
use Rattle.std.specs.BTreeMap.{is_at}
use Rattle.std.specs.Ordering.{nat_cmp}
use Rattle.std.proofs.Common.{sym, ap, subst, inl, inr, ⊎_elim, ◌∙◌}
use Rattle.std.proofs.lemmas.Option.{same_Some, none-some}
use Rattle.blk_base.specs.Members.{In}
use Rattle.blk_base.specs.laws.Members.{In-append_left, In-append_right, In-append_cases}
use Rattle.minix_layout.specs.declared.division.Geometry.{Geometry}
use Rattle.tree_model.specs.Maps.{at_number, put_number}
use Rattle.tree_model.specs.laws.MapsLaws.{at_put_number, at_put_number_apart}
use Rattle.tree_model.specs.laws.MapOrder.{at_put_cases, at_without_here, at_without_apart}
use Rattle.volume_ops.specs.declared.found.Mapped.{Mapped}
use Rattle.volume_model.specs.declared.placed.Placed.{Placed}
use Rattle.volume_model.specs.declared.placed.Part.TheVariants as parts
use Rattle.volume_model.specs.Touched.{Contents, Touched, and_then}
use Rattle.volume_steps.specs.laws.Steady.{TellsNodes, Shape, shape_of, shape_at}
use Rattle.volume_steps.proofs.Taking.{in_zones}

-- no node is listed, and each has its shape
pub none_told : (g : Geometry) (v w : Contents) (t : Touched) → t.nodes ≡ [] → w.nodes ≡ v.nodes → TellsNodes g v w t
none_told g v w t none same = record {
  others = λ birth out. ap (λ nodes. shape_at nodes birth) same;
  tables = λ birth p zones i at is. absurd (subst (In birth) none i);
}

-- a node that is put is the one that is listed
pub put_told : (g : Geometry) (v w : Contents) (t : Touched) (n : ℕ) (q : Placed) → w.nodes ≡ put_number v.nodes n q → In n t.nodes → ((birth : ℕ) → In birth t.nodes → birth ≡ n) →
    ((zones : List Mapped) → q.part ≡ parts.File zones → (b : ℕ) × In b t.blocks × (b < g.first)) → TellsNodes g v w t
put_told g v w t n q nodes listed one table = record {
  others = λ birth out.
      let apart : birth ≢ n = λ e. out (subst (λ b. In b t.nodes) (sym e) listed) in
      ap (λ nodes. shape_at nodes birth) nodes ∙ ap (option_map shape_of) (at_put_number_apart v.nodes n q birth apart);
  tables = λ birth p zones i at is.
      let same : q ≡ p = same_Some q p (sym (at_put_number v.nodes n q) ∙ (sym (ap (at_number (put_number v.nodes n q)) (one birth i)) ∙ (sym (ap (λ nodes. at_number nodes birth) nodes) ∙ at))) in
      table zones (ap (λ (q : Placed). q.part) same ∙ is);
}

-- one that is put with its shape need not be
pub same_told : (g : Geometry) (v w : Contents) (t : Touched) (n : ℕ) (p q : Placed) → w.nodes ≡ put_number v.nodes n q → at_number v.nodes n ≡ Some p → shape_of q ≡ shape_of p → t.nodes ≡ [] → TellsNodes g v w t
same_told g v w t n p q nodes at same none = record {
  others = λ birth out. ap (λ nodes. shape_at nodes birth) nodes
      ∙ at_put_cases (λ o. option_map shape_of o ≡ shape_at v.nodes birth) v.nodes n q birth
      (λ e. ap Some same ∙ sym (ap (option_map shape_of) (ap (at_number v.nodes) e ∙ at))) (λ far. refl);
  tables = λ birth p zones i found is. absurd (subst (In birth) none i);
}

-- one that goes is listed
pub gone_told : (g : Geometry) (v w : Contents) (t : Touched) (n : ℕ) → w.nodes ≡ remove_entry (is_at (nat_cmp n)) v.nodes → IsStrictlySortedBy nat_cmp (keys_of v.nodes) → t.nodes ≡ n ∷ [] → TellsNodes g v w t
gone_told g v w t n nodes sorted only = record {
  others = λ birth out.
      let apart : birth ≢ n = λ e. out (subst (In birth) (sym only) (inl (sym e))) in
      ap (λ nodes. shape_at nodes birth) nodes ∙ ap (option_map shape_of) (at_without_apart v.nodes n birth sorted apart);
  tables = λ birth p zones i at is. elim (subst (In birth) only i) [
    | inl e ↦ absurd (none-some p (sym (at_without_here v.nodes n sorted) ∙ (ap (at_number (remove_entry (is_at (nat_cmp n)) v.nodes)) e ∙ (sym (ap (λ nodes. at_number nodes birth) nodes) ∙ at))))
    | inr z ↦ absurd z
  ];
}

-- ---- two steps

-- a node with the shape of one has its part
shape_part : (o : Option Placed) (p : Placed) → option_map shape_of (Some p) ≡ option_map shape_of o → (q : Placed) × (o ≡ Some q) × (q.part ≡ p.part)
shape_part (Some q) p same = (q, refl, sym (ap (λ (s : Shape). s.part) (same_Some (shape_of p) (shape_of q) same)))
shape_part other p same = absurd (none-some (shape_of p) (sym same))

pub nodes_then : (g : Geometry) (v w z : Contents) (s t : Touched) → TellsNodes g v w s → TellsNodes g w z t → TellsNodes g v z (and_then s t)
nodes_then g v w z s t h k = record {
  others = λ birth out. k.others birth (λ i. out (In-append_right s.nodes t.nodes birth i)) ∙ h.others birth (λ i. out (In-append_left s.nodes t.nodes birth i));
  tables = λ birth p zones i at is. ⊎_elim
      (λ second. let b = k.tables birth p zones second at is in (b.0, In-append_right s.blocks t.blocks b.0 b.1, b.2))
      (λ out.
      let first = ⊎_elim (λ i. i) (λ second. absurd (out second)) (In-append_cases s.nodes t.nodes birth i) in
      let was = shape_part (at_number w.nodes birth) p (sym (ap (option_map shape_of) at) ∙ k.others birth out) in
      let b = h.tables birth was.0 zones first was.1 (was.2 ∙ is) in
      (b.0, In-append_left s.blocks t.blocks b.0 b.1, b.2))
      (in_zones birth t.nodes);
}
