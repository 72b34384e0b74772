-- Marks of the nodes' inodes, where nodes come, change in place or go.
use Rattle.std.specs.Prelude.{◌≡◌, ◌≢◌, ◌⊎◌, ℕ, Bool, false, List, Option, Some, None, option_map, refl}
use Rattle.std.proofs.Common.{sym, ap, subst, ◌∙◌, inl, inr, arith}
use Rattle.std.proofs.lemmas.Bool.{cases_eq, true≢false}
use Rattle.std.proofs.lemmas.List.{length-set, get_or-set_same, get_or-set_other}
use Rattle.std.proofs.lemmas.Option.{same_Some, none-some}
use Rattle.minix_layout.specs.declared.division.Geometry.{Geometry}
use Rattle.tree_model.specs.Maps.{at_number, put_number}
use Rattle.tree_model.specs.laws.MapsLaws.{at_put_number, at_put_number_apart}
use Rattle.tree_model.specs.laws.MapOrder.{InOrder, in_order_put}
use Rattle.volume_model.specs.declared.placed.Placed.{Placed}
use Rattle.volume_ops.specs.Marks.{is_marked, marked}
use Rattle.volume_ops.specs.laws.MarksLaws.{is_marked_same, is_marked_other, length-marked}
use Rattle.volume_steps.specs.UsedInodes.{IsInodeUsed}
use Rattle.volume_names.specs.UsedInodes.{MarksNodes, unmarked}

-- the inode of the node with this birth, if it is there
abbrev pub number_at : List (ℕ × Placed) → ℕ → Option ℕ
number_at nodes birth = option_map (λ (p : Placed). p.number) (at_number nodes birth)

-- ---- nodes by their numbers

pub has_there : (nodes : List (ℕ × Placed)) (birth number : ℕ) → number_at nodes birth ≡ Some number → IsInodeUsed nodes number
has_there nodes birth number = by (at_number nodes birth) refl
  where
    by : (o : Option Placed) → at_number nodes birth ≡ o → option_map (λ (p : Placed). p.number) o ≡ Some number → IsInodeUsed nodes number
    by None e h = absurd (none-some number h)
    by (Some p) e h = record { birth = birth; placed = p; stands = e; is = same_Some p.number number h }

number_there : (nodes : List (ℕ × Placed)) (number : ℕ) (has : IsInodeUsed nodes number) → number_at nodes has.birth ≡ Some number
number_there nodes number has = ap (option_map (λ (p : Placed). p.number)) has.stands ∙ ap Some has.is

-- no inode has two nodes
pub same_birth : (nodes : List (ℕ × Placed)) (a b number : ℕ) → ((a b : ℕ) (p q : Placed) → at_number nodes a ≡ Some p → at_number nodes b ≡ Some q → p.number ≡ q.number → a ≡ b) →
    number_at nodes a ≡ Some number → number_at nodes b ≡ Some number → a ≡ b
same_birth nodes a b number once first second = by (at_number nodes a) (at_number nodes b) refl refl first second
  where
    by : (o r : Option Placed) → at_number nodes a ≡ o → at_number nodes b ≡ r → option_map (λ (p : Placed). p.number) o ≡ Some number → option_map (λ (p : Placed). p.number) r ≡ Some number → a ≡ b
    by None r e f h k = absurd (none-some number h)
    by (Some p) None e f h k = absurd (none-some number k)
    by (Some p) (Some q) e f h k = once a b p q e f (same_Some p.number number h ∙ sym (same_Some q.number number k))

-- ---- nodes change in place

-- each node keeps its number, and none comes or goes
pub record KeepsNumbers (nodes after : List (ℕ × Placed)) : Type 0 where
  pub numbers : (birth : ℕ) → number_at after birth ≡ number_at nodes birth
  pub order : InOrder nodes → InOrder after

pub keeps_all : (nodes : List (ℕ × Placed)) → KeepsNumbers nodes nodes
keeps_all nodes = record { numbers = λ birth. refl; order = λ h. h }

pub keeps_then : (nodes between after : List (ℕ × Placed)) → KeepsNumbers nodes between → KeepsNumbers between after → KeepsNumbers nodes after
keeps_then nodes between after h k = record { numbers = λ birth. k.numbers birth ∙ h.numbers birth; order = λ sorted. k.order (h.order sorted) }

-- another node with the same number
pub keeps_put : (nodes : List (ℕ × Placed)) (n : ℕ) (p q : Placed) → at_number nodes n ≡ Some p → q.number ≡ p.number → KeepsNumbers nodes (put_number nodes n q)
keeps_put nodes n p q at same = record {
  numbers = λ birth. elim (cases_eq birth n) [
    | inl e ↦
        ap (λ b. number_at (put_number nodes n q) b) e
        ∙ (ap (option_map (λ (p : Placed). p.number)) (at_put_number nodes n q)
        ∙ (ap Some same
        ∙ (sym (ap (option_map (λ (p : Placed). p.number)) at)
        ∙ ap (number_at nodes) (sym e))))
    | inr far ↦ ap (option_map (λ (p : Placed). p.number)) (at_put_number_apart nodes n q birth far)
  ];
  order = in_order_put nodes n q;
}

pub marks_kept : (g : Geometry) (nodes after : List (ℕ × Placed)) (marks : List Bool) → MarksNodes g nodes marks → KeepsNumbers nodes after → MarksNodes g after marks
marks_kept g nodes after marks h k = record {
  size = h.size;
  marked = λ number some high.
      let is = h.marked number some high in (
        (λ t. let has = is.0 t in has_there after has.birth number (k.numbers has.birth ∙ number_there nodes number has)),
        (λ has. is.1 (has_there nodes has.birth number (sym (k.numbers has.birth) ∙ number_there after number has))),
      );
}

-- ---- a node comes

-- a node with this number comes under a birth that is new
pub record Comes (nodes after : List (ℕ × Placed)) (n number : ℕ) : Type 0 where
  pub others : (birth : ℕ) → birth ≢ n → number_at after birth ≡ number_at nodes birth
  pub was : number_at nodes n ≡ None
  pub here : number_at after n ≡ Some number

pub comes_put : (nodes : List (ℕ × Placed)) (n : ℕ) (q : Placed) → at_number nodes n ≡ None → Comes nodes (put_number nodes n q) n q.number
comes_put nodes n q none = record {
  others = λ birth far. ap (option_map (λ (p : Placed). p.number)) (at_put_number_apart nodes n q birth far);
  was = ap (option_map (λ (p : Placed). p.number)) none;
  here = ap (option_map (λ (p : Placed). p.number)) (at_put_number nodes n q);
}

pub comes_then : (nodes between after : List (ℕ × Placed)) (n number : ℕ) → Comes nodes between n number → KeepsNumbers between after → Comes nodes after n number
comes_then nodes between after n number h k = record {
  others = λ birth far. k.numbers birth ∙ h.others birth far;
  was = h.was;
  here = k.numbers n ∙ h.here;
}

pub marks_come : (g : Geometry) (nodes after : List (ℕ × Placed)) (marks : List Bool) (n number : ℕ) → MarksNodes g nodes marks → Comes nodes after n number → MarksNodes g after (marked marks number)
marks_come g nodes after marks n number h k = record {
  size = length-marked marks number ∙ h.size;
  marked = λ other some high. elim (cases_eq other number) [
    | inl e ↦
        let size = h.size in (
          (λ t. has_there after n other (k.here ∙ ap Some (sym e))),
          (λ has. ap (is_marked (marked marks number)) e ∙ is_marked_same marks number (omega arith)),
        )
    | inr far ↦
        let is = h.marked other some high in
        let same = is_marked_other marks number other far in (
          (λ t.
              let has = is.0 (sym same ∙ t) in
              let there = number_there nodes other has in
              has_there after has.birth other (k.others has.birth (λ e. none-some other (sym k.was ∙ (ap (number_at nodes) (sym e) ∙ there))) ∙ there)),
          (λ has.
              let there = number_there after other has in
              same ∙ is.1 (has_there nodes has.birth other
              (sym (k.others has.birth (λ e. far (sym (same_Some number other (sym k.here ∙ (ap (number_at after) (sym e) ∙ there)))))) ∙ there))),
        )
  ];
}

-- ---- a node goes

-- at most the node with this birth goes, and no other comes or goes
pub record Loses (nodes after : List (ℕ × Placed)) (n : ℕ) : Type 0 where
  pub others : (birth : ℕ) → birth ≢ n → number_at after birth ≡ number_at nodes birth
  pub here : (number_at after n ≡ None) ⊎ (number_at after n ≡ number_at nodes n)

pub loses_then : (nodes between after : List (ℕ × Placed)) (n : ℕ) → KeepsNumbers nodes between → Loses between after n → Loses nodes after n
loses_then nodes between after n h k = record {
  others = λ birth far. k.others birth far ∙ h.numbers birth;
  here = elim k.here [ inl gone ↦ inl gone | inr same ↦ inr (same ∙ h.numbers n) ];
}

pub loses_none : (nodes after : List (ℕ × Placed)) (n : ℕ) → KeepsNumbers nodes after → Loses nodes after n
loses_none nodes after n h = record { others = λ birth far. h.numbers birth; here = inr (h.numbers n) }

module _ (g : Geometry) (nodes after : List (ℕ × Placed)) (marks : List Bool) (n number : ℕ) (h : MarksNodes g nodes marks) (k : Loses nodes after n) (at : number_at nodes n ≡ Some number)
    (once : (birth : ℕ) → number_at nodes birth ≡ Some number → birth ≡ n) where
  marks_gone : number_at after n ≡ None → MarksNodes g after (unmarked marks number)
  marks_gone gone = record {
    size = length-set marks number false ∙ h.size;
    marked = λ other some high. elim (cases_eq other number) [
      | inl e ↦
          let size = h.size in
          let clear : is_marked (unmarked marks number) other ≡ false = ap (is_marked (unmarked marks number)) e ∙ get_or-set_same marks number false false (omega arith) in (
            (λ t. absurd (true≢false (sym t ∙ clear))),
            (λ has.
                let there : number_at after has.birth ≡ Some number = number_there after other has ∙ ap Some e in
                let far : has.birth ≢ n = λ same. none-some number (sym gone ∙ (ap (number_at after) (sym same) ∙ there)) in
                absurd (far (once has.birth (sym (k.others has.birth far) ∙ there)))),
          )
      | inr far ↦
          let is = h.marked other some high in
          let same : is_marked (unmarked marks number) other ≡ is_marked marks other = get_or-set_other marks number other false false far in (
            (λ t.
                let has = is.0 (sym same ∙ t) in
                let there = number_there nodes other has in
                has_there after has.birth other (k.others has.birth (λ e. far (same_Some other number (sym there ∙ (ap (number_at nodes) e ∙ at)))) ∙ there)),
            (λ has.
                let there = number_there after other has in
                same ∙ is.1 (has_there nodes has.birth other
                (sym (k.others has.birth (λ e. none-some other (sym gone ∙ (ap (number_at after) (sym e) ∙ there)))) ∙ there))),
          )
    ];
  }

  marks_stay : number_at after n ≡ number_at nodes n → MarksNodes g after marks
  marks_stay same = record {
    size = h.size;
    marked = λ other some high.
        let is = h.marked other some high in (
          (λ t. let has = is.0 t in has_there after has.birth other (all has.birth ∙ number_there nodes other has)),
          (λ has. is.1 (has_there nodes has.birth other (sym (all has.birth) ∙ number_there after other has))),
        );
  }
    where
      all : (birth : ℕ) → number_at after birth ≡ number_at nodes birth
      all birth = elim (cases_eq birth n) [ inl e ↦ ap (number_at after) e ∙ (same ∙ ap (number_at nodes) (sym e)) | inr far ↦ k.others birth far ]

  -- the mark goes where the node went
  pub marks_lose : (now : List Bool) → (at_number after n ≡ None → now ≡ unmarked marks number) → ((p : Placed) → at_number after n ≡ Some p → now ≡ marks) → MarksNodes g after now
  marks_lose now gone stays = by (at_number after n) refl
    where
      by : (o : Option Placed) → at_number after n ≡ o → MarksNodes g after now
      by None e = subst (MarksNodes g after) (sym (gone e)) (marks_gone (ap (option_map (λ (p : Placed). p.number)) e))
      by (Some p) e = subst (MarksNodes g after) (sym (stays p e)) (marks_stay (elim k.here [
        | inl none ↦ absurd (none-some p.number (sym none ∙ ap (option_map (λ (p : Placed). p.number)) e))
        | inr same ↦ same
      ]))
