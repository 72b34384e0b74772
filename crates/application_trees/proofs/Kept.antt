-- A file whose bytes nothing changes is shown with all of them.
use Rattle.std.specs.Prelude.{◌≡◌, ◌⊎◌, ℕ, zero, suc, ◌+◌, ◌-◌, ◌/◌, ◌%◌, ◌<◌, ◌≤◌, min, Bool, true, false, List, map, slice_index, Option, Some, None, Ok, is_some, refl}
use Rattle.std.specs.List.{list_any, range_with_len}
use Rattle.std.specs.Map.{keys_of}
use Rattle.std.specs.BTreeMap.{is_at}
use Rattle.std.specs.Ordering.{nat_cmp}
use Rattle.std.proofs.Common.{sym, ap, subst, ◌∙◌, inl, inr, arith}
use Rattle.std.proofs.lemmas.Bool.{cases_Bool, cases_lt, false≢true}
use Rattle.std.proofs.lemmas.Map.Made.{is_some-lookup}
use Rattle.tree_model.specs.declared.node.File.{File}
use Rattle.tree_model.specs.declared.node.Node.{Node}
use Rattle.tree_model.specs.declared.node.Node.TheVariants as nodes
use Rattle.tree_model.specs.Calls.{Tree, byte_at, bytes_from, block_or_zeros}
use Rattle.tree_model.specs.Causes.{LeadsTo}
use Rattle.tree_model.specs.Histories.{block_in, block_at, maps_block}
use Rattle.tree_model.specs.Maps.{at_number}
use Rattle.tree_model.specs.Trees.{node_of_path, AreAlike, SameMetadataAt}
use Rattle.application_trees.specs.Outcomes.{Outcome, HasHistory, IsShown, IsGone, Holds, Stays, Shows, IsReplaced}

some_none : {A : Type 0} (o : Option A) → is_some o ≡ false → o ≡ None
some_none None e = refl
some_none (Some x) e = absurd (false≢true (sym e))

module _ (o : Outcome) (h : HasHistory o) where
  -- ---- the last write of a block

  pub record IsWritten (f i b : ℕ) (x : List ℕ) : Type 0 where
    pub entry : ℕ
    pub low : entry ≤ b
    pub wrote : o.writes entry f i ≡ true
    pub since : (v : ℕ) → entry ≤ v → v ≤ b → block_at (o.tree_at v) f i ≡ Some x

  none_some : (x : List ℕ) (y : Option (List ℕ)) → y ≡ None → y ≡ Some x → ⊥
  none_some x y none some = false≢true (ap is_some (sym none ∙ some))

  pub written : (f i b : ℕ) (x : List ℕ) → block_at (o.tree_at b) f i ≡ Some x → IsWritten f i b x
  written f i zero x e = absurd (none_some x (block_at (o.tree_at 0) f i) (h.empty f i) e)
  written f i (suc b) x e =
      elim (cases_Bool (o.writes (suc b) f i)) [
        | inl did ↦ record {
          entry = suc b;
          low = omega arith;
          wrote = did;
          since = λ v from to. let same : suc b ≡ v = omega (arith, from, to) in ap (λ n. block_at (o.tree_at n) f i) (sym same) ∙ e;
        }
        | inr not ↦ elim (h.kept b f i not) [
          | inl gone ↦ absurd (none_some x (block_at (o.tree_at (suc b)) f i) gone e)
          | inr same ↦
              let w = written f i b x (sym same ∙ e) in
              let low = w.low in
              record {
                entry = w.entry;
                low = omega (arith, low);
                wrote = w.wrote;
                since = λ v from to. elim (cases_lt b v) [
                  | inl past ↦ (let same : suc b ≡ v = omega (arith, past, to) in ap (λ n. block_at (o.tree_at n) f i) (sym same) ∙ e)
                  | inr up ↦ w.since v from up
                ];
              }
        ]
      ]

  -- ---- a block that stays

  module _ (f b : ℕ) (g : File) (cut : b ≤ o.cut) (holds : Holds o f b) (stays : Stays o f b g) where
    some_block : (i : ℕ) (x : List ℕ) → at_number g.blocks i ≡ Some x → block_at o.tree (o.alike.to f) i ≡ Some x
    some_block i x e =
        let w = written f i b x (stays.within b i (omega arith) cut ∙ e) in
        elim (holds i w.entry w.low w.wrote) [
          | inl y ↦ y.shown ∙ version y
          | inr y ↦ absurd (gone y)
        ]
      where
        w : IsWritten f i b x
        w = written f i b x (stays.within b i (omega arith) cut ∙ e)

        version : (y : IsShown o f i w.entry) → block_at (o.tree_at y.version) f i ≡ Some x
        version y =
            elim (cases_lt b y.version) [
              | inl past ↦ elim (stays.after y.version i (omega (arith, past))) [
                | inl same ↦ same ∙ e
                | inr none ↦ absurd (false≢true (sym (ap is_some none) ∙ y.mapped))
              ]
              | inr up ↦ w.since y.version y.later up
            ]

        gone : IsGone o f i w.entry → ⊥
        gone y =
            let later = y.later in
            elim (cases_lt b y.entry) [
              | inl past ↦ false≢true (sym y.unmapped ∙ ap is_some (stays.within y.entry i (omega (arith, past)) y.within ∙ e))
              | inr up ↦ false≢true (sym y.unmapped ∙ ap is_some (w.since y.entry (omega (arith, later)) up))
            ]

    module _ (names : List (List ℕ)) (leads : LeadsTo (o.tree_at o.cut) names f (nodes.File g)) where
      abbrev to : ℕ
      to = o.alike.to f

      led : node_of_path o.tree names ≡ Ok to
      led = o.alike.same_paths names f leads.path

      pub kept_file : Shows o.tree names g
      kept_file = by (at_number o.tree to) refl (subst (λ n. SameMetadataAt n (at_number o.tree to)) leads.stands (o.alike.same_metadata names f leads.path))
        where
          by : (n : Option Node) → at_number o.tree to ≡ n → SameMetadataAt (Some (nodes.File g)) n → Shows o.tree names g
          by None stands same = absurd same
          by (Some (nodes.Directory d)) stands same = absurd same
          by (Some (nodes.Other mode)) stands same = absurd same
          by (Some (nodes.File k)) stands same = record {
            birth = to;
            file = k;
            leads = record { path = led; stands = stands };
            size = sym same.0;
            blocks = λ i. block i (at_number g.blocks i) refl;
          }
            where
              block : (i : ℕ) (y : Option (List ℕ)) → at_number g.blocks i ≡ y → at_number k.blocks i ≡ at_number g.blocks i
              block i (Some x) e = sym (ap (λ n. block_in n i) stands) ∙ some_block i x e ∙ sym e
              block i None e =
                  some_none (at_number k.blocks i)
                  (is_some-lookup (is_at (nat_cmp i)) k.blocks ∙ ap (list_any (is_at (nat_cmp i))) (sym same.2) ∙ sym (is_some-lookup (is_at (nat_cmp i)) g.blocks) ∙ ap is_some e)
                  ∙ sym e

-- a replaced file is all of the old one or all of the new one
pub old_or_new : (o : Outcome) → HasHistory o → (names : List (List ℕ)) (p old a : ℕ) (before : File) (new b : ℕ) (after : File) → IsReplaced o names p old a before new b after →
    (o.cut ≤ p → Holds o old a) → (p < o.cut → Holds o new b) → Shows o.tree names before ⊎ Shows o.tree names after
old_or_new o h names p old a before new b after x held barred =
    let behind = x.behind in
    elim (cases_lt p o.cut) [
      | inl past ↦ inr (kept_file o h new b after (omega (arith, behind, past)) (barred past) (x.new_stays past) names (x.leads_new past))
      | inr up ↦ inl (kept_file o h old a before x.made (held up) (x.old_stays up) names (x.leads_old up))
    ]

-- what is shown is read
pub same_bytes : (tree : Tree) (names : List (List ℕ)) (g : File) (x : Shows tree names g) (off len : ℕ) → bytes_from x.file off len ≡ bytes_from g off len
same_bytes tree names g x off len = ap (λ n. map (byte_at x.file) (range_with_len off (min (off + len) n - off))) x.size ∙ ap (λ (p : ℕ → ℕ). map p (range_with_len off (min (off + len) g.size - off))) (λ j at. ap (λ o. slice_index (block_or_zeros o) (at % 1024)) (x.blocks (at / 1024)) j)
