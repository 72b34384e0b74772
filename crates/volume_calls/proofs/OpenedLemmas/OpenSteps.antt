-- From the parts of a volume that can be opened to the volume in use.
use Rattle.std.proofs.Common.{◌≡◌, ◌<◌, ◌-◌, ◌↔◌, ℕ, List, [], Ok, IfOk, count_by, sym, ap, subst, ◌∙◌}
use Rattle.std.proofs.lemmas.Result.{IfOk-at_ok}
use Rattle.blk_base.specs.Members.{In}
use Rattle.minix_layout.specs.declared.division.Geometry.{Geometry}
use Rattle.tree_model.specs.Calls.{Tree}
use Rattle.minix_tables.specs.zones.Zones.{Zones, made, is_quarantined}
use Rattle.volume_ops.specs.declared.found.FoundNode.{FoundNode}
use Rattle.volume_ops.specs.Faultless.{IsUsed}
use Rattle.volume_ops.specs.Volume.{VolumeState, walked, tree_of}
use Rattle.volume_ops.specs.Walk.{Walked}
use Rattle.volume_model.specs.declared.placed.Placed.{Placed}
use Rattle.volume_model.specs.ImageNodes.{contents_in}
use Rattle.volume_model.specs.Plain.{IsPlainVolume}
use Rattle.volume_steps.specs.Now.{VolumeNow, tree_of_now}
use Rattle.volume_steps.specs.Plain.{IsPlainNow}
use Rattle.volume_calls.specs.opened.Opened.{CanOpen}
use Rattle.volume_calls.specs.opened.code.Placing.{placed_found, put_all, IsNodeFound}
use Rattle.volume_calls.specs.opened.code.Read.{IsRead}
use Rattle.volume_calls.proofs.OpenedLemmas.InUse.{opened_plain, tree_is, contents_same}
use Rattle.volume_calls.proofs.OpenedLemmas.PlacedNodes.{placed_are, found_fit}
use Rattle.volume_calls.proofs.OpenedLemmas.ZoneMarks.{none_waits}

abbrev pub volume_of : Geometry → List (List ℕ) → List (ℕ × Placed) → Zones → VolumeNow
volume_of g blocks nodes zones = record { geometry = g; contents = record { blocks = blocks; nodes = nodes }; zones = zones }

module _ (s : VolumeState) (can : CanOpen s) (g : Geometry) (blocks : List (List ℕ)) (same_g : g ≡ s.geometry) (same_b : blocks ≡ s.blocks)
    (says : (tree : Tree) → IsPlainVolume g blocks tree → IsRead g blocks tree)
    (found : List FoundNode) (found_is : IfOk (walked s.geometry s.blocks) (λ (w : Walked). found ≡ w.nodes)) where
  read : IsRead s.geometry s.blocks can.tree
  read =
      subst (λ (g : Geometry). IsRead g s.blocks can.tree) same_g (subst (λ (b : List (List ℕ)). IsRead g b can.tree) same_b
      (says can.tree (subst (λ (g : Geometry). IsPlainVolume g blocks can.tree) (sym same_g) (subst (λ (b : List (List ℕ)). IsPlainVolume s.geometry b can.tree) (sym same_b) can.plain))))

  found_same : found ≡ read.found.nodes
  found_same = IfOk-at_ok (λ (w : Walked). found ≡ w.nodes) read.is found_is

  pub nodes_fit : (n : FoundNode) → In n found → IsNodeFound n
  nodes_fit n i = found_fit s.geometry s.blocks can.tree read n (subst (In n) found_same i)

  module _ (used : List ℕ) (used_is : (zone : ℕ) → zone < s.geometry.zones → In zone used ↔ IsUsed s.geometry s.blocks zone)
      (nodes : List (ℕ × Placed)) (nodes_is : nodes ≡ put_all (placed_found g blocks) found []) (zones : Zones) (zones_is : zones ≡ made g used) where
    nodes_are : nodes ≡ (contents_in s.geometry s.blocks can.tree).nodes
    nodes_are =
        nodes_is
        ∙ (ap (λ (g : Geometry). put_all (placed_found g blocks) found []) same_g
        ∙ (ap (λ (b : List (List ℕ)). put_all (placed_found s.geometry b) found []) same_b
        ∙ (ap (λ (ns : List FoundNode). put_all (placed_found s.geometry s.blocks) ns []) found_same ∙ placed_are s.geometry s.blocks can.tree read)))

    volume_is : volume_of g blocks nodes zones ≡ volume_of s.geometry s.blocks nodes (made s.geometry used)
    volume_is =
        ap (λ (z : Zones). volume_of g blocks nodes z) zones_is
        ∙ (ap (λ (g : Geometry). volume_of g blocks nodes (made g used)) same_g
        ∙ ap (λ (b : List (List ℕ)). volume_of s.geometry b nodes (made s.geometry used)) same_b)

    pub opened : IsPlainNow (volume_of g blocks nodes zones)
    opened = subst IsPlainNow (sym volume_is) (opened_plain s.geometry s.blocks can.tree read used used_is nodes nodes_are can.path_names)

    module _ (v : VolumeNow) (v_is : v ≡ volume_of g blocks nodes zones) where
      all_is : v ≡ volume_of s.geometry s.blocks nodes (made s.geometry used)
      all_is = v_is ∙ volume_is

      stands_for : tree_of_now v ≡ can.tree
      stands_for = ap tree_of_now all_is ∙ tree_is s.geometry s.blocks can.tree read used used_is nodes nodes_are

      pub tree_told : tree_of s.geometry s.blocks ≡ Ok (tree_of_now v)
      tree_told = read.tree_is ∙ ap Ok (sym stands_for)

      pub contents_told : v.contents ≡ contents_in s.geometry s.blocks (tree_of_now v)
      contents_told =
          ap (λ (v : VolumeNow). v.contents) all_is
          ∙ (contents_same s.geometry s.blocks can.tree read used used_is nodes nodes_are ∙ ap (contents_in s.geometry s.blocks) (sym stands_for))

      pub none_waiting : count_by is_quarantined v.zones.states ≡ 0
      none_waiting = ap (λ (v : VolumeNow). count_by is_quarantined v.zones.states) all_is ∙ none_waits used s.geometry.first (s.geometry.zones - s.geometry.first)
