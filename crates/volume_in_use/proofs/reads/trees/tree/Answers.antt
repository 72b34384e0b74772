use Rattle.std.proofs.Common.{◌≡◌, ◌∷◌, ◌++◌, [], ℕ, List, refl, sym, ap, subst, ◌∙◌, inl, inr, append-nil}
use Rattle.blk_base.specs.Members.{In}
use Rattle.minix_layout.specs.declared.division.Geometry.{Geometry}
use Rattle.volume_model.specs.declared.placed.Placed.{Placed}
use Rattle.volume_model.specs.Trees.{node_now, tree_now}
use Rattle.volume_model.specs.Volume.{IsPart}
use Rattle.volume_model.specs.laws.Trees.{In-at}
use Rattle.volume_steps.specs.Now.{VolumeNow}
use Rattle.volume_in_use.proofs.ReadsLemmas.TreeTurns.{node_turn, tree_none}
use Rattle.volume_in_use.proofs.reads.trees.tree.Goals as goal

pub loop-birth-init : goal.loop-birth-init
loop-birth-init c =
    let v : VolumeNow = c.args.v.now in
    let same : c.into_iter-birth-iterator.result ≡ v.contents.nodes = c.into_iter-birth-iterator.ensures.into_iter_gives.0 ∙ ap (λ (v : VolumeNow). v.contents.nodes) c.v.view_is in
    let stands = c.requires.in_use.volume.0 in (
      rw c.new-tree.ensures (ap (tree_now v.contents.blocks) same),
      λ e i. (stands.each e.0 e.1 (In-at v.contents.nodes e.0 e.1 stands.in_order (subst (λ (es : List (ℕ × Placed)). In e es) same i))).part,
    )

pub node-requires : goal.node-requires
node-requires c =
    let blocks = ap (λ (v : VolumeNow). v.contents.blocks) c.v.view_is in
    let geometry = ap (λ (v : VolumeNow). v.geometry) c.v.view_is in
    let steps : c.loop-birth.birth-iterator ≡ (c.in-Some.birth.now, c.in-Some.placed.now) ∷ c.next.new.self = c.in-Some.ensures.steps in
    let part = λ (g : Geometry) (b : List (List ℕ)). IsPart g b c.in-Some.placed.now.inode c.in-Some.placed.now.part in
    subst (λ b. part c.v.inside.geometry b) (sym blocks) (subst (λ g. part g c.args.v.now.contents.blocks) (sym geometry) (c.loop-birth.invariant.1 (c.in-Some.birth.now, c.in-Some.placed.now) (rw steps (inl refl))))

pub loop-birth-preserved : goal.loop-birth-preserved
loop-birth-preserved c =
    let v : VolumeNow = c.args.v.now in
    let blocks = ap (λ (v : VolumeNow). v.contents.blocks) c.v.view_is in
    let steps : c.loop-birth.birth-iterator ≡ (c.in-Some.birth.now, c.in-Some.placed.now) ∷ c.next.new.self = c.in-Some.ensures.steps in (
      node_turn v.contents.blocks v.contents.nodes c.loop-birth.birth-iterator c.next.new.self c.in-Some.birth.now c.in-Some.placed.now c.loop-birth.tree c.put.new.self c.in_ok-node.field-0
          c.requires.in_use.volume.0.in_order steps (c.in_ok-node.ensures ∙ ap (λ b. node_now b c.in-Some.placed.now) blocks) c.loop-birth.invariant.0 c.in_ok-put.ensures.put,
      λ e i. c.loop-birth.invariant.1 e (rw steps (inr i)),
    )

pub returns : goal.returns
returns c =
    let v : VolumeNow = c.args.v.now in
    let none : c.loop-birth.birth-iterator ≡ [] = c.in-None.ensures.steps.0 in
    sym (append-nil c.loop-birth.tree) ∙ (ap (λ rest. c.loop-birth.tree ++ rest) (sym (ap (tree_now v.contents.blocks) none ∙ tree_none v.contents.blocks)) ∙ c.loop-birth.invariant.0)
