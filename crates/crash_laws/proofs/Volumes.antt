-- The recovered volume's tree is alike to that of the last transaction found.
use Rattle.std.specs.Prelude.{◌≡◌, ℕ, List, [], Ok}
use Rattle.std.proofs.Common.{sym, ap, subst, ◌∙◌, ⊎_elim}
use Rattle.blk_base.specs.Members.{In}
use Rattle.order_model.specs.declared.note.Note.TheVariants.{Commit}
use Rattle.order_model.specs.OrderClosed.{IsOrderClosed}
use Rattle.minix_layout.specs.declared.division.Geometry.{Geometry}
use Rattle.tree_model.specs.declared.node.Node.{Node}
use Rattle.tree_model.specs.Trees.{AreAlike}
use Rattle.tree_model.specs.laws.Alike.{alike_chain}
use Rattle.volume_ops.specs.Reads.{AgreeOn}
use Rattle.volume_ops.specs.laws.ReadsLaws.{blocks_read-agree}
use Rattle.volume_ops.specs.Walk.{walk_volume}
use Rattle.volume_ops.specs.Volume.{disk_of, metadata, tree_of}
use Rattle.volume_ops.proofs.AlikeLaws.{changed_alike}
use Rattle.crash_laws.specs.laws.Clauses.{CommitClause}
use Rattle.crash_laws.specs.Found.{IsFound}
use Rattle.crash_laws.specs.Recovery.{IsRecovered}
use Rattle.crash_laws.specs.Rules.{CommitOrder, OrderRules}
use Rattle.crash_laws.specs.Session.{Session, Medium, image_of}
use Rattle.crash_laws.specs.laws.Submitting.{Submitting, after}
use Rattle.crash_laws.specs.Volumes.{HasTreeOf, HasTreesOf}
use Rattle.crash_laws.proofs.ImageSteps.{image_old, submitted_cases}
use Rattle.crash_laws.proofs.Metadata.{found_submitted}
use Rattle.crash_laws.proofs.Start.{only_before}
use Rattle.crash_laws.proofs.Versions.{recovered_agrees}

-- ---- the recovered volume

-- The tree of the recovered blocks is alike to that of the last transaction found.
pub prefix_of_transactions : (g : Geometry) (s : Session) (m : Medium) (F : ℕ) (tree_after : ℕ → List (ℕ × Node)) (recovered : List (List ℕ)) → OrderRules (walk_volume g) s → HasTreesOf g s tree_after
    → IsOrderClosed s.base s.requests m.image m.origins → IsFound s m F → IsRecovered s m (disk_of recovered)
    → (tree : List (ℕ × Node)) × (tree_of g recovered ≡ Ok tree) × AreAlike (tree_after F) tree
prefix_of_transactions g s m F tree_after blocks rules trees closed is_found recovers =
    let of = trees F (found_submitted rules closed is_found) in
    let same_reads = blocks_read-agree (image_of s F) (disk_of of.image) (walk_volume g) (λ b i. of.blocks b) in
    let agree : AgreeOn (metadata g of.image) (disk_of of.image) (disk_of blocks) =
    λ b i. recovered_agrees rules closed is_found recovers b (subst (In b) same_reads i) ∙ sym (of.blocks b) in
    let changed = changed_alike g of.image blocks of.tree agree of.found in
    (changed.0, changed.1, alike_chain (tree_after F) of.tree changed.0 of.alike changed.2)

-- ---- the trees of the images, request by request

pub trees_at_start : (g : Geometry) (s : Session) (tree_after : ℕ → List (ℕ × Node)) → s.notes ≡ [] → HasTreeOf g s 0 (tree_after 0) → HasTreesOf g s tree_after
trees_at_start g s tree_after notes opened k sub = subst (λ n. HasTreeOf g s n (tree_after n)) (sym (only_before (walk_volume g) s notes k sub)) opened

tree_old : (g : Geometry) (p : Submitting) (k : ℕ) (after_k : List (ℕ × Node)) → image_of (after p) k ≡ image_of p.session k → HasTreeOf g p.session k after_k → HasTreeOf g (after p) k after_k
tree_old g p k after_k same old = record {
  image = old.image;
  blocks = λ b. old.blocks b ∙ sym (ap (λ image. image b) same);
  tree = old.tree;
  found = old.found;
  alike = old.alike;
}

-- A commit block owes the tree of its transaction's image.
pub trees_step : (g : Geometry) (p : Submitting) (tree_after : ℕ → List (ℕ × Node)) → CommitOrder p.session → CommitClause p.session p.request p.note
    → ((k : ℕ) → p.note ≡ Commit k → HasTreeOf g (after p) k (tree_after k)) → HasTreesOf g p.session tree_after → HasTreesOf g (after p) tree_after
trees_step g p tree_after order clause new old k sub =
    ⊎_elim
    (λ before. tree_old g p k (tree_after k) (image_old (walk_volume g) p order clause k before) (old k before))
    (λ note. new k note)
    (submitted_cases (walk_volume g) p order clause k sub)
