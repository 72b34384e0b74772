-- What mounting as code answers of the image of a session.
use Rattle.std.specs.Prelude.{◌≡◌, ℕ, ◌+◌, ◌<◌, ◌^◌, List, Result, Ok, Err, IfOk, IfErr, IsErrOf, refl}
use Rattle.std.proofs.Common.{sym, ap, subst, ◌∙◌, arith}
use Rattle.blk_base.specs.Streams.{Rose}
use Rattle.tree_model.specs.declared.node.Node.{Node}
use Rattle.tree_model.specs.Calls.{Tree}
use Rattle.tree_model.specs.Trees.{AreAlike}
use Rattle.volume_ops.specs.Volume.{VolumeState, tree_of}
use Rattle.volume_ops.specs.Zones.{Fault}
use Rattle.volume_ops.specs.laws.ReadsLaws.{err-ok, same_Ok}
use Rattle.volume_steps.specs.Plain.{IsPlainNow}
use Rattle.volume_steps.specs.NewNow.{new_now}
use Rattle.crash_laws.specs.Session.{Medium}
use Rattle.host_machine.specs.runs.Runs.{Event}
use Rattle.mount_make.specs.declared.fault.ImageFault.{ImageFault}
use Rattle.mount_make.specs.declared.fault.MountFault.{MountFault}
use Rattle.mount_make.specs.declared.fault.MountFault.TheVariants as mount
use Rattle.mount_make.specs.Images.{FaultPlace, image_fault, divided, mounted, tree_after, image_tree, IsTold}
use Rattle.mount_make.specs.Made.{made_image}
use Rattle.call_sessions.specs.power_cuts.images.SessionImages.{Start, HasSizes, IsCutOf, kept_tree}
use Rattle.call_sessions.proofs.PowerCutsLemmas.ImagesLemmas.SessionLaws.{mounts, shows_a_prefix}

-- a fault of the walk, as one of its image
tree_in : (r : Result (List (ℕ × Node)) Fault) (tree : List (ℕ × Node))
    → elim r as (λ _. Result (List (ℕ × Node)) FaultPlace) [ Ok tree ↦ Ok tree | Err fault ↦ Err (image_fault fault.0, fault.1) ] ≡ Ok tree → r ≡ Ok tree
tree_in (Ok t) tree e = ap Ok (same_Ok t tree e)
tree_in (Err fault) tree e = absurd (err-ok _ tree e)

module _ (s : Start) (sizes : HasSizes s) (new : IsPlainNow (new_now s.geometry)) (events : List Event) (m : Medium) (cut : IsCutOf s events m) (made : divided (made_image s.geometry s.journal s.wide) ≡ Ok s.geometry)
    (surface : List (List ℕ)) (same : m.image ≡ surface) where
  mounted_as : (v : VolumeState) × (mounted surface ≡ Ok v)
  mounted_as = subst (λ i. (v : VolumeState) × (mounted i ≡ Ok v)) same (mounts s sizes new events m cut made)

  none_told : (fault : ImageFault) (block : ℕ) → mounted surface ≡ Err (fault, block) → ⊥
  none_told fault block e = err-ok (fault, block) mounted_as.0 (sym e ∙ mounted_as.1)

  -- no fault of the image is told
  pub no_image_fault : {X : Type 0} (r : Result X MountFault) → IfErr r (IsTold (mounted surface)) → (fault : ImageFault) (block : ℕ) → r ≡ Err (mount.Image fault block) → ⊥
  no_image_fault r told fault block e = none_told fault block (subst (λ q. IfErr q (IsTold (mounted surface))) e told)

  -- where the device's count of faults does not rise, want of memory alone is told
  pub only_memory : {X : Type 0} (r : Result X MountFault) (old now : ℕ) → IfErr r (IsTold (mounted surface)) → (IsErrOf r mount.ReadFault → Rose old now) → ((id : ℕ) → r ≡ Err (mount.DeviceFailed id) → Rose old now)
      → now ≡ old → old + 1 < 2 ^ 64 → IfErr r (λ fault. fault ≡ mount.NoMemory)
  only_memory (Ok x) old now told read failed still room = tt
  only_memory (Err (mount.Image fault block)) old now told read failed still room = absurd (none_told fault block told)
  only_memory (Err mount.ReadFault) old now told read failed still room = absurd (let lt = read refl room in omega arith)
  only_memory (Err (mount.DeviceFailed id)) old now told read failed still room = absurd (let lt = failed id refl room in omega arith)
  only_memory (Err mount.NoMemory) old now told read failed still room = refl

  shown : (tree : Tree) × (image_tree surface ≡ Ok tree) × AreAlike (kept_tree s events m) tree
  shown = subst (λ i. (tree : Tree) × (image_tree i ≡ Ok tree) × AreAlike (kept_tree s events m) tree) same (shows_a_prefix s sizes new events m cut made)

  -- what is mounted has the tree
  pub has_tree : {X : Type 0} (volume_of : X → VolumeState) (r : Result X MountFault) → IfOk r (λ x. mounted surface ≡ Ok (volume_of x))
      → IfOk r (λ x. (tree : Tree) × (tree_of (volume_of x).geometry (volume_of x).blocks ≡ Ok tree) × AreAlike (kept_tree s events m) tree)
  has_tree volume_of (Ok x) is = (
    shown.0,
    tree_in (tree_of (volume_of x).geometry (volume_of x).blocks) shown.0 (sym (ap tree_after is) ∙ shown.1),
    shown.2,
  )
  has_tree volume_of (Err fault) is = tt
