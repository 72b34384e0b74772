-- A file that loses a link: it keeps another one, or goes.
use Rattle.std.specs.Prelude.{◌≡◌, ◌<◌, ◌≤◌, ◌-◌, ℕ, nat_le, Bool, true, false, if◌then◌else◌, Some}
use Rattle.std.proofs.Common.{sym, ap, subst, ◌∙◌, arith}
use Rattle.std.proofs.lemmas.Bool.{le-leb, lt-leb}
use Rattle.tree_model.specs.Maps.{at_number}
use Rattle.volume_model.specs.declared.placed.Placed.{Placed}
use Rattle.volume_model.specs.Touched.{Touched}
use Rattle.volume_steps.specs.Now.{VolumeNow}
use Rattle.volume_steps.specs.Calls.{lose_link}
use Rattle.volume_steps.specs.Steps.{drop_node, set_links}
use Rattle.volume_steps.proofs.QuietSteps.{at_node_is}
use Rattle.volume_names.specs.code.Steps.{After}

module _ (w : VolumeNow) (birth : ℕ) (p : Placed) (there : at_number w.contents.nodes birth ≡ Some p) (tx links : ℕ) (told : links ≡ p.inode.links) where
  loses : (b : Bool) → nat_le p.inode.links 1 ≡ b → (if b then drop_node w tx birth else set_links w birth (λ links. links - 1)) ≡ lose_link w tx birth
  loses b e =
      ap (λ (b : Bool). if b then drop_node w tx birth else set_links w birth (λ links. links - 1)) (sym e)
      ∙ sym (at_node_is w birth p (λ p. if nat_le p.inode.links 1 then drop_node w tx birth else set_links w birth (λ links. links - 1)) there)

  -- it keeps another name
  pub link_lost : 1 < links → (before touched : Touched) (last : VolumeNow) → After before (set_links w birth (λ links. links - 1)) last touched → After before (lose_link w tx birth) last touched
  link_lost more before touched last after = subst (λ c. After before c last touched) (loses false (lt-leb p.inode.links 1 (omega arith))) after

  -- or goes
  pub node_lost : links ≤ 1 → (before touched : Touched) (last : VolumeNow) → After before (drop_node w tx birth) last touched → After before (lose_link w tx birth) last touched
  node_lost none before touched last after = subst (λ c. After before c last touched) (loses true (le-leb p.inode.links 1 (omega arith))) after
