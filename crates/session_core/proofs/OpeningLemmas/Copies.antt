-- The volume of an image that was made.
use Rattle.std.proofs.Common.{◌≡◌, ℕ, Bool, List, take, sym, ap, ◌∙◌}
use Rattle.std.proofs.lemmas.List.{take_at}
use Rattle.minix_layout.specs.declared.division.Geometry.{Geometry}
use Rattle.mount_make.specs.Made.{made_image, made_volume}
use Rattle.mount_make.proofs.Filling.{length-made}
use Rattle.volume_steps.specs.Now.{VolumeNow}
use Rattle.volume_steps.specs.NewNow.{new_now}
use Rattle.call_sessions.specs.made.MadeSessions.{made_now}

-- its front
pub copied_all : (g : Geometry) (journal : ℕ) (wide : Bool) (image copy : List (List ℕ)) (n : ℕ) → image ≡ made_image g journal wide → n ≡ g.zones → copy ≡ take n image → copy ≡ made_volume g
copied_all g journal wide image copy n e size is =
    is ∙ ap (take n) e ∙ take_at (made_volume g) _ n (length-made g ∙ sym size)

abbrev pub with_blocks : VolumeNow → List (List ℕ) → VolumeNow
with_blocks v blocks = record { geometry = v.geometry; contents = record { blocks = blocks; nodes = v.contents.nodes }; zones = v.zones }

-- a new volume with the blocks of an image that was made is the one that a session on it begins with
pub opened_is : (g : Geometry) (v : VolumeNow) (journal : ℕ) (wide : Bool) (image copy : List (List ℕ)) (n : ℕ) → v ≡ new_now g → image ≡ made_image g journal wide → n ≡ g.zones → copy ≡ take n image
    → with_blocks v copy ≡ made_now g
opened_is g v journal wide image copy n new e size is = ap (λ x. with_blocks x copy) new ∙ ap (with_blocks (new_now g)) (copied_all g journal wide image copy n e size is)
