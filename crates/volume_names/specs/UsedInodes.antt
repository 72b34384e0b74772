-- Which inodes of a volume are in use, as marks by number. Number 0 is no inode's.
use Rattle.std.specs.Prelude.{◌≡◌, ◌↔◌, ℕ, ◌+◌, ◌-◌, ◌<◌, ◌≤◌, Bool, true, false, not, List, length, slice_set, Some, None}
use Rattle.std.specs.List.{find, range_with_len}
use Rattle.minix_layout.specs.declared.division.Geometry.{Geometry}
use Rattle.volume_ops.specs.Marks.{is_marked}
use Rattle.volume_model.specs.declared.placed.Placed.{Placed}
use Rattle.volume_steps.specs.UsedInodes.{IsInodeUsed}

-- the lowest inode that is not marked; 0 where each is
abbrev pub lowest_unmarked : List Bool → ℕ
lowest_unmarked marks = elim (find (λ number. not (is_marked marks number)) (range_with_len 1 (length marks - 1))) as (λ _. ℕ) [ None ↦ 0 | Some number ↦ number ]

-- an inode is in use no more
abbrev pub unmarked : List Bool → ℕ → List Bool
unmarked marks number = slice_set marks number false

-- Each inode of the volume has a mark, which says whether some node has it.
pub record MarksNodes (g : Geometry) (nodes : List (ℕ × Placed)) (marks : List Bool) : Type 0 where
  pub size : length marks ≡ g.inodes + 1
  pub marked : (number : ℕ) → 0 < number → number ≤ g.inodes → (is_marked marks number ≡ true) ↔ IsInodeUsed nodes number
