-- The walk, an inode at a time.
use Rattle.std.proofs.Common.{◌≡◌, ℕ, zero, suc, ◌+◌, ◌<◌, ◌++◌, Bool, true, false, if◌then◌else◌, List, [], ◌∷◌, Result, Ok, Err, refl, ap, ◌∙◌, sym, reverse, arith, length, Some, ◌*◌, ◌^◌}
use Rattle.minix_layout.specs.declared.division.Geometry.{Geometry}
use Rattle.volume_ops.specs.Marks.{no_marks, is_marked, marked}
use Rattle.volume_ops.specs.Reads.{Reads, Ret, answer, if_ok}
use Rattle.volume_ops.specs.code.Visits.{met_next, IsPending, ArePending}
use Rattle.volume_ops.specs.Walk.{WalkState, Walked, found_in, Pending, Visit, visit, walk_through, walk, at_start, root, walk_volume}
use Rattle.volume_ops.specs.Volume.{walked, disk_of}
use Rattle.volume_ops.specs.Zones.{Fault}
use Rattle.std.proofs.lemmas.List.{reverse-append}
use Rattle.std.proofs.lemmas.List.Elements.{All-head, All-pop}
use Rattle.volume_ops.proofs.GoesOn.{answer-if_ok-ok, answer-if_ok-err}
use Rattle.volume_ops.specs.laws.MarksLaws.{no_mark, length-marked, length-no_marks}
use Rattle.volume_ops.proofs.UnmetMarks.{to_meet, to_meet-marked, to_meet-root}

module _ (disk : ℕ → List ℕ) (g : Geometry) (w : WalkState) where
  pub walk_none : (n : ℕ) → answer disk (walk n g w []) ≡ Ok (found_in w)
  walk_none zero = refl
  walk_none (suc n) = refl

  module _ (e : Pending) (rest : List Pending) where
    again_is : (again : WalkState → List Pending → Reads (Result Walked Fault)) (b : Bool) → is_marked w.inodes e.inode ≡ b → answer disk (walk_through g again w (e ∷ rest)) ≡ answer disk (if b then walk_through g again w rest else if_ok (visit g w e) (λ v. again v.state (v.names ++ rest)))
    again_is again b h = ap (λ b. answer disk (if b then walk_through g again w rest else if_ok (visit g w e) (λ v. again v.state (v.names ++ rest)))) h

    pub walk_met : (n : ℕ) → is_marked w.inodes e.inode ≡ true → answer disk (walk n g w (e ∷ rest)) ≡ answer disk (walk n g w rest)
    walk_met zero h = again_is (λ w rest. Ret (Ok (found_in w))) true h
    walk_met (suc n) h = again_is (walk n g) true h

    module _ (unmarked : is_marked w.inodes e.inode ≡ false) where
      walk_fault_through : (again : WalkState → List Pending → Reads (Result Walked Fault)) (f : Fault) → answer disk (visit g w e) ≡ Err f → answer disk (walk_through g again w (e ∷ rest)) ≡ Err f
      walk_fault_through again f h = again_is again false unmarked ∙ answer-if_ok-err disk (visit g w e) (λ v. again v.state (v.names ++ rest)) f h

      pub walk_fault : (n : ℕ) (f : Fault) → answer disk (visit g w e) ≡ Err f → answer disk (walk n g w (e ∷ rest)) ≡ Err f
      walk_fault zero f h = walk_fault_through (λ w rest. Ret (Ok (found_in w))) f h
      walk_fault (suc n) f h = walk_fault_through (walk n g) f h

      walk_through_more : (again : WalkState → List Pending → Reads (Result Walked Fault)) (r : Result Visit Fault) (v : WalkState) (next : List Pending) → answer disk (visit g w e) ≡ r → met_next r rest ≡ Ok (v, next) → answer disk (walk_through g again w (e ∷ rest)) ≡ answer disk (again v next)
      walk_through_more again (Ok visited) v next h is =
          let both : ◌≡◌ {A = WalkState × List Pending} (visited.state, visited.names ++ rest) (v, next) = cc in
          again_is again false unmarked
          ∙ answer-if_ok-ok disk (visit g w e) (λ v. again v.state (v.names ++ rest)) visited h
          ∙ ap (λ s. answer disk (again s (visited.names ++ rest))) (ap (λ p. p.0) both)
          ∙ ap (λ ps. answer disk (again v ps)) (ap (λ p. p.1) both)
      walk_through_more again (Err f) v next h is = cc

      pub walk_more : (n : ℕ) (v : WalkState) (next : List Pending) → met_next (answer disk (visit g w e)) rest ≡ Ok (v, next) → answer disk (walk (suc n) g w (e ∷ rest)) ≡ answer disk (walk n g v next)
      walk_more n v next is = walk_through_more (walk n g) (answer disk (visit g w e)) v next refl is

      pub walk_once : (v : WalkState) (next : List Pending) → met_next (answer disk (visit g w e)) rest ≡ Ok (v, next) → answer disk (walk zero g w (e ∷ rest)) ≡ Ok (found_in v)
      walk_once v next is = walk_through_more (λ w rest. Ret (Ok (found_in w))) (answer disk (visit g w e)) v next refl is

-- ---- the first visit

none_pending : (g : Geometry) (es : List Pending) → g.inodes ≡ 0 → ArePending g es → es ≡ []
none_pending g [] none h = refl
none_pending g (e ∷ es) none h = let p = All-head (IsPending g) e es h.each in absurd (omega (arith, p.some, p.within, none))

module _ (g : Geometry) (blocks : List (List ℕ)) (w : WalkState) (start : w ≡ at_start g) where
  root_unmarked : is_marked w.inodes 1 ≡ false
  root_unmarked = rw start (no_mark (g.inodes + 1) 1)

  walked_is : walked g blocks ≡ answer (disk_of blocks) (walk g.inodes g w (root ∷ []))
  unfolding walked walk_volume
  walked_is = rw start refl

  pub walk_first_fault : (f : Fault) → answer (disk_of blocks) (visit g w root) ≡ Err f → walked g blocks ≡ Err f
  walk_first_fault f h = walked_is ∙ walk_fault (disk_of blocks) g w root [] root_unmarked g.inodes f h

  module _ (v : WalkState) (stack : List Pending) (visited : met_next (answer (disk_of blocks) (visit g w root)) [] ≡ Ok (v, reverse stack)) (marks : v.inodes ≡ marked w.inodes 1) (pending : ArePending g stack) where
    first_with : (n : ℕ) → g.inodes ≡ n → answer (disk_of blocks) (walk n g w (root ∷ [])) ≡ answer (disk_of blocks) (walk (to_meet v.inodes) g v (reverse stack))
    first_with zero none =
        let empty = none_pending g stack none pending in
        walk_once (disk_of blocks) g w root [] root_unmarked v (reverse stack) visited
        ∙ sym (rw empty (walk_none (disk_of blocks) g v (to_meet v.inodes)))
    first_with (suc n) some =
        let left : to_meet v.inodes ≡ n = rw (marks, start, some) (to_meet-root n) in
        rw left (walk_more (disk_of blocks) g w root [] root_unmarked n v (reverse stack) visited)

    pub walk_first : answer (disk_of blocks) (walk (to_meet v.inodes) g v (reverse stack)) ≡ walked g blocks
    walk_first = sym (walked_is ∙ first_with g.inodes refl)

    pub first_length : length v.inodes ≡ g.inodes + 1
    first_length = rw (marks, start) (length-marked (no_marks (g.inodes + 1)) 1 ∙ length-no_marks (g.inodes + 1))

-- ---- from one turn to the next

pub last_pending : (g : Geometry) (stack rest : List Pending) (e : Pending) → stack ≡ rest ++ e ∷ [] → ArePending g stack → IsPending g e × ArePending g rest
last_pending g stack rest e last h = let p = All-pop (IsPending g) stack rest (Some e) last h.each in (p.1, record { each = p.0 })

module _ (g : Geometry) (disk : ℕ → List ℕ) (w : WalkState) (stack rest : List Pending) (e : Pending) (all : Result Walked Fault) (here : answer disk (walk (to_meet w.inodes) g w (reverse stack)) ≡ all) (last : stack ≡ rest ++ e ∷ []) where
  on_top : answer disk (walk (to_meet w.inodes) g w (e ∷ reverse rest)) ≡ all
  on_top = sym (ap (λ ps. answer disk (walk (to_meet w.inodes) g w ps)) (ap (λ ps. reverse ps) last ∙ reverse-append rest (e ∷ []))) ∙ here

  pub turn_met : is_marked w.inodes e.inode ≡ true → answer disk (walk (to_meet w.inodes) g w (reverse rest)) ≡ all
  turn_met h = sym (walk_met disk g w e (reverse rest) (to_meet w.inodes) h) ∙ on_top

  module _ (unmarked : is_marked w.inodes e.inode ≡ false) where
    pub turn_fault : (f : Fault) → answer disk (visit g w e) ≡ Err f → all ≡ Err f
    turn_fault f h = sym on_top ∙ walk_fault disk g w e (reverse rest) unmarked (to_meet w.inodes) f h

    module _ (pending : ArePending g stack) (long : length w.inodes ≡ g.inodes + 1) (v : WalkState) (next : List Pending) (marks : v.inodes ≡ marked w.inodes e.inode) where
      pub one_less : to_meet w.inodes ≡ suc (to_meet v.inodes)
      one_less =
          let p = (last_pending g stack rest e last pending).0 in
          rw marks (to_meet-marked w.inodes e.inode p.some (omega (arith, p.within, long)) unmarked)

      pub turn_visit : met_next (answer disk (visit g w e)) (reverse rest) ≡ Ok (v, reverse next) → answer disk (walk (to_meet v.inodes) g v (reverse next)) ≡ all
      turn_visit visited =
          sym (walk_more disk g w e (reverse rest) unmarked (to_meet v.inodes) v (reverse next) visited)
          ∙ ap (λ n. answer disk (walk n g w (e ∷ reverse rest))) (sym one_less) ∙ on_top

      pub turn_length : length v.inodes ≡ g.inodes + 1
      turn_length = rw marks (length-marked w.inodes e.inode ∙ long)

      pub turn_smaller : length next < 2 ^ 64 → to_meet v.inodes * 2 ^ 64 + length next < to_meet w.inodes * 2 ^ 64 + length stack
      turn_smaller fits = omega (arith, one_less)
