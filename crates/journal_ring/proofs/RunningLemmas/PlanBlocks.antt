-- What is placed by a plan, and which of its requests are barriers.
use Rattle.std.proofs.Common.{◌≡◌, ℕ, zero, suc, ◌+◌, ◌-◌, ◌<◌, ◌≤◌, Bool, true, false, if◌then◌else◌, List, [], ◌∷◌, ◌++◌, length, map, Option, Some, refl, sym, ap, subst, ◌∙◌, arith, append_assoc}
use Rattle.std.specs.List.{slice_get}
use Rattle.std.proofs.lemmas.List.{map-append, length-append}
use Rattle.order_model.specs.declared.note.Note.TheVariants.{Super, Commit}
use Rattle.blk_base.specs.laws.Members.{slice_get-append_left, slice_get-append_right}
use Rattle.log_model.specs.Marks.{Logged}
use Rattle.log_model.specs.Ring.{Ring, places_on, places_from}
use Rattle.log_model.proofs.Ring.{places_from-add}
use Rattle.journal_ring.specs.running.Closing.{unplaced_blocks}
use Rattle.journal_ring.specs.running.Plan.{Writers, Planned, logged_blocks, commit_block, placed, with_barrier, plan_of}
use Rattle.journal_ring.specs.declared.running.pieces.UnplacedBlock.{UnplacedBlock}
use Rattle.journal_ring.specs.running.laws.Plans.{unplaced, place_of, before_commit}

same_with_barrier : {X : Type 0} (f : Planned → X) → ((p : Planned) → f (record p { barrier = true }) ≡ f p) → (ps : List Planned) → map f (with_barrier ps) ≡ map f ps
same_with_barrier f same [] = refl
same_with_barrier f same (p ∷ []) = ap (λ x. x ∷ []) (same p)
same_with_barrier f same (p ∷ q ∷ ps) = ap (λ l. f p ∷ l) (same_with_barrier f same (q ∷ ps))

unplaced_placed : (journal : ℕ) (ring : Ring) (head : ℕ) (ls : List UnplacedBlock) → map unplaced (placed journal ring head ls) ≡ ls
unplaced_placed journal ring head [] = refl
unplaced_placed journal ring head (l ∷ ls) = ap (λ xs. l ∷ xs) (unplaced_placed journal ring (places_on ring 1 head) ls)

places_placed : (journal : ℕ) (ring : Ring) (head : ℕ) (ls : List UnplacedBlock) → map place_of (placed journal ring head ls) ≡ map (λ p. journal + p) (places_from ring (length ls) head)
places_placed journal ring head [] = refl
places_placed journal ring head (l ∷ ls) = ap (λ xs. (journal + head) ∷ xs) (places_placed journal ring (places_on ring 1 head) ls)

pub plan_blocks : (w : Writers) (journal : ℕ) (ring : Ring) (head k sequence : ℕ) (bodies : List Logged) (revokes : List ℕ)
    → map unplaced (plan_of w journal ring head true k sequence bodies revokes) ≡ unplaced_blocks w k sequence bodies revokes
plan_blocks w journal ring head k sequence bodies revokes =
    let blocks = logged_blocks w k sequence bodies revokes in
    let front = placed journal ring head blocks in
    let last = placed journal ring (places_on ring (length blocks) head) (commit_block w k sequence ∷ []) in
    map-append unplaced (with_barrier front) (with_barrier last)
    ∙ ap (λ l. l ++ map unplaced (with_barrier last)) (same_with_barrier unplaced (λ p. refl) front ∙ unplaced_placed journal ring head blocks)

pub plan_super : (w : Writers) (journal : ℕ) (ring : Ring) (head k sequence : ℕ) (bodies : List Logged) (revokes : List ℕ)
    → map unplaced (plan_of w journal ring head false k sequence bodies revokes) ≡ record { note = Super; body = w.super sequence head } ∷ unplaced_blocks w k sequence bodies revokes
plan_super w journal ring head k sequence bodies revokes =
    let blocks = logged_blocks w k sequence bodies revokes in
    let super : Planned = record { note = Super; block = journal; body = w.super sequence head; barrier = false } in
    let front = super ∷ placed journal ring head blocks in
    let last = placed journal ring (places_on ring (length blocks) head) (commit_block w k sequence ∷ []) in
    map-append unplaced (with_barrier front) (with_barrier last)
    ∙ ap (λ l. l ++ map unplaced (with_barrier last)) (same_with_barrier unplaced (λ p. refl) front ∙ ap (λ l. unplaced super ∷ l) (unplaced_placed journal ring head blocks))

pub plan_places : (w : Writers) (journal : ℕ) (ring : Ring) (head k sequence : ℕ) (bodies : List Logged) (revokes : List ℕ)
    → map place_of (plan_of w journal ring head true k sequence bodies revokes) ≡ map (λ p. journal + p) (places_from ring (length (unplaced_blocks w k sequence bodies revokes)) head)
plan_places w journal ring head k sequence bodies revokes =
    let blocks = logged_blocks w k sequence bodies revokes in
    let front = placed journal ring head blocks in
    let past = places_on ring (length blocks) head in
    let last = placed journal ring past (commit_block w k sequence ∷ []) in
    let all : length (blocks ++ commit_block w k sequence ∷ []) ≡ length blocks + 1 = length-append blocks (commit_block w k sequence ∷ []) in
    map-append place_of (with_barrier front) (with_barrier last)
    ∙ ap (λ l. l ++ map place_of (with_barrier last)) (same_with_barrier place_of (λ p. refl) front ∙ places_placed journal ring head blocks)
    ∙ sym (map-append (λ p. journal + p) (places_from ring (length blocks) head) (places_from ring 1 past))
    ∙ ap (map (λ p. journal + p)) (sym (places_from-add ring (length blocks) 1 head))
    ∙ ap (λ n. map (λ p. journal + p) (places_from ring n head)) (sym all)

-- ---- barriers

length_with_barrier : (ps : List Planned) → length (with_barrier ps) ≡ length ps
length_with_barrier [] = refl
length_with_barrier (p ∷ []) = refl
length_with_barrier (p ∷ q ∷ ps) = ap suc (length_with_barrier (q ∷ ps))

last_barrier : (ps : List Planned) (n : ℕ) → length ps ≡ suc n → (p : Planned) × (slice_get (with_barrier ps) n ≡ Some p) × (p.barrier ≡ true)
last_barrier [] n e = absurd (omega (arith, e))
last_barrier (p ∷ []) zero e = (record p { barrier = true }, refl, refl)
last_barrier (p ∷ []) (suc n) e = absurd (omega (arith, e))
last_barrier (p ∷ q ∷ ps) zero e = absurd (omega (arith, e))
last_barrier (p ∷ q ∷ ps) (suc n) e = last_barrier (q ∷ ps) n (omega (arith, e))

pub commit_is_last : (w : Writers) (journal : ℕ) (ring : Ring) (head : ℕ) (started : Bool) (k sequence : ℕ) (bodies : List Logged) (revokes : List ℕ)
    → plan_of w journal ring head started k sequence bodies revokes
    ≡ before_commit w journal ring head started k sequence bodies revokes
    ++ record { note = Commit k; block = journal + places_on ring (length (logged_blocks w k sequence bodies revokes)) head; body = w.commit sequence; barrier = true } ∷ []
commit_is_last w journal ring head started k sequence bodies revokes = refl

pub last_is_barrier : (w : Writers) (journal : ℕ) (ring : Ring) (head : ℕ) (started : Bool) (k sequence : ℕ) (bodies : List Logged) (revokes : List ℕ) (n : ℕ)
    → length (before_commit w journal ring head started k sequence bodies revokes) ≡ suc n
    → (p : Planned) × (slice_get (before_commit w journal ring head started k sequence bodies revokes) n ≡ Some p) × (p.barrier ≡ true)
last_is_barrier w journal ring head started k sequence bodies revokes n e =
    let front : List Planned = (if started then [] else record { note = Super; block = journal; body = w.super sequence head; barrier = false } ∷ []) ++ placed journal ring head (logged_blocks w k sequence bodies revokes) in
    last_barrier front n (sym (length_with_barrier front) ∙ e)
