-- What the requests of a plan are.
use Rattle.std.proofs.Common.{sym, ap, ◌∙◌, inl, inr, ⊎_elim}
use Rattle.std.specs.Prelude.{◌≡◌, ℕ, zero, suc, ◌+◌, ◌-◌, Bool, true, false, List, [], ◌∷◌, ◌++◌, length, map, refl, if◌then◌else◌}
use Rattle.blk_base.specs.Members.{In}
use Rattle.order_model.specs.declared.note.Note.TheVariants as notes
use Rattle.log_model.specs.Marks.{Logged}
use Rattle.log_model.specs.Ring.{Ring, places_on}
use Rattle.journal_ring.specs.running.Plan.{Writers, Planned, chunks_from, chunks, revoke_block, body_block, described, all_described, logged_blocks, placed, with_barrier, plan_of}
use Rattle.journal_ring.specs.declared.running.pieces.UnplacedBlock.{UnplacedBlock}
use Rattle.host_machine.specs.laws.PlanNotes.{is_plan_note, IsRestOf, BarrierAhead}

abbrev ArePlanNotes : List Planned → Type 0
ArePlanNotes ps = (p : Planned) → In p ps → is_plan_note p.note ≡ true

barrier-notes : (ps : List Planned) → ArePlanNotes ps → ArePlanNotes (with_barrier ps)
barrier-notes [] h p i = absurd i
barrier-notes (x ∷ []) h p (inl e) = ap (λ (y : Planned). is_plan_note y.note) (sym e) ∙ h x (inl refl)
barrier-notes (x ∷ []) h p (inr i) = absurd i
barrier-notes (x ∷ y ∷ ys) h p (inl e) = h p (inl e)
barrier-notes (x ∷ y ∷ ys) h p (inr i) = barrier-notes (y ∷ ys) (λ z j. h z (inr j)) p i

placed-notes : (journal : ℕ) (ring : Ring) (head : ℕ) (ls : List UnplacedBlock) → ((l : UnplacedBlock) → In l ls → is_plan_note l.note ≡ true) → ArePlanNotes (placed journal ring head ls)
placed-notes journal ring head [] h p i = absurd i
placed-notes journal ring head (l ∷ ls) h p (inl e) = ap (λ (y : Planned). is_plan_note y.note) (sym e) ∙ h l (inl refl)
placed-notes journal ring head (l ∷ ls) h p (inr i) = placed-notes journal ring (places_on ring 1 head) ls (λ z j. h z (inr j)) p i

joined : {X : Type 0} (P : X → Type 0) (xs ys : List X) → ((x : X) → In x xs → P x) → ((x : X) → In x ys → P x) → (x : X) → In x (xs ++ ys) → P x
joined P [] ys h g x i = g x i
joined P (z ∷ zs) ys h g x (inl e) = h x (inl e)
joined P (z ∷ zs) ys h g x (inr i) = joined P zs ys (λ y j. h y (inr j)) g x i

mapped : {X : Type 0} (f : X → UnplacedBlock) (xs : List X) → ((x : X) → is_plan_note (f x).note ≡ true) → (l : UnplacedBlock) → In l (map f xs) → is_plan_note l.note ≡ true
mapped f [] h l i = absurd i
mapped f (x ∷ xs) h l (inl e) = ap (λ (y : UnplacedBlock). is_plan_note y.note) (sym e) ∙ h x
mapped f (x ∷ xs) h l (inr i) = mapped f xs h l i

described-notes : (w : Writers) (k sequence : ℕ) (parts : List (List Logged)) (l : UnplacedBlock) → In l (all_described w k sequence parts) → is_plan_note l.note ≡ true
described-notes w k sequence [] l i = absurd i
described-notes w k sequence (bodies ∷ rest) l i =
    joined (λ (x : UnplacedBlock). is_plan_note x.note ≡ true) (described w k sequence bodies) (all_described w k sequence rest)
    (λ x j. ⊎_elim (λ e. ap (λ (y : UnplacedBlock). is_plan_note y.note) (sym e)) (λ j. mapped (body_block w k sequence) bodies (λ y. refl) x j) j)
    (described-notes w k sequence rest) l i

rest-append : (k : ℕ) (ps : List Planned) (c : Planned) → ArePlanNotes ps → c.note ≡ notes.Commit k → IsRestOf k (ps ++ c ∷ [])
rest-append k [] c h e = e
rest-append k (p ∷ []) c h e = (h p (inl refl), e)
rest-append k (p ∷ q ∷ qs) c h e = (h p (inl refl), rest-append k (q ∷ qs) c (λ x i. h x (inr i)) e)

pub plan-rest : (w : Writers) (journal : ℕ) (ring : Ring) (head : ℕ) (started : Bool) (k sequence : ℕ) (bodies : List Logged) (revokes : List ℕ) → IsRestOf k (plan_of w journal ring head started k sequence bodies revokes)
plan-rest w journal ring head started k sequence bodies revokes =
    rest-append k (with_barrier (super started ++ placed journal ring head (logged_blocks w k sequence bodies revokes)))
    (record { note = notes.Commit k; block = journal + places_on ring (length (logged_blocks w k sequence bodies revokes)) head; body = w.commit sequence; barrier = true })
    (barrier-notes (super started ++ placed journal ring head (logged_blocks w k sequence bodies revokes))
    (joined (λ (x : Planned). is_plan_note x.note ≡ true) (super started) (placed journal ring head (logged_blocks w k sequence bodies revokes)) (super-notes started)
    (placed-notes journal ring head (logged_blocks w k sequence bodies revokes)
    (joined (λ (x : UnplacedBlock). is_plan_note x.note ≡ true) (map (revoke_block w k sequence) (chunks w.most_revokes revokes)) (all_described w k sequence (chunks w.most_tags bodies))
    (mapped (revoke_block w k sequence) (chunks w.most_revokes revokes) (λ x. refl)) (described-notes w k sequence (chunks w.most_tags bodies))))))
    refl
  where
    super : Bool → List Planned
    super t = if t then [] else record { note = notes.Super; block = journal; body = w.super sequence head; barrier = false } ∷ []

    super-notes : (t : Bool) → ArePlanNotes (super t)
    super-notes true p i = absurd i
    super-notes false p (inl e) = ap (λ (y : Planned). is_plan_note y.note) (sym e)
    super-notes false p (inr i) = absurd i

-- ---- its barrier

barrier-ahead : (p : Planned) (ps : List Planned) (c : Planned) → BarrierAhead (with_barrier (p ∷ ps) ++ c ∷ [])
barrier-ahead p [] c = inl refl
barrier-ahead p (q ∷ []) c = inr (inl refl)
barrier-ahead p (q ∷ x ∷ xs) c = inr (barrier-ahead q (x ∷ xs) c)

chunks-some : {X : Type 0} (most left : ℕ) (y : X) (ys xs : List X) → (c : List X) × (cs : List (List X)) × (chunks_from most left (y ∷ ys) xs ≡ c ∷ cs)
chunks-some most left y ys [] = (y ∷ ys, [], refl)
chunks-some most zero y ys (x ∷ xs) = (y ∷ ys, chunks_from most (most - 1) (x ∷ []) xs, refl)
chunks-some most (suc left) y ys (x ∷ xs) = chunks-some most left y (ys ++ x ∷ []) xs

chunks-first : {X : Type 0} (most : ℕ) (x : X) (xs : List X) → (c : List X) × (cs : List (List X)) × (chunks most (x ∷ xs) ≡ c ∷ cs)
chunks-first zero x xs = ([], chunks_from zero (zero - 1) (x ∷ []) xs, refl)
chunks-first (suc m) x xs = chunks-some (suc m) m x [] xs

-- a transaction with a body has a barrier before its commit block
pub plan-barrier : (w : Writers) (journal : ℕ) (ring : Ring) (head : ℕ) (started : Bool) (k sequence : ℕ) (l : Logged) (bodies : List Logged) (revokes : List ℕ) → BarrierAhead (plan_of w journal ring head started k sequence (l ∷ bodies) revokes)
plan-barrier w journal ring head started k sequence l bodies revokes =
    let some = chunks-first w.most_tags l bodies in
    by started (chunks w.most_revokes revokes) (chunks w.most_tags (l ∷ bodies)) some.0 some.1 some.2
  where
    commit : List UnplacedBlock → Planned
    commit blocks = record { note = notes.Commit k; block = journal + places_on ring (length blocks) head; body = w.commit sequence; barrier = true }

    super : Planned
    super = record { note = notes.Super; block = journal; body = w.super sequence head; barrier = false }

    by : (t : Bool) (rs : List (List ℕ)) (parts : List (List Logged)) (c : List Logged) (cs : List (List Logged)) → parts ≡ c ∷ cs
        → BarrierAhead (with_barrier ((if t then [] else super ∷ []) ++ placed journal ring head (map (revoke_block w k sequence) rs ++ all_described w k sequence parts)) ++ commit (map (revoke_block w k sequence) rs ++ all_described w k sequence parts) ∷ [])
    by t rs [] c cs e = absurd (let z : ⊥ = cc in z)
    by false rs (part ∷ parts) c cs e =
        barrier-ahead super (placed journal ring head (map (revoke_block w k sequence) rs ++ all_described w k sequence (part ∷ parts))) (commit (map (revoke_block w k sequence) rs ++ all_described w k sequence (part ∷ parts)))
    by true [] (part ∷ parts) c cs e = barrier-ahead _ _ _
    by true (b ∷ rs) (part ∷ parts) c cs e = barrier-ahead _ _ _
