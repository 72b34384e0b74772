-- The requests of a plan are such that a reader of the journal finds no fault with them.
use Rattle.std.specs.Prelude.{◌≡◌, ℕ, suc, ◌+◌, ◌-◌, ◌≤◌, Bool, true, false, List, [], ◌∷◌, ◌++◌, length, map, refl, if◌then◌else◌}
use Rattle.std.proofs.Common.{ap, subst, inl, inr, ⊎_elim, arith}
use Rattle.blk_base.specs.Members.{In}
use Rattle.blk_base.specs.laws.Members.{In-append_cases, In-map}
use Rattle.order_model.specs.declared.note.Note.TheVariants as notes
use Rattle.log_model.specs.Log.{Tag, Format}
use Rattle.log_model.specs.Marks.{Logged}
use Rattle.log_model.specs.Ring.{Ring, places_on}
use Rattle.journal_ring.specs.running.Plan.{Writers, Planned, chunks, revoke_block, body_block, described, all_described, logged_blocks, commit_block, placed, with_barrier, plan_of}
use Rattle.journal_ring.specs.declared.running.pieces.UnplacedBlock.{UnplacedBlock}
use Rattle.host_machine.specs.runs.laws.Chunks.{chunks_sized, In-chunks}
use Rattle.host_machine.specs.runs.laws.Written.{IsWord, tag_of, AreWritten}
use Rattle.call_sessions.specs.power_cuts.images.Requests.{IsLoggable, IsReadable}

abbrev pub AreReadable : Format → Writers → ℕ → List Planned → Type 0
AreReadable f w zones ps = (p : Planned) → In p ps → IsReadable f w zones p.note p.body

length_tags : (w : Writers) (c : List Logged) → length (map (tag_of w) c) ≡ length c
length_tags w [] = refl
length_tags w (l ∷ ls) = ap suc (length_tags w ls)

-- ---- a plan

module _ (f : Format) (w : Writers) (zones : ℕ) where
  barrier_readable : (ps : List Planned) → AreReadable f w zones ps → AreReadable f w zones (with_barrier ps)
  barrier_readable [] h p i = absurd i
  barrier_readable (x ∷ []) h p (inl e) = subst (λ (y : Planned). IsReadable f w zones y.note y.body) e (h x (inl refl))
  barrier_readable (x ∷ []) h p (inr i) = absurd i
  barrier_readable (x ∷ y ∷ ys) h p (inl e) = h p (inl e)
  barrier_readable (x ∷ y ∷ ys) h p (inr i) = barrier_readable (y ∷ ys) (λ z j. h z (inr j)) p i

  placed_readable : (journal : ℕ) (ring : Ring) (head : ℕ) (ls : List UnplacedBlock) → ((l : UnplacedBlock) → In l ls → IsReadable f w zones l.note l.body) → AreReadable f w zones (placed journal ring head ls)
  placed_readable journal ring head [] h p i = absurd i
  placed_readable journal ring head (l ∷ ls) h p (inl e) = subst (λ (y : Planned). IsReadable f w zones y.note y.body) e (h l (inl refl))
  placed_readable journal ring head (l ∷ ls) h p (inr i) = placed_readable journal ring (places_on ring 1 head) ls (λ z j. h z (inr j)) p i

  joined : {X : Type 0} (P : X → Type 0) (xs ys : List X) → ((x : X) → In x xs → P x) → ((x : X) → In x ys → P x) → (x : X) → In x (xs ++ ys) → P x
  joined P xs ys h g x i = ⊎_elim (h x) (g x) (In-append_cases xs ys x i)

  super_readable : (journal head sequence : ℕ) (started : Bool) → AreReadable f w zones (if started then [] else record { note = notes.Super; block = journal; body = w.super sequence head; barrier = false } ∷ [])
  super_readable journal head sequence true p i = absurd i
  super_readable journal head sequence false p (inl e) = subst (λ (y : Planned). IsReadable f w zones y.note y.body) e (sequence, head, refl)
  super_readable journal head sequence false p (inr i) = absurd i

  module _ (written : AreWritten f w) (small : zones ≤ 4294967296) (k sequence : ℕ) (fits : IsWord sequence) where
    abbrev IsGood : UnplacedBlock → Type 0
    IsGood b = IsReadable f w zones b.note b.body

    revoke_readable : (c : List ℕ) → (1 ≤ length c) × (length c ≤ w.most_revokes) → ((b : ℕ) → In b c → IsWord b) → IsGood (revoke_block w k sequence c)
    revoke_readable c size words = (sequence, c, written.revoke sequence c fits size.0 size.1 words, size.0)

    tag_loggable : (c : List Logged) → ((l : Logged) → In l c → IsLoggable zones l.block) → (t : Tag) → In t (map (tag_of w) c) → IsLoggable zones t.block
    tag_loggable c h t i = let m = In-map (tag_of w) c t i in subst (λ (u : Tag). IsLoggable zones u.block) m.2 (h m.0 m.1)

    described_readable : (c : List Logged) → (1 ≤ length c) × (length c ≤ w.most_tags) → ((l : Logged) → In l c → IsLoggable zones l.block) → (b : UnplacedBlock) → In b (described w k sequence c) → IsGood b
    described_readable c size h b (inl e) =
        let n = length_tags w c in
        let lo = size.0 in
        let hi = size.1 in
        let tags = map (tag_of w) c in
        subst IsGood e (sequence, tags, written.descriptor sequence tags fits (omega arith) (omega arith) (λ t i. let x = (tag_loggable c h t i).1 in omega arith), tag_loggable c h)
    described_readable c size h b (inr i) = let m = In-map (body_block w k sequence) c b i in subst IsGood m.2 tt

    all_readable : (cs : List (List Logged)) → ((c : List Logged) → In c cs → (1 ≤ length c) × (length c ≤ w.most_tags)) → ((c : List Logged) (l : Logged) → In c cs → In l c → IsLoggable zones l.block)
        → (b : UnplacedBlock) → In b (all_described w k sequence cs) → IsGood b
    all_readable [] size h b i = absurd i
    all_readable (c ∷ cs) size h b i =
        ⊎_elim
        (λ j. described_readable c (size c (inl refl)) (λ l m. h c l (inl refl) m) b j)
        (λ j. all_readable cs (λ d m. size d (inr m)) (λ d l m n. h d l (inr m) n) b j)
        (In-append_cases (described w k sequence c) (all_described w k sequence cs) b i)

    revokes_readable : (revokes : List ℕ) → ((b : ℕ) → In b revokes → IsWord b) → (b : UnplacedBlock) → In b (map (revoke_block w k sequence) (chunks w.most_revokes revokes)) → IsGood b
    revokes_readable revokes words b i =
        let m = In-map (revoke_block w k sequence) (chunks w.most_revokes revokes) b i in
        subst IsGood m.2 (revoke_readable m.0 (chunks_sized w.most_revokes w.most_revokes [] revokes m.0 written.some_revokes (omega arith) m.1) (λ c j. words c (In-chunks w.most_revokes revokes m.0 c m.1 j)))

    -- The requests of a plan whose bodies are for blocks that are logged.
    pub plan_readable : (journal : ℕ) (ring : Ring) (head : ℕ) (started : Bool) (bodies : List Logged) (revokes : List ℕ) → ((l : Logged) → In l bodies → IsLoggable zones l.block) → ((b : ℕ) → In b revokes → IsWord b)
        → AreReadable f w zones (plan_of w journal ring head started k sequence bodies revokes)
    plan_readable journal ring head started bodies revokes low words =
        let blocks = logged_blocks w k sequence bodies revokes in
        let super : List Planned = if started then [] else record { note = notes.Super; block = journal; body = w.super sequence head; barrier = false } ∷ [] in
        joined (λ (p : Planned). IsReadable f w zones p.note p.body) (with_barrier (super ++ placed journal ring head blocks)) (with_barrier (placed journal ring (places_on ring (length blocks) head) (commit_block w k sequence ∷ [])))
        (barrier_readable (super ++ placed journal ring head blocks)
        (joined (λ (p : Planned). IsReadable f w zones p.note p.body) super (placed journal ring head blocks) (super_readable journal head sequence started)
        (placed_readable journal ring head blocks
        (joined IsGood (map (revoke_block w k sequence) (chunks w.most_revokes revokes)) (all_described w k sequence (chunks w.most_tags bodies))
        (revokes_readable revokes words)
        (all_readable (chunks w.most_tags bodies) (λ c i. chunks_sized w.most_tags w.most_tags [] bodies c written.some_tags (omega arith) i) (λ c l i j. low l (In-chunks w.most_tags bodies c l i j)))))))
        (barrier_readable (placed journal ring (places_on ring (length blocks) head) (commit_block w k sequence ∷ []))
        (placed_readable journal ring (places_on ring (length blocks) head) (commit_block w k sequence ∷ [])
        (λ l i. ⊎_elim (λ e. subst IsGood e tt) (λ j. absurd j) i)))
