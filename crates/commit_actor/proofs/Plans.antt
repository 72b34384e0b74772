-- What is left of a plan, request by request.
use Rattle.std.proofs.Common.{◌≡◌, ℕ, suc, ◌+◌, Bool, true, false, not, List, [], ◌∷◌, ◌++◌, length, length-append, map, Some, nat_le, if◌then◌else◌, refl, sym, ap, ◌∙◌, arith, tests}
use Rattle.std.proofs.lemmas.Option.{none-some, same_Some}
use Rattle.order_model.specs.declared.note.Note.TheVariants.{Super}
use Rattle.log_model.specs.Marks.{Logged}
use Rattle.log_model.specs.Ring.{Ring, places_on}
use Rattle.journal_blocks.specs.declared.super_block.JournalSuper.{JournalSuper}
use Rattle.journal_ring.specs.LogRing.{LogRing}
use Rattle.journal_ring.specs.running.Closing.{writers, unplaced_blocks, logged_of}
use Rattle.journal_ring.specs.running.Plan.{Planned, first_of, logged_blocks, commit_block, placed, with_barrier, plan_of}
use Rattle.journal_ring.specs.declared.running.pieces.UnplacedBlock.{UnplacedBlock}
use Rattle.journal_ring.specs.running.Running.{Running}
use Rattle.flush_actor.specs.Part.{FlushPart}
use Rattle.commit_actor.specs.Journal.{Phase, Committing, JournalPart}
use Rattle.commit_actor.specs.code.Sending.{first_planned, with_barriers, rest_of}
use Rattle.commit_actor.specs.declared.sending.Sending.{Sending}

-- ---- places and barriers

pub length-placed : (journal : ℕ) (r : Ring) (head : ℕ) (bs : List UnplacedBlock) → length (placed journal r head bs) ≡ length bs
length-placed journal r head [] = refl
length-placed journal r head (b ∷ bs) = ap suc (length-placed journal r (places_on r 1 head) bs)

pub length-with_barriers : (ps : List Planned) → length (with_barriers ps) ≡ length ps
length-with_barriers [] = refl
length-with_barriers (p ∷ ps) = ap suc (length-with_barriers ps)

placed-append : (journal : ℕ) (r : Ring) (head : ℕ) (cs bs : List UnplacedBlock) → placed journal r head (cs ++ bs) ≡ placed journal r head cs ++ placed journal r (places_on r (length cs) head) bs
placed-append journal r head [] bs = refl
placed-append journal r head (a ∷ cs) bs =
    ap (λ l. let p : Planned = record { note = a.note; block = journal + head; body = a.body; barrier = false } in p ∷ l) (placed-append journal r (places_on r 1 head) cs bs)

abbrev NoBarrier : List Planned → Type 0
NoBarrier [] = Unit {0}
NoBarrier (p ∷ ps) = (p.barrier ≡ false) × NoBarrier ps

placed_bare : (journal : ℕ) (r : Ring) (head : ℕ) (bs : List UnplacedBlock) → NoBarrier (placed journal r head bs)
placed_bare journal r head [] = tt
placed_bare journal r head (b ∷ bs) = (refl, placed_bare journal r (places_on r 1 head) bs)

two_or_more : (n : ℕ) → nat_le (suc (suc n)) 1 ≡ false
two_or_more n = grind (arith, tests)

barriers-append : (ps : List Planned) (c : Planned) → NoBarrier ps → with_barrier ps ++ with_barrier (c ∷ []) ≡ with_barriers (ps ++ c ∷ [])
barriers-append [] c bare = refl
barriers-append (p ∷ []) c bare = refl
barriers-append (p ∷ q ∷ ps) c bare =
    let more : length ((q ∷ ps) ++ c ∷ []) ≡ suc (suc (length ps)) = (let size = length-append ps (c ∷ []) in omega (arith, size)) in
    let off = bare.0 ∙ sym (two_or_more (length ps)) ∙ sym (ap (λ n. nat_le n 1) more) in
    ap (λ b. let x : Planned = record { note = p.note; block = p.block; body = p.body; barrier = b } in x ∷ (with_barrier (q ∷ ps) ++ with_barrier (c ∷ []))) off
    ∙ ap (λ l. let x : Planned = record { note = p.note; block = p.block; body = p.body; barrier = nat_le (length ((q ∷ ps) ++ c ∷ [])) 1 } in x ∷ l) (barriers-append (q ∷ ps) c bare.1)

-- ---- the plan

abbrev super_put : JournalSuper → ℕ → ℕ → ℕ → Planned
super_put s journal sequence head = record { note = Super; block = journal; body = (writers s).super sequence head; barrier = false }

pub plan_is_left : (s : JournalSuper) (journal : ℕ) (r : Ring) (head : ℕ) (started : Bool) (k sequence : ℕ) (bodies : List Logged) (revokes : List ℕ)
    → with_barriers (if not started then super_put s journal sequence head ∷ placed journal r head (unplaced_blocks (writers s) k sequence bodies revokes) else placed journal r head (unplaced_blocks (writers s) k sequence bodies revokes))
    ≡ plan_of (writers s) journal r head started k sequence bodies revokes
plan_is_left s journal r head started k sequence bodies revokes = by started
  where
    blocks : List UnplacedBlock
    blocks = logged_blocks (writers s) k sequence bodies revokes

    last : Planned
    last = record { note = (commit_block (writers s) k sequence).note; block = journal + places_on r (length blocks) head; body = (writers s).commit sequence; barrier = false }

    all : placed journal r head (unplaced_blocks (writers s) k sequence bodies revokes) ≡ placed journal r head blocks ++ last ∷ []
    all = placed-append journal r head blocks (commit_block (writers s) k sequence ∷ [])

    by : (b : Bool)
        → with_barriers (if not b then super_put s journal sequence head ∷ placed journal r head (unplaced_blocks (writers s) k sequence bodies revokes) else placed journal r head (unplaced_blocks (writers s) k sequence bodies revokes))
        ≡ with_barrier ((if b then [] else super_put s journal sequence head ∷ []) ++ placed journal r head blocks) ++ with_barrier (last ∷ [])
    by true = ap with_barriers all ∙ sym (barriers-append (placed journal r head blocks) last (placed_bare journal r head blocks))
    by false =
        ap (λ l. with_barriers (super_put s journal sequence head ∷ l)) all
        ∙ sym (barriers-append (super_put s journal sequence head ∷ placed journal r head blocks) last (refl, placed_bare journal r head blocks))

-- ---- its first request

pub first_super : (journal : ℕ) (made_with : JournalSuper) (r : Ring) (s : Sending) → s.super_left ≡ true
    → Some (record { note = Super; block = journal; body = (writers made_with).super s.sequence s.place; barrier = nat_le (length s.pieces) 1 }) ≡ first_planned (rest_of journal made_with r s)
first_super journal made_with r s e = rw e (ap (λ n. let p : Planned = record { note = Super; block = journal; body = (writers made_with).super s.sequence s.place; barrier = nat_le n 1 } in Some p) (sym (length-placed journal r s.place s.pieces)))

one_less : (n : ℕ) → nat_le (suc n) 2 ≡ nat_le n 1
one_less n = grind (arith, tests)

pub first_piece : (journal : ℕ) (made_with : JournalSuper) (r : Ring) (s : Sending) (b : UnplacedBlock) → s.super_left ≡ false → first_of s.pieces ≡ Some b
    → Some (record { note = b.note; block = journal + s.place; body = b.body; barrier = nat_le (length s.pieces) 2 }) ≡ first_planned (rest_of journal made_with r s)
first_piece journal made_with r s b e f = rw e (by s.pieces f)
  where
    by : (ps : List UnplacedBlock) → first_of ps ≡ Some b
        → Some (record { note = b.note; block = journal + s.place; body = b.body; barrier = nat_le (length ps) 2 }) ≡ first_planned (with_barriers (placed journal r s.place ps))
    by [] d = absurd (none-some b d)
    by (x ∷ ps) d =
        let same = same_Some x b d in
        ap (λ (y : UnplacedBlock). let p : Planned = record { note = y.note; block = journal + s.place; body = y.body; barrier = nat_le (suc (length ps)) 2 } in Some p) (sym same)
        ∙ ap (λ t. let p : Planned = record { note = x.note; block = journal + s.place; body = x.body; barrier = t } in Some p)
        (one_less (length ps) ∙ ap (λ n. nat_le n 1) (sym (length-placed journal r (places_on r 1 s.place) ps)))

-- ---- a plan that is built

abbrev left_of : ℕ → JournalSuper → Ring → Bool → ℕ → ℕ → List UnplacedBlock → List Planned
left_of journal made_with r super_left sequence place pieces =
    with_barriers (if super_left then super_put made_with journal sequence place ∷ placed journal r place pieces else placed journal r place pieces)

pub rest_is_plan : (journal : ℕ) (s : JournalSuper) (r : Ring) (x : Sending) (head : ℕ) (started : Bool) (k sequence : ℕ) (bodies : List Logged) (revokes : List ℕ)
    → x.sequence ≡ sequence → x.place ≡ head → x.super_left ≡ not started → x.pieces ≡ unplaced_blocks (writers s) k sequence bodies revokes
    → rest_of journal s r x ≡ plan_of (writers s) journal r head started k sequence bodies revokes
rest_is_plan journal s r x head started k sequence bodies revokes a b c d =
    ap (λ n. left_of journal s r x.super_left n x.place x.pieces) a
    ∙ ap (λ n. left_of journal s r x.super_left sequence n x.pieces) b
    ∙ ap (λ t. left_of journal s r t sequence head x.pieces) c
    ∙ ap (λ (ps : List UnplacedBlock). left_of journal s r (not started) sequence head ps) d
    ∙ plan_is_left s journal r head started k sequence bodies revokes

pub blocks_of_logged : (bodies : ℕ → List ℕ) (touched : List ℕ) → map (λ (l : Logged). l.block) (logged_of bodies touched) ≡ touched
blocks_of_logged bodies [] = refl
blocks_of_logged bodies (b ∷ bs) = ap (λ l. b ∷ l) (blocks_of_logged bodies bs)

pub same_plan : (rest more : List Planned) (bodies logged : List Logged) (revokes blocks changed nodes : List ℕ) → rest ≡ more → bodies ≡ logged → revokes ≡ blocks → changed ≡ nodes
    → Committing (record { rest = rest; bodies = bodies; revokes = revokes; changed = changed }) ≡ Committing (record { rest = more; bodies = logged; revokes = blocks; changed = nodes })
same_plan rest more bodies logged revokes blocks changed nodes a b c d =
    ap (λ (x : List Planned). Committing (record { rest = x; bodies = bodies; revokes = revokes; changed = changed })) a
    ∙ ap (λ (x : List Logged). Committing (record { rest = more; bodies = x; revokes = revokes; changed = changed })) b
    ∙ ap (λ (x : List ℕ). Committing (record { rest = more; bodies = logged; revokes = x; changed = changed })) c
    ∙ ap (λ (x : List ℕ). Committing (record { rest = more; bodies = logged; revokes = blocks; changed = x })) d

abbrev pub journal_part : FlushPart → LogRing → Running → Phase → JournalPart
journal_part f g t p = record { flush = f; ring = g; running = t; phase = p }

pub same_part : (f flush : FlushPart) (g ring : LogRing) (t running : Running) (p phase : Phase) → f ≡ flush → g ≡ ring → t ≡ running → p ≡ phase
    → journal_part f g t p ≡ journal_part flush ring running phase
same_part f flush g ring t running p phase a b c d =
    ap (λ x. journal_part x g t p) a ∙ ap (λ x. journal_part flush x t p) b ∙ ap (λ x. journal_part flush ring x p) c ∙ ap (λ x. journal_part flush ring running x) d
