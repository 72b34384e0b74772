-- What a call touched is noted, one after the other.
use Rattle.std.proofs.Common.{◌≡◌, ℕ, ◌+◌, ◌<◌, ◌≤◌, Bool, true, false, if◌then◌else◌, List, [], ◌∷◌, length, filter, drop, get_or, slice_index_or, refl, sym, ap, subst, ◌∙◌, arith}
use Rattle.std.proofs.lemmas.Option.{slice_get-get_or}
use Rattle.blk_base.specs.Members.{In}
use Rattle.blk_base.specs.laws.Members.{slice_get-In}
use Rattle.number_sets.specs.Sets.{with_all, without_all}
use Rattle.flush_actor.specs.conflicts.Conflicts.{Conflicts, is_held, want}
use Rattle.journal_ring.specs.running.Open.{noted}
use Rattle.journal_ring.specs.running.Running.{Running, touched_one, revoked_one, changed_one, all_touched, all_revoked, all_changed}
use Rattle.journal_ring.specs.running.laws.Notes.{noted_all}
use Rattle.commit_actor.specs.Actor.{CommitActor}
use Rattle.commit_actor.specs.Calls.{with_flush, open_of, with_open}
use Rattle.commit_actor.specs.Journal.{JournalPart}
use Rattle.volume_model.specs.Touched.{Touched}
use Rattle.host_core.specs.effects.Effects.{noted_part, with_part}
use Rattle.host_core.specs.effects.code.Noting.{touches, revokes, changes, wants}

-- ---- what is left to note, with room for it

abbrev pub TouchesLeft : CommitActor → CommitActor → List ℕ → ℕ → Type 0
TouchesLeft old now blocks at = (touches (drop at blocks) now ≡ touches blocks old) × (length (drop at blocks) ≤ now.spare) × (now.blocks ≡ old.blocks)

abbrev pub RevokesLeft : CommitActor → CommitActor → List ℕ → ℕ → Type 0
RevokesLeft old now zones at = (revokes (drop at zones) now ≡ revokes zones old) × (length (drop at zones) ≤ now.spare)

abbrev pub ChangesLeft : CommitActor → CommitActor → List ℕ → ℕ → Type 0
ChangesLeft old now births at = (changes (drop at births) now ≡ changes births old) × (length (drop at births) ≤ now.spare)

-- ---- all of them

abbrev with_running : JournalPart → Running → JournalPart
with_running j r = record j { running = r }

touched_is : (bs : List ℕ) (a : CommitActor) → touches bs a ≡ with_part a (touches bs a).spare (with_running a.part (all_touched bs a.part.running))
touched_is [] a = refl
touched_is (b ∷ bs) a = touched_is bs (with_open a (noted (touched_one b a.part.running) (open_of a)))

revoked_is : (bs : List ℕ) (a : CommitActor) → revokes bs a ≡ with_part a (revokes bs a).spare (with_running a.part (all_revoked bs a.part.running))
revoked_is [] a = refl
revoked_is (b ∷ bs) a = revoked_is bs (with_open a (noted (revoked_one b a.part.running) (open_of a)))

changed_is : (fs : List ℕ) (a : CommitActor) → changes fs a ≡ with_part a (changes fs a).spare (with_running a.part (all_changed fs a.part.running))
changed_is [] a = refl
changed_is (f ∷ fs) a = changed_is fs (with_open a (noted (changed_one f a.part.running) (open_of a)))

want_more : (b : ℕ) (bs : List ℕ) (c : Conflicts) → want bs (want (b ∷ []) c) ≡ want (b ∷ bs) c
want_more b bs c = by (is_held c b)
  where
    by : (t : Bool) → (let x : Conflicts = record c { wanted = with_all (with_all c.wanted (if t then b ∷ [] else [])) (filter (is_held c) bs) } in x)
        ≡ record c { wanted = with_all c.wanted (if t then b ∷ filter (is_held c) bs else filter (is_held c) bs) }
    by true = refl
    by false = refl

abbrev with_conflicts : JournalPart → Conflicts → JournalPart
with_conflicts j c = record j { flush = record j.flush { conflicts = c } }

wanted_is : (bs : List ℕ) (a : CommitActor) → wants bs a ≡ with_part a a.spare (with_conflicts a.part (want bs a.part.flush.conflicts))
wanted_is [] a = refl
wanted_is (b ∷ bs) a =
    wanted_is bs (with_flush a (record a.part.flush { conflicts = want (b ∷ []) a.part.flush.conflicts }))
    ∙ ap (λ c. with_part a a.spare (with_conflicts a.part c)) (want_more b bs a.part.flush.conflicts)

-- room is used up one by one
pub touched_room : (bs : List ℕ) (a : CommitActor) → a.spare ≤ (touches bs a).spare + length bs
touched_room [] a = omega arith
touched_room (b ∷ bs) a = let rest = touched_room bs (with_open a (noted (touched_one b a.part.running) (open_of a))) in omega (arith, rest)

pub revoked_room : (bs : List ℕ) (a : CommitActor) → a.spare ≤ (revokes bs a).spare + length bs
revoked_room [] a = omega arith
revoked_room (b ∷ bs) a = let rest = revoked_room bs (with_open a (noted (revoked_one b a.part.running) (open_of a))) in omega (arith, rest)

pub touched_blocks : (bs : List ℕ) (a : CommitActor) → (touches bs a).blocks ≡ a.blocks
touched_blocks bs a = ap (λ (x : CommitActor). x.blocks) (touched_is bs a)

pub revoked_blocks : (bs : List ℕ) (a : CommitActor) → (revokes bs a).blocks ≡ a.blocks
revoked_blocks bs a = ap (λ (x : CommitActor). x.blocks) (revoked_is bs a)

pub changed_blocks : (fs : List ℕ) (a : CommitActor) → (changes fs a).blocks ≡ a.blocks
changed_blocks fs a = ap (λ (x : CommitActor). x.blocks) (changed_is fs a)

-- all that a call touched
chain : (t : Touched) (a a1 a2 a3 a4 : CommitActor)
    → a1 ≡ with_part a a1.spare (with_running a.part (all_touched t.blocks a.part.running))
    → a2 ≡ with_part a1 a2.spare (with_running a1.part (all_revoked t.revoked a1.part.running))
    → a3 ≡ with_part a2 a3.spare (with_running a2.part (all_changed t.nodes a2.part.running))
    → a4 ≡ with_part a3 a3.spare (with_conflicts a3.part (want (without_all t.blocks t.revoked) a3.part.flush.conflicts))
    → a4 ≡ with_part a a4.spare (noted_part t a.part)
chain t a a1 a2 a3 a4 e1 e2 e3 e4 =
    let spare = ap (λ (x : CommitActor). x.spare) e4 in
    let w = without_all t.blocks t.revoked in
    e4
    ∙ ap (λ (x : CommitActor). with_part x a3.spare (with_conflicts x.part (want w x.part.flush.conflicts))) e3
    ∙ ap (λ (x : CommitActor). with_part x a3.spare (with_conflicts (with_running x.part (all_changed t.nodes x.part.running)) (want w x.part.flush.conflicts))) e2
    ∙ ap (λ (x : CommitActor). with_part x a3.spare (with_conflicts (with_running x.part (all_changed t.nodes (all_revoked t.revoked x.part.running))) (want w x.part.flush.conflicts))) e1
    ∙ ap (λ (r : Running). with_part a a3.spare (with_conflicts (with_running a.part r) (want w a.part.flush.conflicts))) (noted_all t.blocks t.revoked t.nodes a.part.running)
    ∙ ap (λ n. with_part a n (noted_part t a.part)) (sym spare)

pub noted_is : (t : Touched) (a a1 a2 a3 a4 : CommitActor) → a1 ≡ touches t.blocks a → a2 ≡ revokes t.revoked a1 → a3 ≡ changes t.nodes a2 → a4 ≡ wants (without_all t.blocks t.revoked) a3
    → a4 ≡ with_part a a4.spare (noted_part t a.part)
noted_is t a a1 a2 a3 a4 e1 e2 e3 e4 =
    chain t a a1 a2 a3 a4
    (subst (λ (x : CommitActor). x ≡ with_part a x.spare (with_running a.part (all_touched t.blocks a.part.running))) (sym e1) (touched_is t.blocks a))
    (subst (λ (x : CommitActor). x ≡ with_part a1 x.spare (with_running a1.part (all_revoked t.revoked a1.part.running))) (sym e2) (revoked_is t.revoked a1))
    (subst (λ (x : CommitActor). x ≡ with_part a2 x.spare (with_running a2.part (all_changed t.nodes a2.part.running))) (sym e3) (changed_is t.nodes a2))
    (e4 ∙ wanted_is (without_all t.blocks t.revoked) a3)

-- a block of the list is one of the volume
pub block_inside : (bs : List ℕ) (at old now : ℕ) → ((b : ℕ) → In b bs → b < old) → at < length bs → now ≡ old → slice_index_or bs at 0 < now
block_inside bs at old now h inside same =
    subst (λ n. slice_index_or bs at 0 < n) (sym same) (h (get_or bs at 0) (slice_get-In bs at (get_or bs at 0) (slice_get-get_or bs at 0 inside)))
