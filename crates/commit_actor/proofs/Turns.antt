-- What the steps answer, and what they leave.
use Rattle.std.proofs.Common.{◌≡◌, ℕ, zero, suc, ◌+◌, ◌-◌, ◌≤◌, Bool, true, false, not, List, [], ◌∷◌, ◌++◌, length, length-append, drop, map, Some, if◌then◌else◌, refl, sym, ap, subst, ◌∙◌, arith}
use Rattle.std.specs.List.{filter}
use Rattle.std.proofs.lemmas.Bool.{false≢true}
use Rattle.std.proofs.lemmas.List.{length-map}
use Rattle.std.proofs.lemmas.Option.{none-some, same_Some}
use Rattle.std.proofs.lemmas.List.Sums.{length-filter, count_by-le-length}
use Rattle.order_model.specs.declared.turn.Turn.{Turn}
use Rattle.order_model.specs.declared.turn.Turn.TheVariants as turns
use Rattle.log_model.specs.Marks.{Logged}
use Rattle.log_model.specs.Ring.{Ring, IsPlace}
use Rattle.journal_blocks.specs.declared.super_block.JournalSuper.{JournalSuper}
use Rattle.page_cache.specs.declared.cached_page.CachedPage.{CachedPage}
use Rattle.number_sets.specs.Sets.{has}
use Rattle.number_sets.specs.laws.Keyed.{put_by-longer}
use Rattle.journal_ring.specs.LogRing.{LogRing, put_homes, put_home, commit_bodies}
use Rattle.journal_ring.specs.running.Closing.{unplaced_blocks}
use Rattle.journal_ring.specs.running.Plan.{Writers, Planned, placed, chunks_from, chunks, described, all_described, body_block, revoke_block, commit_block, logged_blocks}
use Rattle.journal_ring.specs.declared.running.pieces.UnplacedBlock.{UnplacedBlock}
use Rattle.flush_actor.specs.Outcomes.{is_did, is_queue_full}
use Rattle.flush_actor.specs.Part.{at_limit}
use Rattle.flush_actor.specs.Steps.{submit_turn}
use Rattle.commit_actor.specs.Actor.{LogState, part_of, with_parts}
use Rattle.commit_actor.specs.Journal.{Plan, Closing, Committing, JournalPart}
use Rattle.commit_actor.specs.code.Fields.{IsAtRest, IsOnItsWay}
use Rattle.commit_actor.specs.Steps.{CommitTurn, did, idle, submits, planned_out, plan_sent, planned_done, committed, plan_turn, plan_built}
use Rattle.commit_actor.specs.code.Sending.{first_planned, with_barriers, rest_of, plan_left, sent_one}
use Rattle.commit_actor.specs.declared.sending.Sending.{Sending}
use Rattle.commit_actor.proofs.Plans.{length-placed, length-with_barriers}

abbrev pub turned : JournalPart → List CachedPage → Turn → CommitTurn
turned j ps t = record { part = j; pages = ps; turn = t }

-- ---- a step that submits

pub submits_did : (t : Turn) (j out : JournalPart) (ps outs : List CachedPage) → t ≡ submit_turn (is_queue_full t) j.flush → is_did t ≡ true → turned out outs t ≡ submits (is_queue_full t) j ps out outs
submits_did t j out ps outs e d = by (at_limit j.flush) (is_queue_full t) refl e
  where
    by : (b q : Bool) → is_queue_full t ≡ q → t ≡ (if b then turns.SessionFull else if q then turns.QueueFull else turns.Did)
        → turned out outs t ≡ (if b then turned j ps turns.SessionFull else if q then turned j ps turns.QueueFull else did out outs)
    by true q f s = absurd (false≢true (sym (ap is_did s) ∙ d))
    by false true f s = absurd (false≢true (sym (ap is_did s) ∙ d))
    by false false f s = ap (turned out outs) s

-- ---- a request of a plan

pub plan_next : (full : Bool) (j : JournalPart) (ps : List CachedPage) (p : Plan) (x : Planned) → first_planned p.rest ≡ Some x → submits full j ps (plan_sent j p x (drop 1 p.rest)) ps ≡ plan_turn full j ps p
plan_next full j ps p x e = by p.rest e
  where
    by : (rest : List Planned) → first_planned rest ≡ Some x → submits full j ps (plan_sent j p x (drop 1 rest)) ps ≡ (elim rest as (λ _. CommitTurn) [ [] ↦ idle j ps | first ∷ rest ↦ submits full j ps (plan_sent j p first rest) ps ])
    by [] d = absurd (none-some x d)
    by (y ∷ ys) d = ap (λ (z : Planned). submits full j ps (plan_sent j p z ys) ps) (sym (same_Some y x d))

pub done_is_sent : (j : JournalPart) (p : Plan) (rest : List Planned) (x : Planned) → first_planned rest ≡ Some x → planned_done (planned_out j x) p rest ≡ plan_sent j p x (drop 1 rest)
done_is_sent j p [] x e = absurd (none-some x e)
done_is_sent j p (y ∷ []) x e =
    let one : length (planned_out j x).flush.requests ≡ length j.flush.requests + 1 = simp (length-append) refl in
    let size : length (planned_out j x).flush.requests - 1 ≡ length j.flush.requests = omega (arith, one) in
    ap (λ n. committed (planned_out j x) (j.running.number - 1) n p) size
done_is_sent j p (y ∷ q ∷ qs) x e = refl

-- ---- what is left behind a request

rest_sent : (journal : ℕ) (made_with : JournalSuper) (r : Ring) (s : Sending) → 1 ≤ length s.pieces → rest_of journal made_with r (sent_one r s) ≡ drop 1 (rest_of journal made_with r s)
rest_sent journal made_with r s some = by s.super_left s.pieces some
  where
    at : Bool → List UnplacedBlock → Sending
    at b ps = record { sequence = s.sequence; place = s.place; super_left = b; pieces = ps; homes = s.homes; changed = s.changed }

    by : (b : Bool) (ps : List UnplacedBlock) → 1 ≤ length ps → rest_of journal made_with r (sent_one r (at b ps)) ≡ drop 1 (rest_of journal made_with r (at b ps))
    by true ps h = refl
    by false [] h = absurd (omega (arith, h))
    by false (x ∷ ps) h = refl

planned_more : (j : JournalPart) (p : Plan) (rest more : List Planned) → more ≡ drop 1 rest → 1 ≤ length more → record j { phase = Committing (record p { rest = more }) } ≡ planned_done j p rest
planned_more j p [] more e h = absurd (let none = ap length e in omega (arith, h, none))
planned_more j p (x ∷ []) more e h = absurd (let none = ap length e in omega (arith, h, none))
planned_more j p (x ∷ q ∷ qs) more e h = ap (λ (l : List Planned). record j { phase = Committing (record p { rest = l }) }) e

length-rest : (journal : ℕ) (made_with : JournalSuper) (r : Ring) (s : Sending) → length s.pieces ≤ length (rest_of journal made_with r s)
length-rest journal made_with r s = by s.super_left
  where
    size : length (with_barriers (placed journal r s.place s.pieces)) ≡ length s.pieces
    size = length-with_barriers _ ∙ length-placed journal r s.place s.pieces

    by : (b : Bool) → length s.pieces ≤ length (rest_of journal made_with r (record { sequence = s.sequence; place = s.place; super_left = b; pieces = s.pieces; homes = s.homes; changed = s.changed }))
    by true = omega (arith, size)
    by false = omega (arith, size)

pub more_left : (journal : ℕ) (made_with : JournalSuper) (r : Ring) (s new : Sending) (j : JournalPart) → new ≡ sent_one r s → 1 ≤ length s.pieces → 1 ≤ length new.pieces
    → record j { phase = Committing (plan_left journal made_with r new) } ≡ planned_done j (plan_left journal made_with r s) (rest_of journal made_with r s)
more_left journal made_with r s new j e some more =
    let size = length-rest journal made_with r new in
    let rest = ap (rest_of journal made_with r) e ∙ rest_sent journal made_with r s some in
    ap (λ (x : Sending). record j { phase = Committing (record { rest = rest_of journal made_with r new; bodies = x.homes.pairs.items; revokes = x.homes.revoked.items; changed = x.changed.items }) }) e
    ∙ planned_more j (plan_left journal made_with r s) (rest_of journal made_with r s) (rest_of journal made_with r new) rest (omega (arith, size, more))

-- the last of the pieces was sent
pub last_sent : (r : Ring) (s new : Sending) → new ≡ sent_one r s → 1 ≤ length s.pieces → length new.pieces ≡ 0 → (s.super_left ≡ false) × (length s.pieces ≡ 1)
last_sent r s new e some none = by s.super_left s.pieces refl some (sym (ap (λ (x : Sending). length x.pieces) e) ∙ none)
  where
    by : (b : Bool) (ps : List UnplacedBlock) → s.super_left ≡ b → 1 ≤ length ps → length (if b then ps else drop 1 ps) ≡ 0 → (s.super_left ≡ false) × (length ps ≡ 1)
    by true ps is h n = absurd (omega (arith, h, n))
    by false [] is h n = absurd (omega (arith, h))
    by false (x ∷ ps) is h n = (is, omega (arith, n))

-- ---- bodies that wait

put_homes-longer : (hs bs : List Logged) → length (put_homes hs bs) ≤ length hs + length bs
put_homes-longer hs [] = omega arith
put_homes-longer hs (b ∷ bs) =
    let one = put_by-longer (λ (l : Logged). l.block) hs b in
    let rest = put_homes-longer (put_home hs b) bs in
    omega (arith, one, rest)

pub homes_committed : (revokes : List ℕ) (bodies : List Logged) (r : LogRing) → length (commit_bodies revokes bodies r).homes ≤ length r.homes + length bodies
homes_committed revokes bodies r =
    let left = filter (λ (h : Logged). not (has revokes h.block)) r.homes in
    let more = put_homes-longer left bodies in
    let fewer = count_by-le-length (λ (h : Logged). not (has revokes h.block)) r.homes in
    let size = length-filter (λ (h : Logged). not (has revokes h.block)) r.homes in
    omega (arith, more, fewer, size)

pub at_rest : (l new : LogState) (plan : Plan) (id : ℕ) → new ≡ with_parts l (committed (part_of l Closing) (l.running.number - 1) id plan)
    → 2 ≤ l.running.number → l.running.number ≤ length l.flush.requests + 1 → length l.ring.homes + length plan.bodies ≤ length l.flush.requests → IsAtRest new
at_rest l new plan id e first number waiting =
    let homes = homes_committed plan.revokes plan.bodies l.ring in
    subst IsAtRest (sym e) (record { first = omega (arith, first); numbered = number; waiting = omega (arith, homes, waiting) })

-- a plan was built
pub on_its_way : (l new : LogState) (s : Sending) (w : Writers) (journal sequence : ℕ) (bodies : ℕ → List ℕ) → IsAtRest l
    → part_of new (Committing (plan_left l.journal l.made_with l.ring.places s)) ≡ plan_built w journal sequence bodies (part_of l Closing)
    → length s.homes.pairs.items + 1 ≤ length s.pieces → IsPlace l.ring.places s.place → IsOnItsWay new s
on_its_way l new s w journal sequence bodies rest e pieces place =
    let number : new.running.number ≡ l.running.number + 1 = ap (λ (j : JournalPart). j.running.number) e in
    let requests : length new.flush.requests ≡ length l.flush.requests = ap (λ (j : JournalPart). length j.flush.requests) e in
    let homes : length new.ring.homes ≡ length l.ring.homes = ap (λ (j : JournalPart). length j.ring.homes) e in
    let first = rest.first in
    let numbered = rest.numbered in
    let waiting = rest.waiting in
    record {
      closed = omega (arith, first, number);
      numbered = omega (arith, number, numbered, requests);
      waiting = omega (arith, homes, requests, waiting, pieces);
      left = omega (arith, pieces);
      place = subst (λ (r : Ring). IsPlace r s.place) (sym (ap (λ (j : JournalPart). j.ring.places) e)) place;
    }

-- ---- how many log blocks there are

chunked : (most left : ℕ) (begun xs : List Logged) (w : Writers) (k sequence : ℕ) → length begun + length xs ≤ length (all_described w k sequence (chunks_from most left begun xs))
chunked most left [] [] w k sequence = omega arith
chunked most left (b ∷ bs) [] w k sequence =
    let size = length-append (described w k sequence (b ∷ bs)) [] in
    let all = length-map (b ∷ bs) (body_block w k sequence) in
    omega (arith, size, all)
chunked most zero begun (x ∷ xs) w k sequence =
    let rest = chunked most (most - 1) (x ∷ []) xs w k sequence in
    let size = length-append (described w k sequence begun) (all_described w k sequence (chunks_from most (most - 1) (x ∷ []) xs)) in
    let all = length-map begun (body_block w k sequence) in
    omega (arith, rest, size, all)
chunked most (suc left) begun (x ∷ xs) w k sequence =
    let rest = chunked most left (begun ++ x ∷ []) xs w k sequence in
    let size = length-append begun (x ∷ []) in
    omega (arith, rest, size)

pub pieces_enough : (w : Writers) (k sequence : ℕ) (bodies pairs : List Logged) (revokes : List ℕ) (pieces : List UnplacedBlock) → pairs ≡ bodies → pieces ≡ unplaced_blocks w k sequence bodies revokes → length pairs + 1 ≤ length pieces
pieces_enough w k sequence bodies pairs revokes pieces same e =
    let size = ap length same in
    let pieces_size = ap length e in
    let blocks = all_described w k sequence (chunks w.most_tags bodies) in
    let most = chunked w.most_tags w.most_tags [] bodies w k sequence in
    let front = length-append (map (revoke_block w k sequence) (chunks w.most_revokes revokes)) blocks in
    let whole = length-append (logged_blocks w k sequence bodies revokes) (commit_block w k sequence ∷ []) in
    omega (arith, size, pieces_size, most, front, whole)
