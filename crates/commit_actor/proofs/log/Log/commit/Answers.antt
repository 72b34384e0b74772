use Rattle.std.proofs.Common.{refl, ap, subst, sym, arith}
use Rattle.commit_actor.proofs.Logs.{IsKept, log_kept}
use Rattle.journal_ring.specs.Journal.{JournalRing}
use Rattle.commit_actor.proofs.log.Log.commit.Goals as goal

pub invariant_of-self : goal.invariant_of-self
invariant_of-self c =
    let l = c.self.inside in
    let i = c.self.invariant in
    let same_flush : IsKept l.flush c.note_commit.new.self = subst (IsKept l.flush) (sym c.note_commit.ensures) (record { limit = refl; blocks = refl; few = i.few; more = omega arith }) in
    let ring = c.commit_bodies.ensures in
    log_kept l.flush c.note_commit.new.self l.ring c.commit_bodies.new.self l.running l.journal i same_flush
    (record {
      made_with = ap (λ (x : JournalRing). x.made_with) ring;
      limit = ap (λ (x : JournalRing). x.limit) ring;
      places = ap (λ (x : JournalRing). x.ring.places) ring;
      head = ap (λ (x : JournalRing). x.ring.head) ring;
    })
