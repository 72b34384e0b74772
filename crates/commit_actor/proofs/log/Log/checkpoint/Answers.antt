use Rattle.std.proofs.Common.{ap}
use Rattle.journal_ring.specs.Journal.{JournalRing}
use Rattle.commit_actor.proofs.Logs.{submit_keeps, log_kept, same_ring}
use Rattle.commit_actor.proofs.log.Log.checkpoint.Goals as goal

pub invariant_of-self-in-Some : goal.invariant_of-self-in-Some
invariant_of-self-in-Some g c =
    let l = c.self.inside in
    let i = c.self.invariant in
    let ring = c.home_sent.ensures in
    log_kept l.flush c.submit-turn.new.self l.ring c.home_sent.new.self l.running l.journal i (submit_keeps l.flush _ _ _ _ _ c.submit-turn.ensures.turn c.submit-turn.ensures.part i.few)
    (record {
      made_with = ap (λ (x : JournalRing). x.made_with) ring;
      limit = ap (λ (x : JournalRing). x.limit) ring;
      places = ap (λ (x : JournalRing). x.ring.places) ring;
      head = ap (λ (x : JournalRing). x.ring.head) ring;
    })

pub invariant_of-self-then-not-did-2 : goal.invariant_of-self-then-not-did-2
invariant_of-self-then-not-did-2 g c =
    let l = c.self.inside in
    let i = c.self.invariant in
    log_kept l.flush c.submit-turn-in-None.new.self l.ring l.ring l.running l.journal i (submit_keeps l.flush _ _ _ _ _ c.submit-turn-in-None.ensures.turn c.submit-turn-in-None.ensures.part i.few) (same_ring l.ring)

pub invariant_of-self-in-None : goal.invariant_of-self-in-None
invariant_of-self-in-None g c =
    let l = c.self.inside in
    let i = c.self.invariant in
    let ring = c.all_home.ensures.ring in
    log_kept l.flush c.submit-turn-in-None.new.self l.ring c.all_home.new.self l.running l.journal i (submit_keeps l.flush _ _ _ _ _ c.submit-turn-in-None.ensures.turn c.submit-turn-in-None.ensures.part i.few)
    (record {
      made_with = ap (λ (x : JournalRing). x.made_with) ring;
      limit = ap (λ (x : JournalRing). x.limit) ring;
      places = ap (λ (x : JournalRing). x.ring.places) ring;
      head = ap (λ (x : JournalRing). x.ring.head) ring;
    })
