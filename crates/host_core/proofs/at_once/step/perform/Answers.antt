use Rattle.std.proofs.Common.{rules, ◌≡◌, ◌<◌, ◌≤◌, ◌+◌, length, sym, ap, subst, ◌∙◌}
use Rattle.blk_base.specs.Members.{In}
use Rattle.commit_actor.specs.Actor.{CommitActor}
use Rattle.volume_steps.specs.Now.{tree_of_now}
use Rattle.volume_steps.specs.Calls.{Called}
use Rattle.volume_steps.specs.Numbers.{number_in}
use Rattle.flush_actor.specs.Kinds.{is_reading}
use Rattle.host_core.specs.declared.known.Known.{Known}
use Rattle.host_core.specs.lengths.Lengths.{notes_in}
use Rattle.host_core.proofs.AtOnceLemmas.Finds.{room_found, may_be_done}
use Rattle.host_core.proofs.KnownKept.{nothing_known, read_known}
use Rattle.host_core.proofs.at_once.step.perform.Goals.{then-not-is_reading, else-not-is_reading}
use Rattle.host_core.proofs.at_once.step.perform.Goals as goal

pub perform-requires : goal.perform-requires
perform-requires c =
    let v = c.args.volume.now in
    let own : c.in-Some.own ≡ number_in (tree_of_now v) c.args.number = search rules in
    record { room = room_found c.args.journal.now v c.args.number c.in-Some.own c.args.call.now c.volumes_are_plain.ensures c.requires.refused c.requires.free own; may = may_be_done v c.args.number c.in-Some.own c.args.call.now c.volumes_are_plain.ensures c.requires.refused own }

pub change-requires-clause-notes : goal.change-requires-clause-notes
change-requires-clause-notes c =
    let v = c.args.volume.now in
    let own : c.in-Some.own ≡ number_in (tree_of_now v) c.args.number = search rules in
    let room = room_found c.args.journal.now v c.args.number c.in-Some.own c.args.call.now c.volumes_are_plain.ensures c.requires.refused c.requires.free own in
    subst (λ (x : Called). notes_in x.change.touched ≤ c.make_room.new.journal.spare) (sym c.in_ok-reply.ensures.done) (c.in_ok-make_room.ensures.notes c.in-Some.own c.in-Ok.tx room)

pub change-requires-clause-blocks : goal.change-requires-clause-blocks
change-requires-clause-blocks c b i =
    let v = c.args.volume.now in
    let own : c.in-Some.own ≡ number_in (tree_of_now v) c.args.number = search rules in
    let room = room_found c.args.journal.now v c.args.number c.in-Some.own c.args.call.now c.volumes_are_plain.ensures c.requires.refused c.requires.free own in
    let inside = c.calls_tell_few.ensures.inside v c.in-Some.own c.in-Ok.tx c.args.call.now room b (subst (λ (x : Called). In b x.change.touched.blocks) c.in_ok-reply.ensures.done i) in
    subst (λ n. b < n) (sym (ap (λ (x : CommitActor). x.blocks) c.make_room.ensures.journal ∙ c.requires.blocks)) inside

pub change-requires-clause-room : goal.change-requires-clause-room
change-requires-clause-room c =
    let v = c.args.volume.now in
    let own : c.in-Some.own ≡ number_in (tree_of_now v) c.args.number = search rules in
    let room = room_found c.args.journal.now v c.args.number c.in-Some.own c.args.call.now c.volumes_are_plain.ensures c.requires.refused c.requires.free own in
    subst (λ (x : Called). length c.make_room.new.pages.pages + length x.change.touched.pages ≤ c.make_room.new.pages.room) (sym c.in_ok-reply.ensures.done)
    (c.in_ok-make_room.ensures.room c.in-Some.own c.in-Ok.tx room)

pub returns-clause-known : goal.returns-clause-known
returns-clause-known c =
    elim c.if-not-is_reading.branch [
      | then-not-is_reading w ↦ λ programs h. nothing_known programs c.perform.new.self c.if-not-is_reading.known (ap (λ (k : Known). k.calls.items) w.known-is ∙ w.forget.ensures.calls) (ap (λ (k : Known). k.to_come) w.known-is ∙ w.forget.ensures.to_come)
      | else-not-is_reading w ↦
          read_known c.args.volume.now c.perform.new.self c.args.known.now c.if-not-is_reading.known c.in-Some.own c.in-Ok.tx c.args.call.now (ap (λ (x : Called). x.change.volume) c.in_ok-reply.ensures.done) (ap is_reading (sym c.kind_of.ensures) ∙ (sym c.is_reading.ensures ∙ w.if-not-is_reading.false)) w.known-is
    ]
