use Rattle.std.proofs.Common.{◌≡◌, ◌∙◌, ℕ, List, Option, None, Some, length, ap}
use Rattle.std.specs.Prelude.{slice_get}
use Rattle.std.proofs.lemmas.List.{length-replicate}
use Rattle.blk_base.specs.laws.Members.{slice_get-replicate}
use Rattle.log_model.specs.Marks.{Transaction}
use Rattle.journal_replay.specs.Revokes.{place_of, replayed_by}
use Rattle.journal_replay.specs.laws.Homes.{told_homes}
use Rattle.journal_replay.proofs.homing.homes_of.Goals as goal

pub returns : goal.returns
returns c =
    let rev = place_of c.args.revokes.now in
    let size : length c.put_log.new.table.items ≡ c.args.zones = c.put_log.ensures.len ∙ (ap (λ (os : List (Option (List ℕ))). length os) c.in_ok-table.ensures ∙ length-replicate c.args.zones None) in
    told_homes c.args.log c.put_log.new.table.items rev c.args.zones c.collect.result size c.requires
    (λ b low.
    c.put_log.ensures.bodies b None (ap (λ (os : List (Option (List ℕ))). slice_get os b) c.in_ok-table.ensures ∙ slice_get-replicate c.args.zones b None low)
    ∙ ap (λ (ts : List Transaction). Some (replayed_by (rev b) 0 ts b None)) c.into_transactions.ensures)
    c.collect.ensures
