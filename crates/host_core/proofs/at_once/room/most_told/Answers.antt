use Rattle.std.proofs.Common.{sym, ap, ◌∙◌}
use Rattle.flush_actor.specs.Kinds.{is_reading}
use Rattle.host_core.proofs.AtOnceLemmas.Finds.{reading_notes, reading_pages}
use Rattle.host_core.proofs.at_once.room.most_told.Goals as goal

pub returns-then-is_reading-clause-notes : goal.returns-then-is_reading-clause-notes
returns-then-is_reading-clause-notes c n tx h = reading_notes c.args.volume.now n tx c.args.call.now (ap is_reading (sym c.kind_of.ensures) ∙ (sym c.is_reading.ensures ∙ c.if-is_reading.true))

pub returns-then-is_reading-clause-pages : goal.returns-then-is_reading-clause-pages
returns-then-is_reading-clause-pages c n tx h = reading_pages c.args.volume.now n tx c.args.call.now (ap is_reading (sym c.kind_of.ensures) ∙ (sym c.is_reading.ensures ∙ c.if-is_reading.true))
