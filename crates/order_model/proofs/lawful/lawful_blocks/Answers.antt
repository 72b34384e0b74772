use Rattle.order_model.proofs.lawful.lawful_blocks.Goals as goal

pub returns-clause-stays : goal.returns-clause-stays
returns-clause-stays g c = λ n on. g.met.D.OrderedDev.stays (g.D.OrderedDev.state c.args.dev.now) n on

pub returns-clause-stays_sound : goal.returns-clause-stays_sound
returns-clause-stays_sound g c = λ n sound. g.met.D.OrderedDev.stays_sound (g.D.OrderedDev.state c.args.dev.now) n sound

pub returns-clause-falls : goal.returns-clause-falls
returns-clause-falls g c = λ pick. g.met.D.OrderedDev.falls (g.D.OrderedDev.state c.args.dev.now) pick c.blocks-2.ensures.valid
