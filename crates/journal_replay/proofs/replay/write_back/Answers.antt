use Rattle.std.proofs.Common.{sym, ap, ◌∙◌, subst, ◌+◌, ◌++◌, List, length, replicate}
use Rattle.order_model.specs.declared.command.Command.{Command}
use Rattle.journal_replay.specs.declared.end.End.TheVariants as ends
use Rattle.journal_replay.specs.Commands.{sends, for_block}
use Rattle.journal_replay.specs.declared.choice.Choice.TheVariants as choices
use Rattle.journal_replay.specs.Driving.{Driven, all_choices, driven, end_after}
use Rattle.journal_replay.specs.laws.Drives.{run-more}
use Rattle.journal_replay.specs.code.Homes.{logged_of}
use Rattle.journal_replay.specs.laws.Plans.{ends_in_flush}
use Rattle.journal_replay.specs.code.Sending.{CanSend}
use Rattle.journal_replay.specs.laws.Whole.{is_silent, can_send, attempt_from, between_from, whole_from, fault_from}
use Rattle.journal_replay.specs.laws.Failures.{fresh_fine, end_from}
use Rattle.order_model.specs.Machine.{Machine, machine_of}
use Rattle.journal_replay.specs.code.Runs.{RunKeeps, IsFlushedLast}
use Rattle.journal_replay.proofs.replay.write_back.Goals as goal

pub follow-end-requires-clause-can : goal.follow-end-requires-clause-can
follow-end-requires-clause-can g c =
    let d = g.D.OrderedDev in
    let old = d.state c.args.dev.now in
    subst (CanSend (d.seen old)) (sym c.make-plan.ensures)
    (can_send c.args.base (d.seen old) (logged_of c.args.homes.items) c.args.superblock (g.met.D.OrderedDev.surface old c.blocks-2.ensures.valid) c.requires.fresh c.requires.image c.requires.log c.requires.room)

pub follow-end-requires-clause-running : goal.follow-end-requires-clause-running
follow-end-requires-clause-running g c =
    let d = g.D.OrderedDev in
    let laws = g.met.D.OrderedDev in
    let old = d.state c.args.dev.now in
    let v = c.blocks-2.ensures.valid in
    ap (end_after ends.Running) (is_silent (d.seen old) c.requires.fresh (laws.on old v c.requires.on) (laws.completion old v) (laws.failure old v) (laws.power_cut old v).0).sent

pub follow-end-requires-clause-empty : goal.follow-end-requires-clause-empty
follow-end-requires-clause-empty g c =
    let d = g.D.OrderedDev in
    let laws = g.met.D.OrderedDev in
    let old = d.state c.args.dev.now in
    let v = c.blocks-2.ensures.valid in
    (is_silent (d.seen old) c.requires.fresh (laws.on old v c.requires.on) (laws.completion old v) (laws.failure old v) (laws.power_cut old v).0).waiting

pub returns-then-cut-clause-attempt : goal.returns-then-cut-clause-attempt
returns-then-cut-clause-attempt g c =
    let d = g.D.OrderedDev in
    let laws = g.met.D.OrderedDev in
    let old = d.state c.args.dev.now in
    let new = d.state c.follow-end.new.dev in
    let f = c.follow-end.ensures in
    let kept = subst (λ (all : List Command). RunKeeps (d.seen old) all (d.seen new) c.follow-end.new.plan) c.make-plan.ensures f.kept in
    attempt_from c.args.base (d.seen old) (d.seen new) _ c.args.superblock _ (laws.surface old c.blocks-2.ensures.valid) c.requires.fresh c.requires.image c.requires.log kept.all (laws.surface new f.valid) (laws.epoch_order new f.valid)

pub returns-then-cut-clause-whole : goal.returns-then-cut-clause-whole
returns-then-cut-clause-whole g c e =
    let d = g.D.OrderedDev in
    let laws = g.met.D.OrderedDev in
    let old = d.state c.args.dev.now in
    let new = d.state c.follow-end.new.dev in
    let f = c.follow-end.ensures in
    let kept = subst (λ (all : List Command). RunKeeps (d.seen old) all (d.seen new) c.follow-end.new.plan) c.make-plan.ensures f.kept in
    whole_from c.args.base (d.seen old) (d.seen new) _ c.args.superblock _ (laws.surface old c.blocks-2.ensures.valid) c.requires.fresh c.requires.image c.requires.log kept.all (laws.surface new f.valid) (laws.epoch_order new f.valid) (laws.flush new f.valid) (laws.completion new f.valid) (sym f.end ∙ e)

pub returns-then-cut-clause-failed : goal.returns-then-cut-clause-failed
returns-then-cut-clause-failed g c id e =
    let d = g.D.OrderedDev in
    let laws = g.met.D.OrderedDev in
    let old = d.state c.args.dev.now in
    let new = d.state c.follow-end.new.dev in
    let v = c.blocks-2.ensures.valid in
    let f = c.follow-end.ensures in
    let silent = is_silent (d.seen old) c.requires.fresh (laws.on old v c.requires.on) (laws.completion old v) (laws.failure old v) (laws.power_cut old v).0 in
    fault_from (d.seen old) (d.seen new) _ _ id silent (laws.failure old v) (laws.failure new f.valid) f.kept (sym f.end ∙ e)

pub finish-requires-clause-flush : goal.finish-requires-clause-flush
finish-requires-clause-flush g c =
    let d = g.D.OrderedDev in
    let old = d.state c.args.dev.now in
    let hs = logged_of c.args.homes.items in
    let all = c.follow-end.ensures.kept.all.all ∙ (ap (λ (cs : List Command). (d.seen old).took ++ cs) c.make-plan.ensures ∙ ap (λ (cs : List Command). cs ++ sends hs (for_block c.args.base c.args.superblock)) c.requires.fresh) in
    subst (λ (cs : List Command). IsFlushedLast cs) (sym all) (length hs + 1, ends_in_flush hs (for_block c.args.base c.args.superblock))

pub returns-clause-attempt : goal.returns-clause-attempt
returns-clause-attempt g c =
    let d = g.D.OrderedDev in
    let laws = g.met.D.OrderedDev in
    let old = d.state c.args.dev.now in
    let new = d.state c.finish.new.dev in
    let f = c.finish.ensures in
    let kept = subst (λ (all : List Command). RunKeeps (d.seen old) all (d.seen new) c.finish.new.plan) c.make-plan.ensures (run-more _ _ _ _ _ _ c.follow-end.ensures.kept f.kept) in
    attempt_from c.args.base (d.seen old) (d.seen new) _ c.args.superblock _ (laws.surface old c.blocks-2.ensures.valid) c.requires.fresh c.requires.image c.requires.log kept.all (laws.surface new f.valid) (laws.epoch_order new f.valid)

pub returns-clause-whole : goal.returns-clause-whole
returns-clause-whole g c e =
    let d = g.D.OrderedDev in
    let laws = g.met.D.OrderedDev in
    let old = d.state c.args.dev.now in
    let new = d.state c.finish.new.dev in
    let f = c.finish.ensures in
    let kept = subst (λ (all : List Command). RunKeeps (d.seen old) all (d.seen new) c.finish.new.plan) c.make-plan.ensures (run-more _ _ _ _ _ _ c.follow-end.ensures.kept f.kept) in
    whole_from c.args.base (d.seen old) (d.seen new) _ c.args.superblock _ (laws.surface old c.blocks-2.ensures.valid) c.requires.fresh c.requires.image c.requires.log kept.all (laws.surface new f.valid) (laws.epoch_order new f.valid) (laws.flush new f.valid) (laws.completion new f.valid) (sym f.end ∙ e)

pub returns-clause-failed : goal.returns-clause-failed
returns-clause-failed g c id e =
    let d = g.D.OrderedDev in
    let laws = g.met.D.OrderedDev in
    let old = d.state c.args.dev.now in
    let new = d.state c.finish.new.dev in
    let v = c.blocks-2.ensures.valid in
    let f = c.finish.ensures in
    let silent = is_silent (d.seen old) c.requires.fresh (laws.on old v c.requires.on) (laws.completion old v) (laws.failure old v) (laws.power_cut old v).0 in
    fault_from (d.seen old) (d.seen new) _ _ id silent (laws.failure old v) (laws.failure new f.valid) (run-more _ _ _ _ _ _ c.follow-end.ensures.kept f.kept) (sym f.end ∙ e)

pub returns-then-cut-clause-cut_run : goal.returns-then-cut-clause-cut_run
returns-then-cut-clause-cut_run g c cut =
    let d = g.D.OrderedDev in
    let m : Machine d.State = machine_of d in
    ap (λ (x : Driven d.State). x.dev) (c.follow-end.ensures.driven ∙ ap (λ (cs : List Command). driven m (all_choices c.args.steer.now) (record { dev = d.state c.args.dev.now; rest = cs })) c.make-plan.ensures)

pub returns-clause-whole_run : goal.returns-clause-whole_run
returns-clause-whole_run g c whole =
    let d = g.D.OrderedDev in
    let m : Machine d.State = machine_of d in
    let first = c.follow-end.ensures.driven ∙ ap (λ (cs : List Command). driven m (all_choices c.args.steer.now) (record { dev = d.state c.args.dev.now; rest = cs })) c.make-plan.ensures in
    let second = c.finish.ensures.driven in
    (second.0, ap (λ (x : Driven d.State). x.dev) (second.1 ∙ ap (driven m (replicate second.0 choices.Default)) first))

pub returns-then-cut-clause-between : goal.returns-then-cut-clause-between
returns-then-cut-clause-between g c =
    let d = g.D.OrderedDev in
    let laws = g.met.D.OrderedDev in
    let old = d.state c.args.dev.now in
    let new = d.state c.follow-end.new.dev in
    let f = c.follow-end.ensures in
    let kept = subst (λ (all : List Command). RunKeeps (d.seen old) all (d.seen new) c.follow-end.new.plan) c.make-plan.ensures f.kept in
    between_from c.args.base (d.seen old) (d.seen new) _ c.args.superblock _ (laws.surface old c.blocks-2.ensures.valid) c.requires.fresh c.requires.image c.requires.log kept.all (laws.surface new f.valid) (laws.epoch_order new f.valid)

pub returns-clause-between : goal.returns-clause-between
returns-clause-between g c =
    let d = g.D.OrderedDev in
    let laws = g.met.D.OrderedDev in
    let old = d.state c.args.dev.now in
    let new = d.state c.finish.new.dev in
    let f = c.finish.ensures in
    let kept = subst (λ (all : List Command). RunKeeps (d.seen old) all (d.seen new) c.finish.new.plan) c.make-plan.ensures (run-more _ _ _ _ _ _ c.follow-end.ensures.kept f.kept) in
    between_from c.args.base (d.seen old) (d.seen new) _ c.args.superblock _ (laws.surface old c.blocks-2.ensures.valid) c.requires.fresh c.requires.image c.requires.log kept.all (laws.surface new f.valid) (laws.epoch_order new f.valid)

pub returns-then-cut-clause-ends : goal.returns-then-cut-clause-ends
returns-then-cut-clause-ends g c =
    let d = g.D.OrderedDev in
    let laws = g.met.D.OrderedDev in
    let old = d.state c.args.dev.now in
    let new = d.state c.follow-end.new.dev in
    let v = c.blocks-2.ensures.valid in
    let f = c.follow-end.ensures in
    let kept = subst (λ (all : List Command). RunKeeps (d.seen old) all (d.seen new) c.follow-end.new.plan) c.make-plan.ensures f.kept in
    let off = laws.on old v c.requires.on in
    end_from (logged_of c.args.homes.items) c.args.base c.args.superblock (d.seen old) (d.seen new) c.follow-end.new.plan c.follow-end.result c.requires.fresh
    (fresh_fine (d.seen old) c.requires.fresh off (laws.completion old v) (laws.failure old v) (laws.power_cut old v).0)
    (is_silent (d.seen old) c.requires.fresh off (laws.completion old v) (laws.failure old v) (laws.power_cut old v).0)
    kept.all (laws.flush new f.valid) (laws.completion new f.valid) (laws.failure new f.valid) f.end f.empty

pub returns-clause-ends : goal.returns-clause-ends
returns-clause-ends g c =
    let d = g.D.OrderedDev in
    let laws = g.met.D.OrderedDev in
    let old = d.state c.args.dev.now in
    let new = d.state c.finish.new.dev in
    let v = c.blocks-2.ensures.valid in
    let f = c.finish.ensures in
    let kept = subst (λ (all : List Command). RunKeeps (d.seen old) all (d.seen new) c.finish.new.plan) c.make-plan.ensures (run-more _ _ _ _ _ _ c.follow-end.ensures.kept f.kept) in
    let off = laws.on old v c.requires.on in
    end_from (logged_of c.args.homes.items) c.args.base c.args.superblock (d.seen old) (d.seen new) c.finish.new.plan c.finish.result c.requires.fresh
    (fresh_fine (d.seen old) c.requires.fresh off (laws.completion old v) (laws.failure old v) (laws.power_cut old v).0)
    (is_silent (d.seen old) c.requires.fresh off (laws.completion old v) (laws.failure old v) (laws.power_cut old v).0)
    kept.all (laws.flush new f.valid) (laws.completion new f.valid) (laws.failure new f.valid) f.end f.empty
