use Rattle.std.proofs.Common.{refl, sym, subst, arith}
use Rattle.journal_ring.specs.running.Open.{quota}
use Rattle.mount_make.specs.Made.{new_journal}
use Rattle.session_core.specs.run.Beginning.{made_now, made_ring}
use Rattle.session_core.specs.Core.{geometry_of, opening_of}
use Rattle.session_core.specs.code.Cuts.{CutFacts, medium_left}
use Rattle.session_core.proofs.Made.{script_writes_bytes, sound_of}
use Rattle.session_core.proofs.Cut.{cut_is}
use Rattle.session_core.proofs.running.cut_scripts_keep_their_promises.Goals as goal

pub returns : goal.returns
returns c = λ end r order b.
    let s = c.args.script.now in
    let is = c.requires in
    let sizes = geometry_of s in
    let sound = sound_of c.make.result s.inodes s.zones s.width c.make.ensures.sound c.make.ensures.made c.make.ensures.too_small is.sizes.some_data in
    let bytes = script_writes_bytes s is c.calls_of_scripts_write_bytes.ensures in
    let m = medium_left r in
    let cut = cut_is s is sound bytes end r order b in
    let q = quota (new_journal s.journal s.wide) in
    let limit = is.header.limit in
    let law = c.sessions_of_calls_on_made_images.ensures in
    let volume = law.volume sizes s.journal s.wide q sound is.sizes.least_journal is.sizes.most_journal in
    let journal = law.journal sizes s.journal s.wide q s.header.limit sound is.sizes.least_journal is.sizes.most_journal (omega (arith, limit)) in
    let o = opening_of s in
    let v = made_now sizes in
    let ring = made_ring s.journal in
    let ps = s.programs in
    let n = s.header.limit in
    subst (λ h. CutFacts s h m) (sym b.host) (record {
      host = record {
        events = b.events;
        host_is = refl;
        promises = c.answered_calls_keep_their_promises.ensures.promises o v ring n ps b.events journal.1 volume journal.0 bytes;
        ok_causes = λ e t x ok kind. c.answered_calls_keep_their_promises.ensures.causes o v ring n ps b.events e t x journal.1 volume journal.0 bytes ok kind;
        causes = c.calls_end_for_a_cause.ensures.causes o v ring n ps b.events;
        waited_for = c.flushes_of_sessions_are_waited_for.ensures o v ring n ps b.events;
        follows = c.histories_follow_the_tree.ensures.follows o v ring n ps b.events journal.1 volume journal.0 bytes;
        legal = c.histories_follow_the_tree.ensures.legal o v ring n ps b.events journal.1 volume journal.0 bytes;
      };
      volume = c.cut_sessions_mount.ensures.volume sizes s.journal s.wide n ps b.events m cut;
      journal = c.cut_sessions_mount.ensures.journal sizes s.journal s.wide n ps b.events m cut;
      mounts = c.cut_sessions_mount.ensures.mounts sizes s.journal s.wide n ps b.events m cut;
      counted = c.cut_sessions_tell_how_many.ensures sizes s.journal s.wide n ps b.events m cut;
      transactions = c.cut_sessions_have_the_tree_of_a_prefix.ensures.transactions sizes s.journal s.wide n ps b.events m cut;
      tree = c.cut_sessions_have_the_tree_of_a_prefix.ensures.tree sizes s.journal s.wide n ps b.events m cut;
      recovered = λ closed. c.cut_sessions_keep_files.ensures.recovered sizes s.journal s.wide n ps b.events m closed cut;
      shown = λ closed tree kept is alike. c.cut_sessions_show_files.ensures sizes s.journal s.wide n ps b.events m closed tree cut kept is alike;
    })
