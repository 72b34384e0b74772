use Rattle.std.proofs.Common.{◌≡◌, ap, sym, ◌∙◌, reverse, subst}
use Rattle.std.proofs.lemmas.Result.{on_ok_weaker, IfErr-weaker}
use Rattle.volume_ops.specs.Reads.{answer}
use Rattle.volume_ops.specs.code.Visits.{met_next, directory_visit}
use Rattle.volume_ops.specs.Volume.{disk_of}
use Rattle.volume_ops.specs.Walk.{Pending, visit}
use Rattle.volume_ops.proofs.GoesOn.{told_on}
use Rattle.volume_ops.proofs.Visited.{visit_bad, visit_as_directory, visit_as_file, visit_as_other}
use Rattle.volume_ops.proofs.visit.Walker.visit.Goals as goal

pub returns-then-is_bad_inode-clause-fault : goal.returns-then-is_bad_inode-clause-fault
returns-then-is_bad_inode-clause-fault c =
    rw (← c.e.view_is, c.table_block-block.ensures)
    (visit_bad (disk_of c.args.disk.now) c.args.g.now c.args.self.now _ _ c.inode_at-i.ensures.value (sym c.is_bad_inode.ensures ∙ c.if-is_bad_inode.true))

pub returns-then-is_directory-clause-ok : goal.returns-then-is_directory-clause-ok
returns-then-is_directory-clause-ok c =
    let there = visit_as_directory (disk_of c.args.disk.now) c.args.g.now c.args.self.now (record { inode = c.e.inside.inode; parent = c.e.inside.parent }) _ c.inode_at-i.ensures.value (sym c.is_bad_inode.ensures ∙ c.if-is_bad_inode.false) (sym c.is_directory.ensures ∙ c.if-is_directory.true) in
    let is = subst (λ (e : Pending). answer (disk_of c.args.disk.now) (visit c.args.g.now c.args.self.now e) ≡ answer (disk_of c.args.disk.now) (directory_visit c.args.g.now c.args.self.now e c.inode_at-i.result)) c.e.view_is there in
    (on_ok_weaker c.visit_directory.result (λ h. ap (λ r. met_next r (reverse c.args.stack.now.items)) is ∙ h) c.visit_directory.ensures.ok)

pub returns-then-is_directory-clause-fault : goal.returns-then-is_directory-clause-fault
returns-then-is_directory-clause-fault c =
    let there = visit_as_directory (disk_of c.args.disk.now) c.args.g.now c.args.self.now (record { inode = c.e.inside.inode; parent = c.e.inside.parent }) _ c.inode_at-i.ensures.value (sym c.is_bad_inode.ensures ∙ c.if-is_bad_inode.false) (sym c.is_directory.ensures ∙ c.if-is_directory.true) in
    let is = subst (λ (e : Pending). answer (disk_of c.args.disk.now) (visit c.args.g.now c.args.self.now e) ≡ answer (disk_of c.args.disk.now) (directory_visit c.args.g.now c.args.self.now e c.inode_at-i.result)) c.e.view_is there in
    (IfErr-weaker c.visit_directory.result _ _ (λ e. told_on _ _ e (λ f h. is ∙ h)) c.visit_directory.ensures.fault)

pub returns-then-is_file-clause-ok : goal.returns-then-is_file-clause-ok
returns-then-is_file-clause-ok c =
    let is = visit_as_file (disk_of c.args.disk.now) c.args.g.now c.args.self.now _ _ c.inode_at-i.ensures.value (sym c.is_bad_inode.ensures ∙ c.if-is_bad_inode.false) (sym c.is_directory.ensures ∙ c.if-is_directory.false) (sym c.is_file.ensures ∙ c.if-is_file.true) in
    rw (← c.e.view_is) (on_ok_weaker c.visit_file.result (λ h. ap (λ r. met_next r (reverse c.args.stack.now.items)) (is ∙ h)) c.visit_file.ensures.ok)

pub returns-then-is_file-clause-fault : goal.returns-then-is_file-clause-fault
returns-then-is_file-clause-fault c =
    let is = visit_as_file (disk_of c.args.disk.now) c.args.g.now c.args.self.now _ _ c.inode_at-i.ensures.value (sym c.is_bad_inode.ensures ∙ c.if-is_bad_inode.false) (sym c.is_directory.ensures ∙ c.if-is_directory.false) (sym c.is_file.ensures ∙ c.if-is_file.true) in
    rw (← c.e.view_is) (IfErr-weaker c.visit_file.result _ _ (λ e. told_on _ _ e (λ f h. is ∙ h)) c.visit_file.ensures.fault)

pub returns-clause-ok : goal.returns-clause-ok
returns-clause-ok c =
    rw (← c.e.view_is)
    (ap (λ r. met_next r (reverse c.args.stack.now.items)) (visit_as_other (disk_of c.args.disk.now) c.args.g.now c.args.self.now _ _ c.inode_at-i.ensures.value (sym c.is_bad_inode.ensures ∙ c.if-is_bad_inode.false) (sym c.is_directory.ensures ∙ c.if-is_directory.false) (sym c.is_file.ensures ∙ c.if-is_file.false))
    ∙ rw c.in_ok-meet.ensures)
