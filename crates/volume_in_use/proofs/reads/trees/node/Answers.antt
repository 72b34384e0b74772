use Rattle.std.proofs.Common.{ap, sym, subst, ◌∙◌}
use Rattle.tree_model.specs.declared.node.Node.TheVariants as nodes
use Rattle.volume_model.specs.Volume.{IsPart}
use Rattle.volume_steps.proofs.Files.{node_is_file}
use Rattle.volume_in_use.proofs.reads.trees.node.Goals as goal

pub bodies-requires : goal.bodies-requires
bodies-requires c = (subst (IsPart c.args.g.now c.args.blocks.now c.args.placed.now.inode) c.in-File.is c.requires).rising

pub returns-in_ok-bodies-in-File : goal.returns-in_ok-bodies-in-File
returns-in_ok-bodies-in-File c =
    ap (λ bodies. nodes.File (record { size = c.args.placed.now.inode.size; links = c.args.placed.now.inode.links; blocks = bodies })) c.in_ok-bodies-in-File.ensures
    ∙ sym (node_is_file c.args.blocks.now c.args.placed.now c.in-File.zones c.in-File.is (subst (IsPart c.args.g.now c.args.blocks.now c.args.placed.now.inode) c.in-File.is c.requires).rising)
