use Rattle.std.proofs.Common.{◌∙◌, ap}
use Rattle.minix_tables.specs.zones.Zones.{made}
use Rattle.volume_calls.proofs.OpenedLemmas.OpenSteps.{nodes_fit, opened, tree_told, contents_told, none_waiting}
use Rattle.volume_calls.proofs.opened.opening.open_volume.Goals as goal

pub placed_nodes-requires-clause-nodes : goal.placed_nodes-requires-clause-nodes
placed_nodes-requires-clause-nodes c =
    let parts = c.into_parts-blocks.ensures in
    nodes_fit c.args.volume c.requires c.into_parts-blocks.result.geometry c.new-disk.result parts.geometry (c.new-disk.ensures ∙ parts.blocks) c.plain_when_read.ensures
    c.into_parts-blocks.result.nodes.items parts.nodes

pub of-requires : goal.of-requires
of-requires c =
    let parts = c.into_parts-blocks.ensures in
    let g = c.into_parts-blocks.result.geometry in
    rw c.into_blocks.ensures
    (opened c.args.volume c.requires g c.new-disk.result parts.geometry (c.new-disk.ensures ∙ parts.blocks) c.plain_when_read.ensures
    c.into_parts-blocks.result.nodes.items parts.nodes c.in_ok-used.used.items c.in_ok-used.ensures
    c.in_ok-nodes.nodes.entries c.in_ok-nodes.ensures c.in_ok-zones.zones (c.in_ok-zones.ensures ∙ ap (made g) c.deref.ensures.value))

pub returns-clause-tree : goal.returns-clause-tree
returns-clause-tree c =
    let parts = c.into_parts-blocks.ensures in
    let g = c.into_parts-blocks.result.geometry in
    tree_told c.args.volume c.requires g c.new-disk.result parts.geometry (c.new-disk.ensures ∙ parts.blocks) c.plain_when_read.ensures
    c.into_parts-blocks.result.nodes.items parts.nodes c.in_ok-used.used.items c.in_ok-used.ensures
    c.in_ok-nodes.nodes.entries c.in_ok-nodes.ensures c.in_ok-zones.zones (c.in_ok-zones.ensures ∙ ap (made g) c.deref.ensures.value) c.in_ok-opened.opened (rw c.into_blocks.ensures at c.in_ok-opened.ensures)

pub returns-clause-nodes : goal.returns-clause-nodes
returns-clause-nodes c =
    let parts = c.into_parts-blocks.ensures in
    let g = c.into_parts-blocks.result.geometry in
    contents_told c.args.volume c.requires g c.new-disk.result parts.geometry (c.new-disk.ensures ∙ parts.blocks) c.plain_when_read.ensures
    c.into_parts-blocks.result.nodes.items parts.nodes c.in_ok-used.used.items c.in_ok-used.ensures
    c.in_ok-nodes.nodes.entries c.in_ok-nodes.ensures c.in_ok-zones.zones (c.in_ok-zones.ensures ∙ ap (made g) c.deref.ensures.value) c.in_ok-opened.opened (rw c.into_blocks.ensures at c.in_ok-opened.ensures)

pub returns-clause-none_waits : goal.returns-clause-none_waits
returns-clause-none_waits c =
    let parts = c.into_parts-blocks.ensures in
    let g = c.into_parts-blocks.result.geometry in
    none_waiting c.args.volume c.requires g c.new-disk.result parts.geometry (c.new-disk.ensures ∙ parts.blocks) c.plain_when_read.ensures
    c.into_parts-blocks.result.nodes.items parts.nodes c.in_ok-used.used.items c.in_ok-used.ensures
    c.in_ok-nodes.nodes.entries c.in_ok-nodes.ensures c.in_ok-zones.zones (c.in_ok-zones.ensures ∙ ap (made g) c.deref.ensures.value) c.in_ok-opened.opened (rw c.into_blocks.ensures at c.in_ok-opened.ensures)
