use Rattle.std.proofs.Common.{ap, ◌∙◌, ◌++◌, sym}
use Rattle.std.specs.Int.{div_ceil}
use Rattle.std.specs.Option.{option_copied}
use Rattle.volume_names.proofs.Changed.{volume_of}
use Rattle.volume_names.proofs.RemovalsLemmas.Metadata.{file_metadata, directory_metadata}
use Rattle.volume_names.proofs.removals.gone.metadata_of.Goals as goal

pub returns-in-File : goal.returns-in-File
returns-in-File c = λ p at.
    let v = c.v.inside in
    file_metadata c.args.v.now (volume_of v.geometry v.blocks v.nodes.entries v.zones) c.args.birth c.in-Some.node.now p c.in-File.field-0 c.in_ok-numbers.numbers.items c.v.view_is
    (sym c.get.ensures.value ∙ ap option_copied c.in-Some.is) at c.in-File.is c.in_ok-numbers.ensures

pub returns-in_ok-extend_from_slice-in-Directory : goal.returns-in_ok-extend_from_slice-in-Directory
returns-in_ok-extend_from_slice-in-Directory c = λ p at.
    let v = c.v.inside in
    directory_metadata c.args.v.now (volume_of v.geometry v.blocks v.nodes.entries v.zones) c.args.birth c.in-Some.node.now p c.in-Directory.directory c.in_ok-numbers.numbers.items c.in_ok-zones-in-Directory.zones.items
    c.extend_from_slice.new.self.items c.div_ceil-count.result c.len.result c.v.view_is (sym c.get.ensures.value ∙ ap option_copied c.in-Some.is) at c.in-Directory.is c.in_ok-numbers.ensures c.in_ok-zones-in-Directory.ensures
    (c.div_ceil-count.ensures ∙ ap (div_ceil c.len.result) c.slots_a_block-per.ensures) c.len.ensures (c.in_ok-extend_from_slice-in-Directory.ensures.items ∙ ap (λ numbers. c.in_ok-zones-in-Directory.zones.items ++ numbers) c.deref.ensures.value)
