-- A host that is opened over a plain volume has what it keeps; and what the metadata of a volume of the root alone is.
use Rattle.std.specs.Prelude.{◌≡◌, ◌≢◌, ◌*◌, ◌<◌, ℕ, true, List, [], length, Some}
use Rattle.std.specs.Ordering.{nat_cmp, is_eq}
use Rattle.std.proofs.Common.{sym, ap, subst, ◌∙◌, inl, inr, arith}
use Rattle.std.proofs.lemmas.Bool.{cases_Bool}
use Rattle.std.proofs.lemmas.Option.{none-some, same_Some}
use Rattle.blk_base.specs.Members.{In}
use Rattle.minix_layout.specs.declared.division.Geometry.{Geometry}
use Rattle.minix_layout.specs.laws.Places.{IsForm, narrow, wide, form_is}
use Rattle.minix_layout.specs.Widths.{slot_size, slots_a_block}
use Rattle.minix_host.specs.ByteCalls.{ByteCall}
use Rattle.tree_model.specs.declared.node.Node.{Node}
use Rattle.tree_model.specs.declared.node.Node.TheVariants as nodes
use Rattle.tree_model.specs.Maps.{at_number}
use Rattle.tree_model.specs.laws.MapsLaws.{number_same}
use Rattle.volume_model.specs.declared.placed.Placed.{Placed}
use Rattle.volume_model.specs.declared.placed.Part.TheVariants as parts
use Rattle.volume_model.specs.declared.placed.DirectoryPart.{DirectoryPart}
use Rattle.volume_model.specs.Touched.{IsMeta, of_tables, of_numbers, of_directory}
use Rattle.volume_model.specs.Trees.{node_now, directory_from}
use Rattle.volume_model.specs.Volume.{Place, block, indirect, double, inner, zone_in, IsOfNumbers}
use Rattle.volume_model.specs.Ways.{OnWay}
use Rattle.volume_model.proofs.Nodes.{tree_directory}
use Rattle.volume_steps.specs.Now.{VolumeNow, tree_of_now}
use Rattle.volume_steps.specs.Plain.{IsPlainNow}
use Rattle.volume_steps.proofs.GoneFiles.{in_from}
use Rattle.volume_steps.proofs.TreeSteps.{tree_at}
use Rattle.journal_ring.specs.LogRing.{LogRing}
use Rattle.crash_laws.specs.LegalHistory.{root_alone}
use Rattle.crash_laws.specs.Rules.{BaseImage}
use Rattle.host_machine.specs.laws.Contract.{session}
use Rattle.host_machine.specs.runs.Opened.{IsOpened}
use Rattle.host_machine.specs.runs.Runs.{FitsWords}
use Rattle.minix_host.specs.Runs.{IsOpenedVolume, HasEmptyJournal, opened_host}
use Rattle.minix_host.specs.Sessions.{Opening, over, HasRoot, Stands}
use Rattle.minix_host.specs.Volumes.{is_metadata}
use Rattle.minix_host.proofs.Metadata.{tested_meta}
use Rattle.minix_host.proofs.Roots.{first_zone}
use Rattle.minix_host.proofs.Standing.{root_part, meta_low, reserved_meta, stands_for}

only_root : (width birth : ℕ) (node : Node) → at_number (root_alone width) birth ≡ Some node → birth ≡ 0
only_root width birth node e = elim (cases_Bool (is_eq (nat_cmp birth 0))) [
  | inl same ↦ number_same birth 0 same
  | inr apart ↦ absurd (none-some node (rw apart at e))
]

-- two slots stand in the first block
first_block : (size per : ℕ) → IsForm size per → (index slots : ℕ) → per * index < slots → slots ≡ 2 → index ≡ 0
first_block size per narrow index slots low two = omega arith
first_block size per wide index slots low two = omega arith

no_way : (x : Place) → IsOfNumbers x → OnWay x 0 → ⊥
no_way indirect n w = (let low = w.0 in omega arith)
no_way double n w = (let low = w.0 in omega arith)
no_way (inner k) n w = (let low = w.0 in omega arith)
no_way (block i) n w = elim n [ ]

-- of a volume of the root alone, as it is when it is new
module _ (s : Opening) (v : VolumeNow) (o : IsPlainNow v) (geometry : v.geometry ≡ s.geometry) (root : HasRoot v s.root) (alone : tree_of_now v ≡ root_alone s.geometry.width) where
  birth_is : (n : ℕ) (p : Placed) → at_number v.contents.nodes n ≡ Some p → n ≡ 0
  birth_is n p at = only_root s.geometry.width n (node_now v.contents.blocks p) (ap (λ tree. at_number tree n) (sym alone) ∙ tree_at v.contents.blocks v.contents.nodes n p at)

  -- the root has two slots, so one block
  slots_are : (p : Placed) (d : DirectoryPart) → at_number v.contents.nodes 0 ≡ Some p → p.part ≡ parts.Directory d → length d.slots ≡ 2
  slots_are p d at is =
      let there : at_number (tree_of_now v) 0 ≡ Some (nodes.Directory (directory_from d)) = tree_directory v.contents.blocks v.contents.nodes 0 p d at is in
      let same = same_Some (nodes.Directory (directory_from d)) (nodes.Directory (record { parent = 0; width = s.geometry.width; slots = 2; names = [] })) (sym there ∙ ap (λ tree. at_number tree 0) alone) in
      ap slots_in same
    where
      slots_in : Node → ℕ
      slots_in (nodes.Directory d) = d.slots
      slots_in other = 0

  index_is : (p : Placed) (at : at_number v.contents.nodes 0 ≡ Some p) (index : ℕ) → zone_in v.contents.blocks p.inode (block index) ≢ 0 → index ≡ 0
  index_is p at index some =
      let d = root_part v o p at in
      let low = (o.plain.slot_zones 0 p d.0 at d.1).no_more index some in
      first_block (slot_size v.geometry.width) (slots_a_block v.geometry.width) (form_is v.geometry.width) index (length d.0.slots) low (slots_are p d.0 at d.1)

  first_is : (p : Placed) (at : at_number v.contents.nodes 0 ≡ Some p) (index : ℕ) (b : ℕ) → index ≡ 0 → zone_in v.contents.blocks p.inode (block index) ≡ b → s.root ≡ b
  first_is p at index b zero_is is =
      let same = same_Some root.placed p (sym root.stands ∙ at) in
      sym root.zone_is
      ∙ (first_zone v.contents.blocks root.placed.inode
      ∙ (ap (λ (p : Placed). zone_in v.contents.blocks p.inode (block 0)) same
      ∙ (ap (λ i. zone_in v.contents.blocks p.inode (block i)) (sym zero_is) ∙ is)))

  -- Its metadata is what lies before the zones, and the root's zone.
  listed : (b : ℕ) → IsMeta v.geometry v.contents b → In b (over s).reserved
  listed b (of_tables low) = inr (in_from 0 s.geometry.first b (omega arith) (let same = ap (λ (g : Geometry). g.first) geometry in omega arith))
  listed b (of_numbers n p x at numbers is some) =
      let at_root = subst (λ n. at_number v.contents.nodes n ≡ Some p) (birth_is n p at) at in
      let way = o.plain.volume.1 n p at x (λ none. some (sym is ∙ none)) in
      absurd (no_way x numbers (subst (OnWay x) (index_is p at_root way.0 way.1) way.2))
  listed b (of_directory n p d i at part is some) =
      let at_root = subst (λ n. at_number v.contents.nodes n ≡ Some p) (birth_is n p at) at in
      inl (first_is p at_root i b (index_is p at_root i (λ none. some (sym is ∙ none))) is)

  pub alone_listed : (b : ℕ) → is_metadata v b ≡ true → In b (over s).reserved
  alone_listed b m = listed b (tested_meta v o b m)

module _ (s : Opening) (v : VolumeNow) (o : IsOpenedVolume s v) where
  pub opened_stands : Stands s v s.tree
  opened_stands = record { plain = o.plain; geometry = o.geometry; tree = o.tree; root = o.root; bytes = o.bytes }

  reserved_low : (b : ℕ) → In b (over s).reserved → b < s.geometry.zones
  reserved_low b i = meta_low s v s.tree opened_stands b (reserved_meta s v s.tree opened_stands b i)

  module _ (ring : LogRing) (limit : ℕ) (programs : List (List ByteCall)) (j : HasEmptyJournal s ring limit) where
    base_image : BaseImage (session (over s) (Stands s) [] (opened_host s v ring limit programs))
    base_image = record { start = j.start; reserved = reserved_low; freeable = λ b i. meta_low s v s.tree opened_stands b (o.freeable b i); plain = j.plain }

    pub is_opened : IsOpened (over s) (Stands s) v ring s.geometry.zones limit programs
    is_opened = record {
      stands = opened_stands;
      metadata = λ b m. (o.listed b m, sym (o.image b (meta_low s v s.tree opened_stands b m)));
      freeable = o.freeable;
      pages = λ f i z there. sym (o.image z ((stands_for s v s.tree opened_stands).page_low f i z there));
      base = base_image;
      log = j.log;
    }

    pub fits_words : FitsWords (over s) (opened_host s v ring limit programs)
    fits_words = record {
      blocks = (let fits = o.plain.in_use.sound.fits.zones in let same = ap (λ (g : Geometry). g.zones) o.geometry in omega arith);
      places = j.places;
      sequences = j.sequences;
    }
