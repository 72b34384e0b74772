-- What the code does to an open file, step by step.
use Rattle.std.specs.Prelude.{◌≡◌, ℕ, ◌-◌, ◌/◌, ◌<◌, ◌≤◌, nat_eq, true, if◌then◌else◌, List, [], ◌∷◌, ◌++◌, map, refl}
use Rattle.std.proofs.Common.{sym, ap, ◌∙◌, append_assoc, arith}
use Rattle.std.proofs.lemmas.Bool.{eq-eqb, lt-ltb, le-ltb}
use Rattle.std.proofs.lemmas.List.{append-nil}
use Rattle.blk_base.specs.Block.{filled}
use Rattle.byte_fields.specs.Fields.{zeros}
use Rattle.minix_layout.specs.declared.inode.Inode.{Inode}
use Rattle.tree_model.specs.Calls.{patched}
use Rattle.volume_ops.specs.declared.found.Mapped.{Mapped}
use Rattle.volume_ops.specs.Places.{table_block}
use Rattle.volume_model.specs.Edits.{Edit, edited, edited_all, put_inode}
use Rattle.volume_model.specs.Holes.{with_zone}
use Rattle.volume_model.specs.MapBlock.{OpenInode, TakenZones, own_of, map_block}
use Rattle.volume_model.specs.Touched.{Page, Touched, and_then}
use Rattle.volume_model.specs.Volume.{Place, block, indirect, double, inner, zone_in}
use Rattle.volume_in_use.proofs.NowLemmas.Notes.{and_assoc}
use Rattle.volume_in_use.specs.now.Noted.{Noted, with_block, with_page, with_node}
use Rattle.volume_steps.specs.Now.{VolumeNow, tells_blocks, tells_writes}
use Rattle.volume_steps.specs.Zones.{take_zones, zone_bit}
use Rattle.minix_tables.specs.zones.Zones.{Zones}
use Rattle.volume_in_use.specs.declared.bytes.open.OpenFile.{OpenFile}
use Rattle.volume_in_use.specs.bytes.code.Work.{Work, held, single_told, outer_told, second_told, numbers_told, map_work, block_work}
use Rattle.volume_model.specs.Moves.{inode_written, inode_told}

-- ---- zones of numbers

module _ (own : Place → ℕ) (t : TakenZones) (index : ℕ) (old : Touched) where
  pub single_noted : (zone : ℕ) (new : Touched) → 7 ≤ index → index < 519 → zone ≡ own indirect → new ≡ and_then old (tells_blocks (if nat_eq zone 0 then t.outer ∷ t.outer ∷ [] else zone ∷ [])) →
      new ≡ and_then old (tells_blocks (numbers_told own t index))
  unfolding single_told
  single_noted zone new low high is e =
      let by : numbers_told own t index ≡ single_told own t = rw (le-ltb index 7 low, lt-ltb index 519 high) refl in
      e ∙ (ap (λ (z : ℕ). and_then old (tells_blocks (if nat_eq z 0 then t.outer ∷ t.outer ∷ [] else z ∷ []))) is ∙ ap (λ (bs : List ℕ). and_then old (tells_blocks bs)) (sym by))

  pub twice_noted : (outer second pointer_block : ℕ) (mid new : Touched) → 519 ≤ index → outer ≡ own double → second ≡ own (inner ((index - 519) / 512)) → pointer_block ≡ (if nat_eq outer 0 then t.outer else outer) →
      mid ≡ and_then old (tells_blocks (if nat_eq outer 0 then t.outer ∷ [] else [])) → new ≡ and_then mid (tells_blocks (if nat_eq second 0 then t.second ∷ pointer_block ∷ t.second ∷ [] else second ∷ [])) →
      new ≡ and_then old (tells_blocks (numbers_told own t index))
  unfolding outer_told second_told
  twice_noted outer second pointer_block mid new low is also held_is e f =
      let j = (index - 519) / 512 in
      let by : numbers_told own t index ≡ outer_told own t ++ second_told own t j = rw (le-ltb index 7 (omega arith), le-ltb index 519 low) refl in
      let kept : pointer_block ≡ held own t double = held_is ∙ ap (λ (z : ℕ). if nat_eq z 0 then t.outer else z) is in
      let first : mid ≡ and_then old (tells_blocks (outer_told own t)) = e ∙ ap (λ (z : ℕ). and_then old (tells_blocks (if nat_eq z 0 then t.outer ∷ [] else []))) is in
      let last : new ≡ and_then mid (tells_blocks (second_told own t j)) =
      f ∙ (ap (λ (z : ℕ). and_then mid (tells_blocks (if nat_eq z 0 then t.second ∷ pointer_block ∷ t.second ∷ [] else z ∷ []))) also
      ∙ ap (λ (k : ℕ). and_then mid (tells_blocks (if nat_eq (own (inner j)) 0 then t.second ∷ k ∷ t.second ∷ [] else own (inner j) ∷ []))) kept) in
      last
      ∙ (ap (λ (m : Touched). and_then m (tells_blocks (second_told own t j))) first
      ∙ (and_assoc old (tells_blocks (outer_told own t)) (tells_blocks (second_told own t j)) ∙ ap (λ (bs : List ℕ). and_then old (tells_blocks bs)) (sym by)))

-- ---- a hole gets a zone

-- what is noted of it, one after the other
pub mapped_noted : (start bits : Touched) (one two three four five : Noted) (birth : ℕ) (numbers told : List ℕ) (page : Page) → one.touched ≡ and_then start bits →
    two.touched ≡ and_then one.touched (tells_blocks numbers) → three.touched ≡ and_then two.touched (tells_blocks told) → four ≡ with_page three page → five ≡ with_node four birth →
    five.touched ≡ and_then start (and_then bits (record { blocks = numbers ++ told; freed = []; revoked = []; pages = page ∷ []; dropped = []; nodes = birth ∷ [] }))
mapped_noted start bits one two three four five birth numbers told page d e f g h =
    let at_three : three.touched ≡ and_then (and_then (and_then start bits) (tells_blocks numbers)) (tells_blocks told) =
    f ∙ ap (λ (t : Touched). and_then t (tells_blocks told)) (e ∙ ap (λ (t : Touched). and_then t (tells_blocks numbers)) d) in
    let at_four : four.touched ≡ (λ (t : Touched). record t { pages = t.pages ++ page ∷ [] }) (and_then (and_then (and_then start bits) (tells_blocks numbers)) (tells_blocks told)) =
    ap (λ (n : Noted). n.touched) g ∙ ap (λ (t : Touched). record t { pages = t.pages ++ page ∷ [] }) at_three in
    ap (λ (n : Noted). n.touched) h ∙ (ap (λ (t : Touched). record t { nodes = t.nodes ++ birth ∷ [] }) at_four ∙ simp (append_assoc, append-nil))

-- the writes are those of the definition
pub mapped_as : (content : List ℕ) (index : ℕ) (v : VolumeNow) (f : OpenFile) (start after : Touched) (t : TakenZones) (zones : Zones) (marked grown last : List (List ℕ)) (before inode : Inode) (listed : List Mapped) →
    zones ≡ (take_zones (own_of (record { blocks = v.contents.blocks; inode = f.inode })) index v.zones).zones →
    t ≡ (take_zones (own_of (record { blocks = v.contents.blocks; inode = f.inode })) index v.zones).taken →
    marked ≡ edited_all v.geometry v.contents.blocks (map (zone_bit v.geometry true) (take_zones (own_of (record { blocks = v.contents.blocks; inode = f.inode })) index v.zones).numbers) →
    record { blocks = grown; inode = inode } ≡ map_block v.geometry t content (record { blocks = marked; inode = f.inode }) index →
    before ≡ f.inode → last ≡ inode_written v.geometry grown f.number before inode → listed ≡ with_zone f.zones index t.data_zone →
    after ≡ and_then start (and_then (tells_writes v.geometry (map (zone_bit v.geometry true) (take_zones (own_of (record { blocks = v.contents.blocks; inode = f.inode })) index v.zones).numbers)) (record {
      blocks = numbers_told (own_of (record { blocks = marked; inode = f.inode })) t index ++ inode_told v.geometry f.number before inode;
      freed = [];
      revoked = [];
      pages = record { birth = f.birth; index = index; zone = t.data_zone } ∷ [];
      dropped = [];
      nodes = f.birth ∷ [];
    })) →
    ◌≡◌ {A = Work} (record {
      volume = record { geometry = v.geometry; contents = record { blocks = last; nodes = v.contents.nodes }; zones = zones };
      file = record { birth = f.birth; number = f.number; inode = inode; zones = listed };
      touched = after;
    }) (map_work content index (record { volume = v; file = f; touched = start }))
unfolding map_work
mapped_as content index v f start after t zones marked grown last before inode listed ez et em eg eb el ed ea =
    let g = v.geometry in
    let for = take_zones (own_of (record { blocks = v.contents.blocks; inode = f.inode })) index v.zones in
    let es : List Edit = map (zone_bit g true) for.numbers in
    let u : OpenInode = map_block g for.taken content (record { blocks = edited_all g v.contents.blocks es; inode = f.inode }) index in
    let eu : ◌≡◌ {A = OpenInode} (record { blocks = grown; inode = inode }) u = eg ∙ (λ k. map_block g (et k) content (record { blocks = em k; inode = f.inode }) index) in
    let written : last ≡ inode_written g u.blocks f.number f.inode u.inode = el ∙ (λ k. inode_written g (eu k).blocks f.number (eb k) (eu k).inode) in
    let all : listed ≡ with_zone f.zones index for.taken.data_zone = ed ∙ ap (λ (t : TakenZones). with_zone f.zones index t.data_zone) et in
    let told : after ≡ and_then start (and_then (tells_writes g es) (record {
      blocks = numbers_told (own_of (record { blocks = edited_all g v.contents.blocks es; inode = f.inode })) for.taken index ++ inode_told g f.number f.inode u.inode;
      freed = [];
      revoked = [];
      pages = record { birth = f.birth; index = index; zone = for.taken.data_zone } ∷ [];
      dropped = [];
      nodes = f.birth ∷ [];
    })) = ea ∙ (λ k. and_then start (and_then (tells_writes g es) (record {
      blocks = numbers_told (own_of (record { blocks = em k; inode = f.inode })) (et k) index ++ inode_told g f.number (eb k) (eu k).inode;
      freed = [];
      revoked = [];
      pages = record { birth = f.birth; index = index; zone = (et k).data_zone } ∷ [];
      dropped = [];
      nodes = f.birth ∷ [];
    }))) in
    λ k. record {
      volume = record { geometry = g; contents = record { blocks = written k; nodes = v.contents.nodes }; zones = ez k };
      file = record { birth = f.birth; number = f.number; inode = (eu k).inode; zones = all k };
      touched = told k;
    }

-- ---- either

no_bytes : filled 0 ≡ zeros 1024
unfolding filled zeros
no_bytes = refl

pub hole_written : (off : ℕ) (bytes : List ℕ) (index zone : ℕ) (w last : Work) (old content : List ℕ) → zone ≡ zone_in w.volume.contents.blocks w.file.inode (block index) → zone ≡ 0 → old ≡ filled 0 → content ≡ patched index off bytes old →
    last ≡ map_work content index w → last ≡ block_work off bytes index w
hole_written off bytes index zone w last old content is none o e f =
    let hole : nat_eq (zone_in w.volume.contents.blocks w.file.inode (block index)) 0 ≡ true = eq-eqb _ _ (sym is ∙ none) in
    rw hole (f ∙ ap (λ (body : List ℕ). map_work body index w) (e ∙ ap (patched index off bytes) (o ∙ no_bytes)))
