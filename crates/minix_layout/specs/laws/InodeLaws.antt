-- What is read of an inode that was written.
use Rattle.std.specs.Prelude.{◌≡◌, ◌≢◌, ℕ, ◌*◌, ◌^◌, ◌<◌, List, [], ◌∷◌, map, length, slice_index, refl}
use Rattle.std.specs.List.{range_with_len}
use Rattle.std.proofs.Common.{sym, ap, ◌∙◌, arith}
use Rattle.std.proofs.Math.Path.{ap₂}
use Rattle.std.proofs.lemmas.List.{same_lists, get_or_default}
use Rattle.std.proofs.lemmas.List.FromFn.{length-map-range_with_len, get_or-map-range_with_len}
use Rattle.byte_fields.specs.Fields.{Apart, zeros, number_at, HaveFields, record_at, put_record}
use Rattle.byte_fields.specs.Fields.Order.{little}
use Rattle.byte_fields.specs.laws.ReadLaws.{fields_read, length-zeros, length-written, get_or-put_other, record_at-put_same, record_at-put_other}
use Rattle.minix_layout.specs.declared.inode.Inode.{Inode}
use Rattle.minix_layout.specs.Inodes.{zone_field, zone_fields, inode_fields, inode_bytes, zone_of, zones_of, inode_of, FitInode}

-- numbers that are read of their fields are those of the list
zones_same : (zs b ks : List ℕ) → HaveFields little b (map (zone_field zs) ks) → ((k : ℕ) → slice_index zs k < 2 ^ 16) → map (zone_of b) ks ≡ map (slice_index zs) ks
zones_same zs b [] have fit = refl
zones_same zs b (k ∷ ks) have fit = ap₂ (λ (x : ℕ) (xs : List ℕ). x ∷ xs) (have.0 (fit k)) (zones_same zs b ks have.1 fit)

-- a list of nine numbers is the list of its numbers
nine_numbers : (zs : List ℕ) → length zs ≡ 9 → map (slice_index zs) (range_with_len 0 9) ≡ zs
nine_numbers zs nine =
    let size = length-map-range_with_len (slice_index zs) 0 9 in
    same_lists _ _ (size ∙ sym nine)
    (λ k d h. get_or-map-range_with_len (slice_index zs) 0 9 k k d (omega arith) (omega arith) ∙ get_or_default zs k 0 d (omega arith))

inode_has : (i : Inode) → HaveFields little (inode_bytes i) (inode_fields i)
unfolding inode_bytes
inode_has i = fields_read little 32 (inode_fields i) (zeros 32) refl (length-zeros 32)

zones_read : (i : Inode) → FitInode i → HaveFields little (inode_bytes i) (zone_fields i.zones) → zones_of (inode_bytes i) ≡ i.zones
unfolding zones_of
zones_read i fit have = zones_same i.zones (inode_bytes i) (range_with_len 0 9) have fit.zones ∙ nine_numbers i.zones fit.nine

-- the bytes of an inode are read as that inode
pub inode_read : (i : Inode) → FitInode i → inode_of (inode_bytes i) ≡ i
inode_read i fit =
    let have = inode_has i in
    let mode : number_at little 2 0 (inode_bytes i) ≡ i.mode = have.0 fit.mode in
    let uid : number_at little 2 2 (inode_bytes i) ≡ i.uid = have.1.0 fit.uid in
    let size : number_at little 4 4 (inode_bytes i) ≡ i.size = have.1.1.0 fit.size in
    let time : number_at little 4 8 (inode_bytes i) ≡ i.time = have.1.1.1.0 fit.time in
    let gid : number_at little 1 12 (inode_bytes i) ≡ i.gid = have.1.1.1.1.0 fit.gid in
    let links : number_at little 1 13 (inode_bytes i) ≡ i.links = have.1.1.1.1.1.0 fit.links in
    let zones : zones_of (inode_bytes i) ≡ i.zones = zones_read i fit have.1.1.1.1.1.1 in
    rw (mode, uid, size, time, gid, links, zones) refl

pub length-inode_bytes : (i : Inode) → length (inode_bytes i) ≡ 32
unfolding inode_bytes
length-inode_bytes i = length-written little 32 (inode_fields i) (zeros 32) refl (length-zeros 32)

-- an inode that was written to a table is read there
pub inode_read_back : (b : List ℕ) (at : ℕ) (i : Inode) → length b ≡ 1024 → at < 32 → FitInode i → inode_of (record_at 32 at (put_record 32 at (inode_bytes i) b)) ≡ i
inode_read_back b at i size within fit =
    ap inode_of (record_at-put_same 32 at (inode_bytes i) b (length-inode_bytes i) (omega arith)) ∙ inode_read i fit

-- another inode of the table is read as before
pub other_inode : (b : List ℕ) (at other : ℕ) (i : Inode) → length b ≡ 1024 → at < 32 → other < 32 → at ≢ other → inode_of (record_at 32 other (put_record 32 at (inode_bytes i) b)) ≡ inode_of (record_at 32 other b)
other_inode b at other i size within other_within differ =
    ap inode_of (record_at-put_other 32 at other (inode_bytes i) b (length-inode_bytes i) (omega arith) (omega arith) differ)

-- a byte beside the inode is as it was
pub byte_beside_inode : (b : List ℕ) (at k : ℕ) (i : Inode) → length b ≡ 1024 → at < 32 → Apart 1 k 32 (32 * at) → slice_index (put_record 32 at (inode_bytes i) b) k ≡ slice_index b k
byte_beside_inode b at k i size within apart =
    let is = length-inode_bytes i in
    get_or-put_other (32 * at) (inode_bytes i) b k 0 (omega arith) (rw is apart)
