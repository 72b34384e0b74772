-- What is read of a superblock that was written, and when it is refused.
use Rattle.std.specs.Prelude.{◌≡◌, ◌≢◌, ◌<◌, ◌^◌, ◌==◌, Bool, true, false, not, nat_lt, if◌then◌else◌, ◌↔◌, ◌⊎◌, ℕ, IfOk, IsFalse, List, Result, Ok, Err, refl}
use Rattle.std.proofs.Common.{sym, ap, ◌∙◌, inl, inr, lit<}
use Rattle.std.proofs.lemmas.Bool.{and_parts, and_from, ltb-true, leb-true, lt-ltb, le-leb, eqb-true, eqb-false, eq-eqb, ne_eqb, or_left, or_right, or_from, or_parts, or_cases}
use Rattle.byte_fields.specs.Fields.{zeros, number_at, HaveFields}
use Rattle.byte_fields.specs.Fields.Order.{little}
use Rattle.byte_fields.specs.laws.ReadLaws.{fields_read, length-zeros}
use Rattle.minix_layout.specs.declared.division.Geometry.{Geometry}
use Rattle.minix_layout.specs.declared.fault.LayoutFault.{LayoutFault}
use Rattle.minix_layout.specs.declared.fault.LayoutFault.TheVariants.{BadMagic, BadGeometry}
use Rattle.minix_layout.specs.Geometry.{FitGeometry, IsSound, is_consistent}
use Rattle.minix_layout.specs.Super.{super_fields, super_block, magic_of, magic_for, is_magic, width_by, geometry_of, is_divided, super_of}
use Rattle.minix_layout.specs.Widths.{IsWidth, of_14, of_30}

-- the facts of a sound geometry pass the test
pub consistent_from : (g : Geometry) → IsSound g → is_consistent g ≡ true
consistent_from g s =
    and_from _ _ (lt-ltb _ _ s.some_inode)
    (and_from _ _ (lt-ltb _ _ s.some_zone)
    (and_from _ _ (le-leb _ _ s.tables_below)
    (and_from _ _ (lt-ltb _ _ s.inode_bits) (lt-ltb _ _ s.zone_bits))))

-- and what passes the test is sound
pub sound_from : (g : Geometry) → FitGeometry g → IsWidth g.width → is_consistent g ≡ true → IsSound g
sound_from g fits width passes =
    let a = and_parts (nat_lt 0 g.inodes) _ passes in
    let b = and_parts (nat_lt g.first g.zones) _ a.1 in
    let d = and_parts _ _ b.1 in
    let e = and_parts _ _ d.1 in
    record {
      fits = fits;
      width = width;
      some_inode = ltb-true _ _ a.0;
      some_zone = ltb-true _ _ b.0;
      tables_below = leb-true _ _ d.0;
      inode_bits = ltb-true _ _ e.0;
      zone_bits = ltb-true _ _ e.1;
    }

super_has : (g : Geometry) → HaveFields little (super_block g) (super_fields g)
unfolding super_block
super_has g = fields_read little 1024 (super_fields g) (zeros 1024) refl (length-zeros 1024)

-- a record of the numbers of g is g
same_record : (g : Geometry) {width : ℕ} → g.width ≡ width → record { inodes = g.inodes; zones = g.zones; imap = g.imap; zmap = g.zmap; first = g.first; width = width } ≡ g
same_record g same =
    ap (λ (w : ℕ). let made : Geometry = record { inodes = g.inodes; zones = g.zones; imap = g.imap; zmap = g.zmap; first = g.first; width = w } in made) (sym same)

-- the magic number tells the width
width_is : (width : ℕ) → IsWidth width → width_by (magic_for width) ≡ width
width_is width of_14 = refl
width_is width of_30 = refl

magic_is : (width : ℕ) → is_magic (magic_for width) ≡ true
magic_is width = by (width == 30)
  where
    by : (b : Bool) → is_magic (if b then 0x138F else 0x137F) ≡ true
    by true = refl
    by false = refl

magic_fits : (width : ℕ) → magic_for width < 256 ^ 2
magic_fits width = by (width == 30)
  where
    by : (b : Bool) → (if b then 0x138F else 0x137F) < 256 ^ 2
    by true = lit< tt
    by false = lit< tt

-- there are two
some_width : (magic : ℕ) → IsWidth (width_by magic)
some_width magic = by (magic == 0x138F)
  where
    by : (b : Bool) → IsWidth (if b then 30 else 14)
    by true = of_30
    by false = of_14

-- the numbers that were written are read
same_geometry : (g : Geometry) → FitGeometry g → IsWidth g.width → geometry_of (super_block g) ≡ g
same_geometry g fits width =
    let have = super_has g in
    let inodes : number_at little 2 0 (super_block g) ≡ g.inodes = have.0 fits.inodes in
    let zones : number_at little 2 2 (super_block g) ≡ g.zones = have.1.0 fits.zones in
    let imap : number_at little 2 4 (super_block g) ≡ g.imap = have.1.1.0 fits.imap in
    let zmap : number_at little 2 6 (super_block g) ≡ g.zmap = have.1.1.1.0 fits.zmap in
    let first : number_at little 2 8 (super_block g) ≡ g.first = have.1.1.1.1.0 fits.first in
    let magic : number_at little 2 16 (super_block g) ≡ magic_for g.width = have.1.1.1.1.1.1.1.0 (magic_fits g.width) in
    rw (inodes, zones, imap, zmap, first, magic) (same_record g (sym (width_is g.width width)))

-- what a reader says, by its two tests
abbrev said : Bool → Bool → Geometry → Result Geometry LayoutFault
said right divided g = if not right then Err BadMagic else if not divided then Err BadGeometry else Ok g

-- a superblock of a consistent geometry is read
read_from : (b : List ℕ) (g : Geometry) → is_magic (magic_of b) ≡ true → number_at little 2 10 b ≡ 0 → geometry_of b ≡ g → is_consistent g ≡ true → super_of b ≡ Ok g
unfolding super_of
read_from b g magic log same consistent =
    let divided : is_divided b ≡ true = and_from _ _ (eq-eqb _ _ log) (ap is_consistent same ∙ consistent) in
    ap (λ (m : Bool). said m (is_divided b) (geometry_of b)) magic
    ∙ ap (λ (d : Bool). said true d (geometry_of b)) divided
    ∙ ap (λ (q : Geometry). said true true q) same

-- what is written of a sound geometry is read back as that geometry
pub super_read : (g : Geometry) → IsSound g → super_of (super_block g) ≡ Ok g
super_read g s =
    let have = super_has g in
    let log : number_at little 2 10 (super_block g) ≡ 0 = have.1.1.1.1.1.0 (lit< tt) in
    let magic : number_at little 2 16 (super_block g) ≡ magic_for g.width = have.1.1.1.1.1.1.1.0 (magic_fits g.width) in
    read_from (super_block g) g (ap is_magic magic ∙ magic_is g.width) log (same_geometry g s.fits s.width) (consistent_from g s)

said_sound : (right divided : Bool) (g : Geometry) → (divided ≡ true → FitGeometry g → IsSound g) → IfOk (said right divided g) (λ q. FitGeometry q) → IfOk (said right divided g) (λ q. IsSound q)
said_sound false divided g sound fits = tt
said_sound true false g sound fits = tt
said_sound true true g sound fits = sound refl fits

-- what is read is sound, where its numbers fit
pub super_sound : (b : List ℕ) → IfOk (super_of b) (λ g. FitGeometry g) → IfOk (super_of b) (λ g. IsSound g)
unfolding super_of
super_sound b fits =
    said_sound (is_magic (magic_of b)) (is_divided b) (geometry_of b)
    (λ divided fit. sound_from (geometry_of b) fit (some_width (magic_of b)) (and_parts (number_at little 2 10 b == 0) (is_consistent (geometry_of b)) divided).1)
    fits

said_magic : (right divided : Bool) (g : Geometry) → said right divided g ≡ Err BadMagic → right ≡ false
said_magic false divided g h = refl
said_magic true false g h = absurd (cc)
said_magic true true g h = absurd (cc)

said_geometry : (right divided : Bool) (g : Geometry) → said right divided g ≡ Err BadGeometry → (right ≡ true) × (divided ≡ false)
said_geometry false divided g h = absurd (cc)
said_geometry true false g h = (refl, refl)
said_geometry true true g h = absurd (cc)

-- no Minix V1 file system, by the magic number
pub bad_magic : (b : List ℕ) → (super_of b ≡ Err BadMagic) ↔ ((magic_of b ≢ 0x138F) × (magic_of b ≢ 0x137F))
unfolding super_of
bad_magic b = (
  λ h.
      let tests = or_parts (magic_of b == 0x138F) (magic_of b == 0x137F) (said_magic (is_magic (magic_of b)) (is_divided b) (geometry_of b) h) in
      (eqb-false _ _ tests.0, eqb-false _ _ tests.1),
  λ h.
      let wide = ne_eqb (magic_of b) 0x138F h.0 in
      let right = ne_eqb (magic_of b) 0x137F h.1 in
      rw (wide, right) refl,
)

-- the numbers do not agree
pub bad_geometry : (b : List ℕ) → (super_of b ≡ Err BadGeometry) ↔ (((magic_of b ≡ 0x137F) ⊎ (magic_of b ≡ 0x138F)) × IsFalse (is_divided b))
unfolding super_of
bad_geometry b = (
  λ h.
      let tests = said_geometry (is_magic (magic_of b)) (is_divided b) (geometry_of b) h in
      (elim (or_cases (magic_of b == 0x138F) (magic_of b == 0x137F) tests.0) [ inl e ↦ inr (eqb-true _ _ e) | inr e ↦ inl (eqb-true _ _ e) ], tests.1),
  λ h.
      let divided : is_divided b ≡ false = h.1 in
      let right : is_magic (magic_of b) ≡ true = elim h.0 [
        | inl e ↦ or_right (magic_of b == 0x138F) (magic_of b == 0x137F) (eq-eqb _ _ e)
        | inr e ↦ or_left (magic_of b == 0x138F) (magic_of b == 0x137F) (eq-eqb _ _ e)
      ] in
      ap (λ (d : Bool). said (is_magic (magic_of b)) d (geometry_of b)) divided ∙ ap (λ (m : Bool). said m false (geometry_of b)) right,
)
