-- A widened image: how it is divided, that it is mounted, and its tree.
use Rattle.std.specs.Prelude.{◌≡◌, ℕ, zero, suc, ◌+◌, ◌<◌, ◌≤◌, ◌==◌, ◌&&◌, nat_lt, nat_le, not, Bool, true, false, if◌then◌else◌, List, [], ◌∷◌, length, take, slice_set, Result, Ok, Err, IfOk, refl}
use Rattle.std.proofs.Common.{sym, ap, subst, ◌∙◌, inl, ⊎_elim, arith}
use Rattle.std.proofs.lemmas.Bool.{cases_lt, and_parts, ltb-true, leb-true}
use Rattle.std.proofs.lemmas.List.{get_or-take, length-take}
use Rattle.blk_base.specs.Block.{filled}
use Rattle.byte_fields.specs.Fields.{number_at, put}
use Rattle.byte_fields.specs.Fields.Order.{little}
use Rattle.byte_fields.specs.laws.ReadLaws.{number_at-put_same, number_at-put_other}
use Rattle.minix_layout.specs.declared.division.Geometry.{Geometry}
use Rattle.minix_layout.specs.declared.fault.LayoutFault.{LayoutFault}
use Rattle.minix_layout.specs.declared.fault.LayoutFault.TheVariants.{BadMagic, BadGeometry}
use Rattle.minix_layout.specs.Geometry.{FitGeometry, IsSound, is_consistent}
use Rattle.minix_layout.specs.Words.{inode_blocks}
use Rattle.minix_layout.specs.laws.SuperLaws.{super_sound}
use Rattle.minix_layout.specs.Super.{super_of, magic_of, is_magic, is_divided, geometry_of, width_by}
use Rattle.volume_ops.specs.Volume.{disk_of}
use Rattle.volume_ops.specs.laws.ReadsLaws.{err-ok, same_Ok}
use Rattle.volume_model.specs.Edits.{Edit, touched_by, body_after, edited, edited_all}
use Rattle.volume_model.specs.laws.Edits.{length-edited}
use Rattle.widening.specs.Widened.{wide}
use Rattle.volume_model.proofs.Bytes.{AreBytes, number_fits}

-- ---- the superblock with another magic number

abbrev with_magic : List ℕ → List ℕ
with_magic b = put little 2 16 0x138F b

same_geometry : {a b c d e f k l m n o p : ℕ} → a ≡ k → b ≡ l → c ≡ m → d ≡ n → e ≡ o → f ≡ p →
    ◌≡◌ {A = Geometry} (record { inodes = a; zones = b; imap = c; zmap = d; first = e; width = f }) (record { inodes = k; zones = l; imap = m; zmap = n; first = o; width = p })
same_geometry x y z u v w = rw (x, y, z, u, v, w) refl

module _ (b : List ℕ) (size : length b ≡ 1024) where
  magic_there : magic_of (with_magic b) ≡ 0x138F
  magic_there = number_at-put_same little 2 16 0x138F b (omega (arith, size)) (omega arith)

  before_magic : (at : ℕ) → at + 2 ≤ 16 → number_at little 2 at (with_magic b) ≡ number_at little 2 at b
  before_magic at low = number_at-put_other little 2 at 2 16 0x138F b (omega (arith, size, low)) (omega (arith, size)) (inl low)

  wide_geometry : geometry_of (with_magic b) ≡ wide (geometry_of b)
  wide_geometry =
      same_geometry (before_magic 0 (omega arith)) (before_magic 2 (omega arith)) (before_magic 4 (omega arith)) (before_magic 6 (omega arith)) (before_magic 8 (omega arith)) (ap width_by magic_there)

  still_divided : is_divided (with_magic b) ≡ is_divided b
  still_divided = ap (λ n. (n == 0) && is_consistent (geometry_of (with_magic b))) (before_magic 10 (omega arith)) ∙ ap (λ g. (number_at little 2 10 b == 0) && is_consistent g) wide_geometry

super_parts_by : (b : List ℕ) (g : Geometry) (magic fine : Bool) → is_divided b ≡ fine →
    ◌≡◌ {A = Result Geometry LayoutFault} (if not magic then Err BadMagic else if not fine then Err BadGeometry else Ok (geometry_of b)) (Ok g) → (is_divided b ≡ true) × (geometry_of b ≡ g)
super_parts_by b g false fine is e = absurd (err-ok _ g e)
super_parts_by b g true false is e = absurd (err-ok _ g e)
super_parts_by b g true true is e = (is, same_Ok (geometry_of b) g e)

super_parts : (b : List ℕ) (g : Geometry) → super_of b ≡ Ok g → (is_divided b ≡ true) × (geometry_of b ≡ g)
unfolding super_of
super_parts b g e = super_parts_by b g (is_magic (magic_of b)) (is_divided b) refl e

pub wide_super : (b : List ℕ) (g : Geometry) → length b ≡ 1024 → super_of b ≡ Ok g → super_of (with_magic b) ≡ Ok (wide g)
unfolding super_of
wide_super b g size e =
    let x = super_parts b g e in
    let c = with_magic b in
    ap (λ t. if not t then Err BadMagic else if not (is_divided c) then Err BadGeometry else Ok (geometry_of c)) (ap is_magic (magic_there b size))
    ∙ (ap (λ t. if not t then Err BadGeometry else Ok (geometry_of c)) (still_divided b size ∙ x.0)
    ∙ ap Ok (wide_geometry b size ∙ ap wide x.1))

-- ---- a volume of bytes is sound

sound_by : (b : List ℕ) (g : Geometry) → AreBytes b → super_of b ≡ Ok g → IsSound g
sound_by b g bytes e =
    let fits : FitGeometry (geometry_of b) = record {
      inodes = number_fits 2 0 b bytes;
      zones = number_fits 2 2 b bytes;
      imap = number_fits 2 4 b bytes;
      zmap = number_fits 2 6 b bytes;
      first = number_fits 2 8 b bytes;
    } in
    let fit : FitGeometry g = subst FitGeometry (super_parts b g e).1 fits in
    subst (λ (r : Result Geometry LayoutFault). IfOk r (λ h. IsSound h)) e (super_sound b (subst (λ (r : Result Geometry LayoutFault). IfOk r (λ h. FitGeometry h)) (sym e) fit))

-- it has more than two blocks
pub some_zones : (b : List ℕ) (g : Geometry) → super_of b ≡ Ok g → 1 < g.zones
some_zones b g e =
    let x = super_parts b g e in
    let c : is_consistent g ≡ true = ap is_consistent (sym x.1) ∙ (and_parts (number_at little 2 10 b == 0) (is_consistent (geometry_of b)) x.0).1 in
    let rest = (and_parts (nat_lt 0 g.inodes) _ c).1 in
    let zone = ltb-true g.first g.zones (and_parts (nat_lt g.first g.zones) _ rest).0 in
    let low = leb-true (2 + g.imap + g.zmap + inode_blocks g.inodes) g.first (and_parts (nat_le (2 + g.imap + g.zmap + inode_blocks g.inodes) g.first) _ (and_parts (nat_lt g.first g.zones) _ rest).1).0 in
    omega (arith, zone, low)

-- by the superblock of the image, which is that of the volume
pub volume_sound : (image blocks : List (List ℕ)) (g : Geometry) → super_of (disk_of image 1) ≡ Ok g → blocks ≡ take g.zones image → ((k : ℕ) → AreBytes (disk_of blocks k)) → IsSound g
volume_sound image blocks g e front bytes =
    let low = some_zones (disk_of image 1) g e in
    let same : disk_of blocks 1 ≡ disk_of image 1 = ap (λ i. disk_of i 1) front ∙ get_or-take g.zones image 1 (filled 0) low in
    sound_by (disk_of image 1) g (subst (λ b. AreBytes b) same (bytes 1)) e

-- ---- the volume in an image

set_out : {X : Type 0} (xs : List X) (k : ℕ) (x y : X) → length xs ≤ k → slice_set xs k x ≡ slice_set xs k y
set_out [] k x y past = refl
set_out (z ∷ xs) zero x y past = absurd (omega (arith, past))
set_out (z ∷ xs) (suc k) x y past = ap (λ zs. z ∷ zs) (set_out xs k x y (omega (arith, past)))

take_set : {X : Type 0} (n : ℕ) (xs : List X) (k : ℕ) (x : X) → take n (slice_set xs k x) ≡ slice_set (take n xs) k x
take_set zero xs k x = refl
take_set (suc n) [] k x = refl
take_set (suc n) (y ∷ xs) zero x = refl
take_set (suc n) (y ∷ xs) (suc k) x = ap (λ zs. y ∷ zs) (take_set n xs k x)

module _ (g : Geometry) where
  take_edited : (n : ℕ) (blocks : List (List ℕ)) (x : Edit) → take n (edited g blocks x) ≡ edited g (take n blocks) x
  unfolding edited
  take_edited n blocks x =
      take_set n blocks (touched_by g x) (body_after g x (disk_of blocks (touched_by g x)))
      ∙ ⊎_elim
      (λ low. ap (λ body. slice_set (take n blocks) (touched_by g x) (body_after g x body)) (sym (get_or-take n blocks (touched_by g x) (filled 0) low)))
      (λ past. set_out (take n blocks) (touched_by g x) _ _ (let part = length-take n blocks in omega (arith, part, past)))
      (cases_lt (touched_by g x) n)

  -- writes to an image, seen in its volume
  pub take_all : (n : ℕ) (xs : List Edit) (blocks : List (List ℕ)) → take n (edited_all g blocks xs) ≡ edited_all g (take n blocks) xs
  take_all n [] blocks = refl
  take_all n (x ∷ xs) blocks = take_all n xs (edited g blocks x) ∙ ap (λ b. edited_all g b xs) (take_edited n blocks x)

  pub length-edited_all : (xs : List Edit) (blocks : List (List ℕ)) → length (edited_all g blocks xs) ≡ length blocks
  length-edited_all [] blocks = refl
  length-edited_all (x ∷ xs) blocks = length-edited_all xs (edited g blocks x) ∙ length-edited g blocks x
