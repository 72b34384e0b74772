-- What a list of writes leaves, seen by anything that each of them keeps or sets.
use Rattle.std.specs.Prelude.{◌≡◌, ℕ, ◌<◌, ◌≤◌, ◌⊎◌, List, [], ◌∷◌, length, refl}
use Rattle.std.proofs.Common.{ap, ◌∙◌, inl, inr, ⊎_elim, arith}
use Rattle.blk_base.specs.Members.{In}
use Rattle.byte_fields.specs.Fields.Order.{little}
use Rattle.byte_fields.specs.laws.ReadLaws.{length-put}
use Rattle.minix_layout.specs.declared.division.Geometry.{Geometry}
use Rattle.minix_layout.specs.Geometry.{IsSound}
use Rattle.minix_layout.specs.Super.{magic_for}
use Rattle.volume_ops.specs.Volume.{disk_of}
use Rattle.volume_model.specs.Volume.{IsWhole}
use Rattle.volume_model.specs.Edits.{Edit, put_body, edited, edited_all}
use Rattle.volume_model.specs.Changes.{Changes}
use Rattle.volume_model.specs.laws.Changes.{table_below}
use Rattle.volume_model.specs.laws.Edits.{length-edited, edited_here, edited_elsewhere, inode_kept, whole_edited}
use Rattle.widening.specs.Widened.{magic_edit}

-- as many blocks as the volume has, each of 1,024 bytes
abbrev pub IsFull : Geometry → List (List ℕ) → Type 0
IsFull g blocks = IsWhole blocks × (length blocks ≡ g.zones)

module _ (g : Geometry) {A : Type 0} (view : List (List ℕ) → A) (a : A) (es : List Edit)
    (each : (x : Edit) → In x es → (b : List (List ℕ)) → IsFull g b → IsFull g (edited g b x) × ((view (edited g b x) ≡ view b) ⊎ (view (edited g b x) ≡ a))) where
  stays : (xs : List Edit) → ((x : Edit) → In x xs → In x es) → (b : List (List ℕ)) → IsFull g b → view b ≡ a → view (edited_all g b xs) ≡ a
  stays [] some b full is = is
  stays (x ∷ xs) some b full is =
      let e = each x (some x (inl refl)) b full in
      stays xs (λ y i. some y (inr i)) (edited g b x) e.0 (⊎_elim (λ same. same ∙ is) (λ new. new) e.1)

  comes : (xs : List Edit) → ((x : Edit) → In x xs → In x es) → (y : Edit) → In y xs → ((b : List (List ℕ)) → IsFull g b → view (edited g b y) ≡ a) → (b : List (List ℕ)) → IsFull g b → view (edited_all g b xs) ≡ a
  comes [] some y i sets b full = absurd i
  comes (x ∷ xs) some y (inl same) sets b full =
      let e = each x (some x (inl refl)) b full in
      stays xs (λ y i. some y (inr i)) (edited g b x) e.0 (ap (λ z. view (edited g b z)) same ∙ sets b full)
  comes (x ∷ xs) some y (inr i) sets b full = comes xs (λ y i. some y (inr i)) y i sets (edited g b x) (each x (some x (inl refl)) b full).0

  -- where one of them sets it, and each other keeps it or sets it so too
  pub view_set : (y : Edit) → In y es → ((b : List (List ℕ)) → IsFull g b → view (edited g b y) ≡ a) → (b : List (List ℕ)) → IsFull g b → view (edited_all g b es) ≡ a
  view_set = comes es (λ x i. i)

module _ (g : Geometry) {A : Type 0} (view : List (List ℕ) → A) where
  -- where all keep it
  pub view_kept : (es : List Edit) → ((x : Edit) → In x es → (b : List (List ℕ)) → IsFull g b → IsFull g (edited g b x) × (view (edited g b x) ≡ view b)) → (b : List (List ℕ)) → IsFull g b → view (edited_all g b es) ≡ view b
  view_kept [] each b full = refl
  view_kept (x ∷ xs) each b full = let e = each x (inl refl) b full in view_kept xs (λ y i. each y (inr i)) (edited g b x) e.0 ∙ e.1

pub all_full : (g : Geometry) (es : List Edit) → ((x : Edit) → In x es → (b : List (List ℕ)) → IsFull g b → IsFull g (edited g b x)) → (b : List (List ℕ)) → IsFull g b → IsFull g (edited_all g b es)
all_full g [] each b full = full
all_full g (x ∷ xs) each b full = all_full g xs (λ y i. each y (inr i)) (edited g b x) (each x (inl refl) b full)

-- ---- the writes that no list of volume_model has

module _ (g : Geometry) (sound : IsSound g) (blocks : List (List ℕ)) (whole : IsWhole blocks) (size : length blocks ≡ g.zones) where
  -- a body of a zone of data
  pub changes_body : (zone : ℕ) (content : List ℕ) → g.first ≤ zone → zone < g.zones → length content ≡ 1024 → Changes g (λ _. ⊥) (λ b. b ≡ zone) blocks (edited g blocks (put_body zone content))
  changes_body zone content low high bytes = record {
    whole = whole_edited g blocks (put_body zone content) whole bytes (omega (arith, size, high));
    size = length-edited g blocks (put_body zone content);
    inodes = λ j more below none. inode_kept g blocks (put_body zone content) j (let t = table_below g j sound more below in omega (arith, t.1, low));
    zones = λ b from none. edited_elsewhere g blocks (put_body zone content) b none;
  }

  -- the magic number of the superblock
  pub changes_magic : Changes g (λ _. ⊥) (λ _. ⊥) blocks (edited g blocks magic_edit)
  changes_magic =
      let t = table_below g 1 sound (omega arith) sound.some_inode in
      let some_zone = sound.some_zone in
      let body = whole 1 in
      record {
        whole = whole_edited g blocks magic_edit whole (length-put little 2 16 (magic_for 30) (disk_of blocks 1) (omega (arith, body)) ∙ body) (omega (arith, size, some_zone, t.0, t.1));
        size = length-edited g blocks magic_edit;
        inodes = λ j more below none. inode_kept g blocks magic_edit j (let s = table_below g j sound more below in omega (arith, s.0));
        zones = λ b from none. edited_elsewhere g blocks magic_edit b (omega (arith, from, t.0, t.1));
      }

  pub body_there : (zone : ℕ) (content : List ℕ) → zone < g.zones → disk_of (edited g blocks (put_body zone content)) zone ≡ content
  body_there zone content high = edited_here g blocks (put_body zone content) (omega (arith, size, high))
