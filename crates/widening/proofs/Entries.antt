-- The slots of a widened directory can be read: the names are those that were read before.
use Rattle.std.specs.Prelude.{◌≡◌, ℕ, ◌^◌, ◌<◌, ◌≤◌, ◌==◌, Bool, true, false, if◌then◌else◌, List, codes, length, Option, Some, None, Result, Ok, Err, refl}
use Rattle.std.specs.List.{list_any}
use Rattle.std.proofs.Common.{sym, subst, ◌∙◌, inl, inr, ⊎_elim, arith}
use Rattle.std.proofs.lemmas.Bool.{cases_Bool, true≢false}
use Rattle.std.proofs.lemmas.Option.{none-some, same_Some}
use Rattle.blk_base.specs.Members.{In}
use Rattle.blk_base.specs.laws.Members.{In-map}
use Rattle.minix_layout.specs.declared.slot.Slot.{Slot}
use Rattle.minix_layout.specs.declared.fault.LayoutFault.{LayoutFault}
use Rattle.minix_layout.specs.declared.fault.LayoutFault.TheVariants.{BadSlot}
use Rattle.minix_layout.specs.Slots.{slot_of, inode_in, name_in, is_bad_name, IsEntry}
use Rattle.minix_layout.specs.Words.{is_name}
use Rattle.minix_layout.specs.laws.SlotLaws.{bad_slash, bad_empty, short_name}
use Rattle.tree_model.specs.declared.node.Directory.{Directory}
use Rattle.volume_ops.specs.laws.ReadsLaws.{err-ok, same_Ok}
use Rattle.volume_ops.specs.Places.{inode_of_birth}
use Rattle.widening.specs.Directories.{slot_named, wide_slots}

-- a name that a slot of 30 bytes can have
pub record IsGood (name : List ℕ) : Type 0 where
  pub named : is_name name ≡ true
  pub short : length name ≤ 30
  pub no_slash : list_any (λ b. b == 47) name ≡ false

read_good : (width : ℕ) (bytes : List ℕ) → width ≤ 30 → is_bad_name (name_in width bytes) ≡ false → IsGood (name_in width bytes)
read_good width bytes narrow good = record {
  named = ⊎_elim (λ t. t) (λ f. absurd (true≢false (sym (bad_empty width bytes narrow f) ∙ good))) (cases_Bool (is_name (name_in width bytes)));
  short = (let most = short_name width bytes in omega (arith, most, narrow));
  no_slash = ⊎_elim (λ t. absurd (true≢false (sym (bad_slash (name_in width bytes) t) ∙ good))) (λ f. f) (cases_Bool (list_any (λ b. b == 47) (name_in width bytes)));
}

good_by : (width : ℕ) (bytes : List ℕ) (s : Slot) → width ≤ 30 → (empty bad : Bool) → is_bad_name (name_in width bytes) ≡ bad →
    ◌≡◌ {A = Result (Option Slot) LayoutFault} (if empty then Ok None else if bad then Err BadSlot else Ok (Some (record { inode = inode_in bytes; name = name_in width bytes }))) (Ok (Some s)) → IsGood s.name
good_by width bytes s narrow true bad is e = absurd (none-some s (same_Ok None (Some s) e))
good_by width bytes s narrow false true is e = absurd (err-ok BadSlot (Some s) e)
good_by width bytes s narrow false false is e =
    let t : Slot = record { inode = inode_in bytes; name = name_in width bytes } in
    let same : t ≡ s = same_Some t s (same_Ok (Some t) (Some s) e) in
    subst (λ (s : Slot). IsGood s.name) same (read_good width bytes narrow is)

-- so is one that was read of a slot
pub slot_good : (width : ℕ) (bytes : List ℕ) (s : Slot) → width ≤ 30 → slot_of width bytes ≡ Ok (Some s) → IsGood s.name
unfolding slot_of
slot_good width bytes s narrow e = good_by width bytes s narrow (inode_in bytes == 0) (is_bad_name (name_in width bytes)) refl e

pub behind_good : (width : ℕ) (hole : Bool) (bytes : List ℕ) (s : Slot) → width ≤ 30 → ◌≡◌ {A = Result (Option Slot) LayoutFault} (if hole then Ok None else slot_of width bytes) (Ok (Some s)) → IsGood s.name
behind_good width true bytes s narrow e = absurd (none-some s (same_Ok None (Some s) e))
behind_good width false bytes s narrow e = slot_good width bytes s narrow e

-- a birth whose inode is one of the table
abbrev pub IsSmall : ℕ → Type 0
IsSmall birth = (0 < inode_of_birth birth) × (inode_of_birth birth < 2 ^ 16)

pub entries_good : (number : ℕ) (d : Directory) → 0 < number → number < 2 ^ 16 → IsSmall d.parent → ((e : List ℕ × ℕ) → In e d.names → IsGood e.0 × IsSmall e.1) → (s : Slot) → In s (wide_slots number d) → IsEntry 30 s
entries_good number d some small parent each s (inl same) =
    let e : IsEntry 30 (record { inode = number; name = codes "." }) = record { used = some; fits = small; name = refl; short = omega arith; no_slash = refl } in
    subst (IsEntry 30) same e
entries_good number d some small parent each s (inr (inl same)) =
    let e : IsEntry 30 (record { inode = inode_of_birth d.parent; name = codes ".." }) = record { used = parent.0; fits = parent.1; name = refl; short = omega arith; no_slash = refl } in
    subst (IsEntry 30) same e
entries_good number d some small parent each s (inr (inr i)) =
    let x = In-map slot_named d.names s i in
    let y = each x.0 x.1 in
    let e : IsEntry 30 (slot_named x.0) = record { used = y.1.0; fits = y.1.1; name = y.0.named; short = y.0.short; no_slash = y.0.no_slash } in
    subst (IsEntry 30) x.2 e
