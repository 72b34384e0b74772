-- Each call that a line can say: how much it adds to its transaction.
use Rattle.std.specs.Prelude.{◌≡◌, ◌≢◌, ℕ, zero, suc, ◌+◌, ◌<◌, ◌≤◌, true, List, ◌++◌, length, replicate, Ok, Err, refl}
use Rattle.std.specs.List.{range_with_len}
use Rattle.std.proofs.Common.{sym, subst, ◌∙◌, inl, inr, ⊎_elim, arith, length-append}
use Rattle.std.proofs.lemmas.Bool.{cases_eq}
use Rattle.std.proofs.lemmas.List.{length-replicate}
use Rattle.std.proofs.lemmas.List.FromFn.{length-range_with_len}
use Rattle.blk_base.specs.Members.{In}
use Rattle.blk_base.specs.laws.Members.{In-append_left, In-append_right}
use Rattle.line_grammar.specs.calls.WellFormed.{IsWellFormed}
use Rattle.minix_tables.specs.declared.zones.zone_state.ZoneState.TheVariants as states
use Rattle.tree_model.specs.declared.call.Call.{Call}
use Rattle.tree_model.specs.declared.call.Call.TheVariants as calls
use Rattle.tree_model.specs.Calls.{Done, Row, outcome, row, leaves_tree}
use Rattle.volume_steps.specs.Called.{FindsRoom}
use Rattle.volume_steps.specs.Calls.{called, called_by, changed}
use Rattle.volume_steps.specs.Now.{VolumeNow, tree_of_now, room_of}
use Rattle.volume_steps.proofs.AllCalls.{any_call}
use Rattle.volume_steps.proofs.Called.{quiet_changed}
use Rattle.volume_steps.proofs.FileCalls.{called_is}
use Rattle.volume_steps.proofs.TakeZones.{zone_range}
use Rattle.system_laws.specs.transaction_size.Sizes.{HasFew}
use Rattle.system_laws.proofs.TransactionSizeLemmas.Counted.{Counted, fit_in_use, counted_none}
use Rattle.system_laws.proofs.TransactionSizeLemmas.CountedCalls.{truncate_counted}
use Rattle.system_laws.proofs.TransactionSizeLemmas.CountedGone.{unlink_counted, rmdir_counted}
use Rattle.system_laws.proofs.TransactionSizeLemmas.CountedNames.{create_counted, mkdir_counted, link_counted}
use Rattle.system_laws.proofs.TransactionSizeLemmas.CountedRename.{rename_counted}
use Rattle.system_laws.proofs.TransactionSizeLemmas.CountedWrites.{write_counted}

module _ (tx : ℕ) (v : VolumeNow) (n : ℕ) where
  abbrev CountedAs : Call → Type 0
  CountedAs c = Counted v (called v n tx c).change 12 520

  -- a call that is refused touches nothing
  by_row : (c : Call) → ((d : Done) → outcome (room_of v.geometry) (tree_of_now v) n c ≡ Ok d → CountedAs c) → CountedAs c
  unfolding called
  by_row c each = by (outcome (room_of v.geometry) (tree_of_now v) n c) refl
    where
      by : (r : Row) → outcome (room_of v.geometry) (tree_of_now v) n c ≡ r → Counted v (called_by v n tx c (outcome (room_of v.geometry) (tree_of_now v) n c)).change 12 520
      by (Err why) e = subst (λ r. Counted v (called_by v n tx c r).change 12 520) (sym e) (counted_none v 12 520)
      by (Ok d) e = each d e

  quiet_counted : (c : Call) → leaves_tree c ≡ true → CountedAs c
  quiet_counted c quiet = by_row c (λ d done. subst (λ c. Counted v c 12 520) (sym (called_is tx v n c d done ∙ quiet_changed v n tx c quiet)) (counted_none v 12 520))

  call_counted : (c : Call) → FindsRoom v n c → IsWellFormed c → CountedAs c
  unfolding changed row
  call_counted (calls.Mkdir path) h line = by_row (calls.Mkdir path) (λ d done. mkdir_counted tx v n path h d done)
  call_counted (calls.Create path) h line = by_row (calls.Create path) (λ d done. create_counted tx v n path h d done)
  call_counted (calls.Rmdir path) h line = by_row (calls.Rmdir path) (λ d done. rmdir_counted tx v n path h d done)
  call_counted (calls.Unlink path) h line = by_row (calls.Unlink path) (λ d done. unlink_counted tx v n path h d done)
  call_counted (calls.Link path other) h line = by_row (calls.Link path other) (λ d done. link_counted tx v n path other h d done)
  call_counted (calls.Rename path other) h line = by_row (calls.Rename path other) (λ d done. rename_counted tx v n path other h d done)
  call_counted (calls.Truncate path size) h line = by_row (calls.Truncate path size) (λ d done. subst (λ c. Counted v c 12 520) (sym (called_is tx v n (calls.Truncate path size) d done)) (truncate_counted v tx path size))
  call_counted (calls.Write path off len value) h line = by_row (calls.Write path off len value) (λ d done.
      let most = line.1.most in
      let long = length-replicate {A = ℕ} len value in
      write_counted tx v n (calls.Write path off len value) h path off (replicate len value) d done refl (omega (arith, most, long)) (called_is tx v n (calls.Write path off len value) d done))
  call_counted (calls.Bytes path off bytes) h line = by_row (calls.Bytes path off bytes) (λ d done.
      let most = line.2.most in
      write_counted tx v n (calls.Bytes path off bytes) h path off bytes d done refl (omega (arith, most)) (called_is tx v n (calls.Bytes path off bytes) d done))
  call_counted (calls.Read path off len) h line = quiet_counted (calls.Read path off len) refl
  call_counted (calls.List path) h line = quiet_counted (calls.List path) refl
  call_counted (calls.Stat path) h line = quiet_counted (calls.Stat path) refl
  call_counted (calls.Fsync path) h line = quiet_counted (calls.Fsync path) refl
  call_counted (calls.Fdatasync path) h line = quiet_counted (calls.Fdatasync path) refl
  call_counted (calls.Fbarrier path) h line = quiet_counted (calls.Fbarrier path) refl
  call_counted (calls.Fdatabarrier path) h line = quiet_counted (calls.Fdatabarrier path) refl
  call_counted calls.Sync h line = quiet_counted calls.Sync refl

-- a number that lies in a range
range-In : (from n b : ℕ) → from ≤ b → b < from + n → In b (range_with_len from n)
range-In from zero b low high = absurd (omega (arith, low, high))
range-In from (suc n) b low high = elim (cases_eq from b) [
  | inl e ↦ inl e
  | inr apart ↦ inr (range-In (from + 1) n b (by low apart) (omega (arith, high)))
]
  where
    by : from ≤ b → from ≢ b → from + 1 ≤ b
    by le ne = grind arith

-- A call touches few blocks, however often each.
pub few_blocks : (v : VolumeNow) (n tx : ℕ) (c : Call) → FindsRoom v n c → IsWellFormed c → HasFew (called v n tx c).change.touched.blocks (v.geometry.zmap + 12)
few_blocks v n tx c h line = record {
  among = map_blocks ++ counted.among;
  few =
      let few = counted.few in
      let long = length-range_with_len (2 + v.geometry.imap) v.geometry.zmap in
      let both = length-append map_blocks counted.among in
      omega (arith, few, long, both);
  all = λ b i. ⊎_elim
      (λ m. In-append_left map_blocks counted.among b (range-In (2 + v.geometry.imap) v.geometry.zmap b m.0 m.1))
      (λ j. In-append_right map_blocks counted.among b j)
      (counted.told (fit_in_use v h.plain.in_use) (λ z f. (zone_range v h.plain.in_use z states.Used ((any_call tx v n c h).steady.was_used z f)).1) b i);
}
  where
    counted : Counted v (called v n tx c).change 12 520
    counted = call_counted tx v n c h line

    map_blocks : List ℕ
    map_blocks = range_with_len (2 + v.geometry.imap) v.geometry.zmap

-- and revokes few
pub few_revokes : (v : VolumeNow) (n tx : ℕ) (c : Call) → FindsRoom v n c → IsWellFormed c → length (called v n tx c).change.touched.revoked ≤ 520
few_revokes v n tx c h line = (call_counted tx v n c h line).revokes
