-- What the tests ask of the device holds again once it took a command.
use Rattle.std.specs.Prelude.{◌≡◌, ℕ, ◌-◌, ◌∷◌, [], ◌++◌, length, Some, slice_get}
use Rattle.std.proofs.Common.{sym, ap, subst, ◌∙◌, inl, inr, arith, length-append}
use Rattle.std.proofs.lemmas.Bool.{cases_lt}
use Rattle.blk_base.specs.laws.Members.{slice_get-append_left, slice_get-append_right}
use Rattle.order_model.specs.declared.command.Command.{Command}
use Rattle.order_model.specs.Received.{ids_of, all_ids}
use Rattle.order_model.proofs.Received.{all_ids-push}
use Rattle.flog_device.specs.Log.{prefix, places}
use Rattle.flog_device.specs.Device.{FlogState, received, surface}
use Rattle.flog_device.specs.laws.LogFacts.{length-laid}
use Rattle.device_tests.specs.Asked.{IsNext}
use Rattle.device_tests.specs.flash_log.Asked.{HasTaken}

pub taken_next : (s next : FlogState) (n m : ℕ) (c : Command) → HasTaken s n → IsNext n m c → next ≡ received s c → HasTaken next m
taken_next s next n m c h i e = subst (λ (t : FlogState). HasTaken t m) (sym e) (record { ids = ids; count = count; blocks = blocks; limit = h.limit })
  where
    blocks : length (surface (received s c)) ≡ 4
    blocks =
        let new = length-laid (s.took ++ c ∷ []) (places (prefix s.log)) s.data_area in
        let old = length-laid s.took (places (prefix s.log)) s.data_area in
        let k = h.blocks in
        omega (arith, new, old, k)

    count : length (all_ids (s.took ++ c ∷ [])) ≡ m
    count =
        let a = ap length (all_ids-push s.took c) in
        let b = length-append (all_ids s.took) (ids_of c) in
        let k = h.count in
        let l = i.count in
        omega arith

    ids : (j id : ℕ) → slice_get (all_ids (s.took ++ c ∷ [])) j ≡ Some id → id ≡ j
    ids j id at =
        let all : slice_get (all_ids s.took ++ ids_of c) j ≡ Some id = ap (λ l. slice_get l j) (sym (all_ids-push s.took c)) ∙ at in
        elim (cases_lt j (length (all_ids s.took))) [
          | inl lt ↦ h.ids j id (sym (slice_get-append_left (all_ids s.took) (ids_of c) j lt) ∙ all)
          | inr le ↦
              let q = i.ids (j - length (all_ids s.took)) id (sym (slice_get-append_right (all_ids s.took) (ids_of c) j le) ∙ all) in
              let k = h.count in
              omega arith
        ]
