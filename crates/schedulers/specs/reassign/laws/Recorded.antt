-- What holds of a queue and of the record of its requests, once a request was accepted or came back.
use Rattle.std.specs.Prelude.{◌≡◌, ◌++◌, ◌↔◌, true, [], ◌∷◌, refl, Result, Ok, Err, IsOk, IsTrue, OnOk, IfErr}
use Rattle.std.proofs.Common.{sym, subst}
use Rattle.order_model.specs.declared.request.Request.{Request}
use Rattle.order_model.specs.History.{HistoryState}
use Rattle.schedulers.specs.reassign.Epoch.{EpochState, can_accept, accepted}

-- the history with one more request
abbrev pub recorded : HistoryState Request → Request → HistoryState Request
recorded history r = record { items = history.items ++ r ∷ []; room = history.room }

-- what holds of both as they were, and once the request went in, holds of both
pub accepted_or_back : {A E : Type 0} (P : EpochState → HistoryState Request → Type 0) (q queue : EpochState) (h history : HistoryState Request) (r : Request) (result : Result A E)
    → P q h → (can_accept q ≡ true → P (accepted q r) (recorded h r))
    → (IsOk result ↔ IsTrue (can_accept q)) → OnOk result (queue ≡ accepted q r) → OnOk result (history ≡ recorded h r)
    → IfErr result (λ e. (queue ≡ q) × (history ≡ h)) → P queue history
accepted_or_back P q queue h history r (Ok u) before after when state kept back =
    subst (λ x. P x history) (sym state) (subst (P (accepted q r)) (sym kept) (after (when.0 refl)))
accepted_or_back P q queue h history r (Err e) before after when state kept back =
    subst (λ x. P x history) (sym back.0) (subst (P q) (sym back.1) before)
