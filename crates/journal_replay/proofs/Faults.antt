-- Faults that are the same.
use Rattle.std.specs.Prelude.{◌≡◌, ℕ, Option, Some, Result, Err}
use Rattle.std.proofs.Common.{ap, ◌∙◌}
use Rattle.journal_blocks.specs.declared.fault.JournalFault.{JournalFault}
use Rattle.journal_replay.specs.declared.fault.RecoverFault.{RecoverFault}
use Rattle.journal_replay.specs.declared.fault.RecoverFault.TheVariants.{BadJournal, DeviceFailed}

pub same_bad : {X : Type 0} (f g : JournalFault) (a b : ℕ) → ◌≡◌ {A = Result X RecoverFault} (Err (BadJournal f a)) (Err (BadJournal g b)) → ◌≡◌ {A = Option (JournalFault × ℕ)} (Some (f, a)) (Some (g, b))
same_bad f g a b e =
    let fault : f ≡ g = cc in
    let block : a ≡ b = cc in
    ap (λ (h : JournalFault). let p : JournalFault × ℕ = (h, a) in Some p) fault ∙ ap (λ (n : ℕ). let p : JournalFault × ℕ = (g, n) in Some p) block

pub same_failed : {X : Type 0} (i j : ℕ) → ◌≡◌ {A = Result X RecoverFault} (Err (DeviceFailed i)) (Err (DeviceFailed j)) → i ≡ j
same_failed i j e = cc
