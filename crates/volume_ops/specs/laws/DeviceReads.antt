-- What reads of a device leave as it was.
use Rattle.std.specs.Prelude.{◌≡◌, ℕ}
use Rattle.std.proofs.Common.{sym, ap, ◌∙◌, subst, arith}
use Rattle.order_model.specs.Device.{Seen, IsQuiet}
use Rattle.order_model.specs.Steps.{OnlyReads}

pub more_reads : (a b c : Seen) → OnlyReads a b → OnlyReads b c → OnlyReads a c
more_reads a b c r s = (s.0 ∙ ap (λ (x : Seen). record x { faults = c.faults }) r.0, let h = r.1 in let k = s.1 in omega (arith, h, k))

counted_quiet : (s : Seen) (n : ℕ) → IsQuiet s → IsQuiet (record s { faults = n })
counted_quiet s n q = record {
  kept = λ place lt. let k = q.kept place lt in record { part = k.part; taken = k.taken; origin = k.origin; held = k.held; later = k.later };
  flushed = q.flushed;
}

pub quiet_after : (a b : Seen) → OnlyReads a b → IsQuiet a → IsQuiet b
quiet_after a b r q = subst IsQuiet (sym r.0) (counted_quiet a b.faults q)

pub same_surface : (a b : Seen) → OnlyReads a b → b.surface ≡ a.surface
same_surface a b r = ap (λ (x : Seen). x.surface) r.0
