-- Hosts that keep the order rules say of their requests what is needed for these to complete.
use Rattle.std.specs.Option.{option_and_then}
use Rattle.std.specs.Prelude.{◌≡◌, ℕ, ◌+◌, false, true, Some, slice_get, refl}
use Rattle.std.proofs.Common.{sym, ap, ◌∙◌}
use Rattle.std.proofs.lemmas.Option.{none-some}
use Rattle.log_model.specs.Ring.{Ring}
use Rattle.order_model.specs.declared.note.Note.{Note}
use Rattle.order_model.specs.declared.note.Note.TheVariants.{Page, Super, Revoke, Descriptor, Body, Commit, Home, Flush, Raw}
use Rattle.order_model.specs.declared.request.Kind.{Kind}
use Rattle.order_model.specs.declared.request.Kind.TheVariants as puts
use Rattle.order_model.specs.declared.request.Request.{Request}
use Rattle.order_model.specs.OrderClosed.{is_flush, kind_block, IsPutOf}
use Rattle.tree_model.specs.declared.call.Reply.{Reply}
use Rattle.volume_ops.specs.Reads.{Reads}
use Rattle.volume_steps.specs.Now.{VolumeNow}
use Rattle.flush_actor.specs.Part.{is_flush_note}
use Rattle.crash_laws.specs.Rules.{OrderRules}
use Rattle.crash_laws.specs.Session.{Session, HasNote, IsLog, log_transaction}
use Rattle.host_machine.specs.State.{Host}
use Rattle.minix_host.specs.ByteCalls.{ByteCall}
use Rattle.minix_host.specs.Sessions.{Opening}
use Rattle.system_laws.proofs.AnsweredLemmas.Matching.{AreAlike, Matches}
use Rattle.system_laws.proofs.TransactionSizeLemmas.Hosts.{IsKept}

module _ {A : Type 0} (program : Reads A) (x : Session) (rules : OrderRules program x) where
  module _ (id : ℕ) (q : Request) (at : slice_get x.requests id ≡ Some q) where
    of_put : (b : ℕ) → IsPutOf x.requests id b → false ≡ is_flush q.kind
    of_put b h = by q.kind (sym (ap (option_and_then (λ (r : Request). kind_block r.kind)) at) ∙ h)
      where
        by : (kind : Kind) → kind_block kind ≡ Some b → false ≡ is_flush kind
        by (puts.Put block body) e = refl
        by puts.Flush e = absurd (none-some b e)

    of_log : (t : ℕ) → IsLog x t id → false ≡ is_flush q.kind
    of_log t h = let p = rules.fits.log t id h in of_put (x.journal + p.0) p.2

    of_flush : HasNote x id Flush → true ≡ is_flush q.kind
    of_flush h = by q.kind refl
      where
        by : (kind : Kind) → q.kind ≡ kind → true ≡ is_flush kind
        by (puts.Put block body) e = absurd (rules.fits.flush id h (block, ap (option_and_then (λ (r : Request). kind_block r.kind)) at ∙ ap kind_block e))
        by puts.Flush e = refl

    by_note : (n : Note) → HasNote x id n → is_flush_note n ≡ is_flush q.kind
    by_note (Page birth index call) h = let p = rules.fits.page id birth index call h in of_put p.0 p.1
    by_note Super h = of_put x.journal (rules.fits.super id h)
    by_note (Revoke t) h = of_log t (ap (option_and_then log_transaction) h)
    by_note (Descriptor t) h = of_log t (ap (option_and_then log_transaction) h)
    by_note (Body t b) h = of_log t (ap (option_and_then log_transaction) h)
    by_note (Commit t) h = of_log t (ap (option_and_then log_transaction) h)
    by_note (Home b) h = of_put b (rules.fits.home id b h)
    by_note Flush h = of_flush h
    by_note Raw h = absurd (rules.fits.raw id h)

  pub notes_alike : AreAlike x.notes x.requests
  notes_alike id n q at_note at_request = by_note id q at_request n at_note

-- so it is of each host that sessions come to
pub kept_matches : (s : Opening) (log : Ring) (h : Host VolumeNow ByteCall Reply) → IsKept s log h → Matches h.journal.flush
kept_matches s log h kept =
    let rules = kept.sound.rules.2.rules.order in
    record {
      counted = rules.fits.counted;
      alike = notes_alike _ _ rules;
      needed = λ w i id e. (kept.sound.rules.4.needed w i id e).0;
    }
