-- What begun calls wait for.
use Rattle.std.specs.Prelude.{ℕ, ◌==◌, Bool, false, ◌&&◌, Some, None, if◌then◌else◌}
use Rattle.flush_actor.specs.Kinds.{is_durable, makes_durable}
use Rattle.flush_actor.specs.declared.call_kind.CallKind.TheVariants.{Reading}
use Rattle.flush_actor.specs.declared.wait.Wait.{Wait}

-- of a thread that waits for nothing
abbrev pub no_wait : Wait
no_wait = record { kind = Reading; target = None; need = None }

-- the commit block of transaction k is request id: the calls that it makes durable need it
abbrev pub need_commit : ℕ → ℕ → Wait → Wait
need_commit k id w =
    if makes_durable w.kind
    && elim w.target as (λ _. Bool) [ Some t ↦ t == k | None ↦ false ]
    then record w { need = Some id } else w

-- a durability call waits for transaction k
abbrev pub awaits : ℕ → Wait → Bool
awaits k w = is_durable w.kind && elim w.target as (λ _. Bool) [ Some t ↦ t == k | None ↦ false ]
