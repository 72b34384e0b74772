-- Commands that a device can be given one after the other, and what sending leaves as it was.
use Rattle.std.specs.Prelude.{◌≡◌, ℕ, ◌<◌, ◌≤◌, ◌==◌, ◌||◌, true, List, [], ◌∷◌, ◌++◌, length, All, is_some, refl}
use Rattle.std.proofs.Common.{sym, ap, ◌∙◌, subst, inl, arith, append_assoc, length-append}
use Rattle.blk_base.specs.Members.{In}
use Rattle.blk_base.specs.laws.Members.{In-append_right}
use Rattle.order_model.specs.declared.part.Part.{Part}
use Rattle.order_model.specs.declared.command.Command.{Command}
use Rattle.order_model.specs.declared.command.Priority.TheVariants.{Ordered}
use Rattle.order_model.specs.Received.{all_ids, ids_of}
use Rattle.order_model.specs.Device.{Seen, IsReceivable, IsSurface, NoneTwice}
use Rattle.order_model.specs.Steps.{Receives}
use Rattle.order_model.proofs.Received.{all_ids-append, none_twice-front}

-- a command for a device of so many blocks
pub record IsCommand (blocks : ℕ) (c : Command) : Type 0 where
  pub small : length c.parts ≤ 16
  pub whole : is_some c.flush ≡ (length c.parts == 0)
  pub ordered : (c.barrier || is_some c.flush) ≡ true → c.priority ≡ Ordered
  pub within : All (λ (p : Part). p.block < blocks) c.parts

-- commands that it can take, one after the other
pub record CanTake (blocks limit : ℕ) (cs : List Command) : Type 0 where
  pub each : (c : Command) → In c cs → IsCommand blocks c
  pub once : NoneTwice (all_ids cs)
  pub few : length (all_ids cs) ≤ limit

-- it can take the rest behind what it took
abbrev pub CanSend : Seen → List Command → Type 0
CanSend s rest = CanTake (length s.base) s.limit (s.took ++ rest)

-- what sending leaves as it was: the list of all, and what the device was made with
pub record KeepsAll (old : Seen) (rest : List Command) (new : Seen) (left : List Command) : Type 0 where
  pub all : new.took ++ left ≡ old.took ++ rest
  pub base : new.base ≡ old.base
  pub limit : new.limit ≡ old.limit

pub can_send-kept : (old new : Seen) (rest left : List Command) → KeepsAll old rest new left → CanSend old rest → CanSend new left
can_send-kept old new rest left k can = rw (k.all, k.base, k.limit) can

pub keeps-more : (a b c : Seen) (xs ys zs : List Command) → KeepsAll a xs b ys → KeepsAll b ys c zs → KeepsAll a xs c zs
keeps-more a b c xs ys zs k l = record { all = l.all ∙ k.all; base = l.base ∙ k.base; limit = l.limit ∙ k.limit }

-- the next one can be received
pub next_receivable : (s : Seen) (c : Command) (rest : List Command) → IsSurface s → CanSend s (c ∷ rest) → IsReceivable s c
next_receivable s c rest law can =
    let own = can.each c (In-append_right s.took (c ∷ rest) c (inl refl)) in
    let front : all_ids (s.took ++ c ∷ rest) ≡ (all_ids s.took ++ ids_of c) ++ all_ids rest = all_ids-append s.took (c ∷ rest) ∙ sym (append_assoc (all_ids s.took) (ids_of c) (all_ids rest)) in
    let size = length-append (all_ids s.took ++ ids_of c) (all_ids rest) in
    record {
      small = own.small;
      whole = own.whole;
      ordered = own.ordered;
      within = rw law.blocks own.within;
      fresh = none_twice-front (all_ids s.took ++ ids_of c) (all_ids rest) (subst NoneTwice front can.once);
      few = let few = can.few in let same = ap length front in omega arith;
    }

pub keeps-received : (old new : Seen) (c : Command) (rest : List Command) → Receives old c new → KeepsAll old (c ∷ rest) new rest
keeps-received old new c rest r = record {
  all = ap (λ (x : Seen). x.took ++ rest) r ∙ append_assoc old.took (c ∷ []) rest;
  base = ap (λ (x : Seen). x.base) r;
  limit = ap (λ (x : Seen). x.limit) r;
}
