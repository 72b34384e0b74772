-- The session of a store's script is one of a log whose blocks spell the script's puts.
use Rattle.std.specs.Prelude.{◌≡◌, ℕ, zero, suc, ◌+◌, ◌-◌, ◌*◌, ◌<◌, ◌≤◌, ◌⊎◌, Bool, true, false, List, [], ◌∷◌, ◌++◌, length, Option, Some, None, slice_get, slice_index}
use Rattle.std.proofs.Common.{refl, sym, ap, ◌∙◌, arith, append_assoc, length-append, inl, inr}
use Rattle.std.specs.Option.{option_map}
use Rattle.std.proofs.lemmas.Bool.{false≢true}
use Rattle.std.proofs.lemmas.Option.{none-some, same_Some}
use Rattle.blk_base.specs.Members.{In}
use Rattle.blk_base.specs.laws.Members.{In-push_cases}
use Rattle.tree_model.specs.declared.call.Call.{Call}
use Rattle.tree_model.specs.declared.call.Call.TheVariants.{Create, Write, Bytes, Fsync, Fdatasync, Fdatabarrier}
use Rattle.tree_model.specs.Calls.{leaves_tree}
use Rattle.wal_store.specs.declared.puts.Put.{Put}
use Rattle.wal_store.specs.declared.puts.Op as store
use Rattle.wal_store.specs.declared.puts.Op.TheVariants as ops
use Rattle.wal_store.specs.Puts.{IsPut}
use Rattle.wal_store.specs.Blocks.{encode, decode}
use Rattle.wal_store.specs.calls.Calls as wal
use Rattle.wal_store.specs.calls.Calls.{fills_from, fill_count, fills, put_count, ArePuts}
use Rattle.wal_store.proofs.Spelled.{fields, key-few, value-few, length-spelled, decode-encode, decode-read}
use Rattle.store_grammar.specs.declared.script.StoreScript.{StoreScript}
use Rattle.store_grammar.specs.Made.{volume_script}
use Rattle.store_grammar.specs.WellFormed.{IsWellFormed}
use Rattle.store_core.specs.Store.{Decodes}
use Rattle.store_core.specs.Program.{LogStep, Put as PutStep, Flush as FlushStep, calls_from, log_path, IsStore}
use Rattle.store_core.specs.Stores.{number_in, puts_in}

-- ---- what is asked of a store, as what is asked of its log

abbrev pub steps_from : ℕ → List store.Op → List LogStep
steps_from i [] = []
steps_from i (ops.Put p ∷ xs) = PutStep (encode (i + 1) p) ∷ steps_from (i + 1) xs
steps_from i (ops.Flush ∷ xs) = FlushStep ∷ steps_from i xs

pub same-calls : (i : ℕ) (xs : List store.Op) → calls_from log_path i (steps_from i xs) ≡ wal.calls_from i xs
same-calls i [] = refl
same-calls i (ops.Put p ∷ xs) = ap (λ cs. Bytes log_path (1024 * i) (encode (i + 1) p) ∷ Fdatabarrier log_path ∷ cs) (same-calls (i + 1) xs)
same-calls i (ops.Flush ∷ xs) = ap (λ cs. Fdatasync log_path ∷ cs) (same-calls i xs)

-- ---- blocks and their numbers

numbered : (o : Option (ℕ × Put)) (n : ℕ) → option_map (λ (x : ℕ × Put). x.0) o ≡ Some n → (p : Put) × (o ≡ Some (n, p))
numbered None n h = absurd (none-some n h)
numbered (Some (m, p)) n h = (p, ap (λ (k : ℕ). Some (k, p)) (same_Some m n h))

pub number-decoded : (b : List ℕ) (n : ℕ) → number_in b ≡ Some n → (p : Put) × (b ≡ encode n p)
number-decoded b n h =
    let x = numbered (decode b) n h in
    (x.0, (decode-read b n x.0 x.1).2)

first-byte : (n : ℕ) (p : Put) → slice_index (encode n p) 0 ≡ 87
first-byte n p = ap (λ b. slice_index b 0) (fields n p.key p.value)

pub blank : (x : List ℕ) → length x ≡ 1024 → ((j : ℕ) → j < 1024 → slice_index x j ≡ 0) → Decodes number_in x → ⊥
blank x size zeros decodes =
    let is = number-decoded x decodes.0 decodes.1 in
    let first : 0 ≡ 87 = sym (zeros 0 (omega arith)) ∙ ap (λ b. slice_index b 0) is.1 ∙ first-byte decodes.0 is.0 in
    omega (arith, first)

pub empty : Decodes number_in [] → ⊥
empty decodes =
    let is = number-decoded [] decodes.0 decodes.1 in
    let first : 0 ≡ 87 = ap (λ b. slice_index b 0) is.1 ∙ first-byte decodes.0 is.0 in
    omega (arith, first)

pub number-encoded : (i : ℕ) (p : Put) → i < 1000 → IsPut p → number_in (encode (i + 1) p) ≡ Some (i + 1)
number-encoded i p few is = ap (option_map (λ (x : ℕ × Put). x.0)) (decode-encode (i + 1) p (omega (arith, few)) is)

-- ---- the puts among the calls

abbrev offset : Call → ℕ
offset (Bytes path off body) = off
offset other = 0

abbrev body_of : Call → List ℕ
body_of (Bytes path off body) = body
body_of other = []

abbrev is_bytes : Call → Bool
is_bytes (Bytes path off body) = true
is_bytes other = false

-- the put j of the calls from put i on, and its block
pub record IsPutOf (xs : List store.Op) (i j : ℕ) (body : List ℕ) : Type 0 where
  pub from : i ≤ j
  pub put : Put
  pub there : slice_get (puts_in xs) (j - i) ≡ Some put
  pub good : IsPut put
  pub few : j < i + put_count xs
  pub whole : body ≡ encode (j + 1) put

pub put-at : (i : ℕ) (xs : List store.Op) → ArePuts xs → (a j : ℕ) (body : List ℕ) → slice_get (wal.calls_from i xs) a ≡ Some (Bytes log_path (1024 * j) body) → IsPutOf xs i j body
put-at i [] puts a j body h = absurd (none-some (Bytes log_path (1024 * j) body) h)
put-at i (ops.Put p ∷ xs) puts zero j body h =
    let same = same_Some (Bytes log_path (1024 * i) (encode (i + 1) p)) (Bytes log_path (1024 * j) body) h in
    let place : 1024 * i ≡ 1024 * j = ap offset same in
    let one : i ≡ j = omega (arith, place) in
    let none : 0 ≡ j - i = omega (arith, one) in
    record {
      from = omega (arith, one);
      put = p;
      there = ap (slice_get (p ∷ puts_in xs)) (sym none);
      good = puts.0;
      few = omega (arith, one);
      whole = sym (ap body_of same) ∙ ap (λ k. encode (k + 1) p) one;
    }
put-at i (ops.Put p ∷ xs) puts (suc zero) j body h =
    absurd (false≢true (ap is_bytes (same_Some (Fdatabarrier log_path) (Bytes log_path (1024 * j) body) h)))
put-at i (ops.Put p ∷ xs) puts (suc (suc a)) j body h =
    let is = put-at (i + 1) xs puts.1 a j body h in
    let from = is.from in
    let few = is.few in
    let later : j - i ≡ suc (j - (i + 1)) = omega (arith, from) in
    record {
      from = omega (arith, from);
      put = is.put;
      there = ap (slice_get (p ∷ puts_in xs)) later ∙ is.there;
      good = is.good;
      few = omega (arith, few);
      whole = is.whole;
    }
put-at i (ops.Flush ∷ xs) puts zero j body h =
    absurd (false≢true (ap is_bytes (same_Some (Fdatasync log_path) (Bytes log_path (1024 * j) body) h)))
put-at i (ops.Flush ∷ xs) puts (suc a) j body h =
    let is = put-at i xs puts a j body h in
    record { from = is.from; put = is.put; there = is.there; good = is.good; few = is.few; whole = is.whole }

-- ---- the calls in front of them

pub fills-write : (room j n : ℕ) (c : Call) → In c (fills_from room j n) → (off : ℕ) × (len : ℕ) × (c ≡ Write log_path off len 0)
fills-write room j zero c i = absurd i
fills-write room j (suc n) c (inl e) = (_, _, sym e)
fills-write room j (suc n) c (inr i) = fills-write room (j + 1) n c i

abbrev pub front : ℕ → List Call
front room = fills room ++ Fsync log_path ∷ []

front-is : (room : ℕ) (c : Call) → In c (front room) → (leaves_tree c ≡ true) ⊎ ((off : ℕ) × (len : ℕ) × (c ≡ Write log_path off len 0))
front-is room c i =
    elim (In-push_cases (fills room) (Fsync log_path) c i) [
      | inl fill ↦ inr (fills-write room 0 (fill_count room) c fill)
      | inr e ↦ inl (ap leaves_tree (sym e))
    ]

fills-length : (room j n : ℕ) → length (fills_from room j n) ≡ n
fills-length room j zero = refl
fills-length room j (suc n) = ap suc (fills-length room (j + 1) n)

pub front-length : (room : ℕ) → length (front room) ≡ fill_count room + 1
front-length room =
    let one = fills-length room 0 (fill_count room) in
    let all = length-append (fills room) (Fsync log_path ∷ []) in
    omega (arith, one, all)

-- ---- the script

pub made-store : (x : StoreScript) → IsWellFormed x → IsStore number_in log_path (front x.room) (steps_from 0 x.ops) (volume_script x)
made-store x is = record {
  width = refl;
  programs =
      ap (λ cs. (Create log_path ∷ cs) ∷ [])
      (ap (λ cs. fills x.room ++ (Fsync log_path ∷ cs)) (sym (same-calls 0 x.ops))
      ∙ sym (append_assoc (fills x.room) (Fsync log_path ∷ []) (calls_from log_path 0 (steps_from 0 x.ops))));
  fills_are = front-is x.room;
  spelled = λ a i body h.
      let put = put-at 0 x.ops is.puts a i body (ap (λ cs. slice_get cs a) (sym (same-calls 0 x.ops)) ∙ h) in
      let few = put.few in
      let room = is.few_puts in
      let most = is.room in (
        ap length put.whole ∙ length-spelled (i + 1) put.put.key put.put.value (key-few put.put.key put.good.key) (value-few put.put.value put.good.value),
        ap number_in put.whole ∙ number-encoded i put.put (omega (arith, few, room, most)) put.good,
      );
  blank = blank;
  empty = empty;
}
