-- The volume script that is made of a store's script is a well-formed one.
use Rattle.std.specs.Prelude.{◌≡◌, ℕ, zero, suc, ◌+◌, ◌-◌, ◌*◌, ◌%◌, ◌<◌, ◌≤◌, min, List, [], ◌∷◌, ◌++◌, length, map}
use Rattle.std.proofs.Common.{refl, sym, ap, subst, arith, lit≤, length-append, inl, inr}
use native.Mathlib.Nat.{min-le_left, le-min}
use Rattle.std.proofs.lemmas.List.{append-nil}
use Rattle.std.specs.Int.{div_ceil}
use Rattle.std.proofs.lemmas.Option.{none-some}
use Rattle.blk_base.specs.Members.{In}
use Rattle.minix_layout.specs.Widths.{of_14}
use Rattle.tree_model.specs.declared.call.Call.{Call}
use Rattle.tree_model.specs.declared.call.Call.TheVariants.{Bytes, Fsync}
use Rattle.line_grammar.specs.calls.WellFormed as call
use Rattle.session_grammar.specs.WellFormed as session
use Rattle.session_grammar.specs.WellFormed.{AreLinesOf, all_calls}
use Rattle.wal_store.specs.declared.puts.Put.{Put}
use Rattle.wal_store.specs.declared.puts.Op.{Op}
use Rattle.wal_store.specs.declared.puts.Op.TheVariants as ops
use Rattle.wal_store.specs.Puts.{IsPut}
use Rattle.wal_store.specs.Blocks.{encode}
use Rattle.wal_store.specs.calls.Calls.{log_path, fill_call, fills_from, fill_count, fills, calls_from, calls_of, put_count, call_count, ArePuts}
use Rattle.wal_store.specs.calls.CallText.{call_line}
use Rattle.wal_store.proofs.CallsLemmas.CallsRead.{line-read}
use Rattle.wal_store.proofs.Spelled.{key-few, value-few, length-spelled}
use Rattle.store_grammar.specs.declared.script.StoreScript.{StoreScript}
use Rattle.store_grammar.specs.Made.{script_calls, volume_script}
use Rattle.store_grammar.specs.WellFormed.{IsWellFormed}
use Rattle.store_grammar.proofs.PutBytes.{encode-bytes}

-- ---- each call

abbrev Are : List Call → Type 0
Are [] = Unit {0}
Are (c ∷ cs) = call.IsWellFormed c × Are cs

are-append : (cs ds : List Call) → Are cs → Are ds → Are (cs ++ ds)
are-append [] ds one two = two
are-append (c ∷ cs) ds one two = (one.0, are-append cs ds one.1 two)

are-In : (cs : List Call) → Are cs → (c : Call) → In c cs → call.IsWellFormed c
are-In (d ∷ cs) all c (inl e) = subst call.IsWellFormed e all.0
are-In (d ∷ cs) all c (inr i) = are-In cs all.1 c i
are-In [] all c i = absurd i

are-lines : (cs : List Call) → Are cs → AreLinesOf (map call_line cs) cs
are-lines [] all = tt
are-lines (c ∷ cs) all = (line-read c all.0, are-lines cs all.1)

fill-some : (n : ℕ) → 1 ≤ n → 1 ≤ min 65536 n
fill-some n some = le-min (lit≤ tt) some

fill-most : (n : ℕ) → min 65536 n ≤ 65536
fill-most n = min-le_left 65536 n

fill-is : (room j : ℕ) → room ≤ 1000 → 64 * j < room → call.IsWellFormed (fill_call room j)
fill-is room j most within = (
  refl,
  record { below = omega (arith, most, within); some = fill-some (1024 * room - 65536 * j) (omega (arith, within)); most = fill-most (1024 * room - 65536 * j) },
  lit≤ tt,
)

fills-are : (room j n : ℕ) → room ≤ 1000 → (0 < n → 64 * (j + n) < room + 64) → Are (fills_from room j n)
fills-are room j zero most within = tt
fills-are room j (suc n) most within =
    let here = within (omega arith) in
    (fill-is room j most (omega (arith, here)), fills-are room (j + 1) n most (λ some. omega (arith, here)))

put-is : (i : ℕ) (p : Put) → i < 1000 → IsPut p → call.IsWellFormed (Bytes log_path (1024 * i) (encode (i + 1) p))
put-is i p few is =
    let size = length-spelled (i + 1) p.key p.value (key-few p.key is.key) (value-few p.value is.value) in (
      refl,
      omega (arith, few),
      record { each = encode-bytes (i + 1) p is; some = omega (arith, size); most = omega (arith, size) },
    )

calls-are : (i : ℕ) (xs : List Op) → ArePuts xs → i + put_count xs ≤ 1000 → Are (calls_from i xs)
calls-are i [] puts few = tt
calls-are i (ops.Put p ∷ xs) puts few = (put-is i p (omega (arith, few)) puts.0, (refl, calls-are (i + 1) xs puts.1 (omega (arith, few))))
calls-are i (ops.Flush ∷ xs) puts few = (refl, calls-are i xs puts few)

-- ---- how many

fills-length : (room j n : ℕ) → length (fills_from room j n) ≡ n
fills-length room j zero = refl
fills-length room j (suc n) = ap suc (fills-length room (j + 1) n)

calls-length : (i : ℕ) (xs : List Op) → length (calls_from i xs) ≡ call_count xs
calls-length i [] = refl
calls-length i (ops.Put p ∷ xs) = omega (arith, calls-length (i + 1) xs)
calls-length i (ops.Flush ∷ xs) = omega (arith, calls-length i xs)

all-length : (room : ℕ) (xs : List Op) → length (calls_of room xs) ≡ fill_count room + 2 + call_count xs
all-length room xs =
    let two = length-append (fills room) (Fsync log_path ∷ calls_from 0 xs) in
    let one = fills-length room 0 (fill_count room) in
    let rest = calls-length 0 xs in
    omega (arith, two, one, rest)

-- ---- the script

module _ (s : StoreScript) (is : IsWellFormed s) where
  are : Are (script_calls s)
  are =
      let most = is.room in
      let few = is.few_puts in (
        refl,
        are-append (fills s.room) (Fsync log_path ∷ calls_from 0 s.ops)
            (fills-are s.room 0 (fill_count s.room) most (λ some. omega arith))
            (refl, calls-are 0 s.ops is.puts (omega (arith, most, few))),
      )

  few-calls : (p : List Call) → In p (script_calls s ∷ []) → length p ≤ 10000
  few-calls p (inl e) =
      let few = is.few_calls in
      let size = all-length s.room s.ops in
      subst (λ (x : List Call). length x ≤ 10000) e (omega (arith, few, size))
  few-calls p (inr i) = absurd i

  alone : all_calls (script_calls s ∷ []) ≡ script_calls s
  alone = append-nil (script_calls s)

  -- no more than a block is a map's that has so many bits
  one-block : (n : ℕ) → n < 8192 → div_ceil n 8192 ≤ 1
  one-block n few =
      let most = min-le_left 1 (n % 8192) in
      omega (arith, few, most)

  pub made-sizes : session.AreSizes 32 (s.room + 16) 128
  made-sizes =
      let most = is.room in
      let some = is.some_room in
      record {
        some_inode = lit≤ tt;
        most_inodes = lit≤ tt;
        most_zones = omega (arith, most);
        some_data = omega (arith, most, some, one-block (s.room + 16 + 1) (omega (arith, most)));
        least_journal = lit≤ tt;
        most_journal = lit≤ tt;
      }

  pub made-well_formed : session.IsWellFormed (volume_script s)
  made-well_formed = record {
    sizes = made-sizes;
    width = of_14;
    header = record {
      some_depth = is.header.some_depth;
      depth = is.header.depth;
      some_queue = is.header.some_queue;
      queue = is.header.queue;
      some_limit = lit≤ tt;
      limit = lit≤ tt;
      least_fail = is.header.least_fail;
      most_fail = is.header.most_fail;
      cut = is.header.cut;
      seed = lit≤ tt;
      least_flash = λ n e. absurd (none-some n e);
      most_flash = λ n e. absurd (none-some n e);
    };
    threads = lit≤ tt;
    few_calls = few-calls;
    calls = λ c i. are-In (script_calls s) are c (subst (In c) alone i);
    lines = subst (AreLinesOf (map call_line (script_calls s))) (sym alone) (are-lines (script_calls s) are);
    events = is.events;
    expanded = is.expanded;
    recovers = is.recovers;
    few_recovers = is.few_recovers;
  }
