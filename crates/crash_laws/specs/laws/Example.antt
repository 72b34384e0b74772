-- A session that keeps all rules, over a toy volume: a file of one block at block 2, metadata in block 1, and a journal
-- at block 4 with three places, so that the second transaction goes where the first one was.
use Rattle.std.specs.Prelude.{ℕ, zero, suc, ◌+◌, ◌==◌, Bool, true, false, ◌&&◌, ◌||◌, nat_le, List, [], ◌∷◌, length, take, Some, ◌≡◌, refl}
use Rattle.order_model.specs.declared.completion.Completion.{Completion}
use Rattle.order_model.specs.declared.completion.Completion.TheVariants.{Flushed}
use Rattle.order_model.specs.declared.request.Request.{Request}
use Rattle.order_model.specs.declared.request.Kind.TheVariants as kinds
use Rattle.order_model.specs.declared.note.Note.{Note}
use Rattle.order_model.specs.declared.note.Note.TheVariants.{Page, Super, Descriptor, Body, Commit, Home, Flush}
use Rattle.volume_ops.specs.Reads.{Reads, Ret, Read}
use Rattle.log_model.specs.Log.{Header, Plain, Describes, Commits, Format, Tail}
use Rattle.log_model.specs.Marks.{Transaction}
use Rattle.crash_laws.specs.History.{History}
use Rattle.crash_laws.specs.PromiseRules.{BegunCall}
use Rattle.crash_laws.specs.Session.{Session}
use Rattle.crash_laws.specs.laws.Submitting.{Submitting}

-- ---- a format of a few numbers: 2, the sequence and a block; 1 and the sequence; or a body

abbrev pub header : List ℕ → Header
header (suc (suc zero) ∷ seq ∷ block ∷ []) = Describes seq (record { block = block; escaped = false } ∷ [])
header (suc zero ∷ seq ∷ []) = Commits seq
header other = Plain

abbrev pub tail : List ℕ → Tail
tail (seq ∷ start ∷ []) = record { sequence = seq; start = start }
tail other = record { sequence = 0; start = 0 }

abbrev pub format : Format
format = record { header = header; restore = λ tag body. body; tail = tail }

-- ---- the volume, whose walk reads one block

abbrev pub program : Reads (List ℕ)
program = Read 1 (λ body. Ret body)

-- transaction k logs block 1
abbrev pub logged : ℕ → Transaction
logged k = record { bodies = record { block = 1; body = (6 + k) ∷ [] } ∷ []; revokes = [] }

-- ---- the calls: file 5 is made and written by entry 2, and written again by entry 3

abbrev pub is_page : ℕ → ℕ → Bool
is_page f i = (f == 5) && (i == 0)

abbrev pub cut : ℕ → ℕ
cut zero = 0
cut (suc zero) = 2
cut (suc (suc k)) = 3

abbrev pub history : History (List ℕ)
history = record {
  cut = cut;
  maps = λ n f i. is_page f i && nat_le 2 n;
  writes = λ n f i. is_page f i && ((n == 2) || (n == 3));
  content = λ f i n. n ∷ [];
  changes = λ k f. (f == 5) && (k == 1);
  place = λ found n f i. 2;
}

-- ---- the requests

abbrev pub put : Bool → Bool → ℕ → ℕ → List ℕ → Request
put ordered barrier id block body = record { id = id; kind = kinds.Put block body; ordered = ordered; barrier = barrier }

abbrev pub requests : List Request
requests =
    put true false 0 2 (2 ∷ [])
    ∷ put true true 1 4 (1 ∷ 1 ∷ [])
    ∷ put true false 2 5 (2 ∷ 1 ∷ 1 ∷ [])
    ∷ put true true 3 6 (7 ∷ [])
    ∷ put true true 4 7 (1 ∷ 1 ∷ [])
    ∷ put true true 5 1 (7 ∷ [])
    ∷ put true true 6 4 (2 ∷ 1 ∷ [])
    ∷ put false false 7 2 (3 ∷ [])
    ∷ put true false 8 5 (2 ∷ 2 ∷ 1 ∷ [])
    ∷ put true true 9 6 (8 ∷ [])
    ∷ put true true 10 7 (1 ∷ 2 ∷ [])
    ∷ record { id = 11; kind = kinds.Flush; ordered = true; barrier = true }
    ∷ []

abbrev pub notes : List Note
notes =
    Page 5 0 2
    ∷ Super
    ∷ Descriptor 1
    ∷ Body 1 1
    ∷ Commit 1
    ∷ Home 1
    ∷ Super
    ∷ Page 5 0 3
    ∷ Descriptor 2
    ∷ Body 2 1
    ∷ Commit 2
    ∷ Flush
    ∷ []

-- the session with the first n requests
abbrev pub with_first : ℕ → Session
with_first n = record {
  base = [] ∷ [] ∷ [] ∷ [] ∷ [] ∷ [] ∷ [] ∷ [] ∷ [];
  requests = take n requests;
  notes = take n notes;
  format = format;
  journal = 4;
  ring = record { first = 1; past = 4 };
  head = 1;
  sequence = 1;
  transactions = logged;
  reserved = 1 ∷ [];
  freeable = [];
}

-- one request more
abbrev pub submit : (n : ℕ) → length (with_first n).notes ≡ length (with_first n).requests → Request → Note → Submitting
submit n counted request note = record { session = with_first n; counted = counted; request = request; note = note; transactions = logged; same = λ k i h. refl }

-- ---- the twelve steps

abbrev pub page_written : Submitting
page_written = submit 0 refl (put true false 0 2 (2 ∷ [])) (Page 5 0 2)

abbrev pub first_super : Submitting
first_super = submit 1 refl (put true true 1 4 (1 ∷ 1 ∷ [])) Super

abbrev pub first_descriptor : Submitting
first_descriptor = submit 2 refl (put true false 2 5 (2 ∷ 1 ∷ 1 ∷ [])) (Descriptor 1)

abbrev pub first_body : Submitting
first_body = submit 3 refl (put true true 3 6 (7 ∷ [])) (Body 1 1)

abbrev pub first_commit : Submitting
first_commit = submit 4 refl (put true true 4 7 (1 ∷ 1 ∷ [])) (Commit 1)

abbrev pub home_written : Submitting
home_written = submit 5 refl (put true true 5 1 (7 ∷ [])) (Home 1)

abbrev pub second_super : Submitting
second_super = submit 6 refl (put true true 6 4 (2 ∷ 1 ∷ [])) Super

abbrev pub page_overwritten : Submitting
page_overwritten = submit 7 refl (put false false 7 2 (3 ∷ [])) (Page 5 0 3)

abbrev pub second_descriptor : Submitting
second_descriptor = submit 8 refl (put true false 8 5 (2 ∷ 2 ∷ 1 ∷ [])) (Descriptor 2)

abbrev pub second_body : Submitting
second_body = submit 9 refl (put true true 9 6 (8 ∷ [])) (Body 2 1)

abbrev pub second_commit : Submitting
second_commit = submit 10 refl (put true true 10 7 (1 ∷ 2 ∷ [])) (Commit 2)

abbrev pub flushed : Submitting
flushed = submit 11 refl (record { id = 11; kind = kinds.Flush; ordered = true; barrier = true }) Flush

-- an fsync of the file that begins as entry 3, which covers what entry 2 wrote
abbrev pub synced : BegunCall
synced = record { begin = 3; file = Some 5; metadata = true }

-- the flush was answered
abbrev pub completions : List Completion
completions = Flushed 11 ∷ []
