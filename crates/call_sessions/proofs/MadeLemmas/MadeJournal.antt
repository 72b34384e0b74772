-- A session can be opened on an image that was made: its first blocks are the volume's, and its journal is empty.
use Rattle.std.specs.Prelude.{◌≡◌, ◌≢◌, ◌<◌, ◌≤◌, ◌+◌, ◌-◌, ℕ, Bool, zero, suc, List, [], ◌∷◌, ◌++◌, length, replicate, slice_index_or, refl}
use Rattle.std.proofs.Common.{sym, ap, ◌∙◌, inl, arith}
use Rattle.tree_model.proofs.PlainTrees.{new_born}
use Rattle.minix_host.proofs.OpenedVolumes.{alone_listed}
use Rattle.blk_base.specs.Block.{filled}
use Rattle.byte_fields.specs.Fields.{number_at, number_of}
use Rattle.minix_layout.specs.declared.division.Geometry.{Geometry}
use Rattle.minix_layout.specs.Geometry.{IsSound}
use Rattle.journal_blocks.specs.Header.{magic_of}
use Rattle.journal_blocks.specs.Readers.{header_of, tail_of}
use Rattle.journal_blocks.specs.Super.{super_block}
use Rattle.log_model.specs.Log.{Header, Plain, Commits}
use Rattle.volume_ops.specs.Volume.{disk_of}
use Rattle.volume_model.specs.NewVolume.{root_placed}
use Rattle.volume_model.specs.Trees.{tree_now}
use Rattle.volume_steps.specs.Plain.{IsPlainNow}
use Rattle.mount_make.specs.Made.{made_volume, made_image, new_journal}
use Rattle.mount_make.proofs.Filling.{length-made}
use Rattle.mount_make.proofs.MadeImages.{made_kind}
use Rattle.minix_host.specs.ByteCalls.{ByteCall}
use Rattle.minix_host.specs.Runs.{Event, new_now, IsOpenedVolume, HasEmptyJournal, host_after, KeepsSession}
use Rattle.minix_host.proofs.RealJournal.{super_has, no_header, kind_written}
use Rattle.minix_host.proofs.SessionsKept.{session_runs}
use Rattle.call_sessions.specs.made.MadeSessions.{made_now, made_opening, made_ring}
use Rattle.call_sessions.proofs.MadeLemmas.MadeBytes.{made_bytes}
use Rattle.call_sessions.proofs.MadeLemmas.MadeInUse.{made_in_use}

-- ---- blocks of the image

before : (xs ys : List (List ℕ)) (b : ℕ) (d : List ℕ) → b < length xs → slice_index_or (xs ++ ys) b d ≡ slice_index_or xs b d
before [] ys b d low = absurd (omega arith)
before (x ∷ xs) ys zero d low = refl
before (x ∷ xs) ys (suc b) d low = before xs ys b d (omega arith)

behind : (xs ys : List (List ℕ)) (k : ℕ) (d : List ℕ) → slice_index_or (xs ++ ys) (length xs + k) d ≡ slice_index_or ys k d
behind [] ys k d = (let same : length {A = List ℕ} [] + k ≡ k = omega arith in ap (λ i. slice_index_or ys i d) same)
behind (x ∷ xs) ys k d = (let next : length (x ∷ xs) + k ≡ suc (length xs + k) = omega arith in ap (λ i. slice_index_or (x ∷ (xs ++ ys)) i d) next ∙ behind xs ys k d)

all_blank : (n k : ℕ) → slice_index_or (replicate n (filled 0)) k (filled 0) ≡ filled 0
all_blank zero k = refl
all_blank (suc n) zero = refl
all_blank (suc n) (suc k) = all_blank n k

blank_magic : magic_of (filled 0) ≢ 0xC03B3998
unfolding filled number_at number_of
blank_magic e = absurd (omega arith)

plain_commits : (sequence : ℕ) → ◌≡◌ {A = Header} Plain (Commits sequence) → ⊥
plain_commits sequence e = cc

module _ (g : Geometry) (sound : IsSound g) (journal : ℕ) (wide : Bool) (low : 128 ≤ journal) (high : journal ≤ 16384) (quota : ℕ) (new : IsPlainNow (new_now g)) where
  abbrev rest : List (List ℕ)
  rest = super_block (new_journal journal wide) ∷ replicate (journal - 1) (filled 0)

  volume_block : (b : ℕ) → b < g.zones → disk_of (made_image g journal wide) b ≡ disk_of (made_volume g) b
  volume_block b less = before (made_volume g) rest b (filled 0) (let size = length-made g in omega arith)

  journal_block : (p : ℕ) → disk_of (made_image g journal wide) (g.zones + p) ≡ slice_index_or rest p (filled 0)
  journal_block p = ap (λ n. disk_of (made_image g journal wide) (n + p)) (sym (length-made g)) ∙ behind (made_volume g) rest p (filled 0)

  first_block : disk_of (made_image g journal wide) g.zones ≡ super_block (new_journal journal wide)
  first_block = (let same : g.zones ≡ g.zones + 0 = omega arith in ap (disk_of (made_image g journal wide)) same ∙ journal_block 0)

  log_block : (p : ℕ) → 1 ≤ p → disk_of (made_image g journal wide) (g.zones + p) ≡ filled 0
  log_block zero some = absurd (omega arith)
  log_block (suc k) some = journal_block (suc k) ∙ all_blank (journal - 1) k

  pub made_opened : IsOpenedVolume (made_opening g journal wide quota) (made_now g)
  unfolding tree_now
  made_opened = record {
    plain = made_in_use g sound new;
    geometry = refl;
    tree = refl;
    born = new_born g.width;
    root = record { placed = root_placed g; stands = refl; zone_is = refl };
    bytes = made_bytes g sound;
    image = volume_block;
    listed = λ b m. inl (alone_listed (made_opening g journal wide quota) (made_now g) (made_in_use g sound new) refl (record { placed = root_placed g; stands = refl; zone_is = refl }) refl b m);
    freeable = λ b i. absurd i;
  }

  pub made_empty : (limit : ℕ) → limit + 2 < 4294967296 → HasEmptyJournal (made_opening g journal wide quota) (made_ring journal) limit
  made_empty limit few = record {
    start = ap (λ b. (tail_of b).start) first_block ∙ (super_has (new_journal journal wide)).1.1.1.1.1.1.1.0 (omega arith);
    plain = λ p sequence place since e. plain_commits sequence (sym (ap (header_of wide) (log_block p place.0) ∙ no_header wide (filled 0) blank_magic) ∙ e);
    log = record { first = omega arith; place = (omega arith, omega arith); head = refl; used = refl; started = refl; homes = refl };
    places = omega arith;
    sequences = omega arith;
  }

  pub made_runs : (limit : ℕ) → limit + 2 < 4294967296 → (programs : List (List ByteCall)) (events : List Event) →
      KeepsSession (made_opening g journal wide quota) (host_after (made_opening g journal wide quota) (made_now g) (made_ring journal) limit programs events)
  made_runs limit few programs events =
      session_runs (made_opening g journal wide quota) (made_now g) (made_ring journal) limit programs (kind_written (new_journal journal wide) wide (made_kind journal wide)) made_opened (made_empty limit few) events
