-- The sentences on a power cut, over a submitted list, its history, the medium and the recovered disk.
use Rattle.std.specs.Prelude.{◌≡◌, ℕ, ◌≤◌, true, List}
use Rattle.blk_base.specs.Members.{In}
use Rattle.order_model.specs.declared.completion.Completion.{Completion}
use Rattle.volume_ops.specs.Reads.{Reads, answer, blocks_read}
use Rattle.crash_laws.specs.Found.{IsFound}
use Rattle.crash_laws.specs.History.{History, last_write, IsLastChange}
use Rattle.crash_laws.specs.PageRules.{place_at}
use Rattle.crash_laws.specs.PromiseRules.{BegunCall, Covers, CoversEntry, KeepsBarrier, KeepsSync, IsSettled, IsLaterKept}
use Rattle.crash_laws.specs.Recovery.{HasVersion}
use Rattle.crash_laws.specs.Session.{Session, Medium, image_of}

module _ {A : Type 0} (program : Reads A) (h : History A) (s : Session) (m : Medium) (disk : ℕ → List ℕ) where
  -- what `disk`, the recovered one, has to do with the history; F is the number of commit blocks that were kept
  pub record HoldsPrefix (F : ℕ) : Type 0 where
    -- the kept commit blocks are those of transactions 1 to F
    pub transactions : IsFound s m F
    -- the walk finds what it finds in the image of transaction F, by the same blocks and with the same places
    pub tree : answer disk program ≡ answer (image_of s F) program
    pub metadata : blocks_read disk program ≡ blocks_read (image_of s F) program
    pub places : (f i : ℕ) → h.place (answer disk program) (h.cut F) f i ≡ place_at program h s F f i
    -- each mapped block has a version that is no older than the last one of the last transaction that
    -- changed the file's size or zones; and recovery did not write it
    pub versions : (f i k : ℕ) → h.maps (h.cut F) f i ≡ true → IsLastChange h f F k
        → (t : HasVersion program h s m F f i (last_write h f i (h.cut k))) × (disk (h.place (answer disk program) (h.cut F) f i) ≡ h.content f i t.version)

module _ {A : Type 0} (program : Reads A) (h : History A) (s : Session) (m : Medium) where
  -- F is the number of kept commit blocks, and `sent` what the device has reported
  pub record KeepsPromises (F : ℕ) (sent : List Completion) : Type 0 where
    -- a barrier call that answered Ok at e: where a later write survived, all that it covers did
    pub barriers : (c : BegunCall) (e : ℕ) → KeepsBarrier h s e (Covers h c) (CoversEntry c) → IsLaterKept h s m F e
        → ((f i n : ℕ) → Covers h c f i n → IsSettled program h s m F f i n) × ((n : ℕ) → CoversEntry c n → n ≤ h.cut F)
    -- a sync call that answered Ok: all that it covers survived
    pub syncs : (c : BegunCall) (taken : List Completion) → ((o : Completion) → In o taken → In o sent) → KeepsSync h s taken (Covers h c) (CoversEntry c)
        → ((f i n : ℕ) → Covers h c f i n → IsSettled program h s m F f i n) × ((n : ℕ) → CoversEntry c n → n ≤ h.cut F)
