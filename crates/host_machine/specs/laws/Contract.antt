-- What the host is promised of trees and volumes, and what it keeps of images: over its own components.
use Rattle.std.specs.Prelude.{◌≡◌, ℕ, ◌+◌, ◌-◌, ◌<◌, ◌≤◌, ◌⊎◌, true, false, List, length, Option, Some, None, nat_lt}
use Rattle.blk_base.specs.Members.{In}
use Rattle.order_model.specs.OrderClosed.{IsFence}
use Rattle.log_model.specs.Log.{Format}
use Rattle.log_model.specs.Marks.{Transaction}
use Rattle.volume_ops.specs.Reads.{Reads, answer, blocks_read}
use Rattle.page_cache.specs.Pages.{IsRising}
use Rattle.page_cache.specs.declared.cached_page.CachedPage.{CachedPage}
use Rattle.crash_laws.specs.History.{History}
use Rattle.crash_laws.specs.Session.{Session, image_of}
use Rattle.host_machine.specs.Model.{Model, FileBlock, Touched}
use Rattle.host_machine.specs.State.{Entry, Host, Setup}
use Rattle.commit_actor.specs.Journal.{Plan, Phase, Idle, Closing, Committing}
use Rattle.flush_actor.specs.Kinds.{is_begun}
use Rattle.host_machine.specs.Views.{cut_of, tree_after, history_of, waits_for, session_of}
use Rattle.host_machine.specs.laws.Facts.{View, Numbers, Present, Bodies, PlanRevokes, KeepsPlaces, PagesMapped, PagesSent, ZoneHistory, OpenedZones, Altered, OnItsWay}
use Rattle.host_machine.specs.laws.PlanNotes.{IsRestOf, BarrierAhead}

-- what the tree model keeps
pub record TreeLaws {T V C R : Type 0} (M : Model T V C R) : Type 0 where
  -- only a write maps a block, and it leaves it mapped
  pub mapped : (t : T) (n : ℕ) (c : C) (f i : ℕ) → M.maps t f i ≡ false → M.maps (M.call t n c) f i ≡ true → M.writes t c f i ≡ true
  pub written : (t : T) (n : ℕ) (c : C) (f i : ℕ) → M.writes t c f i ≡ true → M.maps (M.call t n c) f i ≡ true
  -- a call that does not change the node neither maps nor unmaps a block of it
  pub same : (t : T) (n : ℕ) (c : C) (f i : ℕ) → M.alters t n c f ≡ false → M.maps (M.call t n c) f i ≡ M.maps t f i

-- a volume stands for the tree that is told of it
abbrev pub StandsAs : {T V : Type 0} → (V → Option T) → V → T → Type 0
StandsAs tree v t = tree v ≡ Some t

-- what a session is over: the tree model and the volume; the walk through an image, and how it finds the block
-- of a page; the image that the session began with, how journal blocks are read, and its metadata: what stays metadata,
-- and the rest, which calls may give up
pub record Over (A T V C R : Type 0) : Type 0 where
  pub model : Model T V C R
  pub setup : Setup
  pub program : Reads A
  pub place : A → T → ℕ → ℕ → ℕ
  pub base : List (List ℕ)
  pub format : Format
  pub reserved : List ℕ
  pub freeable : List ℕ

module _ {A T V C R : Type 0} (o : Over A T V C R) where
  abbrev pub view_of : V → View
  view_of v = record { bytes = o.model.bytes v; metadata = o.model.metadata v; zone = o.model.zone v; quarantine = waits_for (o.model.zones v).waiting }

  -- ---- what the volume promises

  -- of a plain volume that stands for a tree
  pub record StandsFor (v : V) (t : T) : Type 0 where
    pub mapped : (f i z : ℕ) → o.model.zone v f i ≡ Some z → o.model.maps t f i ≡ true
    pub content : (f i z : ℕ) → o.model.zone v f i ≡ Some z → o.model.bytes v z ≡ o.model.content t f i
    pub there : (f i : ℕ) → o.model.maps t f i ≡ true → (z : ℕ) × (o.model.zone v f i ≡ Some z)
    pub metadata_free : (b : ℕ) → o.model.metadata v b ≡ true → waits_for (o.model.zones v).waiting b ≡ None
    pub page_free : (f i b : ℕ) → o.model.zone v f i ≡ Some b → (o.model.metadata v b ≡ false) × (waits_for (o.model.zones v).waiting b ≡ None)
    pub one_page : (f i g j b : ℕ) → o.model.zone v f i ≡ Some b → o.model.zone v g j ≡ Some b → (f ≡ g) × (i ≡ j)
    pub metadata_low : (b : ℕ) → o.model.metadata v b ≡ true → b < o.setup.journal
    pub page_low : (f i b : ℕ) → o.model.zone v f i ≡ Some b → b < o.setup.journal
    pub reserved : (b : ℕ) → In b o.reserved → o.model.metadata v b ≡ true
    pub walk : (b : ℕ) → In b (blocks_read (o.model.bytes v) o.program) → o.model.metadata v b ≡ true
    pub places : (f i z : ℕ) → o.model.zone v f i ≡ Some z → o.place (answer (o.model.bytes v) o.program) t f i ≡ z

  -- of a call that is done as call number n in transaction r, where the tree was t before
  pub record Tells (t : T) (n r : ℕ) (c : C) (old new : V) (d : Touched) : Type 0 where
    -- fresh metadata is touched, also where its bytes come out as the old ones
    pub fresh : (b : ℕ) → o.model.metadata new b ≡ true → (o.model.metadata old b ≡ true) ⊎ In b d.blocks
    -- metadata that goes is revoked; a revoked zone is freed, is no metadata after, and none of the base image's
    pub gone : (b : ℕ) → o.model.metadata old b ≡ true → o.model.metadata new b ≡ false → In b d.revoked
    pub revoked : (b : ℕ) → In b d.revoked → (o.model.metadata new b ≡ false) × In b d.freed × (In b o.reserved → ⊥)
    -- metadata that is not touched keeps its bytes; what is touched and not revoked is metadata
    pub same_bytes : (b : ℕ) → o.model.metadata old b ≡ true → o.model.metadata new b ≡ true → (In b d.blocks → ⊥) → o.model.bytes new b ≡ o.model.bytes old b
    pub blocks : (b : ℕ) → In b d.blocks → In b d.revoked ⊎ (o.model.metadata new b ≡ true)
    -- a freed zone did not wait, and waits for r; no other zone begins or ends to wait
    pub freed : (z : ℕ) → In z d.freed → (waits_for (o.model.zones old).waiting z ≡ None) × (waits_for (o.model.zones new).waiting z ≡ Some r)
    pub not_freed : (z : ℕ) → (In z d.freed → ⊥) → waits_for (o.model.zones new).waiting z ≡ waits_for (o.model.zones old).waiting z
    -- the pages are the blocks that the call wrote; the dropped ones those that it unmapped, and freed
    pub written : (w : FileBlock) → In w d.pages → (o.model.writes t c w.birth w.index ≡ true) × (o.model.zone new w.birth w.index ≡ Some w.block)
    pub all_written : (f i : ℕ) → o.model.writes t c f i ≡ true → (w : FileBlock) × In w d.pages × (w.birth ≡ f) × (w.index ≡ i)
    pub dropped : (x : FileBlock) → In x d.dropped → o.model.zone new x.birth x.index ≡ None
    pub all_dropped : (f i z : ℕ) → o.model.zone old f i ≡ Some z → o.model.zone new f i ≡ None → In z d.freed × ((x : FileBlock) × In x d.dropped × (x.birth ≡ f) × (x.index ≡ i))
    -- a block that stays mapped keeps its zone
    pub same_zone : (f i z y : ℕ) → o.model.zone old f i ≡ Some z → o.model.zone new f i ≡ Some y → y ≡ z
    -- each node that it changed is listed, a file with a new block too; for a listed file that has a block, metadata
    -- of the base image is touched
    pub all_nodes : (f : ℕ) → o.model.alters t n c f ≡ true → In f d.nodes
    pub newly : (f i z : ℕ) → o.model.zone old f i ≡ None → o.model.zone new f i ≡ Some z → In f d.nodes
    pub nodes : (f i z : ℕ) → In f d.nodes → o.model.zone new f i ≡ Some z → (b : ℕ) × In b d.blocks × In b o.reserved

  module _ (Stands : V → T → Type 0) where
    pub record Contract : Type 0 where
      pub trees : TreeLaws o.model
      pub plain : (v : V) (t : T) → Stands v t → StandsFor v t
      -- a plain call that is not refused, and whose need of zones is met
      pub applied : (v : V) (t : T) (n r : ℕ) (c : C) → Stands v t → o.model.reply v c ≡ None → is_begun (o.model.kind c) ≡ false
          → (o.model.hinders v c ≡ true → nat_lt (length (o.model.zones v).free) (o.model.needs v c) ≡ false)
          → Stands (o.model.apply v n r c).volume (o.model.call t n c) × Tells t n r c v (o.model.apply v n r c).volume (o.model.apply v n r c).touched
      -- a refused call does nothing to the tree, nor does a barrier or sync call
      pub refused : (v : V) (t : T) (n : ℕ) (c : C) (why : R) → Stands v t → o.model.reply v c ≡ Some why
          → (o.model.call t n c ≡ t) × ((f i : ℕ) → o.model.writes t c f i ≡ false) × ((f : ℕ) → o.model.alters t n c f ≡ false)
      pub begun : (t : T) (n : ℕ) (c : C) → is_begun (o.model.kind c) ≡ true
          → (o.model.call t n c ≡ t) × ((f i : ℕ) → o.model.writes t c f i ≡ false) × ((f : ℕ) → o.model.alters t n c f ≡ false)
      -- a release changes nothing but that no zone waits for k
      pub released : (v : V) (t : T) (k : ℕ) → Stands v t → Stands (o.model.release v k) t
      pub same_bytes : (v : V) (k : ℕ) → o.model.bytes (o.model.release v k) ≡ o.model.bytes v
      pub same_metadata : (v : V) (k : ℕ) → o.model.metadata (o.model.release v k) ≡ o.model.metadata v
      pub same_zones : (v : V) (k : ℕ) → o.model.zone (o.model.release v k) ≡ o.model.zone v
      pub waits_on : (v : V) (k j z : ℕ) → k < j → waits_for (o.model.zones v).waiting z ≡ Some j → waits_for (o.model.zones (o.model.release v k)).waiting z ≡ Some j

    -- What a walk finds is alike to tree t: the walk through a plain volume that stands for t finds it.
    abbrev pub IsAlike : A → T → Type 0
    IsAlike found t = (v : V) × Stands v t × (answer (o.model.bytes v) o.program ≡ found)

    -- ---- what the host keeps

    module _ (es : List (Entry C R)) (cuts : List ℕ) where
      abbrev pub noted_history : History A
      noted_history = history_of o.model o.place es cuts

      -- The transaction before the running one is on its way, with this plan: what is left of it, the nodes that the
      -- transaction changed, and what its commit block will owe. Where one of them is a file with a
      -- block, a request of the plan before the commit block is a barrier, sent or still to be sent.
      pub record InPlan (s : Session) (r N : ℕ) (p : Plan) : Type 0 where
        pub on_way : N + 2 ≡ r
        pub rest : IsRestOf (r - 1) p.rest
        pub listed : (f : ℕ) → noted_history.changes (r - 1) f ≡ true → In f p.changed
        pub from : ℕ
        pub within : from ≤ length s.notes
        pub owed : OnItsWay o.program noted_history s (r - 1) from
        pub barred : (f i : ℕ) → In f p.changed → noted_history.maps (noted_history.cut (r - 1)) f i ≡ true → BarrierAhead p.rest ⊎ ((b : ℕ) × (from ≤ b) × IsFence s.requests b)

      abbrev pub InPhase : Session → ℕ → ℕ → Phase → Type 0
      InPhase s r N Idle = N + 1 ≡ r
      InPhase s r N Closing = N + 1 ≡ r
      InPhase s r N (Committing p) = InPlan s r N p

      pub record ImagesFacts (s : Session) (r : ℕ) (touched revoked changed : List ℕ) (phase : Phase) (v : V) (pages : List CachedPage) (N : ℕ) : Type 0 where
        pub counted : length s.notes ≡ length s.requests
        pub closed : length cuts + 1 ≡ r
        pub rise : (k : ℕ) → cut_of cuts (length es) k ≤ cut_of cuts (length es) (k + 1)
        pub stands : Stands v (tree_after o.model es (length es))
        pub numbers : Numbers noted_history s (length es) r N
        pub present : Present s r (view_of v) touched
        pub bodies : Bodies s r (view_of v) touched revoked
        pub plan_revokes : PlanRevokes s r N (view_of v)
        -- the image of each closed transaction is alike to the tree at its end
        pub alike : (k : ℕ) → k < r → IsAlike (answer (image_of s k) o.program) (tree_after o.model es (cut_of cuts (length es) k))
        pub places : KeepsPlaces o.program noted_history s (length es) r (view_of v)
        pub mapped : PagesMapped noted_history (length es) (view_of v) pages
        pub rising : IsRising pages
        pub sent : PagesSent s pages
        pub zones : ZoneHistory noted_history s (length es) N (view_of v)
        pub opened : OpenedZones o.program noted_history s (length es) r N (view_of v) revoked
        pub altered : Altered noted_history s r (view_of v) touched changed
        pub in_phase : InPhase s r N phase

    -- of a host; `txs` are the bodies and revokes of its closed transactions, and N of them are submitted
    abbrev pub session : List Transaction → Host V C R → Session
    session txs s = session_of o.model o.setup o.base o.format o.reserved o.freeable txs s

    abbrev pub KeepsImages : Host V C R → List Transaction → ℕ → Type 0
    KeepsImages s txs N =
        ImagesFacts s.history s.cuts (session txs s) s.journal.running.number s.journal.running.touched s.journal.running.revoked s.journal.running.changed s.journal.phase s.volume s.pages N
        × (length txs + 1 ≡ s.journal.running.number)
