-- The tree of what was recovered shows what is on the recovered disk.
use Rattle.std.specs.Prelude.{◌≡◌, ℕ, Bool, ◌<◌, true, List, [], Some, None, Result, Ok, Err, slice_get}
use Rattle.std.proofs.Common.{sym, ap, subst, ◌∙◌, inl, inr, ⊎_elim, arith}
use Rattle.std.proofs.lemmas.Bool.{cases_lt}
use Rattle.std.proofs.lemmas.List.{get_or-take}
use Rattle.std.proofs.lemmas.Option.{same_Some}
use Rattle.minix_layout.specs.declared.division.Geometry.{Geometry}
use Rattle.order_model.specs.declared.note.Note.{Note}
use Rattle.order_model.specs.declared.note.Note.TheVariants.{Page}
use Rattle.order_model.specs.OrderClosed.{HasOrigin, IsOrderClosed}
use Rattle.log_model.specs.Marks.{Transaction}
use Rattle.tree_model.specs.declared.call.Call.{Call}
use Rattle.tree_model.specs.declared.call.Reply.{Reply}
use Rattle.tree_model.specs.Calls.{Tree}
use Rattle.tree_model.specs.Histories.{block_at, maps_block}
use Rattle.tree_model.specs.Rooted.{IsRooted}
use Rattle.tree_model.specs.Trees.{AreAlike}
use Rattle.volume_ops.specs.Reads.{Reads, answer}
use Rattle.volume_ops.specs.Volume.{disk_of, walked, tree_of}
use Rattle.volume_ops.specs.Walk.{walk_volume}
use Rattle.volume_ops.specs.Zones.{Fault}
use Rattle.volume_ops.specs.laws.ReadsLaws.{err-ok, same_Ok}
use Rattle.volume_steps.specs.Now.{VolumeNow}
use Rattle.crash_laws.specs.History.{History, last_write, IsLastChange}
use Rattle.crash_laws.specs.PromiseRules.{IsLaterKept}
use Rattle.crash_laws.specs.PageRules.{place_at}
use Rattle.crash_laws.specs.Recovery.{IsRecovered, IsOf, Sent, Opened, HasVersion}
use Rattle.crash_laws.specs.Session.{Session, Medium}
use Rattle.crash_laws.specs.Volumes.{WalkEnd}
use Rattle.crash_laws.proofs.Histories.{last_change}
use Rattle.host_machine.specs.State.{Host}
use Rattle.host_machine.specs.Views.{tree_after}
use Rattle.minix_host.specs.Paths.{place_in}
use Rattle.tree_model.proofs.PlainTrees.{new_born}
use Rattle.minix_host.specs.PlainTrees.{PlainTree, root_tree}
use Rattle.minix_host.proofs.Numbered.{trees_are}
use Rattle.mount_make.specs.Images.{FaultPlace, image_fault, divided, fault_in_journal, recovered_from, volume_in, by_journal, by_walk, by_geometry, recovered_by, recovered_image, tree_after as tree_behind_mount, image_tree}
use Rattle.mount_make.specs.Made.{made_image}
use Rattle.call_sessions.specs.Sessions.{KeepsCalls, call_over}
use Rattle.call_sessions.specs.power_cuts.calls.CallImages.{opening_on, submitted_by, kept_count, kept_tree, KeepsFiles, history_of, place_of, IsShown, AreNewer, ShowsFiles}
use Rattle.call_sessions.proofs.PowerCutsLemmas.CallsLemmas.ShownBlocks.{page_shown}

-- ---- one place has one version

same_page : (f i v w : ℕ) → ◌≡◌ {A = Note} (Page f i v) (Page f i w) → v ≡ w
same_page f i v w e = cc

module _ {A : Type 0} (program : Reads A) (told : History A) (s : Session) (m : Medium) (F f i : ℕ) where
  one_version : (v w : ℕ) (x : HasVersion program told s m F f i v) (y : HasVersion program told s m F f i w) → x.version ≡ y.version
  one_version v w x y = by x.source y.source
    where
      by : {a b : ℕ} → IsOf s m f i a (place_at program told s F f i) → IsOf s m f i b (place_at program told s F f i) → a ≡ b
      by {a = a} {b = b} (Sent o note held) (Sent q other there) =
          let same : o ≡ q = same_Some o q (same_Some (Some o) (Some q) (sym held ∙ there)) in
          same_page f i a b (same_Some (Page f i a) (Page f i b) (sym note ∙ (ap (λ o. slice_get s.notes o) same ∙ other)))
      by (Sent o note held) (Opened e none) = absurd (none o held)
      by (Opened e none) (Sent q other there) = absurd (none q there)
      by (Opened e none) (Opened f other) = e ∙ sym f

-- ---- the volume that is mounted

module _ (g : Geometry) (image : List (List ℕ)) (division : divided image ≡ Ok g) where
  recovered_is : recovered_image image ≡ recovered_from g.zones image
  recovered_is = ap (recovered_by image) division

  -- it has the bytes that recovery left
  volume_bytes : (b : ℕ) → b < g.zones → disk_of (volume_in g image) b ≡ disk_of (recovered_image image) b
  volume_bytes b low = get_or-take g.zones (recovered_from g.zones image) b _ low ∙ ap (λ i. disk_of i b) (sym recovered_is)

  tree_ended : (tree : Tree) (r : Result Tree Fault) → (elim r as (λ _. Result Tree FaultPlace) [ Ok tree ↦ Ok tree | Err fault ↦ Err (image_fault fault.0, fault.1) ]) ≡ Ok tree → r ≡ Ok tree
  tree_ended tree (Ok other) e = ap Ok (same_Ok other tree e)
  tree_ended tree (Err fault) e = absurd (err-ok (image_fault fault.0, fault.1) tree e)

  tree_by : (tree : Tree) (r : WalkEnd) → tree_behind_mount (by_walk g (volume_in g image) r) ≡ Ok tree → tree_of g (volume_in g image) ≡ Ok tree
  tree_by tree (Ok all) e = tree_ended tree (tree_of g (volume_in g image)) e
  tree_by tree (Err fault) e = absurd (err-ok (image_fault fault.0, fault.1) tree e)

  -- and the tree that is shown is its tree
  volume_tree : fault_in_journal g.zones image ≡ None → (tree : Tree) → image_tree image ≡ Ok tree → tree_of g (volume_in g image) ≡ Ok tree
  volume_tree fine tree is =
      tree_by tree (walked g (volume_in g image))
      (sym (ap (λ r. tree_behind_mount (by_geometry image r)) division ∙ ap (λ o. tree_behind_mount (by_journal g image o)) fine) ∙ is)

-- ---- the walk through it

module _ (g : Geometry) (journal : ℕ) (wide : Bool) (h : Host VolumeNow Call Reply) (m : Medium) (division : divided m.image ≡ Ok g) (session : KeepsCalls (opening_on g journal wide) h)
    (order : IsOrderClosed (made_image g journal wide) h.journal.flush.requests m.image m.origins)
    (recovers : IsRecovered (submitted_by g journal wide session.closed h) m (disk_of (recovered_image m.image))) where
  -- it finds what the walk through the recovered disk finds: both find what there is in one image
  pub same_walk : answer (disk_of (recovered_image m.image)) (walk_volume g) ≡ answer (disk_of (volume_in g m.image)) (walk_volume g)
  same_walk =
      (session.sentences.prefix m (disk_of (recovered_image m.image)) order recovers).tree
      ∙ sym (session.sentences.prefix m (disk_of (volume_in g m.image)) order (λ b low. volume_bytes g m.image division b low ∙ recovers b low)).tree

-- ---- what it shows

module _ (g : Geometry) (journal : ℕ) (wide : Bool) (closed : List Transaction) (h : Host VolumeNow Call Reply) (m : Medium) (tree : Tree)
    (division : divided m.image ≡ Ok g) (fine : fault_in_journal g.zones m.image ≡ None) (shown : image_tree m.image ≡ Ok tree)
    (walk : answer (disk_of (recovered_image m.image)) (walk_volume g) ≡ answer (disk_of (volume_in g m.image)) (walk_volume g))
    (alike : AreAlike (kept_tree g journal wide h m) tree) (files : KeepsFiles g journal wide closed h m (disk_of (recovered_image m.image))) where
  abbrev told : History WalkEnd
  told = history_of g journal wide h

  abbrev kept : ℕ
  kept = kept_count g journal wide h m

  abbrev after : PlainTree
  after = tree_after (call_over (opening_on g journal wide)).model h.history (told.cut kept)

  -- the history is read over the tree that is shown
  behind : after.tree ≡ kept_tree g journal wide h m
  behind = trees_are (λ (c : Call). c) g (root_tree g.width) 0 (new_born g.width) h.history (told.cut kept)

  abbrev program : Reads WalkEnd
  program = walk_volume g

  abbrev Has : ℕ → ℕ → ℕ → Type 0
  Has f i n = HasVersion program told (submitted_by g journal wide closed h) m kept f i n

  abbrev recovered : ℕ → List ℕ
  recovered = disk_of (recovered_image m.image)

  -- where the recovered disk has a block
  abbrev place : ℕ → ℕ → ℕ
  place f i = told.place (answer recovered program) (told.cut kept) f i

  place_is : (f i : ℕ) → place_in (walked g (volume_in g m.image)) (kept_tree g journal wide h m) f i ≡ place f i
  unfolding walked
  place_is f i = ap (λ t. place_in (answer (disk_of (volume_in g m.image)) (walk_volume g)) t f i) (sym behind) ∙ ap (λ w. place_in w after.tree f i) (sym walk)

  block_shown : (f i n : ℕ) → told.maps (told.cut kept) f i ≡ true → (x : Has f i n) → recovered (place f i) ≡ told.content f i x.version → block_at tree (alike.to f) i ≡ Some (told.content f i x.version)
  block_shown f i n mapped x has =
      page_shown g (volume_in g m.image) (kept_tree g journal wide h m) tree (subst IsRooted behind after.plain.rooted) (volume_tree g m.image division fine tree shown) alike f i
      (subst (λ t. maps_block t f i ≡ true) behind mapped)
      ∙ ap Some (ap (disk_of (volume_in g m.image)) (place_is f i)
      ∙ (volume_bytes g m.image division (place f i) (subst (λ b. b < g.zones) (sym (files.places f i)) x.low) ∙ has))

  -- what is told of a source reads the notes alone
  shown_source : {f i z y : ℕ} (n : ℕ) → z ≡ y → IsOf (submitted_by g journal wide closed h) m f i n z → IsOf (submitted_by g journal wide [] h) m f i n y
  shown_source n e (Sent o note held) = Sent o note (subst (λ b. HasOrigin m.origins b o) e held)
  shown_source n e (Opened zero_is none) = Opened zero_is (subst (λ b. (o : ℕ) → HasOrigin m.origins b o → ⊥) e none)

  -- the version whose request the medium has is the one that is shown
  is_shown : (f i n : ℕ) → told.maps (told.cut kept) f i ≡ true → (x : Has f i n) → recovered (place f i) ≡ told.content f i x.version → IsShown g journal wide h m tree alike.to f i n
  is_shown f i n mapped x has = record {
    version = x.version;
    later = x.later;
    mapped = x.mapped;
    shown = block_shown f i n mapped x has;
    source = shown_source x.version (sym (files.places f i)) x.source;
  }

  placed : (f i : ℕ) → told.maps (told.cut kept) f i ≡ true → block_at tree (alike.to f) i ≡ Some (recovered (place f i))
  placed f i mapped =
      let k = last_change {h = told} f kept in
      let v = files.versions f i k.0 mapped k.1 in
      block_shown f i (last_write told f i (told.cut k.0)) mapped v.0 v.1 ∙ ap Some (sym v.1)

  latest : (f i k : ℕ) → told.maps (told.cut kept) f i ≡ true → IsLastChange told f kept k → IsShown g journal wide h m tree alike.to f i (last_write told f i (told.cut k))
  latest f i k mapped last = (let v = files.versions f i k mapped last in is_shown f i (last_write told f i (told.cut k)) mapped v.0 v.1)

  survived : (f i n : ℕ) → told.maps (told.cut kept) f i ≡ true → Has f i n → IsShown g journal wide h m tree alike.to f i n
  survived f i n mapped x =
      let k = last_change {h = told} f kept in
      let v = files.versions f i k.0 mapped k.1 in
      let same : v.0.version ≡ x.version = one_version program told (submitted_by g journal wide closed h) m kept f i (last_write told f i (told.cut k.0)) n v.0 x in
      is_shown f i n mapped x (v.1 ∙ ap (told.content f i) same)

  pub shows_files : ShowsFiles g journal wide closed h m tree alike.to
  shows_files = record {
    placed = placed;
    latest = latest;
    settled = λ f i n. ⊎_elim (λ x. inl (survived f i n x.0 x.1)) inr;
  }

-- ---- what is shown survived

module _ (g : Geometry) (journal : ℕ) (wide : Bool) (closed : List Transaction) (h : Host VolumeNow Call Reply) (m : Medium) (tree : Tree) (to : ℕ → ℕ) (base : List (List ℕ))
    (order : IsOrderClosed base h.journal.flush.requests m.image m.origins) (shows : ShowsFiles g journal wide closed h m tree to) where
  abbrev in_history : History WalkEnd
  in_history = history_of g journal wide h

  abbrev count : ℕ
  count = kept_count g journal wide h m

  -- where bytes are shown that are newer than entry e, the request that carried them is of a later entry
  pub later_kept : (f i e : ℕ) (bytes : List ℕ) → in_history.maps (in_history.cut count) f i ≡ true → block_at tree (to f) i ≡ Some bytes → AreNewer in_history f i e bytes
      → IsLaterKept in_history (submitted_by g journal wide [] h) m count e
  later_kept f i e bytes mapped at newer =
      let k = last_change {h = in_history} f count in
      let x = shows.latest f i k.0 mapped k.1 in
      let same : in_history.content f i x.version ≡ bytes = same_Some (in_history.content f i x.version) bytes (sym x.shown ∙ at) in
      let late : e < x.version = ⊎_elim (λ lt. lt) (λ low. absurd (newer x.version low same)) (cases_lt e x.version) in
      by x.version late x.source
    where
      by : (n : ℕ) → e < n → IsOf (submitted_by g journal wide [] h) m f i n (place_of g journal wide h m f i) → IsLaterKept in_history (submitted_by g journal wide [] h) m count e
      by n late (Opened zero_is none) = absurd (omega arith)
      by n late (Sent o note held) =
          inl (o, f, i, n, note, late, record { block = place_of g journal wide h m f i; put = order.block_of (place_of g journal wide h m f i) o held; origin = o; held = held; later = omega arith })
