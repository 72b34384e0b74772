-- What a call tells the host.
use Rattle.std.specs.List.{range_with_len}
use Rattle.std.specs.Prelude.{◌≡◌, ◌≢◌, ◌+◌, ◌<◌, ◌⊎◌, ℕ, true, false, List, map, length, nat_lt, Some, None, refl, not}
use Rattle.std.proofs.Common.{sym, ap, subst, ◌∙◌, inl, inr, ⊎_elim, arith, ltb-false}
use Rattle.std.proofs.lemmas.Bool.{cases_Bool, true≢false}
use Rattle.std.proofs.lemmas.Option.{none-some, same_Some}
use Rattle.blk_base.specs.Members.{In}
use Rattle.blk_base.specs.laws.Members.{In-map, map-In}
use Rattle.minix_layout.specs.declared.division.Geometry.{Geometry}
use Rattle.tree_model.specs.declared.call.Call.{Call}
use Rattle.tree_model.specs.declared.call.Call.TheVariants as calls
use Rattle.tree_model.specs.Calls.{tree_after, needs}
use Rattle.tree_model.specs.Histories.{same_file, maps_block, writes}
use Rattle.tree_model.specs.Maps.{at_number}
use Rattle.tree_model.proofs.Zones.{needs_none}
use Rattle.volume_steps.proofs.TakeSteps.{none_born}
use Rattle.minix_tables.specs.zones.Zones.{state_of}
use Rattle.volume_model.specs.Touched.{IsMeta, Page, Tells as TellsBlocks}
use Rattle.volume_steps.specs.Calls.{called}
use Rattle.volume_steps.specs.Now.{VolumeNow, tree_of_now, room_of}
use Rattle.volume_steps.specs.Plain.{IsPlainNow}
use Rattle.volume_steps.specs.Called.{FindsRoom}
use Rattle.volume_steps.proofs.AllCalls.{IsAnyCall, any_call, file_listed}
use Rattle.volume_steps.proofs.GoneFiles.{in_from}
use Rattle.volume_steps.proofs.PlainNow.{tree_is_plain}
use Rattle.host_machine.specs.Model.{FileBlock}
use Rattle.host_machine.specs.Views.{waits_for}
use Rattle.host_machine.specs.laws.Contract.{Tells}
use Rattle.minix_host.specs.ByteCalls.{ByteCall}
use Rattle.minix_host.specs.Calls.{refusal, needed, would_change, file_block, done_as, names_one}
use Rattle.minix_host.specs.Numbers.{next_birth, number_in}
use Rattle.minix_host.specs.PlainTrees.{PlainTree, tree_after_call, call_writes, call_alters}
use Rattle.minix_host.specs.Sessions.{Opening, over, HasRoot, Stands}
use Rattle.minix_host.specs.Volumes.{is_metadata, zone_of, zones_of}
use Rattle.minix_host.specs.laws.Numbers.{born_before, born_before_next}
use Rattle.minix_host.proofs.SameNames.{same_names_need_none}
use Rattle.minix_host.proofs.Metadata.{meta_tested, tested_meta, not_meta}
use Rattle.minix_host.proofs.Pages.{page_at, zone_page, page_zone, no_page, zone_maps, maps_zone}
use Rattle.minix_host.proofs.BytesKept.{bytes_kept}
use Rattle.minix_host.proofs.Roots.{called_keeps}
use Rattle.minix_host.proofs.SameRows.{needs_same, writes_same}
use Rattle.minix_host.proofs.Standing.{root_some, root_is, stands_for}
use Rattle.minix_host.proofs.TreeSteps.{after_is, file_maps, not_true}
use Rattle.minix_host.proofs.Waiting.{waits_is, free_is, holder_of, holder_same}

-- ---- what a call finds

-- where the call would change nothing, it needs no zone
still_needs_none : (v : VolumeNow) → IsPlainNow v → (n : ℕ) (c : Call) → (would_change v c ≡ true) ⊎ (needs (tree_of_now v) n c ≡ 0)
unfolding would_change
still_needs_none v h n (calls.Mkdir path) = inl refl
still_needs_none v h n (calls.Create path) = inl refl
still_needs_none v h n (calls.Link path other) = inl refl
still_needs_none v h n (calls.Write path off len value) = inl refl
still_needs_none v h n (calls.Bytes path off bytes) = inl refl
still_needs_none v h n (calls.Rename path other) = elim (cases_Bool (names_one (tree_of_now v) path other)) [
  | inl same ↦ inr (same_names_need_none (tree_of_now v) n path other same)
  | inr apart ↦ inl (ap not apart)
]
still_needs_none v h n other = inr (needs_none (tree_of_now v) (tree_is_plain v h) n other refl)

module _ (v : VolumeNow) (h : IsPlainNow v) (n : ℕ) (c : Call) (none : refusal v c ≡ None) (enough : would_change v c ≡ true → nat_lt (length (zones_of v).free) (needed v c) ≡ false) where
  abbrev N : ℕ
  N = number_in (tree_of_now v) n

  needs_is : needs (tree_of_now v) N c ≡ needed v c
  unfolding needed
  needs_is =
      needs_same (tree_of_now v) h.plain.rooted.in_order N (next_birth (tree_of_now v)) (none_born (tree_of_now v) N (born_before (tree_of_now v) n))
      (none_born (tree_of_now v) (next_birth (tree_of_now v)) (born_before_next (tree_of_now v))) c

  pub finds_room : FindsRoom v N c
  finds_room = record {
    plain = h;
    born = born_before (tree_of_now v) n;
    enough = ⊎_elim
        (λ changes. let free = free_is v in let need = needs_is in let le = ltb-false (length (zones_of v).free) (needed v c) (enough changes) in omega arith)
        (λ zero_is. omega arith)
        (still_needs_none v h N c);
  }

-- ---- after the call

module _ (s : Opening) (v : VolumeNow) (t : PlainTree) (h : Stands s v t) (k r : ℕ) (call : ByteCall) (none : refusal v call.call ≡ None)
    (enough : would_change v call.call ≡ true → nat_lt (length (zones_of v).free) (needed v call.call) ≡ false) where
  abbrev c : Call
  c = call.call

  -- the number of entry k
  abbrev n : ℕ
  n = s.first + k

  abbrev number : ℕ
  number = number_in (tree_of_now v) n

  abbrev w : VolumeNow
  w = (called v number r c).change.volume

  room_found : FindsRoom v number c
  room_found = finds_room v h.plain n c none enough

  all : IsAnyCall r v number c (called v number r c).change
  all = any_call r v number c room_found

  -- it stands for the tree that the call leaves
  tree_is : tree_of_now w ≡ (tree_after_call (room_of s.geometry) t n c).tree
  tree_is =
      all.tree_is
      ∙ (ap (λ g. tree_after (room_of g) (tree_of_now v) number c) h.geometry
      ∙ (ap (λ tree. tree_after (room_of s.geometry) tree (number_in tree n) c) h.tree
      ∙ sym (after_is (room_of s.geometry) t n c)))

  root_kept : HasRoot w s.root
  root_kept =
      let some = root_some v h.plain s.root h.root in
      let kept = called_keeps s.root some v h.plain.plain.rooted number r root_apart (root_is v h.plain s.root h.root) c in
      record { placed = kept.placed; stands = kept.stands; zone_is = kept.zone_is }
    where
      root_apart : number ≢ 0
      root_apart e = (let low = born_before (tree_of_now v) n 0 _ h.plain.plain.rooted.root.1 in omega arith)

  pub stands_after : Stands s w (tree_after_call (room_of s.geometry) t n c)
  stands_after = record { plain = all.plain; geometry = all.steady.geometry ∙ h.geometry; tree = tree_is; root = root_kept; bytes = bytes_kept v number r h.bytes c call.bytes }

  -- ---- what is told

  abbrev told : TellsBlocks v.geometry v.contents w.contents (called v number r c).change.touched (λ birth index. writes (room_of v.geometry) (tree_of_now v) number c birth index ≡ true)
  told = all.steady.told

  meta_after : (b : ℕ) → is_metadata w b ≡ true → IsMeta v.geometry w.contents b
  meta_after b m = subst (λ g. IsMeta g w.contents b) all.steady.geometry (tested_meta w all.plain b m)

  after_meta : (b : ℕ) → IsMeta v.geometry w.contents b → is_metadata w b ≡ true
  after_meta b m = meta_tested w all.plain b (subst (λ g. IsMeta g w.contents b) (sym all.steady.geometry) m)

  writes_is : (f i : ℕ) → call_writes (room_of s.geometry) t c f i ≡ writes (room_of v.geometry) (tree_of_now v) number c f i
  writes_is f i =
      ap (λ tree. writes (room_of s.geometry) tree (next_birth tree) c f i) (sym h.tree)
      ∙ (ap (λ g. writes (room_of g) (tree_of_now v) (next_birth (tree_of_now v)) c f i) (sym h.geometry)
      ∙ writes_same (room_of v.geometry) (tree_of_now v) (next_birth (tree_of_now v)) number c f i)

  waits_after : (zone : ℕ) → (In zone (called v number r c).change.touched.freed → ⊥) → waits_for (zones_of w).waiting zone ≡ waits_for (zones_of v).waiting zone
  waits_after zone out =
      waits_is w zone
      ∙ (holder_same (state_of v.zones zone) (state_of w.zones zone) (λ freed_by e. all.steady.waits_on zone freed_by e) (λ freed_by e. all.steady.waited zone freed_by out e)
      ∙ sym (waits_is v zone))

  page_in : (x : FileBlock) (pages : List Page) → In x (map file_block pages) → (y : Page) × In y pages × (file_block y ≡ x)
  page_in x pages i = In-map file_block pages x i

  listed_pages : (f i zone : ℕ) (pages : List Page) → In (page_at f i zone) pages → (x : FileBlock) × In x (map file_block pages) × (x.birth ≡ f) × (x.index ≡ i)
  listed_pages f i zone pages j = (file_block (page_at f i zone), map-In file_block pages (page_at f i zone) j, refl, refl)

  gone_pages : (f i zone : ℕ) → zone_of v f i ≡ Some zone → zone_of w f i ≡ None → In (page_at f i zone) (called v number r c).change.touched.dropped
  gone_pages f i zone e gone = ⊎_elim (λ still. absurd (none-some zone (sym gone ∙ page_zone w (page_at f i zone) still))) (λ j. j) (told.stays_or_dropped (page_at f i zone) (zone_page v f i zone e))

  pages_keep : (f i zone other : ℕ) → zone_of v f i ≡ Some zone → zone_of w f i ≡ Some other → other ≡ zone
  pages_keep f i zone other e after = ⊎_elim
      (λ still. same_Some other zone (sym after ∙ page_zone w (page_at f i zone) still))
      (λ dropped. absurd ((told.dropped_were_mapped (page_at f i zone) dropped).2 other (zone_page w f i other after)))
      (told.stays_or_dropped (page_at f i zone) (zone_page v f i zone e))

  file_differs : (f : ℕ) → same_file (at_number (tree_of_now v) f) (at_number (tree_of_now w) f) ≡ false → In f (called v number r c).change.touched.nodes
  file_differs f differs = file_listed r v number c room_found f differs

  alters_differ : (f : ℕ) → call_alters (room_of s.geometry) t n c f ≡ true → same_file (at_number (tree_of_now v) f) (at_number (tree_of_now w) f) ≡ false
  alters_differ f alters =
      ap (λ tree. same_file (at_number (tree_of_now v) f) (at_number tree f)) tree_is
      ∙ (ap (λ tree. same_file (at_number tree f) (at_number (tree_after_call (room_of s.geometry) t n c).tree f)) h.tree ∙ not_true _ alters)

  new_block : (f i zone : ℕ) → zone_of v f i ≡ None → zone_of w f i ≡ Some zone → In f (called v number r c).change.touched.nodes
  new_block f i zone before after = elim (cases_Bool (same_file (at_number (tree_of_now v) f) (at_number (tree_of_now w) f))) [
    | inl same ↦
        let mapped : maps_block (tree_of_now v) f i ≡ true = file_maps (at_number (tree_of_now v) f) (at_number (tree_of_now w) f) i same ∙ zone_maps w all.plain.in_use f i zone after in
        let z = maps_zone v h.plain.in_use f i mapped in
        absurd (none-some z.0 (sym before ∙ z.1))
    | inr differs ↦ file_differs f differs
  ]

  table_listed : (f i zone : ℕ) → In f (called v number r c).change.touched.nodes → zone_of w f i ≡ Some zone → (b : ℕ) × In b (called v number r c).change.touched.blocks × In b (over s).reserved
  table_listed f i zone j after =
      let page = zone_page w f i zone after in
      let b = all.steady.nodes.tables f page.placed page.zones j page.stands page.is_file in
      (b.0, b.1, inr (low_in b.0 b.2))
    where
      low_in : (b : ℕ) → b < v.geometry.first → In b (range_with_len 0 s.geometry.first)
      low_in b low = in_from 0 s.geometry.first b (omega arith) (let same = ap (λ (g : Geometry). g.first) h.geometry in omega arith)

  pub tells_host : Tells (over s) t k r call v w (done_as v n r c).touched
  unfolding done_as
  tells_host = record {
    fresh = λ b m. ⊎_elim (λ was. inl (meta_tested v h.plain b was)) (λ i. inr i) (told.fresh_are_touched b (meta_after b m));
    gone = λ b was now. ⊎_elim (λ still. absurd (true≢false (sym (after_meta b still) ∙ now))) (λ i. i) (told.stays_or_revoked b (tested_meta v h.plain b was));
    revoked = λ b i.
        let x = told.revoked_are_left b i in
        let left = not_meta w all.plain b (λ m. x.1 (subst (λ g. IsMeta g w.contents b) all.steady.geometry m)) in
        (left, x.0, λ reserved. true≢false (sym ((stands_for s w (tree_after_call (room_of s.geometry) t n c) stands_after).reserved b reserved) ∙ left));
    same_bytes = λ b was now out. told.kept b out (tested_meta v h.plain b was) (meta_after b now);
    blocks = λ b i. ⊎_elim (λ gone. inl gone) (λ m. inr (after_meta b m.0)) (told.touched_are_meta b i);
    freed = λ zone i. (waits_is v zone ∙ ap holder_of (all.steady.was_used zone i), waits_is w zone ∙ ap holder_of (all.steady.freed zone i));
    not_freed = waits_after;
    written = λ x i.
        let y = page_in x (called v number r c).change.touched.pages i in
        let page = told.pages_are_written y.0 y.1 in
        subst (λ (x : FileBlock). (call_writes (room_of s.geometry) t c x.birth x.index ≡ true) × (zone_of w x.birth x.index ≡ Some x.block)) y.2
        (writes_is y.0.birth y.0.index ∙ page.1, page_zone w y.0 page.0);
    all_written = λ f i wrote. (let x = told.written_are_pages f i (sym (writes_is f i) ∙ wrote) in listed_pages f i x.0 (called v number r c).change.touched.pages x.1);
    dropped = λ x i.
        let y = page_in x (called v number r c).change.touched.dropped i in
        subst (λ (x : FileBlock). zone_of w x.birth x.index ≡ None) y.2 (no_page w y.0.birth y.0.index (told.dropped_were_mapped y.0 y.1).2);
    all_dropped = λ f i zone e gone.
        let j = gone_pages f i zone e gone in
        ((told.dropped_were_mapped (page_at f i zone) j).1, listed_pages f i zone (called v number r c).change.touched.dropped j);
    same_zone = pages_keep;
    all_nodes = λ f alters. file_differs f (alters_differ f alters);
    newly = new_block;
    nodes = λ f i zone j after. table_listed f i zone j after;
  }
