-- What a visit ends with, of what its parts ended with.
use Rattle.std.proofs.Common.{◌≡◌, ℕ, ◌++◌, ◌/◌, true, false, if◌then◌else◌, List, [], ◌∷◌, Result, Ok, Err, ap, ◌∙◌, sym, reverse, append_assoc, arith, subst}
use Rattle.std.specs.List.{All}
use Rattle.minix_layout.specs.Widths.{slot_size}
use Rattle.minix_layout.specs.declared.division.Geometry.{Geometry}
use Rattle.minix_layout.specs.declared.inode.Inode.{Inode}
use Rattle.minix_layout.specs.declared.fault.LayoutFault.TheVariants.{BadInode}
use Rattle.volume_ops.specs.declared.found.Found.TheVariants as found
use Rattle.volume_ops.specs.code.Births.{IsBirth, AreBirths}
use Rattle.volume_ops.specs.Places.{table_block, inode_in_block, is_directory, is_file, birth_of, inode_of_birth}
use Rattle.volume_ops.specs.Reads.{Reads, Ret, answer, if_ok}
use Rattle.volume_ops.specs.Slots.{SlotScan, scan_slots}
use Rattle.volume_ops.specs.code.Visits.{met_next, file_visit, directory_visit, IsPending, ArePending}
use Rattle.volume_ops.specs.Walk.{WalkState, Pending, Visit, met_node, pending_in, is_bad_inode, visit_file, visit_directory, visit_other, visit_inode, visit}
use Rattle.volume_ops.specs.Zones.{Fault, ZoneScan, scan_zones}
use Rattle.std.proofs.lemmas.List.{reverse-append, reverse-reverse, map-append}
use Rattle.std.proofs.lemmas.List.Elements.{All-append, All-nil, All-cons, All-head, All-tail, All-map, All-weaker}
use Rattle.volume_ops.proofs.GoesOn.{answer-if_ok-ok, answer-if_ok-err}

module _ (disk : ℕ → List ℕ) (g : Geometry) (w : WalkState) (i : Inode) where
  pub file_visited : (inode pointer_block : ℕ) (z : ZoneScan) (v : WalkState) → pointer_block ≡ table_block g inode → answer disk (scan_zones g pointer_block i.zones w.zones) ≡ Ok z → v ≡ met_node w inode z.met w.named (found.File (record { size = i.size; links = i.links; zones = z.mapped })) → answer disk (file_visit g w inode i) ≡ Ok (record { state = v; names = [] })
  file_visited inode pointer_block z v at zones is =
      rw is
      (answer-if_ok-ok disk (scan_zones g (table_block g inode) i.zones w.zones) (λ z. Ret (visit_file w inode i z)) z (rw at at zones))

  pub file_fault : (inode pointer_block : ℕ) (f : Fault) → pointer_block ≡ table_block g inode → answer disk (scan_zones g pointer_block i.zones w.zones) ≡ Err f → answer disk (file_visit g w inode i) ≡ Err f
  file_fault inode pointer_block f at zones =
      answer-if_ok-err disk (scan_zones g (table_block g inode) i.zones w.zones) (λ z. Ret (visit_file w inode i z)) f (rw at at zones)

  module _ (e : Pending) (pointer_block : ℕ) (at : pointer_block ≡ table_block g e.inode) where
    directory_is : (z : ZoneScan) → answer disk (scan_zones g pointer_block i.zones w.zones) ≡ Ok z → answer disk (directory_visit g w e i) ≡ answer disk (if_ok (scan_slots g (i.size / slot_size g.width) z.mapped (record { named = w.named; names = [] })) (λ s. Ret (visit_directory g w e i z s)))
    directory_is z zones = answer-if_ok-ok disk (scan_zones g (table_block g e.inode) i.zones w.zones) (λ z. if_ok (scan_slots g (i.size / slot_size g.width) z.mapped (record { named = w.named; names = [] })) (λ s. Ret (visit_directory g w e i z s))) z (rw at at zones)

    pub directory_zones_fault : (f : Fault) → answer disk (scan_zones g pointer_block i.zones w.zones) ≡ Err f → answer disk (directory_visit g w e i) ≡ Err f
    directory_zones_fault f zones = answer-if_ok-err disk (scan_zones g (table_block g e.inode) i.zones w.zones) (λ z. if_ok (scan_slots g (i.size / slot_size g.width) z.mapped (record { named = w.named; names = [] })) (λ s. Ret (visit_directory g w e i z s))) f (rw at at zones)

    pub directory_slots_fault : (z : ZoneScan) (f : Fault) → answer disk (scan_zones g pointer_block i.zones w.zones) ≡ Ok z → answer disk (scan_slots g (i.size / slot_size g.width) z.mapped (record { named = w.named; names = [] })) ≡ Err f → answer disk (directory_visit g w e i) ≡ Err f
    directory_slots_fault z f zones slots = directory_is z zones ∙ answer-if_ok-err disk (scan_slots g (i.size / slot_size g.width) z.mapped (record { named = w.named; names = [] })) (λ s. Ret (visit_directory g w e i z s)) f slots

    pub directory_visited : (z : ZoneScan) (s : SlotScan) (birth : ℕ) (v : WalkState) (stack pushed : List Pending) → answer disk (scan_zones g pointer_block i.zones w.zones) ≡ Ok z → answer disk (scan_slots g (i.size / slot_size g.width) z.mapped (record { named = w.named; names = [] })) ≡ Ok s → birth ≡ birth_of e.inode → pushed ≡ stack ++ reverse (pending_in birth s.names) → v ≡ met_node w e.inode z.met s.named (found.Directory (record { parent = e.parent; width = g.width; slots = i.size / slot_size g.width; names = s.names })) → met_next (answer disk (directory_visit g w e i)) (reverse stack) ≡ Ok (v, reverse pushed)
    directory_visited z s birth v stack pushed zones slots born put is =
        let whole : answer disk (directory_visit g w e i) ≡ visit_directory g w e i z s =
        directory_is z zones ∙ answer-if_ok-ok disk (scan_slots g (i.size / slot_size g.width) z.mapped (record { named = w.named; names = [] })) (λ s. Ret (visit_directory g w e i z s)) s slots in
        let names : reverse pushed ≡ pending_in (birth_of e.inode) s.names ++ reverse stack =
        rw (put, born) (reverse-append stack (reverse (pending_in (birth_of e.inode) s.names)) ∙ ap (λ ps. ps ++ reverse stack) (reverse-reverse (pending_in (birth_of e.inode) s.names))) in
        rw (whole, names, is)

-- ---- which visit it is

abbrev pub visit_by_kind : Geometry → WalkState → Pending → Inode → Reads (Result Visit Fault)
visit_by_kind g w e i =
    if is_directory i.mode then directory_visit g w e i
    else if is_file i.mode then file_visit g w e.inode i
    else Ret (visit_other w e.inode i)

module _ (disk : ℕ → List ℕ) (g : Geometry) (w : WalkState) (e : Pending) (i : Inode) (at : i ≡ inode_in_block e.inode (disk (table_block g e.inode))) where
  visit_is : answer disk (visit g w e) ≡ answer disk (visit_inode g w e i)
  unfolding visit
  visit_is = ap (λ i. answer disk (visit_inode g w e i)) (sym at)

  pub visit_bad : is_bad_inode g e.inode i ≡ true → answer disk (visit g w e) ≡ Err (BadInode, table_block g e.inode)
  visit_bad bad = visit_is ∙ ap (λ b. answer disk (if b then Ret (Err (BadInode, table_block g e.inode)) else visit_by_kind g w e i)) bad

  module _ (good : is_bad_inode g e.inode i ≡ false) where
    visit_good : answer disk (visit g w e) ≡ answer disk (visit_by_kind g w e i)
    visit_good = visit_is ∙ ap (λ b. answer disk (if b then Ret (Err (BadInode, table_block g e.inode)) else visit_by_kind g w e i)) good

    pub visit_as_directory : is_directory i.mode ≡ true → answer disk (visit g w e) ≡ answer disk (directory_visit g w e i)
    visit_as_directory h = visit_good ∙ ap (λ b. answer disk (if b then directory_visit g w e i else if is_file i.mode then file_visit g w e.inode i else Ret (visit_other w e.inode i))) h

    visit_no_directory : is_directory i.mode ≡ false → answer disk (visit g w e) ≡ answer disk (if is_file i.mode then file_visit g w e.inode i else Ret (visit_other w e.inode i))
    visit_no_directory h = visit_good ∙ ap (λ b. answer disk (if b then directory_visit g w e i else if is_file i.mode then file_visit g w e.inode i else Ret (visit_other w e.inode i))) h

    pub visit_as_file : is_directory i.mode ≡ false → is_file i.mode ≡ true → answer disk (visit g w e) ≡ answer disk (file_visit g w e.inode i)
    visit_as_file h k = visit_no_directory h ∙ ap (λ b. answer disk (if b then file_visit g w e.inode i else Ret (visit_other w e.inode i))) k

    pub visit_as_other : is_directory i.mode ≡ false → is_file i.mode ≡ false → answer disk (visit g w e) ≡ visit_other w e.inode i
    visit_as_other h k = visit_no_directory h ∙ ap (λ b. answer disk (if b then file_visit g w e.inode i else Ret (visit_other w e.inode i))) k

-- ---- what is to be met

All-reverse : (P : Pending → Type 0) (xs : List Pending) → All P xs → All P (reverse xs)
All-reverse P [] h = h
All-reverse P (x ∷ xs) h =
    subst (λ ys. All P ys) (sym (reverse-append (x ∷ []) xs))
    (All-append P (reverse xs) (x ∷ []) (All-reverse P xs (All-tail P x xs h)) (All-cons P x [] (All-head P x xs h) (All-nil P)))

pub name_pushed : (parent : ℕ) (stack pushed all : List Pending) (s t : List (List ℕ × ℕ)) (e : List ℕ × ℕ) (inode : ℕ) → s ≡ t ++ e ∷ [] → stack ++ reverse (pending_in parent s) ≡ all → inode ≡ inode_of_birth e.1 → pushed ≡ stack ++ record { inode = inode; parent = parent } ∷ [] → pushed ++ reverse (pending_in parent t) ≡ all
name_pushed parent stack pushed all s t e inode last same at is =
    let p : Pending = record { inode = inode_of_birth e.1; parent = parent } in
    let there : reverse (pending_in parent s) ≡ p ∷ reverse (pending_in parent t) =
    rw last (rw map-append (reverse-append (pending_in parent t) (p ∷ []))) in
    rw (is, at) (append_assoc stack (p ∷ []) (reverse (pending_in parent t)) ∙ ap (λ ps. stack ++ ps) (sym there) ∙ same)

-- what a directory names are inodes of the volume
births_pending : (g : Geometry) (parent : ℕ) (names : List (List ℕ × ℕ)) → All (λ e. IsBirth g e.1) names → All (IsPending g) (pending_in parent names)
births_pending g parent names h =
    All-map (IsPending g) (λ e. record { inode = inode_of_birth e.1; parent = parent }) names
    (All-weaker (λ e. IsBirth g e.1) (λ e. IsPending g (record { inode = inode_of_birth e.1; parent = parent })) (λ e b. record { some = grind arith; within = b.within }) names h)

pub pending_pushed : (g : Geometry) (parent : ℕ) (names : List (List ℕ × ℕ)) (stack pushed : List Pending) → AreBirths g names → pushed ≡ stack ++ reverse (pending_in parent names) → ArePending g stack → ArePending g pushed
pending_pushed g parent names stack pushed births is h = record {
  each = rw is (All-append (IsPending g) stack (reverse (pending_in parent names)) h.each (All-reverse (IsPending g) (pending_in parent names) (births_pending g parent names births.each)));
}
