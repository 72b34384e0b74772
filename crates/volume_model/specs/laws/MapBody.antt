-- The bytes of a block that is mapped: those that it gets.
use Rattle.std.specs.Prelude.{◌≡◌, ◌≢◌, ℕ, ◌-◌, ◌/◌, ◌%◌, ◌<◌, List, [], ◌∷◌, length, Some, refl}
use Rattle.std.proofs.Common.{sym, subst, ◌∙◌, inl, inr, arith}
use Rattle.std.proofs.lemmas.Bool.{eq-eqb}
use Rattle.minix_layout.specs.declared.division.Geometry.{Geometry}
use Rattle.minix_layout.specs.Geometry.{IsSound}
use Rattle.tree_model.specs.Maps.{at_number}
use Rattle.volume_ops.specs.Volume.{disk_of}
use Rattle.volume_model.specs.declared.placed.Placed.{Placed}
use Rattle.volume_model.specs.Edits.{put_body, put_entry, edited, edited_all}
use Rattle.volume_model.specs.laws.Changes.{table_below}
use Rattle.volume_model.specs.laws.Edits.{edited_here, edited_elsewhere}
use Rattle.volume_model.specs.laws.Back.{back_apart}
use Rattle.volume_model.specs.Volume.{Place, block, indirect, double, inner, zone_in, IsVolumeOf}
use Rattle.volume_model.specs.Ways.{Home, slot, entry, nowhere, home, way}
use Rattle.volume_model.specs.laws.Ways.{direct, single, twice, past, range, home-direct, home-single, home-twice, home-inner}
use Rattle.volume_model.specs.laws.OnWay.{way_placed, way-direct, way-single, way-twice, on_way}
use Rattle.volume_model.specs.MapBlock.{OpenInode, TakenZones, own_of, entry_edits, get_zone, get_step, map_block}
use Rattle.volume_model.specs.laws.MapBlock.{IsFit, IsFresh, IsReached, MayGet, may_get, one_step, fresh_rest, there_now, next_reached}
use Rattle.volume_model.specs.Moves.{AreFree, inode_back}
use Rattle.volume_model.specs.laws.ZoneMoves.{fit_before, grown, before}

-- a place that gets a zone has its bytes there
got_body : (g : Geometry) (s : OpenInode) (x : Place) (z : ℕ) (body : List ℕ) → IsFit g s → MayGet g s x z body → disk_of (get_zone g s x z body).blocks z ≡ body
got_body g s x z body fit may = by (home x)
  where
    inside : z < length s.blocks
    inside = let high = may.high in let size = fit.size in omega arith

    one : disk_of (edited g s.blocks (put_body z body)) z ≡ body
    one = edited_here g s.blocks (put_body z body) inside

    by : (e : Home) → disk_of (edited_all g s.blocks (put_body z body ∷ entry_edits s e z)) z ≡ body
    by (slot k) = one
    by (entry h k) = edited_elsewhere g (edited g s.blocks (put_body z body)) (put_entry (own_of s h) k z) z (λ e. may.fresh h (sym e)) ∙ one
    by nowhere = one

module _ (g : Geometry) (sound : IsSound g) (t : TakenZones) (content : List ℕ) (size : length content ≡ 1024) (index : ℕ) where
  last_step : (s : OpenInode) → IsFit g s → IsFresh g (own_of s) t (block index ∷ []) → IsReached (own_of s) (block index) → own_of s (block index) ≡ 0 →
      disk_of (get_step g t content s (block index)).blocks t.data_zone ≡ content
  last_step s fit fresh reached none =
      rw (eq-eqb (own_of s (block index)) 0 none)
      (got_body g s (block index) t.data_zone content fit (may_get g sound t content size s (block index) [] fresh reached none))

  -- one step more, for a place that is not the block itself
  step_before : (s : OpenInode) (x : Place) (rest : List Place) (y : Place) (k : ℕ) → IsFit g s → IsFresh g (own_of s) t (x ∷ y ∷ rest) → IsReached (own_of s) x → home y ≡ entry x k → x ≢ block index → own_of s (block index) ≡ 0 →
      IsFit g (get_step g t content s x) × IsFresh g (own_of (get_step g t content s x)) t (y ∷ rest) × IsReached (own_of (get_step g t content s x)) y × (own_of (get_step g t content s x) (block index) ≡ 0)
  step_before s x rest y k fit fresh reached at apart none =
      let u = get_step g t content s x in
      let one = one_step g sound t content size s x (y ∷ rest) fit fresh reached in
      let now = there_now g sound t content size s u x (y ∷ rest) fresh one.got in (
        one.fit,
        fresh_rest g sound t content size s u x (y ∷ rest) fresh one.got,
        next_reached g sound t content size u x y k at now,
        one.got.others (block index) (λ i. elim i [ inl e ↦ apart e | inr n ↦ n ]) ∙ none,
      )

  body_mapped : (s : OpenInode) → index < 262663 → IsFit g s → IsFresh g (own_of s) t (way index) → own_of s (block index) ≡ 0 → disk_of (map_block g t content s index).blocks t.data_zone ≡ content
  unfolding map_block
  body_mapped s high fit fresh none = elim (range index) [
    | direct low ↦ rw (way-direct index low)
        (last_step s fit (subst (IsFresh g (own_of s) t) (way-direct index low) fresh)
        (record { placed = way_placed (block index) index (refl, high); there = λ h k at. absurd (cc (sym (home-direct index low) ∙ at)) }) none)
    | single low up ↦ rw (way-single index low up)
        (let one = step_before s indirect [] (block index) (index - 7) fit (subst (IsFresh g (own_of s) t) (way-single index low up) fresh)
        (record { placed = way_placed indirect index (low, up); there = λ h k at. absurd (cc at) }) (home-single index low up) (λ e. cc e) none in
        last_step (get_step g t content s indirect) one.0 one.1 one.2 one.3)
    | twice low up ↦ rw (way-twice index low up)
        (let one = step_before s double (block index ∷ []) (inner ((index - 519) / 512)) ((index - 519) / 512) fit (subst (IsFresh g (own_of s) t) (way-twice index low up) fresh)
        (record { placed = way_placed double index (low, up); there = λ h k at. absurd (cc at) }) (home-inner _ (omega arith)) (λ e. cc e) none in
        let u = get_step g t content s double in
        let two = step_before u (inner ((index - 519) / 512)) [] (block index) ((index - 519) % 512) one.0 one.1 one.2 (home-twice index low up) (λ e. cc e) one.3 in
        last_step (get_step g t content u (inner ((index - 519) / 512))) two.0 two.1 two.2 two.3)
    | past low ↦ absurd (omega arith)
  ]

-- After a block is mapped, its zone has the bytes that it got.
module _ (g : Geometry) (sound : IsSound g) (blocks : List (List ℕ)) (nodes : List (ℕ × Placed)) (n : ℕ) (p : Placed) (h : IsVolumeOf g blocks nodes) (stands : at_number nodes n ≡ Some p)
    (t : TakenZones) (content : List ℕ) (size : length content ≡ 1024) (index : ℕ) (high : index < 262663) (free : AreFree g blocks nodes p.inode t (way index)) (hole : zone_in blocks p.inode (block index) ≡ 0) where
  abbrev u : OpenInode
  u = grown g sound blocks nodes n p h stands t content size index high free

  pub mapped_content : disk_of (inode_back g u.blocks p u.inode) t.data_zone ≡ content
  mapped_content =
      let told = h.each n p stands in
      let table = table_below g p.number sound told.some told.within in
      let below = table.1 in
      let low = free.low (block index) (on_way (block index) index (refl, high)) hole in
      back_apart g u.blocks p u.inode t.data_zone (λ e. (omega arith))
      ∙ body_mapped g sound t content size index (before g sound blocks nodes n p h stands) high (fit_before g sound blocks nodes n p h stands)
      (record { some = free.some; low = free.low; high = free.high; fits = free.fits; fresh = λ x y i none. free.free n p x y stands i none; differ = free.differ }) hole
