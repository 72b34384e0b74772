-- The small volume keeps what the host is promised, so the promises can be kept together.
use Rattle.std.proofs.Common.{sym, ap, subst, ◌∙◌, inl, inr, arith, eqb-true}
use Rattle.std.proofs.lemmas.Bool.{false≢true, and_parts}
use Rattle.std.proofs.lemmas.Option.{none-some, same_Some}
use Rattle.std.specs.Prelude.{◌≡◌, ℕ, ◌<◌, ◌==◌, ◌&&◌, Bool, true, false, List, [], ◌∷◌, length, Option, Some, None, nat_lt, refl, if◌then◌else◌}
use Rattle.blk_base.specs.Members.{In}
use Rattle.volume_ops.specs.Volume.{disk_of}
use Rattle.host_machine.proofs.Opening.{opened_keeps}
use Rattle.host_machine.proofs.Steps.{advance_keeps}
use Rattle.host_machine.specs.Host.{advance}
use Rattle.host_machine.specs.Model.{FileBlock, Applied}
use Rattle.host_machine.specs.laws.Sample.{Call, Tree, Volume, is_it, has_block, body, the_page, waiting_of, free_of, acts, kind_of, alters, writes, needs, nothing, removed, applied, released, bytes_of, zone_of, model, over, Stands, ring, empty, begun_host, WriteIt, RemoveIt, Look, Barrier, told, both_done}
use Rattle.host_machine.specs.State.{Thread}
use Rattle.flush_actor.specs.Kinds.{is_begun}
use Rattle.host_machine.specs.Views.{waits_for}
use Rattle.host_machine.specs.laws.Contract.{TreeLaws, StandsFor, Tells, Contract, StandsAs}
use Rattle.host_machine.specs.laws.Rules.{Keeps}

zone-parts : (t : Tree) (f i z : ℕ) → zone_of t f i ≡ Some z → (is_it f i && has_block t ≡ true) × (7 ≡ z)
zone-parts t f i z e = by (is_it f i && has_block t) refl e
  where
    by : (b : Bool) → (is_it f i && has_block t) ≡ b → (if b then Some 7 else None) ≡ Some z → (is_it f i && has_block t ≡ true) × (7 ≡ z)
    by true q d = (q, same_Some 7 z d)
    by false q d = absurd (none-some z d)

zone-there : (t : Tree) (f i : ℕ) → (is_it f i && has_block t) ≡ true → zone_of t f i ≡ Some 7
zone-there t f i m = ap (λ b. if b then Some 7 else None) m

it : (f i : ℕ) → is_it f i ≡ true → (f ≡ 1) × (i ≡ 0)
it f i t = let p = and_parts (f == 1) (i == 0) t in (eqb-true f 1 p.0, eqb-true i 0 p.1)

some_block : (t : Tree) → has_block t ≡ true → (x : List ℕ) × (t ≡ Some x)
some_block None e = absurd (false≢true e)
some_block (Some x) e = (x, refl)

one : (b : ℕ) → In b (1 ∷ []) → (b == 1) ≡ true
one b (inl e) = ap (λ c. c == 1) (sym e)
one b (inr n) = absurd n

no_wait_one : (w : Option ℕ) (b : ℕ) → (b == 1) ≡ true → waits_for (waiting_of w) b ≡ None
no_wait_one None b t = refl
no_wait_one (Some k) b t = ap (λ c. waits_for (waiting_of (Some k)) c) (eqb-true b 1 t)

pub stands_for : (v : Volume) (t : Tree) → Stands v t → StandsFor over v t
stands_for v t s = record {
  mapped = λ f i z e. ap (λ u. is_it f i && has_block u) (sym s.same) ∙ (zone-parts v.tree f i z e).0;
  content = λ f i z e. ap (bytes_of v.tree) (sym (zone-parts v.tree f i z e).1) ∙ ap body s.same;
  there = λ f i m. (7, zone-there v.tree f i (ap (λ u. is_it f i && has_block u) s.same ∙ m));
  metadata_free = λ b m. no_wait_one v.waits b m;
  page_free = λ f i b e.
      let p = zone-parts v.tree f i b e in
      let x = some_block v.tree (and_parts (is_it f i) (has_block v.tree) p.0).1 in
      (ap (λ c. c == 1) (sym p.1), ap (λ w. waits_for (waiting_of w) b) (s.free x.0 x.1));
  one_page = λ f i g j b e d.
      let p = it f i (and_parts (is_it f i) (has_block v.tree) (zone-parts v.tree f i b e).0).0 in
      let q = it g j (and_parts (is_it g j) (has_block v.tree) (zone-parts v.tree g j b d).0).0 in
      (p.0 ∙ sym q.0, p.1 ∙ sym q.1);
  metadata_low = λ b m. let e = eqb-true b 1 m in omega arith;
  page_low = λ f i b e. let p = (zone-parts v.tree f i b e).1 in omega arith;
  reserved = λ b i. one b i;
  walk = λ b i. one b i;
  places = λ f i z e. (zone-parts v.tree f i z e).1;
}

abbrev Told : ℕ → ℕ → Call → Volume → Applied Volume ℕ → Type 0
Told n r c v a = Tells over v.tree n r c v a.volume a.touched

look_told : (v : Volume) (n r : ℕ) (c : Call) → ((f i : ℕ) → writes c f i ≡ false) → ((f : ℕ) → alters c f ≡ false) → Told n r c v (record { volume = v; reply = 0; touched = nothing })
look_told v n r c no_write no_change = record {
  fresh = λ b m. inl m;
  gone = λ b m n. absurd (false≢true (sym n ∙ m));
  revoked = λ b i. absurd i;
  same_bytes = λ b m n i. refl;
  blocks = λ b i. absurd i;
  freed = λ z i. absurd i;
  not_freed = λ z i. refl;
  written = λ w i. absurd i;
  all_written = λ f i w. absurd (false≢true (sym (no_write f i) ∙ w));
  dropped = λ x i. absurd i;
  all_dropped = λ f i z e n. absurd (none-some z (sym n ∙ e));
  same_zone = λ f i z y e d. same_Some y z (sym d ∙ e);
  all_nodes = λ f a. absurd (false≢true (sym (no_change f) ∙ a));
  newly = λ f i z n e. absurd (none-some z (sym n ∙ e));
  nodes = λ f i z l e. absurd l;
}

write_told : (v : Volume) (n r : ℕ) → Told n r WriteIt v (applied v n r WriteIt)
write_told v n r = record {
  fresh = λ b m. inl m;
  gone = λ b m g. absurd (false≢true (sym g ∙ m));
  revoked = λ b i. absurd i;
  same_bytes = λ b m g none. absurd (none (inl (sym (eqb-true b 1 m))));
  blocks = λ b i. inr (one b i);
  freed = λ z i. absurd i;
  not_freed = λ z i. refl;
  written = λ w i. written w i;
  all_written = λ f i w. let p = it f i w in (the_page, inl refl, sym p.0, sym p.1);
  dropped = λ x i. absurd i;
  all_dropped = λ f i z e g.
      let p = zone-parts v.tree f i z e in
      let there = zone-there (Some (n ∷ [])) f i (both (is_it f i) (and_parts (is_it f i) (has_block v.tree) p.0).0) in
      absurd (none-some 7 (sym g ∙ there));
  same_zone = λ f i z y e d. sym (zone-parts (Some (n ∷ [])) f i y d).1 ∙ (zone-parts v.tree f i z e).1;
  all_nodes = λ f a. inl (sym (eqb-true f 1 a));
  newly = λ f i z g e. inl (sym (it f i (and_parts (is_it f i) true (zone-parts (Some (n ∷ [])) f i z e).0).0).0);
  nodes = λ f i z l e. (1, inl refl, inl refl);
}
  where
    both : (b : Bool) → b ≡ true → (b && true) ≡ true
    both true e = refl
    both false e = absurd (false≢true e)

    written : (w : FileBlock) → In w (the_page ∷ []) → (is_it w.birth w.index ≡ true) × (zone_of (Some (n ∷ [])) w.birth w.index ≡ Some w.block)
    written w (inl e) = subst (λ (x : FileBlock). (is_it x.birth x.index ≡ true) × (zone_of (Some (n ∷ [])) x.birth x.index ≡ Some x.block)) e (refl, refl)
    written w (inr g) = absurd g

no_zone : (f i : ℕ) → zone_of None f i ≡ None
no_zone f i = by (is_it f i)
  where
    by : (b : Bool) → ◌≡◌ {A = Option ℕ} (if b && false then Some 7 else None) None
    by true = refl
    by false = refl

remove_told : (t : Tree) (w : Option ℕ) (n r : ℕ) → ((x : List ℕ) → t ≡ Some x → w ≡ None) → Told n r RemoveIt (record { tree = t; waits = w }) (removed (record { tree = t; waits = w }) r t)
remove_told None w n r free = record {
  fresh = λ b m. inl m;
  gone = λ b m g. absurd (false≢true (sym g ∙ m));
  revoked = λ b i. absurd i;
  same_bytes = λ b m g none. refl;
  blocks = λ b i. inr (one b i);
  freed = λ z i. absurd i;
  not_freed = λ z i. refl;
  written = λ x i. absurd i;
  all_written = λ f i e. absurd (false≢true e);
  dropped = λ x i. absurd i;
  all_dropped = λ f i z e g. absurd (none-some z (sym g ∙ e));
  same_zone = λ f i z y e d. same_Some y z (sym d ∙ e);
  all_nodes = λ f a. inl (sym (eqb-true f 1 a));
  newly = λ f i z g e. absurd (none-some z (sym g ∙ e));
  nodes = λ f i z l e. absurd (none-some z (sym (no_zone f i) ∙ e));
}
remove_told (Some x) w n r free = record {
  fresh = λ b m. inl m;
  gone = λ b m g. absurd (false≢true (sym g ∙ m));
  revoked = λ b i. absurd i;
  same_bytes = λ b m g none. absurd (none (inl (sym (eqb-true b 1 m))));
  blocks = λ b i. inr (one b i);
  freed = λ z i. freed z i;
  not_freed = λ z i. not_freed z i (free x refl);
  written = λ y i. absurd i;
  all_written = λ f i e. absurd (false≢true e);
  dropped = λ y i. no_zone y.birth y.index;
  all_dropped = λ f i z e g.
      let p = zone-parts (Some x) f i z e in
      let k = it f i (and_parts (is_it f i) true p.0).0 in
      (inl p.1, (the_page, inl refl, sym k.0, sym k.1));
  same_zone = λ f i z y e d. absurd (none-some y (sym (no_zone f i) ∙ d));
  all_nodes = λ f a. inl (sym (eqb-true f 1 a));
  newly = λ f i z g e. absurd (none-some z (sym (no_zone f i) ∙ e));
  nodes = λ f i z l e. absurd (none-some z (sym (no_zone f i) ∙ e));
}
  where
    freed : (z : ℕ) → In z (7 ∷ []) → (waits_for (waiting_of w) z ≡ None) × (waits_for (waiting_of (Some r)) z ≡ Some r)
    freed z (inl e) = (ap (λ u. waits_for (waiting_of u) z) (free x refl), ap (waits_for (waiting_of (Some r))) (sym e))
    freed z (inr n) = absurd n

    not_freed : (z : ℕ) → (In z (7 ∷ []) → ⊥) → w ≡ None → waits_for (waiting_of (Some r)) z ≡ waits_for (waiting_of w) z
    not_freed z n e = by (7 == z) refl ∙ sym (ap (λ u. waits_for (waiting_of u) z) e)
      where
        by : (b : Bool) → (7 == z) ≡ b → (if b then Some r else None) ≡ None
        by true q = absurd (n (inl (eqb-true 7 z q)))
        by false q = refl

tree_laws : TreeLaws model
tree_laws = record {
  mapped = λ t n c f i gone there. mapped t n c f i gone there;
  written = λ t n c f i w. written t n c f i w;
  same = λ t n c f i a. same t n c f i a;
}
  where
    nothing_there : (b : Bool) → (b && false) ≡ false
    nothing_there true = refl
    nothing_there false = refl

    both : (b : Bool) → b ≡ true → (b && true) ≡ true
    both true e = refl
    both false e = absurd (false≢true e)

    mapped : (t : Tree) (n : ℕ) (c : Call) (f i : ℕ) → (is_it f i && has_block t) ≡ false → (is_it f i && has_block (acts t n c)) ≡ true → writes c f i ≡ true
    mapped t n WriteIt f i gone there = (and_parts (is_it f i) true there).0
    mapped t n RemoveIt f i gone there = absurd (false≢true (sym (nothing_there (is_it f i)) ∙ there))
    mapped t n Look f i gone there = absurd (false≢true (sym gone ∙ there))
    mapped t n Barrier f i gone there = absurd (false≢true (sym gone ∙ there))

    written : (t : Tree) (n : ℕ) (c : Call) (f i : ℕ) → writes c f i ≡ true → (is_it f i && has_block (acts t n c)) ≡ true
    written t n WriteIt f i w = both (is_it f i) w
    written t n RemoveIt f i w = absurd (false≢true w)
    written t n Look f i w = absurd (false≢true w)
    written t n Barrier f i w = absurd (false≢true w)

    other : (f i : ℕ) (x y : Bool) → (f == 1) ≡ false → (is_it f i && x) ≡ (is_it f i && y)
    other f i x y a = by (is_it f i) refl
      where
        by : (b : Bool) → is_it f i ≡ b → (b && x) ≡ (b && y)
        by true q = absurd (false≢true (sym a ∙ (and_parts (f == 1) (i == 0) q).0))
        by false q = refl

    same : (t : Tree) (n : ℕ) (c : Call) (f i : ℕ) → alters c f ≡ false → (is_it f i && has_block (acts t n c)) ≡ (is_it f i && has_block t)
    same t n WriteIt f i a = other f i true (has_block t) a
    same t n RemoveIt f i a = other f i false (has_block t) a
    same t n Look f i a = refl
    same t n Barrier f i a = refl

-- ---- all of it

waits_on : (w : Option ℕ) (k j z : ℕ) → k < j → waits_for (waiting_of w) z ≡ Some j → waits_for (waiting_of (released w k)) z ≡ Some j
waits_on None k j z lt e = e
waits_on (Some x) k j z lt e = by (x == k) refl
  where
    same : waits_for (waiting_of (Some x)) z ≡ Some j → x ≡ j
    same d = first (7 == z) d
      where
        first : (b : Bool) → (if b then Some x else None) ≡ Some j → x ≡ j
        first true q = same_Some x j q
        first false q = absurd (none-some j q)

    by : (b : Bool) → (x == k) ≡ b → waits_for (waiting_of (if b then None else Some x)) z ≡ Some j
    by true q = let a = eqb-true x k q in let b = same e in absurd (omega arith)
    by false q = e

not_waiting : (v : Volume) → nat_lt (length (free_of v.tree v.waits)) (needs WriteIt v.tree) ≡ false → ((x : List ℕ) → v.tree ≡ Some x → v.waits ≡ None) → v.waits ≡ None
not_waiting v enough free = by v.tree v.waits refl refl
  where
    by : (t : Tree) (w : Option ℕ) → v.tree ≡ t → v.waits ≡ w → v.waits ≡ None
    by (Some x) w e d = free x e
    by None None e d = d
    by None (Some k) e d = absurd (false≢true (sym enough ∙ ap (λ t. nat_lt (length (free_of t v.waits)) (needs WriteIt t)) e ∙ ap (λ w. nat_lt (length (free_of None w)) 1) d))

pub contract : Contract over Stands
contract = record {
  trees = tree_laws;
  plain = stands_for;
  applied = λ v t n r c s accepted plain enough. done v t n r c s plain enough;
  refused = λ v t n c why s e. absurd (none-some why e);
  begun = λ t n c e. begun t n c e;
  released = λ v t k s. record { same = s.same; free = λ x e. ap (λ w. released w k) (s.free x e) };
  same_bytes = λ v k. refl;
  same_metadata = λ v k. refl;
  same_zones = λ v k. refl;
  waits_on = λ v k j z lt e. waits_on v.waits k j z lt e;
}
  where
    begun : (t : Tree) (n : ℕ) (c : Call) → is_begun (kind_of c) ≡ true → (acts t n c ≡ t) × ((f i : ℕ) → writes c f i ≡ false) × ((f : ℕ) → alters c f ≡ false)
    begun t n WriteIt e = absurd (false≢true e)
    begun t n RemoveIt e = absurd (false≢true e)
    begun t n Look e = absurd (false≢true e)
    begun t n Barrier e = (refl, λ f i. refl, λ f. refl)

    gone : (v : Volume) (r : ℕ) (u : Tree) → v.tree ≡ u → Stands (removed v r u).volume None
    gone v r None e = record { same = e; free = λ x d. absurd (none-some x (sym e ∙ d)) }
    gone v r (Some x) e = record { same = refl; free = λ y d. absurd (none-some y d) }

    told_by : (v : Volume) (n r : ℕ) (u : Tree) → v.tree ≡ u → ((x : List ℕ) → v.tree ≡ Some x → v.waits ≡ None) → Told n r RemoveIt v (removed v r v.tree)
    told_by v n r u e free = remove_told v.tree v.waits n r free

    done : (v : Volume) (t : Tree) (n r : ℕ) (c : Call) → Stands v t → is_begun (kind_of c) ≡ false → (model.hinders v c ≡ true → nat_lt (length (free_of v.tree v.waits)) (needs c v.tree) ≡ false)
        → Stands (applied v n r c).volume (acts t n c) × Tells over t n r c v (applied v n r c).volume (applied v n r c).touched
    done v t n r WriteIt s plain enough = (
      record { same = refl; free = λ x e. not_waiting v (enough refl) s.free },
      subst (λ u. Tells over u n r WriteIt v (applied v n r WriteIt).volume (applied v n r WriteIt).touched) s.same (write_told v n r),
    )
    done v t n r RemoveIt s plain enough = (
      gone v r v.tree refl,
      subst (λ u. Tells over u n r RemoveIt v (applied v n r RemoveIt).volume (applied v n r RemoveIt).touched) s.same (told_by v n r v.tree refl s.free),
    )
    done v t n r Look s plain enough = (s, subst (λ u. Tells over u n r Look v v nothing) s.same (look_told v n r Look (λ f i. refl) (λ f. refl)))
    done v t n r Barrier s plain enough = absurd (false≢true (sym plain))

-- ---- a session over it keeps the facts and the rules

none_there : (b : Bool) → (b && false) ≡ false
none_there true = refl
none_there false = refl

pub begun_keeps : Keeps over Stands begun_host [] 0
begun_keeps =
    opened_keeps contract empty ring 8 100 ((WriteIt ∷ RemoveIt ∷ []) ∷ [])
    (record { same = refl; free = λ x e. refl })
    (λ b m. let e = eqb-true b 1 m in (inl (inl (sym e)), ap (bytes_of None) e ∙ ap (disk_of over.base) (sym e)))
    (λ b i. absurd i)
    (λ f i z there. absurd (false≢true (sym (none_there (is_it f i)) ∙ (zone-parts None f i z there).0)))
    (omega arith) (omega arith, omega arith)
    (record { start = refl; reserved = λ b i. let e = eqb-true b 1 (one b i) in omega arith; freeable = λ b i. absurd i; plain = λ p seq i since e. let z : ⊥ = cc in z })
    (λ b i. inl i)

-- after both calls, the file is written and removed
pub both_keep : Keeps over Stands both_done [] 0
both_keep =
    advance_keeps contract [] 0 (advance model over.setup false begun_host 0).host
    (advance_keeps contract [] 0 begun_host begun_keeps false 0 (λ th c rest x e q d. absurd (none-some x (ap (λ (t : Thread Call). t.begun) (same_Some _ th e) ∙ d))))
    false 0
    (λ th c rest x e q d. absurd (none-some x (ap (λ (t : Thread Call). t.begun) (same_Some _ th e) ∙ d)))

-- ---- by the tree that is told

to_told : (v : Volume) (t : Tree) → Stands v t → told v ≡ Some t
to_told v t s = by v.tree refl v.waits refl
  where
    by : (x : Tree) → v.tree ≡ x → (w : Option ℕ) → v.waits ≡ w → elim x as (λ _. Option Tree) [ None ↦ Some None | Some y ↦ elim w as (λ _. Option Tree) [ None ↦ Some (Some y) | Some k ↦ None ] ] ≡ Some t
    by None e w d = ap Some (sym e ∙ s.same)
    by (Some x) e None d = ap Some (sym e ∙ s.same)
    by (Some x) e (Some k) d = absurd (none-some k (sym (s.free x e) ∙ d))

from_told : (v : Volume) (t : Tree) → told v ≡ Some t → Stands v t
from_told v t s = by v.tree refl v.waits refl s
  where
    by : (x : Tree) → v.tree ≡ x → (w : Option ℕ) → v.waits ≡ w → elim x as (λ _. Option Tree) [ None ↦ Some None | Some y ↦ elim w as (λ _. Option Tree) [ None ↦ Some (Some y) | Some k ↦ None ] ] ≡ Some t → Stands v t
    by None e w d q = record { same = e ∙ same_Some None t q; free = λ x f. absurd (none-some x (sym e ∙ f)) }
    by (Some x) e None d q = record { same = e ∙ same_Some (Some x) t q; free = λ y f. d }
    by (Some x) e (Some k) d q = absurd (none-some t q)

pub told_contract : Contract over (StandsAs told)
told_contract = record {
  trees = contract.trees;
  plain = λ v t s. contract.plain v t (from_told v t s);
  applied = λ v t n r c s accepted plain enough. let x = contract.applied v t n r c (from_told v t s) accepted plain enough in (to_told _ _ x.0, x.1);
  refused = λ v t n c why s e. contract.refused v t n c why (from_told v t s) e;
  begun = contract.begun;
  released = λ v t k s. to_told _ _ (contract.released v t k (from_told v t s));
  same_bytes = contract.same_bytes;
  same_metadata = contract.same_metadata;
  same_zones = contract.same_zones;
  waits_on = contract.waits_on;
}
