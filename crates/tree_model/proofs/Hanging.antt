-- Trees as the names that lead from node to node: how these stay together when names come and go.
use Rattle.std.specs.Prelude.{◌≡◌, ◌≢◌, ℕ, ◌⊎◌, Bool, true, List, Option, Some, IsTrue}
use Rattle.std.proofs.Common.{sym, ap, subst, ◌∙◌, inl, inr, ⊎_elim}
use Rattle.tree_model.specs.Paths.{is_path_name}

-- what a name of a node leads to
abbrev pub Edges : Type 0
Edges = ℕ → List ℕ → Option ℕ

-- names lead to a node from the root
pub data IsReached (edge : Edges) : ℕ → Type 0 where
  top : IsReached edge 0
  by_edge : {parent birth : ℕ} {name : List ℕ} → IsReached edge parent → edge parent name ≡ Some birth → IsReached edge birth

-- what is seen of the nodes: which are there, which are directories, and their parents
pub record Seen : Type 0 where
  pub there : ℕ → Bool
  pub directory : ℕ → Bool
  pub up : ℕ → Option ℕ

-- a name that a path can have
pub record IsGoodName (name : List ℕ) : Type 0 where
  pub plain : IsTrue (is_path_name name)

-- names that fit the nodes
pub record IsJoined (edge : Edges) (s : Seen) : Type 0 where
  pub root : s.directory 0 ≡ true
  pub root_up : s.up 0 ≡ Some 0
  pub good : (p : ℕ) (m : List ℕ) (b : ℕ) → edge p m ≡ Some b → IsGoodName m
  pub leads : (p : ℕ) (m : List ℕ) (b : ℕ) → edge p m ≡ Some b → s.there b ≡ true
  pub no_root : (p : ℕ) (m : List ℕ) (b : ℕ) → edge p m ≡ Some b → b ≢ 0
  pub one_name : (p q : ℕ) (m k : List ℕ) (b : ℕ) → edge p m ≡ Some b → edge q k ≡ Some b → s.directory b ≡ true → (p ≡ q) × (m ≡ k)
  pub parent : (p : ℕ) (m : List ℕ) (b : ℕ) → edge p m ≡ Some b → s.directory b ≡ true → s.up b ≡ Some p

-- a node stays what it is
pub record StaysAt (s t : Seen) (b : ℕ) : Type 0 where
  pub there : t.there b ≡ s.there b
  pub directory : t.directory b ≡ s.directory b
  pub up : t.up b ≡ s.up b

-- fewer names
pub fewer_joined : (edge less : Edges) (s t : Seen) → IsJoined edge s →
    ((p : ℕ) (m : List ℕ) (b : ℕ) → less p m ≡ Some b → (edge p m ≡ Some b) × StaysAt s t b) → StaysAt s t 0 → IsJoined less t
fewer_joined edge less s t h sub root = record {
  root = root.directory ∙ h.root;
  root_up = root.up ∙ h.root_up;
  good = λ p m b e. h.good p m b (sub p m b e).0;
  leads = λ p m b e. let x = sub p m b e in x.1.there ∙ h.leads p m b x.0;
  no_root = λ p m b e. h.no_root p m b (sub p m b e).0;
  one_name = λ p q m k b e f d. let x = sub p m b e in let y = sub q k b f in h.one_name p q m k b x.0 y.0 (sym x.1.directory ∙ d);
  parent = λ p m b e d. let x = sub p m b e in x.1.up ∙ h.parent p m b x.0 (sym x.1.directory ∙ d);
}

-- one name more, which leads from p to b, beside those that are kept
pub record IsNewEdge (edge : Edges) (t : Seen) (Kept : ℕ → List ℕ → Type 0) (p : ℕ) (name : List ℕ) (b : ℕ) : Type 0 where
  pub good : IsGoodName name
  pub there : t.there b ≡ true
  pub no_root : b ≢ 0
  pub alone : t.directory b ≡ true → (q : ℕ) (k : List ℕ) → edge q k ≡ Some b → Kept q k → ⊥
  pub up : t.directory b ≡ true → t.up b ≡ Some p

-- a name that is kept leads to a node that stays what it is
pub record IsKept (edge : Edges) (s t : Seen) (Kept : ℕ → List ℕ → Type 0) (q : ℕ) (k : List ℕ) (c : ℕ) : Type 0 where
  pub was : edge q k ≡ Some c
  pub kept : Kept q k
  pub stays : StaysAt s t c

pub more_joined : (edge more : Edges) (s t : Seen) (Kept : ℕ → List ℕ → Type 0) (p : ℕ) (name : List ℕ) (b : ℕ) → IsJoined edge s → IsNewEdge edge t Kept p name b →
    ((q : ℕ) (m : List ℕ) (c : ℕ) → more q m ≡ Some c → ((q ≡ p) × (m ≡ name) × (c ≡ b)) ⊎ IsKept edge s t Kept q m c) → StaysAt s t 0 → IsJoined more t
more_joined edge more s t Kept p name b h new split root = record {
  root = root.directory ∙ h.root;
  root_up = root.up ∙ h.root_up;
  good = λ q m c e. ⊎_elim (λ x. subst IsGoodName (sym x.1) new.good) (λ x. h.good q m c x.was) (split q m c e);
  leads = λ q m c e. ⊎_elim (λ x. ap t.there x.2 ∙ new.there) (λ x. x.stays.there ∙ h.leads q m c x.was) (split q m c e);
  no_root = λ q m c e. ⊎_elim (λ x z. new.no_root (sym x.2 ∙ z)) (λ x. h.no_root q m c x.was) (split q m c e);
  one_name = λ q r m k c e f d.
      ⊎_elim
      (λ x. ⊎_elim
      (λ y. (x.0 ∙ sym y.0, x.1 ∙ sym y.1))
      (λ y. absurd (new.alone (ap t.directory (sym x.2) ∙ d) r k (y.was ∙ ap Some x.2) y.kept))
      (split r k c f))
      (λ x. ⊎_elim
      (λ y. absurd (new.alone (ap t.directory (sym y.2) ∙ d) q m (x.was ∙ ap Some y.2) x.kept))
      (λ y. h.one_name q r m k c x.was y.was (sym x.stays.directory ∙ d))
      (split r k c f))
      (split q m c e);
  parent = λ q m c e d.
      ⊎_elim
      (λ x. ap t.up x.2 ∙ (new.up (ap t.directory (sym x.2) ∙ d) ∙ ap Some (sym x.0)))
      (λ x. x.stays.up ∙ h.parent q m c x.was (sym x.stays.directory ∙ d))
      (split q m c e);
}

-- ---- what is reached

-- where no name goes, all stays reached
pub reached_more : (edge more : Edges) → ((p : ℕ) (m : List ℕ) (b : ℕ) → edge p m ≡ Some b → more p m ≡ Some b) → (b : ℕ) → IsReached edge b → IsReached more b
reached_more edge more sub _ top = top
reached_more edge more sub _ (by_edge {parent = p} {birth = b} {name = m} h e) = by_edge (reached_more edge more sub p h) (sub p m b e)

-- where the names that go led to nodes without names, the others stay reached
pub reached_without : (edge less : Edges) (Gone : ℕ → Type 0) → ((p : ℕ) (m : List ℕ) (c : ℕ) → edge p m ≡ Some c → Gone c ⊎ (less p m ≡ Some c)) → ((c : ℕ) → Gone c → (m : List ℕ) (x : ℕ) → edge c m ≡ Some x → ⊥) →
    (c : ℕ) → IsReached edge c → Gone c ⊎ IsReached less c
reached_without edge less Gone split none _ top = inr top
reached_without edge less Gone split none _ (by_edge {parent = p} {birth = c} {name = m} h e) =
    ⊎_elim
    inl
    (λ f.
    ⊎_elim
    (λ gone. absurd (none p gone m c e))
    (λ reached. inr (by_edge reached f))
    (reached_without edge less Gone split none p h))
    (split p m c e)

-- where the names that go all led to b, and b is still reached, all are
pub reached_around : (edge more : Edges) (b : ℕ) → ((p : ℕ) (m : List ℕ) (c : ℕ) → edge p m ≡ Some c → (c ≡ b) ⊎ (more p m ≡ Some c)) → IsReached more b → (c : ℕ) → IsReached edge c → IsReached more c
reached_around edge more b split here _ top = top
reached_around edge more b split here _ (by_edge {parent = p} {birth = c} {name = m} h e) =
    ⊎_elim
    (λ same. subst (IsReached more) (sym same) here)
    (λ f. by_edge (reached_around edge more b split here p h) f)
    (split p m c e)
