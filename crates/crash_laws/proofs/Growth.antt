-- The history grows: what was told of old entries stays.
use Rattle.std.specs.Prelude.{◌≡◌, ℕ, zero, suc, ◌-◌, ◌<◌, ◌≤◌, true, if◌then◌else◌, refl}
use Rattle.std.proofs.Common.{sym, ap, subst, ◌∙◌, inl, inr, ⊎_elim, arith}
use Rattle.order_model.specs.declared.note.Note.TheVariants.{Page}
use Rattle.order_model.specs.OrderClosed.{IsPutWith}
use Rattle.volume_ops.specs.Volume.{disk_of}
use Rattle.volume_ops.specs.Reads.{Reads, answer}
use Rattle.log_model.specs.Marks.{mark_in, transactions_from}
use Rattle.crash_laws.specs.laws.Extending.{Extends}
use Rattle.crash_laws.specs.History.{History, IsUnmapped, Calm, last_write}
use Rattle.crash_laws.specs.PageRules.{IsPageTo, place_at, PageOrder, DataBeforeCommit}
use Rattle.crash_laws.specs.Session.{Session, HasNote, IsSubmitted, Before, Submitted, image_of}

module _ {A : Type 0} {h more : History A} {s : Session} {now : ℕ} (ext : Extends h more s now) where
  pub unmapped_old : (f i m : ℕ) → m ≤ now → IsUnmapped more f i m → IsUnmapped h f i m
  unmapped_old f i m le un = record {
    before = sym (ext.maps (m - 1) f i (omega arith)) ∙ un.before;
    after = sym (ext.maps m f i le) ∙ un.after;
  }

  pub unmapped_new : (f i m : ℕ) → m ≤ now → IsUnmapped h f i m → IsUnmapped more f i m
  unmapped_new f i m le un = record {
    before = ext.maps (m - 1) f i (omega arith) ∙ un.before;
    after = ext.maps m f i le ∙ un.after;
  }

  calm_old : (f i a b : ℕ) → b ≤ now → Calm more f i a b → Calm h f i a b
  calm_old f i a b le calm m lo hi un = calm m lo hi (unmapped_new f i m (omega arith) un)

  last_write_old : (f i n : ℕ) → n ≤ now → last_write more f i n ≡ last_write h f i n
  last_write_old f i zero le = refl
  last_write_old f i (suc n) le =
      ap (λ t. if t then suc n else last_write more f i n) (ext.writes (suc n) f i le)
      ∙ ap (λ l. if h.writes (suc n) f i then suc n else l) (last_write_old f i n (omega arith))

  maps_at_cut : (k f i : ℕ) → IsSubmitted s k → more.maps (more.cut k) f i ≡ true → h.maps (h.cut k) f i ≡ true
  maps_at_cut k f i sub m =
      sym (ext.maps (h.cut k) f i (ext.within k sub)) ∙ ap (λ n. more.maps n f i) (sym (ext.cuts k sub)) ∙ m

  module _ (program : Reads A) where
    place_same : (k f i : ℕ) → IsSubmitted s k → place_at program more s k f i ≡ place_at program h s k f i
    place_same k f i sub =
        ap (λ n. more.place (answer (image_of s k) program) n f i) (ext.cuts k sub) ∙ ext.place (answer (image_of s k) program) (h.cut k) f i (ext.within k sub)

    pub page_order_grows : PageOrder program h s → PageOrder program more s
    page_order_grows old = record {
      content = λ o f i v z t. subst (IsPutWith s.requests o) (sym (ext.content f i v (ext.versions o f i v t.note))) (old.content o f i v z t);
      there = λ o f i v z t. ext.maps v f i (ext.versions o f i v t.note) ∙ old.there o f i v z t;
      place = λ o f i v z k t sub m c d.
          let e = ext.cuts k sub in
          let c' = subst (λ n. Calm more f i v n) e c in
          let d' = subst (λ n. Calm more f i n v) e d in
          old.place o f i v z k t sub (maps_at_cut k f i sub m) (calm_old f i v (h.cut k) (ext.within k sub) c') (calm_old f i (h.cut k) v (ext.versions o f i v t.note) d')
          ∙ sym (place_same k f i sub);
      versions = old.versions;
      another = λ a o f i v g j w z lt t u n.
          let x = old.another a o f i v g j w z lt t u n in
          let sub : IsSubmitted s x.k = Submitted x.commit x.committed in
          let in_time = ext.within x.k sub in
          let hi = x.within in
          let same = ext.cuts x.k sub in
          record { k = x.k; commit = x.commit; committed = x.committed; behind = x.behind; before = x.before; entry = x.entry; later = x.later; within = omega arith; unmapped = unmapped_new f i x.entry (omega arith) x.unmapped };
      logged = λ o f i v z k x t pos sub set.
          ⊎_elim inl
          (λ e. inr (e.0, e.1, e.2, let le = e.3 in let same = ext.cuts (k - 1) (Submitted e.0 e.1) in omega arith))
          (old.logged o f i v z k x t pos sub set);
      files = λ k f i x sub m set. old.files k f i x sub (maps_at_cut k f i sub m) (ap (mark_in (transactions_from s.transactions 1 k)) (sym (place_same k f i sub)) ∙ set);
      opened = λ f i there.
          let o = old.opened f i (sym (ext.maps 0 f i (omega arith)) ∙ there) in
          let e = place_same 0 f i (Before refl) in
          (subst (λ z. z < s.journal) (sym e) o.0, ap (disk_of s.base) e ∙ o.1 ∙ sym (ext.content f i 0 (omega arith)));
      stays = λ f i k there sub calm.
          place_same 0 f i (Before refl)
          ∙ old.stays f i k (sym (ext.maps 0 f i (omega arith)) ∙ there) sub (calm_old f i 0 (h.cut k) (ext.within k sub) (subst (λ n. Calm more f i 0 n) (ext.cuts k sub) calm))
          ∙ sym (place_same k f i sub);
      given_up = λ o f i g j w there t apart.
          let x = old.given_up o f i g j w (sym (ext.maps 0 f i (omega arith)) ∙ there) (subst (IsPageTo s o g j w) (place_same 0 f i (Before refl)) t) apart in
          let sub : IsSubmitted s x.k = Submitted x.commit x.committed in
          let in_time = ext.within x.k sub in
          let hi = x.within in
          let same = ext.cuts x.k sub in
          record { k = x.k; commit = x.commit; committed = x.committed; before = x.before; entry = x.entry; later = x.later; within = omega arith; unmapped = unmapped_new f i x.entry (omega arith) x.unmapped };
    }

    pub data_before_commit_grows : DataBeforeCommit program h s → DataBeforeCommit program more s
    data_before_commit_grows old = record {
      sent = λ k c f i g ch m wrote.
          let sub : IsSubmitted s k = Submitted c g in
          let last : last_write h f i (h.cut k) ≡ last_write more f i (more.cut k) = sym (last_write_old f i (h.cut k) (ext.within k sub)) ∙ ap (last_write more f i) (sym (ext.cuts k sub)) in
          let x = old.sent k c f i g (sym (ext.changes k c f g) ∙ ch) (maps_at_cut k f i sub m) (subst (λ v. 1 ≤ v) (sym last) wrote) in
          (x.0, subst (λ v. HasNote s x.0 (Page f i v)) last x.1, x.2, x.3);
    }
