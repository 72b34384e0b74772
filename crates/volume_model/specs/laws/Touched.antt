-- Two calls told as one.
use Rattle.std.specs.Prelude.{ℕ, ◌⊎◌}
use Rattle.std.proofs.Common.{inl, inr, ⊎_elim, ◌∙◌}
use Rattle.blk_base.specs.laws.Members.{In-append_left, In-append_right, In-append_cases}
use Rattle.minix_layout.specs.declared.division.Geometry.{Geometry}
use Rattle.volume_model.specs.Touched.{Contents, Follows, Tells, Touched, and_then}

pub tells_then : (g : Geometry) (u v w : Contents) (s t : Touched) (Writes More : ℕ → ℕ → Type 0) → Tells g u v s Writes → Tells g v w t More → Follows w s t →
    Tells g u w (and_then s t) (λ birth index. Writes birth index ⊎ More birth index)
tells_then g u v w s t Writes More h k f = record {
  fresh_are_touched = λ b new. ⊎_elim (λ was. ⊎_elim inl (λ i. inr (In-append_left s.blocks t.blocks b i)) (h.fresh_are_touched b was)) (λ i. inr (In-append_right s.blocks t.blocks b i)) (k.fresh_are_touched b new);
  stays_or_revoked = λ b old. ⊎_elim (λ was. ⊎_elim inl (λ i. inr (In-append_right s.revoked t.revoked b i)) (k.stays_or_revoked b was)) (λ i. inr (In-append_left s.revoked t.revoked b i)) (h.stays_or_revoked b old);
  revoked_are_left = λ b i. ⊎_elim
      (λ first. (let told = h.revoked_are_left b first in (
        In-append_left s.freed t.freed b told.0,
        λ new. ⊎_elim (λ was. told.1 was) (λ taken. f.not_taken b first taken) (k.fresh_are_touched b new),
        told.2,
      )))
      (λ second. (let told = k.revoked_are_left b second in (In-append_right s.freed t.freed b told.0, told.1, told.2)))
      (In-append_cases s.revoked t.revoked b i);
  kept = λ b none old new. ⊎_elim
      (λ was. k.kept b (λ i. none (In-append_right s.blocks t.blocks b i)) was new ∙ h.kept b (λ i. none (In-append_left s.blocks t.blocks b i)) old was)
      (λ i. absurd (none (In-append_right s.blocks t.blocks b i)))
      (k.fresh_are_touched b new);
  touched_are_meta = λ b i. ⊎_elim
      (λ first. ⊎_elim
      (λ gone. inl (In-append_left s.revoked t.revoked b gone))
      (λ told. ⊎_elim (λ still. inr (still, told.1, told.2)) (λ gone. inl (In-append_right s.revoked t.revoked b gone)) (k.stays_or_revoked b told.0))
      (h.touched_are_meta b first))
      (λ second. ⊎_elim (λ gone. inl (In-append_right s.revoked t.revoked b gone)) (λ told. inr told) (k.touched_are_meta b second))
      (In-append_cases s.blocks t.blocks b i);
  pages_are_written = λ x i. ⊎_elim
      (λ first. (let told = h.pages_are_written x first in
      (⊎_elim (λ still. still) (λ dropped. absurd (f.not_dropped x first dropped)) (k.stays_or_dropped x told.0), inl told.1)))
      (λ second. (let told = k.pages_are_written x second in (told.0, inr told.1)))
      (In-append_cases s.pages t.pages x i);
  was_or_written = λ x page. ⊎_elim
      (λ was. ⊎_elim inl (λ i. inr (In-append_left s.pages t.pages x i)) (h.was_or_written x was))
      (λ i. inr (In-append_right s.pages t.pages x i))
      (k.was_or_written x page);
  written_are_pages = λ birth index i. ⊎_elim
      (λ first. (let told = h.written_are_pages birth index first in (told.0, In-append_left s.pages t.pages _ told.1)))
      (λ second. (let told = k.written_are_pages birth index second in (told.0, In-append_right s.pages t.pages _ told.1)))
      i;
  dropped_were_mapped = λ x i. ⊎_elim
      (λ first. (let told = h.dropped_were_mapped x first in (told.0, In-append_left s.freed t.freed x.zone told.1, λ zone page. f.not_mapped x zone first page)))
      (λ second. (let told = k.dropped_were_mapped x second in
      (⊎_elim (λ was. was) (λ new. absurd (f.not_dropped x new second)) (h.was_or_written x told.0), In-append_right s.freed t.freed x.zone told.1, told.2)))
      (In-append_cases s.dropped t.dropped x i);
  stays_or_dropped = λ x page. ⊎_elim
      (λ still. ⊎_elim inl (λ i. inr (In-append_right s.dropped t.dropped x i)) (k.stays_or_dropped x still))
      (λ i. inr (In-append_left s.dropped t.dropped x i))
      (h.stays_or_dropped x page);
  data_kept = λ x new old none. ⊎_elim
      (λ was. k.data_kept x new was (λ i. none (In-append_right s.pages t.pages x i)) ∙ h.data_kept x was old (λ i. none (In-append_left s.pages t.pages x i)))
      (λ i. absurd (none (In-append_right s.pages t.pages x i)))
      (k.was_or_written x new);
}
