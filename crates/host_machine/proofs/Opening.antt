-- A host that is opened keeps the facts of images, and the rules.
use Rattle.std.proofs.Common.{sym, ap, subst, ◌∙◌, inl, inr, ⊎_elim, arith}
use Rattle.std.proofs.lemmas.Bool.{false≢true}
use Rattle.std.proofs.lemmas.Option.{none-some}
use Rattle.std.specs.Prelude.{◌≡◌, ℕ, zero, suc, ◌+◌, ◌<◌, ◌≤◌, ◌⊎◌, true, List, [], Some, refl}
use Rattle.blk_base.specs.Members.{In}
use Rattle.log_model.proofs.Marks.{keep≢set}
use Rattle.log_model.specs.Ring.{IsPlace}
use Rattle.volume_ops.specs.Reads.{answer, blocks_read}
use Rattle.volume_ops.specs.laws.ReadsLaws.{answer-agrees}
use Rattle.volume_ops.specs.Volume.{disk_of}
use Rattle.crash_laws.proofs.Start.{rules_at_start, pages_at_start}
use Rattle.crash_laws.specs.PageRules.{place_at, HasOpened}
use Rattle.crash_laws.specs.Rules.{BaseImage}
use Rattle.crash_laws.specs.Session.{image_of, Session}
use Rattle.host_machine.proofs.Entries.{index_past}
use Rattle.host_machine.specs.Host.{opened}
use Rattle.journal_ring.specs.LogRing.{LogRing}
use Rattle.host_machine.specs.State.{Host}
use Rattle.host_machine.specs.Views.{tree_after, cut_of}
use Rattle.host_machine.specs.laws.Contract.{IsAlike, Over, Contract, noted_history, session}
use Rattle.host_machine.specs.laws.Rules.{Keeps}

module _ {A T V C R : Type 0} {o : Over A T V C R} {Stands : V → T → Type 0} (contract : Contract o Stands) (v : V) (ring : LogRing) (zones limit : ℕ) (programs : List (List C)) where
  abbrev host : Host V C R
  host = opened o.model o.setup v ring zones limit programs

  abbrev s : Session
  s = session o Stands [] host

  no_cut : (k : ℕ) → cut_of [] 0 k ≡ 0
  no_cut zero = refl
  no_cut (suc k) = index_past [] k 0 (omega arith)

  -- The volume is plain and stands for the tree that is opened, its metadata is the base image's, and the log of
  -- that is empty.
  pub opened_keeps : Stands v o.model.root → ((b : ℕ) → o.model.metadata v b ≡ true → (In b o.reserved ⊎ In b o.freeable) × (o.model.bytes v b ≡ disk_of o.base b))
      → ((b : ℕ) → In b o.freeable → o.model.metadata v b ≡ true) → ((f i z : ℕ) → o.model.zone v f i ≡ Some z → o.model.bytes v z ≡ disk_of o.base z)
      → 1 ≤ ring.places.first → IsPlace ring.places ring.places.first → BaseImage s → ((b : ℕ) → In b (blocks_read (disk_of o.base) o.program) → In b o.reserved ⊎ In b o.freeable)
      → Keeps o Stands host [] 0
  opened_keeps stands metadata freeable bytes first place base walked = (
    (
      record {
        counted = refl;
        closed = refl;
        rise = rise;
        stands = stands;
        numbers = record {
          closed = inl refl;
          committed = λ k pos le. absurd (omega arith);
          no_more = λ k c g. absurd (none-some _ g);
          cuts = λ k. let e = no_cut k in omega arith;
          running = λ k le. no_cut k;
          versions = λ p f i w g. absurd (none-some _ g);
        };
        present = record { present = λ b m. let x = metadata b m in inr (x.1, inl (⊎_elim inl (λ old. inr (old, refl)) x.0)) };
        bodies = record { on_metadata = λ b x set. absurd (keep≢set x set); bodies_on = λ b i. absurd i; waits = λ b i. absurd i; own = λ b i. absurd i };
        plan_revokes = record { waits = λ b on i. absurd (omega arith) };
        alike = λ k lt.
            let e : 0 ≡ k = omega arith in
            subst (λ n. IsAlike o Stands (answer (image_of s n) o.program) (tree_after o.model [] (cut_of [] 0 n))) e
            (v, stands, sym walk_of_base);
        places = record { kept = λ k f i z lt maps calm there. let e : 0 ≡ k = omega arith in sym (place_of f i z there) ∙ ap (λ n. place_at o.program (noted_history o Stands [] []) s n f i) e };
        mapped = record { cached = λ f i p e. absurd (none-some p e); all = λ f i z there wrote. absurd (omega arith) };
        rising = tt;
        sent = record { not_clean = λ f i p e. absurd (none-some p e); firm = λ f i p e. absurd (none-some p e); older = λ p f i w y q t e. absurd (none-some q e) };
        zones = record { live_or_dead = λ p f i w z t. absurd (none-some _ t.note) };
        opened = record {
          pages = λ f i there. let z = (contract.plain v o.model.root stands).there f i there in inl (record { calm = λ m lo hi un. omega arith; there = z.1 ∙ ap Some (sym (place_of f i z.0 z.1)) });
          freeable = λ b i. inl (freeable b i);
        };
        altered = record { listed = λ f e. absurd (false≢true e); not_empty = λ f i z l. absurd l };
        in_phase = refl;
      },
      refl,
    ),
    record {
      order = rules_at_start o.program s refl refl first place base walked;
      pages = pages_at_start o.program s refl (noted_history o Stands [] []) has_opened;
      committed = record { sent = λ k c f i g ch m wrote. absurd (none-some _ g) };
    },
  )
    where
      walk_of_base : answer (disk_of o.base) o.program ≡ answer (o.model.bytes v) o.program
      walk_of_base = answer-agrees (o.model.bytes v) (disk_of o.base) o.program (λ b read. sym (metadata b ((contract.plain v o.model.root stands).walk b read)).1)

      place_of : (f i z : ℕ) → o.model.zone v f i ≡ Some z → place_at o.program (noted_history o Stands [] []) s 0 f i ≡ z
      place_of f i z there = ap (λ a. o.place a o.model.root f i) walk_of_base ∙ (contract.plain v o.model.root stands).places f i z there

      has_opened : HasOpened o.program (noted_history o Stands [] []) s
      has_opened f i there =
          let plain = contract.plain v o.model.root stands in
          let z = plain.there f i there in
          let e = place_of f i z.0 z.1 in
          (subst (λ y. y < o.setup.journal) (sym e) (plain.page_low f i z.0 z.1), ap (disk_of o.base) e ∙ sym (bytes f i z.0 z.1) ∙ plain.content f i z.0 z.1)

      rise : (k : ℕ) → cut_of [] 0 k ≤ cut_of [] 0 (k + 1)
      rise k = let a = no_cut k in let b = no_cut (k + 1) in omega arith
