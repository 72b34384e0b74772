-- Laws of the parts of a recovery's run.
use Rattle.std.specs.Prelude.{◌≡◌, ℕ, zero, suc, ◌+◌, ◌-◌, ◌^◌, ◌<◌, ◌≤◌, Bool, true, false, List, [], ◌∷◌, ◌++◌, length, replicate, Option, Some, refl}
use Rattle.std.specs.Option.{option_to_list}
use Rattle.std.proofs.Common.{sym, ap, ◌∙◌, inl, inr, ⊎_elim, arith, append_assoc}
use Rattle.std.proofs.lemmas.Bool.{cases_lt}
use Rattle.journal_replay.specs.code.Sending.{KeepsAll, keeps-more}
use Rattle.blk_base.specs.Streams.{Rose}
use Rattle.order_model.specs.declared.command.Command.{Command}
use Rattle.order_model.specs.declared.completion.Completion.{Completion}
use Rattle.order_model.specs.Device.{Seen}
use Rattle.order_model.specs.Machine.{Machine}
use Rattle.order_model.specs.Steps.{Answers}
use Rattle.journal_replay.specs.code.Runs.{DrainKeeps, RunKeeps}
use Rattle.journal_replay.specs.declared.choice.Choice.{Choice}
use Rattle.journal_replay.specs.declared.end.End.{End}
use Rattle.journal_replay.specs.declared.end.End.TheVariants as ends
use Rattle.journal_replay.specs.Driving.{Driven, by_completion, end_after, end_of, is_running, sent, drained, turned_from, turned, driven}

pub drain_more : (a b c : Seen) (o : Option Completion) → DrainKeeps a b → Answers b o c → DrainKeeps a c
drain_more a b c o k w = record {
  rest = w.rest ∙ ap (λ (x : Seen). let made : Seen = record x { sent = c.sent; waiting = c.waiting } in made) k.rest;
  told = (ap (λ (cs : List Completion). cs ++ c.waiting) w.sent ∙ (append_assoc b.sent (option_to_list o) c.waiting ∙ ap (λ (cs : List Completion). b.sent ++ cs) (sym w.waiting))) ∙ k.told;
}

pub end_after-append : (e : End) (xs ys : List Completion) → end_after e (xs ++ ys) ≡ end_after (end_after e xs) ys
end_after-append e [] ys = refl
end_after-append e (c ∷ cs) ys = end_after-append (by_completion e c) cs ys

pub end-answered : (old new : Seen) (c : Completion) → Answers old (Some c) new → end_of new ≡ by_completion (end_of old) c
end-answered old new c w = ap (end_after ends.Running) w.sent ∙ end_after-append ends.Running old.sent (c ∷ [])

module _ {S : Type 0} where
  -- nothing is sent where there is no room, or nothing is left
  pub sent-none : (m : Machine S) (s : S) (rest : List Command) → m.has_room s ≡ false → sent m s rest ≡ record { dev = s; rest = rest }
  sent-none m s [] full = refl
  sent-none m s (c ∷ cs) full = rw full refl

  pub sent-next : (m : Machine S) (s : S) (c : Command) (cs : List Command) → m.has_room s ≡ true → sent m s (c ∷ cs) ≡ sent m (m.received s c) cs
  sent-next m s c cs room = rw room refl

  by_room : (m : Machine S) (s : S) (c : Command) (cs : List Command) (b : Bool) → m.has_room s ≡ b → sent m (sent m (m.received s c) cs).dev (sent m (m.received s c) cs).rest ≡ sent m (m.received s c) cs
      → sent m (sent m s (c ∷ cs)).dev (sent m s (c ∷ cs)).rest ≡ sent m s (c ∷ cs)
  by_room m s c cs true room ih = rw (sent-next m s c cs room) ih
  by_room m s c cs false full ih = rw (sent-none m s (c ∷ cs) full) (sent-none m s (c ∷ cs) full)

  -- what is sent at once is not sent again
  pub sent-twice : (m : Machine S) (s : S) (rest : List Command) → sent m (sent m s rest).dev (sent m s rest).rest ≡ sent m s rest
  sent-twice m s [] = refl
  sent-twice m s (c ∷ cs) = by_room m s c cs (m.has_room s) refl (sent-twice m (m.received s c) cs)

  -- completions are taken one by one
  pub drained-next : (m : Machine S) (s : S) (c : Completion) → m.next_answer s ≡ Some c → Answers (m.seen s) (Some c) (m.seen (m.answered s)) → drained m s ≡ drained m (m.answered s)
  drained-next m s c next w = rw (next, ap length w.waiting) refl

-- ---- a whole run

rose-more : (x y z : ℕ) → Rose x y → y ≤ z → Rose x z
rose-more x y z r le h = let lt = r h in omega arith

pub later_rose : (x y z : ℕ) → Rose y z → x ≤ y → y ≤ z → Rose x z
later_rose x y z r le up h =
    ⊎_elim (λ lt. let more = r lt in omega arith) (λ ge. omega arith) (cases_lt (y + 1) (2 ^ 64))

pub run-more : (a b c : Seen) (xs ys zs : List Command) → RunKeeps a xs b ys → RunKeeps b ys c zs → RunKeeps a xs c zs
run-more a b c xs ys zs k l = record {
  all = keeps-more a b c xs ys zs k.all l.all;
  faults = let p = k.faults in let q = l.faults in omega arith;
  failed = ⊎_elim (λ e. ⊎_elim (λ f. inl (e ∙ f)) (λ r. inr (rose-more a.faults b.faults c.faults r l.faults)) k.failed) (λ r. inr (later_rose a.faults b.faults c.faults r k.faults l.faults)) l.failed;
}

pub run-sent : (old new : Seen) (xs ys : List Command) → KeepsAll old xs new ys → new ≡ record old { took = new.took } → RunKeeps old xs new ys
run-sent old new xs ys k e = record {
  all = k;
  faults = let same = ap (λ (s : Seen). s.faults) e in omega arith;
  failed = inl (ap (λ (s : Seen). s.failed) e);
}

module _ {S : Type 0} where
  pub turned-on : (m : Machine S) (c : Choice) (d : Driven S) → is_running (end_of (m.seen d.dev)) ≡ true → turned m c d ≡ turned_from m c (sent m d.dev d.rest)
  turned-on m c d running = rw running refl

  pub turned-over : (m : Machine S) (c : Choice) (d : Driven S) → is_running (end_of (m.seen d.dev)) ≡ false → turned m c d ≡ d
  turned-over m c d over = rw over refl

  pub driven-over : (m : Machine S) (d : Driven S) → is_running (end_of (m.seen d.dev)) ≡ false → driven m [] d ≡ d
  driven-over m d over = rw over refl

  pub driven-last : (m : Machine S) (d : Driven S) → is_running (end_of (m.seen d.dev)) ≡ true → driven m [] d ≡ sent m d.dev d.rest
  driven-last m d running = rw running refl

  -- behind the end turns do nothing
  pub driven-idle : (m : Machine S) (c : Choice) (k : ℕ) (later : List Choice) (d : Driven S) → is_running (end_of (m.seen d.dev)) ≡ false → driven m later d ≡ driven m (replicate k c ++ later) d
  driven-idle m c zero later d over = refl
  driven-idle m c (suc k) later d over = driven-idle m c k later d over ∙ ap (driven m (replicate k c ++ later)) (sym (turned-over m c d over))

  -- one turn more of those that are to be the same
  pub driven-turn : (m : Machine S) (c : Choice) (n k : ℕ) (later : List Choice) (d : Driven S) → n < k → driven m (replicate (k - (n + 1)) c ++ later) (turned m c d) ≡ driven m (replicate (k - n) c ++ later) d
  driven-turn m c n k later d less = let e : k - n ≡ suc (k - (n + 1)) = omega (arith, less) in ap (λ (i : ℕ). driven m (replicate i c ++ later) d) (sym e)

  -- a run goes on in the same way where it sends first
  pub driven-sent : (m : Machine S) (cs : List Choice) (d e : Driven S) → e ≡ sent m d.dev d.rest → is_running (end_of (m.seen d.dev)) ≡ true → is_running (end_of (m.seen e.dev)) ≡ true → driven m cs e ≡ driven m cs d
  driven-sent m [] d e same running still = driven-last m e still ∙ ((ap (λ (x : Driven S). sent m x.dev x.rest) same ∙ (sent-twice m d.dev d.rest)) ∙ sym (driven-last m d running))
  driven-sent m (c ∷ cs) d e same running still =
      ap (driven m cs) (turned-on m c e still ∙ (ap (turned_from m c) (ap (λ (x : Driven S). sent m x.dev x.rest) same ∙ sent-twice m d.dev d.rest) ∙ sym (turned-on m c d running)))
