-- What holds of a way as soon as it holds of all on which less is left holds of each; and less than less is less.
use Rattle.std.specs.Prelude.{ℕ, zero, suc, ◌<◌, ◌≤◌}
use Rattle.std.proofs.Common.{arith}
use Rattle.order_model.specs.Machine.{Machine}
use Rattle.schedulers.specs.reassign.Scheduler.{SchedSteps}
use Rattle.host_machine.specs.State.{Host}
use Rattle.session_core.specs.run.machine.Machine.{SessionState}
use Rattle.system_laws.proofs.AnsweredLemmas.Rounds.{requests_left, host_left, HostLess, submits, less, on_its_way, on_its_way_back, Less, by_host, by_way, by_work, by_back}

host_then : {V C R : Type 0} (h x y : Host V C R) → HostLess x h → HostLess y x → HostLess y h
host_then h x y (submits a) (submits b) = submits (omega (arith, a, b))
host_then h x y (submits a) (less b c) = submits (omega (arith, a, b))
host_then h x y (less a b) (submits c) = submits (omega (arith, a, c))
host_then h x y (less a b) (less c d) = less (omega (arith, a, c)) (omega (arith, b, d))

module _ {K S : Type 0} (k : SchedSteps K) (m : Machine S) (left : S → ℕ) where
  -- behind a step of the host that lowers something
  host_first : (r x y : SessionState K S) → HostLess x.host r.host → requests_left y.host.journal.flush ≤ requests_left x.host.journal.flush → host_left y.host ≤ host_left x.host → HostLess y.host r.host
  host_first r x y (submits a) b c = submits (omega (arith, a, b))
  host_first r x y (less a b) c d = less (omega (arith, a, c)) (omega (arith, b, d))

  -- and before one
  host_last : (r x y : SessionState K S) → requests_left x.host.journal.flush ≤ requests_left r.host.journal.flush → host_left x.host ≤ host_left r.host → HostLess y.host x.host → HostLess y.host r.host
  host_last r x y a b (submits c) = submits (omega (arith, a, c))
  host_last r x y a b (less c d) = less (omega (arith, a, c)) (omega (arith, b, d))

  pub less_then : (r x y : SessionState K S) → Less k m left x r → Less k m left y x → Less k m left y r
  less_then r x y (by_host a) (by_host b) = by_host (host_then r.host x.host y.host a b)
  less_then r x y (by_host a) (by_way b c d) = by_host (host_first r x y a b c)
  less_then r x y (by_host a) (by_work b c d e) = by_host (host_first r x y a b c)
  less_then r x y (by_host a) (by_back b c d e f) = by_host (host_first r x y a b c)
  less_then r x y (by_way a b c) (by_host d) = by_host (host_last r x y a b d)
  less_then r x y (by_way a b c) (by_way d e f) = by_way (omega (arith, a, d)) (omega (arith, b, e)) (omega (arith, c, f))
  less_then r x y (by_way a b c) (by_work d e f g) = by_way (omega (arith, a, d)) (omega (arith, b, e)) (omega (arith, c, f))
  less_then r x y (by_way a b c) (by_back d e f g h) = by_way (omega (arith, a, d)) (omega (arith, b, e)) (omega (arith, c, f))
  less_then r x y (by_work a b c d) (by_host e) = by_host (host_last r x y a b e)
  less_then r x y (by_work a b c d) (by_way e f g) = by_way (omega (arith, a, e)) (omega (arith, b, f)) (omega (arith, c, g))
  less_then r x y (by_work a b c d) (by_work e f g h) = by_work (omega (arith, a, e)) (omega (arith, b, f)) (omega (arith, c, g)) (omega (arith, d, h))
  less_then r x y (by_work a b c d) (by_back e f g h i) = by_work (omega (arith, a, e)) (omega (arith, b, f)) (omega (arith, c, g)) (omega (arith, d, h))
  less_then r x y (by_back a b c d e) (by_host f) = by_host (host_last r x y a b f)
  less_then r x y (by_back a b c d e) (by_way f g h) = by_way (omega (arith, a, f)) (omega (arith, b, g)) (omega (arith, c, h))
  less_then r x y (by_back a b c d e) (by_work f g h i) = by_work (omega (arith, a, f)) (omega (arith, b, g)) (omega (arith, c, h)) (omega (arith, d, i))
  less_then r x y (by_back a b c d e) (by_back f g h i j) = by_back (omega (arith, a, f)) (omega (arith, b, g)) (omega (arith, c, h)) (omega (arith, d, i)) (omega (arith, e, j))

  -- ---- over ways, each with its state

  module _ (X : Type 0) (at : X → SessionState K S) (Q : X → Type 0) (step : (x : X) → ((y : X) → Less k m left (at y) (at x) → Q y) → Q x) where
    abbrev n1 : X → ℕ
    n1 x = requests_left (at x).host.journal.flush

    abbrev n2 : X → ℕ
    n2 x = host_left (at x).host

    abbrev n3 : X → ℕ
    n3 x = on_its_way k m left (at x)

    abbrev n4 : X → ℕ
    n4 x = left (at x).dev

    abbrev n5 : X → ℕ
    n5 x = on_its_way_back k m left (at x)

    abbrev Below1 : ℕ → Type 0
    Below1 a = (x : X) → n1 x < a → Q x

    abbrev Below2 : ℕ → ℕ → Type 0
    Below2 a b = (x : X) → n1 x ≤ a → n2 x < b → Q x

    abbrev Below3 : ℕ → ℕ → ℕ → Type 0
    Below3 a b c = (x : X) → n1 x ≤ a → n2 x ≤ b → n3 x < c → Q x

    abbrev Below4 : ℕ → ℕ → ℕ → ℕ → Type 0
    Below4 a b c d = (x : X) → n1 x ≤ a → n2 x ≤ b → n3 x ≤ c → n4 x < d → Q x

    module _ (a b c d : ℕ) (h1 : Below1 a) (h2 : Below2 a b) (h3 : Below3 a b c) (h4 : Below4 a b c d) where
      abbrev Below5 : ℕ → Type 0
      Below5 e = (x : X) → n1 x ≤ a → n2 x ≤ b → n3 x ≤ c → n4 x ≤ d → n5 x < e → Q x

      fifth_step : (e : ℕ) → Below5 e → Below5 (suc e)
      fifth_step e h5 x l1 l2 l3 l4 l5 = step x by
        where
          by : (y : X) → Less k m left (at y) (at x) → Q y
          by y (by_host (submits i)) = h1 y (omega (arith, i, l1))
          by y (by_host (less i j)) = h2 y (omega (arith, i, l1)) (omega (arith, j, l2))
          by y (by_way i j n) = h3 y (omega (arith, i, l1)) (omega (arith, j, l2)) (omega (arith, n, l3))
          by y (by_work i j n o) = h4 y (omega (arith, i, l1)) (omega (arith, j, l2)) (omega (arith, n, l3)) (omega (arith, o, l4))
          by y (by_back i j n o p) = h5 y (omega (arith, i, l1)) (omega (arith, j, l2)) (omega (arith, n, l3)) (omega (arith, o, l4)) (omega (arith, p, l5))

      fifth : (e : ℕ) → Below5 e
      fifth zero x l1 l2 l3 l4 l5 = absurd (omega (arith, l5))
      fifth (suc e) x l1 l2 l3 l4 l5 = fifth_step e (fifth e) x l1 l2 l3 l4 l5

    fourth : (a b c : ℕ) → Below1 a → Below2 a b → Below3 a b c → (d : ℕ) → Below4 a b c d
    fourth a b c h1 h2 h3 zero x l1 l2 l3 l4 = absurd (omega (arith, l4))
    fourth a b c h1 h2 h3 (suc d) x l1 l2 l3 l4 = fifth a b c d h1 h2 h3 (fourth a b c h1 h2 h3 d) (suc (n5 x)) x l1 l2 l3 (omega (arith, l4)) (omega arith)

    third : (a b : ℕ) → Below1 a → Below2 a b → (c : ℕ) → Below3 a b c
    third a b h1 h2 zero x l1 l2 l3 = absurd (omega (arith, l3))
    third a b h1 h2 (suc c) x l1 l2 l3 = fourth a b c h1 h2 (third a b h1 h2 c) (suc (n4 x)) x l1 l2 (omega (arith, l3)) (omega arith)

    second : (a : ℕ) → Below1 a → (b : ℕ) → Below2 a b
    second a h1 zero x l1 l2 = absurd (omega (arith, l2))
    second a h1 (suc b) x l1 l2 = third a b h1 (second a h1 b) (suc (n3 x)) x l1 (omega (arith, l2)) (omega arith)

    first : (a : ℕ) → Below1 a
    first zero x l1 = absurd (omega (arith, l1))
    first (suc a) x l1 = second a (first a) (suc (n2 x)) x (omega (arith, l1)) (omega arith)

    pub least_first : (x : X) → Q x
    least_first x = first (suc (n1 x)) x (omega arith)
