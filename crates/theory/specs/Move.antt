-- Lifted darts over a cut: which there are, and where each axis leads from one.
--     Member           x is a lifted dart of the cut
--     move             where axis i leads from x: document 01's six cases, told of a cut
--     lt_lifted         x comes before y in the numbering
use Rattle.std.specs.Prelude.{◌≡◌, ℕ, ◌+◌, ◌-◌, ◌<◌, ◌≤◌, Bool, true, cond, not, ◌&&◌, ◌||◌, ◌==◌, int_lt, nat_le, nat_lt}
use Rattle.paper.specs.Map.{eq_z}
use Rattle.paper.specs.Lift.{Lifted, at}
use Rattle.theory.specs.Cut.{Cut}

pub record Member (C : Cut) (x : Lifted) : Type 0 where
  pub dart : x.d < C.N
  pub level : x.k ≤ C.m
  pub end : C.end x.k x.d x.t ≡ true
  pub side : C.cov x.d x.t x.s ≡ true

unfoldable pub move : Cut → ℕ → Lifted → Lifted
move C i x =
    let d = x.d in
    let k = x.k in
    let t = x.t in
    let s = x.s in
    cond (nat_lt i k) (at (C.α i d) k t s)
    (cond (i == k) (cond (k == 0) (at d 0 (C.next d t s) (not s)) (at d (k - 1) t s))
    (cond (i == k + 1)
    (cond (nat_le i C.m) (cond (C.end (k + 1) d t) (at d (k + 1) t s) (at d k t (not s)))
    (cond (C.cov d t (not s)) (at d C.m t (not s)) x))
    (cond (nat_le i C.m) (at (C.α (i - 1) d) k t s)
    (cond (C.cov (C.α C.m d) t s) (at (C.α C.m d) k t s) x))))

-- The order in which lifted darts are numbered: by d, then k, then t ascending, then down before up.
abbrev pub lt_lifted : Lifted → Lifted → Bool
lt_lifted x y =
    nat_lt x.d y.d || (x.d == y.d
    && (nat_lt x.k y.k || (x.k == y.k
    && (int_lt x.t y.t || (eq_z x.t y.t
    && (not x.s && y.s))))))
