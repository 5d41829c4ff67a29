use Rattle.std.proofs.Common.{◌≡◌, ℕ, ◌+◌, refl, ap, ◌∙◌, arith, rules}
use Rattle.paper.specs.Below.{count_below}
use Rattle.theory.proofs.Below.{count-le}
use Rattle.kernel.specs.Link.{alpha}
use Rattle.orbit.specs.Flood.{axes, least}
use Rattle.orbit.proofs.Held.{cells-held}
use Rattle.orbit.proofs.Swept.{swept_none, met-yes, met-no}
use Rattle.orbit.proofs.count_cells.Goals as goal
use Rattle.orbit.proofs.count_cells.Goals.{then-t-u, else-t-u}

pub loop-d-init : goal.loop-d-init
unfolding count_below
loop-d-init c = (swept_none _ _ _ _ _, refl)

pub overflow_add-k : goal.overflow_add-k
overflow_add-k c =
    let L = c.loop-d in
    let a = c.args in
    let e = L.invariant.1 in
    let k = count-le L.d (least (alpha a.links.now) a.m (axes a.i (a.i + 1)) a.n) in
    omega arith

pub returns : goal.returns
returns c =
    let a = c.args in
    let L = c.loop-d in
    let e : L.d ≡ a.n = omega arith in
    let least_at = least (alpha a.links.now) a.m (axes a.i (a.i + 1)) a.n in
    let few = count-le L.d least_at in record { value = λ M H. L.invariant.1 ∙ ap (λ (x : ℕ). count_below x least_at) e ∙ cells-held M a.m a.n a.links.now H c.requires.ready.links a.i; upper_bound = omega arith }

pub loop-d-preserved : goal.loop-d-preserved
loop-d-preserved c =
    let a = c.args in
    let L = c.loop-d in
    let K = c.sweep-u in (
      K.ensures.swept,
      elim c.if-t-u.branch [ then-t-u w ↦ rw w.k-is (met-yes (alpha a.links.now) a.m (axes a.i (a.i + 1)) a.n L.d K.ensures w.if-t-u.true L.invariant.1) | else-t-u w ↦ rw w.k-is (met-no (alpha a.links.now) a.m (axes a.i (a.i + 1)) a.n L.d K.ensures (search rules) L.invariant.1) ],
    )
