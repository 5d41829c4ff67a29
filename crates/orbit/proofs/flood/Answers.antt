use Rattle.std.proofs.Common.{◌≡◌, ◌<◌, ◌≤◌, length, refl, ◌∙◌, arith, rules}
use Rattle.kernel.specs.Link.{alpha}
use Rattle.orbit.specs.Flood.{axes}
use Rattle.orbit.proofs.Front.{front-start, front-more, front-end}
use Rattle.orbit.proofs.Sparse.{fits, room}
use Rattle.orbit.proofs.flood.Goals as goal

pub push-requires : goal.push-requires
push-requires c =
    let spare : c.args.t < c.args.n = room c.args.n c.args.n c.args.work.now c.args.t c.requires.sparse c.args.d c.requires.d_lt_n c.requires.fact in
    let r = spare in search rules

pub loop-head-init : goal.loop-head-init
loop-head-init c =
    let a = c.args in
    rw c.push.ensures (
      refl,
      front-start (alpha a.links.now) a.m (axes a.lo a.hi) a.n a.d a.work.now a.t
          c.requires.sparse c.requires.ready.room c.requires.d_lt_n c.requires.fact c.requires.shut,
    )

pub overflow_add-n : goal.overflow_add-n
overflow_add-n c =
    let high : c.loop-head.tail ≤ c.args.n = fits _ _ _ _ c.loop-head.invariant.1.set in
    let h = high in omega arith

pub get-e-requires : goal.get-e-requires
get-e-requires c =
    let long : length c.loop-head.work ≡ length c.args.work.now = c.loop-head.invariant.0 ∙ c.push.auto.work in
    let high : c.loop-head.tail ≤ c.args.n = fits _ _ _ _ c.loop-head.invariant.1.set in
    let h = high in let k = long in omega arith

pub loop-head-smaller : goal.loop-head-smaller
loop-head-smaller c =
    let high : c.loop-head.tail ≤ c.args.n = fits _ _ _ _ c.loop-head.invariant.1.set in
    let h = high in omega arith

pub loop-head-preserved : goal.loop-head-preserved
loop-head-preserved c =
    let a = c.args in
    let K = c.look_around-tail in
    let g = c.get-e in
    (K.auto.work ∙ c.loop-head.invariant.0, front-more (alpha a.links.now) a.m (axes a.lo a.hi) a.n a.d _ a.t g.result c.loop-head.invariant.1 (search rules) g.ensures.0 K.ensures)

pub returns : goal.returns
returns c =
    let a = c.args in
    front-end (alpha a.links.now) a.m (axes a.lo a.hi) a.n a.d a.work.now a.t c.requires.sparse c.requires.ready.room c.requires.d_lt_n c.requires.fact c.requires.shut
    (rw c.push.ensures at c.loop-head.invariant.1) (search rules) c.requires.ready.links
