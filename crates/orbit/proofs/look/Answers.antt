use Rattle.std.proofs.Common.{◌<◌, sym, ◌∙◌, arith, rules}
use Rattle.kernel.specs.Link.{alpha}
use Rattle.orbit.specs.Flood.{axes}
use Rattle.orbit.specs.Sparse.{In}
use Rattle.orbit.proofs.Front.{looked-old, looked-new}
use Rattle.orbit.proofs.Sparse.{fits, room, in-yes, in-no}
use Rattle.orbit.proofs.look.Goals as goal

pub has-requires : goal.has-requires
has-requires c =
    let below : alpha c.args.links.now c.args.j c.args.e < c.args.n = c.requires.ready.links.within c.args.j c.args.e c.requires.e_lt_n.0 c.requires.e_lt_n.1 in
    let f = fits _ _ _ _ c.requires.sparse in
    let g = c.link_at-g.ensures.0 in
    let b = below in
    (omega arith, omega arith)

pub returns-then-has : goal.returns-then-has
returns-then-has c =
    let a = c.args in
    let i = in-yes a.n a.n a.work.now a.t c.requires.sparse _ (sym c.has.ensures ∙ c.if-has.true) in
    looked-old (alpha a.links.now) (axes a.lo a.hi) a.n a.e a.j a.work.now a.t c.requires.sparse
    (i.0, i.1, i.2 ∙ c.link_at-g.ensures.0)

pub push-requires : goal.push-requires
push-requires c =
    let below : alpha c.args.links.now c.args.j c.args.e < c.args.n = c.requires.ready.links.within c.args.j c.args.e c.requires.e_lt_n.0 c.requires.e_lt_n.1 in
    let into : c.link_at-g.result < c.args.n = let g = c.link_at-g.ensures.0 in let b = below in omega arith in
    let out : In c.args.n c.args.work.now c.args.t c.link_at-g.result → ⊥ = in-no c.args.n c.args.n c.args.work.now c.args.t c.requires.sparse _ (sym c.has.ensures ∙ c.if-has.false) in
    let spare : c.args.t < c.args.n = room c.args.n c.args.n c.args.work.now c.args.t c.requires.sparse _ (into) (out) in
    let r = spare in
    let g = into in
    search rules

pub returns : goal.returns
returns c =
    let below : alpha c.args.links.now c.args.j c.args.e < c.args.n = c.requires.ready.links.within c.args.j c.args.e c.requires.e_lt_n.0 c.requires.e_lt_n.1 in
    let into : c.link_at-g.result < c.args.n = let g = c.link_at-g.ensures.0 in let b = below in omega arith in
    let out : In c.args.n c.args.work.now c.args.t c.link_at-g.result → ⊥ = in-no c.args.n c.args.n c.args.work.now c.args.t c.requires.sparse _ (sym c.has.ensures ∙ c.if-has.false) in
    let a = c.args in
    let g = c.link_at-g in
    let O = c.on in
    rw c.push.ensures
    (looked-new (alpha a.links.now) (axes a.lo a.hi) a.n a.e a.j a.work.now a.t c.requires.sparse g.result g.ensures.0
    (sym O.ensures ∙ c.if-not-on.false) c.requires.ready.room (into) (out))
