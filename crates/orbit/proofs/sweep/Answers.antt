use Rattle.std.proofs.Common.{sym, ◌∙◌, rules}
use Rattle.kernel.specs.Link.{alpha}
use Rattle.orbit.specs.Flood.{axes}
use Rattle.orbit.proofs.Swept.{swept-old, swept-new}
use Rattle.orbit.proofs.Sparse.{fits, in-yes, in-no}
use Rattle.orbit.proofs.sweep.Goals as goal

pub has-requires : goal.has-requires
has-requires c = let f = fits _ _ _ _ c.requires.swept.set in (search rules, search rules)

pub returns-then-has : goal.returns-then-has
returns-then-has c =
    let a = c.args in
    swept-old (alpha a.links.now) a.m (axes a.lo a.hi) a.n c.requires.ready.links a.d c.requires.d_lt_n c.requires.swept
    (in-yes a.n a.n a.work.now a.t c.requires.swept.set a.d (sym c.has.ensures ∙ c.if-has.true))

pub flood-requires : goal.flood-requires
flood-requires c =
    let a = c.args in
    let A = c.requires.swept in
    record { ready = c.requires.ready; d_lt_n = c.requires.d_lt_n; sparse = A.set; shut = A.shut; fact = in-no a.n a.n a.work.now a.t A.set a.d (sym c.has.ensures ∙ c.if-has.false) }

pub returns : goal.returns
returns c =
    let a = c.args in
    swept-new (alpha a.links.now) a.m (axes a.lo a.hi) a.n c.requires.ready.links a.d c.requires.d_lt_n c.requires.swept
    (in-no a.n a.n a.work.now a.t c.requires.swept.set a.d (sym c.has.ensures ∙ c.if-has.false))
    c.flood.ensures
