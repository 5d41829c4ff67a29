use Rattle.std.proofs.Common.{◌≡◌, ℕ, true, sym, ◌∙◌, subst₂}
use Rattle.kernel.specs.Link.{alpha}
use Rattle.orbit.specs.Flood.{axes}
use Rattle.sew.specs.Pairs.{Pairs, Clash}
use Rattle.sew.proofs.Label.{either, stepped-on}
use Rattle.sew.proofs.pair.step.Goals as goal

pub returns : goal.returns
returns c =
    let a = c.args in
    let α = alpha a.links.now in
    let on : axes a.lo a.hi a.j ≡ true = sym c.on.ensures ∙ c.if-not-on.false in
    let g = c.link_at-g.ensures.0 in
    let y = c.link_at-y.ensures.0 in
    either c.take.result
    (λ h. (on, subst₂ (λ (u v : ℕ). Clash a.n a.w.now a.t u v) g y h))
    (λ u K. stepped-on α α (axes a.lo a.hi) (Pairs a.n) a.n a.e a.x a.j a.w.now a.t g y on K)
    c.take.ensures
