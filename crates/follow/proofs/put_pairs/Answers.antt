use Rattle.std.proofs.Common.{◌≡◌, ℕ, ◌+◌, ◌*◌, List, ap, ◌∙◌, subst, arith, rules}
use Rattle.paper.specs.Width.{link_width}
use Rattle.follow.specs.Fill.{firsts, seconds, put_links, Pairs}
use Rattle.follow.proofs.Filling.{pairs-none, pairs-more}
use Rattle.follow.proofs.put_pairs.Goals as goal

pub loop-j-init : goal.loop-j-init
loop-j-init c = (search rules, pairs-none _ _ _ _)

pub put_row-requires : goal.put_row-requires
put_row-requires c =
    let p = c.requires in
    let L = c.loop-j.invariant in
    let h = c.loop-j-test.true in
    let r = p.rows in
    let b = L.1.long in
    let o = p.own in
    let a0 = p.first0 in
    let a1 = p.first1 in
    let a2 = p.first2 in
    let a3 = p.first3 in
    let a4 = p.first4 in
    let a5 = p.first5 in
    record { link_width_in_bounds = (omega arith, omega arith); s_bound = (omega arith, (omega arith, (omega arith, (omega arith, (omega arith, omega arith))))) }

pub put_row-requires-in-loop-j : goal.put_row-requires-in-loop-j
put_row-requires-in-loop-j c =
    let p = c.requires in
    let L = c.loop-j.invariant in
    let h = c.loop-j-test.true in
    let r = p.rows in
    let b = L.1.long in
    let o = p.own in
    let a0 = p.second in
    let u = c.put_row.auto.ol in
    let a1 = p.first1 in
    let a2 = p.first2 in
    let a3 = p.first3 in
    let a4 = p.first4 in
    let a5 = p.first5 in
    record { link_width_in_bounds = (omega arith, omega arith); s_bound = (omega arith, (omega arith, (omega arith, (omega arith, (omega arith, omega arith))))) }

pub loop-j-preserved : goal.loop-j-preserved
loop-j-preserved c =
    let L = c.loop-j.invariant in
    let h = c.loop-j-test.true in
    let p = c.requires in
    let s = c.args in
    let j = c.loop-j.j in
    let r = p.rows in (
      omega arith,
      pairs-more
          (omega arith)
          L.1
          (c.put_row-in-loop-j.ensures
          ∙ ap (λ (l : List ℕ). put_links link_width (seconds s.z s.y1 s.y2 s.y3 s.y4 s.y5) (j * 2) (s.x + j * 2 + 1) l) c.put_row.ensures),
    )

pub shape_of-ol : goal.shape_of-ol
shape_of-ol c = c.loop-j.invariant.1.long

pub returns : goal.returns
returns c =
    let L = c.loop-j.invariant in
    let h = c.loop-j-test.false in
    let a = L.0 in
    let s = c.args in
    let e : c.loop-j.j ≡ s.c = omega arith in
    subst
    (λ (j : ℕ). Pairs s.x j (firsts s.y0 s.y1 s.y2 s.y3 s.y4 s.y5) (seconds s.z s.y1 s.y2 s.y3 s.y4 s.y5) s.ol.now c.loop-j.ol)
    e
    L.1
