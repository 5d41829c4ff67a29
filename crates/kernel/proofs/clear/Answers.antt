use Rattle.std.proofs.Common.{◌≡◌, ℕ, refl, ap, ◌∙◌, arith, length-set}
use Rattle.kernel.specs.Blank.{filled}
use Rattle.kernel.proofs.Filled.{fill_start, fill_more}
use Rattle.kernel.proofs.clear.Goals as goal

pub loop-i-init : goal.loop-i-init
loop-i-init g c = (omega arith, refl, fill_start c.args.value c.args.from c.args.s.now)

pub bounds-s-i : goal.bounds-s-i
bounds-s-i g c = let e = c.loop-i.invariant.1 in omega arith

pub loop-i-preserved : goal.loop-i-preserved
loop-i-preserved g c =
    let L = c.loop-i in
    let a = c.args in
    (omega arith, length-set L.s L.i a.value ∙ L.invariant.1, fill_more a.value a.from L.i a.s.now L.s (omega arith) (omega arith) L.invariant.2)

pub returns : goal.returns
returns g c =
    let L = c.loop-i in
    let a = c.args in
    let e : L.i ≡ a.to = omega arith in
    L.invariant.2 ∙ ap (λ (k : ℕ). filled a.value a.from k a.s.now) e
