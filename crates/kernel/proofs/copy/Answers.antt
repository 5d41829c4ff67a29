use Rattle.std.proofs.Common.{◌≡◌, ℕ, refl, ap, ◌∙◌, arith}
use Rattle.kernel.specs.Copy.{copied}
use Rattle.kernel.proofs.Copied.{copy_more}
use Rattle.kernel.proofs.copy.Goals as goal

pub loop-i-init : goal.loop-i-init
loop-i-init g c = unfold copied in refl

pub loop-i-preserved : goal.loop-i-preserved
loop-i-preserved g c =
    let L = c.loop-i in
    let a = c.args in
    let x = c.index-from-i in
    copy_more x.result L.i a.from.now a.to.now L.to x.result (omega arith) (omega arith) L.invariant x.is

pub returns : goal.returns
returns g c =
    let L = c.loop-i in
    let a = c.args in
    let e : L.i ≡ a.count = omega arith in
    L.invariant ∙ ap (λ (k : ℕ). copied k a.from.now a.to.now) e
