use Rattle.std.proofs.Common.{◌≡◌, ℕ, ◌-◌, ◌<◌, ◌≤◌, length, refl, ap, ◌∙◌, subst, inl, inr, arith}
use Rattle.ends.specs.Key.{key_limit}
use Rattle.ends.specs.Join.{Copied, none, one}
use Rattle.ends.proofs.Keys.{length-put}
use Rattle.ends.proofs.join.copy_below.Goals as goal

pub loop-k-init : goal.loop-k-init
loop-k-init c = let r = c.requires in (omega (arith, r.il), (omega (arith, r.ml), (refl, none)))

pub shape_of-v-then-m-k : goal.shape_of-v-then-m-k
shape_of-v-then-m-k c = c.loop-k.invariant.1.1.0

pub returns-then-m-k : goal.returns-then-m-k
returns-then-m-k c = (c.loop-k.invariant.1.1.1, inr (inl c.if-m-k.true))

pub shape_of-v-then-y-x : goal.shape_of-v-then-y-x
shape_of-v-then-y-x c = c.loop-k.invariant.1.1.0

pub returns-then-y-x : goal.returns-then-y-x
returns-then-y-x c =
    let x = c.get_end-x.ensures in
    (c.loop-k.invariant.1.1.1, inr (inr (subst (λ (k : ℕ). (c.args.y ≤ k) × (k < key_limit)) x.0 (c.if-y-x.true, x.1))))

pub loop-k-preserved : goal.loop-k-preserved
loop-k-preserved c =
    let L = c.loop-k in
    let e = c.put_end.ensures in
    let f = c.if-m-k.false in
    let g = c.loop-k-test.true in (
      omega (arith, g),
      (
        omega (arith, L.invariant.1.0, f),
        (
          ap length e ∙ length-put _ _ _ _ ∙ L.invariant.1.1.0,
          one c.get_end-x.result L.invariant.1.1.1 (omega (arith, g)) (omega (arith, L.invariant.1.0, f)) c.get_end-x.ensures c.if-y-x.false e refl,
        ),
      ),
    )

pub returns : goal.returns
returns c =
    let a = c.args in
    let e : c.loop-k.k ≡ a.n - a.i = omega arith in
    (subst (λ (k : ℕ). Copied a.v.now a.p a.n a.room a.i a.m a.y c.loop-k.v k) e c.loop-k.invariant.1.1.1, inl (omega arith))
