use Rattle.std.proofs.Common.{refl, inl, inr}
use Rattle.ends.proofs.join.pass.Goals as goal

pub returns-then-y-z : goal.returns-then-y-z
returns-then-y-z c = inl (c.if-y-z.true, (refl, (refl, refl)))

pub returns-then-x-y : goal.returns-then-x-y
returns-then-x-y c = inr (inl (c.if-x-y.true, (c.if-y-z.false, (refl, (refl, refl)))))

pub returns : goal.returns
returns c = inr (inr (c.if-x-y.false, (c.if-y-z.false, (refl, (refl, refl)))))
