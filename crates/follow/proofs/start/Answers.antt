use Rattle.std.proofs.Common.{ℕ, ◌-◌, ◌<◌, ◌≤◌, sym, ap, ◌∙◌, subst, inl, inr, arith}
use Rattle.base.specs.Base.{base}
use Rattle.follow.proofs.Starts.{start-low, start-high, start-own}
use Rattle.follow.proofs.start.Goals as goal

pub base-requires : goal.base-requires
base-requires c =
    let a = c.args in
    let l : a.i ≤ a.m = let q = c.if-i-k.true in let y = c.requires.startable.level in omega arith in
    record { bases = c.requires.startable.bases; h_bound = (c.requires.startable.half, subst (λ (e : ℕ). e < a.n) (sym c.get-e.ensures.0) (c.requires.startable.near a.i l)) }

pub returns-then-i-k : goal.returns-then-i-k
returns-then-i-k c =
    let a = c.args in
    c.base.ensures.0 ∙ ap (base a.w.now a.n a.h) c.get-e.ensures.0
    ∙ sym (start-low a.links.now a.w.now a.m a.n a.k a.h a.d a.x a.i c.if-i-k.true)

pub base-requires-then-i-m : goal.base-requires-then-i-m
base-requires-then-i-m c =
    let a = c.args in
    let l : a.i - 1 ≤ a.m = let q = c.if-i-m.true in omega arith in
    record { bases = c.requires.startable.bases; h_bound = (c.requires.startable.half, subst (λ (e : ℕ). e < a.n) (sym c.get-e-then-i-m.ensures.0) (c.requires.startable.near (a.i - 1) l)) }

pub returns-then-i-m : goal.returns-then-i-m
returns-then-i-m c =
    let a = c.args in
    c.base-then-i-m.ensures.0 ∙ ap (base a.w.now a.n a.h) c.get-e-then-i-m.ensures.0
    ∙ sym (start-high a.links.now a.w.now a.m a.n a.k a.h a.d a.x a.i c.if-k-i.true c.if-i-m.true)

pub returns-else-i-m : goal.returns-else-i-m
returns-else-i-m c =
    let a = c.args in
    sym (start-own a.links.now a.w.now a.m a.n a.k a.h a.d a.x a.i c.if-i-k.false (inr c.if-i-m.false))

pub returns-else-k-i : goal.returns-else-k-i
returns-else-k-i c =
    let a = c.args in
    sym (start-own a.links.now a.w.now a.m a.n a.k a.h a.d a.x a.i c.if-i-k.false (inl c.if-k-i.false))
