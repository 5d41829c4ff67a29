use Rattle.std.proofs.Common.{◌+◌, sym, ap, ◌∙◌, arith}
use Rattle.orbit.specs.Sparse.{queue}
use Rattle.sew.specs.Pairs.{g_right, g_other, x_left, x_other}
use Rattle.sew.proofs.Pairs.{pairs_fit, in_left, not_left, in_right, not_right, at-left}
use Rattle.sew.proofs.pair.judge.Goals as goal

pub get-requires-then-has : goal.get-requires-then-has
get-requires-then-has c =
    let i = in_left c.requires.pairs c.args.g c.has.ensures c.if-has.true in
    let p = at-left c.requires.pairs c.args.g i c.get.ensures.0 in
    let l = i.1 in
    let few = pairs_fit c.requires.pairs in
    omega arith

pub returns-then-get-x : goal.returns-then-get-x
returns-then-get-x c =
    let a = c.args in
    let i = in_left c.requires.pairs a.g c.has.ensures c.if-has.true in
    (i.0, i.1, i.2, ap (queue (a.n + a.n) a.w.now) (sym (at-left c.requires.pairs a.g i c.get.ensures.0)) ∙ sym c.get-then-has.ensures.0 ∙ c.if-get-x.true)

pub returns-then-has : goal.returns-then-has
returns-then-has c =
    let a = c.args in
    let i = in_left c.requires.pairs a.g c.has.ensures c.if-has.true in
    g_other i.0 i.1 i.2 (λ e. c.if-get-x.false (c.get-then-has.ensures.0 ∙ ap (queue (a.n + a.n) a.w.now) (at-left c.requires.pairs a.g i c.get.ensures.0) ∙ e))

pub returns-then-has-2 : goal.returns-then-has-2
returns-then-has-2 c = g_right (in_right c.requires.pairs c.args.g c.has-2.ensures c.if-has-2.true)

pub returns-then-has-3 : goal.returns-then-has-3
returns-then-has-3 c = x_left (in_left c.requires.pairs c.args.x c.has-3.ensures c.if-has-3.true)

pub returns-then-has-4 : goal.returns-then-has-4
returns-then-has-4 c =
    let i = in_right c.requires.pairs c.args.x c.has-4.ensures c.if-has-4.true in
    x_other i.0 i.1 i.2 (λ e. not_left c.requires.pairs c.args.g c.has.ensures c.if-has.false (i.0, i.1, e))

pub returns : goal.returns
returns c =
    let P = c.requires.pairs in
    record {
      left_g = not_left P c.args.g c.has.ensures c.if-has.false;
      right_g = not_right P c.args.g c.has-2.ensures c.if-has-2.false;
      left_x = not_left P c.args.x c.has-3.ensures c.if-has-3.false;
      right_x = not_right P c.args.x c.has-4.ensures c.if-has-4.false;
      other = c.if-g-x.false;
    }
