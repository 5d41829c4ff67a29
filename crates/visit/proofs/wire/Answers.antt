use Rattle.std.proofs.Common.{◌∙◌, arith}
use Rattle.visit.proofs.Wired.{wire-fill, wire-touch, wire-stacked, wire-low, below_rows, wire-levels, wire-high, wire-alike, wire-same}
use Rattle.visit.proofs.wire.Goals as goal

pub fill-requires : goal.fill-requires
fill-requires c = wire-fill c.requires.known c.requires.wireable

pub match_touching-requires : goal.match_touching-requires
match_touching-requires c =
    record { crossable = wire-touch c.requires.known c.requires.wireable c.fill.auto.ol; stacked = wire-stacked c.requires.known c.requires.wireable }

pub returns-then-l-eq0 : goal.returns-then-l-eq0
returns-then-l-eq0 c =
    wire-low c.requires.known c.requires.wireable c.fill.ensures c.match_touching.ensures c.if-l-eq0.true

pub overflow_sub-b : goal.overflow_sub-b
overflow_sub-b c =
    below_rows c.requires.known c.requires.wireable c.if-l-eq0.false c.base-y.ensures.0

pub match_same-requires : goal.match_same-requires
match_same-requires c =
    wire-alike c.requires.known c.requires.wireable c.if-l-eq0.false c.base-y.ensures.0 (omega (arith, c.if-b-c.true)) (c.match_touching.auto.ol ∙ c.fill.auto.ol)

pub returns-then-b-c : goal.returns-then-b-c
returns-then-b-c c =
    wire-same c.requires.known c.requires.wireable c.if-l-eq0.false c.base-y.ensures.0 c.if-b-c.true c.fill.ensures c.match_touching.ensures c.match_same.ensures

pub match_levels-requires : goal.match_levels-requires
match_levels-requires c =
    wire-levels c.requires.known c.requires.wireable c.if-l-eq0.false c.base-y.ensures.0 (c.match_touching.auto.ol ∙ c.fill.auto.ol)

pub returns : goal.returns
returns c =
    wire-high c.requires.known c.requires.wireable c.if-l-eq0.false c.base-y.ensures.0 c.fill.ensures c.match_touching.ensures c.match_levels.ensures
