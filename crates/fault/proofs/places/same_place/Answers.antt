use Rattle.std.proofs.Common.{sym, ◌∙◌, arith}
use Rattle.paper.specs.Map.{eq_z}
use Rattle.fault.specs.Fault.{coordinate_in}
use Rattle.fault.proofs.Every.{every-none, every_more, every-stop, every-end}
use Rattle.fault.proofs.Same.{same-below}
use Rattle.fault.proofs.places.same_place.Goals as goal

pub loop-x-init : goal.loop-x-init
loop-x-init c = every-none (λ x. eq_z (coordinate_in c.args.places.now c.args.d x) (coordinate_in c.args.places.now c.args.e x))

pub returns-then-not-same_coordinate : goal.returns-then-not-same_coordinate
returns-then-not-same_coordinate c =
    let f = coordinate_in c.args.places.now c.args.d in
    let g = coordinate_in c.args.places.now c.args.e in
    every-stop (λ x. eq_z (f x) (g x)) c.args.m c.loop-x.x (omega arith) (sym c.same_coordinate.ensures ∙ c.if-not-same_coordinate.true) ∙ same-below eq_z c.args.m f g

pub loop-x-preserved : goal.loop-x-preserved
loop-x-preserved c =
    let f = coordinate_in c.args.places.now c.args.d in
    let g = coordinate_in c.args.places.now c.args.e in
    every_more (λ x. eq_z (f x) (g x)) c.loop-x.x c.loop-x.invariant (sym c.same_coordinate.ensures ∙ c.if-not-same_coordinate.false)

pub returns : goal.returns
returns c =
    let f = coordinate_in c.args.places.now c.args.d in
    let g = coordinate_in c.args.places.now c.args.e in
    every-end (λ x. eq_z (f x) (g x)) c.args.m c.loop-x.x (omega arith) (omega arith) c.loop-x.invariant ∙ same-below eq_z c.args.m f g
