use Rattle.std.proofs.Common.{◌≡◌, T, nat_abs, ap, ◌∙◌, arith, w32, w64, Fits, to_z, of_z, rules}
use lib.Signed.{non_neg}
use Rattle.paper.specs.Table.{object_fits}
use Rattle.span.proofs.Row.{row-few}
use Rattle.carry.proofs.Row.{object-is, object-within}
use Rattle.carry.proofs.object_at.Goals as goal

pub overflow_mul-j : goal.overflow_mul-j
overflow_mul-j c = let e = row-few c.args.spans.now c.args.d c.requires.0.row in omega arith

pub overflow_add-j : goal.overflow_add-j
overflow_add-j c = let e = row-few c.args.spans.now c.args.d c.requires.0.row in omega arith

pub overflow_add-d : goal.overflow_add-d
overflow_add-d c = let e = row-few c.args.spans.now c.args.d c.requires.0.row in omega arith

pub at-object-requires : goal.at-object-requires
at-object-requires c = let e = row-few c.args.spans.now c.args.d c.requires.0.row in search rules

pub overflow_cast-result : goal.overflow_cast-result
overflow_cast-result c =
    let a = c.args in
    let p = c.requires in
    let z = to_z w32 (of_z w32 c.at-object.result) in
    let back : z ≡ c.at-object.result = search rules in
    let e = object-within c.at-object.result (ap object_fits (c.at-object.ensures ∙ object-is a.spans.now a.d a.j p.1) ∙ p.0.fits a.j) in
    let g = e.1 in
    let fits : T (non_neg z) × Fits w64 (nat_abs z) = rw back (e.0, omega arith) in
    search (rules, fits)

pub returns : goal.returns
returns c =
    let a = c.args in
    let p = c.requires in
    let back : to_z w32 (of_z w32 c.at-object.result) ≡ c.at-object.result = search rules in
    let f = c.at-object.ensures ∙ object-is a.spans.now a.d a.j p.1 in
    let e = object-within c.at-object.result (ap object_fits f ∙ p.0.fits a.j) in
    (ap nat_abs (back ∙ f), rw back e.1)
