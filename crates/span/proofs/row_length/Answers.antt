use Rattle.std.proofs.Common.{◌≡◌, T, nat_abs, ap, ◌∙◌, arith, w32, w64, Fits, to_z, of_z, rules}
use lib.Signed.{non_neg}
use Rattle.paper.specs.Table.{count_fits}
use Rattle.span.proofs.Row.{count-within}
use Rattle.span.proofs.row_length.Goals as goal

pub overflow_cast-result : goal.overflow_cast-result
overflow_cast-result c =
    let z = to_z w32 (of_z w32 c.at-count.result) in
    let back : z ≡ c.at-count.result = search rules in
    let e = count-within c.at-count.result (ap count_fits c.at-count.ensures ∙ c.requires.counted) in
    let g = e.1 in
    let fits : T (non_neg z) × Fits w64 (nat_abs z) = rw back (e.0, omega arith) in
    search (rules, fits)

pub returns : goal.returns
returns c =
    let back : to_z w32 (of_z w32 c.at-count.result) ≡ c.at-count.result = search rules in
    let e = count-within c.at-count.result (ap count_fits c.at-count.ensures ∙ c.requires.counted) in
    (ap nat_abs (back ∙ c.at-count.ensures), rw back e.1)
