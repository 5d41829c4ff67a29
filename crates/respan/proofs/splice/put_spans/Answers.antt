use Rattle.std.proofs.Common.{◌≡◌, ◌+◌, ◌*◌, get_or, set, pos, ap, ◌∙◌, arith, w32, to_z, of_z, rules}
use Rattle.std.proofs.Math.Seq.{paste, paste-zero}
use Rattle.respan.proofs.Fill.{pasted_spliced, pasted_three}
use Rattle.respan.proofs.splice.put_spans.Goals as goal

pub loop-q-init : goal.loop-q-init
loop-q-init c = let a = c.args in paste-zero a.row.now a.at a.numbers.now

pub loop-q-preserved : goal.loop-q-preserved
loop-q-preserved c =
    let a = c.args in
    let L = c.loop-q in
    let n = a.numbers.now in
    let i = L.q * 3 in
    let lo : to_z w32 (of_z w32 (get_or n i (pos 0))) ≡ get_or n i (pos 0) = search rules in
    let hi : to_z w32 (of_z w32 (get_or n (i + 1) (pos 0))) ≡ get_or n (i + 1) (pos 0) = search rules in
    let object : to_z w32 (of_z w32 (get_or n (i + 2) (pos 0))) ≡ get_or n (i + 2) (pos 0) = search rules in
    let q = c.loop-q-test.true in
    let m = c.requires.1 in
    (λ k. set (set (set (L.invariant k) (a.at + i) (lo k)) (a.at + i + 1) (hi k)) (a.at + i + 2) (object k))
    ∙ pasted_three (pos 0) a.at i n a.row.now (omega arith) (omega arith)
    ∙ ap (paste a.row.now a.at n) (omega arith)

pub returns : goal.returns
returns c =
    let a = c.args in
    let L = c.loop-q in
    let q = L.auto.q-end in
    let m = c.requires.1 in
    L.invariant ∙ ap (paste a.row.now a.at a.numbers.now) (omega arith) ∙ pasted_spliced a.at a.numbers.now a.row.now
