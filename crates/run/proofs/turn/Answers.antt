use Rattle.std.proofs.Common.{◌<◌, arith}
use Rattle.progress.specs.Progress.{count_limit}
use Rattle.run.proofs.Going.{going_on, going-past}
use Rattle.run.proofs.turn.Goals as goal

pub write-requires : goal.write-requires
write-requires c = let t = c.requires.more in let k = c.write-arg-1 in omega arith

pub after-requires : goal.after-requires
after-requires c =
    let a = c.args in
    let t = c.requires in
    let k = t.more in
    let g = c.well_formed.1.1.1.1.1.1.1.1.1.1.1.1.0.0 in
    let n = t.going.sum in
    let x : a.p.taken < count_limit = omega arith in
    let y : a.p.accepted < count_limit = omega arith in
    let z : a.p.refused < count_limit = omega arith in
    (x, (y, z))

pub returns : goal.returns
returns c =
    let t = c.requires in
    let d = c.decode-read.ensures in
    let S = c.step-r in
    let k = S.auto in record {
      kept = λ R o before G.
          going_on G t.byte t.more d (S.ensures R G.state.maps G.stands)
          (λ i. record { links = k.links i; places = k.places i; spans = k.spans i; work = k.w i })
          (λ i. record { links = k.ol i; places = k.op i; objects = k.oo i; work = k.v i })
          c.write.ensures c.after.ensures;
      past = going-past t.going t.byte t.more d (S.ensures t.R t.going.state.maps t.going.stands) c.after.ensures;
    }
