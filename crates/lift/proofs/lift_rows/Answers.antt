use Rattle.std.proofs.Common.{refl, ◌∙◌, arith}
use Rattle.paper.specs.Table.{lent_lifted}
use Rattle.carry.proofs.All.{carriable, carried-all}
use Rattle.lift.proofs.Known.{known, counts-sound}
use Rattle.lift.proofs.Tail.{raised-written}
use Rattle.lift.proofs.Planned.{plan-over, plan-within, plan-bases, plan-first, plan-last, plan-work}
use Rattle.lift.proofs.Carried.{plan-aim}
use Rattle.lift.proofs.lift_rows.Goals as goal

pub count_all-requires : goal.count_all-requires
count_all-requires c =
    let a = c.args in
    (counts-sound c.requires.liftable c.requires.m_nonzero.1 a.w.now a.v.now refl refl, c.requires.m_nonzero.0)

pub returns-in_err-total : goal.returns-in_err-total
returns-in_err-total c =
    let a = c.args in
    let y = c.count_all in
    rw c.from_residual.ensures
    (plan-over c.requires.liftable (c.in_err-total.ensures.tallied _ c.requires.liftable.plan) (omega arith) (λ i. lent_lifted a.ol.now a.op.now a.oo.now (y.auto.v i)), tt)

pub bases-requires : goal.bases-requires
bases-requires c =
    let y = c.count_all in
    let r = plan-bases c.requires.liftable y.auto.w c.in_ok-total.ensures.value c.in_ok-total.ensures.within in
    record { bases = r.0; n_bound = r.1 }

pub write_rows-requires : goal.write_rows-requires
write_rows-requires c =
    let y = c.count_all in
    let b = c.bases in
    let l = c.in_ok-total.ensures.within in
    let T = c.in_ok-total.ensures.tallied _ c.requires.liftable.plan in
    let f = plan-within c.requires.liftable T l in record { known = known c.requires.liftable c.requires.m_nonzero.1 f.0 (b.auto.w ∙ y.auto.w); total_value = (f.1, plan-work c.requires.liftable y.new.v y.auto.v l); by_index = plan-first c.requires.liftable T l b.new.w b.ensures.by_index; by_index_2 = plan-last c.requires.liftable T l b.new.w b.ensures.by_index_2 }

pub carry-requires : goal.carry-requires
carry-requires c =
    let y = c.count_all in
    let b = c.bases in
    let x = c.write_rows in
    let f = plan-within c.requires.liftable (c.in_ok-total.ensures.tallied _ c.requires.liftable.plan) c.in_ok-total.ensures.within in
    let A = plan-aim c.requires.liftable c.requires.m_nonzero.1 c.requires.m_nonzero.0 f.0 x.ensures.ol_after.1 (x.auto.w ∙ b.auto.w ∙ y.auto.w) x.ensures.by_index_3 in
    carriable _ c.requires.liftable.plan.valid A (let o = c.requires.liftable.lifted.objects in let g = f.0 in omega arith)

pub returns : goal.returns
returns c =
    let y = c.count_all in
    let b = c.bases in
    let x = c.write_rows in
    let f = plan-within c.requires.liftable (c.in_ok-total.ensures.tallied _ c.requires.liftable.plan) c.in_ok-total.ensures.within in
    let A = plan-aim c.requires.liftable c.requires.m_nonzero.1 c.requires.m_nonzero.0 f.0 x.ensures.ol_after.1 (x.auto.w ∙ b.auto.w ∙ y.auto.w) x.ensures.by_index_3 in
    let e = x.ensures.ol_after in
    let o = c.requires.liftable.lifted.objects in
    let g = f.0 in
    let k = carried-all _ c.requires.liftable.plan.valid A c.args.oo.now (omega arith) in
    (raised-written _ f.0 f.1 (λ i. lent_lifted (e.0 i) (e.1 i) ((c.carry.ensures ∙ k) i) ((x.auto.v ∙ y.auto.v) i)), c.in_ok-total.ensures.within)
