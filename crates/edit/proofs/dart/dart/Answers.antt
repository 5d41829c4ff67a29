use Rattle.std.proofs.Common.{ℕ, suc, ◌<◌, sym, subst}
use Rattle.orbit.proofs.Refused.{refused-edit, refused-size}
use Rattle.edit.proofs.Grown.{dart-done}
use Rattle.edit.proofs.dart.dart.Goals as goal

pub returns-in_err-admit_dart : goal.returns-in_err-admit_dart
returns-in_err-admit_dart c = λ R s ps ss w P q.
    let k = c.from_residual in
    rw (refused-size k.result _ k.ensures.1 (suc c.args.n) c.args.n)
    (refused-edit k.result _ k.ensures.1 P.held (c.in_err-admit_dart.ensures.told R s P.held.map.dims P.held.map.darts q))

pub returns : goal.returns
returns c = λ R s ps ss w P q.
    let y = c.in_ok-admit_dart.ensures in
    dart-done P (subst (λ (k : ℕ). c.args.n < k) (sym q) y.served) (sym (y.told R s P.held.map.dims P.held.map.darts q)) c.put_free.ensures
