use Rattle.std.proofs.Common.{◌+◌, ◌≤◌, rules}
use borrow.Author.Tests.{tests}
use Rattle.std.proofs.lemmas.Iterator.{serves_from_Range}
use Rattle.orbit.specs.Sparse.{queue}
use Rattle.fault.proofs.Ranges.{all_range}
use Rattle.sew.specs.Sewing.{agrees}
use Rattle.sew.proofs.Pairs.{pairs_fit}
use Rattle.sew.proofs.agree.all_agree.Goals as goal

pub all-requires-clause-callable : goal.all-requires-clause-callable
all-requires-clause-callable c =
    let few : c.args.t ≤ c.args.n = pairs_fit c.requires.pairs.0 in
    serves_from_Range (λ x q k. search (rules, tests))
    (λ x low high.
    let d = c.requires.pairs.0.left.below x high in
    let e = c.requires.pairs.0.right.below x high in
    search (rules, d, e))

pub returns : goal.returns
returns c =
    let a = c.args in
    all_range (λ q. agrees a.places.now a.spans.now a.m a.axis (queue a.n a.w.now q) (queue (a.n + a.n) a.w.now q)) _ _ _ _ c.all.ensures.ran (λ x b q k. search (rules, tests))
