use Rattle.std.proofs.Common.{◌≡◌, ◌+◌, ◌*◌, get_or, pos, ◌∙◌, sym, rules, w32, to_z, of_z}
use Rattle.respan.proofs.Search.{owned-at}
use Rattle.respan.proofs.join.span_at.Goals as goal

pub returns : goal.returns
returns c =
    let a = c.args in
    let p = a.d * 25 + 1 + a.j * 3 in
    let lo : to_z w32 (of_z w32 (get_or a.spans.now p (pos 0))) ≡ get_or a.spans.now p (pos 0) = search rules in
    let hi : to_z w32 (of_z w32 (get_or a.spans.now (p + 1) (pos 0))) ≡ get_or a.spans.now (p + 1) (pos 0) = search rules in
    let o : to_z w32 (of_z w32 (get_or a.spans.now (p + 2) (pos 0))) ≡ get_or a.spans.now (p + 2) (pos 0) = search rules in
    (λ i. record { span = record { lo = lo i; hi = hi i }; object = o i }) ∙ sym (owned-at a.spans.now a.d a.j c.requires.1)
