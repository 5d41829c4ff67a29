use Rattle.std.proofs.Common.{◌≡◌, ℕ, ◌+◌, ◌*◌, [], ◌∷◌, ◌++◌, length, take, drop, pos, sym, ap, ◌∙◌, take-append-drop, add-zero, arith, w32, to_z, of_z, rules}
use mir.ValLaws.{to_z_pos}
use Rattle.paper.specs.Width.{span_width}
use Rattle.paper.specs.Below.{list_below}
use Rattle.paper.specs.Table.{owned_at, numbers_of}
use Rattle.respan.specs.Splice.{added, spliced, row_number, new_count, respliced}
use Rattle.respan.proofs.Numbers.{owned-count, owned-numbers}
use Rattle.respan.proofs.Numbered.{row-renumbered}
use Rattle.respan.proofs.Spliced.{one-added, none-added, front-length, row-built}
use Rattle.respan.proofs.splice.row.Goals as goal
use Rattle.respan.proofs.splice.row.Goals.{in-Some, in_default}

pub slice_bounds-put_spans-end-2 : goal.slice_bounds-put_spans-end-2
slice_bounds-put_spans-end-2 c =
    let a = c.args in
    sym (front-length a.s (owned_at a.spans.now a.d) c.requires.fits _ (owned-numbers a.spans.now a.d c.row_length-all.result c.requires.row_in c.row_length-all.ensures.0))

pub returns : goal.returns
returns c =
    let a = c.args in
    let r = owned_at a.spans.now a.d in
    let all = c.row_length-all in
    let old = owned-numbers a.spans.now a.d all.result c.requires.row_in all.ensures.0 in
    let l = c.new_count.ensures.1 in
    let count : to_z w32 c.new_count.result ≡ pos (new_count (length r) a.s) =
    to_z_pos w32 c.new_count.result (omega arith)
    ∙ ap pos (c.new_count.ensures.0 ∙ ap (λ (k : ℕ). new_count k a.s) (all.ensures.0 ∙ owned-count a.spans.now a.d c.requires.row_in)) in
    let head = 1 + a.s.kept * 3 in
    let t = c.put_spans.new.row in
    let built : c.put_spans-2.new.row ≡ list_below span_width (row_number (respliced a.s r)) =
    elim c.match-s.branch [
      | in-Some w ↦
          let x = w.in-Some.x in
          let lo : to_z w32 (of_z w32 x.lo) ≡ x.lo = search rules in
          let hi : to_z w32 (of_z w32 x.hi) ≡ x.hi = search rules in
          let o : to_z w32 (of_z w32 x.object) ≡ x.object = search rules in
          let new = one-added a.s x w.in-Some.is in
          let k : length (numbers_of (added a.s)) ≡ 3 = ap length new in
          row-built a.s r c.requires.fits _ old _ count c.match-s.end (w.end-is ∙ omega arith) c.put_spans.ensures
          (w.r-is ∙ w.put_spans-in-Some.ensures ∙ (λ k. spliced head 3 (lo k ∷ (hi k ∷ (o k ∷ []))) t) ∙ sym (ap (λ l. spliced head (length l) l t) new))
          c.put_spans-2.ensures
      | in_default w ↦
          let new = none-added a.s w.in_default.not-Some in
          let k : length (numbers_of (added a.s)) ≡ 0 = ap length new in
          row-built a.s r c.requires.fits _ old _ count c.match-s.end (w.end-is ∙ omega arith) c.put_spans.ensures
          (w.r-is ∙ sym (take-append-drop head t) ∙ ap (λ (k : ℕ). take head t ++ drop k t) (sym (add-zero head)) ∙ sym (ap (λ l. spliced head (length l) l t) new))
          c.put_spans-2.ensures
    ] in
    record { built = built; numbered = built ∙ row-renumbered a.spans.now a.d c.requires.row_in a.s.kept a.s.dropped (added a.s) c.requires.fits.within }
