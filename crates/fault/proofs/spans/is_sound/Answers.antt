use Rattle.std.proofs.Common.{sym, ap, ◌∙◌, arith}
use Rattle.paper.specs.Table.{owned_in}
use Rattle.fault.specs.Fault.{sound, sound_at}
use Rattle.fault.proofs.Row.{row_of, sound-below}
use Rattle.fault.proofs.Every.{every-none, every_more, every-stop, every-end}
use Rattle.fault.proofs.spans.is_sound.Goals as goal

pub loop-q-init : goal.loop-q-init
loop-q-init c = every-none (sound_at c.args.spans.now c.args.d c.row_length-c.result)

pub returns-then-not-is_sound_at : goal.returns-then-not-is_sound_at
returns-then-not-is_sound_at c =
    let a = c.args in
    let r = c.row_length-c in
    every-stop (sound_at a.spans.now a.d r.result) r.result c.loop-q.q (omega arith) (sym c.is_sound_at.ensures ∙ c.if-not-is_sound_at.true)
    ∙ sound-below r.result (owned_in a.spans.now a.d)
    ∙ ap sound (sym (row_of a.spans.now a.d r.result c.requires.1.1 r.ensures.0))

pub loop-q-preserved : goal.loop-q-preserved
loop-q-preserved c =
    let a = c.args in
    every_more (sound_at a.spans.now a.d c.row_length-c.result) c.loop-q.q c.loop-q.invariant (sym c.is_sound_at.ensures ∙ c.if-not-is_sound_at.false)

pub returns : goal.returns
returns c =
    let a = c.args in
    let r = c.row_length-c in
    every-end (sound_at a.spans.now a.d r.result) r.result c.loop-q.q (omega arith) (omega arith) c.loop-q.invariant
    ∙ sound-below r.result (owned_in a.spans.now a.d)
    ∙ ap sound (sym (row_of a.spans.now a.d r.result c.requires.1.1 r.ensures.0))
