use Rattle.std.proofs.Common.{length, refl, ◌∙◌, arith}
use Rattle.std.proofs.lemmas.Slice.{put_mid-paste}
use Rattle.std.proofs.lemmas.List.Edits.{paste_all}
use Rattle.print.specs.Laid.{laid}
use Rattle.print.proofs.text.Text.push.Goals as goal

pub returns-clause-lays : goal.returns-clause-lays
unfolding laid
returns-clause-lays c =
    let s = c.args.self.now in
    let l = c.args.bytes.now in
    record {
      room = c.requires;
      place = refl;
      memory = put_mid-paste s.len _ s.memory.now _ l (length l) c.copy_from_slice.ensures.after (omega arith) refl ∙ paste_all s.memory.now s.len l (length l) refl;
    }
