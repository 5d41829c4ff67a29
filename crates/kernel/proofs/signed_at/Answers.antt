use Rattle.std.proofs.Common.{◌≡◌, ap, ◌∙◌, add_assoc, arith, w32, to_z, of_z, rules}
use Rattle.paper.specs.Command.{signed_of}
use Rattle.kernel.proofs.Signed.{as_signed}
use Rattle.kernel.proofs.signed_at.Goals as goal

pub returns : goal.returns
returns c =
    let back : to_z w32 (of_z w32 c.from_be_bytes.result) ≡ c.from_be_bytes.result = search rules in
    back ∙ c.from_be_bytes.ensures ∙ as_signed _ ∙ ap signed_of (simp add_assoc (omega arith))
