use Rattle.std.proofs.Common.{◌*◌, add_comm, lt-ltb}
use native.Mathlib.Nat.{add-sub_cancel_left}
use Rattle.paper.specs.Width.{link_width}
use Rattle.paper.specs.Call.{row_in}
use Rattle.table.proofs.links.whole_row.Goals as goal

pub returns : goal.returns
unfolding row_in
returns c =
    let a = c.args in
    record { result_value = simp (lt-ltb _ _ c.requires, add-sub_cancel_left); ref_ptr_value = λ i. (a.links.ref_ptr.0, add_comm (a.dart * link_width * 2) a.links.ref_ptr.1 i) }
