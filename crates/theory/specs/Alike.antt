-- Rows that have the same spans: ends, pieces and the darts of a lift are told by these, whatever their objects.
--     eq_by             two spans are equal by their ends, and where it is asked by their objects too
--     alike            two rows have the same spans in the same order
use Rattle.std.specs.Prelude.{Bool, false, not, ◌&&◌, ◌||◌, List}
use Rattle.paper.specs.Below.{same_list}
use Rattle.paper.specs.Map.{Owned, eq_z, eq_span}

abbrev pub eq_by : Bool → Owned → Owned → Bool
eq_by objects x y = eq_span x.span y.span && (not objects || eq_z x.object y.object)

abbrev pub alike : List Owned → List Owned → Bool
alike r s = same_list (eq_by false) r s
