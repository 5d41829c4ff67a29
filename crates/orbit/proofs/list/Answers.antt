use Rattle.std.proofs.Common.{refl, not-suc-le-zero}
use Rattle.orbit.proofs.Cell.{flood-listed}
use Rattle.orbit.proofs.Sparse.{none}
use Rattle.orbit.proofs.list.Goals as goal

pub flood-requires : goal.flood-requires
flood-requires c =
    record { ready = c.requires.ready; d_lt_n = c.requires.d_lt_n; sparse = none _ _ _; shut = λ q h. absurd (not-suc-le-zero h); fact = λ i. not-suc-le-zero i.1 }

pub returns : goal.returns
returns c =
    flood-listed c.requires.ready.links c.requires.d_lt_n c.flood.ensures refl
