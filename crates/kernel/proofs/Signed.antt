-- Signed numbers of 32 bits.
--     back             a number read back from its bits
--     as_signed        two's complement, as the library reads it
use Rattle.std.proofs.Common.{◌≡◌, ℕ, ◌^◌, ◌<◌, cond, ltb, ℤ, pos, negsuc, ap, arith, w32, to_z, of_z}
use lib.Signed.{mag}
use mir.Val.{hbits}
use mir.ValLaws.{to_z-of_z}
use Rattle.paper.specs.Command.{signed_of}

pub back : (z : ℤ) → mag z < 2 ^ hbits w32 → to_z w32 (of_z w32 z) ≡ z
back z p = to_z-of_z w32 z (record { sfits = p })

pub as_signed : (u : ℕ) → to_z w32 u ≡ signed_of u
unfolding signed_of
as_signed u = ap (λ k. cond (ltb u 2147483648) (pos u) (negsuc k)) (omega arith)
