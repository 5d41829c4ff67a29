-- The first end that reaches a height.
--     Seekable         what the search asks: the ends ascend, and there is an end i
--     Sought           which end it finds: the first from i on that does not lie below lo, or the last end
use Rattle.std.specs.Prelude.{◌≡◌, ℕ, ◌+◌, ◌*◌, ◌<◌, ◌≤◌, ◌⊎◌, List, length, int_lt}
use Rattle.paper.specs.Width.{work_width, dart_limit}
use Rattle.theory.specs.Ascending.{Ascends}
use Rattle.ends.specs.Key.{key_at, ends_at}

pub record Seekable (v : List ℕ) (p n i : ℕ) : Type 0 where
  pub half : p ≤ 1
  pub few : n ≤ dart_limit
  pub long : n * work_width ≤ length v
  pub ascend : Ascends int_lt (ends_at v p n)
  pub within : i < n

pub record Sought (v : List ℕ) (p n i lo r : ℕ) : Type 0 where
  pub from : i ≤ r
  pub within : r < n
  pub below : (x : ℕ) → i ≤ x → x < r → key_at v p x < lo
  pub found : (lo ≤ key_at v p r) ⊎ (r + 1 ≡ n)
