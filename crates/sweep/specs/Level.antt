-- The sweep that lays the blocks of a level, and the levels one after the other.
--     Past             the blocks of the levels below k
--     Reached          the levels below k are written; half h has the first rows of level k, the other half those of the level below, or at level 0 the rows past the last ones
--     Spread           and the blocks of level k of some darts are laid
--     Done             the darts whose blocks are laid: those of the queue, and those below d
--     Called           what laying the block of a dart asks, whether it has spans or not
--     Celled           what laying a cell asks: it stands in the queue from .. to, and its ends are at hand
--     Turnable, TurnedTo     what a turn of the sweep asks, and what it leaves
--     Sweepable        what laying a level asks
--     Upon             the blocks of the levels below k, and those of level k of some darts
--     Standing         these are written, dart after dart: the other half has the first rows of the next level for these darts
--     Filed            level k is written too, but for its links over the boundary
--     Before, Bounded  the links over the boundary, pair after pair
use Rattle.std.specs.Prelude.{◌≡◌, ℕ, suc, ◌+◌, ◌-◌, ◌*◌, ◌<◌, ◌≤◌, ◌⊎◌, List, length, ℤ, slice_index}
use Rattle.paper.specs.Width.{work_width}
use Rattle.paper.specs.Map.{Map, link}
use Rattle.paper.specs.Ends as ends
use Rattle.paper.specs.Lift.{lifted_darts}
use Rattle.number.specs.First.{first}
use Rattle.orbit.specs.Sparse.{Sparse, In}
use Rattle.ends.specs.Key.{ends_at}
use Rattle.walk.specs.Walk.{Walkable}
use Rattle.base.specs.Base.{base}
use Rattle.tally.specs.Level.{front, Whole}
use Rattle.visit.specs.Block.{PlacedAt, Own, Laid}
use Rattle.sweep.specs.Drawn.{Drawn, Paired}

abbrev pub Past : ℕ → ℕ → ℕ → ℕ → Type 0
Past n k d l = (d < n) × (l < k)

pub record Reached (M : Map) (n k h : ℕ) (w : List ℕ) (op : List ℤ) (ol : List ℕ) : Type 0 where
  pub drawn : Drawn M (Past n k) (Past n k) op ol
  pub own : (d : ℕ) → d < n → base w n h d ≡ first M d k
  pub before : (d : ℕ) → d < n → (l : ℕ) → suc l ≡ k → base w n (1 - h) d ≡ first M d l
  pub outset : (d : ℕ) → d < n → k ≡ 0 → base w n (1 - h) d ≡ first M d (suc M.dim)

pub record Spread (M : Map) (n k h : ℕ) (w : List ℕ) (D : ℕ → Type 0) (op : List ℤ) (ol : List ℕ) : Type 0 where
  pub reached : Reached M n k h w op ol
  pub laid : (e : ℕ) → e < n → D e → Laid M op ol e k

abbrev pub Done : ℕ → List ℕ → ℕ → ℕ → ℕ → Type 0
Done n w t d e = In n (front n w) t e ⊎ (e < d)

pub record Called (M : Map) (m n e k h : ℕ) (spans : List ℤ) (w v : List ℕ) (half many : ℕ) (op : List ℤ) (ol : List ℕ) : Type 0 where
  pub dart : e < n
  pub level : k ≤ m
  pub either : h ≤ 1
  pub reached : Reached M n k h w op ol
  pub walk : Walkable v half many spans e
  pub ends : ends_at v half many ≡ ends.ends M k e

pub record Celled (M : Map) (m n k h d : ℕ) (spans : List ℤ) (w v : List ℕ) (half many from to : ℕ) (op : List ℤ) (ol : List ℕ) : Type 0 where
  pub level : k ≤ m
  pub either : h ≤ 1
  pub order : from ≤ to
  pub last : to ≤ n
  pub set : Sparse n n (front n w) to
  pub spread : Spread M n k h w (Done n w from d) op ol
  pub walks : (q : ℕ) → from ≤ q → q < to → Walkable v half many spans (slice_index w (n + q))
  pub ends : (q : ℕ) → from ≤ q → q < to → ends_at v half many ≡ ends.ends M k (slice_index w (n + q))

-- What a turn of the sweep asks: the queue is whole, and what is in it or below d is laid.
pub record Turnable (M : Map) (m n k h : ℕ) (links w v : List ℕ) (op : List ℤ) (ol : List ℕ) (d t total : ℕ) : Type 0 where
  pub dart : d < n
  pub level : k < m
  pub either : h ≤ 1
  pub whole : Whole m n k links w t
  pub spread : Spread M n k h w (Done n w t d) op ol
  pub all : total ≡ length (lifted_darts M)
  pub long : total * work_width ≤ length v

-- What it leaves.
pub record TurnedTo (M : Map) (m n k h : ℕ) (links : List ℕ) (d : ℕ) (w : List ℕ) (t : ℕ) (op : List ℤ) (ol : List ℕ) : Type 0 where
  pub whole : Whole m n k links w t
  pub spread : Spread M n k h w (Done n w t (d + 1)) op ol

-- What laying a level asks.
pub record Sweepable (M : Map) (m n k h : ℕ) (w v : List ℕ) (op : List ℤ) (ol : List ℕ) (total : ℕ) : Type 0 where
  pub level : k ≤ m
  pub either : h ≤ 1
  pub reached : Reached M n k h w op ol
  pub all : total ≡ length (lifted_darts M)
  pub long : total * work_width ≤ length v

abbrev pub Upon : ℕ → ℕ → (ℕ → Type 0) → ℕ → ℕ → Type 0
Upon n k D e l = (e < n) × ((l < k) ⊎ ((l ≡ k) × D e))

pub record Standing (M : Map) (n k h : ℕ) (w : List ℕ) (D : ℕ → Type 0) (op : List ℤ) (ol : List ℕ) : Type 0 where
  pub drawn : Drawn M (Upon n k D) (Past n k) op ol
  pub own : (e : ℕ) → e < n → base w n h e ≡ first M e k
  pub next : (e : ℕ) → e < n → D e → base w n (1 - h) e ≡ first M e (suc k)
  pub before : (e : ℕ) → e < n → (D e → ⊥) → (l : ℕ) → suc l ≡ k → base w n (1 - h) e ≡ first M e l
  pub outset : (e : ℕ) → e < n → (D e → ⊥) → k ≡ 0 → base w n (1 - h) e ≡ first M e (suc M.dim)

pub record Filed (M : Map) (n k h : ℕ) (w : List ℕ) (op : List ℤ) (ol : List ℕ) : Type 0 where
  pub drawn : Drawn M (Past n (suc k)) (Past n k) op ol
  pub own : (d : ℕ) → d < n → base w n h d ≡ first M d k
  pub next : (d : ℕ) → d < n → base w n (1 - h) d ≡ first M d (suc k)

-- The links over the boundary of the blocks of level k, of the darts that are below d as their neighbours are.
abbrev pub Before : Map → ℕ → ℕ → ℕ → ℕ → ℕ → Type 0
Before M n k d e l = (e < n) × ((l < k) ⊎ ((l ≡ k) × ((e < d) × (link M M.dim e < d))))

-- What those ask at the turn of d: it and its neighbour, where that is no higher.
pub record Bounded (M : Map) (m n k h d : ℕ) (w : List ℕ) (op : List ℤ) (ol : List ℕ) : Type 0 where
  pub dart : d < n
  pub level : k < m
  pub either : h ≤ 1
  pub own : (e : ℕ) → e < n → base w n h e ≡ first M e k
  pub next : (e : ℕ) → e < n → base w n (1 - h) e ≡ first M e (suc k)
  pub placed : (e : ℕ) → e < n → PlacedAt M op e k
  pub free : (e : ℕ) → Paired M d e → Own M ol e k (suc M.dim)
