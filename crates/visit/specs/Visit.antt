-- What the visit of dart e at level k asks, and what linking its block asks. Half h has the first rows of the blocks of level k.
--     Layable          what laying the block asks: e has spans, so that there are rows
--     LayableBy        the same where the ends of e's cell are at hand
--     Below            e's block at the level below is written; the other half has its first row, or at level 0 the row past e's last one
--     Wireable         what writing the links asks: the block has its places
--     Linkable         what linking the block asks: it is laid
use Rattle.std.specs.Prelude.{◌≡◌, ℕ, suc, ◌-◌, ◌<◌, ◌≤◌, List, ℤ}
use Rattle.paper.specs.Map.{Map}
use Rattle.paper.specs.Ends as ends
use Rattle.number.specs.Count.{piece_count}
use Rattle.number.specs.First.{first}
use Rattle.ends.specs.Key.{ends_at}
use Rattle.walk.specs.Walk.{Walkable}
use Rattle.base.specs.Base.{base}
use Rattle.visit.specs.Block.{PlacedAt, Touched, Laid}

pub record Layable (M : Map) (m n e k h : ℕ) (w : List ℕ) : Type 0 where
  pub dart : e < n
  pub level : k ≤ m
  pub either : h ≤ 1
  pub own : base w n h e ≡ first M e k
  pub some : 0 < piece_count M e k

pub record LayableBy (M : Map) (m n e k h : ℕ) (spans : List ℤ) (w v : List ℕ) (half many : ℕ) : Type 0 where
  pub here : Layable M m n e k h w
  pub walk : Walkable v half many spans e
  pub ends : ends_at v half many ≡ ends.ends M k e

pub record Below (M : Map) (m n e k h : ℕ) (w : List ℕ) (op : List ℤ) (ol : List ℕ) : Type 0 where
  pub dart : e < n
  pub level : k ≤ m
  pub either : h ≤ 1
  pub own : (d : ℕ) → d < n → base w n h d ≡ first M d k
  pub before : (l : ℕ) → suc l ≡ k → base w n (1 - h) e ≡ first M e l
  -- at the lowest level, that past its last one: so both halves are equal where it has no blocks, and nowhere else
  pub outset : k ≡ 0 → base w n (1 - h) e ≡ first M e (suc M.dim)
  pub placed : (l : ℕ) → suc l ≡ k → PlacedAt M op e l
  pub touched : (l : ℕ) → suc l ≡ k → Touched M ol e l

pub record Wireable (M : Map) (m n e k h x c : ℕ) (w : List ℕ) (op : List ℤ) (ol : List ℕ) : Type 0 where
  pub below : Below M m n e k h w op ol
  pub first : x ≡ first M e k
  pub count : c ≡ piece_count M e k
  pub here : PlacedAt M op e k

pub record Linkable (M : Map) (m n e k h : ℕ) (w : List ℕ) (op : List ℤ) (ol : List ℕ) : Type 0 where
  pub below : Below M m n e k h w op ol
  pub some : 0 < piece_count M e k
  pub laid : Laid M op ol e k
