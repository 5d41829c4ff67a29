-- The pieces of a row written one after the other: what is written, and the write of the pieces that are left, is the whole.
--     coords-length, pair-length     a table keeps its length
--     Writing          the write as far as it is
--     start, more      it begins with all to do; a piece
--     room             there is room for the pair of a piece
--     done             no piece is left
use Rattle.std.proofs.Common.{◌≡◌, ℕ, zero, suc, ◌+◌, ◌*◌, ◌<◌, ◌≤◌, List, length, ℤ, refl, ap, ◌∙◌, inl, arith, length-set}
use Rattle.paper.specs.Width.{place_width}
use Rattle.paper.specs.Table.{row_at}
use Rattle.ends.specs.Key.{height_of, key_at, ends_at}
use Rattle.walk.specs.Walk.{left, Reached}
use Rattle.walk.proofs.Walking.{all_left, none_left, Counting, first, piece-at, counted}
use Rattle.walk.proofs.Walking as walking
use Rattle.places.specs.Write.{pieces_in, put_coords, put_place, put_pair, put_pieces, Wrote}

-- ---- the write
module _ (places : List ℤ) (d m : ℕ) where
  pub coords-length : (a : ℕ) (t : ℤ) (x : ℕ) (op : List ℤ) → length (put_coords a places d m t x op) ≡ length op
  unfolding put_coords
  coords-length zero t x op = refl
  coords-length (suc a) t x op = simp length-set (coords-length a t x op)

  pub pair-length : (f g : ℤ) (x : ℕ) (op : List ℤ) → length (put_pair places d m f g x op) ≡ length op
  unfolding put_pair
  pair-length f g x op = coords-length place_width g (x + 1) (put_place places d m f x op) ∙ coords-length place_width f x op

pub record Writing (op₀ op : List ℤ) (x : ℕ) (v : List ℕ) (p n : ℕ) (s places : List ℤ) (d m i j count : ℕ) : Type 0 where
  pub counting : Counting v p n s d i j count
  pub same : length op ≡ length op₀
  pub whole : put_pieces places d m (left v p n s d i j) (x + count * 2) op ≡ put_pieces places d m (pieces_in (row_at s d) (ends_at v p n)) x op₀

pub start : {v : List ℕ} {p n : ℕ} {s : List ℤ} {d i j : ℕ} (op : List ℤ) (x : ℕ) (places : List ℤ) (m : ℕ) → Reached v p n s d 0 0 i j
    → Writing op op x v p n s places d m i j 0
start {v} {p} {n} {s} {d} op x places m R =
    let h : x + 0 * 2 ≡ x = omega arith in
    record { counting = first R; same = refl; whole = rw (h, ← R.passed, all_left v p n s d) }

module _ {op₀ op : List ℤ} {x : ℕ} {v : List ℕ} {p n : ℕ} {s places : List ℤ} {d m i j count : ℕ} (W : Writing op₀ op x v p n s places d m i j count) where
  module _ (h : i < n) where
    pub room : (x + length (pieces_in (row_at s d) (ends_at v p n)) * 2) * place_width ≤ length op₀ → (x + count * 2 + 2) * place_width ≤ length op
    room l = let e = ap length (piece-at W.counting.stop h).next in let w = W.counting.whole in let b = W.same in omega arith

    pub more : {i' j' : ℕ} → Reached v p n s d (i + 1) j i' j' → {op' : List ℤ} {f g : ℤ} → f ≡ height_of (key_at v p i) → g ≡ height_of (key_at v p (i + 1))
        → op' ≡ put_pair places d m f g (x + count * 2) op → Writing op₀ op' x v p n s places d m i' j' (count + 1)
    unfolding put_pieces
    more R {op'} {f} {g} ef eg eq =
        let y : x + (count + 1) * 2 ≡ x + count * 2 + 2 = omega arith in
        record {
          counting = walking.more W.counting h R;
          same = ap length eq ∙ pair-length places d m f g (x + count * 2) op ∙ W.same;
          whole = rw (y, eq, ef, eg, ← R.passed) (rw (piece-at W.counting.stop h).next at W.whole);
        }

  pub done : n ≤ i → Wrote places d m (pieces_in (row_at s d) (ends_at v p n)) x op₀ op count
  unfolding put_pieces
  done h = (counted W.counting h, rw (none_left v p n s d i j (inl (omega arith))) at W.whole)
