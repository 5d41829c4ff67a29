-- The check, way out by way out.
--     fits             a count within capacity: so many rows are in each table
--     off-range, many, within      refused by 3, by 4, or left to 6 to 11
--     told             what is paper's answer is 0 exactly where the tables hold a valid map
use Rattle.std.proofs.Common.{◌≡◌, ℕ, ◌<◌, ◌≤◌, false, cond, ◌||◌, ltb, List, ℤ, ◌⊎◌, ⊎_elim, sym, ap, ◌∙◌, le-ltb, lt-ltb}
use Rattle.paper.specs.Width.{dim_limit}
use Rattle.paper.specs.Table.{Tables, lent, lengths}
use Rattle.paper.specs.Refusal.{answer, judge}
use Rattle.paper.specs.Step.{outside}
use Rattle.paper.specs.Call.{capacity, faults, check}
use Rattle.paper.specs.declared.Answer.{Answer}
use Rattle.theory.proofs.Bool.{or_left, or_right}
use Rattle.theory.proofs.Check.{check-valid, valid-check}
use Rattle.hold.proofs.Room.{plan-room}
use Rattle.checker.specs.Exactly.{Exactly}
use Rattle.fault.specs.Fault.{Fits}

pub fits : (ls : List ℕ) (ps ss : List ℤ) (w m n : ℕ) → m ≤ dim_limit → n ≤ capacity (lent ls ps ss w) → Fits ls ps ss m n
fits ls ps ss w m n d h =
    let R = plan-room (lengths (lent ls ps ss w)) n h in
    let few = R.few in
    record {
      links_fit = record { dim = d; few = few; rows = R.links };
      places_fit = record { dim = d; few = few; rows = R.places };
      spans_fit = record { few = few; rows = R.spans };
    }

module _ (T : Tables) (m n : ℕ) where
  -- what is tried after the dimension
  abbrev later : Answer
  later = cond (ltb (capacity T) n) (answer 4 0) (judge n (faults T m n))

  pub off-range : (m < 1) ⊎ ((1 ≤ m) × (dim_limit < m)) → answer 3 0 ≡ check T m n
  unfolding check judge
  off-range h =
      sym
      (ap (λ t. cond t (answer 3 0) later)
      (⊎_elim (λ l. or_left (ltb m 1) (ltb dim_limit m) (lt-ltb m 1 l)) (λ l. or_right (ltb m 1) (ltb dim_limit m) (lt-ltb dim_limit m l.1)) h))

  in-range : 1 ≤ m → m ≤ dim_limit → outside 1 dim_limit m ≡ false
  in-range a b = λ i. le-ltb m 1 a i || le-ltb dim_limit m b i

  pub many : 1 ≤ m → m ≤ dim_limit → capacity T < n → answer 4 0 ≡ check T m n
  unfolding check judge
  many a b h = sym (λ i. cond (in-range a b i) (answer 3 0) (cond (lt-ltb (capacity T) n h i) (answer 4 0) (judge n (faults T m n))))

  pub within : 1 ≤ m → m ≤ dim_limit → n ≤ capacity T → judge n (faults T m n) ≡ check T m n
  unfolding check judge
  within a b h = sym (λ i. cond (in-range a b i) (answer 3 0) (cond (le-ltb (capacity T) n h i) (answer 4 0) (judge n (faults T m n))))

  pub told : (r : Answer) → r ≡ check T m n → (r ≡ check T m n) × Exactly T m n r.number
  told r e = (
    e,
    record {
      sound = λ z. check-valid T m n (sym (ap (λ x. x.number) e) ∙ z);
      whole = λ A. ap (λ x. x.number) (e ∙ valid-check T m n A);
    },
  )
