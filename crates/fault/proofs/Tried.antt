-- What the refusals that were tried before tell of the tables, and a dart's fault by its number.
--     linked, is-linked     6 is met by no dart: every link is a dart
--     row-counted      a row that is one has a count from 0 to 8
--     counted          10 is met by no dart: every row has a count from 0 to 8
--     along-other      no other refusal is met along an axis
--     fault-any        every refusal but 10 is tried along the axes
--     tried-none, tried-more    no number before 6; one more that is met by no dart
use Rattle.std.proofs.Common.{◌≡◌, ℕ, suc, ◌+◌, ◌<◌, ◌≤◌, true, false, not, List, ℤ, refl, sym, subst, ⊎_elim, le_refl, arith, leb-false}
use Rattle.paper.specs.Below.{any_below}
use Rattle.paper.specs.Table.{count_fits}
use Rattle.paper.specs.Call.{has_bad_row}
use Rattle.paper.specs.Refusal.{number}
use Rattle.paper.specs.declared.refusal.Refusal.{Refusal}
use Rattle.paper.specs.declared.refusal.Refusal.TheVariants.{UnknownCommand, CutShort, OutOfRange, NoSuchDart, EmptySpan, LinkBeyond, LinkNotUndone, PairNotUndone}
use Rattle.paper.specs.declared.refusal.Refusal.TheVariants.{PlacesDiffer, BadRow, RowsDiffer, NoPlan, PlanFull, AlreadyLinked, NoPairing, PairDisagrees}
use Rattle.paper.specs.declared.refusal.Refusal.TheVariants.{AlreadyFree, SpanOverlaps, RowFull, TooLarge, NothingLifted, TopDimension, RepliesFull}
use Rattle.theory.proofs.Bool.{or_off, on, eq-or, lt-or}
use Rattle.kernel.specs.Link.{alpha}
use Rattle.fault.specs.Fault.{count_in, fault_along, fault_of, LinksIn, CountsIn, Fits, LinksWithin, Tried}
use Rattle.fault.proofs.Any.{none_below}

pub row-counted : (ss : List ℤ) (d : ℕ) → has_bad_row ss d ≡ false → count_fits (count_in ss d) ≡ true
unfolding has_bad_row
row-counted ss d e = on (count_fits (count_in ss d)) (or_off (not (count_fits (count_in ss d))) _ e).0

module _ (ls : List ℕ) (ps ss : List ℤ) (m n : ℕ) where
  pub linked : (k : ℕ) → 7 ≤ k → Tried k ls ps ss m n → LinksIn ls m n
  unfolding fault_of fault_along
  linked k h t d l i g =
      leb-false n (alpha ls i d) (none_below (fault_along 6 ls ps ss m n d) (suc m) (t 6 (le_refl 6) (omega arith) d l) i (omega arith))

  pub is-linked : (k : ℕ) → 7 ≤ k → Fits ls ps ss m n → Tried k ls ps ss m n → LinksWithin ls m n
  is-linked k h f t = record { fit = f.links_fit; within = linked k h t }

  pub counted : (k : ℕ) → 11 ≤ k → Tried k ls ps ss m n → CountsIn ss n
  unfolding fault_of
  counted k h t d l = row-counted ss d (t 10 (omega arith) (omega arith) d l)

  -- the numbers of the others are 1 to 5, 10 and 12 to 23
  pub along-other : (r : Refusal) (d i : ℕ) → (r ≡ LinkBeyond → ⊥) → (r ≡ LinkNotUndone → ⊥) → (r ≡ PairNotUndone → ⊥) → (r ≡ PlacesDiffer → ⊥) → (r ≡ RowsDiffer → ⊥) → false ≡ fault_along (number r) ls ps ss m n d i
  unfolding fault_along
  along-other LinkBeyond d i a b e f g = absurd (a refl)
  along-other LinkNotUndone d i a b e f g = absurd (b refl)
  along-other PairNotUndone d i a b e f g = absurd (e refl)
  along-other PlacesDiffer d i a b e f g = absurd (f refl)
  along-other RowsDiffer d i a b e f g = absurd (g refl)
  along-other UnknownCommand d i a b e f g = refl
  along-other CutShort d i a b e f g = refl
  along-other OutOfRange d i a b e f g = refl
  along-other NoSuchDart d i a b e f g = refl
  along-other EmptySpan d i a b e f g = refl
  along-other BadRow d i a b e f g = refl
  along-other NoPlan d i a b e f g = refl
  along-other PlanFull d i a b e f g = refl
  along-other AlreadyLinked d i a b e f g = refl
  along-other NoPairing d i a b e f g = refl
  along-other PairDisagrees d i a b e f g = refl
  along-other AlreadyFree d i a b e f g = refl
  along-other SpanOverlaps d i a b e f g = refl
  along-other RowFull d i a b e f g = refl
  along-other TooLarge d i a b e f g = refl
  along-other NothingLifted d i a b e f g = refl
  along-other TopDimension d i a b e f g = refl
  along-other RepliesFull d i a b e f g = refl

  pub fault-any : (r : Refusal) (d : ℕ) → (r ≡ BadRow → ⊥) → any_below (suc m) (fault_along (number r) ls ps ss m n d) ≡ fault_of (number r) ls ps ss m n d
  unfolding fault_of
  fault-any BadRow d f = absurd (f refl)
  fault-any UnknownCommand d f = refl
  fault-any CutShort d f = refl
  fault-any OutOfRange d f = refl
  fault-any NoSuchDart d f = refl
  fault-any EmptySpan d f = refl
  fault-any LinkBeyond d f = refl
  fault-any LinkNotUndone d f = refl
  fault-any PairNotUndone d f = refl
  fault-any PlacesDiffer d f = refl
  fault-any RowsDiffer d f = refl
  fault-any NoPlan d f = refl
  fault-any PlanFull d f = refl
  fault-any AlreadyLinked d f = refl
  fault-any NoPairing d f = refl
  fault-any PairDisagrees d f = refl
  fault-any AlreadyFree d f = refl
  fault-any SpanOverlaps d f = refl
  fault-any RowFull d f = refl
  fault-any TooLarge d f = refl
  fault-any NothingLifted d f = refl
  fault-any TopDimension d f = refl
  fault-any RepliesFull d f = refl

  pub tried-none : Tried 6 ls ps ss m n
  tried-none j a b = absurd (omega arith)

  pub tried-more : (k : ℕ) → Tried k ls ps ss m n → ((d : ℕ) → d < n → fault_of k ls ps ss m n d ≡ false) → Tried (k + 1) ls ps ss m n
  tried-more k t f j a b d h =
      ⊎_elim (λ e. subst (λ (x : ℕ). fault_of x ls ps ss m n d ≡ false) (sym e) (f d h)) (λ e. t j a (ne-lt j k e b) d h) (eq-or j k)
    where
      ne-lt : (a b : ℕ) → (a ≡ b → ⊥) → (a < b + 1 → a < b)
      ne-lt a b e l = ⊎_elim (λ h. h) (λ h. absurd (omega arith)) (lt-or a b e)
